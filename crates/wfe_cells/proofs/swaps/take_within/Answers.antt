-- The bucket that was kept is queued, and the cell's comes to the thread.
use Rattle.std.proofs.Common.{Err, None, Ok, [], refl}
use Rattle.wfe_cells.proofs.Among.{later_grows, later_on, later_self}
use Rattle.wfe_cells.proofs.Kept.{keeps_came, keeps_kept, keeps_quiet, keeps_since}
use Rattle.wfe_cells.proofs.Only.{take_empties, take_looks, take_queues}
use Rattle.wfe_cells.proofs.Refusals.{none_given, not_queued_since, refused_stale, refused_user}
use Rattle.wfe_cells.proofs.Words.{cell_stays}
use Rattle.wfe_cells.specs.Reasons.{KeepsBlocks}
use Rattle.wfe_cells.specs.declared.wide.Seen.{Seen}
use Rattle.wfe_cells.specs.declared.wide.SwapRefusal.TheVariants as refusals
use Rattle.wfe_cells.specs.declared.wide.WideUser.{WideUser}
use Rattle.wfe_table.specs.history.History.{record_of}
use Rattle.wfe_cells.proofs.swaps.take_within.Goals as goal

pub returns-in-Err-clause-later : goal.returns-in-Err-clause-later
returns-in-Err-clause-later c = c.current.ensures.quiet.later

pub returns-in-Err-clause-only : goal.returns-in-Err-clause-only
returns-in-Err-clause-only c =
    take_looks c.args.seen c.args.user.now.spare (Err c.in-Err.refusal) c.args.user.now.seat c.current.new.seat c.current.ensures.only

pub returns-in-Err-clause-kept : goal.returns-in-Err-clause-kept
returns-in-Err-clause-kept c =
    let user : WideUser = record { seat = c.current.new.seat; spare = c.args.user.now.spare } in
    keeps_quiet c.args.shared.now.layout.config.buckets c.args.user.now user c.current.ensures.quiet refl

pub returns-in-Err-clause-refused : goal.returns-in-Err-clause-refused
returns-in-Err-clause-refused c =
    let user : WideUser = record { seat = c.current.new.seat; spare = c.args.user.now.spare } in
    refused_user c.args.shared.now.layout c.args.user.now user c.args.user.now.seat c.current.new.seat c.args.seen [] c.in-Err.refusal (later_self c.args.user.now.seat)
    (refused_stale c.args.shared.now.layout c.args.user.now.seat c.current.new.seat c.args.seen c.args.user.now.spare [] c.in-Err.refusal c.in-Err.ensures.refused) (later_self c.current.new.seat)

pub returns-in-Err-give_back-clause-later : goal.returns-in-Err-give_back-clause-later
returns-in-Err-give_back-clause-later c = later_on c.args.user.now.seat c.current.new.seat c.give_back.new.user.seat c.current.ensures.quiet.later c.give_back.ensures.later

pub returns-in-Err-give_back-clause-only : goal.returns-in-Err-give_back-clause-only
returns-in-Err-give_back-clause-only c =
    take_queues c.args.seen c.args.user.now.spare (Err (refusals.NotQueued c.in-Err-give_back.refusal)) c.args.user.now.seat c.current.new.seat c.give_back.new.user.seat c.current.ensures.only c.give_back.ensures.only

pub returns-in-Err-give_back-clause-kept : goal.returns-in-Err-give_back-clause-kept
returns-in-Err-give_back-clause-kept c =
    let mid : WideUser = record { seat = c.current.new.seat; spare = c.args.user.now.spare } in
    keeps_since c.args.shared.now.layout.config.buckets c.args.user.now mid c.give_back.new.user None None c.current.ensures.quiet refl c.give_back.ensures.kept

pub returns-in-Err-give_back-clause-refused : goal.returns-in-Err-give_back-clause-refused
returns-in-Err-give_back-clause-refused c =
    let mid : WideUser = record { seat = c.current.new.seat; spare = c.args.user.now.spare } in
    (refl, not_queued_since c.args.shared.now.layout c.args.user.now mid c.give_back.new.user c.in-Err-give_back.refusal refl c.current.ensures.quiet.later c.in-Err-give_back.ensures.refused)

pub returns-in-Ok-exchange-clause-later : goal.returns-in-Ok-exchange-clause-later
returns-in-Ok-exchange-clause-later c =
    later_on c.args.user.now.seat c.current.new.seat c.exchange.new.seat c.current.ensures.quiet.later (later_on c.current.new.seat c.give_back.new.user.seat c.exchange.new.seat c.give_back.ensures.later c.exchange.ensures.quiet.later)

pub returns-in-Ok-exchange-clause-only : goal.returns-in-Ok-exchange-clause-only
returns-in-Ok-exchange-clause-only c =
    take_empties c.args.seen c.args.user.now.spare (Ok c.in-Ok-exchange.now) c.args.user.now.seat c.current.new.seat c.give_back.new.user.seat c.exchange.new.seat c.current.ensures.only c.give_back.ensures.only c.in-Ok-exchange.ensures.only

pub returns-in-Ok-exchange-clause-kept : goal.returns-in-Ok-exchange-clause-kept
returns-in-Ok-exchange-clause-kept c =
    let layout = c.args.shared.now.layout in
    let n = layout.config.buckets in
    let mid : WideUser = record { seat = c.current.new.seat; spare = c.args.user.now.spare } in
    let last : WideUser = record { seat = c.exchange.new.seat; spare = c.block_in-user.result } in
    let now = c.in-Ok-exchange.now in
    let seen : Seen = record { cell = c.args.seen.cell; version = c.args.seen.version; object = c.in-Ok.object } in
    let had : KeepsBlocks n c.args.user.now c.give_back.new.user None None = keeps_since n c.args.user.now mid c.give_back.new.user None None c.current.ensures.quiet refl c.give_back.ensures.kept in
    let since = later_on c.current.new.seat c.give_back.new.user.seat c.exchange.new.seat c.give_back.ensures.later c.exchange.ensures.quiet.later in
    record {
      replaced = c.in-Ok.object;
      named = cell_stays (record_of layout c.current.new.seat.track.past) (record_of layout c.exchange.new.seat.track.past) c.args.seen.cell seen (later_grows layout c.current.new.seat c.exchange.new.seat since) c.in-Ok.ensures.named;
      kept = keeps_came n c.args.user.now c.give_back.new.user last c.in-Ok.object now.object had c.in-Ok-give_back.ensures.spare c.exchange.ensures.quiet c.block_in-user.ensures c.in-Ok-exchange.ensures.next.object_is;
    }

pub returns-in-Err-exchange-clause-later : goal.returns-in-Err-exchange-clause-later
returns-in-Err-exchange-clause-later c =
    later_on c.args.user.now.seat c.current.new.seat c.exchange.new.seat c.current.ensures.quiet.later (later_on c.current.new.seat c.give_back.new.user.seat c.exchange.new.seat c.give_back.ensures.later c.exchange.ensures.quiet.later)

pub returns-in-Err-exchange-clause-only : goal.returns-in-Err-exchange-clause-only
returns-in-Err-exchange-clause-only c =
    take_empties c.args.seen c.args.user.now.spare (Err c.in-Err-exchange.refusal) c.args.user.now.seat c.current.new.seat c.give_back.new.user.seat c.exchange.new.seat c.current.ensures.only c.give_back.ensures.only c.in-Err-exchange.ensures.only

pub returns-in-Err-exchange-clause-kept : goal.returns-in-Err-exchange-clause-kept
returns-in-Err-exchange-clause-kept c =
    let n = c.args.shared.now.layout.config.buckets in
    let mid : WideUser = record { seat = c.current.new.seat; spare = c.args.user.now.spare } in
    let last : WideUser = record { seat = c.exchange.new.seat; spare = c.give_back.new.user.spare } in
    let had : KeepsBlocks n c.args.user.now c.give_back.new.user None None = keeps_since n c.args.user.now mid c.give_back.new.user None None c.current.ensures.quiet refl c.give_back.ensures.kept in
    keeps_kept n c.args.user.now c.give_back.new.user last had c.exchange.ensures.quiet refl

pub returns-in-Err-exchange-clause-refused : goal.returns-in-Err-exchange-clause-refused
returns-in-Err-exchange-clause-refused c =
    let layout = c.args.shared.now.layout in
    let old = c.args.user.now in
    let last : WideUser = record { seat = c.exchange.new.seat; spare = c.give_back.new.user.spare } in
    let since = later_on old.seat c.current.new.seat c.give_back.new.user.seat c.current.ensures.quiet.later c.give_back.ensures.later in
    refused_user layout old last old.seat c.exchange.new.seat c.args.seen [] c.in-Err-exchange.refusal (later_self old.seat)
    (none_given layout old.seat c.give_back.new.user.seat c.exchange.new.seat c.args.seen last.spare c.in-Err-exchange.refusal since c.in-Err-exchange.ensures.refused) (later_self c.exchange.new.seat)
