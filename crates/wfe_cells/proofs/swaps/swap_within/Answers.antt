-- The cell's bucket comes to the thread, and the thread's goes to the cell.
use Rattle.std.proofs.Common.{Err, None, Ok, Some, refl}
use Rattle.wfe_cells.proofs.Among.{later_grows, later_on, later_self}
use Rattle.wfe_cells.proofs.Kept.{keeps_back, keeps_on, keeps_quiet, keeps_since}
use Rattle.wfe_cells.proofs.Only.{swap_places, swap_reads, swap_takes}
use Rattle.wfe_cells.proofs.Refusals.{has_no_block, refused_stale, refused_user, some_words}
use Rattle.wfe_cells.proofs.Words.{cell_stays}
use Rattle.wfe_cells.specs.Reasons.{KeepsBlocks}
use Rattle.wfe_cells.specs.declared.wide.Seen.{Seen}
use Rattle.wfe_cells.specs.declared.wide.SwapRefusal.TheVariants as refusals
use Rattle.wfe_cells.specs.declared.wide.WideUser.{WideUser}
use Rattle.wfe_table.specs.history.History.{record_of}
use Rattle.wfe_cells.proofs.swaps.swap_within.Goals as goal

pub returns-in-Err-clause-later : goal.returns-in-Err-clause-later
returns-in-Err-clause-later c = c.current.ensures.quiet.later

pub returns-in-Err-clause-only : goal.returns-in-Err-clause-only
returns-in-Err-clause-only c =
    let had = c.args.user.now.spare in
    swap_reads c.args.shared.now.layout.config.buckets c.args.seen had had (Err c.in-Err.refusal) c.args.user.now.seat c.current.new.seat c.current.ensures.only

pub returns-in-Err-clause-kept : goal.returns-in-Err-clause-kept
returns-in-Err-clause-kept c =
    let user : WideUser = record { seat = c.current.new.seat; spare = c.args.user.now.spare } in
    keeps_quiet c.args.shared.now.layout.config.buckets c.args.user.now user c.current.ensures.quiet refl

pub returns-in-Err-clause-refused : goal.returns-in-Err-clause-refused
returns-in-Err-clause-refused c =
    let user : WideUser = record { seat = c.current.new.seat; spare = c.args.user.now.spare } in
    refused_user c.args.shared.now.layout c.args.user.now user c.args.user.now.seat c.current.new.seat c.args.seen c.args.words.now c.in-Err.refusal (later_self c.args.user.now.seat)
    (refused_stale c.args.shared.now.layout c.args.user.now.seat c.current.new.seat c.args.seen c.args.user.now.spare c.args.words.now c.in-Err.refusal c.in-Err.ensures.refused) (later_self c.current.new.seat)

pub returns-in_default-clause-later : goal.returns-in_default-clause-later
returns-in_default-clause-later c = later_on c.args.user.now.seat c.current.new.seat c.take_block.new.user.seat c.current.ensures.quiet.later c.take_block.ensures.later

pub returns-in_default-clause-only : goal.returns-in_default-clause-only
returns-in_default-clause-only c =
    let last = c.take_block.new.user in
    swap_takes c.args.shared.now.layout.config.buckets c.args.seen c.args.user.now.spare last.spare (Err refusals.NoBlock) c.args.user.now.seat c.current.new.seat last.seat c.current.ensures.only c.take_block.ensures.only

pub returns-in_default-clause-kept : goal.returns-in_default-clause-kept
returns-in_default-clause-kept c =
    let mid : WideUser = record { seat = c.current.new.seat; spare = c.args.user.now.spare } in
    keeps_since c.args.shared.now.layout.config.buckets c.args.user.now mid c.take_block.new.user None None c.current.ensures.quiet refl c.in_default.ensures.kept

pub returns-in_default-clause-refused : goal.returns-in_default-clause-refused
returns-in_default-clause-refused c =
    let mid : WideUser = record { seat = c.current.new.seat; spare = c.args.user.now.spare } in
    (some_words c.args.words.now c.requires.some, has_no_block c.args.shared.now.layout c.args.user.now mid c.take_block.new.user refl c.current.ensures.quiet.later c.in_default.ensures.none)

pub returns-in-Ok-place-clause-later : goal.returns-in-Ok-place-clause-later
returns-in-Ok-place-clause-later c =
    later_on c.args.user.now.seat c.current.new.seat c.place.new.seat c.current.ensures.quiet.later (later_on c.current.new.seat c.take_block.new.user.seat c.place.new.seat c.take_block.ensures.later c.place.ensures.quiet.later)

pub returns-in-Ok-place-clause-only : goal.returns-in-Ok-place-clause-only
returns-in-Ok-place-clause-only c =
    swap_places c.args.shared.now.layout.config.buckets c.in-Some.block c.args.seen c.args.user.now.spare c.block_in-user.result (Ok c.in-Ok-place.now) c.args.user.now.seat c.current.new.seat c.take_block.new.user.seat c.place.new.seat c.in-Ok-place.ensures.placed.block_is c.current.ensures.only
    c.take_block.ensures.only c.in-Ok-place.ensures.only

pub returns-in-Ok-place-clause-kept : goal.returns-in-Ok-place-clause-kept
returns-in-Ok-place-clause-kept c =
    let layout = c.args.shared.now.layout in
    let n = layout.config.buckets in
    let mid : WideUser = record { seat = c.current.new.seat; spare = c.args.user.now.spare } in
    let last : WideUser = record { seat = c.place.new.seat; spare = c.block_in-user.result } in
    let now = c.in-Ok-place.now in
    let placed = c.in-Ok-place.ensures.placed in
    let seen : Seen = record { cell = c.args.seen.cell; version = c.args.seen.version; object = c.in-Ok.object } in
    let had : KeepsBlocks n c.args.user.now c.take_block.new.user None (Some c.in-Some.block) = keeps_since n c.args.user.now mid c.take_block.new.user None (Some c.in-Some.block) c.current.ensures.quiet refl c.in-Some.ensures.kept in
    let since = later_on c.current.new.seat c.take_block.new.user.seat c.place.new.seat c.take_block.ensures.later c.place.ensures.quiet.later in
    record {
      replaced = c.in-Ok.object;
      named = cell_stays (record_of layout c.current.new.seat.track.past) (record_of layout c.place.new.seat.track.past) c.args.seen.cell seen (later_grows layout c.current.new.seat c.place.new.seat since) c.in-Ok.ensures.named;
      kept = keeps_on n c.args.user.now c.take_block.new.user last c.in-Some.block c.in-Ok.object now.object c.block_in-user.result had c.take_block.ensures.spare c.place.ensures.quiet refl c.block_in-user.ensures placed.some placed.block_is;
    }

pub returns-in-Err-place-clause-later : goal.returns-in-Err-place-clause-later
returns-in-Err-place-clause-later c =
    later_on c.args.user.now.seat c.current.new.seat c.place.new.seat c.current.ensures.quiet.later (later_on c.current.new.seat c.take_block.new.user.seat c.place.new.seat c.take_block.ensures.later c.place.ensures.quiet.later)

pub returns-in-Err-place-clause-only : goal.returns-in-Err-place-clause-only
returns-in-Err-place-clause-only c =
    let block = c.in-Some.block in
    swap_places c.args.shared.now.layout.config.buckets block c.args.seen c.args.user.now.spare (Some block) (Err c.in-Err-place.refusal) c.args.user.now.seat c.current.new.seat c.take_block.new.user.seat c.place.new.seat refl c.current.ensures.only c.take_block.ensures.only c.in-Err-place.ensures.only

pub returns-in-Err-place-clause-kept : goal.returns-in-Err-place-clause-kept
returns-in-Err-place-clause-kept c =
    let n = c.args.shared.now.layout.config.buckets in
    let mid : WideUser = record { seat = c.current.new.seat; spare = c.args.user.now.spare } in
    let last : WideUser = record { seat = c.place.new.seat; spare = Some c.in-Some.block } in
    let had : KeepsBlocks n c.args.user.now c.take_block.new.user None (Some c.in-Some.block) = keeps_since n c.args.user.now mid c.take_block.new.user None (Some c.in-Some.block) c.current.ensures.quiet refl c.in-Some.ensures.kept in
    keeps_back n c.args.user.now c.take_block.new.user last c.in-Some.block had c.take_block.ensures.spare c.place.ensures.quiet refl

pub returns-in-Err-place-clause-refused : goal.returns-in-Err-place-clause-refused
returns-in-Err-place-clause-refused c =
    let last : WideUser = record { seat = c.place.new.seat; spare = Some c.in-Some.block } in
    refused_user c.args.shared.now.layout c.args.user.now last c.take_block.new.user.seat c.place.new.seat c.args.seen c.args.words.now c.in-Err-place.refusal
    (later_on c.args.user.now.seat c.current.new.seat c.take_block.new.user.seat c.current.ensures.quiet.later c.take_block.ensures.later) c.in-Err-place.ensures.refused (later_self c.place.new.seat)
