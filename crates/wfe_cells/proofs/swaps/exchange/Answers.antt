-- The cell names the object at the version that was made.
use Rattle.std.proofs.Common.{Err, Ok, refl}
use Rattle.wfe_core.specs.defs.declared.call.Answer.TheVariants as answers
use Rattle.wfe_table.specs.Calls.{put_if_answer}
use Rattle.wfe_cells.proofs.Among.{quiet_put}
use Rattle.wfe_cells.proofs.Only.{only_put}
use Rattle.wfe_cells.proofs.Refusals.{stale_put}
use Rattle.wfe_cells.proofs.Words.{done_next}
use Rattle.wfe_cells.specs.declared.wide.Seen.{Seen}
use Rattle.wfe_cells.specs.declared.wide.SwapRefusal.TheVariants as refusals
use Rattle.wfe_cells.proofs.swaps.exchange.Goals as goal

pub returns-in-Ok-clause-quiet : goal.returns-in-Ok-clause-quiet
returns-in-Ok-clause-quiet c =
    let done = c.in-Ok.done in
    quiet_put c.args.shared.now.layout c.args.seat.now c.put_if.new.seat c.args.seen.cell c.args.object c.args.seen.version (answers.Done done.version done.clock) c.in-Ok.ensures.made

pub returns-in-Ok-clause-only : goal.returns-in-Ok-clause-only
returns-in-Ok-clause-only c =
    let done = c.in-Ok.done in
    let now : Seen = record { cell = c.args.seen.cell; version = done.version; object = c.args.object } in
    only_put c.args.shared.now.layout c.args.seat.now c.put_if.new.seat c.args.seen c.args.object (answers.Done done.version done.clock) (Ok now) c.in-Ok.ensures.made (refl, (done.clock, refl))

pub returns-in-Ok-clause-next : goal.returns-in-Ok-clause-next
returns-in-Ok-clause-next c =
    let done = c.in-Ok.done in
    done_next c.args.shared.now.layout c.args.seat.now c.put_if.new.seat c.args.seen done.version c.args.object done.clock c.requires.cell c.in-Ok.ensures.made

pub returns-in-Err-Stale-clause-quiet : goal.returns-in-Err-Stale-clause-quiet
returns-in-Err-Stale-clause-quiet c =
    quiet_put c.args.shared.now.layout c.args.seat.now c.put_if.new.seat c.args.seen.cell c.args.object c.args.seen.version (put_if_answer c.in-Err-Stale.field-0) c.in-Err-Stale.ensures.made

pub returns-in-Err-Stale-clause-only : goal.returns-in-Err-Stale-clause-only
returns-in-Err-Stale-clause-only c =
    let refusal = c.in-Err-Stale.field-0 in
    rw c.in-Err-Stale.field-0-is
    (only_put c.args.shared.now.layout c.args.seat.now c.put_if.new.seat c.args.seen c.args.object (put_if_answer refusal) (Err (refusals.Stale c.in-Err-Stale.version)) c.in-Err-Stale.ensures.made (refusal, refl))

pub returns-in-Err-Stale-clause-refused : goal.returns-in-Err-Stale-clause-refused
returns-in-Err-Stale-clause-refused c =
    rw c.in-Err-Stale.field-0-is
    (stale_put c.args.shared.now.layout c.args.seat.now c.put_if.new.seat c.args.seen.cell c.args.object c.args.seen.version c.in-Err-Stale.version c.in-Err-Stale.field-0 c.requires.cell c.in-Err-Stale.field-0-is c.in-Err-Stale.ensures.made)

pub returns-in-Err-clause-quiet : goal.returns-in-Err-clause-quiet
returns-in-Err-clause-quiet c =
    quiet_put c.args.shared.now.layout c.args.seat.now c.put_if.new.seat c.args.seen.cell c.args.object c.args.seen.version (put_if_answer c.in-Err.refusal) c.in-Err.ensures.made

pub returns-in-Err-clause-only : goal.returns-in-Err-clause-only
returns-in-Err-clause-only c =
    let refusal = c.in-Err.refusal in
    only_put c.args.shared.now.layout c.args.seat.now c.put_if.new.seat c.args.seen c.args.object (put_if_answer refusal) (Err (refusals.Refused refusal)) c.in-Err.ensures.made (refusal, refl)

pub returns-in-Err-clause-refused : goal.returns-in-Err-clause-refused
returns-in-Err-clause-refused c = c.in-Err.ensures.made
