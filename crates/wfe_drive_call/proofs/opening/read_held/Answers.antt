-- What was read of another row is forgotten, and this one is read.
use Rattle.std.proofs.Common.{ap, arith, sym}
use Rattle.wfe_core.specs.Calls.{ChangeKept, LoadVersion}
use Rattle.wfe_core.specs.DeskHeld.{desk_of}
use Rattle.wfe_drive_runs.proofs.drive_words.Leading.{here_as, leads_from}
use Rattle.wfe_drive_call.specs.Changing.{works_at}
use Rattle.wfe_drive_call.proofs.Standing.{ready_here}
use Rattle.wfe_drive_call.proofs.opening.read_held.Goals as goal

pub overflow_add-slot : goal.overflow_add-slot
overflow_add-slot g c =
    let may = ready_here (g.W.Words.comes c.args.words.now) c.requires.valid c.requires.here in
    omega (arith, may.valid.bounds.slots)

pub read_row-steps-requires-clause-own : goal.read_row-steps-requires-clause-own
read_row-steps-requires-clause-own g c = (ready_here (g.W.Words.comes c.args.words.now) c.requires.valid c.requires.here).valid

pub read_row-steps-requires-clause-none : goal.read_row-steps-requires-clause-none
read_row-steps-requires-clause-none g c = ap (λ (kept : ChangeKept). kept.pairs) c.protected.ensures

pub read_row-steps-requires-clause-here : goal.read_row-steps-requires-clause-here
read_row-steps-requires-clause-here g c =
    here_as _ _ (ap (λ (kept : ChangeKept). works_at kept (LoadVersion c.args.slot) c.args.post.now (desk_of c.args._desk.now)) (sym c.protected.ensures)) c.requires.here

pub returns-clause-leads : goal.returns-clause-leads
returns-clause-leads g c =
    leads_from _ _ (ap (λ (kept : ChangeKept). works_at kept (LoadVersion c.args.slot) c.args.post.now (desk_of c.args._desk.now)) c.protected.ensures) c.read_row-steps.ensures.leads
