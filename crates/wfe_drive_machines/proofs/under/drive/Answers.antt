-- The call is the machine's at its first step.
use Rattle.std.proofs.Common.{ap, sym, ◌∙◌}
use Rattle.wfe_core.specs.Calls.{Phase}
use Rattle.wfe_core.specs.Locals.{busy_in}
use Rattle.wfe_drive_words.specs.Called.{at_phase}
use Rattle.wfe_drive_words.proofs.Leading.{closes_from, here_as}
use Rattle.wfe_drive_machines.proofs.Starting.{first_busy}
use Rattle.wfe_drive_machines.proofs.under.drive.Goals as goal

pub drive_on-requires-clause-busy : goal.drive_on-requires-clause-busy
drive_on-requires-clause-busy g c = ap busy_in c.requires.first ∙ first_busy c.args._call c.args.post.now

pub drive_on-requires-clause-here : goal.drive_on-requires-clause-here
drive_on-requires-clause-here g c = here_as _ _ (ap (λ (phase : Phase). at_phase phase c.args.post.now c.args.desk.now) (sym c.requires.first)) c.requires.here

pub returns-clause-made : goal.returns-clause-made
returns-clause-made g c = closes_from _ _ (ap (λ (phase : Phase). at_phase phase c.args.post.now c.args.desk.now) c.requires.first) c.drive_on.ensures.made
