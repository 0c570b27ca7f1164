-- The call is the machine's at its first step.
use Rattle.std.proofs.Common.{ap, sym, ◌∙◌}
use Rattle.wfe_core.specs.Calls.{Phase}
use Rattle.wfe_core.specs.Locals.{busy_in}
use Rattle.wfe_core.specs.Steps.{first_phase}
use Rattle.wfe_core.specs.defs.declared.call.Call.{Call}
use Rattle.wfe_core.specs.defs.declared.call.Call.TheVariants.{Get}
use Rattle.wfe_drive_words.specs.Called.{at_phase}
use Rattle.wfe_drive_words.proofs.Leading.{closes_from, here_as}
use Rattle.wfe_drive_machines.proofs.Starting.{first_busy}
use Rattle.wfe_drive_machines.proofs.gets.get_kept.Goals as goal

pub drive_apart-requires-clause-busy : goal.drive_apart-requires-clause-busy
drive_apart-requires-clause-busy g c = ap busy_in (c.new.ensures c.args.post.now) ∙ first_busy (Get c.args.key) c.args.post.now

pub drive_apart-requires-clause-here : goal.drive_apart-requires-clause-here
drive_apart-requires-clause-here g c = here_as _ _ (ap (λ (phase : Phase). at_phase phase c.args.post.now c.args.desk.now) (ap (λ (call : Call). first_phase call c.args.post.now) c.requires.get ∙ sym (c.new.ensures c.args.post.now))) c.requires.here

pub returns-clause-made : goal.returns-clause-made
returns-clause-made g c = closes_from _ _ (ap (λ (phase : Phase). at_phase phase c.args.post.now c.args.desk.now) (c.new.ensures c.args.post.now ∙ ap (λ (call : Call). first_phase call c.args.post.now) (sym c.requires.get))) c.drive_apart.ensures.made
