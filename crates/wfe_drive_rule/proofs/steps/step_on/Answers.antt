-- The handle stands after the step as the rule says, and its slot is empty as before.
use Rattle.std.proofs.Common.{ap, [], ◌∙◌, ◌∷◌}
use Rattle.std.specs.Prelude.{Option}
use Rattle.wfe_core.specs.defs.declared.call.Call.{Call}
use Rattle.wfe_drive_rule.specs.Spots.{slot_at}
use Rattle.wfe_drive_rule.specs.Views.{call_in, slot_of}
use Rattle.wfe_drive_rule.proofs.Seated.{seated_on, stands_on}
use Rattle.wfe_drive_rule.proofs.steps.step_on.Goals as goal

pub returns-clause-seated : goal.returns-clause-seated
returns-clause-seated c =
    let slots = c.perform.ensures.slots ∙ c.requires.seated.slots ∙ ap (λ (call : Option Call). (slot_at c.args._seat, slot_of call) ∷ []) c.requires.later in
    seated_on c.args.table.now.key c.args._seat c.perform.result c.args.handle.now.me c.perform.new.handle.me c.requires.seated c.requires.busy c.perform.ensures.told slots

pub returns-clause-stands : goal.returns-clause-stands
returns-clause-stands c =
    stands_on c.args.table.now.key c.args.handle.now.me c.perform.new.handle.me c.perform.result c.perform.ensures.told (ap call_in c.perform.ensures.slots ∙ c.requires.later)
