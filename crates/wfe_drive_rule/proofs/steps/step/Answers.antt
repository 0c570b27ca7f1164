-- The handle stands after the step as the rule says, and its slot is empty.
use Rattle.std.proofs.Common.{ap, false, refl, subst, sym, [], ◌∙◌, ◌∷◌, ◌≡◌}
use Rattle.std.specs.Prelude.{None, Option}
use Rattle.wfe_core.specs.defs.declared.call.Call.{Call}
use Rattle.atomic_table.specs.Table.{rest}
use Rattle.wfe_core.specs.Locals.{after as after_step}
use Rattle.wfe_drive_cells.specs.Unit.{may_adopt}
use Rattle.wfe_drive_rule.specs.Handles.{IsSeated}
use Rattle.wfe_drive_rule.specs.Moves.{keeping}
use Rattle.wfe_drive_rule.specs.Spots.{slot_at}
use Rattle.wfe_drive_rule.specs.Views.{call_in, slot_of, standing}
use Rattle.wfe_drive_rule.proofs.Seated.{first_slot, put_slot, seated_on, stands_on}
use Rattle.wfe_drive_rule.proofs.steps.step.Goals as goal

pub empty-requires-clause-ids : goal.empty-requires-clause-ids
empty-requires-clause-ids c = c.perform-found.ensures.ids.0 ∙ c.requires.ids

pub empty-requires-clause-there : goal.empty-requires-clause-there
empty-requires-clause-there c = first_slot c.perform-found.new.handle.me.1 (slot_at c.args.seat) _ _ (c.perform-found.ensures.slots ∙ c.requires.seated.slots)

pub returns-then-first-clause-seated : goal.returns-then-first-clause-seated
returns-then-first-clause-seated c =
    let after = c.perform-found.new.handle.me in
    subst (IsSeated c.args.table.now.key c.args.seat) (sym c.empty.ensures.me)
    (seated_on c.args.table.now.key c.args.seat c.perform-found.result c.args.handle.now.me (after.0, (slot_at c.args.seat, None) ∷ rest after.1) c.requires.seated c.requires.busy c.perform-found.ensures.told
    (put_slot after.1 (slot_at c.args.seat) _ None _ (c.perform-found.ensures.slots ∙ c.requires.seated.slots)))

pub returns-else-first-clause-seated : goal.returns-else-first-clause-seated
returns-else-first-clause-seated c =
    let slots = c.perform-found.ensures.slots ∙ c.requires.seated.slots ∙ ap (λ (call : Option Call). (slot_at c.args.seat, slot_of call) ∷ []) (c.requires.later c.if-first.false) in
    seated_on c.args.table.now.key c.args.seat c.perform-found.result c.args.handle.now.me c.perform-found.new.handle.me c.requires.seated c.requires.busy c.perform-found.ensures.told slots

pub returns-then-first-clause-stands : goal.returns-then-first-clause-stands
returns-then-first-clause-stands c =
    let before = c.args.handle.now.me in
    let after = c.perform-found.new.handle.me in
    subst (λ me. may_adopt (standing before).phase ≡ false → standing me ≡ after_step (keeping (standing before)) c.perform-found.result) (sym c.empty.ensures.me)
    (stands_on c.args.table.now.key before (after.0, (slot_at c.args.seat, None) ∷ rest after.1) c.perform-found.result c.perform-found.ensures.told refl)

pub returns-else-first-clause-stands : goal.returns-else-first-clause-stands
returns-else-first-clause-stands c =
    stands_on c.args.table.now.key c.args.handle.now.me c.perform-found.new.handle.me c.perform-found.result c.perform-found.ensures.told (ap call_in c.perform-found.ensures.slots ∙ c.requires.later c.if-first.false)
