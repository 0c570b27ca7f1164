use Rattle.std.proofs.Common.{◌≡◌, ◌∙◌, ap, refl}
use Rattle.laws.specs.defs.declared.event.Event.TheVariants as events
use Rattle.laws.specs.defs.declared.event.Guard.TheVariants.{Index}
use Rattle.wfe_check_calls.proofs.Right.{hazard_is}
use Rattle.wfe_check_calls.proofs.step_count.Steps.hazards_fit.Goals as goal

pub returns-in-Held : goal.returns-in-Held
returns-in-Held c config p is = c.hazards_fit.ensures ∙ rw (c.in-Held.is, c.word.ensures config p is) refl

pub returns-in-Null : goal.returns-in-Null
returns-in-Null c config p is = c.hazards_fit-in-Null.ensures ∙ rw (c.in-Null.is, c.word-in-Null.ensures config p is) refl

pub returns-in-Hazard-Index-default : goal.returns-in-Hazard-Index-default
returns-in-Hazard-Index-default c config p is =
    let arm = c.in-Hazard-Index-default in
    let guard : arm.guard ≡ Index arm.seat arm.index = rw arm.is at arm.guard-is in
    let event : c.args.event.now ≡ events.Hazard (Index arm.seat arm.index) arm.slot = arm.is ∙ ap (λ g. events.Hazard g arm.slot) guard in
    c.hazards_fit-in-Hazard-Index-default.ensures ∙ rw (event, c.word-in-Hazard-Index-default.ensures config p is) (hazard_is p c.args.seat arm.seat arm.index arm.slot)
