use Rattle.std.proofs.Common.{◌≡◌, ◌∙◌, Some, ap}
use Rattle.laws.specs.defs.declared.event.Event.TheVariants as events
use Rattle.laws.specs.defs.declared.event.Guard.TheVariants.{Helper}
use Rattle.wfe_check_calls.proofs.Right.{ask_gives}
use Rattle.wfe_check_calls.proofs.step_count.Steps.asks_fit.Goals as goal

pub returns-else-other-seat-clause-complete : goal.returns-else-other-seat-clause-complete
returns-else-other-seat-clause-complete c config p s all =
    let arm = c.in-Reserve-Helper-Some in
    let guard : arm.guard ≡ Helper arm.other = rw arm.is at arm.guard-is in
    let span : arm.span ≡ Some arm.span-0 = rw arm.is at arm.span-is in
    let event : c.args.event.now ≡ events.Reserve (Helper arm.other) (Some arm.span-0) =
    arm.is ∙ ap (λ g. events.Reserve g arm.span) guard ∙ ap (λ x. events.Reserve (Helper arm.other) x) span in
    c.all_tried.ensures.complete config p s
    (λ j. ask_gives config.tries j p c.args.seat arm.other arm.span-0 c.args.event.now event c.if-other-seat.false (all j))
