use Rattle.std.proofs.Common.{◌≡◌, refl, ap, ◌∙◌}
use Rattle.wfe_core.specs.defs.declared.event.Root.TheVariants.{Head}
use Rattle.wfe_core.specs.Calls.{ClearsNext, Dequeues, FollowsHead, Opens, Phase, Runs}
use Rattle.wfe_core.specs.DeskHeld.{desk_of}
use Rattle.wfe_core.specs.Phases.Ending.{Followed}
use Rattle.wfe_core.specs.Rounds.{round}
use Rattle.wfe_core.specs.Steps.{phase_turn}
use Rattle.wfe_call_rounds.specs.iface.Follows.{at_phase}
use Rattle.wfe_call_rounds.specs.Endings.{next_of}
use Rattle.wfe_call_rounds.specs.Rounds.{opening_base}
use Rattle.wfe_call_rounds.proofs.Leaves.{leave_plausible, leave_ready}
use Rattle.wfe_call_rounds.proofs.Ran.{machine_came, open_came}
use Rattle.wfe_call_rounds.proofs.Taken.{starts_at}
use Rattle.wfe_msqueue.proofs.dequeue.Dequeue.run.Goals as goal

pub returns-in-Starts-clause-turn : goal.returns-in-Starts-clause-turn
returns-in-Starts-clause-turn g c =
    let post = c.args.post.now in
    let last = c.take_open-end.new.post in
    let told = c.take_open-end.new.told in
    let desk = desk_of c.args.desk.now in
    let base = opening_base g.S.Begin.Machine.phase g.S.Protect.Machine.phase c.open-opening.result in
    let next = opening_base g.S.Begin.Machine.phase g.S.Protect.Machine.phase c.take_open-end.new.opening in
    let stands : round Dequeues post ≡ Runs (Opens Dequeues) base =
    starts_at Dequeues g.S.Scheme.kind post Head base c.requires.scheme refl c.open-opening.ensures
    in
    rw (c.in-Starts.is, c.stand.ensures.at) (
    ap (λ (phase : Phase). phase_turn phase post desk c.args.found) stands
    ∙ (
    open_came Dequeues g.S.Scheme.kind 0 Head base next post last desk told c.args.found c.take_open-end.result refl refl c.requires.scheme c.take_open-end.ensures.post c.take_open-end.ensures.told c.take_open-end.ensures.next
    ∙ c.reached.ensures.turn next last desk told
    )
    )

pub returns-in-Opens-clause-turn : goal.returns-in-Opens-clause-turn
returns-in-Opens-clause-turn g c =
    let last = c.take_open.new.post in
    let told = c.take_open.new.told in
    let desk = desk_of c.args.desk.now in
    let base = opening_base g.S.Begin.Machine.phase g.S.Protect.Machine.phase c.in-Opens.opening in
    let next = opening_base g.S.Begin.Machine.phase g.S.Protect.Machine.phase c.take_open.new.opening in
    rw c.in-Opens.is (
    open_came Dequeues g.S.Scheme.kind 0 Head base next c.args.post.now last desk told c.args.found c.take_open.result refl refl c.requires.scheme c.take_open.ensures.post c.take_open.ensures.told c.take_open.ensures.next
    ∙ c.reached-in-Opens.ensures.turn next last desk told
    )

pub returns-in-Works-clause-turn : goal.returns-in-Works-clause-turn
returns-in-Works-clause-turn g c = rw c.in-Works.is (c.take.ensures.turn (desk_of c.args.desk.now))

pub returns-in-Follows-clause-turn : goal.returns-in-Follows-clause-turn
returns-in-Follows-clause-turn g c =
    let last = c.take-end.new.post in
    let told = c.take-end.new.told in
    let desk = desk_of c.args.desk.now in
    let kept = c.args.self.now.kept in
    let before = c.in-Follows.follow in
    let after = c.take-end.new.self in
    let base = at_phase g.S.Protect.Machine.phase before.parent before.index before.steps before.at in
    let next = at_phase g.S.Protect.Machine.phase after.parent after.index after.steps after.at in
    rw c.in-Follows.is (
    machine_came Followed (FollowsHead kept.head kept.tail) base next c.args.post.now last desk told c.args.found c.take-end.result c.take-end.ensures.post c.take-end.ensures.told c.take-end.ensures.outcome
    ∙ c.followed.ensures.turn next last desk told
    )

pub returns-in-ClearsNext-clause-turn : goal.returns-in-ClearsNext-clause-turn
returns-in-ClearsNext-clause-turn g c =
    let last = c.take-end-in-ClearsNext.new.post in
    let told = c.take-end-in-ClearsNext.new.told in
    let desk = desk_of c.args.desk.now in
    let next = g.S.Clear.Machine.phase c.take-end-in-ClearsNext.new.self in
    rw c.in-ClearsNext.is (
    machine_came g.S.Clear.Machine.ending (ClearsNext (next_of c.in-ClearsNext.ending)) (g.S.Clear.Machine.phase c.in-ClearsNext.machine) next c.args.post.now last desk told c.args.found c.take-end-in-ClearsNext.result c.take-end-in-ClearsNext.ensures.post c.take-end-in-ClearsNext.ensures.told c.take-end-in-ClearsNext.ensures.outcome
    ∙ c.cleared.ensures.turn g.S.Clear.Machine.ending next last desk told
    )

pub take_leave-requires-clause-ready : goal.take_leave-requires-clause-ready
take_leave-requires-clause-ready g c = leave_ready _ _ Dequeues c.in-Leaves.at _ _ (rw c.in-Leaves.is at c.requires.ready)

pub take_leave-requires-clause-plausible : goal.take_leave-requires-clause-plausible
take_leave-requires-clause-plausible g c = leave_plausible _ _ Dequeues c.in-Leaves.at _ _ (rw c.in-Leaves.is at c.requires.plausible)

pub returns-in-Leaves-clause-turn : goal.returns-in-Leaves-clause-turn
returns-in-Leaves-clause-turn g c =
    rw c.in-Leaves.is (c.take_leave.ensures.turn Dequeues ∙ c.left.ensures.turn c.take_leave.new.post (desk_of c.take_leave.new.desk) c.take_leave.new.told _)
