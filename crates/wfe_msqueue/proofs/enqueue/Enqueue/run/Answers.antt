use Rattle.std.proofs.Common.{◌≡◌, refl, ap, ◌∙◌}
use Rattle.wfe_core.specs.defs.declared.event.Root.TheVariants.{Tail}
use Rattle.wfe_core.specs.Calls.{Enqueues, Opens, Phase, Runs}
use Rattle.wfe_core.specs.DeskHeld.{desk_of}
use Rattle.wfe_core.specs.Rounds.{round}
use Rattle.wfe_core.specs.Steps.{phase_turn}
use Rattle.wfe_call_rounds.specs.Rounds.{opening_base}
use Rattle.wfe_call_rounds.proofs.Leaves.{leave_plausible, leave_ready}
use Rattle.wfe_call_rounds.proofs.Ran.{open_came}
use Rattle.wfe_call_rounds.proofs.Taken.{starts_at}
use Rattle.wfe_msqueue.specs.Enqueues.{kept_of}
use Rattle.wfe_msqueue.proofs.enqueue.Enqueue.run.Goals as goal

pub returns-in-Starts-clause-turn : goal.returns-in-Starts-clause-turn
returns-in-Starts-clause-turn g c =
    let task = Enqueues (kept_of c.args.self.now.kept) in
    let post = c.args.post.now in
    let last = c.take_open-end.new.post in
    let told = c.take_open-end.new.told in
    let desk = desk_of c.args.desk.now in
    let base = opening_base g.S.Begin.Machine.phase g.S.Protect.Machine.phase c.open-opening.result in
    let next = opening_base g.S.Begin.Machine.phase g.S.Protect.Machine.phase c.take_open-end.new.opening in
    let stands : round task post ≡ Runs (Opens task) base =
    starts_at task g.S.Scheme.kind post Tail base c.requires.scheme refl c.open-opening.ensures
    in
    rw (c.in-Starts.is, c.stand.ensures.at) (
    ap (λ (phase : Phase). phase_turn phase post desk c.args.found) stands
    ∙ (
    open_came task g.S.Scheme.kind 0 Tail base next post last desk told c.args.found c.take_open-end.result refl refl c.requires.scheme c.take_open-end.ensures.post c.take_open-end.ensures.told c.take_open-end.ensures.next
    ∙ (rw c.stand.ensures.kept at (c.reached.ensures.turn next last desk told))
    )
    )

pub returns-in-Opens-clause-turn : goal.returns-in-Opens-clause-turn
returns-in-Opens-clause-turn g c =
    let task = Enqueues (kept_of c.args.self.now.kept) in
    let last = c.take_open-end-in-Opens.new.post in
    let told = c.take_open-end-in-Opens.new.told in
    let desk = desk_of c.args.desk.now in
    let base = opening_base g.S.Begin.Machine.phase g.S.Protect.Machine.phase c.in-Opens.opening in
    let next = opening_base g.S.Begin.Machine.phase g.S.Protect.Machine.phase c.take_open-end-in-Opens.new.opening in
    rw c.in-Opens.is (
    open_came task g.S.Scheme.kind 0 Tail base next c.args.post.now last desk told c.args.found c.take_open-end-in-Opens.result refl refl c.requires.scheme c.take_open-end-in-Opens.ensures.post c.take_open-end-in-Opens.ensures.told c.take_open-end-in-Opens.ensures.next
    ∙ c.reached-in-Opens.ensures.turn next last desk told
    )

pub returns-in-Works-clause-turn : goal.returns-in-Works-clause-turn
returns-in-Works-clause-turn g c = rw c.in-Works.is (c.take.ensures.turn (desk_of c.args.desk.now))

pub take_leave-requires-clause-ready : goal.take_leave-requires-clause-ready
take_leave-requires-clause-ready g c = leave_ready _ _ (Enqueues (kept_of c.args.self.now.kept)) c.in-Leaves.at _ _ (rw c.in-Leaves.is at c.requires.ready)

pub take_leave-requires-clause-plausible : goal.take_leave-requires-clause-plausible
take_leave-requires-clause-plausible g c = leave_plausible _ _ (Enqueues (kept_of c.args.self.now.kept)) c.in-Leaves.at _ _ (rw c.in-Leaves.is at c.requires.plausible)

pub returns-in-Leaves-clause-turn : goal.returns-in-Leaves-clause-turn
returns-in-Leaves-clause-turn g c =
    let kept = kept_of c.args.self.now.kept in
    rw c.in-Leaves.is (c.take_leave.ensures.turn (Enqueues kept) ∙ c.left.ensures.turn kept c.take_leave.new.post (desk_of c.take_leave.new.desk) c.take_leave.new.told _)
