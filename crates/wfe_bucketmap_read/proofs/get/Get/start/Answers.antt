use Rattle.std.proofs.Common.{ℕ, ◌≡◌, None, subst}
use Rattle.wfe_core.specs.Calls.{Gets, Opens, Runs}
use Rattle.wfe_core.specs.Phases.Ending.{Protected}
use Rattle.wfe_core.specs.DeskHeld.{desk_of}
use Rattle.wfe_core.specs.Rounds.{round}
use Rattle.wfe_core.specs.Steps.{opened}
use Rattle.wfe_call_rounds.specs.Steps.{Steps}
use Rattle.wfe_call_rounds.specs.iface.Schemes.{round_phases}
use Rattle.wfe_call_rounds.specs.Rounds.{opening_base, opening_of}
use Rattle.wfe_call_rounds.proofs.Taken.{starts_at, opens_step, run_ends, steps_along}
use Rattle.wfe_bucketmap_read.specs.Gets.{get_phase}
use Rattle.wfe_bucketmap_read.proofs.get.Get.start.Goals as goal

pub returns-in-Some-clause-steps : goal.returns-in-Some-clause-steps
returns-in-Some-clause-steps g c =
    let phases = round_phases g.S.Begin.Machine.phase g.S.Protect.Machine.phase g.S.Clear.Machine.phase g.S.Finish.Machine.phase in
    let task = Gets c.args.self.now.key in
    let base = opening_of phases c.open-opening.result in
    let stands : round task c.args.post.now ≡ Runs (Opens task) base =
    starts_at task g.S.Scheme.kind c.args.post.now c.root_for-root.result base c.requires.scheme c.root_for-root.ensures.root c.open-opening.ensures
    in
    let last = get_phase phases c.reach.new.self.key c.reach.new.self.at c.reach.new.post in
    let reached : Steps (opened task (Protected c.in-Some.end) c.take_open-end.new.post (desk_of c.args.desk.now) c.take_open-end.new.told) c.reach.new.post (desk_of c.args.desk.now) c.reach.new.told c.reach.result last =
    subst (λ (key : ℕ). Steps (opened (Gets key) (Protected c.in-Some.end) c.take_open-end.new.post (desk_of c.args.desk.now) c.take_open-end.new.told) c.reach.new.post (desk_of c.args.desk.now) c.reach.new.told c.reach.result last) c.stand.ensures.key (c.reach.ensures.steps (desk_of c.args.desk.now))
    in
    steps_along (round task c.args.post.now) (Runs (Opens task) base) c.args.post.now c.reach.new.post (desk_of c.args.desk.now) c.reach.new.told c.args.found c.reach.result last stands (
    run_ends (Opens task) base (Protected c.in-Some.end) c.args.post.now c.take_open-end.new.post c.reach.new.post (desk_of c.args.desk.now) c.take_open-end.new.told c.reach.new.told c.args.found c.reach.result last c.take_open-end.ensures.post c.take_open-end.ensures.told c.in-Some.ensures.next reached
    )

pub returns-in-None-clause-steps : goal.returns-in-None-clause-steps
returns-in-None-clause-steps g c =
    let task = Gets c.args.self.now.key in
    let base = opening_base g.S.Begin.Machine.phase g.S.Protect.Machine.phase c.open-opening.result in
    let next = opening_base g.S.Begin.Machine.phase g.S.Protect.Machine.phase c.take_open-end.new.opening in
    let stands : round task c.args.post.now ≡ Runs (Opens task) base =
    starts_at task g.S.Scheme.kind c.args.post.now c.root_for-root.result base c.requires.scheme c.root_for-root.ensures.root c.open-opening.ensures
    in
    rw c.stand.ensures.at (rw c.stand.ensures.key (
    steps_along (round task c.args.post.now) (Runs (Opens task) base) c.args.post.now c.take_open-end.new.post (desk_of c.args.desk.now) c.take_open-end.new.told c.args.found None (Runs (Opens task) next) stands (
    opens_step task g.S.Scheme.kind c.root_for-root.result base next c.args.post.now c.take_open-end.new.post (desk_of c.args.desk.now) c.take_open-end.new.told c.args.found c.requires.scheme c.root_for-root.ensures.root c.take_open-end.ensures.post c.take_open-end.ensures.told c.in-None.ensures.next
    )
    ))
