use Rattle.std.proofs.Common.{◌≡◌, Some, refl}
use Rattle.wfe_core.specs.Calls.{Releases, Runs}
use Rattle.wfe_core.specs.DeskHeld.{desk_of}
use Rattle.wfe_core.specs.Keep.{released}
use Rattle.wfe_call_rounds.specs.Steps.{Steps}
use Rattle.wfe_call_rounds.proofs.Taken.{run_ends, steps_along}
use Rattle.wfe_bucketmap_hold.specs.Lettings.{let_go_of, let_phase}
use Rattle.wfe_bucketmap_hold.proofs.Lettings.{let_answers, letting_fits}
use Rattle.wfe_bucketmap_hold.proofs.letting.Letting.step.Goals as goal

pub take_let-requires-clause-index : goal.take_let-requires-clause-index
take_let-requires-clause-index g c =
    rw c.index.ensures (letting_fits (let_go_of c.args.self.now.let_go) c.args.post.now (desk_of c.args.desk.now) (rw c.in-None.is at c.requires.ready))

pub returns-in_ok-take-in-Some-clause-steps : goal.returns-in_ok-take-in-Some-clause-steps
returns-in_ok-take-in-Some-clause-steps g c =
    let release = g.S.Release.Machine.phase in
    let let_go = let_go_of c.args.self.now.let_go in
    let post = c.args.post.now in
    let last = c.take.new.post in
    let told = c.take.new.told in
    let desk = desk_of c.args.desk.now in
    let base = release c.in-Some.machine in
    let next = Runs (Releases let_go) (release c.take.new.self) in
    let before = let_phase release let_go c.args.self.now.steps post in
    let stands : before ≡ Runs (Releases let_go) base = rw c.in-Some.is refl in
    let answers : Steps (released let_go last desk told) last desk told (Some c.answer.result) next =
    rw c.answer.ensures (let_answers c.args.self.now.let_go last desk told next)
    in
    steps_along before (Runs (Releases let_go) base) post last desk told c.args.found (Some c.answer.result) next stands (
    run_ends (Releases let_go) base (g.S.Release.Machine.ending c.in_ok-take-in-Some.field-0) post last last desk told told c.args.found (Some c.answer.result) next c.in_ok-take-in-Some.ensures.post c.in_ok-take-in-Some.ensures.told c.in_ok-take-in-Some.ensures.outcome answers
    )
