use Rattle.std.proofs.Common.{◌≡◌, arith}
use Rattle.wfe_core.specs.DeskHeld.{desk_of}
use Rattle.wfe_core.specs.Memory.{bump}
use Rattle.wfe_core.specs.Posts.{counted}
use Rattle.wfe_core.specs.Steps.{phase_turn}
use Rattle.wfe_call_rounds.specs.Steps.{Steps}
use Rattle.wfe_call_rounds.proofs.Taken.{took_from, steps_along}
use Rattle.wfe_call_rounds.proofs.iface.Followed.{bumped}
use Rattle.wfe_bucketmap_hold.specs.Lettings.{let_go_of, let_phase}
use Rattle.wfe_bucketmap_hold.proofs.Counting.{let_ready}
use Rattle.wfe_bucketmap_hold.proofs.Lettings.{let_phase_counted}
use Rattle.wfe_bucketmap_hold.proofs.letting.LettingCallMachine.take.Goals as goal

pub step-answer-requires-clause-ready : goal.step-answer-requires-clause-ready
step-answer-requires-clause-ready g c =
    let_ready g.S.Release.Machine.phase (let_go_of c.args.self.now.let_go) c.args.self.now.steps c.args.post.now (desk_of c.args.desk.now) c.saturating_add-post.result c.requires.ready

pub returns-clause-took : goal.returns-clause-took
returns-clause-took g c =
    let post = c.args.post.now in
    let desk = desk_of c.args.desk.now in
    let more : c.saturating_add-post.result ≡ bump post.steps = bumped c.saturating_add-post.result post.steps (omega arith) c.saturating_add-post.ensures in
    let before = let_phase g.S.Release.Machine.phase (let_go_of c.args.self.now.let_go) c.args.self.now.steps post in
    let along = let_phase g.S.Release.Machine.phase (let_go_of c.args.self.now.let_go) c.args.self.now.steps (counted post) in
    let next = let_phase g.S.Release.Machine.phase (let_go_of c.step-answer.new.self.let_go) c.step-answer.new.self.steps c.step-answer.new.post in
    let steps : Steps (phase_turn along (counted post) desk c.args.found) c.step-answer.new.post desk c.step-answer.new.told c.step-answer.result next = rw more at c.step-answer.ensures.steps in
    took_from (phase_turn before (counted post) desk c.args.found) c.step-answer.new.post desk c.step-answer.new.told c.settle.new.told c.step-answer.result next c.settle.new.self (
    steps_along before along (counted post) c.step-answer.new.post desk c.step-answer.new.told c.args.found c.step-answer.result next (let_phase_counted g.S.Release.Machine.phase (let_go_of c.args.self.now.let_go) c.args.self.now.steps post) steps
    ) c.settle.ensures.told c.settle.ensures.desk
