use Rattle.std.proofs.Common.{arith}
use Rattle.wfe_core.specs.declared.post.Post.{Post}
use Rattle.wfe_core.specs.DeskHeld.{desk_of}
use Rattle.wfe_call_rounds.specs.iface.Schemes.{round_phases}
use Rattle.wfe_call_rounds.proofs.iface.Followed.{bumped}
use Rattle.wfe_call_rounds.proofs.Counted.{plausible_counted, ready_counted, took_counted}
use Rattle.wfe_bucketmap.specs.Changes.{kept_of}
use Rattle.wfe_bucketmap.specs.ChangeStates.{change_phase}
use Rattle.wfe_bucketmap.proofs.Counts.{change_counted}
use Rattle.wfe_bucketmap.proofs.change.ChangeBucketCallMachine.take.Goals as goal

pub step-answer-requires-clause-ready : goal.step-answer-requires-clause-ready
step-answer-requires-clause-ready g c =
    let post = c.args.post.now in
    ready_counted
    (λ (p : Post). change_phase (round_phases g.S.Begin.Machine.phase g.S.Protect.Machine.phase g.S.Clear.Machine.phase g.S.Finish.Machine.phase) (kept_of c.args.self.now.kept) c.args.self.now.at p)
    post
    c.saturating_add-post.result
    (desk_of c.args.desk.now)
    (change_counted _ (kept_of c.args.self.now.kept) c.args.self.now.at post)
    (bumped c.saturating_add-post.result post.steps (omega arith) c.saturating_add-post.ensures)
    c.requires.ready

pub step-answer-requires-clause-plausible : goal.step-answer-requires-clause-plausible
step-answer-requires-clause-plausible g c =
    let post = c.args.post.now in
    plausible_counted
    (λ (p : Post). change_phase (round_phases g.S.Begin.Machine.phase g.S.Protect.Machine.phase g.S.Clear.Machine.phase g.S.Finish.Machine.phase) (kept_of c.args.self.now.kept) c.args.self.now.at p)
    post
    c.saturating_add-post.result
    c.args.found
    (change_counted _ (kept_of c.args.self.now.kept) c.args.self.now.at post)
    (bumped c.saturating_add-post.result post.steps (omega arith) c.saturating_add-post.ensures)
    c.requires.plausible

pub returns-clause-took : goal.returns-clause-took
returns-clause-took g c =
    let post = c.args.post.now in
    took_counted
    (λ (p : Post). change_phase (round_phases g.S.Begin.Machine.phase g.S.Protect.Machine.phase g.S.Clear.Machine.phase g.S.Finish.Machine.phase) (kept_of c.args.self.now.kept) c.args.self.now.at p)
    post
    c.step-answer.new.post
    c.saturating_add-post.result
    c.args.found
    (desk_of c.args.desk.now)
    (desk_of c.step-answer.new.desk)
    c.step-answer.new.told
    c.settle.new.told
    c.step-answer.result
    _
    c.settle.new.self
    (change_counted _ (kept_of c.args.self.now.kept) c.args.self.now.at post)
    (bumped c.saturating_add-post.result post.steps (omega arith) c.saturating_add-post.ensures)
    c.step-answer.ensures.steps
    c.settle.ensures.told
    c.settle.ensures.desk
