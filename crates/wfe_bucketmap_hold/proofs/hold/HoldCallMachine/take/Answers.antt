use Rattle.std.proofs.Common.{◌≡◌, arith}
use Rattle.wfe_core.specs.DeskHeld.{desk_of}
use Rattle.wfe_core.specs.Memory.{bump}
use Rattle.wfe_core.specs.Posts.{counted}
use Rattle.wfe_core.specs.Steps.{phase_turn}
use Rattle.wfe_call_rounds.specs.iface.Schemes.{round_phases}
use Rattle.wfe_call_rounds.specs.Steps.{Steps}
use Rattle.wfe_call_rounds.proofs.Taken.{took_from, steps_along}
use Rattle.wfe_bucketmap_hold.specs.Holds.{hold_phase}
use Rattle.wfe_bucketmap_hold.proofs.Holding.{hold_phase_counted, hold_plausible, hold_ready}
use Rattle.wfe_bucketmap_hold.proofs.hold.HoldCallMachine.take.Goals as goal
use Rattle.wfe_call_rounds.proofs.iface.Followed.{bumped}

pub step-answer-requires-clause-ready : goal.step-answer-requires-clause-ready
step-answer-requires-clause-ready g c =
    hold_ready (round_phases g.S.Begin.Machine.phase g.S.Protect.Machine.phase g.S.Clear.Machine.phase g.S.Finish.Machine.phase) g.S.Release.Machine.phase c.args.self.now.key c.args.self.now.at c.args.post.now (desk_of c.args.desk.now) c.saturating_add-post.result c.requires.ready

pub returns-clause-took : goal.returns-clause-took
returns-clause-took g c =
    let phases = round_phases g.S.Begin.Machine.phase g.S.Protect.Machine.phase g.S.Clear.Machine.phase g.S.Finish.Machine.phase in
    let post = c.args.post.now in
    let desk = desk_of c.args.desk.now in
    let more : c.saturating_add-post.result ≡ bump post.steps = bumped c.saturating_add-post.result post.steps (omega arith) c.saturating_add-post.ensures in
    let before = hold_phase phases g.S.Release.Machine.phase c.args.self.now.key c.args.self.now.at post in
    let along = hold_phase phases g.S.Release.Machine.phase c.args.self.now.key c.args.self.now.at (counted post) in
    let next = hold_phase phases g.S.Release.Machine.phase c.step-answer.new.self.key c.step-answer.new.self.at c.step-answer.new.post in
    let steps : Steps (phase_turn along (counted post) desk c.args.found) c.step-answer.new.post desk c.step-answer.new.told c.step-answer.result next = rw more at c.step-answer.ensures.steps in
    took_from (phase_turn before (counted post) desk c.args.found) c.step-answer.new.post desk c.step-answer.new.told c.settle.new.told c.step-answer.result next c.settle.new.self (
    steps_along before along (counted post) c.step-answer.new.post desk c.step-answer.new.told c.args.found c.step-answer.result next (
    hold_phase_counted phases g.S.Release.Machine.phase c.args.self.now.key c.args.self.now.at post
    ) steps
    ) c.settle.ensures.told c.settle.ensures.desk

pub step-answer-requires-clause-plausible : goal.step-answer-requires-clause-plausible
step-answer-requires-clause-plausible g c =
    hold_plausible (round_phases g.S.Begin.Machine.phase g.S.Protect.Machine.phase g.S.Clear.Machine.phase g.S.Finish.Machine.phase) g.S.Release.Machine.phase c.args.self.now.key c.args.self.now.at c.args.post.now c.saturating_add-post.result c.args.found c.requires.plausible
