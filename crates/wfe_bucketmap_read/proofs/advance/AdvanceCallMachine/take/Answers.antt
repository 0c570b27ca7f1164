use Rattle.std.proofs.Common.{◌≡◌, None, Some, refl, arith}
use Rattle.wfe_core.specs.defs.declared.call.Answer.TheVariants.{Clock}
use Rattle.wfe_core.specs.Calls.{Advances, Runs}
use Rattle.wfe_core.specs.Phases.Ending.{Clocked}
use Rattle.wfe_help.specs.Phases.{move_phase}
use Rattle.wfe_core.specs.DeskHeld.{desk_of}
use Rattle.wfe_core.specs.Memory.{bump}
use Rattle.wfe_core.specs.Posts.{counted}
use Rattle.wfe_core.specs.Steps.{phase_turn}
use Rattle.wfe_call_rounds.proofs.Taken.{run_goes, run_ends, took_from}
use Rattle.wfe_bucketmap_read.proofs.advance.AdvanceCallMachine.take.Goals as goal
use Rattle.wfe_call_rounds.proofs.iface.Followed.{bumped}

pub returns-in-None-clause-took : goal.returns-in-None-clause-took
returns-in-None-clause-took g c =
    let post = counted c.args.post.now in
    let desk = desk_of c.args.desk.now in
    let base = move_phase c.args.self.now.steps in
    let next = move_phase c.take.new.self in
    let more : c.saturating_add-post.result ≡ bump c.args.post.now.steps = bumped c.saturating_add-post.result c.args.post.now.steps (omega arith) c.saturating_add-post.ensures in
    took_from (phase_turn (Runs Advances base) post desk c.args.found) c.take.new.post desk c.take.new.told c.settle-in-None.new.told None (Runs Advances next) c.settle-in-None.new.self (
    run_goes Advances base next post c.take.new.post desk c.take.new.told c.args.found (rw more at c.take.ensures.post) (rw more at c.take.ensures.told) (rw more at c.in-None.ensures.outcome)
    ) c.settle-in-None.ensures.told c.settle-in-None.ensures.desk

pub returns-in-Some-clause-took : goal.returns-in-Some-clause-took
returns-in-Some-clause-took g c =
    let post = counted c.args.post.now in
    let desk = desk_of c.args.desk.now in
    let base = move_phase c.args.self.now.steps in
    let next = move_phase c.take.new.self in
    let ending = Clocked c.in-Some.outcome in
    let more : c.saturating_add-post.result ≡ bump c.args.post.now.steps = bumped c.saturating_add-post.result c.args.post.now.steps (omega arith) c.saturating_add-post.ensures in
    took_from (phase_turn (Runs Advances base) post desk c.args.found) c.take.new.post desk c.take.new.told c.settle.new.told (Some (Clock c.in-Some.outcome)) (Runs Advances next) c.settle.new.self (
    run_ends Advances base ending post c.take.new.post c.take.new.post desk c.take.new.told c.take.new.told c.args.found (Some (Clock c.in-Some.outcome)) (Runs Advances next) (rw more at c.take.ensures.post) (rw more at c.take.ensures.told) (rw more at c.in-Some.ensures.outcome) (
    record { post_is = refl; told_is = refl; desk_is = refl; outcome_is = refl }
    )
    ) c.settle.ensures.told c.settle.ensures.desk
