use Rattle.std.proofs.Common.{◌≡◌, None, Some, refl}
use Rattle.wfe_core.specs.defs.declared.call.Answer.TheVariants.{Got}
use Rattle.wfe_core.specs.Calls.{Gets, Answering}
use Rattle.wfe_core.specs.DeskHeld.{desk_of}
use Rattle.wfe_call_rounds.specs.iface.Schemes.{round_phases}
use Rattle.wfe_call_rounds.specs.Rounds.{closing_of, close_phase}
use Rattle.wfe_call_rounds.proofs.Taken.{closes_step, closed_step, steps_along}
use Rattle.wfe_bucketmap_read.specs.Gets.{get_phase}
use Rattle.wfe_bucketmap_read.proofs.get.Get.step.Goals as goal

pub returns-then-take_close-clause-steps : goal.returns-then-take_close-clause-steps
returns-then-take_close-clause-steps g c =
    let phases = round_phases g.S.Begin.Machine.phase g.S.Protect.Machine.phase g.S.Clear.Machine.phase g.S.Finish.Machine.phase in
    let key = c.args.self.now.key in
    let answer = Got c.in-Closes.version c.in-Closes.value in
    let at = closing_of phases c.in-Closes.closing in
    let before = get_phase phases key c.args.self.now.at c.args.post.now in
    let stands : before ≡ close_phase (Gets key) (Answering answer) at = rw c.in-Closes.is refl in
    let last = close_phase (Gets key) (Answering answer) (closing_of phases c.take_close.new.closing) in
    steps_along before (close_phase (Gets key) (Answering answer) at) c.args.post.now c.take_close.new.post (desk_of c.args.desk.now) c.take_close.new.told c.args.found (Some answer) last stands (
    closed_step (Gets key) (Answering answer) g.S.Scheme.kind at c.args.post.now c.take_close.new.post c.take_close.new.post (desk_of c.args.desk.now) c.take_close.new.told c.take_close.new.told c.args.found (Some answer) last c.requires.scheme c.take_close.ensures.post c.take_close.ensures.told c.if-take_close.ensures.next (
    record { post_is = refl; told_is = refl; desk_is = refl; outcome_is = refl }
    )
    )

pub returns-else-take_close-clause-steps : goal.returns-else-take_close-clause-steps
returns-else-take_close-clause-steps g c =
    let phases = round_phases g.S.Begin.Machine.phase g.S.Protect.Machine.phase g.S.Clear.Machine.phase g.S.Finish.Machine.phase in
    let key = c.args.self.now.key in
    let answer = Got c.in-Closes.version c.in-Closes.value in
    let at = closing_of phases c.in-Closes.closing in
    let stop = closing_of phases c.take_close.new.closing in
    let before = get_phase phases key c.args.self.now.at c.args.post.now in
    let stands : before ≡ close_phase (Gets key) (Answering answer) at = rw c.in-Closes.is refl in
    let last = close_phase (Gets key) (Answering answer) (closing_of phases c.take_close.new.closing) in
    steps_along before (close_phase (Gets key) (Answering answer) at) c.args.post.now c.take_close.new.post (desk_of c.args.desk.now) c.take_close.new.told c.args.found None last stands (
    closes_step (Gets key) (Answering answer) g.S.Scheme.kind at stop c.args.post.now c.take_close.new.post (desk_of c.args.desk.now) c.take_close.new.told c.args.found c.requires.scheme c.take_close.ensures.post c.take_close.ensures.told c.if-take_close.ensures.next
    )
