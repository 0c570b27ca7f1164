use Rattle.std.proofs.Common.{Some, refl}
use Rattle.wfe_core.specs.defs.declared.call.Answer.TheVariants.{Nothing}
use Rattle.wfe_core.specs.Calls.{Holds, Answering}
use Rattle.wfe_core.specs.DeskHeld.{desk_of}
use Rattle.wfe_call_rounds.specs.Rounds.{close_at, close_phase}
use Rattle.wfe_call_rounds.proofs.Taken.{closes_step, closed_step}
use Rattle.wfe_bucketmap_hold.proofs.hold.Hold.step.Goals as goal

pub returns-then-take_close-clause-steps : goal.returns-then-take_close-clause-steps
returns-then-take_close-clause-steps g c =
    rw c.in-Closes.is (
    closed_step (Holds c.args.self.now.key) (Answering Nothing) g.S.Scheme.kind (close_at g.S.Clear.Machine.phase g.S.Finish.Machine.phase c.in-Closes.closing) c.args.post.now c.take_close.new.post c.take_close.new.post (desk_of c.args.desk.now) c.take_close.new.told c.take_close.new.told c.args.found (Some Nothing) (close_phase (Holds c.args.self.now.key) (Answering Nothing) (close_at g.S.Clear.Machine.phase g.S.Finish.Machine.phase c.take_close.new.closing)) c.requires.scheme c.take_close.ensures.post c.take_close.ensures.told c.if-take_close.ensures.next (
    record { post_is = refl; told_is = refl; desk_is = refl; outcome_is = refl }
    )
    )

pub returns-else-take_close-clause-steps : goal.returns-else-take_close-clause-steps
returns-else-take_close-clause-steps g c =
    rw c.in-Closes.is (
    closes_step (Holds c.args.self.now.key) (Answering Nothing) g.S.Scheme.kind (close_at g.S.Clear.Machine.phase g.S.Finish.Machine.phase c.in-Closes.closing) (close_at g.S.Clear.Machine.phase g.S.Finish.Machine.phase c.take_close.new.closing) c.args.post.now c.take_close.new.post (desk_of c.args.desk.now) c.take_close.new.told c.args.found c.requires.scheme c.take_close.ensures.post c.take_close.ensures.told c.if-take_close.ensures.next
    )
