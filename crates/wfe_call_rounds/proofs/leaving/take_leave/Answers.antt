use Rattle.wfe_core.specs.DeskHeld.{desk_of}
use Rattle.wfe_call_rounds.specs.Endings.{next_of}
use Rattle.wfe_call_rounds.specs.Rounds.{close_at}
use Rattle.wfe_call_rounds.proofs.Ran.{closed_at, closes_at}
use Rattle.wfe_call_rounds.proofs.leaving.take_leave.Goals as goal

pub returns-then-take_close-clause-turn : goal.returns-then-take_close-clause-turn
returns-then-take_close-clause-turn g c = λ task.
    rw c.in-Closes.is (
    closed_at task (next_of c.in-Closes.ending) g.S.Scheme.kind c.is_again.result (close_at g.S.Clear.Machine.phase g.S.Finish.Machine.phase c.in-Closes.closing) (close_at g.S.Clear.Machine.phase g.S.Finish.Machine.phase c.take_close.new.closing) c.args.post.now c.take_close.new.post (desk_of c.args.desk.now) c.take_close.new.told c.args.found c.requires.scheme c.is_again.ensures c.take_close.ensures.post c.take_close.ensures.told c.if-take_close.ensures.next
    )

pub returns-else-take_close-clause-turn : goal.returns-else-take_close-clause-turn
returns-else-take_close-clause-turn g c = λ task.
    rw c.in-Closes.is (
    closes_at task (next_of c.in-Closes.ending) g.S.Scheme.kind c.is_again.result (close_at g.S.Clear.Machine.phase g.S.Finish.Machine.phase c.in-Closes.closing) (close_at g.S.Clear.Machine.phase g.S.Finish.Machine.phase c.take_close.new.closing) c.args.post.now c.take_close.new.post (desk_of c.args.desk.now) c.take_close.new.told c.args.found c.requires.scheme c.is_again.ensures c.take_close.ensures.post c.take_close.ensures.told c.if-take_close.ensures.next
    )
