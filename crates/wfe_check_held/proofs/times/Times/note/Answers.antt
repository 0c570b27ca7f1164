use Rattle.std.proofs.Common.{arith}
use Rattle.wfe_check_held.proofs.Notes.{noted, sized_told}
use Rattle.wfe_check_held.proofs.times.Times.note.Goals as goal

pub returns-clause-told : goal.returns-clause-told
returns-clause-told c = λ config p is f l.
    noted config p c.args.self.now c.tell.new.self c.args.seat c.args.event.now c.args.found c.args.last is c.tell.ensures (omega arith) f l

pub returns-clause-sized : goal.returns-clause-sized
returns-clause-sized c =
    sized_told c.args.self.now c.tell.new.self c.args.seat c.args.event.now c.args.found c.args.last c.requires.sized c.tell.ensures (omega arith)
