-- The step that the words make is the seat's.
use Rattle.wfe_drive_words.proofs.Makes.{asks_at}
use Rattle.wfe_drive_words.proofs.Leading.{steps_on}
use Rattle.wfe_drive_words.proofs.path.step.Goals as goal

pub perform_on-requires-clause-asks : goal.perform_on-requires-clause-asks
perform_on-requires-clause-asks g c =
    let (seat, a) = c.requires.asks in
    asks_at (g.W.Words.at c.args.words.now) seat c.args.op a.here a.busy a.is

pub returns-clause-steps : goal.returns-clause-steps
returns-clause-steps g c = λ seat a.
    steps_on (g.W.Words.at c.args.words.now) (g.W.Words.at c.perform_on.new.self) (g.W.Words.stands c.args.words.now) (g.W.Words.stands c.perform_on.new.self) seat c.args.op c.perform_on.result a
    (λ l there. g.W.Words.comes c.args.words.now l c.requires.valid there) c.perform_on.ensures.at c.perform_on.ensures.stands
