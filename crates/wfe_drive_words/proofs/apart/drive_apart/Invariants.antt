use Rattle.std.proofs.Common.{true, ◌≡◌}
use Rattle.wfe_core.specs.DeskHeld.{HasRoom}
use Rattle.wfe_core.specs.Locals.{busy_in}
use Rattle.wfe_drive_words.specs.Called.{Here, Makes, at_phase}
use Rattle.wfe_drive_words.specs.Ran.{Ran}
use Rattle.wfe_drive_words.specs.Readiness.{MayAsk}
use Rattle.wfe_drive_words.proofs.apart.drive_apart.Given as goal

-- the call is under way, its code may ask for its next operation, and those so far were made
abbrev pub invariant-loop-answer : goal.invariant-loop-answer
invariant-loop-answer g l =
    let phase = g.M.CallMachine.phase in
    let words = g.W.Words in
    record {
      valid : words.valid l.words;
      same : words.same l.fn.words l.words;
      here : Here (words.at l.words) (at_phase (phase l.machine l.post) l.post l.desk);
      busy : busy_in (phase l.machine l.post) ≡ true;
      ready : MayAsk (at_phase (phase l.machine l.post) l.post l.desk);
      suits : g.M.CallMachine.suits l.post.layout.config.scheme;
      room : HasRoom l.desk l.post.layout;
      made : Makes (λ ops k m. Ran k ops m) (words.at l.fn.words) (words.at l.words) (words.stands l.fn.words) (words.stands l.words)
          (at_phase (phase l.fn.machine l.fn.post) l.fn.post l.fn.desk) (at_phase (phase l.machine l.post) l.post l.desk);
    }

abbrev pub decreases-loop-answer : goal.decreases-loop-answer
decreases-loop-answer g l = g.W.Words.rest l.words
