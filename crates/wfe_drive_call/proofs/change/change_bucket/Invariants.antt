-- So many rounds were made.
use Rattle.wfe_core.specs.Calls.{Changes}
use Rattle.wfe_core.specs.DeskHeld.{HasRoom}
use Rattle.wfe_core.specs.Rounds.{round}
use Rattle.wfe_drive_runs.specs.drive_words.Called.{at_phase}
use Rattle.wfe_drive_runs.specs.drive_words.Path.{Leads}
use Rattle.wfe_drive_runs.specs.Pieces.{IsFree}
use Rattle.wfe_drive_call.specs.Changing.{first_kept, kept_of}
use Rattle.wfe_drive_call.proofs.change.change_bucket.Given as goal

abbrev pub invariant-loop-answer : goal.invariant-loop-answer
invariant-loop-answer g l =
    let words = g.W.Words in
    record {
      valid : words.valid l.words;
      same : words.same l.fn.words l.words;
      free : IsFree l.post;
      room : HasRoom l.desk l.post.layout;
      leads : Leads (words.at l.fn.words) (words.at l.words) (words.stands l.fn.words) (words.stands l.words)
          (at_phase (round (Changes (first_kept l.fn.change l.fn.wanted)) l.fn.post) l.fn.post l.fn.desk) (at_phase (round (Changes (kept_of l.kept)) l.post) l.post l.desk);
    }

abbrev pub decreases-loop-answer : goal.decreases-loop-answer
decreases-loop-answer g l = g.W.Words.rest l.words
