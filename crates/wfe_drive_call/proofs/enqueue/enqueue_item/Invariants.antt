-- The call stands before a round.
use Rattle.wfe_core.specs.defs.declared.call.Call.TheVariants.{Enqueue}
use Rattle.wfe_core.specs.Calls.{Enqueues}
use Rattle.wfe_core.specs.DeskHeld.{HasRoom}
use Rattle.wfe_core.specs.Rounds.{round}
use Rattle.wfe_core.specs.Steps.{first_phase}
use Rattle.wfe_drive_runs.specs.Items.{kept_of}
use Rattle.wfe_drive_runs.specs.drive_words.Called.{at_phase}
use Rattle.wfe_drive_runs.specs.drive_words.Path.{Leads}
use Rattle.wfe_drive_runs.specs.Pieces.{IsFree}
use Rattle.wfe_drive_call.proofs.enqueue.enqueue_item.Given as goal

abbrev pub invariant-loop-answer : goal.invariant-loop-answer
invariant-loop-answer g l =
    let words = g.W.Words in
    record {
      valid : words.valid l.words;
      same : words.same l.fn.words l.words;
      room : HasRoom l.desk l.post.layout;
      free : IsFree l.post;
      leads : Leads (words.at l.fn.words) (words.at l.words) (words.stands l.fn.words) (words.stands l.words)
          (at_phase (first_phase (Enqueue l.value) l.fn.post) l.fn.post l.fn.desk) (at_phase (round (Enqueues (kept_of l.item)) l.post) l.post l.desk);
    }

abbrev pub decreases-loop-answer : goal.decreases-loop-answer
decreases-loop-answer g l = g.W.Words.rest l.words
