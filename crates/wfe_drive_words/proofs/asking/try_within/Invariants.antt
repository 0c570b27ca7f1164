-- The seat is before a try or after the last one, and so many have failed.
use Rattle.std.proofs.Common.{◌≤◌}
use Rattle.wfe_drive_words.specs.Called.{Here}
use Rattle.wfe_drive_words.specs.Path.{Leads, Trial, asked_after, publishing}
use Rattle.wfe_drive_words.proofs.asking.try_within.Given as goal

abbrev pub invariant-loop-failed : goal.invariant-loop-failed
invariant-loop-failed g l =
    let words = g.W.Words in
    record {
      valid : words.valid l.words;
      later : words.later l.words;
      same : words.same l.fn.words l.words;
      rest : words.rest l.words ≤ words.rest l.fn.words;
      below : l.failed ≤ l.most;
      leads : (t : Trial) → Here (words.at l.fn.words) (publishing (asked_after t 0) l.index l.root l.first l.post)
          → Leads (words.at l.fn.words) (words.at l.words) (words.stands l.fn.words) (words.stands l.words) (publishing (asked_after t 0) l.index l.root l.first l.post) (publishing (asked_after t l.failed) l.index l.root l.era l.post);
    }

abbrev pub decreases-loop-failed : goal.decreases-loop-failed
decreases-loop-failed g l = g.W.Words.rest l.words
