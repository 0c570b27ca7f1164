-- The seat is before a check, and so many steps were made by each protection that it may be in.
use Rattle.std.proofs.Common.{ℕ, ◌≤◌}
use Rattle.wfe_drive_words.specs.Called.{Here}
use Rattle.wfe_drive_words.specs.Path.{Leads, Trial, checked_after, hazarding}
use Rattle.wfe_drive_words.proofs.hazard.check_on.Given as goal

abbrev pub invariant-loop-root : goal.invariant-loop-root
invariant-loop-root g l =
    let words = g.W.Words in
    record {
      valid : words.valid l.words;
      later : words.later l.words;
      same : words.same l.fn.words l.words;
      rest : words.rest l.words ≤ words.rest l.fn.words;
      leads : (t : Trial) → Here (words.at l.fn.words) (hazarding t l.index l.root l.first l.post) → (n : ℕ)
          × Leads (words.at l.fn.words) (words.at l.words) (words.stands l.fn.words) (words.stands l.words) (hazarding t l.index l.root l.first l.post) (hazarding (checked_after t n l.steps) l.index l.root l.link l.post);
    }

abbrev pub decreases-loop-root : goal.decreases-loop-root
decreases-loop-root g l = g.W.Words.rest l.words
