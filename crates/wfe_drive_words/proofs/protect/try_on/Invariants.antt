-- The seat is before a try, and so many steps were made by each protection that it may be in.
use Rattle.std.proofs.Common.{ℕ, ◌≤◌}
use Rattle.wfe_drive_words.specs.Path.{Leads, Publishes, Trial, endless, endless_after, publishing}
use Rattle.wfe_drive_words.proofs.protect.try_on.Given as goal

abbrev pub invariant-loop-link : goal.invariant-loop-link
invariant-loop-link g l =
    let words = g.W.Words in
    record {
      valid : words.valid l.words;
      later : words.later l.words;
      same : words.same l.fn.words l.words;
      rest : words.rest l.words ≤ words.rest l.fn.words;
      leads : (t : Trial) → Publishes (words.at l.fn.words) (endless t) l.index l.root l.first l.post → (n : ℕ)
          × Leads (words.at l.fn.words) (words.at l.words) (words.stands l.fn.words) (words.stands l.words) (publishing (endless t) l.index l.root l.first l.post) (publishing (endless_after t n l.steps) l.index l.root l.era l.post);
    }

abbrev pub decreases-loop-link : goal.decreases-loop-link
decreases-loop-link g l = g.W.Words.rest l.words
