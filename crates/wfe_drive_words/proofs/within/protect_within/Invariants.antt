-- The seat is before a look, and so many steps were made by each protection that it may be in.
use Rattle.std.proofs.Common.{ℕ, ◌≤◌}
use Rattle.wfe_core.specs.Phases.ProtectAt.{LoadWithin}
use Rattle.wfe_drive_words.specs.Called.{Here}
use Rattle.wfe_drive_words.specs.Path.{Leads, Trial, protecting, spanned}
use Rattle.wfe_drive_words.proofs.Looks.{looking}
use Rattle.wfe_drive_words.proofs.within.protect_within.Given as goal

abbrev pub invariant-loop-link : goal.invariant-loop-link
invariant-loop-link g l =
    let words = g.W.Words in
    record {
      valid : words.valid l.words;
      same : words.same l.fn.words l.words;
      rest : words.rest l.words ≤ words.rest l.fn.words;
      leads : (t : Trial) (index : ℕ) → Here (words.at l.fn.words) (protecting t index l.root LoadWithin (spanned l.post l.lo l.hi)) → (n : ℕ)
          × Leads (words.at l.fn.words) (words.at l.words) (words.stands l.fn.words) (words.stands l.words) (protecting t index l.root LoadWithin (spanned l.post l.lo l.hi)) (protecting (looking t n l.steps) index l.root LoadWithin (spanned l.post l.lo l.era));
    }

abbrev pub decreases-loop-link : goal.decreases-loop-link
decreases-loop-link g l = g.W.Words.rest l.words
