-- What clap makes of words that do not begin with a hyphen: each goes to the next positional.
use Rattle.std.proofs.Common.{◌≡◌, ℕ, false, refl, ap, ap₂, List, [], ◌∷◌, None}
use Rattle.std.specs.Str.{bytes_eq}
use Rattle.clap.specs.Lexer.{long_of, short_of}
use Rattle.clap.specs.Walk.{Held, Names, Rule, Step, Text, Walk, after_step, arg_by_index, idle, subcommand_met, to_positional, value, walked, word_met}
use Rattle.clap.specs.Simple.{Shape}
use Rattle.clap.specs.Kinds.{Kinds, or_else}
use Rattle.clap.specs.Faults.{step_fault, walk_fault, word_fault}
use Rattle.wfe_job.specs.Words.{begins_with_hyphen}

-- no test of the lexer takes the word for a flag
pub record IsPlain (w : Text) : Type 0 where
  pub ends_flags : bytes_eq w (45 ∷ 45 ∷ []) ≡ false
  pub long : long_of w ≡ None
  pub short : short_of w ≡ None

pub plain_word : (w : Text) → begins_with_hyphen w ≡ false → IsPlain w
plain_word [] h = record { ends_flags = refl; long = refl; short = refl }
plain_word (c ∷ cs) h = record { ends_flags = rw h refl; long = rw h refl; short = rw h refl }

-- a walk that waits for nothing
abbrev pub walk_at : Held → ℕ → Walk
walk_at h position =
    record { held = h; waiting = idle; position = position; is_trailing = false; stopped = None }

-- where such a walk stands after a word for the next positional
abbrev pub walk_past : List Rule → Held → ℕ → Text → Walk
walk_past rules h position word = to_positional rules (arg_by_index rules position) word (walk_at h position) h

module _ (word : Text) (plain : IsPlain word) (names : Names) (other : subcommand_met names idle word ≡ None) where
  is_value : (rules : List Rule) (h : Held) (position : ℕ) → word_met rules names false idle position word h ≡ (h, value)
  is_value rules h position = rw (other, plain.ends_flags, plain.long, plain.short) refl

  no_fault : (s : Shape) (h : Held) → word_fault s names false idle word h ≡ []
  no_fault s h = rw (other, plain.ends_flags, plain.long, plain.short) refl

  pub walk_next : (rules : List Rule) (h : Held) (position : ℕ) → walked rules names (walk_at h position) word ≡ walk_past rules h position word
  unfolding walked
  walk_next rules h position =
      ap (λ (met : Held × Step). after_step rules word (walk_at h position) met.0 met.1) (is_value rules h position)

  pub fault_next : (s : Shape) (h : Held) (position : ℕ) (rest : List Text)
      → walk_fault s names (walk_at h position) (word ∷ rest) ≡ or_else (step_fault s position h value) (walk_fault s names (walk_past s.rules h position word) rest)
  unfolding walk_fault
  fault_next s h position rest =
      ap₂ (λ (f : Kinds) (w : Walk). or_else f (walk_fault s names w rest))
      (ap₂ (λ (f : Kinds) (met : Held × Step). or_else f (step_fault s position met.0 met.1)) (no_fault s h) (is_value s.rules h position))
      (walk_next s.rules h position)
