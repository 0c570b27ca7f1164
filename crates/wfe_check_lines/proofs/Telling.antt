-- What a judge makes of a record's whole lines.
use Rattle.std.proofs.Common.{ℕ, ◌≡◌, List, Option, Some, Ok, Err, refl, sym, ap, subst, ◌∙◌}
use Rattle.laws.specs.records.Record.{Past}
use Rattle.laws.specs.records.Record.Past.{Start}
use Rattle.wfe_words.specs.declared.config.Config.{Config}
use Rattle.wfe_trace.specs.Words.{words}
use Rattle.wfe_trace.specs.declared.reason.RecordReason.TheVariants as reasons
use Rattle.wfe_record.specs.record_words.HeaderReader.{header_in}
use Rattle.wfe_check_lines.specs.Kinds.{kind_in}
use Rattle.wfe_check_lines.specs.Progress.{IsAt}
use Rattle.wfe_check_lines.specs.Reading.{Stage, Told, told_after, told_at, with_header, with_kind}
use Rattle.wfe_check_lines.specs.Reading.Stage.{First, Body, Over}
use Rattle.wfe_check_lines.specs.declared.kind.Kind.{Kind}
use Rattle.wfe_check_lines.specs.declared.progress.Progress.{Progress}
use Rattle.wfe_check_lines.specs.declared.progress.Progress.TheVariants as places

module _ {J : Type 0} (judges : ℕ → Config → J → Past → Type 0) where
  -- a first line was taken, and its judge stands for no entries
  pub opened : (told : Told) (header : Option (ℕ × Config)) (version : ℕ) (config : Config) (judge : J) → told.entries ≡ Start → header ≡ Some (version, config) → judges version config judge Start
      → (x : Told) × (with_header told header ≡ Ok x) × IsAt judges (places.Body version config judge) x.stage x.entries × (x.count ≡ told.count)
  opened told header version config judge start e stands =
      (record told { stage = Body version config }, ap (with_header told) e, (refl, refl, subst (judges version config judge) (sym start) stands), refl)

  first_is : (stage : Stage) (entries : Past) → IsAt judges places.First stage entries → (stage ≡ First) × (entries ≡ Start)
  first_is First entries is = (refl, is)
  first_is (Body v c) entries is = absurd is
  first_is (Over v c) entries is = absurd is

  body_is : (version : ℕ) (config : Config) (judge : J) (stage : Stage) (entries : Past) → IsAt judges (places.Body version config judge) stage entries → (stage ≡ Body version config) × judges version config judge entries
  body_is version config judge First entries is = absurd is
  body_is version config judge (Body v c) entries (same, alike, stands) = (rw (same, alike) refl, rw (same, alike) stands)
  body_is version config judge (Over v c) entries is = absurd is

  over_is : (stage : Stage) (entries : Past) → IsAt judges places.Over stage entries → (version : ℕ) × (config : Config) × (stage ≡ Over version config)
  over_is First entries is = absurd is
  over_is (Body v c) entries is = absurd is
  over_is (Over v c) entries is = (v, c, refl)

  -- where the record is before its first line, its entries are none
  pub starts_at : (place : Progress J) (stage : Stage) (entries : Past) → place ≡ places.First → IsAt judges place stage entries → (stage ≡ First) × (entries ≡ Start)
  starts_at place stage entries e is = first_is stage entries (subst (λ p. IsAt judges p stage entries) e is)

  -- in its body a judge stands for them
  pub bodied_at : (place : Progress J) (version : ℕ) (config : Config) (judge : J) (stage : Stage) (entries : Past) → place ≡ places.Body version config judge → IsAt judges place stage entries → (stage ≡ Body version config) × judges version config judge entries
  bodied_at place version config judge stage entries e is = body_is version config judge stage entries (subst (λ p. IsAt judges p stage entries) e is)

  pub body_at : (version : ℕ) (config : Config) (judge : J) (stage : Stage) (entries : Past) → stage ≡ Body version config → judges version config judge entries → IsAt judges (places.Body version config judge) stage entries
  body_at version config judge stage entries e stands = subst (λ s. IsAt judges (places.Body version config judge) s entries) (sym e) (refl, refl, stands)

  -- after its last line no other may come
  pub over_bad : (place : Progress J) (told : Told) (line : List ℕ) → place ≡ places.Over → IsAt judges place told.stage told.entries → told_after told line ≡ Err reasons.Form
  over_bad place told line e is =
      let (version, config, stage) = over_is told.stage told.entries (subst (λ p. IsAt judges p told.stage told.entries) e is) in
      ap (λ s. told_at s told line) stage

-- a line before the first
pub first_line : (told : Told) (line : List ℕ) → told.stage ≡ First → told_after told line ≡ with_header told (header_in (words line))
first_line told line e = ap (λ s. told_at s told line) e

-- a line of the body, by its kind
pub body_line : (told : Told) (line : List ℕ) (version : ℕ) (config : Config) (kind : Option Kind) → told.stage ≡ Body version config → kind ≡ kind_in version config (words line) → told_after told line ≡ with_kind version config told kind
body_line told line version config kind e k = ap (λ s. told_at s told line) e ∙ ap (with_kind version config told) (sym k)
