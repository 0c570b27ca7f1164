-- Where a record is, by the place that is kept.
use Rattle.std.proofs.Common.{ℕ, ◌≡◌, ◌∙◌, Result, Ok, Err, refl, sym, ap, subst}
use Rattle.wfe_words.specs.declared.config.Config.{Config}
use Rattle.wfe_trace.specs.declared.reason.RecordReason.TheVariants as reasons
use Rattle.wfe_check_lines.specs.Reading.{Reading, Stage, after_last, at_stage, bad_line, finished, ◌then◌}
use Rattle.wfe_check_lines.specs.Reading.Stage.{First, Body, Over}
use Rattle.wfe_check_lines.specs.declared.stops.BadLine.{BadLine}
use Rattle.wfe_draw.specs.Lines.{IsAt}
use Rattle.wfe_draw.specs.Readers.{IsWhy}
use Rattle.wfe_draw.specs.declared.line.Place.{Place}
use Rattle.wfe_draw.specs.declared.line.Place.TheVariants as places
use Rattle.wfe_draw.specs.declared.stop.Stop.{Stop}
use Rattle.wfe_draw.specs.declared.stop.Stop.TheVariants as stops

first_is : (stage : Stage) → IsAt places.First stage → stage ≡ First
first_is First is = refl
first_is (Body v c) is = absurd is
first_is (Over v c) is = absurd is

body_is : (version : ℕ) (config : Config) (stage : Stage) → IsAt (places.Body version config) stage → stage ≡ Body version config
body_is version config First is = absurd is
body_is version config (Body v c) (same, alike) = rw (same, alike) refl
body_is version config (Over v c) is = absurd is

over_is : (stage : Stage) → IsAt places.Over stage → (version : ℕ) × (config : Config) × (stage ≡ Over version config)
over_is First is = absurd is
over_is (Body v c) is = absurd is
over_is (Over v c) is = (v, c, refl)

pub at_first : (place : Place) (stage : Stage) → place ≡ places.First → IsAt place stage → stage ≡ First
at_first place stage e is = first_is stage (subst (λ p. IsAt p stage) e is)

pub at_body : (place : Place) (version : ℕ) (config : Config) (stage : Stage) → place ≡ places.Body version config → IsAt place stage → stage ≡ Body version config
at_body place version config stage e is = body_is version config stage (subst (λ p. IsAt p stage) e is)

pub at_over : (place : Place) (stage : Stage) → place ≡ places.Over → IsAt place stage → (version : ℕ) × (config : Config) × (stage ≡ Over version config)
at_over place stage e is = over_is stage (subst (λ p. IsAt p stage) e is)

-- The record may end anywhere but before its first line.

then_at : (r whole : Reading) → after_last r ≡ Ok whole → finished r ≡ at_stage whole.told.stage whole
then_at r whole e = ap (λ (x : Result Reading BadLine). x then (λ q. at_stage q.told.stage q)) e

pub ends_first : (r whole : Reading) → after_last r ≡ Ok whole → whole.told.stage ≡ First → finished r ≡ Err (bad_line whole reasons.Header)
ends_first r whole e first = then_at r whole e ∙ ap (λ s. at_stage s whole) first

goes_on : (place : Place) (stage : Stage) (whole : Reading) → IsAt place stage → (place ≡ places.First → ⊥) → at_stage stage whole ≡ Ok whole
goes_on places.First stage whole is other = absurd (other refl)
goes_on (places.Body version config) First whole is other = absurd is
goes_on (places.Body version config) (Body v c) whole is other = refl
goes_on (places.Body version config) (Over v c) whole is other = absurd is
goes_on places.Over First whole is other = absurd is
goes_on places.Over (Body v c) whole is other = absurd is
goes_on places.Over (Over v c) whole is other = refl

pub ends_on : (r whole : Reading) (place : Place) → after_last r ≡ Ok whole → IsAt place whole.told.stage → (place ≡ places.First → ⊥) → finished r ≡ Ok whole
ends_on r whole place e is other = then_at r whole e ∙ goes_on place whole.told.stage whole is other

pub ends_bad : (stop : Stop) (r : Reading) → IsWhy stop (after_last r) → IsWhy stop (finished r)
ends_bad stops.NoMemory r why = tt
ends_bad (stops.BadRecord line reason) r why = ap (λ (x : Result Reading BadLine). x then (λ q. at_stage q.told.stage q)) why
ends_bad stops.TooLarge r why = tt
