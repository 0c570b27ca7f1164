-- What is asked of an entry, from what the scheme asks and what calls ask.
use Rattle.std.proofs.Common.{ℕ, ◌≡◌, ◌==◌, None, Option, Some, true, false, ap, sym, ◌∙◌, refl, Bool, arith}
use Rattle.std.proofs.lemmas.Bool.Decides.{nat_tests}
use Rattle.laws.specs.defs.declared.event.Event.TheVariants as events
use Rattle.laws.specs.defs.declared.event.Guard.TheVariants.{Helper, Index}
use Rattle.laws.specs.defs.declared.lifetime.Interval.{Interval}
use Rattle.laws.specs.defs.declared.event.Event.{Event}
use Rattle.laws.specs.records.Record.{Past}
use Rattle.laws.specs.words.Schemes.{is_he, is_ibr, is_wfe, publishes_rows}
use Rattle.laws.specs.words.declared.config.Config.{Config}
use Rattle.laws.specs.words.declared.config.SchemeKind.{SchemeKind}
use Rattle.laws.specs.words.declared.config.SchemeKind.TheVariants.{He, Hp, Ibr, Wfe}
use Rattle.laws.specs.StepLaw.{ask_ok, end_ok, has_tried, hazards_ok}
use Rattle.wfe_check_calls.specs.Right.{FitsScheme, IsRight, hazards_right}
use Rattle.wfe_check_calls.specs.Words.{word_of}

-- a test that one scheme has is not that of another
not_so : (test : SchemeKind → Bool) (a b : SchemeKind) → a ≡ b → test b ≡ false → test a ≡ true → ⊥
not_so test a b e lacks has = let h : true ≡ false = sym has ∙ ap test e ∙ lacks in cc

from_scheme : (scheme : SchemeKind) (config : Config) (p : Past) (i : ℕ) (event : Event) → config.scheme ≡ scheme →
    FitsScheme scheme config p i event → end_ok config p i event ≡ true → IsRight config p i event
from_scheme He config p i event e fits end = record {
  numbers = λ h. absurd (not_so is_wfe config.scheme He e refl h);
  withdrawals = λ h. absurd (not_so is_wfe config.scheme He e refl h);
  tries = λ h. fits;
  raises = λ h. absurd (not_so is_ibr config.scheme He e refl h);
  hazards = λ h. absurd (not_so publishes_rows config.scheme He e refl h);
  asks = λ h. absurd (not_so is_wfe config.scheme He e refl h);
  calls = end;
}
from_scheme Ibr config p i event e fits end = record {
  numbers = λ h. absurd (not_so is_wfe config.scheme Ibr e refl h);
  withdrawals = λ h. absurd (not_so is_wfe config.scheme Ibr e refl h);
  tries = λ h. absurd (not_so is_he config.scheme Ibr e refl h);
  raises = λ h. fits;
  hazards = λ h. absurd (not_so publishes_rows config.scheme Ibr e refl h);
  asks = λ h. absurd (not_so is_wfe config.scheme Ibr e refl h);
  calls = end;
}
from_scheme Hp config p i event e fits end = record {
  numbers = λ h. absurd (not_so is_wfe config.scheme Hp e refl h);
  withdrawals = λ h. absurd (not_so is_wfe config.scheme Hp e refl h);
  tries = λ h. absurd (not_so is_he config.scheme Hp e refl h);
  raises = λ h. absurd (not_so is_ibr config.scheme Hp e refl h);
  hazards = λ h. fits;
  asks = λ h. absurd (not_so is_wfe config.scheme Hp e refl h);
  calls = end;
}
from_scheme Wfe config p i event e fits end = record {
  numbers = λ h. fits.0;
  withdrawals = λ h. fits.1;
  tries = λ h. absurd (not_so is_he config.scheme Wfe e refl h);
  raises = λ h. absurd (not_so is_ibr config.scheme Wfe e refl h);
  hazards = λ h. absurd (not_so publishes_rows config.scheme Wfe e refl h);
  asks = λ h. fits.2;
  calls = end;
}

pub right_from : (config : Config) (p : Past) (i : ℕ) (event : Event) →
    FitsScheme config.scheme config p i event → end_ok config p i event ≡ true → IsRight config p i event
right_from config p i event = from_scheme config.scheme config p i event refl

to_scheme : (scheme : SchemeKind) (config : Config) (p : Past) (i : ℕ) (event : Event) → config.scheme ≡ scheme →
    IsRight config p i event → FitsScheme scheme config p i event
to_scheme He config p i event e right = right.tries (ap is_he e)
to_scheme Ibr config p i event e right = right.raises (ap is_ibr e)
to_scheme Hp config p i event e right = right.hazards (ap publishes_rows e)
to_scheme Wfe config p i event e right = (right.numbers (ap is_wfe e), right.withdrawals (ap is_wfe e), right.asks (ap is_wfe e))

pub right_gives : (config : Config) (p : Past) (i : ℕ) (event : Event) → IsRight config p i event → FitsScheme config.scheme config p i event
right_gives config p i event = to_scheme config.scheme config p i event refl

-- where the seat asks for help by the entry
pub ask_gives : (tries j : ℕ) (p : Past) (i k : ℕ) (span : Interval) (event : Event) → event ≡ events.Reserve (Helper k) (Some span) → k ≡ i →
    ask_ok tries j p i event ≡ true → has_tried tries i j p ≡ true
ask_gives tries j p i k span event is e h =
    let same : (k == i) ≡ true = grind (arith, nat_tests) in
    let asked : ask_ok tries j p i (events.Reserve (Helper k) (Some span)) ≡ true = sym (ap (λ x. ask_ok tries j p i x) is) ∙ h in
    rw same at asked

-- a row that is told of an index word
pub hazard_is : (p : Past) (i k j : ℕ) (slot : Option ℕ) → hazards_right (events.Hazard (Index k j) slot) (word_of k j p) ≡ hazards_ok p i (events.Hazard (Index k j) slot)
hazard_is p i k j None = refl
hazard_is p i k j (Some slot) = refl
