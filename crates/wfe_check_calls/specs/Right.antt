-- What an entry has to meet, by the scheme.
use Rattle.std.specs.Prelude.{ℕ, Bool, Some, not, true, ◌≡◌, ◌==◌, ◌&&◌, ◌*◌, ◌+◌, if◌then◌else◌}
use Rattle.laws.specs.defs.declared.event.Event.{Event}
use Rattle.laws.specs.defs.declared.event.Event.TheVariants as events
use Rattle.laws.specs.records.Record.{Past}
use Rattle.laws.specs.words.Schemes.{is_he, is_ibr, is_wfe, publishes_rows}
use Rattle.laws.specs.words.declared.config.Config.{Config}
use Rattle.laws.specs.words.declared.config.SchemeKind.{SchemeKind}
use Rattle.laws.specs.words.declared.config.SchemeKind.TheVariants.{He, Hp, Ibr, Wfe}
use Rattle.laws.specs.StepLaw.{ask_ok, end_ok, hazards_ok, number_loaded, raise_ok, steps_ok, tries_ok, withdraw_ok}
use Rattle.laws.specs.StateAt.{is_row}
use Rattle.wfe_check_calls.specs.declared.word.Word.{Word}

-- each test of the law of steps holds of the entry of seat i that comes after this record, where it is one of the setting's scheme
pub record IsRight (config : Config) (p : Past) (i : ℕ) (event : Event) : Type 0 where
  pub numbers : is_wfe config.scheme ≡ true → steps_ok config.tries p i event ≡ true
  pub withdrawals : is_wfe config.scheme ≡ true → withdraw_ok p i event ≡ true
  pub tries : is_he config.scheme ≡ true → tries_ok p i event ≡ true
  pub raises : is_ibr config.scheme ≡ true → raise_ok p i event ≡ true
  pub hazards : publishes_rows config.scheme ≡ true → hazards_ok p i event ≡ true
  pub asks : is_wfe config.scheme ≡ true → (j : ℕ) → ask_ok config.tries j p i event ≡ true
  pub calls : end_ok config p i event ≡ true

-- so it is with those of protections under a scheme
abbrev pub FitsScheme : SchemeKind → Config → Past → (i : ℕ) → Event → Type 0
FitsScheme He config p i event = tries_ok p i event ≡ true
FitsScheme Ibr config p i event = raise_ok p i event ≡ true
FitsScheme Hp config p i event = hazards_ok p i event ≡ true
FitsScheme Wfe config p i event =
    (steps_ok config.tries p i event ≡ true) × (withdraw_ok p i event ≡ true) × ((j : ℕ) → ask_ok config.tries j p i event ≡ true)

-- where a protection at this word is told to end its number is that of the eras that the word has published, and these rose
abbrev pub tries_right : Event → Word → Bool
tries_right (events.Held index slot steps) word = (steps == (if index == 1 then 3 * word.reserves + 2 else 3 * word.reserves + 1)) && word.rising
tries_right (events.Null index steps) word = (steps == 3 * word.reserves + 1) && word.rising
tries_right event word = true

-- a row that is told of this word is another than the one before it in the same protection
abbrev pub is_another : Event → Word → Bool
is_another (events.Hazard guard (Some slot)) word = not (is_row slot word.own_hazard)
is_another event word = true

-- the event, which speaks of this word, fits the rows that the word has published
abbrev pub hazards_right : Event → Word → Bool
hazards_right event word = number_loaded (λ (index : ℕ). word.hazards) event && is_another event word
