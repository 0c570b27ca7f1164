-- What is kept of steps is what the record says of them.
use Rattle.std.specs.Prelude.{ℕ, List, false, ◌≡◌, ◌<◌, ◌≤◌, ◌+◌, ◌*◌, slice_index_or}
use Rattle.laws.specs.records.Record.{Past}
use Rattle.laws.specs.words.declared.config.Config.{Config}
use Rattle.laws.specs.StepLaw.{is_under_way}
use Rattle.wfe_check_calls.specs.declared.seat_steps.Seat.{Seat}
use Rattle.wfe_check_calls.specs.declared.step_count.Steps.{Steps}
use Rattle.wfe_check_calls.specs.declared.word.Word.{Word}
use Rattle.wfe_check_calls.specs.SeatSteps.{seat_of}
use Rattle.wfe_check_calls.specs.Words.{word_of}

-- by seat and index, what is kept of index words is what the record says of them; there is room for eight words of a seat
abbrev pub HasWords : Config → List Word → Past → Type 0
HasWords config words p = (i j : ℕ) (d : Word) → i < config.seats → j < 8 → slice_index_or words (i * 8 + j) d ≡ word_of i j p

-- by seat, what is kept of the seat is what the record says of it
abbrev pub HasSeats : Config → List Seat → Past → Type 0
HasSeats config seats p = (i : ℕ) (d : Seat) → i < config.seats → slice_index_or seats i d ≡ seat_of i p

-- So it is under this setting and after this record. At words past the setting's indexes no protection is under way.
pub record IsSteps (config : Config) (steps : Steps) (p : Past) : Type 0 where
  pub setting : steps.config ≡ config
  pub words : HasWords config steps.words.items p
  pub seats : HasSeats config steps.seats.items p
  pub beyond : (i j : ℕ) → config.indexes ≤ j → is_under_way i j p ≡ false
