-- What is kept of calls is what the record says of them.
use Rattle.std.specs.Prelude.{ℕ, ◌≡◌, ◌<◌, slice_index_or, true}
use Rattle.laws.specs.records.Record.{Past}
use Rattle.laws.specs.words.declared.config.Config.{Config}
use Rattle.laws.specs.Lists.{is_adopted}
use Rattle.wfe_check_calls.specs.declared.calls.Calls.{Calls}
use Rattle.wfe_check_calls.specs.declared.seat.Seat.{Seat}
use Rattle.wfe_check_calls.specs.Seats.{calls_of, shown_seat}

-- Under this setting and after this record, by seat: its calls, and whether its list was taken over.
pub record IsCalls (config : Config) (calls : Calls) (p : Past) : Type 0 where
  pub setting : calls.config ≡ config
  pub seats : (i : ℕ) (d : Seat) → i < config.seats → shown_seat (slice_index_or calls.seats.items i d) ≡ calls_of config i p
  pub adopted : (i : ℕ) → i < config.seats → slice_index_or calls.adopted.items i true ≡ is_adopted i p
