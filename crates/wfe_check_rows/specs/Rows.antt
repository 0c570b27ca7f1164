-- When rows and roots are as a record leaves them.
use Rattle.std.specs.Prelude.{ℕ, ◌≡◌, ◌≤◌, ◌<◌, ◌+◌, None, length, get_or}
use Rattle.laws.specs.words.declared.config.Config.{Config}
use Rattle.laws.specs.records.Record.{Past}
use Rattle.laws.specs.StateAt.{bucket_at, clock_of, head_at, tail_at}
use Rattle.laws.specs.Once.{due_at, due_cut}
use Rattle.wfe_check_rows.specs.declared.rows.Rows.{Rows}
use Rattle.wfe_check_rows.specs.Due.{due_of, due_left}
use Rattle.wfe_check_rows.specs.Row.{IsRow, free_row}

-- they are those of the record, under this setting
pub record IsRows (config : Config) (rows : Rows) (p : Past) : Type 0 where
  pub setting : rows.config ≡ config
  pub rows_count : length rows.rows.items ≡ config.slots + 1
  pub roots_count : length rows.roots.items ≡ config.buckets
  pub clock : rows.clock ≡ clock_of p
  -- each row, the queue's first one included
  pub each : (s : ℕ) → s ≤ config.slots → IsRow config.slots s (get_or rows.rows.items s free_row) p
  pub roots : (bucket : ℕ) → bucket < config.buckets → get_or rows.roots.items bucket None ≡ bucket_at bucket p
  pub head : rows.head ≡ head_at config.slots p
  pub head_in : rows.head ≤ config.slots
  pub tail : rows.tail ≡ tail_at config.slots p
  pub tail_in : rows.tail ≤ config.slots
  -- what has to be told next, and what after that where a cut comes first
  pub due : due_of rows.due ≡ due_at config.slots p
  pub left : (seat : ℕ) → due_left rows.last seat ≡ due_cut seat p
