-- What it is that the state is that of a record under a setting.
use Rattle.std.specs.Prelude.{◌≡◌, ℕ, [], ◌<◌, ◌≤◌, length, drop, slice_index, slice_index_or}
use Rattle.laws.specs.words.declared.config.Config.{Config}
use Rattle.laws.specs.records.Record.{Past, begins}
use Rattle.laws.specs.StructuresAt.{queued_of, taken_of, all_taken}
use Rattle.wfe_check_map.specs.declared.contents.Contents.{Contents}
use Rattle.wfe_check_rows.specs.Positions.{entries, since, ceased}
use Rattle.wfe_check_map.specs.Told.{Waiting, marks_of}

pub record IsQueue (queue : Waiting) (p : Past) : Type 0 where
  -- what waits are the values queued without those taken, which were queued before
  pub waiting : queue.waiting ≡ drop (taken_of p) (queued_of p)
  pub queued : queue.queued ≡ length (queued_of p)
  pub taken : queue.taken ≡ taken_of p
  pub within : taken_of p ≤ length (queued_of p)
  pub ceased : queue.ceased ≡ ceased all_taken p

pub record IsContents (config : Config) (contents : Contents) (p : Past) : Type 0 where
  pub setting : contents.config ≡ config
  pub entries : contents.entries ≡ entries p
  pub seats : length contents.begun.items ≡ config.seats
  -- where each seat's last call began
  pub begun : (i : ℕ) → i < config.seats → slice_index contents.begun.items i ≡ since (begins i) p
  pub buckets : length contents.buckets.items ≡ config.buckets
  -- the changes of each bucket
  pub marks : (b : ℕ) → b < config.buckets → slice_index_or contents.buckets.items b [] ≡ marks_of b p
  pub queue : IsQueue contents.queue p
