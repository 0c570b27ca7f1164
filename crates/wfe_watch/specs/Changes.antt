-- The changes of a key as a row.
use Rattle.std.specs.Prelude.{ℕ}
use Rattle.wfe_outside.specs.declared.watcher.WatchRow.{WatchRow}
use Rattle.wfe_watch.specs.declared.keys.Changes.{Changes}
use Rattle.wfe_watch.specs.Counts.{row_of}

-- the row of a key and its changes
abbrev pub changes_row : ℕ × Changes → WatchRow
changes_row e = row_of e.0 e.1.puts e.1.removals
