-- The rows of watchers, as the last lines of a record print them.
use Rattle.std.specs.Prelude.{List, Some, [], map, slice_get, ℕ, ◌+◌, ◌++◌, ◌<◌, ◌≡◌, ◌∷◌}
use Rattle.std.specs.List.{range_with_len}
use Rattle.wfe_outside.specs.declared.watcher.WatchRow.{WatchRow}
use Rattle.wfe_trace.specs.Fits.{NumberFits}
use Rattle.wfe_trace.specs.Record.{watch_line}

-- a watcher's rows, by how many it shows and which
abbrev pub rows_of : {W : Type 0} → (W → ℕ) → (W → ℕ → WatchRow) → W → List WatchRow
rows_of shown shows watcher = map (shows watcher) (range_with_len 0 (shown watcher))

-- the lines of the watcher at a place
abbrev pub rows_text : ℕ → List WatchRow → List ℕ
rows_text place [] = []
rows_text place (row ∷ rows) = watch_line place row.a row.b row.c ++ rows_text place rows

-- the lines of the watchers, from this place on
abbrev pub watch_from : {W : Type 0} → (W → List WatchRow) → ℕ → List W → List ℕ
watch_from rows place [] = []
watch_from rows place (watcher ∷ watchers) = rows_text place (rows watcher) ++ watch_from rows (place + 1) watchers

abbrev pub watch_text : {W : Type 0} → (W → ℕ) → (W → ℕ → WatchRow) → List W → List ℕ
watch_text shown shows watchers = watch_from (rows_of shown shows) 0 watchers

-- the numbers of a row have the bits of their type
abbrev pub RowFits : WatchRow → Type 0
RowFits row = NumberFits row.a × NumberFits row.b × NumberFits row.c

-- so it is with each row that a watcher shows
abbrev pub RowsFit : {W : Type 0} → (W → ℕ) → (W → ℕ → WatchRow) → W → Type 0
RowsFit shown shows watcher = (row : ℕ) → row < shown watcher → RowFits (shows watcher row)

-- so it is with watchers, and with their places
abbrev pub WatchersFit : {W : Type 0} → (W → ℕ) → (W → ℕ → WatchRow) → List W → Type 0
WatchersFit {W} shown shows watchers = (place : ℕ) (watcher : W) → slice_get watchers place ≡ Some watcher → NumberFits place × RowsFit shown shows watcher
