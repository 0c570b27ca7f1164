-- The rows of a counter of keys, from the entries told.
use Rattle.std.specs.Prelude.{◌≡◌, ℕ, ◌==◌, not, Bool, true, false, if◌then◌else◌, List, [], ◌∷◌, Option, Some, None, map, filter, count_by, IsSomeAnd}
use Rattle.std.specs.List.{list_any}
use Rattle.wfe_defs.specs.Entry.{Entry}
use Rattle.wfe_defs.specs.declared.event.Event.{Event}
use Rattle.wfe_defs.specs.declared.event.Event.TheVariants as events
use Rattle.wfe_outside.specs.declared.watcher.WatchRow.{WatchRow}
use Rattle.wfe_watch.specs.Counts.{capped, raised, row_of}

-- the key that a put names
abbrev pub put_key : Event → Option ℕ
put_key (events.Put bucket version key value) = Some key
put_key _ = None

-- the key that a removal names
abbrev pub removed_key : Event → Option ℕ
removed_key (events.Removed bucket version key) = Some key
removed_key _ = None

-- it is this key that is named
abbrev pub names : ℕ → Option ℕ → Bool
names key None = false
names key (Some named) = named == key

-- the entry puts the key
abbrev pub puts : ℕ → Entry → Bool
puts key x = names key (put_key x.event)

-- the entry removes the key
abbrev pub removes : ℕ → Entry → Bool
removes key x = names key (removed_key x.event)

-- the keys without one of them
abbrev pub without : ℕ → List ℕ → List ℕ
without key keys = filter (λ k. not (k == key)) keys

-- a key that is named stands before the others; where none is named the keys stay
abbrev pub led_by : Option ℕ → List ℕ → List ℕ
led_by None keys = keys
led_by (Some key) keys = key ∷ without key keys

-- the keys that are put, each once, in the order of their first puts
abbrev pub keys_put : List Entry → List ℕ
keys_put [] = []
keys_put (x ∷ told) = led_by (put_key x.event) (keys_put told)

-- how often the key is put
abbrev pub put_count : List Entry → ℕ → ℕ
put_count told key = capped (count_by (puts key) told)

-- how often the key is removed, before its first put or later
abbrev pub removal_count : List Entry → ℕ → ℕ
removal_count told key = capped (count_by (removes key) told)

-- the row of a key: the key, its puts, its removals
abbrev pub key_row : List Entry → ℕ → WatchRow
key_row told key = row_of key (put_count told key) (removal_count told key)

-- the rows of all keys that are put
abbrev pub key_rows : List Entry → List WatchRow
key_rows told = map (key_row told) (keys_put told)

-- what a counter knows: its rows, and the removals of keys that were not put yet
pub record KeyCounts : Type 0 where
  pub rows : List WatchRow
  pub early : List (ℕ × ℕ)

-- the key has a row
abbrev pub has_row : ℕ → List WatchRow → Bool
has_row key rows = list_any (λ row. row.a == key) rows

-- how often the key was removed, as far as the list says
abbrev pub early_count : List (ℕ × ℕ) → ℕ → ℕ
early_count [] key = 0
early_count (e ∷ early) key = if e.0 == key then e.1 else early_count early key

-- the rows are those of the entries, and each key without one was removed as often as is noted
pub record CountsKeys (counts : KeyCounts) (told : List Entry) : Type 0 where
  pub rows : counts.rows ≡ key_rows told
  pub early : (key : ℕ) → has_row key counts.rows ≡ false → early_count counts.early key ≡ removal_count told key

-- the rows after one more put of a key: it is counted in the key's row; a key with no row gets one, behind the others, with the removals that it had
abbrev pub with_put : ℕ → ℕ → List WatchRow → List WatchRow
with_put key removals [] = row_of key 1 removals ∷ []
with_put key removals (row ∷ rows) = if row.a == key then row_of key (raised true row.b) row.c ∷ rows else row ∷ with_put key removals rows

-- the rows after one more removal of a key: it is counted in the key's row, where there is one
abbrev pub with_removal : ℕ → List WatchRow → List WatchRow
with_removal key [] = []
with_removal key (row ∷ rows) = if row.a == key then row_of key row.b (raised true row.c) ∷ rows else row ∷ with_removal key rows

-- the removals of keys without a row, after one more of a key
abbrev pub with_early : ℕ → List (ℕ × ℕ) → List (ℕ × ℕ)
with_early key [] = (key, 1) ∷ []
with_early key (e ∷ early) = if e.0 == key then (key, raised true e.1) ∷ early else e ∷ with_early key early

-- after one more put of a key
abbrev pub put_counted : ℕ → KeyCounts → KeyCounts
put_counted key counts = record { rows = with_put key (early_count counts.early key) counts.rows; early = counts.early }

-- after one more removal of a key
abbrev pub removal_counted : ℕ → KeyCounts → KeyCounts
removal_counted key counts =
    if has_row key counts.rows
    then record { rows = with_removal key counts.rows; early = counts.early }
    else record { rows = counts.rows; early = with_early key counts.early }

-- the key that a put or a removal names
abbrev pub changed_key : Event → Option ℕ
changed_key (events.Put bucket version key value) = Some key
changed_key (events.Removed bucket version key) = Some key
changed_key _ = None

-- the event changes a key that has no row yet
abbrev pub ChangesNewKey : List WatchRow → Event → Type 0
ChangesNewKey rows event = IsSomeAnd (changed_key event) (λ key. has_row key rows ≡ false)
