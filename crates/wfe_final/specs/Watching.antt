-- What a watcher with deleters is seen as, and for which entries it stands.
use Rattle.std.specs.Prelude.{ℕ, ◌≡◌, ◌+◌, ◌-◌, ◌≤◌, nat_lt, nat_le, is_none, is_some, ◌&&◌, if◌then◌else◌, List, ◌++◌, length, take, count_by, slice_index, slice_index_or, slice_set, None, Some}
use Rattle.std.specs.Option.{option_map}
use Rattle.laws.specs.records.Record.{Past, tells}
use Rattle.laws.specs.records.Record.Past.{Start}
use Rattle.wfe_final.specs.defs.Entry.{Entry}
use Rattle.wfe_final.specs.defs.declared.event.Event.{Event}
use Rattle.wfe_final.specs.defs.declared.event.Event.TheVariants as events
use Rattle.wfe_outside.specs.declared.watcher.WatchRow.{WatchRow}
use Rattle.wfe_final.specs.Calls.{attached, attached_to, calls_of, id_taken}
use Rattle.wfe_final.specs.Slots.{Ids, call_of, id_at}

-- the greatest slot; the ids of the store as it was given; those of the deleters that are left in it; for each slot the id of its
-- deleter, or none; and the ledger
pub record Watching : Type 0 where
  pub slots : ℕ
  pub given : List ℕ
  pub left : List ℕ
  pub finals : Ids
  pub calls : List (ℕ × ℕ)
  pub spare : ℕ

-- there is a place for each slot, and room in the ledger for each deleter that was not called yet
pub record IsReady (slots left : ℕ) (finals : Ids) (spare : ℕ) : Type 0 where
  pub places : length finals ≡ slots + 1
  pub room : left + count_by is_some finals ≤ spare

-- after a retirement: the store's last deleter is the slot's, unless the store is empty, or the slot has one or is above the greatest
abbrev pub with_attached : (slot : ℕ) → Watching → Watching
with_attached slot w =
    if nat_le slot w.slots && (is_none (id_at w.finals slot) && nat_lt 0 (length w.left))
    then record w { left = take (length w.left - 1) w.left; finals = slice_set w.finals slot (Some (slice_index w.left (length w.left - 1))) }
    else w

-- after the slot went back: its deleter, where it has one, was called, and it has none
abbrev pub with_settled : (slot : ℕ) → Watching → Watching
with_settled slot w =
    record w {
      finals = slice_set w.finals slot None;
      calls = w.calls ++ call_of (id_at w.finals slot) slot;
      spare = w.spare - length (call_of (id_at w.finals slot) slot);
    }

abbrev pub watched : Event → Watching → Watching
watched (events.Retire slot birth retire) w = with_attached slot w
watched (events.Back slot) w = with_settled slot w
watched event w = w

-- the watcher is where this record leaves it
pub record IsAfter (w : Watching) (p : Past) : Type 0 where
  -- the ledger has the deleters that the record calls
  pub calls : w.calls ≡ calls_of w.slots w.given p
  -- as many as it attaches are gone from the store's end
  pub left : w.left ≡ take (length w.given - attached w.slots (length w.given) p) w.given
  -- each slot has the one that the record attached to it and has not called yet
  pub each : (slot : ℕ) → id_at w.finals slot ≡ option_map (id_taken w.given) (attached_to w.slots (length w.given) slot p)
  pub places : length w.finals ≡ w.slots + 1

-- it stands for these entries
abbrev pub StandsFor : Watching → List Entry → Type 0
StandsFor w told = IsAfter w (tells Start told)

-- the row at a place: the id, the slot, and the place counted from 1
abbrev pub row_at : Watching → ℕ → WatchRow
row_at w place = let call = slice_index_or w.calls place (0, 0) in record { a = call.0; b = call.1; c = place + 1 }
