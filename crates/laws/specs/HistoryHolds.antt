-- What stands at an index of a seat in each history, where one row does at most, and what protections find.
use Rattle.laws.specs.Standing.{is_copy}
use Rattle.wfe_words.specs.Schemes.{has_one_interval}
use Rattle.std.specs.Prelude.{Bool, List, None, Option, Some, false, if◌then◌else◌, is_none, is_some, not, true, ℕ, ◌&&◌, ◌==◌, ◌||◌, ◌≡◌, nat_le, nat_lt, suc, zero, ◌<◌}
use Rattle.model_record.specs.Record.{EachEntry, Past, Test, begins, held_since, tells}
use Rattle.model_record.specs.defs.Entry.{Entry}
use Rattle.model_record.specs.defs.declared.shown.Shown.{Shown}
use Rattle.model_record.specs.defs.declared.shown.Shown.TheVariants.{Eras, Nothing, Row}
use Rattle.model_record.specs.defs.Shown.{shown}
use Rattle.model_record.specs.defs.declared.call.Call.TheVariants as calls
use Rattle.model_record.specs.defs.declared.call.Call.{Call}
use Rattle.model_record.specs.defs.declared.event.Event.TheVariants as events
use Rattle.model_record.specs.defs.declared.event.Guard.TheVariants.{Helper, Index, Whole}
use Rattle.model_record.specs.defs.declared.event.Root.TheVariants as roots
use Rattle.wfe_words.specs.declared.config.Config.{Config}
use Rattle.wfe_words.specs.declared.config.SchemeKind.{SchemeKind}
use Rattle.laws.specs.HoldLaw.{finds_ok, has_had, is_blank, is_held, is_last}
use Rattle.laws.specs.NoReuse.{is_reuse}
use Rattle.laws.specs.Once.{is_slot}
use Rattle.laws.specs.StateAt.{began_of, bucket_at, head_at, is_dequeue, is_row, next_at, null_of, stood_at, tail_at, published_at, value_of}
use Rattle.laws.specs.StructuresAt.{row_at}

-- the entry does not reuse row s, or the row does not stand at index j of seat k
abbrev pub reuse_ok : ℕ → ℕ → ℕ → Test
reuse_ok k j s p i e = not (is_row s (stood_at k j p) && is_reuse s e)

abbrev pub ReuseLaw : Past → Type 0
ReuseLaw r = (k j s : ℕ) → EachEntry (reuse_ok k j s) r

-- at a Clear of a seat the row stands at that index of the seat
abbrev pub clears_ok : Test
clears_ok p i (events.Clear index slot) = is_row slot (stood_at i index p)
clears_ok p i event = true

abbrev pub ClearLaw : Past → Type 0
ClearLaw r = EachEntry clears_ok r

-- a hold protects at index 2, a dequeue at 0 and 1, and all others that protect at 0
abbrev pub protects_at : Option Call → ℕ → Bool
protects_at (Some (calls.Get key)) index = index == 0
protects_at (Some (calls.Put key value)) index = index == 0
protects_at (Some (calls.Remove key)) index = index == 0
protects_at (Some (calls.PutIf key value version)) index = index == 0
protects_at (Some (calls.Enqueue value)) index = index == 0
protects_at (Some calls.Dequeue) index = index == 0 || index == 1
protects_at (Some (calls.Hold key)) index = index == 2
protects_at call index = false

-- a call clears where it protects, a release at index 2, a drop at its index, a copy where it copies to, and one by which the seat leaves
-- at each index from 2 on
abbrev pub clears_at : Option Call → ℕ → Bool
clears_at (Some calls.Release) index = index == 2
clears_at (Some (calls.DropIndex dropped)) index = (index == dropped) && nat_le 2 dropped
clears_at (Some (calls.Copy from to)) index = (index == to) && (nat_le 2 from && nat_lt from to)
clears_at (Some calls.Leave) index = nat_le 2 index
clears_at call index = protects_at call index

-- So index 2 is held only in a hold and cleared only in a hold, a release, a drop or where the seat leaves, and index 1 is used only in a
-- dequeue.
abbrev pub indexes_ok : Test
indexes_ok p i (events.Held index slot steps) = protects_at (began_of i p) index
indexes_ok p i (events.Null index steps) = protects_at (began_of i p) index
indexes_ok p i (events.Clear index slot) = clears_at (began_of i p) index
indexes_ok p i event = true

abbrev pub IndexLaw : Past → Type 0
IndexLaw r = EachEntry indexes_ok r

-- where a seat tells at an index that a row stands, or that there is none, or copies one there, nothing stands at that index of the seat
abbrev pub lone_ok : Test
lone_ok p i (events.Held index slot steps) = is_none (stood_at i index p)
lone_ok p i (events.Null index steps) = is_none (stood_at i index p)
lone_ok p i (events.Copied from index slot) = is_none (stood_at i index p)
lone_ok p i event = true

abbrev pub LoneLaw : Past → Type 0
LoneLaw r = EachEntry lone_ok r

-- a row that is copied stands where it is copied from, and the copy, which the call is of, goes upwards from an index from 2 on
abbrev pub copies_ok : Test
copies_ok p i (events.Copied from index slot) =
    is_copy from index (began_of i p) && (is_row slot (stood_at i from p) && (nat_le 2 from && nat_lt from index))
copies_ok p i event = true

abbrev pub CopyLaw : Past → Type 0
CopyLaw r = EachEntry copies_ok r

-- wherever the record is cut, a row that stands at an index of a seat is taken, and what the guard of that index publishes keeps its life
abbrev pub StoodThroughout : Config → Past → Type 0
StoodThroughout config r =
    (before : Past) (later : List Entry) (k j s : ℕ)
    → r ≡ tells before later
    → stood_at k j before ≡ Some s
    → is_held config k j s before ≡ true

-- so it is with each row that is told to stand, and where it is told that there is none, but for index 1, where a dequeue follows
-- the next link of the head's row
abbrev pub sources_ok : Config → Test
sources_ok c p i (events.Held index slot steps) = index == 1 || has_had c i p (began_of i p) (Some slot)
sources_ok c p i (events.Null index steps) = index == 1 || has_had c i p (began_of i p) None
sources_ok c p i event = true

abbrev pub SourceLaw : Config → Past → Type 0
SourceLaw c r = EachEntry (sources_ok c) r

abbrev pub FindLaw : Past → Type 0
FindLaw r = EachEntry finds_ok r

abbrev pub stands_as : (row stood : Option ℕ) → Bool
stands_as None stood = false
stands_as (Some slot) stood = is_row slot stood

-- a get that tells version 0 has found none; where it tells a later version, the row of that version stands at its index 0
abbrev pub got_right : (b version i : ℕ) → Past → Bool
got_right b version i p = if version == 0 then null_of i p else stands_as (row_at b version p) (stood_at i 0 p)

abbrev pub gots_ok : Test
gots_ok p i (events.Got bucket version key value) = got_right bucket version i p
gots_ok p i event = true

abbrev pub GotLaw : Past → Type 0
GotLaw r = EachEntry gots_ok r

-- the row that a root had, if it had one, stands
abbrev pub stands_for : (had stood : Option ℕ) → Bool
stands_for None stood = true
stands_for (Some slot) stood = is_row slot stood

-- Where a seat links a row at a bucket's root, at the head or at the tail, the row that the root had stands at its index 0, and
-- where it links one at a next link, the row whose link it is. What the head is linked to stands at its index 1, and so does what
-- a dequeue links the tail to.
abbrev pub links_ok : (slots : ℕ) → Test
links_ok slots p i (events.Link (roots.Bucket bucket) slot) = stands_for (bucket_at bucket p) (stood_at i 0 p)
links_ok slots p i (events.Link (roots.Next parent) slot) = is_row parent (stood_at i 0 p)
links_ok slots p i (events.Link roots.Head slot) = is_row (head_at slots p) (stood_at i 0 p) && is_row slot (stood_at i 1 p)
links_ok slots p i (events.Link roots.Tail slot) =
    is_row (tail_at slots p) (stood_at i 0 p) && (not (is_dequeue (began_of i p)) || is_row slot (stood_at i 1 p))
links_ok slots p i event = true

abbrev pub LinkLaw : (slots : ℕ) → Past → Type 0
LinkLaw slots r = EachEntry (links_ok slots) r

-- Where a seat tells at index 1 that a row stands, the row that the head has stands at its index 0, and where it tells at index 1
-- that there is none, some row stands at its index 0.
abbrev pub follows_ok : (slots : ℕ) → Test
follows_ok slots p i (events.Held index slot steps) = not (index == 1) || is_row (head_at slots p) (stood_at i 0 p)
follows_ok slots p i (events.Null index steps) = not (index == 1) || is_some (stood_at i 0 p)
follows_ok slots p i event = true

abbrev pub FollowLaw : (slots : ℕ) → Past → Type 0
FollowLaw slots r = EachEntry (follows_ok slots) r

-- so it was with the row that stands, at a position of the call of seat i
abbrev pub was_last : (slots i : ℕ) → Past → (stood : Option ℕ) → Bool
was_last slots i p None = false
was_last slots i p (Some row) = held_since (begins i) (is_last slots row) p

-- Where a seat tells at index 1 that a row stands, it is the next row of the row that the head has. Where it tells there that there
-- is none, some row stands at its index 0, and no row was next to that while the head had it, at a position of the call.
abbrev pub behind_ok : (slots : ℕ) → Test
behind_ok slots p i (events.Held index slot steps) = not (index == 1) || is_slot slot (next_at (head_at slots p) p)
behind_ok slots p i (events.Null index steps) = not (index == 1) || was_last slots i p (stood_at i 0 p)
behind_ok slots p i event = true

abbrev pub BehindLaw : (slots : ℕ) → Past → Type 0
BehindLaw slots r = EachEntry (behind_ok slots) r

-- at an End of a seat nothing stands at its index j, but for those from 2 on
abbrev pub bare_ok : ℕ → Test
bare_ok j p i (events.End steps answer) = is_none (stood_at i j p) || nat_le 2 j
bare_ok j p i event = true

abbrev pub BareLaw : Past → Type 0
BareLaw r = (j : ℕ) → EachEntry (bare_ok j) r

-- the first of two, if it is one, and else the other
abbrev pub first_of : Option ℕ → Option ℕ → Option ℕ
first_of None other = other
first_of (Some slot) other = Some slot

-- something is published exactly where a row stands
abbrev pub is_alike : Shown → Option ℕ → Bool
is_alike Nothing None = true
is_alike (Eras span) (Some slot) = true
is_alike (Row row) (Some slot) = true
is_alike value slot = false

-- an index word publishes where a row stands, and those of 0 and 1 publish nothing
abbrev pub index_rests : SchemeKind → ℕ → Past → (index : ℕ) → Bool
index_rests scheme i p j =
    let value : Shown = published_at scheme (Index i j) p in
    if nat_lt j 2 then is_blank value else is_alike value (stood_at i j p)

-- what stands at the first index from 2 up to below a number at which something stands
abbrev pub kept_below : ℕ → Past → (below : ℕ) → Option ℕ
kept_below i p zero = None
kept_below i p (suc j) = first_of (kept_below i p j) (if nat_lt j 2 then None else stood_at i j p)

-- where a call ends, under 2GE the seat's interval word publishes where a row stands at an index from 2 on
abbrev pub spans_ok : Config → Test
spans_ok config p i (events.End steps answer) = is_alike (shown (value_of (Whole i) p)) (kept_below i p config.indexes)
spans_ok config p i event = true

-- under the other schemes its helper word publishes nothing
abbrev pub helpers_ok : Test
helpers_ok p i (events.End steps answer) = is_none (value_of (Helper i) p)
helpers_ok p i event = true

-- and an index word where a row stands at the index
abbrev pub words_ok : SchemeKind → (index : ℕ) → Test
words_ok scheme j p i (events.End steps answer) = index_rests scheme i p j
words_ok scheme j p i event = true

pub record RestLaw (config : Config) (r : Past) : Type 0 where
  pub spans : has_one_interval config.scheme ≡ true → EachEntry (spans_ok config) r
  pub helpers : has_one_interval config.scheme ≡ false → EachEntry helpers_ok r
  pub words : has_one_interval config.scheme ≡ false → (j : ℕ) → j < config.indexes → EachEntry (words_ok config.scheme j) r

-- A row stands at an index of a seat from the Held that tells so to the Clear. While it does, it is not used again.
pub record HistoryStands (r : Past) : Type 0 where
  -- no entry gives a row, or says that it is unused or back, while it stands at an index of a seat
  pub reuse : ReuseLaw r
  -- a seat tells that a row stands at an index no more only where the row stands there
  pub clears : ClearLaw r
  -- only holds, what lets go of them and a leave use index 2, only dequeues index 1, and only copies, drops and a leave those above 2
  pub indexes : IndexLaw r
  -- what is copied stands where it is copied from
  pub copies : CopyLaw r

-- What stands is covered, and was there to be found.
pub record HistoryHolds (config : Config) (r : Past) : Type 0 where
  -- at each position what stands is taken, and what the guard of its index publishes keeps its life
  pub throughout : StoodThroughout config r
  -- what a call holds at its root, or that there is nothing, the root had at a position of the call
  pub sources : SourceLaw config r
  -- where a call ends it has held the row of its root, or told that there is none
  pub finds : FindLaw r
  -- a get tells a version whose row stands, or that it has found none
  pub gots : GotLaw r
  -- the row that a link replaces, or behind which it links, stands at index 0, and the head's next row at index 1
  pub links : LinkLaw config.slots r
  -- where a row is held at index 1 the head's row stands at index 0, and where there is none some row does
  pub follows : FollowLaw config.slots r
  -- what is held at index 1 is the next row of the head's row; where nothing is, the head's row had no next one at a position of the call
  pub behind : BehindLaw config.slots r
  -- where a call ends nothing stands at an index of its seat below 2
  pub bare : BareLaw r
  -- where a call ends its seat's guards publish nothing, but for what is held on
  pub rests : RestLaw config r
