-- What calls on cells come to, by the calls of the table of which they are made.
use Rattle.std.specs.Prelude.{Bool, Err, None, Ok, Option, Result, Some, [], false, replicate, suc, true, zero, ℕ, ◌+◌, ◌-◌, ◌^◌, ◌≡◌, ◌≤◌}
use Rattle.wfe_core.specs.defs.declared.call.Answer.TheVariants as answers
use Rattle.wfe_core.specs.defs.declared.call.Call.TheVariants as calls
use Rattle.wfe_table.specs.Calls.{IsMade, hold_answer, look_answer, put_if_answer}
use Rattle.wfe_table.specs.Public.{IsOf, SeatNow, TableNow}
use Rattle.wfe_table_end.specs.declared.answers.Done.{Done}
use Rattle.wfe_table_end.specs.declared.answers.Looked.{Looked}
use Rattle.wfe_table_end.specs.declared.refusals.PutIfRefusal.{PutIfRefusal}
use Rattle.wfe_table_end.specs.declared.refusals.PutIfRefusal.TheVariants as put_ifs
use Rattle.wfe_core.specs.words.declared.layout.Layout.{Layout}
use Rattle.wfe_cells.specs.Stores.{StoreNow, left_by, settled}
use Rattle.wfe_cells.specs.declared.user.Loaded.{Loaded}
use Rattle.wfe_cells.specs.declared.user.Swapped.{Swapped}

-- a thread's part: its seat, and the objects that it has replaced
pub record UserNow : Type 0 where
  pub seat : SeatNow
  pub store : StoreNow

-- a part of this table, of a seat that has made no call: nothing is replaced, and there is room for an object of each slot
pub record IsFresh (shared : TableNow) (user : UserNow) : Type 0 where
  pub of : IsOf user.seat shared
  pub log : user.seat.track.local.log ≡ []
  pub kept : user.store.kept ≡ replicate (shared.layout.config.slots + 1) None
  pub free : user.store.free ≡ []
  pub room : shared.layout.config.slots + 1 ≤ user.store.spare

-- an object as a key's value, and none
abbrev pub stored : Option ℕ → ℕ
stored None = 0
stored (Some object) = object + 1

abbrev pub object_of : Option ℕ → Option ℕ
object_of None = None
object_of (Some zero) = None
object_of (Some (suc object)) = Some object

-- what a look shows of a cell; nothing stands there where the cell was never changed
abbrev pub loaded_of : Option Looked → Loaded
loaded_of None = record { version = 0; object = None }
loaded_of (Some looked) = record { version = looked.version; object = object_of looked.value }

-- after a call on the seat that replaced this object, or none
abbrev pub store_by : SeatNow → Option ℕ → StoreNow → StoreNow
store_by seat replaced s = settled seat.track.local.desk.notes replaced s

-- a cell was read: a hold of its row, and a look at the row that is held
pub record IsLoaded (layout : Layout) (cell : ℕ) (old new : UserNow) (loaded : Loaded) : Type 0 where
  pub mid : SeatNow
  pub slot : Option ℕ
  pub held : IsMade layout old.seat mid (calls.Hold cell) (hold_answer slot)
  pub shown : Option Looked
  pub looked : IsMade layout mid new.seat (calls.Look 2 cell) (look_answer shown)
  pub loaded_is : loaded ≡ loaded_of shown
  -- what went back in these calls may be dropped
  pub store : new.store ≡ store_by new.seat None (store_by mid None old.store)

-- a cell was changed where it was as it was read, by a put at that version
pub record IsSwapped (layout : Layout) (cell : ℕ) (old new : UserNow) (seen : Loaded) (object : Option ℕ) (swapped : Swapped) : Type 0 where
  pub done : Done
  pub made : IsMade layout old.seat new.seat (calls.PutIf cell (stored object) seen.version) (answers.Done done.version done.clock)
  pub version : swapped.version ≡ done.version
  -- what was replaced is kept until the row that the put has retired is back
  pub store : new.store ≡ store_by new.seat seen.object old.store
  pub left : swapped.left ≡ left_by new.seat.track.local.desk.notes seen.object old.store

-- or was not
pub record IsRefused (layout : Layout) (cell : ℕ) (old new : UserNow) (seen : Loaded) (object : Option ℕ) (refusal : PutIfRefusal) : Type 0 where
  pub made : IsMade layout old.seat new.seat (calls.PutIf cell (stored object) seen.version) (put_if_answer refusal)
  pub store : new.store ≡ store_by new.seat None old.store

abbrev pub IsTried : Layout → ℕ → UserNow → UserNow → Loaded → Option ℕ → Result Swapped PutIfRefusal → Type 0
IsTried layout cell old new seen object (Ok swapped) = IsSwapped layout cell old new seen object swapped
IsTried layout cell old new seen object (Err refusal) = IsRefused layout cell old new seen object refusal

-- one attempt: the cell was read, and then it was to be changed where it was as it was read
pub record IsAttempt (layout : Layout) (cell : ℕ) (old new : UserNow) (object : Option ℕ) (seen : Loaded) (tried : Result Swapped PutIfRefusal) : Type 0 where
  pub mid : UserNow
  pub loaded : IsLoaded layout cell old mid seen
  pub swapped : IsTried layout cell mid new seen object tried

-- another thread came between
abbrev pub is_stale : Result Swapped PutIfRefusal → Bool
is_stale (Ok swapped) = false
is_stale (Err (put_ifs.Stale version)) = true
is_stale (Err (put_ifs.Spent number)) = false
is_stale (Err (put_ifs.BucketFull version)) = false
is_stale (Err put_ifs.Full) = false

-- so many attempts, one after another, in each of which one did
pub data AllStale (layout : Layout) (cell : ℕ) (object : Option ℕ) (old : UserNow) : (attempts : ℕ) → UserNow → Type 0 where
  NoneYet : AllStale layout cell object old 0 old
  OneMore : (attempts : ℕ) → (mid new : UserNow) → (seen : Loaded) → (tried : Result Swapped PutIfRefusal) → AllStale layout cell object old attempts mid → IsAttempt layout cell mid new object seen tried → is_stale tried ≡ true → AllStale layout cell object old (attempts + 1) new

-- the last of some attempts: the first in which none came between, or the last of 2^64
pub record IsReplaced (layout : Layout) (cell : ℕ) (old new : UserNow) (object : Option ℕ) (seen : Loaded) (tried : Result Swapped PutIfRefusal) : Type 0 where
  pub attempts : ℕ
  pub mid : UserNow
  pub stale : AllStale layout cell object old attempts mid
  pub last : IsAttempt layout cell mid new object seen tried
  pub patient : is_stale tried ≡ true → attempts ≡ 2 ^ 64 - 1
