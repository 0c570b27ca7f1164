-- What calls on cells of objects come to, by the calls on cells of numbers of which they are made.
use Rattle.std.specs.Prelude.{Err, None, Ok, Option, Result, Some, [], min, ℕ, ◌%◌, ◌*◌, ◌+◌, ◌/◌, ◌<◌, ◌≡◌, ◌^◌, ◌≤◌}
use Rattle.wfe_cells.specs.Calls.{IsFresh, IsReplaced, IsTried, UserNow, store_by}
use Rattle.wfe_cells.specs.declared.user.Swapped.{Swapped}
use Rattle.wfe_core.specs.defs.declared.call.Answer.TheVariants as answers
use Rattle.wfe_core.specs.defs.declared.call.Call.TheVariants as calls
use Rattle.wfe_core.specs.words.declared.config.Config.{Config}
use Rattle.wfe_core.specs.words.declared.layout.Layout.{Layout}
use Rattle.wfe_shared_cells.specs.declared.cells.Seen.{Seen}
use Rattle.wfe_shared_cells.specs.declared.cells.SwapRefusal.{SwapRefusal}
use Rattle.wfe_shared_cells.specs.declared.cells.SwapRefusal.TheVariants as refusals
use Rattle.wfe_cells.specs.table.Calls.{IsMade}
use Rattle.wfe_cells.specs.table.Public.{TableNow}
use Rattle.wfe_cells.specs.table.rule.Views.{seat_of}
use Rattle.wfe_cells.specs.table.closed.declared.refusals.PutIfRefusal.{PutIfRefusal}

-- a thread's part: its part in cells of numbers, and how many objects it has offered
pub record PartNow : Type 0 where
  pub user : UserNow
  pub count : ℕ

-- a new part in these cells: it has offered none, and its part in cells of numbers is new
pub record IsNewPart (shared : TableNow) (part : PartNow) : Type 0 where
  pub user : IsFresh shared part.user
  pub count : part.count ≡ 0

-- how many places for objects there are: for what is in cells, for what each thread has replaced and not had back and what each index
-- keeps, and for what each thread offers
abbrev pub places_of : Config → ℕ
places_of config = min ((config.every + config.indexes + 1) * config.seats + config.buckets) 65536

-- the number of the object that it offers next; there are at most 64 seats
abbrev pub next_number : PartNow → ℕ
next_number part = part.count * 64 + seat_of part.user.seat.track % 64

-- the word by which a cell names an object, and the object's number in it
abbrev pub word_of : (number place : ℕ) → ℕ
word_of number place = number * 65536 + place

abbrev pub number_in : (word : ℕ) → ℕ
number_in word = word / 65536

-- the number of the object that a cell names, or none
abbrev pub number_named : Option ℕ → Option ℕ
number_named None = None
number_named (Some word) = Some (number_in word)

-- Objects of one number were offered by one seat, after as many others; and a word tells the number of the object that it was made for.
pub record NumbersTell : Type 0 where
  pub apart :
      (one other : PartNow) → next_number one ≡ next_number other
      → (one.count ≡ other.count) × (seat_of one.user.seat.track % 64 ≡ seat_of other.user.seat.track % 64)
  pub told : (number place : ℕ) → place < 65536 → number_in (word_of number place) ≡ number

-- nothing is left of what this part has replaced and may drop
pub record IsCollected (old new : UserNow) : Type 0 where
  pub seat : new.seat ≡ old.seat
  pub kept : new.store.kept ≡ old.store.kept
  pub free : new.store.free ≡ []
  pub room : old.store.spare ≤ new.store.spare

-- what was read was let go of, and then nothing was left to drop
pub record IsReleased (layout : Layout) (old new : UserNow) : Type 0 where
  pub mid : UserNow
  pub made : IsMade layout old.seat mid.seat calls.Release answers.Released
  pub store : mid.store ≡ store_by mid.seat None old.store
  pub collected : IsCollected mid new

-- the version that a swap has made, or why it made none
abbrev pub version_of : Result Swapped PutIfRefusal → Result ℕ PutIfRefusal
version_of (Ok swapped) = Ok swapped.version
version_of (Err refusal) = Err refusal

-- the cell was given what this word names, or nothing, or that was refused; then nothing was left to drop
pub record IsGiven (layout : Layout) (old new : UserNow) (seen : Seen) (word : Option ℕ) (result : Result ℕ PutIfRefusal) : Type 0 where
  pub mid : UserNow
  pub swapped : Result Swapped PutIfRefusal
  pub tried : IsTried layout seen.cell old mid seen.loaded word swapped
  pub told : result ≡ version_of swapped
  pub collected : IsCollected mid new

-- the word named the object of this number, at some place
pub record IsOffered (layout : Layout) (old new : UserNow) (seen : Seen) (number : ℕ) (result : Result ℕ PutIfRefusal) : Type 0 where
  pub place : ℕ
  pub below : place < 65536
  pub given : IsGiven layout old new seen (Some (word_of number place)) result

-- The cell was given what this word names, or nothing, whatever it had: by attempts, each of which has read it before. What the last of
-- them has read was seen. Then nothing was left to drop.
pub record IsChanged (layout : Layout) (cell : ℕ) (old new : UserNow) (word : Option ℕ) (seen : Seen) (result : Result ℕ PutIfRefusal) : Type 0 where
  pub mid : UserNow
  pub swapped : Result Swapped PutIfRefusal
  pub cell_is : seen.cell ≡ cell
  pub replaced : IsReplaced layout cell old mid word seen.loaded swapped
  pub told : result ≡ version_of swapped
  pub collected : IsCollected mid new

-- the word named the object of this number, at one place in all attempts
pub record IsSwappedIn (layout : Layout) (cell : ℕ) (old new : UserNow) (number : ℕ) (seen : Seen) (result : Result ℕ PutIfRefusal) : Type 0 where
  pub place : ℕ
  pub below : place < 65536
  pub changed : IsChanged layout cell old new (Some (word_of number place)) seen result

-- the same, of what was seen last
pub record IsNotSwappedIn (layout : Layout) (cell : ℕ) (old new : UserNow) (number : ℕ) (refusal : PutIfRefusal) : Type 0 where
  pub seen : Seen
  pub tried : IsSwappedIn layout cell old new number seen (Err refusal)

-- an object was refused: the table refused it, as is said of that; or nothing was asked of the table
abbrev pub IsRefusedFor : (old new : PartNow) → (IsNotPut : PutIfRefusal → Type 0) → SwapRefusal → Type 0
IsRefusedFor old new IsNotPut refusals.NoPlace = (new.user ≡ old.user) × (new.count ≡ old.count + 1)
IsRefusedFor old new IsNotPut refusals.NoNumber = (new ≡ old) × (2 ^ 41 ≤ old.count)
IsRefusedFor old new IsNotPut (refusals.NotPut refusal) = (new.count ≡ old.count + 1) × IsNotPut refusal
