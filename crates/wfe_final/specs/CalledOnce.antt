-- In a lawful record each deleter is called once at most, and only after its slot went back, when nothing stands on it.
use Rattle.std.specs.Prelude.{ℕ, ◌≡◌, ◌<◌, ◌==◌, Bool, true, false, List, ◌∷◌, ◌++◌}
use Rattle.std.specs.List.{list_any}
use Rattle.laws.specs.NoReuse.{NoReuse}
use Rattle.laws.specs.Once.{Once}
use Rattle.laws.specs.Lists.{has_slot, list_of}
use Rattle.laws.specs.StateAt.{stands, taken_at}
use Rattle.laws.specs.records.Record.{Past, tells}
use Rattle.laws.specs.records.Record.Past.{Then}
use Rattle.wfe_final.specs.defs.Entry.{Entry}
use Rattle.wfe_final.specs.defs.declared.event.Event.{Event}
use Rattle.wfe_final.specs.defs.declared.event.Event.TheVariants as events
use Rattle.wfe_final.specs.Calls.{attached, called, is_attaching}

-- the entry says that the slot went back
abbrev pub is_back_of : ℕ → Event → Bool
is_back_of slot (events.Back other) = slot == other
is_back_of slot event = false

abbrev pub gives_back : ℕ → Entry → Bool
gives_back slot x = is_back_of slot x.event

-- the slot was retired, that Retire is the attaching one of this number, and the slot has not gone back since
pub record IsAttached (slots stored slot number : ℕ) (at : Past) : Type 0 where
  pub from : Past
  pub seat : ℕ
  pub birth : ℕ
  pub retire : ℕ
  pub until : List Entry
  pub cut : at ≡ tells (Then from seat (events.Retire slot birth retire)) until
  pub attaching : is_attaching slots stored from seat (events.Retire slot birth retire) ≡ true
  pub number_is : attached slots stored from ≡ number
  pub kept : list_any (gives_back slot) until ≡ false

-- In a record of a table with so many rows besides the dummy: the deleter that the Retire of this number took is called, after those
-- that were called before it.
pub record IsCalled (rows slots stored : ℕ) (r : Past) (before : List (ℕ × ℕ)) (number slot : ℕ) : Type 0 where
  -- the slot goes back here, and just the deleters before it were called until then
  pub at : Past
  pub seat : ℕ
  pub later : List Entry
  pub cut : r ≡ tells (Then at seat (events.Back slot)) later
  pub told : called slots stored at ≡ before
  -- the deleter was attached at a Retire of the slot, and the slot has not gone back in between
  pub attached_at : IsAttached slots stored slot number at
  pub most : number < stored
  -- it was not called before
  pub first : list_any (λ (call : ℕ × ℕ). call.0 == number) before ≡ false
  -- the slot was taken, on the list of the seat that gives it back, and is free now
  pub taken : taken_at rows slot at ≡ true
  pub listed : has_slot slot (list_of seat at) ≡ true
  pub free : taken_at rows slot (Then at seat (events.Back slot)) ≡ false
  -- it stands at no index of any seat
  pub bare : (k j : ℕ) → stands k j slot at ≡ false

-- so it is with each deleter that is called in a record which keeps these two laws
abbrev pub DeletersCalledOnce : Type 0
DeletersCalledOnce =
    (rows slots stored : ℕ) (r : Past) (before after : List (ℕ × ℕ)) (number slot : ℕ)
    → Once rows r
    → NoReuse r
    → called slots stored r ≡ before ++ (number, slot) ∷ after
    → IsCalled rows slots stored r before number slot
