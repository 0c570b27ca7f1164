-- How many seats of a table have let go of it, and what others have found of that.
use Rattle.std.specs.Prelude.{List, if◌then◌else◌, length, ℕ, [], ◌%◌, ◌+◌, ◌==◌, ◌^◌, ◌∷◌, ◌≡◌, ◌≤◌}
use mathlib.Core.Option.{some}
use lib.ListN.{get_elem?}
use Rattle.atomic_table.specs.Table.{Me, State, Step}

-- a seat is counted as gone; or the member of this number looks
pub data Event : Type 0 where
  counts : Event
  looks : ℕ → Event

-- how many were counted by these events, the last of which comes first
abbrev pub counted_in : List Event → ℕ
counted_in [] = 0
counted_in (counts ∷ log) = (counted_in log + 1) % 2 ^ 64
counted_in (looks by ∷ log) = counted_in log

-- what a member has found by then, the last first
abbrev pub found_by : ℕ → List Event → List ℕ
found_by member [] = []
found_by member (counts ∷ log) = found_by member log
found_by member (looks by ∷ log) = if by == member then counted_in log ∷ found_by member log else found_by member log

-- Between any two steps the word is what was counted, and each member has found what was so when it looked. A member that has yet to come
-- has found nothing.
pub record IsCounted (s : State (Unit {0}) (List ℕ)) : Type 0 where
  pub log : List Event
  pub word : s.words ≡ counted_in log ∷ []
  pub found : (member : ℕ) (view : List ℕ) → get_elem? s.views member ≡ some view → view ≡ found_by member log
  pub none : (member : ℕ) → length s.views ≤ member → found_by member log ≡ []

-- what a member knows, which has no slot
abbrev pub Knows : Type 0
Knows = Me (Unit {0}) (List ℕ)

-- it comes, and has found nothing; it looks, and has found this; it is counted
abbrev pub comes : Step (Unit {0}) → Knows → ℕ → Knows → Type 0
comes st before found after = after.0 ≡ []

abbrev pub finds : Step (Unit {0}) → Knows → ℕ → Knows → Type 0
finds st before found after = after.0 ≡ found ∷ before.0

abbrev pub goes : Step (Unit {0}) → Knows → ℕ → Knows → Type 0
goes st before found after = after.0 ≡ before.0
