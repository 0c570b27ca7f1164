-- What a record is, and how one speaks of its positions.
use Rattle.std.specs.Prelude.{ℕ, List, [], ◌∷◌, Bool, not, ◌&&◌, ◌||◌, if◌then◌else◌, ◌+◌, false, ◌==◌, true, ◌≡◌}
use Rattle.wfe_defs.specs.Entry.{Entry}
use Rattle.wfe_defs.specs.declared.event.Event.{Event}
use Rattle.wfe_defs.specs.declared.event.Event.TheVariants as events

-- A record, and also a position in one: the entries before it. `Then p i e`: after p, seat i tells e.
pub data Past : Type 0 where
  Start : Past
  Then : Past → (seat : ℕ) → Event → Past

-- the record with these entries at its end
abbrev pub tells : Past → List Entry → Past
tells p [] = p
tells p (x ∷ xs) = tells (Then p x.seat x.event) xs

-- the record with these events of a seat at its end
abbrev pub tells_of : Past → ℕ → List Event → Past
tells_of p i [] = p
tells_of p i (e ∷ es) = tells_of (Then p i e) i es

-- A test judges an entry at its position.
abbrev pub Test : Type 0
Test = Past → ℕ → Event → Bool

-- f holds at a position after the last entry that passes the test, the one right after it included
abbrev pub held_since : Test → (Past → Bool) → Past → Bool
held_since test f Past.Start = f Past.Start
held_since test f (Past.Then p k e) = f (Past.Then p k e) || (not (test p k e) && held_since test f p)

-- the value right after the last entry that passes the test
abbrev pub value_since : Test → (Past → ℕ) → Past → ℕ
value_since test f Past.Start = f Past.Start
value_since test f (Past.Then p k e) = if test p k e then f (Past.Then p k e) else value_since test f p

-- how many entries pass `counted` since the last one that passes the test
abbrev pub told_since : Test → Test → Past → ℕ
told_since test counted Past.Start = 0
told_since test counted (Past.Then p k e) =
    if test p k e then 0 else if counted p k e then told_since test counted p + 1 else told_since test counted p

-- seat i begins a call
abbrev pub begins : ℕ → Test
begins i p k (events.Begin call) = i == k
begins i p k e = false

-- seat i tells an event of this kind
abbrev pub own : ℕ → (Event → Bool) → Test
own i f p k e = f e && i == k

-- each entry is allowed at its position, by recursion on the record
abbrev pub Each : Test → Past → Type 0
Each ok Past.Start = Unit {0}
Each ok (Past.Then p i e) = (ok p i e ≡ true) × Each ok p

-- each entry is allowed at its position: wherever the record is cut before an entry
abbrev pub EachEntry : Test → Past → Type 0
EachEntry ok r = (before : Past) (i : ℕ) (e : Event) (later : List Entry) → r ≡ tells (Past.Then before i e) later → ok before i e ≡ true
