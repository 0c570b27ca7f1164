-- A walk that ends with Full has seen each row taken: the slots that a step of this walk has shown taken.
use Rattle.std.specs.Prelude.{ℕ, ◌≡◌, ◌≤◌, ◌+◌, ◌==◌, ◌&&◌, ◌||◌, nat_le, nat_lt, Bool, true, false, if◌then◌else◌}
use Rattle.inv_rows.specs.words.Place.{claim_word, is_valid}
use Rattle.inv_rows.specs.words.declared.layout.Layout.{Layout}
use Rattle.inv_rows.specs.defs.declared.call.Call.{Call}
use Rattle.inv_rows.specs.model.declared.ends.AllocateEnd.TheVariants as allocate_ends
use Rattle.inv_rows.specs.model.Allocate.{is_claimed}
use Rattle.inv_rows.specs.model.Machine.{after}
use Rattle.inv_rows.specs.model.Memory.{upd}
use Rattle.inv_rows.specs.model.Posts.{counted}
use Rattle.inv_rows.specs.model.Phases.{Walk, AllocateAt, Base, Ends}
use Rattle.inv_rows.specs.model.Phases.AllocateAt.{LoadBirth, ClaimSlot, StoreLife}
use Rattle.inv_rows.specs.model.Phases.Base.{Allocate}
use Rattle.inv_rows.specs.model.Phases.Ending.{Allocated}
use Rattle.inv_rows.specs.model.Calls.{Why, Phase, Runs}
use Rattle.inv_rows.specs.model.World.{World, start, step, begin, finds}
use Rattle.inv_rows.specs.Shapes.Seats.{Seats}
use Rattle.inv_rows.specs.Rows.{View, is_taken}
use Rattle.inv_rows.specs.Agree.{Agree}

-- the slots that a seat's walk has seen taken, after a step that found this: none where the walk begins, and in a step of
-- the walk those that the claim word shows that it found
abbrev pub seen_at : AllocateAt → ℕ → (ℕ → Bool) → ℕ → Bool
seen_at LoadBirth found seen s = false
seen_at (ClaimSlot birth walk) found seen s = seen s || ((claim_word s == claim_word walk.slot) && is_claimed found s)
seen_at (StoreLife birth slot) found seen s = seen s

abbrev pub seen_base : Base → ℕ → (ℕ → Bool) → ℕ → Bool
seen_base (Allocate at) found seen s = seen_at at found seen s
seen_base base found seen s = seen s

abbrev pub seen_in : Phase → ℕ → (ℕ → Bool) → ℕ → Bool
seen_in (Runs why base) found seen s = seen_base base found seen s
seen_in phase found seen s = seen s

-- by seat and slot, after a step of seat i
abbrev pub seen_after : World → ℕ → (ℕ → ℕ → Bool) → ℕ → ℕ → Bool
seen_after w i seen = upd seen i (seen_in (w.seat i).phase (finds w i) (seen i))

-- so many slots come after this one, round the table to the one before the start
abbrev pub placed : ℕ → ℕ → ℕ → ℕ → Bool
placed slots start slot left = if nat_le start slot then slot + left == slots + start else slot + left + 1 == start

-- a slot between the start and this one, round the table
abbrev pub has_passed : ℕ → ℕ → ℕ → Bool
has_passed start slot s = if nat_le start slot then nat_le start s && nat_lt s slot else nat_le start s || nat_lt s slot

-- each slot that the walk has passed was seen taken, and so was each that it was shown taken in the claim words that it
-- remembers
pub record WalkSeen (slots : ℕ) (walk : Walk) (seen : ℕ → Bool) : Type 0 where
  pub start : walk.start ≤ slots
  pub slot : walk.slot ≤ slots
  pub at : placed slots walk.start walk.slot walk.left ≡ true
  pub passed : (s : ℕ) → s ≤ slots → has_passed walk.start walk.slot s ≡ true → seen s ≡ true
  pub first : (s : ℕ) → (claim_word s == claim_word walk.start) ≡ true → is_claimed walk.first s ≡ true → seen s ≡ true
  pub shown : (s : ℕ) → (claim_word s == claim_word walk.slot) ≡ true → is_claimed walk.shown s ≡ true → seen s ≡ true

abbrev pub WalkAt : ℕ → (ℕ → Bool) → AllocateAt → Type 0
WalkAt slots seen LoadBirth = Unit {0}
WalkAt slots seen (ClaimSlot birth walk) = WalkSeen slots walk seen
WalkAt slots seen (StoreLife birth slot) = Unit {0}

abbrev pub WalkBase : ℕ → (ℕ → Bool) → Base → Type 0
WalkBase slots seen (Allocate at) = WalkAt slots seen at
WalkBase slots seen base = Unit {0}

abbrev pub WalkPhase : ℕ → (ℕ → Bool) → Phase → Type 0
WalkPhase slots seen (Runs why base) = WalkBase slots seen base
WalkPhase slots seen phase = Unit {0}

pub record Walking (w : World) (seen : ℕ → ℕ → Bool) : Type 0 where
  pub walks : (k : ℕ) → WalkPhase w.layout.config.slots (seen k) (w.seat k).phase

abbrev pub WalkingStart : Type 0
WalkingStart = (layout : Layout) (seen : ℕ → ℕ → Bool) → Walking (start layout) seen

abbrev pub WalkingBegin : Type 0
WalkingBegin =
    (w : World) (i : ℕ) (call : Call) (seen : ℕ → ℕ → Bool)
    → is_valid w.layout ≡ true
    → Seats w
    → Walking w seen
    → Walking (begin w i call) seen

abbrev pub WalkingKept : Type 0
WalkingKept =
    (w : World) (i : ℕ) (seen : ℕ → ℕ → Bool)
    → is_valid w.layout ≡ true
    → Seats w
    → Walking w seen
    → Walking (step w i) (seen_after w i seen)

-- a step that ends a walk with Full has seen each row of the table taken
abbrev pub FullSeen : Type 0
FullSeen =
    (w : World) (i : ℕ) (why : Why) (birth : ℕ) (walk : Walk) (seen : ℕ → ℕ → Bool) (s : ℕ)
    → Seats w
    → Walking w seen
    → (w.seat i).phase ≡ Runs why (Allocate (ClaimSlot birth walk))
    → (after (Allocate (ClaimSlot birth walk)) (counted (w.seat i).post) (finds w i)).outcome ≡ Ends (Allocated allocate_ends.Full)
    → s ≤ w.layout.config.slots
    → seen_after w i seen i s ≡ true

-- a row that a step has seen taken is taken then
abbrev pub SeenTaken : Type 0
SeenTaken =
    (w : World) (i s : ℕ) (v : View) (seen : ℕ → ℕ → Bool)
    → Agree w v
    → s ≤ w.layout.config.slots
    → seen i s ≡ false
    → seen_after w i seen i s ≡ true
    → is_taken (v.status s) ≡ true
