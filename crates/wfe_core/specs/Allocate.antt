-- Allocate a row: a walk over the claim bits from the cursor on. A step sets one bit and shows a whole claim word; a slot
-- that a step of this walk has shown taken is passed over.
use Rattle.std.specs.Prelude.{ℕ, zero, suc, ◌==◌, ◌+◌, Bool, true, false, if◌then◌else◌, bit_or, [], ◌∷◌, Option, Some, None}
use Rattle.std.specs.Int.{bit_at}
use Rattle.wfe_words.specs.Place.{claim_word, claim_bit}
use Rattle.wfe_defs.specs.declared.event.Event.TheVariants as events
use Rattle.wfe_core.specs.declared.ends.AllocateEnd.TheVariants as allocate_ends
use Rattle.wfe_core.specs.declared.post.Post.{Post}
use Rattle.wfe_core.specs.Phases.{Walk, Turn, goes, ends}
use Rattle.wfe_core.specs.Phases.AllocateAt.{ClaimSlot, StoreLife}
use Rattle.wfe_core.specs.Phases.Base.{Allocate}
use Rattle.wfe_core.specs.Phases.Ending.{Done, Allocated}

-- the claim word shows the slot taken
abbrev pub is_claimed : ℕ → ℕ → Bool
is_claimed word slot = bit_at word (claim_bit slot) == 1

-- the slot after it, round the table
abbrev pub next_slot : ℕ → ℕ → ℕ
next_slot slots slot = if slot == slots then 0 else slot + 1

-- a walk from a slot over all the rows
abbrev pub walk_from : ℕ → ℕ → Walk
walk_from slots start = record { start = start; slot = start; left = slots; first = 0; shown = 0 }

-- what the walk was shown of the claim word that has a slot
abbrev pub shown_of : Walk → ℕ → ℕ
shown_of walk slot =
    if claim_word slot == claim_word walk.start then walk.first
    else if claim_word slot == claim_word walk.slot then walk.shown
    else 0

-- the walk once its slot's claim word was seen
abbrev pub shown_word : Walk → ℕ → Walk
shown_word walk word =
    record walk {
      first = if claim_word walk.slot == claim_word walk.start then bit_or walk.first word else walk.first;
      shown = bit_or (shown_of walk walk.slot) word;
    }

-- the walk at a later slot, with so many after it
abbrev pub walk_at : Walk → ℕ → ℕ → Walk
walk_at walk slot left = record walk { slot = slot; left = left; shown = shown_of walk slot }

-- the walk at the next slot that it was not shown taken, if one is left
abbrev pub walk_on : ℕ → Walk → (left : ℕ) → (slot : ℕ) → Option Walk
walk_on slots walk zero slot = None
walk_on slots walk (suc left) slot =
    elim (is_claimed (shown_of walk (next_slot slots slot)) (next_slot slots slot)) [
      | true ↦ walk_on slots walk left (next_slot slots slot)
      | false ↦ Some (walk_at walk (next_slot slots slot) left)
    ]

-- the walk after its slot was found taken
abbrev pub walk_past : ℕ → Walk → ℕ → Option Walk
walk_past slots walk word = walk_on slots (shown_word walk word) walk.left walk.slot

-- 1. Load the clock: the birth era.
abbrev pub after_load_birth : Post → ℕ → Turn
after_load_birth post found = goes post [] (Allocate (ClaimSlot found (walk_from post.layout.config.slots post.cursor)))

-- the next try, or each row was shown taken
abbrev pub walking : ℕ → Post → Option Walk → Turn
walking birth post None = ends post [] (Allocated allocate_ends.Full)
walking birth post (Some walk) = goes post [] (Allocate (ClaimSlot birth walk))

-- 2. Set the slot's claim bit: the row is given where it was not set before.
abbrev pub after_claim_slot : ℕ → Walk → Post → ℕ → Turn
after_claim_slot birth walk post found =
    if is_claimed found walk.slot
    then walking birth post (walk_past post.layout.config.slots walk found)
    else
    goes
    (record post { cursor = next_slot post.layout.config.slots walk.slot })
    (events.Give walk.slot birth ∷ [])
    (Allocate (StoreLife birth walk.slot))

-- 3. Store the birth era into the slot's lifetime word.
abbrev pub after_store_life : ℕ → ℕ → Post → Turn
after_store_life birth slot post = ends post [] (Allocated (allocate_ends.Given slot birth))

-- Give up a row that was not linked: clear its claim bit.
abbrev pub after_give_up : ℕ → Post → Turn
after_give_up slot post = ends post (events.Unused slot ∷ []) Done
