-- Which deleter each slot has, and what is called and left where slots are settled.
use Rattle.std.specs.Prelude.{ℕ, ◌≡◌, ◌+◌, List, [], ◌∷◌, ◌++◌, length, min, ◌-◌, ◌^◌, Option, None, Some, if◌then◌else◌, slice_index_or}
use Rattle.laws.specs.StateAt.{is_one_of, without_row}
use Rattle.wfe_final.specs.Ledgers.{LedgerNow}

-- for each slot the id of its deleter, or none
abbrev pub Ids : Type 0
Ids = List (Option ℕ)

-- a slot's; past the last slot there is none
abbrev pub id_at : Ids → (slot : ℕ) → Option ℕ
id_at ids slot = slice_index_or ids slot None

-- the call of a slot's deleter, where it has one
abbrev pub call_of : Option ℕ → (slot : ℕ) → List (ℕ × ℕ)
call_of None slot = []
call_of (Some id) slot = (id, slot) ∷ []

-- the calls of the deleters that these slots have, in the order of the slots
abbrev pub calls_at : Ids → (slots : List ℕ) → List (ℕ × ℕ)
calls_at ids [] = []
calls_at ids (slot ∷ slots) = call_of (id_at ids slot) slot ++ calls_at ids slots

-- each slot once, where it stands first
abbrev pub firsts : List ℕ → List ℕ
firsts [] = []
firsts (slot ∷ slots) = slot ∷ without_row slot (firsts slots)

-- a count as it is told: at the greatest number of 32 bits it stands still
abbrev pub capped : ℕ → ℕ
capped count = min count (2 ^ 32 - 1)

-- the slots of the list were settled
pub record Settles (old new : Ids) (slots : List ℕ) (before after : LedgerNow) : Type 0 where
  -- each of them that had a deleter has called it once, in the order in which they stand first
  pub calls : after.calls ≡ before.calls ++ calls_at old (firsts slots)
  pub spare : after.spare + length (calls_at old (firsts slots)) ≡ before.spare
  -- they have none now, and every other slot has the one that it had
  pub left : (slot : ℕ) → id_at new slot ≡ (if is_one_of slot slots then None else id_at old slot)
  pub same : length new ≡ length old
