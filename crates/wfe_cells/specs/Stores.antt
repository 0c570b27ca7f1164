-- The objects that one thread has replaced, by the rows that name them, and those that may be dropped.
use Rattle.std.specs.Prelude.{IfSome, List, None, Option, Some, [], count_by, if◌then◌else◌, is_some, length, slice_index_or, slice_set, sum_by, ℕ, ◌++◌, ◌+◌, ◌-◌, ◌<◌, ◌==◌, ◌∷◌, ◌≡◌}
use Rattle.wfe_core.specs.Desks.{Notes}
use Rattle.wfe_core.specs.defs.declared.lifetime.Lifetime.{Lifetime}
use Rattle.wfe_table.specs.all.RunLaw.{early_backs, late_backs}

-- for each slot the object that its row named, where that was replaced; the objects that may be dropped; and for how many more there is
-- room
pub record StoreNow : Type 0 where
  pub kept : List (Option ℕ)
  pub free : List ℕ
  pub spare : ℕ

abbrev pub object_at : List (Option ℕ) → (slot : ℕ) → Option ℕ
object_at kept slot = slice_index_or kept slot None

-- a slot went back: its object may be dropped
abbrev pub freed : Option ℕ → (slot : ℕ) → StoreNow → StoreNow
freed None slot s = record { kept = slice_set s.kept slot None; free = s.free; spare = s.spare }
freed (Some object) slot s = record { kept = slice_set s.kept slot None; free = s.free ++ object ∷ []; spare = s.spare - 1 }

-- where there is room for it
abbrev pub with_back : (slot : ℕ) → StoreNow → StoreNow
with_back slot s = if s.spare == 0 then s else freed (object_at s.kept slot) slot s

abbrev pub with_backs : List ℕ → StoreNow → StoreNow
with_backs [] s = s
with_backs (slot ∷ slots) s = with_backs slots (with_back slot s)

-- an object is kept until this slot is back, unless the slot has one
abbrev pub with_kept : (slot object : ℕ) → StoreNow → StoreNow
with_kept slot object s =
    if is_some (object_at s.kept slot) then s
    else record { kept = slice_set s.kept slot (Some object); free = s.free; spare = s.spare }

abbrev pub unkept : (slot object : ℕ) → StoreNow → Option ℕ
unkept slot object s = if is_some (object_at s.kept slot) then Some object else None

-- the row that a call has retired named this object
abbrev pub retired : Option Lifetime → Option ℕ → StoreNow → StoreNow
retired None object s = s
retired (Some life) None s = s
retired (Some life) (Some object) s = with_kept life.slot object s

-- what is left of it, for which there is no place
abbrev pub left_over : Option Lifetime → Option ℕ → StoreNow → Option ℕ
left_over None object s = object
left_over (Some life) None s = None
left_over (Some life) (Some object) s = unkept life.slot object s

-- after a call with these notes, which replaced this object: what went back before a row was given comes first, since that row may be
-- the one that is retired
abbrev pub settled : Notes → Option ℕ → StoreNow → StoreNow
settled notes object s = with_backs (late_backs notes) (retired notes.retired object (with_backs (early_backs notes) s))

abbrev pub left_by : Notes → Option ℕ → StoreNow → Option ℕ
left_by notes object s = left_over notes.retired object (with_backs (early_backs notes) s)

-- how often an object is in a store
abbrev pub is_object : (object : ℕ) → Option ℕ → ℕ
is_object object None = 0
is_object object (Some other) = if other == object then 1 else 0

abbrev pub times_in : (object : ℕ) → StoreNow → ℕ
times_in object s = sum_by (is_object object) s.kept + count_by (λ other. other == object) s.free

-- No object is lost or there twice: what a store has after a call is what it had, and what the call replaced, but for what is left over.
abbrev pub NoneLost : Type 0
NoneLost =
    (notes : Notes) (replaced : Option ℕ) (s : StoreNow) (object : ℕ)
    → IfSome notes.retired (λ life. life.slot < length s.kept)
    → times_in object (settled notes replaced s) + is_object object (left_by notes replaced s) ≡ times_in object s + is_object object replaced
