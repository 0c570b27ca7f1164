-- A table of words with one handle, and what a step of each kind is: the operation of that kind on the words that the handle knows.
use Rattle.std.specs.Prelude.{[], List, slice_index, ℕ, ◌∷◌, ◌≡◌}
use Rattle.atomic_table.specs.Table.{Me, State, Step}
use Rattle.wfe_core.specs.declared.op.Op.{Op}
use Rattle.wfe_core.specs.declared.op.Op.TheVariants.{And, Cas, Load, Or, Store}
use Rattle.wfe_drive_cells.specs.Operations.{performed, word_in}

-- there is one handle, and what it knows are the words
abbrev pub IsKnown : State (Unit {0}) (List ℕ) → Type 0
IsKnown state = state.views ≡ state.words ∷ []

-- a handle, with what it knows
abbrev pub Handle : Type 0
Handle = Me (Unit {0}) (List ℕ)

-- the step finds the operation's word, and the handle then knows the words after the operation
pub record Performs (op : Op) (before : Handle) (found : ℕ) (after : Handle) : Type 0 where
  pub found_is : found ≡ slice_index before.0 (word_in op)
  pub after_is : after.0 ≡ performed before.0 op

abbrev pub Loads : Step (Unit {0}) → Handle → ℕ → Handle → Type 0
Loads step = Performs (Load step.word)

-- (at a store nothing is found: the number is the one that is stored)
abbrev pub Stores : Step (Unit {0}) → Handle → ℕ → Handle → Type 0
Stores step before stored after = after.0 ≡ performed before.0 (Store step.word step.first)

abbrev pub Exchanges : Step (Unit {0}) → Handle → ℕ → Handle → Type 0
Exchanges step = Performs (Cas step.word step.first step.second)

abbrev pub SetsBits : Step (Unit {0}) → Handle → ℕ → Handle → Type 0
SetsBits step = Performs (Or step.word step.first)

abbrev pub KeepsBits : Step (Unit {0}) → Handle → ℕ → Handle → Type 0
KeepsBits step = Performs (And step.word step.first)
