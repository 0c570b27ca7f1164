-- What a ledger is seen as.
use Rattle.std.specs.Prelude.{ℕ, ◌-◌, List, [], ◌∷◌, ◌++◌}

-- which deleters were called, each by its id with the slot for which it was, in order; and for how many more there is room
pub record LedgerNow : Type 0 where
  pub calls : List (ℕ × ℕ)
  pub spare : ℕ

-- with one call more
abbrev pub with_call : (id slot : ℕ) → LedgerNow → LedgerNow
with_call id slot ledger = record { calls = ledger.calls ++ (id, slot) ∷ []; spare = ledger.spare - 1 }
