-- The rows that a call has cut: which are among them, and where the first of them stands.
use Rattle.std.proofs.Common.{ℕ, zero, suc, ◌≡◌, ◌≢◌, ◌<◌, ◌==◌, true, false, List, [], ◌∷◌, length, get_or, refl, ap, arith}
use Rattle.std.proofs.lemmas.Bool.Decides.{nat_tests}
use Rattle.std.specs.List.{list_any, remove}
use Rattle.laws.specs.StateAt.{is_among, without_one}

pub among_any : (slot : ℕ) (slots : List ℕ) → list_any (λ other. other == slot) slots ≡ is_among slot slots
among_any slot [] = refl
among_any slot (other ∷ slots) = rw (among_any slot slots) refl

-- the first of them that is this row is taken out
pub without_at : (slot : ℕ) (slots : List ℕ) (place : ℕ) → place < length slots → get_or slots place 0 ≡ slot →
    ((k : ℕ) → k < place → get_or slots k 0 ≢ slot) → remove slots place ≡ without_one slot slots
without_at slot [] place within here before = absurd (omega arith)
without_at slot (other ∷ slots) zero within here before =
    let same : (other == slot) ≡ true = grind (arith, nat_tests) in
    rw same refl
without_at slot (other ∷ slots) (suc place) within here before =
    let apart : other ≢ slot = before 0 (omega arith) in
    let differs : (other == slot) ≡ false = grind (arith, nat_tests) in
    rw differs (ap (λ rest. other ∷ rest) (without_at slot slots place (omega arith) here (λ k h. before (suc k) (omega arith))))

-- none of them is this row
pub without_none : (slot : ℕ) (slots : List ℕ) → ((k : ℕ) → k < length slots → get_or slots k 0 ≢ slot) → slots ≡ without_one slot slots
without_none slot [] before = refl
without_none slot (other ∷ slots) before =
    let apart : other ≢ slot = before 0 (omega arith) in
    let differs : (other == slot) ≡ false = grind (arith, nat_tests) in
    rw differs (ap (λ rest. other ∷ rest) (without_none slot slots (λ k h. before (suc k) (omega arith))))
