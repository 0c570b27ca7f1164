-- Which row of a list a scan gives back next.
use Rattle.std.proofs.Common.{ℕ, zero, suc, ◌≡◌, ◌+◌, Bool, true, false, List, [], ◌∷◌, Option, Some, None, refl, sym, ap, ◌∙◌, arith, suc-add, zero-add}
use Rattle.std.proofs.lemmas.Bool.Decides.{nat_tests}
use Rattle.std.specs.Prelude.{◌&&◌, drop}
use Rattle.std.specs.List.{remove}
use Rattle.laws.specs.defs.Shown.{Seen, keeps_any}
use Rattle.laws.specs.defs.declared.lifetime.Lifetime.{Lifetime}
use Rattle.inv_all.specs.model.Scan.{Entry, first_unmet}
use Rattle.inv_all.proofs.model.Facts.{both, first_of, rest_of}
use Rattle.laws.specs.ScanLaw.{next_back}
use Rattle.laws.specs.ScanLaw.{is_life_of}

-- the lives before a place meet something read
abbrev pub met_before : List Seen → ℕ → List Lifetime → Bool
met_before read n [] = true
met_before read zero (life ∷ lives) = true
met_before read (suc n) (life ∷ lives) = keeps_any life read && met_before read n lives

pub met_none : (read : List Seen) (lives : List Lifetime) → met_before read 0 lives ≡ true
met_none read [] = refl
met_none read (life ∷ lives) = refl

-- what a search of the list finds
abbrev pub FoundIn : List Seen → List Lifetime → ℕ → Option Entry → Type 0
FoundIn read lives n None = next_back read lives ≡ None
FoundIn read lives n (Some entry) = (q : ℕ) × (entry.0 ≡ n + q) × (met_before read q lives ≡ true) × (is_life_of entry.1.slot (next_back read lives) ≡ true)

found_more : (read : List Seen) (life : Lifetime) (lives : List Lifetime) (n : ℕ) (x : Option Entry) → keeps_any life read ≡ true → FoundIn read lives (n + 1) x → FoundIn read (life ∷ lives) n x
found_more read life lives n None e h = rw e h
found_more read life lives n (Some entry) e h = (suc h.0, omega (arith, h.1), both (keeps_any life read) (met_before read h.0 lives) e h.2, rw e h.3)

same_slot : (life : Lifetime) → is_life_of life.slot (Some life) ≡ true
same_slot life = grind (arith, nat_tests)

found_by : (read : List Seen) (n : ℕ) (life : Lifetime) (lives : List Lifetime) (met : Bool) → keeps_any life read ≡ met → FoundIn read lives (n + 1) (first_unmet read (n + 1) lives) → FoundIn read (life ∷ lives) n (elim met [ true ↦ first_unmet read (n + 1) lives | false ↦ Some (n, life) ])
found_by read n life lives true e h = found_more read life lives n (first_unmet read (n + 1) lives) e h
found_by read n life lives false e h = (0, omega arith, refl, rw e (same_slot life))

pub found_first : (read : List Seen) (n : ℕ) (lives : List Lifetime) → FoundIn read lives n (first_unmet read n lives)
found_first read n [] = refl
found_first read n (life ∷ lives) = found_by read n life lives (keeps_any life read) refl (found_first read (n + 1) lives)

-- a search from a place on, where all before it meet something read
next_drop : (read : List Seen) (n : ℕ) (lives : List Lifetime) → met_before read n lives ≡ true → next_back read (drop n lives) ≡ next_back read lives
next_drop read zero [] h = refl
next_drop read zero (life ∷ lives) h = refl
next_drop read (suc n) [] h = refl
next_drop read (suc n) (life ∷ lives) h =
    let e = first_of (keeps_any life read) (met_before read n lives) h in
    let k = rest_of (keeps_any life read) (met_before read n lives) h in rw e (next_drop read n lives k)

met_drop : (read : List Seen) (n q : ℕ) (lives : List Lifetime) → met_before read n lives ≡ true → met_before read q (drop n lives) ≡ true → met_before read (n + q) lives ≡ true
met_drop read zero q [] h k = refl
met_drop read zero q (life ∷ lives) h k = rw zero-add k
met_drop read (suc n) q [] h k = refl
met_drop read (suc n) q (life ∷ lives) h k =
    let e = first_of (keeps_any life read) (met_before read n lives) h in
    let r = rest_of (keeps_any life read) (met_before read n lives) h in
    ap (λ (m : ℕ). met_before read m (life ∷ lives)) (suc-add n q) ∙ both (keeps_any life read) (met_before read (n + q) lives) e (met_drop read n q lives r k)

-- the place of what is found, and what is left where nothing is
abbrev pub PlaceOf : List Seen → List Lifetime → Option Entry → Type 0
PlaceOf read lives None = next_back read lives ≡ None
PlaceOf read lives (Some entry) = (met_before read entry.0 lives ≡ true) × (is_life_of entry.1.slot (next_back read lives) ≡ true)

place_by : (read : List Seen) (n : ℕ) (lives : List Lifetime) (x : Option Entry) → met_before read n lives ≡ true → FoundIn read (drop n lives) n x → PlaceOf read lives x
place_by read n lives None h f = sym (next_drop read n lives h) ∙ f
place_by read n lives (Some entry) h f =
    (ap (λ (m : ℕ). met_before read m lives) f.1 ∙ met_drop read n f.0 lives h f.2, ap (is_life_of entry.1.slot) (sym (next_drop read n lives h)) ∙ f.3)

pub place_from : (read : List Seen) (n : ℕ) (lives : List Lifetime) → met_before read n lives ≡ true → PlaceOf read lives (first_unmet read n (drop n lives))
place_from read n lives h = place_by read n lives (first_unmet read n (drop n lives)) h (found_first read n (drop n lives))

-- the life at the place goes
pub met_remove : (read : List Seen) (n : ℕ) (lives : List Lifetime) → met_before read n lives ≡ true → met_before read n (remove lives n) ≡ true
met_remove read zero [] h = refl
met_remove read (suc n) [] h = refl
met_remove read zero (life ∷ lives) h = met_none read lives
met_remove read (suc n) (life ∷ lives) h =
    let e = first_of (keeps_any life read) (met_before read n lives) h in
    let k = rest_of (keeps_any life read) (met_before read n lives) h in both (keeps_any life read) (met_before read n (remove lives n)) e (met_remove read n lives k)
