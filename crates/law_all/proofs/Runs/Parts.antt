-- What a scan gives back of a list: a part of it, in order, the rows passed over being kept by what the scan has read.
use Rattle.std.proofs.Common.{ℕ, ◌≡◌, ◌⊎◌, inl, inr, Bool, true, false, List, [], ◌∷◌, ◌++◌, Some, refl, sym, ap, ◌∙◌, subst, arith}
use Rattle.std.proofs.lemmas.Bool.Decides.{nat_tests}
use Rattle.std.specs.Prelude.{◌==◌, if◌then◌else◌, not}
use Rattle.law_all.proofs.inv.model.Facts.{first_of, rest_of, same_number}
use Rattle.law_all.proofs.inv.model.Lists.{or_left, or_right}
use Rattle.law_all.specs.inv.model.CallReady.{slots_of}
use Rattle.law_all.specs.inv.model.defs.Shown.{Seen, keeps_any}
use Rattle.law_all.specs.inv.model.defs.declared.lifetime.Lifetime.{Lifetime}
use Rattle.law_all.specs.laws.ScanLaw.{next_back}
use Rattle.law_all.specs.laws.Lists.{without}
use Rattle.law_all.specs.laws.StateAt.{is_among, without_one}
use Rattle.law_all.specs.inv.rows.Hands.{each_once, no_entry}
use Rattle.law_all.specs.RunLaw.{is_part_of, without_all}

-- These slots went back, in order, of a list whose slots were `slots`, and these lives are left: each row that was passed over before
-- the last of them is kept by what was read.
abbrev pub Went : (read : List Seen) → (back slots : List ℕ) → (lives : List Lifetime) → Type 0
Went read [] slots lives = slots ≡ slots_of lives
Went read (b ∷ back) [] lives = ⊥
Went read (b ∷ back) (slot ∷ slots) lives =
    ((b ≡ slot) × Went read back slots lives)
    ⊎ ((life : Lifetime) × (rest : List Lifetime) × (lives ≡ life ∷ rest) × (slot ≡ life.slot) × (keeps_any life read ≡ true)
    × (is_among slot (b ∷ back) ≡ false) × Went read (b ∷ back) slots rest)

turned : (x y : ℕ) → (x == y) ≡ false → (y == x) ≡ false
turned x y h = grind (arith, nat_tests)

-- what went back is a part, and what is left is the list without it
pub went_part : (read : List Seen) (back slots : List ℕ) (lives : List Lifetime) → Went read back slots lives → is_part_of back slots ≡ true
went_part read [] slots lives w = refl
went_part read (b ∷ back) [] lives w = absurd w
went_part read (b ∷ back) (slot ∷ slots) lives (inl w) =
    let same : (b == slot) ≡ true = ap (λ (x : ℕ). b == x) (sym w.0) ∙ same_number b in rw same (went_part read back slots lives w.1)
went_part read (b ∷ back) (slot ∷ slots) lives (inr w) =
    let n : (b == slot) ≡ false = or_left (b == slot) (is_among slot back) w.5 in rw n (went_part read (b ∷ back) slots w.1 w.6)

stays_first : (slot : ℕ) (back slots : List ℕ) → is_among slot back ≡ false → without_all back (slot ∷ slots) ≡ slot ∷ without_all back slots
stays_first slot [] slots h = refl
stays_first slot (b ∷ back) slots h =
    let other : (slot == b) ≡ false = turned b slot (or_left (b == slot) (is_among slot back) h) in
    rw other (stays_first slot back (without_one b slots) (or_right (b == slot) (is_among slot back) h))

pub went_left : (read : List Seen) (back slots : List ℕ) (lives : List Lifetime) → Went read back slots lives → slots_of lives ≡ without_all back slots
went_left read [] slots lives w = sym w
went_left read (b ∷ back) [] lives w = absurd w
went_left read (b ∷ back) (slot ∷ slots) lives (inl w) =
    let same : (slot == b) ≡ true = ap (λ (x : ℕ). x == b) (sym w.0) ∙ same_number b in rw same (went_left read back slots lives w.1)
went_left read (b ∷ back) (slot ∷ slots) lives (inr w) =
    ap slots_of w.2
    ∙ ap (λ (x : ℕ). x ∷ slots_of w.1) (sym w.3)
    ∙ ap (λ (xs : List ℕ). slot ∷ xs) (went_left read (b ∷ back) slots w.1 w.6)
    ∙ sym (stays_first slot (b ∷ back) slots w.5)

-- a list in which each slot is once, and a slot that it does not have
none_without : (slot : ℕ) (lives : List Lifetime) → no_entry slot lives ≡ true → without slot lives ≡ lives
none_without slot [] h = refl
none_without slot (life ∷ lives) h =
    let k : no_entry slot lives ≡ true = rest_of (not (slot == life.slot)) (no_entry slot lives) h in
    let o : (life.slot == slot) ≡ false = grind (arith, nat_tests) in
    rw o (ap (λ (x : List Lifetime). life ∷ x) (none_without slot lives k))

none_still : (other slot : ℕ) (lives : List Lifetime) → no_entry other lives ≡ true → no_entry other (without slot lives) ≡ true
none_still other slot [] h = refl
none_still other slot (life ∷ lives) h = by (life.slot == slot) (none_still other slot lives (rest_of (not (other == life.slot)) (no_entry other lives) h))
  where
    by : (same : Bool) → no_entry other (without slot lives) ≡ true → no_entry other (if same then without slot lives else life ∷ without slot lives) ≡ true
    by true k = k
    by false k = let f : not (other == life.slot) ≡ true = first_of (not (other == life.slot)) (no_entry other lives) h in rw f k

pub once_without : (slot : ℕ) (lives : List Lifetime) → each_once lives ≡ true → each_once (without slot lives) ≡ true
once_without slot [] h = refl
once_without slot (life ∷ lives) h = by (life.slot == slot) (once_without slot lives (rest_of (no_entry life.slot lives) (each_once lives) h))
  where
    by : (same : Bool) → each_once (without slot lives) ≡ true → each_once (if same then without slot lives else life ∷ without slot lives) ≡ true
    by true k = k
    by false k =
        let f : no_entry life.slot (without slot lives) ≡ true = none_still life.slot slot lives (first_of (no_entry life.slot lives) (each_once lives) h) in
        rw f k

-- the row that goes back next
other_slot : (s : ℕ) (life : Lifetime) (lives : List Lifetime) → no_entry s (life ∷ lives) ≡ true → (s == life.slot) ≡ false
other_slot s life lives h = grind (arith, nat_tests)

next_apart : (s : ℕ) (read : List Seen) (lives : List Lifetime) (life : Lifetime) → no_entry s lives ≡ true → next_back read lives ≡ Some life
    → (s == life.slot) ≡ false
next_apart s read [] life n e = absurd (cc)
next_apart s read (first ∷ lives) life n e =
    by (keeps_any first read) refl (next_apart s read lives life (rest_of (not (s == first.slot)) (no_entry s lives) n))
  where
    by : (keeps : Bool) → keeps_any first read ≡ keeps → (next_back read lives ≡ Some life → (s == life.slot) ≡ false) → (s == life.slot) ≡ false
    by true k f = f (rw k at e)
    by false k f =
        let t : Some first ≡ Some life = rw k at e in
        let q : first ≡ life = cc in
        subst (λ (x : Lifetime). (s == x.slot) ≡ false) q (other_slot s first lives n)

passed_by : (first life : Lifetime) (rest : List Lifetime) → (first.slot == life.slot) ≡ false
    → without life.slot (first ∷ rest) ≡ first ∷ without life.slot rest
passed_by first life rest n = rw n refl

went_first : (read : List Seen) (lives : List Lifetime) (life : Lifetime) → each_once lives ≡ true → next_back read lives ≡ Some life
    → Went read (life.slot ∷ []) (slots_of lives) (without life.slot lives)
went_first read [] life o e = absurd (cc)
went_first read (first ∷ rest) life o e = by (keeps_any first read) refl (went_first read rest life (rest_of (no_entry first.slot rest) (each_once rest) o))
  where
    by : (keeps : Bool) → keeps_any first read ≡ keeps → (next_back read rest ≡ Some life → Went read (life.slot ∷ []) (slots_of rest) (without life.slot rest))
        → Went read (life.slot ∷ []) (slots_of (first ∷ rest)) (without life.slot (first ∷ rest))
    by true k f =
        let t : next_back read rest ≡ Some life = rw k at e in
        let n : (first.slot == life.slot) ≡ false = next_apart first.slot read rest life (first_of (no_entry first.slot rest) (each_once rest) o) t in
        let m : (life.slot == first.slot) ≡ false = turned first.slot life.slot n in
        inr (first, without life.slot rest, passed_by first life rest n, refl, k, rw m refl, f t)
    by false k f =
        let t : Some first ≡ Some life = rw k at e in
        let q : first ≡ life = cc in
        let n : no_entry first.slot rest ≡ true = first_of (no_entry first.slot rest) (each_once rest) o in
        let here : without first.slot (first ∷ rest) ≡ rest =
        (let s : (first.slot == first.slot) ≡ true = same_number first.slot in rw s (none_without first.slot rest n)) in
        inl (ap (λ (x : Lifetime). x.slot) (sym q), ap slots_of (sym here ∙ ap (λ (x : Lifetime). without x.slot (first ∷ rest)) q))

among_last : (x y : ℕ) (xs : List ℕ) → is_among x xs ≡ false → (y == x) ≡ false → is_among x (xs ++ y ∷ []) ≡ false
among_last x y [] h n = rw n refl
among_last x y (z ∷ xs) h n = let f : (z == x) ≡ false = or_left (z == x) (is_among x xs) h in rw f (among_last x y xs (or_right (z == x) (is_among x xs) h) n)

-- one row more goes back
pub went_more : (read : List Seen) (back slots : List ℕ) (lives : List Lifetime) (life : Lifetime) → each_once lives ≡ true → next_back read lives ≡ Some life
    → Went read back slots lives → Went read (back ++ life.slot ∷ []) slots (without life.slot lives)
went_more read [] slots lives life o e w =
    subst (λ (xs : List ℕ). Went read (life.slot ∷ []) xs (without life.slot lives)) (sym w) (went_first read lives life o e)
went_more read (b ∷ back) [] lives life o e w = absurd w
went_more read (b ∷ back) (slot ∷ slots) lives life o e (inl w) = inl (w.0, went_more read back slots lives life o e w.1)
went_more read (b ∷ back) (slot ∷ slots) lives life o e (inr w) =
    let passed : Lifetime = w.0 in
    let rest : List Lifetime = w.1 in
    let one : each_once (passed ∷ rest) ≡ true = subst (λ (x : List Lifetime). each_once x ≡ true) w.2 o in
    let there : next_back read (passed ∷ rest) ≡ Some life = subst (λ (x : List Lifetime). next_back read x ≡ Some life) w.2 e in
    let k : keeps_any passed read ≡ true = w.4 in
    let t : next_back read rest ≡ Some life = rw k at there in
    let n : (passed.slot == life.slot) ≡ false = next_apart passed.slot read rest life (first_of (no_entry passed.slot rest) (each_once rest) one) t in
    let m : (life.slot == slot) ≡ false = ap (λ (x : ℕ). life.slot == x) w.3 ∙ turned passed.slot life.slot n in
    inr (
      passed,
      without life.slot rest,
      ap (without life.slot) w.2 ∙ passed_by passed life rest n,
      w.3,
      k,
      among_last slot life.slot (b ∷ back) w.5 m,
      went_more read (b ∷ back) slots rest life (rest_of (no_entry passed.slot rest) (each_once rest) one) t w.6,
    )
