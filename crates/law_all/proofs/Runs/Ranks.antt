-- How many seats had left when a seat left: a list goes only to a seat that has not left yet, and so had a greater number.
use Rattle.std.proofs.Common.{ℕ, ◌≡◌, ◌≤◌, ◌<◌, ◌+◌, Bool, true, false, List, [], ◌∷◌, refl, sym, ap, ◌∙◌, arith}
use Rattle.std.specs.Prelude.{◌==◌, ◌&&◌, ◌||◌, if◌then◌else◌}
use Rattle.law_all.proofs.inv.model.Facts.{first_of, or_more}
use Rattle.law_all.specs.inv.model.defs.Entry.{Entry}
use Rattle.law_all.specs.inv.model.defs.declared.event.Event.{Event}
use Rattle.law_all.specs.inv.history.Record.{Past, tells}
use Rattle.law_all.specs.inv.history.Record.Past.{Start, Then}
use Rattle.law_all.specs.laws.Lists.{has_left, is_left}
use Rattle.law_all.specs.laws.StateAt.{one, told}
use Rattle.law_all.proofs.Runs.Totals.{own_count}

-- how many seats have left
abbrev pub lefts : Past → ℕ
lefts p = told is_left p

-- how many had where this one did, and how many have while it has not
abbrev pub rank : ℕ → Past → ℕ
rank k Start = 0
rank k (Then p i event) = if has_left k (Then p i event) then rank k p else lefts (Then p i event)

lefts_rise : (p : Past) (i : ℕ) (event : Event) → lefts p ≤ lefts (Then p i event)
lefts_rise p i event = by (is_left event)
  where
    by : (b : Bool) → lefts p ≤ lefts p + one b
    by true = omega arith
    by false = omega arith

rank_still : (k i : ℕ) (p : Past) (event : Event) → has_left k (Then p i event) ≡ true → rank k (Then p i event) ≡ rank k p
rank_still k i p event h = ap (λ (b : Bool). if b then rank k p else lefts (Then p i event)) h

rank_now : (k i : ℕ) (p : Past) (event : Event) → has_left k (Then p i event) ≡ false → rank k (Then p i event) ≡ lefts (Then p i event)
rank_now k i p event h = ap (λ (b : Bool). if b then rank k p else lefts (Then p i event)) h

pub rank_here : (k : ℕ) (p : Past) → has_left k p ≡ false → rank k p ≡ lefts p
rank_here k Start h = refl
rank_here k (Then p i event) h = rank_now k i p event h

pub rank_low : (k : ℕ) (p : Past) → rank k p ≤ lefts p
rank_low k Start = omega arith
rank_low k (Then p i event) = by (has_left k (Then p i event)) refl (rank_low k p)
  where
    by : (left : Bool) → has_left k (Then p i event) ≡ left → rank k p ≤ lefts p → rank k (Then p i event) ≤ lefts (Then p i event)
    by true e l = let a = rank_still k i p event e in let b = lefts_rise p i event in omega (arith, a, b, l)
    by false e l = let a = rank_now k i p event e in omega (arith, a)

-- a seat that has left
left_now : (k i : ℕ) (p : Past) (event : Event) → has_left k p ≡ false → has_left k (Then p i event) ≡ true → is_left event ≡ true
left_now k i p event n h =
    first_of (is_left event) (k == i) (by (is_left event && k == i) h)
  where
    by : (here : Bool) → (here || has_left k p) ≡ true → here ≡ true
    by true g = refl
    by false g = sym n ∙ g

pub rank_left : (k : ℕ) (p : Past) → has_left k p ≡ true → rank k p < lefts p
rank_left k Start h = absurd (cc)
rank_left k (Then p i event) h = by (has_left k p) refl (λ g. rank_left k p g)
  where
    by : (left : Bool) → has_left k p ≡ left → (has_left k p ≡ true → rank k p < lefts p) → rank k (Then p i event) < lefts (Then p i event)
    by true e f = let a = rank_still k i p event h in let b = lefts_rise p i event in let l = f e in omega (arith, a, b, l)
    by false e f =
        let a = rank_still k i p event h in
        let b = rank_here k p e in
        let one_more : one (is_left event) ≡ 1 = ap one (left_now k i p event e h) in
        omega (arith, a, b, one_more)

rank_rises : (k i : ℕ) (p : Past) (event : Event) → rank k p ≤ rank k (Then p i event)
rank_rises k i p event = by (has_left k (Then p i event)) refl
  where
    by : (left : Bool) → has_left k (Then p i event) ≡ left → rank k p ≤ rank k (Then p i event)
    by true e = let a = rank_still k i p event e in omega (arith, a)
    by false e = let a = rank_now k i p event e in let b = lefts_rise p i event in let l = rank_low k p in omega (arith, a, b, l)

pub rank_along : (k : ℕ) (xs : List Entry) (p : Past) → rank k p ≤ rank k (tells p xs)
rank_along k [] p = omega arith
rank_along k (x ∷ xs) p =
    let a = rank_rises k x.seat p x.event in let b = rank_along k xs (Then p x.seat x.event) in omega (arith, a, b)

pub rank_stays : (k : ℕ) (xs : List Entry) (p : Past) → has_left k p ≡ true → rank k (tells p xs) ≡ rank k p
rank_stays k [] p h = refl
rank_stays k (x ∷ xs) p h =
    let q : has_left k (Then p x.seat x.event) ≡ true = or_more (is_left x.event && k == x.seat) (has_left k p) h in
    rank_stays k xs (Then p x.seat x.event) q ∙ rank_still k x.seat p x.event q

-- it has told so
pub left_counts : (k : ℕ) (p : Past) → has_left k p ≡ true → 1 ≤ own_count k is_left p
left_counts k Start h = absurd (cc)
left_counts k (Then p i event) h = by (is_left event && k == i) h (λ g. left_counts k p g)
  where
    by : (here : Bool) → (here || has_left k p) ≡ true → (has_left k p ≡ true → 1 ≤ own_count k is_left p) → 1 ≤ own_count k is_left p + one here
    by true g f = omega arith
    by false g f = let l = f g in omega (arith, l)
