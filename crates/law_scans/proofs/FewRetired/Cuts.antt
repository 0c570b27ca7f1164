-- No more rows are retired than cut, and no more cut than changes were made and values taken.
use Rattle.std.proofs.Common.{ℕ, ◌≡◌, ◌≤◌, ◌+◌, Bool, true, false, List, [], ◌∷◌, length, refl, ap, subst, arith}
use Rattle.std.proofs.lemmas.Bool.Decides.{nat_tests}
use Rattle.std.specs.Prelude.{◌==◌, ◌||◌}
use Rattle.law_reuse.specs.laws.defs.declared.event.Event.{Event}
use Rattle.law_reuse.specs.laws.defs.declared.event.Event.TheVariants as events
use Rattle.law_reuse.specs.laws.defs.declared.event.Root.TheVariants as roots
use Rattle.law_reuse.specs.laws.records.Record.{Past, Each}
use Rattle.law_reuse.specs.laws.records.Record.Past.{Start, Then}
use Rattle.law_reuse.specs.laws.Once.{Due, due_at, due_cut, meets_due, order_ok, retires_right, retiring_ok}
use Rattle.law_reuse.specs.laws.Once.Due.{NoneDue, CutDue, ChangeDue, QueuedDue, TakenDue}
use Rattle.law_reuse.specs.laws.StateAt.{without_one, is_among, cuts_by, cuts_of, one, count, told, is_retire, takes_out}
use Rattle.law_scans.proofs.FewRetired.Counting.{by_seat, other_part, own_part, told_less}

-- the event cuts a row
abbrev pub is_cut : Event → Bool
is_cut (events.Cut slot) = true
is_cut event = false

-- a list is shorter by one without an entry that it has
shorter_by : (slot other : ℕ) (slots : List ℕ) (same : Bool) → (other == slot) ≡ same → is_among slot (other ∷ slots) ≡ true → (is_among slot slots ≡ true → length (without_one slot slots) + 1 ≡ length slots)
    → length (without_one slot (other ∷ slots)) + 1 ≡ length (other ∷ slots)
shorter_by slot other slots true e h later = rw e (omega arith)
shorter_by slot other slots false e h later =
    let g : is_among slot slots ≡ true = subst (λ (x : Bool). (x || is_among slot slots) ≡ true) e h in
    rw e (omega (arith, later g))

shorter : (slot : ℕ) (slots : List ℕ) → is_among slot slots ≡ true → length (without_one slot slots) + 1 ≡ length slots
shorter slot [] h = absurd (cc)
shorter slot (other ∷ slots) h = shorter_by slot other slots (other == slot) refl h (shorter slot slots)

-- an entry of the seat itself
own_event : (event : Event) (x : List ℕ) (cut retired : ℕ) → retires_right event x ≡ true → retired + length x ≤ cut → (retired + one (is_retire event)) + length (cuts_by event x) ≤ cut + one (is_cut event)
own_event (events.Cut slot) x cut retired h g = omega arith
own_event (events.Retire slot birth retire) x cut retired h g = omega (arith, shorter slot x h)
own_event (events.Begin call) x cut retired h g = omega arith
own_event event x cut retired h g = omega arith

-- what a seat has retired, and what its call has still to retire, it has cut
abbrev SeatCuts : ℕ → Past → Type 0
SeatCuts k p = count (by_seat is_retire k) p + length (cuts_of k p) ≤ count (by_seat is_cut k) p

entry_cuts : (k i : ℕ) (p : Past) (event : Event) (same : Bool) → (k == i) ≡ same → retires_right event (cuts_of i p) ≡ true → SeatCuts k p → SeatCuts k (Then p i event)
entry_cuts k i p event true e h g =
    let q : i ≡ k = grind (arith, nat_tests) in
    let r : retires_right event (cuts_of k p) ≡ true = subst (λ (j : ℕ). retires_right event (cuts_of j p) ≡ true) q h in
    let n : length (cuts_of k (Then p i event)) ≡ length (cuts_by event (cuts_of k p)) = rw e refl in
    omega (arith, n, own_part (is_retire event) (k == i) e, own_part (is_cut event) (k == i) e, own_event event (cuts_of k p) (count (by_seat is_cut k) p) (count (by_seat is_retire k) p) r g)
entry_cuts k i p event false e h g =
    let n : length (cuts_of k (Then p i event)) ≡ length (cuts_of k p) = rw e refl in
    omega (arith, n, other_part (is_retire event) (k == i) e, other_part (is_cut event) (k == i) e, g)

seat_cuts : (k : ℕ) (p : Past) → Each retiring_ok p → SeatCuts k p
seat_cuts k Start h = omega arith
seat_cuts k (Then p i event) h = entry_cuts k i p event (k == i) refl h.0 (seat_cuts k p h.1)

retired_cut : (p : Past) → Each retiring_ok p → told is_retire p ≤ told is_cut p
retired_cut p h = told_less is_retire is_cut p (λ k. omega (arith, seat_cuts k p h))

-- a change or a value taken that has to be told after a cut
abbrev owed : Due → ℕ
owed NoneDue = 0
owed (CutDue seat slot) = 0
owed (ChangeDue seat bucket) = 1
owed (QueuedDue seat) = 0
owed (TakenDue seat) = 1

-- any other entry than a cut
paid : (d : Due) (i : ℕ) (event : Event) → meets_due d i event ≡ true → owed d ≤ one (takes_out event)
paid NoneDue i event h = omega arith
paid (CutDue seat slot) i event h = omega arith
paid (QueuedDue seat) i event h = omega arith
paid (ChangeDue seat bucket) i (events.Put other version key value) h = omega arith
paid (ChangeDue seat bucket) i (events.Removed other version key) h = omega arith
paid (ChangeDue seat bucket) i event h = absurd (cc)
paid (TakenDue seat) i (events.Taken number value) h = omega arith
paid (TakenDue seat) i event h = absurd (cc)

-- a cut comes right after a link that makes a change or takes a value
cut_none : (seat : ℕ) (p : Past) (i slot : ℕ) → meets_due (due_cut seat p) i (events.Cut slot) ≡ false
cut_none seat Start i slot = refl
cut_none seat (Then p k (events.Link (roots.Bucket bucket) other)) i slot = refl
cut_none seat (Then p k (events.Link roots.Head other)) i slot = refl
cut_none seat (Then p k event) i slot = refl

cut_owes : (slots : ℕ) (p : Past) (i slot : ℕ) → meets_due (due_at slots p) i (events.Cut slot) ≡ true → owed (due_cut i p) ≡ 1
cut_owes slots Start i slot h = absurd (cc)
cut_owes slots (Then p k (events.Link (roots.Bucket bucket) other)) i slot h = refl
cut_owes slots (Then p k (events.Link roots.Head other)) i slot h = refl
cut_owes slots (Then p k (events.Cut other)) i slot h = let n = cut_none k p i slot in absurd (cc)
cut_owes slots (Then p k event) i slot h = absurd (cc)

-- no more is cut than taken out, but for the one that is owed
cuts_owed : (slots : ℕ) (p : Past) → Each (order_ok slots) p → told is_cut p ≤ told takes_out p + owed (due_at slots p)
cuts_owed slots Start h = omega arith
cuts_owed slots (Then p i (events.Cut slot)) h =
    omega (arith, cuts_owed slots p h.1, paid (due_at slots p) i (events.Cut slot) h.0, cut_owes slots p i slot h.0)
cuts_owed slots (Then p i event) h = omega (arith, cuts_owed slots p h.1, paid (due_at slots p) i event h.0)

-- a row is retired only where none is owed
entry_taken : (slots : ℕ) (p : Past) (i : ℕ) (event : Event) (retires : Bool) → is_retire event ≡ retires → Each retiring_ok (Then p i event) → Each (order_ok slots) (Then p i event) → told is_retire p ≤ told takes_out p
    → told is_retire (Then p i event) ≤ told takes_out (Then p i event)
entry_taken slots p i event true e h o g =
    omega (arith, retired_cut (Then p i event) h, cuts_owed slots p o.1, paid (due_at slots p) i event o.0, uncut event e)
  where
    uncut : (event : Event) → is_retire event ≡ true → one (is_cut event) ≡ 0
    uncut (events.Retire slot birth retire) e = refl
    uncut event e = absurd (cc)
entry_taken slots p i event false e h o g = let n : one (is_retire event) ≡ 0 = ap one e in omega (arith, n, g)

pub retired_taken : (slots : ℕ) (p : Past) → Each retiring_ok p → Each (order_ok slots) p → told is_retire p ≤ told takes_out p
retired_taken slots Start h o = omega arith
retired_taken slots (Then p i event) h o = entry_taken slots p i event (is_retire event) refl h o (retired_taken slots p h.1 o.1)
