-- How many rows an interval of eras keeps of all lists: counted by row, against those that were taken at a position while the clock had not
-- passed it.
use Rattle.std.proofs.Common.{ℕ, zero, suc, ◌≡◌, ◌≤◌, ◌<◌, ◌+◌, ◌⊎◌, inl, inr, Bool, true, false, List, [], ◌∷◌, ◌++◌, refl, sym, ap, ◌∙◌, subst, arith}
use Rattle.std.proofs.lemmas.Bool.Decides.{nat_tests}
use Rattle.std.specs.Prelude.{◌==◌, ◌&&◌, ◌||◌, nat_le, nat_lt, if◌then◌else◌}
use Rattle.law_all.proofs.inv.model.Facts.{both, first_of, le_of_test, no_truth, number_is, or_more, rest_of, same_number}
use Rattle.law_all.specs.inv.history.Record.{Each, Past}
use Rattle.law_all.specs.inv.history.Record.Past.{Start, Then}
use Rattle.law_all.specs.inv.model.defs.Meets.{meets}
use Rattle.law_all.specs.inv.model.defs.declared.event.Event.{Event}
use Rattle.law_all.specs.inv.model.defs.declared.event.Event.TheVariants as events
use Rattle.law_all.specs.inv.model.defs.declared.lifetime.Interval.{Interval}
use Rattle.law_all.specs.inv.model.defs.declared.lifetime.Lifetime.{Lifetime}
use Rattle.law_all.specs.inv.model.words.declared.config.Config.{Config}
use Rattle.law_all.specs.inv.rows.Hands.{in_list}
use Rattle.law_all.specs.laws.HistoryEras.{era_ok}
use Rattle.law_all.specs.laws.HistoryTable.{ranges_ok}
use Rattle.law_all.specs.laws.Lists.{gained_by, handed_by, list_of, without}
use Rattle.law_all.specs.laws.StateAt.{birth_of, born_by, clock_of, count, is_retire, one}
use Rattle.law_bounds.specs.Kept.{meets_below, meets_row, retires_from}
use Rattle.law_bounds.proofs.Eras.Marks.{On}
use Rattle.law_bounds.proofs.Rows.Counts.{counted, counted_once}
use Rattle.law_bounds.proofs.Rows.Parts.{none_listed}

-- Counts that bound one another row by row.
pub counted_four : (f g h k : ℕ → Bool) (from n : ℕ) → ((s : ℕ) → one (f s) + one (g s) ≤ one (h s) + one (k s)) → counted f from n + counted g from n ≤ counted h from n + counted k from n
counted_four f g h k from zero e = omega arith
counted_four f g h k from (suc n) e =
    let here = e from in
    let more = counted_four f g h k (from + 1) n e in
    omega (arith, here, more)

pub counted_three : (f g h : ℕ → Bool) (from n : ℕ) → ((s : ℕ) → one (f s) ≤ one (g s) + one (h s)) → counted f from n ≤ counted g from n + counted h from n
counted_three f g h from zero e = omega arith
counted_three f g h from (suc n) e =
    let here = e from in
    let more = counted_three f g h (from + 1) n e in
    omega (arith, here, more)

implied : (a b : Bool) → (a ≡ true → b ≡ true) → one a ≤ one b
implied true b f = let e : one b ≡ 1 = ap one (f refl) in omega (arith, e)
implied false b f = omega arith

pub counted_most : (f g : ℕ → Bool) (from n : ℕ) → ((s : ℕ) → f s ≡ true → g s ≡ true) → counted f from n ≤ counted g from n
counted_most f g from zero e = omega arith
counted_most f g from (suc n) e =
    let here = implied (f from) (g from) (e from) in
    let more = counted_most f g (from + 1) n e in
    omega (arith, here, more)

-- What is on lists, as it is told by row.
pub record Life (s : ℕ) (test : ℕ → ℕ → Bool) (list : List Lifetime) : Type 0 where
  pub birth : ℕ
  pub retire : ℕ
  pub on : in_list list s birth retire ≡ true
  pub passes : test birth retire ≡ true

abbrev pub some_life : (s : ℕ) → (ℕ → ℕ → Bool) → List Lifetime → Bool
some_life s test [] = false
some_life s test (life ∷ lives) = (s == life.slot && test life.birth life.retire) || some_life s test lives

first_on : (s b r : ℕ) (more : Bool) → (((s == s) && ((b == b) && (r == r))) || more) ≡ true
first_on s b r more =
    let e : (s == s) ≡ true = same_number s in
    let f : (b == b) ≡ true = same_number b in
    let g : (r == r) ≡ true = same_number r in
    rw (e, f, g) refl

pub life_of : (s : ℕ) (test : ℕ → ℕ → Bool) (list : List Lifetime) → some_life s test list ≡ true → Life s test list
life_of s test [] h = absurd (no_truth h)
life_of s test (life ∷ lives) h = by (s == life.slot && test life.birth life.retire) refl h (life_of s test lives)
  where
    by : (here : Bool) → (s == life.slot && test life.birth life.retire) ≡ here → (here || some_life s test lives) ≡ true → (some_life s test lives ≡ true → Life s test lives) → Life s test (life ∷ lives)
    by true e h f =
        let same : s ≡ life.slot = number_is s life.slot (first_of (s == life.slot) (test life.birth life.retire) e) in
        record {
          birth = life.birth;
          retire = life.retire;
          on = subst (λ (n : ℕ). (((s == n) && ((life.birth == life.birth) && (life.retire == life.retire))) || in_list lives s life.birth life.retire) ≡ true) same (first_on s life.birth life.retire (in_list lives s life.birth life.retire));
          passes = rest_of (s == life.slot) (test life.birth life.retire) e;
        }
    by false e h f =
        let x = f h in
        record { birth = x.birth; retire = x.retire; on = or_more ((s == life.slot) && ((x.birth == life.birth) && (x.retire == life.retire))) (in_list lives s x.birth x.retire) x.on; passes = x.passes }

pub life_here : (s b r : ℕ) (test : ℕ → ℕ → Bool) (list : List Lifetime) → in_list list s b r ≡ true → test b r ≡ true → some_life s test list ≡ true
life_here s b r test [] h t = absurd (no_truth h)
life_here s b r test (life ∷ lives) h t = by ((s == life.slot) && ((b == life.birth) && (r == life.retire))) refl h (λ f. life_here s b r test lives f t)
  where
    by : (here : Bool) → ((s == life.slot) && ((b == life.birth) && (r == life.retire))) ≡ here → (here || in_list lives s b r) ≡ true → (in_list lives s b r ≡ true → some_life s test lives ≡ true) → ((s == life.slot && test life.birth life.retire) || some_life s test lives) ≡ true
    by true e h f =
        let slot : (s == life.slot) ≡ true = first_of (s == life.slot) ((b == life.birth) && (r == life.retire)) e in
        let rest = rest_of (s == life.slot) ((b == life.birth) && (r == life.retire)) e in
        let birth : b ≡ life.birth = number_is b life.birth (first_of (b == life.birth) (r == life.retire) rest) in
        let retire : r ≡ life.retire = number_is r life.retire (rest_of (b == life.birth) (r == life.retire) rest) in
        let passes : test life.birth life.retire ≡ true = ap (λ (n : ℕ). test n life.retire) (sym birth) ∙ ap (test b) (sym retire) ∙ t in
        rw (slot, passes) refl
    by false e h f = or_more (s == life.slot && test life.birth life.retire) (some_life s test lives) (f h)

-- on the list of a seat below a number
abbrev pub some_below : (below s : ℕ) → (ℕ → ℕ → Bool) → Past → Bool
some_below zero s test p = false
some_below (suc k) s test p = some_below k s test p || some_life s test (list_of k p)

pub record Found (s : ℕ) (test : ℕ → ℕ → Bool) (p : Past) : Type 0 where
  pub seat : ℕ
  pub life : Life s test (list_of seat p)

pub found_of : (n s : ℕ) (test : ℕ → ℕ → Bool) (p : Past) → some_below n s test p ≡ true → Found s test p
found_of zero s test p h = absurd (no_truth h)
found_of (suc n) s test p h = by (some_below n s test p) refl h (found_of n s test p)
  where
    by : (low : Bool) → some_below n s test p ≡ low → (low || some_life s test (list_of n p)) ≡ true → (some_below n s test p ≡ true → Found s test p) → Found s test p
    by true e h f = f e
    by false e h f = record { seat = n; life = life_of s test (list_of n p) h }

below_there : (n k s b r : ℕ) (test : ℕ → ℕ → Bool) (p : Past) → k < n → in_list (list_of k p) s b r ≡ true → test b r ≡ true → some_below n s test p ≡ true
below_there zero k s b r test p low h t = absurd (omega (arith, low))
below_there (suc n) k s b r test p low h t = by (k == n) refl (λ less. below_there n k s b r test p less h t)
  where
    either_second : (a b : Bool) → b ≡ true → (a || b) ≡ true
    either_second true b e = refl
    either_second false b e = e

    either_first : (a b : Bool) → a ≡ true → (a || b) ≡ true
    either_first true b e = refl
    either_first false b e = absurd (no_truth e)

    by : (same : Bool) → (k == n) ≡ same → (k < n → some_below n s test p ≡ true) → (some_below n s test p || some_life s test (list_of n p)) ≡ true
    by true e f =
        let is : k ≡ n = number_is k n e in
        either_second (some_below n s test p) (some_life s test (list_of n p)) (life_here s b r test (list_of n p) (subst (λ (m : ℕ). in_list (list_of m p) s b r ≡ true) is h) t)
    by false e f =
        let less : k < n = grind (arith, nat_tests, e, low) in
        either_first (some_below n s test p) (some_life s test (list_of n p)) (f less)

-- a list that is not empty is that of a seat of the table
listed_seat : (c : Config) (k s b r : ℕ) (p : Past) → Each (ranges_ok c) p → in_list (list_of k p) s b r ≡ true → k < c.seats
listed_seat c k s b r p l h = by (nat_lt k c.seats) refl
  where
    by : (low : Bool) → nat_lt k c.seats ≡ low → k < c.seats
    by true e = grind (arith, nat_tests, e)
    by false e =
        let high : c.seats ≤ k = grind (arith, nat_tests, e) in
        let none : false ≡ true = ap (λ (xs : List Lifetime). in_list xs s b r) (sym (none_listed c k p high l)) ∙ h in
        absurd (no_truth none)

pub there : (c : Config) (k s b r : ℕ) (test : ℕ → ℕ → Bool) (p : Past) → Each (ranges_ok c) p → in_list (list_of k p) s b r ≡ true → test b r ≡ true → some_below c.seats s test p ≡ true
there c k s b r test p l h t = below_there c.seats k s b r test p (listed_seat c k s b r p l h) h t

-- The tests: the life meets the interval; it was retired from an era on.
abbrev pub meets_by : Interval → ℕ → ℕ → Bool
meets_by span birth retire = nat_le birth span.hi && (retire == 0 || nat_le span.lo retire)

abbrev pub ends_from : (era : ℕ) → ℕ → ℕ → Bool
ends_from era birth retire = retire == 0 || nat_le era retire

row_is : (span : Interval) (s : ℕ) (list : List Lifetime) → meets_row span s list ≡ some_life s (meets_by span) list
row_is span s [] = refl
row_is span s (life ∷ lives) = ap (λ (b : Bool). (s == life.slot && meets life span) || b) (row_is span s lives)

pub rows_are : (n s : ℕ) (span : Interval) (p : Past) → meets_below n span s p ≡ some_below n s (meets_by span) p
rows_are zero s span p = refl
rows_are (suc n) s span p =
    ap (λ (b : Bool). b || meets_row span s (list_of n p)) (rows_are n s span p) ∙ ap (λ (b : Bool). some_below n s (meets_by span) p || b) (row_is span s (list_of n p))

-- Rows that were retired from an era on, by the entries that told so.
abbrev pub ends_below : Config → (era s : ℕ) → Past → Bool
ends_below c era s p = some_below c.seats s (ends_from era) p

-- a birth is 1 at least
pub born_some : (c : Config) (s : ℕ) (p : Past) → Each (era_ok c) p → 1 ≤ birth_of s p
born_some c s Start h = omega arith
born_some c s (Then p i event) h = one_born event h.0 (born_some c s p h.1)
  where
    one_born : (event : Event) → era_ok c p i event ≡ true → 1 ≤ birth_of s p → 1 ≤ born_by s event (birth_of s p)
    one_born (events.Give slot birth) t b = by (s == slot)
      where
        by : (same : Bool) → 1 ≤ (if same then birth else birth_of s p)
        by true = le_of_test 1 birth (first_of (nat_le 1 birth) (nat_le birth (clock_of p)) t)
        by false = b
    one_born event t b = b

-- what the entry adds
record Ended (era s : ℕ) (event : Event) : Type 0 where
  birth : ℕ
  retire : ℕ
  is : event ≡ events.Retire s birth retire
  from : ends_from era birth retire ≡ true

in_split : (xs ys : List Lifetime) (s b r : ℕ) → in_list (xs ++ ys) s b r ≡ true → (in_list xs s b r ≡ true) ⊎ (in_list ys s b r ≡ true)
in_split [] ys s b r h = inr h
in_split (life ∷ xs) ys s b r h = by ((s == life.slot) && ((b == life.birth) && (r == life.retire))) h (in_split xs ys s b r)
  where
    by : (here : Bool) → (here || in_list (xs ++ ys) s b r) ≡ true → (in_list (xs ++ ys) s b r ≡ true → (in_list xs s b r ≡ true) ⊎ (in_list ys s b r ≡ true)) → ((here || in_list xs s b r) ≡ true) ⊎ (in_list ys s b r ≡ true)
    by true h f = inl refl
    by false h f = f h

in_rest : (slot : ℕ) (xs : List Lifetime) (s b r : ℕ) → in_list (without slot xs) s b r ≡ true → in_list xs s b r ≡ true
in_rest slot [] s b r h = h
in_rest slot (life ∷ xs) s b r h = by (life.slot == slot) h (in_rest slot xs s b r)
  where
    by : (same : Bool) → in_list (if same then without slot xs else life ∷ without slot xs) s b r ≡ true → (in_list (without slot xs) s b r ≡ true → in_list xs s b r ≡ true) → (((s == life.slot) && ((b == life.birth) && (r == life.retire))) || in_list xs s b r) ≡ true
    by true h f = or_more ((s == life.slot) && ((b == life.birth) && (r == life.retire))) (in_list xs s b r) (f h)
    by false h f = keep ((s == life.slot) && ((b == life.birth) && (r == life.retire))) h f
      where
        keep : (mine : Bool) → (mine || in_list (without slot xs) s b r) ≡ true → (in_list (without slot xs) s b r ≡ true → in_list xs s b r ≡ true) → (mine || in_list xs s b r) ≡ true
        keep true h f = refl
        keep false h f = f h

one_life : (life : Lifetime) (s b r : ℕ) → in_list (life ∷ []) s b r ≡ true → (s ≡ life.slot) × ((b ≡ life.birth) × (r ≡ life.retire))
one_life life s b r h =
    let here : ((s == life.slot) && ((b == life.birth) && (r == life.retire))) ≡ true = alone ((s == life.slot) && ((b == life.birth) && (r == life.retire))) h in
    let rest = rest_of (s == life.slot) ((b == life.birth) && (r == life.retire)) here in (
      number_is s life.slot (first_of (s == life.slot) ((b == life.birth) && (r == life.retire)) here),
      (number_is b life.birth (first_of (b == life.birth) (r == life.retire) rest), number_is r life.retire (rest_of (b == life.birth) (r == life.retire) rest)),
    )
  where
    alone : (x : Bool) → (x || false) ≡ true → x ≡ true
    alone true h = refl
    alone false h = h

own_found : (era s b r i : ℕ) (p : Past) (event : Event) → in_list (gained_by event (λ (place : ℕ). list_of place p) (list_of i p)) s b r ≡ true → ends_from era b r ≡ true → (On s b r p) ⊎ Ended era s event
own_found era s b r i p (events.Retire slot birth retire) h t = by (in_split (list_of i p) (record { slot = slot; birth = birth; retire = retire } ∷ []) s b r h)
  where
    by : (in_list (list_of i p) s b r ≡ true) ⊎ (in_list (record { slot = slot; birth = birth; retire = retire } ∷ []) s b r ≡ true) → (On s b r p) ⊎ Ended era s (events.Retire slot birth retire)
    by (inl o) = inl (record { seat = i; on = o })
    by (inr o) =
        let x = one_life (record { slot = slot; birth = birth; retire = retire }) s b r o in
        inr (record { birth = birth; retire = retire; is = ap (λ (n : ℕ). events.Retire n birth retire) (sym x.0); from = ap (λ (n : ℕ). ends_from era birth n) (sym x.1.1) ∙ t })
own_found era s b r i p (events.Back slot) h t = inl (record { seat = i; on = in_rest slot (list_of i p) s b r h })
own_found era s b r i p (events.Adopted place count) h t = by (in_split (list_of i p) (list_of place p) s b r h)
  where
    by : (in_list (list_of i p) s b r ≡ true) ⊎ (in_list (list_of place p) s b r ≡ true) → (On s b r p) ⊎ Ended era s (events.Adopted place count)
    by (inl o) = inl (record { seat = i; on = o })
    by (inr o) = inl (record { seat = place; on = o })
own_found era s b r i p event h t = inl (record { seat = i; on = h })

other_found : (s b r k : ℕ) (p : Past) (event : Event) → in_list (handed_by k event (list_of k p)) s b r ≡ true → On s b r p
other_found s b r k p (events.Adopted place count) h = by (k == place) h
  where
    by : (same : Bool) → in_list (if same then [] else list_of k p) s b r ≡ true → On s b r p
    by true h = absurd (no_truth h)
    by false h = record { seat = k; on = h }
other_found s b r k p event h = record { seat = k; on = h }

found_before : (era s b r k i : ℕ) (p : Past) (event : Event) → in_list (list_of k (Then p i event)) s b r ≡ true → ends_from era b r ≡ true → (On s b r p) ⊎ Ended era s event
found_before era s b r k i p event h t = by (k == i) refl h
  where
    by : (same : Bool) → (k == i) ≡ same → in_list (if same then gained_by event (λ (place : ℕ). list_of place p) (list_of k p) else handed_by k event (list_of k p)) s b r ≡ true → (On s b r p) ⊎ Ended era s event
    by true e h = own_found era s b r k p event h t
    by false e h = inl (other_found s b r k p event h)

-- such an entry is told once the clock has come to the era
ended_late : (c : Config) (era s i : ℕ) (p : Past) (event : Event) → Each (era_ok c) p → era_ok c p i event ≡ true → Ended era s event → retires_from era p i event ≡ true
ended_late c era s i p event l t e =
    let told : era_ok c p i (events.Retire s e.birth e.retire) ≡ true = ap (era_ok c p i) (sym e.is) ∙ t in
    let born : e.birth ≡ birth_of s p = number_is e.birth (birth_of s p) (first_of (e.birth == birth_of s p) (nat_le e.birth e.retire && nat_le e.retire (clock_of p)) told) in
    let rest = rest_of (e.birth == birth_of s p) (nat_le e.birth e.retire && nat_le e.retire (clock_of p)) told in
    let low : e.birth ≤ e.retire = le_of_test e.birth e.retire (first_of (nat_le e.birth e.retire) (nat_le e.retire (clock_of p)) rest) in
    let high : e.retire ≤ clock_of p = le_of_test e.retire (clock_of p) (rest_of (nat_le e.birth e.retire) (nat_le e.retire (clock_of p)) rest) in
    let some = born_some c s p l in
    let none : (e.retire == 0) ≡ false = grind (arith, nat_tests, born, low, some) in
    let from : nat_le era e.retire ≡ true = second (e.retire == 0) (nat_le era e.retire) none e.from in
    let late : nat_le era (clock_of p) ≡ true = grind (arith, nat_tests, from, high) in
    subst (λ (x : Event). (is_retire x && nat_le era (clock_of p)) ≡ true) (sym e.is) late
  where
    second : (a b : Bool) → a ≡ false → (a || b) ≡ true → b ≡ true
    second true b e h = absurd (no_truth (sym e))
    second false b e h = h

abbrev slot_in : Event → ℕ
slot_in (events.Retire slot birth retire) = slot
slot_in event = 0

one_ended : (c : Config) (era i : ℕ) (p : Past) (event : Event) → Each (ranges_ok c) p → Each (era_ok c) p → era_ok c p i event ≡ true → (s : ℕ) → one (ends_below c era s (Then p i event)) ≤ one (ends_below c era s p) + one (retires_from era p i event && (s == slot_in event))
one_ended c era i p event l g t s = by (ends_below c era s (Then p i event)) refl
  where
    first : (a b : Bool) → a ≡ true → 1 ≤ one a + one b
    first true b e = omega arith
    first false b e = absurd (no_truth e)

    second : (a b : Bool) → b ≡ true → 1 ≤ one a + one b
    second true b e = omega arith
    second false b e = let is : one b ≡ 1 = ap one e in omega (arith, is)

    by : (now : Bool) → ends_below c era s (Then p i event) ≡ now → one now ≤ one (ends_below c era s p) + one (retires_from era p i event && (s == slot_in event))
    by false e = omega arith
    by true e = split (found_before era s x.life.birth x.life.retire x.seat i p event x.life.on x.life.passes)
      where
        x : Found s (ends_from era) (Then p i event)
        x = found_of c.seats s (ends_from era) (Then p i event) e

        split : (On s x.life.birth x.life.retire p) ⊎ Ended era s event → 1 ≤ one (ends_below c era s p) + one (retires_from era p i event && (s == slot_in event))
        split (inl o) = first (ends_below c era s p) (retires_from era p i event && (s == slot_in event)) (there c o.seat s x.life.birth x.life.retire (ends_from era) p l o.on x.life.passes)
        split (inr o) =
            let here : (s == slot_in event) ≡ true = subst (λ (y : Event). (s == slot_in y) ≡ true) (sym o.is) (same_number s) in
            second (ends_below c era s p) (retires_from era p i event && (s == slot_in event)) (both (retires_from era p i event) (s == slot_in event) (ended_late c era s i p event g t o) here)

slot_once : (b : Bool) (slot from n : ℕ) → counted (λ s. b && (s == slot)) from n ≤ one b
slot_once true slot from n = counted_once (λ s. true && (s == slot)) from n (λ s t h k. number_is s slot h ∙ sym (number_is t slot k))
slot_once false slot from n = let none : counted (λ s. false && (s == slot)) from n ≡ 0 = none_passes from n in omega (arith, none)
  where
    none_passes : (from n : ℕ) → counted (λ s. false && (s == slot)) from n ≡ 0
    none_passes from zero = refl
    none_passes from (suc n) = let more = none_passes (from + 1) n in omega (arith, more)

pub ends_few : (c : Config) (era : ℕ) (p : Past) → Each (ranges_ok c) p → Each (era_ok c) p → (n : ℕ) → counted (λ s. ends_below c era s p) 0 n ≤ count (retires_from era) p
ends_few c era Start l g n = let none : counted (λ s. ends_below c era s Start) 0 n ≡ 0 = nobody c.seats 0 n in omega (arith, none)
  where
    no_life : (k s : ℕ) → some_below k s (ends_from era) Start ≡ false
    no_life zero s = refl
    no_life (suc k) s = rw (no_life k s) refl

    nobody : (k from n : ℕ) → counted (λ s. some_below k s (ends_from era) Start) from n ≡ 0
    nobody k from zero = refl
    nobody k from (suc n) =
        let more = nobody k (from + 1) n in
        let here : one (some_below k from (ends_from era) Start) ≡ 0 = ap one (no_life k from) in
        omega (arith, more, here)
ends_few c era (Then p i event) l g n =
    let before = ends_few c era p l.1 g.1 n in
    let now = counted_three (λ s. ends_below c era s (Then p i event)) (λ s. ends_below c era s p) (λ s. retires_from era p i event && (s == slot_in event)) 0 n (one_ended c era i p event l.1 g.1 g.0) in
    let last = slot_once (retires_from era p i event) (slot_in event) 0 n in
    omega (arith, before, now, last)
