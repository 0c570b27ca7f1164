-- How many rows an interval of eras keeps: each was taken at a position while the clock had not passed it, or is one that a seat is given
-- later; and of those on lists there it keeps none that was retired before it.
use Rattle.std.proofs.Common.{ℕ, zero, suc, ◌≡◌, ◌≤◌, ◌<◌, ◌+◌, ◌⊎◌, inl, inr, Bool, true, false, List, [], ◌∷◌, ◌++◌, length, Option, Some, None, refl, sym, ap, ◌∙◌, subst, arith}
use Rattle.std.proofs.lemmas.Bool.Decides.{nat_tests}
use Rattle.std.specs.Prelude.{◌==◌, ◌&&◌, ◌||◌, not, nat_le}
use Rattle.law_all.proofs.Runs.Kept.{histories_keep}
use Rattle.law_all.proofs.inv.model.Facts.{first_of, le_of_test, no_truth, number_is, or_more, rest_of, same_number}
use Rattle.law_all.specs.inv.history.History.{Item, record_of, world_of}
use Rattle.law_all.specs.inv.history.Record.{Each, Past}
use Rattle.law_all.specs.inv.model.CallReady.{slots_of}
use Rattle.law_all.specs.inv.model.World.{World}
use Rattle.law_all.specs.inv.model.defs.declared.lifetime.Interval.{Interval}
use Rattle.law_all.specs.inv.model.defs.declared.lifetime.Lifetime.{Lifetime}
use Rattle.law_all.specs.inv.model.words.Place.{is_valid}
use Rattle.law_all.specs.inv.model.words.declared.config.Config.{Config}
use Rattle.law_all.specs.inv.model.words.declared.layout.Layout.{Layout}
use Rattle.law_all.specs.inv.rows.Agree.{Agree}
use Rattle.law_all.specs.inv.rows.Hands.{in_list}
use Rattle.law_all.specs.inv.rows.Rows.{View}
use Rattle.law_all.specs.inv.rows.Rows.Status.{Listed}
use Rattle.law_all.specs.laws.HistoryTable.{ranges_ok}
use Rattle.law_all.specs.laws.Lists.{list_of}
use Rattle.law_all.specs.laws.StateAt.{count, is_one_of, is_row, one, taken_at}
use Rattle.law_reuse.proofs.Holding.Holds.{history_held}
use Rattle.law_reuse.proofs.Once.Keeps.{history_keeps}
use Rattle.law_bounds.specs.Kept.{KeptFew, meets_below, retires_from}
use Rattle.law_bounds.specs.Rows.{FewTaken, are_apart, bucket_rows, changed_below, kept_rows, listed_below, listed_rows, open_below, queue_rows, used_at, waiting_at}
use Rattle.law_bounds.proofs.Eras.Few.{Found, counted_four, counted_three, ends_below, ends_few, ends_from, found_of, meets_by, rows_are, some_below, some_life, there}
use Rattle.law_bounds.proofs.Eras.Keeps.{Living, living}
use Rattle.law_bounds.proofs.Eras.Marks.{Kept, Mark, On, mark}
use Rattle.law_bounds.proofs.Rows.Apart.{among_both, among_either}
use Rattle.law_bounds.proofs.Rows.Counts.{counted, counted_once, counted_rows, counted_same, filtered}
use Rattle.law_bounds.proofs.Rows.Lost.{records_take_few}
use Rattle.law_bounds.proofs.Rows.Parts.{lists_count}

-- Rows that seats are given.
abbrev any_giver : (below : ℕ) → (ℕ → Option ℕ) → ℕ → Bool
any_giver zero giver s = false
any_giver (suc n) giver s = any_giver n giver s || is_row s (giver n)

one_or : (a b : Bool) → one (a || b) ≤ one a + one b
one_or true b = omega arith
one_or false b = omega arith

row_once : (x : Option ℕ) (n : ℕ) → counted (λ s. is_row s x) 0 n ≤ 1
row_once x n = counted_once (λ s. is_row s x) 0 n (same x)
  where
    same : (x : Option ℕ) (s t : ℕ) → is_row s x ≡ true → is_row t x ≡ true → s ≡ t
    same None s t h k = absurd (no_truth h)
    same (Some slot) s t h k = number_is s slot h ∙ sym (number_is t slot k)

counted_none : (from n : ℕ) → counted (λ s. false) from n ≡ 0
counted_none from zero = refl
counted_none from (suc n) = let more = counted_none (from + 1) n in omega (arith, more)

givers_few : (giver : ℕ → Option ℕ) (m n : ℕ) → counted (λ s. any_giver m giver s) 0 n ≤ m
givers_few giver zero n = let none = counted_none 0 n in omega (arith, none)
givers_few giver (suc m) n =
    let more = givers_few giver m n in
    let here = row_once (giver m) n in
    let split = counted_three (λ s. any_giver (suc m) giver s) (λ s. any_giver m giver s) (λ s. is_row s (giver m)) 0 n (λ s. one_or (any_giver m giver s) (is_row s (giver m))) in
    omega (arith, more, here, split)

none_given : (giver : ℕ → Option ℕ) (n k s : ℕ) → any_giver n giver s ≡ false → k < n → giver k ≡ Some s → ⊥
none_given giver zero k s h low e = omega (arith, low)
none_given giver (suc n) k s h low e = by (k == n) refl (none_given giver n k s)
  where
    first : (a b : Bool) → (a || b) ≡ false → a ≡ false
    first true b h = absurd (no_truth (sym h))
    first false b h = refl

    second : (a b : Bool) → (a || b) ≡ false → b ≡ false
    second true b h = absurd (no_truth (sym h))
    second false b h = h

    by : (same : Bool) → (k == n) ≡ same → (any_giver n giver s ≡ false → k < n → giver k ≡ Some s → ⊥) → ⊥
    by true f g =
        let here : giver n ≡ Some s = ap giver (sym (number_is k n f)) ∙ e in
        let none : is_row s (Some s) ≡ false = ap (is_row s) (sym here) ∙ second (any_giver n giver s) (is_row s (giver n)) h in
        no_truth (sym none ∙ same_number s)
    by false f g = g (first (any_giver n giver s) (is_row s (giver n)) h) (grind (arith, nat_tests, f, low)) e

-- A row on lists, by the World that the history comes to.
status_is : (layout : Layout) (items : List Item) (d : is_valid layout ≡ true) (k s b r : ℕ) → in_list (list_of k (record_of layout items)) s b r ≡ true → (history_held layout items d).rows.status s ≡ Listed k r
status_is layout items d k s b r on =
    let w : World = world_of layout items in
    let g = history_held layout items d in
    let v : View = g.rows in
    let a : Agree w v = g.known.whole.both.rows in
    let lists = (history_keeps layout items d).shows.lists k in
    let there : v.lists k s b r ≡ true = (a.plays k).lists s b r ∙ ap (λ (xs : List Lifetime). in_list xs s b r) (sym lists) ∙ on in
    a.good.listed k s b r there

-- it is retired once
retired_once : (layout : Layout) (items : List Item) → is_valid layout ≡ true → (s b r c q : ℕ) → On s b r (record_of layout items) → On s c q (record_of layout items) → r ≡ q
retired_once layout items d s b r c q x y =
    let both : Listed x.seat r ≡ Listed y.seat q = sym (status_is layout items d x.seat s b r x.on) ∙ status_is layout items d y.seat s c q y.on in
    same x.seat y.seat r q both
  where
    same : (k j r q : ℕ) → Listed k r ≡ Listed j q → r ≡ q
    same k j r q e = cc

pub taken_within : (layout : Layout) (items : List Item) → is_valid layout ≡ true → (s : ℕ) → taken_at layout.config.slots s (record_of layout items) ≡ true → s ≤ layout.config.slots
taken_within layout items d s t =
    let w : World = world_of layout items in
    let g = history_held layout items d in
    let a : Agree w g.rows = g.known.whole.both.rows in
    let there : taken_at w.layout.config.slots s (record_of layout items) ≡ true = subst (λ (table : Layout). taken_at table.config.slots s (record_of layout items) ≡ true) (sym g.table) t in
    subst (λ (table : Layout). s ≤ table.config.slots) g.table (a.good.inside s (sym (g.tied.taken s) ∙ there))

-- a row among those on lists has a life on one
abbrev pub any_life : ℕ → ℕ → Bool
any_life birth retire = true

pub slot_life : (s : ℕ) (list : List Lifetime) → is_one_of s (slots_of list) ≡ true → some_life s any_life list ≡ true
slot_life s [] h = absurd (no_truth h)
slot_life s (life ∷ lives) h = by (s == life.slot) h (slot_life s lives)
  where
    by : (here : Bool) → (here || is_one_of s (slots_of lives)) ≡ true → (is_one_of s (slots_of lives) ≡ true → some_life s any_life lives ≡ true) → ((here && any_life life.birth life.retire) || some_life s any_life lives) ≡ true
    by true h f = refl
    by false h f = f h

rows_found : (n s : ℕ) (p : Past) → is_one_of s (listed_rows n p) ≡ true → some_below n s any_life p ≡ true
rows_found zero s p h = absurd (no_truth h)
rows_found (suc n) s p h = by (among_either s (listed_rows n p) (slots_of (list_of n p)) h) (rows_found n s p)
  where
    either_first : (a b : Bool) → a ≡ true → (a || b) ≡ true
    either_first true b e = refl
    either_first false b e = absurd (no_truth e)

    by : (is_one_of s (listed_rows n p) ≡ true) ⊎ (is_one_of s (slots_of (list_of n p)) ≡ true) → (is_one_of s (listed_rows n p) ≡ true → some_below n s any_life p ≡ true) → (some_below n s any_life p || some_life s any_life (list_of n p)) ≡ true
    by (inl o) f = either_first (some_below n s any_life p) (some_life s any_life (list_of n p)) (f o)
    by (inr o) f = or_more (some_below n s any_life p) (some_life s any_life (list_of n p)) (slot_life s (list_of n p) o)

-- such rows are kept, and apart
listed_kept : (c : Config) (s : ℕ) (p : Past) → is_one_of s (listed_rows c.seats p) ≡ true → is_one_of s (kept_rows c p) ≡ true
listed_kept c s p h =
    among_both s (bucket_rows c.buckets p) (queue_rows c.slots p ++ listed_rows c.seats p)
    ∙ or_more (is_one_of s (bucket_rows c.buckets p)) (is_one_of s (queue_rows c.slots p ++ listed_rows c.seats p))
    (among_both s (queue_rows c.slots p) (listed_rows c.seats p) ∙ or_more (is_one_of s (queue_rows c.slots p)) (is_one_of s (listed_rows c.seats p)) h)

apart_rest : (xs ys : List ℕ) → are_apart (xs ++ ys) ≡ true → are_apart ys ≡ true
apart_rest [] ys h = h
apart_rest (x ∷ xs) ys h = apart_rest xs ys (rest_of (not (is_one_of x (xs ++ ys))) (are_apart (xs ++ ys)) h)

listed_apart : (c : Config) (p : Past) → are_apart (kept_rows c p) ≡ true → are_apart (listed_rows c.seats p) ≡ true
listed_apart c p h = apart_rest (queue_rows c.slots p) (listed_rows c.seats p) (apart_rest (bucket_rows c.buckets p) (queue_rows c.slots p ++ listed_rows c.seats p) h)

-- What is known of the history, and of its first part at the position.
record Facts (layout : Layout) (items : List Item) (span : Interval) (m : Mark layout span.hi (record_of layout items)) : Type 0 where
  valid : is_valid layout ≡ true
  few : FewTaken layout.config (record_of layout m.path)
  ranges : Each (ranges_ok layout.config) (record_of layout items)
  before : Each (ranges_ok layout.config) (record_of layout m.path)

facts : (layout : Layout) (items : List Item) (span : Interval) → is_valid layout ≡ true → (m : Mark layout span.hi (record_of layout items)) → Facts layout items span m
facts layout items span d m = record {
  valid = d;
  few = records_take_few layout m.path d;
  ranges = (histories_keep layout items d).ranges;
  before = (histories_keep layout m.path d).ranges;
}

module _ (layout : Layout) (items : List Item) (span : Interval) (m : Mark layout span.hi (record_of layout items)) (g : Facts layout items span m) where
  abbrev c : Config
  c = layout.config

  abbrev p : Past
  p = record_of layout items

  abbrev at : Past
  at = record_of layout m.path

  -- the interval keeps the row; the row is on a list at the position, was retired from the interval on, is taken there; a seat is given it later
  abbrev keeps : ℕ → Bool
  keeps s = some_below c.seats s (meets_by span) p

  abbrev lists : ℕ → Bool
  lists s = is_one_of s (listed_rows c.seats at)

  abbrev ends : ℕ → Bool
  ends s = ends_below c span.lo s at

  abbrev takes : ℕ → Bool
  takes s = taken_at c.slots s at

  abbrev given : ℕ → Bool
  given s = any_giver c.seats m.marked.giver s

  found : (s : ℕ) → keeps s ≡ true → Found s (meets_by span) p
  found s h = found_of c.seats s (meets_by span) p h

  kept : (s : ℕ) → keeps s ≡ true → given s ≡ false → Kept c.slots at p s
  kept s h n =
      let x = found s h in
      let life : Lifetime = record { slot = s; birth = x.life.birth; retire = x.life.retire } in
      let l : Living c.slots life p = living layout items g.valid x.seat life x.life.on in
      let born = l.born in
      let low : x.life.birth ≤ span.hi = le_of_test x.life.birth span.hi (first_of (nat_le x.life.birth span.hi) (x.life.retire == 0 || nat_le span.lo x.life.retire) x.life.passes) in
      m.marked.givers.kept s l.taken (omega (arith, born, low)) (λ k e. none_given m.marked.giver c.seats k s n (m.marked.givers.within k s e) e)

  listed_taken : (s : ℕ) → lists s ≡ true → takes s ≡ true
  listed_taken s h = g.few.taken s (listed_kept c s at h)

  clash : (s : ℕ) → keeps s ≡ true → lists s ≡ true → ends s ≡ false → given s ≡ false → ⊥
  clash s h l e n =
      let x = found s h in
      let y : Found s any_life at = found_of c.seats s any_life at (rows_found c.seats s at l) in
      let later : On s y.life.birth y.life.retire p = (kept s h n).on y.seat y.life.birth y.life.retire y.life.on in
      let same : x.life.retire ≡ y.life.retire = retired_once layout items g.valid s x.life.birth x.life.retire y.life.birth y.life.retire (record { seat = x.seat; on = x.life.on }) later in
      let from : ends_from span.lo x.life.birth x.life.retire ≡ true = rest_of (nat_le x.life.birth span.hi) (x.life.retire == 0 || nat_le span.lo x.life.retire) x.life.passes in
      let there_too : ends s ≡ true = there c y.seat s y.life.birth y.life.retire (ends_from span.lo) at g.before y.life.on (ap (λ (r : ℕ). r == 0 || nat_le span.lo r) (sym same) ∙ from) in
      no_truth (sym e ∙ there_too)

  row : (s : ℕ) → one (keeps s) + one (lists s && not (ends s)) ≤ one (takes s) + one (given s)
  row s = by (keeps s) (lists s) (ends s) (given s) refl refl refl refl
    where
      taken_one : takes s ≡ true → (n : ℕ) → 1 ≤ one (takes s) + n
      taken_one t n = let e : one (takes s) ≡ 1 = ap one t in omega (arith, e)

      by : (k l e n : Bool) → keeps s ≡ k → lists s ≡ l → ends s ≡ e → given s ≡ n → one k + one (l && not e) ≤ one (takes s) + one n
      by false false e n a b d f = omega arith
      by false true true n a b d f = omega arith
      by false true false n a b d f = taken_one (listed_taken s b) (one n)
      by true true false true a b d f = let t = taken_one (listed_taken s b) 0 in omega (arith, t)
      by true true false false a b d f = absurd (clash s a b d f)
      by true true true true a b d f = omega arith
      by true true true false a b d f = taken_one (kept s a f).taken 0
      by true false e true a b d f = omega arith
      by true false e false a b d f = taken_one (kept s a f).taken 0

  split_listed : (s : ℕ) → one (lists s) ≤ one (lists s && not (ends s)) + one (ends s)
  split_listed s = by (lists s) (ends s)
    where
      by : (l e : Bool) → one l ≤ one (l && not e) + one e
      by true true = omega arith
      by true false = omega arith
      by false e = omega arith

  all_listed : counted lists 0 (c.slots + 1) ≡ listed_below c.seats at
  all_listed =
      counted_rows (listed_rows c.seats at) 0 (c.slots + 1) (listed_apart c at g.few.apart)
      (λ s h. let low : s ≤ c.slots = taken_within layout m.path g.valid s (listed_taken s h) in (omega arith, omega (arith, low)))
      ∙ lists_count c.seats at

  total : counted keeps 0 (c.slots + 1) ≤ changed_below c.buckets at + (suc (waiting_at at) + open_below c.seats at) + (c.seats + count (retires_from span.lo) at)
  total =
      let n : ℕ = c.slots + 1 in
      let rows = counted_four keeps (λ s. lists s && not (ends s)) takes given 0 n row in
      let split = counted_three lists (λ s. lists s && not (ends s)) ends 0 n split_listed in
      let listed = all_listed in
      let used : length (used_at c.slots at) ≡ counted takes 0 n = filtered takes 0 n in
      let number = g.few.number in
      let givers = givers_few m.marked.giver c.seats n in
      let late = ends_few c span.lo at g.before (histories_keep layout m.path g.valid).eras n in
      omega (arith, rows, split, listed, used, number, givers, late)

pub kept_few : (layout : Layout) (items : List Item) (span : Interval) → is_valid layout ≡ true → 1 ≤ span.hi → KeptFew layout.config span (record_of layout items)
kept_few layout items span d low =
    let m : Mark layout span.hi (record_of layout items) = mark layout span.hi items d low in
    let n : ℕ = layout.config.slots + 1 in
    let keeps_is : counted (λ s. meets_below layout.config.seats span s (record_of layout items)) 0 n ≡ counted (λ s. some_below layout.config.seats s (meets_by span) (record_of layout items)) 0 n =
    counted_same (λ s. meets_below layout.config.seats span s (record_of layout items)) (λ s. some_below layout.config.seats s (meets_by span) (record_of layout items)) 0 n (λ s. rows_are layout.config.seats s span (record_of layout items)) in
    let size = filtered (λ s. meets_below layout.config.seats span s (record_of layout items)) 0 n in
    let all = total layout items span m (facts layout items span d m) in
    record {
      at = record_of layout m.path;
      later = m.marked.later;
      cut = m.marked.cut;
      clock = m.clock;
      most = omega (arith, size, keeps_is, all);
    }
