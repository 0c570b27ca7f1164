-- A scan at which no guard publishes reads nothing, so it leaves nothing on its list.
use Rattle.std.proofs.Common.{ℕ, zero, suc, ◌≡◌, ◌≤◌, ◌<◌, ◌+◌, Bool, true, false, List, [], ◌∷◌, ◌++◌, length, Option, Some, None, refl, sym, ap, ◌∙◌, subst, arith, length-append}
use Rattle.std.proofs.lemmas.Bool.Decides.{nat_tests}
use Rattle.std.specs.Prelude.{◌==◌, ◌&&◌, ◌||◌, not, is_none, if◌then◌else◌}
use Rattle.law_all.proofs.inv.model.Facts.{and_right_false, both, first_of, no_truth, number_is, rest_of, same_number}
use Rattle.law_all.specs.inv.history.Record.{Each, Past, Test, held_since}
use Rattle.law_all.specs.inv.history.Record.Past.{Start, Then}
use Rattle.law_all.specs.inv.model.defs.Shown.{Seen, keeps, keeps_any, shown, shown_row}
use Rattle.law_all.specs.inv.model.defs.declared.event.Event.{Event}
use Rattle.law_all.specs.inv.model.defs.declared.event.Event.TheVariants as events
use Rattle.law_all.specs.inv.model.defs.declared.event.Guard.{Guard}
use Rattle.law_all.specs.inv.model.defs.declared.event.Guard.TheVariants.{Helper, Index, Whole}
use Rattle.law_all.specs.inv.model.defs.declared.lifetime.Interval.{Interval}
use Rattle.law_all.specs.inv.model.defs.declared.lifetime.Lifetime.{Lifetime}
use Rattle.law_all.specs.inv.model.defs.declared.shown.Shown.{Shown}
use Rattle.law_all.specs.inv.model.defs.declared.shown.Shown.TheVariants.{Eras, Nothing, Row}
use Rattle.law_all.specs.inv.model.words.Schemes.{publishes_rows}
use Rattle.law_all.specs.inv.model.words.declared.config.Config.{Config}
use Rattle.law_all.specs.inv.model.words.declared.config.SchemeKind.{SchemeKind}
use Rattle.law_all.specs.laws.EraLaw.{kind_ok}
use Rattle.law_all.specs.laws.HoldLaw.{is_blank}
use Rattle.law_all.specs.laws.Lists.{list_of}
use Rattle.law_all.specs.laws.ScanLaw.{guard_at, guards, is_over, is_partial, next_back, next_number, read_next, read_ok, scan_ok}
use Rattle.law_all.specs.laws.StateAt.{hazard_of, is_index, is_scan, published_at, read_by, read_of, same_guard, same_span, scans_of, value_of, with_read}
use Rattle.law_all.specs.laws.StructuresAt.{same_value}
use Rattle.law_bounds.specs.Scans.{emptied_ok, is_nil, publishes_below, tells_other}

-- all that was read is nothing
abbrev pub all_blank : List Seen → Bool
all_blank [] = true
all_blank (seen ∷ read) = is_blank seen.1 && all_blank read

blank_more : (read : List Seen) (seen : Seen) → all_blank read ≡ true → is_blank seen.1 ≡ true → all_blank (read ++ seen ∷ []) ≡ true
blank_more [] seen h b = both (is_blank seen.1) true b refl
blank_more (first ∷ read) seen h b =
    both (is_blank first.1) (all_blank (read ++ seen ∷ [])) (first_of (is_blank first.1) (all_blank read) h) (blank_more read seen (rest_of (is_blank first.1) (all_blank read) h) b)

-- nothing keeps no life
blank_keeps : (life : Lifetime) (x : Shown) → is_blank x ≡ true → keeps life x ≡ false
blank_keeps life Nothing h = refl
blank_keeps life (Eras span) h = absurd (cc)
blank_keeps life (Row slot) h = absurd (cc)

blank_keeps_none : (life : Lifetime) (read : List Seen) → all_blank read ≡ true → keeps_any life read ≡ false
blank_keeps_none life [] h = refl
blank_keeps_none life (seen ∷ read) h =
    let here : keeps life seen.1 ≡ false = blank_keeps life seen.1 (first_of (is_blank seen.1) (all_blank read) h) in
    let more : keeps_any life read ≡ false = blank_keeps_none life read (rest_of (is_blank seen.1) (all_blank read) h) in
    rw (here, more) refl

all_back : (read : List Seen) (list : List Lifetime) → all_blank read ≡ true → is_none (next_back read list) ≡ true → is_nil list ≡ true
all_back read [] h n = refl
all_back read (life ∷ lives) h n =
    let none : keeps_any life read ≡ false = blank_keeps_none life read h in
    let e : is_none (if keeps_any life read then next_back read lives else Some life) ≡ false = rw none refl in
    absurd (no_truth (sym e ∙ n))

-- no guard publishes at a position
at_number : (config : Config) (p : Past) (n k : ℕ) → publishes_below config n p ≡ false → k < n → is_blank (published_at config.scheme (guard_at config k) p) ≡ true
at_number config p zero k h l = absurd (omega arith)
at_number config p (suc n) k h l = by (k == n) refl (at_number config p n k)
  where
    here : (a b : Bool) → (not a || b) ≡ false → a ≡ true
    here true b h = refl
    here false b h = absurd (cc)

    later : (a b : Bool) → (a || b) ≡ false → b ≡ false
    later true b h = absurd (cc)
    later false b h = h

    by : (same : Bool) → (k == n) ≡ same → (publishes_below config n p ≡ false → k < n → is_blank (published_at config.scheme (guard_at config k) p) ≡ true) → is_blank (published_at config.scheme (guard_at config k) p) ≡ true
    by true e f =
        let one : n ≡ k = sym (number_is k n e) in
        subst (λ (x : ℕ). is_blank (published_at config.scheme (guard_at config x) p) ≡ true) one
        (here (is_blank (published_at config.scheme (guard_at config n) p)) (publishes_below config n p) h)
    by false e f =
        f (later (not (is_blank (published_at config.scheme (guard_at config n) p))) (publishes_below config n p) h) (grind (arith, nat_tests, l, e))

-- which guard it is
guard_is : (a b : Guard) → same_guard a b ≡ true → a ≡ b
guard_is (Helper i) (Helper k) h = ap Helper (number_is i k h)
guard_is (Index i j) (Index k m) h =
    let one : i ≡ k = number_is i k (first_of (i == k) (j == m) h) in
    let two : j ≡ m = number_is j m (rest_of (i == k) (j == m) h) in
    cc
guard_is (Whole i) (Whole k) h = ap Whole (number_is i k h)
guard_is (Helper i) (Index k m) h = absurd (cc)
guard_is (Helper i) (Whole k) h = absurd (cc)
guard_is (Index i j) (Helper k) h = absurd (cc)
guard_is (Index i j) (Whole k) h = absurd (cc)
guard_is (Whole i) (Helper k) h = absurd (cc)
guard_is (Whole i) (Index k m) h = absurd (cc)

span_blank : (a b : Option Interval) → same_span a b ≡ true → is_blank (shown b) ≡ true → is_blank (shown a) ≡ true
span_blank None b h e = refl
span_blank (Some x) None h e = absurd (cc)
span_blank (Some x) (Some y) h e = absurd (cc)

row_blank : (a b : Option ℕ) → same_value a b ≡ true → is_blank (shown_row b) ≡ true → is_blank (shown_row a) ≡ true
row_blank None b h e = refl
row_blank (Some x) None h e = absurd (cc)
row_blank (Some x) (Some y) h e = absurd (cc)

as_eras : (scheme : SchemeKind) (guard : Guard) (p : Past) → publishes_rows scheme ≡ false → published_at scheme guard p ≡ shown (value_of guard p)
as_eras scheme guard p e = rw e refl

as_rows : (scheme : SchemeKind) (guard : Guard) (p : Past) → publishes_rows scheme ≡ true → published_at scheme guard p ≡ shown_row (hazard_of guard p)
as_rows scheme guard p e = rw e refl

not_true : (b : Bool) → not b ≡ true → b ≡ false
not_true true h = absurd (cc)
not_true false h = refl

-- what was read in a block so far
pub record Blank (config : Config) (i : ℕ) (p : Past) : Type 0 where
  pub few : length (read_of (guards config) i p) ≤ guards config
  pub blank : scans_of i p ≡ true → held_since (tells_other i) (publishes_below config (guards config)) p ≡ false → all_blank (read_of (guards config) i p) ≡ true

-- one guard more
with_few : (all : ℕ) (seen : Seen) (read : List Seen) (whole : Bool) → (length read == all) ≡ whole → 0 < all → length read ≤ all → length ((if whole then [] else read) ++ seen ∷ []) ≤ all
with_few all seen read true e low h = omega arith
with_few all seen read false e low h =
    let more : length (read ++ seen ∷ []) ≡ length read + 1 = length-append read (seen ∷ []) in
    let less : length read + 1 ≤ all = grind (arith, nat_tests, e, h) in
    omega (arith, more, less)

with_blank : (all : ℕ) (seen : Seen) (read : List Seen) (whole : Bool) → (length read == all) ≡ whole → length read ≤ all → (is_partial all read ≡ true → all_blank read ≡ true) → is_blank seen.1 ≡ true → all_blank ((if whole then [] else read) ++ seen ∷ []) ≡ true
with_blank all seen read true e h f b = blank_more [] seen refl b
with_blank all seen [] false e h f b = blank_more [] seen refl b
with_blank all seen (one ∷ read) false e h f b =
    let long : length (one ∷ read) ≡ suc (length read) = refl in
    blank_more (one ∷ read) seen (f (grind (arith, nat_tests, e, h, long))) b

next_low : (all : ℕ) (read : List Seen) (whole : Bool) → (length read == all) ≡ whole → 0 < all → length read ≤ all → (if whole then 0 else length read) < all
next_low all read true e low h = low
next_low all read false e low h = grind (arith, nat_tests, e, h)

partly : (partial scans other : Bool) → (if partial then scans else other) ≡ true → partial ≡ true → scans ≡ true
partly true scans other h e = h
partly false scans other h e = absurd (cc)

-- a guard that is read at a position at which none publishes
read_number : (config : Config) (p : Past) (guard : Guard) (read : List Seen) (list : List Lifetime) (scans : Bool) → 0 < guards config → length read ≤ guards config → read_next config read list scans guard ≡ true → publishes_below config (guards config) p ≡ false
    → is_blank (published_at config.scheme guard p) ≡ true
read_number config p guard read list scans low few h none =
    let n : ℕ = next_number (guards config) read in
    let is : guard ≡ guard_at config n = guard_is guard (guard_at config n) (first_of (same_guard guard (guard_at config n)) _ h) in
    subst (λ (x : Guard). is_blank (published_at config.scheme x p) ≡ true) (sym is) (at_number config p (guards config) n none (next_low (guards config) read (length read == guards config) refl low few))

-- the position itself is one of those since the seat told anything else
held_here : (test : Test) (f : Past → Bool) (p : Past) → held_since test f p ≡ false → f p ≡ false
held_here test f Start h = h
held_here test f (Then p k event) h = by (f (Then p k event)) (not (test p k event) && held_since test f p) h
  where
    by : (a b : Bool) → (a || b) ≡ false → a ≡ false
    by true b h = h
    by false b h = refl

held_before : (test : Test) (k : ℕ) (f : Past → Bool) (p : Past) (event : Event) → test p k event ≡ false → held_since test f (Then p k event) ≡ false → held_since test f p ≡ false
held_before test k f p event e h = by (f (Then p k event)) (test p k event) (held_since test f p) e h
  where
    by : (a b c : Bool) → b ≡ false → (a || (not b && c)) ≡ false → c ≡ false
    by true b c e h = absurd (cc)
    by false true c e h = absurd (cc)
    by false false c e h = h

abbrev Quiet : Config → ℕ → Past → Type 0
Quiet config i p = held_since (tells_other i) (publishes_below config (guards config)) p ≡ false

module _ (config : Config) (low : 0 < guards config) where
  read_few : (i : ℕ) (p : Past) (seen : Seen) → Blank config i p → length (with_read (guards config) seen (read_of (guards config) i p)) ≤ guards config
  read_few i p seen b = with_few (guards config) seen (read_of (guards config) i p) (length (read_of (guards config) i p) == guards config) refl low b.few

  read_blank : (i : ℕ) (p : Past) (seen : Seen) → Blank config i p → (is_partial (guards config) (read_of (guards config) i p) ≡ true → scans_of i p ≡ true) → Quiet config i p → is_blank seen.1 ≡ true → all_blank (with_read (guards config) seen (read_of (guards config) i p)) ≡ true
  read_blank i p seen b f q n =
      with_blank (guards config) seen (read_of (guards config) i p) (length (read_of (guards config) i p) == guards config) refl b.few (λ e. b.blank (f e) q) n

  own_few : (i : ℕ) (p : Past) (event : Event) → Blank config i p → length (read_by (guards config) event (read_of (guards config) i p)) ≤ guards config
  own_few i p (events.Read guard span) b = read_few i p (guard, shown span) b
  own_few i p (events.Saw guard slot) b = read_few i p (guard, shown_row slot) b
  own_few i p event b = b.few

  own_blank : (i : ℕ) (p : Past) (event : Event) → scan_ok config p i event ≡ true → read_ok p i event ≡ true → kind_ok config.scheme p i event ≡ true → Blank config i p → is_scan event ≡ true → Quiet config i (Then p i event) → all_blank (read_by (guards config) event (read_of (guards config) i p)) ≡ true
  own_blank i p (events.Read guard span) h r k b s q =
      let quiet : Quiet config i p = held_before (tells_other i) i (publishes_below config (guards config)) p (events.Read guard span) refl q in
      let none : is_blank (published_at config.scheme guard p) ≡ true = read_number config p guard (read_of (guards config) i p) (list_of i p) (scans_of i p) low b.few h (held_here (tells_other i) (publishes_below config (guards config)) p quiet) in
      let blank : is_blank (shown (value_of guard p)) ≡ true = ap is_blank (sym (as_eras config.scheme guard p (not_true (publishes_rows config.scheme) k))) ∙ none in
      read_blank i p (guard, shown span) b (partly _ (scans_of i p) _ (rest_of (same_guard guard (guard_at config (next_number (guards config) (read_of (guards config) i p)))) _ h)) quiet (span_blank span (value_of guard p) r blank)
  own_blank i p (events.Saw guard slot) h r k b s q =
      let quiet : Quiet config i p = held_before (tells_other i) i (publishes_below config (guards config)) p (events.Saw guard slot) refl q in
      let none : is_blank (published_at config.scheme guard p) ≡ true = read_number config p guard (read_of (guards config) i p) (list_of i p) (scans_of i p) low b.few h (held_here (tells_other i) (publishes_below config (guards config)) p quiet) in
      let blank : is_blank (shown_row (hazard_of guard p)) ≡ true = ap is_blank (sym (as_rows config.scheme guard p (first_of (publishes_rows config.scheme) (is_index guard) k))) ∙ none in
      read_blank i p (guard, shown_row slot) b (partly _ (scans_of i p) _ (rest_of (same_guard guard (guard_at config (next_number (guards config) (read_of (guards config) i p)))) _ h)) quiet (row_blank slot (hazard_of guard p) r blank)
  own_blank i p (events.Back slot) h r k b s q = b.blank (first_of (scans_of i p) _ h) (held_before (tells_other i) i (publishes_below config (guards config)) p (events.Back slot) refl q)
  own_blank i p event h r k b s q = absurd (cc)

  own_entry : (i : ℕ) (p : Past) (event : Event) → scan_ok config p i event ≡ true → read_ok p i event ≡ true → kind_ok config.scheme p i event ≡ true → Blank config i p → Blank config i (Then p i event)
  own_entry i p event h r k b =
      let same : (i == i) ≡ true = same_number i in
      record { few = rw same (own_few i p event b); blank = λ s q. let t : is_scan event ≡ true = rw same at s in rw same (own_blank i p event h r k b t q) }

  other_not : (i k : ℕ) (p : Past) (event : Event) → (i == k) ≡ false → tells_other i p k event ≡ false
  other_not i k p event e = and_right_false (not (is_scan event)) (i == k) e

  other_entry : (i k : ℕ) (p : Past) (event : Event) → (i == k) ≡ false → Blank config i p → Blank config i (Then p k event)
  other_entry i k p event e b =
      record {
        few = rw e b.few;
        blank = λ s q. let t : scans_of i p ≡ true = rw e at s in rw e (b.blank t (held_before (tells_other i) k (publishes_below config (guards config)) p event (other_not i k p event e) q));
      }

  entry : (i k : ℕ) (p : Past) (event : Event) (same : Bool) → (i == k) ≡ same → scan_ok config p k event ≡ true → read_ok p k event ≡ true → kind_ok config.scheme p k event ≡ true → Blank config i p → Blank config i (Then p k event)
  entry i k p event true e h r t b =
      let here : i ≡ k = number_is i k e in
      subst (λ (n : ℕ). Blank config i (Then p n event)) here
      (own_entry i p event (subst (λ (n : ℕ). scan_ok config p n event ≡ true) (sym here) h) (subst (λ (n : ℕ). read_ok p n event ≡ true) (sym here) r) (subst (λ (n : ℕ). kind_ok config.scheme p n event ≡ true) (sym here) t) b)
  entry i k p event false e h r t b = other_entry i k p event e b

  pub blank_at : (i : ℕ) (p : Past) → Each (scan_ok config) p → Each read_ok p → Each (kind_ok config.scheme) p → Blank config i p
  blank_at i Start h r k = record { few = omega arith; blank = λ s q. refl }
  blank_at i (Then p j event) h r k = entry i j p event (i == j) refl h.0 r.0 k.0 (blank_at i p h.1 r.1 k.1)

  -- so the list is empty where the call ends
  ends_empty : (i : ℕ) (p : Past) (scans held : Bool) → scans_of i p ≡ scans → held_since (tells_other i) (publishes_below config (guards config)) p ≡ held → (not scans || is_over (guards config) (read_of (guards config) i p) (list_of i p)) ≡ true → Blank config i p → (not scans || (held || is_nil (list_of i p))) ≡ true
  ends_empty i p false held s q h b = refl
  ends_empty i p true true s q h b = refl
  ends_empty i p true false s q h b =
      all_back (read_of (guards config) i p) (list_of i p) (b.blank s q) (rest_of (length (read_of (guards config) i p) == guards config) (is_none (next_back (read_of (guards config) i p) (list_of i p))) h)

  emptied_one : (i : ℕ) (p : Past) (event : Event) → scan_ok config p i event ≡ true → Blank config i p → emptied_ok config p i event ≡ true
  emptied_one i p (events.End steps answer) h b = ends_empty i p (scans_of i p) (held_since (tells_other i) (publishes_below config (guards config)) p) refl refl h b
  emptied_one i p event h b = refl

  pub emptied_each : (p : Past) → Each (scan_ok config) p → Each read_ok p → Each (kind_ok config.scheme) p → Each (emptied_ok config) p
  emptied_each Start h r k = tt
  emptied_each (Then p i event) h r k = (emptied_one i p event h.0 (blank_at i p h.1 r.1 k.1), emptied_each p h.1 r.1 k.1)
