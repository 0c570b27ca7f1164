-- An index word publishes nothing by the record where its seat has published nothing since it told none.
use Rattle.std.proofs.Common.{ℕ, ◌≡◌, Bool, true, false, List, [], ◌∷◌, Option, Some, None, refl, sym, ◌∙◌, subst, arith}
use Rattle.std.proofs.lemmas.Bool.Decides.{nat_tests}
use Rattle.std.specs.Prelude.{◌==◌, ◌&&◌, ◌||◌, nat_lt, if◌then◌else◌}
use Rattle.law_scans.specs.inv.model.defs.declared.call.Call.{Call}
use Rattle.law_scans.specs.inv.model.defs.declared.event.Event.{Event}
use Rattle.law_scans.specs.inv.model.defs.declared.event.Event.TheVariants as events
use Rattle.law_scans.specs.inv.model.defs.declared.event.Guard.TheVariants.{Helper, Index, Whole}
use Rattle.law_scans.specs.inv.model.defs.declared.lifetime.Interval.{Interval}
use Rattle.law_scans.proofs.inv.model.Facts.{first_of, rest_of}
use Rattle.law_scans.specs.laws.StateAt.{is_index_word, one_more, reserves_by, reserves_of, value_of, reserved_by}
use Rattle.law_scans.specs.laws.HistoryTurns.{event_handed, events_handed, handed_right}
use Rattle.law_scans.specs.laws.records.Turns.{EachTurn, record_of}
use Rattle.law_scans.specs.laws.records.Record.{Past, tells_of}
use Rattle.law_scans.specs.laws.records.Record.Past.{Then}
use Rattle.law_scans.specs.laws.records.Turns as schedule
use Rattle.law_scans.specs.laws.records.Turns.History.{Blank, Starts, Turns}
use Rattle.law_scans.proofs.laws.Along.{index_guard}

-- where its seat has published nothing, it publishes nothing
abbrev pub Empty : ℕ → ℕ → Past → Type 0
Empty k j p = reserves_of k j p ≡ 0 → value_of (Index k j) p ≡ None

-- an event of its own seat
span_own : (span : Option Interval) (here : Bool) (n : ℕ) (x : Option Interval) → (n ≡ 0 → x ≡ None) → (if here then one_more span n else n) ≡ 0 → (if here then span else x) ≡ None
span_own None true n x h z = refl
span_own (Some span) true n x h z = absurd (grind (arith, nat_tests))
span_own span false n x h z = h z

own_empty : (k j : ℕ) (event : Event) (n : ℕ) (x : Option Interval) → (n ≡ 0 → x ≡ None) → reserves_by k j event n ≡ 0 → reserved_by (Index k j) event x ≡ None
own_empty k j (events.Reserve guard span) n x h z = rw (index_guard k j guard) (span_own span (is_index_word k j guard) n x h z)
own_empty k j event n x h z = h z

-- an event of another seat
span_other : (span : Option Interval) (here : Bool) (x : Option Interval) → here ≡ false → x ≡ None → (if here then span else x) ≡ None
span_other span true x e h = absurd (cc)
span_other span false x e h = h

apart_by : (i k j m n : ℕ) (x : ℕ → ℕ → ℕ) (here : Bool) → (k == i) ≡ false → x k j ≡ 0 → (m == i || nat_lt 0 (x m n)) ≡ true → (k == m && j == n) ≡ here → here ≡ false
apart_by i k j m n x true a z h e =
    let s : m ≡ k = grind (arith, nat_tests) in
    let t : n ≡ j = grind (arith, nat_tests) in
    let u : (k == i || nat_lt 0 (x k j)) ≡ true = subst (λ (c : ℕ). (k == i || nat_lt 0 (x k c)) ≡ true) t (subst (λ (c : ℕ). (c == i || nat_lt 0 (x c n)) ≡ true) s h) in
    let v : (k == i || nat_lt 0 0) ≡ true = subst (λ (c : ℕ). (k == i || nat_lt 0 c) ≡ true) z u in
    let y : (false || nat_lt 0 0) ≡ true = subst (λ (b : Bool). (b || nat_lt 0 0) ≡ true) a v in absurd (cc)
apart_by i k j m n x false a z h e = refl

other_empty : (i k j : ℕ) (x : ℕ → ℕ → ℕ) (event : Event) (y : Option Interval) → (k == i) ≡ false → x k j ≡ 0 → event_handed i x event ≡ true → y ≡ None → reserved_by (Index k j) event y ≡ None
other_empty i k j x (events.Reserve (Index m n) span) y a z h e = span_other span (k == m && j == n) y (apart_by i k j m n x (k == m && j == n) a z h refl) e
other_empty i k j x (events.Reserve (Helper seat) span) y a z h e = e
other_empty i k j x (events.Reserve (Whole seat) span) y a z h e = e
other_empty i k j x event y a z h e = e

-- along a turn
one_empty : (i k j : ℕ) (x : ℕ → ℕ → ℕ) (event : Event) (p : Past) (same : Bool) → (k == i) ≡ same → (same ≡ false → reserves_of k j p ≡ x k j) → event_handed i x event ≡ true → Empty k j p → Empty k j (Then p i event)
one_empty i k j x event p true e f h g z = let y : reserves_by k j event (reserves_of k j p) ≡ 0 = rw e at z in own_empty k j event (reserves_of k j p) (value_of (Index k j) p) g y
one_empty i k j x event p false e f h g z =
    let y : reserves_of k j p ≡ 0 = rw e at z in
    other_empty i k j x event (value_of (Index k j) p) e (sym (f refl) ∙ y) h (g y)

stays_by : (i k j : ℕ) (event : Event) (p : Past) → (k == i) ≡ false → reserves_of k j (Then p i event) ≡ reserves_of k j p
stays_by i k j event p e = rw e refl

along_empty : (i k j : ℕ) (x : ℕ → ℕ → ℕ) (told : List Event) (p : Past) → ((k == i) ≡ false → reserves_of k j p ≡ x k j) → events_handed i x told ≡ true → Empty k j p → Empty k j (tells_of p i told)
along_empty i k j x [] p f h g = g
along_empty i k j x (event ∷ told) p f h g =
    along_empty i k j x told (Then p i event) (λ e. stays_by i k j event p e ∙ f e) (rest_of (event_handed i x event) (events_handed i x told) h)
    (one_empty i k j x event p (k == i) refl f (first_of (event_handed i x event) (events_handed i x told) h) g)

begin_empty : (i k j : ℕ) (p : Past) (call : Call) → Empty k j p → Empty k j (Then p i (events.Begin call))
begin_empty i k j p call g z = g (by (k == i) z)
  where
    by : (same : Bool) → (if same then reserves_of k j p else reserves_of k j p) ≡ 0 → reserves_of k j p ≡ 0
    by true y = y
    by false y = y

pub history_empty : (h : schedule.History) (k j : ℕ) → EachTurn handed_right h → Empty k j (record_of h)
history_empty Blank k j g = λ z. refl
history_empty (Starts h i call) k j g = begin_empty i k j (record_of h) call (history_empty h k j g)
history_empty (Turns h i told) k j g = along_empty i k j (λ m n. reserves_of m n (record_of h)) told (record_of h) (λ e. refl) g.0 (history_empty h k j g.1)
