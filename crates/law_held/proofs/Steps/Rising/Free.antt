-- Where a protection begins its index word publishes nothing: what it publishes was told since the seat told nothing of it.
use Rattle.std.proofs.Common.{ℕ, ◌≡◌, ◌+◌, Bool, true, false, List, [], ◌∷◌, Option, Some, None, refl, sym, ◌∙◌, subst, arith}
use Rattle.std.proofs.lemmas.Bool.Decides.{nat_tests}
use Rattle.std.specs.Prelude.{◌==◌, ◌&&◌, ◌||◌, not, is_some, nat_lt, if◌then◌else◌, nat_le}
use Rattle.law_scans.specs.inv.model.words.Place.{is_valid}
use Rattle.law_scans.specs.inv.model.words.declared.config.SchemeKind.{SchemeKind}
use Rattle.law_scans.specs.inv.model.words.declared.config.SchemeKind.TheVariants.{He, Ibr, Wfe, Hp}
use Rattle.law_scans.specs.inv.model.words.declared.layout.Layout.{Layout}
use Rattle.law_scans.specs.inv.model.defs.declared.event.Event.{Event}
use Rattle.law_scans.specs.inv.model.defs.declared.event.Event.TheVariants as events
use Rattle.law_scans.specs.inv.model.defs.declared.event.Guard.{Guard}
use Rattle.law_scans.specs.inv.model.defs.declared.event.Guard.TheVariants.{Helper, Index, Whole}
use Rattle.law_scans.specs.inv.model.defs.declared.event.Root.{Root}
use Rattle.law_scans.specs.inv.model.defs.declared.lifetime.Interval.{Interval}
use Rattle.law_scans.specs.inv.model.Calls.{Why, Phase, Runs}
use Rattle.law_scans.specs.inv.model.Phases.{Aim, Endless, Failed, Tries}
use Rattle.law_scans.specs.inv.model.Phases.ProtectAt.{LoadClock}
use Rattle.law_scans.specs.inv.model.Phases.Base.{Protect}
use Rattle.law_scans.proofs.inv.model.Facts.{first_of, rest_of}
use Rattle.law_scans.specs.inv.model.words.Schemes.{is_ibr, publishes_rows}
use Rattle.law_scans.specs.inv.model.World.{World}
use Rattle.law_scans.specs.inv.shapes.Seats.{PhaseFits, Run, tries_fit}
use Rattle.law_scans.proofs.inv.Inv.Reached.{inv_reached}
use Rattle.law_scans.specs.laws.records.Record.{Past, tells_of}
use Rattle.law_scans.specs.laws.records.Record.Past.{Then}
use Rattle.law_scans.specs.laws.records.Turns as schedule
use Rattle.law_scans.specs.laws.records.Turns.History.{Blank, Starts, Turns}
use Rattle.law_scans.specs.inv.history.History.{Item, world_of, record_of}
use Rattle.law_scans.specs.laws.StateAt.{same_guard, value_of, is_index_word, one_more, reserves_of}
use Rattle.law_scans.specs.reuse.Heard.{IsCounted}
use Rattle.law_scans.specs.inv.history.Heard.{heard_of}
use Rattle.law_scans.proofs.reuse.Turns.Counted.{histories_count}
use Rattle.law_scans.specs.laws.HistoryTurns.{turns_since, event_handed, events_handed, handed_right}
use Rattle.law_scans.specs.laws.records.Turns.{EachTurn}
use Rattle.law_scans.proofs.reuse.OneStep.Along.{history_keeps}
use Rattle.law_scans.proofs.Turns.Counting.Counting.{Keeps, first_kept, kept}
use Rattle.law_scans.proofs.Turns.Counting.Fits.{own}
use Rattle.law_scans.proofs.Turns.Handovers.{handovers_meet}
use Rattle.law_scans.proofs.laws.Along.{index_guard}

-- an index word that publishes has been told to since its seat told nothing of it
abbrev marked : ℕ → ℕ → Past → Bool
marked k j p = not (is_some (value_of (Index k j) p)) || nat_lt 0 (reserves_of k j p)

-- the seat itself tells it
own_told : (k j : ℕ) (guard : Guard) (span value : Option Interval) (before : ℕ) (same : Bool) → is_index_word k j guard ≡ same → (not (is_some value) || nat_lt 0 before) ≡ true
    → (not (is_some (if same_guard (Index k j) guard then span else value)) || nat_lt 0 (if is_index_word k j guard then one_more span before else before)) ≡ true
own_told k j guard None value before true e h = rw (index_guard k j guard, e) refl
own_told k j guard (Some span) value before true e h = rw (index_guard k j guard, e) (some_told before)
  where
    some_told : (before : ℕ) → nat_lt 0 (before + 1) ≡ true
    some_told before = grind (arith, nat_tests)
own_told k j guard span value before false e h = rw (index_guard k j guard, e) h

-- another seat hands over
other_told : (k j i : ℕ) (guard : Guard) (span value : Option Interval) (before : ℕ) (x : ℕ → ℕ → ℕ) (same : Bool) → is_index_word k j guard ≡ same → (k == i) ≡ false → x k j ≡ before → event_handed i x (events.Reserve guard span) ≡ true → (not (is_some value) || nat_lt 0 before) ≡ true
    → (not (is_some (if same_guard (Index k j) guard then span else value)) || nat_lt 0 before) ≡ true
other_told k j i (Index a b) span value before x true e o r h m =
    let p : a ≡ k = grind (arith, nat_tests) in
    let q : b ≡ j = grind (arith, nat_tests) in
    let f : (k == i || nat_lt 0 (x k j)) ≡ true = subst (λ (n : ℕ). (k == i || nat_lt 0 (x k n)) ≡ true) q (subst (λ (n : ℕ). (n == i || nat_lt 0 (x n b)) ≡ true) p h) in
    let g : nat_lt 0 (x k j) ≡ true = rw o at f in
    any (not (is_some (if same_guard (Index k j) (Index a b) then span else value))) (nat_lt 0 before) (subst (λ (n : ℕ). nat_lt 0 n ≡ true) r g)
  where
    any : (a b : Bool) → b ≡ true → (a || b) ≡ true
    any true b h = refl
    any false b h = h
other_told k j i (Helper seat) span value before x same e o r h m = m
other_told k j i (Whole seat) span value before x same e o r h m = m
other_told k j i (Index a b) span value before x false e o r h m = rw (index_guard k j (Index a b), e) m

if_false : (same : Bool) (a b : ℕ) → same ≡ false → (if same then a else b) ≡ b
if_false true a b h = absurd (cc)
if_false false a b h = refl

own_one : (k j i : ℕ) (event : Event) (p : Past) → (k == i) ≡ true → marked k j p ≡ true → marked k j (Then p i event) ≡ true
own_one k j i (events.Reserve guard span) p s m = rw s (own_told k j guard span (value_of (Index k j) p) (reserves_of k j p) (is_index_word k j guard) refl m)
own_one k j i event p s m = rw s m

other_one : (k j i : ℕ) (x : ℕ → ℕ → ℕ) (event : Event) (p : Past) → (k == i) ≡ false → x k j ≡ reserves_of k j p → event_handed i x event ≡ true → marked k j p ≡ true → marked k j (Then p i event) ≡ true
other_one k j i x (events.Reserve guard span) p s r h m = rw s (other_told k j i guard span (value_of (Index k j) p) (reserves_of k j p) x (is_index_word k j guard) refl s r h m)
other_one k j i x event p s r h m = rw s m

own_marked : (k j i : ℕ) (told : List Event) (p : Past) → (k == i) ≡ true → marked k j p ≡ true → marked k j (tells_of p i told) ≡ true
own_marked k j i [] p s m = m
own_marked k j i (event ∷ told) p s m = own_marked k j i told (Then p i event) s (own_one k j i event p s m)

other_marked : (k j i : ℕ) (x : ℕ → ℕ → ℕ) (told : List Event) (p : Past) → (k == i) ≡ false → x k j ≡ reserves_of k j p → events_handed i x told ≡ true → marked k j p ≡ true → marked k j (tells_of p i told) ≡ true
other_marked k j i x [] p s r h m = m
other_marked k j i x (event ∷ told) p s r h m =
    other_marked k j i x told (Then p i event) s (r ∙ sym (if_false (k == i) _ _ s)) (rest_of (event_handed i x event) (events_handed i x told) h) (other_one k j i x event p s r (first_of (event_handed i x event) (events_handed i x told) h) m)

told_marked : (k j i : ℕ) (x : ℕ → ℕ → ℕ) (told : List Event) (p : Past) (same : Bool) → (k == i) ≡ same → x k j ≡ reserves_of k j p → events_handed i x told ≡ true → marked k j p ≡ true → marked k j (tells_of p i told) ≡ true
told_marked k j i x told p true s r h m = own_marked k j i told p s m
told_marked k j i x told p false s r h m = other_marked k j i x told p s r h m

begin_marked : (k j i : ℕ) (call : _) (p : Past) (same : Bool) → (k == i) ≡ same → marked k j p ≡ true → marked k j (Then p i (events.Begin call)) ≡ true
begin_marked k j i call p true s m = rw s m
begin_marked k j i call p false s m = rw s m

history_marked : (k j : ℕ) (h : schedule.History) → EachTurn handed_right h → marked k j (schedule.record_of h) ≡ true
history_marked k j Blank e = refl
history_marked k j (Starts h i call) e = begin_marked k j i call (schedule.record_of h) (k == i) refl (history_marked k j h e)
history_marked k j (Turns h i told) e = told_marked k j i (λ a b. reserves_of a b (schedule.record_of h)) told (schedule.record_of h) (k == i) refl refl e.0 (history_marked k j h e.1)

none_of : (value : Option Interval) (n : ℕ) → (n == 0) ≡ true → (not (is_some value) || nat_lt 0 n) ≡ true → value ≡ None
none_of None n e m = refl
none_of (Some span) n e m = absurd (grind (arith, nat_tests))

-- no protection of tries begins where rows are published
by_tries : (scheme : SchemeKind) (most : ℕ) (tries : Tries) → publishes_rows scheme ≡ true → tries_fit scheme most tries ≡ true → ⊥
by_tries He most tries p h = cc
by_tries Ibr most tries p h = cc
by_tries Wfe most tries p h = cc
by_tries Hp most Endless p h = cc
by_tries Hp most (Failed count) p h = cc

-- a protection of tries begins
pub free_index : (layout : Layout) (items : List Item) (i : ℕ) (why : Why) (aim : Aim) (index : ℕ) (root : Root) (made : ℕ) (tries : Tries) → is_valid layout ≡ true → is_ibr layout.config.scheme ≡ false → ((world_of layout items).seat i).phase ≡ Runs why (Protect aim index root made (LoadClock tries))
    → value_of (Index i index) (record_of layout items) ≡ None
free_index layout items i why aim index root made tries d n q = by (publishes_rows layout.config.scheme) refl
  where
    by : (rows : Bool) → publishes_rows layout.config.scheme ≡ rows → value_of (Index i index) (record_of layout items) ≡ None
    by true s =
        let w : World = world_of layout items in
        let g = history_keeps layout (Keeps true layout) (kept true layout n) d items (first_kept true layout n s) in
        let a = inv_reached layout items d in
        let k = a.known in
        let r : Run w.layout why (Protect aim index root made (LoadClock tries)) (w.seat i).post = subst (λ (p : Phase). PhaseFits w.layout (w.seat i).post p) q (k.seats.fits i).phase in
        absurd (by_tries layout.config.scheme layout.config.tries tries s (subst (λ (table : Layout). tries_fit table.config.scheme table.config.tries tries ≡ true) g.table r.fits))
    by false s =
        let h : schedule.History = heard_of layout items in
        let c : IsCounted layout items = histories_count layout items d in
        let g = history_keeps layout (Keeps false layout) (kept false layout n) d items (first_kept false layout n s) in
        let f = g.seats i in
        let o = subst (λ (p : Phase). own (λ j. reserves_of i j (schedule.record_of h)) (λ j. turns_since i j h) ((world_of layout items).seat i).post p ≡ true) q f.own in
        let z : (reserves_of i index (schedule.record_of h) == 0) ≡ true = first_of (reserves_of i index (schedule.record_of h) == 0) (made == 0) (first_of (reserves_of i index (schedule.record_of h) == 0 && made == 0) (nat_le made ((world_of layout items).seat i).post.steps && true) o) in
        let m = history_marked i index h (handovers_meet layout items d n) in
        subst (λ (p : Past). value_of (Index i index) p ≡ None) c.tells (none_of (value_of (Index i index) (schedule.record_of h)) (reserves_of i index (schedule.record_of h)) z m)
