-- Where a call ends, what its seat's guards publish.
use Rattle.std.proofs.Common.{ℕ, zero, suc, ◌≡◌, ◌≤◌, ◌<◌, ◌⊎◌, inl, inr, Bool, true, false, List, [], ◌∷◌, ◌++◌, Option, Some, None, refl, sym, ap, ◌∙◌, subst, arith}
use Rattle.std.proofs.lemmas.Bool.Decides.{nat_tests}
use Rattle.std.specs.Prelude.{◌==◌, nat_lt, is_none, is_some, if◌then◌else◌}
use Rattle.law_scans.specs.inv.model.words.Place.{is_valid}
use Rattle.law_scans.specs.inv.model.words.declared.config.SchemeKind.{SchemeKind}
use Rattle.law_scans.specs.inv.model.words.declared.config.SchemeKind.TheVariants.{He, Hp, Ibr, Wfe}
use Rattle.law_scans.specs.inv.model.words.declared.layout.Layout.{Layout}
use Rattle.law_scans.specs.inv.model.defs.declared.call.Answer.{Answer}
use Rattle.law_scans.specs.inv.model.defs.declared.event.Event.{Event}
use Rattle.law_scans.specs.inv.model.defs.declared.event.Event.TheVariants as events
use Rattle.law_scans.specs.inv.model.defs.declared.event.Guard.{Guard}
use Rattle.law_scans.specs.inv.model.defs.declared.event.Guard.TheVariants.{Helper, Index, Whole}
use Rattle.law_scans.specs.inv.model.defs.declared.lifetime.Interval.{Interval}
use Rattle.law_scans.specs.inv.model.defs.declared.lifetime.Lifetime.{Lifetime}
use Rattle.law_scans.specs.inv.model.defs.Shown as values
use Rattle.law_scans.specs.inv.model.defs.Shown.{keeps}
use Rattle.law_scans.specs.inv.model.declared.post.Post.{Post}
use Rattle.law_scans.specs.inv.model.Guards.{own_guard}
use Rattle.law_scans.specs.inv.model.Calls.{Phase, Idle, CallTurn, CallOutcome, GoesOn, Answers}
use Rattle.law_scans.specs.inv.model.Locals.{busy_in, told_by, told_end, turn}
use Rattle.law_scans.specs.inv.model.Posts.{stands}
use Rattle.law_scans.specs.inv.model.Rounds.{kept_row}
use Rattle.law_scans.proofs.inv.model.Standing.{some_kept}
use Rattle.law_scans.specs.inv.model.words.declared.config.Config.{Config}
use Rattle.law_scans.specs.inv.model.defs.declared.call.Call.{Call}
use Rattle.law_held.proofs.Indexes.Indexing.{record_high}
use Rattle.law_scans.specs.inv.model.World.{World, finds, is_busy, offered, told_in}
use Rattle.law_scans.proofs.inv.model.Facts.{first_of, rest_of}
use Rattle.law_scans.specs.inv.covers.Covers.{life_in, shown}
use Rattle.law_scans.proofs.inv.covers.Held.{stepped_phase}
use Rattle.law_scans.specs.inv.model.words.Schemes.{is_ibr, publishes_rows}
use Rattle.law_scans.specs.inv.shapes.Frame.{phase_left}
use Rattle.law_scans.proofs.inv.requests.Kept.{idle_of}
use Rattle.law_scans.specs.inv.Inv.{Inv}
use Rattle.law_scans.proofs.inv.Inv.Reached.{inv_reached}
use Rattle.law_scans.proofs.inv.Inv.Shown.{shown_span}
use Rattle.law_scans.specs.laws.records.Record.{Past, Test, Each, EachEntry, tells_of}
use Rattle.law_scans.specs.laws.records.Record.Past.{Then}
use Rattle.law_scans.specs.laws.records.Turns as schedule
use Rattle.law_scans.specs.inv.history.History.{Item, Steps, Made, fits, done, done_if, made_of, first_made, record_of, world_of}
use Rattle.law_scans.proofs.reuse.history.Along.{made_snoc}
use Rattle.law_scans.specs.laws.StateAt.{hazard_of, published_at, stood_at, value_of}
use Rattle.law_scans.proofs.reuse.Reuse.Keeps.{record_stands}
use Rattle.law_scans.proofs.reuse.history.AllOf.{all_of}
use Rattle.law_scans.proofs.reuse.AnswersTold.Owed.{is_open, Owes, owed}
use Rattle.law_scans.proofs.reuse.AnswersTold.Answering.{owes_of}
use Rattle.law_scans.proofs.reuse.BareEnds.{end_stood}
use Rattle.law_scans.proofs.reuse.OneStep.Along.{history_keeps}
use Rattle.law_scans.proofs.Turns.Counting.Counting.{Keeps, begin_kept, step_kept, first_kept}
use Rattle.law_scans.proofs.Turns.Counting.Fits.{Clean, free, holds}
use Rattle.law_scans.proofs.Turns.Handovers.{handovers_meet}
use Rattle.law_scans.proofs.reuse.Holding.Holds.{record_publishes, record_values, history_held}
use Rattle.law_held.proofs.Roots.Ways.{Turning, record_each, answers_of}
use Rattle.law_scans.specs.inv.history.Heard.{heard_of}
use Rattle.law_scans.specs.reuse.Heard.{IsCounted}
use Rattle.law_scans.proofs.reuse.Turns.Counted.{histories_count}
use Rattle.law_scans.specs.laws.HistoryHolds.{first_of as first_row_of, helpers_ok, index_rests, is_alike, kept_below, spans_ok, words_ok}
use Rattle.law_held.specs.Records.{RecordsRestGuards}
use Rattle.law_held.proofs.Resting.Spans.{spent_of}
use Rattle.law_held.proofs.Resting.Spent.{Spent}
use Rattle.law_held.proofs.Resting.Valued.{history_empty}
use Rattle.law_scans.proofs.laws.Tells.{tells_both}
use Rattle.law_scans.proofs.inv.model.words.Schemes.{interval_not_rows}
use Rattle.law_scans.proofs.Turns.HazardCounts.{hazard_empty}
use Rattle.law_scans.proofs.Turns.Withdrawals.Entries.{helper_rests}
use Rattle.law_scans.proofs.Turns.Counting.Told.{counted_of}
use Rattle.law_scans.specs.laws.HoldLaw.{is_blank}
use Rattle.law_scans.specs.inv.model.defs.declared.shown.Shown.{Shown}
use Rattle.law_scans.specs.inv.model.defs.declared.shown.Shown.TheVariants.{Eras, Nothing, Row}

-- a seat that has no call under way
idle_as : (w : World) (i : ℕ) → is_busy w i ≡ false → (w.seat i).phase ≡ Idle
idle_as w i b = idle_of (w.seat i).phase b

-- its index words
counts_of : (rows : Bool) (layout : Layout) (items : List Item) → is_valid layout ≡ true → is_ibr layout.config.scheme ≡ false → publishes_rows layout.config.scheme ≡ rows → Keeps rows layout (made_of layout items) (heard_of layout items)
counts_of rows layout items d n q = history_keeps layout (Keeps rows layout) (record { begins = λ made h i call a b f m g. begin_kept rows layout made h i call f g; steps = λ made h i a b y g. step_kept rows layout made h i n a b y g }) d items (first_kept rows layout n q)

empty_of : (rows : Bool) (layout : Layout) (items : List Item) (k j : ℕ) → is_valid layout ≡ true → is_ibr layout.config.scheme ≡ false → publishes_rows layout.config.scheme ≡ rows → counted_of rows k j (schedule.record_of (heard_of layout items)) ≡ 0 → published_at layout.config.scheme (Index k j) (record_of layout items) ≡ Nothing
empty_of false layout items k j d n q z =
    let c : IsCounted layout items = histories_count layout items d in
    let e : value_of (Index k j) (record_of layout items) ≡ None = subst (λ (p : Past). value_of (Index k j) p ≡ None) c.tells (history_empty (heard_of layout items) k j (handovers_meet layout items d n) z) in
    rw q (ap values.shown e)
empty_of true layout items k j d n q z =
    let c : IsCounted layout items = histories_count layout items d in
    let e : hazard_of (Index k j) (record_of layout items) ≡ None = subst (λ (p : Past). hazard_of (Index k j) p ≡ None) c.tells (hazard_empty layout items k j d q z) in
    rw q (ap values.shown_row e)

-- what stands publishes
some_alike : (value : Shown) (life : Lifetime) (s : ℕ) → keeps life value ≡ true → is_alike value (Some s) ≡ true
some_alike Nothing life s h = absurd (cc)
some_alike (Eras span) life s h = refl
some_alike (Row slot) life s h = refl

alike_by : (value : Shown) (stood : Option ℕ) → (stood ≡ None → value ≡ Nothing) → ((s : ℕ) → stood ≡ Some s → is_alike value (Some s) ≡ true) → is_alike value stood ≡ true
alike_by value None f g = rw (f refl) refl
alike_by value (Some s) f g = g s refl

holds_alike : (layout : Layout) (items : List Item) (i j s : ℕ) (guard : Guard) → is_valid layout ≡ true → own_guard (world_of layout items).layout.config.scheme i j ≡ guard → stands ((world_of layout items).seat i).post j ≡ Some s → is_alike (published_at layout.config.scheme guard (record_of layout items)) (Some s) ≡ true
holds_alike layout items i j s guard d e t =
    let w : World = world_of layout items in
    let a : Inv w = inv_reached layout items d in
    let h = a.known.held.stood i j s t in
    let c : keeps (life_in a.rows s) (shown w guard) ≡ true = subst (λ (g : Guard). keeps (life_in a.rows s) (shown w g) ≡ true) e h.covers.kept in
    subst (λ (x : Shown). is_alike x (Some s) ≡ true) (sym (record_publishes layout items guard d)) (some_alike (shown w guard) (life_in a.rows s) s c)

tables : (layout : Layout) (items : List Item) → is_valid layout ≡ true → (world_of layout items).layout ≡ layout
tables layout items d = (history_held layout items d).table

-- the guard of each index
plain_guard : (scheme : SchemeKind) (seat index : ℕ) → is_ibr scheme ≡ false → own_guard scheme seat index ≡ Index seat index
plain_guard He seat index e = refl
plain_guard Ibr seat index e = absurd (cc)
plain_guard Wfe seat index e = refl
plain_guard Hp seat index e = refl

span_guard : (scheme : SchemeKind) (seat index : ℕ) → is_ibr scheme ≡ true → own_guard scheme seat index ≡ Whole seat
span_guard He seat index e = absurd (cc)
span_guard Ibr seat index e = refl
span_guard Wfe seat index e = absurd (cc)
span_guard Hp seat index e = absurd (cc)

scheme_at : (layout : Layout) (items : List Item) → is_valid layout ≡ true → (world_of layout items).layout.config.scheme ≡ layout.config.scheme
scheme_at layout items d = ap (λ (x : Layout). x.config.scheme) (tables layout items d)

word_by : (value : Shown) (stood : Option ℕ) (low : Bool) → (low ≡ true → value ≡ Nothing) → (low ≡ false → is_alike value stood ≡ true) → (if low then is_blank value else is_alike value stood) ≡ true
word_by value stood true f g = ap is_blank (f refl)
word_by value stood false f g = g refl

word_idle : (layout : Layout) (items : List Item) (i j : ℕ) → is_valid layout ≡ true → is_ibr layout.config.scheme ≡ false → is_busy (world_of layout items) i ≡ false → index_rests layout.config.scheme i (record_of layout items) j ≡ true
word_idle layout items i j d n b =
    let w : World = world_of layout items in
    let p : Past = record_of layout items in
    let rows : Bool = publishes_rows layout.config.scheme in
    let value : Shown = published_at layout.config.scheme (Index i j) p in
    let c = (counts_of rows layout items d n refl).seats i in
    let f = subst (λ (phase : Phase). Clean (λ (m : ℕ). counted_of rows i m (schedule.record_of (heard_of layout items))) (w.seat i).post (free phase) (holds phase)) (idle_as w i b) c.clean in
    let guard : own_guard w.layout.config.scheme i j ≡ Index i j = plain_guard w.layout.config.scheme i j (ap is_ibr (scheme_at layout items d) ∙ n) in
    word_by value (stood_at i j p) (nat_lt j 2) (λ low. empty_of rows layout items i j d n refl (f.free j low))
    (λ low. alike_by value (stood_at i j p)
    (λ z. empty_of rows layout items i j d n refl (f.kept j low refl (sym (record_stands layout items i j d) ∙ z)))
    (λ s z. holds_alike layout items i j s (Index i j) d guard (sym (record_stands layout items i j d) ∙ z)))

none_of : (x : Option Interval) → is_some x ≡ false → is_none x ≡ true
none_of None h = refl
none_of (Some span) h = absurd (cc)

helper_idle : (layout : Layout) (items : List Item) (i : ℕ) → is_valid layout ≡ true → is_busy (world_of layout items) i ≡ false → is_none (value_of (Helper i) (record_of layout items)) ≡ true
helper_idle layout items i d b = none_of (value_of (Helper i) (record_of layout items)) (helper_rests layout items i d (idle_as (world_of layout items) i b))

-- what is kept by the record
either_none : (x y : Option ℕ) → first_row_of x y ≡ None → (x ≡ None) × (y ≡ None)
either_none None y h = (refl, h)
either_none (Some slot) y h = absurd (cc)

one_of : (x y : Option ℕ) (s : ℕ) → first_row_of x y ≡ Some s → (x ≡ Some s) ⊎ (y ≡ Some s)
one_of None y s h = inr h
one_of (Some slot) y s h = inl h

low_none : (x : Option ℕ) (low : Bool) → low ≡ false → (if low then None else x) ≡ None → x ≡ None
low_none x true e h = absurd (cc)
low_none x false e h = h

last_none : (i : ℕ) (p : Past) (m j : ℕ) (last : Bool) → (j == m) ≡ last → 2 ≤ j → (if nat_lt m 2 then None else stood_at i m p) ≡ None → (last ≡ false → stood_at i j p ≡ None) → stood_at i j p ≡ None
last_none i p m j true e low h f =
    let q : m ≡ j = grind (arith, nat_tests) in
    let high : nat_lt m 2 ≡ false = grind (arith, nat_tests) in
    subst (λ (x : ℕ). stood_at i x p ≡ None) q (low_none (stood_at i m p) (nat_lt m 2) high h)
last_none i p m j false e low h f = f refl

before_last : (m j : ℕ) → (j == m) ≡ false → j < suc m → j < m
before_last m j e h = grind (arith, nat_tests)

below_none : (i : ℕ) (p : Past) (n j : ℕ) → kept_below i p n ≡ None → 2 ≤ j → j < n → stood_at i j p ≡ None
below_none i p zero j h low few = absurd (omega (few, arith))
below_none i p (suc m) j h low few =
    let x = either_none (kept_below i p m) (if nat_lt m 2 then None else stood_at i m p) h in
    last_none i p m j (j == m) refl low x.1 (λ e. below_none i p m j x.0 low (before_last m j e few))

record Kept (i s : ℕ) (p : Past) : Type 0 where
  index : ℕ
  stood : stood_at i index p ≡ Some s

low_some : (x : Option ℕ) (s : ℕ) (low : Bool) → (if low then None else x) ≡ Some s → x ≡ Some s
low_some x s true h = absurd (cc)
low_some x s false h = h

some_by : (i s m : ℕ) (p : Past) → (kept_below i p m ≡ Some s → Kept i s p) → (kept_below i p m ≡ Some s) ⊎ ((if nat_lt m 2 then None else stood_at i m p) ≡ Some s) → Kept i s p
some_by i s m p f (inl e) = f e
some_by i s m p f (inr e) = record { index = m; stood = low_some (stood_at i m p) s (nat_lt m 2) e }

below_some : (i s : ℕ) (p : Past) (n : ℕ) → kept_below i p n ≡ Some s → Kept i s p
below_some i s p zero h = absurd (cc)
below_some i s p (suc m) h = some_by i s m p (λ e. below_some i s p m e) (one_of (kept_below i p m) (if nat_lt m 2 then None else stood_at i m p) s h)

-- where the record keeps none the seat does not
none_by : (layout : Layout) (items : List Item) (i : ℕ) (x : Option ℕ) → is_valid layout ≡ true → kept_row ((world_of layout items).seat i).post ≡ x → kept_below i (record_of layout items) layout.config.indexes ≡ None → x ≡ None
none_by layout items i None d e h = refl
none_by layout items i (Some slot) d e h =
    let k = some_kept ((world_of layout items).seat i).post slot e in
    let stood : stood_at i k.0 (record_of layout items) ≡ Some slot = record_stands layout items i k.0 d ∙ k.2 in
    by (nat_lt k.0 layout.config.indexes) refl k.1 stood
  where
    by : {index : ℕ} (few : Bool) → nat_lt index layout.config.indexes ≡ few → 2 ≤ index → stood_at i index (record_of layout items) ≡ Some slot → Some slot ≡ None
    by {index} true e low stood = let less : index < layout.config.indexes = grind (arith, nat_tests) in sym stood ∙ below_none i (record_of layout items) layout.config.indexes index h low less
    by {index} false e low stood = let more : layout.config.indexes ≤ index = grind (arith, nat_tests) in sym stood ∙ record_high layout items i index d more

span_idle : (layout : Layout) (items : List Item) (i : ℕ) → is_valid layout ≡ true → is_ibr layout.config.scheme ≡ true → is_busy (world_of layout items) i ≡ false → is_alike (values.shown (value_of (Whole i) (record_of layout items))) (kept_below i (record_of layout items) layout.config.indexes) ≡ true
span_idle layout items i d n b =
    let w : World = world_of layout items in
    let p : Past = record_of layout items in
    let k = (inv_reached layout items d).known in
    let q : Spent (w.seat i).post Idle = subst (λ (phase : Phase). Spent (w.seat i).post phase) (idle_as w i b) (spent_of layout items i d) in
    let scheme : is_ibr w.layout.config.scheme ≡ true = ap is_ibr (scheme_at layout items d) ∙ n in
    let eras : publishes_rows layout.config.scheme ≡ false = interval_not_rows layout.config.scheme n in
    let ibr : is_ibr (w.seat i).post.layout.config.scheme ≡ true = ap (λ (x : Layout). is_ibr x.config.scheme) (k.seats.fits i).post.layout ∙ scheme in
    let same : published_at layout.config.scheme (Whole i) p ≡ values.shown (value_of (Whole i) p) = rw eras refl in
    alike_by (values.shown (value_of (Whole i) p)) (kept_below i p layout.config.indexes)
    (λ z. ap values.shown (record_values layout items (Whole i) d eras ∙ shown_span w i k.valid k.eras ∙ q refl ibr (none_by layout items i (kept_row (w.seat i).post) d refl z)))
    (λ s z.
    let m : Kept i s p = below_some i s p layout.config.indexes z in
    subst (λ (x : Shown). is_alike x (Some s) ≡ true) same (holds_alike layout items i m.index s (Whole i) d (span_guard w.layout.config.scheme i m.index scheme) (sym (record_stands layout items i m.index d) ∙ m.stood)))

-- an End changes nothing of guards and of what stands
end_below : (i count : ℕ) (answer : Answer) (q : Past) (n : ℕ) → kept_below i (Then q i (events.End count answer)) n ≡ kept_below i q n
end_below i count answer q zero = refl
end_below i count answer q (suc m) = rw (end_below i count answer q m, end_stood i m count answer q) refl

-- a test of ends: so it is where a seat has no call under way, and an End changes nothing of it
record Rest (layout : Layout) (rests : ℕ → Past → Bool) (ok : Test) : Type 0 where
  begins : (p : Past) (i : ℕ) (call : Call) → ok p i (events.Begin call) ≡ true
  opens : (p : Past) (i : ℕ) (event : Event) → is_open event ≡ true → ok p i event ≡ true
  ends : (i count : ℕ) (answer : Answer) (q : Past) → rests i (Then q i (events.End count answer)) ≡ true → ok q i (events.End count answer) ≡ true
  idle : (items : List Item) (i : ℕ) → is_busy (world_of layout items) i ≡ false → rests i (record_of layout items) ≡ true

-- along what a turn tells
open_each : (layout : Layout) (rests : ℕ → Past → Bool) (ok : Test) → Rest layout rests ok → (i : ℕ) (told : List Event) (p : Past) → all_of is_open told ≡ true → Each ok p → Each ok (tells_of p i told)
open_each layout rests ok r i [] p h g = g
open_each layout rests ok r i (event ∷ told) p h g = open_each layout rests ok r i told (Then p i event) (rest_of (is_open event) (all_of is_open told) h) (r.opens p i event (first_of (is_open event) (all_of is_open told) h), g)

end_each : (layout : Layout) (rests : ℕ → Past → Bool) (ok : Test) → Rest layout rests ok → (i : ℕ) (post : Post) (outcome : CallOutcome) (q : Past) → (busy_in (phase_left outcome) ≡ false → rests i (tells_of q i (told_end post outcome)) ≡ true) → Each ok q → Each ok (tells_of q i (told_end post outcome))
end_each layout rests ok r i post (GoesOn phase) q h g = g
end_each layout rests ok r i post (Answers answer) q h g = (r.ends i post.steps answer q (h refl), g)

step_fits : (w : World) (i : ℕ) → i < w.layout.config.seats → is_busy w i ≡ true → fits w (Steps i) ≡ true
step_fits w i b y = let l : nat_lt i w.layout.config.seats ≡ true = grind (arith, nat_tests) in rw (l, y) refl

pub next_made : (layout : Layout) (path : List Item) (i : ℕ) → Turning layout path i → made_of layout (path ++ Steps i ∷ []) ≡ done (made_of layout path) (Steps i)
next_made layout path i t = made_snoc (first_made layout) path (Steps i) ∙ ap (done_if (made_of layout path) (Steps i)) (step_fits (world_of layout path) i t.seat t.busy)

step_each : (layout : Layout) (rests : ℕ → Past → Bool) (ok : Test) → Rest layout rests ok → (path : List Item) (i : ℕ) → is_valid layout ≡ true → Turning layout path i → Each ok (record_of layout path) → Each ok (tells_of (record_of layout path) i (told_in (world_of layout path) i))
step_each layout rests ok r path i d t g =
    let w : World = world_of layout path in
    let p : Past = record_of layout path in
    let c : CallTurn = turn (offered w i) (finds w i) in
    let m : made_of layout (path ++ Steps i ∷ []) ≡ done (made_of layout path) (Steps i) = next_made layout path i t in
    let a : tells_of p i (told_by c) ≡ tells_of (tells_of p i c.told) i (told_end c.post c.outcome) = tells_both i c.told (told_end c.post c.outcome) p in
    let idle : busy_in (phase_left c.outcome) ≡ false → rests i (tells_of p i (told_by c)) ≡ true =
    λ z. subst (λ (x : Made). rests i x.past ≡ true) m
    (r.idle (path ++ Steps i ∷ []) i (ap (λ (x : Made). is_busy x.world i) m ∙ ap busy_in (stepped_phase w i) ∙ z)) in
    let k = answers_of layout path d in
    let n : ℕ = layout.config.buckets in
    let o : Owes n (w.seat i).call (owed n (w.seat i).call (w.seat i).phase) c = owes_of n w i k.table k.known ((k.seats i).serves t.busy) in
    subst (Each ok) (sym a)
    (end_each layout rests ok r i c.post c.outcome (tells_of p i c.told) (λ z. subst (λ (q : Past). rests i q ≡ true) a (idle z)) (open_each layout rests ok r i c.told p o.told.goes g))

rest_each : (layout : Layout) (items : List Item) (rests : ℕ → Past → Bool) (ok : Test) → is_valid layout ≡ true → Rest layout rests ok → EachEntry ok (record_of layout items)
rest_each layout items rests ok d r = record_each layout ok items (record { begins = r.begins; steps = λ path i t g. step_each layout rests ok r path i d t g })

-- the three
open_span : (config : Config) (p : Past) (i : ℕ) (event : Event) → is_open event ≡ true → spans_ok config p i event ≡ true
open_span config p i (events.End steps answer) h = absurd (cc)
open_span config p i event h = refl

spans_rest : (layout : Layout) → is_valid layout ≡ true → is_ibr layout.config.scheme ≡ true → Rest layout (λ i p. is_alike (values.shown (value_of (Whole i) p)) (kept_below i p layout.config.indexes)) (spans_ok layout.config)
spans_rest layout d n = record {
  begins = λ p i call. refl;
  opens = λ p i event h. open_span layout.config p i event h;
  ends = λ i count answer q h. subst (λ (x : Option ℕ). is_alike (values.shown (value_of (Whole i) q)) x ≡ true) (end_below i count answer q layout.config.indexes) h;
  idle = λ items i b. span_idle layout items i d n b;
}

open_helper : (p : Past) (i : ℕ) (event : Event) → is_open event ≡ true → helpers_ok p i event ≡ true
open_helper p i (events.End steps answer) h = absurd (cc)
open_helper p i event h = refl

helpers_rest : (layout : Layout) → is_valid layout ≡ true → Rest layout (λ i p. is_none (value_of (Helper i) p)) helpers_ok
helpers_rest layout d = record {
  begins = λ p i call. refl;
  opens = λ p i event h. open_helper p i event h;
  ends = λ i count answer q h. h;
  idle = λ items i b. helper_idle layout items i d b;
}

open_word : (scheme : SchemeKind) (j : ℕ) (p : Past) (i : ℕ) (event : Event) → is_open event ≡ true → words_ok scheme j p i event ≡ true
open_word scheme j p i (events.End steps answer) h = absurd (cc)
open_word scheme j p i event h = refl

words_rest : (layout : Layout) (j : ℕ) → is_valid layout ≡ true → is_ibr layout.config.scheme ≡ false → Rest layout (λ i p. index_rests layout.config.scheme i p j) (words_ok layout.config.scheme j)
words_rest layout j d n = record {
  begins = λ p i call. refl;
  opens = λ p i event h. open_word layout.config.scheme j p i event h;
  ends = λ i count answer q h. subst (λ (x : Option ℕ). (if nat_lt j 2 then is_blank (published_at layout.config.scheme (Index i j) q) else is_alike (published_at layout.config.scheme (Index i j) q) x) ≡ true) (end_stood i j count answer q) h;
  idle = λ items i b. word_idle layout items i j d n b;
}

pub records_rest_guards : RecordsRestGuards
records_rest_guards layout items d = record {
  spans = λ n. rest_each layout items (λ i p. is_alike (values.shown (value_of (Whole i) p)) (kept_below i p layout.config.indexes)) (spans_ok layout.config) d (spans_rest layout d n);
  helpers = λ n. rest_each layout items (λ i p. is_none (value_of (Helper i) p)) helpers_ok d (helpers_rest layout d);
  words = λ n j b. rest_each layout items (λ i p. index_rests layout.config.scheme i p j) (words_ok layout.config.scheme j) d (words_rest layout j d n);
}
