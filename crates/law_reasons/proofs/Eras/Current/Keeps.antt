-- The record of each history keeps the laws on the clock at the positions of a call.
use Rattle.std.proofs.Common.{ℕ, ◌≡◌, ◌≤◌, ◌<◌, Bool, true, false, List, [], ◌∷◌, ◌++◌, Some, refl, sym, ap, ◌∙◌, subst, arith}
use Rattle.std.proofs.lemmas.Bool.Decides.{nat_tests}
use Rattle.std.specs.Prelude.{◌==◌}
use Rattle.law_scans.specs.laws.words.Place.{is_valid}
use Rattle.law_scans.specs.laws.words.Place.Place.{Clock, Index as IndexOf}
use Rattle.law_scans.specs.laws.words.Schemes.{publishes_rows}
use Rattle.law_scans.specs.inv.model.Keep.{held_number}
use Rattle.law_scans.specs.inv.model.Rounds.{scheme_of}
use Rattle.law_scans.specs.laws.words.declared.layout.Layout.{Layout}
use Rattle.law_scans.specs.laws.defs.declared.call.Call.{Call}
use Rattle.law_scans.specs.laws.defs.declared.call.Call.TheVariants as names
use Rattle.law_scans.specs.laws.defs.declared.event.Event.{Event}
use Rattle.law_scans.specs.laws.defs.declared.event.Event.TheVariants as events
use Rattle.law_scans.specs.inv.model.Calls.{Why, Phase, Idle, Runs, Scans, Works, StoreHeld, Keeping}
use Rattle.law_scans.specs.inv.model.Locals.{Local, after, begun, told_by, busy_in}
use Rattle.law_scans.specs.inv.model.Phases.{Base}
use Rattle.law_scans.specs.inv.model.Phases.BeginAt.{LoadLower}
use Rattle.law_scans.specs.inv.model.Phases.ProtectAt.{LoadClock, CheckClock, LoadOwnClock, CheckOwnClock, CheckUpper}
use Rattle.law_scans.specs.inv.model.Phases.AllocateAt.{LoadBirth}
use Rattle.law_scans.specs.inv.model.Phases.RetireAt.{LoadRetire}
use Rattle.law_scans.specs.inv.model.Phases.MoveAt.{LoadEra}
use Rattle.law_scans.specs.inv.model.Phases.Base.{Begin, Protect, Allocate, Retire, Move}
use Rattle.law_scans.specs.inv.model.Posts.{counted}
use Rattle.law_scans.specs.inv.model.Steps as steps
use Rattle.law_scans.specs.inv.model.World.{World, begin, finds, is_busy, offered, step, told_in, may_start}
use Rattle.law_scans.proofs.reuse.shapes.Frame.{after_seated, begun_seated, seat_stays, seat_steps, begin_stays, begin_begins}
use Rattle.law_scans.proofs.reuse.shapes.Kept.{begun_fits}
use Rattle.law_scans.specs.inv.shapes.Frame.{Seated}
use Rattle.law_scans.specs.inv.shapes.Seats.{PostFits}
use Rattle.law_scans.specs.inv.requests.Views.{View as Asked}
use Rattle.law_scans.proofs.inv.requests.Kept.{requests_begin, requests_start}
use Rattle.law_scans.specs.inv.rows.Agree.{first_rows, rows_after}
use Rattle.law_scans.specs.inv.rows.Chain.{first_line, line_after}
use Rattle.law_scans.specs.inv.rows.Queue.{Line}
use Rattle.law_scans.specs.inv.rows.Rows.{View}
use Rattle.law_scans.proofs.inv.covers.Held.{finds_at}
use Rattle.law_scans.specs.inv.ends.Origins.{OriginsNeeds}
use Rattle.law_scans.specs.laws.records.Record.{Past, Each, EachEntry, tells_of}
use Rattle.law_scans.specs.laws.records.Record.Past.{Then}
use Rattle.law_scans.proofs.laws.records.Entries.{entries_of_each}
use Rattle.law_scans.specs.inv.history.History.{Item, Begins, Steps, Made, fits, done, done_if, did, made_from, made_of, first_made, record_of}
use Rattle.law_scans.proofs.reuse.history.Along.{begins_right, low_seat, made_snoc, begins_within, Steady, items_keep}
use Rattle.law_scans.specs.inv.Known.{Known}
use Rattle.law_scans.proofs.inv.Inv.Begun.{known_start, known_begin}
use Rattle.law_scans.proofs.inv.Inv.Kept.{known_kept, asked_next}
use Rattle.law_scans.proofs.inv.Inv.Whole.{origins_need}
use Rattle.law_scans.proofs.inv.Machines.{within_of}
use Rattle.law_scans.specs.laws.StateAt.{clock_of, value_of}
use Rattle.law_reasons.proofs.Eras.EraLaw.Keeps.{record_clock}
use Rattle.law_scans.specs.laws.HistoryEras.{birth_current, retire_current, reserve_current}
use Rattle.law_reasons.specs.Eras.Records.{RecordsGiveCurrent, RecordsRetireCurrent, RecordsReserveCurrent}
use Rattle.law_reasons.proofs.Eras.Current.Ages.{loads_base, BaseHears, Loads, PhaseSince, PhaseLoads, Aged, since_grows, since_owed, same_since}
use Rattle.law_reasons.proofs.Eras.Current.Answers.{Answers}
use Rattle.law_reasons.proofs.Eras.Current.Heard.{answers_step, answers_begin, answers_start, hears_since, same_answers}
use Rattle.law_reasons.proofs.Eras.Current.Positions.{begun_at, cut_at, since_low, begun_stays, begun_other, cut_stays}
use Rattle.law_reasons.proofs.Eras.Current.Tells.{current_ok, Copies, step_led}
use Rattle.law_scans.specs.inv.model.Guards.{one_era}
use Rattle.law_scans.specs.inv.covers.Covers.{eras_shown}
use Rattle.law_scans.proofs.reuse.Holding.Holds.{record_values}
use Rattle.law_scans.proofs.inv.requests.Known.{copying}
use Rattle.law_scans.specs.laws.defs.declared.event.Guard.{Guard}
use Rattle.law_scans.specs.laws.defs.declared.event.Guard.TheVariants.{Index}
use Rattle.law_scans.proofs.reuse.AnswersTold.Answering as answering
use Rattle.law_scans.proofs.reuse.AnswersTold.Owed.{Serves}

-- a World is that of a history
pub record OfItems (layout : Layout) (made : Made) : Type 0 where
  pub items : List Item
  pub is : made ≡ made_of layout items

pub next_items : (layout : Layout) (made : Made) (item : Item) → fits made.world item ≡ true → OfItems layout made → OfItems layout (done made item)
next_items layout made item e h =
    record { items = h.items ++ item ∷ []; is = ap (λ (x : Bool). done_if made item x) (sym e) ∙ ap (λ (m : Made). did m item) h.is ∙ sym (made_snoc (first_made layout) h.items item) }

pub tie : (layout : Layout) (made : Made) → is_valid layout ≡ true → OfItems layout made → clock_of made.past ≡ made.world.mem Clock
tie layout made d h = subst (λ (m : Made). clock_of m.past ≡ m.world.mem Clock) (sym h.is) (record_clock layout h.items d)

values_of : (layout : Layout) (made : Made) (guard : Guard) → is_valid layout ≡ true → publishes_rows layout.config.scheme ≡ false → OfItems layout made → value_of guard made.past ≡ eras_shown made.world guard
values_of layout made guard d e h = subst (λ (m : Made). value_of guard m.past ≡ eras_shown m.world guard) (sym h.is) (record_values layout h.items guard d e)

history_answers : (layout : Layout) (items : List Item) → is_valid layout ≡ true → answering.Keeps layout.config.buckets (made_of layout items)
history_answers layout items d = items_keep (answering.Keeps layout.config.buckets) steady items (first_made layout) (answering.first_keeps layout d)
  where
    steady : Steady (answering.Keeps layout.config.buckets)
    steady = record { begins = λ made i call b y m g. answering.begin_keeps layout.config.buckets made i call y m g; steps = λ made i b y g. answering.step_keeps layout.config.buckets made i b y g }

-- what a history keeps
pub record Current (layout : Layout) (made : Made) : Type 0 where
  pub table : made.world.layout ≡ layout
  pub rows : View
  pub line : Line
  pub asked : Asked
  pub known : Known made.world rows line asked
  pub of : OfItems layout made
  pub seats : (k : ℕ) → PhaseSince (begun_at k made.past) (cut_at k made.past) (made.world.seat k).phase
  pub answers : Answers made.world asked (λ k. begun_at k made.past)
  pub law : Each current_ok made.past

-- at its second step a copy is the call that the seat began last, and the index word that it copies publishes the era
calls_serve : (layout : Layout) (made : Made) → is_valid layout ≡ true → OfItems layout made → answering.Keeps layout.config.buckets made
calls_serve layout made d h = subst (answering.Keeps layout.config.buckets) (sym h.is) (history_answers layout h.items d)

-- the era that an index word publishes, where it publishes no row
copied_era : (w : World) (k from era : ℕ) (rows : Bool) → rows ≡ false → held_number rows (w.mem (IndexOf k from)) ≡ era → eras_shown w (Index k from) ≡ one_era era
copied_era w k from era true f h = absurd (cc)
copied_era w k from era false f h = ap one_era h

copies_of : (layout : Layout) (made : Made) (i from index era : ℕ) → is_valid layout ≡ true → publishes_rows (scheme_of (made.world.seat i).post) ≡ false → Current layout made → (made.world.seat i).phase ≡ Works (Keeping (StoreHeld from index era)) → Copies made.past i from index era
copies_of layout made i from index era d r g f =
    let w : World = made.world in
    let a = (calls_serve layout made d g.of).seats i in
    let b : busy_in (w.seat i).phase ≡ true = ap busy_in f in
    let k = g.known in
    let here : publishes_rows w.layout.config.scheme ≡ false = sym (ap (λ (table : Layout). publishes_rows table.config.scheme) (k.seats.fits i).post.layout) ∙ r in
    let plain : publishes_rows layout.config.scheme ≡ false = sym (ap (λ (table : Layout). publishes_rows table.config.scheme) g.table) ∙ here in
    let s : (w.seat i).call ≡ names.Copy from index = subst (Serves (w.seat i).call) f (a.serves b) in
    record {
      began = a.began b ∙ ap (λ (call : Call). Some call) s;
      shows = values_of layout made (Index i from) d plain g.of ∙ copied_era w i from era (publishes_rows w.layout.config.scheme) here ((copying w g.asked i k.valid k.requests k.hazards).publishes from index era f);
    }

-- a step that loads the clock finds it
loads_clock : (w : World) (i : ℕ) (why : Why) (base : Base) → (w.seat i).phase ≡ Runs why base → loads_base base ≡ true → finds w i ≡ w.mem Clock
loads_clock w i why (Begin LoadLower) q l = finds_at w i (Runs why (Begin LoadLower)) q
loads_clock w i why (Protect aim index root made (LoadClock tries)) q l = finds_at w i (Runs why (Protect aim index root made (LoadClock tries))) q
loads_clock w i why (Protect aim index root made (CheckClock era tries link)) q l = finds_at w i (Runs why (Protect aim index root made (CheckClock era tries link))) q
loads_clock w i why (Protect aim index root made LoadOwnClock) q l = finds_at w i (Runs why (Protect aim index root made LoadOwnClock)) q
loads_clock w i why (Protect aim index root made (CheckOwnClock first era last link)) q l = finds_at w i (Runs why (Protect aim index root made (CheckOwnClock first era last link))) q
loads_clock w i why (Protect aim index root made (CheckUpper link)) q l = finds_at w i (Runs why (Protect aim index root made (CheckUpper link))) q
loads_clock w i why (Protect aim index root made at) q l = absurd (cc)
loads_clock w i why (Allocate LoadBirth) q l = finds_at w i (Runs why (Allocate LoadBirth)) q
loads_clock w i why (Retire (LoadRetire slot birth)) q l = finds_at w i (Runs why (Retire (LoadRetire slot birth))) q
loads_clock w i why (Move (LoadEra helps)) q l = finds_at w i (Runs why (Move (LoadEra helps))) q
loads_clock w i why base q l = absurd (cc)

-- a step that loads the retire era tells nothing
retire_tells : (w : World) (i : ℕ) (why : Why) (slot birth : ℕ) → (w.seat i).phase ≡ Runs why (Retire (LoadRetire slot birth)) → told_in w i ≡ []
retire_tells w i why slot birth q = ap (λ (phase : Phase). told_by (steps.phase_turn phase (counted (w.seat i).post) (offered w i).desk (finds w i))) q

base_hears : (w : World) (i : ℕ) (z : Asked) (from : ℕ → ℕ) (why : Why) (base : Base) → OriginsNeeds w i z → (w.seat i).phase ≡ Runs why base → Answers w z from → BaseHears (from i) base (counted (w.seat i).post) (finds w i)
base_hears w i z from why (Protect aim index root made at) n q g = hears_since w i z (from i) why aim index root made at n q (g.deals i)
base_hears w i z from why base n q g = tt

cut_low : (w : World) (i : ℕ) (p : Past) (why : Why) (slot birth : ℕ) → clock_of p ≡ w.mem Clock → (w.seat i).phase ≡ Runs why (Retire (LoadRetire slot birth)) → cut_at i (tells_of p i (told_in w i)) slot ≤ finds w i
cut_low w i p why slot birth e q =
    let f : finds w i ≡ clock_of p = loads_clock w i why (Retire (LoadRetire slot birth)) q refl ∙ sym e in
    subst (λ (told : List Event). cut_at i (tells_of p i told) slot ≤ finds w i) (sym (retire_tells w i why slot birth q))
    (subst (λ (x : ℕ). cut_at i p slot ≤ x) (sym f) (since_low _ p))

base_loads : (w : World) (i : ℕ) (p : Past) (z : Asked) (why : Why) (base : Base) → OriginsNeeds w i z → clock_of p ≡ w.mem Clock → (w.seat i).phase ≡ Runs why base → Answers w z (λ k. begun_at k p) → Loads (begun_at i p) (cut_at i (tells_of p i (told_in w i))) base (counted (w.seat i).post) (finds w i)
base_loads w i p z why base n e q g = record {
  clock = λ l. subst (λ (x : ℕ). begun_at i p ≤ x) (sym (loads_clock w i why base q l ∙ sym e)) (since_low _ p);
  cuts = λ slot birth b. cut_low w i p why slot birth e (q ∙ ap (λ (x : Base). Runs why x) b);
  hears = base_hears w i z (λ k. begun_at k p) why base n q g;
}

phase_loads : (w : World) (i : ℕ) (p : Past) (z : Asked) (phase : Phase) → OriginsNeeds w i z → clock_of p ≡ w.mem Clock → (w.seat i).phase ≡ phase → Answers w z (λ k. begun_at k p) → PhaseLoads (begun_at i p) (cut_at i (tells_of p i (told_in w i))) phase (counted (w.seat i).post) (finds w i)
phase_loads w i p z Idle n e q g = tt
phase_loads w i p z (Runs why base) n e q g = base_loads w i p z why base n e q g
phase_loads w i p z (Scans later at) n e q g = tt
phase_loads w i p z (Works work) n e q g = tt

-- the seat that steps
own_since : (w : World) (i : ℕ) (p : Past) (z : Asked) → OriginsNeeds w i z → clock_of p ≡ w.mem Clock → PhaseSince (begun_at i p) (cut_at i p) (w.seat i).phase → Answers w z (λ k. begun_at k p) → PhaseSince (begun_at i p) (cut_at i (tells_of p i (told_in w i))) ((step w i).seat i).phase
own_since w i p z n e f g =
    let l : Local = offered w i in
    let from : ℕ = begun_at i p in
    let cut : ℕ → ℕ = cut_at i (tells_of p i (told_in w i)) in
    let s : Seated (PostFits w.layout i) (Aged from cut) (after l (finds w i)) =
    after_seated (since_grows w.layout i from cut n.valid) l (finds w i) (since_owed w.layout i from (cut_at i p) cut n.valid l.phase l.post (finds w i) (n.seats.fits i).post (n.seats.fits i).phase (phase_loads w i p z l.phase n e refl g) f) in
    subst (λ (x : Local). PhaseSince from cut x.phase) (sym (seat_steps w i)) s.phase

step_since : (w : World) (i k : ℕ) (p : Past) (z : Asked) (same : Bool) → (k == i) ≡ same → OriginsNeeds w i z → clock_of p ≡ w.mem Clock → ((m : ℕ) → PhaseSince (begun_at m p) (cut_at m p) (w.seat m).phase) → Answers w z (λ m. begun_at m p)
    → PhaseSince (begun_at k (tells_of p i (told_in w i))) (cut_at k (tells_of p i (told_in w i))) ((step w i).seat k).phase
step_since w i k p z true q n e f g =
    let r : i ≡ k = grind (arith, nat_tests) in
    let later : Past = tells_of p i (told_in w i) in
    subst (λ (m : ℕ). PhaseSince (begun_at m later) (cut_at m later) ((step w i).seat m).phase) r
    (same_since (begun_at i p) (begun_at i later) (cut_at i later) (cut_at i later) ((step w i).seat i).phase (begun_stays i i (told_in w i) p (within_of w i)) (λ s. refl) (own_since w i p z n e (f i) g))
step_since w i k p z false q n e f g =
    let later : Past = tells_of p i (told_in w i) in
    subst (λ (l : Local). PhaseSince (begun_at k later) (cut_at k later) l.phase) (sym (seat_stays w i k q))
    (same_since (begun_at k p) (begun_at k later) (cut_at k p) (cut_at k later) (w.seat k).phase (begun_stays k i (told_in w i) p (within_of w i)) (λ s. cut_stays k i (told_in w i) p s q) (f k))

step_current : (layout : Layout) (made : Made) (i : ℕ) → is_valid layout ≡ true → fits made.world (Steps i) ≡ true → i < made.world.layout.config.seats → Current layout made → Current layout (done made (Steps i))
step_current layout made i d h b g =
    let w : World = made.world in
    let q = asked_next w i g.rows g.line g.asked b g.known in
    let n : OriginsNeeds w i g.asked = origins_need w i g.rows g.line g.asked b g.known in
    let e = tie layout made d g.of in
    record {
      table = g.table;
      rows = rows_after w i g.rows;
      line = line_after w i g.line;
      asked = q.0;
      known = known_kept w i g.rows g.line g.asked q.0 b g.known q.1.facts q.1.deal;
      of = next_items layout made (Steps i) h g.of;
      seats = λ k. step_since w i k made.past g.asked (k == i) refl n e g.seats g.answers;
      answers = same_answers (step w i) q.0 (λ k. begun_at k made.past) (λ k. begun_at k (tells_of made.past i (told_in w i))) (λ k. begun_stays k i (told_in w i) made.past (within_of w i))
          (answers_step w i g.asked q.0 (λ k. begun_at k made.past) (cut_at i made.past) n q.1.deal (λ k. subst (λ (x : ℕ). begun_at k made.past ≤ x) e (since_low _ made.past)) (g.seats i) g.answers);
      law = step_led w i made.past e (g.known.eras.seats i).phase (g.seats i) (λ r from index era f. copies_of layout made i from index era d r g f) g.law;
    }

-- a call begins
begin_since : (w : World) (i k : ℕ) (call : Call) (p : Past) (z : Asked) (same : Bool) → (k == i) ≡ same → is_valid w.layout ≡ true → PostFits w.layout i (w.seat i).post → ((m : ℕ) → PhaseSince (begun_at m p) (cut_at m p) (w.seat m).phase)
    → PhaseSince (begun_at k (Then p i (events.Begin call))) (cut_at k (Then p i (events.Begin call))) ((begin w i call).seat k).phase
begin_since w i k call p z true q v s f =
    let r : i ≡ k = grind (arith, nat_tests) in
    let later : Past = Then p i (events.Begin call) in
    let g : Seated (PostFits w.layout i) (Aged (begun_at i later) (cut_at i later)) (begun (w.seat i) call) = begun_seated (since_grows w.layout i (begun_at i later) (cut_at i later) v) (w.seat i) call (begun_fits w.layout i (w.seat i).post s) in
    subst (λ (m : ℕ). PhaseSince (begun_at m later) (cut_at m later) ((begin w i call).seat m).phase) r
    (subst (λ (l : Local). PhaseSince (begun_at i later) (cut_at i later) l.phase) (sym (begin_begins w i call)) g.phase)
begin_since w i k call p z false q v s f =
    let later : Past = Then p i (events.Begin call) in
    subst (λ (l : Local). PhaseSince (begun_at k later) (cut_at k later) l.phase) (sym (begin_stays w i k call q))
    (same_since (begun_at k p) (begun_at k later) (cut_at k p) (cut_at k later) (w.seat k).phase (begun_other k i (events.Begin call) p q) (λ s. refl) (f k))

begin_current : (layout : Layout) (made : Made) (i : ℕ) (call : Call) → is_valid layout ≡ true → fits made.world (Begins i call) ≡ true → is_busy made.world i ≡ false → may_start made.world i call ≡ true → Current layout made → Current layout (done made (Begins i call))
begin_current layout made i call d h f m g =
    let w : World = made.world in
    let k = g.known in
    let q = requests_begin w i call g.asked k.valid f k.seats k.requests in
    record {
      table = g.table;
      rows = g.rows;
      line = g.line;
      asked = q.0;
      known = known_begin w i call g.rows g.line g.asked q.0 f m k q.1.facts q.1.deal;
      of = next_items layout made (Begins i call) h g.of;
      seats = λ j. begin_since w i j call made.past g.asked (j == i) refl k.valid (k.seats.fits i).post g.seats;
      answers = answers_begin w i call g.asked q.0 (λ j. begun_at j made.past) (λ j. begun_at j (Then made.past i (events.Begin call))) f k.requests q.1.deal (λ j e. begun_other j i (events.Begin call) made.past e) g.answers;
      law = (refl, g.law);
    }

item_current : (layout : Layout) (made : Made) (item : Item) (fit : Bool) → fits made.world item ≡ fit → is_valid layout ≡ true → Current layout made → Current layout (done_if made item fit)
item_current layout made item false f d g = g
item_current layout made (Begins i call) true f d g =
    let seats : ℕ = made.world.layout.config.seats in
    let may : Bool = may_start made.world i call in
    begin_current layout made i call d f (begins_right i seats (is_busy made.world i) may f) (begins_within i seats (is_busy made.world i) may f) g
item_current layout made (Steps i) true f d g = step_current layout made i d f (low_seat i made.world.layout.config.seats (is_busy made.world i) f) g

items_current : (layout : Layout) (items : List Item) (made : Made) → is_valid layout ≡ true → Current layout made → Current layout (made_from made items)
items_current layout [] made d g = g
items_current layout (item ∷ items) made d g = items_current layout items (did made item) d (item_current layout made item (fits made.world item) refl d g)

first_current : (layout : Layout) → is_valid layout ≡ true → Current layout (first_made layout)
first_current layout d =
    let q = requests_start layout d in
    record {
      table = refl;
      rows = first_rows layout;
      line = first_line layout;
      asked = q.0;
      known = known_start layout q.0 d q.1.facts q.1.deal;
      of = record { items = []; is = refl };
      seats = λ k. tt;
      answers = answers_start layout q.0 (λ k. 1) (λ k. ap (λ (x : ℕ → _). x k) q.1.deal);
      law = tt;
    }

pub history_current : (layout : Layout) (items : List Item) → is_valid layout ≡ true → Current layout (made_of layout items)
history_current layout items d = items_current layout items (first_made layout) d (first_current layout d)

each_current : (layout : Layout) (items : List Item) → is_valid layout ≡ true → EachEntry current_ok (record_of layout items)
each_current layout items d = let g = history_current layout items d in entries_of_each current_ok (record_of layout items) g.law

-- the laws one by one
birth_of : (p : Past) (i : ℕ) (event : Event) → current_ok p i event ≡ true → birth_current p i event ≡ true
birth_of p i (events.Give slot birth) h = h
birth_of p i event h = refl

retire_of : (p : Past) (i : ℕ) (event : Event) → current_ok p i event ≡ true → retire_current p i event ≡ true
retire_of p i (events.Retire slot birth retire) h = h
retire_of p i event h = refl

reserve_of : (p : Past) (i : ℕ) (event : Event) → current_ok p i event ≡ true → reserve_current p i event ≡ true
reserve_of p i (events.Reserve guard span) h = h
reserve_of p i event h = refl

pub records_give_current : RecordsGiveCurrent
records_give_current layout items d before i event later e = birth_of before i event (each_current layout items d before i event later e)

pub records_retire_current : RecordsRetireCurrent
records_retire_current layout items d before i event later e = retire_of before i event (each_current layout items d before i event later e)

pub records_reserve_current : RecordsReserveCurrent
records_reserve_current layout items d before i event later e = reserve_of before i event (each_current layout items d before i event later e)
