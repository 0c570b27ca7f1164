-- The record of each history keeps the laws on how what a guard publishes grows.
use Rattle.std.proofs.Common.{ℕ, ◌≡◌, ◌<◌, Bool, true, false, List, [], ◌∷◌, Option, None, refl, sym, ap, ◌∙◌, subst, arith}
use Rattle.std.proofs.lemmas.Bool.Decides.{nat_tests}
use Rattle.std.specs.Prelude.{◌==◌, is_some, not}
use Rattle.law_reasons.specs.laws.words.Place.Place.{Clock}
use Rattle.law_reasons.specs.laws.words.Place.{is_valid}
use Rattle.law_reasons.specs.laws.words.declared.layout.Layout.{Layout}
use Rattle.law_reasons.specs.laws.defs.declared.call.Call.{Call}
use Rattle.law_reasons.specs.laws.defs.declared.event.Event.{Event}
use Rattle.law_reasons.specs.laws.defs.declared.event.Event.TheVariants as events
use Rattle.law_reasons.specs.laws.defs.declared.event.Guard.{Guard}
use Rattle.law_reasons.specs.laws.defs.declared.event.Guard.TheVariants.{Helper, Index, Whole}
use Rattle.law_reasons.specs.laws.defs.declared.event.Root.{Root}
use Rattle.law_reasons.specs.laws.defs.declared.lifetime.Interval.{Interval}
use Rattle.law_reasons.specs.inv.model.declared.post.Post.{Post}
use Rattle.law_reasons.specs.inv.model.Calls.{Why, Phase, Idle, Runs, Scans, Works, ReadGuard, GiveBack}
use Rattle.law_reasons.specs.inv.model.Locals.{Local, after, begun}
use Rattle.law_reasons.specs.inv.model.Phases.{Aim, Tries, ProtectAt, MoveAt, Base}
use Rattle.law_reasons.specs.inv.model.Phases.ProtectAt.{LoadClock, PublishEra, LoadAnswer, TakeAnswer, RaiseUpper}
use Rattle.law_reasons.specs.inv.model.Phases.MoveAt.{HandOver}
use Rattle.law_reasons.specs.inv.model.Phases.Base.{Begin, Protect, Move}
use Rattle.law_reasons.specs.inv.model.Guards.{guard_at}
use Rattle.law_reasons.specs.inv.model.Posts.{counted}
use Rattle.law_reasons.specs.inv.model.World.{World, begin, finds, is_busy, offered, step, told_in, may_start}
use Rattle.law_held.specs.inv.shapes.Eras.{PhaseEras}
use Rattle.law_held.proofs.reuse.shapes.Frame.{after_seated, begun_seated, seat_stays, seat_steps, begin_stays, begin_begins}
use Rattle.law_held.proofs.reuse.shapes.Kept.{begun_fits}
use Rattle.law_reasons.specs.laws.words.Schemes.{is_ibr, publishes_rows}
use Rattle.law_reasons.specs.laws.words.declared.config.SchemeKind.{SchemeKind}
use Rattle.law_held.specs.inv.shapes.Frame.{Seated}
use Rattle.law_held.specs.inv.shapes.Seats.{PostFits, PhaseFits}
use Rattle.law_held.specs.inv.requests.Roles.{shows}
use Rattle.law_held.specs.inv.requests.Views.{Role, View as Asked}
use Rattle.law_held.proofs.inv.requests.Kept.{requests_begin, requests_start}
use Rattle.law_held.specs.inv.rows.Agree.{first_rows, rows_after}
use Rattle.law_held.specs.inv.rows.Chain.{first_line, line_after}
use Rattle.law_held.specs.inv.rows.Queue.{Line}
use Rattle.law_held.specs.inv.rows.Rows.{View}
use Rattle.law_held.specs.inv.covers.Covers.{eras_shown}
use Rattle.law_reasons.proofs.inv.ends.Handover.Shown.{helper_shows}
use Rattle.law_held.specs.inv.ends.Origins.{OriginsNeeds}
use Rattle.law_held.specs.inv.history.Record.{Past, Each, EachEntry}
use Rattle.law_held.proofs.inv.history.Entries.{entries_of_each}
use Rattle.law_held.specs.inv.history.History.{Item, Begins, Steps, Made, fits, done, done_if, did, made_from, first_made, record_of}
use Rattle.law_held.proofs.inv.history.Along.{begins_right, begins_within, low_seat}
use Rattle.law_held.specs.inv.Known.{Known}
use Rattle.law_held.proofs.inv.Inv.Begun.{known_start, known_begin}
use Rattle.law_held.proofs.inv.Inv.Kept.{known_kept, asked_next}
use Rattle.law_held.proofs.inv.Inv.Shown.{shown_span}
use Rattle.law_held.proofs.inv.Inv.Whole.{origins_need, handover_need}
use Rattle.law_held.proofs.inv.history.Passes.{First, step_goes}
use Rattle.law_held.specs.inv.shapes.Slots.{PhaseIn, Slots}
use Rattle.law_reasons.specs.laws.StateAt.{value_of}
use Rattle.law_reasons.proofs.Eras.EraLaw.Kinds.{records_keep_kinds}
use Rattle.law_reasons.proofs.reuse.Holding.Holds.{record_values}
use Rattle.law_reasons.proofs.reuse.ReadGuards.{reads_are}
use Rattle.law_reasons.specs.laws.EraLaw.{kind_ok}
use Rattle.law_reasons.specs.laws.HistoryEras.{span_rises}
use Rattle.law_reasons.specs.laws.HistorySteps.{era_rises}
use Rattle.law_held.specs.Steps.Records.{RecordsRaiseSpans, RecordsRaiseEras}
use Rattle.law_held.proofs.Steps.Rising.Free.{free_index}
use Rattle.law_reasons.proofs.Eras.Current.Keeps.{OfItems, next_items}
use Rattle.law_held.proofs.Steps.Rising.Rises.{era_under, protect_risen, PhaseRisen, PhaseRaises, risen_grows, risen_owed}
use Rattle.law_held.proofs.Steps.Rising.RiseTells.{growth_ok, Leads, leads_each, leads_closed, work_leads, protect_stands, move_shows, base_stands, base_leads}
use Rattle.law_held.proofs.Steps.Rising.RiseSteps.{some_era, SeatRisen, other_phase, own_protect}
use Rattle.law_held.proofs.inv.requests.Known.{stands_as}
use Rattle.law_held.proofs.inv.ends.Rest.Falling.{tries_plain}

-- what a history keeps where guards publish intervals
record Growing (layout : Layout) (made : Made) : Type 0 where
  plain : publishes_rows layout.config.scheme ≡ false
  table : made.world.layout ≡ layout
  rows : View
  line : Line
  asked : Asked
  known : Known made.world rows line asked
  of : OfItems layout made
  seats : (k : ℕ) → SeatRisen made.world k
  law : Each growth_ok made.past

values_of : (layout : Layout) (made : Made) (guard : Guard) → is_valid layout ≡ true → publishes_rows layout.config.scheme ≡ false → OfItems layout made → value_of guard made.past ≡ eras_shown made.world guard
values_of layout made guard d f h = subst (λ (m : Made). value_of guard m.past ≡ eras_shown m.world guard) (sym h.is) (record_values layout h.items guard d f)

-- a protection of tries begins where its index word publishes nothing
free_by : (layout : Layout) (made : Made) (i : ℕ) (why : Why) (aim : Aim) (index : ℕ) (root : Root) (n : ℕ) (tries : Tries) → is_valid layout ≡ true → is_ibr layout.config.scheme ≡ false → OfItems layout made → (made.world.seat i).phase ≡ Runs why (Protect aim index root n (LoadClock tries))
    → value_of (Index i index) made.past ≡ None
free_by layout made i why aim index root n tries d b h =
    subst (λ (m : Made). (m.world.seat i).phase ≡ Runs why (Protect aim index root n (LoadClock tries)) → value_of (Index i index) m.past ≡ None) (sym h.is)
    (λ q. free_index layout h.items i why aim index root n tries d b q)

-- what a step needs
tries_of : (w : World) (i : ℕ) (why : Why) (aim : Aim) (index : ℕ) (root : Root) (n : ℕ) (tries : Tries) → PhaseFits w.layout (w.seat i).post (w.seat i).phase → (w.seat i).phase ≡ Runs why (Protect aim index root n (LoadClock tries)) → is_ibr w.layout.config.scheme ≡ false
tries_of w i why aim index root n tries f q = let r = subst (λ (p : Phase). PhaseFits w.layout (w.seat i).post p) q f in tries_plain w.layout.config.scheme w.layout.config.tries tries r.fits

free_at : (layout : Layout) (made : Made) (i : ℕ) (why : Why) (aim : Aim) (index : ℕ) (root : Root) (n : ℕ) (tries : Tries) → is_valid layout ≡ true → Growing layout made → (made.world.seat i).phase ≡ Runs why (Protect aim index root n (LoadClock tries)) → eras_shown made.world (Index i index) ≡ None
free_at layout made i why aim index root n tries d g q =
    let b : is_ibr layout.config.scheme ≡ false = subst (λ (table : Layout). is_ibr table.config.scheme ≡ false) g.table (tries_of made.world i why aim index root n tries (g.known.seats.fits i).phase q) in
    sym (values_of layout made (Index i index) d g.plain g.of) ∙ free_by layout made i why aim index root n tries d b g.of q

own_raises : (layout : Layout) (made : Made) (i : ℕ) (phase : Phase) → is_valid layout ≡ true → i < made.world.layout.config.seats → Growing layout made → (made.world.seat i).phase ≡ phase → PhaseRaises (λ (j : ℕ). eras_shown (step made.world i) (Index i j)) (eras_shown (step made.world i) (Helper i)) (counted (made.world.seat i).post) phase (finds made.world i)
own_raises layout made i (Runs why (Protect aim index root n at)) d b g q =
    let w : World = made.world in
    let k = g.known in
    own_protect w i g.rows g.asked why aim index root n at (ap (λ (table : Layout). publishes_rows table.config.scheme) g.table ∙ g.plain) (handover_need w i g.rows g.line g.asked b k) (k.seats.fits i).post.seat k.requests (k.eras.seats i).phase (k.eras.seats i).post.span
    (λ tries e. free_at layout made i why aim index root n tries d g (q ∙ ap (λ (x : ProtectAt). Runs why (Protect aim index root n x)) e)) q (g.seats i)
own_raises layout made i (Runs why base) d b g q = tt
own_raises layout made i Idle d b g q = tt
own_raises layout made i (Scans later at) d b g q = tt
own_raises layout made i (Works work) d b g q = tt

own_risen : (layout : Layout) (made : Made) (i : ℕ) → is_valid layout ≡ true → i < made.world.layout.config.seats → Growing layout made → SeatRisen (step made.world i) i
own_risen layout made i d b g =
    let w : World = made.world in
    let l : Local = offered w i in
    let k = g.known in
    let values : ℕ → Option Interval = λ j. eras_shown (step w i) (Index i j) in
    let helper : Option Interval = eras_shown (step w i) (Helper i) in
    let s : Seated (PostFits w.layout i) (PhaseRisen values helper) (after l (finds w i)) =
    after_seated (risen_grows w.layout i values helper k.valid) l (finds w i) (risen_owed w.layout i values helper k.valid l.phase l.post (finds w i) (k.seats.fits i).post (k.seats.fits i).phase (own_raises layout made i l.phase d b g refl)) in
    subst (λ (x : Local). PhaseRisen values helper x.post x.phase) (sym (seat_steps w i)) s.phase

step_risen : (layout : Layout) (made : Made) (i m : ℕ) (same : Bool) → (m == i) ≡ same → is_valid layout ≡ true → i < made.world.layout.config.seats → Growing layout made → SeatRisen (step made.world i) m
step_risen layout made i m true e d b g = let q : i ≡ m = grind (arith, nat_tests) in subst (λ (n : ℕ). SeatRisen (step made.world i) n) q (own_risen layout made i d b g)
step_risen layout made i m false e d b g =
    let w : World = made.world in
    let k = g.known in
    subst (λ (x : Local). PhaseRisen (λ (j : ℕ). eras_shown (step w i) (Index m j)) (eras_shown (step w i) (Helper m)) x.post x.phase) (sym (seat_stays w i m e))
    (other_phase w i m g.rows g.asked (w.seat m).phase e (handover_need w i g.rows g.line g.asked b k) (k.seats.fits i).post.seat k.requests refl (g.seats m))

-- what a step tells
move_of : (w : World) (i : ℕ) (z : Asked) (why : Why) (at : MoveAt) → OriginsNeeds w i z → (w.seat i).phase ≡ Runs why (Move at) → move_shows (eras_shown w (Helper i)) at
move_of w i z why (HandOver era seat tag index root link old) n q =
    let p : Phase = Runs why (Move (HandOver era seat tag index root link old)) in
    let o : (z.helper i == era) ≡ true = subst (λ (x : Role). shows x (z.helper i) ≡ true) (stands_as w z i p n.requests q) (n.requests.parts.shown i) in
    let m = subst (λ (x : Phase). PhaseEras w.layout (w.mem Clock) (w.seat i).post x) q (n.eras.seats i).phase in
    subst (λ (x : Option Interval). is_some x ≡ true) (sym (helper_shows w z i n.requests)) (some_era (z.helper i) era era o m.helps.mover.era_in.some (omega arith))
move_of w i z why at n q = tt

span_stands : (layout : Layout) (post : Post) (at : ProtectAt) (why : Why) (aim : Aim) (index : ℕ) (root : Root) (n : ℕ) → post.layout ≡ layout → PhaseFits layout post (Runs why (Protect aim index root n at)) → protect_stands at post
span_stands layout post (RaiseUpper era) why aim index root n e f = f.posted (ap (λ (table : Layout). is_ibr table.config.scheme) e ∙ f.fits)
span_stands layout post at why aim index root n e f = tt

stands_of : (value : Guard → Option Interval) (w : World) (i : ℕ) (z : Asked) (why : Why) (base : Base) → value (Helper i) ≡ eras_shown w (Helper i) → OriginsNeeds w i z → (w.seat i).phase ≡ Runs why base → base_stands (value (Helper i)) base (counted (w.seat i).post)
stands_of value w i z why (Begin at) e n q = let f = subst (λ (p : Phase). PhaseFits w.layout (w.seat i).post p) q (n.seats.fits i).phase in f.posted
stands_of value w i z why (Protect aim index root made at) e n q =
    counted_stands at (span_stands w.layout (w.seat i).post at why aim index root made (n.seats.fits i).post.layout (subst (λ (p : Phase). PhaseFits w.layout (w.seat i).post p) q (n.seats.fits i).phase))
  where
    counted_stands : (at : ProtectAt) → protect_stands at (w.seat i).post → protect_stands at (counted (w.seat i).post)
    counted_stands (RaiseUpper era) h = h
    counted_stands at h = tt
stands_of value w i z why (Move at) e n q = subst (λ (x : Option Interval). move_shows x at) (sym e) (move_of w i z why at n q)
stands_of value w i z why base e n q = tt

abbrev value_in : Past → Guard → Option Interval
value_in p guard = value_of guard p

risen_in : (value : Guard → Option Interval) (w : World) (i : ℕ) (post : Post) (index : ℕ) (at : ProtectAt) → ((guard : Guard) → value guard ≡ eras_shown w guard) → protect_risen (λ (j : ℕ). eras_shown w (Index i j)) (eras_shown w (Helper i)) post index at → protect_risen (λ (j : ℕ). value (Index i j)) (value (Helper i)) (counted post) index at
risen_in value w i post index (PublishEra era tries) e h = subst (λ (x : Option Interval). era_under x era ≡ true) (sym (e (Index i index))) h
risen_in value w i post index (LoadAnswer first) e h = subst (λ (x : Option Interval). is_some x ≡ true) (sym (e (Helper i))) h
risen_in value w i post index (TakeAnswer link era) e h = subst (λ (x : Option Interval). is_some x ≡ true) (sym (e (Helper i))) h
risen_in value w i post index (RaiseUpper era) e h = h
risen_in value w i post index at e h = tt

phase_leads : (w : World) (i : ℕ) (z : Asked) (p : Past) (phase : Phase) → Slots w → OriginsNeeds w i z → ((guard : Guard) → value_of guard p ≡ eras_shown w guard) → eras_shown w (Whole i) ≡ (w.seat i).post.span → (w.seat i).phase ≡ phase → SeatRisen w i → First (λ post told. Leads i (value_in p) told) phase (counted (w.seat i).post) (finds w i)
phase_leads w i z p Idle l n e s q h = tt
phase_leads w i z p (Runs why base) l n e s q h =
    base_leads i (value_in p) base (counted (w.seat i).post) (finds w i) (record { seat = (n.seats.fits i).post.seat; span = e (Whole i) ∙ s }) (stands_of (value_in p) w i z why base (e (Helper i)) n q)
    (λ aim index root made at b. risen_in (value_in p) w i (w.seat i).post index at e (subst (PhaseRisen (λ (j : ℕ). eras_shown w (Index i j)) (eras_shown w (Helper i)) (w.seat i).post) (q ∙ ap (λ (x : Base). Runs why x) b) h))
phase_leads w i z p (Scans later (ReadGuard number)) l n e s q h =
    let post : Post = counted (w.seat i).post in
    reads_are (λ (event : Event). Leads i (value_in p) (event ∷ [])) (publishes_rows post.layout.config.scheme) (guard_at post.layout.config number) (finds w i) (λ span. (refl, refl)) (λ slot. (refl, refl))
phase_leads w i z p (Scans later (GiveBack place slot)) l n e s q h = (refl, refl)
phase_leads w i z p (Works work) l n e s q h = work_leads w.layout.config i (value_in p) work (counted (w.seat i).post) (subst (PhaseIn w.layout (w.seat i).desk) q (l.seats i).phase)

step_leads : (w : World) (i : ℕ) (z : Asked) (p : Past) → Slots w → OriginsNeeds w i z → ((guard : Guard) → value_of guard p ≡ eras_shown w guard) → eras_shown w (Whole i) ≡ (w.seat i).post.span → SeatRisen w i → Leads i (value_in p) (told_in w i)
step_leads w i z p l n e s h = step_goes (λ post told. Leads i (value_in p) told) (leads_closed i (value_in p)) (w.seat i).phase (counted (w.seat i).post) (offered w i).desk (finds w i) (phase_leads w i z p (w.seat i).phase l n e s refl h)

step_growing : (layout : Layout) (made : Made) (i : ℕ) → is_valid layout ≡ true → fits made.world (Steps i) ≡ true → i < made.world.layout.config.seats → Growing layout made → Growing layout (done made (Steps i))
step_growing layout made i d h b g =
    let w : World = made.world in
    let q = asked_next w i g.rows g.line g.asked b g.known in
    record {
      plain = g.plain;
      table = g.table;
      rows = rows_after w i g.rows;
      line = line_after w i g.line;
      asked = q.0;
      known = known_kept w i g.rows g.line g.asked q.0 b g.known q.1.facts q.1.deal;
      of = next_items layout made (Steps i) h g.of;
      seats = λ m. step_risen layout made i m (m == i) refl d b g;
      law = leads_each i (told_in w i) made.past (step_leads w i g.asked made.past g.known.slots (origins_need w i g.rows g.line g.asked b g.known) (λ guard. values_of layout made guard d g.plain g.of) (shown_span w i g.known.valid g.known.eras) (g.seats i)) g.law;
    }

-- a call begins
begin_risen : (w : World) (i m : ℕ) (call : Call) (same : Bool) → (m == i) ≡ same → is_valid w.layout ≡ true → PostFits w.layout i (w.seat i).post → ((k : ℕ) → SeatRisen w k) → SeatRisen (begin w i call) m
begin_risen w i m call true e v f g =
    let q : i ≡ m = grind (arith, nat_tests) in
    let values : ℕ → Option Interval = λ j. eras_shown w (Index i j) in
    let s : Seated (PostFits w.layout i) (PhaseRisen values (eras_shown w (Helper i))) (begun (w.seat i) call) = begun_seated (risen_grows w.layout i values (eras_shown w (Helper i)) v) (w.seat i) call (begun_fits w.layout i (w.seat i).post f) in
    subst (λ (n : ℕ). SeatRisen (begin w i call) n) q (subst (λ (x : Local). PhaseRisen values (eras_shown w (Helper i)) x.post x.phase) (sym (begin_begins w i call)) s.phase)
begin_risen w i m call false e v f g =
    subst (λ (x : Local). PhaseRisen (λ (j : ℕ). eras_shown w (Index m j)) (eras_shown w (Helper m)) x.post x.phase) (sym (begin_stays w i m call e)) (g m)

begin_growing : (layout : Layout) (made : Made) (i : ℕ) (call : Call) → fits made.world (Begins i call) ≡ true → is_busy made.world i ≡ false → may_start made.world i call ≡ true → Growing layout made → Growing layout (done made (Begins i call))
begin_growing layout made i call h f may g =
    let w : World = made.world in
    let k = g.known in
    let q = requests_begin w i call g.asked k.valid f k.seats k.requests in
    record {
      plain = g.plain;
      table = g.table;
      rows = g.rows;
      line = g.line;
      asked = q.0;
      known = known_begin w i call g.rows g.line g.asked q.0 f may k q.1.facts q.1.deal;
      of = next_items layout made (Begins i call) h g.of;
      seats = λ m. begin_risen w i m call (m == i) refl k.valid (k.seats.fits i).post g.seats;
      law = (refl, g.law);
    }

item_growing : (layout : Layout) (made : Made) (item : Item) (fit : Bool) → fits made.world item ≡ fit → is_valid layout ≡ true → Growing layout made → Growing layout (done_if made item fit)
item_growing layout made item false f d g = g
item_growing layout made (Begins i call) true f d g = begin_growing layout made i call f (begins_right i made.world.layout.config.seats (is_busy made.world i) (may_start made.world i call) f) (begins_within i made.world.layout.config.seats (is_busy made.world i) (may_start made.world i call) f) g
item_growing layout made (Steps i) true f d g = step_growing layout made i d f (low_seat i made.world.layout.config.seats (is_busy made.world i) f) g

items_growing : (layout : Layout) (items : List Item) (made : Made) → is_valid layout ≡ true → Growing layout made → Growing layout (made_from made items)
items_growing layout [] made d g = g
items_growing layout (item ∷ items) made d g = items_growing layout items (did made item) d (item_growing layout made item (fits made.world item) refl d g)

first_growing : (layout : Layout) → is_valid layout ≡ true → publishes_rows layout.config.scheme ≡ false → Growing layout (first_made layout)
first_growing layout d f =
    let q = requests_start layout d in
    record {
      plain = f;
      table = refl;
      rows = first_rows layout;
      line = first_line layout;
      asked = q.0;
      known = known_start layout q.0 d q.1.facts q.1.deal;
      of = record { items = []; is = refl };
      seats = λ k. tt;
      law = tt;
    }

-- where guards publish rows no interval is told
no_span : (rows told : Bool) → rows ≡ true → not rows ≡ true → told ≡ true
no_span true told r k = absurd (cc)
no_span false told r k = absurd (cc)

rows_grow : (scheme : SchemeKind) (p : Past) (i : ℕ) (event : Event) → publishes_rows scheme ≡ true → kind_ok scheme p i event ≡ true → growth_ok p i event ≡ true
rows_grow scheme p i (events.Reserve guard span) r k = no_span (publishes_rows scheme) (growth_ok p i (events.Reserve guard span)) r k
rows_grow scheme p i event r k = refl

each_growth : (layout : Layout) (items : List Item) → is_valid layout ≡ true → EachEntry growth_ok (record_of layout items)
each_growth layout items d = by (publishes_rows layout.config.scheme) refl
  where
    by : (rows : Bool) → publishes_rows layout.config.scheme ≡ rows → EachEntry growth_ok (record_of layout items)
    by true e = λ before i event later cut. rows_grow layout.config.scheme before i event e (records_keep_kinds layout items d before i event later cut)
    by false e = let g = items_growing layout items (first_made layout) d (first_growing layout d e) in entries_of_each growth_ok (record_of layout items) g.law

span_of : (p : Past) (i : ℕ) (event : Event) → growth_ok p i event ≡ true → span_rises p i event ≡ true
span_of p i (events.Reserve (Whole seat) span) h = h
span_of p i (events.Reserve (Helper seat) span) h = refl
span_of p i (events.Reserve (Index seat index) span) h = refl
span_of p i event h = refl

era_of : (p : Past) (i : ℕ) (event : Event) → growth_ok p i event ≡ true → era_rises p i event ≡ true
era_of p i (events.Reserve (Index seat index) span) h = h
era_of p i (events.Reserve (Helper seat) span) h = refl
era_of p i (events.Reserve (Whole seat) span) h = refl
era_of p i event h = refl

pub records_raise_spans : RecordsRaiseSpans
records_raise_spans layout items d before i event later e = span_of before i event (each_growth layout items d before i event later e)

pub records_raise_eras : RecordsRaiseEras
records_raise_eras layout items d before i event later e = era_of before i event (each_growth layout items d before i event later e)
