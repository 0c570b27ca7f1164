-- A protection asks for help only once the eras of its own tries have risen.
use Rattle.std.proofs.Common.{ℕ, ◌≡◌, ◌≤◌, ◌+◌, Bool, true, false, List, [], ◌∷◌, ◌++◌, Option, Some, None, refl, sym, ap, ◌∙◌, subst}
use Rattle.std.specs.Prelude.{◌==◌, ◌&&◌, ◌||◌, nat_le, if◌then◌else◌}
use Rattle.law_scans.specs.inv.model.words.Place.Place.{Clock}
use Rattle.law_scans.specs.inv.model.words.Schemes.{is_ibr, is_wfe, publishes_rows}
use Rattle.law_scans.specs.inv.model.words.declared.config.Config.{Config}
use Rattle.law_scans.specs.inv.model.words.declared.layout.Layout.{Layout}
use Rattle.law_scans.specs.inv.model.defs.declared.call.Call.{Call}
use Rattle.law_scans.specs.inv.model.defs.declared.event.Event.{Event}
use Rattle.law_scans.specs.inv.model.defs.declared.event.Event.TheVariants as events
use Rattle.law_scans.specs.inv.model.defs.declared.event.Guard.TheVariants.{Helper}
use Rattle.law_scans.specs.inv.model.defs.declared.lifetime.Interval.{Interval}
use Rattle.law_scans.specs.inv.model.declared.post.Post.{Post}
use Rattle.law_scans.specs.inv.model.Calls.{ReadGuard, GiveBack, Why, Phase, Idle, Runs, Scans, Works}
use Rattle.law_scans.specs.inv.model.Guards.{guard_at, one_era}
use Rattle.law_scans.specs.inv.model.Locals.{Local, begun_post}
use Rattle.law_scans.specs.inv.model.Machine as machine
use Rattle.law_scans.specs.inv.model.Memory.{found, place_in}
use Rattle.law_scans.specs.inv.model.Phases.{Base, Outcome, Goes, Ends}
use Rattle.law_scans.specs.inv.model.Phases.ProtectAt.{LoadClock, PublishEra, CheckClock, PublishHelper}
use Rattle.law_scans.specs.inv.model.Phases.MoveAt.{ShowEra}
use Rattle.law_scans.specs.inv.model.Phases.Base.{Protect, Move}
use Rattle.law_scans.specs.inv.model.Posts.{counted, reserves_helper}
use Rattle.law_scans.specs.inv.model.Rounds.{scheme_of, clear_told}
use Rattle.law_scans.specs.inv.model.Steps as steps
use Rattle.law_scans.specs.inv.model.Steps.{phase_move}
use Rattle.law_scans.specs.inv.model.World.{World, begin, finds, offered, step, told_in}
use Rattle.law_scans.proofs.inv.model.Facts.{both, first_of, rest_of, number_is, same_number}
use Rattle.law_scans.specs.inv.shapes.Eras.{Eras}
use Rattle.law_scans.specs.inv.shapes.Seats.{PhaseFits, Run, kind_of, suits}
use Rattle.law_scans.specs.inv.history.History as histories
use Rattle.law_scans.specs.inv.history.History.{Made}
use Rattle.law_scans.specs.laws.records.Record.{Past, Test, Each, tells_of}
use Rattle.law_scans.specs.laws.records.Record.Past.{Then}
use Rattle.law_scans.specs.laws.records.Turns as schedule
use Rattle.law_scans.specs.laws.records.Turns.{record_of}
use Rattle.law_scans.specs.laws.records.Turns.History.{Starts}
use Rattle.law_scans.specs.reuse.Heard.{IsCounted}
use Rattle.law_scans.proofs.reuse.ReadGuards.{reads_are}
use Rattle.law_scans.proofs.reuse.OneStep.Along.{Around, Kept, history_keeps}
use Rattle.law_scans.proofs.reuse.Turns.Counted.{histories_count}
use Rattle.law_scans.proofs.inv.Inv.Shapes.{eras_of}
use Rattle.law_scans.proofs.inv.ends.Handover.Asks.{run_of}
use Rattle.law_scans.proofs.laws.records.Entries.{entries_of_each}
use Rattle.law_scans.proofs.reuse.history.Passes.{Closed, First, step_goes, work_told}
use Rattle.law_scans.proofs.reuse.shapes.Frame.{begin_begins, begin_stays, seat_stays}
use Rattle.law_scans.proofs.reuse.shapes.Kept.{begun_fits}
use Rattle.law_scans.proofs.Turns.TurnCounts.Tried.{phase_tried, why_tried}
use Rattle.law_scans.proofs.Turns.TurnCounts.Underway as underway
use Rattle.law_scans.proofs.Turns.TurnCounts.Underway.{Lasts}
use Rattle.law_scans.proofs.Turns.Withdrawals.Leaving.{Leads, Left, first_new, stepped_leads, tries_none}
use Rattle.law_scans.proofs.Turns.Withdrawals.Withdrawing.{all_plain, base_plain, clear_mute, is_plain, quiet_mute}
use Rattle.law_scans.specs.laws.HistorySteps.{asks_ok}
use Rattle.law_scans.specs.laws.StateAt.{own_last_by, own_last_of, own_rising_by, own_rising_of}
use Rattle.law_scans.specs.laws.HistoryTurns.{turns_since}
use Rattle.law_scans.specs.laws.StateAt.{last_of, tried_of}
use Rattle.law_scans.specs.laws.HistorySteps.{helper_ok, tried_enough}
use Rattle.law_held.specs.Steps.Records.{RecordsAskLate}
use Rattle.law_held.proofs.Steps.Asking.Helping.{mute_plain, other_why, records_keep_helpers, work_plain}
use Rattle.law_held.proofs.Steps.Asking.Owns.{Begun, Comes, Leaves, Out, OwnEra, base_leaves, base_own, comes_along, fresh_of, last_told, new_own, phase_own, rise_told}

-- where an era is published in a helper word, the eras of the protection under way have risen
abbrev asked_ok : (index : ℕ) → Test
asked_ok j p i (events.Reserve (Helper k) (Some span)) = tried_of i j p == 0 || own_rising_of i j p
asked_ok j p i event = true

-- each event of a list, told after a position
abbrev Fine : (index seat : ℕ) → List Event → Past → Type 0
Fine j i [] p = Unit {0}
Fine j i (event ∷ told) p = (asked_ok j p i event ≡ true) × Fine j i told (Then p i event)

fine_both : (j i : ℕ) (xs ys : List Event) (p : Past) → Fine j i xs p → Fine j i ys (tells_of p i xs) → Fine j i (xs ++ ys) p
fine_both j i [] ys p h k = k
fine_both j i (x ∷ xs) ys p h k = (h.0, fine_both j i xs ys (Then p i x) h.1 k)

plain_one : (j i : ℕ) (p : Past) (event : Event) → is_plain event ≡ true → asked_ok j p i event ≡ true
plain_one j i p (events.Reserve (Helper k) None) h = refl
plain_one j i p (events.Reserve (Helper k) (Some span)) h = absurd (cc)
plain_one j i p event h = refl

plain_fine : (j i : ℕ) (told : List Event) (p : Past) → all_plain told ≡ true → Fine j i told p
plain_fine j i [] p h = tt
plain_fine j i (event ∷ told) p h = (plain_one j i p event (first_of (is_plain event) (all_plain told) h), plain_fine j i told (Then p i event) (rest_of (is_plain event) (all_plain told) h))

fine_closed : (j i : ℕ) (p : Past) → Closed (λ post told. Fine j i told p)
fine_closed j i p = record {
  calm = λ post told more q h. fine_both j i told more p h (plain_fine j i more (tells_of p i told) (mute_plain more (quiet_mute more q)));
  clears = λ post told index h. fine_both j i told (clear_told (scheme_of post) post index) p h (plain_fine j i (clear_told (scheme_of post) post index) (tells_of p i told) (mute_plain (clear_told (scheme_of post) post index) (clear_mute (scheme_of post) post index)));
}

helper_fine : (j i : ℕ) (p : Past) (post : Post) (era : ℕ) → (tried_of i j p == 0 || own_rising_of i j p) ≡ true → Fine j i (reserves_helper post era) p
helper_fine j i p post era h = (by (one_era era), tt)
  where
    by : (span : Option Interval) → asked_ok j p i (events.Reserve (Helper post.seat) span) ≡ true
    by None = refl
    by (Some span) = h

-- what a seat knows where it asks
asks_fine : (n : ℕ) (r own : Bool) (b : Bool) → (if own then b else n == 0) ≡ true → (if own then r else true) ≡ true → (n == 0 || r) ≡ true
asks_fine n r true b t h = rw h (any (n == 0))
  where
    any : (x : Bool) → (x || true) ≡ true
    any true = refl
    any false = refl
asks_fine n r false b t h = rw t refl

base_fine : (c : Config) (j i : ℕ) (p : Past) (u last : ℕ) (why : Why) (base : Base) (post : Post) (there : ℕ) → suits base (kind_of why) ≡ true → why_tried c u why base j (tried_of i j p) last ≡ true → base_own base j (own_last_of i j p) (own_rising_of i j p) ≡ true → Fine j i (machine.after base post there).told p
base_fine c j i p u last why (Protect aim index root steps (PublishHelper first era final)) post there s t h =
    helper_fine j i p post era (asks_fine (tried_of i j p) (own_rising_of i j p) (index == j) (nat_le (c.tries + 1) (tried_of i j p)) (other_why c u why (Protect aim index root steps (PublishHelper first era final)) j (tried_of i j p) last s refl t) h)
base_fine c j i p u last why (Move (ShowEra era seat tag index root)) post there s t h =
    helper_fine j i p post era (let z : (tried_of i j p == 0) ≡ true = other_why c u why (Move (ShowEra era seat tag index root)) j (tried_of i j p) last s refl t in rw z refl)
base_fine c j i p u last why (Protect aim index root steps at) post there s t h = plain_fine j i (machine.after (Protect aim index root steps at) post there).told p (base_plain (Protect aim index root steps at) post there refl)
base_fine c j i p u last why (Move at) post there s t h = plain_fine j i (machine.after (Move at) post there).told p (base_plain (Move at) post there refl)
base_fine c j i p u last why base post there s t h = plain_fine j i (machine.after base post there).told p (base_plain base post there refl)

phase_fine : (w : World) (i j : ℕ) (p : Past) (u last : ℕ) (phase : Phase) → PhaseFits w.layout (w.seat i).post phase → phase_tried w.layout.config u phase j (tried_of i j p) last ≡ true → phase_own phase j (own_last_of i j p) (own_rising_of i j p) ≡ true → First (λ post told. Fine j i told p) phase (counted (w.seat i).post) (finds w i)
phase_fine w i j p u last Idle f t h = tt
phase_fine w i j p u last (Runs why base) f t h = base_fine w.layout.config j i p u last why base (counted (w.seat i).post) (finds w i) f.suited t h
phase_fine w i j p u last (Scans later (ReadGuard number)) f t h =
    reads_are (λ (event : Event). Fine j i (event ∷ []) p) (publishes_rows (w.seat i).post.layout.config.scheme) (guard_at (w.seat i).post.layout.config number) (finds w i) (λ span. (refl, tt)) (λ slot. (refl, tt))
phase_fine w i j p u last (Scans later (GiveBack place slot)) f t h = (refl, tt)
phase_fine w i j p u last (Works work) f t h = plain_fine j i (work_told work (counted (w.seat i).post)) p (work_plain work (counted (w.seat i).post))

-- what a step needs
own_era : (w : World) (i : ℕ) (why : Why) (base : Base) → Eras w → (w.seat i).phase ≡ Runs why base → OwnEra base (finds w i)
own_era w i why (Protect aim index root steps (PublishEra era tries)) a e = let r = eras_of w i why (Protect aim index root steps (PublishEra era tries)) a e in r.some
own_era w i why (Protect aim index root steps (CheckClock era tries link)) a e =
    let r = eras_of w i why (Protect aim index root steps (CheckClock era tries link)) a e in
    let q : finds w i ≡ w.mem Clock = ap (λ (phase : Phase). found (phase_move phase (w.seat i).post) (w.mem (place_in (phase_move phase (w.seat i).post)))) e in
    subst (λ (n : ℕ). era ≤ n) (sym q) r.most
own_era w i why (Protect aim index root steps at) a e = tt
own_era w i why base a e = tt

own_begun : (c : Config) (u : ℕ) (why : Why) (base : Base) (i j : ℕ) (p : Past) (last : ℕ) → suits base (kind_of why) ≡ true → why_tried c u why base j (tried_of i j p) last ≡ true → Begun base j (own_last_of i j p) (own_rising_of i j p)
own_begun c u why (Protect aim index root steps (LoadClock tries)) i j p last s t = λ o.
    let h : (if index == j then (tried_of i j p == 0 && tries_none tries) else tried_of i j p == 0) ≡ true = other_why c u why (Protect aim index root steps (LoadClock tries)) j (tried_of i j p) last s refl t in
    fresh_of i j p (zero (index == j) tries h)
  where
    zero : (own : Bool) (tries : _) → (if own then (tried_of i j p == 0 && tries_none tries) else tried_of i j p == 0) ≡ true → (tried_of i j p == 0) ≡ true
    zero true tries h = first_of (tried_of i j p == 0) (tries_none tries) h
    zero false tries h = h
own_begun c u why (Protect aim index root steps at) i j p last s t = tt
own_begun c u why base i j p last s t = tt

-- a step comes to what its machine tells
abbrev Came : (seat index : ℕ) → (x : Option Interval) (r : Bool) → Phase → Post → ℕ → List Event → Type 0
Came i j x r (Runs why base) post there told = Comes i j x r (last_told i j (machine.after base post there).told x) (rise_told i j (machine.after base post there).told x r) told
Came i j x r phase post there told = Unit {0}

comes_closed : (i j : ℕ) (x : Option Interval) (r : Bool) (y : Option Interval) (s : Bool) → Closed (λ post told. Comes i j x r y s told)
comes_closed i j x r y s = record {
  calm = λ post told more q h. comes_along i j x r y s told more (quiet_mute more q) h;
  clears = λ post told index h. comes_along i j x r y s told (clear_told (scheme_of post) post index) (clear_mute (scheme_of post) post index) h;
}

came : (w : World) (i j : ℕ) (x : Option Interval) (r : Bool) (phase : Phase) → (w.seat i).phase ≡ phase → Came i j x r phase (counted (w.seat i).post) (finds w i) (told_in w i)
came w i j x r (Runs why base) e =
    let post : Post = counted (w.seat i).post in
    let there : ℕ = finds w i in
    let y : Option Interval = last_told i j (machine.after base post there).told x in
    let s : Bool = rise_told i j (machine.after base post there).told x r in
    step_goes (λ p told. Comes i j x r y s told) (comes_closed i j x r y s) (w.seat i).phase post (offered w i).desk there
    (subst (λ (phase : Phase). First (λ p told. Comes i j x r y s told) phase post there) (sym e) (record { last = refl; rising = refl }))
came w i j x r Idle e = tt
came w i j x r (Scans later at) e = tt
came w i j x r (Works work) e = tt

out_own : (interval : Bool) (j : ℕ) (x : Option Interval) (r : Bool) (why : Why) (outcome : Outcome) (next : Phase) → Out j x r outcome → Leads interval why outcome next → phase_own next j x r ≡ true
out_own interval j x r why (Goes base) next o l = ap (λ (phase : Phase). phase_own phase j x r) l ∙ o
out_own interval j x r why (Ends ending) next o l = new_own next j x r l.0

left_own : (interval : Bool) (i j : ℕ) (x : Option Interval) (r : Bool) (phase : Phase) (post : Post) (there : ℕ) (next : Phase) (told : List Event) → Left interval phase post there next → Came i j x r phase post there told → ((why : Why) (base : Base) → phase ≡ Runs why base → Leaves i j x r (machine.after base post there)) → phase_own next j (last_told i j told x) (rise_told i j told x r) ≡ true
left_own interval i j x r Idle post there next told l c f = new_own next j (last_told i j told x) (rise_told i j told x r) l
left_own interval i j x r (Runs why base) post there next told l c f =
    rw (c.last, c.rising) (out_own interval j (last_told i j (machine.after base post there).told x) (rise_told i j (machine.after base post there).told x r) why (machine.after base post there).outcome next (f why base refl) l)
left_own interval i j x r (Scans later at) post there next told l c f = new_own next j (last_told i j told x) (rise_told i j told x r) l
left_own interval i j x r (Works work) post there next told l c f = new_own next j (last_told i j told x) (rise_told i j told x r) l

-- the record
own_tells : (i j : ℕ) (told : List Event) (p : Past) → (own_last_of i j (tells_of p i told) ≡ last_told i j told (own_last_of i j p)) × (own_rising_of i j (tells_of p i told) ≡ rise_told i j told (own_last_of i j p) (own_rising_of i j p))
own_tells i j [] p = (refl, refl)
own_tells i j (event ∷ told) p =
    let q = own_tells i j told (Then p i event) in
    let a : own_last_of i j (Then p i event) ≡ own_last_by i j event (own_last_of i j p) = rw (same_number i) refl in
    let b : own_rising_of i j (Then p i event) ≡ own_rising_by i j (own_last_of i j p) event (own_rising_of i j p) = rw (same_number i) refl in (
      q.0 ∙ ap (last_told i j told) a,
      q.1 ∙ ap (λ (x : Option Interval). rise_told i j told x (own_rising_of i j (Then p i event))) a ∙ ap (λ (r : Bool). rise_told i j told (own_last_by i j event (own_last_of i j p)) r) b,
    )

own_stays : (k i j : ℕ) (told : List Event) (p : Past) → (k == i) ≡ false → (own_last_of k j (tells_of p i told) ≡ own_last_of k j p) × (own_rising_of k j (tells_of p i told) ≡ own_rising_of k j p)
own_stays k i j [] p e = (refl, refl)
own_stays k i j (event ∷ told) p e =
    let q = own_stays k i j told (Then p i event) e in
    let a : own_last_of k j (Then p i event) ≡ own_last_of k j p = rw e refl in
    let b : own_rising_of k j (Then p i event) ≡ own_rising_of k j p = rw e refl in (q.0 ∙ a, q.1 ∙ b)

told_each : (j i : ℕ) (told : List Event) (p : Past) → Fine j i told p → Each (asked_ok j) p → Each (asked_ok j) (tells_of p i told)
told_each j i [] p h g = g
told_each j i (event ∷ told) p h g = told_each j i told (Then p i event) h.1 (h.0, g)

-- along a history
record Owns (layout : Layout) (made : Made) (h : schedule.History) : Type 0 where
  lasts : Lasts layout made h
  own : (k j : ℕ) → phase_own (made.world.seat k).phase j (own_last_of k j (record_of h)) (own_rising_of k j (record_of h)) ≡ true
  law : (j : ℕ) → Each (asked_ok j) (record_of h)

step_own : (layout : Layout) (made : Made) (h : schedule.History) (i j : ℕ) → Around made h → Owns layout made h → phase_own ((step made.world i).seat i).phase j (own_last_of i j (tells_of (record_of h) i (told_in made.world i))) (own_rising_of i j (tells_of (record_of h) i (told_in made.world i))) ≡ true
step_own layout made h i j a g =
    let w : World = made.world in
    let k = a.known.known in
    let p : Past = record_of h in
    let f = k.seats.fits i in
    let phase : Phase = (w.seat i).phase in
    let post : Post = counted (w.seat i).post in
    let next : Phase = ((step w i).seat i).phase in
    let q = own_tells i j (told_in w i) p in
    let t = g.lasts.tried i j in
    rw (q.0, q.1)
    (left_own (is_ibr w.layout.config.scheme) i j (own_last_of i j p) (own_rising_of i j p) phase post (finds w i) next (told_in w i) (stepped_leads w i k.valid k.seats) (came w i j (own_last_of i j p) (own_rising_of i j p) phase refl)
    (λ why base e.
    let r : Run w.layout why base (w.seat i).post = run_of w i why base k.seats e in
    let m : why_tried w.layout.config (turns_since i j h) why base j (tried_of i j p) (last_of i p) ≡ true = subst (λ (x : Phase). phase_tried w.layout.config (turns_since i j h) x j (tried_of i j p) (last_of i p) ≡ true) e t in
    base_leaves i j (own_last_of i j p) (own_rising_of i j p) base post (finds w i) f.post.seat (own_era w i why base k.eras e) (own_begun w.layout.config (turns_since i j h) why base i j p (last_of i p) r.suited m)
    (subst (λ (x : Phase). phase_own x j (own_last_of i j p) (own_rising_of i j p) ≡ true) e (g.own i j))))

step_seats : (layout : Layout) (made : Made) (h : schedule.History) (i k j : ℕ) (same : Bool) → (k == i) ≡ same → Around made h → Owns layout made h → phase_own ((step made.world i).seat k).phase j (own_last_of k j (tells_of (record_of h) i (told_in made.world i))) (own_rising_of k j (tells_of (record_of h) i (told_in made.world i))) ≡ true
step_seats layout made h i k j true e a g =
    let w : World = made.world in
    let one : k ≡ i = number_is k i e in
    subst (λ (m : ℕ). phase_own ((step w i).seat m).phase j (own_last_of m j (tells_of (record_of h) i (told_in w i))) (own_rising_of m j (tells_of (record_of h) i (told_in w i))) ≡ true) (sym one) (step_own layout made h i j a g)
step_seats layout made h i k j false e a g =
    let w : World = made.world in
    let q : ((step w i).seat k).phase ≡ (w.seat k).phase = ap (λ (l : Local). l.phase) (seat_stays w i k e) in
    let s = own_stays k i j (told_in w i) (record_of h) e in
    rw q (rw (s.0, s.1) (g.own k j))

step_law : (layout : Layout) (made : Made) (h : schedule.History) (i j : ℕ) → Around made h → Owns layout made h → Each (asked_ok j) (tells_of (record_of h) i (told_in made.world i))
step_law layout made h i j a g =
    let w : World = made.world in
    let k = a.known.known in
    let f = k.seats.fits i in
    let p : Past = record_of h in
    told_each j i (told_in w i) p
    (step_goes (λ post told. Fine j i told p) (fine_closed j i p) (w.seat i).phase (counted (w.seat i).post) (offered w i).desk (finds w i)
    (phase_fine w i j p (turns_since i j h) (last_of i p) (w.seat i).phase f.phase (g.lasts.tried i j) (g.own i j)))
    (g.law j)

-- a call begins
either : {X : Type 0} (same : Bool) (x : X) → (if same then x else x) ≡ x
either true x = refl
either false x = refl

begin_seats : (layout : Layout) (made : Made) (h : schedule.History) (i k j : ℕ) (call : Call) (same : Bool) → (k == i) ≡ same → Around made h → Owns layout made h → phase_own ((begin made.world i call).seat k).phase j (own_last_of k j (record_of (Starts h i call))) (own_rising_of k j (record_of (Starts h i call))) ≡ true
begin_seats layout made h i k j call true e a g =
    let w : World = made.world in
    let n = a.known.known in
    let f = n.seats.fits i in
    let one : k ≡ i = number_is k i e in
    let q : ((begin w i call).seat i).phase ≡ steps.first_phase call (begun_post (w.seat i).post) = ap (λ (l : Local). l.phase) (begin_begins w i call) in
    subst (λ (m : ℕ). phase_own ((begin w i call).seat m).phase j (own_last_of k j (record_of (Starts h i call))) (own_rising_of k j (record_of (Starts h i call))) ≡ true) (sym one)
    (rw q (new_own (steps.first_phase call (begun_post (w.seat i).post)) j _ _ (first_new w.layout i n.valid call (begun_post (w.seat i).post) (begun_fits w.layout i (w.seat i).post f.post))))
begin_seats layout made h i k j call false e a g =
    let w : World = made.world in
    let q : ((begin w i call).seat k).phase ≡ (w.seat k).phase = ap (λ (l : Local). l.phase) (begin_stays w i k call e) in
    let x : own_last_of k j (record_of (Starts h i call)) ≡ own_last_of k j (record_of h) = either (k == i) (own_last_of k j (record_of h)) in
    let r : own_rising_of k j (record_of (Starts h i call)) ≡ own_rising_of k j (record_of h) = either (k == i) (own_rising_of k j (record_of h)) in
    rw q (rw (x, r) (g.own k j))

kept : (layout : Layout) → is_wfe layout.config.scheme ≡ true → Kept (Owns layout)
kept layout f = record {
  begins = λ made h i call a b y m g. record { lasts = underway.begin_kept layout made h i call a y g.lasts; own = λ k j. begin_seats layout made h i k j call (k == i) refl a g; law = λ j. (refl, g.law j) };
  steps = λ made h i a b y g. record { lasts = underway.step_kept layout made h i f a b y g.lasts; own = λ k j. step_seats layout made h i k j (k == i) refl a g; law = λ j. step_law layout made h i j a g };
}

-- both laws at once
joined : (tries n : ℕ) (r : Bool) → tried_enough tries n ≡ true → (n == 0 || r) ≡ true → (n == 0 || (nat_le (tries + 1) n && r)) ≡ true
joined tries n r a b = by (n == 0) (nat_le (tries + 1) n) r a b
  where
    by : (none many r : Bool) → (none || many) ≡ true → (none || r) ≡ true → (none || (many && r)) ≡ true
    by true many r a b = refl
    by false many r a b = both many r a b

ask_joined : (tries j : ℕ) (p : Past) (i : ℕ) (event : Event) → helper_ok tries j p i event ≡ true → asked_ok j p i event ≡ true → asks_ok tries j p i event ≡ true
ask_joined tries j p i (events.Reserve (Helper k) (Some span)) a b = joined tries (tried_of i j p) (own_rising_of i j p) a b
ask_joined tries j p i event a b = refl

pub records_ask_late : RecordsAskLate
records_ask_late layout items d f j before i event later cut =
    let g = history_keeps layout (Owns layout) (kept layout f) d items (record { lasts = underway.first_kept layout f; own = λ k m. refl; law = λ m. tt }) in
    let c : IsCounted layout items = histories_count layout items d in
    let asked : Each (asked_ok j) (histories.record_of layout items) = subst (λ (p : Past). Each (asked_ok j) p) c.tells (g.law j) in
    ask_joined layout.config.tries j before i event (records_keep_helpers layout items d f j before i event later cut) (entries_of_each (asked_ok j) (histories.record_of layout items) asked before i event later cut)
