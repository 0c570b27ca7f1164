-- The record of each history keeps the laws on where helper words show eras.
use Rattle.std.proofs.Common.{ℕ, ◌≡◌, ◌<◌, true, List, [], ◌∷◌, Some, None, refl, sym, subst}
use Rattle.std.specs.Prelude.{◌||◌}
use Rattle.law_scans.specs.inv.model.words.Place.{is_valid}
use Rattle.law_scans.specs.inv.model.words.declared.config.Config.{Config}
use Rattle.law_scans.specs.inv.model.words.declared.layout.Layout.{Layout}
use Rattle.law_scans.specs.inv.model.defs.declared.event.Event.{Event}
use Rattle.law_scans.specs.inv.model.defs.declared.event.Event.TheVariants as events
use Rattle.law_scans.specs.inv.model.defs.declared.event.Guard.TheVariants.{Helper, Index, Whole}
use Rattle.law_scans.specs.inv.model.declared.post.Post.{Post}
use Rattle.law_scans.specs.inv.model.Calls.{Why, Opens, FollowsHead, Fills, ClearsNext, Clears, Finishes, GivesUp, Retires, Tidies, Advances, Releases, ReadGuard, GiveBack, Phase, Idle, Runs, Scans, Works}
use Rattle.law_scans.specs.inv.model.Guards.{guards, guard_at}
use Rattle.law_scans.specs.inv.model.Phases.{Base}
use Rattle.law_scans.specs.inv.model.Phases.Base.{Protect}
use Rattle.law_scans.specs.inv.model.Posts.{counted}
use Rattle.law_scans.specs.inv.model.World.{World, finds, offered, told_in}
use Rattle.law_scans.specs.inv.model.words.Schemes.{is_wfe, publishes_rows}
use Rattle.law_scans.specs.inv.shapes.Seats.{kind_of, suits}
use Rattle.law_scans.specs.inv.shapes.Seats as seats
use Rattle.law_scans.specs.laws.records.Record.{Past, Each, EachEntry}
use Rattle.law_scans.proofs.laws.records.Entries.{entries_of_each}
use Rattle.law_scans.specs.laws.records.Turns as schedule
use Rattle.law_scans.specs.laws.records.Turns.{record_of}
use Rattle.law_scans.specs.inv.history.History.{Item, Made}
use Rattle.law_scans.specs.inv.history.History as histories
use Rattle.law_scans.specs.reuse.Heard.{IsCounted}
use Rattle.law_scans.proofs.reuse.Turns.Counted.{histories_count}
use Rattle.law_scans.proofs.reuse.history.Passes.{First, step_goes}
use Rattle.law_scans.proofs.reuse.ReadGuards.{reads_are}
use Rattle.law_scans.proofs.reuse.OneStep.Along.{Around, Kept, history_keeps}
use Rattle.law_scans.proofs.Turns.Counting.Passing.{Apart}
use Rattle.law_scans.specs.laws.HistoryTurns.{turns_since}
use Rattle.law_scans.specs.laws.HistoryScans.{Tally, plain_tally}
use Rattle.law_scans.specs.laws.HistoryEras.{may_move}
use Rattle.law_scans.specs.Scans.{tally_of}
use Rattle.law_scans.proofs.DueScans.Courses as courses
use Rattle.law_scans.proofs.DueScans.Keeps as scans
use Rattle.law_scans.proofs.FewRetired.Plain.{records_count_plainly}
use Rattle.law_scans.specs.laws.StateAt.{tried_of, last_of, shown_of}
use Rattle.law_scans.proofs.Turns.TurnCounts.Lasting.{base_apart}
use Rattle.law_scans.proofs.Turns.TurnCounts.Tried.{why_tried, phase_tried}
use Rattle.law_scans.proofs.Turns.TurnCounts.Underway as underway
use Rattle.law_scans.proofs.Turns.TurnCounts.Underway.{Lasts}
use Rattle.law_scans.proofs.Turns.Withdrawals.Withdrawing.{phase_shows}
use Rattle.law_scans.specs.laws.HistorySteps.{failed_once, shows_ok, takes_ok}
use Rattle.law_held.specs.Steps.Records.{RecordsShowLate, RecordsTakeLate}
use Rattle.law_held.proofs.Steps.Asking.Asking.{work_asks, Asks, asks_ok, asks_closed, Tries, base_asks, move_course, told_each}

-- what is known of a seat where it makes a step
record Stand (c : Config) (layout : Layout) (i : ℕ) (p : Past) (turns : ℕ → ℕ) (all last found : ℕ) (post : Post) (phase : Phase) : Type 0 where
  fits : seats.PhaseFits layout post phase
  apart : (why : Why) (base : Base) → phase ≡ Runs why base → Apart i found base
  shown : shown_of i p ≡ phase_shows phase
  tried : (j : ℕ) → phase_tried c (turns j) phase j (tried_of i j p) last ≡ true
  course : courses.PhaseFits all phase (tally_of c.every i p).course

tries_of : (c : Config) (i : ℕ) (p : Past) (turns : ℕ → ℕ) (last : ℕ) (why : Why) (base : Base) → suits base (kind_of why) ≡ true → ((j : ℕ) → why_tried c (turns j) why base j (tried_of i j p) last ≡ true) → Tries c i p last base
tries_of c i p turns last (ClearsNext next) (Protect aim index root steps at) s h = absurd (cc)
tries_of c i p turns last (Opens task) (Protect aim index root steps at) s h = h index
tries_of c i p turns last (FollowsHead head tail) (Protect aim index root steps at) s h = h index
tries_of c i p turns last (Fills task) (Protect aim index root steps at) s h = h index
tries_of c i p turns last (Clears task next) (Protect aim index root steps at) s h = h index
tries_of c i p turns last (Finishes task next) (Protect aim index root steps at) s h = h index
tries_of c i p turns last (GivesUp answer) (Protect aim index root steps at) s h = h index
tries_of c i p turns last (Retires answer) (Protect aim index root steps at) s h = h index
tries_of c i p turns last (Tidies later) (Protect aim index root steps at) s h = h index
tries_of c i p turns last Advances (Protect aim index root steps at) s h = h index
tries_of c i p turns last (Releases key) (Protect aim index root steps at) s h = h index
tries_of c i p turns last why base s h = tt

phase_asks : (c : Config) (layout : Layout) (i : ℕ) (p : Past) (turns : ℕ → ℕ) (all last found : ℕ) (post : Post) (phase : Phase) → Stand c layout i p turns all last found post phase → First (λ post told. Asks c i told p) phase (counted post) found
phase_asks c layout i p turns all last found post Idle s = tt
phase_asks c layout i p turns all last found post (Runs why base) s =
    let r = s.fits in
    base_asks c i p layout.config.buckets last why base (counted post) found
    (record {
      suited = r.suited;
      shape = r.shape;
      apart = s.apart why base refl;
      shown = s.shown;
      tried = tries_of c i p turns last why base r.suited s.tried;
      moves = λ at e. move_course all why base at (tally_of c.every i p).course e r.suited s.course;
    })
phase_asks c layout i p turns all last found post (Scans later (ReadGuard number)) s =
    reads_are (λ (event : Event). Asks c i (event ∷ []) p) (publishes_rows post.layout.config.scheme) (guard_at post.layout.config number) found (λ span. (refl, tt)) (λ slot. (refl, tt))
phase_asks c layout i p turns all last found post (Scans later (GiveBack place slot)) s = (refl, tt)
phase_asks c layout i p turns all last found post (Works work) s = work_asks c i p work (counted post) s.shown

-- along a history
record Keeps (layout : Layout) (made : Made) (h : schedule.History) : Type 0 where
  lasts : Lasts layout made h
  scans : scans.Keeps layout made
  law : Each (asks_ok layout.config) (record_of h)

step_asks : (layout : Layout) (made : Made) (h : schedule.History) (i : ℕ) → Around made h → i < made.world.layout.config.seats → Keeps layout made h → Asks layout.config i (told_in made.world i) (record_of h)
step_asks layout made h i a b g =
    let w : World = made.world in
    let p : Past = record_of h in
    let k = a.known.known in
    let f = k.seats.fits i in
    let l = g.lasts in
    let o = l.owes.seats i in
    let s = g.scans in
    let r = s.seats i in
    let t : (j : ℕ) → phase_tried layout.config (turns_since i j h) (w.seat i).phase j (tried_of i j p) (last_of i p) ≡ true =
    λ j. subst (λ (table : Layout). phase_tried table.config (turns_since i j h) (w.seat i).phase j (tried_of i j p) (last_of i p) ≡ true) l.counts.table (l.tried i j) in
    let y : courses.PhaseFits (guards layout.config) (w.seat i).phase (tally_of layout.config.every i p).course =
    subst (λ (q : Past). courses.PhaseFits (guards layout.config) (w.seat i).phase (tally_of layout.config.every i q).course) (sym a.tells) r.fits in
    step_goes (λ post told. Asks layout.config i told p) (asks_closed layout.config i p) (w.seat i).phase (counted (w.seat i).post) (offered w i).desk (finds w i)
    (phase_asks layout.config w.layout i p (λ j. turns_since i j h) (guards layout.config) (last_of i p) (finds w i) (w.seat i).post (w.seat i).phase
    (record {
      fits = f.phase;
      apart = λ why base e. base_apart w i a.known why base b e;
      shown = o.shown;
      tried = t;
      course = y;
    }))

kept : (layout : Layout) → is_wfe layout.config.scheme ≡ true → Kept (Keeps layout)
kept layout f = record {
  begins = λ made h i call a b y m g. record {
    lasts = underway.begin_kept layout made h i call a y g.lasts;
    scans = scans.begin_keeps layout made i call y m g.scans;
    law = (refl, g.law);
  };
  steps = λ made h i a b y g. record {
    lasts = underway.step_kept layout made h i f a b y g.lasts;
    scans = scans.step_keeps layout made i b y g.scans;
    law = told_each layout.config i (told_in made.world i) (record_of h) (step_asks layout made h i a b g) g.law;
  };
}

each_asks : (layout : Layout) (items : List Item) → is_valid layout ≡ true → is_wfe layout.config.scheme ≡ true → EachEntry (asks_ok layout.config) (histories.record_of layout items)
each_asks layout items d f =
    let g = history_keeps layout (Keeps layout) (kept layout f) d items (record { lasts = underway.first_kept layout f; scans = scans.first_keeps layout d; law = tt }) in
    let c : IsCounted layout items = histories_count layout items d in
    entries_of_each (asks_ok layout.config) (histories.record_of layout items) (subst (λ (p : Past). Each (asks_ok layout.config) p) c.tells g.law)

-- each of the two
shows_part : (c : Config) (i : ℕ) (p : Past) (event : Event) → tally_of c.every i p ≡ plain_tally c.every i p → asks_ok c p i event ≡ true → shows_ok c p i event ≡ true
shows_part c i p (events.Reserve (Helper k) (Some span)) e h = subst (λ (t : Tally). (may_move t.course || failed_once c.tries i p) ≡ true) e h
shows_part c i p (events.Reserve (Helper k) None) e h = refl
shows_part c i p (events.Reserve (Index k j) span) e h = refl
shows_part c i p (events.Reserve (Whole k) span) e h = refl
shows_part c i p event e h = refl

takes_part : (c : Config) (i : ℕ) (p : Past) (event : Event) → asks_ok c p i event ≡ true → takes_ok c.tries p i event ≡ true
takes_part c i p (events.Reserve (Index k j) span) h = h
takes_part c i p (events.Reserve (Helper k) span) h = refl
takes_part c i p (events.Reserve (Whole k) span) h = refl
takes_part c i p event h = refl

pub records_show_late : RecordsShowLate
records_show_late layout items d f before i event later cut =
    let c = records_count_plainly layout items d in
    shows_part layout.config i before event (c.tallies i before (record { seat = i; event = event } ∷ later) cut) (each_asks layout items d f before i event later cut)

pub records_take_late : RecordsTakeLate
records_take_late layout items d f before i event later cut = takes_part layout.config i before event (each_asks layout items d f before i event later cut)
