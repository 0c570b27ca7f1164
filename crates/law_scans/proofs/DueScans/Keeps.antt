-- The record of each history keeps the laws on which calls scan and which move the clock.
use Rattle.std.proofs.Common.{ℕ, ◌≡◌, ◌<◌, Bool, true, false, List, [], ◌∷◌, ◌++◌, refl, sym, ap, ◌∙◌, subst, arith}
use Rattle.std.proofs.lemmas.Bool.Decides.{nat_tests}
use Rattle.std.specs.Prelude.{◌==◌}
use Rattle.law_reuse.specs.laws.words.Place.{is_valid}
use Rattle.law_reuse.specs.laws.words.declared.layout.Layout.{Layout}
use Rattle.law_reuse.specs.laws.defs.declared.call.Call.{Call}
use Rattle.law_reuse.specs.laws.defs.declared.event.Event.{Event}
use Rattle.law_reuse.specs.laws.defs.declared.event.Event.TheVariants as events
use Rattle.law_reuse.specs.laws.defs.declared.lifetime.Lifetime.{Lifetime}
use Rattle.law_reuse.specs.inv.model.declared.post.Post.{Post}
use Rattle.law_reuse.specs.inv.model.Calls.{Phase, Idle, Runs, Scans, Works, CallTurn, CallOutcome, GoesOn, Answers}
use Rattle.law_reuse.specs.inv.model.Guards.{guards}
use Rattle.law_reuse.specs.inv.model.Locals.{Local, begun, begun_post, told_end, turn}
use Rattle.law_reuse.specs.inv.model.Posts.{counted}
use Rattle.law_reuse.specs.inv.model.World.{World, begin, finds, is_busy, offered, step, told_in, may_start, list_in}
use Rattle.law_reuse.proofs.laws.records.defs.Facts.{both, first_of, rest_of}
use Rattle.law_reuse.proofs.inv.covers.Held.{stepped_phase, stepped_post}
use Rattle.law_reuse.specs.inv.shapes.Frame.{phase_left}
use Rattle.law_reuse.specs.inv.shapes.Seats.{scan_fits, PhaseFits as Shapes}
use Rattle.law_reuse.proofs.shapes.Frame.{seat_stays, begin_stays, begin_begins}
use Rattle.law_reuse.specs.inv.requests.Views.{View as Asked}
use Rattle.law_reuse.proofs.inv.requests.Kept.{requests_begin, requests_start}
use Rattle.law_reuse.specs.inv.rows.Agree.{first_rows, rows_after}
use Rattle.law_reuse.specs.inv.rows.Chain.{first_line, line_after}
use Rattle.law_reuse.specs.inv.rows.Hands.{is_right}
use Rattle.law_reuse.specs.inv.rows.Queue.{Line}
use Rattle.law_reuse.specs.inv.rows.Rows.{View}
use Rattle.law_reuse.specs.laws.records.Record.{Past, Each, EachEntry, tells_of}
use Rattle.law_reuse.specs.laws.records.Record.Past.{Then}
use Rattle.law_reuse.proofs.laws.records.Entries.{entries_of_each}
use Rattle.law_reuse.specs.history.History.{Item, Begins, Steps, Made, done, made_of, first_made, record_of}
use Rattle.law_reuse.proofs.history.Along.{Steady, items_keep}
use Rattle.law_reuse.specs.inv.Known.{Known}
use Rattle.law_reuse.proofs.inv.Inv.Begun.{known_start, known_begin}
use Rattle.law_reuse.proofs.inv.Inv.Kept.{known_kept, asked_next}
use Rattle.law_reuse.proofs.laws.Along.{along}
use Rattle.law_reuse.proofs.history.AllOf.{all_of}
use Rattle.law_reuse.proofs.AnswersTold.Answering as answering
use Rattle.law_reuse.proofs.AnswersTold.Answering.{owes_of}
use Rattle.law_reuse.proofs.AnswersTold.Owed.{is_open, owed, Owes, append_none}
use Rattle.law_scans.proofs.Placing.Sums.{along_both}
use Rattle.law_reuse.proofs.laws.Tells.{AllRight, each_tells, seen_own, seen_other, seen_tells, seen_stays}
use Rattle.law_reuse.specs.laws.HistoryScans.{Course, Tally, first_course, no_tally, is_settled, scan_right}
use Rattle.law_scans.specs.Scans.{tally_by}
use Rattle.law_scans.specs.Scans.{tally_of}
use Rattle.law_reuse.specs.laws.HistoryEras.{move_right}
use Rattle.law_scans.specs.Records.{RecordsScanWhereDue, RecordsMoveWhereDue}
use Rattle.law_scans.proofs.DueScans.Courses.{course_right, PhaseFits, OutFits, Lands}
use Rattle.law_scans.proofs.DueScans.Lands.{PhaseRight, turn_lands, first_fits}
use Rattle.law_scans.proofs.DueScans.Still.{is_still, Begins as Starts, front, counts, told_begins}
use Rattle.law_scans.proofs.Placing.Keeps.{right_both}

-- events that change no tally
still_same : (every : ℕ) (event : Event) (x : Tally) → is_still event ≡ true → tally_by every event x ≡ x
still_same every (events.Begin call) x h = absurd (cc)
still_same every (events.Era era) x h = absurd (cc)
still_same every (events.Read guard span) x h = absurd (cc)
still_same every (events.Saw guard slot) x h = absurd (cc)
still_same every (events.Give slot birth) x h = absurd (cc)
still_same every (events.Retire slot birth retire) x h = absurd (cc)
still_same every event x h = refl

still_along : (every : ℕ) (told : List Event) (x : Tally) → all_of is_still told ≡ true → along (tally_by every) told x ≡ x
still_along every [] x h = refl
still_along every (event ∷ told) x h =
    ap (along (tally_by every) told) (still_same every event x (first_of (is_still event) (all_of is_still told) h)) ∙ still_along every told x (rest_of (is_still event) (all_of is_still told) h)

-- they are right, an end where no scan is left undone
open_right : (all : ℕ) (event : Event) (x : Tally) → is_still event ≡ true → is_open event ≡ true → course_right all event x ≡ true
open_right all (events.Era era) x h o = absurd (cc)
open_right all (events.Read guard span) x h o = absurd (cc)
open_right all (events.Saw guard slot) x h o = absurd (cc)
open_right all (events.Give slot birth) x h o = absurd (cc)
open_right all (events.Retire slot birth retire) x h o = absurd (cc)
open_right all (events.End steps answer) x h o = absurd (cc)
open_right all event x h o = refl

settled_right : (all : ℕ) (event : Event) (x : Tally) → is_still event ≡ true → is_settled all x.course ≡ true → course_right all event x ≡ true
settled_right all (events.Era era) x h o = absurd (cc)
settled_right all (events.Read guard span) x h o = absurd (cc)
settled_right all (events.Saw guard slot) x h o = absurd (cc)
settled_right all (events.Give slot birth) x h o = absurd (cc)
settled_right all (events.Retire slot birth retire) x h o = absurd (cc)
settled_right all (events.End steps answer) x h o = both (is_settled all x.course) true o refl
settled_right all event x h o = refl

each_open : (every all : ℕ) (told : List Event) (x : Tally) → all_of is_still told ≡ true → all_of is_open told ≡ true → AllRight (tally_by every) (course_right all) told x
each_open every all [] x h o = tt
each_open every all (event ∷ told) x h o =
    let s : is_still event ≡ true = first_of (is_still event) (all_of is_still told) h in
    (open_right all event x s (first_of (is_open event) (all_of is_open told) o), each_open every all told (tally_by every event x) (rest_of (is_still event) (all_of is_still told) h) (rest_of (is_open event) (all_of is_open told) o))

each_settled : (every all : ℕ) (told : List Event) (x : Tally) → all_of is_still told ≡ true → is_settled all x.course ≡ true → AllRight (tally_by every) (course_right all) told x
each_settled every all [] x h o = tt
each_settled every all (event ∷ told) x h o =
    let s : is_still event ≡ true = first_of (is_still event) (all_of is_still told) h in
    (settled_right all event x s o, each_settled every all told (tally_by every event x) (rest_of (is_still event) (all_of is_still told) h) (ap (λ (t : Tally). is_settled all t.course) (still_same every event x s) ∙ o))

rest_all : (f : Event → Bool) (xs ys : List Event) → all_of f (xs ++ ys) ≡ true → all_of f ys ≡ true
rest_all f [] ys h = h
rest_all f (x ∷ xs) ys h = rest_all f xs ys (rest_of (f x) (all_of f (xs ++ ys)) h)

-- all that a step tells
told_right : (every all : ℕ) (x : Tally) (phase : Phase) (first told : List Event) (n : ℕ) (post : Post) (outcome : CallOutcome) → Starts first n post (told ++ told_end post outcome) → all_of is_open told ≡ true → Lands every all x phase first outcome
    → AllRight (tally_by every) (course_right all) (told ++ told_end post outcome) x
told_right every all x phase first told n post outcome s o l =
    subst (λ (es : List Event). AllRight (tally_by every) (course_right all) es x) (sym s.is)
    (right_both (tally_by every) (course_right all) first s.rest x l.right (rest_right outcome l.fits s.rest s.still s.is))
  where
    rest_right : (outcome : CallOutcome) → OutFits all outcome (along (tally_by every) first x).course → (rest : List Event) → all_of is_still rest ≡ true → told ++ told_end post outcome ≡ first ++ rest → AllRight (tally_by every) (course_right all) rest (along (tally_by every) first x)
    rest_right (GoesOn phase) f rest h e =
        each_open every all rest (along (tally_by every) first x) h (rest_all is_open first rest (subst (λ (es : List Event). all_of is_open es ≡ true) (sym (append_none told) ∙ e) o))
    rest_right (Answers answer) f rest h e = each_settled every all rest (along (tally_by every) first x) h f

-- a seat's tally fits where it stands
pub record SeatFits (every all : ℕ) (phase : Phase) (post : Post) (x : Tally) : Type 0 where
  pub retired : x.retired ≡ post.retired
  pub fits : PhaseFits all phase x.course

left_fits : (all : ℕ) (outcome : CallOutcome) (c : Course) → OutFits all outcome c → PhaseFits all (phase_left outcome) c
left_fits all (GoesOn phase) c f = f
left_fits all (Answers answer) c f = tt

pub phase_right : (layout : Layout) (phase : Phase) (post : Post) (list : List Lifetime) → post.layout ≡ layout → Shapes layout post phase → is_right phase list ≡ true → PhaseRight phase (counted post)
phase_right layout Idle post list e s r = tt
phase_right layout (Runs why base) post list e s r = (s.suited, r)
phase_right layout (Scans later at) post list e s r = subst (λ (x : Layout). scan_fits x.config at ≡ true) (sym e) s
phase_right layout (Works work) post list e s r = tt

-- what a history keeps
pub record Keeps (layout : Layout) (made : Made) : Type 0 where
  pub answers : answering.Keeps layout.config.buckets made
  pub table : made.world.layout ≡ layout
  pub rows : View
  pub line : Line
  pub asked : Asked
  pub known : Known made.world rows line asked
  pub seats : (k : ℕ) → SeatFits layout.config.every (guards layout.config) (made.world.seat k).phase (made.world.seat k).post (tally_of layout.config.every k made.past)
  pub law : Each (λ q k event. course_right (guards layout.config) event (tally_of layout.config.every k q)) made.past

abbrev TurnLands : Layout → World → ℕ → Tally → Type 0
TurnLands layout w i x = Lands layout.config.every (guards layout.config) x (w.seat i).phase (front (w.seat i).phase (counted (w.seat i).post) (finds w i)) (turn (offered w i) (finds w i)).outcome

own_lands : (layout : Layout) (made : Made) (i : ℕ) (k : Keeps layout made) → TurnLands layout made.world i (tally_of layout.config.every i made.past)
own_lands layout made i k =
    let w : World = made.world in
    let own : Local = offered w i in
    let x : Tally = tally_of layout.config.every i made.past in
    let a : own.post.layout ≡ layout = (k.known.seats.fits i).post.layout ∙ k.table in
    let s = k.seats i in
    let r : PhaseRight own.phase (counted own.post) = phase_right w.layout own.phase own.post (list_in w i) (k.known.seats.fits i).post.layout (k.known.seats.fits i).phase (k.known.whole.both.rows.plays i).right in
    let f : PhaseFits (guards own.post.layout.config) own.phase x.course = subst (λ (table : Layout). PhaseFits (guards table.config) own.phase x.course) (sym a) s.fits in
    subst (λ (table : Layout). Lands table.config.every (guards table.config) x own.phase (front own.phase (counted own.post) (finds w i)) (turn own (finds w i)).outcome) a
    (turn_lands x own.phase (counted own.post) own.desk (finds w i) r s.retired f)

pub told_starts : (w : World) (i : ℕ) → Starts (front (w.seat i).phase (counted (w.seat i).post) (finds w i)) (counts (w.seat i).phase (w.seat i).post.retired) (turn (offered w i) (finds w i)).post (told_in w i)
told_starts w i = told_begins (w.seat i).phase (counted (w.seat i).post) (offered w i).desk (finds w i)

-- the tally after a step
step_tally : (every : ℕ) (w : World) (i : ℕ) (p : Past) → tally_of every i (tells_of p i (told_in w i)) ≡ along (tally_by every) (front (w.seat i).phase (counted (w.seat i).post) (finds w i)) (tally_of every i p)
step_tally every w i p =
    let s = told_starts w i in
    let first : List Event = front (w.seat i).phase (counted (w.seat i).post) (finds w i) in
    seen_tells (tally_by every) no_tally i (told_in w i) p
    ∙ ap (λ (es : List Event). along (tally_by every) es (tally_of every i p)) s.is
    ∙ along_both (tally_by every) first s.rest (tally_of every i p)
    ∙ still_along every s.rest (along (tally_by every) first (tally_of every i p)) s.still

counts_same : (phase : Phase) (n m : ℕ) → n ≡ m → counts phase n ≡ counts phase m
counts_same phase n m e = ap (counts phase) e

own_fits : (layout : Layout) (made : Made) (i : ℕ) (k : Keeps layout made) → SeatFits layout.config.every (guards layout.config) ((step made.world i).seat i).phase ((step made.world i).seat i).post (tally_of layout.config.every i (tells_of made.past i (told_in made.world i)))
own_fits layout made i k =
    let w : World = made.world in
    let l = own_lands layout made i k in
    let s = told_starts w i in
    let t : CallTurn = turn (offered w i) (finds w i) in
    let e = step_tally layout.config.every w i made.past in
    let r = k.seats i in
    record {
      retired = ap (λ (x : Tally). x.retired) e ∙ l.count ∙ counts_same (w.seat i).phase (tally_of layout.config.every i made.past).retired (w.seat i).post.retired r.retired ∙ sym s.count ∙ sym (ap (λ (x : Post). x.retired) (stepped_post w i));
      fits = subst (λ (x : Tally). PhaseFits (guards layout.config) ((step w i).seat i).phase x.course) (sym e)
          (subst (λ (phase : Phase). PhaseFits (guards layout.config) phase (along (tally_by layout.config.every) (front (w.seat i).phase (counted (w.seat i).post) (finds w i)) (tally_of layout.config.every i made.past)).course) (sym (stepped_phase w i))
          (left_fits (guards layout.config) t.outcome _ l.fits));
    }

step_fits : (layout : Layout) (made : Made) (i : ℕ) (k : Keeps layout made) (m : ℕ) (same : Bool) → (m == i) ≡ same → SeatFits layout.config.every (guards layout.config) ((step made.world i).seat m).phase ((step made.world i).seat m).post (tally_of layout.config.every m (tells_of made.past i (told_in made.world i)))
step_fits layout made i k m true e =
    let q : i ≡ m = grind (arith, nat_tests) in
    subst (λ (j : ℕ). SeatFits layout.config.every (guards layout.config) ((step made.world i).seat j).phase ((step made.world i).seat j).post (tally_of layout.config.every j (tells_of made.past i (told_in made.world i)))) q (own_fits layout made i k)
step_fits layout made i k m false e =
    subst (λ (l : Local). SeatFits layout.config.every (guards layout.config) l.phase l.post (tally_of layout.config.every m (tells_of made.past i (told_in made.world i)))) (sym (seat_stays made.world i m e))
    (subst (λ (x : Tally). SeatFits layout.config.every (guards layout.config) (made.world.seat m).phase (made.world.seat m).post x) (sym (seen_stays (tally_by layout.config.every) no_tally m i (told_in made.world i) made.past e)) (k.seats m))

step_law : (layout : Layout) (made : Made) (i : ℕ) → is_busy made.world i ≡ true → (k : Keeps layout made) → Each (λ q m event. course_right (guards layout.config) event (tally_of layout.config.every m q)) (tells_of made.past i (told_in made.world i))
step_law layout made i y k =
    let w : World = made.world in
    let n : ℕ = layout.config.buckets in
    let t : CallTurn = turn (offered w i) (finds w i) in
    let o : Owes n (w.seat i).call (owed n (w.seat i).call (w.seat i).phase) t = owes_of n w i k.answers.table k.answers.known ((k.answers.seats i).serves y) in
    each_tells (tally_by layout.config.every) no_tally (course_right (guards layout.config)) i (told_in w i) made.past
    (told_right layout.config.every (guards layout.config) (tally_of layout.config.every i made.past) (w.seat i).phase (front (w.seat i).phase (counted (w.seat i).post) (finds w i)) t.told _ t.post t.outcome (told_starts w i) o.told.goes (own_lands layout made i k))
    k.law

pub step_keeps : (layout : Layout) (made : Made) (i : ℕ) → i < made.world.layout.config.seats → is_busy made.world i ≡ true → Keeps layout made → Keeps layout (done made (Steps i))
step_keeps layout made i b y g =
    let w : World = made.world in
    let q = asked_next w i g.rows g.line g.asked b g.known in
    record {
      answers = answering.step_keeps layout.config.buckets made i b y g.answers;
      table = g.table;
      rows = rows_after w i g.rows;
      line = line_after w i g.line;
      asked = q.0;
      known = known_kept w i g.rows g.line g.asked q.0 b g.known q.1.facts q.1.deal;
      seats = λ m. step_fits layout made i g m (m == i) refl;
      law = step_law layout made i y g;
    }

-- a call begins
begin_fits : (every all : ℕ) (w : World) (i k : ℕ) (call : Call) (p : Past) (same : Bool) → (k == i) ≡ same → ((m : ℕ) → SeatFits every all (w.seat m).phase (w.seat m).post (tally_of every m p)) → SeatFits every all ((begin w i call).seat k).phase ((begin w i call).seat k).post (tally_of every k (Then p i (events.Begin call)))
begin_fits every all w i k call p true e g =
    let q : i ≡ k = grind (arith, nat_tests) in
    let r = g i in
    let x : Tally = record { retired = (tally_of every i p).retired; course = first_course call } in
    let s : SeatFits every all (begun (w.seat i) call).phase (begun (w.seat i) call).post x = record { retired = r.retired; fits = first_fits all call (begun_post (w.seat i).post) } in
    subst (λ (j : ℕ). SeatFits every all ((begin w i call).seat j).phase ((begin w i call).seat j).post (tally_of every j (Then p i (events.Begin call)))) q
    (subst (λ (l : Local). SeatFits every all l.phase l.post (tally_of every i (Then p i (events.Begin call)))) (sym (begin_begins w i call))
    (subst (λ (t : Tally). SeatFits every all (begun (w.seat i) call).phase (begun (w.seat i) call).post t) (sym (seen_own (tally_by every) no_tally i p (events.Begin call))) s))
begin_fits every all w i k call p false e g =
    subst (λ (l : Local). SeatFits every all l.phase l.post (tally_of every k (Then p i (events.Begin call)))) (sym (begin_stays w i k call e))
    (subst (λ (x : Tally). SeatFits every all (w.seat k).phase (w.seat k).post x) (sym (seen_other (tally_by every) no_tally k i p (events.Begin call) e)) (g k))

pub begin_keeps : (layout : Layout) (made : Made) (i : ℕ) (call : Call) → is_busy made.world i ≡ false → may_start made.world i call ≡ true → Keeps layout made → Keeps layout (done made (Begins i call))
begin_keeps layout made i call f m g =
    let w : World = made.world in
    let k = g.known in
    let q = requests_begin w i call g.asked k.valid f k.seats k.requests in
    record {
      answers = answering.begin_keeps layout.config.buckets made i call f m g.answers;
      table = g.table;
      rows = g.rows;
      line = g.line;
      asked = q.0;
      known = known_begin w i call g.rows g.line g.asked q.0 f m k q.1.facts q.1.deal;
      seats = λ j. begin_fits layout.config.every (guards layout.config) w i j call made.past (j == i) refl g.seats;
      law = (refl, g.law);
    }

steady : (layout : Layout) → Steady (Keeps layout)
steady layout = record { begins = λ made i call b y m g. begin_keeps layout made i call y m g; steps = λ made i b y g. step_keeps layout made i b y g }

pub first_keeps : (layout : Layout) → is_valid layout ≡ true → Keeps layout (first_made layout)
first_keeps layout d =
    let q = requests_start layout d in
    record {
      answers = answering.first_keeps layout d;
      table = refl;
      rows = first_rows layout;
      line = first_line layout;
      asked = q.0;
      known = known_start layout q.0 d q.1.facts q.1.deal;
      seats = λ k. record { retired = refl; fits = tt };
      law = tt;
    }

history_keeps : (layout : Layout) (items : List Item) → is_valid layout ≡ true → Keeps layout (made_of layout items)
history_keeps layout items d = items_keep (Keeps layout) (steady layout) items (first_made layout) (first_keeps layout d)

each_of : (layout : Layout) (items : List Item) → is_valid layout ≡ true → EachEntry (λ q m event. course_right (guards layout.config) event (tally_of layout.config.every m q)) (record_of layout items)
each_of layout items d = let g = history_keeps layout items d in entries_of_each (λ q m event. course_right (guards layout.config) event (tally_of layout.config.every m q)) (record_of layout items) g.law

pub records_scan_where_due : RecordsScanWhereDue
records_scan_where_due layout items d before i event later e =
    let t : Tally = tally_of layout.config.every i before in
    first_of (scan_right (guards layout.config) event t.course) (move_right event t.course) (each_of layout items d before i event later e)

pub records_move_where_due : RecordsMoveWhereDue
records_move_where_due layout items d before i event later e =
    let t : Tally = tally_of layout.config.every i before in
    rest_of (scan_right (guards layout.config) event t.course) (move_right event t.course) (each_of layout items d before i event later e)
