-- The record of each history keeps the law of reasons.
use Rattle.std.proofs.Common.{ℕ, ◌≡◌, ◌≤◌, ◌<◌, Bool, true, false, List, [], ◌∷◌, ◌++◌, length, Option, Some, refl, sym, ap, ◌∙◌, subst, arith}
use Rattle.std.proofs.lemmas.Bool.Decides.{nat_tests}
use Rattle.std.specs.Prelude.{◌==◌, ◌||◌, nat_lt}
use Rattle.law_scans.specs.inv.model.words.Place.{is_valid}
use Rattle.law_scans.specs.inv.model.words.declared.config.Config.{Config}
use Rattle.law_scans.specs.inv.model.words.declared.layout.Layout.{Layout}
use Rattle.law_scans.specs.inv.model.defs.declared.call.Call.{Call}
use Rattle.law_scans.specs.inv.model.defs.declared.event.Event.{Event}
use Rattle.law_scans.specs.inv.model.defs.declared.event.Event.TheVariants as events
use Rattle.law_scans.specs.inv.model.declared.post.Post.{Post}
use Rattle.law_scans.specs.inv.model.Desks.{Desk, noting}
use Rattle.law_scans.specs.inv.model.Book.{booked_all}
use Rattle.law_scans.specs.inv.model.Calls.{CallTurn, CallOutcome, GoesOn, Answers}
use Rattle.law_scans.specs.inv.model.Locals.{Local, begun_post, rounds_told, settled_by, told_by, told_end, turn}
use Rattle.law_scans.specs.inv.model.Posts.{stands}
use Rattle.law_scans.specs.inv.model.Rounds.{scheme_of}
use Rattle.law_scans.specs.inv.model.words.Schemes.{publishes_rows}
use Rattle.law_scans.specs.inv.model.Steps.{first_phase}
use Rattle.law_scans.specs.inv.model.World.{World, begin, finds, is_busy, offered, start, step, told_in, may_start}
use Rattle.law_scans.proofs.inv.model.Facts.{first_of, rest_of}
use Rattle.law_scans.proofs.inv.covers.Begun.{first_begins}
use Rattle.law_scans.proofs.inv.covers.Held.{stepped_post}
use Rattle.law_scans.proofs.reuse.shapes.Frame.{begin_begins, begin_stays, seat_stays, seat_steps}
use Rattle.law_scans.specs.inv.shapes.Frame.{phase_left}
use Rattle.law_scans.proofs.inv.Contents.Items.Gives.{items_count}
use Rattle.law_scans.proofs.inv.requests.Kept.{requests_start, requests_begin}
use Rattle.law_scans.specs.inv.requests.NextDeals.{next_deals}
use Rattle.law_scans.specs.inv.requests.Standing.{Requests}
use Rattle.law_scans.specs.inv.requests.Views.{Deal, View as Asked}
use Rattle.law_scans.specs.inv.requests.Views.Deal.{Quiet}
use Rattle.law_scans.specs.inv.rows.Agree.{first_rows, rows_after}
use Rattle.law_scans.specs.inv.rows.Chain.{first_line, line_after}
use Rattle.law_scans.specs.inv.rows.Queue.{Line}
use Rattle.law_scans.specs.inv.rows.Rows.{View}
use Rattle.law_scans.proofs.inv.history.Entries.{entries_of_each}
use Rattle.law_scans.specs.inv.history.Record.{Past, Each, tells_of}
use Rattle.law_scans.specs.inv.history.Record.Past.{Start, Then}
use Rattle.law_scans.specs.inv.history.History.{Item, Begins, Steps, Made, fits, done_if, did, done, first_made, made_from, made_of, record_of}
use Rattle.law_scans.proofs.inv.history.Along.{begins_right, begins_within, low_seat, made_snoc}
use Rattle.law_scans.proofs.inv.Inv.Begun.{known_start, known_begin}
use Rattle.law_scans.proofs.inv.Inv.Kept.{known_kept, asked_next}
use Rattle.law_scans.proofs.inv.Inv.Tells.{inv_tells}
use Rattle.law_scans.proofs.reuse.Reuse.Keeps.{record_stands}
use Rattle.law_scans.specs.laws.StateAt.{times, stood_at, began_of, told_of}
use Rattle.law_scans.specs.laws.StructuresAt.{queued_of, taken_of, all_taken, was_empty}
use Rattle.law_scans.proofs.reuse.Lawful.Current.{base_begun, current_start, current_begin, current_kept, current_same}
use Rattle.law_scans.proofs.inv.history.AllOf.{all_of}
use Rattle.law_scans.proofs.inv.Machines.{is_within, within_of}
use Rattle.law_scans.proofs.reuse.Lawful.Maps.{base_of, begin_base, told_base, told_changes}
use Rattle.law_scans.proofs.reuse.Lawful.Queues.{Agrees, told_agrees}
use Rattle.law_scans.proofs.reuse.AnswersTold.Answering as answering
use Rattle.law_scans.proofs.reuse.AnswersTold.Answering.{first_all, owes_of, began_along}
use Rattle.law_scans.proofs.reuse.AnswersTold.Owed.{is_open, Owes, owed}
use Rattle.law_scans.proofs.reuse.Leaving.Records.{record_places}
use Rattle.law_scans.specs.reuse.Answers.{PlacesSay}
use Rattle.law_scans.proofs.reuse.BareEnds.{end_stood}
use Rattle.law_scans.specs.laws.HistoryAnswers.{reason, reasons_ok}
use Rattle.law_reasons.specs.Records.{RecordsKeepReasons}
use Rattle.law_reasons.proofs.Reasons.Decides.{Kept, Right, kept_lasts, step_decides}
use Rattle.law_reasons.proofs.Reasons.Deciding.{PhaseKeeps, OutKeeps, keeps_on, first_keeps}
use Rattle.law_reasons.proofs.Reasons.Emptied.{Emptied, emptied_begin, emptied_kept, emptied_start}
use Rattle.law_reasons.proofs.Reasons.Later.{Later, Bounds, later_all, later_same, later_then}
use Rattle.law_reasons.proofs.Reasons.Missing.{is_any, MissesAt, begin_misses, other_misses, start_misses, step_misses}
use Rattle.law_reasons.proofs.Reasons.Reading.{Shown, count_most}
use Rattle.law_reasons.proofs.Reasons.Saying.{PhaseSays, Tells, ends_say, says_lasts, start_says, told_now, turn_says}
use Rattle.law_reasons.proofs.Reasons.Shows.{Shows, begin_shows, first_book_shows, step_shows}
use Rattle.law_scans.proofs.laws.Tells.{tells_both}

-- the law along what a turn tells
open_ok : (c : Config) (i : ℕ) (p : Past) (event : Event) → is_open event ≡ true → reasons_ok c p i event ≡ true
open_ok c i p (events.End steps answer) h = absurd (cc)
open_ok c i p event h = refl

open_each : (c : Config) (i : ℕ) (told : List Event) (p : Past) → all_of is_open told ≡ true → Each (reasons_ok c) p → Each (reasons_ok c) (tells_of p i told)
open_each c i [] p h g = g
open_each c i (event ∷ told) p h g = open_each c i told (Then p i event) (rest_of (is_open event) (all_of is_open told) h) (open_ok c i p event (first_of (is_open event) (all_of is_open told) h), g)

end_each : (c : Config) (i : ℕ) (call : Call) (q : Past) (post : Post) (outcome : CallOutcome) → began_of i q ≡ Some call → OutKeeps (Kept c i q call) (Right c i q call) outcome → Each (reasons_ok c) q → Each (reasons_ok c) (tells_of q i (told_end post outcome))
end_each c i call q post (GoesOn phase) e h g = g
end_each c i call q post (Answers answer) e h g = (subst (λ (x : Option Call). reason c i q x answer ≡ true) (sym e) h, g)

-- an End changes nothing of what stands, and of what was changed and queued
before_stood : (i j : ℕ) (post : Post) (outcome : CallOutcome) (q : Past) → stood_at i j (tells_of q i (told_end post outcome)) ≡ stood_at i j q
before_stood i j post (GoesOn phase) q = refl
before_stood i j post (Answers answer) q = end_stood i j post.steps answer q

before_bounds : (c : Config) (i : ℕ) (post : Post) (outcome : CallOutcome) (q : Past) → Bounds c (tells_of q i (told_end post outcome)) → Bounds c q
before_bounds c i post (GoesOn phase) q h = h
before_bounds c i post (Answers answer) q h = record { versions = h.versions; numbers = h.numbers }

-- what stays decided and said after the End
left_keeps : (c : Config) (i : ℕ) (call : Call) (q : Past) (post : Post) (outcome : CallOutcome) → OutKeeps (Kept c i q call) (Right c i q call) outcome → PhaseKeeps (Kept c i (tells_of q i (told_end post outcome)) call) (phase_left outcome)
left_keeps c i call q post (GoesOn phase) h = h
left_keeps c i call q post (Answers answer) h = tt

left_says : (i : ℕ) (q : Past) (post : Post) (outcome : CallOutcome) → PhaseSays i (phase_left outcome) q → PhaseSays i (phase_left outcome) (tells_of q i (told_end post outcome))
left_says i q post (GoesOn phase) h = h
left_says i q post (Answers answer) h = tt

now_empty : (k : ℕ) (p : Past) → all_taken p ≡ true → was_empty k p ≡ true
now_empty k Start h = h
now_empty k (Then p i event) h = by (all_taken (Then p i event)) _ h
  where
    by : (now old : Bool) → now ≡ true → (now || old) ≡ true
    by true old e = refl
    by false old e = absurd (cc)

-- what a history keeps of each seat
record Seat (c : Config) (k : ℕ) (l : Local) (p : Past) : Type 0 where
  decided : PhaseKeeps (Kept c k p l.call) l.phase
  says : PhaseSays k l.phase p

record Keeps (layout : Layout) (made : Made) : Type 0 where
  table : made.world.layout ≡ layout
  answers : answering.Keeps made.world.layout.config.buckets made
  rows : View
  line : Line
  asked : Asked
  shown : Shown made.world rows line asked made.past
  agrees : Agrees made.world.book made.past
  shows : Shows made.world.book made.past
  misses : (k : ℕ) → MissesAt (made.world.seat k) (times k is_any made.past)
  emptied : Emptied (λ k. was_empty k made.past) made.world asked
  seats : (k : ℕ) → Seat made.world.layout.config k (made.world.seat k) made.past
  law : Each (reasons_ok made.world.layout.config) made.past

bounds_of : (w : World) (v : View) (l : Line) (z : Asked) (p : Past) → Shown w v l z p → Bounds w.layout.config p
bounds_of w v l z p h = record {
  versions = λ b. count_most w v l z p b h;
  numbers = subst (λ (all : List ℕ). length all ≤ w.layout.config.last_version) (sym h.queued) (items_count w v l h.known.whole.both h.known.items).queued;
}

-- a step
settled_seat : (c : Config) (k : ℕ) (l : Local) (post : Post) (desk : Desk) (rounds : ℕ) (outcome : CallOutcome) (p : Past) → PhaseKeeps (Kept c k p l.call) (phase_left outcome) → PhaseSays k (phase_left outcome) p → Seat c k (settled_by l post desk rounds outcome) p
settled_seat c k l post desk rounds (GoesOn phase) p h s = record { decided = h; says = s }
settled_seat c k l post desk rounds (Answers answer) p h s = record { decided = tt; says = tt }

-- what a step of seat i leaves decided and said, before its End
record Went (w : World) (i : ℕ) (q : Past) : Type 0 where
  decided : OutKeeps (Kept w.layout.config i q (w.seat i).call) (Right w.layout.config i q (w.seat i).call) (turn (offered w i) (finds w i)).outcome
  says : PhaseSays i (phase_left (turn (offered w i) (finds w i)).outcome) q

went_of : (w : World) (i : ℕ) (v : View) (l : Line) (z : Asked) (p : Past) → i < w.layout.config.seats → is_busy w i ≡ true → Shown w v l z p → answering.Right w.layout.config.buckets (w.seat i) (began_of i p) (told_of i p) → Emptied (λ k. was_empty k p) w z → (w.book.taken ≡ length w.book.queued → was_empty i p ≡ true)
    → Seat w.layout.config i (w.seat i) p → Bounds w.layout.config (tells_of p i (told_in w i)) → ((j : ℕ) → stood_at i j (tells_of p i (told_in w i)) ≡ stands ((step w i).seat i).post j) → Shows w.book p → MissesAt (w.seat i) (times i is_any p) → PlacesSay w.mem p
    → Went w i (tells_of p i (turn (offered w i) (finds w i)).told)
went_of w i v l z p b y h r e em s n stood shows missed placed =
    let t : CallTurn = turn (offered w i) (finds w i) in
    let q : Past = tells_of p i t.told in
    let within : all_of is_within t.told ≡ true = first_all is_within t.told (told_end t.post t.outcome) (within_of w i) in
    let later : Later i p q = later_all i i p p t.told within (later_same i p) in
    let along : tells_of p i (told_by t) ≡ tells_of q i (told_end t.post t.outcome) = tells_both i t.told (told_end t.post t.outcome) p in
    let tells : Tells w i q = λ kind k. told_now i kind p t.told within k in
    let said : PhaseSays i (w.seat i).phase q = says_lasts i (w.seat i).phase p q later s.says in
    record {
      decided = step_decides w i v l z p q
          (record {
            below = b;
            is = refl;
            shown = h;
            later = later;
            bounds = before_bounds w.layout.config i t.post t.outcome q (subst (λ (x : Past). Bounds w.layout.config x) along n);
            serves = r.serves y;
            emptied = e;
            empties = em;
            says = λ why base g. ends_say w i why base q h.known.seats g tells said;
            stood = λ j. sym (before_stood i j t.post t.outcome q) ∙ sym (ap (λ (x : Past). stood_at i j x) along) ∙ stood j ∙ ap (λ (x : Post). stands x j) (stepped_post w i);
            shows = shows;
            missed = missed;
            placed = placed;
            told = r.told y;
          })
          s.decided;
      says = turn_says w i q h.known.seats tells said;
    }

own_seat : (w : World) (i : ℕ) (p : Past) → Went w i (tells_of p i (turn (offered w i) (finds w i)).told) → Seat w.layout.config i ((step w i).seat i) (tells_of p i (told_in w i))
own_seat w i p g =
    let t : CallTurn = turn (offered w i) (finds w i) in
    let q : Past = tells_of p i t.told in
    let along : tells_of p i (told_by t) ≡ tells_of q i (told_end t.post t.outcome) = tells_both i t.told (told_end t.post t.outcome) p in
    subst (λ (x : Local). Seat w.layout.config i x (tells_of p i (told_in w i))) (sym (seat_steps w i))
    (subst (λ (x : Past). Seat w.layout.config i (settled_by (offered w i) t.post (noting t.desk (told_by t)) (rounds_told (publishes_rows (scheme_of t.post)) (w.seat i).rounds (told_by t)) t.outcome) x) (sym along)
    (settled_seat w.layout.config i (offered w i) t.post (noting t.desk (told_by t)) (rounds_told (publishes_rows (scheme_of t.post)) (w.seat i).rounds (told_by t)) t.outcome (tells_of q i (told_end t.post t.outcome))
    (left_keeps w.layout.config i (w.seat i).call q t.post t.outcome g.decided) (left_says i q t.post t.outcome g.says)))

other_seat : (c : Config) (k : ℕ) (l : Local) (p q : Past) → Later k p q → Bounds c q → Seat c k l p → Seat c k l q
other_seat c k l p q h n s = record { decided = keeps_on (Kept c k p l.call) (Kept c k q l.call) l.phase (λ answer g. kept_lasts c k p q l.call answer h n g) s.decided; says = says_lasts k l.phase p q h s.says }

step_seat : (w : World) (i k : ℕ) (p : Past) (same : Bool) → (k == i) ≡ same → Bounds w.layout.config (tells_of p i (told_in w i)) → Went w i (tells_of p i (turn (offered w i) (finds w i)).told) → ((m : ℕ) → Seat w.layout.config m (w.seat m) p) → Seat w.layout.config k ((step w i).seat k) (tells_of p i (told_in w i))
step_seat w i k p true e n g s =
    let one : k ≡ i = grind (arith, nat_tests) in
    subst (λ (m : ℕ). Seat w.layout.config m ((step w i).seat m) (tells_of p i (told_in w i))) (sym one) (own_seat w i p g)
step_seat w i k p false e n g s =
    subst (λ (x : Local). Seat w.layout.config k x (tells_of p i (told_in w i))) (sym (seat_stays w i k e))
    (other_seat w.layout.config k (w.seat k) p (tells_of p i (told_in w i)) (later_all k i p p (told_in w i) (within_of w i) (later_same k p)) n (s k))

step_law : (w : World) (i : ℕ) (p : Past) → began_of i p ≡ Some (w.seat i).call → all_of is_open (turn (offered w i) (finds w i)).told ≡ true → Went w i (tells_of p i (turn (offered w i) (finds w i)).told) → Each (reasons_ok w.layout.config) p → Each (reasons_ok w.layout.config) (tells_of p i (told_in w i))
step_law w i p e o g h =
    let t : CallTurn = turn (offered w i) (finds w i) in
    let q : Past = tells_of p i t.told in
    let within : all_of is_within t.told ≡ true = first_all is_within t.told (told_end t.post t.outcome) (within_of w i) in
    subst (Each (reasons_ok w.layout.config)) (sym (tells_both i t.told (told_end t.post t.outcome) p))
    (end_each w.layout.config i (w.seat i).call q t.post t.outcome (began_along i t.told p within ∙ e) g.decided (open_each w.layout.config i t.told p o h))

step_shown : (w : World) (i : ℕ) (v : View) (l : Line) (z next : Asked) (p : Past) → i < w.layout.config.seats → next.deal ≡ next_deals w i z.deal → Requests (step w i) next → Agrees w.book p → Shown w v l z p
    → Shown (step w i) (rows_after w i v) (line_after w i l) next (tells_of p i (told_in w i))
step_shown w i v l z next p b d f a h =
    let m : Agrees (booked_all w.book (told_in w i)) (tells_of p i (told_in w i)) = told_agrees i (told_in w i) p w.book a in
    record {
      known = known_kept w i v l z next b h.known f d;
      current = current_same (base_of p) (base_of (tells_of p i (told_in w i))) (step w i) next (λ k bucket. told_base k bucket i (told_in w i) p (within_of w i)) (current_kept w i v l z next (base_of p) b h.known d h.current);
      changes = λ bucket. told_changes bucket i (told_in w i) p w.book (h.changes bucket);
      queued = m.queued;
    }

all_taken_by : (w : World) (p : Past) → Agrees w.book p → w.book.taken ≡ length w.book.queued → all_taken p ≡ true
all_taken_by w p a e =
    let same : taken_of p ≡ length (queued_of p) = a.taken ∙ e ∙ ap (λ (all : List ℕ). length all) (sym a.queued) in
    grind (arith, nat_tests)

step_emptied : (w : World) (i : ℕ) (v : View) (l : Line) (z next : Asked) (p : Past) → i < w.layout.config.seats → next.deal ≡ next_deals w i z.deal → Agrees w.book p → Shown w v l z p → Emptied (λ k. was_empty k p) w z → Emptied (λ k. was_empty k (tells_of p i (told_in w i))) (step w i) next
step_emptied w i v l z next p b d a h e =
    let later : (k : ℕ) → Later k p (tells_of p i (told_in w i)) = λ k. later_all k i p p (told_in w i) (within_of w i) (later_same k p) in
    emptied_kept w i v l z next (λ k. was_empty k p) (λ k. was_empty k (tells_of p i (told_in w i))) b h.known d (λ k g. (later k).empty g) (λ k g. (later k).empty (now_empty k p (all_taken_by w p a g))) e

-- what stands at an index by the record of a history stands in the post
abbrev Stood : Made → Type 0
Stood made = (k j : ℕ) → stood_at k j made.past ≡ stands (made.world.seat k).post j

-- a copy that finds nothing has told nothing
step_missed : (w : World) (i k : ℕ) (p : Past) (same : Bool) → (k == i) ≡ same → ((m : ℕ) → MissesAt (w.seat m) (times m is_any p)) → MissesAt ((step w i).seat k) (times k is_any (tells_of p i (told_in w i)))
step_missed w i k p true e h =
    let t : CallTurn = turn (offered w i) (finds w i) in
    let one : k ≡ i = grind (arith, nat_tests) in
    subst (λ (m : ℕ). MissesAt ((step w i).seat m) (times m is_any (tells_of p i (told_in w i)))) (sym one)
    (subst (λ (x : Local). MissesAt x (times i is_any (tells_of p i (told_in w i)))) (sym (seat_steps w i))
    (step_misses (offered w i) t.post (noting t.desk (told_by t)) (rounds_told (publishes_rows (scheme_of t.post)) (w.seat i).rounds (told_by t)) (finds w i) (times i is_any p) (times i is_any (tells_of p i (told_in w i))) (h i)))
step_missed w i k p false e h =
    subst (λ (x : Local). MissesAt x (times k is_any (tells_of p i (told_in w i)))) (sym (seat_stays w i k e)) (other_misses (w.seat k) k i (told_in w i) p e (h k))

begin_missed : (w : World) (i k : ℕ) (call : Call) (p : Past) (same : Bool) → (k == i) ≡ same → ((m : ℕ) → MissesAt (w.seat m) (times m is_any p)) → MissesAt ((begin w i call).seat k) (times k is_any (Then p i (events.Begin call)))
begin_missed w i k call p true e h =
    let one : k ≡ i = grind (arith, nat_tests) in
    subst (λ (m : ℕ). MissesAt ((begin w i call).seat m) (times m is_any (Then p i (events.Begin call)))) (sym one)
    (subst (λ (x : Local). MissesAt x (times i is_any (Then p i (events.Begin call)))) (sym (begin_begins w i call)) (begin_misses (w.seat i) i call p))
begin_missed w i k call p false e h =
    subst (λ (x : Local). MissesAt x (times k is_any (Then p i (events.Begin call)))) (sym (begin_stays w i k call e)) (other_misses (w.seat k) k i (events.Begin call ∷ []) p e (h k))

step_keeps : (layout : Layout) (made : Made) (i : ℕ) → i < made.world.layout.config.seats → is_busy made.world i ≡ true → Stood (done made (Steps i)) → PlacesSay made.world.mem made.past → Keeps layout made → Keeps layout (done made (Steps i))
step_keeps layout made i b y stood placed g =
    let w : World = made.world in
    let p : Past = made.past in
    let n : ℕ = w.layout.config.buckets in
    let next = asked_next w i g.rows g.line g.asked b g.shown.known in
    let shown = step_shown w i g.rows g.line g.asked next.0 p b next.1.deal next.1.facts g.agrees g.shown in
    let bounds : Bounds w.layout.config (tells_of p i (told_in w i)) = bounds_of (step w i) (rows_after w i g.rows) (line_after w i g.line) next.0 (tells_of p i (told_in w i)) shown in
    let r = g.answers.seats i in
    let o : Owes n (w.seat i).call (owed n (w.seat i).call (w.seat i).phase) (turn (offered w i) (finds w i)) = owes_of n w i g.answers.table g.answers.known (r.serves y) in
    let went : Went w i (tells_of p i (turn (offered w i) (finds w i)).told) = went_of w i g.rows g.line g.asked p b y g.shown r g.emptied (λ a. now_empty i p (all_taken_by w p g.agrees a)) (g.seats i) bounds (stood i) g.shows (g.misses i) placed in
    record {
      table = g.table;
      answers = answering.step_keeps n made i b y g.answers;
      rows = rows_after w i g.rows;
      line = line_after w i g.line;
      asked = next.0;
      shown = shown;
      agrees = told_agrees i (told_in w i) p w.book g.agrees;
      shows = step_shows w i p (inv_tells w i b (record { rows = g.rows; line = g.line; asked = g.asked; known = g.shown.known })).map g.shows;
      misses = λ k. step_missed w i k p (k == i) refl g.misses;
      emptied = step_emptied w i g.rows g.line g.asked next.0 p b next.1.deal g.agrees g.shown g.emptied;
      seats = λ k. step_seat w i k p (k == i) refl bounds went g.seats;
      law = step_law w i p (r.began y) o.told.goes went g.law;
    }

-- a call begins
begin_later : (i m : ℕ) (call : Call) (p : Past) → (m == i) ≡ false → Later m p (Then p i (events.Begin call))
begin_later i m call p e = later_then m i p p (events.Begin call) e (later_same m p)

begun_seat : (w : World) (i k : ℕ) (call : Call) (p : Past) (same : Bool) → (k == i) ≡ same → Bounds w.layout.config p → ((m : ℕ) → Seat w.layout.config m (w.seat m) p) → Seat w.layout.config k ((begin w i call).seat k) (Then p i (events.Begin call))
begun_seat w i k call p true e n s =
    let one : k ≡ i = grind (arith, nat_tests) in
    subst (λ (m : ℕ). Seat w.layout.config m ((begin w i call).seat m) (Then p i (events.Begin call))) (sym one)
    (subst (λ (x : Local). Seat w.layout.config i x (Then p i (events.Begin call))) (sym (begin_begins w i call))
    (record {
      decided = first_keeps (Kept w.layout.config i (Then p i (events.Begin call)) call) call (begun_post (w.seat i).post);
      says = start_says i (first_phase call (begun_post (w.seat i).post)) (Then p i (events.Begin call)) (first_begins call (begun_post (w.seat i).post)).starts;
    }))
begun_seat w i k call p false e n s =
    subst (λ (x : Local). Seat w.layout.config k x (Then p i (events.Begin call))) (sym (begin_stays w i k call e))
    (other_seat w.layout.config k (w.seat k) p (Then p i (events.Begin call)) (begin_later i k call p e) (record { versions = n.versions; numbers = n.numbers }) (s k))

begin_keeps : (layout : Layout) (made : Made) (i : ℕ) (call : Call) → is_busy made.world i ≡ false → may_start made.world i call ≡ true → Keeps layout made → Keeps layout (done made (Begins i call))
begin_keeps layout made i call f m g =
    let w : World = made.world in
    let p : Past = made.past in
    let k = g.shown.known in
    let next = requests_begin w i call g.asked k.valid f k.seats k.requests in
    record {
      table = g.table;
      answers = answering.begin_keeps w.layout.config.buckets made i call f m g.answers;
      rows = g.rows;
      line = g.line;
      asked = next.0;
      shown = record {
        known = known_begin w i call g.rows g.line g.asked next.0 f m k next.1.facts next.1.deal;
        current = current_same (base_begun (base_of p) w i) (base_of (Then p i (events.Begin call))) (begin w i call) next.0
            (λ n b. begin_base w i n b call p (g.shown.changes b))
            (current_begin w i call g.asked next.0 (base_of p) f k.requests next.1.deal g.shown.current);
        changes = g.shown.changes;
        queued = g.shown.queued;
      };
      agrees = record { queued = g.agrees.queued; taken = g.agrees.taken };
      shows = begin_shows w.book p i call g.shows;
      misses = λ n. begin_missed w i n call p (n == i) refl g.misses;
      emptied = emptied_begin w i call g.asked next.0 (λ n. was_empty n p) (λ n. was_empty n (Then p i (events.Begin call))) f k.requests next.1.deal (λ n e h. (begin_later i n call p e).empty h) g.emptied;
      seats = λ n. begun_seat w i n call p (n == i) refl (bounds_of w g.rows g.line g.asked p g.shown) g.seats;
      law = (refl, g.law);
    }

start_keeps : (layout : Layout) → is_valid layout ≡ true → Keeps layout (first_made layout)
start_keeps layout d =
    let q = requests_start layout d in
    let quiet : (k : ℕ) → q.0.deal k ≡ Quiet = λ k. ap (λ (deal : ℕ → Deal). deal k) q.1.deal in
    record {
      table = refl;
      answers = answering.first_keeps layout d;
      rows = first_rows layout;
      line = first_line layout;
      asked = q.0;
      shown = record {
        known = known_start layout q.0 d q.1.facts q.1.deal;
        current = current_same (λ k b. 0) (base_of Start) (start layout) q.0 (λ k b. refl) (current_start layout q.0 quiet);
        changes = λ b. refl;
        queued = refl;
      };
      agrees = record { queued = refl; taken = refl };
      shows = first_book_shows;
      misses = λ k. start_misses ((start layout).seat k) (times k is_any Start) refl;
      emptied = emptied_start layout q.0 (λ k. was_empty k Start) quiet;
      seats = λ k. record { decided = tt; says = tt };
      law = tt;
    }

item_keeps : (layout : Layout) (made : Made) (item : Item) (fit : Bool) → fits made.world item ≡ fit → Stood (done_if made item fit) → PlacesSay made.world.mem made.past → Keeps layout made → Keeps layout (done_if made item fit)
item_keeps layout made item false f s a g = g
item_keeps layout made (Begins i call) true f s a g = begin_keeps layout made i call (begins_right i made.world.layout.config.seats (is_busy made.world i) (may_start made.world i call) f) (begins_within i made.world.layout.config.seats (is_busy made.world i) (may_start made.world i call) f) g
item_keeps layout made (Steps i) true f s a g =
    step_keeps layout made i (low_seat i made.world.layout.config.seats (is_busy made.world i) f) (rest_of (nat_lt i made.world.layout.config.seats) (is_busy made.world i) f) s a g

-- the record of a history says what stands
stood_of : (layout : Layout) (path : List Item) (made : Made) → is_valid layout ≡ true → made ≡ made_of layout path → Stood made
stood_of layout path made d e = subst Stood (sym e) (λ k j. record_stands layout path k j d)

-- and who has left and whose lists are taken over
placed_of : (layout : Layout) (path : List Item) (made : Made) → is_valid layout ≡ true → made ≡ made_of layout path → PlacesSay made.world.mem made.past
placed_of layout path made d e = subst (λ (m : Made). PlacesSay m.world.mem m.past) (sym e) (record_places layout path d)

items_keep : (layout : Layout) (items path : List Item) (made : Made) → is_valid layout ≡ true → made ≡ made_of layout path → Keeps layout made → Keeps layout (made_from made items)
items_keep layout [] path made d e g = g
items_keep layout (item ∷ items) path made d e g =
    let q : did made item ≡ made_of layout (path ++ item ∷ []) = ap (λ (m : Made). did m item) e ∙ sym (made_snoc (first_made layout) path item) in
    items_keep layout items (path ++ item ∷ []) (did made item) d q (item_keeps layout made item (fits made.world item) refl (stood_of layout (path ++ item ∷ []) (did made item) d q) (placed_of layout path made d e) g)

pub records_keep_reasons : RecordsKeepReasons
records_keep_reasons layout items d =
    let g = items_keep layout items [] (first_made layout) d refl (start_keeps layout d) in
    entries_of_each (reasons_ok layout.config) (record_of layout items) (subst (λ (table : Layout). Each (reasons_ok table.config) (record_of layout items)) g.table g.law)
