-- The record of each history keeps the law on the eras that a call answers of the clock.
use Rattle.std.proofs.Common.{ℕ, ◌≡◌, Bool, true, false, List, [], ◌∷◌, ◌++◌, refl, sym, ap, ◌∙◌, subst, arith}
use Rattle.std.proofs.lemmas.Bool.Decides.{nat_tests}
use Rattle.std.specs.Prelude.{◌==◌, nat_lt, ◌≤◌, nat_le, if◌then◌else◌}
use Rattle.law_scans.specs.laws.words.Place.{is_valid, Place}
use Rattle.law_scans.specs.laws.words.declared.layout.Layout.{Layout}
use Rattle.law_scans.specs.laws.words.Schemes.{publishes_rows}
use Rattle.law_scans.specs.inv.model.Guards.{guard_at}
use Rattle.law_scans.proofs.reuse.ReadGuards.{reads_are}
use Rattle.law_scans.specs.laws.defs.declared.call.Answer.{Answer}
use Rattle.law_scans.specs.laws.defs.declared.call.Call.{Call}
use Rattle.law_scans.specs.laws.defs.declared.event.Event.{Event}
use Rattle.law_scans.specs.laws.defs.declared.event.Event.TheVariants as events
use Rattle.law_scans.specs.inv.model.declared.post.Post.{Post}
use Rattle.law_scans.specs.inv.model.Calls.{Phase, Idle, Runs, Scans, Works, CallTurn, CallOutcome, GoesOn, Answers, Why, Opens, FollowsHead, Fills, ClearsNext, Clears, Finishes, GivesUp, Retires, Tidies, Advances, Releases, ReadGuard, GiveBack}
use Rattle.law_scans.specs.inv.model.Locals.{Local, begun_post, told_end, turn}
use Rattle.law_scans.specs.inv.model.Posts.{counted}
use Rattle.law_scans.specs.inv.model.World.{World, begin, finds, is_busy, offered, step, told_in, list_in}
use Rattle.law_scans.specs.inv.shapes.Frame.{phase_left}
use Rattle.law_scans.specs.inv.shapes.Seats.{kind_of, suits}
use Rattle.law_scans.proofs.reuse.shapes.Frame.{seat_stays, begin_stays, begin_begins}
use Rattle.law_scans.specs.laws.records.Record.{Past, Each, tells_of}
use Rattle.law_scans.specs.laws.records.Record.Past.{Then}
use Rattle.law_scans.proofs.laws.records.Entries.{entries_of_each}
use Rattle.law_scans.specs.inv.history.History.{Item, Begins, Steps, Made, fits, done, done_if, did, made_from, first_made, record_of}
use Rattle.law_scans.proofs.reuse.history.Along.{item_keeps, made_snoc}
use Rattle.law_scans.proofs.reuse.history.AllOf.{all_of, of_along}
use Rattle.law_scans.proofs.reuse.AnswersTold.Answering.{owes_of}
use Rattle.law_scans.proofs.reuse.AnswersTold.Owed.{is_open, owed, Owes}
use Rattle.law_scans.specs.laws.words.Place.Place.{Clock}
use Rattle.law_scans.specs.laws.defs.declared.call.Answer.TheVariants as the_answers
use Rattle.law_scans.specs.laws.defs.declared.call.ClockMove.{ClockMove}
use Rattle.law_scans.specs.laws.defs.declared.call.ClockMove.TheVariants as moves
use Rattle.law_scans.specs.inv.model.Machine.{base_move}
use Rattle.law_scans.specs.inv.model.Memory as memory
use Rattle.law_scans.specs.inv.model.Memory.{place_in}
use Rattle.law_scans.specs.inv.model.Phases.{MoveAt, Base}
use Rattle.law_scans.specs.inv.model.Phases.AllocateAt.{LoadBirth, ClaimSlot, StoreLife}
use Rattle.law_scans.specs.inv.model.Phases.MoveAt.{LoadEra, CheckEra, ExchangeClock}
use Rattle.law_scans.specs.inv.model.Phases.Base.{Allocate, Retire, Move}
use Rattle.law_scans.specs.inv.model.Steps.{phase_move}
use Rattle.law_scans.specs.inv.model.Allocate as allocates
use Rattle.law_scans.proofs.laws.records.defs.Facts.{both, first_of, rest_of, both_below}
use Rattle.law_scans.proofs.inv.covers.Held.{stepped_phase}
use Rattle.law_scans.proofs.laws.Tells.{tells_both}
use Rattle.law_scans.specs.laws.StateAt.{clock_of}
use Rattle.law_scans.specs.Outcomes.{clock_tally}
use Rattle.law_scans.specs.laws.AnswerLaw.{from_by, from_of}
use Rattle.law_scans.specs.laws.HistoryAnswers.{time_fits, answer_time, times_ok}
use Rattle.law_scans.specs.Records.{RecordsKeepTimes}
use Rattle.law_scans.proofs.DueScans.Keeps.{phase_right, told_starts}
use Rattle.law_scans.proofs.ClockAnswers.Kept.{KeepsClocks, fronts, own_lands, steady, first_clocks}
use Rattle.law_scans.proofs.DueScans.Lands.{PhaseRight}
use Rattle.law_scans.proofs.DueScans.Still.{is_still, claim_front, tick_front, base_front, front}
use Rattle.law_reasons.proofs.Eras.ClockTimes.Times.{PhaseIn, OutIn, inner_fits, answer_in, loads, phase_rises, answer_rises, turn_in, first_in}
use Rattle.law_reasons.proofs.Eras.Current.Keeps.{OfItems, tie}
use Rattle.law_reasons.proofs.Eras.Current.Positions.{ticked_rises}

clock_rises : (i : ℕ) (told : List Event) (p : Past) → clock_of p ≤ clock_of (tells_of p i told)
clock_rises i [] p = omega arith
clock_rises i (event ∷ told) p = let a = ticked_rises event (clock_of p) in let b = clock_rises i told (Then p i event) in omega (a, b, arith)

by_low : (clock before : ℕ) (event : Event) → before ≤ clock → from_by clock event before ≤ clock
by_low clock before (events.Begin call) h = omega arith
by_low clock before (events.Retire slot birth retire) h = omega arith
by_low clock before event h = h

low_all : (i : ℕ) (p : Past) → from_of i p ≤ clock_of p
low_all i Past.Start = omega arith
low_all i (Then p k event) =
    let h = low_all i p in
    let r = ticked_rises event (clock_of p) in
    let b = both_below (i == k) (from_by (clock_of p) event (from_of i p)) (from_of i p) (clock_of p) (by_low (clock_of p) (from_of i p) event h) h in
    omega (b, r, arith)

-- events that leave it
abbrev keeps_from : Event → Bool
keeps_from (events.Begin call) = false
keeps_from (events.Retire slot birth retire) = false
keeps_from event = true

from_one : (clock before : ℕ) (event : Event) → keeps_from event ≡ true → from_by clock event before ≡ before
from_one clock before (events.Begin call) h = absurd (cc)
from_one clock before (events.Retire slot birth retire) h = absurd (cc)
from_one clock before event h = refl

same_if : (same : Bool) (a b : ℕ) → a ≡ b → (if same then a else b) ≡ b
same_if true a b h = h
same_if false a b h = refl

from_keeps : (k i : ℕ) (told : List Event) (p : Past) → all_of keeps_from told ≡ true → from_of k (tells_of p i told) ≡ from_of k p
from_keeps k i [] p h = refl
from_keeps k i (event ∷ told) p h =
    from_keeps k i told (Then p i event) (rest_of (keeps_from event) (all_of keeps_from told) h)
    ∙ same_if (k == i) (from_by (clock_of p) event (from_of k p)) (from_of k p) (from_one (clock_of p) (from_of k p) event (first_of (keeps_from event) (all_of keeps_from told) h))

from_other : (k i : ℕ) (told : List Event) (p : Past) → (k == i) ≡ false → from_of k (tells_of p i told) ≡ from_of k p
from_other k i [] p e = refl
from_other k i (event ∷ told) p e = from_other k i told (Then p i event) e ∙ rw e refl

still_keeps : (told : List Event) → all_of is_still told ≡ true → all_of keeps_from told ≡ true
still_keeps [] h = refl
still_keeps (event ∷ told) h = both (keeps_from event) (all_of keeps_from told) (one event (first_of (is_still event) (all_of is_still told) h)) (still_keeps told (rest_of (is_still event) (all_of is_still told) h))
  where
    one : (event : Event) → is_still event ≡ true → keeps_from event ≡ true
    one (events.Begin call) h = absurd (cc)
    one (events.Retire slot birth retire) h = absurd (cc)
    one event h = refl

-- a phase whose step retires a row
abbrev retires_base : Base → Bool
retires_base (Retire at) = true
retires_base base = false

abbrev retires_now : Phase → Bool
retires_now (Runs why base) = retires_base base
retires_now phase = false

claim_keeps : (birth slot : ℕ) (claimed : Bool) → all_of keeps_from (claim_front birth slot claimed) ≡ true
claim_keeps birth slot true = refl
claim_keeps birth slot false = refl

tick_keeps : (era : ℕ) (same : Bool) → all_of keeps_from (tick_front era same) ≡ true
tick_keeps era true = refl
tick_keeps era false = refl

base_keeps : (base : Base) (found : ℕ) → retires_base base ≡ false → all_of keeps_from (base_front base found) ≡ true
base_keeps (Allocate LoadBirth) found n = refl
base_keeps (Allocate (ClaimSlot birth walk)) found n = claim_keeps birth walk.slot (allocates.is_claimed found walk.slot)
base_keeps (Allocate (StoreLife birth slot)) found n = refl
base_keeps (Retire at) found n = absurd (cc)
base_keeps (Move (ExchangeClock era)) found n = tick_keeps era (found == era)
base_keeps (Move at) found n = refl
base_keeps base found n = refl

front_keeps : (phase : Phase) (post : Post) (found : ℕ) → retires_now phase ≡ false → all_of keeps_from (front phase post found) ≡ true
front_keeps Idle post found n = refl
front_keeps (Runs why base) post found n = base_keeps base found n
front_keeps (Scans later (ReadGuard number)) post found n = reads_are (λ (event : Event). all_of keeps_from (event ∷ []) ≡ true) (publishes_rows post.layout.config.scheme) (guard_at post.layout.config number) found (λ span. refl) (λ slot. refl)
front_keeps (Scans later (GiveBack place slot)) post found n = refl
front_keeps (Works work) post found n = refl

-- of such a phase nothing is said
retiring_in : (last from now : ℕ) (phase : Phase) (post : Post) → PhaseRight phase post → retires_now phase ≡ true → PhaseIn last from now phase
retiring_in last from now Idle post p r = tt
retiring_in last from now (Scans later at) post p r = absurd (cc)
retiring_in last from now (Works work) post p r = tt
retiring_in last from now (Runs why (Retire at)) post p r = why_in why p.0
  where
    why_in : (why : Why) → suits (Retire at) (kind_of why) ≡ true → PhaseIn last from now (Runs why (Retire at))
    why_in (Tidies later) s = absurd (cc)
    why_in Advances s = absurd (cc)
    why_in (Retires answer) s = tt
    why_in (Opens task) s = tt
    why_in (FollowsHead head tail) s = tt
    why_in (Fills task) s = tt
    why_in (ClearsNext next) s = tt
    why_in (Clears task next) s = tt
    why_in (Finishes task next) s = tt
    why_in (GivesUp answer) s = tt
    why_in (Releases let_go) s = tt
retiring_in last from now (Runs why base) post p r = absurd (cc)

-- where the clock is loaded it is found
move_loads : (mem : Place → ℕ) (at : MoveAt) (post : Post) → loads at ≡ true → memory.found (base_move (Move at) post) (mem (place_in (base_move (Move at) post))) ≡ mem Clock
move_loads mem (LoadEra helps) post l = refl
move_loads mem (CheckEra era seat tag index root link) post l = refl
move_loads mem (ExchangeClock era) post l = refl
move_loads mem at post l = absurd (cc)

finds_clock : (w : World) (i : ℕ) (why : Why) (at : MoveAt) → (w.seat i).phase ≡ Runs why (Move at) → loads at ≡ true → finds w i ≡ w.mem Clock
finds_clock w i why at e l =
    ap (λ (phase : Phase). memory.found (phase_move phase (w.seat i).post) (w.mem (place_in (phase_move phase (w.seat i).post)))) e ∙ move_loads w.mem at (w.seat i).post l

next_items : (layout : Layout) (made : Made) (item : Item) (fit : Bool) → fits made.world item ≡ fit → OfItems layout made → OfItems layout (done_if made item fit)
next_items layout made item fit e h =
    record { items = h.items ++ item ∷ []; is = ap (λ (x : Bool). done_if made item x) (sym e) ∙ ap (λ (m : Made). did m item) h.is ∙ sym (made_snoc (first_made layout) h.items item) }

-- what a history keeps
record KeepsTimes (layout : Layout) (made : Made) : Type 0 where
  base : KeepsClocks layout made
  of : OfItems layout made
  seats : (k : ℕ) → PhaseIn layout.config.last_era (from_of k made.past) (clock_of made.past) (made.world.seat k).phase
  law : Each times_ok made.past

left_in : (last from now : ℕ) (outcome : CallOutcome) → OutIn last from now outcome → PhaseIn last from now (phase_left outcome)
left_in last from now (GoesOn phase) f = f
left_in last from now (Answers answer) f = tt

-- from where the seat's moves count after a step
from_step : (w : World) (i : ℕ) (p : Past) → retires_now (w.seat i).phase ≡ false → from_of i (tells_of p i (told_in w i)) ≡ from_of i p
from_step w i p n =
    let s = told_starts w i in
    from_keeps i i (told_in w i) p (ap (all_of keeps_from) s.is ∙ of_along keeps_from (fronts w i) s.rest (front_keeps (w.seat i).phase (counted (w.seat i).post) (finds w i) n) (still_keeps s.rest s.still))

own_in : (layout : Layout) (made : Made) (i : ℕ) → is_valid layout ≡ true → (k : KeepsTimes layout made) → OutIn layout.config.last_era (from_of i (tells_of made.past i (told_in made.world i))) (clock_of made.past) (turn (offered made.world i) (finds made.world i)).outcome
own_in layout made i d k =
    let w : World = made.world in
    let own : Local = offered w i in
    let last : ℕ = layout.config.last_era in
    let b = k.base in
    let g = b.base in
    let s = b.seats i in
    let l = own_lands layout made i b in
    let from : ℕ = from_of i (tells_of made.past i (told_in w i)) in
    let a : own.post.layout ≡ layout = (g.known.seats.fits i).post.layout ∙ g.table in
    let r : PhaseRight own.phase (counted own.post) = phase_right w.layout own.phase own.post (list_in w i) (g.known.seats.fits i).post.layout (g.known.seats.fits i).phase (g.known.whole.both.rows.plays i).right in
    turn_in layout.config layout.config.every from (clock_of made.past) (clock_tally layout.config.every i made.past) own.phase (counted own.post) own.desk (finds w i)
    (record {
      table = ap (λ (x : Layout). x.config.last_era) a;
      low = λ why at e. subst (λ (n : ℕ). n ≤ clock_of made.past) (sym (from_step w i made.past (ap retires_now e))) (low_all i made.past);
      loaded = λ why at e x. finds_clock w i why at e x ∙ sym (tie layout made d k.of);
    })
    r s.fits (by (retires_now own.phase) refl r) l.fits
  where
    by : (now : Bool) → retires_now (made.world.seat i).phase ≡ now → PhaseRight (made.world.seat i).phase (counted (made.world.seat i).post) → PhaseIn layout.config.last_era (from_of i (tells_of made.past i (told_in made.world i))) (clock_of made.past) (made.world.seat i).phase
    by true e r = retiring_in layout.config.last_era _ (clock_of made.past) (made.world.seat i).phase (counted (made.world.seat i).post) r e
    by false e r = subst (λ (n : ℕ). PhaseIn layout.config.last_era n (clock_of made.past) (made.world.seat i).phase) (sym (from_step made.world i made.past e)) (k.seats i)

step_in : (layout : Layout) (made : Made) (i : ℕ) → is_valid layout ≡ true → (k : KeepsTimes layout made) (m : ℕ) (same : Bool) → (m == i) ≡ same → PhaseIn layout.config.last_era (from_of m (tells_of made.past i (told_in made.world i))) (clock_of (tells_of made.past i (told_in made.world i))) ((step made.world i).seat m).phase
step_in layout made i d k m true e =
    let w : World = made.world in
    let q : i ≡ m = grind (arith, nat_tests) in
    let last : ℕ = layout.config.last_era in
    let p : Past = tells_of made.past i (told_in w i) in
    let t : CallTurn = turn (offered w i) (finds w i) in
    subst (λ (j : ℕ). PhaseIn last (from_of j p) (clock_of p) ((step w i).seat j).phase) q
    (subst (λ (phase : Phase). PhaseIn last (from_of i p) (clock_of p) phase) (sym (stepped_phase w i))
    (phase_rises last (from_of i p) (clock_of made.past) (clock_of p) (phase_left t.outcome) (clock_rises i (told_in w i) made.past) (left_in last (from_of i p) (clock_of made.past) t.outcome (own_in layout made i d k))))
step_in layout made i d k m false e =
    let w : World = made.world in
    let last : ℕ = layout.config.last_era in
    let p : Past = tells_of made.past i (told_in w i) in
    subst (λ (l : Local). PhaseIn last (from_of m p) (clock_of p) l.phase) (sym (seat_stays w i m e))
    (subst (λ (n : ℕ). PhaseIn last n (clock_of p) (w.seat m).phase) (sym (from_other m i (told_in w i) made.past e))
    (phase_rises last (from_of m made.past) (clock_of made.past) (clock_of p) (w.seat m).phase (clock_rises i (told_in w i) made.past) (k.seats m)))

-- where a call ends
time_of : (last from now : ℕ) (clock : ClockMove) → now ≤ last → inner_fits last from now clock ≡ true → time_fits from now clock ≡ true
time_of last from now moves.Still m h = refl
time_of last from now (moves.Moved era) m h = refl
time_of last from now (moves.Other seen) m h = h
time_of last from now (moves.EraSpent era) m h =
    let a : (era == last) ≡ true = first_of (era == last) (nat_le era now) h in
    let b : nat_le era now ≡ true = rest_of (era == last) (nat_le era now) h in
    grind (arith, nat_tests)

answer_of : (last from now : ℕ) (answer : Answer) → now ≤ last → answer_in last from now answer ≡ true → answer_time from now answer ≡ true
answer_of last from now (the_answers.Done version clock) m h = time_of last from now clock m h
answer_of last from now (the_answers.Taken number value clock) m h = time_of last from now clock m h
answer_of last from now (the_answers.Clock clock) m h = time_of last from now clock m h
answer_of last from now answer m h = refl

open_times : (i : ℕ) (told : List Event) (p : Past) → all_of is_open told ≡ true → Each times_ok p → Each times_ok (tells_of p i told)
open_times i [] p h g = g
open_times i (event ∷ told) p h g = open_times i told (Then p i event) (rest_of (is_open event) (all_of is_open told) h) (one event (first_of (is_open event) (all_of is_open told) h), g)
  where
    one : (event : Event) → is_open event ≡ true → times_ok p i event ≡ true
    one (events.End steps answer) h = absurd (cc)
    one event h = refl

end_each : (last i : ℕ) (q : Past) (post : Post) (outcome : CallOutcome) → OutIn last (from_of i (tells_of q i (told_end post outcome))) (clock_of (tells_of q i (told_end post outcome))) outcome → clock_of (tells_of q i (told_end post outcome)) ≤ last → Each times_ok q → Each times_ok (tells_of q i (told_end post outcome))
end_each last i q post (GoesOn phase) f m g = g
end_each last i q post (Answers answer) f m g =
    (answer_of last (from_of i q) (clock_of q) answer m (subst (λ (n : ℕ). answer_in last n (clock_of q) answer ≡ true) (from_keeps i i (told_end post (Answers answer)) q refl) f), g)

out_rises : (last from now later : ℕ) (outcome : CallOutcome) → now ≤ later → OutIn last from now outcome → OutIn last from later outcome
out_rises last from now later (GoesOn phase) h f = phase_rises last from now later phase h f
out_rises last from now later (Answers answer) h f = answer_rises last from now later answer h f

step_law : (layout : Layout) (made : Made) (i : ℕ) → is_valid layout ≡ true → is_busy made.world i ≡ true → (k : KeepsTimes layout made) → clock_of (tells_of made.past i (told_in made.world i)) ≤ layout.config.last_era → Each times_ok (tells_of made.past i (told_in made.world i))
step_law layout made i d y k m =
    let w : World = made.world in
    let n : ℕ = layout.config.buckets in
    let last : ℕ = layout.config.last_era in
    let t : CallTurn = turn (offered w i) (finds w i) in
    let c = k.base in
    let b = c.base in
    let o : Owes n (w.seat i).call (owed n (w.seat i).call (w.seat i).phase) t = owes_of n w i b.answers.table b.answers.known ((b.answers.seats i).serves y) in
    let q : Past = tells_of made.past i t.told in
    let p : Past = tells_of made.past i (told_in w i) in
    let e : p ≡ tells_of q i (told_end t.post t.outcome) = tells_both i t.told (told_end t.post t.outcome) made.past in
    let f : OutIn last (from_of i p) (clock_of p) t.outcome = out_rises last (from_of i p) (clock_of made.past) (clock_of p) t.outcome (clock_rises i (told_in w i) made.past) (own_in layout made i d k) in
    subst (λ (r : Past). Each times_ok r) (sym e)
    (end_each last i q t.post t.outcome (subst (λ (r : Past). OutIn last (from_of i r) (clock_of r) t.outcome) e f) (subst (λ (r : Past). clock_of r ≤ last) e m) (open_times i t.told made.past o.told.goes k.law))

most_of : (layout : Layout) (made : Made) → is_valid layout ≡ true → KeepsClocks layout made → OfItems layout made → clock_of made.past ≤ layout.config.last_era
most_of layout made d c h =
    let b = c.base in
    let k = b.known in
    let m = k.eras.most in
    let e = tie layout made d h in
    let t = ap (λ (x : Layout). x.config.last_era) b.table in
    omega (m, e, t, arith)

begin_in : (last : ℕ) (w : World) (i k : ℕ) (call : Call) (p : Past) (same : Bool) → (k == i) ≡ same → ((m : ℕ) → PhaseIn last (from_of m p) (clock_of p) (w.seat m).phase) → PhaseIn last (from_of k (Then p i (events.Begin call))) (clock_of (Then p i (events.Begin call))) ((begin w i call).seat k).phase
begin_in last w i k call p true e g =
    let q : i ≡ k = grind (arith, nat_tests) in
    subst (λ (j : ℕ). PhaseIn last (from_of j (Then p i (events.Begin call))) (clock_of p) ((begin w i call).seat j).phase) q
    (subst (λ (l : Local). PhaseIn last (from_of i (Then p i (events.Begin call))) (clock_of p) l.phase) (sym (begin_begins w i call)) (first_in last (from_of i (Then p i (events.Begin call))) (clock_of p) call (begun_post (w.seat i).post)))
begin_in last w i k call p false e g =
    subst (λ (l : Local). PhaseIn last (from_of k (Then p i (events.Begin call))) (clock_of p) l.phase) (sym (begin_stays w i k call e))
    (subst (λ (n : ℕ). PhaseIn last n (clock_of p) (w.seat k).phase) (sym (from_other k i (events.Begin call ∷ []) p e)) (g k))

item_times : (layout : Layout) (made : Made) (item : Item) (fit : Bool) → is_valid layout ≡ true → fits made.world item ≡ fit → KeepsTimes layout made → KeepsTimes layout (done_if made item fit)
item_times layout made item false d f g = g
item_times layout made (Begins i call) true d f g = record {
  base = item_keeps (KeepsClocks layout) (steady layout) made (Begins i call) true f g.base;
  of = next_items layout made (Begins i call) true f g.of;
  seats = λ m. begin_in layout.config.last_era made.world i m call made.past (m == i) refl g.seats;
  law = (refl, g.law);
}
item_times layout made (Steps i) true d f g =
    let c = item_keeps (KeepsClocks layout) (steady layout) made (Steps i) true f g.base in
    let o = next_items layout made (Steps i) true f g.of in
    let y = rest_of (nat_lt i made.world.layout.config.seats) (is_busy made.world i) f in
    record { base = c; of = o; seats = λ m. step_in layout made i d g m (m == i) refl; law = step_law layout made i d y g (most_of layout (done made (Steps i)) d c o) }

items_times : (layout : Layout) (items : List Item) (made : Made) → is_valid layout ≡ true → KeepsTimes layout made → KeepsTimes layout (made_from made items)
items_times layout [] made d g = g
items_times layout (item ∷ items) made d g = items_times layout items (did made item) d (item_times layout made item (fits made.world item) d refl g)

pub records_keep_times : RecordsKeepTimes
records_keep_times layout items d =
    let g = items_times layout items (first_made layout) d (record { base = first_clocks layout d; of = record { items = []; is = refl }; seats = λ k. tt; law = tt }) in
    entries_of_each times_ok (record_of layout items) g.law
