-- The record of each history keeps the law on what a call answers of the clock.
use Rattle.std.proofs.Common.{ℕ, ◌≡◌, Bool, true, false, List, [], ◌∷◌, refl, sym, ap, ◌∙◌, subst, arith}
use Rattle.std.proofs.lemmas.Bool.Decides.{nat_tests}
use Rattle.std.specs.Prelude.{◌==◌, None}
use Rattle.law_reuse.specs.laws.words.Place.{is_valid}
use Rattle.law_reuse.specs.laws.words.Schemes.{moves}
use Rattle.law_reuse.specs.laws.words.declared.config.Config.{Config}
use Rattle.law_reuse.specs.laws.words.declared.layout.Layout.{Layout}
use Rattle.law_reuse.specs.laws.defs.declared.call.Call.{Call}
use Rattle.law_reuse.specs.laws.defs.declared.event.Event.{Event}
use Rattle.law_reuse.specs.laws.defs.declared.event.Event.TheVariants as events
use Rattle.law_reuse.specs.inv.model.declared.post.Post.{Post}
use Rattle.law_reuse.specs.inv.model.Calls.{Phase, CallTurn, CallOutcome, Answers, GoesOn}
use Rattle.law_reuse.specs.inv.model.Locals.{Local, begun, begun_post, told_end, turn}
use Rattle.law_reuse.specs.inv.model.Posts.{counted}
use Rattle.law_reuse.specs.inv.model.World.{World, begin, finds, is_busy, offered, step, told_in, list_in}
use Rattle.law_reuse.specs.inv.shapes.Frame.{phase_left}
use Rattle.law_reuse.proofs.shapes.Frame.{seat_stays, begin_stays, begin_begins}
use Rattle.law_reuse.specs.laws.records.Record.{Past, Each, tells_of}
use Rattle.law_reuse.specs.laws.records.Record.Past.{Then}
use Rattle.law_reuse.proofs.laws.records.Entries.{entries_of_each}
use Rattle.law_reuse.specs.history.History.{Made, first_made, record_of}
use Rattle.law_reuse.proofs.history.Along.{Steady, items_keep}
use Rattle.law_reuse.proofs.laws.Along.{along}
use Rattle.law_reuse.proofs.history.AllOf.{all_of}
use Rattle.law_reuse.proofs.AnswersTold.Answering.{owes_of}
use Rattle.law_reuse.proofs.AnswersTold.Owed.{is_open, owed, Owes}
use Rattle.law_scans.proofs.Placing.Sums.{along_both}
use Rattle.law_reuse.proofs.laws.Tells.{AllRight, each_tells, seen_own, seen_other, seen_tells, seen_stays, tells_both}
use Rattle.law_reuse.proofs.laws.records.defs.Facts.{first_of, rest_of}
use Rattle.law_reuse.proofs.inv.covers.Held.{stepped_phase, stepped_post}
use Rattle.law_reuse.specs.laws.AnswerLaw.{is_advance}
use Rattle.law_reuse.specs.laws.HistoryAnswers.{ClockTally, no_clock, clock_right}
use Rattle.law_scans.specs.Outcomes.{clock_by}
use Rattle.law_scans.specs.Outcomes.{clock_tally, clocks_ok}
use Rattle.law_scans.specs.Records.{RecordsKeepOutcomes}
use Rattle.law_scans.proofs.ClockAnswers.Clocks.{PhaseFits, OutFits, Lands, turn_lands, first_fits}
use Rattle.law_scans.proofs.DueScans.Keeps.{Keeps, phase_right, told_starts, step_keeps, begin_keeps, first_keeps}
use Rattle.law_scans.proofs.DueScans.Lands.{PhaseRight}
use Rattle.law_scans.proofs.DueScans.Still.{is_still, front, counts}

still_same : (every : ℕ) (event : Event) (x : ClockTally) → is_still event ≡ true → clock_by every event x ≡ x
still_same every (events.Begin call) x h = absurd (cc)
still_same every (events.Era era) x h = absurd (cc)
still_same every (events.Retire slot birth retire) x h = absurd (cc)
still_same every event x h = refl

still_along : (every : ℕ) (told : List Event) (x : ClockTally) → all_of is_still told ≡ true → along (clock_by every) told x ≡ x
still_along every [] x h = refl
still_along every (event ∷ told) x h =
    ap (along (clock_by every) told) (still_same every event x (first_of (is_still event) (all_of is_still told) h)) ∙ still_along every told x (rest_of (is_still event) (all_of is_still told) h)

-- only an end is judged
open_right : (config : Config) (event : Event) (x : ClockTally) → is_open event ≡ true → clock_right (moves config.scheme) config.last_era event x ≡ true
open_right config (events.End steps answer) x h = absurd (cc)
open_right config event x h = refl

each_open : (every : ℕ) (config : Config) (told : List Event) (x : ClockTally) → all_of is_open told ≡ true → AllRight (clock_by every) (clock_right (moves config.scheme) config.last_era) told x
each_open every config [] x h = tt
each_open every config (event ∷ told) x h = (open_right config event x (first_of (is_open event) (all_of is_open told) h), each_open every config told (clock_by every event x) (rest_of (is_open event) (all_of is_open told) h))

-- a seat's tally fits where it stands
pub record SeatClock (config : Config) (phase : Phase) (post : Post) (x : ClockTally) : Type 0 where
  pub retired : x.retired ≡ post.retired
  pub fits : PhaseFits config phase x

left_fits : (config : Config) (outcome : CallOutcome) (x : ClockTally) → OutFits config outcome x → PhaseFits config (phase_left outcome) x
left_fits config (GoesOn phase) x f = f
left_fits config (Answers answer) x f = tt

-- what a history keeps
pub record KeepsClocks (layout : Layout) (made : Made) : Type 0 where
  pub base : Keeps layout made
  pub seats : (k : ℕ) → SeatClock layout.config (made.world.seat k).phase (made.world.seat k).post (clock_tally layout.config.every k made.past)
  pub law : Each (clocks_ok layout.config) made.past

abbrev pub fronts : World → ℕ → List Event
fronts w i = front (w.seat i).phase (counted (w.seat i).post) (finds w i)

pub own_lands : (layout : Layout) (made : Made) (i : ℕ) (k : KeepsClocks layout made) → Lands layout.config.every layout.config (clock_tally layout.config.every i made.past) (made.world.seat i).phase (fronts made.world i) (turn (offered made.world i) (finds made.world i)).outcome
own_lands layout made i k =
    let w : World = made.world in
    let own : Local = offered w i in
    let x : ClockTally = clock_tally layout.config.every i made.past in
    let g = k.base in
    let a : own.post.layout ≡ layout = (g.known.seats.fits i).post.layout ∙ g.table in
    let s = k.seats i in
    let r : PhaseRight own.phase (counted own.post) = phase_right w.layout own.phase own.post (list_in w i) (g.known.seats.fits i).post.layout (g.known.seats.fits i).phase (g.known.whole.both.rows.plays i).right in
    let f : PhaseFits own.post.layout.config own.phase x = subst (λ (table : Layout). PhaseFits table.config own.phase x) (sym a) s.fits in
    subst (λ (table : Layout). Lands table.config.every table.config x own.phase (fronts w i) (turn own (finds w i)).outcome) a
    (turn_lands x own.phase (counted own.post) own.desk (finds w i) r s.retired f)

-- the tally after what a step tells
along_told : (every : ℕ) (w : World) (i : ℕ) (x : ClockTally) → along (clock_by every) (told_in w i) x ≡ along (clock_by every) (fronts w i) x
along_told every w i x =
    let s = told_starts w i in
    ap (λ (es : List Event). along (clock_by every) es x) s.is
    ∙ along_both (clock_by every) (fronts w i) s.rest x
    ∙ still_along every s.rest (along (clock_by every) (fronts w i) x) s.still

end_same : (every : ℕ) (post : Post) (outcome : CallOutcome) (x : ClockTally) → along (clock_by every) (told_end post outcome) x ≡ x
end_same every post (GoesOn phase) x = refl
end_same every post (Answers answer) x = refl

open_tally : (every : ℕ) (w : World) (i : ℕ) (p : Past) → clock_tally every i (tells_of p i (turn (offered w i) (finds w i)).told) ≡ along (clock_by every) (fronts w i) (clock_tally every i p)
open_tally every w i p =
    let t : CallTurn = turn (offered w i) (finds w i) in
    let x : ClockTally = clock_tally every i p in
    seen_tells (clock_by every) no_clock i t.told p
    ∙ sym (end_same every t.post t.outcome (along (clock_by every) t.told x))
    ∙ sym (along_both (clock_by every) t.told (told_end t.post t.outcome) x)
    ∙ along_told every w i x

own_fits : (layout : Layout) (made : Made) (i : ℕ) (k : KeepsClocks layout made) → SeatClock layout.config ((step made.world i).seat i).phase ((step made.world i).seat i).post (clock_tally layout.config.every i (tells_of made.past i (told_in made.world i)))
own_fits layout made i k =
    let w : World = made.world in
    let l = own_lands layout made i k in
    let s = told_starts w i in
    let t : CallTurn = turn (offered w i) (finds w i) in
    let x : ClockTally = clock_tally layout.config.every i made.past in
    let e : clock_tally layout.config.every i (tells_of made.past i (told_in w i)) ≡ along (clock_by layout.config.every) (fronts w i) x = seen_tells (clock_by layout.config.every) no_clock i (told_in w i) made.past ∙ along_told layout.config.every w i x in
    let r = k.seats i in
    record {
      retired = ap (λ (y : ClockTally). y.retired) e ∙ l.count ∙ ap (counts (w.seat i).phase) r.retired ∙ sym s.count ∙ sym (ap (λ (y : Post). y.retired) (stepped_post w i));
      fits = subst (λ (y : ClockTally). PhaseFits layout.config ((step w i).seat i).phase y) (sym e)
          (subst (λ (phase : Phase). PhaseFits layout.config phase (along (clock_by layout.config.every) (fronts w i) x)) (sym (stepped_phase w i)) (left_fits layout.config t.outcome _ l.fits));
    }

step_fits : (layout : Layout) (made : Made) (i : ℕ) (k : KeepsClocks layout made) (m : ℕ) (same : Bool) → (m == i) ≡ same → SeatClock layout.config ((step made.world i).seat m).phase ((step made.world i).seat m).post (clock_tally layout.config.every m (tells_of made.past i (told_in made.world i)))
step_fits layout made i k m true e =
    let q : i ≡ m = grind (arith, nat_tests) in
    subst (λ (j : ℕ). SeatClock layout.config ((step made.world i).seat j).phase ((step made.world i).seat j).post (clock_tally layout.config.every j (tells_of made.past i (told_in made.world i)))) q (own_fits layout made i k)
step_fits layout made i k m false e =
    subst (λ (l : Local). SeatClock layout.config l.phase l.post (clock_tally layout.config.every m (tells_of made.past i (told_in made.world i)))) (sym (seat_stays made.world i m e))
    (subst (λ (x : ClockTally). SeatClock layout.config (made.world.seat m).phase (made.world.seat m).post x) (sym (seen_stays (clock_by layout.config.every) no_clock m i (told_in made.world i) made.past e)) (k.seats m))

end_each : (layout : Layout) (i : ℕ) (q : Past) (post : Post) (outcome : CallOutcome) → OutFits layout.config outcome (clock_tally layout.config.every i q) → Each (clocks_ok layout.config) q → Each (clocks_ok layout.config) (tells_of q i (told_end post outcome))
end_each layout i q post (GoesOn phase) f g = g
end_each layout i q post (Answers answer) f g = (f, g)

step_law : (layout : Layout) (made : Made) (i : ℕ) → is_busy made.world i ≡ true → (k : KeepsClocks layout made) → Each (clocks_ok layout.config) (tells_of made.past i (told_in made.world i))
step_law layout made i y k =
    let w : World = made.world in
    let n : ℕ = layout.config.buckets in
    let t : CallTurn = turn (offered w i) (finds w i) in
    let b = k.base in
    let l = own_lands layout made i k in
    let o : Owes n (w.seat i).call (owed n (w.seat i).call (w.seat i).phase) t = owes_of n w i b.answers.table b.answers.known ((b.answers.seats i).serves y) in
    let q : Past = tells_of made.past i t.told in
    let e : Each (clocks_ok layout.config) q = each_tells (clock_by layout.config.every) no_clock (clock_right (moves layout.config.scheme) layout.config.last_era) i t.told made.past (each_open layout.config.every layout.config t.told (clock_tally layout.config.every i made.past) o.told.goes) k.law in
    subst (λ (r : Past). Each (clocks_ok layout.config) r) (sym (tells_both i t.told (told_end t.post t.outcome) made.past))
    (end_each layout i q t.post t.outcome (subst (λ (x : ClockTally). OutFits layout.config t.outcome x) (sym (open_tally layout.config.every w i made.past)) l.fits) e)

begin_fits : (every : ℕ) (config : Config) (w : World) (i k : ℕ) (call : Call) (p : Past) (same : Bool) → (k == i) ≡ same → ((m : ℕ) → SeatClock config (w.seat m).phase (w.seat m).post (clock_tally every m p)) → SeatClock config ((begin w i call).seat k).phase ((begin w i call).seat k).post (clock_tally every k (Then p i (events.Begin call)))
begin_fits every config w i k call p true e g =
    let q : i ≡ k = grind (arith, nat_tests) in
    let r = g i in
    let x : ClockTally = record { retired = (clock_tally every i p).retired; due = is_advance call; moved = None } in
    let s : SeatClock config (begun (w.seat i) call).phase (begun (w.seat i) call).post x = record { retired = r.retired; fits = first_fits config (clock_tally every i p).retired call (begun_post (w.seat i).post) } in
    subst (λ (j : ℕ). SeatClock config ((begin w i call).seat j).phase ((begin w i call).seat j).post (clock_tally every j (Then p i (events.Begin call)))) q
    (subst (λ (l : Local). SeatClock config l.phase l.post (clock_tally every i (Then p i (events.Begin call)))) (sym (begin_begins w i call))
    (subst (λ (t : ClockTally). SeatClock config (begun (w.seat i) call).phase (begun (w.seat i) call).post t) (sym (seen_own (clock_by every) no_clock i p (events.Begin call))) s))
begin_fits every config w i k call p false e g =
    subst (λ (l : Local). SeatClock config l.phase l.post (clock_tally every k (Then p i (events.Begin call)))) (sym (begin_stays w i k call e))
    (subst (λ (x : ClockTally). SeatClock config (w.seat k).phase (w.seat k).post x) (sym (seen_other (clock_by every) no_clock k i p (events.Begin call) e)) (g k))

pub steady : (layout : Layout) → Steady (KeepsClocks layout)
steady layout = record { begins = λ made i call b y m g. record { base = begin_keeps layout made i call y m g.base; seats = λ j. begin_fits layout.config.every layout.config made.world i j call made.past (j == i) refl g.seats; law = (refl, g.law) }; steps = λ made i b y g. record { base = step_keeps layout made i b y g.base; seats = λ m. step_fits layout made i g m (m == i) refl; law = step_law layout made i y g } }

pub first_clocks : (layout : Layout) → is_valid layout ≡ true → KeepsClocks layout (first_made layout)
first_clocks layout d = record { base = first_keeps layout d; seats = λ k. record { retired = refl; fits = tt }; law = tt }

pub records_keep_outcomes : RecordsKeepOutcomes
records_keep_outcomes layout items d =
    let g = items_keep (KeepsClocks layout) (steady layout) items (first_made layout) (first_clocks layout d) in entries_of_each (clocks_ok layout.config) (record_of layout items) g.law
