-- The eras that a move of the clock ends with lie between the clock from which it counts and the present one.
use Rattle.std.proofs.Common.{ℕ, ◌≡◌, ◌<◌, ◌+◌, ◌%◌, Bool, true, false, List, [], ◌∷◌, Option, Some, None, refl, sym, ap, ◌∙◌, arith}
use Rattle.std.proofs.lemmas.Bool.Decides.{nat_tests}
use Rattle.std.specs.Prelude.{◌==◌, ◌&&◌, nat_lt, if◌then◌else◌, nat_le, ◌≤◌}
use Rattle.law_scans.specs.laws.words.Packed.{reservation_word, read_reservation, read_request}
use Rattle.law_scans.specs.laws.defs.declared.call.Answer.{Answer}
use Rattle.law_scans.specs.laws.defs.declared.call.Answer.TheVariants as the_answers
use Rattle.law_scans.specs.laws.defs.declared.call.Call.{Call}
use Rattle.law_scans.specs.laws.defs.declared.call.Call.TheVariants as names
use Rattle.law_scans.specs.laws.defs.declared.call.ClockMove.{ClockMove}
use Rattle.law_scans.specs.laws.defs.declared.call.ClockMove.TheVariants as moves
use Rattle.law_scans.specs.laws.defs.declared.event.Event.{Event}
use Rattle.law_scans.specs.laws.defs.declared.event.Event.TheVariants as events
use Rattle.law_scans.specs.laws.defs.declared.event.Root.{Root}
use Rattle.law_scans.specs.inv.model.declared.post.Post.{Post}
use Rattle.law_scans.specs.inv.model.Allocate as allocates
use Rattle.law_scans.specs.inv.model.Desks.{Desk, with_life}
use Rattle.law_scans.specs.inv.model.Guards.{guards, guard_at, published}
use Rattle.law_scans.specs.inv.model.Machine as machine
use Rattle.law_scans.specs.inv.model.Posts.{stands}
use Rattle.law_scans.specs.inv.model.Scan as scan
use Rattle.law_scans.specs.inv.model.Steps as steps
use Rattle.law_scans.specs.inv.model.Rounds.{scheme_of, tidy_by, begin_base, round, round_by, with_clock, let_index, letting, letting_by, release_base}
use Rattle.law_scans.specs.inv.model.Phases.{MoveAt, Base, Ending, Outcome, Goes, Ends}
use Rattle.law_scans.specs.inv.model.Phases.AllocateAt.{ClaimSlot}
use Rattle.law_scans.specs.inv.model.Phases.MoveAt.{LoadEra, LoadRequest, ShowEra, LoadAsked, CheckEra, AnswerAsked, LoadReserved, HandOver, HideEra, HideLate, ExchangeClock}
use Rattle.law_scans.specs.inv.model.Phases.Base.{Allocate, Retire, Move}
use Rattle.law_scans.specs.inv.model.Phases.Ending.{Done, Protected, Followed, Allocated, Retired, Clocked}
use Rattle.law_scans.specs.inv.model.Calls.{Task, Gets, Holds, Dequeues, Next, Again, MakeRoom, Answering, Retiring, AfterScan, Answered, Repeated, Counted, ScanAt, ReadGuard, GiveBack, Why, Opens, FollowsHead, Fills, ClearsNext, Clears, Finishes, GivesUp, Retires, Tidies, Advances, Releases, Phase, Idle, Runs, Scans, Works, CallOutcome, GoesOn, Answers, LetGo, Released, Rehold, Dropped}
use Rattle.law_scans.specs.inv.shapes.Seats.{Kind, ToRetire, kind_of, suits, retires}
use Rattle.law_scans.proofs.laws.Along.{along}
use Rattle.law_scans.proofs.reuse.history.Passes.{scan_told}
use Rattle.law_scans.specs.inv.model.SlowPath.{asking}
use Rattle.law_scans.specs.inv.model.MoveClock as movers
use Rattle.law_scans.specs.laws.words.declared.packed.Request.{Request}
use Rattle.law_scans.specs.laws.words.declared.packed.Request.TheVariants as requests
use Rattle.law_scans.proofs.laws.records.defs.Facts.{both, first_of, rest_of}
use Rattle.law_scans.specs.laws.HistoryAnswers.{ClockTally, change_fits, outcome_fits}
use Rattle.law_scans.specs.Outcomes.{clock_by}
use Rattle.law_scans.specs.laws.words.Schemes.{publishes_rows, moves as moves_clock}
use Rattle.law_scans.specs.laws.words.declared.config.Config.{Config}
use Rattle.law_scans.specs.laws.defs.declared.event.Guard.{Guard}
use Rattle.law_scans.proofs.reuse.ReadGuards.{reads_are}
use Rattle.law_scans.proofs.Leaving.{parts_all}
use Rattle.law_scans.proofs.ClockAnswers.Clocks.{is_plain, fits_answer, NextFits, WhyFits, PhaseFits, OutFits, move_due}
use Rattle.law_scans.proofs.DueScans.Lands.{PhaseRight}
use Rattle.law_scans.proofs.DueScans.Still.{claim_front, base_front, front}

-- a last era is that of the table, and the clock has come to it
abbrev pub inner_fits : (last from now : ℕ) → ClockMove → Bool
inner_fits last from now (moves.Other seen) = nat_lt from seen && nat_le seen now
inner_fits last from now (moves.EraSpent era) = era == last && nat_le era now
inner_fits last from now clock = true

abbrev pub answer_in : (last from now : ℕ) → Answer → Bool
answer_in last from now (the_answers.Done version clock) = inner_fits last from now clock
answer_in last from now (the_answers.Taken number value clock) = inner_fits last from now clock
answer_in last from now (the_answers.Clock clock) = inner_fits last from now clock
answer_in last from now answer = true

pub record Within (from era now : ℕ) : Type 0 where
  pub low : from ≤ era
  pub high : era ≤ now

pub record Late (from seen now : ℕ) : Type 0 where
  pub low : from < seen
  pub high : seen ≤ now

abbrev pub AtFrom : (from now : ℕ) → MoveAt → Type 0
AtFrom from now (LoadEra helps) = Unit {0}
AtFrom from now (LoadRequest era seat shows) = Within from era now
AtFrom from now (ShowEra era seat tag index root) = Within from era now
AtFrom from now (LoadAsked era seat tag index root) = Within from era now
AtFrom from now (CheckEra era seat tag index root link) = Within from era now
AtFrom from now (AnswerAsked era seat tag index root link) = Within from era now
AtFrom from now (LoadReserved era seat tag index root link) = Within from era now
AtFrom from now (HandOver era seat tag index root link old) = Within from era now
AtFrom from now (HideEra era) = Within from era now
AtFrom from now (HideLate seen) = Late from seen now
AtFrom from now (ExchangeClock era) = Within from era now

abbrev pub BaseIn : (from now : ℕ) → Base → Type 0
BaseIn from now (Move at) = AtFrom from now at
BaseIn from now base = ⊥

abbrev pub WhyIn : (from now : ℕ) → Why → Base → Type 0
WhyIn from now (Tidies (Answered answer)) base = BaseIn from now base
WhyIn from now Advances base = BaseIn from now base
WhyIn from now why base = Unit {0}

abbrev pub LaterIn : (last from now : ℕ) → AfterScan → Type 0
LaterIn last from now (Answered answer) = answer_in last from now answer ≡ true
LaterIn last from now later = Unit {0}

abbrev pub PhaseIn : (last from now : ℕ) → Phase → Type 0
PhaseIn last from now Idle = Unit {0}
PhaseIn last from now (Runs why base) = WhyIn from now why base
PhaseIn last from now (Scans later at) = LaterIn last from now later
PhaseIn last from now (Works work) = Unit {0}

abbrev pub OutIn : (last from now : ℕ) → CallOutcome → Type 0
OutIn last from now (GoesOn phase) = PhaseIn last from now phase
OutIn last from now (Answers answer) = answer_in last from now answer ≡ true

-- the clock only rises
within_rises : (from era now later : ℕ) → now ≤ later → Within from era now → Within from era later
within_rises from era now later h w = let l = w.high in record { low = w.low; high = omega (h, l, arith) }

late_rises : (from seen now later : ℕ) → now ≤ later → Late from seen now → Late from seen later
late_rises from seen now later h w = let l = w.high in record { low = w.low; high = omega (h, l, arith) }

at_rises : (from now later : ℕ) (at : MoveAt) → now ≤ later → AtFrom from now at → AtFrom from later at
at_rises from now later (LoadEra helps) h w = tt
at_rises from now later (HideLate seen) h w = late_rises from seen now later h w
at_rises from now later (LoadRequest era seat shows) h w = within_rises from era now later h w
at_rises from now later (ShowEra era seat tag index root) h w = within_rises from era now later h w
at_rises from now later (LoadAsked era seat tag index root) h w = within_rises from era now later h w
at_rises from now later (CheckEra era seat tag index root link) h w = within_rises from era now later h w
at_rises from now later (AnswerAsked era seat tag index root link) h w = within_rises from era now later h w
at_rises from now later (LoadReserved era seat tag index root link) h w = within_rises from era now later h w
at_rises from now later (HandOver era seat tag index root link old) h w = within_rises from era now later h w
at_rises from now later (HideEra era) h w = within_rises from era now later h w
at_rises from now later (ExchangeClock era) h w = within_rises from era now later h w

base_rises : (from now later : ℕ) (base : Base) → now ≤ later → BaseIn from now base → BaseIn from later base
base_rises from now later (Move at) h w = at_rises from now later at h w
base_rises from now later base h w = absurd w

le_rises : (seen now later : ℕ) → now ≤ later → nat_le seen now ≡ true → nat_le seen later ≡ true
le_rises seen now later h l = grind (arith, nat_tests)

inner_rises : (last from now later : ℕ) (clock : ClockMove) → now ≤ later → inner_fits last from now clock ≡ true → inner_fits last from later clock ≡ true
inner_rises last from now later (moves.Other seen) h f = both (nat_lt from seen) (nat_le seen later) (first_of (nat_lt from seen) (nat_le seen now) f) (le_rises seen now later h (rest_of (nat_lt from seen) (nat_le seen now) f))
inner_rises last from now later (moves.EraSpent era) h f = both (era == last) (nat_le era later) (first_of (era == last) (nat_le era now) f) (le_rises era now later h (rest_of (era == last) (nat_le era now) f))
inner_rises last from now later moves.Still h f = refl
inner_rises last from now later (moves.Moved era) h f = refl

pub answer_rises : (last from now later : ℕ) (answer : Answer) → now ≤ later → answer_in last from now answer ≡ true → answer_in last from later answer ≡ true
answer_rises last from now later (the_answers.Done version clock) h f = inner_rises last from now later clock h f
answer_rises last from now later (the_answers.Taken number value clock) h f = inner_rises last from now later clock h f
answer_rises last from now later (the_answers.Clock clock) h f = inner_rises last from now later clock h f
answer_rises last from now later answer h f = refl

later_rises : (last from now later : ℕ) (after : AfterScan) → now ≤ later → LaterIn last from now after → LaterIn last from later after
later_rises last from now later (Answered answer) h f = answer_rises last from now later answer h f
later_rises last from now later (Repeated task) h f = tt
later_rises last from now later Counted h f = tt

why_rises : (from now later : ℕ) (why : Why) (base : Base) → now ≤ later → WhyIn from now why base → WhyIn from later why base
why_rises from now later (Tidies (Answered answer)) base h f = base_rises from now later base h f
why_rises from now later Advances base h f = base_rises from now later base h f
why_rises from now later why base h f = tt

pub phase_rises : (last from now later : ℕ) (phase : Phase) → now ≤ later → PhaseIn last from now phase → PhaseIn last from later phase
phase_rises last from now later Idle h f = tt
phase_rises last from now later (Runs why base) h f = why_rises from now later why base h f
phase_rises last from now later (Scans after at) h f = later_rises last from now later after h f
phase_rises last from now later (Works work) h f = tt

-- a move of the clock
abbrev pub EndIn : (last from now : ℕ) → Ending → Type 0
EndIn last from now (Clocked clock) = inner_fits last from now clock ≡ true
EndIn last from now ending = ⊥

abbrev pub MoveIn : (last from now : ℕ) → Outcome → Type 0
MoveIn last from now (Goes base) = BaseIn from now base
MoveIn last from now (Ends ending) = EndIn last from now ending

-- where the clock is loaded it is found
abbrev pub loads : MoveAt → Bool
loads (LoadEra helps) = true
loads (CheckEra era seat tag index root link) = true
loads (ExchangeClock era) = true
loads at = false

met_in : (from now : ℕ) (post : Post) (era seat : ℕ) (shows : Bool) → Within from era now → AtFrom from now (movers.next_request post era seat shows)
met_in from now post era seat shows w = by (nat_lt (seat + 1) post.layout.config.seats) shows
  where
    by : (more shows : Bool) → AtFrom from now (if more then LoadRequest era (seat + 1) shows else movers.all_met era shows)
    by true shows = w
    by false true = w
    by false false = w

asked_in : (from now : ℕ) (post : Post) (era seat : ℕ) (shows : Bool) (request : Option Request) → Within from era now → AtFrom from now (movers.met post era seat shows request)
asked_in from now post era seat true (Some (requests.Pending tag index word)) w = w
asked_in from now post era seat false (Some (requests.Pending tag index word)) w = w
asked_in from now post era seat shows (Some (requests.Answered link answered)) w = met_in from now post era seat shows w
asked_in from now post era seat shows (Some requests.Idle) w = met_in from now post era seat shows w
asked_in from now post era seat shows None w = met_in from now post era seat shows w

later_seen : (from era now found : ℕ) → found ≡ now → (found == era) ≡ false → Within from era now → Late from found now
later_seen from era now found e n w = let a = w.low in let b = w.high in record { low = grind (arith, nat_tests); high = grind (arith, nat_tests) }

load_in : (last from now : ℕ) (helps : Bool) (post : Post) (found : ℕ) (same : Bool) → post.layout.config.last_era ≡ last → (found == post.layout.config.last_era) ≡ same → from ≤ now → found ≡ now → MoveIn last from now (machine.move_turn (LoadEra helps) post found).outcome
load_in last from now helps post found true t e l f = rw e (both (found == last) (nat_le found now) (sym (ap (λ (n : ℕ). found == n) t) ∙ e) (grind (arith, nat_tests)))
load_in last from now true post found false t e l f = rw e (record { low = omega (l, f, arith); high = omega (l, f, arith) })
load_in last from now false post found false t e l f = rw e (record { low = omega (l, f, arith); high = omega (l, f, arith) })

check_in : (last from now era seat tag index : ℕ) (root : Root) (link : ℕ) (post : Post) (found : ℕ) (same : Bool) → (found == era) ≡ same → found ≡ now → Within from era now → MoveIn last from now (machine.move_turn (CheckEra era seat tag index root link) post found).outcome
check_in last from now era seat tag index root link post found true e f w = rw e w
check_in last from now era seat tag index root link post found false e f w = rw e (later_seen from era now found f e w)

answer_asked_in : (last from now era seat tag index : ℕ) (root : Root) (link : ℕ) (post : Post) (found : ℕ) (same : Bool) → (found == asking post.layout tag index root) ≡ same → Within from era now → MoveIn last from now (machine.move_turn (AnswerAsked era seat tag index root link) post found).outcome
answer_asked_in last from now era seat tag index root link post found true e w = rw e w
answer_asked_in last from now era seat tag index root link post found false e w = rw e (met_in from now post era seat true w)

reserved_in : (last from now era seat tag index : ℕ) (root : Root) (link : ℕ) (post : Post) (found : ℕ) (same : Bool) → ((read_reservation found).tag == tag) ≡ same → Within from era now → MoveIn last from now (machine.move_turn (LoadReserved era seat tag index root link) post found).outcome
reserved_in last from now era seat tag index root link post found true e w = rw e w
reserved_in last from now era seat tag index root link post found false e w = rw e (met_in from now post era seat true w)

handed_in : (last from now era seat tag index : ℕ) (root : Root) (link old : ℕ) (post : Post) (found : ℕ) (same : Bool) → (found == reservation_word (record { era = old; tag = tag })) ≡ same → Within from era now → MoveIn last from now (machine.move_turn (HandOver era seat tag index root link old) post found).outcome
handed_in last from now era seat tag index root link old post found true e w = rw e (met_in from now post era seat true w)
handed_in last from now era seat tag index root link old post found false e w = rw e (met_in from now post era seat true w)

late_fits : (last from now seen : ℕ) → Late from seen now → inner_fits last from now (moves.Other seen) ≡ true
late_fits last from now seen w = let a = w.low in let b = w.high in both (nat_lt from seen) (nat_le seen now) (grind (arith, nat_tests)) (grind (arith, nat_tests))

tick_in : (last from now era : ℕ) (post : Post) (found : ℕ) (same : Bool) → (found == era) ≡ same → found ≡ now → Within from era now → MoveIn last from now (machine.move_turn (ExchangeClock era) post found).outcome
tick_in last from now era post found true e f w = rw e refl
tick_in last from now era post found false e f w = rw e (late_fits last from now found (later_seen from era now found f e w))

pub move_in : (last from now : ℕ) (at : MoveAt) (post : Post) (found : ℕ) → post.layout.config.last_era ≡ last → from ≤ now → (loads at ≡ true → found ≡ now) → AtFrom from now at → MoveIn last from now (machine.move_turn at post found).outcome
move_in last from now (LoadEra helps) post found t l f w = load_in last from now helps post found (found == post.layout.config.last_era) t refl l (f refl)
move_in last from now (LoadRequest era seat shows) post found t l f w = asked_in from now post era seat shows (read_request found) w
move_in last from now (CheckEra era seat tag index root link) post found t l f w = check_in last from now era seat tag index root link post found (found == era) refl (f refl) w
move_in last from now (AnswerAsked era seat tag index root link) post found t l f w = answer_asked_in last from now era seat tag index root link post found (found == asking post.layout tag index root) refl w
move_in last from now (LoadReserved era seat tag index root link) post found t l f w = reserved_in last from now era seat tag index root link post found ((read_reservation found).tag == tag) refl w
move_in last from now (HandOver era seat tag index root link old) post found t l f w = handed_in last from now era seat tag index root link old post found (found == reservation_word (record { era = old; tag = tag })) refl w
move_in last from now (HideLate seen) post found t l f w = late_fits last from now seen w
move_in last from now (ExchangeClock era) post found t l f w = tick_in last from now era post found (found == era) refl (f refl) w
move_in last from now at post found t l f w = w

-- what comes after it
with_in : (last from now : ℕ) (answer : Answer) (clock : ClockMove) → is_plain answer ≡ true → inner_fits last from now clock ≡ true → answer_in last from now (with_clock answer clock) ≡ true
with_in last from now (the_answers.Done version old) clock q h = h
with_in last from now (the_answers.Taken number value old) clock q h = h
with_in last from now (the_answers.Clock old) clock q h = absurd (cc)
with_in last from now answer clock q h = refl

plain_in : (last from now : ℕ) (answer : Answer) → is_plain answer ≡ true → answer_in last from now answer ≡ true
plain_in last from now (the_answers.Done version moves.Still) q = refl
plain_in last from now (the_answers.Done version (moves.Moved era)) q = absurd (cc)
plain_in last from now (the_answers.Done version (moves.Other seen)) q = absurd (cc)
plain_in last from now (the_answers.Done version (moves.EraSpent era)) q = absurd (cc)
plain_in last from now (the_answers.Taken number value moves.Still) q = refl
plain_in last from now (the_answers.Taken number value (moves.Moved era)) q = absurd (cc)
plain_in last from now (the_answers.Taken number value (moves.Other seen)) q = absurd (cc)
plain_in last from now (the_answers.Taken number value (moves.EraSpent era)) q = absurd (cc)
plain_in last from now (the_answers.Clock clock) q = absurd (cc)
plain_in last from now answer q = refl

tidied_in : (last from now : ℕ) (answer : Answer) (ending : Ending) (post : Post) (desk : Desk) (told : List Event) → is_plain answer ≡ true → EndIn last from now ending → OutIn last from now (steps.tidied (Answered answer) ending post desk told).outcome
tidied_in last from now answer (Clocked clock) post desk told q h = with_in last from now answer clock q h
tidied_in last from now answer Done post desk told q h = absurd h
tidied_in last from now answer (Protected end) post desk told q h = absurd h
tidied_in last from now answer (Followed end) post desk told q h = absurd h
tidied_in last from now answer (Allocated end) post desk told q h = absurd h
tidied_in last from now answer (Retired life) post desk told q h = absurd h

resumed_tidies : (last from now : ℕ) (answer : Answer) (desk : Desk) (post : Post) (told : List Event) (outcome : Outcome) → is_plain answer ≡ true → MoveIn last from now outcome → OutIn last from now (steps.resumed (Tidies (Answered answer)) desk post told outcome).outcome
resumed_tidies last from now answer desk post told (Goes base) q h = h
resumed_tidies last from now answer desk post told (Ends ending) q h = tidied_in last from now answer ending post desk told q h

advanced_in : (last from now : ℕ) (ending : Ending) (post : Post) (desk : Desk) (told : List Event) → EndIn last from now ending → OutIn last from now (steps.advanced ending post desk told).outcome
advanced_in last from now (Clocked clock) post desk told h = h
advanced_in last from now Done post desk told h = absurd h
advanced_in last from now (Protected end) post desk told h = absurd h
advanced_in last from now (Followed end) post desk told h = absurd h
advanced_in last from now (Allocated end) post desk told h = absurd h
advanced_in last from now (Retired life) post desk told h = absurd h

resumed_advances : (last from now : ℕ) (desk : Desk) (post : Post) (told : List Event) (outcome : Outcome) → MoveIn last from now outcome → OutIn last from now (steps.resumed Advances desk post told outcome).outcome
resumed_advances last from now desk post told (Goes base) h = h
resumed_advances last from now desk post told (Ends ending) h = advanced_in last from now ending post desk told h

-- the clock is moved before the scan, or the scan comes at once
tidy_in : (last from now : ℕ) (answer : Answer) (moving : Bool) (post : Post) → is_plain answer ≡ true → PhaseIn last from now (tidy_by moving (Answered answer) post)
tidy_in last from now answer true post q = tt
tidy_in last from now answer false post q = plain_in last from now answer q

tidying_in : (last from now : ℕ) (answer : Answer) (post : Post) (desk : Desk) (told : List Event) (due : Bool) → is_plain answer ≡ true → OutIn last from now (steps.tidying answer post desk told due).outcome
tidying_in last from now answer post desk told true q = tidy_in last from now answer (moves_clock (scheme_of post)) post q
tidying_in last from now answer post desk told false q = plain_in last from now answer q

retired_in : (last from now : ℕ) (answer : Answer) (ending : Ending) (post : Post) (desk : Desk) (told : List Event) → is_plain answer ≡ true → OutIn last from now (steps.retired_by answer ending post desk told).outcome
retired_in last from now answer (Retired life) post desk told q = tidying_in last from now answer post (with_life desk life) told (post.retired % post.layout.config.every == 0) q
retired_in last from now answer Done post desk told q = plain_in last from now answer q
retired_in last from now answer (Protected end) post desk told q = plain_in last from now answer q
retired_in last from now answer (Followed end) post desk told q = plain_in last from now answer q
retired_in last from now answer (Allocated end) post desk told q = plain_in last from now answer q
retired_in last from now answer (Clocked clock) post desk told q = plain_in last from now answer q

resumed_retires : (last from now : ℕ) (answer : Answer) (desk : Desk) (post : Post) (told : List Event) (outcome : Outcome) → is_plain answer ≡ true → OutIn last from now (steps.resumed (Retires answer) desk post told outcome).outcome
resumed_retires last from now answer desk post told (Goes base) q = tt
resumed_retires last from now answer desk post told (Ends ending) q = retired_in last from now answer ending post desk told q

scanned_in : (last from now : ℕ) (answer : Answer) (post : Post) (desk : Desk) (told : List Event) (x : Option scan.Entry) → answer_in last from now answer ≡ true → OutIn last from now (scan.giving_back (Answered answer) post desk told x).outcome
scanned_in last from now answer post desk told None f = f
scanned_in last from now answer post desk told (Some entry) f = f

scan_in : (last from now : ℕ) (answer : Answer) (at : ScanAt) (post : Post) (desk : Desk) (found : ℕ) → answer_in last from now answer ≡ true → OutIn last from now (scan.scan_turn (Answered answer) at post desk found).outcome
scan_in last from now answer (ReadGuard n) post desk found f = by (nat_lt (n + 1) (guards post.layout.config))
  where
    rows : Bool
    rows = publishes_rows post.layout.config.scheme

    guard : Guard
    guard = guard_at post.layout.config n

    seen : Desk
    seen = scan.with_read desk n (guard, published rows guard found)

    by : (more : Bool) → OutIn last from now (scan.reading (Answered answer) n post seen (scan.reads_guard rows guard found ∷ []) more).outcome
    by true = f
    by false = scanned_in last from now answer post seen (scan.reads_guard rows guard found ∷ []) (scan.unmet_from seen 0) f
scan_in last from now answer (GiveBack place slot) post desk found f = scanned_in last from now answer post (scan.with_back desk place) (events.Back slot ∷ []) (scan.unmet_from (scan.with_back desk place) place) f

-- where no move is due, nothing of this is said
calm_clock : (last from now : ℕ) (y : ClockTally) (clock : ClockMove) → y.due ≡ false → outcome_fits last y clock ≡ true → inner_fits last from now clock ≡ true
calm_clock last from now y moves.Still d h = refl
calm_clock last from now y (moves.Moved era) d h = refl
calm_clock last from now y (moves.Other seen) d h = let e : y.due ≡ true = first_of y.due _ h in absurd (cc)
calm_clock last from now y (moves.EraSpent era) d h = let e : y.due ≡ true = first_of y.due _ h in absurd (cc)

calm_change : (by_retires : Bool) (last from now : ℕ) (y : ClockTally) (clock : ClockMove) → y.due ≡ false → change_fits by_retires last y clock ≡ true → inner_fits last from now clock ≡ true
calm_change true last from now y clock d h = calm_clock last from now y clock d h
calm_change false last from now y moves.Still d h = refl
calm_change false last from now y (moves.Moved era) d h = refl
calm_change false last from now y (moves.Other seen) d h = absurd (cc)
calm_change false last from now y (moves.EraSpent era) d h = absurd (cc)

calm_answer : (config : Config) (from now : ℕ) (y : ClockTally) (answer : Answer) → y.due ≡ false → fits_answer config y answer ≡ true → answer_in config.last_era from now answer ≡ true
calm_answer config from now y (the_answers.Done version clock) d h = calm_change (moves_clock config.scheme) config.last_era from now y clock d h
calm_answer config from now y (the_answers.Taken number value clock) d h = calm_change (moves_clock config.scheme) config.last_era from now y clock d h
calm_answer config from now y (the_answers.Clock clock) d h = calm_clock config.last_era from now y clock d h
calm_answer config from now y answer d h = refl

calm_why : (config : Config) (from now : ℕ) (y : ClockTally) (why : Why) (base : Base) → y.due ≡ false → WhyFits config why y → WhyIn from now why base
calm_why config from now y (Tidies (Answered answer)) base d f = let m = f.0 in let e : y.due ≡ true = m.due in absurd (cc)
calm_why config from now y Advances base d f = let e : y.due ≡ true = f.due in absurd (cc)
calm_why config from now y why base d f = tt

calm_out : (config : Config) (from now : ℕ) (y : ClockTally) (outcome : CallOutcome) → y.due ≡ false → OutFits config outcome y → OutIn config.last_era from now outcome
calm_out config from now y (GoesOn Idle) d f = tt
calm_out config from now y (GoesOn (Runs why base)) d f = calm_why config from now y why base d f
calm_out config from now y (GoesOn (Scans (Answered answer) at)) d f = calm_answer config from now y answer d f
calm_out config from now y (GoesOn (Scans (Repeated task) at)) d f = tt
calm_out config from now y (GoesOn (Scans Counted at)) d f = tt
calm_out config from now y (GoesOn (Works work)) d f = tt
calm_out config from now y (Answers answer) d f = calm_answer config from now y answer d f

-- a machine that retires nothing leaves whether a move is due
claim_due : (every birth slot : ℕ) (x : ClockTally) (claimed : Bool) → (along (clock_by every) (claim_front birth slot claimed) x).due ≡ x.due
claim_due every birth slot x true = refl
claim_due every birth slot x false = refl

base_due : (every : ℕ) (x : ClockTally) (base : Base) (found : ℕ) → suits base ToRetire ≡ false → (along (clock_by every) (base_front base found) x).due ≡ x.due
base_due every x (Allocate (ClaimSlot birth walk)) found n = claim_due every birth walk.slot x (allocates.is_claimed found walk.slot)
base_due every x (Retire at) found n = absurd (cc)
base_due every x (Move at) found n = move_due every at found x
base_due every x base found n = refl

-- a kind that is not for retiring
not_retiring : (base : Base) (kind : Kind) → suits base kind ≡ true → retires kind ≡ false → suits base ToRetire ≡ false
not_retiring (Retire at) kind s n = absurd (cc)
not_retiring base kind s n = refl

next_due : (config : Config) (task : Task) (next : Next) (x : ClockTally) → NextFits config task next x → x.due ≡ false
next_due config task Again x f = f
next_due config task MakeRoom x f = f
next_due config task (Answering answer) x f = f.0
next_due config task (Retiring slot answer) x f = f.0

-- what a step needs
pub record Needs (last from now : ℕ) (post : Post) (phase : Phase) (found : ℕ) : Type 0 where
  pub table : post.layout.config.last_era ≡ last
  pub low : (why : Why) (at : MoveAt) → phase ≡ Runs why (Move at) → from ≤ now
  pub loaded : (why : Why) (at : MoveAt) → phase ≡ Runs why (Move at) → loads at ≡ true → found ≡ now

base_move_in : (last from now : ℕ) (why : Why) (base : Base) (post : Post) (found : ℕ) → Needs last from now post (Runs why base) found → BaseIn from now base → MoveIn last from now (machine.after base post found).outcome
base_move_in last from now why (Move at) post found n f = move_in last from now at post found n.table (n.low why at refl) (λ l. n.loaded why at refl l) f
base_move_in last from now why base post found n f = absurd f

run_in : (config : Config) (every from now : ℕ) (x : ClockTally) (why : Why) (base : Base) (post : Post) (desk : Desk) (found : ℕ) → Needs config.last_era from now post (Runs why base) found → suits base (kind_of why) ≡ true → WhyFits config why x → WhyIn from now why base
    → OutFits config (steps.run_turn why desk (machine.after base post found)).outcome (along (clock_by every) (base_front base found) x) → OutIn config.last_era from now (steps.run_turn why desk (machine.after base post found)).outcome
run_in config every from now x (Tidies (Answered answer)) base post desk found n s f w o =
    let t = machine.after base post found in resumed_tidies config.last_era from now answer desk t.post t.told t.outcome f.1 (base_move_in config.last_era from now (Tidies (Answered answer)) base post found n w)
run_in config every from now x Advances base post desk found n s f w o =
    let t = machine.after base post found in resumed_advances config.last_era from now desk t.post t.told t.outcome (base_move_in config.last_era from now Advances base post found n w)
run_in config every from now x (Retires answer) base post desk found n s f w o =
    let t = machine.after base post found in resumed_retires config.last_era from now answer desk t.post t.told t.outcome f.1
run_in config every from now x (Tidies (Repeated task)) base post desk found n s f w o =
    calm_out config from now (along (clock_by every) (base_front base found) x) _ (base_due every x base found (not_retiring base (kind_of (Tidies (Repeated task))) s refl) ∙ (f)) o
run_in config every from now x (Tidies Counted) base post desk found n s f w o =
    calm_out config from now (along (clock_by every) (base_front base found) x) _ (base_due every x base found (not_retiring base (kind_of (Tidies Counted)) s refl) ∙ (f)) o
run_in config every from now x (Opens task) base post desk found n s f w o =
    calm_out config from now (along (clock_by every) (base_front base found) x) _ (base_due every x base found (not_retiring base (kind_of (Opens task)) s refl) ∙ (f)) o
run_in config every from now x (FollowsHead head tail) base post desk found n s f w o =
    calm_out config from now (along (clock_by every) (base_front base found) x) _ (base_due every x base found (not_retiring base (kind_of (FollowsHead head tail)) s refl) ∙ (f)) o
run_in config every from now x (Fills task) base post desk found n s f w o =
    calm_out config from now (along (clock_by every) (base_front base found) x) _ (base_due every x base found (not_retiring base (kind_of (Fills task)) s refl) ∙ (f)) o
run_in config every from now x (ClearsNext next) base post desk found n s f w o =
    calm_out config from now (along (clock_by every) (base_front base found) x) _ (base_due every x base found (not_retiring base (kind_of (ClearsNext next)) s refl) ∙ (next_due config Dequeues next x f)) o
run_in config every from now x (Clears task next) base post desk found n s f w o =
    calm_out config from now (along (clock_by every) (base_front base found) x) _ (base_due every x base found (not_retiring base (kind_of (Clears task next)) s refl) ∙ (next_due config task next x f)) o
run_in config every from now x (Finishes task next) base post desk found n s f w o =
    calm_out config from now (along (clock_by every) (base_front base found) x) _ (base_due every x base found (not_retiring base (kind_of (Finishes task next)) s refl) ∙ (next_due config task next x f)) o
run_in config every from now x (GivesUp answer) base post desk found n s f w o =
    calm_out config from now (along (clock_by every) (base_front base found) x) _ (base_due every x base found (not_retiring base (kind_of (GivesUp answer)) s refl) ∙ (f.0)) o
run_in config every from now x (Releases let_go) base post desk found n s f w o =
    calm_out config from now (along (clock_by every) (base_front base found) x) _ (base_due every x base found (not_retiring base (kind_of (Releases let_go)) s refl) ∙ (f)) o

scan_calm : (every : ℕ) (x : ClockTally) (at : ScanAt) (post : Post) (found : ℕ) → (along (clock_by every) (scan_told at post found) x).due ≡ x.due
scan_calm every x (ReadGuard n) post found = reads_are (λ (event : Event). (along (clock_by every) (event ∷ []) x).due ≡ x.due) (publishes_rows post.layout.config.scheme) (guard_at post.layout.config n) found (λ span. refl) (λ slot. refl)
scan_calm every x (GiveBack place slot) post found = refl

pub turn_in : (config : Config) (every from now : ℕ) (x : ClockTally) (phase : Phase) (post : Post) (desk : Desk) (found : ℕ) → Needs config.last_era from now post phase found → PhaseRight phase post → PhaseFits config phase x → PhaseIn config.last_era from now phase
    → OutFits config (steps.phase_turn phase post desk found).outcome (along (clock_by every) (front phase post found) x) → OutIn config.last_era from now (steps.phase_turn phase post desk found).outcome
turn_in config every from now x Idle post desk found n p f w o = tt
turn_in config every from now x (Runs why base) post desk found n p f w o = run_in config every from now x why base post desk found n p.0 f w o
turn_in config every from now x (Scans (Answered answer) at) post desk found n p f w o = scan_in config.last_era from now answer at post desk found w
turn_in config every from now x (Scans (Repeated task) at) post desk found n p f w o = calm_out config from now (along (clock_by every) (scan_told at post found) x) _ (scan_calm every x at post found ∙ f) o
turn_in config every from now x (Scans Counted at) post desk found n p f w o = calm_out config from now (along (clock_by every) (scan_told at post found) x) _ (scan_calm every x at post found ∙ f) o
turn_in config every from now x (Works work) post desk found n p f w o = calm_out config from now x _ f o

-- a call begins
round_in : (last from now : ℕ) (task : Task) (post : Post) → PhaseIn last from now (round task post)
round_in last from now task post = by (begin_base (scheme_of post) post)
  where
    by : (x : Option Base) → PhaseIn last from now (round_by task post x)
    by None = tt
    by (Some base) = tt

letting_in : (last from now : ℕ) (let_go : LetGo) (post : Post) → PhaseIn last from now (letting let_go post)
letting_in last from now let_go post = by (release_base (scheme_of post) post (let_index let_go))
  where
    by : (x : Option Base) → PhaseIn last from now (letting_by let_go x)
    by None = tt
    by (Some base) = tt

pub first_in : (last from now : ℕ) (call : Call) (post : Post) → PhaseIn last from now (steps.first_phase call post)
first_in last from now (names.Get key) post = round_in last from now (Gets key) post
first_in last from now (names.Put key value) post = round_in last from now _ post
first_in last from now (names.Remove key) post = round_in last from now _ post
first_in last from now (names.Enqueue value) post = round_in last from now _ post
first_in last from now names.Dequeue post = round_in last from now Dequeues post
first_in last from now (names.Hold key) post = held_in (stands post 2)
  where
    held_in : (x : Option ℕ) → PhaseIn last from now (steps.holding key post x)
    held_in None = round_in last from now (Holds key) post
    held_in (Some slot) = letting_in last from now (Rehold key) post
first_in last from now names.Release post = letting_in last from now Released post
first_in last from now names.Advance post = tt
first_in last from now names.Scan post = tt
first_in last from now (names.Copy one other) post = copying_in (stands post one)
  where
    copying_in : (x : Option ℕ) → PhaseIn last from now (steps.copying one other x)
    copying_in None = tt
    copying_in (Some slot) = tt
first_in last from now (names.DropIndex index) post = letting_in last from now (Dropped index) post
first_in last from now (names.Look index key) post = looking_in (stands post index)
  where
    looking_in : (x : Option ℕ) → PhaseIn last from now (steps.looking_at index key x)
    looking_in None = tt
    looking_in (Some slot) = tt
first_in last from now names.Leave post = parts_all (λ (phase : Phase). PhaseIn last from now phase) (record { clears = λ rows index. tt; hides = tt; marks = tt }) post
first_in last from now (names.Adopt place) post = tt
first_in last from now (names.PutIf key value version) post = round_in last from now _ post
