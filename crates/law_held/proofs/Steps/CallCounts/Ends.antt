-- Along a history the steps of each call are counted.
use Rattle.std.proofs.Common.{ℕ, ◌≡◌, ◌<◌, ◌+◌, ◌^◌, Bool, true, false, List, [], ◌∷◌, Option, Some, None, refl, sym, ap, ◌∙◌, subst, arith}
use Rattle.std.proofs.lemmas.Bool.Decides.{nat_tests}
use Rattle.std.specs.Prelude.{◌==◌, ◌&&◌, ◌||◌, ◌*◌, not, nat_le, nat_lt, if◌then◌else◌}
use Rattle.law_scans.specs.inv.model.words.declared.config.Config.{Config}
use Rattle.law_scans.specs.inv.model.words.declared.config.SchemeKind.{SchemeKind}
use Rattle.law_scans.specs.inv.model.words.declared.config.SchemeKind.TheVariants.{Wfe}
use Rattle.law_scans.specs.inv.model.words.declared.layout.Layout.{Layout}
use Rattle.law_scans.specs.inv.model.defs.declared.call.Answer.{Answer}
use Rattle.law_scans.specs.inv.model.defs.declared.call.Call.{Call}
use Rattle.law_scans.specs.inv.model.defs.declared.call.Call.TheVariants as calls
use Rattle.law_scans.specs.inv.model.defs.declared.event.Event.{Event}
use Rattle.law_scans.specs.inv.model.defs.declared.event.Event.TheVariants as events
use Rattle.law_scans.specs.inv.model.declared.post.Post.{Post}
use Rattle.law_scans.specs.inv.model.Desks.{Desk, noting}
use Rattle.law_scans.specs.inv.model.Guards.{guards, guard_at, published as publishes}
use Rattle.law_scans.specs.inv.model.Scan as scans
use Rattle.law_scans.specs.inv.model.Phases.{Base}
use Rattle.law_scans.proofs.reuse.shapes.Kept.{work_counted}
use Rattle.law_scans.specs.inv.model.Locals.{Local, busy_in, begun_post, told_by, told_end, turn, rounds_told, settled_by}
use Rattle.law_scans.specs.inv.model.Phases.Base.{Move}
use Rattle.law_scans.specs.inv.model.Posts.{counted, stands}
use Rattle.law_scans.specs.inv.model.Rest.{rest, move_left}
use Rattle.law_scans.specs.inv.model.Phases.MoveAt.{LoadEra}
use Rattle.law_scans.specs.inv.model.Calls.{Gets, Counted, Advances, Releases, Released, Dropped, Loosens, Keeping, ScanAt, ReadGuard, GiveBack, Phase, Runs, Scans, Works, CallTurn, CallOutcome, GoesOn, Answers}
use Rattle.law_scans.specs.inv.model.Rounds.{scheme_of, letting_by, release_base, move_base, helps, round}
use Rattle.law_scans.specs.inv.model.Steps as steps
use Rattle.law_scans.specs.inv.model.World.{World, begin, finds, is_busy, offered, step, told_in, may_start}
use Rattle.law_scans.proofs.inv.model.Frames.{after_same}
use Rattle.law_scans.proofs.inv.model.Facts.{same_number, first_of, rest_of}
use Rattle.law_scans.specs.inv.model.words.Schemes.{is_wfe, publishes_rows}
use Rattle.law_scans.specs.inv.shapes.Seats.{PhaseFits, Run}
use Rattle.law_scans.specs.inv.shapes.Slots.{PhaseIn}
use Rattle.law_scans.proofs.reuse.shapes.Frame.{seat_stays, seat_steps, begin_stays, begin_begins}
use Rattle.law_scans.specs.laws.records.Record.{Past, Each, tells_of}
use Rattle.law_scans.specs.laws.records.Record.Past.{Then}
use Rattle.law_scans.proofs.laws.records.Entries.{entries_of_each}
use Rattle.law_scans.specs.laws.records.Turns as schedule
use Rattle.law_scans.specs.laws.records.Turns.History.{Starts, Turns}
use Rattle.law_scans.specs.inv.history.History.{Begins, Steps, Made, done}
use Rattle.law_scans.specs.inv.history.History as histories
use Rattle.law_scans.proofs.inv.requests.Paced.{in_time}
use Rattle.law_scans.proofs.inv.requests.Falling.{moves_on}
use Rattle.law_scans.proofs.inv.covers.Held.{stepped_post}
use Rattle.law_scans.specs.inv.Inv.{Inv}
use Rattle.law_scans.specs.laws.StateAt.{began_of, backs_by, backs_of}
use Rattle.law_scans.proofs.reuse.AnswersTold.Answering as answering
use Rattle.law_scans.proofs.inv.Machines.{within_of}
use Rattle.law_scans.proofs.reuse.AnswersTold.Answering.{began_along, first_all, owes_of}
use Rattle.law_scans.proofs.reuse.AnswersTold.Moves.{phase_ends}
use Rattle.law_scans.proofs.reuse.AnswersTold.Owed.{is_open}
use Rattle.law_scans.proofs.reuse.AnswersTold.Owing.{PhaseEnds}
use Rattle.law_scans.proofs.reuse.history.AllOf.{all_of}
use Rattle.law_scans.proofs.reuse.ReadGuards.{reads_are}
use Rattle.law_scans.proofs.reuse.OneStep.Along.{Around, Kept, history_keeps}
use Rattle.law_scans.specs.laws.HistorySteps.{steps_right, end_ok}
use Rattle.law_held.specs.Steps.Records.{RecordsKeepEnds}
use Rattle.law_held.proofs.Steps.CallCounts.Counting.{at_release, at_drop, at_copy, at_look, at_scan, at_advance, at_hold, at_get, call_steps, Out, release_out, drop_out, copy_out, look_out, scan_small, backs_at, scan_out}
use Rattle.law_held.proofs.Steps.CallCounts.Courses.{Facts, wfe_scheme, advance_out, hold_out, get_out}
use Rattle.law_scans.proofs.reuse.Blocks.Placed.{scan_event}
use Rattle.law_scans.proofs.laws.Tells.{tells_both}

-- rows that go back, along what a step tells
abbrev backs_along : List Event → ℕ → ℕ
backs_along [] n = n
backs_along (event ∷ told) n = backs_along told (backs_by event n)

backs_tells : (i : ℕ) (told : List Event) (p : Past) → backs_of i (tells_of p i told) ≡ backs_along told (backs_of i p)
backs_tells i [] p = refl
backs_tells i (event ∷ told) p = backs_tells i told (Then p i event) ∙ ap (backs_along told) (here (i == i) (same_number i))
  where
    here : (same : Bool) → same ≡ true → (if same then backs_by event (backs_of i p) else backs_of i p) ≡ backs_by event (backs_of i p)
    here true e = refl
    here false e = absurd (cc)

backs_stays : (k i : ℕ) (told : List Event) (p : Past) → (k == i) ≡ false → backs_of k (tells_of p i told) ≡ backs_of k p
backs_stays k i [] p e = refl
backs_stays k i (event ∷ told) p e = backs_stays k i told (Then p i event) e ∙ rw e refl

facts_of : (w : World) (i : ℕ) → Inv w → Facts w.layout.config (w.seat i).phase (counted (w.seat i).post) (finds w i)
facts_of w i a =
    let k = a.known in
    let f = k.seats.fits i in
    let p = f.post in
    let t = in_time w i k.seats k.paces in
    let c : scheme_of (w.seat i).post ≡ w.layout.config.scheme = ap (λ (table : Layout). table.config.scheme) p.layout in
    record {
      scheme = c;
      suited = λ why base e. let r : Run w.layout why base (w.seat i).post = subst (PhaseFits w.layout (w.seat i).post) e f.phase in r.suited;
      left = λ why base e. let s = after_same base (counted (w.seat i).post) (finds w i) in ap (λ (table : Layout). table.config.scheme) s.layout ∙ c;
      paced = λ why aim index root made at g e. t.protects why aim index root made at g e;
      reads = λ key at e. let s = k.slots.seats i in subst (PhaseIn w.layout (w.seat i).desk) e s.phase;
    }

abbrev Goal : (w : World) (i : ℕ) (call : Call) (backs m : ℕ) (phase : Phase) → Type 0
Goal w i call backs m phase = Out w.layout.config call backs m (steps.phase_turn phase (counted (w.seat i).post) (offered w i).desk (finds w i)).outcome

abbrev Told_by : (w : World) (i : ℕ) (phase : Phase) → List Event
Told_by w i phase = (steps.phase_turn phase (counted (w.seat i).post) (offered w i).desk (finds w i)).told

giving_tells : (post : Post) (desk : Desk) (told : List Event) (x : Option scans.Entry) → (scans.giving_back Counted post desk told x).told ≡ told
giving_tells post desk told None = refl
giving_tells post desk told (Some entry) = refl

reading_tells : (number : ℕ) (post : Post) (desk : Desk) (told : List Event) (more : Bool) → (scans.reading Counted number post desk told more).told ≡ told
reading_tells number post desk told true = refl
reading_tells number post desk told false = giving_tells post desk told (scans.unmet_from desk 0)

scan_tells : (at : ScanAt) (post : Post) (desk : Desk) (found : ℕ) → (scans.scan_turn Counted at post desk found).told ≡ scan_event at post found ∷ []
scan_tells (ReadGuard number) post desk found =
    reading_tells number post (scans.with_read desk number (guard_at post.layout.config number, publishes (publishes_rows post.layout.config.scheme) (guard_at post.layout.config number) found)) (scan_event (ReadGuard number) post found ∷ []) (nat_lt (number + 1) (guards post.layout.config))
scan_tells (GiveBack place slot) post desk found = giving_tells post (scans.with_back desk place) (events.Back slot ∷ []) (scans.unmet_from (scans.with_back desk place) place)

release_case : (w : World) (i : ℕ) (phase : Phase) (before backs m : ℕ) → Inv w → (w.seat i).phase ≡ phase → (at_release phase && (w.seat i).post.steps == 0) ≡ true → m ≡ (w.seat i).post.steps + 1 → Goal w i calls.Release backs m phase
release_case w i (Runs (Releases Released) base) before backs m a e h q =
    let k = a.known in
    let r : Run w.layout (Releases Released) base (w.seat i).post = subst (PhaseFits w.layout (w.seat i).post) e (k.seats.fits i).phase in
    release_out w.layout.config base (counted (w.seat i).post) (offered w i).desk (finds w i) backs (w.seat i).post.steps m r.suited h q
release_case w i (Works (Keeping (Loosens Released))) before backs m a e h q = grind (arith, nat_tests)
release_case w i phase before backs m a e h q = absurd (cc)

drop_case : (w : World) (i index : ℕ) (phase : Phase) (before backs m : ℕ) → Inv w → (w.seat i).phase ≡ phase → (at_drop phase && (w.seat i).post.steps == 0) ≡ true → m ≡ (w.seat i).post.steps + 1 → Goal w i (calls.DropIndex index) backs m phase
drop_case w i index (Runs (Releases (Dropped own)) base) before backs m a e h q =
    let k = a.known in
    let r : Run w.layout (Releases (Dropped own)) base (w.seat i).post = subst (PhaseFits w.layout (w.seat i).post) e (k.seats.fits i).phase in
    drop_out w.layout.config index own base (counted (w.seat i).post) (offered w i).desk (finds w i) backs (w.seat i).post.steps m r.suited h q
drop_case w i index (Works (Keeping (Loosens (Dropped own)))) before backs m a e h q = grind (arith, nat_tests)
drop_case w i index phase before backs m a e h q = absurd (cc)

copy_case : (w : World) (i from index : ℕ) (phase : Phase) (before backs m : ℕ) → Inv w → (w.seat i).phase ≡ phase → at_copy phase (w.seat i).post.steps ≡ true → m ≡ (w.seat i).post.steps + 1 → Goal w i (calls.Copy from index) backs m phase
copy_case w i from index (Works (Keeping at)) before backs m a e h q =
    let k = a.known in
    let f = k.seats.fits i in
    copy_out w.layout.config from index at (counted (w.seat i).post) (offered w i).desk (finds w i) backs (w.seat i).post.steps m (ap (λ (table : Layout). table.config.scheme) f.post.layout)
    (work_counted (Keeping at) (w.seat i).post (subst (PhaseFits w.layout (w.seat i).post) e f.phase)) h q
copy_case w i from index phase before backs m a e h q = absurd (cc)

look_case : (w : World) (i index key : ℕ) (phase : Phase) (before backs m : ℕ) → Inv w → (w.seat i).phase ≡ phase → at_look phase (w.seat i).post.steps ≡ true → m ≡ (w.seat i).post.steps + 1 → Goal w i (calls.Look index key) backs m phase
look_case w i index key (Works (Keeping at)) before backs m a e h q =
    let k = a.known in
    let s = k.slots.seats i in
    look_out w.layout.config index key at (counted (w.seat i).post) (offered w i).desk (finds w i) backs (w.seat i).post.steps m (subst (PhaseIn w.layout (w.seat i).desk) e s.phase) h q
look_case w i index key phase before backs m a e h q = absurd (cc)

small_of : (c : Config) (layout : Layout) (at : ScanAt) (post : Post) → layout.config ≡ c → PhaseFits layout post (Scans Counted at) → scan_small c at ≡ true
small_of c layout (ReadGuard number) post e h = subst (λ (d : Config). nat_lt number (guards d) ≡ true) e h
small_of c layout (GiveBack place slot) post e h = refl

scan_case : (w : World) (i : ℕ) (phase : Phase) (before backs m : ℕ) → Inv w → (w.seat i).phase ≡ phase → at_scan w.layout.config phase before (w.seat i).post.steps ≡ true → m ≡ (w.seat i).post.steps + 1 → backs ≡ backs_along (Told_by w i phase) before → Goal w i calls.Scan backs m phase
scan_case w i (Scans Counted at) before backs m a e h q b =
    let k = a.known in
    let f = k.seats.fits i in
    scan_out w.layout.config at (counted (w.seat i).post) (offered w i).desk (finds w i) before backs (w.seat i).post.steps m (ap (λ (table : Layout). table.config) f.post.layout)
    (small_of w.layout.config w.layout at (w.seat i).post refl (subst (PhaseFits w.layout (w.seat i).post) e f.phase)) h q (b ∙ told_backs at)
  where
    told_backs : (at : ScanAt) → backs_along (Told_by w i (Scans Counted at)) before ≡ backs_at at before
    told_backs at = ap (λ (es : List Event). backs_along es before) (scan_tells at (counted (w.seat i).post) (offered w i).desk (finds w i)) ∙ one at
      where
        one : (at : ScanAt) → backs_along (scan_event at (counted (w.seat i).post) (finds w i) ∷ []) before ≡ backs_at at before
        one (ReadGuard number) =
            reads_are (λ (event : Event). backs_along (event ∷ []) before ≡ before) (publishes_rows (w.seat i).post.layout.config.scheme) (guard_at (w.seat i).post.layout.config number) (finds w i) (λ span. refl) (λ slot. refl)
        one (GiveBack place slot) = refl
scan_case w i phase before backs m a e h q b = absurd (cc)

advance_case : (w : World) (i : ℕ) (phase : Phase) (before backs m : ℕ) → Inv w → (w.seat i).phase ≡ phase → at_advance w.layout.config phase (w.seat i).post.steps ≡ true → m ≡ (w.seat i).post.steps + 1 → Goal w i calls.Advance backs m phase
advance_case w i (Runs Advances (Move at)) before backs m a e h q =
    let k = a.known in
    let r : Run w.layout Advances (Move at) (w.seat i).post = subst (PhaseFits w.layout (w.seat i).post) e (k.seats.fits i).phase in
    let o = moves_on w i k.valid k.seats in
    let c : PhaseEnds (Runs Advances (Move at)) (counted (w.seat i).post) (finds w i) = subst (λ (phase : Phase). PhaseEnds phase (counted (w.seat i).post) (finds w i)) e (phase_ends w i k.seats) in
    advance_out w.layout.config at (counted (w.seat i).post) (offered w i).desk (finds w i) backs (w.seat i).post.steps m r.fits c (o.falls Advances at e) h q
advance_case w i phase before backs m a e h q = absurd (cc)

free_case : (w : World) (i : ℕ) (call : Call) (backs m : ℕ) (phase : Phase) → ((c : Config) (backs m : ℕ) (phase : Phase) → call_steps c call phase backs m ≡ true) → ((c : Config) (backs m : ℕ) (answer : Answer) → steps_right c call backs answer m ≡ true) → Goal w i call backs m phase
free_case w i call backs m phase f g = by (steps.phase_turn phase (counted (w.seat i).post) (offered w i).desk (finds w i)).outcome
  where
    by : (outcome : CallOutcome) → Out w.layout.config call backs m outcome
    by (GoesOn next) = f w.layout.config backs m next
    by (Answers answer) = g w.layout.config backs m answer

call_case : (w : World) (i : ℕ) (call : Call) (before backs m : ℕ) → Inv w → (w.seat i).post.steps < 2 ^ 62 → call_steps w.layout.config call (w.seat i).phase before (w.seat i).post.steps ≡ true → m ≡ (w.seat i).post.steps + 1 → backs ≡ backs_along (Told_by w i (w.seat i).phase) before → Goal w i call backs m (w.seat i).phase
call_case w i calls.Release before backs m a l h q b = release_case w i (w.seat i).phase before backs m a refl h q
call_case w i (calls.DropIndex index) before backs m a l h q b = drop_case w i index (w.seat i).phase before backs m a refl h q
call_case w i (calls.Copy from index) before backs m a l h q b = copy_case w i from index (w.seat i).phase before backs m a refl h q
call_case w i (calls.Look index key) before backs m a l h q b = look_case w i index key (w.seat i).phase before backs m a refl h q
call_case w i calls.Leave before backs m a l h q b = free_case w i calls.Leave backs m (w.seat i).phase (λ c b n p. refl) (λ c b n r. refl)
call_case w i (calls.Adopt place) before backs m a l h q b = free_case w i (calls.Adopt place) backs m (w.seat i).phase (λ c b n p. refl) (λ c b n r. refl)
call_case w i (calls.PutIf key value version) before backs m a l h q b = free_case w i (calls.PutIf key value version) backs m (w.seat i).phase (λ c b n p. refl) (λ c b n r. refl)
call_case w i calls.Scan before backs m a l h q b = scan_case w i (w.seat i).phase before backs m a refl h q b
call_case w i calls.Advance before backs m a l h q b = advance_case w i (w.seat i).phase before backs m a refl h q
call_case w i (calls.Hold key) before backs m a l h q b = hold_out w.layout.config key (w.seat i).phase (counted (w.seat i).post) (offered w i).desk (finds w i) backs (w.seat i).post.steps m (facts_of w i a) l h q
call_case w i (calls.Get key) before backs m a l h q b = get_out w.layout.config key (w.seat i).phase (counted (w.seat i).post) (offered w i).desk (finds w i) backs (w.seat i).post.steps m (facts_of w i a) l h q
call_case w i (calls.Put key value) before backs m a l h q b = free_case w i (calls.Put key value) backs m (w.seat i).phase (λ c b n p. refl) (λ c b n r. refl)
call_case w i (calls.Remove key) before backs m a l h q b = free_case w i (calls.Remove key) backs m (w.seat i).phase (λ c b n p. refl) (λ c b n r. refl)
call_case w i (calls.Enqueue value) before backs m a l h q b = free_case w i (calls.Enqueue value) backs m (w.seat i).phase (λ c b n p. refl) (λ c b n r. refl)
call_case w i calls.Dequeue before backs m a l h q b = free_case w i calls.Dequeue backs m (w.seat i).phase (λ c b n p. refl) (λ c b n r. refl)

-- the entries of a step
open_one : (c : Config) (i : ℕ) (p : Past) (event : Event) → is_open event ≡ true → end_ok c p i event ≡ true
open_one c i p (events.End n answer) h = absurd (cc)
open_one c i p event h = refl

open_each : (c : Config) (i : ℕ) (told : List Event) (p : Past) → all_of is_open told ≡ true → Each (end_ok c) p → Each (end_ok c) (tells_of p i told)
open_each c i [] p h g = g
open_each c i (event ∷ told) p h g = open_each c i told (Then p i event) (rest_of (is_open event) (all_of is_open told) h) (open_one c i p event (first_of (is_open event) (all_of is_open told) h), g)

end_each : (c : Config) (i : ℕ) (call : Call) (p : Past) (post : Post) (outcome : CallOutcome) → began_of i p ≡ Some call → Out c call (backs_of i p) post.steps outcome → Each (end_ok c) p → Each (end_ok c) (tells_of p i (told_end post outcome))
end_each c i call p post (GoesOn phase) e o g = g
end_each c i call p post (Answers answer) e o g = (rw e o, g)

step_each : (c : Config) (i : ℕ) (call : Call) (p : Past) (t : CallTurn) → began_of i (tells_of p i t.told) ≡ Some call → Out c call (backs_along t.told (backs_of i p)) t.post.steps t.outcome → all_of is_open t.told ≡ true → Each (end_ok c) p → Each (end_ok c) (tells_of p i (told_by t))
step_each c i call p t e o h g =
    subst (λ (r : Past). Each (end_ok c) r) (sym (tells_both i t.told (told_end t.post t.outcome) p))
    (end_each c i call (tells_of p i t.told) t.post t.outcome e (subst (λ (b : ℕ). Out c call b t.post.steps t.outcome) (sym (backs_tells i t.told p)) o) (open_each c i t.told p h g))

-- along a history
abbrev SeatCounts : Config → ℕ → Local → Type 0
SeatCounts c backs l = busy_in l.phase ≡ true → call_steps c l.call l.phase backs l.post.steps ≡ true

record Counts (layout : Layout) (made : Made) (h : schedule.History) : Type 0 where
  answers : answering.Keeps layout.config.buckets made
  table : made.world.layout ≡ layout
  seats : (k : ℕ) → SeatCounts made.world.layout.config (backs_of k made.past) (made.world.seat k)
  law : Each (end_ok layout.config) made.past

end_backs : (post : Post) (outcome : CallOutcome) (n : ℕ) → backs_along (told_end post outcome) n ≡ n
end_backs post (GoesOn phase) n = refl
end_backs post (Answers answer) n = refl

settled_counts : (c : Config) (backs : ℕ) (l : Local) (post : Post) (desk : Desk) (rounds : ℕ) (outcome : CallOutcome) → Out c l.call backs post.steps outcome → SeatCounts c backs (settled_by l post desk rounds outcome)
settled_counts c backs l post desk rounds (GoesOn phase) o = λ b. o
settled_counts c backs l post desk rounds (Answers answer) o = λ b. absurd (cc)

low_of : (n m : ℕ) → n + m < 2 ^ 62 → n < 2 ^ 62
low_of n m h = omega (h, arith)

turn_out : (layout : Layout) (made : Made) (h : schedule.History) (i : ℕ) → Around made h → is_busy made.world i ≡ true → Counts layout made h
    → Out made.world.layout.config (made.world.seat i).call (backs_along (turn (offered made.world i) (finds made.world i)).told (backs_of i made.past)) (turn (offered made.world i) (finds made.world i)).post.steps (turn (offered made.world i) (finds made.world i)).outcome
turn_out layout made h i a y g =
    let w : World = made.world in
    let t : CallTurn = turn (offered w i) (finds w i) in
    let m : t.post.steps ≡ (w.seat i).post.steps + 1 = sym (ap (λ (post : Post). post.steps) (stepped_post w i)) ∙ a.more i y in
    call_case w i (w.seat i).call (backs_of i made.past) (backs_along t.told (backs_of i made.past)) t.post.steps a.known (low_of (w.seat i).post.steps (rest w i) (a.few i y)) (g.seats i y) m refl

step_own : (layout : Layout) (made : Made) (h : schedule.History) (i : ℕ) → Around made h → is_busy made.world i ≡ true → Counts layout made h → SeatCounts made.world.layout.config (backs_of i (tells_of made.past i (told_in made.world i))) ((step made.world i).seat i)
step_own layout made h i a y g =
    let w : World = made.world in
    let t : CallTurn = turn (offered w i) (finds w i) in
    let o = turn_out layout made h i a y g in
    let b : backs_of i (tells_of made.past i (told_in w i)) ≡ backs_along t.told (backs_of i made.past) = ap (backs_of i) (tells_both i t.told (told_end t.post t.outcome) made.past) ∙ backs_tells i (told_end t.post t.outcome) (tells_of made.past i t.told) ∙ end_backs t.post t.outcome (backs_of i (tells_of made.past i t.told)) ∙ backs_tells i t.told made.past in
    subst (λ (n : ℕ). SeatCounts w.layout.config n ((step w i).seat i)) (sym b)
    (subst (λ (l : Local). SeatCounts w.layout.config (backs_along t.told (backs_of i made.past)) l) (sym (seat_steps w i))
    (settled_counts w.layout.config (backs_along t.told (backs_of i made.past)) (offered w i) t.post (noting t.desk (told_by t)) (rounds_told (publishes_rows (scheme_of t.post)) (offered w i).rounds (told_by t)) t.outcome o))

step_seats : (layout : Layout) (made : Made) (h : schedule.History) (i k : ℕ) (same : Bool) → (k == i) ≡ same → Around made h → is_busy made.world i ≡ true → Counts layout made h → SeatCounts made.world.layout.config (backs_of k (tells_of made.past i (told_in made.world i))) ((step made.world i).seat k)
step_seats layout made h i k true e a y g =
    let one : k ≡ i = grind (arith, nat_tests) in
    subst (λ (m : ℕ). SeatCounts made.world.layout.config (backs_of m (tells_of made.past i (told_in made.world i))) ((step made.world i).seat m)) (sym one) (step_own layout made h i a y g)
step_seats layout made h i k false e a y g =
    let w : World = made.world in
    subst (λ (n : ℕ). SeatCounts w.layout.config n ((step w i).seat k)) (sym (backs_stays k i (told_in w i) made.past e))
    (subst (λ (l : Local). SeatCounts w.layout.config (backs_of k made.past) l) (sym (seat_stays w i k e)) (g.seats k))

step_law : (layout : Layout) (made : Made) (h : schedule.History) (i : ℕ) → Around made h → is_busy made.world i ≡ true → Counts layout made h → Each (end_ok layout.config) (tells_of made.past i (told_in made.world i))
step_law layout made h i a y g =
    let w : World = made.world in
    let t : CallTurn = turn (offered w i) (finds w i) in
    let s = g.answers in
    let r = s.seats i in
    let o = owes_of layout.config.buckets w i s.table a.known (r.serves y) in
    let told = o.told in
    let within = first_all _ t.told (told_end t.post t.outcome) (within_of w i) in
    let c : w.layout.config ≡ layout.config = ap (λ (table : Layout). table.config) g.table in
    step_each layout.config i (w.seat i).call made.past t (began_along i t.told made.past within ∙ r.began y)
    (subst (λ (d : Config). Out d (w.seat i).call (backs_along t.told (backs_of i made.past)) t.post.steps t.outcome) c (turn_out layout made h i a y g)) told.goes g.law

step_kept : (layout : Layout) (made : Made) (h : schedule.History) (i : ℕ) → Around made h → i < made.world.layout.config.seats → is_busy made.world i ≡ true → Counts layout made h → Counts layout (done made (Steps i)) (Turns h i (told_in made.world i))
step_kept layout made h i a b y g = record {
  answers = answering.step_keeps layout.config.buckets made i b y g.answers;
  table = g.table;
  seats = λ k. step_seats layout made h i k (k == i) refl a y g;
  law = step_law layout made h i a y g;
}

-- a call begins
release_first : (x : Option Base) → (at_release (letting_by Released x) && true) ≡ true
release_first None = refl
release_first (Some base) = refl

drop_first : (index : ℕ) (x : Option Base) → (at_drop (letting_by (Dropped index) x) && true) ≡ true
drop_first index None = refl
drop_first index (Some base) = refl

copy_first : (from index : ℕ) (x : Option ℕ) → at_copy (steps.copying from index x) 0 ≡ true
copy_first from index None = refl
copy_first from index (Some slot) = refl

look_first : (index key : ℕ) (x : Option ℕ) → at_look (steps.looking_at index key x) 0 ≡ true
look_first index key None = refl
look_first index key (Some slot) = refl

hold_first : (c : Config) (key : ℕ) (post : Post) (x : Option ℕ) → scheme_of post ≡ c.scheme → (not (is_wfe c.scheme) || at_hold c (steps.holding key post x) 0) ≡ true
hold_first c key post x e = by (is_wfe c.scheme) refl
  where
    held : (x : Option ℕ) → scheme_of post ≡ Wfe → at_hold c (steps.holding key post x) 0 ≡ true
    held None s = rw s refl
    held (Some slot) s = rw s refl

    by : (helped : Bool) → is_wfe c.scheme ≡ helped → (not helped || at_hold c (steps.holding key post x) 0) ≡ true
    by true f = held x (e ∙ wfe_scheme c.scheme f)
    by false f = refl

get_first : (c : Config) (key : ℕ) (post : Post) → scheme_of post ≡ c.scheme → (not (is_wfe c.scheme) || at_get c (round (Gets key) post) 0) ≡ true
get_first c key post e = by (is_wfe c.scheme) refl
  where
    got : scheme_of post ≡ Wfe → at_get c (round (Gets key) post) 0 ≡ true
    got s = rw s refl

    by : (helped : Bool) → is_wfe c.scheme ≡ helped → (not helped || at_get c (round (Gets key) post) 0) ≡ true
    by true f = got (e ∙ wfe_scheme c.scheme f)
    by false f = refl

advance_first : (c : Config) (scheme : SchemeKind) → at_advance c (Runs Advances (move_base scheme)) 0 ≡ true
advance_first c scheme = by (is_wfe c.scheme)
  where
    by : (helped : Bool) → (if helped then nat_le (0 + move_left (LoadEra (helps scheme)) c) (7 * c.seats + 3) else true) ≡ true
    by true = grind (arith, nat_tests)
    by false = refl

first_counts : (c : Config) (call : Call) (post : Post) → scheme_of post ≡ c.scheme → call_steps c call (steps.first_phase call post) 0 0 ≡ true
first_counts c calls.Release post e = release_first (release_base (scheme_of post) post 2)
first_counts c (calls.DropIndex index) post e = drop_first index (release_base (scheme_of post) post index)
first_counts c (calls.Copy from index) post e = copy_first from index (stands post from)
first_counts c (calls.Look index key) post e = look_first index key (stands post index)
first_counts c calls.Leave post e = refl
first_counts c (calls.Adopt place) post e = refl
first_counts c (calls.PutIf key value version) post e = refl
first_counts c calls.Scan post e = refl
first_counts c calls.Advance post e = advance_first c (scheme_of post)
first_counts c (calls.Hold key) post e = hold_first c key post (stands post 2) e
first_counts c (calls.Get key) post e = get_first c key post e
first_counts c (calls.Put key value) post e = refl
first_counts c (calls.Remove key) post e = refl
first_counts c (calls.Enqueue value) post e = refl
first_counts c calls.Dequeue post e = refl

begin_seats : (layout : Layout) (made : Made) (h : schedule.History) (i k : ℕ) (call : Call) (same : Bool) → (k == i) ≡ same → Around made h → Counts layout made h → SeatCounts made.world.layout.config (backs_of k (Then made.past i (events.Begin call))) ((begin made.world i call).seat k)
begin_seats layout made h i k call true e a g =
    let one : k ≡ i = grind (arith, nat_tests) in
    let w : World = made.world in
    let n = a.known.known in
    let f = n.seats.fits i in
    let c : scheme_of (begun_post (w.seat i).post) ≡ w.layout.config.scheme = ap (λ (table : Layout). table.config.scheme) f.post.layout in
    let z : backs_of i (Then made.past i (events.Begin call)) ≡ 0 = rw (same_number i) refl in
    subst (λ (m : ℕ). SeatCounts w.layout.config (backs_of m (Then made.past i (events.Begin call))) ((begin w i call).seat m)) (sym one)
    (subst (λ (b : ℕ). SeatCounts w.layout.config b ((begin w i call).seat i)) (sym z)
    (subst (λ (l : Local). SeatCounts w.layout.config 0 l) (sym (begin_begins w i call)) (λ y. first_counts w.layout.config call (begun_post (w.seat i).post) c)))
begin_seats layout made h i k call false e a g =
    let w : World = made.world in
    subst (λ (l : Local). SeatCounts w.layout.config (backs_of k (Then made.past i (events.Begin call))) l) (sym (begin_stays w i k call e)) (λ y. rw e (g.seats k y))

begin_kept : (layout : Layout) (made : Made) (h : schedule.History) (i : ℕ) (call : Call) → Around made h → is_busy made.world i ≡ false → may_start made.world i call ≡ true → Counts layout made h → Counts layout (done made (Begins i call)) (Starts h i call)
begin_kept layout made h i call a f m g = record {
  answers = answering.begin_keeps layout.config.buckets made i call f m g.answers;
  table = g.table;
  seats = λ k. begin_seats layout made h i k call (k == i) refl a g;
  law = (refl, g.law);
}

kept : (layout : Layout) → Kept (Counts layout)
kept layout = record { begins = λ made h i call a b f m g. begin_kept layout made h i call a f m g; steps = λ made h i a b y g. step_kept layout made h i a b y g }

pub records_keep_ends : RecordsKeepEnds
records_keep_ends layout items d =
    let g = history_keeps layout (Counts layout) (kept layout) d items (record { answers = answering.first_keeps layout d; table = refl; seats = λ k b. absurd (cc); law = tt }) in
    entries_of_each (end_ok layout.config) (histories.record_of layout items) g.law
