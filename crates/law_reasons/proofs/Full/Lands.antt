-- What each step makes of a call's search for a row: what fits where the call stood fits where it comes to.
use Rattle.std.proofs.Common.{ℕ, ◌≡◌, ◌≤◌, ◌<◌, ◌+◌, ◌%◌, Bool, true, false, List, [], ◌∷◌, Option, Some, None, refl, sym, ap, ◌∙◌, subst, arith}
use Rattle.std.proofs.lemmas.Bool.Decides.{nat_tests}
use Rattle.std.specs.Prelude.{◌==◌, nat_lt, if◌then◌else◌}
use Rattle.law_scans.specs.inv.model.defs.declared.event.Guard.{Guard}
use Rattle.law_scans.specs.inv.model.defs.declared.lifetime.Interval.{Interval}
use Rattle.law_scans.specs.inv.model.words.declared.config.Config.{Config}
use Rattle.law_scans.specs.inv.model.defs.declared.call.Answer.{Answer}
use Rattle.law_scans.specs.inv.model.defs.declared.call.Answer.TheVariants as the_answers
use Rattle.law_scans.specs.inv.model.defs.declared.call.Call.{Call}
use Rattle.law_scans.specs.inv.model.defs.declared.call.Call.TheVariants as names
use Rattle.law_scans.specs.inv.model.defs.declared.call.ClockMove.{ClockMove}
use Rattle.law_scans.specs.inv.model.defs.declared.event.Event.{Event}
use Rattle.law_scans.specs.inv.model.defs.declared.event.Event.TheVariants as events
use Rattle.law_scans.specs.inv.model.declared.ends.AllocateEnd.TheVariants as allocate_ends
use Rattle.law_scans.specs.inv.model.declared.post.Post.{Post}
use Rattle.law_scans.specs.inv.model.Allocate as allocates
use Rattle.law_scans.specs.inv.model.Change as alters
use Rattle.law_scans.specs.inv.model.Desks.{Desk, with_life}
use Rattle.law_scans.specs.inv.model.Enqueue as enqueues
use Rattle.law_scans.specs.inv.model.Guards.{guards, guard_at, published}
use Rattle.law_scans.specs.inv.model.words.Schemes.{moves as moves_clock, publishes_rows}
use Rattle.law_scans.proofs.reuse.ReadGuards.{reads_are}
use Rattle.law_scans.specs.inv.model.Machine as machine
use Rattle.law_scans.specs.inv.model.Posts.{stands}
use Rattle.law_scans.specs.inv.model.Rounds.{let_index, letting, letting_by, release_base, scheme_of, with_clock}
use Rattle.law_scans.specs.inv.model.Scan as scan
use Rattle.law_scans.specs.inv.model.Steps as steps
use Rattle.law_scans.specs.inv.model.WriteRow.{last_written}
use Rattle.law_scans.specs.inv.model.Phases.{RowOf, Walk, AllocateAt, MoveAt, Base, Ending, Outcome, Goes, Ends}
use Rattle.law_scans.specs.inv.model.Phases.MoveAt.{ExchangeClock}
use Rattle.law_scans.specs.inv.model.Phases.AllocateAt.{LoadBirth, ClaimSlot, StoreLife}
use Rattle.law_scans.specs.inv.model.Phases.RetireAt.{LoadLife, LoadRetire, StoreRetired}
use Rattle.law_scans.specs.inv.model.Phases.Base.{Allocate, Write, Retire, Move}
use Rattle.law_scans.specs.inv.model.Phases.Ending.{Done, Protected, Followed, Allocated, Retired, Clocked}
use Rattle.law_scans.proofs.Leaving.{parts_all}
use Rattle.law_scans.specs.inv.model.Calls.{Task, Gets, Changes, Holds, Enqueues, Dequeues, Next, Again, MakeRoom, Answering, Retiring, AfterScan, Answered, Repeated, Counted, LoadNumber, LoadNext, PassTail, ExchangeNext, ExchangeTail, Work, Getting, Changing, Enqueuing, Dequeuing, Keeping, LetGo, Released, Rehold, Dropped, ScanAt, ReadGuard, GiveBack, Why, Opens, FollowsHead, Fills, ClearsNext, Clears, Finishes, GivesUp, Retires, Tidies, Advances, Releases, Phase, Idle, Runs, Scans, Works, CallOutcome, GoesOn, Answers}
use Rattle.law_scans.specs.inv.shapes.Seats.{Kind, ToOpen, ToFollow, ToClear, ToFinish, ToRelease, ToGiveUp, ToFill, ToRetire, ToMove, kind_of, suits, fills, retires, scan_fits}
use Rattle.law_scans.specs.inv.rows.Hands.{task_fills, runs_right}
use Rattle.law_scans.proofs.laws.Along.{along}
use Rattle.law_scans.proofs.inv.history.Passes.{scan_told}
use Rattle.law_scans.proofs.DueScans.Lands.{PhaseRight}
use Rattle.law_scans.proofs.DueScans.Still.{claim_front, tick_front, base_front, front}
use Rattle.law_scans.specs.laws.HistoryScans.{Search, search_by, seeks_row}
use Rattle.law_reasons.proofs.Full.Ties.{Now, parts_fit, tidy_fits, is_full, is_walked, reads_in, reads_at, OutcomeSure, WorkSure, TaskFits, WalkFits, RoomFits, FullFits, AnswerFits, NextFits, LaterFits, FillFits, WhyFits, WorkFits, PhaseFits, OutFits, other_task, round_fits, closed_fits, clearing_fits, work_fits, resumed_opens, resumed_follows, resumed_next, resumed_clears, resumed_finishes, resumed_gives, resumed_releases}

-- a row is filled
written_fits : (c : Config) (task : Task) (post : Post) (desk : Desk) (told : List Event) (z : Now) → TaskFits c task z → OutFits c (steps.written_row task post desk told).outcome z
written_fits c (Changes kept) post desk told z f = f
written_fits c (Enqueues kept) post desk told z f = f
written_fits c (Gets key) post desk told z f = closed_fits c (Gets key) Again post desk told z f
written_fits c (Holds key) post desk told z f = closed_fits c (Holds key) Again post desk told z f
written_fits c Dequeues post desk told z f = closed_fits c Dequeues Again post desk told z f

-- each row was seen taken by the walk that failed
abbrev pub SeesFull : Config → Now → Type 0
SeesFull c z = (s : ℕ) → s ≤ c.slots → z.since s ≡ true

-- a row taken after the call's last entry of a scan was taken at a position of the call
abbrev pub Within : Now → Type 0
Within z = (s : ℕ) → z.since s ≡ true → z.was s ≡ true

no_room_fits : (c : Config) (task : Task) (walked : Bool) (z : Now) → z.fits ≡ true → is_walked task ≡ true → z.search.seeks ≡ true → z.search.reads ≡ (if walked then guards c else 0) → SeesFull c z → Within z → NextFits c task (alters.no_room walked) z
no_room_fits c task true z d w k r a u = λ h. record { seeks = k; reads = r; since = a; fits = d }
no_room_fits c task false z d w k r a u = record { seeks = k; reads = r; walked = w; was = λ s l. u s (a s l) }

full_fits : (c : Config) (task : Task) (post : Post) (desk : Desk) (told : List Event) (at : AllocateAt) (z : Now) → task_fills task (Allocate at) ≡ true → WalkFits c task z → SeesFull c z → Within z → OutFits c (steps.filled_by task allocate_ends.Full post desk told).outcome z
full_fits c (Changes kept) post desk told at z h f a u =
    clearing_fits c (Changes (alters.with_walked kept)) (alters.no_room kept.walked) post desk told z
    (no_room_fits c (Changes (alters.with_walked kept)) kept.walked z f.fits refl (f.tie.seeks h) (f.tie.reads refl) a u)
full_fits c (Enqueues kept) post desk told at z h f a u =
    clearing_fits c (Enqueues (enqueues.item_walked kept)) (alters.no_room kept.walked) post desk told z
    (no_room_fits c (Enqueues (enqueues.item_walked kept)) kept.walked z f.fits refl (f.tie.seeks h) (f.tie.reads refl) a u)
full_fits c (Gets key) post desk told at z h f a u = absurd (cc)
full_fits c (Holds key) post desk told at z h f a u = absurd (cc)
full_fits c Dequeues post desk told at z h f a u = absurd (cc)

filled_reads : (c : Config) (task : Task) (at : AllocateAt) (z : Now) → task_fills task (Allocate at) ≡ true → WalkFits c task z → z.search.reads ≡ reads_in (guards c) task
filled_reads c (Changes kept) at z h f = f.tie.reads refl
filled_reads c (Enqueues kept) at z h f = f.tie.reads refl
filled_reads c (Gets key) at z h f = absurd (cc)
filled_reads c (Holds key) at z h f = absurd (cc)
filled_reads c Dequeues at z h f = absurd (cc)

given_fits : (c : Config) (task : Task) (slot birth : ℕ) (post : Post) (desk : Desk) (told : List Event) (at : AllocateAt) (z : Now) → task_fills task (Allocate at) ≡ true → z.search.reads ≡ reads_in (guards c) task → OutFits c (steps.filled_by task (allocate_ends.Given slot birth) post desk told).outcome z
given_fits c (Changes kept) slot birth post desk told at z h r = record { seeks = λ s. absurd (cc); reads = λ s. r }
given_fits c (Enqueues kept) slot birth post desk told at z h r = record { seeks = λ s. absurd (cc); reads = λ s. r }
given_fits c (Gets key) slot birth post desk told at z h r = absurd (cc)
given_fits c (Holds key) slot birth post desk told at z h r = absurd (cc)
given_fits c Dequeues slot birth post desk told at z h r = absurd (cc)

walking_fits : (c : Config) (task : Task) (desk : Desk) (birth : ℕ) (post : Post) (x : Option Walk) (at : AllocateAt) (z : Now) → task_fills task (Allocate at) ≡ true → WalkFits c task z → ((allocates.walking birth post x).outcome ≡ Ends (Allocated allocate_ends.Full) → SeesFull c z) → Within z → OutFits c (steps.run_turn (Fills task) desk (allocates.walking birth post x)).outcome z
walking_fits c task desk birth post None at z h f a u = full_fits c task post desk [] at z h f (a refl) u
walking_fits c task desk birth post (Some walk) at z h f a u = f

-- the search after an event
abbrev pub now_by : Event → Now → Now
now_by event z = record { search = search_by event z.search; was = z.was; since = z.since; fits = z.fits }

-- the search after what a step tells first
abbrev pub after_first : List Event → Now → Now
after_first first z = along now_by first z

-- where a walk ends with Full, each row was seen taken
abbrev pub FullSees : Config → Phase → Post → (found : ℕ) → Now → Type 0
FullSees c (Runs why (Allocate (ClaimSlot birth walk))) post found z = (machine.after (Allocate (ClaimSlot birth walk)) post found).outcome ≡ Ends (Allocated allocate_ends.Full) → SeesFull c z
FullSees c phase post found z = Unit {0}

claim_fits : (c : Config) (task : Task) (birth : ℕ) (walk : Walk) (post : Post) (desk : Desk) (found : ℕ) (claimed : Bool) (z : Now) → allocates.is_claimed found walk.slot ≡ claimed → task_fills task (Allocate (ClaimSlot birth walk)) ≡ true → WalkFits c task z
    → ((machine.after (Allocate (ClaimSlot birth walk)) post found).outcome ≡ Ends (Allocated allocate_ends.Full) → SeesFull c z) → Within z
    → OutFits c (steps.run_turn (Fills task) desk (machine.after (Allocate (ClaimSlot birth walk)) post found)).outcome (after_first (claim_front birth walk.slot claimed) z)
claim_fits c task birth walk post desk found true z e h f a u =
    let b : (allocates.walking birth post (allocates.walk_past post.layout.config.slots walk found)).outcome ≡ Ends (Allocated allocate_ends.Full) → SeesFull c z = λ full. a (rw e full) in
    rw e (walking_fits c task desk birth post (allocates.walk_past post.layout.config.slots walk found) (ClaimSlot birth walk) z h f b u)
claim_fits c task birth walk post desk found false z e h f a u = rw e (filled_reads c task (ClaimSlot birth walk) z h f)

write_fits : (c : Config) (task : Task) (desk : Desk) (slot place : ℕ) (row : RowOf) (post : Post) (found : ℕ) (last : Bool) (z : Now) → (place == last_written row) ≡ last → TaskFits c task z → OutFits c (steps.run_turn (Fills task) desk (machine.after (Write slot row place) post found)).outcome z
write_fits c task desk slot place row post found true z e f = rw e (written_fits c task post desk [] z f)
write_fits c task desk slot place row post found false z e f = rw e f

fills_fits : (c : Config) (z : Now) (task : Task) (base : Base) (post : Post) (desk : Desk) (found : ℕ) → task_fills task base ≡ true → suits base ToFill ≡ true → FillFits c task base z → FullSees c (Runs (Fills task) base) post found z → Within z
    → OutFits c (steps.run_turn (Fills task) desk (machine.after base post found)).outcome (after_first (base_front base found) z)
fills_fits c z task (Allocate LoadBirth) post desk found h s f a u = f
fills_fits c z task (Allocate (ClaimSlot birth walk)) post desk found h s f a u =
    claim_fits c task birth walk post desk found (allocates.is_claimed found walk.slot) z refl h f a u
fills_fits c z task (Allocate (StoreLife birth slot)) post desk found h s f a u = given_fits c task slot birth post desk [] (StoreLife birth slot) z h f
fills_fits c z task (Write slot row place) post desk found h s f a u = write_fits c task desk slot place row post found (place == last_written row) z refl f
fills_fits c z task base post desk found h s f a u = absurd (cc)

-- a row is retired
tidying_fits : (c : Config) (answer : Answer) (post : Post) (desk : Desk) (told : List Event) (due : Bool) (z : Now) → z.search.seeks ≡ false → is_full answer ≡ false → OutFits c (steps.tidying answer post desk told due).outcome z
tidying_fits c answer post desk told true z k n = tidy_fits c (Answered answer) (moves_clock (scheme_of post)) post z (k, n)
tidying_fits c answer post desk told false z k n = λ h. absurd (cc)

retires_fits : (c : Config) (z : Now) (answer : Answer) (base : Base) (post : Post) (desk : Desk) (found : ℕ) → suits base ToRetire ≡ true → is_full answer ≡ false
    → OutFits c (steps.run_turn (Retires answer) desk (machine.after base post found)).outcome (after_first (base_front base found) z)
retires_fits c z answer (Retire (LoadLife slot)) post desk found s n = n
retires_fits c z answer (Retire (LoadRetire slot birth)) post desk found s n = n
retires_fits c z answer (Retire (StoreRetired slot birth retire)) post desk found s n =
    let t = machine.after (Retire (StoreRetired slot birth retire)) post found in
    tidying_fits c answer t.post (with_life desk (record { slot = slot; birth = birth; retire = retire })) t.told (t.post.retired % t.post.layout.config.every == 0) (after_first (events.Retire slot birth retire ∷ []) z) refl n
retires_fits c z answer base post desk found s n = absurd (cc)

-- the clock is moved
clock_full : (answer : Answer) (clock : ClockMove) → is_full answer ≡ false → is_full (with_clock answer clock) ≡ false
clock_full (the_answers.Done version old) clock n = refl
clock_full (the_answers.Taken number value old) clock n = refl
clock_full answer clock n = n

move_later : (c : Config) (later : AfterScan) (clock : ClockMove) (z : Now) → LaterFits c 0 later z → LaterFits c 0 (steps.after_move later clock) z
move_later c (Answered answer) clock z f = (f.0, clock_full answer clock f.1)
move_later c (Repeated task) clock z f = f
move_later c Counted clock z f = f

tidied_fits : (c : Config) (later : AfterScan) (ending : Ending) (post : Post) (desk : Desk) (told : List Event) (z : Now) → LaterFits c 0 later z → OutFits c (steps.tidied later ending post desk told).outcome z
tidied_fits c later (Clocked clock) post desk told z f = move_later c later clock z f
tidied_fits c later Done post desk told z f = f
tidied_fits c later (Protected end) post desk told z f = f
tidied_fits c later (Followed end) post desk told z f = f
tidied_fits c later (Allocated end) post desk told z f = f
tidied_fits c later (Retired life) post desk told z f = f

resumed_tidies : (c : Config) (later : AfterScan) (desk : Desk) (post : Post) (told : List Event) (outcome : Outcome) (z : Now) → LaterFits c 0 later z → OutFits c (steps.resumed (Tidies later) desk post told outcome).outcome z
resumed_tidies c later desk post told (Goes base) z f = f
resumed_tidies c later desk post told (Ends ending) z f = tidied_fits c later ending post desk told z f

advanced_fits : (c : Config) (ending : Ending) (post : Post) (desk : Desk) (told : List Event) (z : Now) → OutFits c (steps.advanced ending post desk told).outcome z
advanced_fits c (Clocked clock) post desk told z = λ h. absurd (cc)
advanced_fits c Done post desk told z = tt
advanced_fits c (Protected end) post desk told z = tt
advanced_fits c (Followed end) post desk told z = tt
advanced_fits c (Allocated end) post desk told z = tt
advanced_fits c (Retired life) post desk told z = tt

resumed_advances : (c : Config) (desk : Desk) (post : Post) (told : List Event) (outcome : Outcome) (z : Now) → OutFits c (steps.resumed Advances desk post told outcome).outcome z
resumed_advances c desk post told (Goes base) z = tt
resumed_advances c desk post told (Ends ending) z = advanced_fits c ending post desk told z

-- what one record says of a call, another says
pub record Onto (x y : Now) : Type 0 where
  pub search : y.search ≡ x.search
  pub was : (s : ℕ) → x.was s ≡ true → y.was s ≡ true
  pub since : (s : ℕ) → x.since s ≡ true → y.since s ≡ true
  pub fits : x.fits ≡ true → y.fits ≡ true

task_on : (c : Config) (task : Task) (x y : Now) → Onto x y → TaskFits c task x → TaskFits c task y
task_on c task x y o f = record { seeks = λ h. ap (λ (t : Search). t.seeks) o.search ∙ f.seeks h; reads = λ h. ap (λ (t : Search). t.reads) o.search ∙ f.reads h }

room_on : (c : Config) (n : ℕ) (task : Task) (x y : Now) → y.search ≡ x.search → ((s : ℕ) → x.was s ≡ true → y.was s ≡ true) → RoomFits c n task x → RoomFits c n task y
room_on c n task x y e m f = record { seeks = ap (λ (t : Search). t.seeks) e ∙ f.seeks; reads = ap (λ (t : Search). t.reads) e ∙ f.reads; walked = f.walked; was = λ s l. m s (f.was s l) }

answer_on : (c : Config) (answer : Answer) (x y : Now) → Onto x y → AnswerFits c answer x → AnswerFits c answer y
answer_on c answer x y o f h =
    let g : FullFits c x = f h in
    record { seeks = ap (λ (t : Search). t.seeks) o.search ∙ g.seeks; reads = ap (λ (t : Search). t.reads) o.search ∙ g.reads; since = λ s l. o.since s (g.since s l); fits = o.fits g.fits }

next_on : (c : Config) (task : Task) (next : Next) (x y : Now) → Onto x y → NextFits c task next x → NextFits c task next y
next_on c task Again x y o f = task_on c task x y o f
next_on c task MakeRoom x y o f = room_on c 0 task x y o.search o.was f
next_on c task (Answering answer) x y o f = answer_on c answer x y o f
next_on c task (Retiring slot answer) x y o f = f

pub later_on : (c : Config) (n : ℕ) (later : AfterScan) (x y : Now) → y.search ≡ x.search → ((s : ℕ) → x.was s ≡ true → y.was s ≡ true) → LaterFits c n later x → LaterFits c n later y
later_on c n (Answered answer) x y e m f = (ap (λ (t : Search). t.seeks) e ∙ f.0, f.1)
later_on c n (Repeated task) x y e m f = room_on c n task x y e m f
later_on c n Counted x y e m f = ap (λ (t : Search). t.seeks) e ∙ f

fill_on : (c : Config) (task : Task) (base : Base) (x y : Now) → Onto x y → FillFits c task base x → FillFits c task base y
fill_on c task (Allocate LoadBirth) x y o f = record { tie = task_on c task x y o f.tie; fits = o.fits f.fits }
fill_on c task (Allocate (ClaimSlot birth walk)) x y o f = record { tie = task_on c task x y o f.tie; fits = o.fits f.fits }
fill_on c task (Allocate (StoreLife birth slot)) x y o f = ap (λ (t : Search). t.reads) o.search ∙ f
fill_on c task base x y o f = task_on c task x y o f

why_on : (c : Config) (why : Why) (base : Base) (x y : Now) → Onto x y → WhyFits c why base x → WhyFits c why base y
why_on c (Opens task) base x y o f = task_on c task x y o f
why_on c (Fills task) base x y o f = fill_on c task base x y o f
why_on c (ClearsNext next) base x y o f = next_on c Dequeues next x y o f
why_on c (Clears task next) base x y o f = next_on c task next x y o f
why_on c (Finishes task next) base x y o f = next_on c task next x y o f
why_on c (GivesUp answer) base x y o f = answer_on c answer x y o f
why_on c (Retires answer) base x y o f = f
why_on c (Tidies later) base x y o f = later_on c 0 later x y o.search o.was f
why_on c why base x y o f = tt

work_on : (c : Config) (work : Work) (x y : Now) → Onto x y → WorkFits c work x → WorkFits c work y
work_on c (Getting key at) x y o f = tt
work_on c (Changing kept at) x y o f = task_on c (Changes kept) x y o f
work_on c (Enqueuing kept LoadNumber) x y o f = task_on c (Enqueues kept) x y o f
work_on c (Enqueuing kept LoadNext) x y o f = task_on c (Enqueues kept) x y o f
work_on c (Enqueuing kept (PassTail next)) x y o f = task_on c (Enqueues kept) x y o f
work_on c (Enqueuing kept (ExchangeNext slot)) x y o f = task_on c (Enqueues kept) x y o f
work_on c (Enqueuing kept (ExchangeTail slot)) x y o f = tt
work_on c (Dequeuing at) x y o f = tt
work_on c (Keeping at) x y o f = tt

pub phase_on : (c : Config) (phase : Phase) (x y : Now) → Onto x y → PhaseFits c phase x → PhaseFits c phase y
phase_on c Idle x y o f = tt
phase_on c (Runs why base) x y o f = why_on c why base x y o f
phase_on c (Scans later at) x y o f = later_on c (reads_at (guards c) at) later x y o.search o.was f
phase_on c (Works work) x y o f = work_on c work x y o f

pub out_on : (c : Config) (outcome : CallOutcome) (x y : Now) → Onto x y → OutFits c outcome x → OutFits c outcome y
out_on c (GoesOn phase) x y o f = phase_on c phase x y o f
out_on c (Answers answer) x y o f = answer_on c answer x y o f

-- a machine that is neither a walk nor a retirement leaves the search as it is
onto_same : (z : Now) → Onto z z
onto_same z = record { search = refl; was = λ s h. h; since = λ s h. h; fits = λ h. h }

tick_onto : (era : ℕ) (same : Bool) (z : Now) → Onto z (after_first (tick_front era same) z)
tick_onto era true z = record { search = refl; was = λ s h. h; since = λ s h. h; fits = λ h. h }
tick_onto era false z = onto_same z

move_onto : (at : MoveAt) (found : ℕ) (z : Now) → Onto z (after_first (base_front (Move at) found) z)
move_onto (ExchangeClock era) found z = tick_onto era (found == era) z
move_onto at found z = onto_same z

still_onto : (base : Base) (kind : Kind) (found : ℕ) (z : Now) → suits base kind ≡ true → fills kind ≡ false → retires kind ≡ false → Onto z (after_first (base_front base found) z)
still_onto (Allocate at) kind found z s a b = absurd (cc)
still_onto (Retire at) kind found z s a b = absurd (cc)
still_onto (Move at) kind found z s a b = move_onto at found z
still_onto base kind found z s a b = onto_same z

still_fits : (c : Config) (outcome : CallOutcome) (base : Base) (kind : Kind) (found : ℕ) (z : Now) → suits base kind ≡ true → fills kind ≡ false → retires kind ≡ false → OutFits c outcome z → OutFits c outcome (after_first (base_front base found) z)
still_fits c outcome base kind found z s a b f = out_on c outcome z (after_first (base_front base found) z) (still_onto base kind found z s a b) f

-- what is sure of a step that decides
abbrev pub WhySure : Why → Outcome → Post → Now → Type 0
WhySure (Opens task) outcome post z = OutcomeSure task outcome post z
WhySure why outcome post z = Unit {0}

abbrev pub PhaseSure : Phase → Post → (found : ℕ) → Now → Type 0
PhaseSure Idle post found z = Unit {0}
PhaseSure (Runs why base) post found z = WhySure why (machine.after base post found).outcome (machine.after base post found).post z
PhaseSure (Scans later at) post found z = Unit {0}
PhaseSure (Works work) post found z = WorkSure work post found z

run_fits : (c : Config) (z : Now) (why : Why) (base : Base) (post : Post) (desk : Desk) (found : ℕ) → suits base (kind_of why) ≡ true → runs_right why base ≡ true → WhyFits c why base z → PhaseSure (Runs why base) post found z → FullSees c (Runs why base) post found z → Within z
    → OutFits c (steps.run_turn why desk (machine.after base post found)).outcome (after_first (base_front base found) z)
run_fits c z (Opens task) base post desk found s h f d a u = let t = machine.after base post found in still_fits c _ base ToOpen found z s refl refl (resumed_opens c task desk t.post t.told t.outcome z d f)
run_fits c z (FollowsHead head tail) base post desk found s h f d a u = let t = machine.after base post found in still_fits c _ base ToFollow found z s refl refl (resumed_follows c head tail desk t.post t.told t.outcome z)
run_fits c z (Fills task) base post desk found s h f d a u = fills_fits c z task base post desk found h s f a u
run_fits c z (ClearsNext next) base post desk found s h f d a u = let t = machine.after base post found in still_fits c _ base ToClear found z s refl refl (resumed_next c next desk t.post t.told t.outcome z f)
run_fits c z (Clears task next) base post desk found s h f d a u = let t = machine.after base post found in still_fits c _ base ToClear found z s refl refl (resumed_clears c task next desk t.post t.told t.outcome z f)
run_fits c z (Finishes task next) base post desk found s h f d a u = let t = machine.after base post found in still_fits c _ base ToFinish found z s refl refl (resumed_finishes c task next desk t.post t.told t.outcome z f)
run_fits c z (GivesUp answer) base post desk found s h f d a u = let t = machine.after base post found in still_fits c _ base ToGiveUp found z s refl refl (resumed_gives c answer desk t.post t.told t.outcome z f)
run_fits c z (Retires answer) base post desk found s h f d a u = retires_fits c z answer base post desk found s f
run_fits c z (Tidies later) base post desk found s h f d a u = let t = machine.after base post found in still_fits c _ base ToMove found z s refl refl (resumed_tidies c later desk t.post t.told t.outcome z f)
run_fits c z Advances base post desk found s h f d a u = let t = machine.after base post found in still_fits c _ base ToMove found z s refl refl (resumed_advances c desk t.post t.told t.outcome z)
run_fits c z (Releases let_go) base post desk found s h f d a u = let t = machine.after base post found in still_fits c _ base ToRelease found z s refl refl (resumed_releases c let_go desk t.post t.told t.outcome z)

-- a scan
walked_reads : (all : ℕ) (task : Task) → is_walked task ≡ true → reads_in all task ≡ all
walked_reads all (Changes kept) w = ap (λ (x : Bool). if x then all else 0) w
walked_reads all (Enqueues kept) w = ap (λ (x : Bool). if x then all else 0) w
walked_reads all (Gets key) w = absurd (cc)
walked_reads all (Holds key) w = absurd (cc)
walked_reads all Dequeues w = absurd (cc)

room_task : (c : Config) (task : Task) (z : Now) → RoomFits c (guards c) task z → TaskFits c task z
room_task c task z f = record { seeks = λ h. f.seeks; reads = λ h. f.reads ∙ sym (walked_reads (guards c) task f.walked) }

scanned_fits : (c : Config) (later : AfterScan) (post : Post) (desk : Desk) (told : List Event) (z : Now) → LaterFits c (guards c) later z → OutFits c (scan.scanned later post desk told).outcome z
scanned_fits c (Answered answer) post desk told z f = λ h. let n : is_full answer ≡ false = f.1 in absurd (cc)
scanned_fits c (Repeated task) post desk told z f = round_fits c task post z (room_task c task z f)
scanned_fits c Counted post desk told z f = λ h. absurd (cc)

giving_fits : (c : Config) (later : AfterScan) (post : Post) (desk : Desk) (told : List Event) (x : Option scan.Entry) (z : Now) → LaterFits c (guards c) later z → OutFits c (scan.giving_back later post desk told x).outcome z
giving_fits c later post desk told None z f = scanned_fits c later post (scan.with_kept desk) told z f
giving_fits c later post desk told (Some entry) z f = f

reading_fits : (c : Config) (n : ℕ) (later : AfterScan) (post : Post) (desk : Desk) (told : List Event) (more : Bool) (z : Now) → nat_lt (n + 1) (guards c) ≡ more → n < guards c → LaterFits c (n + 1) later z → OutFits c (scan.reading later n post desk told more).outcome z
reading_fits c n later post desk told true z m l f = f
reading_fits c n later post desk told false z m l f =
    let e : n + 1 ≡ guards c = grind (arith, nat_tests) in
    giving_fits c later post desk told (scan.unmet_from desk 0) z (subst (λ (k : ℕ). LaterFits c k later z) e f)

read_later : (c : Config) (n : ℕ) (later : AfterScan) (guard : Guard) (span : Option Interval) (z : Now) → LaterFits c n later z → LaterFits c (n + 1) later (now_by (events.Read guard span) z)
read_later c n (Answered answer) guard span z f = f
read_later c n (Repeated task) guard span z f = record { seeks = f.seeks; reads = ap (λ (k : ℕ). k + 1) f.reads; walked = f.walked; was = f.was }
read_later c n Counted guard span z f = f

saw_later : (c : Config) (n : ℕ) (later : AfterScan) (guard : Guard) (slot : Option ℕ) (z : Now) → LaterFits c n later z → LaterFits c (n + 1) later (now_by (events.Saw guard slot) z)
saw_later c n (Answered answer) guard slot z f = f
saw_later c n (Repeated task) guard slot z f = record { seeks = f.seeks; reads = ap (λ (k : ℕ). k + 1) f.reads; walked = f.walked; was = f.was }
saw_later c n Counted guard slot z f = f

scan_fits_on : (z : Now) (later : AfterScan) (at : ScanAt) (post : Post) (desk : Desk) (found : ℕ) → scan_fits post.layout.config at ≡ true → LaterFits post.layout.config (reads_at (guards post.layout.config) at) later z
    → OutFits post.layout.config (scan.scan_turn later at post desk found).outcome (after_first (scan_told at post found) z)
scan_fits_on z later (ReadGuard n) post desk found s f =
    let c : Config = post.layout.config in
    let l : n < guards c = grind (arith, nat_tests) in
    let rows : Bool = publishes_rows c.scheme in
    let guard : Guard = guard_at c n in
    let read : Desk = scan.with_read desk n (guard, published rows guard found) in
    let told : List Event = scan.reads_guard rows guard found ∷ [] in
    reads_are (λ (event : Event). OutFits c (scan.scan_turn later (ReadGuard n) post desk found).outcome (now_by event z)) rows guard found
    (λ span. reading_fits c n later post read told (nat_lt (n + 1) (guards c)) (now_by (events.Read guard span) z) refl l (read_later c n later guard span z f))
    (λ slot. reading_fits c n later post read told (nat_lt (n + 1) (guards c)) (now_by (events.Saw guard slot) z) refl l (saw_later c n later guard slot z f))
scan_fits_on z later (GiveBack place slot) post desk found s f =
    let c : Config = post.layout.config in
    let y : Now = now_by (events.Back slot) z in
    giving_fits c later post (scan.with_back desk place) (events.Back slot ∷ []) (scan.unmet_from (scan.with_back desk place) place) y (later_on c (guards c) later z y refl (λ m h. h) f)

-- a step
pub turn_fits : (z : Now) (phase : Phase) (post : Post) (desk : Desk) (found : ℕ) → PhaseRight phase post → PhaseFits post.layout.config phase z → PhaseSure phase post found z → FullSees post.layout.config phase post found z → Within z
    → OutFits post.layout.config (steps.phase_turn phase post desk found).outcome (after_first (front phase post found) z)
turn_fits z Idle post desk found p f d a u = tt
turn_fits z (Runs why base) post desk found p f d a u = run_fits post.layout.config z why base post desk found p.0 p.1 f d a u
turn_fits z (Scans later at) post desk found p f d a u = scan_fits_on z later at post desk found p f
turn_fits z (Works work) post desk found p f d a u = work_fits post.layout.config work post desk found z d f

-- nothing is let go of a search
letting_fits : (c : Config) (let_go : LetGo) (post : Post) (z : Now) → PhaseFits c (letting let_go post) z
letting_fits c let_go post z = by (release_base (scheme_of post) post (let_index let_go))
  where
    by : (x : Option Base) → PhaseFits c (letting_by let_go x) z
    by None = tt
    by (Some base) = tt

-- a call begins
pub first_fits : (c : Config) (call : Call) (post : Post) (was since : ℕ → Bool) (fits : Bool) → PhaseFits c (steps.first_phase call post) (record { search = record { seeks = seeks_row call; reads = 0 }; was = was; since = since; fits = fits })
first_fits c (names.Get key) post was since fits = round_fits c (Gets key) post _ (other_task c (Gets key) _ refl refl)
first_fits c (names.Put key value) post was since fits = round_fits c _ post _ (record { seeks = λ h. refl; reads = λ h. refl })
first_fits c (names.Remove key) post was since fits = round_fits c _ post _ (record { seeks = λ h. refl; reads = λ h. refl })
first_fits c (names.Enqueue value) post was since fits = round_fits c _ post _ (record { seeks = λ h. refl; reads = λ h. refl })
first_fits c names.Dequeue post was since fits = round_fits c Dequeues post _ (other_task c Dequeues _ refl refl)
first_fits c (names.Hold key) post was since fits = held_fits (stands post 2)
  where
    held_fits : (x : Option ℕ) → PhaseFits c (steps.holding key post x) (record { search = record { seeks = false; reads = 0 }; was = was; since = since; fits = fits })
    held_fits None = round_fits c (Holds key) post _ (other_task c (Holds key) _ refl refl)
    held_fits (Some slot) = letting_fits c (Rehold key) post _
first_fits c names.Release post was since fits = letting_fits c Released post _
first_fits c (names.Copy from index) post was since fits = copy_fits (stands post from)
  where
    copy_fits : (x : Option ℕ) → PhaseFits c (steps.copying from index x) (record { search = record { seeks = false; reads = 0 }; was = was; since = since; fits = fits })
    copy_fits None = tt
    copy_fits (Some slot) = tt
first_fits c (names.DropIndex index) post was since fits = letting_fits c (Dropped index) post _
first_fits c (names.Look index key) post was since fits = look_fits (stands post index)
  where
    look_fits : (x : Option ℕ) → PhaseFits c (steps.looking_at index key x) (record { search = record { seeks = false; reads = 0 }; was = was; since = since; fits = fits })
    look_fits None = tt
    look_fits (Some slot) = tt
first_fits c names.Leave post was since fits = let z : Now = record { search = record { seeks = false; reads = 0 }; was = was; since = since; fits = fits } in parts_all (λ (phase : Phase). PhaseFits c phase z) (parts_fit c z) post
first_fits c (names.Adopt place) post was since fits = tt
first_fits c (names.PutIf key value version) post was since fits = round_fits c _ post _ (record { seeks = λ h. refl; reads = λ h. refl })
first_fits c names.Advance post was since fits = tt
first_fits c names.Scan post was since fits = refl
