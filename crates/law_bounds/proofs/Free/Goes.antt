-- A call under way goes on for so many turns of its seat at most while nothing is done.
use Rattle.std.proofs.Common.{ℕ, ◌≡◌, ◌≤◌, ◌<◌, ◌+◌, ◌-◌, ◌*◌, Bool, true, false, List, [], ◌∷◌, ◌++◌, length, Option, Some, None, ◌⊎◌, inl, inr, refl, sym, ap, ◌∙◌, subst, arith, mul-le-mul_right}
use Rattle.std.proofs.lemmas.Bool.Decides.{nat_tests}
use Rattle.std.specs.Prelude.{◌==◌, nat_le, if◌then◌else◌}
use Rattle.law_held.specs.inv.Known.{Known as AllKnown}
use Rattle.law_held.specs.inv.Rounds.{Rounds}
use Rattle.law_held.specs.inv.Tallies.{Tally, phase_paced, tally}
use Rattle.law_held.specs.inv.ends.Losses.{Losses, phase_fit}
use Rattle.law_held.specs.inv.history.Heard.{heard_of}
use Rattle.law_held.specs.inv.history.History.{Item, Begins, Steps, Made, done, made_of, record_of, world_of}
use Rattle.law_held.specs.inv.history.Record.{Past, tells_of}
use Rattle.law_held.specs.inv.history.Record.Past.{Then}
use Rattle.law_held.specs.inv.history.Turns.{History}
use Rattle.law_held.specs.inv.history.Turns.History.{Starts, Turns}
use Rattle.law_held.specs.inv.model.Calls.{Task, Gets, Changes, Holds, Enqueues, Dequeues, AfterScan, Answered, Repeated, Counted, Why, Opens, FollowsHead, Fills, ClearsNext, Clears, Finishes, GivesUp, Retires, Tidies, Advances, Releases, LetGo, Released, Rehold, Dropped, Parting, KeepAt, Loosens, EnqueueKept, ExchangeTail, Work, Getting, Changing, Enqueuing, Dequeuing, Keeping, Phase, Idle, Runs, Scans, Works, CallTurn, CallOutcome, GoesOn, Answers}
use Rattle.law_held.specs.inv.model.Locals.{Local, counts_at, found_by, held_told, row_told, rounds_told, settled_by, told_by, turn}
use Rattle.law_held.specs.inv.model.declared.post.Post.{Post}
use Rattle.law_held.specs.inv.model.defs.declared.event.Guard.{Guard}
use Rattle.law_held.specs.inv.model.defs.declared.event.Guard.TheVariants.{Helper, Index, Whole}
use Rattle.law_held.specs.inv.model.Desks.{Desk, noting}
use Rattle.law_held.specs.inv.model.Rest.{gets_most, phase_left, phase_seen, rest, rest_of, round_worth, rounds_left, rounds_most, span_seen}
use Rattle.law_held.specs.inv.model.Rounds.{scheme_of}
use Rattle.law_held.specs.inv.model.Locals.{begun_post}
use Rattle.law_held.specs.inv.model.Steps as steps
use Rattle.law_held.specs.inv.model.World.{World, begin, finds, is_busy, may_start, offered, step, told_in}
use Rattle.law_held.specs.inv.model.defs.declared.call.Call.{Call}
use Rattle.law_held.specs.inv.model.defs.declared.call.Call.TheVariants as calls
use Rattle.law_held.specs.inv.model.defs.declared.event.Event.{Event}
use Rattle.law_held.specs.inv.model.defs.declared.event.Event.TheVariants as events
use Rattle.law_held.specs.inv.model.defs.declared.fold.Change.{Change}
use Rattle.law_held.specs.inv.model.defs.declared.fold.Change.TheVariants as the_changes
use Rattle.law_held.specs.inv.model.defs.declared.lifetime.Lifetime.{Lifetime}
use Rattle.law_held.specs.inv.model.words.Place.{is_valid}
use Rattle.law_held.specs.inv.model.words.Place.Place.{Clock, Tail}
use Rattle.law_held.specs.inv.model.words.Schemes.{publishes_rows}
use Rattle.law_held.specs.inv.model.words.declared.config.Config.{Config}
use Rattle.law_held.specs.inv.model.words.declared.layout.Layout.{Layout}
use Rattle.law_held.specs.inv.requests.Views.{View as Asked}
use Rattle.law_held.specs.inv.rows.Agree.{rows_after}
use Rattle.law_held.specs.inv.rows.Chain.{line_after}
use Rattle.law_held.specs.inv.rows.Queue.{Line}
use Rattle.law_held.specs.inv.rows.Rows.{View}
use Rattle.law_held.specs.laws.AnswerLaw.{moves_of}
use Rattle.law_held.specs.laws.StateAt.{clock_of, tails_of}
use Rattle.law_held.proofs.inv.Inv.Begun.{known_begin}
use Rattle.law_held.proofs.inv.Inv.Kept.{asked_next, known_kept}
use Rattle.law_held.proofs.inv.Inv.Ready.{listed_few}
use Rattle.law_held.proofs.inv.covers.Held.{stepped_phase}
use Rattle.law_held.proofs.inv.ends.Rest.Falling.{span_within}
use Rattle.law_held.proofs.inv.model.Facts.{same_number}
use Rattle.law_held.proofs.inv.requests.Kept.{requests_begin}
use Rattle.law_held.proofs.inv.shapes.Frame.{begin_stays, seat_stays, seat_steps}
use Rattle.law_held.specs.inv.shapes.Frame.{phase_left as stands_at}
use Rattle.law_reasons.proofs.Eras.EraLaw.Keeps.{record_clock}
use Rattle.law_reasons.proofs.Full.Keeps as full
use Rattle.law_reasons.proofs.Repeats.Gets.{begun_losses, first_none}
use Rattle.law_reasons.proofs.Repeats.Paces.{counted_for, counted_step, few_of, paced_begin, paced_step}
use Rattle.law_reasons.proofs.Repeats.Records.{is_counted}
use Rattle.law_reasons.proofs.Repeats.Shift.{more_rounds, shifted}
use Rattle.law_reasons.proofs.Repeats.Tails.{tails_step}
use Rattle.law_reuse.proofs.AnswersTold.Owed.{ChangeServes, FreeServes, KeepServes, LaterServes, Serves, TaskServes, WhyServes, WorkServes}
use Rattle.law_bounds.specs.Free.{turns_by}
use Rattle.law_bounds.proofs.Changes.Falls.{counted_falls}
use Rattle.law_bounds.proofs.Changes.Fits.{counted_more, phase_known}
use Rattle.law_bounds.proofs.Changes.Keeps as changes
use Rattle.law_bounds.proofs.Changes.Keeps.{begin_moves, none_fits, same_moves, spare_fits, step_call}
use Rattle.law_bounds.proofs.Changes.Paid.{change_moves, known_task, most_rounds, phase_low, serves_each, serves_known, spare_of, world_moves}
use Rattle.law_bounds.proofs.Changes.Worth.{is_last, last_left, phase_worth}
use Rattle.law_bounds.proofs.Free.Entry.{Roomy, entry_fits, entry_rounds, none_losses, none_rounds, now_few, only, only_losses, only_other, only_own}
use Rattle.law_bounds.proofs.Free.Most.{Small, keep_small, later_small, left_most, let_small, phase_few, phase_small, why_small, work_small}
use Rattle.law_bounds.proofs.Free.Seen.{Sees, seen_at, step_sees}
use Rattle.law_bounds.proofs.Free.Told.{ahead_in, clock_still, goes_still, moves_still}
use Rattle.law_reuse.proofs.Turns.Counted.{histories_count}

-- where no row is published, or the call is no get and no hold
abbrev pub reads_rows : Call → Bool
reads_rows (calls.Get key) = true
reads_rows (calls.Hold key) = true
reads_rows call = false

-- so many rounds are counted more of a call
abbrev pub spare_for : Config → Call → (before now : ℕ) → ℕ
spare_for c call before now = if is_counted call then spare_of (most_rounds c call) before now else 0

-- where a call stands while nothing is done: its setting, call, the rounds that are counted more, those that it had, what it had seen, and
-- the clock
pub record Place : Type 0 where
  pub config : Config
  pub call : Call
  pub before : ℕ
  pub spare : ℕ
  pub rounds : ℕ
  pub seen : ℕ
  pub clock : ℕ
  pub first : ℕ

-- it loses but few rounds more, and where rows are published it is no get and no hold
pub record IsPlaced (x : Place) : Type 0 where
  pub few : is_counted x.call ≡ true → most_rounds x.config x.call ≤ x.rounds + x.spare + 2
  pub reads : publishes_rows x.config.scheme ≡ true → reads_rows x.call ≡ false

-- what is left of it
abbrev pub cost_of : Place → Local → ℕ
cost_of x l = phase_left x.config (l.rounds + counted_more l.phase x.spare) l.desk.list l.phase

-- what its turns and what is left come to: as long as it has seen no more of the clock, and once it has seen the present one
abbrev pub Paid : Place → (turns seen : ℕ) → Local → Type 0
Paid x turns seen l = ((seen ≡ x.seen) × (turns + cost_of x l ≤ x.first + left_most x.config)) ⊎ ((x.clock ≤ seen) × (turns + cost_of x l ≤ x.first + 2 * left_most x.config + 1))

pub record State (layout : Layout) (k : ℕ) (x : Place) (made : Made) (h : History) : Type 0 where
  pub config_is : layout.config ≡ x.config
  pub placed : IsPlaced x
  pub full : full.Keeps layout made
  pub rows : View
  pub line : Line
  pub asked : Asked
  pub known : AllKnown made.world rows line asked
  pub tails : tails_of made.past ≡ line.number (made.world.mem Tail - 1)
  pub rounds : Rounds (shifted made.world (only k x.before)) line asked
  pub few : Losses (shifted made.world (only k x.before))
  pub busy : is_busy made.world k ≡ true
  pub call_is : (made.world.seat k).call ≡ x.call
  pub clock_is : made.world.mem Clock ≡ x.clock
  pub low : x.rounds ≤ (made.world.seat k).rounds
  pub spare_is : x.spare ≡ spare_for made.world.layout.config x.call x.before (moves_of made.world.layout.config (Some x.call) made.past)
  pub paid : Paid x (turns_by k h) (seen_at made.world k) (made.world.seat k)

-- a task of the call loses few rounds more
rounds_small : (most r lost w : ℕ) → most ≤ r + 2 → r ≤ lost + 1 → (most + 1 - lost) * w ≤ 5 * w
rounds_small most r lost w h l = mul-le-mul_right w (omega (arith, h, l))

got_small : (c : Config) (r : ℕ) (task : Task) → rounds_most c task ≡ 1 → Small c r task
got_small c r task e = record { few = λ lost h. by lost }
  where
    by : (lost : ℕ) → rounds_left c task lost ≤ 5 * round_worth c
    by lost =
        let a : rounds_left c task lost ≡ (1 + 1 - lost) * round_worth c = ap (λ (n : ℕ). (n + 1 - lost) * round_worth c) e in
        let m : (1 + 1 - lost) * round_worth c ≤ 5 * round_worth c = mul-le-mul_right (round_worth c) (omega arith) in
        omega (arith, a, m)

gets_one : (c : Config) (rows : Bool) → publishes_rows c.scheme ≡ rows → (rows ≡ true → ⊥) → gets_most c (publishes_rows c.scheme) ≡ 1
gets_one c true e n = absurd (n refl)
gets_one c false e n = rw e refl

reads_one : (c : Config) (call : Call) → (publishes_rows c.scheme ≡ true → reads_rows call ≡ false) → reads_rows call ≡ true → gets_most c (publishes_rows c.scheme) ≡ 1
reads_one c call f h = gets_one c (publishes_rows c.scheme) refl (λ e. let a = f e in not_both (reads_rows call) a h)
  where
    not_both : (b : Bool) → b ≡ false → b ≡ true → ⊥
    not_both true e h = cc
    not_both false e h = cc

counted_small : (c : Config) (t : Tally) (call : Call) (task : Task) (r : ℕ) → is_counted call ≡ true → TaskServes call task → most_rounds c call ≤ r + 2 → Small c r task
counted_small c t call task r h s m =
    let k = known_task c t call task h s in
    let e = k.most_is in
    record { few = λ lost l. let a = rounds_small (rounds_most c task) r lost (round_worth c) (omega (arith, e, m)) l in a }

change_counted : (call : Call) (change : Change) (wanted : Option ℕ) → ChangeServes call change wanted → is_counted call ≡ true
change_counted call (the_changes.Put key value) None s = ap is_counted s.is
change_counted call (the_changes.Put key value) (Some version) s = ap is_counted s.is
change_counted call (the_changes.Removed key) None s = ap is_counted s.is
change_counted call (the_changes.Removed key) (Some version) s = let m = s.may in absurd (cc)

task_small : (c : Config) (t : Tally) (call : Call) (task : Task) (r : ℕ) → TaskServes call task → (is_counted call ≡ true → most_rounds c call ≤ r + 2) → (publishes_rows c.scheme ≡ true → reads_rows call ≡ false) → Small c r task
task_small c t call (Gets key) r s m f = got_small c r (Gets key) (reads_one c call f (ap reads_rows s))
task_small c t call (Changes kept) r s m f = let h = change_counted call kept.change kept.wanted s in counted_small c t call (Changes kept) r h s (m h)
task_small c t call (Holds key) r s m f = got_small c r (Holds key) (reads_one c call f (ap reads_rows s))
task_small c t call (Enqueues kept) r s m f = let h : is_counted call ≡ true = ap is_counted s in counted_small c t call (Enqueues kept) r h s (m h)
task_small c t call Dequeues r s m f = let h : is_counted call ≡ true = ap is_counted s in counted_small c t call Dequeues r h s (m h)

-- so of each phase of the call
later_is : (c : Config) (call : Call) (r : ℕ) → ((task : Task) → TaskServes call task → Small c r task) → (later : AfterScan) → LaterServes call later → later_small c r later
later_is c call r f (Answered answer) s = tt
later_is c call r f (Repeated task) s = f task s
later_is c call r f Counted s = tt

let_is : (c : Config) (call : Call) → ((key : ℕ) → call ≡ calls.Hold key → Small c 0 (Holds key)) → (let_go : LetGo) → FreeServes call let_go → let_small c let_go
let_is c call f Released s = tt
let_is c call f (Rehold key) s = f key s
let_is c call f (Dropped index) s = tt
let_is c call f (Parting index) s = tt

why_is : (c : Config) (call : Call) (r : ℕ) → ((task : Task) → TaskServes call task → Small c r task) → ((key : ℕ) → call ≡ calls.Hold key → Small c 0 (Holds key)) → (why : Why) → WhyServes call why → why_small c r why
why_is c call r f g (Opens task) s = f task s
why_is c call r f g (FollowsHead head tail) s = f Dequeues s
why_is c call r f g (Fills task) s = f task s
why_is c call r f g (ClearsNext next) s = f Dequeues s.0
why_is c call r f g (Clears task next) s = f task s.0
why_is c call r f g (Finishes task next) s = f task s.0
why_is c call r f g (GivesUp answer) s = tt
why_is c call r f g (Retires answer) s = tt
why_is c call r f g (Tidies later) s = later_is c call r f later s
why_is c call r f g Advances s = tt
why_is c call r f g (Releases let_go) s = let_is c call g let_go s

keep_is : (c : Config) (call : Call) → ((key : ℕ) → call ≡ calls.Hold key → Small c 0 (Holds key)) → (at : KeepAt) → KeepServes call at → keep_small c at
keep_is c call g (Loosens let_go) s = let_is c call g let_go s
keep_is c call g at s = tt

work_is : (c : Config) (call : Call) (r : ℕ) → ((task : Task) → TaskServes call task → Small c r task) → ((key : ℕ) → call ≡ calls.Hold key → Small c 0 (Holds key)) → (work : Work) → WorkServes call work → work_small c r work
work_is c call r f g (Getting key at) s = f (Gets key) s
work_is c call r f g (Changing kept at) s = f (Changes kept) s
work_is c call r f g (Enqueuing kept at) s = f (Enqueues kept) s
work_is c call r f g (Dequeuing at) s = f Dequeues s
work_is c call r f g (Keeping at) s = keep_is c call g at s

phase_is : (c : Config) (call : Call) (r : ℕ) → ((task : Task) → TaskServes call task → Small c r task) → ((key : ℕ) → call ≡ calls.Hold key → Small c 0 (Holds key)) → (phase : Phase) → Serves call phase → phase_small c r phase
phase_is c call r f g Idle s = tt
phase_is c call r f g (Runs why base) s = why_is c call r f g why s
phase_is c call r f g (Scans later at) s = later_is c call r f later s
phase_is c call r f g (Works work) s = work_is c call r f g work s

-- so what is left is little
last_few : (c : Config) (r : ℕ) (lives : List Lifetime) (phase : Phase) → is_last phase ≡ true → phase_left c r lives phase ≤ left_most c
last_few c r lives (Works (Enqueuing kept (ExchangeTail slot))) h = omega arith
last_few c r lives phase h = absurd (cc)

pub cost_few : (w : World) (v : View) (l : Line) (z : Asked) (k : ℕ) (x : Place) → AllKnown w v l z → w.layout.config ≡ x.config → IsPlaced x → is_busy w k ≡ true → Serves x.call (w.seat k).phase → x.rounds ≤ (w.seat k).rounds → cost_of x (w.seat k) ≤ left_most x.config
cost_few w v l z k x a e p b s low = by (is_last (w.seat k).phase) refl
  where
    lives : length (w.seat k).desk.list ≤ w.layout.config.slots + 1
    lives = listed_few w k v a.whole.both.rows b

    by : (last : Bool) → is_last (w.seat k).phase ≡ last → phase_left x.config ((w.seat k).rounds + (if last then 0 else x.spare)) (w.seat k).desk.list (w.seat k).phase ≤ left_most x.config
    by true q = last_few x.config ((w.seat k).rounds + 0) (w.seat k).desk.list (w.seat k).phase q
    by false q =
        let r : ℕ = (w.seat k).rounds + x.spare in
        let m : (task : Task) → TaskServes x.call task → Small x.config r task = λ task t. task_small x.config (tally w l) x.call task r t (λ h. let f = p.few h in omega (arith, f, low)) p.reads in
        let g : (key : ℕ) → x.call ≡ calls.Hold key → Small x.config 0 (Holds key) = λ key t. got_small x.config 0 (Holds key) (reads_one x.config x.call p.reads (ap reads_rows t)) in
        let n : phase_small x.config r (w.seat k).phase = phase_is x.config x.call r m g (w.seat k).phase s in
        let f = a.seats.fits k in
        let o = a.slots.seats k in
        subst (λ (c : Config). phase_left c r (w.seat k).desk.list (w.seat k).phase ≤ left_most c) e
        (phase_few w.layout (w.seat k).desk (w.seat k).post r (w.seat k).desk.list (w.seat k).phase (subst (λ (c : Config). phase_small c r (w.seat k).phase) (sym e) n) lives f.phase o.phase)

-- the rounds that are counted more fit
state_fits : (layout : Layout) (k : ℕ) (x : Place) (made : Made) (h : History) → (g : State layout k x made h) → phase_fit made.world.layout.config ((made.world.seat k).rounds + counted_more (made.world.seat k).phase x.spare) (made.world.seat k).phase
state_fits layout k x made h g = by (is_counted x.call) refl g.spare_is
  where
    w : World
    w = made.world

    c : Config
    c = made.world.layout.config

    serves : Serves x.call (w.seat k).phase
    serves = let a = g.full.answers.seats k in subst (λ (call : Call). Serves call (w.seat k).phase) g.call_is (a.serves g.busy)

    fit : phase_fit c (w.seat k).rounds (w.seat k).phase
    fit = let f = g.known.losses in f.few k

    paced : phase_paced (tally w g.line) ((w.seat k).rounds + x.before) (w.seat k).phase
    paced = let r = g.rounds in subst (λ (n : ℕ). phase_paced (tally w g.line) ((w.seat k).rounds + n) (w.seat k).phase) (only_own k x.before) (r.paced k)

    by : (counted : Bool) → is_counted x.call ≡ counted → x.spare ≡ (if counted then spare_of (most_rounds c x.call) x.before (moves_of c (Some x.call) made.past) else 0) → phase_fit c ((w.seat k).rounds + counted_more (w.seat k).phase x.spare) (w.seat k).phase
    by true n e =
        subst (λ (s : ℕ). phase_fit c ((w.seat k).rounds + counted_more (w.seat k).phase s) (w.seat k).phase) (sym e)
        (spare_fits c (tally w g.line) x.before (moves_of c (Some x.call) made.past) (w.seat k).rounds x.call (w.seat k).phase n serves (same_moves layout made g.full g.line g.tails x.call) fit paced)
    by false n e =
        subst (λ (s : ℕ). phase_fit c ((w.seat k).rounds + counted_more (w.seat k).phase s) (w.seat k).phase) (sym e)
        (none_fits c (w.seat k).rounds 0 0 0 (w.seat k).phase refl refl fit)

-- rounds never fall
test_more : (b : Bool) (rounds : ℕ) → rounds ≤ (if b then rounds + 1 else rounds)
test_more true rounds = omega arith
test_more false rounds = omega arith

held_more : (rows : Bool) (index rounds : ℕ) → rounds ≤ held_told rows rounds index
held_more true index rounds = omega arith
held_more false index rounds = test_more (index == 0) rounds

row_more : (rows : Bool) (rounds : ℕ) (guard : Guard) (slot : Option ℕ) → rounds ≤ row_told rows rounds guard slot
row_more rows rounds guard None = omega arith
row_more true rounds (Index seat index) (Some slot) = test_more (counts_at true index) rounds
row_more true rounds (Helper seat) (Some slot) = omega arith
row_more true rounds (Whole seat) (Some slot) = omega arith
row_more false rounds (Index seat index) (Some slot) = omega arith
row_more false rounds (Helper seat) (Some slot) = omega arith
row_more false rounds (Whole seat) (Some slot) = omega arith

found_more : (rows : Bool) (rounds : ℕ) (event : Event) → rounds ≤ found_by rows rounds event
found_more rows rounds (events.Held index slot steps) = held_more rows index rounds
found_more rows rounds (events.Null index steps) = test_more (counts_at rows index) rounds
found_more rows rounds (events.Hazard guard slot) = row_more rows rounds guard slot
found_more rows rounds event = omega arith

told_more : (rows : Bool) (rounds : ℕ) (es : List Event) → rounds ≤ rounds_told rows rounds es
told_more rows rounds [] = omega arith
told_more rows rounds (event ∷ es) = let a = found_more rows rounds event in let b = told_more rows (found_by rows rounds event) es in omega (arith, a, b)

settled_rounds : (l : Local) (post : Post) (desk : Desk) (rounds : ℕ) (outcome : CallOutcome) → (settled_by l post desk rounds outcome).rounds ≡ rounds
settled_rounds l post desk rounds (GoesOn phase) = refl
settled_rounds l post desk rounds (Answers answer) = refl

step_rounds : (w : World) (k : ℕ) → (w.seat k).rounds ≤ ((step w k).seat k).rounds
step_rounds w k =
    let t : CallTurn = turn (offered w k) (finds w k) in
    let rows : Bool = publishes_rows (scheme_of t.post) in
    let e : ((step w k).seat k).rounds ≡ rounds_told rows (w.seat k).rounds (told_by t) = ap (λ (l : Local). l.rounds) (seat_steps w k) ∙ settled_rounds (offered w k) t.post (noting t.desk (told_by t)) (rounds_told rows (w.seat k).rounds (told_by t)) t.outcome in
    let a = told_more rows (w.seat k).rounds (told_by t) in
    omega (arith, e, a)

-- what a seat has seen is no later than the clock
seen_low : (w : World) (v : View) (l : Line) (z : Asked) (k : ℕ) → AllKnown w v l z → seen_at w k ≤ w.mem Clock
seen_low w v l z k a =
    let e = a.eras.seats k in
    phase_low w.layout (w.mem Clock) (w.seat k).post (w.seat k).phase (span_seen (w.mem Clock) (w.seat k).post.span) e.phase (span_within (w.mem Clock) (w.seat k).post.span e.post.span)

-- a step of the seat's own: its turns and what is left
same_worth : (x : Place) (rounds : ℕ) (lives : List Lifetime) (old phase : Phase) → phase_left x.config (rounds + counted_more phase x.spare) lives phase ≤ phase_left x.config (rounds + counted_more old x.spare) lives phase
same_worth x rounds lives old phase = by (is_last phase) (is_last old) refl
  where
    by : (last first : Bool) → is_last phase ≡ last → phase_left x.config (rounds + (if last then 0 else x.spare)) lives phase ≤ phase_left x.config (rounds + (if first then 0 else x.spare)) lives phase
    by true first e = let a = last_left x.config (rounds + 0) (rounds + (if first then 0 else x.spare)) lives phase e in omega (arith, a)
    by false true e = let a = phase_worth x.config (rounds + x.spare) (rounds + 0) 0 lives phase (omega arith) in omega (arith, a)
    by false false e = omega arith

-- by what it has seen before and after
pays : (x : Place) (turns seen next last : ℕ) (old new : Local) → Sees seen x.clock next → seen ≤ x.clock → next ≤ x.clock → x.clock ≤ last → cost_of x new ≤ left_most x.config
    → cost_of x new + 3 * (last - next) + 1 ≤ cost_of x old + 3 * (last - seen) → Paid x turns seen old → Paid x (turns + 1) next new
pays x turns seen next last old new (inl e) a b d f h (inl p) =
    let q = p.1 in inl (e ∙ p.0, omega (arith, e, h, q))
pays x turns seen next last old new (inr e) a b d f h (inl p) =
    let q = p.1 in inr (e, omega (arith, q, f))
pays x turns seen next last old new (inl e) a b d f h (inr p) =
    let q = p.1 in let r = p.0 in inr (omega (arith, e, r), omega (arith, e, h, q))
pays x turns seen next last old new (inr e) a b d f h (inr p) =
    let q = p.1 in let r = p.0 in inr (e, omega (arith, e, r, b, h, q))

-- the World after a step
pub record Next (layout : Layout) (path : List Item) (item : Item) : Type 0 where
  pub valid : is_valid layout ≡ true
  pub made_is : made_of layout (path ++ item ∷ []) ≡ done (made_of layout path) item

clock_after : (layout : Layout) (path : List Item) (item : Item) → Next layout path item → clock_of (done (made_of layout path) item).past ≡ (done (made_of layout path) item).world.mem Clock
clock_after layout path item n = subst (λ (m : Made). clock_of m.past ≡ m.world.mem Clock) n.made_is (record_clock layout (path ++ item ∷ []) n.valid)

clock_same : (layout : Layout) (path : List Item) (i clock : ℕ) → Next layout path (Steps i) → ahead_in (told_in (world_of layout path) i) ≡ false → (world_of layout path).mem Clock ≡ clock → (step (world_of layout path) i).mem Clock ≡ clock
clock_same layout path i clock n h e =
    let w : World = world_of layout path in
    sym (clock_after layout path (Steps i) n) ∙ clock_still i (told_in w i) (record_of layout path) h ∙ record_clock layout path n.valid ∙ e

config_of : (layout : Layout) (k : ℕ) (x : Place) (made : Made) (h : History) → State layout k x made h → made.world.layout.config ≡ x.config
config_of layout k x made h g = ap (λ (table : Layout). table.config) g.full.once.table ∙ g.config_is

serves_of : (layout : Layout) (k : ℕ) (x : Place) (made : Made) (h : History) → State layout k x made h → Serves x.call (made.world.seat k).phase
serves_of layout k x made h g = let a = g.full.answers.seats k in subst (λ (call : Call). Serves call (made.world.seat k).phase) g.call_is (a.serves g.busy)

-- a step of the seat's own
pub own_busy : (layout : Layout) (path : List Item) (k : ℕ) → is_valid layout ≡ true → is_busy (world_of layout path) k ≡ true → ahead_in (told_in (world_of layout path) k) ≡ false → is_busy (step (world_of layout path) k) k ≡ true
own_busy layout path k d b h =
    let w : World = world_of layout path in
    let t : CallTurn = turn (offered w k) (finds w k) in
    let g = goes_still t.told t.post t.outcome h in
    let n = histories_count layout path d in
    let e : ((step w k).seat k).phase ≡ g.phase = stepped_phase w k ∙ ap stands_at g.is in
    rw e (n.goes_on k g.phase b g.is)

rest_only : (w : World) (k n : ℕ) → rest (shifted w (only k n)) k ≡ rest_of w.layout.config (w.mem Clock) (more_rounds (w.seat k) n)
rest_only w k n = ap (λ (m : ℕ). rest_of w.layout.config (w.mem Clock) (more_rounds (w.seat k) m)) (only_own k n)

own_falls : (layout : Layout) (k : ℕ) (x : Place) (made : Made) (h : History) → State layout k x made h → is_busy (step made.world k) k ≡ true
    → cost_of x ((step made.world k).seat k) + 3 * (x.config.last_era - seen_at (step made.world k) k) + 1 ≤ cost_of x (made.world.seat k) + 3 * (x.config.last_era - seen_at made.world k)
own_falls layout k x made h g b =
    let w : World = made.world in
    let c : Config = w.layout.config in
    let n : ℕ = counted_more (w.seat k).phase x.spare in
    let e : c ≡ x.config = config_of layout k x made h g in
    let f = counted_falls w k g.rows g.line g.asked (only k n) g.known (only_losses w g.rows g.line g.asked k n g.known (state_fits layout k x made h g)) b in
    let p = rest_only w k n in
    let q = rest_only (step w k) k n in
    let m : rest_of c ((step w k).mem Clock) (more_rounds ((step w k).seat k) n) + 1 ≤ rest_of c (w.mem Clock) (more_rounds (w.seat k) n) = omega (arith, f, p, q) in
    let o : rest_of x.config ((step w k).mem Clock) (more_rounds ((step w k).seat k) n) + 1 ≤ rest_of x.config (w.mem Clock) (more_rounds (w.seat k) n) = subst (λ (d : Config). rest_of d ((step w k).mem Clock) (more_rounds ((step w k).seat k) n) + 1 ≤ rest_of d (w.mem Clock) (more_rounds (w.seat k) n)) e m in
    let s = same_worth x ((step w k).seat k).rounds ((step w k).seat k).desk.list (w.seat k).phase ((step w k).seat k).phase in
    omega (arith, o, s)

pub turns_own : (k : ℕ) (h : History) (es : List Event) → turns_by k (Turns h k es) ≡ turns_by k h + 1
turns_own k h es = rw (same_number k) refl

pub turns_other : (k i : ℕ) (h : History) (es : List Event) → (k == i) ≡ false → turns_by k (Turns h i es) ≡ turns_by k h
turns_other k i h es e = rw e refl

next_spare : (c : Config) (x : Place) (i : ℕ) (es : List Event) (p : Past) → ahead_in es ≡ false → x.spare ≡ spare_for c x.call x.before (moves_of c (Some x.call) p) → x.spare ≡ spare_for c x.call x.before (moves_of c (Some x.call) (tells_of p i es))
next_spare c x i es p h e = e ∙ ap (λ (n : ℕ). spare_for c x.call x.before n) (sym (moves_still c x.call i es p h))

pub own_state : (layout : Layout) (path : List Item) (k : ℕ) (x : Place) → Next layout path (Steps k) → k < (world_of layout path).layout.config.seats → ahead_in (told_in (world_of layout path) k) ≡ false → State layout k x (made_of layout path) (heard_of layout path)
    → State layout k x (done (made_of layout path) (Steps k)) (Turns (heard_of layout path) k (told_in (world_of layout path) k))
own_state layout path k x n b h g =
    let made : Made = made_of layout path in
    let w : World = made.world in
    let c : Config = w.layout.config in
    let q = asked_next w k g.rows g.line g.asked b g.known in
    let next = known_kept w k g.rows g.line g.asked q.0 b g.known q.1.facts q.1.deal in
    let busy = own_busy layout path k n.valid g.busy h in
    let f = full.step_keeps layout made k b g.busy g.full in
    let call : ((step w k).seat k).call ≡ x.call = step_call w k ∙ g.call_is in
    let clock = clock_same layout path k x.clock n h g.clock_is in
    let low : x.rounds ≤ ((step w k).seat k).rounds = let r = step_rounds w k in let s = g.low in omega (arith, r, s) in
    let e : c ≡ x.config = config_of layout k x made (heard_of layout path) g in
    let serves : Serves x.call ((step w k).seat k).phase = let a = f.answers.seats k in subst (λ (d : Call). Serves d ((step w k).seat k).phase) call (a.serves busy) in
    let few = cost_few (step w k) (rows_after w k g.rows) (line_after w k g.line) q.0 k x next e g.placed busy serves low in
    let old : seen_at w k ≤ x.clock = subst (λ (m : ℕ). seen_at w k ≤ m) g.clock_is (seen_low w g.rows g.line g.asked k g.known) in
    let new : seen_at (step w k) k ≤ x.clock = subst (λ (m : ℕ). seen_at (step w k) k ≤ m) clock (seen_low (step w k) (rows_after w k g.rows) (line_after w k g.line) q.0 k next) in
    let sees : Sees (seen_at w k) x.clock (seen_at (step w k) k) = subst (λ (m : ℕ). Sees (seen_at w k) m (seen_at (step w k) k)) g.clock_is (step_sees w k g.rows g.line g.asked g.known g.busy) in
    let last : x.clock ≤ x.config.last_era = subst (λ (d : Config). x.clock ≤ d.last_era) e (subst (λ (m : ℕ). m ≤ c.last_era) g.clock_is g.known.eras.most) in
    let falls = own_falls layout k x made (heard_of layout path) g busy in
    record {
      config_is = g.config_is;
      placed = g.placed;
      full = f;
      rows = rows_after w k g.rows;
      line = line_after w k g.line;
      asked = q.0;
      known = next;
      tails = tails_step w k g.rows g.line g.asked made.past g.known g.tails;
      rounds = paced_step w k g.rows g.line g.asked q.0 (only k x.before) (only k x.before) b g.known g.few q.1.deal (λ m. refl) g.rounds;
      few = counted_step w k g.rows g.line g.asked (only k x.before) (only k x.before) b g.known (λ m. refl) g.rounds g.few;
      busy = busy;
      call_is = call;
      clock_is = clock;
      low = low;
      spare_is = next_spare c x k (told_in w k) made.past h g.spare_is;
      paid = subst (λ (m : ℕ). Paid x m (seen_at (step w k) k) ((step w k).seat k)) (sym (turns_own k (heard_of layout path) (told_in w k)))
          (pays x (turns_by k (heard_of layout path)) (seen_at w k) (seen_at (step w k) k) x.config.last_era (w.seat k) ((step w k).seat k) sees old new last few falls g.paid);
    }

-- a step of another seat
seen_same : (w : World) (i k : ℕ) → (k == i) ≡ false → (step w i).mem Clock ≡ w.mem Clock → seen_at (step w i) k ≡ seen_at w k
seen_same w i k e c = ap (λ (l : Local). phase_seen l.phase (span_seen ((step w i).mem Clock) l.post.span)) (seat_stays w i k e) ∙ ap (λ (n : ℕ). phase_seen (w.seat k).phase (span_seen n (w.seat k).post.span)) c

paid_same : (x : Place) (turns later seen next : ℕ) (old new : Local) → later ≡ turns → next ≡ seen → new ≡ old → Paid x turns seen old → Paid x later next new
paid_same x turns later seen next old new t s l p = rw (t, s, l) p

pub other_state : (layout : Layout) (path : List Item) (i k : ℕ) (x : Place) → (k == i) ≡ false → Next layout path (Steps i) → i < (world_of layout path).layout.config.seats → is_busy (world_of layout path) i ≡ true → ahead_in (told_in (world_of layout path) i) ≡ false
    → State layout k x (made_of layout path) (heard_of layout path) → State layout k x (done (made_of layout path) (Steps i)) (Turns (heard_of layout path) i (told_in (world_of layout path) i))
other_state layout path i k x e n b y h g =
    let made : Made = made_of layout path in
    let w : World = made.world in
    let c : Config = w.layout.config in
    let q = asked_next w i g.rows g.line g.asked b g.known in
    let next = known_kept w i g.rows g.line g.asked q.0 b g.known q.1.facts q.1.deal in
    let l : (step w i).seat k ≡ w.seat k = seat_stays w i k e in
    let clock = clock_same layout path i x.clock n h g.clock_is in
    record {
      config_is = g.config_is;
      placed = g.placed;
      full = full.step_keeps layout made i b y g.full;
      rows = rows_after w i g.rows;
      line = line_after w i g.line;
      asked = q.0;
      known = next;
      tails = tails_step w i g.rows g.line g.asked made.past g.known g.tails;
      rounds = paced_step w i g.rows g.line g.asked q.0 (only k x.before) (only k x.before) b g.known g.few q.1.deal (λ m. refl) g.rounds;
      few = counted_step w i g.rows g.line g.asked (only k x.before) (only k x.before) b g.known (λ m. refl) g.rounds g.few;
      busy = rw l g.busy;
      call_is = rw l g.call_is;
      clock_is = clock;
      low = rw l g.low;
      spare_is = next_spare c x i (told_in w i) made.past h g.spare_is;
      paid = paid_same x (turns_by k (heard_of layout path)) (turns_by k (Turns (heard_of layout path) i (told_in w i))) (seen_at w k) (seen_at (step w i) k) (w.seat k) ((step w i).seat k) (turns_other k i (heard_of layout path) (told_in w i) e) (seen_same w i k e (clock ∙ sym g.clock_is)) l g.paid;
    }

-- another seat begins a call
zero_for : (t : Tally) (call : Call) (n : ℕ) → n ≡ 0 → counted_for t call n
zero_for t (calls.Put key value) n e = omega (arith, e)
zero_for t (calls.Remove key) n e = omega (arith, e)
zero_for t (calls.PutIf key value version) n e = omega (arith, e)
zero_for t (calls.Enqueue value) n e = omega (arith, e)
zero_for t calls.Dequeue n e = omega (arith, e)
zero_for t (calls.Get key) n e = omega (arith, e)
zero_for t (calls.Hold key) n e = omega (arith, e)
zero_for t call n e = tt

other_way : (k i : ℕ) → (k == i) ≡ false → (i == k) ≡ false
other_way k i e = grind (arith, nat_tests)

seen_begin : (w : World) (i k : ℕ) (call : Call) → (k == i) ≡ false → seen_at (begin w i call) k ≡ seen_at w k
seen_begin w i k call e = ap (λ (l : Local). phase_seen l.phase (span_seen (w.mem Clock) l.post.span)) (begin_stays w i k call e)

begin_spare : (c : Config) (x : Place) (i : ℕ) (call : Call) (p : Past) → x.spare ≡ spare_for c x.call x.before (moves_of c (Some x.call) p) → x.spare ≡ spare_for c x.call x.before (moves_of c (Some x.call) (Then p i (events.Begin call)))
begin_spare c x i call p e = e ∙ ap (λ (n : ℕ). spare_for c x.call x.before n) (sym (begin_moves c (Some x.call) i call p))

pub begin_state : (layout : Layout) (path : List Item) (i k : ℕ) (call : Call) (x : Place) → (k == i) ≡ false → is_busy (world_of layout path) i ≡ false → may_start (world_of layout path) i call ≡ true → State layout k x (made_of layout path) (heard_of layout path)
    → State layout k x (done (made_of layout path) (Begins i call)) (Starts (heard_of layout path) i call)
begin_state layout path i k call x e f m g =
    let made : Made = made_of layout path in
    let w : World = made.world in
    let c : Config = w.layout.config in
    let q = requests_begin w i call g.asked g.known.valid f g.known.seats g.known.requests in
    let next = known_begin w i call g.rows g.line g.asked q.0 f m g.known q.1.facts q.1.deal in
    let l : (begin w i call).seat k ≡ w.seat k = begin_stays w i k call e in
    let z : only k x.before i ≡ 0 = only_other k x.before i (other_way k i e) in
    record {
      config_is = g.config_is;
      placed = g.placed;
      full = full.begin_keeps layout made i call f m g.full;
      rows = g.rows;
      line = g.line;
      asked = q.0;
      known = next;
      tails = g.tails;
      rounds = paced_begin w i call g.line g.asked q.0 (only k x.before) (only k x.before) f g.known.requests q.1.deal (λ j o. refl) (zero_for (tally w g.line) call (only k x.before i) z) g.rounds;
      few = begun_losses w i call (only k x.before) (only k x.before) (λ j o. refl) (subst (λ (n : ℕ). phase_fit c n (steps.first_phase call (begun_post (w.seat i).post))) (sym z) (first_none w i call g.known.losses)) g.known.losses g.few;
      busy = rw l g.busy;
      call_is = rw l g.call_is;
      clock_is = g.clock_is;
      low = rw l g.low;
      spare_is = begin_spare c x i call made.past g.spare_is;
      paid = paid_same x (turns_by k (heard_of layout path)) (turns_by k (heard_of layout path)) (seen_at w k) (seen_at (begin w i call) k) (w.seat k) ((begin w i call).seat k) refl (seen_begin w i k call e) l g.paid;
    }

-- where a call stands it may be counted from there
roomy_task : (t : Tally) (call : Call) (task : Task) (r : ℕ) → is_counted call ≡ true → TaskServes call task → r + 1 ≤ world_moves t call → Roomy t r task
roomy_task t call (Gets key) r h s l = absurd (let e = ap is_counted s in let f : is_counted (calls.Get key) ≡ true = sym e ∙ h in cc)
roomy_task t call (Changes kept) r h s l = let a = change_moves t call kept.change kept.wanted s in omega (arith, a, l)
roomy_task t call (Holds key) r h s l = absurd (let e = ap is_counted s in let f : is_counted (calls.Hold key) ≡ true = sym e ∙ h in cc)
roomy_task t call (Enqueues kept) r h s l = let a : world_moves t call ≡ t.passes = ap (world_moves t) s in omega (arith, a, l)
roomy_task t call Dequeues r h s l = let a : world_moves t call ≡ t.takes = ap (world_moves t) s in omega (arith, a, l)

-- what is counted more there
record Counting (w : World) (v : View) (l : Line) (z : Asked) (k : ℕ) (call : Call) (spare before : ℕ) : Type 0 where
  rounds : Rounds (shifted w (only k before)) l z
  few : Losses (shifted w (only k before))
  most : is_counted call ≡ true → most_rounds w.layout.config call ≤ (w.seat k).rounds + spare + 2

last_task : (c : Config) (call : Call) (phase : Phase) → is_last phase ≡ true → Serves call phase → (kept : EnqueueKept) → most_rounds c call ≡ rounds_most c (Enqueues kept)
last_task c call (Works (Enqueuing other (ExchangeTail slot))) h s kept = ap (most_rounds c) s
last_task c call phase h s kept = absurd (cc)

more_counting : (w : World) (v : View) (l : Line) (z : Asked) (k : ℕ) (call : Call) → AllKnown w v l z → is_counted call ≡ true → Serves call (w.seat k).phase → (w.seat k).rounds + 1 ≤ world_moves (tally w l) call
    → Counting w v l z k call (spare_of (most_rounds w.layout.config call) (world_moves (tally w l) call - ((w.seat k).rounds + 1)) (world_moves (tally w l) call)) (world_moves (tally w l) call - ((w.seat k).rounds + 1))
more_counting w v l z k call a h s m =
    let c : Config = w.layout.config in
    let t : Tally = tally w l in
    let now : ℕ = world_moves t call in
    let b : ℕ = now - ((w.seat k).rounds + 1) in
    let few : now + 1 ≤ most_rounds c call = now_few t c call (few_of w v l z a) h in
    let sum : (w.seat k).rounds + b + 1 ≤ now = omega (arith, m) in
    let room : phase_known (Roomy t ((w.seat k).rounds + b)) (w.seat k).phase = serves_each (Roomy t ((w.seat k).rounds + b)) call h (λ task q. roomy_task t call task ((w.seat k).rounds + b) h q sum) (w.seat k).phase s in
    let r = entry_rounds w v l z k b a room in
    let paced : phase_paced t ((w.seat k).rounds + b) (w.seat k).phase = subst (λ (n : ℕ). phase_paced t ((w.seat k).rounds + n) (w.seat k).phase) (only_own k b) (r.paced k) in
    let f = a.losses in
    let fit = entry_fits c t (most_rounds c call) now b (w.seat k).rounds (w.seat k).phase (serves_known c t call (w.seat k).phase h s) few (omega (arith, sum)) (λ q. last_task c call (w.seat k).phase q s) (f.few k) paced in
    record { rounds = r; few = only_losses w v l z k b a fit; most = λ q. omega (arith, few, m) }

none_counting : (w : World) (v : View) (l : Line) (z : Asked) (k : ℕ) (call : Call) (spare : ℕ) → AllKnown w v l z → (is_counted call ≡ true → most_rounds w.layout.config call ≤ (w.seat k).rounds + spare + 2) → Counting w v l z k call spare 0
none_counting w v l z k call spare a m = record { rounds = none_rounds w v l z k a; few = none_losses w v l z k a; most = m }

-- a call that is under way
pub record Enters (layout : Layout) (path : List Item) (k : ℕ) : Type 0 where
  pub place : Place
  pub state : State layout k place (made_of layout path) (heard_of layout path)
  pub first_is : place.first ≡ turns_by k (heard_of layout path)
  pub setting : place.config ≡ layout.config

enters_by : (layout : Layout) (path : List Item) (k : ℕ) (spare before : ℕ) → is_valid layout ≡ true → is_busy (world_of layout path) k ≡ true → (publishes_rows layout.config.scheme ≡ true → reads_rows ((world_of layout path).seat k).call ≡ false) → (g : changes.Keeps layout (made_of layout path))
    → Counting (world_of layout path) g.rows g.line g.asked k ((world_of layout path).seat k).call spare before → spare ≡ spare_for (world_of layout path).layout.config ((world_of layout path).seat k).call before (moves_of (world_of layout path).layout.config (Some ((world_of layout path).seat k).call) (record_of layout path))
    → Enters layout path k
enters_by layout path k spare before d b r g n e =
    let w : World = world_of layout path in
    let c : w.layout.config ≡ layout.config = ap (λ (table : Layout). table.config) g.full.once.table in
    let x : Place = record { config = layout.config; call = (w.seat k).call; before = before; spare = spare; rounds = (w.seat k).rounds; seen = seen_at w k; clock = w.mem Clock; first = turns_by k (heard_of layout path) } in
    let p : IsPlaced x = record { few = λ h. subst (λ (q : Config). most_rounds q (w.seat k).call ≤ (w.seat k).rounds + spare + 2) c (n.most h); reads = r } in
    let a = g.full.answers.seats k in
    let few = cost_few w g.rows g.line g.asked k x g.known c p b (a.serves b) (omega arith) in
    record {
      place = x;
      state = record {
        config_is = refl;
        placed = p;
        full = g.full;
        rows = g.rows;
        line = g.line;
        asked = g.asked;
        known = g.known;
        tails = g.tails;
        rounds = n.rounds;
        few = n.few;
        busy = b;
        call_is = refl;
        clock_is = refl;
        low = omega arith;
        spare_is = e;
        paid = inl (refl, omega (arith, few));
      };
      first_is = refl;
      setting = refl;
    }

if_true : (b : Bool) (n : ℕ) → b ≡ true → n ≡ (if b then n else 0)
if_true b n h = rw h refl

if_false : (b : Bool) (n : ℕ) → b ≡ false → 0 ≡ (if b then n else 0)
if_false b n h = rw h refl

pub enters : (layout : Layout) (path : List Item) (k : ℕ) → is_valid layout ≡ true → is_busy (world_of layout path) k ≡ true → (publishes_rows layout.config.scheme ≡ true → reads_rows ((world_of layout path).seat k).call ≡ false) → Enters layout path k
enters layout path k d b r = by (is_counted ((world_of layout path).seat k).call) refl
  where
    w : World
    w = world_of layout path

    g : changes.Keeps layout (made_of layout path)
    g = changes.keeps layout path d

    by : (counted : Bool) → is_counted ((world_of layout path).seat k).call ≡ counted → Enters layout path k
    by false h = enters_by layout path k 0 0 d b r g (none_counting w g.rows g.line g.asked k (w.seat k).call 0 g.known (λ q. absurd (let z : true ≡ false = sym q ∙ h in cc))) (if_false (is_counted (w.seat k).call) _ h)
    by true h = fresh (nat_le ((w.seat k).rounds + 1) (world_moves (tally w g.line) (w.seat k).call)) refl
      where
        fresh : (more : Bool) → nat_le ((w.seat k).rounds + 1) (world_moves (tally w g.line) (w.seat k).call) ≡ more → Enters layout path k
        fresh true q =
            let now : ℕ = world_moves (tally w g.line) (w.seat k).call in
            let before : ℕ = now - ((w.seat k).rounds + 1) in
            let a = g.full.answers.seats k in
            let m : (w.seat k).rounds + 1 ≤ now = grind (arith, nat_tests, q) in
            let s = same_moves layout (made_of layout path) g.full g.line g.tails (w.seat k).call in
            let n = more_counting w g.rows g.line g.asked k (w.seat k).call g.known h (a.serves b) m in
            enters_by layout path k (spare_of (most_rounds w.layout.config (w.seat k).call) before now) before d b r g n (rw (h, s) refl)
        fresh false q =
            let now : ℕ = world_moves (tally w g.line) (w.seat k).call in
            let spare : ℕ = spare_of (most_rounds w.layout.config (w.seat k).call) 0 now in
            let m : now ≤ (w.seat k).rounds = grind (arith, nat_tests, q) in
            let s = same_moves layout (made_of layout path) g.full g.line g.tails (w.seat k).call in
            enters_by layout path k spare 0 d b r g (none_counting w g.rows g.line g.asked k (w.seat k).call spare g.known (λ z. omega (arith, m))) (rw (h, s) refl)
