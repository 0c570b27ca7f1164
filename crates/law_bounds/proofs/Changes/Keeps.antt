-- Along a history each put, remove, enqueue and dequeue has paid.
use Rattle.std.proofs.Common.{ℕ, ◌≡◌, ◌≤◌, ◌<◌, ◌+◌, ◌-◌, ◌*◌, ◌%◌, Bool, true, false, List, [], ◌∷◌, length, Option, Some, None, ◌⊎◌, inl, inr, refl, sym, ap, ◌∙◌, subst, arith, mul-le-mul_right}
use Rattle.std.proofs.lemmas.Bool.Decides.{nat_tests}
use Rattle.std.specs.Prelude.{◌==◌, is_some, nat_le, nat_lt, if◌then◌else◌}
use Rattle.law_held.specs.inv.Known.{Known}
use Rattle.law_held.specs.inv.Rounds.{Rounds}
use Rattle.law_held.specs.inv.Tallies.{Tally, phase_paced, tally}
use Rattle.law_held.specs.inv.ends.Losses.{Losses, phase_fit}
use Rattle.law_held.specs.inv.history.Heard.{heard_of}
use Rattle.law_held.specs.inv.history.History.{Item, Begins, Steps, Made, done, done_if, first_made, fits as fits_item, made_of, record_of, world_of}
use Rattle.law_held.specs.inv.history.Turns.{turns_of}
use Rattle.law_held.specs.inv.history.Record.{Each, Past, begins, tells_of, value_since}
use Rattle.law_held.specs.inv.history.Record.Past.{Start, Then}
use Rattle.law_held.specs.inv.model.defs.declared.call.Call.{Call}
use Rattle.law_held.specs.inv.model.defs.declared.call.Call.TheVariants as calls
use Rattle.law_held.specs.inv.model.defs.declared.event.Event.{Event}
use Rattle.law_held.specs.inv.model.defs.declared.event.Event.TheVariants as events
use Rattle.law_held.specs.inv.model.defs.declared.fold.Change.TheVariants as changes
use Rattle.law_held.specs.inv.model.defs.declared.lifetime.Interval.{Interval}
use Rattle.law_held.specs.inv.model.declared.post.Post.{Post}
use Rattle.law_held.specs.inv.model.Calls.{Task, Changes, Enqueues, Dequeues, Opens, Phase, Idle, Runs, Scans, Works, CallTurn, CallOutcome, GoesOn, Answers, goes_on}
use Rattle.law_held.specs.inv.model.Memory.{bump}
use Rattle.law_held.specs.inv.model.Protect.{protected}
use Rattle.law_held.specs.inv.model.Desks.{Desk, noting}
use Rattle.law_held.specs.inv.model.Locals.{Local, begun, begun_post, busy_in, rounds_told, settled_by, told_by, told_end, turn}
use Rattle.law_held.specs.inv.model.Phases.{Base, Turn, goes}
use Rattle.law_held.specs.inv.model.Phases.Base.{Protect}
use Rattle.law_held.specs.inv.model.Phases.ProtectAt.{LoadWithin, CheckUpper, RaiseUpper}
use Rattle.law_held.specs.inv.model.Posts.{counted, upper}
use Rattle.law_held.specs.inv.model.Rest.{eras_left, phase_left, phase_seen, rest, rest_of, round_worth, rounds_most, span_seen}
use Rattle.law_held.specs.inv.model.Rounds.{round, scheme_of}
use Rattle.law_held.specs.inv.model.Steps as steps
use Rattle.law_held.specs.inv.model.World.{World, begin, finds, is_busy, may_start, offered, start, step, told_in}
use Rattle.law_held.specs.inv.model.words.Place.{is_valid}
use Rattle.law_held.specs.inv.model.words.Place.Place.{Clock, Tail}
use Rattle.law_held.specs.inv.model.words.Schemes.{has_one_interval, publishes_rows}
use Rattle.law_held.specs.inv.model.words.declared.config.Config.{Config}
use Rattle.law_held.specs.inv.model.words.declared.layout.Layout.{Layout}
use Rattle.law_held.specs.inv.requests.Views.{View as Asked}
use Rattle.law_held.specs.inv.rows.Agree.{first_rows, rows_after}
use Rattle.law_held.specs.inv.rows.Chain.{first_line, line_after}
use Rattle.law_held.specs.inv.rows.Queue.{Line}
use Rattle.law_held.specs.inv.rows.Rows.{View}
use Rattle.law_held.specs.laws.AnswerLaw.{moves_before, moves_of}
use Rattle.law_held.specs.laws.StateAt.{began_of, clock_of, tails_of, ticked_by}
use Rattle.law_held.proofs.inv.Inv.Begun.{known_start, known_begin}
use Rattle.law_held.proofs.inv.Inv.Kept.{asked_next, known_kept}
use Rattle.law_held.proofs.inv.Inv.Ready.{listed_few}
use Rattle.law_held.proofs.inv.Machines.{is_within, within_begins, within_of}
use Rattle.law_held.proofs.inv.covers.Held.{stepped_phase, stepped_post}
use Rattle.law_held.proofs.inv.ends.Rest.Falling.{fit_clock, span_within}
use Rattle.law_held.proofs.inv.ends.Rest.Fits.{round_fit}
use Rattle.law_held.proofs.inv.history.Along.{begins_right, begins_within, low_seat, paths_keep}
use Rattle.law_held.proofs.laws.records.Entries.{entries_of_each}
use Rattle.law_held.proofs.inv.history.AllOf.{all_of}
use Rattle.law_held.proofs.inv.model.Facts.{first_of, le_test, rest_of as later_of, same_number}
use Rattle.law_held.proofs.inv.requests.Kept.{requests_begin, requests_start}
use Rattle.law_held.proofs.inv.shapes.Decode.{clock_next}
use Rattle.law_held.specs.inv.shapes.Frame.{phase_left as stands_at}
use Rattle.law_held.proofs.inv.shapes.Frame.{begin_begins, begin_stays, seat_stays, seat_steps}
use Rattle.law_held.proofs.laws.Tells.{tells_both}
use Rattle.law_reasons.proofs.Eras.EraLaw.Keeps.{record_clock}
use Rattle.law_reasons.proofs.Full.Keeps as full
use Rattle.law_reasons.proofs.Repeats.Gets.{begun_losses, first_none, losses_start}
use Rattle.law_reasons.proofs.Repeats.Paces.{Few, counted_for, counted_step, few_of, paced_begin, paced_step}
use Rattle.law_reasons.proofs.Repeats.Records.{began_stays, before_stays, before_zero, is_counted, moves_grow}
use Rattle.law_reasons.proofs.Repeats.Shift.{more_rounds, rounds_alike, shifted}
use Rattle.law_reasons.proofs.Repeats.Tails.{tails_step}
use Rattle.law_reuse.proofs.AnswersTold.Answering.{began_along, first_all, owes_of}
use Rattle.law_reuse.proofs.AnswersTold.Owed.{Serves, is_open}
use Rattle.law_reuse.proofs.Turns.Counted.{histories_count}
use Rattle.law_bounds.specs.Changes.{ChangesEnd, ChangesGoOn, change_most, changes_ok, few_in, few_since, once_most, round_most}
use Rattle.law_bounds.specs.Gets.{is_move, moves_since}
use Rattle.law_bounds.proofs.Changes.Falls.{counted_falls, counted_stays}
use Rattle.law_bounds.proofs.Changes.Fits as fits
use Rattle.law_bounds.proofs.Changes.Fits.{counted_more, phase_counts, phase_known, spare_is}
use Rattle.law_bounds.proofs.Changes.Paid.{EarlyBy, PaidBy, early_few, is_early, most_rounds, paid_most, paid_moves, phase_low, raised_paid, round_early, round_paid, serves_known, spare_of, world_moves}
use Rattle.law_bounds.proofs.Changes.Worth.{is_last}
use Rattle.law_bounds.proofs.Gets.GoOn.{turns_are}

abbrev before_of : Config → Past → ℕ → ℕ
before_of c p k = moves_before c k p

-- the clock at which the call of seat k began
abbrev pub began_clock : ℕ → Past → ℕ
began_clock k p = value_since (begins k) clock_of p

abbrev pub spare_at : Config → Past → ℕ → Local → ℕ
spare_at c p k l = counted_more l.phase (spare_of (most_rounds c l.call) (moves_before c k p) (moves_of c (Some l.call) p))

abbrev pub SeatPays : Config → Past → ℕ → (clock : ℕ) → Local → Type 0
SeatPays c p k clock l = PaidBy c (most_rounds c l.call) (moves_before c k p) (moves_of c (Some l.call) p) (began_clock k p) clock l ⊎ EarlyBy (began_clock k p) l

abbrev pub SeatPaid : Config → Past → ℕ → (clock : ℕ) → Local → Type 0
SeatPaid c p k clock l = busy_in l.phase ≡ true → is_counted l.call ≡ true → SeatPays c p k clock l

-- what a history keeps
pub record Keeps (layout : Layout) (made : Made) : Type 0 where
  pub full : full.Keeps layout made
  pub rows : View
  pub line : Line
  pub asked : Asked
  pub known : Known made.world rows line asked
  pub tails : tails_of made.past ≡ line.number (made.world.mem Tail - 1)
  pub rounds : Rounds (shifted made.world (before_of made.world.layout.config made.past)) line asked
  pub few : Losses (shifted made.world (before_of made.world.layout.config made.past))
  pub before : (k : ℕ) → moves_before made.world.layout.config k made.past ≤ moves_of made.world.layout.config (began_of k made.past) made.past
  pub paid : (k : ℕ) → SeatPaid made.world.layout.config made.past k (made.world.mem Clock) (made.world.seat k)
  pub law : Each (changes_ok made.world.layout.config) made.past

pub same_moves : (layout : Layout) (made : Made) (f : full.Keeps layout made) (l : Line) → tails_of made.past ≡ l.number (made.world.mem Tail - 1) → (call : Call) → moves_of made.world.layout.config (Some call) made.past ≡ world_moves (tally made.world l) call
same_moves layout made f l t (calls.Put key value) = ap length (f.sees.shown.changes (key % made.world.layout.config.buckets))
same_moves layout made f l t (calls.Remove key) = ap length (f.sees.shown.changes (key % made.world.layout.config.buckets))
same_moves layout made f l t (calls.PutIf key value version) = ap length (f.sees.shown.changes (key % made.world.layout.config.buckets))
same_moves layout made f l t (calls.Enqueue value) = let a = ap length f.sees.shown.queued in omega (arith, a, t)
same_moves layout made f l t calls.Dequeue = let a = f.sees.agrees.taken in omega (arith, a, t)
same_moves layout made f l t call = refl

-- with the rounds that are counted more no call loses more than it may
pub spare_fits : (c : Config) (t : Tally) (before now rounds : ℕ) (call : Call) (phase : Phase) → is_counted call ≡ true → Serves call phase → now ≡ world_moves t call → phase_fit c rounds phase → phase_paced t (rounds + before) phase → phase_fit c (rounds + counted_more phase (spare_of (most_rounds c call) before now)) phase
spare_fits c t before now rounds call phase h s e f p =
    let more : ℕ = spare_of (most_rounds c call) before now in
    let k : phase_known (fits.Known c t (most_rounds c call) (world_moves t call)) phase = serves_known c t call phase h s in
    phase_counts c t (most_rounds c call) (world_moves t call) before more rounds phase k (spare_is (most_rounds c call) (world_moves t call) before more (rw e refl)) f p

pub none_fits : (c : Config) (rounds most before now : ℕ) (phase : Phase) → most ≡ 0 → before ≡ 0 → phase_fit c rounds phase → phase_fit c (rounds + counted_more phase (spare_of most before now)) phase
none_fits c rounds most before now phase m b f = by (is_last phase)
  where
    none : spare_of most before now ≡ 0
    none = omega (arith, m, b)

    by : (last : Bool) → phase_fit c (rounds + (if last then 0 else spare_of most before now)) phase
    by true = subst (λ (n : ℕ). phase_fit c n phase) (omega arith) f
    by false = subst (λ (n : ℕ). phase_fit c n phase) (omega (arith, none)) f

pub no_rounds : (c : Config) (call : Call) → is_counted call ≡ false → most_rounds c call ≡ 0
no_rounds c (calls.Put key value) h = absurd (cc)
no_rounds c (calls.Remove key) h = absurd (cc)
no_rounds c (calls.PutIf key value version) h = absurd (cc)
no_rounds c (calls.Enqueue value) h = absurd (cc)
no_rounds c calls.Dequeue h = absurd (cc)
no_rounds c call h = refl

seat_fits : (layout : Layout) (made : Made) (g : Keeps layout made) (k : ℕ) (phase : Phase) (counted : Bool) → (made.world.seat k).phase ≡ phase → is_counted (made.world.seat k).call ≡ counted → busy_in phase ≡ true
    → phase_fit made.world.layout.config ((made.world.seat k).rounds + counted_more phase (spare_of (most_rounds made.world.layout.config (made.world.seat k).call) (moves_before made.world.layout.config k made.past) (moves_of made.world.layout.config (Some (made.world.seat k).call) made.past))) phase
seat_fits layout made g k phase counted e h b =
    let w : World = made.world in
    let c : Config = w.layout.config in
    let y : is_busy w k ≡ true = rw e b in
    let a = g.full.answers.seats k in
    let f : phase_fit c (w.seat k).rounds phase = subst (λ (x : Phase). phase_fit c (w.seat k).rounds x) e (g.known.losses.few k) in
    by counted h y f
  where
    by : (counted : Bool) → is_counted (made.world.seat k).call ≡ counted → is_busy made.world k ≡ true → phase_fit made.world.layout.config (made.world.seat k).rounds phase
        → phase_fit made.world.layout.config ((made.world.seat k).rounds + counted_more phase (spare_of (most_rounds made.world.layout.config (made.world.seat k).call) (moves_before made.world.layout.config k made.past) (moves_of made.world.layout.config (Some (made.world.seat k).call) made.past))) phase
    by true h y f =
        let a = g.full.answers.seats k in
        spare_fits made.world.layout.config (tally made.world g.line) (moves_before made.world.layout.config k made.past) (moves_of made.world.layout.config (Some (made.world.seat k).call) made.past) (made.world.seat k).rounds (made.world.seat k).call phase h
        (subst (λ (x : Phase). Serves (made.world.seat k).call x) e (a.serves y)) (same_moves layout made g.full g.line g.tails (made.world.seat k).call) f
        (subst (λ (x : Phase). phase_paced (tally made.world g.line) ((made.world.seat k).rounds + moves_before made.world.layout.config k made.past) x) e (g.rounds.paced k))
    by false h y f =
        let a = g.full.answers.seats k in
        none_fits made.world.layout.config (made.world.seat k).rounds (most_rounds made.world.layout.config (made.world.seat k).call) (moves_before made.world.layout.config k made.past) (moves_of made.world.layout.config (Some (made.world.seat k).call) made.past) phase
        (no_rounds made.world.layout.config (made.world.seat k).call h) (before_zero made.world.layout.config k made.past (made.world.seat k).call (a.began y) h) f

losses_spare : (layout : Layout) (made : Made) → Keeps layout made → Losses (shifted made.world (λ k. spare_at made.world.layout.config made.past k (made.world.seat k)))
losses_spare layout made g = record { few = λ k. by k (made.world.seat k).phase refl; spans = g.known.losses.spans }
  where
    by : (k : ℕ) (phase : Phase) → (made.world.seat k).phase ≡ phase → phase_fit made.world.layout.config ((made.world.seat k).rounds + counted_more phase (spare_of (most_rounds made.world.layout.config (made.world.seat k).call) (moves_before made.world.layout.config k made.past) (moves_of made.world.layout.config (Some (made.world.seat k).call) made.past))) phase
    by k Idle e = tt
    by k (Runs why base) e = seat_fits layout made g k (Runs why base) (is_counted (made.world.seat k).call) e refl refl
    by k (Scans later at) e = seat_fits layout made g k (Scans later at) (is_counted (made.world.seat k).call) e refl refl
    by k (Works work) e = seat_fits layout made g k (Works work) (is_counted (made.world.seat k).call) e refl refl

-- the clock at which a call began, and the moves since
clock_grows : (i : ℕ) (told : List Event) (p : Past) → clock_of p ≤ clock_of (tells_of p i told)
clock_grows i [] p = omega arith
clock_grows i (event ∷ told) p = let a = one_tick event (clock_of p) in let b = clock_grows i told (Then p i event) in omega (arith, a, b)
  where
    one_tick : (event : Event) (n : ℕ) → n ≤ ticked_by event n
    one_tick (events.Era era) n = omega arith
    one_tick event n = omega arith

began_stays_clock : (k i : ℕ) (told : List Event) (p : Past) → all_of is_within told ≡ true → began_clock k (tells_of p i told) ≡ began_clock k p
began_stays_clock k i [] p h = refl
began_stays_clock k i (event ∷ told) p h =
    began_stays_clock k i told (Then p i event) (later_of (is_within event) (all_of is_within told) h) ∙ rw (within_begins k i p event (first_of (is_within event) (all_of is_within told) h)) refl

one_more_tick : (event : Event) (first since clock : ℕ) → clock ≡ first + since → ticked_by event clock ≡ first + (if is_move event then since + 1 else since)
one_more_tick (events.Era era) first since clock e = omega (arith, e)
one_more_tick event first since clock e = e

since_one : (event : Event) (first since clock : ℕ) (begun : Bool) → clock ≡ first + since → ticked_by event clock ≡ (if begun then ticked_by event clock else first) + (if begun then 0 else if is_move event then since + 1 else since)
since_one event first since clock true e = omega arith
since_one event first since clock false e = one_more_tick event first since clock e

clock_since : (k : ℕ) (p : Past) → clock_of p ≡ began_clock k p + moves_since k p
clock_since k Start = refl
clock_since k (Then p i event) = since_one event (began_clock k p) (moves_since k p) (clock_of p) (begins k p i event) (clock_since k p)

-- what a step leaves of a seat
settled_call : (l : Local) (post : Post) (desk : Desk) (rounds : ℕ) (outcome : CallOutcome) → (settled_by l post desk rounds outcome).call ≡ l.call
settled_call l post desk rounds (GoesOn phase) = refl
settled_call l post desk rounds (Answers answer) = refl

settled_rounds : (l : Local) (post : Post) (desk : Desk) (rounds : ℕ) (outcome : CallOutcome) → (settled_by l post desk rounds outcome).rounds ≡ rounds
settled_rounds l post desk rounds (GoesOn phase) = refl
settled_rounds l post desk rounds (Answers answer) = refl

abbrev turn_of : World → ℕ → CallTurn
turn_of w i = turn (offered w i) (finds w i)

pub step_call : (w : World) (i : ℕ) → ((step w i).seat i).call ≡ (w.seat i).call
step_call w i =
    let t : CallTurn = turn_of w i in
    ap (λ (l : Local). l.call) (seat_steps w i) ∙ settled_call (offered w i) t.post (noting t.desk (told_by t)) (rounds_told (publishes_rows (scheme_of t.post)) (w.seat i).rounds (told_by t)) t.outcome

step_rounds : (w : World) (i : ℕ) → told_by (turn_of w i) ≡ [] → ((step w i).seat i).rounds ≡ (w.seat i).rounds
step_rounds w i e =
    let t : CallTurn = turn_of w i in
    ap (λ (l : Local). l.rounds) (seat_steps w i) ∙ settled_rounds (offered w i) t.post (noting t.desk (told_by t)) (rounds_told (publishes_rows (scheme_of t.post)) (w.seat i).rounds (told_by t)) t.outcome
    ∙ ap (λ (told : List Event). rounds_told (publishes_rows (scheme_of t.post)) (w.seat i).rounds told) e

-- a seat's payment, where its call and what was counted before it are these
pays_as : (c : Config) (p : Past) (k clock before first : ℕ) (l : Local) (call : Call) → l.call ≡ call → moves_before c k p ≡ before → began_clock k p ≡ first
    → PaidBy c (most_rounds c call) before (moves_of c (Some call) p) first clock l ⊎ EarlyBy first l → SeatPays c p k clock l
pays_as c p k clock before first l call e b f h =
    subst (λ (x : Call). PaidBy c (most_rounds c x) (moves_before c k p) (moves_of c (Some x) p) (began_clock k p) clock l ⊎ EarlyBy (began_clock k p) l) (sym e)
    (subst (λ (n : ℕ). PaidBy c (most_rounds c call) n (moves_of c (Some call) p) (began_clock k p) clock l ⊎ EarlyBy (began_clock k p) l) (sym b)
    (subst (λ (n : ℕ). PaidBy c (most_rounds c call) before (moves_of c (Some call) p) n clock l ⊎ EarlyBy n l) (sym f) h))

-- the second step of a call whose interval ended long before it
raise_turn : (task : Task) (desk : Desk) (post : Post) (base : Base) (same : Bool) (t : Turn) → same ≡ false → steps.run_turn (Opens task) desk (if same then t else goes post [] base) ≡ goes_on post desk [] (Runs (Opens task) base)
raise_turn task desk post base true t e = absurd (cc)
raise_turn task desk post base false t e = refl

-- what is known of a step
record Going (w : World) (i : ℕ) (call : Call) (before next first : ℕ) : Type 0 where
  valid : is_valid w.layout ≡ true
  more : ((step w i).seat i).post.steps ≡ (w.seat i).post.steps + 1
  lives : length ((step w i).seat i).desk.list ≤ w.layout.config.slots + 1
  few : before ≤ next
  began : first ≤ w.mem Clock
  tasks : (task : Task) (base : Base) → (w.seat i).phase ≡ Runs (Opens task) base → rounds_most w.layout.config task ≡ most_rounds w.layout.config call

early_own : (w : World) (i : ℕ) (call : Call) (before next first : ℕ) (phase : Phase) → (w.seat i).phase ≡ phase → Going w i call before next first → is_early phase (w.seat i).post.steps ≡ true → EarlyBy first (w.seat i)
    → PaidBy w.layout.config (most_rounds w.layout.config call) before next first ((step w i).mem Clock) ((step w i).seat i) ⊎ EarlyBy first ((step w i).seat i)
early_own w i call before next first (Runs (Opens task) (Protect aim index root made LoadWithin)) e g h x =
    let post : Post = counted (w.seat i).post in
    let desk : Desk = (offered w i).desk in
    let found : ℕ = finds w i in
    let next_phase : Phase = Runs (Opens task) (Protect aim index root (bump made) (CheckUpper found)) in
    let a : turn_of w i ≡ goes_on post desk [] next_phase = ap (λ (phase : Phase). steps.phase_turn phase post desk found) e in
    let f : ((step w i).seat i).phase ≡ next_phase = stepped_phase w i ∙ ap (λ (t : CallTurn). stands_at t.outcome) a in
    let s : ((step w i).seat i).post.span ≡ (w.seat i).post.span = ap (λ (p : Post). p.span) (stepped_post w i ∙ ap (λ (t : CallTurn). t.post) a) in
    let r : ((step w i).seat i).rounds ≡ 0 = step_rounds w i (ap told_by a) ∙ x.none in
    let m : ((step w i).seat i).post.steps ≡ 1 = let z : (w.seat i).post.steps ≡ 0 = grind (arith, nat_tests, h) in g.more ∙ ap (λ (n : ℕ). n + 1) z in
    inr (record { early = rw (f, m) refl; none = r; stands = rw s x.stands; stale = rw s x.stale })
early_own w i call before next first (Runs (Opens task) (Protect aim index root made (CheckUpper link))) e g h x =
    let c : Config = w.layout.config in
    let post : Post = counted (w.seat i).post in
    let desk : Desk = (offered w i).desk in
    let found : ℕ = finds w i in
    let next_phase : Phase = Runs (Opens task) (Protect aim index root (bump made) (RaiseUpper found)) in
    let now : found ≡ w.mem Clock = fit_clock w i (Opens task) aim index root made (CheckUpper link) e in
    let late : (found == upper post.span) ≡ false = let q = x.stale in let r = g.began in grind (arith, nat_tests, q, r, now) in
    let a : turn_of w i ≡ goes_on post desk [] next_phase =
    ap (λ (phase : Phase). steps.phase_turn phase post desk found) e ∙ raise_turn task desk post (Protect aim index root (bump made) (RaiseUpper found)) (found == upper post.span) (protected aim index root (bump made) link found post) late in
    let f : ((step w i).seat i).phase ≡ next_phase = stepped_phase w i ∙ ap (λ (t : CallTurn). stands_at t.outcome) a in
    let r : ((step w i).seat i).rounds ≡ 0 = step_rounds w i (ap told_by a) ∙ x.none in
    let m : ((step w i).seat i).post.steps ≡ 2 = let z : (w.seat i).post.steps ≡ 1 = grind (arith, nat_tests, h) in g.more ∙ ap (λ (n : ℕ). n + 1) z in
    let b = raised_paid c task aim index root (bump made) found (length ((step w i).seat i).desk.list) (most_rounds c call) before next first (g.tasks task (Protect aim index root made (CheckUpper link)) e) g.few g.lives (let q = g.began in omega (arith, q, now)) in
    inl (rw (f, r, m) (omega (arith, b)))
early_own w i call before next first phase e g h x = absurd (cc)

-- a step of the seat's own
going : (layout : Layout) (path : List Item) (i : ℕ) → is_valid layout ≡ true → is_busy (world_of layout path) i ≡ true → is_busy (step (world_of layout path) i) i ≡ true → is_counted ((world_of layout path).seat i).call ≡ true → (g : Keeps layout (made_of layout path))
    → (v : View) (l : Line) (z : Asked) → Known (step (world_of layout path) i) v l z → (before next first : ℕ) → before ≤ next → first ≤ (world_of layout path).mem Clock → Going (world_of layout path) i ((world_of layout path).seat i).call before next first
going layout path i d y b h g v l z k before next first few began =
    let w : World = world_of layout path in
    let n = histories_count layout path d in
    let a = g.full.answers.seats i in
    record {
      valid = g.known.valid;
      more = n.one_more i y;
      lives = listed_few (step w i) i v k.whole.both.rows b;
      few = few;
      began = began;
      tasks = λ task base e.
          let s : Serves (w.seat i).call (Runs (Opens task) base) = subst (λ (x : Phase). Serves (w.seat i).call x) e (a.serves y) in
          let q = serves_known w.layout.config (tally w g.line) (w.seat i).call (Runs (Opens task) base) h s in
          q.most_is;
    }

began_low : (k : ℕ) (p : Past) → began_clock k p ≤ clock_of p
began_low k p = let a = clock_since k p in omega (arith, a)

own_pays : (layout : Layout) (path : List Item) (i : ℕ) → is_valid layout ≡ true → is_busy (world_of layout path) i ≡ true → (g : Keeps layout (made_of layout path)) → (v : View) (l : Line) (z : Asked) → Known (step (world_of layout path) i) v l z
    → SeatPaid (world_of layout path).layout.config (tells_of (record_of layout path) i (told_in (world_of layout path) i)) i ((step (world_of layout path) i).mem Clock) ((step (world_of layout path) i).seat i)
own_pays layout path i d y g v l z k b h =
    let w : World = world_of layout path in
    let p : Past = record_of layout path in
    let c : Config = w.layout.config in
    let told : List Event = told_in w i in
    let q : Past = tells_of p i told in
    let call : Call = (w.seat i).call in
    let e : ((step w i).seat i).call ≡ call = step_call w i in
    let counted : is_counted call ≡ true = subst (λ (x : Call). is_counted x ≡ true) e h in
    let a = g.full.answers.seats i in
    let few : moves_before c i p ≤ moves_of c (Some call) p = subst (λ (x : Option Call). moves_before c i p ≤ moves_of c x p) (a.began y) (g.before i) in
    let more : moves_of c (Some call) p ≤ moves_of c (Some call) q = moves_grow c (Some call) i told p (within_of w i) in
    let began : began_clock i p ≤ w.mem Clock = subst (λ (n : ℕ). began_clock i p ≤ n) (record_clock layout path d) (began_low i p) in
    pays_as c q i ((step w i).mem Clock) (moves_before c i p) (began_clock i p) ((step w i).seat i) call e (before_stays c i i told p (within_of w i)) (began_stays_clock i i told p (within_of w i))
    (by (g.paid i y counted) few more began counted)
  where
    by : SeatPays (world_of layout path).layout.config (record_of layout path) i ((world_of layout path).mem Clock) ((world_of layout path).seat i)
        → moves_before (world_of layout path).layout.config i (record_of layout path) ≤ moves_of (world_of layout path).layout.config (Some ((world_of layout path).seat i).call) (record_of layout path)
        → moves_of (world_of layout path).layout.config (Some ((world_of layout path).seat i).call) (record_of layout path) ≤ moves_of (world_of layout path).layout.config (Some ((world_of layout path).seat i).call) (tells_of (record_of layout path) i (told_in (world_of layout path) i))
        → began_clock i (record_of layout path) ≤ (world_of layout path).mem Clock
        → is_counted ((world_of layout path).seat i).call ≡ true
        → PaidBy (world_of layout path).layout.config (most_rounds (world_of layout path).layout.config ((world_of layout path).seat i).call) (moves_before (world_of layout path).layout.config i (record_of layout path)) (moves_of (world_of layout path).layout.config (Some ((world_of layout path).seat i).call) (tells_of (record_of layout path) i (told_in (world_of layout path) i))) (began_clock i (record_of layout path)) ((step (world_of layout path) i).mem Clock) ((step (world_of layout path) i).seat i)
        ⊎ EarlyBy (began_clock i (record_of layout path)) ((step (world_of layout path) i).seat i)
    by (inl paid) few more began counted =
        let w : World = world_of layout path in
        let c : Config = w.layout.config in
        let n = histories_count layout path d in
        let m = n.one_more i y in
        let f = counted_falls w i g.rows g.line g.asked (λ j. spare_at c (record_of layout path) j (w.seat j)) g.known (losses_spare layout (made_of layout path) g) b in
        inl (paid_moves c (most_rounds c (w.seat i).call) (moves_before c i (record_of layout path)) (moves_of c (Some (w.seat i).call) (record_of layout path)) (moves_of c (Some (w.seat i).call) (tells_of (record_of layout path) i (told_in w i))) (began_clock i (record_of layout path)) (w.mem Clock) ((step w i).mem Clock) (w.seat i) ((step w i).seat i) few more (omega (arith, m, f)) paid)
    by (inr early) few more began counted =
        let w : World = world_of layout path in
        early_own w i (w.seat i).call _ _ _ (w.seat i).phase refl (going layout path i d y b counted g v l z k _ _ _ (omega (arith, few, more)) began) early.early early

-- other seats
other_pays : (layout : Layout) (path : List Item) (i k : ℕ) → (k == i) ≡ false → is_valid layout ≡ true → (g : Keeps layout (made_of layout path))
    → SeatPaid (world_of layout path).layout.config (tells_of (record_of layout path) i (told_in (world_of layout path) i)) k ((step (world_of layout path) i).mem Clock) ((step (world_of layout path) i).seat k)
other_pays layout path i k e d g =
    let w : World = world_of layout path in
    let p : Past = record_of layout path in
    let c : Config = w.layout.config in
    let told : List Event = told_in w i in
    subst (λ (l : Local). SeatPaid c (tells_of p i told) k ((step w i).mem Clock) l) (sym (seat_stays w i k e))
    (λ b h.
    let a = g.full.answers.seats k in
    let few : moves_before c k p ≤ moves_of c (Some (w.seat k).call) p = subst (λ (x : Option Call). moves_before c k p ≤ moves_of c x p) (a.began b) (g.before k) in
    pays_as c (tells_of p i told) k ((step w i).mem Clock) (moves_before c k p) (began_clock k p) (w.seat k) (w.seat k).call refl (before_stays c k i told p (within_of w i)) (began_stays_clock k i told p (within_of w i))
    (by few (g.paid k b h)))
  where
    by : moves_before (world_of layout path).layout.config k (record_of layout path) ≤ moves_of (world_of layout path).layout.config (Some ((world_of layout path).seat k).call) (record_of layout path)
        → SeatPays (world_of layout path).layout.config (record_of layout path) k ((world_of layout path).mem Clock) ((world_of layout path).seat k)
        → PaidBy (world_of layout path).layout.config (most_rounds (world_of layout path).layout.config ((world_of layout path).seat k).call) (moves_before (world_of layout path).layout.config k (record_of layout path)) (moves_of (world_of layout path).layout.config (Some ((world_of layout path).seat k).call) (tells_of (record_of layout path) i (told_in (world_of layout path) i))) (began_clock k (record_of layout path)) ((step (world_of layout path) i).mem Clock) ((world_of layout path).seat k)
        ⊎ EarlyBy (began_clock k (record_of layout path)) ((world_of layout path).seat k)
    by few (inl paid) =
        let w : World = world_of layout path in
        let c : Config = w.layout.config in
        let p : Past = record_of layout path in
        let more = moves_grow c (Some (w.seat k).call) i (told_in w i) p (within_of w i) in
        let f = counted_stays w i k (λ j. spare_at c p j (w.seat j)) e (clock_next w i g.known.eras).rises in
        let s : rest (shifted (step w i) (λ j. spare_at c p j (w.seat j))) k ≡ rest_of c ((step w i).mem Clock) (more_rounds (w.seat k) (spare_at c p k (w.seat k))) = ap (λ (l : Local). rest_of c ((step w i).mem Clock) (more_rounds l (spare_at c p k (w.seat k)))) (seat_stays w i k e) in
        inl (paid_moves c (most_rounds c (w.seat k).call) (moves_before c k p) (moves_of c (Some (w.seat k).call) p) (moves_of c (Some (w.seat k).call) (tells_of p i (told_in w i))) (began_clock k p) (w.mem Clock) ((step w i).mem Clock) (w.seat k) (w.seat k) few more (omega (arith, f, s)) paid)
    by few (inr early) = inr early

step_pays : (layout : Layout) (path : List Item) (i k : ℕ) (same : Bool) → (k == i) ≡ same → is_valid layout ≡ true → is_busy (world_of layout path) i ≡ true → (g : Keeps layout (made_of layout path)) → (v : View) (l : Line) (z : Asked) → Known (step (world_of layout path) i) v l z
    → SeatPaid (world_of layout path).layout.config (tells_of (record_of layout path) i (told_in (world_of layout path) i)) k ((step (world_of layout path) i).mem Clock) ((step (world_of layout path) i).seat k)
step_pays layout path i k true e d y g v l z n =
    let w : World = world_of layout path in
    let one : i ≡ k = grind (arith, nat_tests) in
    subst (λ (m : ℕ). SeatPaid w.layout.config (tells_of (record_of layout path) i (told_in w i)) m ((step w i).mem Clock) ((step w i).seat m)) one (own_pays layout path i d y g v l z n)
step_pays layout path i k false e d y g v l z n = other_pays layout path i k e d g

-- a call begins
pub begin_moves : (c : Config) (x : Option Call) (i : ℕ) (call : Call) (p : Past) → moves_of c x (Then p i (events.Begin call)) ≡ moves_of c x p
begin_moves c None i call p = refl
begin_moves c (Some (calls.Put key value)) i call p = refl
begin_moves c (Some (calls.Remove key)) i call p = refl
begin_moves c (Some (calls.PutIf key value version)) i call p = refl
begin_moves c (Some (calls.Enqueue value)) i call p = refl
begin_moves c (Some calls.Dequeue) i call p = refl
begin_moves c (Some x) i call p = refl

began_now : (i : ℕ) (call : Call) (p : Past) → began_of i (Then p i (events.Begin call)) ≡ Some call
began_now i call p = rw (same_number i) refl

value_now : (f : Past → ℕ) (i : ℕ) (call : Call) (p : Past) → value_since (begins i) f (Then p i (events.Begin call)) ≡ f (Then p i (events.Begin call))
value_now f i call p = rw (same_number i) refl

before_now : (c : Config) (i : ℕ) (call : Call) (p : Past) → moves_before c i (Then p i (events.Begin call)) ≡ moves_of c (Some call) p
before_now c i call p =
    let r : Past = Then p i (events.Begin call) in
    value_now (moves_of c (began_of i r)) i call p ∙ ap (λ (x : Option Call). moves_of c x r) (began_now i call p) ∙ begin_moves c (Some call) i call p

began_other : (k i : ℕ) (call : Call) (p : Past) → (k == i) ≡ false → began_of k (Then p i (events.Begin call)) ≡ began_of k p
began_other k i call p e = rw e refl

value_other : (f : Past → ℕ) (k i : ℕ) (call : Call) (p : Past) → (k == i) ≡ false → value_since (begins k) f (Then p i (events.Begin call)) ≡ value_since (begins k) f p
value_other f k i call p e = rw e refl

before_other : (c : Config) (k i : ℕ) (call : Call) (p : Past) → (k == i) ≡ false → moves_before c k (Then p i (events.Begin call)) ≡ moves_before c k p
before_other c k i call p e =
    ap (λ (x : Option Call). value_since (begins k) (moves_of c x) (Then p i (events.Begin call))) (began_other k i call p e) ∙ value_other (moves_of c (began_of k p)) k i call p e

counted_by : (t : Tally) (call : Call) (n : ℕ) → n ≡ world_moves t call → counted_for t call n
counted_by t (calls.Put key value) n e = omega (arith, e)
counted_by t (calls.Remove key) n e = omega (arith, e)
counted_by t (calls.PutIf key value version) n e = omega (arith, e)
counted_by t (calls.Enqueue value) n e = omega (arith, e)
counted_by t calls.Dequeue n e = omega (arith, e)
counted_by t (calls.Get key) n e = omega (arith, e)
counted_by t (calls.Hold key) n e = omega (arith, e)
counted_by t calls.Release n e = tt
counted_by t calls.Advance n e = tt
counted_by t calls.Scan n e = tt
counted_by t (calls.Copy from index) n e = tt
counted_by t (calls.DropIndex index) n e = tt
counted_by t (calls.Look index key) n e = tt
counted_by t calls.Leave n e = tt
counted_by t (calls.Adopt place) n e = tt

first_lost : (w : World) (i : ℕ) (call : Call) (t : Tally) (n : ℕ) → Few t w.layout.config.last_version → Losses w → n ≡ world_moves t call → phase_fit w.layout.config n (steps.first_phase call (begun_post (w.seat i).post))
first_lost w i (calls.Put key value) t n f h e = let a = f.count (key % t.buckets) in round_fit w.layout.config n (Changes _) (begun_post (w.seat i).post) (omega (arith, a, e))
first_lost w i (calls.Remove key) t n f h e = let a = f.count (key % t.buckets) in round_fit w.layout.config n (Changes _) (begun_post (w.seat i).post) (omega (arith, a, e))
first_lost w i (calls.PutIf key value version) t n f h e = let a = f.count (key % t.buckets) in round_fit w.layout.config n (Changes _) (begun_post (w.seat i).post) (omega (arith, a, e))
first_lost w i (calls.Enqueue value) t n f h e = let a = f.passes in round_fit w.layout.config n (Enqueues _) (begun_post (w.seat i).post) (omega (arith, a, e))
first_lost w i calls.Dequeue t n f h e = let a = f.takes in round_fit w.layout.config n Dequeues (begun_post (w.seat i).post) (omega (arith, a, e))
first_lost w i call t n f h e = subst (λ (x : ℕ). phase_fit w.layout.config x (steps.first_phase call (begun_post (w.seat i).post))) (sym e) (first_none w i call h)

-- where it begins it has paid, or an interval stands that ended before
abbrev Starts_by : Config → (most before now first clock : ℕ) → Local → Type 0
Starts_by c most before now first clock l = PaidBy c most before now first clock l ⊎ EarlyBy first l

round_starts : (c : Config) (task : Task) (most now clock : ℕ) (l : Local) → rounds_most c task ≡ most → l.phase ≡ round task l.post → l.post.steps ≡ 0 → l.rounds ≡ 0 → length l.desk.list ≤ c.slots + 1 → (has_one_interval (scheme_of l.post) ≡ false → l.post.span ≡ None) → Starts_by c most now now clock clock l
round_starts c task most now clock l e p s r d n = by (nat_le clock (span_seen clock l.post.span)) refl (has_one_interval (scheme_of l.post)) refl
  where
    stood : (span : Option Interval) (clock : ℕ) → nat_le clock (span_seen clock span) ≡ false → (is_some span ≡ true) × (upper span < clock)
    stood None clock h = absurd (grind (arith, nat_tests))
    stood (Some span) clock h = (refl, grind (arith, nat_tests))

    none_stood : (span : Option Interval) → span ≡ None → is_some span ≡ true → ⊥
    none_stood None e h = cc
    none_stood (Some span) e h = cc

    by : (fresh : Bool) → nat_le clock (span_seen clock l.post.span) ≡ fresh → (one : Bool) → has_one_interval (scheme_of l.post) ≡ one → Starts_by c most now now clock clock l
    by true f one i =
        let h : clock ≤ span_seen clock l.post.span = grind (arith, nat_tests, f) in
        let n : ℕ = spare_of most now now in
        let seen : ℕ = span_seen clock l.post.span in
        let a = round_paid c task l.post l.desk.list most now now clock clock e (omega arith) d h in
        let b : 1 + (phase_left c (0 + counted_more l.phase n) l.desk.list l.phase + eras_left c (phase_seen l.phase seen)) ≤ paid_most c (now - now) clock =
        subst (λ (phase : Phase). 1 + (phase_left c (0 + counted_more phase n) l.desk.list phase + eras_left c (phase_seen phase seen)) ≤ paid_most c (now - now) clock) (sym p) a in
        let f : 1 + (phase_left c (l.rounds + counted_more l.phase n) l.desk.list l.phase + eras_left c (phase_seen l.phase seen)) ≤ paid_most c (now - now) clock =
        subst (λ (m : ℕ). 1 + (phase_left c (m + counted_more l.phase n) l.desk.list l.phase + eras_left c (phase_seen l.phase seen)) ≤ paid_most c (now - now) clock) (sym r) b in
        inl (omega (arith, f, s))
    by false f true i =
        let h = stood l.post.span clock f in
        inr (record { early = subst (λ (m : ℕ). is_early l.phase m ≡ true) (sym s) (subst (λ (phase : Phase). is_early phase 0 ≡ true) (sym p) (round_early task l.post i h.0)); none = r; stands = h.0; stale = h.1 })
    by false f false i = absurd (let h = stood l.post.span clock f in none_stood l.post.span (n i) h.0)

first_starts : (c : Config) (call : Call) (now clock : ℕ) (l : Local) → is_counted call ≡ true → l.phase ≡ steps.first_phase call l.post → l.post.steps ≡ 0 → l.rounds ≡ 0 → length l.desk.list ≤ c.slots + 1 → (has_one_interval (scheme_of l.post) ≡ false → l.post.span ≡ None) → Starts_by c (most_rounds c call) now now clock clock l
first_starts c (calls.Put key value) now clock l h p s r d n = round_starts c (steps.changing (changes.Put key value) None) (c.last_version + 1) now clock l refl p s r d n
first_starts c (calls.Remove key) now clock l h p s r d n = round_starts c (steps.changing (changes.Removed key) None) (c.last_version + 1) now clock l refl p s r d n
first_starts c (calls.PutIf key value version) now clock l h p s r d n = round_starts c (steps.changing (changes.Put key value) (Some version)) (c.last_version + 1) now clock l refl p s r d n
first_starts c (calls.Enqueue value) now clock l h p s r d n = round_starts c (Enqueues (record { value = value; taken = None; walked = false; tail = 0; number = 0 })) (2 * c.last_version + 1) now clock l refl p s r d n
first_starts c calls.Dequeue now clock l h p s r d n = round_starts c Dequeues (2 * c.last_version + 1) now clock l refl p s r d n
first_starts c call now clock l h p s r d n = absurd (cc)

own_starts : (layout : Layout) (path : List Item) (i : ℕ) (call : Call) → is_valid layout ≡ true → (g : Keeps layout (made_of layout path)) → (v : View) (l : Line) (z : Asked) → Known (begin (world_of layout path) i call) v l z
    → SeatPaid (world_of layout path).layout.config (Then (record_of layout path) i (events.Begin call)) i ((world_of layout path).mem Clock) (begun ((world_of layout path).seat i) call)
own_starts layout path i call d g v l z k b h =
    let w : World = world_of layout path in
    let c : Config = w.layout.config in
    let p : Past = record_of layout path in
    let r : Past = Then p i (events.Begin call) in
    let n : Local = begun (w.seat i) call in
    let e : (begin w i call).seat i ≡ n = begin_begins w i call in
    let f = g.known.seats.fits i in
    let scheme : scheme_of n.post ≡ c.scheme = ap (λ (table : Layout). table.config.scheme) f.post.layout in
    let lives : length n.desk.list ≤ c.slots + 1 = subst (λ (x : Local). length x.desk.list ≤ c.slots + 1) e (listed_few (begin w i call) i v k.whole.both.rows (rw e b)) in
    let clock : began_clock i r ≡ w.mem Clock = value_now clock_of i call p ∙ record_clock layout path d in
    let now : moves_of c (Some call) r ≡ moves_of c (Some call) p = begin_moves c (Some call) i call p in
    let s : Starts_by c (most_rounds c call) (moves_of c (Some call) p) (moves_of c (Some call) p) (w.mem Clock) (w.mem Clock) n = first_starts c call (moves_of c (Some call) p) (w.mem Clock) n h refl refl refl lives (λ o. g.known.losses.spans i (sym (ap has_one_interval scheme) ∙ o)) in
    pays_as c r i (w.mem Clock) (moves_of c (Some call) p) (w.mem Clock) n call refl (before_now c i call p) clock
    (subst (λ (m : ℕ). Starts_by c (most_rounds c call) (moves_of c (Some call) p) m (w.mem Clock) (w.mem Clock) n) (sym now) s)

begin_pays : (layout : Layout) (path : List Item) (i k : ℕ) (call : Call) (same : Bool) → (k == i) ≡ same → is_valid layout ≡ true → (g : Keeps layout (made_of layout path)) → (v : View) (l : Line) (z : Asked) → Known (begin (world_of layout path) i call) v l z
    → SeatPaid (world_of layout path).layout.config (Then (record_of layout path) i (events.Begin call)) k ((world_of layout path).mem Clock) ((begin (world_of layout path) i call).seat k)
begin_pays layout path i k call true e d g v l z n =
    let w : World = world_of layout path in
    let one : i ≡ k = grind (arith, nat_tests) in
    subst (λ (m : ℕ). SeatPaid w.layout.config (Then (record_of layout path) i (events.Begin call)) m (w.mem Clock) ((begin w i call).seat m)) one
    (subst (λ (x : Local). SeatPaid w.layout.config (Then (record_of layout path) i (events.Begin call)) i (w.mem Clock) x) (sym (begin_begins w i call)) (own_starts layout path i call d g v l z n))
begin_pays layout path i k call false e d g v l z n =
    let w : World = world_of layout path in
    let c : Config = w.layout.config in
    let p : Past = record_of layout path in
    let r : Past = Then p i (events.Begin call) in
    subst (λ (x : Local). SeatPaid c r k (w.mem Clock) x) (sym (begin_stays w i k call e))
    (λ b h.
    pays_as c r k (w.mem Clock) (moves_before c k p) (began_clock k p) (w.seat k) (w.seat k).call refl (before_other c k i call p e) (value_other clock_of k i call p e)
    (subst (λ (m : ℕ). Starts_by c (most_rounds c (w.seat k).call) (moves_before c k p) m (began_clock k p) (w.mem Clock) (w.seat k)) (sym (begin_moves c (Some (w.seat k).call) i call p)) (g.paid k b h)))

-- what was counted before a call is no more than there is now
before_steps : (c : Config) (k i : ℕ) (told : List Event) (p : Past) → all_of is_within told ≡ true → moves_before c k p ≤ moves_of c (began_of k p) p → moves_before c k (tells_of p i told) ≤ moves_of c (began_of k (tells_of p i told)) (tells_of p i told)
before_steps c k i told p h g =
    let a = before_stays c k i told p h in
    let b = moves_grow c (began_of k p) i told p h in
    let e : moves_of c (began_of k (tells_of p i told)) (tells_of p i told) ≡ moves_of c (began_of k p) (tells_of p i told) = ap (λ (x : Option Call). moves_of c x (tells_of p i told)) (began_stays k i told p h) in
    omega (arith, a, b, e, g)

before_begins : (c : Config) (k i : ℕ) (call : Call) (p : Past) (same : Bool) → (k == i) ≡ same → moves_before c k p ≤ moves_of c (began_of k p) p → moves_before c k (Then p i (events.Begin call)) ≤ moves_of c (began_of k (Then p i (events.Begin call))) (Then p i (events.Begin call))
before_begins c k i call p true e g =
    let one : i ≡ k = grind (arith, nat_tests) in
    subst (λ (m : ℕ). moves_before c m (Then p i (events.Begin call)) ≤ moves_of c (began_of m (Then p i (events.Begin call))) (Then p i (events.Begin call))) one (
    let a = before_now c i call p in
    let b : moves_of c (began_of i (Then p i (events.Begin call))) (Then p i (events.Begin call)) ≡ moves_of c (Some call) p = ap (λ (x : Option Call). moves_of c x (Then p i (events.Begin call))) (began_now i call p) ∙ begin_moves c (Some call) i call p in
    omega (arith, a, b))
before_begins c k i call p false e g =
    let a = before_other c k i call p e in
    let b : moves_of c (began_of k (Then p i (events.Begin call))) (Then p i (events.Begin call)) ≡ moves_of c (began_of k p) p = ap (λ (x : Option Call). moves_of c x (Then p i (events.Begin call))) (began_other k i call p e) ∙ begin_moves c (began_of k p) i call p in
    omega (arith, a, b, g)

-- what a seat that has paid has taken
times_more : (w a b : ℕ) → a ≤ b → w * (1 + a + 1) ≤ w * (1 + b + 1)
times_more w a b h =
    let m : (1 + a + 1) * w ≤ (1 + b + 1) * w = mul-le-mul_right w (omega (arith, h)) in
    let x = swap (1 + a + 1) w in
    let y = swap (1 + b + 1) w in
    omega (arith, m, x, y)
  where
    swap : (a w : ℕ) → a * w ≡ w * a
    swap a w = grind arith

paid_few : (c : Config) (most before now first clock since : ℕ) (l : Local) → clock ≡ first + since → clock ≤ c.last_era → phase_seen l.phase (span_seen clock l.post.span) ≤ clock
    → PaidBy c most before now first clock l → l.post.steps + 1 ≤ round_most c * (1 + (now - before) + 1) + 3 * since + once_most c
paid_few c most before now first clock since l e m s p =
    let w : round_worth c ≡ round_most c = omega arith in
    let a = apart (round_worth c) (round_most c) (now - before) w in
    omega (arith, e, m, s, p, a)
  where
    apart : (w v n : ℕ) → w ≡ v → w * (n + 2) ≡ v * (1 + n + 1)
    apart w v n e = rw e (ap (λ (x : ℕ). v * x) (omega arith))

seat_few : (layout : Layout) (path : List Item) (i : ℕ) → is_valid layout ≡ true → (g : Keeps layout (made_of layout path)) → is_busy (world_of layout path) i ≡ true → is_counted ((world_of layout path).seat i).call ≡ true → ((world_of layout path).seat i).post.steps + 1 ≤ change_most (world_of layout path).layout.config i (record_of layout path)
seat_few layout path i d g y h = by (g.paid i y h)
  where
    w : World
    w = world_of layout path

    p : Past
    p = record_of layout path

    now : change_most w.layout.config i p ≡ round_most w.layout.config * (1 + (moves_of w.layout.config (Some (w.seat i).call) p - moves_before w.layout.config i p) + 1) + 3 * moves_since i p + once_most w.layout.config
    now = let a = g.full.answers.seats i in ap (λ (x : Option Call). round_most w.layout.config * (1 + (moves_of w.layout.config x p - moves_before w.layout.config i p) + 1) + 3 * moves_since i p + once_most w.layout.config) (a.began y)

    by : SeatPays w.layout.config p i (w.mem Clock) (w.seat i) → (w.seat i).post.steps + 1 ≤ change_most w.layout.config i p
    by (inl paid) =
        let t = record_clock layout path d in
        let s = clock_since i p in
        let q : w.mem Clock ≡ began_clock i p + moves_since i p = sym t ∙ s in
        let a = g.known.eras.seats i in
        let low = phase_low w.layout (w.mem Clock) (w.seat i).post (w.seat i).phase (span_seen (w.mem Clock) (w.seat i).post.span) a.phase (span_within (w.mem Clock) (w.seat i).post.span a.post.span) in
        let f = paid_few w.layout.config (most_rounds w.layout.config (w.seat i).call) (moves_before w.layout.config i p) (moves_of w.layout.config (Some (w.seat i).call) p) (began_clock i p) (w.mem Clock) (moves_since i p) (w.seat i) q g.known.eras.most low paid in
        omega (arith, f, now)
    by (inr early) = let a = early_few (w.seat i).phase (w.seat i).post.steps early.early in omega (arith, a)

-- the test by what was counted
few_test : (c : Config) (i : ℕ) (p : Past) (call : Call) (m : ℕ) → (is_counted call ≡ true → m ≤ change_most c i p) → few_in c i p call m ≡ true
few_test c i p (calls.Put key value) m h = le_test m (change_most c i p) (h refl)
few_test c i p (calls.Remove key) m h = le_test m (change_most c i p) (h refl)
few_test c i p (calls.PutIf key value version) m h = le_test m (change_most c i p) (h refl)
few_test c i p (calls.Enqueue value) m h = le_test m (change_most c i p) (h refl)
few_test c i p calls.Dequeue m h = le_test m (change_most c i p) (h refl)
few_test c i p call m h = refl

-- the same after what a step tells
most_more : (c : Config) (i : ℕ) (told : List Event) (p : Past) → all_of is_within told ≡ true → change_most c i p ≤ change_most c i (tells_of p i told)
most_more c i told p h =
    let a = before_stays c i i told p h in
    let b = moves_grow c (began_of i p) i told p h in
    let e : moves_of c (began_of i (tells_of p i told)) (tells_of p i told) ≡ moves_of c (began_of i p) (tells_of p i told) = ap (λ (x : Option Call). moves_of c x (tells_of p i told)) (began_stays i i told p h) in
    let x = clock_since i p in
    let y = clock_since i (tells_of p i told) in
    let z = clock_grows i told p in
    let u = began_stays_clock i i told p h in
    let t = times_more (round_most c) (moves_of c (began_of i p) p - moves_before c i p) (moves_of c (began_of i (tells_of p i told)) (tells_of p i told) - moves_before c i (tells_of p i told)) (omega (arith, a, b, e)) in
    omega (arith, t, x, y, z, u)

-- the entries of a step
open_ok : (c : Config) (i : ℕ) (p : Past) (event : Event) → is_open event ≡ true → changes_ok c p i event ≡ true
open_ok c i p (events.End n answer) h = absurd (cc)
open_ok c i p event h = refl

open_each : (c : Config) (i : ℕ) (told : List Event) (p : Past) → all_of is_open told ≡ true → Each (changes_ok c) p → Each (changes_ok c) (tells_of p i told)
open_each c i [] p h g = g
open_each c i (event ∷ told) p h g = open_each c i told (Then p i event) (later_of (is_open event) (all_of is_open told) h) (open_ok c i p event (first_of (is_open event) (all_of is_open told) h), g)

end_each : (c : Config) (i : ℕ) (q : Past) (call : Call) (post : Post) (outcome : CallOutcome) (m : ℕ) → began_of i q ≡ Some call → post.steps ≡ m → (is_counted call ≡ true → m ≤ change_most c i q) → Each (changes_ok c) q → Each (changes_ok c) (tells_of q i (told_end post outcome))
end_each c i q call post (GoesOn phase) m b e f g = g
end_each c i q call post (Answers answer) m b e f g = (rw (b, e) (few_test c i q call m f), g)

step_law : (layout : Layout) (path : List Item) (i : ℕ) → is_valid layout ≡ true → is_busy (world_of layout path) i ≡ true → (g : Keeps layout (made_of layout path)) → Each (changes_ok (world_of layout path).layout.config) (tells_of (record_of layout path) i (told_in (world_of layout path) i))
step_law layout path i d y g =
    let w : World = world_of layout path in
    let p : Past = record_of layout path in
    let c : Config = w.layout.config in
    let t : CallTurn = turn_of w i in
    let a = g.full.answers in
    let q : Past = tells_of p i t.told in
    let within : all_of is_within t.told ≡ true = first_all is_within t.told (told_end t.post t.outcome) (within_of w i) in
    let o = owes_of c.buckets w i a.table a.known ((a.seats i).serves y) in
    let told = o.told in
    let n = histories_count layout path d in
    let m : t.post.steps ≡ (w.seat i).post.steps + 1 = sym (ap (λ (post : Post). post.steps) (stepped_post w i)) ∙ n.one_more i y in
    subst (λ (r : Past). Each (changes_ok c) r) (sym (tells_both i t.told (told_end t.post t.outcome) p))
    (end_each c i q (w.seat i).call t.post t.outcome ((w.seat i).post.steps + 1) (began_along i t.told p within ∙ (a.seats i).began y) m
    (λ h. let f = seat_few layout path i d g y h in let x = most_more c i t.told p within in omega (arith, f, x))
    (open_each c i t.told p told.goes g.law))

-- along a history
step_keeps : (layout : Layout) (path : List Item) (i : ℕ) → is_valid layout ≡ true → i < (world_of layout path).layout.config.seats → is_busy (world_of layout path) i ≡ true → Keeps layout (made_of layout path) → Keeps layout (done (made_of layout path) (Steps i))
step_keeps layout path i d b y g =
    let made : Made = made_of layout path in
    let w : World = made.world in
    let c : Config = w.layout.config in
    let q = asked_next w i g.rows g.line g.asked b g.known in
    let next = known_kept w i g.rows g.line g.asked q.0 b g.known q.1.facts q.1.deal in
    record {
      full = full.step_keeps layout made i b y g.full;
      rows = rows_after w i g.rows;
      line = line_after w i g.line;
      asked = q.0;
      known = next;
      tails = tails_step w i g.rows g.line g.asked made.past g.known g.tails;
      rounds = paced_step w i g.rows g.line g.asked q.0 (before_of c made.past) (before_of c (tells_of made.past i (told_in w i))) b g.known g.few q.1.deal (λ m. before_stays c m i (told_in w i) made.past (within_of w i)) g.rounds;
      few = counted_step w i g.rows g.line g.asked (before_of c made.past) (before_of c (tells_of made.past i (told_in w i))) b g.known (λ m. before_stays c m i (told_in w i) made.past (within_of w i)) g.rounds g.few;
      before = λ m. before_steps c m i (told_in w i) made.past (within_of w i) (g.before m);
      paid = λ m. step_pays layout path i m (m == i) refl d y g (rows_after w i g.rows) (line_after w i g.line) q.0 next;
      law = step_law layout path i d y g;
    }

begin_keeps : (layout : Layout) (path : List Item) (i : ℕ) (call : Call) → is_valid layout ≡ true → is_busy (world_of layout path) i ≡ false → may_start (world_of layout path) i call ≡ true → Keeps layout (made_of layout path) → Keeps layout (done (made_of layout path) (Begins i call))
begin_keeps layout path i call d f m g =
    let made : Made = made_of layout path in
    let w : World = made.world in
    let c : Config = w.layout.config in
    let r : Past = Then made.past i (events.Begin call) in
    let q = requests_begin w i call g.asked g.known.valid f g.known.seats g.known.requests in
    let next = known_begin w i call g.rows g.line g.asked q.0 f m g.known q.1.facts q.1.deal in
    let now : moves_before c i r ≡ world_moves (tally w g.line) call = before_now c i call made.past ∙ same_moves layout made g.full g.line g.tails call in
    record {
      full = full.begin_keeps layout made i call f m g.full;
      rows = g.rows;
      line = g.line;
      asked = q.0;
      known = next;
      tails = g.tails;
      rounds = paced_begin w i call g.line g.asked q.0 (before_of c made.past) (before_of c r) f g.known.requests q.1.deal (λ j e. before_other c j i call made.past e) (counted_by (tally w g.line) call (moves_before c i r) now) g.rounds;
      few = begun_losses w i call (before_of c made.past) (before_of c r) (λ j e. before_other c j i call made.past e) (first_lost w i call (tally w g.line) (moves_before c i r) (few_of w g.rows g.line g.asked g.known) g.known.losses now) g.known.losses g.few;
      before = λ n. before_begins c n i call made.past (n == i) refl (g.before n);
      paid = λ n. begin_pays layout path i n call (n == i) refl d g g.rows g.line q.0 next;
      law = (refl, g.law);
    }

first_keeps : (layout : Layout) → is_valid layout ≡ true → Keeps layout (first_made layout)
first_keeps layout d =
    let q = requests_start layout d in
    let known = known_start layout q.0 d q.1.facts q.1.deal in
    record {
      full = full.first_keeps layout d;
      rows = first_rows layout;
      line = first_line layout;
      asked = q.0;
      known = known;
      tails = refl;
      rounds = rounds_alike (start layout) (start layout).seat (shifted (start layout) (before_of layout.config Start)).seat (first_line layout) q.0 (λ m. record { phase = refl; post = refl; desk = refl; rounds = refl }) known.rounds;
      few = losses_start layout (before_of layout.config Start);
      before = λ m. omega arith;
      paid = λ m b h. absurd (cc);
      law = tt;
    }

item_keeps : (layout : Layout) → is_valid layout ≡ true → (path : List Item) (item : Item) (fit : Bool) → fits_item (world_of layout path) item ≡ fit → Keeps layout (made_of layout path) → Keeps layout (done_if (made_of layout path) item fit)
item_keeps layout d path item false e g = g
item_keeps layout d path (Begins i call) true e g =
    let w : World = world_of layout path in
    begin_keeps layout path i call d (begins_right i w.layout.config.seats (is_busy w i) (may_start w i call) e) (begins_within i w.layout.config.seats (is_busy w i) (may_start w i call) e) g
item_keeps layout d path (Steps i) true e g =
    let w : World = world_of layout path in
    step_keeps layout path i d (low_seat i w.layout.config.seats (is_busy w i) e) (later_of (nat_lt i w.layout.config.seats) (is_busy w i) e) g

pub keeps : (layout : Layout) (items : List Item) → is_valid layout ≡ true → Keeps layout (made_of layout items)
keeps layout items d = paths_keep layout (Keeps layout) (item_keeps layout d) (first_keeps layout d) items

pub changes_end : ChangesEnd
changes_end layout items d =
    let g = keeps layout items d in
    entries_of_each (changes_ok layout.config) (record_of layout items) (subst (λ (table : Layout). Each (changes_ok table.config) (record_of layout items)) g.full.once.table g.law)

pub changes_go_on : ChangesGoOn
changes_go_on layout items i d b =
    let w : World = world_of layout items in
    let p : Past = record_of layout items in
    let g = keeps layout items d in
    let n = histories_count layout items d in
    let y : is_busy w i ≡ true = sym (n.busy i) ∙ b in
    let a = g.full.answers.seats i in
    let few : few_in w.layout.config i p (w.seat i).call (w.seat i).post.steps ≡ true = few_test w.layout.config i p (w.seat i).call (w.seat i).post.steps (λ h. let f = seat_few layout items i d g y h in omega (arith, f)) in
    subst (λ (table : Layout). few_since table.config i p (began_of i p) (turns_of i (heard_of layout items)) ≡ true) g.full.once.table (rw (a.began y, turns_are layout items i d y) few)
