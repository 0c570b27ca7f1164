-- The record of each history keeps the law on how often a call begins anew.
use Rattle.std.proofs.Common.{ℕ, ◌≡◌, ◌≤◌, ◌<◌, ◌+◌, ◌-◌, ◌%◌, Bool, true, false, List, [], ◌∷◌, length, Option, Some, None, refl, sym, ap, ◌∙◌, subst, arith}
use Rattle.std.proofs.lemmas.Bool.Decides.{nat_tests}
use Rattle.std.specs.Prelude.{◌==◌, nat_le}
use Rattle.law_scans.specs.inv.model.words.Place.{is_valid}
use Rattle.law_scans.specs.inv.model.words.Place.Place.{Tail}
use Rattle.law_scans.specs.inv.model.words.declared.config.Config.{Config}
use Rattle.law_scans.specs.inv.model.words.declared.layout.Layout.{Layout}
use Rattle.law_scans.specs.inv.model.defs.declared.call.Call.{Call}
use Rattle.law_scans.specs.inv.model.defs.declared.call.Call.TheVariants as calls
use Rattle.law_scans.specs.inv.model.defs.declared.event.Event.{Event}
use Rattle.law_scans.specs.inv.model.defs.declared.event.Event.TheVariants as events
use Rattle.law_scans.specs.inv.model.defs.declared.fold.Change.{Change}
use Rattle.law_scans.specs.inv.model.defs.declared.fold.Change.TheVariants as changes
use Rattle.law_scans.specs.inv.model.declared.post.Post.{Post}
use Rattle.law_scans.specs.inv.model.Guards.{guards}
use Rattle.law_scans.specs.inv.model.Phases.{Base}
use Rattle.law_scans.specs.inv.model.Posts.{counted}
use Rattle.law_scans.specs.inv.model.Rest.{is_told, lost_by}
use Rattle.law_scans.specs.inv.model.Rounds.{index_of, key_of, round, scheme_of}
use Rattle.law_scans.specs.inv.model.Calls.{Task, Gets, Changes, Holds, Enqueues, Dequeues, Why, Opens, Phase, Idle, Runs, Scans, Works, CallTurn, CallOutcome, GoesOn, Answers}
use Rattle.law_scans.specs.inv.model.Desks.{noting}
use Rattle.law_scans.specs.inv.model.Locals.{Local, begun_post, rounds_told, settled_by, told_by, told_end, turn}
use Rattle.law_scans.specs.inv.model.World.{World, begin, finds, is_busy, offered, start, step, told_in, may_start}
use Rattle.law_scans.proofs.inv.model.Facts.{same_number, first_of, rest_of}
use Rattle.law_scans.specs.inv.shapes.Seats.{Run, Seats, base_fits}
use Rattle.law_scans.proofs.reuse.shapes.Frame.{seat_stays, seat_steps, begin_stays, begin_begins}
use Rattle.law_scans.proofs.inv.Inv.Begun.{known_start, known_begin}
use Rattle.law_scans.proofs.inv.Inv.Kept.{known_kept, asked_next}
use Rattle.law_scans.specs.inv.Known.{Known}
use Rattle.law_scans.proofs.inv.requests.Kept.{requests_start, requests_begin}
use Rattle.law_scans.specs.inv.requests.Views.{View as Asked}
use Rattle.law_scans.specs.inv.rows.Agree.{first_rows, rows_after}
use Rattle.law_scans.specs.inv.rows.Chain.{first_line, line_after}
use Rattle.law_scans.specs.inv.rows.Queue.{Line}
use Rattle.law_scans.specs.inv.rows.Rows.{View}
use Rattle.law_scans.specs.inv.history.Record.{Past, Each, begins, tells_of, value_since}
use Rattle.law_scans.specs.inv.history.Record.Past.{Start, Then}
use Rattle.law_scans.specs.laws.StateAt.{began_of, finds_of, tails_of}
use Rattle.law_scans.proofs.inv.history.Entries.{entries_of_each}
use Rattle.law_scans.specs.inv.history.History.{Begins, Steps, Made, done, first_made, record_of}
use Rattle.law_scans.proofs.inv.history.Along.{Steady, items_keep}
use Rattle.law_scans.proofs.inv.history.AllOf.{all_of}
use Rattle.law_scans.proofs.inv.Machines.{is_within, within_of}
use Rattle.law_scans.proofs.reuse.AnswersTold.Answering.{first_all, owes_of}
use Rattle.law_scans.proofs.reuse.AnswersTold.Owed.{Owes, Serves, TaskServes, ChangeServes, is_open, owed}
use Rattle.law_scans.proofs.laws.Tells.{seen_stays, tells_both}
use Rattle.law_scans.specs.inv.Rounds.{Rounds}
use Rattle.law_scans.specs.inv.Tallies.{Tally, once, tally, phase_paced, task_paced, why_paced}
use Rattle.law_reasons.proofs.Full.Keeps as full
use Rattle.law_reasons.proofs.Full.Keeps.{now_of}
use Rattle.law_reasons.proofs.Full.Ties as ties
use Rattle.law_scans.specs.laws.HistoryScans.{search_by, no_search, search_of}
use Rattle.law_scans.specs.laws.AnswerLaw.{moves_before, moves_of}
use Rattle.law_scans.specs.laws.HistoryAnswers.{repeats_ok, whole_scan}
use Rattle.law_reasons.specs.Records.{RecordsKeepRepeats}
use Rattle.law_reasons.proofs.Repeats.Finds.{at_over, both_finds, finds_in, is_over, one_at, opens_now, phase_top, run_opens, step_finds, told_finds, told_rounds, top_of}
use Rattle.law_reasons.proofs.Repeats.Opens.{GetStands, at_pending, base_pending, pending, plain_pending, round_stands, start_pending, step_counted, step_stands}
use Rattle.law_scans.proofs.inv.Rounds.Grows.{open_task}
use Rattle.law_scans.proofs.inv.covers.Fresh.{first_begins}
use Rattle.law_scans.proofs.inv.covers.Held.{stepped_phase}
use Rattle.law_scans.proofs.inv.ends.Rest.Kept.{turn_rows}
use Rattle.law_scans.specs.inv.model.defs.declared.event.Root.{Root}
use Rattle.law_scans.specs.inv.model.Phases.{Aim, ProtectAt}
use Rattle.law_scans.specs.inv.model.Phases.Base.{Protect}
use Rattle.law_scans.specs.inv.model.Phases.HazardAt.{FirstLink, PublishLink, CheckLink}
use Rattle.law_scans.specs.inv.model.Phases.ProtectAt.{WithdrawRequest, WithdrawHelper, ByHazard}
use Rattle.law_scans.specs.inv.model.Rest.{gets_most}
use Rattle.law_scans.specs.inv.model.Steps as steps
use Rattle.law_scans.specs.inv.model.words.Schemes.{publishes_rows}
use Rattle.law_scans.specs.inv.shapes.Slots.{Slots}
use Rattle.law_reasons.proofs.Repeats.Gets.{begun_losses, first_none, gets_begin, gets_step, losses_start, once_more}
use Rattle.law_scans.proofs.inv.ends.Rest.Fits.{round_fit}
use Rattle.law_scans.specs.inv.ends.Losses.{Losses, opens_fit, phase_fit, tells_fit}
use Rattle.law_reasons.proofs.Repeats.Paces.{Few, counted_for, counted_step, few_of, paced_begin, paced_step}
use Rattle.law_reasons.proofs.Repeats.Records.{is_counted, began_stays, before_stays, before_zero, finds_others, finds_tells, moves_grow, whole_grows, whole_once}
use Rattle.law_reasons.proofs.Repeats.Shift.{rounds_alike, shifted}
use Rattle.law_reasons.proofs.Repeats.Tails.{tails_step}
use Rattle.law_scans.proofs.inv.ends.Handover.Asks.{run_of}

-- the call has found its root no more often than it may
abbrev pub MayFind : Config → ℕ → Past → Type 0
MayFind c k p = finds_of k p + moves_before c k p ≤ 1 + moves_of c (began_of k p) p + whole_scan (guards c) (search_of k p)

abbrev pub before_of : Config → Past → ℕ → ℕ
before_of c p k = moves_before c k p

abbrev pub once_of : Past → ℕ → ℕ
once_of p k = once_more (began_of k p)

-- what a history keeps
record Keeps (layout : Layout) (made : Made) : Type 0 where
  full : full.Keeps layout made
  rows : View
  line : Line
  asked : Asked
  known : Known made.world rows line asked
  tails : tails_of made.past ≡ line.number (made.world.mem Tail - 1)
  rounds : Rounds (shifted made.world (before_of made.world.layout.config made.past)) line asked
  few : Losses (shifted made.world (before_of made.world.layout.config made.past))
  gets : publishes_rows made.world.layout.config.scheme ≡ false → Losses (shifted made.world (once_of made.past))
  opens : publishes_rows made.world.layout.config.scheme ≡ true → (k key : ℕ) → (made.world.seat k).call ≡ calls.Get key → GetStands (finds_of k made.past) (made.world.seat k).phase
  found : (k : ℕ) → finds_of k made.past + pending (made.world.seat k).phase ≤ (made.world.seat k).rounds
  may : (k : ℕ) → MayFind made.world.layout.config k made.past
  law : Each (repeats_ok made.world.layout.config) made.past

-- what is counted for a call, by the World
abbrev world_moves : Tally → Call → ℕ
world_moves t (calls.Put key value) = t.count (key % t.buckets)
world_moves t (calls.Remove key) = t.count (key % t.buckets)
world_moves t (calls.PutIf key value version) = t.count (key % t.buckets)
world_moves t (calls.Enqueue value) = t.passes
world_moves t calls.Dequeue = t.takes
world_moves t call = 0

same_moves : (layout : Layout) (made : Made) (k : Keeps layout made) (call : Call) → moves_of made.world.layout.config (Some call) made.past ≡ world_moves (tally made.world k.line) call
same_moves layout made k (calls.Put key value) = ap length (k.full.sees.shown.changes (key % made.world.layout.config.buckets))
same_moves layout made k (calls.Remove key) = ap length (k.full.sees.shown.changes (key % made.world.layout.config.buckets))
same_moves layout made k (calls.PutIf key value version) = ap length (k.full.sees.shown.changes (key % made.world.layout.config.buckets))
same_moves layout made k (calls.Enqueue value) = let a = ap length k.full.sees.shown.queued in let b = k.tails in omega (arith, a, b)
same_moves layout made k calls.Dequeue = let a = k.full.sees.agrees.taken in let b = k.tails in omega (arith, a, b)
same_moves layout made k call = refl

-- a step of the seat's own

-- nothing more is found
quiet_find : (c : Config) (i : ℕ) (told : List Event) (p : Past) → all_of is_within told ≡ true → finds_in told ≤ 0 → MayFind c i p → MayFind c i (tells_of p i told)
quiet_find c i told p n f g =
    let e : began_of i (tells_of p i told) ≡ began_of i p = began_stays i i told p n in
    let r = g in
    let a = finds_tells i told p n in
    let b = told_finds (finds_of i p) told in
    let d = before_stays c i i told p n in
    let m = moves_grow c (began_of i p) i told p n in
    let s = ap (λ (call : Option Call). moves_of c call (tells_of p i told)) e in
    let w = whole_grows (guards c) i told p n in
    omega (arith, r, a, b, d, m, s, w, f)

-- the root is found, and no more rounds than may be were lost before
found_once : (c : Config) (i : ℕ) (told : List Event) (p : Past) (rounds lost : ℕ) → all_of is_within told ≡ true → finds_in told ≤ 1 → finds_of i p ≤ rounds → rounds + moves_before c i p ≤ moves_of c (began_of i p) p + lost → lost ≤ whole_scan (guards c) (search_of i p) → MayFind c i (tells_of p i told)
found_once c i told p rounds lost n f o r l =
    let e : began_of i (tells_of p i told) ≡ began_of i p = began_stays i i told p n in
    let a = finds_tells i told p n in
    let b = told_finds (finds_of i p) told in
    let d = before_stays c i i told p n in
    let m = moves_grow c (began_of i p) i told p n in
    let s = ap (λ (call : Option Call). moves_of c call (tells_of p i told)) e in
    let w = whole_grows (guards c) i told p n in
    omega (arith, o, r, l, a, b, d, m, s, w, f)

-- a get has not found its root before
get_finds : (c : Config) (i : ℕ) (told : List Event) (p : Past) → all_of is_within told ≡ true → finds_in told ≤ 1 → finds_of i p ≡ 0 → moves_before c i p ≡ 0 → MayFind c i (tells_of p i told)
get_finds c i told p n f z m =
    let a = finds_tells i told p n in
    let b = told_finds (finds_of i p) told in
    let d = before_stays c i i told p n in
    omega (arith, z, m, a, b, d, f)

change_moves : (t : Tally) (call : Call) (change : Change) (wanted : Option ℕ) → ChangeServes call change wanted → world_moves t call ≡ t.count (key_of change % t.buckets)
change_moves t call (changes.Put key value) None s = ap (world_moves t) s.is
change_moves t call (changes.Put key value) (Some version) s = ap (world_moves t) s.is
change_moves t call (changes.Removed key) None s = ap (world_moves t) s.is
change_moves t call (changes.Removed key) (Some version) s = let m = s.may in absurd (cc)

top_one : (index : ℕ) (zero : Bool) → (index == 0) ≡ zero → top_of false index ≤ 1
top_one index true e = rw e (omega arith)
top_one index false e = rw e (omega arith)

-- what is known of a round that has not found its root: of a get, that none has; of a hold, that none is told
abbrev TaskOnce : Task → (found : ℕ) → List Event → Type 0
TaskOnce (Gets key) found told = found ≡ 0
TaskOnce (Holds key) found told = finds_in told ≤ 0
TaskOnce task found told = Unit {0}

-- a get is one that has not found its root: where no row is published since it is counted once more, else since it still looks for it
one_lost : (c : Config) (rounds once : ℕ) (rows told : Bool) → rows ≡ false → once ≡ 1 → told ≡ false → tells_fit (gets_most c rows) (rounds + once) told → rounds ≡ 0
one_lost c rounds once false false r o t h = omega (arith, o, h)
one_lost c rounds once false true r o t h = absurd (cc)
one_lost c rounds once true told r o t h = absurd (cc)

untold_base : (c : Config) (base : Base) → is_over base ≡ false → publishes_rows c.scheme ≡ false → base_fits c base ≡ true → is_told base ≡ false
untold_base c (Protect aim index root steps (ByHazard at)) v r f = let e : publishes_rows c.scheme ≡ true = f in absurd (cc)
untold_base c (Protect aim index root steps (WithdrawRequest link era)) v r f = absurd (cc)
untold_base c (Protect aim index root steps (WithdrawHelper link era)) v r f = absurd (cc)
untold_base c (Protect aim index root steps at) v r f = refl
untold_base c base v r f = refl

get_unfound : (layout : Layout) (made : Made) (i : ℕ) (k : Keeps layout made) (key : ℕ) (base : Base) (rows : Bool) → publishes_rows made.world.layout.config.scheme ≡ rows → began_of i made.past ≡ Some (made.world.seat i).call → (made.world.seat i).call ≡ calls.Get key
    → (made.world.seat i).phase ≡ Runs (Opens (Gets key)) base → is_over base ≡ false → finds_of i made.past ≡ 0
get_unfound layout made i k key base true r b s e v = subst (GetStands (finds_of i made.past)) e (k.opens r i key s)
get_unfound layout made i k key base false r b s e v =
    let w : World = made.world in
    let c : Config = w.layout.config in
    let once : ℕ = once_of made.past i in
    let one : once ≡ 1 = ap once_more b ∙ ap (λ (x : Call). once_more (Some x)) s in
    let fit : opens_fit c ((w.seat i).rounds + once) (Gets key) (is_told base) = subst (λ (phase : Phase). phase_fit c ((w.seat i).rounds + once) phase) e ((k.gets r).few i) in
    let plain : is_told base ≡ false = untold_base c base v r (run_of w i (Opens (Gets key)) base k.known.seats e).fits in
    let zero : (w.seat i).rounds ≡ 0 = one_lost c (w.seat i).rounds once (publishes_rows c.scheme) (is_told base) r one plain fit in
    let o = k.found i in
    omega (arith, o, zero)

task_once : (layout : Layout) (made : Made) (i : ℕ) (told : List Event) (k : Keeps layout made) (task : Task) (base : Base) → began_of i made.past ≡ Some (made.world.seat i).call → TaskServes (made.world.seat i).call task → (made.world.seat i).phase ≡ Runs (Opens task) base → is_over base ≡ false
    → finds_in told ≤ top_of false (index_of task) → TaskOnce task (finds_of i made.past) told
task_once layout made i told k (Gets key) base b s e v f = get_unfound layout made i k key base (publishes_rows made.world.layout.config.scheme) refl b s e v
task_once layout made i told k (Holds key) base b s e v f = f
task_once layout made i told k (Changes kept) base b s e v f = tt
task_once layout made i told k (Enqueues kept) base b s e v f = tt
task_once layout made i told k Dequeues base b s e v f = tt

task_finds : (layout : Layout) (made : Made) (i : ℕ) (told : List Event) (k : Keeps layout made) (task : Task) (lost : ℕ) → began_of i made.past ≡ Some (made.world.seat i).call → TaskServes (made.world.seat i).call task
    → ties.TaskFits made.world.layout.config task (now_of made.world.layout.config i made.past) → finds_of i made.past ≤ lost → task_paced (tally made.world k.line) task (lost + moves_before made.world.layout.config i made.past)
    → all_of is_within told ≡ true → finds_in told ≤ 1 → TaskOnce task (finds_of i made.past) told → MayFind made.world.layout.config i (tells_of made.past i told)
task_finds layout made i told k (Gets key) lost b s f o p n t u =
    let c : Config = made.world.layout.config in
    let z : moves_before c i made.past ≡ 0 = before_zero c i made.past (made.world.seat i).call b (ap is_counted s) in
    get_finds c i told made.past n t u z
task_finds layout made i told k (Holds key) lost b s f o p n t u = quiet_find made.world.layout.config i told made.past n u (k.may i)
task_finds layout made i told k (Changes kept) lost b s f o p n t v =
    let c : Config = made.world.layout.config in
    let u : Tally = tally made.world k.line in
    let call : Call = (made.world.seat i).call in
    let m : moves_of c (began_of i made.past) made.past ≡ u.count (key_of kept.change % u.buckets) =
    ap (λ (x : Option Call). moves_of c x made.past) b ∙ same_moves layout made k call ∙ change_moves u call kept.change kept.wanted s in
    found_once c i told made.past lost (once kept.walked) n t o (omega (arith, m, p)) (whole_once (guards c) (search_of i made.past) kept.walked (f.reads refl))
task_finds layout made i told k (Enqueues kept) lost b s f o p n t v =
    let c : Config = made.world.layout.config in
    let u : Tally = tally made.world k.line in
    let call : Call = (made.world.seat i).call in
    let m : moves_of c (began_of i made.past) made.past ≡ u.passes = ap (λ (x : Option Call). moves_of c x made.past) b ∙ same_moves layout made k call ∙ ap (world_moves u) s in
    found_once c i told made.past lost (once kept.walked) n t o (omega (arith, m, p)) (whole_once (guards c) (search_of i made.past) kept.walked (f.reads refl))
task_finds layout made i told k Dequeues lost b s f o p n t v =
    let c : Config = made.world.layout.config in
    let u : Tally = tally made.world k.line in
    let call : Call = (made.world.seat i).call in
    let m : moves_of c (began_of i made.past) made.past ≡ u.takes = ap (λ (x : Option Call). moves_of c x made.past) b ∙ same_moves layout made k call ∙ ap (world_moves u) s in
    found_once c i told made.past lost 0 n t o (omega (arith, m, p)) (omega arith)

-- a protection that has not told what it found has told its round where its row is pending
told_base : (base : Base) → is_over base ≡ false → is_told base ≡ base_pending base
told_base (Protect aim index root steps at) v = told_at aim index root steps at v
  where
    told_at : (aim : Aim) (index : ℕ) (root : Root) (steps : ℕ) (at : ProtectAt) → at_over at ≡ false → is_told (Protect aim index root steps at) ≡ at_pending at
    told_at aim index root steps (WithdrawRequest link era) v = absurd (cc)
    told_at aim index root steps (WithdrawHelper link era) v = absurd (cc)
    told_at aim index root steps (ByHazard FirstLink) v = refl
    told_at aim index root steps (ByHazard (PublishLink link)) v = refl
    told_at aim index root steps (ByHazard (CheckLink link)) v = refl
    told_at aim index root steps at v = refl
told_base base v = refl

-- so many rounds it has lost
lost_rounds : (found rounds before lost : ℕ) (now : Bool) → found + one_at now ≤ rounds → lost ≡ lost_by (rounds + before) now → (found ≤ rounds - one_at now) × (rounds - one_at now + before ≡ lost)
lost_rounds found rounds before lost true h e = (omega (arith, h), omega (arith, h, e))
lost_rounds found rounds before lost false h e = (omega (arith, h), omega (arith, h, e))

own_opens : (layout : Layout) (made : Made) (i : ℕ) (told : List Event) (k : Keeps layout made) (task : Task) (base : Base) (flag : Bool) → is_over base ≡ flag → (made.world.seat i).phase ≡ Runs (Opens task) base → is_busy made.world i ≡ true → all_of is_within told ≡ true → finds_in told ≤ top_of flag (index_of task)
    → MayFind made.world.layout.config i (tells_of made.past i told)
own_opens layout made i told k task base true g e y n f = quiet_find made.world.layout.config i told made.past n f (k.may i)
own_opens layout made i told k task base false g e y n f =
    let w : World = made.world in
    let c : Config = w.layout.config in
    let u : Tally = tally w k.line in
    let m : ℕ = moves_before c i made.past in
    let r = k.full.answers.seats i in
    let now : Bool = base_pending base in
    let s : TaskServes (w.seat i).call task = subst (λ (phase : Phase). Serves (w.seat i).call phase) e (r.serves y) in
    let fits : ties.TaskFits c task (now_of c i made.past) = subst (λ (phase : Phase). ties.PhaseFits c phase (now_of c i made.past)) e (k.full.seats i) in
    let p : why_paced u ((w.seat i).rounds + m) base (Opens task) = subst (λ (phase : Phase). phase_paced u ((w.seat i).rounds + m) phase) e (k.rounds.paced i) in
    let q : task_paced u task (lost_by ((w.seat i).rounds + m) now) = subst (λ (x : Bool). task_paced u task (lost_by ((w.seat i).rounds + m) x)) (told_base base g) (open_task u task base (lost_by ((w.seat i).rounds + m) (is_told base)) p) in
    let h : finds_of i made.past + one_at now ≤ (w.seat i).rounds = subst (λ (phase : Phase). finds_of i made.past + pending phase ≤ (w.seat i).rounds) e (k.found i) in
    let l = lost_rounds (finds_of i made.past) (w.seat i).rounds m (lost_by ((w.seat i).rounds + m) now) now h refl in
    let one : finds_in told ≤ 1 = let a = top_one (index_of task) (index_of task == 0) refl in omega (arith, a, f) in
    task_finds layout made i told k task ((w.seat i).rounds - one_at now) (r.began y) s fits l.0 (subst (λ (x : ℕ). task_paced u task x) (sym l.1) q) n one (task_once layout made i told k task base (r.began y) s e g f)

own_runs : (layout : Layout) (made : Made) (i : ℕ) (told : List Event) (k : Keeps layout made) (why : Why) (base : Base) → (made.world.seat i).phase ≡ Runs why base → is_busy made.world i ≡ true → all_of is_within told ≡ true → finds_in told ≤ opens_now (Runs why base)
    → MayFind made.world.layout.config i (tells_of made.past i told)
own_runs layout made i told k (Opens task) base e y n f = own_opens layout made i told k task base (is_over base) refl e y n f
own_runs layout made i told k why base e y n f = quiet_find made.world.layout.config i told made.past n f (k.may i)

own_may : (layout : Layout) (made : Made) (i : ℕ) (told : List Event) (k : Keeps layout made) (phase : Phase) → (made.world.seat i).phase ≡ phase → is_busy made.world i ≡ true → all_of is_within told ≡ true → finds_in told ≤ phase_top phase → MayFind made.world.layout.config i (tells_of made.past i told)
own_may layout made i told k Idle e y n f = quiet_find made.world.layout.config i told made.past n f (k.may i)
own_may layout made i told k (Scans later at) e y n f = quiet_find made.world.layout.config i told made.past n f (k.may i)
own_may layout made i told k (Works work) e y n f = quiet_find made.world.layout.config i told made.past n f (k.may i)
own_may layout made i told k (Runs why base) e y n f =
    let w : World = made.world in
    let r : Run w.layout why base (w.seat i).post = run_of w i why base k.known.seats e in
    let a = run_opens w.layout why base (w.seat i).post r in
    own_runs layout made i told k why base e y n (omega (arith, a, f))

in_top : (w : World) (i : ℕ) → finds_in (told_in w i) ≤ phase_top (w.seat i).phase
in_top w i = step_finds (w.seat i).phase (counted (w.seat i).post) (offered w i).desk (finds w i)

told_top : (w : World) (i : ℕ) → finds_in (turn (offered w i) (finds w i)).told ≤ phase_top (w.seat i).phase
told_top w i =
    let t : CallTurn = turn (offered w i) (finds w i) in
    let a = in_top w i in let b = both_finds t.told (told_end t.post t.outcome) in omega (arith, a, b)

-- of other seats nothing is found, and more may be
other_may : (c : Config) (k i : ℕ) (told : List Event) (p : Past) → (k == i) ≡ false → all_of is_within told ≡ true → MayFind c k p → MayFind c k (tells_of p i told)
other_may c k i told p e n g =
    let b : began_of k (tells_of p i told) ≡ began_of k p = began_stays k i told p n in
    let r = g in
    let a = finds_others k i told p e in
    let d = before_stays c k i told p n in
    let m = moves_grow c (began_of k p) i told p n in
    let s = ap (λ (call : Option Call). moves_of c call (tells_of p i told)) b in
    let x : whole_scan (guards c) (search_of k (tells_of p i told)) ≡ whole_scan (guards c) (search_of k p) = ap (whole_scan (guards c)) (seen_stays search_by no_search k i told p e) in
    omega (arith, r, a, d, m, s, x)

step_may : (layout : Layout) (made : Made) (i m : ℕ) (same : Bool) → (m == i) ≡ same → is_busy made.world i ≡ true → Keeps layout made → MayFind made.world.layout.config m (tells_of made.past i (told_in made.world i))
step_may layout made i m true e y k =
    let q : i ≡ m = grind (arith, nat_tests) in
    subst (λ (j : ℕ). MayFind made.world.layout.config j (tells_of made.past i (told_in made.world i))) q (own_may layout made i (told_in made.world i) k (made.world.seat i).phase refl y (within_of made.world i) (in_top made.world i))
step_may layout made i m false e y k = other_may made.world.layout.config m i (told_in made.world i) made.past e (within_of made.world i) (k.may m)

-- how often the World has found it
settled_rounds : (l : Local) (t : CallTurn) (rounds : ℕ) (outcome : CallOutcome) → (settled_by l t.post (noting t.desk (told_by t)) rounds outcome).rounds ≡ rounds
settled_rounds l t rounds (GoesOn phase) = refl
settled_rounds l t rounds (Answers answer) = refl

-- what a step finds
seen_in : (w : World) (i : ℕ) (rows : Bool) → publishes_rows w.layout.config.scheme ≡ rows → Seats w → Slots w → Seats (step w i) → finds_in (told_in w i) + pending ((step w i).seat i).phase ≤ rounds_told rows 0 (told_in w i) + pending (w.seat i).phase
seen_in w i true r s l n = let a = step_counted w i r s l in let e = ap pending (stepped_phase w i) in omega (arith, a, e)
seen_in w i false r s l n = let e = plain_pending w.layout ((step w i).seat i).post ((step w i).seat i).phase r (n.fits i).phase in omega (arith, e)

own_found : (layout : Layout) (made : Made) (i : ℕ) (k : Keeps layout made) → Seats (step made.world i) → finds_of i (tells_of made.past i (told_in made.world i)) + pending ((step made.world i).seat i).phase ≤ ((step made.world i).seat i).rounds
own_found layout made i k n =
    let w : World = made.world in
    let t : CallTurn = turn (offered w i) (finds w i) in
    let rows : Bool = publishes_rows w.layout.config.scheme in
    let here : publishes_rows (scheme_of t.post) ≡ rows = turn_rows w i k.known.valid k.known.seats in
    let a = finds_tells i (told_in w i) made.past (within_of w i) in
    let b = told_finds (finds_of i made.past) (told_in w i) in
    let c : ((step w i).seat i).rounds ≡ rounds_told rows (w.seat i).rounds (told_in w i) =
    ap (λ (l : Local). l.rounds) (seat_steps w i) ∙ settled_rounds (w.seat i) t (rounds_told (publishes_rows (scheme_of t.post)) (w.seat i).rounds (told_by t)) t.outcome ∙ ap (λ (x : Bool). rounds_told x (w.seat i).rounds (told_in w i)) here in
    let d = told_rounds rows (w.seat i).rounds (told_in w i) in
    let s = seen_in w i rows refl k.known.seats k.known.slots n in
    let f = k.found i in
    omega (arith, a, b, c, d, s, f)

step_found : (layout : Layout) (made : Made) (i m : ℕ) (same : Bool) → (m == i) ≡ same → Keeps layout made → Seats (step made.world i) → finds_of m (tells_of made.past i (told_in made.world i)) + pending ((step made.world i).seat m).phase ≤ ((step made.world i).seat m).rounds
step_found layout made i m true e k n =
    let w : World = made.world in
    let q : i ≡ m = grind (arith, nat_tests) in
    subst (λ (j : ℕ). finds_of j (tells_of made.past i (told_in w i)) + pending ((step w i).seat j).phase ≤ ((step w i).seat j).rounds) q (own_found layout made i k n)
step_found layout made i m false e k n =
    let w : World = made.world in
    let a = finds_others m i (told_in w i) made.past e in
    let b : pending ((step w i).seat m).phase ≡ pending (w.seat m).phase = ap (λ (l : Local). pending l.phase) (seat_stays w i m e) in
    let c : ((step w i).seat m).rounds ≡ (w.seat m).rounds = ap (λ (l : Local). l.rounds) (seat_stays w i m e) in
    let f = k.found m in
    omega (arith, a, b, c, f)

-- where a get stands
settled_call : (l : Local) (t : CallTurn) (rounds : ℕ) (outcome : CallOutcome) → (settled_by l t.post (noting t.desk (told_by t)) rounds outcome).call ≡ l.call
settled_call l t rounds (GoesOn phase) = refl
settled_call l t rounds (Answers answer) = refl

own_stands : (layout : Layout) (made : Made) (i key : ℕ) (k : Keeps layout made) → publishes_rows made.world.layout.config.scheme ≡ true → ((step made.world i).seat i).call ≡ calls.Get key → GetStands (finds_of i (tells_of made.past i (told_in made.world i))) ((step made.world i).seat i).phase
own_stands layout made i key k r s =
    let w : World = made.world in
    let t : CallTurn = turn (offered w i) (finds w i) in
    let c : ((step w i).seat i).call ≡ (w.seat i).call = ap (λ (l : Local). l.call) (seat_steps w i) ∙ settled_call (w.seat i) t (rounds_told (publishes_rows (scheme_of t.post)) (w.seat i).rounds (told_by t)) t.outcome in
    let a : finds_of i (tells_of made.past i (told_in w i)) ≡ finds_of i made.past + finds_in (told_in w i) = finds_tells i (told_in w i) made.past (within_of w i) ∙ told_finds (finds_of i made.past) (told_in w i) in
    let g = step_stands w i (finds_of i made.past) r k.known.seats (k.opens r i key (sym c ∙ s)) in
    subst (λ (n : ℕ). GetStands n ((step w i).seat i).phase) (sym a) (subst (GetStands (finds_of i made.past + finds_in (told_in w i))) (sym (stepped_phase w i)) g)

step_opens : (layout : Layout) (made : Made) (i m key : ℕ) (same : Bool) → (m == i) ≡ same → Keeps layout made → publishes_rows made.world.layout.config.scheme ≡ true → ((step made.world i).seat m).call ≡ calls.Get key → GetStands (finds_of m (tells_of made.past i (told_in made.world i))) ((step made.world i).seat m).phase
step_opens layout made i m key true e k r s =
    let w : World = made.world in
    let q : m ≡ i = grind (arith, nat_tests) in
    subst (λ (j : ℕ). GetStands (finds_of j (tells_of made.past i (told_in w i))) ((step w i).seat j).phase) (sym q) (own_stands layout made i key k r (subst (λ (j : ℕ). ((step w i).seat j).call ≡ calls.Get key) q s))
step_opens layout made i m key false e k r s =
    let w : World = made.world in
    let c : (w.seat m).call ≡ calls.Get key = sym (ap (λ (l : Local). l.call) (seat_stays w i m e)) ∙ s in
    subst (λ (n : ℕ). GetStands n ((step w i).seat m).phase) (sym (finds_others m i (told_in w i) made.past e))
    (subst (λ (l : Local). GetStands (finds_of m made.past) l.phase) (sym (seat_stays w i m e)) (k.opens r m key c))

-- the law
open_ok : (c : Config) (i : ℕ) (p : Past) (event : Event) → is_open event ≡ true → repeats_ok c p i event ≡ true
open_ok c i p (events.End steps answer) h = absurd (cc)
open_ok c i p event h = refl

open_each : (c : Config) (i : ℕ) (told : List Event) (p : Past) → all_of is_open told ≡ true → Each (repeats_ok c) p → Each (repeats_ok c) (tells_of p i told)
open_each c i [] p h g = g
open_each c i (event ∷ told) p h g = open_each c i told (Then p i event) (rest_of (is_open event) (all_of is_open told) h) (open_ok c i p event (first_of (is_open event) (all_of is_open told) h), g)

few_by : (finds before moves whole : ℕ) → finds + before ≤ 1 + moves + whole → nat_le finds (1 + (moves - before) + whole) ≡ true
few_by finds before moves whole h = let a : finds ≤ 1 + (moves - before) + whole = omega (arith, h) in grind (arith, nat_tests)

end_each : (c : Config) (i : ℕ) (q : Past) (post : Post) (outcome : CallOutcome) → MayFind c i q → Each (repeats_ok c) q → Each (repeats_ok c) (tells_of q i (told_end post outcome))
end_each c i q post (GoesOn phase) f g = g
end_each c i q post (Answers answer) f g = (few_by (finds_of i q) (moves_before c i q) (moves_of c (began_of i q) q) (whole_scan (guards c) (search_of i q)) f, g)

step_law : (layout : Layout) (made : Made) (i : ℕ) → is_busy made.world i ≡ true → Keeps layout made → Each (repeats_ok made.world.layout.config) (tells_of made.past i (told_in made.world i))
step_law layout made i y k =
    let w : World = made.world in
    let c : Config = w.layout.config in
    let n : ℕ = c.buckets in
    let t : CallTurn = turn (offered w i) (finds w i) in
    let a = k.full.answers in
    let o : Owes n (w.seat i).call (owed n (w.seat i).call (w.seat i).phase) t = owes_of n w i a.table a.known ((a.seats i).serves y) in
    let q : Past = tells_of made.past i t.told in
    let within : all_of is_within t.told ≡ true = first_all is_within t.told (told_end t.post t.outcome) (within_of w i) in
    subst (λ (r : Past). Each (repeats_ok c) r) (sym (tells_both i t.told (told_end t.post t.outcome) made.past))
    (end_each c i q t.post t.outcome (own_may layout made i t.told k (w.seat i).phase refl y within (told_top w i)) (open_each c i t.told made.past o.told.goes k.law))

step_keeps : (layout : Layout) (made : Made) (i : ℕ) → i < made.world.layout.config.seats → is_busy made.world i ≡ true → Keeps layout made → Keeps layout (done made (Steps i))
step_keeps layout made i b y k =
    let w : World = made.world in
    let c : Config = w.layout.config in
    let q = asked_next w i k.rows k.line k.asked b k.known in
    let next = known_kept w i k.rows k.line k.asked q.0 b k.known q.1.facts q.1.deal in
    record {
      full = full.step_keeps layout made i b y k.full;
      rows = rows_after w i k.rows;
      line = line_after w i k.line;
      asked = q.0;
      known = next;
      tails = tails_step w i k.rows k.line k.asked made.past k.known k.tails;
      rounds = paced_step w i k.rows k.line k.asked q.0 (before_of c made.past) (before_of c (tells_of made.past i (told_in w i))) b k.known k.few q.1.deal (λ m. before_stays c m i (told_in w i) made.past (within_of w i)) k.rounds;
      few = counted_step w i k.rows k.line k.asked (before_of c made.past) (before_of c (tells_of made.past i (told_in w i))) b k.known (λ m. before_stays c m i (told_in w i) made.past (within_of w i)) k.rounds k.few;
      gets = λ r. gets_step w i k.rows k.line k.asked (once_of made.past) (once_of (tells_of made.past i (told_in w i))) b r k.known ((k.full.answers.seats i).serves y) (ap once_more ((k.full.answers.seats i).began y)) (λ m. ap once_more (began_stays m i (told_in w i) made.past (within_of w i))) (k.gets r);
      opens = λ r m key s. step_opens layout made i m key (m == i) refl k r s;
      found = λ m. step_found layout made i m (m == i) refl k next.seats;
      may = λ m. step_may layout made i m (m == i) refl y k;
      law = step_law layout made i y k;
    }

-- a call begins
begin_moves : (c : Config) (x : Option Call) (i : ℕ) (call : Call) (p : Past) → moves_of c x (Then p i (events.Begin call)) ≡ moves_of c x p
begin_moves c None i call p = refl
begin_moves c (Some (calls.Put key value)) i call p = refl
begin_moves c (Some (calls.Remove key)) i call p = refl
begin_moves c (Some (calls.PutIf key value version)) i call p = refl
begin_moves c (Some (calls.Enqueue value)) i call p = refl
begin_moves c (Some calls.Dequeue) i call p = refl
begin_moves c (Some x) i call p = refl

began_now : (i : ℕ) (call : Call) (p : Past) → began_of i (Then p i (events.Begin call)) ≡ Some call
began_now i call p = rw (same_number i) refl

value_now : (f : Past → ℕ) (i : ℕ) (call : Call) (p : Past) → value_since (begins i) f (Then p i (events.Begin call)) ≡ f (Then p i (events.Begin call))
value_now f i call p = rw (same_number i) refl

before_now : (c : Config) (i : ℕ) (call : Call) (p : Past) → moves_before c i (Then p i (events.Begin call)) ≡ moves_of c (Some call) p
before_now c i call p =
    let r : Past = Then p i (events.Begin call) in
    value_now (moves_of c (began_of i r)) i call p ∙ ap (λ (x : Option Call). moves_of c x r) (began_now i call p) ∙ begin_moves c (Some call) i call p

began_other : (k i : ℕ) (call : Call) (p : Past) → (k == i) ≡ false → began_of k (Then p i (events.Begin call)) ≡ began_of k p
began_other k i call p e = rw e refl

before_other : (c : Config) (k i : ℕ) (call : Call) (p : Past) → (k == i) ≡ false → moves_before c k (Then p i (events.Begin call)) ≡ moves_before c k p
before_other c k i call p e =
    ap (λ (x : Option Call). value_since (begins k) (moves_of c x) (Then p i (events.Begin call))) (began_other k i call p e) ∙ value_other (moves_of c (began_of k p))
  where
    value_other : (f : Past → ℕ) → value_since (begins k) f (Then p i (events.Begin call)) ≡ value_since (begins k) f p
    value_other f = rw e refl

counted_by : (t : Tally) (call : Call) (n : ℕ) → n ≡ world_moves t call → counted_for t call n
counted_by t (calls.Put key value) n e = omega (arith, e)
counted_by t (calls.Remove key) n e = omega (arith, e)
counted_by t (calls.PutIf key value version) n e = omega (arith, e)
counted_by t (calls.Enqueue value) n e = omega (arith, e)
counted_by t calls.Dequeue n e = omega (arith, e)
counted_by t (calls.Get key) n e = omega (arith, e)
counted_by t (calls.Hold key) n e = omega (arith, e)
counted_by t calls.Release n e = tt
counted_by t calls.Advance n e = tt
counted_by t calls.Scan n e = tt
counted_by t (calls.Copy from index) n e = tt
counted_by t (calls.DropIndex index) n e = tt
counted_by t (calls.Look index key) n e = tt
counted_by t calls.Leave n e = tt
counted_by t (calls.Adopt place) n e = tt

finds_now : (i : ℕ) (call : Call) (p : Past) → finds_of i (Then p i (events.Begin call)) ≡ 0
finds_now i call p = rw (same_number i) refl

begin_found : (w : World) (i m : ℕ) (call : Call) (p : Past) (same : Bool) → (m == i) ≡ same → ((k : ℕ) → finds_of k p + pending (w.seat k).phase ≤ (w.seat k).rounds) → finds_of m (Then p i (events.Begin call)) + pending ((begin w i call).seat m).phase ≤ ((begin w i call).seat m).rounds
begin_found w i m call p true e g =
    let q : i ≡ m = grind (arith, nat_tests) in
    let a = finds_now i call p in
    let b : pending ((begin w i call).seat i).phase ≡ 0 = ap (λ (l : Local). pending l.phase) (begin_begins w i call) ∙ start_pending _ (first_begins call (begun_post (w.seat i).post)).starts in
    subst (λ (j : ℕ). finds_of j (Then p i (events.Begin call)) + pending ((begin w i call).seat j).phase ≤ ((begin w i call).seat j).rounds) q (omega (arith, a, b))
begin_found w i m call p false e g =
    let a = finds_others m i (events.Begin call ∷ []) p e in
    let b : pending ((begin w i call).seat m).phase ≡ pending (w.seat m).phase = ap (λ (l : Local). pending l.phase) (begin_stays w i m call e) in
    let c : ((begin w i call).seat m).rounds ≡ (w.seat m).rounds = ap (λ (l : Local). l.rounds) (begin_stays w i m call e) in
    let f = g m in
    omega (arith, a, b, c, f)

begin_opens : (w : World) (i m key : ℕ) (call : Call) (p : Past) (same : Bool) → (m == i) ≡ same → ((k n : ℕ) → (w.seat k).call ≡ calls.Get n → GetStands (finds_of k p) (w.seat k).phase) → ((begin w i call).seat m).call ≡ calls.Get key → GetStands (finds_of m (Then p i (events.Begin call))) ((begin w i call).seat m).phase
begin_opens w i m key call p true e g s =
    let q : m ≡ i = grind (arith, nat_tests) in
    let own : ((begin w i call).seat i).call ≡ calls.Get key = subst (λ (j : ℕ). ((begin w i call).seat j).call ≡ calls.Get key) q s in
    let c : call ≡ calls.Get key = sym (ap (λ (l : Local). l.call) (begin_begins w i call)) ∙ own in
    let phase : ((begin w i call).seat i).phase ≡ round (Gets key) (begun_post (w.seat i).post) = ap (λ (l : Local). l.phase) (begin_begins w i call) ∙ ap (λ (x : Call). steps.first_phase x (begun_post (w.seat i).post)) c in
    subst (λ (j : ℕ). GetStands (finds_of j (Then p i (events.Begin call))) ((begin w i call).seat j).phase) (sym q)
    (subst (λ (n : ℕ). GetStands n ((begin w i call).seat i).phase) (sym (finds_now i call p)) (subst (GetStands 0) (sym phase) (round_stands key (begun_post (w.seat i).post))))
begin_opens w i m key call p false e g s =
    let c : (w.seat m).call ≡ calls.Get key = sym (ap (λ (l : Local). l.call) (begin_stays w i m call e)) ∙ s in
    subst (λ (n : ℕ). GetStands n ((begin w i call).seat m).phase) (sym (finds_others m i (events.Begin call ∷ []) p e))
    (subst (λ (l : Local). GetStands (finds_of m p) l.phase) (sym (begin_stays w i m call e)) (g m key c))

begin_may : (c : Config) (i m : ℕ) (call : Call) (p : Past) (same : Bool) → (m == i) ≡ same → ((k : ℕ) → MayFind c k p) → MayFind c m (Then p i (events.Begin call))
begin_may c i m call p true e g =
    let q : i ≡ m = grind (arith, nat_tests) in
    subst (λ (j : ℕ). MayFind c j (Then p i (events.Begin call))) q (
    let a = finds_now i call p in
    let b = before_now c i call p in
    let s : moves_of c (began_of i (Then p i (events.Begin call))) (Then p i (events.Begin call)) ≡ moves_of c (Some call) p =
    ap (λ (x : Option Call). moves_of c x (Then p i (events.Begin call))) (began_now i call p) ∙ begin_moves c (Some call) i call p in
    omega (arith, a, b, s))
begin_may c i m call p false e g =
    let o = began_other m i call p e in
    let r = g m in
    let a = finds_others m i (events.Begin call ∷ []) p e in
    let b = before_other c m i call p e in
    let s : moves_of c (began_of m (Then p i (events.Begin call))) (Then p i (events.Begin call)) ≡ moves_of c (began_of m p) p =
    ap (λ (x : Option Call). moves_of c x (Then p i (events.Begin call))) o ∙ begin_moves c (began_of m p) i call p in
    let x : whole_scan (guards c) (search_of m (Then p i (events.Begin call))) ≡ whole_scan (guards c) (search_of m p) = ap (whole_scan (guards c)) (seen_stays search_by no_search m i (events.Begin call ∷ []) p e) in
    omega (arith, r, a, b, s, x)

-- a call begins with no more than it may lose
first_most : (w : World) (i : ℕ) (call : Call) (t : Tally) (n : ℕ) → Few t w.layout.config.last_version → Losses w → n ≡ world_moves t call → phase_fit w.layout.config n (steps.first_phase call (begun_post (w.seat i).post))
first_most w i (calls.Put key value) t n f h e = let a = f.count (key % t.buckets) in round_fit w.layout.config n (Changes _) (begun_post (w.seat i).post) (omega (arith, a, e))
first_most w i (calls.Remove key) t n f h e = let a = f.count (key % t.buckets) in round_fit w.layout.config n (Changes _) (begun_post (w.seat i).post) (omega (arith, a, e))
first_most w i (calls.PutIf key value version) t n f h e = let a = f.count (key % t.buckets) in round_fit w.layout.config n (Changes _) (begun_post (w.seat i).post) (omega (arith, a, e))
first_most w i (calls.Enqueue value) t n f h e = let a = f.passes in round_fit w.layout.config n (Enqueues _) (begun_post (w.seat i).post) (omega (arith, a, e))
first_most w i calls.Dequeue t n f h e = let a = f.takes in round_fit w.layout.config n Dequeues (begun_post (w.seat i).post) (omega (arith, a, e))
first_most w i call t n f h e = subst (λ (x : ℕ). phase_fit w.layout.config x (steps.first_phase call (begun_post (w.seat i).post))) (sym e) (first_none w i call h)

begin_keeps : (layout : Layout) (made : Made) (i : ℕ) (call : Call) → is_busy made.world i ≡ false → may_start made.world i call ≡ true → Keeps layout made → Keeps layout (done made (Begins i call))
begin_keeps layout made i call f m k =
    let w : World = made.world in
    let c : Config = w.layout.config in
    let r : Past = Then made.past i (events.Begin call) in
    let q = requests_begin w i call k.asked k.known.valid f k.known.seats k.known.requests in
    record {
      full = full.begin_keeps layout made i call f m k.full;
      rows = k.rows;
      line = k.line;
      asked = q.0;
      known = known_begin w i call k.rows k.line k.asked q.0 f m k.known q.1.facts q.1.deal;
      tails = k.tails;
      rounds = paced_begin w i call k.line k.asked q.0 (before_of c made.past) (before_of c r) f k.known.requests q.1.deal (λ j e. before_other c j i call made.past e) (counted_by (tally w k.line) call (moves_before c i r) (before_now c i call made.past ∙ same_moves layout made k call)) k.rounds;
      few = begun_losses w i call (before_of c made.past) (before_of c r) (λ j e. before_other c j i call made.past e) (first_most w i call (tally w k.line) (moves_before c i r) (few_of w k.rows k.line k.asked k.known) k.known.losses (before_now c i call made.past ∙ same_moves layout made k call)) k.known.losses k.few;
      gets = λ plain. gets_begin w i call (once_of made.past) (once_of r) (λ j e. ap once_more (began_other j i call made.past e)) (ap once_more (began_now i call made.past)) k.known.losses (k.gets plain);
      opens = λ rows n key s. begin_opens w i n key call made.past (n == i) refl (k.opens rows) s;
      found = λ n. begin_found w i n call made.past (n == i) refl k.found;
      may = λ n. begin_may c i n call made.past (n == i) refl k.may;
      law = (refl, k.law);
    }

first_keeps : (layout : Layout) → is_valid layout ≡ true → Keeps layout (first_made layout)
first_keeps layout d =
    let q = requests_start layout d in
    let known = known_start layout q.0 d q.1.facts q.1.deal in
    record {
      full = full.first_keeps layout d;
      rows = first_rows layout;
      line = first_line layout;
      asked = q.0;
      known = known;
      tails = refl;
      rounds = rounds_alike (start layout) (start layout).seat (shifted (start layout) (before_of layout.config Start)).seat (first_line layout) q.0 (λ m. record { phase = refl; post = refl; desk = refl; rounds = refl }) known.rounds;
      few = losses_start layout (before_of layout.config Start);
      gets = λ r. losses_start layout (once_of Start);
      opens = λ r m key s. tt;
      found = λ m. omega arith;
      may = λ m. omega arith;
      law = tt;
    }

steady : (layout : Layout) → Steady (Keeps layout)
steady layout = record { begins = λ made i call b y m g. begin_keeps layout made i call y m g; steps = λ made i b y g. step_keeps layout made i b y g }

pub records_keep_repeats : RecordsKeepRepeats
records_keep_repeats layout items d =
    let g = items_keep (Keeps layout) (steady layout) items (first_made layout) (first_keeps layout d) in
    entries_of_each (repeats_ok layout.config) (record_of layout items) (subst (λ (table : Layout). Each (repeats_ok table.config) (record_of layout items)) g.full.once.table g.law)
