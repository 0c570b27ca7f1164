-- The rounds that calls have lost, from the start on, where a call begins, and over each step.
use Rattle.std.proofs.Common.{ℕ, ◌∙◌, ◌≡◌, ◌-◌, Bool, true, false, [], ◌∷◌, arith, refl, sym, ap, subst}
use Rattle.std.proofs.lemmas.Bool.Decides.{nat_tests}
use Rattle.inv_ends.specs.model.words.Place.Place.{Clock}
use Rattle.inv_ends.specs.model.Phases.Base.{Move, Allocate, Begin, Clear, Finish, GiveUp, Protect, Release, Reload, Retire, Write}
use Rattle.inv_ends.specs.model.Memory.{bump}
use Rattle.inv_ends.specs.model.Steps as steps
use Rattle.inv_ends.specs.model.Change as alters
use Rattle.inv_ends.specs.model.Machine as machine
use Rattle.inv_ends.specs.rows.Rows.{View}
use Rattle.inv_ends.specs.requests.Views.{View as Asking}
use Rattle.inv_ends.specs.shapes.Frame.{phase_left as stands_at}
use Rattle.inv_ends.proofs.Rest.Runs.{EndsWell, ends_well}
use Rattle.inv_ends.specs.model.defs.declared.event.Event.TheVariants as events
use Rattle.inv_ends.specs.model.defs.declared.event.Root.TheVariants as roots
use Rattle.inv_ends.specs.model.defs.declared.call.Answer.TheVariants as answers
use Rattle.inv_ends.specs.model.declared.ends.ProtectEnd.TheVariants as protect_ends
use Rattle.inv_ends.specs.model.Calls.{CallOutcome, CallTurn, ChangeKept, Phase, Task, Why}
use Rattle.inv_ends.specs.model.Calls.CallOutcome.{Answers, GoesOn}
use Rattle.inv_ends.specs.model.Calls.Next.{Answering}
use Rattle.inv_ends.specs.model.Calls.Phase.{Idle, Runs, Scans, Works}
use Rattle.inv_ends.specs.model.Calls.Task.{Changes, Dequeues, Enqueues, Gets, Holds}
use Rattle.inv_ends.specs.model.Calls.Why.{Advances, Clears, ClearsNext, Fills, Finishes, FollowsHead, GivesUp, Opens, Releases, Retires, Tidies}
use Rattle.inv_ends.specs.model.Desks.{Desk}
use Rattle.inv_ends.specs.model.Locals.{Local, rounds_told, settled, turn}
use Rattle.inv_ends.specs.model.Phases.{Base, Outcome, Aim, ProtectAt, Turn}
use Rattle.inv_ends.specs.model.Phases.Ending.{Allocated, Clocked, Done, Followed, Protected, Retired}
use Rattle.inv_ends.specs.model.Phases.Outcome.{Ends, Goes}
use Rattle.inv_ends.specs.model.Posts.{counted, upper}
use Rattle.inv_ends.specs.model.Rounds.{bucket_of, clear_base, clear_post, clear_told, clearing, clearing_by, finish_base, finish_span, finishing_by, given_up, index_of, scheme_of, taken_of, kept_row, key_of}
use Rattle.inv_ends.specs.model.Steps.{resumed}
use Rattle.inv_ends.specs.model.World.{World, finds, offered, step}
use Rattle.inv_ends.specs.model.declared.post.Post.{Post}
use Rattle.inv_ends.specs.model.defs.declared.call.Answer.{Answer}
use Rattle.inv_ends.specs.model.defs.declared.event.Event.{Event}
use Rattle.inv_ends.specs.model.defs.declared.event.Root.{Root}
use Rattle.inv_ends.proofs.shapes.Frame.{seat_steps, seat_stays}
use Rattle.inv_ends.specs.shapes.Seats.{PhaseFits, Run, task_root}
use Rattle.inv_ends.specs.Origins.{loads_at}
use Rattle.inv_ends.specs.Tracked.{Tracked, carries_in, root_base, root_for, root_in}
use Rattle.inv_ends.specs.Tracked.Tracked.{Carried}
use Rattle.inv_ends.proofs.Rest.Closings.{rounds_join}
use Rattle.inv_ends.proofs.Rest.Told.{Tells, by_rows, lost_after}
use Rattle.inv_ends.specs.Losses.{is_queue, phase_fit}
use Rattle.inv_all.proofs.Rounds.Grows.{phase_grows, phase_stays}
use Rattle.inv_all.proofs.Rounds.Kept.{mem_after, reload_now, step_counts, work_now}
use Rattle.inv_all.proofs.Rounds.Machines.{EndGood, Found, found_good, Steps, never_null, own_opened, own_tells, plain_lost, run_paced, why_finds}
use Rattle.inv_all.proofs.Rounds.Paced.{TurnPaced, scan_paced, work_turn_paced}
use Rattle.inv_all.specs.Rounds.{Rounds, RoundsNeeds}
use Rattle.inv_all.specs.Tallies.{Tally, later_paced, phase_good, phase_paced, tally, task_good, why_paced, work_paced, good_link, why_good}
use Rattle.inv_ends.specs.rows.Chain.{line_after}
use Rattle.inv_ends.specs.rows.Queue.{Line}
use Rattle.inv_ends.specs.model.words.declared.config.SchemeKind.{SchemeKind}
use Rattle.std.specs.Prelude.{List, ◌++◌, Option, Some, None, ◌==◌, ◌<◌, ◌%◌}
use Rattle.inv_ends.specs.model.Phases.Aim.{Alone, Follows}
use Rattle.inv_ends.specs.model.Rest.{is_told, lost_by}
use Rattle.inv_ends.specs.requests.Standing.{Requests}
use Rattle.inv_ends.proofs.Rest.Kept.{linked_of, turn_rows}
use Rattle.inv_ends.proofs.shapes.Inside.{shape_moves}
use Rattle.inv_ends.proofs.shapes.Kept.{counted_fits, run_counted}
use Rattle.inv_ends.specs.shapes.Slots.{PhaseIn}
use Rattle.inv_ends.proofs.covers.Held.{finds_at}
use Rattle.inv_ends.specs.model.words.Schemes.{publishes_rows}
use Rattle.inv_ends.specs.model.words.Place.{Place}
use Rattle.inv_ends.specs.model.words.Place.Place.{Bucket, Head, Tail}
use Rattle.inv_ends.specs.model.Links.{link_place}
use Rattle.inv_ends.specs.model.Phases.HazardAt.{CheckLink, FirstLink, PublishLink}
use Rattle.inv_ends.specs.model.Phases.ProtectAt.{ByHazard}
use Rattle.inv_ends.proofs.model.Facts.{same_number}
use Rattle.inv_ends.proofs.Rest.Seats.{counts_task, follows_alone}
use Rattle.inv_all.proofs.Rounds.Protects.{is_protecting, none_tracked}
use Rattle.inv_ends.proofs.model.Schemes.{each_clear, each_finish}

-- what a load finds in the root of a task
found_in : (w : World) (i : ℕ) (v : View) (l : Line) (z : Asking) (task : Task) (root : Root) (found : ℕ) → RoundsNeeds w i v l z → root ≡ task_root w.layout.config.buckets task → found ≡ w.mem (link_place root) → ((p : Place) → (step w i).mem p ≡ w.mem p) → Found (tally (step w i) (line_after w i l)) task found
found_in w i v l z (Gets key) root found n r f m =
    let q : found ≡ w.mem (link_place (roots.Bucket (key % w.layout.config.buckets))) = subst (λ (p : Root). found ≡ w.mem (link_place p)) r f in
    record { test = let e : (step w i).mem (Bucket (key % w.layout.config.buckets)) ≡ found = m (Bucket (key % w.layout.config.buckets)) ∙ sym q in subst (λ (x : ℕ). (x == found) ≡ true) (sym e) (same_number found); some = λ a. absurd (cc) }
found_in w i v l z (Changes kept) root found n r f m =
    let q : found ≡ w.mem (link_place (roots.Bucket (key_of kept.change % w.layout.config.buckets))) = subst (λ (p : Root). found ≡ w.mem (link_place p)) r f in
    record { test = let e : (step w i).mem (Bucket (key_of kept.change % w.layout.config.buckets)) ≡ found = m (Bucket (key_of kept.change % w.layout.config.buckets)) ∙ sym q in subst (λ (x : ℕ). (x == found) ≡ true) (sym e) (same_number found); some = λ a. absurd (cc) }
found_in w i v l z (Holds key) root found n r f m =
    let q : found ≡ w.mem (link_place (roots.Bucket (key % w.layout.config.buckets))) = subst (λ (p : Root). found ≡ w.mem (link_place p)) r f in
    record { test = let e : (step w i).mem (Bucket (key % w.layout.config.buckets)) ≡ found = m (Bucket (key % w.layout.config.buckets)) ∙ sym q in subst (λ (x : ℕ). (x == found) ≡ true) (sym e) (same_number found); some = λ a. absurd (cc) }
found_in w i v l z (Enqueues kept) root found n r f m =
    let q : found ≡ w.mem (link_place roots.Tail) = subst (λ (p : Root). found ≡ w.mem (link_place p)) r f in
    let k : 0 < w.mem Tail = n.both.queue.line.some in
    record { test = let e : (step w i).mem Tail ≡ found = m Tail ∙ sym q in subst (λ (x : ℕ). (x == found) ≡ true) (sym e) (same_number found); some = λ a. grind (arith, nat_tests, q, k) }
found_in w i v l z Dequeues root found n r f m =
    let q : found ≡ w.mem (link_place roots.Head) = subst (λ (p : Root). found ≡ w.mem (link_place p)) r f in
    let k : 0 < w.mem Head = rw n.both.rows.words.head n.both.rows.good.some in
    record { test = let e : (step w i).mem Head ≡ found = m Head ∙ sym q in subst (λ (x : ℕ). (x == found) ≡ true) (sym e) (same_number found); some = λ a. grind (arith, nat_tests, q, k) }

load_now : (w : World) (i : ℕ) (v : View) (l : Line) (z : Asking) (why : Why) (base : Base) → RoundsNeeds w i v l z → Run w.layout why base (w.seat i).post → (w.seat i).phase ≡ Runs why base → why_finds (tally (step w i) (line_after w i l)) why base (finds w i)
load_now w i v l z (Opens task) (Protect aim index root m (ByHazard FirstLink)) n r e =
    found_in w i v l z task root (finds w i) n r.shape.of (finds_at w i (Runs (Opens task) (Protect aim index root m (ByHazard FirstLink))) e) (λ p. mem_after w i (Runs (Opens task) (Protect aim index root m (ByHazard FirstLink))) p e)
load_now w i v l z (Opens task) (Protect aim index root m (ByHazard (PublishLink link))) n r e = tt
load_now w i v l z (Opens task) (Protect aim index root m (ByHazard (CheckLink link))) n r e =
    found_in w i v l z task root (finds w i) n r.shape.of (finds_at w i (Runs (Opens task) (Protect aim index root m (ByHazard (CheckLink link)))) e) (λ p. mem_after w i (Runs (Opens task) (Protect aim index root m (ByHazard (CheckLink link)))) p e)
load_now w i v l z (Opens task) (Protect aim index root m at) n r e = tt
load_now w i v l z why base n r e = tt

-- the seat that steps

pub step_is : (w : World) (i : ℕ) (v : View) (l : Line) (z : Asking) → RoundsNeeds w i v l z → Rounds w l z → (why : Why) (base : Base) → (w.seat i).phase ≡ Runs why base → Steps w i (tally (step w i) (line_after w i l)) why base
step_is w i v l z n h why base e =
    let g = step_counts w i v l z n in
    let t : Tally = tally w l in
    let u : Tally = tally (step w i) (line_after w i l) in
    let r : Run w.layout why base (w.seat i).post = subst (λ (p : Phase). PhaseFits w.layout (w.seat i).post p) e (n.origins.seats.fits i).phase in
    let p : why_paced t (w.seat i).rounds base why = subst (λ (f : Phase). phase_paced t (w.seat i).rounds f) e (h.paced i) in
    record {
      at = e;
      run = r;
      rows = refl;
      buckets = refl;
      paced = phase_grows t u (w.seat i).rounds (Runs why base) g p;
      fits = subst (λ (f : Phase). phase_fit w.layout.config (w.seat i).rounds f) e (n.losses.few i);
      good = λ x c.
          let k : Tracked w z i x = Carried (subst (λ (f : Phase). carries_in (w.mem Clock) (upper (w.seat i).post.span) f x ≡ true) (sym e) c) in
          let q : phase_good t (w.seat i).rounds (Runs why base) (root_for (Runs why base)) x ≡ true = subst (λ (f : Phase). phase_good t (w.seat i).rounds f (root_for f) x ≡ true) e (h.links.tracked i x k) in
          phase_stays t u (w.seat i).rounds (Runs why base) (root_base base) x g p q;
      moved = reload_now w i v l z why base n p r e;
      linked = linked_of w.layout base (subst (λ (f : Phase). PhaseIn w.layout (w.seat i).desk f) e (n.slots.seats i).phase).1;
      loaded = load_now w i v l z why base n r e;
      passed = (shape_moves w.layout i n.origins.valid why base (counted (w.seat i).post) (finds w i) (counted_fits w.layout i (w.seat i).post (n.origins.seats.fits i).post) (run_counted w.layout why base (w.seat i).post r)).phase;
    }

turn_paced : (w : World) (i : ℕ) (v : View) (l : Line) (z : Asking) → RoundsNeeds w i v l z → Rounds w l z → (phase : Phase) → (w.seat i).phase ≡ phase → TurnPaced (tally (step w i) (line_after w i l)) (w.seat i).rounds (steps.phase_turn phase (counted (w.seat i).post) (offered w i).desk (finds w i))
turn_paced w i v l z n h Idle e = tt
turn_paced w i v l z n h (Runs why base) e = run_paced w i (tally (step w i) (line_after w i l)) why base (step_is w i v l z n h why base e)
turn_paced w i v l z n h (Scans later at) e =
    let p : later_paced (tally w l) later (w.seat i).rounds = subst (λ (f : Phase). phase_paced (tally w l) (w.seat i).rounds f) e (h.paced i) in
    scan_paced (tally (step w i) (line_after w i l)) (w.seat i).rounds later at (counted (w.seat i).post) (offered w i).desk (finds w i)
    (phase_grows (tally w l) (tally (step w i) (line_after w i l)) (w.seat i).rounds (Scans later at) (step_counts w i v l z n) p)
turn_paced w i v l z n h (Works work) e =
    let p : work_paced (tally w l) work ((w.seat i).rounds - 1) = subst (λ (f : Phase). phase_paced (tally w l) (w.seat i).rounds f) e (h.paced i) in
    work_turn_paced (tally (step w i) (line_after w i l)) w.layout.config (w.seat i).rounds work (counted (w.seat i).post) (offered w i).desk (finds w i)
    (phase_grows (tally w l) (tally (step w i) (line_after w i l)) (w.seat i).rounds (Works work) (step_counts w i v l z n) p) (subst (λ (f : Phase). phase_fit w.layout.config (w.seat i).rounds f) e (n.losses.few i)) (work_now w i v l z work n p e)

settled_paced : (u : Tally) (l : Local) (post : Post) (desk : Desk) (told : List Event) (outcome : CallOutcome) → TurnPaced u l.rounds (record { post = post; desk = desk; told = told; outcome = outcome }) → publishes_rows (scheme_of post) ≡ u.rows
    → phase_paced u (settled l (record { post = post; desk = desk; told = told; outcome = outcome })).rounds (settled l (record { post = post; desk = desk; told = told; outcome = outcome })).phase
settled_paced u l post desk told (GoesOn phase) f t = rw (t, rounds_join u.rows l.rounds told []) f
settled_paced u l post desk told (Answers answer) f t = tt

pub own_paced : (w : World) (i : ℕ) (v : View) (l : Line) (z : Asking) → RoundsNeeds w i v l z → Rounds w l z → phase_paced (tally (step w i) (line_after w i l)) ((step w i).seat i).rounds ((step w i).seat i).phase
own_paced w i v l z n h =
    let t : CallTurn = turn (offered w i) (finds w i) in
    let f = settled_paced (tally (step w i) (line_after w i l)) (w.seat i) t.post t.desk t.told t.outcome (turn_paced w i v l z n h (w.seat i).phase refl) (turn_rows w i n.origins.valid n.origins.seats) in
    subst (λ (s : Local). phase_paced (tally (step w i) (line_after w i l)) s.rounds s.phase) (sym (seat_steps w i)) f

-- links that are tracked

pub next_good : (u : Tally) (rounds : ℕ) (phase : Phase) (parent x : ℕ) → phase_good u rounds phase (roots.Next parent) x ≡ true
next_good u rounds Idle parent x = refl
next_good u rounds (Runs (Opens task) base) parent x = refl
next_good u rounds (Runs (FollowsHead head tail) base) parent x = refl
next_good u rounds (Runs (Fills task) base) parent x = refl
next_good u rounds (Runs (ClearsNext next) base) parent x = refl
next_good u rounds (Runs (Clears task next) base) parent x = refl
next_good u rounds (Runs (Finishes task next) base) parent x = refl
next_good u rounds (Runs (GivesUp answer) base) parent x = refl
next_good u rounds (Runs (Retires answer) base) parent x = refl
next_good u rounds (Runs (Tidies later) base) parent x = refl
next_good u rounds (Runs Advances base) parent x = refl
next_good u rounds (Runs (Releases let_go) base) parent x = refl
next_good u rounds (Scans later at) parent x = refl
next_good u rounds (Works work) parent x = refl

-- a phase in which no root is protected yet
abbrev pub opens_none : Phase → Bool
opens_none Idle = true
opens_none (Runs (Opens task) base) = false
opens_none (Runs (FollowsHead head tail) base) = true
opens_none (Runs (Fills task) base) = true
opens_none (Runs (ClearsNext next) base) = true
opens_none (Runs (Clears task next) base) = true
opens_none (Runs (Finishes task next) base) = true
opens_none (Runs (GivesUp answer) base) = true
opens_none (Runs (Retires answer) base) = true
opens_none (Runs (Tidies later) base) = true
opens_none (Runs Advances base) = true
opens_none (Runs (Releases let_go) base) = true
opens_none (Scans later at) = true
opens_none (Works work) = true

pub none_good : (u : Tally) (rounds : ℕ) (phase : Phase) (root : Root) (x : ℕ) → opens_none phase ≡ true → phase_good u rounds phase root x ≡ true
none_good u rounds Idle root x o = refl
none_good u rounds (Runs (Opens task) base) root x o = absurd (cc)
none_good u rounds (Runs (FollowsHead head tail) base) root x o = refl
none_good u rounds (Runs (Fills task) base) root x o = refl
none_good u rounds (Runs (ClearsNext next) base) root x o = refl
none_good u rounds (Runs (Clears task next) base) root x o = refl
none_good u rounds (Runs (Finishes task next) base) root x o = refl
none_good u rounds (Runs (GivesUp answer) base) root x o = refl
none_good u rounds (Runs (Retires answer) base) root x o = refl
none_good u rounds (Runs (Tidies later) base) root x o = refl
none_good u rounds (Runs Advances base) root x o = refl
none_good u rounds (Runs (Releases let_go) base) root x o = refl
none_good u rounds (Scans later at) root x o = refl
none_good u rounds (Works work) root x o = refl

-- an answer follows, or the call has one
given_none : (answer : Answer) (post : Post) (desk : Desk) (told : List Event) (taken : Option ℕ) → opens_none (stands_at (given_up answer post desk told taken).outcome) ≡ true
given_none answer post desk told None = refl
given_none answer post desk told (Some slot) = refl

span_none : (task : Task) (answer : Answer) (post : Post) (desk : Desk) (told : List Event) (stood : Option ℕ) → opens_none (stands_at (finishing_by task (Answering answer) post desk told (finish_span stood)).outcome) ≡ true
span_none task answer post desk told None = refl
span_none task answer post desk told (Some slot) = given_none answer post desk told (taken_of task)

scheme_none : (task : Task) (answer : Answer) (post : Post) (desk : Desk) (told : List Event) (scheme : SchemeKind) → opens_none (stands_at (finishing_by task (Answering answer) post desk told (finish_base scheme post)).outcome) ≡ true
scheme_none task answer post desk told scheme =
    each_finish scheme post (λ (base : Option Base). opens_none (stands_at (finishing_by task (Answering answer) post desk told base).outcome) ≡ true)
    (given_none answer post desk told (taken_of task))
    (span_none task answer post desk told (kept_row post))

clear_none : (task : Task) (answer : Answer) (post : Post) (desk : Desk) (told : List Event) (scheme : SchemeKind) → opens_none (stands_at (clearing_by task (Answering answer) post desk told (clear_base scheme (index_of task))).outcome) ≡ true
clear_none task answer post desk told scheme =
    each_clear scheme (index_of task) (λ (base : Option Base). opens_none (stands_at (clearing_by task (Answering answer) post desk told base).outcome) ≡ true)
    refl
    (scheme_none task answer (clear_post (scheme_of post) post (index_of task)) desk (told ++ clear_told (scheme_of post) post (index_of task)) (scheme_of (clear_post (scheme_of post) post (index_of task))))

answering_none : (task : Task) (answer : Answer) (post : Post) (desk : Desk) (told : List Event) → opens_none (stands_at (clearing task (Answering answer) post desk told).outcome) ≡ true
answering_none task answer post desk told = clear_none task answer post desk told (scheme_of post)

deciding_none : (kept : ChangeKept) (post : Post) (desk : Desk) (told : List Event) (refused : Option Answer) → opens_none (stands_at (alters.deciding_by kept post desk told refused).outcome) ≡ true
deciding_none kept post desk told (Some answer) = answering_none (Changes kept) answer post desk told
deciding_none kept post desk told None = refl

row_none : (task : Task) (slot : ℕ) (post : Post) (desk : Desk) (told : List Event) → opens_none (stands_at (steps.opened_row task slot post desk told).outcome) ≡ true
row_none (Gets key) slot post desk told = refl
row_none (Changes kept) slot post desk told = refl
row_none (Holds key) slot post desk told = refl
row_none (Enqueues kept) slot post desk told = refl
row_none Dequeues slot post desk told = refl

null_none : (task : Task) (post : Post) (desk : Desk) (told : List Event) → is_queue task ≡ false → opens_none (stands_at (steps.opened_null task post desk told).outcome) ≡ true
null_none (Gets key) post desk told q = answering_none (Gets key) (answers.Got 0 None) post desk (told ++ events.Got (bucket_of post key) 0 key None ∷ [])
null_none (Changes kept) post desk told q = deciding_none (alters.at_link kept 0) post desk told (alters.refused post.layout.config (alters.at_link kept 0))
null_none (Holds key) post desk told q = answering_none (Holds key) answers.Nothing post desk told
null_none (Enqueues kept) post desk told q = absurd (cc)
null_none Dequeues post desk told q = absurd (cc)

-- the protection of a root goes on, or has ended
own_good : (u : Tally) (rounds : ℕ) (task : Task) (desk : Desk) (post : Post) (told : List Event) (outcome : Outcome) (lost : ℕ) (root : Root) (x : ℕ) → Tells lost (rounds_told u.rows rounds told) outcome → EndsWell outcome → EndGood u task lost (task_root u.buckets task) outcome → task_good u task lost root x ≡ true
    → phase_good u (rounds_told u.rows rounds (resumed (Opens task) desk post told outcome).told) (stands_at (resumed (Opens task) desk post told outcome).outcome) root x ≡ true
own_good u rounds task desk post told (Goes base) lost root x t w g h = rw t h
own_good u rounds task desk post told (Ends (Protected (protect_ends.Held slot era))) lost root x t w g h = none_good u (rounds_told u.rows rounds (steps.opened_row task slot post desk told).told) (stands_at (steps.opened_row task slot post desk told).outcome) root x (row_none task slot post desk told)
own_good u rounds task desk post told (Ends (Protected protect_ends.Null)) lost root x t w g h = by_queue (is_queue task) refl
  where
    by_queue : (b : Bool) → is_queue task ≡ b → phase_good u (rounds_told u.rows rounds (steps.opened_null task post desk told).told) (stands_at (steps.opened_null task post desk told).outcome) root x ≡ true
    by_queue true q = absurd (let y = never_null u task lost q g in cc)
    by_queue false q = none_good u (rounds_told u.rows rounds (steps.opened_null task post desk told).told) (stands_at (steps.opened_null task post desk told).outcome) root x (null_none task post desk told q)
own_good u rounds task desk post told (Ends Done) lost root x t w g h = absurd (cc)
own_good u rounds task desk post told (Ends (Followed ending)) lost root x t w g h = absurd (cc)
own_good u rounds task desk post told (Ends (Allocated ending)) lost root x t w g h = absurd (cc)
own_good u rounds task desk post told (Ends (Retired life)) lost root x t w g h = absurd (cc)
own_good u rounds task desk post told (Ends (Clocked time)) lost root x t w g h = absurd (cc)

hold_good : (u : Tally) (key lost : ℕ) (root : Root) (x : ℕ) → task_good u (Holds key) lost root x ≡ true
hold_good u key lost (roots.Bucket b) x = refl
hold_good u key lost roots.Tail x = refl
hold_good u key lost roots.Head x = refl
hold_good u key lost (roots.Next parent) x = refl

hold_stays : (u : Tally) (rounds key : ℕ) (desk : Desk) (post : Post) (told : List Event) (outcome : Outcome) (root : Root) (x : ℕ) → EndsWell outcome → phase_good u (rounds_told u.rows rounds (resumed (Opens (Holds key)) desk post told outcome).told) (stands_at (resumed (Opens (Holds key)) desk post told outcome).outcome) root x ≡ true
hold_stays u rounds key desk post told (Goes base) root x w = hold_good u key (lost_by (rounds_told u.rows rounds told) (is_told base)) root x
hold_stays u rounds key desk post told (Ends (Protected (protect_ends.Held slot era))) root x w = refl
hold_stays u rounds key desk post told (Ends (Protected protect_ends.Null)) root x w = none_good u (rounds_told u.rows rounds (steps.opened_null (Holds key) post desk told).told) (stands_at (steps.opened_null (Holds key) post desk told).outcome) root x (null_none (Holds key) post desk told refl)
hold_stays u rounds key desk post told (Ends Done) root x w = absurd (cc)
hold_stays u rounds key desk post told (Ends (Followed ending)) root x w = absurd (cc)
hold_stays u rounds key desk post told (Ends (Allocated ending)) root x w = absurd (cc)
hold_stays u rounds key desk post told (Ends (Retired life)) root x w = absurd (cc)
hold_stays u rounds key desk post told (Ends (Clocked time)) root x w = absurd (cc)

-- what is good after the turn of the seat that steps
abbrev pub GoodAfter : World → ℕ → Tally → Phase → Root → ℕ → Type 0
GoodAfter w i u phase root x =
    phase_good u (rounds_told u.rows (w.seat i).rounds (steps.phase_turn phase (counted (w.seat i).post) (offered w i).desk (finds w i)).told) (stands_at (steps.phase_turn phase (counted (w.seat i).post) (offered w i).desk (finds w i)).outcome) root x ≡ true

-- the step of an own protection, at an index that counts
task_stays_good : (w : World) (i : ℕ) (u : Tally) (task : Task) (index : ℕ) (root : Root) (n : ℕ) (at : ProtectAt) (x : ℕ) → Steps w i u (Opens task) (Protect Alone index root n at) → counts_task (publishes_rows w.layout.config.scheme) task ≡ true
    → task_good u task (lost_after at (finds w i) (lost_by (w.seat i).rounds (is_told (Protect Alone index root n at)))) root x ≡ true → GoodAfter w i u (Runs (Opens task) (Protect Alone index root n at)) root x
task_stays_good w i u task index root n at x s y h =
    let r : ℕ = (w.seat i).rounds in
    let base : Base = Protect Alone index root n at in
    let t : Turn = machine.after base (counted (w.seat i).post) (finds w i) in
    own_good u r task (offered w i).desk t.post t.told t.outcome (lost_after at (finds w i) (lost_by r (is_told base))) root x
    (own_tells w i u task index root n at s y) (ends_well index root (bump n) at (counted (w.seat i).post) (finds w i)) (own_opened w i u task index root n at s).good h

-- where no rows are published no round is lost inside of a protection
plain_stays : (w : World) (i : ℕ) (u : Tally) (task : Task) (index : ℕ) (root : Root) (n : ℕ) (at : ProtectAt) (x : ℕ) → Steps w i u (Opens task) (Protect Alone index root n at) → counts_task (publishes_rows w.layout.config.scheme) task ≡ true → by_rows at ≡ false
    → task_good u task (lost_by (w.seat i).rounds (is_told (Protect Alone index root n at))) root x ≡ true → GoodAfter w i u (Runs (Opens task) (Protect Alone index root n at)) root x
plain_stays w i u task index root n at x s y b h = task_stays_good w i u task index root n at x s y (subst (λ (lost : ℕ). task_good u task lost root x ≡ true) (sym (plain_lost at (finds w i) (lost_by (w.seat i).rounds (is_told (Protect Alone index root n at))) b)) h)

opens_stay : (w : World) (i : ℕ) (u : Tally) (task : Task) (index : ℕ) (root : Root) (n : ℕ) (at : ProtectAt) (x : ℕ) → Steps w i u (Opens task) (Protect Alone index root n at) → by_rows at ≡ false → task_good u task (lost_by (w.seat i).rounds (is_told (Protect Alone index root n at))) root x ≡ true → GoodAfter w i u (Runs (Opens task) (Protect Alone index root n at)) root x
opens_stay w i u (Gets key) index root n at x s b h = plain_stays w i u (Gets key) index root n at x s refl b h
opens_stay w i u (Changes kept) index root n at x s b h = plain_stays w i u (Changes kept) index root n at x s refl b h
opens_stay w i u (Holds key) index root n at x s b h =
    let t : Turn = machine.after (Protect Alone index root n at) (counted (w.seat i).post) (finds w i) in
    hold_stays u (w.seat i).rounds key (offered w i).desk t.post t.told t.outcome root x (ends_well index root (bump n) at (counted (w.seat i).post) (finds w i))
opens_stay w i u (Enqueues kept) index root n at x s b h = plain_stays w i u (Enqueues kept) index root n at x s refl b h
opens_stay w i u Dequeues index root n at x s b h = plain_stays w i u Dequeues index root n at x s refl b h

protect_stays : (w : World) (i : ℕ) (u : Tally) (why : Why) (aim : Aim) (index : ℕ) (root : Root) (n : ℕ) (at : ProtectAt) (x : ℕ) → Steps w i u why (Protect aim index root n at) → by_rows at ≡ false → why_good u (w.seat i).rounds (Protect aim index root n at) why root x ≡ true → GoodAfter w i u (Runs why (Protect aim index root n at)) root x
protect_stays w i u (Opens task) Alone index root n at x s b h = opens_stay w i u task index root n at x s b h
protect_stays w i u (Opens task) Follows index root n at x s b h = absurd (let e = follows_alone s.run.shape.aimed in cc)
protect_stays w i u (FollowsHead head tail) aim index root n at x s b h =
    let e : root ≡ roots.Next head = s.run.shape.of in
    let t : CallTurn = steps.phase_turn (Runs (FollowsHead head tail) (Protect aim index root n at)) (counted (w.seat i).post) (offered w i).desk (finds w i) in
    subst (λ (a : Root). phase_good u (rounds_told u.rows (w.seat i).rounds t.told) (stands_at t.outcome) a x ≡ true) (sym e) (next_good u (rounds_told u.rows (w.seat i).rounds t.told) (stands_at t.outcome) head x)
protect_stays w i u (Fills task) aim index root n at x s b h = absurd (let e = s.run.suited in cc)
protect_stays w i u (ClearsNext next) aim index root n at x s b h = absurd (let e = s.run.suited in cc)
protect_stays w i u (Clears task next) aim index root n at x s b h = absurd (let e = s.run.suited in cc)
protect_stays w i u (Finishes task next) aim index root n at x s b h = absurd (let e = s.run.suited in cc)
protect_stays w i u (GivesUp answer) aim index root n at x s b h = absurd (let e = s.run.suited in cc)
protect_stays w i u (Retires answer) aim index root n at x s b h = absurd (let e = s.run.suited in cc)
protect_stays w i u (Tidies later) aim index root n at x s b h = absurd (let e = s.run.suited in cc)
protect_stays w i u Advances aim index root n at x s b h = absurd (let e = s.run.suited in cc)
protect_stays w i u (Releases let_go) aim index root n at x s b h = absurd (let e = s.run.suited in cc)

-- a reload leads to what the root leads to now
counts_rows : (task : Task) → counts_task true task ≡ true
counts_rows (Gets key) = refl
counts_rows (Changes kept) = refl
counts_rows (Holds key) = refl
counts_rows (Enqueues kept) = refl
counts_rows Dequeues = refl

reload_good : (w : World) (i : ℕ) (u : Tally) (why : Why) (aim : Aim) (index : ℕ) (root : Root) (n link : ℕ) → Steps w i u why (Protect aim index root n (ByHazard (CheckLink link))) → GoodAfter w i u (Runs why (Protect aim index root n (ByHazard (CheckLink link)))) root (w.mem (link_place root))
reload_good w i u (Opens task) Alone index root n link s =
    let at : ProtectAt = ByHazard (CheckLink link) in
    let lost : ℕ = lost_after at (finds w i) (lost_by (w.seat i).rounds (is_told (Protect Alone index root n at))) in
    let is : root ≡ task_root u.buckets task = s.run.shape.of ∙ ap (λ (b : ℕ). task_root b task) (sym s.buckets) in
    let f : finds w i ≡ w.mem (link_place root) = finds_at w i (Runs (Opens task) (Protect Alone index root n at)) s.at in
    let g : task_good u task lost root (finds w i) ≡ true = subst (λ (r : Root). task_good u task lost r (finds w i) ≡ true) (sym is) (found_good u task lost (finds w i) s.loaded) in
    task_stays_good w i u task index root n at (w.mem (link_place root)) s (subst (λ (rows : Bool). counts_task rows task ≡ true) (sym s.run.fits) (counts_rows task))
    (subst (λ (x : ℕ). task_good u task lost root x ≡ true) f g)
reload_good w i u (Opens task) Follows index root n link s = absurd (let e = follows_alone s.run.shape.aimed in cc)
reload_good w i u (FollowsHead head tail) aim index root n link s =
    let e : root ≡ roots.Next head = s.run.shape.of in
    let t : CallTurn = steps.phase_turn (Runs (FollowsHead head tail) (Protect aim index root n (ByHazard (CheckLink link)))) (counted (w.seat i).post) (offered w i).desk (finds w i) in
    subst (λ (a : Root). phase_good u (rounds_told u.rows (w.seat i).rounds t.told) (stands_at t.outcome) a (w.mem (link_place root)) ≡ true) (sym e) (next_good u (rounds_told u.rows (w.seat i).rounds t.told) (stands_at t.outcome) head (w.mem (link_place root)))
reload_good w i u (Fills task) aim index root n link s = absurd (let e = s.run.suited in cc)
reload_good w i u (ClearsNext next) aim index root n link s = absurd (let e = s.run.suited in cc)
reload_good w i u (Clears task next) aim index root n link s = absurd (let e = s.run.suited in cc)
reload_good w i u (Finishes task next) aim index root n link s = absurd (let e = s.run.suited in cc)
reload_good w i u (GivesUp answer) aim index root n link s = absurd (let e = s.run.suited in cc)
reload_good w i u (Retires answer) aim index root n link s = absurd (let e = s.run.suited in cc)
reload_good w i u (Tidies later) aim index root n link s = absurd (let e = s.run.suited in cc)
reload_good w i u Advances aim index root n link s = absurd (let e = s.run.suited in cc)
reload_good w i u (Releases let_go) aim index root n link s = absurd (let e = s.run.suited in cc)

pub loads_good : (w : World) (i : ℕ) (v : View) (l : Line) (z : Asking) → RoundsNeeds w i v l z → Rounds w l z → (why : Why) (aim : Aim) (index : ℕ) (root : Root) (n : ℕ) (at : ProtectAt) → (w.seat i).phase ≡ Runs why (Protect aim index root n at) → by_rows at ≡ true → loads_at at ≡ true
    → GoodAfter w i (tally (step w i) (line_after w i l)) (Runs why (Protect aim index root n at)) root (w.mem (link_place root))
loads_good w i v l z n h why aim index root m (ByHazard (CheckLink link)) e b k = reload_good w i (tally (step w i) (line_after w i l)) why aim index root m link (step_is w i v l z n h why (Protect aim index root m (ByHazard (CheckLink link))) e)
loads_good w i v l z n h why aim index root m (ByHazard FirstLink) e b k = absurd (cc)
loads_good w i v l z n h why aim index root m (ByHazard (PublishLink link)) e b k = absurd (cc)
loads_good w i v l z n h why aim index root m at e b k = absurd (cc)

untracked : (w : World) (i : ℕ) (z : Asking) (u : Tally) (phase : Phase) (x : ℕ) → Requests w z → (w.seat i).phase ≡ phase → is_protecting phase ≡ false → Tracked w z i x → GoodAfter w i u phase (root_for phase) x
untracked w i z u phase x r e p k = absurd (let y = none_tracked w z i x r (ap is_protecting e ∙ p) k in cc)

protected_stays : (w : World) (i : ℕ) (v : View) (l : Line) (z : Asking) → RoundsNeeds w i v l z → Rounds w l z → (why : Why) (aim : Aim) (index : ℕ) (root : Root) (m : ℕ) (at : ProtectAt) → (w.seat i).phase ≡ Runs why (Protect aim index root m at) → (x : ℕ) → by_rows at ≡ false
    → phase_good (tally w l) (w.seat i).rounds (Runs why (Protect aim index root m at)) root x ≡ true → GoodAfter w i (tally (step w i) (line_after w i l)) (Runs why (Protect aim index root m at)) root x
protected_stays w i v l z n h why aim index root m at e x b g =
    let s = step_is w i v l z n h why (Protect aim index root m at) e in
    let p : phase_paced (tally w l) (w.seat i).rounds (Runs why (Protect aim index root m at)) = subst (λ (f : Phase). phase_paced (tally w l) (w.seat i).rounds f) e (h.paced i) in
    protect_stays w i (tally (step w i) (line_after w i l)) why aim index root m at x s b (phase_stays (tally w l) (tally (step w i) (line_after w i l)) (w.seat i).rounds (Runs why (Protect aim index root m at)) root x (step_counts w i v l z n) p g)

own_stays : (w : World) (i : ℕ) (v : View) (l : Line) (z : Asking) → RoundsNeeds w i v l z → Rounds w l z → (phase : Phase) → (w.seat i).phase ≡ phase → (x : ℕ) → Tracked w z i x → phase_good (tally w l) (w.seat i).rounds phase (root_for phase) x ≡ true → GoodAfter w i (tally (step w i) (line_after w i l)) phase (root_for phase) x
own_stays w i v l z n h Idle e x k g = refl
own_stays w i v l z n h (Runs why (Protect aim index root m at)) e x k g = by_hazard (by_rows at) refl
  where
    by_hazard : (b : Bool) → by_rows at ≡ b → GoodAfter w i (tally (step w i) (line_after w i l)) (Runs why (Protect aim index root m at)) root x
    by_hazard true b = untracked w i z (tally (step w i) (line_after w i l)) (Runs why (Protect aim index root m at)) x n.origins.requests e (rw b refl) k
    by_hazard false b = protected_stays w i v l z n h why aim index root m at e x b g
own_stays w i v l z n h (Runs why (Reload parent index slot era m)) e x k g =
    let t : CallTurn = steps.phase_turn (Runs why (Reload parent index slot era m)) (counted (w.seat i).post) (offered w i).desk (finds w i) in
    next_good (tally (step w i) (line_after w i l)) (rounds_told (publishes_rows w.layout.config.scheme) (w.seat i).rounds t.told) (stands_at t.outcome) parent x
own_stays w i v l z n h (Runs why (Begin at)) e x k g = untracked w i z (tally (step w i) (line_after w i l)) (Runs why (Begin at)) x n.origins.requests e refl k
own_stays w i v l z n h (Runs why (Clear rows index)) e x k g = untracked w i z (tally (step w i) (line_after w i l)) (Runs why (Clear rows index)) x n.origins.requests e refl k
own_stays w i v l z n h (Runs why Finish) e x k g = untracked w i z (tally (step w i) (line_after w i l)) (Runs why Finish) x n.origins.requests e refl k
own_stays w i v l z n h (Runs why (Release index)) e x k g = untracked w i z (tally (step w i) (line_after w i l)) (Runs why (Release index)) x n.origins.requests e refl k
own_stays w i v l z n h (Runs why (Allocate at)) e x k g = untracked w i z (tally (step w i) (line_after w i l)) (Runs why (Allocate at)) x n.origins.requests e refl k
own_stays w i v l z n h (Runs why (Write slot row place)) e x k g = untracked w i z (tally (step w i) (line_after w i l)) (Runs why (Write slot row place)) x n.origins.requests e refl k
own_stays w i v l z n h (Runs why (GiveUp slot)) e x k g = untracked w i z (tally (step w i) (line_after w i l)) (Runs why (GiveUp slot)) x n.origins.requests e refl k
own_stays w i v l z n h (Runs why (Retire at)) e x k g = untracked w i z (tally (step w i) (line_after w i l)) (Runs why (Retire at)) x n.origins.requests e refl k
own_stays w i v l z n h (Runs why (Move at)) e x k g = untracked w i z (tally (step w i) (line_after w i l)) (Runs why (Move at)) x n.origins.requests e refl k
own_stays w i v l z n h (Scans later at) e x k g = untracked w i z (tally (step w i) (line_after w i l)) (Scans later at) x n.origins.requests e refl k
own_stays w i v l z n h (Works work) e x k g = untracked w i z (tally (step w i) (line_after w i l)) (Works work) x n.origins.requests e refl k

pub settled_good : (u : Tally) (l : Local) (post : Post) (desk : Desk) (told : List Event) (outcome : CallOutcome) (root : Root) (x : ℕ) → phase_good u (rounds_told u.rows l.rounds told) (stands_at outcome) root x ≡ true → publishes_rows (scheme_of post) ≡ u.rows
    → phase_good u (settled l (record { post = post; desk = desk; told = told; outcome = outcome })).rounds (settled l (record { post = post; desk = desk; told = told; outcome = outcome })).phase root x ≡ true
settled_good u l post desk told (GoesOn phase) root x h t = rw (t, rounds_join u.rows l.rounds told []) h
settled_good u l post desk told (Answers answer) root x h t = refl

pub stays_at : (w : World) (i : ℕ) (v : View) (l : Line) (z : Asking) → RoundsNeeds w i v l z → Rounds w l z → (k x : ℕ) (own : Bool) → (k == i) ≡ own → Tracked w z k x → good_link w l k (root_in w k) x ≡ true → good_link (step w i) (line_after w i l) k (root_in w k) x ≡ true
stays_at w i v l z n h k x false e t g =
    let s = seat_stays w i k e in
    let f = phase_stays (tally w l) (tally (step w i) (line_after w i l)) (w.seat k).rounds (w.seat k).phase (root_in w k) x (step_counts w i v l z n) (h.paced k) g in
    subst (λ (m : Local). phase_good (tally (step w i) (line_after w i l)) m.rounds m.phase (root_in w k) x ≡ true) (sym s) f
stays_at w i v l z n h k x true e t g =
    let is : i ≡ k = (let y : k ≡ i = grind (arith, nat_tests, e) in sym y) in
    subst (λ (m : ℕ). good_link (step w i) (line_after w i l) m (root_in w m) x ≡ true) is own
  where
    own : good_link (step w i) (line_after w i l) i (root_in w i) x ≡ true
    own =
        let y : i ≡ k = (let q : k ≡ i = grind (arith, nat_tests, e) in sym q) in
        let t2 : Tracked w z i x = subst (λ (m : ℕ). Tracked w z m x) (sym y) t in
        let g2 : good_link w l i (root_in w i) x ≡ true = subst (λ (m : ℕ). good_link w l m (root_in w m) x ≡ true) (sym y) g in
        let c : CallTurn = turn (offered w i) (finds w i) in
        let f = settled_good (tally (step w i) (line_after w i l)) (w.seat i) c.post c.desk c.told c.outcome (root_in w i) x (own_stays w i v l z n h (w.seat i).phase refl x t2 g2) (turn_rows w i n.origins.valid n.origins.seats) in
        subst (λ (m : Local). phase_good (tally (step w i) (line_after w i l)) m.rounds m.phase (root_in w i) x ≡ true) (sym (seat_steps w i)) f
