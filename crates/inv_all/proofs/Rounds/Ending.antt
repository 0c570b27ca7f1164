-- Each step keeps what is known of rounds, and so no call loses more than it may.
use Rattle.inv_ends.specs.model.Keep as keeps
use Rattle.std.proofs.Common.{ℕ, ◌∙◌, ◌≡◌, ◌≤◌, ◌+◌, ◌*◌, ◌-◌, Bool, true, false, arith, refl, sym, ap, subst}
use Rattle.std.proofs.lemmas.Bool.Decides.{nat_tests}
use Rattle.inv_ends.specs.model.words.Place.{Place}
use Rattle.inv_ends.specs.model.words.Place.Place.{Clock, Bucket, Head, Tail, Row}
use Rattle.inv_ends.specs.model.Phases.Base.{Move, Allocate, Begin, Clear, Finish, GiveUp, Protect, Release, Reload, Retire, Write}
use Rattle.inv_ends.specs.model.Memory.{bump}
use Rattle.inv_ends.specs.model.Steps as steps
use Rattle.inv_ends.specs.model.Machine as machine
use Rattle.inv_ends.specs.rows.Rows.{View}
use Rattle.inv_ends.specs.requests.Views.{View as Asking}
use Rattle.inv_ends.specs.shapes.Frame.{phase_left as stands_at}
use Rattle.inv_ends.proofs.shapes.Kept.{one_moves}
use Rattle.inv_ends.specs.model.defs.declared.event.Root.TheVariants as roots
use Rattle.inv_ends.specs.model.defs.declared.fold.Change.TheVariants as changes
use Rattle.inv_ends.specs.model.defs.declared.call.Call.TheVariants as names
use Rattle.inv_ends.specs.model.Calls.{CallTurn, ChangeKept, Phase, Why, Task, LetGo}
use Rattle.inv_ends.specs.model.Calls.Phase.{Idle, Runs, Scans, Works}
use Rattle.inv_ends.specs.model.Calls.LetGo.{Dropped, Rehold, Released}
use Rattle.inv_ends.specs.model.Calls.Task.{Changes, Dequeues, Enqueues, Gets, Holds}
use Rattle.inv_ends.specs.model.Calls.Why.{Opens, Fills, FollowsHead}
use Rattle.inv_ends.specs.model.Links.{link_place}
use Rattle.inv_ends.specs.model.Locals.{Local, busy_in, rounds_told, turn, begun_post}
use Rattle.inv_ends.specs.model.Phases.{Aim, Base, MoveAt, ProtectAt, Outcome}
use Rattle.inv_ends.specs.model.Phases.MoveAt.{AnswerAsked, CheckEra, ExchangeClock, HandOver, HideEra, HideLate, LoadAsked, LoadEra, LoadRequest, LoadReserved, ShowEra}
use Rattle.inv_ends.specs.model.Posts.{counted, stands, upper}
use Rattle.inv_ends.specs.model.Rounds.{key_of, let_index, letting, letting_by, release_base, scheme_of}
use Rattle.inv_ends.specs.model.World.{World, begin, finds, is_busy, offered, start, step}
use Rattle.inv_ends.specs.model.declared.post.Post.{Post}
use Rattle.inv_ends.specs.model.defs.declared.call.Call.{Call}
use Rattle.inv_ends.specs.model.defs.declared.event.Root.{Root}
use Rattle.inv_ends.proofs.shapes.Frame.{seat_stays, seat_steps, begin_begins, begin_stays}
use Rattle.inv_ends.specs.shapes.Seats.{PhaseFits, Run, root_by, task_root}
use Rattle.inv_ends.proofs.Origins.Kept.{origins_kept, origins_begin, origins_start}
use Rattle.inv_ends.specs.Origins.{loads_asked, loads_at, loads_link}
use Rattle.inv_ends.specs.Tracked.{Tracked, root_for, root_in}
use Rattle.inv_ends.specs.requests.Roles.{shows}
use Rattle.inv_ends.specs.requests.Standing.{Requests}
use Rattle.inv_all.proofs.Rounds.Fresh.{Loads, goes_loaded, has_loaded, loads_at_step, phase_fresh, seat_own}
use Rattle.inv_all.proofs.Rounds.Grows.{phase_grows}
use Rattle.inv_all.proofs.Rounds.Kept.{step_counts, lost_now, own_bucket, swung}
use Rattle.inv_all.proofs.Rounds.Lasting.{GoodAfter, loads_good, own_paced, settled_good, stays_at, step_is}
use Rattle.inv_all.proofs.Rounds.Paced.{round_paced, parts_paced}
use Rattle.inv_all.proofs.Rounds.Protects.{is_protecting, none_tracked}
use Rattle.inv_all.specs.Rounds.{RoundsKept, RoundsNeeds, Rounds, RoundsBegin, RoundsGive, RoundsStart}
use Rattle.inv_all.specs.Tallies.{Tally, good_link, root_test, task_most, phase_good, phase_paced, tally, fills_paced, once, task_good}
use Rattle.inv_ends.specs.rows.Chain.{line_after, first_line}
use Rattle.inv_ends.specs.rows.Queue.{Line, follows_in}
use Rattle.std.specs.Prelude.{Option, Some, None, ◌==◌, ◌%◌}
use Rattle.inv_ends.specs.model.declared.ends.ProtectEnd.TheVariants as protect_ends
use Rattle.inv_ends.specs.model.Calls.ChangeAt.{ExchangeRoot}
use Rattle.inv_ends.specs.model.Calls.DequeueAt.{ExchangeHead, SwingTail}
use Rattle.inv_ends.specs.model.Calls.EnqueueAt.{ExchangeNext, PassTail}
use Rattle.inv_ends.specs.model.Calls.Work.{Changing, Dequeuing, Enqueuing}
use Rattle.inv_ends.specs.model.Phases.Aim.{Alone, Follows}
use Rattle.inv_ends.specs.model.Phases.AllocateAt.{ClaimSlot}
use Rattle.inv_ends.specs.model.Phases.BeginAt.{LoadLower, PublishSpan}
use Rattle.inv_ends.specs.model.Phases.Ending.{Protected}
use Rattle.inv_ends.specs.model.Phases.Outcome.{Ends}
use Rattle.inv_ends.specs.model.Rest.{has_walked, is_told, lost_by, rounds_most}
use Rattle.inv_all.proofs.Contents.Items.Gives.{items_count}
use Rattle.inv_ends.proofs.Rest.Kept.{turn_rows}
use Rattle.inv_ends.proofs.Rest.Told.{by_rows, lost_after}
use Rattle.inv_ends.specs.model.Phases.HazardAt.{CheckLink}
use Rattle.inv_ends.specs.model.Phases.ProtectAt.{ByHazard}
use Rattle.inv_ends.proofs.Rest.Seats.{follows_alone}
use Rattle.inv_ends.specs.Losses.{is_queue}
use Rattle.inv_all.proofs.Rounds.Machines.{EndGood, never_null, own_opened}
use Rattle.inv_all.proofs.Rounds.Worlds.{next_number}
use Rattle.inv_ends.proofs.covers.Held.{finds_at}
use Rattle.inv_ends.proofs.model.Facts.{same_both, if_by}
use Rattle.inv_ends.specs.model.defs.declared.lifetime.Interval.{Interval}
use Rattle.inv_ends.specs.model.words.Schemes.{has_one_interval, publishes_rows}

-- what is in a root that the step loads is good

stood_root : (w : World) (i : ℕ) (v : View) (l : Line) (z : Asking) (k : ℕ) → RoundsNeeds w i v l z → loads_link (w.seat i).phase ≡ true → (k == i) ≡ false → good_link (step w i) (line_after w i l) k (root_in w k) (w.mem (link_place (root_in w k))) ≡ true
stood_root w i v l z k n h e =
    let s = seat_stays w i k e in
    let f = phase_fresh (tally (step w i) (line_after w i l)) w.mem (w.seat k).rounds (w.seat k).phase (root_in w k) (loads_at_step w i v l z (w.seat k).phase (root_in w k) n h (λ kept base b p q. seat_own w k kept base b n.origins.seats p q)) in
    subst (λ (m : Local). phase_good (tally (step w i) (line_after w i l)) m.rounds m.phase (root_in w k) (w.mem (link_place (root_in w k))) ≡ true) (sym s) f

-- the seat that loads for its own protection
loaded_good : (u : Tally) (mem : Place → ℕ) (rounds : ℕ) (l : Local) (t : CallTurn) (why : Why) (aim : Aim) (index : ℕ) (root : Root) → has_loaded why aim index root t → ((n : ℕ) (at : ProtectAt) → Loads u mem (Runs why (Protect aim index root n at)) root)
    → phase_good u (rounds_told u.rows rounds t.told) (stands_at t.outcome) root (mem (link_place root)) ≡ true
loaded_good u mem rounds l t why aim index root g h =
    let e : stands_at t.outcome ≡ Runs why (Protect aim index root g.0 g.1) = ap stands_at g.2 in
    subst (λ (p : Phase). phase_good u (rounds_told u.rows rounds t.told) p root (mem (link_place root)) ≡ true) (sym e) (phase_fresh u mem (rounds_told u.rows rounds t.told) (Runs why (Protect aim index root g.0 g.1)) root (h g.0 g.1))

runs_bucket : (why : Why) (aim : Aim) (index : ℕ) (root : Root) (n : ℕ) (at : ProtectAt) (kept : ChangeKept) (base : Base) → Runs why (Protect aim index root n at) ≡ Runs (Opens (Changes kept)) base → why ≡ Opens (Changes kept)
runs_bucket why aim index root n at kept base e = ap why_of e
  where
    why_of : Phase → Why
    why_of Idle = why
    why_of (Runs other base) = other
    why_of (Scans later at) = why
    why_of (Works work) = why

bucket_is : (a b : ℕ) → roots.Bucket a ≡ roots.Bucket b → a ≡ b
bucket_is a b e = cc

protect_loads : (w : World) (i : ℕ) (v : View) (l : Line) (z : Asking) → RoundsNeeds w i v l z → (why : Why) (aim : Aim) (index : ℕ) (root : Root) (m : ℕ) (at : ProtectAt) → (w.seat i).phase ≡ Runs why (Protect aim index root m at) → loads_at at ≡ true → by_rows at ≡ false
    → GoodAfter w i (tally (step w i) (line_after w i l)) (Runs why (Protect aim index root m at)) root (w.mem (link_place root))
protect_loads w i v l z n why aim index root m at e h d =
    let r : Run w.layout why (Protect aim index root m at) (w.seat i).post = subst (λ (p : Phase). PhaseFits w.layout (w.seat i).post p) e (n.origins.seats.fits i).phase in
    loaded_good (tally (step w i) (line_after w i l)) w.mem (w.seat i).rounds (w.seat i) (steps.phase_turn (Runs why (Protect aim index root m at)) (counted (w.seat i).post) (offered w i).desk (finds w i)) why aim index root
    (goes_loaded why aim index root m at (counted (w.seat i).post) (offered w i).desk (finds w i) h d)
    (λ a b. loads_at_step w i v l z (Runs why (Protect aim index root a b)) root n (rw e h) (λ kept base c p q.
    let x : why ≡ Opens (Changes kept) = runs_bucket why aim index root a b kept base p in
    let y : root ≡ roots.Bucket (key_of kept.change % w.layout.config.buckets) = r.shape.of ∙ ap (λ (o : Why). root_by w.layout.config.buckets o) x in
    bucket_is c (key_of kept.change % w.layout.config.buckets) (sym q ∙ y)))

own_loads : (w : World) (i : ℕ) (v : View) (l : Line) (z : Asking) → RoundsNeeds w i v l z → Rounds w l z → (phase : Phase) → (w.seat i).phase ≡ phase → loads_link phase ≡ true
    → phase_good (tally (step w i) (line_after w i l)) (rounds_told (publishes_rows w.layout.config.scheme) (w.seat i).rounds (steps.phase_turn phase (counted (w.seat i).post) (offered w i).desk (finds w i)).told) (stands_at (steps.phase_turn phase (counted (w.seat i).post) (offered w i).desk (finds w i)).outcome) (root_for phase) (w.mem (link_place (root_for phase))) ≡ true
own_loads w i v l z n o Idle e h = absurd (cc)
own_loads w i v l z n o (Scans later at) e h = absurd (cc)
own_loads w i v l z n o (Works work) e h = absurd (cc)
own_loads w i v l z n o (Runs why (Protect aim index root m at)) e h = by_hazard (by_rows at) refl
  where
    by_hazard : (b : Bool) → by_rows at ≡ b → GoodAfter w i (tally (step w i) (line_after w i l)) (Runs why (Protect aim index root m at)) root (w.mem (link_place root))
    by_hazard true b = loads_good w i v l z n o why aim index root m at e b h
    by_hazard false b = protect_loads w i v l z n why aim index root m at e h b
own_loads w i v l z n o (Runs why (Begin at)) e h = absurd (cc)
own_loads w i v l z n o (Runs why (Reload parent index slot era m)) e h = absurd (cc)
own_loads w i v l z n o (Runs why (Clear rows index)) e h = absurd (cc)
own_loads w i v l z n o (Runs why Finish) e h = absurd (cc)
own_loads w i v l z n o (Runs why (Release index)) e h = absurd (cc)
own_loads w i v l z n o (Runs why (Allocate at)) e h = absurd (cc)
own_loads w i v l z n o (Runs why (Write slot row place)) e h = absurd (cc)
own_loads w i v l z n o (Runs why (GiveUp slot)) e h = absurd (cc)
own_loads w i v l z n o (Runs why (Retire at)) e h = absurd (cc)
own_loads w i v l z n o (Runs why (Move at)) e h = move_loads why at h e
  where
    move_loads : (why : Why) (at : MoveAt) → loads_asked at ≡ true → (w.seat i).phase ≡ Runs why (Move at)
        → phase_good (tally (step w i) (line_after w i l)) (rounds_told (publishes_rows w.layout.config.scheme) (w.seat i).rounds (steps.phase_turn (Runs why (Move at)) (counted (w.seat i).post) (offered w i).desk (finds w i)).told) (stands_at (steps.phase_turn (Runs why (Move at)) (counted (w.seat i).post) (offered w i).desk (finds w i)).outcome) roots.Head (w.mem Head) ≡ true
    move_loads why (LoadAsked era seat tag index root) h e = asked why era seat tag index root e
      where
        asked : (why : Why) (era seat tag index : ℕ) (root : Root) → (w.seat i).phase ≡ Runs why (Move (LoadAsked era seat tag index root)) → phase_good (tally (step w i) (line_after w i l)) (w.seat i).rounds (Runs why (Move (CheckEra era seat tag index root (finds w i)))) roots.Head (w.mem Head) ≡ true
        asked why era seat tag index root e = phase_fresh (tally (step w i) (line_after w i l)) w.mem (w.seat i).rounds (Runs why (Move (CheckEra era seat tag index root (finds w i)))) roots.Head (loads_at_step w i v l z (Runs why (Move (CheckEra era seat tag index root (finds w i)))) roots.Head n (rw e refl) (λ kept base b p q. absurd (let y : roots.Head ≡ roots.Bucket b = q in cc)))
    move_loads why (LoadEra helps) h e = absurd (cc)
    move_loads why (LoadRequest era seat shows) h e = absurd (cc)
    move_loads why (ShowEra era seat tag index root) h e = absurd (cc)
    move_loads why (CheckEra era seat tag index root link) h e = absurd (cc)
    move_loads why (AnswerAsked era seat tag index root link) h e = absurd (cc)
    move_loads why (LoadReserved era seat tag index root link) h e = absurd (cc)
    move_loads why (HandOver era seat tag index root link old) h e = absurd (cc)
    move_loads why (HideEra era) h e = absurd (cc)
    move_loads why (HideLate seen) h e = absurd (cc)
    move_loads why (ExchangeClock era) h e = absurd (cc)

own_root_good : (w : World) (i : ℕ) (v : View) (l : Line) (z : Asking) → RoundsNeeds w i v l z → Rounds w l z → loads_link (w.seat i).phase ≡ true → good_link (step w i) (line_after w i l) i (root_in w i) (w.mem (link_place (root_in w i))) ≡ true
own_root_good w i v l z n o h =
    let c : CallTurn = turn (offered w i) (finds w i) in
    let f = settled_good (tally (step w i) (line_after w i l)) (w.seat i) c.post c.desk c.told c.outcome (root_in w i) (w.mem (link_place (root_in w i))) (own_loads w i v l z n o (w.seat i).phase refl h) (turn_rows w i n.origins.valid n.origins.seats) in
    subst (λ (m : Local). phase_good (tally (step w i) (line_after w i l)) m.rounds m.phase (root_in w i) (w.mem (link_place (root_in w i))) ≡ true) (sym (seat_steps w i)) f

fresh_at : (w : World) (i : ℕ) (v : View) (l : Line) (z : Asking) → RoundsNeeds w i v l z → Rounds w l z → loads_link (w.seat i).phase ≡ true → (k : ℕ) (own : Bool) → (k == i) ≡ own → good_link (step w i) (line_after w i l) k (root_in w k) (w.mem (link_place (root_in w k))) ≡ true
fresh_at w i v l z n o h k false e = stood_root w i v l z k n h e
fresh_at w i v l z n o h k true e =
    let y : i ≡ k = (let q : k ≡ i = grind (arith, nat_tests, e) in sym q) in
    subst (λ (m : ℕ). good_link (step w i) (line_after w i l) m (root_in w m) (w.mem (link_place (root_in w m))) ≡ true) y (own_root_good w i v l z n o h)

pub rounds_kept : RoundsKept
rounds_kept w i v l z next n d h = record {
  paced = λ k. one_moves (λ (m : ℕ) (s : Local). phase_paced (tally (step w i) (line_after w i l)) s.rounds s.phase) w.seat (step w i).seat i
      (λ m. phase_grows (tally w l) (tally (step w i) (line_after w i l)) (w.seat m).rounds (w.seat m).phase (step_counts w i v l z n) (h.paced m))
      (seat_stays w i) (own_paced w i v l z n h) k;
  links = origins_kept (good_link w l) (good_link (step w i) (line_after w i l)) w i z next n.origins d
      (record { fresh = λ k f t. fresh_at w i v l z n h f k (k == i) refl; stays = λ k x t g. stays_at w i v l z n h k x (k == i) refl t g })
      h.links;
}

-- a call begins

letting_by_paced : (u : Tally) (let_go : LetGo) (base : Option Base) → phase_paced u 0 (letting_by let_go base)
letting_by_paced u let_go (Some base) = tt
letting_by_paced u let_go None = tt

letting_paced : (u : Tally) (let_go : LetGo) (post : Post) → phase_paced u 0 (letting let_go post)
letting_paced u let_go post = letting_by_paced u let_go (release_base (scheme_of post) post (let_index let_go))

holding_paced : (u : Tally) (key : ℕ) (post : Post) (stood : Option ℕ) → phase_paced u 0 (steps.holding key post stood)
holding_paced u key post None = round_paced u 0 (Holds key) post (omega arith)
holding_paced u key post (Some slot) = letting_paced u (Rehold key) post

copying_paced : (u : Tally) (from index : ℕ) (stood : Option ℕ) → phase_paced u 0 (steps.copying from index stood)
copying_paced u from index None = tt
copying_paced u from index (Some slot) = tt

looking_paced : (u : Tally) (index key : ℕ) (stood : Option ℕ) → phase_paced u 0 (steps.looking_at index key stood)
looking_paced u index key None = tt
looking_paced u index key (Some slot) = tt

leaves_span : (u : Tally) (span : Option Interval) → phase_paced u 0 (keeps.parting_span span)
leaves_span u None = tt
leaves_span u (Some span) = tt

leaving_paced : (u : Tally) (post : Post) → phase_paced u 0 (keeps.parting post)
leaving_paced u post = if_by (has_one_interval (scheme_of post)) (keeps.parting_span post.span) (keeps.parting_from 2 post) (λ (p : Phase). phase_paced u 0 p) (λ e. leaves_span u post.span) (λ e. parts_paced u 0 2 post)

first_paced : (u : Tally) (call : Call) (post : Post) → phase_paced u 0 (steps.first_phase call post)
first_paced u (names.Get key) post = round_paced u 0 (Gets key) post (omega arith)
first_paced u (names.Put key value) post = round_paced u 0 (steps.changing (changes.Put key value) None) post (omega arith)
first_paced u (names.Remove key) post = round_paced u 0 (steps.changing (changes.Removed key) None) post (omega arith)
first_paced u (names.Enqueue value) post = round_paced u 0 (Enqueues (record { value = value; taken = None; walked = false; tail = 0; number = 0 })) post (omega arith)
first_paced u names.Dequeue post = round_paced u 0 Dequeues post (omega arith)
first_paced u (names.Hold key) post = holding_paced u key post (stands post 2)
first_paced u names.Release post = letting_paced u Released post
first_paced u names.Advance post = tt
first_paced u names.Scan post = tt
first_paced u (names.Copy from index) post = copying_paced u from index (stands post from)
first_paced u (names.DropIndex index) post = letting_paced u (Dropped index) post
first_paced u (names.Look index key) post = looking_paced u index key (stands post index)
first_paced u names.Leave post = leaving_paced u post
first_paced u (names.Adopt place) post = tt
first_paced u (names.PutIf key value version) post = round_paced u 0 (steps.changing (changes.Put key value) (Some version)) post (omega arith)

idle_tracks : (w : World) (i : ℕ) (z : Asking) (x : ℕ) → is_busy w i ≡ false → Requests w z → Tracked w z i x → false ≡ true
idle_tracks w i z x b r t = none_tracked w z i x r (idle_none (w.seat i).phase b) t
  where
    idle_none : (phase : Phase) → busy_in phase ≡ false → is_protecting phase ≡ false
    idle_none Idle b = refl
    idle_none (Runs why base) b = absurd (cc)
    idle_none (Scans later at) b = absurd (cc)
    idle_none (Works work) b = absurd (cc)

begun_links : (w : World) (i : ℕ) (call : Call) (l : Line) (z : Asking) → is_busy w i ≡ false → Requests w z → Rounds w l z → (k x : ℕ) (own : Bool) → (k == i) ≡ own → Tracked w z k x → good_link (begin w i call) l k (root_in w k) x ≡ true
begun_links w i call l z b r h k x false e t =
    let s = begin_stays w i k call e in
    subst (λ (m : Local). phase_good (tally w l) m.rounds m.phase (root_in w k) x ≡ true) (sym s) (h.links.tracked k x t)
begun_links w i call l z b r h k x true e t =
    let y : i ≡ k = (let q : k ≡ i = grind (arith, nat_tests, e) in sym q) in
    let t2 : Tracked w z i x = subst (λ (m : ℕ). Tracked w z m x) (sym y) t in
    absurd (let c = idle_tracks w i z x b r t2 in cc)

pub rounds_begin : RoundsBegin
rounds_begin w i call l z next b r d h = record {
  paced = λ k. one_moves (λ (m : ℕ) (s : Local). phase_paced (tally w l) s.rounds s.phase) w.seat (begin w i call).seat i h.paced (λ m e. begin_stays w i m call e) (subst (λ (s : Local). phase_paced (tally w l) s.rounds s.phase) (sym (begin_begins w i call)) (first_paced (tally w l) call (begun_post (w.seat i).post))) k;
  links = origins_begin (good_link (begin w i call) l) w i call z next b r d (record { tracked = λ k x t. begun_links w i call l z b r h k x (k == i) refl t });
}

pub rounds_start : RoundsStart
rounds_start layout z v q = record { paced = λ k. tt; links = origins_start (good_link (start layout) (first_line layout)) layout z q }

record Few (t : Tally) (most : ℕ) : Type 0 where
  passes : t.passes ≤ 2 * most
  takes : t.takes ≤ 2 * most

tail_row : (w : World) (i : ℕ) (v : View) (l : Line) (z : Asking) → RoundsNeeds w i v l z → l.lined (w.mem Tail - 1) ≡ true
tail_row w i v l z n = let s = n.both.queue.line.some in n.both.queue.line.lined (w.mem Tail - 1) (n.both.queue.line.reached (w.mem Tail - 1) (omega (arith, s)))

queue_few : (w : World) (i : ℕ) (v : View) (l : Line) (z : Asking) → RoundsNeeds w i v l z → Few (tally w l) w.layout.config.last_version
queue_few w i v l z n =
    let a = n.items.rows.within (w.mem Tail - 1) (tail_row w i v l z n) in
    let c = items_count w v l n.both n.items in
    let d = c.taken in let e = c.queued in
    record { passes = omega (arith, a, e); takes = omega (arith, a, d, e) }

pub once_few : (walked : Bool) → once walked ≤ 1
once_few true = omega arith
once_few false = omega arith

paced_at : (w : World) (i : ℕ) (l : Line) (z : Asking) (phase : Phase) → Rounds w l z → (w.seat i).phase ≡ phase → phase_paced (tally w l) (w.seat i).rounds phase
paced_at w i l z phase h e = subst (λ (f : Phase). phase_paced (tally w l) (w.seat i).rounds f) e (h.paced i)

-- a row is linked behind the tail's, so the tail's number is not the last
pass_few : (w : World) (i : ℕ) (v : View) (l : Line) (z : Asking) (row link : ℕ) → RoundsNeeds w i v l z → follows_in (w.seat i).phase row link ≡ true → (w.mem Tail == row + 1) ≡ true → (tally w l).passes + 1 ≤ 2 * w.layout.config.last_version
pass_few w i v l z row link n f h =
    let x : w.mem Tail ≡ row + 1 = grind (arith, nat_tests, h) in
    let m = next_number v l w.mem (w.seat i).phase row link n.both.queue.line (n.both.queue.walks i) f x in
    let s = n.both.queue.walks i in
    let some = s.some row link f in
    let q = n.both.queue.line.links row (link - 1) (n.both.queue.line.reached row x) (s.follows row link f ∙ omega (arith, some)) in
    let a = n.items.rows.within (link - 1) (n.both.queue.line.lined (link - 1) q) in
    let o : l.number (w.mem Tail - 1) ≡ l.number row = ap (λ (k : ℕ). l.number (k - 1)) x ∙ ap (λ (k : ℕ). l.number k) (omega arith) in
    let e = (items_count w v l n.both n.items).queued in
    omega (arith, m, a, o, e)

walk_few : (w : World) (i : ℕ) (v : View) (l : Line) (z : Asking) (task : Task) → RoundsNeeds w i v l z → fills_paced (tally w l) task ((w.seat i).rounds - 1) → has_walked task ≡ false → (w.seat i).rounds ≤ rounds_most w.layout.config task
walk_few w i v l z (Gets key) n p h = absurd (cc)
walk_few w i v l z (Changes kept) n p h =
    let a = p.lost_few in let c = n.bounded.versions (key_of kept.change % w.layout.config.buckets) in
    let o : once kept.walked ≡ 0 = rw h refl in omega (arith, a, c, o)
walk_few w i v l z (Holds key) n p h = absurd (cc)
walk_few w i v l z (Enqueues kept) n p h =
    let a = p.lost_few in let c = (queue_few w i v l z n).passes in
    let o : once kept.walked ≡ 0 = rw h refl in omega (arith, a, c, o)
walk_few w i v l z Dequeues n p h = absurd (cc)

-- a root of the queue is never null
null_never : (u : Tally) (task : Task) (lost : ℕ) (outcome : Outcome) → EndGood u task lost (task_root u.buckets task) outcome → outcome ≡ Ends (Protected protect_ends.Null) → is_queue task ≡ true → false ≡ true
null_never u task lost outcome g e q = never_null u task lost q (subst (λ (o : Outcome). EndGood u task lost (task_root u.buckets task) o) e g)

roots_few : (w : World) (i : ℕ) (v : View) (l : Line) (z : Asking) → RoundsNeeds w i v l z → Rounds w l z → (task : Task) (base : Base) → (w.seat i).phase ≡ Runs (Opens task) base → is_queue task ≡ true → (machine.after base (counted (w.seat i).post) (finds w i)).outcome ≡ Ends (Protected protect_ends.Null) → false ≡ true
roots_few w i v l z n h task (Protect Alone index root m at) e q o =
    let u : Tally = tally (step w i) (line_after w i l) in
    let lost : ℕ = lost_after at (finds w i) (lost_by (w.seat i).rounds (is_told (Protect Alone index root m at))) in
    let g = (own_opened w i u task index root m at (step_is w i v l z n h (Opens task) (Protect Alone index root m at) e)).good in
    null_never u task lost (machine.after (Protect Alone index root m at) (counted (w.seat i).post) (finds w i)).outcome g o q
roots_few w i v l z n h task (Protect Follows index root m at) e q o = let s = step_is w i v l z n h (Opens task) (Protect Follows index root m at) e in follows_alone s.run.shape.aimed
roots_few w i v l z n h task (Begin LoadLower) e q o = absurd (cc)
roots_few w i v l z n h task (Begin (PublishSpan era)) e q o = absurd (cc)
roots_few w i v l z n h task (Reload parent index slot era m) e q o = let s = (step_is w i v l z n h (Opens task) (Reload parent index slot era m) e).run.suited in cc
roots_few w i v l z n h task (Clear rows index) e q o = let s = (step_is w i v l z n h (Opens task) (Clear rows index) e).run.suited in cc
roots_few w i v l z n h task Finish e q o = let s = (step_is w i v l z n h (Opens task) Finish e).run.suited in cc
roots_few w i v l z n h task (Release index) e q o = let s = (step_is w i v l z n h (Opens task) (Release index) e).run.suited in cc
roots_few w i v l z n h task (Allocate at) e q o = let s = (step_is w i v l z n h (Opens task) (Allocate at) e).run.suited in cc
roots_few w i v l z n h task (Write slot row place) e q o = let s = (step_is w i v l z n h (Opens task) (Write slot row place) e).run.suited in cc
roots_few w i v l z n h task (GiveUp slot) e q o = let s = (step_is w i v l z n h (Opens task) (GiveUp slot) e).run.suited in cc
roots_few w i v l z n h task (Retire at) e q o = let s = (step_is w i v l z n h (Opens task) (Retire at) e).run.suited in cc
roots_few w i v l z n h task (Move at) e q o = let s = (step_is w i v l z n h (Opens task) (Move at) e).run.suited in cc

-- where rows are published each attempt that fails has seen another link
most_few : (w : World) (i : ℕ) (v : View) (l : Line) (z : Asking) (task : Task) → RoundsNeeds w i v l z → publishes_rows w.layout.config.scheme ≡ true → task_most (tally w l) task ≤ rounds_most w.layout.config task
most_few w i v l z (Gets key) n r = let c = n.bounded.versions (key % w.layout.config.buckets) in rw r (omega (arith, c))
most_few w i v l z (Changes kept) n r = let c = n.bounded.versions (key_of kept.change % w.layout.config.buckets) in let o = once_few kept.walked in omega (arith, c, o)
most_few w i v l z (Holds key) n r = let c = n.bounded.versions (key % w.layout.config.buckets) in rw r (omega (arith, c))
most_few w i v l z (Enqueues kept) n r = let c = (queue_few w i v l z n).passes in let o = once_few kept.walked in omega (arith, c, o)
most_few w i v l z Dequeues n r = let c = (queue_few w i v l z n).takes in omega (arith, c)

root_moved : (w : World) (i : ℕ) (l : Line) (task : Task) (root : Root) (link : ℕ) → root ≡ task_root w.layout.config.buckets task → finds w i ≡ w.mem (link_place root) → (finds w i == link) ≡ false → root_test (tally w l) task link ≡ false
root_moved w i l (Gets key) root link r f d = let q : finds w i ≡ w.mem (link_place (roots.Bucket (key % w.layout.config.buckets))) = subst (λ (p : Root). finds w i ≡ w.mem (link_place p)) r f in subst (λ (x : ℕ). (x == link) ≡ false) q d
root_moved w i l (Changes kept) root link r f d = let q : finds w i ≡ w.mem (link_place (roots.Bucket (key_of kept.change % w.layout.config.buckets))) = subst (λ (p : Root). finds w i ≡ w.mem (link_place p)) r f in subst (λ (x : ℕ). (x == link) ≡ false) q d
root_moved w i l (Holds key) root link r f d = let q : finds w i ≡ w.mem (link_place (roots.Bucket (key % w.layout.config.buckets))) = subst (λ (p : Root). finds w i ≡ w.mem (link_place p)) r f in subst (λ (x : ℕ). (x == link) ≡ false) q d
root_moved w i l (Enqueues kept) root link r f d = let q : finds w i ≡ w.mem (link_place roots.Tail) = subst (λ (p : Root). finds w i ≡ w.mem (link_place p)) r f in subst (λ (x : ℕ). (x == link) ≡ false) q d
root_moved w i l Dequeues root link r f d = let q : finds w i ≡ w.mem (link_place roots.Head) = subst (λ (p : Root). finds w i ≡ w.mem (link_place p)) r f in subst (λ (x : ℕ). (x == link) ≡ false) q d

pub rounds_give : RoundsGive
rounds_give w i v l z n h = record {
  changes = λ kept slot e d.
      let p = paced_at w i l z (Works (Changing kept (ExchangeRoot slot))) h e in
      let b : ℕ = key_of kept.change % w.layout.config.buckets in
      let f : finds w i ≡ w.mem (Bucket b) = finds_at w i (Works (Changing kept (ExchangeRoot slot))) e ∙ ap (λ (k : ℕ). w.mem (Bucket k)) (own_bucket w i kept n.origins.seats) in
      let c = n.bounded.versions b in let o = once_few kept.walked in
      lost_now (w.seat i).rounds ((tally w l).count b + once kept.walked) (rounds_most w.layout.config (Changes kept)) (w.mem (Bucket b) == kept.link) (rw (← f) d) p (omega (arith, c, o));
  passes = λ kept next e.
      let p = paced_at w i l z (Works (Enqueuing kept (PassTail next))) h e in
      let c = (queue_few w i v l z n).passes in let o = once_few kept.walked in
      let f : follows_in (w.seat i).phase kept.tail next ≡ true = rw e (same_both kept.tail next) in
      let x = swung (tally w l) (tally w l) kept.tail ((w.seat i).rounds - 1) ((tally w l).passes + once kept.walked) (2 * w.layout.config.last_version + 1) p
      (λ g. let y = pass_few w i v l z kept.tail next n f g in omega (arith, y, o)) (omega (arith, c, o)) in
      omega (arith, x);
  enqueues = λ kept slot e d.
      let p = paced_at w i l z (Works (Enqueuing kept (ExchangeNext slot))) h e in
      let c = (queue_few w i v l z n).passes in let o = once_few kept.walked in
      let f : finds w i ≡ w.mem (Row kept.tail 0) = finds_at w i (Works (Enqueuing kept (ExchangeNext slot))) e in
      lost_now (w.seat i).rounds ((tally w l).passes + once kept.walked) (rounds_most w.layout.config (Enqueues kept)) (w.mem (Row kept.tail 0) == 0) (rw (← f) d) p (omega (arith, c, o));
  reloads = λ head tail parent index slot era steps e d.
      let p = paced_at w i l z (Runs (FollowsHead head tail) (Reload parent index slot era steps)) h e in
      let c = (queue_few w i v l z n).takes in
      let f : finds w i ≡ w.mem Head = finds_at w i (Runs (FollowsHead head tail) (Reload parent index slot era steps)) e in
      let r : Run w.layout (FollowsHead head tail) (Reload parent index slot era steps) (w.seat i).post = subst (λ (q : Phase). PhaseFits w.layout (w.seat i).post q) e (n.origins.seats.fits i).phase in
      let k : parent ≡ head = r.shape.of in
      lost_now (w.seat i).rounds (tally w l).takes (rounds_most w.layout.config Dequeues) (w.mem Head == head + 1) (rw (← k, ← f) d) p.0 (omega (arith, c));
  swings = λ head next e.
      let p = paced_at w i l z (Works (Dequeuing (SwingTail head next))) h e in
      let c = (queue_few w i v l z n).takes in let a = p.lost_few in omega (arith, a, c);
  dequeues = λ head next number value e d.
      let p = paced_at w i l z (Works (Dequeuing (ExchangeHead head next number value))) h e in
      let c = (queue_few w i v l z n).takes in
      let f : finds w i ≡ w.mem Head = finds_at w i (Works (Dequeuing (ExchangeHead head next number value))) e in
      lost_now (w.seat i).rounds (tally w l).takes (rounds_most w.layout.config Dequeues) (w.mem Head == head + 1) (rw (← f) d) p (omega (arith, c));
  walks = λ task birth walk e m. walk_few w i v l z task n (paced_at w i l z (Runs (Fills task) (Allocate (ClaimSlot birth walk))) h e) m;
  hazards = λ task aim index root steps link e d.
      let base : Base = Protect aim index root steps (ByHazard (CheckLink link)) in
      let p = paced_at w i l z (Runs (Opens task) base) h e in
      let r : Run w.layout (Opens task) base (w.seat i).post = subst (λ (q : Phase). PhaseFits w.layout (w.seat i).post q) e (n.origins.seats.fits i).phase in
      lost_now (w.seat i).rounds (task_most (tally w l) task) (rounds_most w.layout.config task) (root_test (tally w l) task link) (root_moved w i l task root link r.shape.of (finds_at w i (Runs (Opens task) base) e) d) p (most_few w i v l z task n r.fits);
  roots = λ task base e q o. roots_few w i v l z n h task base e q o;
}
