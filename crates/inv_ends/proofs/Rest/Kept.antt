-- The steps that a call has left fall at its own steps, and rise at no other.
use Rattle.std.proofs.Common.{ℕ, ◌≡◌, ◌≤◌, ◌+◌, true, [], arith, refl, sym, ap, subst}
use Rattle.inv_rows.specs.Shapes.Frame.{phase_left as stands_at, Left, bared}
use Rattle.inv_rows.specs.model.Steps as steps
use Rattle.inv_rows.specs.model.Scan as scan
use Rattle.inv_rows.specs.words.Place.{is_valid}
use Rattle.inv_rows.specs.words.Place.Place.{Clock}
use Rattle.inv_rows.proofs.Shapes.Works.{work_left as work_grows, scan_left}
use Rattle.inv_rows.specs.model.Calls.{CallOutcome, CallTurn, Phase, Why, Work}
use Rattle.inv_rows.specs.model.Calls.CallOutcome.{Answers, GoesOn}
use Rattle.inv_rows.specs.model.Calls.Phase.{Idle, Runs, Scans, Works}
use Rattle.inv_rows.specs.model.Desks.{Desk}
use Rattle.inv_rows.specs.model.Locals.{Local, busy_in, settled, turn}
use Rattle.inv_rows.specs.model.Calls.Why.{FollowsHead}
use Rattle.inv_rows.specs.model.Phases.{Base}
use Rattle.inv_rows.specs.model.Phases.Base.{Protect}
use Rattle.inv_rows.specs.model.Phases.HazardAt.{CheckLink, FirstLink, PublishLink}
use Rattle.inv_rows.specs.model.Phases.ProtectAt.{ByHazard}
use Rattle.inv_rows.specs.model.Rounds.{scheme_of}
use Rattle.inv_rows.specs.words.Schemes.{publishes_rows}
use Rattle.inv_rows.specs.model.Posts.{counted}
use Rattle.inv_rows.specs.model.Rest.{eras_left, phase_left, phase_seen, rest, rest_of, span_seen, work_left}
use Rattle.inv_rows.specs.model.World.{World, finds, offered, step}
use Rattle.inv_rows.specs.model.declared.post.Post.{Post}
use Rattle.inv_rows.specs.defs.declared.event.Event.{Event}
use Rattle.inv_rows.specs.defs.declared.lifetime.Interval.{Interval}
use Rattle.inv_rows.proofs.Shapes.Decode.{clock_next}
use Rattle.inv_rows.proofs.Shapes.Frame.{seat_steps}
use Rattle.inv_rows.proofs.Shapes.Kept.{counted_fits, run_counted, work_counted, bared_fits, seats_step}
use Rattle.inv_rows.specs.Shapes.Eras.{PhaseEras, SpanIn}
use Rattle.inv_rows.specs.Shapes.Seats.{PhaseFits, Seats, scan_fits}
use Rattle.inv_rows.specs.Shapes.Slots.{BaseIn, PhaseIn, WorkIn, phase_finds, scan_lists}
use Rattle.inv_rows.proofs.Covering.Requests.Falling.{moves_on}
use Rattle.inv_ends.proofs.Rest.Amounts.{PhaseKnown, known_of}
use Rattle.inv_ends.proofs.Rest.Closes.{run_lowers}
use Rattle.inv_ends.proofs.Rest.Closings.{rounds_join, turn_left}
use Rattle.inv_ends.proofs.Rest.Falling.{Seat, base_linked, follow_agrees, span_within}
use Rattle.inv_ends.proofs.Rest.Machines.{seen_rises}
use Rattle.inv_ends.proofs.Rest.Runs.{total_is, turn_total}
use Rattle.inv_ends.proofs.Rest.Scans.{scan_falls}
use Rattle.inv_ends.proofs.Rest.Seen.{PostIs, ShowsSame, seen_grows, stores_same}
use Rattle.inv_ends.proofs.Rest.Works.{work_falls}
use Rattle.inv_ends.specs.Falls.{RestFalls, RestNeeds}
use Rattle.inv_ends.specs.Losses.{later_fit, phase_fit, work_fit}
use Rattle.inv_rows.specs.words.declared.config.Config.{Config}
use Rattle.inv_rows.specs.words.declared.layout.Layout.{Layout}
use Rattle.std.specs.Prelude.{List, length, Option}
use Rattle.inv_rows.proofs.Covering.Held.{stepped_phase, stepped_post}
use Rattle.inv_rows.specs.model.Calls.Work.{Keeping}
use Rattle.inv_rows.specs.model.Calls.KeepAt.{HideSpan}
use Rattle.inv_ends.proofs.Rest.Small.{few_of}

-- what a turn leaves, as the seat stands after it
settled_rest : (c : Config) (next : ℕ) (l : Local) (post : Post) (desk : Desk) (told : List Event) (outcome : CallOutcome) → publishes_rows (scheme_of post) ≡ publishes_rows c.scheme → busy_in (settled l (record { post = post; desk = desk; told = told; outcome = outcome })).phase ≡ true
    → rest_of c next (settled l (record { post = post; desk = desk; told = told; outcome = outcome })) ≡ turn_total c next l.rounds (record { post = post; desk = desk; told = told; outcome = outcome })
settled_rest c next l post desk told (GoesOn phase) t b = rw (t, rounds_join (publishes_rows c.scheme) l.rounds told []) refl
settled_rest c next l post desk told (Answers answer) t b = absurd (cc)

-- a scan's step and a call's own step
still_total : (c : Config) (layout : Layout) (k clock next rounds : ℕ) (span : Option Interval) (t : CallTurn) (most : ℕ) → clock ≤ next → Left (PostIs layout k span) ShowsSame t → turn_left c rounds t + 1 ≤ most → turn_total c next rounds t + 1 ≤ most + eras_left c (span_seen clock span)
still_total c layout k clock next rounds span t most r l h =
    let s = seen_rises clock next span r in
    rw (total_is c layout k next rounds span t l) (omega (arith, s, h))

pub linked_of : (layout : Layout) (base : Base) → BaseIn layout base → base_linked base
linked_of layout (Protect aim index root steps (ByHazard FirstLink)) b = tt
linked_of layout (Protect aim index root steps (ByHazard (PublishLink link))) b = b.at_in.0
linked_of layout (Protect aim index root steps (ByHazard (CheckLink link))) b = b.at_in.0
linked_of layout (Protect aim index root steps at) b = tt
linked_of layout base b = tt

agrees_of : (w : World) (i : ℕ) → RestNeeds w i → (why : Why) (base : Base) → (w.seat i).phase ≡ Runs why base → follow_agrees why base (finds w i)
agrees_of w i n (FollowsHead head tail) (Protect aim index root steps (ByHazard FirstLink)) e = refl
agrees_of w i n (FollowsHead head tail) (Protect aim index root steps (ByHazard (PublishLink link))) e = refl
agrees_of w i n (FollowsHead head tail) (Protect aim index root steps (ByHazard (CheckLink link))) e = n.follows head tail aim index root steps link e
agrees_of w i n (FollowsHead head tail) (Protect aim index root steps at) e = refl
agrees_of w i n why base e = tt

pub seat_of : (w : World) (i : ℕ) → is_valid w.layout ≡ true → RestNeeds w i → (why : Why) (base : Base) → (w.seat i).phase ≡ Runs why base → Seat w i why base
seat_of w i v n why base e =
    let f = n.seats.fits i in
    let s = n.eras.seats i in
    record {
      at = e;
      fits = counted_fits w.layout i (w.seat i).post f.post;
      run = run_counted w.layout why base (w.seat i).post (subst (λ (p : Phase). PhaseFits w.layout (w.seat i).post p) e f.phase);
      inside = (subst (λ (p : Phase). PhaseIn w.layout (w.seat i).desk p) e (n.slots.seats i).phase).0;
      eras = subst (λ (p : Phase). PhaseEras w.layout (w.mem Clock) (w.seat i).post p) e s.phase;
      span = s.post.span;
      none = n.losses.spans i;
      lost = subst (λ (p : Phase). phase_fit w.layout.config (w.seat i).rounds p) e (n.losses.few i);
      rises = (clock_next w i n.eras).rises;
      most = n.eras_next.most;
      moves = moves_on w i v n.seats;
      linked = linked_of w.layout base (subst (λ (p : Phase). PhaseIn w.layout (w.seat i).desk p) e (n.slots.seats i).phase).1;
      agrees = agrees_of w i n why base e;
    }

pub post_is : (w : World) (i : ℕ) → Seats w → PostIs w.layout i (w.seat i).post.span (counted (w.seat i).post)
post_is w i s = record { fits = counted_fits w.layout i (w.seat i).post (s.fits i).post; same = refl }

-- without its interval a seat has seen no lesser era
bared_sees : (clock : ℕ) (work : Work) (post : Post) → SpanIn clock post.span → span_seen clock post.span ≤ span_seen clock (bared work post).span
bared_sees clock (Keeping HideSpan) post s = span_within clock post.span s
bared_sees clock work post s = omega arith

lowers_at : (w : World) (i : ℕ) → is_valid w.layout ≡ true → RestNeeds w i → (phase : Phase) → (w.seat i).phase ≡ phase → PhaseKnown w.layout (stands_at (steps.phase_turn phase (counted (w.seat i).post) (offered w i).desk (finds w i)).outcome)
    → busy_in phase ≡ true
    → turn_total w.layout.config ((step w i).mem Clock) (w.seat i).rounds (steps.phase_turn phase (counted (w.seat i).post) (offered w i).desk (finds w i)) + 1
    ≤ phase_left w.layout.config (w.seat i).rounds (w.seat i).desk.list phase + eras_left w.layout.config (phase_seen phase (span_seen (w.mem Clock) (w.seat i).post.span))
lowers_at w i v n Idle e p b = absurd (cc)
lowers_at w i v n (Runs why base) e p b = run_lowers w i v why base (seat_of w i v n why base e) p
lowers_at w i v n (Scans later at) e p b =
    let g = seen_grows w.layout i (w.seat i).post.span v in
    let f : scan_fits w.layout.config at ≡ true = subst (λ (q : Phase). PhaseFits w.layout (w.seat i).post q) e (n.seats.fits i).phase in
    let l : later_fit w.layout.config (w.seat i).rounds later = subst (λ (q : Phase). phase_fit w.layout.config (w.seat i).rounds q) e (n.losses.few i) in
    let s : scan_lists w.layout.config (offered w i).desk at = subst (λ (q : Phase). phase_finds w.layout.config (offered w i).desk q (finds w i)) e n.lists in
    let h = scan_falls w.layout.config (w.seat i).rounds later at (counted (w.seat i).post) (offered w i).desk (finds w i) l f s in
    still_total w.layout.config w.layout i (w.mem Clock) ((step w i).mem Clock) (w.seat i).rounds (w.seat i).post.span (scan.scan_turn later at (counted (w.seat i).post) (offered w i).desk (finds w i)) (phase_left w.layout.config (w.seat i).rounds (w.seat i).desk.list (Scans later at)) ((clock_next w i n.eras).rises) (scan_left g later at (counted (w.seat i).post) (offered w i).desk (finds w i) (post_is w i n.seats)) h
lowers_at w i v n (Works work) e p b =
    let c : Config = w.layout.config in
    let post : Post = counted (w.seat i).post in
    let span : Option Interval = (bared work post).span in
    let t : CallTurn = steps.work_turn work post (offered w i).desk (finds w i) in
    let left : ℕ = work_left c (length (w.seat i).desk.list) (w.seat i).rounds work in
    let f = work_counted work (w.seat i).post (subst (λ (q : Phase). PhaseFits w.layout (w.seat i).post q) e (n.seats.fits i).phase) in
    let l : work_fit c (w.seat i).rounds work = subst (λ (q : Phase). phase_fit c (w.seat i).rounds q) e (n.losses.few i) in
    let s : WorkIn c work = subst (λ (q : Phase). PhaseIn w.layout (w.seat i).desk q) e (n.slots.seats i).phase in
    let h = work_falls c w.layout (w.seat i).rounds work post (offered w i).desk (finds w i) refl (few_of w.layout v).indexes l s p in
    let q : PostIs w.layout i span (bared work post) = record { fits = bared_fits w.layout i work post (counted_fits w.layout i (w.seat i).post (n.seats.fits i).post); same = refl } in
    let k = still_total c w.layout i (w.mem Clock) ((step w i).mem Clock) (w.seat i).rounds span t left ((clock_next w i n.eras).rises) (work_grows (seen_grows w.layout i span v) work post (offered w i).desk (finds w i) f (stores_same post (finds w i) work) q) h in
    let m = bared_sees (w.mem Clock) work post (n.eras.seats i).post.span in
    omega (arith, k, m)

-- a seat between calls stays so
idle_stays : (w : World) (i : ℕ) (phase : Phase) → (w.seat i).phase ≡ phase → busy_in (stands_at (steps.phase_turn phase (counted (w.seat i).post) (offered w i).desk (finds w i)).outcome) ≡ true → busy_in phase ≡ true
idle_stays w i Idle e b = b
idle_stays w i phase e b = refl

-- a step leaves the table's layout
pub turn_rows : (w : World) (i : ℕ) → is_valid w.layout ≡ true → Seats w → publishes_rows (scheme_of (turn (offered w i) (finds w i)).post) ≡ publishes_rows w.layout.config.scheme
turn_rows w i v s = subst (λ (p : Post). publishes_rows (scheme_of p) ≡ publishes_rows w.layout.config.scheme) (stepped_post w i) (ap (λ (l : Layout). publishes_rows l.config.scheme) ((seats_step w i v s).fits i).post.layout)

pub rest_falls : RestFalls
rest_falls w i v n b =
    let l : Local = offered w i in
    let t : CallTurn = turn l (finds w i) in
    let k : PhaseKnown w.layout (stands_at t.outcome) = subst (λ (p : Phase). PhaseKnown w.layout p) (stepped_phase w i) (known_of w.layout ((step w i).seat i).desk ((step w i).seat i).phase (n.slots_next.seats i).phase) in
    let c : busy_in (stands_at t.outcome) ≡ true = subst (λ (p : Phase). busy_in p ≡ true) (stepped_phase w i) b in
    let h = lowers_at w i v n l.phase refl k (idle_stays w i l.phase refl c) in
    let d : busy_in (settled l t).phase ≡ true = subst (λ (m : Local). busy_in m.phase ≡ true) (seat_steps w i) b in
    let r = settled_rest w.layout.config ((step w i).mem Clock) l t.post t.desk t.told t.outcome (turn_rows w i v n.seats) d in
    let m : rest_of w.layout.config ((step w i).mem Clock) (settled l t) + 1 ≤ rest w i = rw r h in
    subst (λ (x : Local). rest_of w.layout.config ((step w i).mem Clock) x + 1 ≤ rest w i) (sym (seat_steps w i)) m
