-- A step changes one word and one seat. Where a machine has ended, and at the call's own steps, the phase that comes next
-- is one of a few: so a property of one seat is carried over a step by what it says inside the machines, and of those.
use Rattle.std.proofs.Common.{ℕ, ◌≡◌, Bool, true, false, List, refl, arith, ap}
use Rattle.std.proofs.lemmas.Bool.Decides.{nat_tests}
use Rattle.std.specs.Prelude.{◌==◌, ◌-◌}
use Rattle.wfe_core.specs.words.Place.{Place, same}
use Rattle.wfe_core.specs.words.Place.Place.{Index}
use Rattle.wfe_core.proofs.words.Places.{same_self}
use Rattle.wfe_core.specs.Memory.{Move, Load, Store, Cas, Or, And, place_in, change, found, written}
use Rattle.wfe_core.specs.declared.post.Post.{Post}
use Rattle.wfe_core.specs.Desks.{Desk, noting}
use Rattle.wfe_core.specs.Phases.{Aim, Alone, Follows, Outcome, Goes, Ends, Turn, BeginAt, HazardAt, ProtectAt, MoveAt, Base, goes, ends}
use Rattle.wfe_core.specs.Phases.Ending.{Followed}
use Rattle.wfe_core.specs.declared.ends.FollowEnd.TheVariants as follow_ends
use Rattle.wfe_core.specs.Protect.{concluded}
use Rattle.wfe_core.specs.Links.{parent_of}
use Rattle.wfe_core.proofs.Facts.{if_by}
use Rattle.wfe_core.specs.Phases.BeginAt.{LoadLower, PublishSpan}
use Rattle.wfe_core.specs.Phases.ProtectAt.{LoadClock, ByHazard}
use Rattle.wfe_core.specs.Phases.HazardAt.{FirstLink}
use Rattle.wfe_core.specs.Phases.MoveAt.{LoadEra}
use Rattle.wfe_core.specs.Phases.Base.{Begin, Protect, Reload, Clear, Finish, Release, Allocate, Write, GiveUp, Retire, Move as MoveBase}
use Rattle.wfe_core.specs.Machine.{begin_move, hazard_move, protect_move, move_move, base_move}
use Rattle.wfe_core.specs.Scan.{scan_move}
use Rattle.wfe_core.specs.Change.{change_move}
use Rattle.wfe_core.specs.Keep.{keep_move}
use Rattle.wfe_core.specs.Machine as machine
use Rattle.wfe_core.specs.Posts.{counted, shown_word}
use Rattle.wfe_core.specs.Calls.{ChangeKept, ChangeAt, LoadVersion, ScanAt, ReadGuard, GiveBack, KeepAt, Loosens, StoreHeld, Work, Getting, Changing, Enqueuing, Dequeuing, Keeping, Why, Phase, Idle, Runs, Scans, Works, CallTurn, CallOutcome, GoesOn, Answers}
use Rattle.wfe_core.specs.Steps.{resumed, run_turn, work_move, phase_move, phase_turn}
use Rattle.wfe_core.specs.Locals.{Local, move, turn, after, settled_by, settled, told_by, rounds_told, begun_post, begun}
use Rattle.wfe_core.specs.Rounds.{scheme_of}
use Rattle.wfe_core.specs.World.{World, step, begin, finds, offered}
use Rattle.wfe_core.specs.words.Schemes.{publishes_rows}
use Rattle.wfe_core.specs.defs.declared.call.Call.{Call}
use Rattle.wfe_core.specs.defs.declared.event.Event.{Event}
use Rattle.wfe_core.specs.defs.declared.event.Root.{Root}
use Rattle.inv_rows.specs.Shapes.Frame.{phase_left, Left, Grows, Seated, Passed, Moves, Onward, StepsOn, Owes}
use Rattle.inv_rows.proofs.Shapes.Works.{work_left, scan_left, resume_left, first_grows}

-- another seat stays
pub seat_stays : (w : World) (i k : ℕ) → (k == i) ≡ false → (step w i).seat k ≡ w.seat k
seat_stays w i k e = rw e refl

-- the seat that steps, with the list that it may take over
pub seat_steps : (w : World) (i : ℕ) → (step w i).seat i ≡ after (offered w i) (finds w i)
seat_steps w i = let e : (i == i) ≡ true = grind (arith, nat_tests) in rw e refl

-- what a seat finds, by its phase
pub finds_at : (w : World) (i : ℕ) (phase : Phase) → (w.seat i).phase ≡ phase → finds w i ≡ found (phase_move phase (w.seat i).post) (w.mem (place_in (phase_move phase (w.seat i).post)))
finds_at w i phase e = ap (λ (p : Phase). found (phase_move p (w.seat i).post) (w.mem (place_in (phase_move p (w.seat i).post)))) e

pub settled_phase : (l : Local) (post : Post) (desk : Desk) (rounds : ℕ) (outcome : CallOutcome) → (settled_by l post desk rounds outcome).phase ≡ phase_left outcome
settled_phase l post desk rounds (GoesOn phase) = refl
settled_phase l post desk rounds (Answers answer) = refl

-- a conclusion goes on or ends with the post and the events that it is given
pub concluded_post : (aim : Aim) (index : ℕ) (root : Root) (n link era : ℕ) (post : Post) (told : List Event) → (concluded aim index root n link era post told).post ≡ post
concluded_post Alone index root n link era post told = refl
concluded_post Follows index root n link era post told =
    if_by (link == 0) (ends post told (Followed follow_ends.NoNext)) (goes post told (Reload (parent_of root) index (link - 1) era n)) (λ (t : Turn). t.post ≡ post) (λ e. refl) (λ e. refl)

pub concluded_told : (aim : Aim) (index : ℕ) (root : Root) (n link era : ℕ) (post : Post) (told : List Event) → (concluded aim index root n link era post told).told ≡ told
concluded_told Alone index root n link era post told = refl
concluded_told Follows index root n link era post told =
    if_by (link == 0) (ends post told (Followed follow_ends.NoNext)) (goes post told (Reload (parent_of root) index (link - 1) era n)) (λ (t : Turn). t.told ≡ told) (λ e. refl) (λ e. refl)

-- another place keeps its word
pub written_other : (mem : Place → ℕ) (m : Move) (p : Place) → same p (place_in m) ≡ false → written mem m p ≡ mem p
written_other mem (Load place) p e = refl
written_other mem (Store place value) p e = rw e refl
written_other mem (Cas place old new) p e = rw e refl
written_other mem (Or place bits) p e = rw e refl
written_other mem (And place bits) p e = rw e refl

-- the operation's word
pub written_own : (mem : Place → ℕ) (m : Move) → written mem m (place_in m) ≡ change m (mem (place_in m))
written_own mem (Load place) = refl
written_own mem (Store place value) = rw (same_self place) refl
written_own mem (Cas place old new) = rw (same_self place) refl
written_own mem (Or place bits) = rw (same_self place) refl
written_own mem (And place bits) = rw (same_self place) refl

pub word_steps : (w : World) (i : ℕ) → (step w i).mem (place_in (move (w.seat i))) ≡ change (move (w.seat i)) (w.mem (place_in (move (w.seat i))))
word_steps w i = written_own w.mem (move (w.seat i))

-- no call begins or ends elsewhere
pub begin_stays : (w : World) (i k : ℕ) (call : Call) → (k == i) ≡ false → (begin w i call).seat k ≡ w.seat k
begin_stays w i k call e = rw e refl

pub begin_begins : (w : World) (i : ℕ) (call : Call) → (begin w i call).seat i ≡ begun (w.seat i) call
begin_begins w i call = let e : (i == i) ≡ true = grind (arith, nat_tests) in rw e refl

settled_by_seated : {Q : Post → Type 0} {P : Post → Phase → Type 0} (l : Local) (post : Post) (desk : Desk) (rounds : ℕ) (outcome : CallOutcome) → Q post → P post (phase_left outcome) → Seated Q P (settled_by l post desk rounds outcome)
settled_by_seated l post desk rounds (GoesOn phase) q p = record { post = q; phase = p }
settled_by_seated l post desk rounds (Answers answer) q p = record { post = q; phase = p }

pub settled_seated : {Q : Post → Type 0} {P : Post → Phase → Type 0} (l : Local) (t : CallTurn) → Left Q P t → Seated Q P (settled l t)
settled_seated l t h = settled_by_seated l t.post (noting t.desk (told_by t)) (rounds_told (publishes_rows (scheme_of t.post)) l.rounds (told_by t)) t.outcome h.post h.phase

resumed_left : {Q : Post → Type 0} {P : Post → Phase → Type 0} (g : Grows Q P) (why : Why) (desk : Desk) (post : Post) (told : List Event) (outcome : Outcome) → Q post → Passed P why post outcome → Left Q P (resumed why desk post told outcome)
resumed_left g why desk post told (Goes base) q p = record { post = q; phase = p }
resumed_left g why desk post told (Ends ending) q p = resume_left g why ending post desk told p q

-- a machine has made a step
pub run_left : {Q : Post → Type 0} {P : Post → Phase → Type 0} (g : Grows Q P) (why : Why) (desk : Desk) (t : Turn) → Moves Q P why t → Left Q P (run_turn why desk t)
run_left g why desk t h = resumed_left g why desk t.post t.told t.outcome h.post h.phase

phase_turn_left : {Q : Post → Type 0} {P : Post → Phase → Type 0} (g : Grows Q P) (phase : Phase) (post : Post) (desk : Desk) (found : ℕ) → Owes Q P post found phase → Left Q P (phase_turn phase post desk found)
phase_turn_left g Idle post desk found h = record { post = h; phase = g.idle post h }
phase_turn_left g (Runs why base) post desk found h = run_left g why desk (machine.after base post found) h
phase_turn_left g (Scans later at) post desk found h = scan_left g later at post desk found h
phase_turn_left g (Works work) post desk found h = work_left g work post desk found h.fits h.stores h.post

-- one step of a seat
pub after_seated : {Q : Post → Type 0} {P : Post → Phase → Type 0} (g : Grows Q P) (l : Local) (found : ℕ) → Owes Q P (counted l.post) found l.phase → Seated Q P (after l found)
after_seated g l found h = settled_seated l (turn l found) (phase_turn_left g l.phase (counted l.post) l.desk found h)

-- a call begins
pub begun_seated : {Q : Post → Type 0} {P : Post → Phase → Type 0} (g : Grows Q P) (l : Local) (call : Call) → Q (begun_post l.post) → Seated Q P (begun l call)
begun_seated g l call q = record { post = q; phase = first_grows g call (begun_post l.post) q }

-- a property of a machine's steps, where another has shown what comes after the machine
ends_with : (P R : Post → Phase → Type 0) (why : Why) (post : Post) (outcome : Outcome) → Passed P why post outcome → Onward R why post outcome → Passed R why post outcome
ends_with P R why post (Goes base) p r = r
ends_with P R why post (Ends ending) p r = p

pub moves_with : {Q S : Post → Type 0} {P R : Post → Phase → Type 0} (why : Why) (t : Turn) → Moves Q P why t → StepsOn S R why t → Moves S R why t
moves_with {P = P} {R = R} why t h g = record { post = g.post; phase = ends_with P R why t.post t.outcome h.phase g.phase }

-- counting a step changes no operation
begin_counted : (at : BeginAt) (post : Post) → begin_move at (counted post) ≡ begin_move at post
begin_counted LoadLower post = refl
begin_counted (PublishSpan era) post = refl

hazard_counted : (index : ℕ) (root : Root) (at : HazardAt) (post : Post) → hazard_move index root at (counted post) ≡ hazard_move index root at post
hazard_counted index root FirstLink post = refl
hazard_counted index root at post = refl

protect_counted : (index : ℕ) (root : Root) (at : ProtectAt) (post : Post) → protect_move index root at (counted post) ≡ protect_move index root at post
protect_counted index root (LoadClock tries) post = refl
protect_counted index root (ByHazard at) post = hazard_counted index root at post
protect_counted index root at post = refl

move_at_counted : (at : MoveAt) (post : Post) → move_move at (counted post) ≡ move_move at post
move_at_counted (LoadEra helps) post = refl
move_at_counted at post = refl

shown_counted : (rows : Bool) (index number : ℕ) (post : Post) → shown_word rows (counted post) index number ≡ shown_word rows post index number
shown_counted true index number post = refl
shown_counted false index number post = refl

base_counted : (base : Base) (post : Post) → base_move base (counted post) ≡ base_move base post
base_counted (Begin at) post = begin_counted at post
base_counted (Protect aim index root steps at) post = protect_counted index root at post
base_counted (Reload parent index slot era steps) post = refl
base_counted (Clear rows index) post = ap (λ (word : ℕ). Store (Index post.seat index) word) (shown_counted rows index 0 post)
base_counted Finish post = refl
base_counted (Release index) post = refl
base_counted (Allocate at) post = refl
base_counted (Write slot row place) post = refl
base_counted (GiveUp slot) post = refl
base_counted (Retire at) post = refl
base_counted (MoveBase at) post = move_at_counted at post

scan_counted : (at : ScanAt) (post : Post) → scan_move at (counted post) ≡ scan_move at post
scan_counted (ReadGuard number) post = refl
scan_counted (GiveBack place slot) post = refl

change_counted : (kept : ChangeKept) (at : ChangeAt) (post : Post) → change_move kept at (counted post) ≡ change_move kept at post
change_counted kept (LoadVersion slot) post = refl
change_counted kept at post = refl

keep_counted : (at : KeepAt) (post : Post) → keep_move at (counted post) ≡ keep_move at post
keep_counted (Loosens let_go) post = refl
keep_counted (StoreHeld from index number) post = ap (λ (word : ℕ). Store (Index post.seat index) word) (shown_counted (publishes_rows (scheme_of post)) index number post)
keep_counted at post = refl

work_counted : (work : Work) (post : Post) → work_move work (counted post) ≡ work_move work post
work_counted (Getting key at) post = refl
work_counted (Changing kept at) post = change_counted kept at post
work_counted (Enqueuing kept at) post = refl
work_counted (Dequeuing at) post = refl
work_counted (Keeping at) post = keep_counted at post

pub move_counted : (phase : Phase) (post : Post) → phase_move phase (counted post) ≡ phase_move phase post
move_counted Idle post = refl
move_counted (Runs why base) post = base_counted base post
move_counted (Scans later at) post = scan_counted at post
move_counted (Works work) post = work_counted work post

-- what a seat finds, by the post that has counted the step
pub finds_counted : (w : World) (i : ℕ) → found (phase_move (w.seat i).phase (counted (w.seat i).post)) (w.mem (place_in (phase_move (w.seat i).phase (counted (w.seat i).post)))) ≡ finds w i
finds_counted w i = ap (λ (m : Move). found m (w.mem (place_in m))) (move_counted (w.seat i).phase (w.seat i).post)
