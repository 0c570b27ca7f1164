-- Each step keeps all that is known of the rows and the queue.
use Rattle.std.proofs.Common.{ℕ, ◌+◌, ◌≡◌, Bool, true, false, arith, refl, ap, ◌∙◌, sym, subst}
use Rattle.std.proofs.lemmas.Bool.Decides.{nat_tests}
use Rattle.std.specs.Prelude.{◌==◌, if◌then◌else◌}
use Rattle.wfe_core.specs.declared.ends.ProtectEnd.TheVariants as protect_ends
use Rattle.wfe_core.specs.declared.post.Post.{Post}
use Rattle.wfe_core.specs.Desks.{Desk, noting}
use Rattle.wfe_core.specs.Phases.{Base, Outcome, Ends, Turn, Aim, ProtectAt}
use Rattle.wfe_core.specs.Phases.Ending.{Protected}
use Rattle.wfe_core.specs.Scan as scan
use Rattle.wfe_core.specs.Calls.{EnqueueKept, Gets, Changes, Holds, Enqueues, Dequeues, Why, Opens, FollowsHead, Fills, ClearsNext, Clears, Finishes, GivesUp, Retires, Tidies, Advances, Releases, Phase, Idle, Runs, Scans, Works, CallTurn, CallOutcome, GoesOn, Answers}
use Rattle.wfe_core.specs.words.Place.{Place}
use Rattle.wfe_core.specs.words.Place.Place.{Clock}
use Rattle.wfe_core.specs.Memory as memory
use Rattle.wfe_core.specs.Memory.{place_in, written, upd, bump}
use Rattle.wfe_core.specs.Phases.Base.{Begin, Protect, Reload, Clear, Finish, Release, Allocate, Write, GiveUp, Retire, Move}
use Rattle.wfe_core.specs.Machine as machine
use Rattle.wfe_core.specs.Machine.{base_move}
use Rattle.wfe_core.specs.Steps.{phase_move, phase_turn, first_phase}
use Rattle.inv_rows.specs.Rows.{View, made}
use Rattle.inv_rows.specs.Hands.{base_row, row_move}
use Rattle.wfe_core.specs.words.Packed.{read_request}
use Rattle.wfe_core.specs.defs.declared.event.Root.{Root}
use Rattle.wfe_core.specs.defs.declared.event.Root.TheVariants as roots
use Rattle.wfe_core.specs.Phases.BeginAt.{LoadLower, PublishSpan}
use Rattle.wfe_core.specs.Phases.ProtectAt.{LoadClock, PublishEra, LoadLink, CheckClock, PublishRequest, LoadOwnClock, PublishHelper, LoadOwnLink, CheckOwnClock, AnswerOwn, LoadAnswer, TakeAnswer, WithdrawRequest, WithdrawHelper, LoadWithin, CheckUpper, RaiseUpper, ByHazard}
use Rattle.wfe_core.specs.Phases.HazardAt.{FirstLink, PublishLink, CheckLink}
use Rattle.wfe_core.specs.Posts.{counted, upper}
use Rattle.wfe_core.specs.Links.{link_place}
use Rattle.inv_rows.specs.Queue.{Line, line_move, moved_line}
use Rattle.inv_rows.specs.Tries.{base_tries, is_alone, is_tail, is_head, opens_by, FromTail, FromHead, TriesBase, PhaseTries, Whole, WholeNeeds, WholeKept, WholeBegin, WholeStart, EraIn}
use Rattle.inv_rows.proofs.Quiet.{phase_of, scan_quiet}
use Rattle.wfe_core.specs.Locals.{Local, turn, settled, settled_by, told_by, rounds_told, begun, begun_post}
use Rattle.wfe_core.specs.World.{World, step, finds, offered}
use Rattle.inv_rows.specs.Agree.{rows_after}
use Rattle.inv_rows.specs.Chain.{Both, QueueNeeds, line_after, queue_of}
use Rattle.inv_rows.specs.Facts.{RowStays}
use Rattle.inv_rows.proofs.Queued.{queue_kept, queue_begin, queue_start, first_quiet}
use Rattle.inv_rows.proofs.Kept.{rows_begin, rows_start}
use Rattle.inv_rows.proofs.Facts.{lined_stays, queue_ends}
use Rattle.inv_rows.proofs.Tries.{TryOut, base_out, quiet_tries, others_tries, EraFits, finds_base}
use Rattle.inv_rows.proofs.Opened.{WhyOut, NewTries, resumed_tries, work_tries, by_quiet}
use Rattle.wfe_core.proofs.Facts.{rest_of, no_truth}
use Rattle.wfe_core.specs.words.Schemes.{publishes_rows}
use Rattle.wfe_core.specs.Rounds.{scheme_of}

clock_stays : (mem : Place → ℕ) (index : ℕ) (root : Root) (at : ProtectAt) (post : Post) → written mem (machine.protect_move index root at post) Clock ≡ mem Clock
clock_stays mem index root (LoadClock tries) post = refl
clock_stays mem index root (PublishEra era tries) post = refl
clock_stays mem index root (LoadLink era tries) post = refl
clock_stays mem index root (CheckClock era tries link) post = refl
clock_stays mem index root PublishRequest post = refl
clock_stays mem index root LoadOwnClock post = refl
clock_stays mem index root (PublishHelper first era last) post = refl
clock_stays mem index root (LoadOwnLink first era last) post = refl
clock_stays mem index root (CheckOwnClock first era last link) post = refl
clock_stays mem index root (AnswerOwn first era link) post = refl
clock_stays mem index root (LoadAnswer first) post = refl
clock_stays mem index root (TakeAnswer link era) post = refl
clock_stays mem index root (WithdrawRequest link era) post = refl
clock_stays mem index root (WithdrawHelper link era) post = refl
clock_stays mem index root LoadWithin post = refl
clock_stays mem index root (CheckUpper link) post = refl
clock_stays mem index root (RaiseUpper era) post = refl
clock_stays mem index root (ByHazard FirstLink) post = refl
clock_stays mem index root (ByHazard (PublishLink link)) post = refl
clock_stays mem index root (ByHazard (CheckLink link)) post = refl

-- a machine that opens moves neither the rows nor the clock
open_new : (T : ℕ → (ℕ → Bool) → ℕ → Type 0) (mem : Place → ℕ) (i : ℕ) (v : View) (base : Base) (post : Post) (found : ℕ) (wanted : Root → Bool) → opens_by wanted base ≡ true → T (mem Clock) (queue_of v) v.head → T (written mem (base_move base post) Clock) (queue_of (made i v (base_row base found))) (made i v (base_row base found)).head
open_new T mem i v (Begin LoadLower) post found wanted h x = x
open_new T mem i v (Begin (PublishSpan era)) post found wanted h x = x
open_new T mem i v (Protect aim index root steps at) post found wanted h x = let P : ℕ → Type 0 = λ c. T c (queue_of v) v.head in subst P (sym (clock_stays mem index root at post)) x
open_new T mem i v (Reload parent index slot era steps) post found wanted h x = absurd (no_truth h)
open_new T mem i v (Clear rows index) post found wanted h x = absurd (no_truth h)
open_new T mem i v Finish post found wanted h x = absurd (no_truth h)
open_new T mem i v (Release index) post found wanted h x = absurd (no_truth h)
open_new T mem i v (Allocate at) post found wanted h x = absurd (no_truth h)
open_new T mem i v (Write slot row place) post found wanted h x = absurd (no_truth h)
open_new T mem i v (GiveUp slot) post found wanted h x = absurd (no_truth h)
open_new T mem i v (Retire at) post found wanted h x = absurd (no_truth h)
open_new T mem i v (Move at) post found wanted h x = absurd (no_truth h)

reads_tail : (w : World) (v : View) (l : Line) (root : Root) (s : ℕ) → Both w v l → is_tail root ≡ true → w.mem (link_place root) ≡ s + 1 → l.lined s ≡ true
reads_tail w v l (roots.Bucket bucket) s b h e = absurd (no_truth h)
reads_tail w v l roots.Head s b h e = absurd (no_truth h)
reads_tail w v l roots.Tail s b h e = (queue_ends w v l s b).tail e
reads_tail w v l (roots.Next parent) s b h e = absurd (no_truth h)

reads_head : (w : World) (v : View) (l : Line) (root : Root) (s : ℕ) → Both w v l → is_head root ≡ true → w.mem (link_place root) ≡ s + 1 → FromHead (queue_of v) l v.head s
reads_head w v l (roots.Bucket bucket) s b h e = absurd (no_truth h)
reads_head w v l roots.Head s b h e = record { lined = (queue_ends w v l s b).head e; first = λ q. (queue_ends w v l s b).first e }
reads_head w v l roots.Tail s b h e = absurd (no_truth h)
reads_head w v l (roots.Next parent) s b h e = absurd (no_truth h)

finds_is : (w : World) (i : ℕ) (why : Why) (base : Base) → (w.seat i).phase ≡ Runs why base → finds w i ≡ finds_base w.mem base (w.seat i).post
finds_is w i why base e = ap (λ (y : Phase). memory.found (phase_move y (w.seat i).post) (w.mem (place_in (phase_move y (w.seat i).post)))) e

root_wanted : (wanted : Root → Bool) (base : Base) (aim : Aim) (index : ℕ) (root : Root) (steps : ℕ) (at : ProtectAt) → base ≡ Protect aim index root steps at → opens_by wanted base ≡ true → wanted root ≡ true
root_wanted wanted base aim index root steps at e h = let P : Base → Type 0 = λ y. opens_by wanted y ≡ true in rest_of (is_alone aim) (wanted root) (subst P e h)

runs_same : (why : Why) (base more : Base) → base ≡ more → Runs why base ≡ Runs why more
runs_same why base more o = cc

out_at : (wanted : Root → Bool) (clock upto : ℕ) (P : ℕ → Type 0) (base : Base) (post : Post) (f g : ℕ) → f ≡ g → TryOut wanted clock upto P (machine.after base post g).outcome → TryOut wanted clock upto P (machine.after base post f).outcome
out_at wanted clock upto P base post f g e x = let Q : ℕ → Type 0 = λ y. TryOut wanted clock upto P (machine.after base post y).outcome in subst Q (sym e) x

tail_out : (w : World) (i : ℕ) (v : View) (l : Line) (kept : EnqueueKept) (base : Base) (upto : ℕ) → WholeNeeds w i v l → Whole w v l → (w.seat i).phase ≡ Runs (Opens (Enqueues kept)) base → TryOut is_tail (w.mem Clock) upto (λ s. FromTail (queue_of v) l v.head s) (machine.after base (counted (w.seat i).post) (finds w i)).outcome
tail_out w i v l kept base upto n b e =
    let Q : Phase → Type 0 = λ y. PhaseTries y (w.mem Clock) (upper (w.seat i).post.span) (queue_of v) l v.head in
    let t : TriesBase is_tail (w.mem Clock) (upper (w.seat i).post.span) base (λ s. FromTail (queue_of v) l v.head s) = subst Q e (b.tries i) in
    let f : finds w i ≡ finds_base w.mem base (w.seat i).post = finds_is w i (Opens (Enqueues kept)) base e in
    out_at is_tail (w.mem Clock) upto (λ s. FromTail (queue_of v) l v.head s) base (counted (w.seat i).post) (finds w i) (finds_base w.mem base (w.seat i).post) f
    (base_out is_tail w.mem upto base (w.seat i).post (λ s. FromTail (queue_of v) l v.head s) t (λ root h s r. reads_tail w v l root s b.both h r)
    (λ aim index root steps at link era q u r s o. n.asks (Enqueues kept) aim index root steps at link era s (e ∙ runs_same (Opens (Enqueues kept)) base (Protect aim index root steps at) q) u (ap read_request f ∙ r) o (root_wanted is_tail base aim index root steps at q t.right)))

head_out : (w : World) (i : ℕ) (v : View) (l : Line) (base : Base) (upto : ℕ) → WholeNeeds w i v l → Whole w v l → (w.seat i).phase ≡ Runs (Opens Dequeues) base → TryOut is_head (w.mem Clock) upto (λ s. FromHead (queue_of v) l v.head s) (machine.after base (counted (w.seat i).post) (finds w i)).outcome
head_out w i v l base upto n b e =
    let Q : Phase → Type 0 = λ y. PhaseTries y (w.mem Clock) (upper (w.seat i).post.span) (queue_of v) l v.head in
    let t : TriesBase is_head (w.mem Clock) (upper (w.seat i).post.span) base (λ s. FromHead (queue_of v) l v.head s) = subst Q e (b.tries i) in
    let f : finds w i ≡ finds_base w.mem base (w.seat i).post = finds_is w i (Opens Dequeues) base e in
    out_at is_head (w.mem Clock) upto (λ s. FromHead (queue_of v) l v.head s) base (counted (w.seat i).post) (finds w i) (finds_base w.mem base (w.seat i).post) f
    (base_out is_head w.mem upto base (w.seat i).post (λ s. FromHead (queue_of v) l v.head s) t (λ root h s r. reads_head w v l root s b.both h r)
    (λ aim index root steps at link era q u r s o. n.heads Dequeues aim index root steps at link era s (e ∙ runs_same (Opens Dequeues) base (Protect aim index root steps at) q) u (ap read_request f ∙ r) o (root_wanted is_head base aim index root steps at q t.right)))

ended : (wanted : Root → Bool) (clock upto : ℕ) (P : ℕ → Type 0) (outcome : Outcome) (slot era : ℕ) → TryOut wanted clock upto P outcome → outcome ≡ Ends (Protected (protect_ends.Held slot era)) → P slot
ended wanted clock upto P outcome slot era x e = let Q : Outcome → Type 0 = λ y. TryOut wanted clock upto P y in subst Q e x

pub whole_needs : (w : World) (i : ℕ) (v : View) (l : Line) → WholeNeeds w i v l → Whole w v l → QueueNeeds w i v l
whole_needs w i v l n b = record {
  own = record {
    walks = n.walks;
    births = n.births;
    tails = λ kept base slot era e o. ended is_tail (w.mem Clock) 0 (λ s. FromTail (queue_of v) l v.head s) (machine.after base (counted (w.seat i).post) (finds w i)).outcome slot era (tail_out w i v l kept base 0 n b e) o;
    heads = λ base slot era e o. let x : FromHead (queue_of v) l v.head slot = ended is_head (w.mem Clock) 0 (λ s. FromHead (queue_of v) l v.head s) (machine.after base (counted (w.seat i).post) (finds w i)).outcome slot era (head_out w i v l base 0 n b e) o in x.lined;
    leads = λ base slot era e o q. let x : FromHead (queue_of v) l v.head slot = ended is_head (w.mem Clock) 0 (λ s. FromHead (queue_of v) l v.head s) (machine.after base (counted (w.seat i).post) (finds w i)).outcome slot era (head_out w i v l base 0 n b e) o in b.both.rows.words.head ∙ x.first q;
    answers = n.answers;
  };
  backs = n.backs;
}

-- the seat that steps
run_new : (w : World) (i : ℕ) (v : View) (l : Line) (why : Why) (base : Base) (upto found : ℕ) → WholeNeeds w i v l → Whole w v l → (w.seat i).phase ≡ Runs why base → WhyOut why (machine.after base (counted (w.seat i).post) (finds w i)).outcome (written w.mem (base_move base (w.seat i).post) Clock) upto (queue_of (made i v (base_row base found))) l (made i v (base_row base found)).head
run_new w i v l (Opens (Gets key)) base upto found n b e = tt
run_new w i v l (Opens (Changes kept)) base upto found n b e = tt
run_new w i v l (Opens (Holds key)) base upto found n b e = tt
run_new w i v l (Opens (Enqueues kept)) base upto found n b e =
    let Q : Phase → Type 0 = λ y. PhaseTries y (w.mem Clock) (upper (w.seat i).post.span) (queue_of v) l v.head in
    let t : TriesBase is_tail (w.mem Clock) (upper (w.seat i).post.span) base (λ s. FromTail (queue_of v) l v.head s) = subst Q e (b.tries i) in
    open_new (λ c q h. TryOut is_tail c upto (λ s. FromTail q l h s) (machine.after base (counted (w.seat i).post) (finds w i)).outcome) w.mem i v base (w.seat i).post found is_tail t.right (tail_out w i v l kept base upto n b e)
run_new w i v l (Opens Dequeues) base upto found n b e =
    let Q : Phase → Type 0 = λ y. PhaseTries y (w.mem Clock) (upper (w.seat i).post.span) (queue_of v) l v.head in
    let t : TriesBase is_head (w.mem Clock) (upper (w.seat i).post.span) base (λ s. FromHead (queue_of v) l v.head s) = subst Q e (b.tries i) in
    open_new (λ c q h. TryOut is_head c upto (λ s. FromHead q l h s) (machine.after base (counted (w.seat i).post) (finds w i)).outcome) w.mem i v base (w.seat i).post found is_head t.right (head_out w i v l base upto n b e)
run_new w i v l (FollowsHead parent last) base upto found n b e = tt
run_new w i v l (Fills task) base upto found n b e = tt
run_new w i v l (ClearsNext after) base upto found n b e = tt
run_new w i v l (Clears task after) base upto found n b e = tt
run_new w i v l (Finishes task after) base upto found n b e = tt
run_new w i v l (GivesUp answer) base upto found n b e = tt
run_new w i v l (Retires answer) base upto found n b e = tt
run_new w i v l (Tidies later) base upto found n b e = tt
run_new w i v l Advances base upto found n b e = tt
run_new w i v l (Releases let_go) base upto found n b e = tt

own_new : (w : World) (i : ℕ) (v : View) (l : Line) (phase : Phase) (upto found : ℕ) → WholeNeeds w i v l → Whole w v l → (w.seat i).phase ≡ phase → NewTries (phase_turn phase (counted (w.seat i).post) (offered w i).desk (finds w i)) (written w.mem (phase_move phase (w.seat i).post) Clock) upto (queue_of (made i v (row_move phase (w.seat i).post found))) (moved_line l (line_move phase found)) (made i v (row_move phase (w.seat i).post found)).head
own_new w i v l Idle upto found n b e = tt
own_new w i v l (Runs why base) upto found n b e =
    let t : Turn = machine.after base (counted (w.seat i).post) (finds w i) in
    resumed_tries why (offered w i).desk t.post t.told t.outcome (written w.mem (base_move base (w.seat i).post) Clock) upto (queue_of (made i v (base_row base found))) l (made i v (base_row base found)).head (run_new w i v l why base upto found n b e)
own_new w i v l (Scans later at) upto found n b e =
    let p : Post = counted (w.seat i).post in
    by_quiet (scan.scan_turn later at p (offered w i).desk (finds w i)) (written w.mem (phase_move (Scans later at) (w.seat i).post) Clock) upto (queue_of (made i v (row_move (Scans later at) (w.seat i).post found))) (moved_line l (line_move (Scans later at) found)) (made i v (row_move (Scans later at) (w.seat i).post found)).head (scan_quiet later at p (offered w i).desk (finds w i))
own_new w i v l (Works work) upto found n b e =
    work_tries work (counted (w.seat i).post) (offered w i).desk (finds w i) (written w.mem (phase_move (Works work) (w.seat i).post) Clock) upto (queue_of (made i v (row_move (Works work) (w.seat i).post found))) (moved_line l (line_move (Works work) found)) (made i v (row_move (Works work) (w.seat i).post found)).head

settled_tries : (l0 : Local) (post : Post) (desk : Desk) (count : ℕ) (outcome : CallOutcome) (clock : ℕ) (q : ℕ → Bool) (l : Line) (head : ℕ) → PhaseTries (phase_of outcome) clock (upper post.span) q l head → PhaseTries (settled_by l0 post desk count outcome).phase clock (upper (settled_by l0 post desk count outcome).post.span) q l head
settled_tries l0 post desk count (GoesOn phase) clock q l head t = t
settled_tries l0 post desk count (Answers answer) clock q l head t = tt

abbrev SeatTries : Local → ℕ → (ℕ → Bool) → Line → ℕ → Type 0
SeatTries s clock q l head = PhaseTries s.phase clock (upper s.post.span) q l head

seat_tries : (i k : ℕ) (old new : Local) (same : Bool) (clock : ℕ) (q : ℕ → Bool) (l : Line) (head : ℕ) → (k == i) ≡ same → SeatTries new clock q l head → ((k == i) ≡ false → SeatTries old clock q l head) → SeatTries (if same then new else old) clock q l head
seat_tries i k old new true clock q l head e p r = p
seat_tries i k old new false clock q l head e p r = r e

era_fits : (phase : Phase) (clock upto : ℕ) → EraIn phase clock upto → EraFits phase clock upto
era_fits Idle clock upto e = tt
era_fits (Runs why base) clock upto e = e
era_fits (Scans later at) clock upto e = tt
era_fits (Works work) clock upto e = tt

apart_by : (s slot : ℕ) (same : Bool) (f : ℕ → Bool) → (s == slot) ≡ same → f s ≡ true → f slot ≡ false → same ≡ false
apart_by s slot true f e h g = let one : s ≡ slot = grind (arith, nat_tests) in absurd (no_truth (sym g ∙ subst (λ (x : ℕ). f x ≡ true) one h))
apart_by s slot false f e h g = refl

pub whole_kept : WholeKept
whole_kept w i v l n b =
    let needs : QueueNeeds w i v l = whole_needs w i v l n b in
    let own : Local = offered w i in
    let t : CallTurn = turn own (finds w i) in
    record {
      both = queue_kept w i v l needs b.both;
      tries = λ k. seat_tries i k (w.seat k) (settled own t) (k == i) ((step w i).mem Clock) (queue_of (rows_after w i v)) (line_after w i l) (rows_after w i v).head refl
          (settled_tries own t.post (noting t.desk (told_by t)) (rounds_told (publishes_rows (scheme_of t.post)) own.rounds (told_by t)) t.outcome ((step w i).mem Clock) (queue_of (rows_after w i v)) (line_after w i l) (rows_after w i v).head (own_new w i v l own.phase (upper t.post.span) (finds w i) n b refl))
          (λ e. others_tries (w.seat k).phase (w.mem Clock) ((step w i).mem Clock) (upper (w.seat k).post.span) (queue_of v) (queue_of (rows_after w i v)) l (line_after w i l) v.head (rows_after w i v).head (era_fits (w.seat k).phase (w.mem Clock) (upper (w.seat k).post.span) (n.eras k)) n.rises
          (λ task base s q u o. let stay : RowStays w i v l s = lined_stays w i v l s needs b.both (λ later place slot r. apart_by s slot (s == slot) (base_tries (w.mem Clock) (upper (w.seat k).post.span) base) refl u (n.untried later place slot k task base r q)) o in record { lined = stay.lined; first = stay.heads })
          (b.tries k));
    }

pub whole_begin : WholeBegin
whole_begin w i call v l h there b = record {
  both = record { rows = rows_begin w i call v h there b.both.rows; queue = queue_begin w i call v l b.both.queue };
  tries = λ k. seat_tries i k (w.seat k) (begun (w.seat i) call) (k == i) (w.mem Clock) (queue_of v) l v.head refl (quiet_tries (first_phase call (begun_post (w.seat i).post)) (w.mem Clock) (upper (w.seat i).post.span) (queue_of v) l v.head (first_quiet call (begun_post (w.seat i).post))) (λ e. b.tries k);
}

pub whole_start : WholeStart
whole_start layout h = record { both = record { rows = rows_start layout h; queue = queue_start layout h }; tries = λ k. tt }
