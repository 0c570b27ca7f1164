-- The places of seats and their lists, and how a step changes them.
use Rattle.inv_ends.specs.covers.Rests.{vacant}
use Rattle.std.proofs.Common.{ℕ, ◌≡◌, ◌<◌, Bool, true, false, List, [], refl, sym, ap, subst, ◌∙◌, arith}
use Rattle.std.proofs.lemmas.Bool.Decides.{nat_tests}
use Rattle.std.specs.Prelude.{◌==◌, ◌&&◌, ◌||◌, not, nat_lt, if◌then◌else◌}
use Rattle.inv_ends.specs.model.words.Place.{Place}
use Rattle.inv_ends.specs.model.words.Place.Place.{PlaceOf}
use Rattle.inv_ends.specs.model.defs.declared.event.Root.{Root}
use Rattle.inv_ends.specs.model.defs.declared.lifetime.Lifetime.{Lifetime}
use Rattle.inv_ends.specs.model.declared.post.Post.{Post}
use Rattle.inv_ends.specs.model.Calls.{ChangeAt, ChangeKept, DequeueAt, EnqueueAt, EnqueueKept, GetAt, KeepAt, Phase, ScanAt}
use Rattle.inv_ends.specs.model.Calls.ChangeAt.{LoadVersion}
use Rattle.inv_ends.specs.model.Calls.DequeueAt.{LoadTail}
use Rattle.inv_ends.specs.model.Calls.EnqueueAt.{LoadNumber}
use Rattle.inv_ends.specs.model.Calls.GetAt.{FindVersion}
use Rattle.inv_ends.specs.model.Calls.KeepAt.{HideSpan, LoadHeld, Loosens, Looks, MarkLeft, MarkTaken, Misses, StoreHeld, TakeList}
use Rattle.inv_ends.specs.model.Calls.Phase.{Idle, Runs, Scans, Works}
use Rattle.inv_ends.specs.model.Calls.ScanAt.{ReadGuard}
use Rattle.inv_ends.specs.model.Calls.Work.{Changing, Dequeuing, Enqueuing, Getting, Keeping}
use Rattle.inv_ends.specs.model.Change.{change_move}
use Rattle.inv_ends.specs.model.Dequeue.{dequeue_move}
use Rattle.inv_ends.specs.model.Enqueue.{enqueue_move}
use Rattle.inv_ends.specs.model.Get.{get_move}
use Rattle.inv_ends.specs.model.Locals.{Local, turn}
use Rattle.inv_ends.specs.model.Machine.{allocate_move, base_move, begin_move, move_move, protect_move, retire_move}
use Rattle.inv_ends.specs.model.Memory.{Cas, Store, written}
use Rattle.inv_ends.specs.model.Phases.{AllocateAt, Base, BeginAt, MoveAt, ProtectAt, RetireAt}
use Rattle.inv_ends.specs.model.Phases.AllocateAt.{LoadBirth}
use Rattle.inv_ends.specs.model.Phases.Base.{Allocate, Begin, Move, Protect, Retire}
use Rattle.inv_ends.specs.model.Phases.BeginAt.{LoadLower}
use Rattle.inv_ends.specs.model.Phases.MoveAt.{LoadEra}
use Rattle.inv_ends.specs.model.Phases.HazardAt.{CheckLink, FirstLink, PublishLink}
use Rattle.inv_ends.specs.model.Phases.ProtectAt.{ByHazard, LoadClock}
use Rattle.inv_ends.specs.model.Phases.RetireAt.{LoadLife}
use Rattle.inv_ends.specs.model.Posts.{counted}
use Rattle.inv_ends.specs.model.Scan.{scan_move}
use Rattle.inv_ends.specs.model.Steps.{phase_move}
use Rattle.inv_ends.specs.model.World.{World, finds, list_in, offered, step}
use Rattle.inv_ends.proofs.model.Facts.{number_is, or_false}
use Rattle.inv_ends.proofs.shapes.Frame.{seat_stays}
use Rattle.inv_ends.specs.Told.{move_of}
use Rattle.inv_ends.specs.rows.Agree.{Agree}
use Rattle.inv_ends.specs.rows.Rows.{RowMove}
use Rattle.inv_ends.specs.rows.Rows.RowMove.{Adopts}
use Rattle.inv_ends.proofs.rows.Facts.{rows_show}
use Rattle.inv_ends.proofs.rows.Places.{Placed, adopts, is_placing, phase_placed, unplaced}
use Rattle.inv_all.specs.Places.{InvPlaceMoves, InvPlaces, is_leaving, placed, takes_over}
use Rattle.inv_all.proofs.Inv.Shapes.{keep_in}

handed_list : (w : World) (k : ℕ) → 1 < w.mem (PlaceOf k) → list_in w k ≡ []
handed_list w k h = let e : nat_lt 1 (w.mem (PlaceOf k)) ≡ true = grind (arith, nat_tests) in rw e refl

pub inv_places : InvPlaces
inv_places w k a =
    let t = a.known in
    let r = t.whole.both.rows in
    let s = rows_show w a.rows k r in
    record {
      number = r.numbers k;
      here = (r.present k).here;
      own = s.own;
      handed = handed_list w k;
      lists = s;
      takes = λ place e. keep_in w k (TakeList place) t.slots e;
      marks = λ place count e. (keep_in w k (MarkTaken place count) t.slots e, (r.present k).marks place count e);
      bare = λ e j. t.rests.vacant k j (bare_at k j e);
    }
  where
    bare_at : (k j : ℕ) → (w.seat k).phase ≡ Works (Keeping MarkLeft) → vacant (w.seat k).phase j ≡ true
    bare_at k j e = ap (λ (phase : Phase). vacant phase j) e

-- no step writes a place word but one that leaves a list, takes one over or marks it
protect_unplaced : (index : ℕ) (root : Root) (at : ProtectAt) (post : Post) → is_placing (protect_move index root at post) ≡ false
protect_unplaced index root (LoadClock tries) post = refl
protect_unplaced index root (ByHazard FirstLink) post = refl
protect_unplaced index root (ByHazard (PublishLink link)) post = refl
protect_unplaced index root (ByHazard (CheckLink link)) post = refl
protect_unplaced index root at post = refl

begin_unplaced : (at : BeginAt) (post : Post) → is_placing (begin_move at post) ≡ false
begin_unplaced LoadLower post = refl
begin_unplaced at post = refl

allocate_unplaced : (at : AllocateAt) → is_placing (allocate_move at) ≡ false
allocate_unplaced LoadBirth = refl
allocate_unplaced at = refl

retire_unplaced : (at : RetireAt) → is_placing (retire_move at) ≡ false
retire_unplaced (LoadLife slot) = refl
retire_unplaced at = refl

move_unplaced : (at : MoveAt) (post : Post) → is_placing (move_move at post) ≡ false
move_unplaced (LoadEra helps) post = refl
move_unplaced at post = refl

base_unplaced : (base : Base) (post : Post) → is_placing (base_move base post) ≡ false
base_unplaced (Begin at) post = begin_unplaced at post
base_unplaced (Protect aim index root steps at) post = protect_unplaced index root at post
base_unplaced (Allocate at) post = allocate_unplaced at
base_unplaced (Retire at) post = retire_unplaced at
base_unplaced (Move at) post = move_unplaced at post
base_unplaced base post = refl

scan_unplaced : (at : ScanAt) (post : Post) → is_placing (scan_move at post) ≡ false
scan_unplaced (ReadGuard number) post = refl
scan_unplaced at post = refl

get_unplaced : (at : GetAt) → is_placing (get_move at) ≡ false
get_unplaced (FindVersion slot) = refl
get_unplaced at = refl

change_unplaced : (kept : ChangeKept) (at : ChangeAt) (post : Post) → is_placing (change_move kept at post) ≡ false
change_unplaced kept (LoadVersion slot) post = refl
change_unplaced kept at post = refl

enqueue_unplaced : (kept : EnqueueKept) (at : EnqueueAt) → is_placing (enqueue_move kept at) ≡ false
enqueue_unplaced kept LoadNumber = refl
enqueue_unplaced kept at = refl

dequeue_unplaced : (at : DequeueAt) → is_placing (dequeue_move at) ≡ false
dequeue_unplaced (LoadTail head) = refl
dequeue_unplaced at = refl

-- so it becomes what the phase says
word_left : (i k : ℕ) (mem : Place → ℕ) (post : Post) → post.seat ≡ i → written mem (Store (PlaceOf post.seat) 1) (PlaceOf k) ≡ (if k == i then 1 else mem (PlaceOf k))
word_left i k mem post s = rw s refl

word_taken : (k place : ℕ) (mem : Place → ℕ) (same : Bool) → (k == place) ≡ same → written mem (Cas (PlaceOf place) 1 2) (PlaceOf k) ≡ (if k == place && mem (PlaceOf k) == 1 then 2 else mem (PlaceOf k))
word_taken k place mem true e = let q : k ≡ place = number_is k place e in rw (e, q) refl
word_taken k place mem false e = rw e refl

keep_word : (i : ℕ) (mem : Place → ℕ) (at : KeepAt) (post : Post) (k : ℕ) → post.seat ≡ i → written mem (phase_move (Works (Keeping at)) post) (PlaceOf k) ≡ placed i (Works (Keeping at)) k (mem (PlaceOf k))
keep_word i mem MarkLeft post k s = word_left i k mem post s
keep_word i mem (TakeList place) post k s = word_taken k place mem (k == place) refl
keep_word i mem (MarkTaken place count) post k s = refl
keep_word i mem (Looks index key at) post k s = unplaced mem (get_move at) k (get_unplaced at)
keep_word i mem (Loosens let_go) post k s = unplaced mem (phase_move (Works (Keeping (Loosens let_go))) post) k refl
keep_word i mem (LoadHeld from index) post k s = unplaced mem (phase_move (Works (Keeping (LoadHeld from index))) post) k refl
keep_word i mem (StoreHeld from index era) post k s = unplaced mem (phase_move (Works (Keeping (StoreHeld from index era))) post) k refl
keep_word i mem (Misses index) post k s = unplaced mem (phase_move (Works (Keeping (Misses index))) post) k refl
keep_word i mem HideSpan post k s = unplaced mem (phase_move (Works (Keeping HideSpan)) post) k refl

phase_word : (i : ℕ) (mem : Place → ℕ) (phase : Phase) (post : Post) (k : ℕ) → post.seat ≡ i → written mem (phase_move phase post) (PlaceOf k) ≡ placed i phase k (mem (PlaceOf k))
phase_word i mem Idle post k s = unplaced mem (phase_move Idle post) k refl
phase_word i mem (Runs why base) post k s = unplaced mem (base_move base post) k (base_unplaced base post)
phase_word i mem (Scans later at) post k s = unplaced mem (scan_move at post) k (scan_unplaced at post)
phase_word i mem (Works (Getting key at)) post k s = unplaced mem (get_move at) k (get_unplaced at)
phase_word i mem (Works (Changing kept at)) post k s = unplaced mem (change_move kept at post) k (change_unplaced kept at post)
phase_word i mem (Works (Enqueuing kept at)) post k s = unplaced mem (enqueue_move kept at) k (enqueue_unplaced kept at)
phase_word i mem (Works (Dequeuing at)) post k s = unplaced mem (dequeue_move at) k (dequeue_unplaced at)
phase_word i mem (Works (Keeping at)) post k s = keep_word i mem at post k s

-- a word that is 0 stays so but for the own one of a seat that leaves, and no other becomes 0
here_taken : (k place word : ℕ) (x : Bool) → ((if k == place && word == 1 then 2 else word) == 0) ≡ ((word == 0) && not (x && false))
here_taken k place word x = grind (arith, nat_tests)

here_same : (word : ℕ) (x : Bool) → (word == 0) ≡ ((word == 0) && not (x && false))
here_same word x = grind (arith, nat_tests)

keep_here : (i : ℕ) (at : KeepAt) (k word : ℕ) → ((place count : ℕ) → at ≡ MarkTaken place count → k ≡ place → 1 < word) → (placed i (Works (Keeping at)) k word == 0) ≡ ((word == 0) && not (k == i && is_leaving (Works (Keeping at))))
keep_here i MarkLeft k word h = grind (arith, nat_tests)
keep_here i (TakeList place) k word h = here_taken k place word (k == i)
keep_here i (MarkTaken place count) k word h = by (k == place) refl
  where
    by : (same : Bool) → (k == place) ≡ same → ((if k == place then 3 else word) == 0) ≡ ((word == 0) && not (k == i && false))
    by true e = let m : 1 < word = h place count refl (number_is k place e) in grind (arith, nat_tests, e, m)
    by false e = rw e (here_same word (k == i))
keep_here i (Looks index key at) k word h = here_same word (k == i)
keep_here i (Loosens let_go) k word h = here_same word (k == i)
keep_here i (LoadHeld from index) k word h = here_same word (k == i)
keep_here i (StoreHeld from index era) k word h = here_same word (k == i)
keep_here i (Misses index) k word h = here_same word (k == i)
keep_here i HideSpan k word h = here_same word (k == i)

phase_here : (i : ℕ) (phase : Phase) (k word : ℕ) → ((place count : ℕ) → phase ≡ Works (Keeping (MarkTaken place count)) → k ≡ place → 1 < word) → (placed i phase k word == 0) ≡ ((word == 0) && not (k == i && is_leaving phase))
phase_here i Idle k word h = here_same word (k == i)
phase_here i (Runs why base) k word h = here_same word (k == i)
phase_here i (Scans later at) k word h = here_same word (k == i)
phase_here i (Works (Getting key at)) k word h = here_same word (k == i)
phase_here i (Works (Changing kept at)) k word h = here_same word (k == i)
phase_here i (Works (Enqueuing kept at)) k word h = here_same word (k == i)
phase_here i (Works (Dequeuing at)) k word h = here_same word (k == i)
phase_here i (Works (Keeping at)) k word h = keep_here i at k word (λ place count e. h place count (ap (λ (x : KeepAt). Works (Keeping x)) e))

-- what a step takes over
takes_same : (m : RowMove) (k : ℕ) → adopts m k ≡ takes_over m k
takes_same (Adopts from) k = refl
takes_same m k = refl

taken_by : (before after taken : Bool) → (taken ≡ false → after ≡ before) → (taken ≡ true → after ≡ true) → after ≡ (before || taken)
taken_by before after true f g = g refl ∙ sym (or_true before) where
  or_true : (x : Bool) → (x || true) ≡ true
  or_true true = refl
  or_true false = refl
taken_by before after false f g = f refl ∙ sym (or_false before)

list_by : (before after taken : Bool) (list : List Lifetime) → (taken ≡ false → after ≡ before) → (taken ≡ true → after ≡ true) → (if after then [] else list) ≡ (if taken then [] else (if before then [] else list))
list_by before after true list f g = rw (g refl) refl
list_by before after false list f g = rw (f refl) refl

own_taken : (word : ℕ) (taken : Bool) → word ≡ 0 → (taken ≡ true → word ≡ 1) → taken ≡ false
own_taken word true e f = absurd (omega (arith, e, f refl))
own_taken word false e f = refl

pub inv_place_moves : InvPlaceMoves
inv_place_moves w i k b a =
    let r : Agree w a.rows = a.known.whole.both.rows in
    let m : RowMove = move_of w i in
    let q : Placed i w.mem (step w i).mem m (turn (offered w i) (finds w i)).outcome = phase_placed i w.mem (w.seat i).phase (w.seat i).post (counted (w.seat i).post) (offered w i).desk b (r.numbers i) (r.present i) in
    let same : adopts m k ≡ takes_over m k = takes_same m k in
    let stays : takes_over m k ≡ false → nat_lt 1 ((step w i).mem (PlaceOf k)) ≡ nat_lt 1 (w.mem (PlaceOf k)) = λ e. q.left k (same ∙ e) in
    let goes : takes_over m k ≡ true → nat_lt 1 ((step w i).mem (PlaceOf k)) ≡ true = λ e. (q.gone k (same ∙ e)).1 in
    let word : (step w i).mem (PlaceOf k) ≡ placed i (w.seat i).phase k (w.mem (PlaceOf k)) = phase_word i w.mem (w.seat i).phase (w.seat i).post k (r.numbers i) in
    let z : w.mem (PlaceOf i) ≡ 0 = (r.present i).here b in
    let mine : adopts m i ≡ false = own_taken (w.mem (PlaceOf i)) (adopts m i) z (λ e. (q.gone i e).0) in
    let low : nat_lt 1 ((step w i).mem (PlaceOf i)) ≡ false = q.left i mine ∙ ap (nat_lt 1) z in
    record {
      word = word;
      here = ap (λ (x : ℕ). x == 0) word ∙ phase_here i (w.seat i).phase k (w.mem (PlaceOf k)) (λ place count e s. subst (λ (x : ℕ). 1 < w.mem (PlaceOf x)) (sym s) ((r.present i).marks place count e));
      taken = taken_by (nat_lt 1 (w.mem (PlaceOf k))) (nat_lt 1 ((step w i).mem (PlaceOf k))) (takes_over m k) stays goes;
      other = λ e.
          ap (λ (l : List Lifetime). if nat_lt 1 ((step w i).mem (PlaceOf k)) then [] else l) (ap (λ (l : Local). l.desk.list) (seat_stays w i k e))
          ∙ list_by (nat_lt 1 (w.mem (PlaceOf k))) (nat_lt 1 ((step w i).mem (PlaceOf k))) (takes_over m k) (w.seat k).desk.list stays goes;
      own = rw low refl;
    }
