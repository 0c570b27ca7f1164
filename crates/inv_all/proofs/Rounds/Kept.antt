-- Each step keeps what is known of the rounds that calls have lost.
use Rattle.std.proofs.Common.{ℕ, ◌∙◌, ◌≡◌, ◌≤◌, ◌+◌, ◌-◌, Bool, true, false, arith, refl, sym, ap, subst}
use Rattle.std.proofs.lemmas.Bool.Decides.{nat_tests}
use Rattle.inv_ends.specs.model.words.Place.{Place}
use Rattle.inv_ends.specs.model.words.Place.Place.{Bucket, Head, Tail, Row}
use Rattle.inv_ends.specs.model.Memory.{written}
use Rattle.inv_ends.specs.model.Phases.Base.{Move, Allocate, Begin, Clear, Finish, GiveUp, Protect, Release, Reload, Retire, Write}
use Rattle.inv_ends.specs.model.Steps as steps
use Rattle.inv_ends.specs.model.Change as alters
use Rattle.inv_ends.specs.rows.Rows.{View}
use Rattle.inv_ends.specs.requests.Views.{View as Asking}
use Rattle.inv_ends.specs.model.Calls.{ChangeKept, EnqueueKept, Phase, Why, Work}
use Rattle.inv_ends.specs.model.Calls.ChangeAt.{ExchangeRoot, LoadCount, LoadKey, LoadValue, LoadVersion}
use Rattle.inv_ends.specs.model.Calls.DequeueAt.{ExchangeHead, LoadTail, SwingTail, TakeNumber, TakeValue}
use Rattle.inv_ends.specs.model.Calls.EnqueueAt.{ExchangeNext, ExchangeTail, LoadNext, LoadNumber, PassTail}
use Rattle.inv_ends.specs.model.Calls.Phase.{Idle, Runs, Scans, Works}
use Rattle.inv_ends.specs.model.Calls.Why.{FollowsHead}
use Rattle.inv_ends.specs.model.Calls.Work.{Changing, Dequeuing, Enqueuing, Getting, Keeping}
use Rattle.inv_ends.specs.model.Phases.{Base, RowOf}
use Rattle.inv_ends.specs.model.Phases.RowOf.{MapRow, QueueRow}
use Rattle.inv_ends.specs.model.Rounds.{key_of}
use Rattle.inv_ends.specs.model.World.{World, finds, offered, step}
use Rattle.inv_ends.specs.model.WriteRow.{first_written, last_written, row_word}
use Rattle.inv_ends.specs.model.declared.post.Post.{Post}
use Rattle.inv_ends.specs.shapes.Seats.{PhaseFits, Run, Seats}
use Rattle.inv_all.proofs.Rounds.Grows.{Grows}
use Rattle.inv_all.proofs.Rounds.Paced.{WorkNow}
use Rattle.inv_all.proofs.Rounds.Worlds.{next_number, phase_counts, write_right}
use Rattle.inv_all.specs.Rounds.{RoundsNeeds}
use Rattle.inv_all.specs.Tallies.{Since, Tally, once, tally, why_paced, work_paced}
use Rattle.inv_ends.proofs.rows.Steps.{of_taken}
use Rattle.inv_ends.proofs.rows.Went.{born_unlined}
use Rattle.inv_ends.specs.rows.Chain.{Both, line_after}
use Rattle.inv_ends.specs.rows.Hands.{hand_in, is_right}
use Rattle.inv_ends.specs.rows.Queue.{Line, follows_in}
use Rattle.inv_ends.specs.model.words.declared.layout.Layout.{Layout}
use Rattle.std.specs.Prelude.{nat_le, if◌then◌else◌, ◌==◌, ◌||◌, ◌%◌}
use Rattle.inv_ends.proofs.covers.Held.{finds_at}
use Rattle.inv_ends.proofs.rows.Runs.{taken_slot}
use Rattle.inv_ends.proofs.model.Facts.{first_of, same_both, number_is, le_of_test}
use Rattle.inv_ends.proofs.rows.Kept.{busy_plays}
use Rattle.inv_ends.specs.model.Locals.{busy_in}

pub or_false : (a b : Bool) → (a || b) ≡ true → a ≡ false → b ≡ true
or_false true b h e = absurd (cc)
or_false false b h e = h

-- a link that is another by now: one round more may be lost
pub lost_more : (same : Bool) (lost most : ℕ) → same ≡ false → Since same lost most → lost + 1 ≤ most
lost_more same lost most e s = le_of_test (lost + 1) most (or_false same (nat_le (lost + 1) most) s.moved e)

-- the counts before and after

fits_write : (row : RowOf) (place : ℕ) → nat_le (first_written row) place ≡ true → (place == 0) ≡ true → row_word row place ≡ 0
fits_write (MapRow version pairs) place f e = absurd (let x : 1 ≤ place = le_of_test 1 place f in let y = number_is place 0 e in grind (arith, nat_tests, x, y))
fits_write (QueueRow number value) place f e = rw e refl

writes_fit : (layout : Layout) (post : Post) (phase : Phase) → PhaseFits layout post phase → write_right phase
writes_fit layout post Idle f = tt
writes_fit layout post (Runs why (Begin at)) f = tt
writes_fit layout post (Runs why (Protect aim index root n at)) f = tt
writes_fit layout post (Runs why (Reload parent index slot era n)) f = tt
writes_fit layout post (Runs why (Clear rows index)) f = tt
writes_fit layout post (Runs why Finish) f = tt
writes_fit layout post (Runs why (Release index)) f = tt
writes_fit layout post (Runs why (Allocate at)) f = tt
writes_fit layout post (Runs why (Write slot row place)) f = fits_write row place (first_of (nat_le (first_written row) place) (nat_le place (last_written row)) f.fits)
writes_fit layout post (Runs why (GiveUp slot)) f = tt
writes_fit layout post (Runs why (Retire at)) f = tt
writes_fit layout post (Runs why (Move at)) f = tt
writes_fit layout post (Scans later at) f = tt
writes_fit layout post (Works work) f = tt

joins_fit : (w : World) (i : ℕ) (v : View) (l : Line) → Both w v l → (kept : EnqueueKept) (slot : ℕ) → (w.seat i).phase ≡ Works (Enqueuing kept (ExchangeNext slot)) → l.lined slot ≡ false
joins_fit w i v l b kept slot e =
    let p = busy_plays w i v (ap (λ (f : Phase). busy_in f) e) b.rows in
    let r : is_right (Works (Enqueuing kept (ExchangeNext slot))) (w.seat i).desk.list ≡ true = subst (λ (f : Phase). is_right f (w.seat i).desk.list ≡ true) e p.right in
    let h : v.hand i ≡ hand_in (Works (Enqueuing kept (ExchangeNext slot))) = p.hand ∙ ap (λ (f : Phase). hand_in f) e in
    born_unlined i v l w.mem slot b.queue.line (of_taken w.layout.config.slots v i slot b.rows.good (h ∙ taken_slot kept.taken slot r))

pub step_counts : (w : World) (i : ℕ) (v : View) (l : Line) (z : Asking) → RoundsNeeds w i v l z → Grows (tally w l) (tally (step w i) (line_after w i l))
step_counts w i v l z n =
    phase_counts w.layout.config w.mem w.book v l (w.seat i).phase (w.seat i).post (offered w i).desk
    (record {
      line = n.both.queue.line;
      walks = n.both.queue.walks i;
      writes = writes_fit w.layout (w.seat i).post (w.seat i).phase (n.origins.seats.fits i).phase;
      joins = joins_fit w i v l n.both;
    })

pub mem_after : (w : World) (i : ℕ) (phase : Phase) (place : Place) → (w.seat i).phase ≡ phase → (step w i).mem place ≡ written w.mem (steps.phase_move phase (w.seat i).post) place
mem_after w i phase place e = ap (λ (p : Phase). written w.mem (steps.phase_move p (w.seat i).post) place) e

pub lost_now : (rounds most more : ℕ) (same : Bool) → same ≡ false → Since same (rounds - 1) most → most ≤ more → rounds ≤ more
lost_now rounds most more same e s h =
    let a = le_of_test (rounds - 1 + 1) most (or_false same (nat_le (rounds - 1 + 1) most) s.moved e) in
    omega (arith, a, h)

-- the tail moves on from the row, or has moved
pub swung : (t u : Tally) (row lost most more : ℕ) → Since (t.tail == row + 1) lost most → ((t.tail == row + 1) ≡ true → most + 1 ≤ more) → most ≤ more → lost + 1 ≤ more
swung t u row lost most more s h k = by_same (t.tail == row + 1) refl
  where
    by_same : (b : Bool) → (t.tail == row + 1) ≡ b → lost + 1 ≤ more
    by_same true e = let a = s.lost_few in let b = h e in omega (arith, a, b)
    by_same false e = let a = le_of_test (lost + 1) most (or_false (t.tail == row + 1) (nat_le (lost + 1) most) s.moved e) in omega (arith, a, k)

-- a tail that is exchanged for the link after it is another
other_tail : (l : Line) (row link : ℕ) → l.number (link - 1) ≡ l.number row + 1 → (link == row + 1) ≡ false
other_tail l row link h = by_same (link == row + 1) refl
  where
    by_same : (b : Bool) → (link == row + 1) ≡ b → b ≡ false
    by_same true e =
        let x : l.number (link - 1) ≡ l.number row = ap (λ (k : ℕ). l.number (k - 1)) (number_is link (row + 1) e) ∙ ap (λ (k : ℕ). l.number k) (omega arith) in
        absurd (let y : l.number row + 1 ≡ l.number row = sym h ∙ x in grind (arith, nat_tests, y))
    by_same false e = refl

moved_tail : (mem : Place → ℕ) (row link : ℕ) (now n m : ℕ) → now ≡ (if mem Tail == row + 1 then link else mem Tail) → (mem Tail == row + 1) ≡ true → (link == row + 1) ≡ false → ((now == mem Tail) || nat_le (n + 1) m) ≡ true → n + 1 ≤ m
moved_tail mem row link now n m e h d g =
    let x : now ≡ link = e ∙ (rw h refl) in
    let y : mem Tail ≡ row + 1 = number_is (mem Tail) (row + 1) h in
    let z : (now == mem Tail) ≡ false = rw (x, y) d in
    le_of_test (n + 1) m (or_false (now == mem Tail) (nat_le (n + 1) m) g z)

-- where the tail is exchanged for the link behind the row
passes_on : (w : World) (i : ℕ) (v : View) (l : Line) (z : Asking) (row link : ℕ) → RoundsNeeds w i v l z → follows_in (w.seat i).phase row link ≡ true → (step w i).mem Tail ≡ (if w.mem Tail == row + 1 then link else w.mem Tail) → (w.mem Tail == row + 1) ≡ true
    → ((tally w l).passes + 1 ≤ (tally (step w i) (line_after w i l)).passes) × ((tally w l).takes + 1 ≤ (tally (step w i) (line_after w i l)).takes)
passes_on w i v l z row link n f e h =
    let g = step_counts w i v l z n in
    let d = other_tail l row link (next_number v l w.mem (w.seat i).phase row link n.both.queue.line (n.both.queue.walks i) f (number_is (w.mem Tail) (row + 1) h)) in (
      moved_tail w.mem row link ((step w i).mem Tail) (tally w l).passes (tally (step w i) (line_after w i l)).passes e h d g.tail,
      moved_tail w.mem row link ((step w i).mem Tail) (tally w l).takes (tally (step w i) (line_after w i l)).takes e h d g.lag,
    )

-- the bucket of a change
pub own_bucket : (w : World) (i : ℕ) (kept : ChangeKept) → Seats w → alters.changed_bucket kept (w.seat i).post ≡ key_of kept.change % w.layout.config.buckets
own_bucket w i kept s = ap (λ (layout : Layout). key_of kept.change % layout.config.buckets) (s.fits i).post.layout

pub work_now : (w : World) (i : ℕ) (v : View) (l : Line) (z : Asking) (work : Work) → RoundsNeeds w i v l z → work_paced (tally w l) work ((w.seat i).rounds - 1) → (w.seat i).phase ≡ Works work → WorkNow (tally (step w i) (line_after w i l)) (w.seat i).rounds work (finds w i)
work_now w i v l z (Getting key at) n p e = tt
work_now w i v l z (Changing kept (LoadVersion slot)) n p e = tt
work_now w i v l z (Changing kept (LoadCount slot)) n p e = tt
work_now w i v l z (Changing kept (LoadKey slot count)) n p e = tt
work_now w i v l z (Changing kept (LoadValue slot count key)) n p e = tt
work_now w i v l z (Changing kept (ExchangeRoot slot)) n p e = λ d.
    let g = step_counts w i v l z n in
    let b : ℕ = key_of kept.change % w.layout.config.buckets in
    let c = g.count b in
    let f : finds w i ≡ w.mem (Bucket b) = finds_at w i (Works (Changing kept (ExchangeRoot slot))) e ∙ ap (λ (k : ℕ). w.mem (Bucket k)) (own_bucket w i kept n.origins.seats) in
    lost_now (w.seat i).rounds ((tally w l).count b + once kept.walked) ((tally (step w i) (line_after w i l)).count b + once kept.walked) (w.mem (Bucket b) == kept.link) (rw (← f) d) p (omega (arith, c))
work_now w i v l z (Enqueuing kept LoadNumber) n p e = tt
work_now w i v l z (Enqueuing kept LoadNext) n p e = λ d.
    let f : finds w i ≡ w.mem (Row kept.tail 0) = finds_at w i (Works (Enqueuing kept LoadNext)) e in
    let m : (step w i).mem (Row kept.tail 0) ≡ w.mem (Row kept.tail 0) = mem_after w i (Works (Enqueuing kept LoadNext)) (Row kept.tail 0) e in
    rw (m ∙ sym f) d
work_now w i v l z (Enqueuing kept (PassTail next)) n p e =
    let g = step_counts w i v l z n in
    let c = g.passes in
    let f : follows_in (w.seat i).phase kept.tail next ≡ true = rw e (same_both kept.tail next) in
    let m = mem_after w i (Works (Enqueuing kept (PassTail next))) Tail e in
    let x = swung (tally w l) (tally (step w i) (line_after w i l)) kept.tail ((w.seat i).rounds - 1) ((tally w l).passes + once kept.walked) ((tally (step w i) (line_after w i l)).passes + once kept.walked) p
    (λ h. let y = (passes_on w i v l z kept.tail next n f m h).0 in omega (arith, y)) (omega (arith, c)) in
    omega (arith, x)
work_now w i v l z (Enqueuing kept (ExchangeNext slot)) n p e = λ d.
    let g = step_counts w i v l z n in
    let c = g.passes in
    let f : finds w i ≡ w.mem (Row kept.tail 0) = finds_at w i (Works (Enqueuing kept (ExchangeNext slot))) e in
    lost_now (w.seat i).rounds ((tally w l).passes + once kept.walked) ((tally (step w i) (line_after w i l)).passes + once kept.walked) (w.mem (Row kept.tail 0) == 0) (rw (← f) d) p (omega (arith, c))
work_now w i v l z (Enqueuing kept (ExchangeTail slot)) n p e = tt
work_now w i v l z (Dequeuing (LoadTail head)) n p e = λ d.
    let f : finds w i ≡ w.mem Tail = finds_at w i (Works (Dequeuing (LoadTail head))) e in
    let m : (step w i).mem Tail ≡ w.mem Tail = mem_after w i (Works (Dequeuing (LoadTail head))) Tail e in
    rw (m ∙ sym f) d
work_now w i v l z (Dequeuing (SwingTail head next)) n p e =
    let g = step_counts w i v l z n in
    let c = g.takes in
    let f : follows_in (w.seat i).phase head (next + 1) ≡ true = rw e (same_both head (next + 1)) in
    let m = mem_after w i (Works (Dequeuing (SwingTail head next))) Tail e in
    let x = swung (tally w l) (tally (step w i) (line_after w i l)) head ((w.seat i).rounds - 1) (tally w l).takes (tally (step w i) (line_after w i l)).takes p
    (λ h. (passes_on w i v l z head (next + 1) n f m h).1) c in
    omega (arith, x)
work_now w i v l z (Dequeuing (TakeNumber head next)) n p e = tt
work_now w i v l z (Dequeuing (TakeValue head next number)) n p e = tt
work_now w i v l z (Dequeuing (ExchangeHead head next number value)) n p e = λ d.
    let g = step_counts w i v l z n in
    let c = g.takes in
    let f : finds w i ≡ w.mem Head = finds_at w i (Works (Dequeuing (ExchangeHead head next number value))) e in
    lost_now (w.seat i).rounds (tally w l).takes (tally (step w i) (line_after w i l)).takes (w.mem Head == head + 1) (rw (← f) d) p c
work_now w i v l z (Keeping at) n p e = tt

-- the head was moved where a reload does not find it
pub reload_now : (w : World) (i : ℕ) (v : View) (l : Line) (z : Asking) (why : Why) (base : Base) → RoundsNeeds w i v l z → why_paced (tally w l) (w.seat i).rounds base why → Run w.layout why base (w.seat i).post → (w.seat i).phase ≡ Runs why base
    → (head tail parent index slot era steps : ℕ) → why ≡ FollowsHead head tail → base ≡ Reload parent index slot era steps → (finds w i == parent + 1) ≡ false → (w.seat i).rounds ≤ (tally (step w i) (line_after w i l)).takes
reload_now w i v l z why base n p r e head tail parent index slot era steps x y d =
    let g = step_counts w i v l z n in
    let c = g.takes in
    let q : (w.seat i).phase ≡ Runs (FollowsHead head tail) (Reload parent index slot era steps) = e ∙ ap (λ (a : Why). Runs a base) x ∙ ap (λ (b : Base). Runs (FollowsHead head tail) b) y in
    let f : finds w i ≡ w.mem Head = finds_at w i (Runs (FollowsHead head tail) (Reload parent index slot era steps)) q in
    let pp : why_paced (tally w l) (w.seat i).rounds (Reload parent index slot era steps) (FollowsHead head tail) = subst (λ (b : Base). why_paced (tally w l) (w.seat i).rounds b (FollowsHead head tail)) y (subst (λ (a : Why). why_paced (tally w l) (w.seat i).rounds base a) x p) in
    let rr : Run w.layout (FollowsHead head tail) (Reload parent index slot era steps) (w.seat i).post = subst (λ (b : Base). Run w.layout (FollowsHead head tail) b (w.seat i).post) y (subst (λ (a : Why). Run w.layout a base (w.seat i).post) x r) in
    let h : parent ≡ head = rr.shape.of in
    lost_now (w.seat i).rounds (tally w l).takes (tally (step w i) (line_after w i l)).takes (w.mem Head == head + 1) (rw (← h, ← f) d) pp.0 c
