-- Each step keeps the contents of the queue.
use Rattle.std.proofs.Common.{ℕ, ◌≡◌, ◌<◌, Bool, true, false, arith, refl, sym, subst}
use Rattle.std.proofs.lemmas.Bool.Decides.{nat_tests}
use Rattle.std.specs.Prelude.{◌==◌}
use Rattle.inv_ends.specs.model.words.Place.Place.{Row}
use Rattle.inv_ends.specs.model.declared.post.Post.{Post}
use Rattle.inv_ends.specs.model.Book.{Book}
use Rattle.inv_ends.specs.model.Enqueue as enqueues
use Rattle.inv_ends.specs.model.Posts.{counted}
use Rattle.inv_ends.specs.model.Locals.{Local, turn, settled}
use Rattle.inv_ends.specs.model.Calls.{EnqueueKept, ExchangeNext, Enqueuing, AfterScan, GiveBack, Phase, Scans, Works}
use Rattle.inv_ends.specs.model.World.{World, step, finds, offered, list_in}
use Rattle.inv_ends.proofs.model.Facts.{number_is}
use Rattle.inv_ends.specs.shapes.Frame.{phase_left, Seated}
use Rattle.inv_ends.specs.shapes.Slots.{PhaseIn}
use Rattle.inv_ends.proofs.shapes.Frame.{seat_stays, seat_steps, settled_seated}
use Rattle.inv_ends.proofs.shapes.Kept.{one_moves}
use Rattle.inv_ends.specs.rows.Rows.{Status, View, made}
use Rattle.inv_ends.specs.rows.Rows.Status.{Free, Claimed, Born, Linked, InQueue, Cut, Sealed, Listed}
use Rattle.inv_ends.specs.rows.Rows.RowMove.{Returns}
use Rattle.inv_ends.specs.rows.Hands.{row_move}
use Rattle.inv_ends.specs.rows.Agree.{rows_after}
use Rattle.inv_ends.specs.rows.Queue.{Line, is_past}
use Rattle.inv_ends.specs.rows.Chain.{Both, QueueNeeds, queue_of, line_after}
use Rattle.inv_ends.specs.rows.Facts.{RowStays, is_born_by}
use Rattle.inv_ends.proofs.rows.Facts.{lined_stays}
use Rattle.inv_ends.proofs.rows.Writers.{row_words_stay}
use Rattle.inv_all.specs.Contents.Shelf.{Filled}
use Rattle.inv_all.specs.Contents.Contents.{ground_of}
use Rattle.inv_all.specs.Contents.Knows.{Knows}
use Rattle.inv_all.specs.Contents.Stands.{nexts_in}
use Rattle.inv_all.specs.Contents.Reads.{Reads}
use Rattle.inv_all.specs.Contents.Items.{Items, ItemsNeeds, ItemsKept}
use Rattle.inv_all.proofs.Contents.Items.Rows.{returned_queue}
use Rattle.inv_all.proofs.Contents.Items.Shown.{Kept, reads_grown}
use Rattle.inv_all.proofs.Contents.Items.Steps.{Did, Rests, phase_did}
use Rattle.inv_ends.proofs.requests.Paces.{Any}
use Rattle.inv_ends.proofs.rows.Lists.{apart_by}

past_unborn : (x : Status) (i : ℕ) → is_past x ≡ true → is_born_by i x ≡ false
past_unborn Free i h = absurd (cc)
past_unborn (Claimed by) i h = absurd (cc)
past_unborn (Born by) i h = absurd (cc)
past_unborn (Linked bucket) i h = absurd (cc)
past_unborn InQueue i h = refl
past_unborn (Cut by) i h = refl
past_unborn (Sealed by retire) i h = refl
past_unborn (Listed by retire) i h = refl

-- a row that is given back is not in the queue
returns_out : (i : ℕ) (v : View) (phase : Phase) (post : Post) (found : ℕ) (later : AfterScan) (place slot s : ℕ) → phase ≡ Scans later (GiveBack place slot) → queue_of (made i v (row_move phase post found)) s ≡ true → (s == slot) ≡ false
returns_out i v phase post found later place slot s e y = by_slot (s == slot) refl
  where
    by_slot : (x : Bool) → (s == slot) ≡ x → x ≡ false
    by_slot true x =
        let back : queue_of (made i v (Returns slot)) s ≡ true = subst (λ (p : Phase). queue_of (made i v (row_move p post found)) s ≡ true) e y in
        let here : queue_of (made i v (Returns slot)) slot ≡ true = subst (λ (r : ℕ). queue_of (made i v (Returns slot)) r ≡ true) (number_is s slot x) back in
        let out : queue_of (made i v (Returns slot)) slot ≡ false = returned_queue i v slot in
        absurd (cc)
    by_slot false x = refl

words_kept : (w : World) (i : ℕ) (v : View) (l : Line) (s place : ℕ) → Both w v l → (place == 0) ≡ false → l.lined s ≡ true → (step w i).mem (Row s place) ≡ w.mem (Row s place)
words_kept w i v l s place b h y = row_words_stay w i v s place b.rows h (past_unborn (v.status s) i (b.queue.line.passed s y))

nexts_kept : (w : World) (i : ℕ) (v : View) (l : Line) (s : ℕ) → QueueNeeds w i v l → Both w v l → queue_of v s ≡ true → queue_of (rows_after w i v) s ≡ true → (step w i).mem (Row s 0) ≡ 0 → w.mem (Row s 0) ≡ 0
nexts_kept w i v l s n b y x z = by_link (w.mem (Row s 0) == 0) refl
  where
    by_link : (t : Bool) → (w.mem (Row s 0) == 0) ≡ t → w.mem (Row s 0) ≡ 0
    by_link true e = number_is (w.mem (Row s 0)) 0 e
    by_link false e =
        let some : 0 < w.mem (Row s 0) = grind (arith, nat_tests) in
        let stays : RowStays w i v l s = lined_stays w i v l s n b (λ later place slot p. returns_out i v (w.seat i).phase (w.seat i).post (finds w i) later place slot s p x) (b.queue.line.lined s y) in
        let same : (step w i).mem (Row s 0) ≡ w.mem (Row s 0) = stays.next (w.mem (Row s 0)) refl some in
        absurd (omega arith)

rows_kept : (w : World) (i : ℕ) (v : View) (l : Line) → QueueNeeds w i v l → Both w v l → Kept v (rows_after w i v) l w.mem (step w i).mem
rows_kept w i v l n b = record {
  words = λ s place h y. words_kept w i v l s place b h y;
  nexts = λ s y x z. nexts_kept w i v l s n b y x z;
}

-- a row that a seat has followed is not given back
next_stays : (w : World) (i k : ℕ) (v : View) (l : Line) (t : ℕ) → ItemsNeeds w i v l → Both w v l → nexts_in (w.seat k).phase t ≡ true → l.lined t ≡ true → (line_after w i l).lined t ≡ true
next_stays w i k v l t n b e y =
    let stays : RowStays w i v l t = lined_stays w i v l t n.queue b (λ later place slot p. apart_by (λ (s : ℕ). nexts_in (w.seat k).phase s) t slot (t == slot) refl e (n.backs later place slot k p)) y in
    stays.lined

-- what the exchange of a next link rests on
item_filled : (w : World) (i : ℕ) (v : View) (l : Line) (kept : EnqueueKept) (slot : ℕ) → ItemsNeeds w i v l → (w.seat i).phase ≡ Works (Enqueuing kept (ExchangeNext slot)) → Filled w.mem slot (enqueues.new_item kept) 3
item_filled w i v l kept slot n e = subst (λ (p : Phase). Knows (ground_of w) p) e (n.contents.seats i)

item_room : (w : World) (i : ℕ) (v : View) (l : Line) (kept : EnqueueKept) (slot : ℕ) → ItemsNeeds w i v l → (w.seat i).phase ≡ Works (Enqueuing kept (ExchangeNext slot)) → kept.number < w.layout.config.last_version
item_room w i v l kept slot n e = (subst (λ (p : Phase). PhaseIn w.layout (w.seat i).desk p) e (n.slots.seats i).phase).1.1

rests_of : (w : World) (i : ℕ) (v : View) (l : Line) → ItemsNeeds w i v l → Both w v l → Items w v l → Rests w.layout.config.last_version i w.layout.config.slots w.book v l w.mem (w.seat i).phase (list_in w i)
rests_of w i v l n b h = record {
  good = b.rows.good;
  plays = b.rows.plays i;
  head = b.rows.words.head;
  line = b.queue.line;
  walks = b.queue.walks i;
  reads = h.seats i;
  shown = h.rows;
  filled = λ kept slot e. item_filled w i v l kept slot n e;
  room = λ kept slot e. item_room w i v l kept slot n e;
}

pub items_kept : ItemsKept
items_kept w i v l n b h =
    let own : Local = offered w i in
    let book : Book = (step w i).book in
    let m : Line = line_after w i l in
    let did : Did w.layout.config.last_version w.book book (step w i).mem (rows_after w i v) l m (phase_after own (finds w i)) = phase_did w.layout.config.last_version i w.layout.config.slots w.book v l w.mem own.phase own.post (counted own.post) own.desk (list_in w i) (rows_kept w i v l n.queue b) (rests_of w i v l n b h) in
    let P : Post → Phase → Type 0 = λ post phase. Reads phase m book.queued in
    let S : ℕ → Local → Type 0 = λ k x. Reads x.phase m book.queued in
    let left : Seated Any P (settled own (turn own (finds w i))) = settled_seated {Q = Any} {P = P} own (turn own (finds w i)) (record { post = tt; phase = did.own }) in
    record {
      rows = did.rows;
      seats = λ k. one_moves S w.seat (step w i).seat i (λ j. reads_grown (w.seat j).phase l m w.book.queued book.queued did.grown (λ t e. (b.queue.walks j).stood t e) (λ t e y. next_stays w i j v l t n b e y) h.rows.within (h.seats j)) (seat_stays w i) (subst (S i) (sym (seat_steps w i)) left.phase) k;
    }
  where
    phase_after : Local → ℕ → Phase
    phase_after x found = phase_left (turn x found).outcome
