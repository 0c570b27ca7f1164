-- How often a record tells that the tail was linked is the number of the tail's row.
use Rattle.std.proofs.Common.{ℕ, ◌≡◌, ◌+◌, ◌-◌, Bool, true, false, List, [], ◌∷◌, ◌++◌, refl, sym, ap, ◌∙◌, subst, arith}
use Rattle.std.proofs.lemmas.Bool.Decides.{nat_tests}
use Rattle.std.specs.Prelude.{◌==◌, if◌then◌else◌}
use Rattle.law_scans.specs.inv.model.words.Place.{Place}
use Rattle.law_scans.specs.inv.model.words.Place.Place.{Head, Tail, Bucket, Row}
use Rattle.law_scans.specs.inv.model.defs.declared.event.Event.{Event}
use Rattle.law_scans.specs.inv.model.defs.declared.event.Event.TheVariants as events
use Rattle.law_scans.specs.inv.model.defs.declared.event.Root.TheVariants as roots
use Rattle.law_scans.specs.inv.model.defs.declared.fold.Change.{Change}
use Rattle.law_scans.specs.inv.model.defs.declared.fold.Change.TheVariants as changes
use Rattle.law_scans.specs.inv.model.defs.declared.lifetime.Lifetime.{Lifetime}
use Rattle.law_scans.specs.inv.model.declared.post.Post.{Post}
use Rattle.law_scans.specs.inv.model.Change.{told_change, changed_bucket}
use Rattle.law_scans.specs.inv.model.Enqueue.{told_link}
use Rattle.law_scans.specs.inv.model.Get.{get_move}
use Rattle.law_scans.specs.inv.model.Keep.{keep_move}
use Rattle.law_scans.specs.inv.model.Memory as memory
use Rattle.law_scans.specs.inv.model.Memory.{written}
use Rattle.law_scans.specs.inv.model.Posts.{counted}
use Rattle.law_scans.specs.inv.model.Steps.{phase_move}
use Rattle.law_scans.specs.inv.model.Calls.{ChangeKept, EnqueueKept, LoadVersion, LoadCount, LoadKey, LoadValue, ExchangeRoot, LoadNumber, LoadNext, PassTail, ExchangeNext, ExchangeTail, LoadTail, SwingTail, TakeNumber, TakeValue, ExchangeHead, Getting, Changing, Enqueuing, Dequeuing, Keeping, KeepAt, Loosens, LoadHeld, StoreHeld, Looks, Misses, HideSpan, MarkLeft, TakeList, MarkTaken, GetAt, FindVersion, FindCount, FindKey, FindValue, ReadGuard, GiveBack, Phase, Idle, Runs, Scans, Works, CallOutcome, GoesOn, Answers}
use Rattle.law_scans.specs.inv.rows.Hands.{row_move, hand_in, is_right}
use Rattle.law_scans.specs.inv.rows.Queue.{Line, line_move, moved_line}
use Rattle.law_scans.specs.inv.rows.Rows.{View, RowMove}
use Rattle.law_scans.specs.inv.rows.Rows.RowMove.{Stays, Claims, Bears, Drops, Links, Replaces, Appends, Pops, Reads, Seals, Lists, Returns, Adopts}
use Rattle.law_scans.proofs.inv.rows.Own.{unlinked_tail}
use Rattle.law_scans.proofs.inv.rows.Went.{born_unlined}
use Rattle.law_scans.proofs.inv.rows.Words.{missed}
use Rattle.law_scans.specs.inv.ends.Told.{row_events, birth_in}
use Rattle.law_scans.proofs.laws.Along.{along}
use Rattle.law_scans.specs.laws.StateAt.{tails_by, tails_of}
use Rattle.law_scans.proofs.Placing.Fronts.{linked_front, queued_front, taken_front}
use Rattle.law_scans.proofs.Placing.Marks.{is_marked, marks}
use Rattle.law_scans.proofs.Ordering.Ordered.{whole_comes}
use Rattle.law_scans.specs.inv.model.Locals.{told_end}
use Rattle.law_scans.specs.inv.model.World.{World, step, told_in, list_in}
use Rattle.law_scans.specs.inv.Known.{Known}
use Rattle.law_scans.specs.inv.requests.Views.{View as Asked}
use Rattle.law_scans.proofs.inv.rows.Steps.{of_taken}
use Rattle.law_scans.specs.inv.rows.Chain.{line_after}
use Rattle.law_scans.specs.inv.history.Record.{Past, tells_of}
use Rattle.law_scans.proofs.Ordering.Nexts.{Here, run_tail, get_tail, cas_other, swung}
use Rattle.law_scans.proofs.inv.Rounds.Worlds.{next_number, other_number, tail_apart}
use Rattle.law_scans.proofs.inv.rows.Queued.{finds_phase}
use Rattle.law_scans.proofs.Ordering.Linked.{here_of}
use Rattle.law_scans.proofs.inv.rows.Runs.{taken_slot}
use Rattle.law_scans.proofs.inv.model.Facts.{same_both, number_is}

rows_tail : (b : ℕ) (m : RowMove) (x : ℕ) → along tails_by (row_events b m) x ≡ x
rows_tail b Stays x = refl
rows_tail b (Claims slot) x = refl
rows_tail b (Bears slot birth) x = refl
rows_tail b (Drops slot) x = refl
rows_tail b (Links bucket slot) x = refl
rows_tail b (Replaces bucket slot old) x = refl
rows_tail b (Appends slot) x = refl
rows_tail b (Pops slot next) x = refl
rows_tail b (Reads slot birth) x = refl
rows_tail b (Seals slot birth retire) x = refl
rows_tail b (Lists slot birth retire) x = refl
rows_tail b (Returns slot) x = refl
rows_tail b (Adopts from) x = refl

swung_tail : (mem : Place → ℕ) (l : Line) (slot row new n : ℕ) (same : Bool) → (mem Tail == row + 1) ≡ same → ((mem Tail == row + 1) ≡ true → l.number (new - 1) ≡ l.number row + 1) → n ≡ l.number (mem Tail - 1)
    → along tails_by (told_link roots.Tail slot same) n ≡ l.number (written mem (memory.Cas Tail (row + 1) new) Tail - 1)
swung_tail mem l slot row new n true e f h =
    let at : mem Tail - 1 ≡ row = grind (arith, nat_tests) in
    let m : l.number (mem Tail - 1) ≡ l.number row = ap l.number at in
    let r : l.number (new - 1) ≡ l.number row + 1 = f e in
    let u : l.number (written mem (memory.Cas Tail (row + 1) new) Tail - 1) ≡ l.number (new - 1) = ap (λ (x : ℕ). l.number (x - 1)) (swung mem (row + 1) new e) in
    omega (arith, h, m, r, u)
swung_tail mem l slot row new n false e f h = h ∙ sym (ap (λ (x : ℕ). l.number (x - 1)) (missed mem Tail Tail (row + 1) new e))

queued_tail : (kept : EnqueueKept) (slot x : ℕ) (same : Bool) → along tails_by (queued_front kept slot same) x ≡ x
queued_tail kept slot x true = refl
queued_tail kept slot x false = refl

taken_tail : (head next number value x : ℕ) (same : Bool) → along tails_by (taken_front head next number value same) x ≡ x
taken_tail head next number value x true = refl
taken_tail head next number value x false = refl

change_tail : (bucket version : ℕ) (change : Change) (x : ℕ) → along tails_by (told_change bucket version change ∷ []) x ≡ x
change_tail bucket version (changes.Put key value) x = refl
change_tail bucket version (changes.Removed key) x = refl

cut_tail : (link : ℕ) (none : Bool) (told : List Event) (x : ℕ) → along tails_by told x ≡ x → along tails_by ((if none then [] else events.Cut (link - 1) ∷ []) ++ told) x ≡ x
cut_tail link true told x h = h
cut_tail link false told x h = h

linked_tail : (kept : ChangeKept) (slot : ℕ) (post : Post) (x : ℕ) (same : Bool) → along tails_by (linked_front kept slot post same) x ≡ x
linked_tail kept slot post x true = cut_tail kept.link (kept.link == 0) _ x (change_tail (changed_bucket kept post) (kept.version + 1) kept.change x)
linked_tail kept slot post x false = refl

-- how often the tail was moved is its row's number
-- what is kept moves no tail
look_tail : (mem : Place → ℕ) (at : GetAt) → written mem (get_move at) Tail ≡ mem Tail
look_tail mem (FindVersion slot) = refl
look_tail mem (FindCount slot version) = refl
look_tail mem (FindKey slot version count pair) = refl
look_tail mem (FindValue slot version pair) = refl

keep_tail : (mem : Place → ℕ) (at : KeepAt) (post : Post) → written mem (keep_move at post) Tail ≡ mem Tail
keep_tail mem (Loosens let_go) post = refl
keep_tail mem (LoadHeld from index) post = refl
keep_tail mem (StoreHeld from index era) post = refl
keep_tail mem (Looks index key at) post = look_tail mem at
keep_tail mem (Misses index) post = refl
keep_tail mem HideSpan post = refl
keep_tail mem MarkLeft post = refl
keep_tail mem (TakeList place) post = refl
keep_tail mem (MarkTaken place count) post = refl

pub tail_moved : (slots i : ℕ) (mem : Place → ℕ) (v : View) (l : Line) (phase : Phase) (post : Post) (list : List Lifetime) (n : ℕ) → Here slots i mem v l phase post list → ((kept : EnqueueKept) (slot : ℕ) → phase ≡ Works (Enqueuing kept (ExchangeNext slot)) → l.lined slot ≡ false) → n ≡ l.number (mem Tail - 1)
    → along tails_by (marks phase post (finds_phase mem phase post)) n ≡ (moved_line l (line_move phase (finds_phase mem phase post))).number (written mem (phase_move phase post) Tail - 1)
tail_moved slots i mem v l Idle post list n k u h = h
tail_moved slots i mem v l (Runs why base) post list n k u h = rows_tail (birth_in (Runs why base)) (row_move (Runs why base) post (finds_phase mem (Runs why base) post)) n ∙ h ∙ sym (ap (λ (x : ℕ). l.number (x - 1)) (run_tail mem why base post))
tail_moved slots i mem v l (Scans later (ReadGuard number)) post list n k u h = h
tail_moved slots i mem v l (Scans later (GiveBack place slot)) post list n k u h = h ∙ sym (ap (λ (x : ℕ). l.number (x - 1)) (unlinked_tail mem (phase_move (Scans later (GiveBack place slot)) post) refl))
tail_moved slots i mem v l (Works (Getting key at)) post list n k u h = h ∙ sym (ap (λ (x : ℕ). l.number (x - 1)) (get_tail mem key at post))
tail_moved slots i mem v l (Works (Changing kept (LoadVersion slot))) post list n k u h = h
tail_moved slots i mem v l (Works (Changing kept (LoadCount slot))) post list n k u h = h
tail_moved slots i mem v l (Works (Changing kept (LoadKey slot count))) post list n k u h = h
tail_moved slots i mem v l (Works (Changing kept (LoadValue slot count key))) post list n k u h = h
tail_moved slots i mem v l (Works (Changing kept (ExchangeRoot slot))) post list n k u h =
    linked_tail kept slot (counted post) n (mem (Bucket (changed_bucket kept post)) == kept.link) ∙ h ∙ sym (ap (λ (x : ℕ). l.number (x - 1)) (unlinked_tail mem (phase_move (Works (Changing kept (ExchangeRoot slot))) post) refl))
tail_moved slots i mem v l (Works (Enqueuing kept LoadNumber)) post list n k u h = h
tail_moved slots i mem v l (Works (Enqueuing kept LoadNext)) post list n k u h = h
tail_moved slots i mem v l (Works (Enqueuing kept (PassTail next))) post list n k u h =
    swung_tail mem l (next - 1) kept.tail next n (mem Tail == kept.tail + 1) refl (λ e. next_number v l mem (Works (Enqueuing kept (PassTail next))) kept.tail next k.line k.walks (same_both kept.tail next) (number_is (mem Tail) (kept.tail + 1) e)) h
tail_moved slots i mem v l (Works (Enqueuing kept (ExchangeNext slot))) post list n k u h =
    queued_tail kept slot n (mem (Row kept.tail 0) == 0) ∙ h
    ∙ sym (other_number l kept.tail slot (mem Tail - 1) (mem (Row kept.tail 0) == 0) (tail_apart v l mem slot k.line (u kept slot refl)))
    ∙ sym (ap (λ (x : ℕ). (moved_line l (line_move (Works (Enqueuing kept (ExchangeNext slot))) (finds_phase mem (Works (Enqueuing kept (ExchangeNext slot))) post))).number (x - 1)) (cas_other mem (Row kept.tail 0) Tail 0 (slot + 1) refl))
tail_moved slots i mem v l (Works (Enqueuing kept (ExchangeTail slot))) post list n k u h =
    swung_tail mem l slot kept.tail (slot + 1) n (mem Tail == kept.tail + 1) refl (λ e. next_number v l mem (Works (Enqueuing kept (ExchangeTail slot))) kept.tail (slot + 1) k.line k.walks (same_both kept.tail (slot + 1)) (number_is (mem Tail) (kept.tail + 1) e)) h
tail_moved slots i mem v l (Works (Keeping at)) post list n k u h = h ∙ sym (ap (λ (x : ℕ). l.number (x - 1)) (keep_tail mem at post))
tail_moved slots i mem v l (Works (Dequeuing (LoadTail head))) post list n k u h = h
tail_moved slots i mem v l (Works (Dequeuing (SwingTail head next))) post list n k u h =
    swung_tail mem l next head (next + 1) n (mem Tail == head + 1) refl (λ e. next_number v l mem (Works (Dequeuing (SwingTail head next))) head (next + 1) k.line k.walks (same_both head (next + 1)) (number_is (mem Tail) (head + 1) e)) h
tail_moved slots i mem v l (Works (Dequeuing (TakeNumber head next))) post list n k u h = h
tail_moved slots i mem v l (Works (Dequeuing (TakeValue head next number))) post list n k u h = h
tail_moved slots i mem v l (Works (Dequeuing (ExchangeHead head next number value))) post list n k u h =
    taken_tail head next number value n (mem Head == head + 1) ∙ h ∙ sym (ap (λ (x : ℕ). l.number (x - 1)) (cas_other mem Head Tail (head + 1) (next + 1) refl))

-- so along a history
tail_still : (event : Event) (x : ℕ) → is_marked event ≡ false → tails_by event x ≡ x
tail_still (events.Link root slot) x h = absurd (cc)
tail_still event x h = refl

tail_end : (post : Post) (outcome : CallOutcome) (x : ℕ) → along tails_by (told_end post outcome) x ≡ x
tail_end post (GoesOn phase) x = refl
tail_end post (Answers answer) x = refl

unlined : (w : World) (i : ℕ) (v : View) (l : Line) (z : Asked) → Known w v l z → (kept : EnqueueKept) (slot : ℕ) → (w.seat i).phase ≡ Works (Enqueuing kept (ExchangeNext slot)) → l.lined slot ≡ false
unlined w i v l z k kept slot e =
    let b = k.whole.both in
    let p = b.rows.plays i in
    let r : is_right (Works (Enqueuing kept (ExchangeNext slot))) (list_in w i) ≡ true = subst (λ (f : Phase). is_right f (list_in w i) ≡ true) e p.right in
    let h : v.hand i ≡ hand_in (Works (Enqueuing kept (ExchangeNext slot))) = p.hand ∙ ap (λ (f : Phase). hand_in f) e in
    born_unlined i v l w.mem slot b.queue.line (of_taken w.layout.config.slots v i slot b.rows.good (h ∙ taken_slot kept.taken slot r))

pub tails_step : (w : World) (i : ℕ) (v : View) (l : Line) (z : Asked) (p : Past) → Known w v l z → tails_of p ≡ l.number (w.mem Tail - 1) → tails_of (tells_of p i (told_in w i)) ≡ (line_after w i l).number ((step w i).mem Tail - 1)
tails_step w i v l z p k h =
    whole_comes tails_by tails_of w i p (λ q event. refl) tail_still tail_end
    ∙ tail_moved w.layout.config.slots i w.mem v l (w.seat i).phase (w.seat i).post (list_in w i) (tails_of p) (here_of w i v l z k) (unlined w i v l z k) h
