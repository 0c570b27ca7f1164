-- The record of each history keeps the law on the queue's links.
use Rattle.std.proofs.Common.{ℕ, ◌≡◌, ◌<◌, ◌+◌, ◌-◌, Bool, true, false, List, [], ◌∷◌, ◌++◌, Option, Some, None, refl, sym, ap, ◌∙◌, subst, arith, ◌⊎◌, inl, inr}
use Rattle.std.proofs.lemmas.Bool.Decides.{nat_tests}
use Rattle.std.specs.Prelude.{◌==◌, if◌then◌else◌, is_none}
use Rattle.law_reuse.specs.inv.model.words.Place.{Place, has, is_valid}
use Rattle.law_reuse.specs.inv.model.words.Place.Place.{Head, Tail, Bucket, Row}
use Rattle.law_reuse.specs.inv.model.words.declared.layout.Layout.{Layout}
use Rattle.law_reuse.specs.inv.model.defs.declared.call.Call.{Call}
use Rattle.law_reuse.specs.inv.model.defs.declared.event.Event.{Event}
use Rattle.law_reuse.specs.inv.model.defs.declared.event.Event.TheVariants as events
use Rattle.law_reuse.specs.inv.model.defs.declared.event.Root.TheVariants as roots
use Rattle.law_reuse.specs.inv.model.defs.declared.fold.Change.{Change}
use Rattle.law_reuse.specs.inv.model.defs.declared.fold.Change.TheVariants as changes
use Rattle.law_reuse.specs.inv.model.defs.declared.lifetime.Lifetime.{Lifetime}
use Rattle.law_reuse.specs.inv.model.declared.post.Post.{Post}
use Rattle.law_reuse.specs.inv.model.Change.{told_change, changed_bucket}
use Rattle.law_reuse.specs.inv.model.Enqueue.{told_link}
use Rattle.law_reuse.specs.inv.model.Memory.{written}
use Rattle.law_reuse.specs.inv.model.Locals.{told_end, turn}
use Rattle.law_reuse.specs.inv.model.Posts.{counted}
use Rattle.law_reuse.specs.inv.model.Steps.{phase_move}
use Rattle.law_reuse.specs.inv.model.World.{World, finds, is_busy, offered, step, told_in, may_start, list_in}
use Rattle.law_reuse.specs.inv.model.Calls.{ChangeKept, EnqueueKept, LoadVersion, LoadCount, LoadKey, LoadValue, ExchangeRoot, LoadNumber, LoadNext, PassTail, ExchangeNext, ExchangeTail, LoadTail, SwingTail, TakeNumber, TakeValue, ExchangeHead, Getting, Changing, Enqueuing, Dequeuing, Keeping, ReadGuard, GiveBack, Phase, Idle, Runs, Scans, Works, CallTurn, CallOutcome, GoesOn, Answers}
use Rattle.law_reuse.proofs.inv.model.Facts.{same_number, both, first_of, rest_of, none_by, if_same, unless_true, same_both, number_is}
use Rattle.law_reuse.specs.inv.requests.Views.{View as Asked}
use Rattle.law_reuse.proofs.inv.requests.Kept.{requests_begin, requests_start}
use Rattle.law_reuse.specs.inv.rows.Agree.{first_rows, rows_after}
use Rattle.law_reuse.specs.inv.rows.Chain.{first_line, line_after}
use Rattle.law_reuse.specs.inv.rows.Hands.{hand_in, holds_slot, is_right, row_move}
use Rattle.law_reuse.specs.inv.rows.Queue.{Line, is_past, line_move, moved_line, Joins, Keeps}
use Rattle.law_reuse.specs.inv.rows.Rows.{Status, Hand, View, RowMove, made, names, status_in, is_taken, passed}
use Rattle.law_reuse.specs.inv.rows.Rows.Hand.{Taken}
use Rattle.law_reuse.specs.inv.rows.Rows.Status.{Free, Claimed, Born, Linked, InQueue, Cut, Sealed, Listed}
use Rattle.law_reuse.specs.inv.rows.Rows.RowMove.{Stays, Claims, Bears, Drops, Links, Replaces, Appends, Pops, Reads, Seals, Lists, Returns, Adopts}
use Rattle.law_reuse.proofs.inv.rows.Fits.{MoveFits}
use Rattle.law_reuse.proofs.inv.rows.Went.{WalksIn}
use Rattle.law_reuse.proofs.inv.covers.Kept.{before_at}
use Rattle.law_reuse.specs.inv.history.Record.{Past, Each, tells_of}
use Rattle.law_reuse.specs.inv.history.Record.Past.{Then}
use Rattle.law_reuse.proofs.inv.history.Entries.{entries_of_each}
use Rattle.law_reuse.specs.inv.history.History.{Begins, Steps, Made, done, first_made, record_of}
use Rattle.law_reuse.proofs.inv.history.Along.{Steady, items_keep}
use Rattle.law_reuse.specs.inv.Known.{Known}
use Rattle.law_reuse.proofs.inv.Inv.Begun.{known_start, known_begin}
use Rattle.law_reuse.proofs.inv.Inv.Kept.{known_kept, asked_next}
use Rattle.law_reuse.specs.inv.ends.Told.{row_events, birth_in, move_of}
use Rattle.law_reuse.proofs.laws.Along.{along}
use Rattle.law_reuse.proofs.inv.history.AllOf.{all_of, of_weaker}
use Rattle.law_reuse.specs.laws.StateAt.{next_by, next_at, was_given_by, was_given, tail_by, tail_at, head_at}
use Rattle.law_reuse.specs.laws.HistoryRows.{nexts_ok}
use Rattle.law_reuse.specs.laws.Once.{is_slot}
use Rattle.law_scans.specs.Places.{RecordsLinkNexts}
use Rattle.law_scans.proofs.Placing.Comes.{agree_of, shape_in}
use Rattle.law_scans.proofs.Placing.Fronts.{linked_front, queued_front, taken_front}
use Rattle.law_scans.proofs.Placing.Marks.{is_marked, is_common, marks, ordered, InOrder, tells, step_order}
use Rattle.law_scans.proofs.Ordering.Nexts.{Here, next_moved, tail_moved, joined_next, link_next, taken_next, linked_next, before_next}
use Rattle.law_scans.proofs.Ordering.Ordered.{word_of, Roots, roots_step, whole_comes, one_row, no_row, head_is}
use Rattle.law_scans.proofs.Placing.Shapes.{Claiming, Shape}
use Rattle.law_reuse.proofs.laws.Tells.{tells_both}
use Rattle.law_reuse.proofs.inv.rows.Queued.{finds_phase}
use Rattle.law_reuse.proofs.inv.Inv.Whole.{covers_of}
use Rattle.law_reuse.proofs.inv.rows.Made.{passed_taken}
use Rattle.law_reuse.proofs.inv.rows.Runs.{taken_slot}

-- a row that is given and not linked
abbrev pub is_new : Status → Bool
is_new Free = false
is_new (Claimed by) = true
is_new (Born by) = true
is_new (Linked bucket) = false
is_new InQueue = false
is_new (Cut by) = false
is_new (Sealed by retire) = false
is_new (Listed by retire) = false

abbrev pub claims : RowMove → ℕ → Bool
claims (Claims slot) s = s == slot
claims m s = false

-- a row that is new after a move is claimed by it, or was new
pub new_by : (x y : Status) (same : Bool) → is_new y ≡ false → is_new (if same then y else x) ≡ true → is_new x ≡ true
new_by x y true e h = absurd (cc)
new_by x y false e h = h

pub new_still : (v : View) (s slot : ℕ) (y : Status) (same : Bool) → (s == slot) ≡ same → is_new (v.status slot) ≡ true → is_new (if s == slot then y else v.status s) ≡ true → is_new (v.status s) ≡ true
new_still v s slot y true e n h = let q : slot ≡ s = grind (arith, nat_tests) in subst (λ (t : ℕ). is_new (v.status t) ≡ true) q n
new_still v s slot y false e n h = rw e at h

pub claimed_by : (x y : Status) (same : Bool) → is_new (if same then y else x) ≡ true → (same ≡ true) ⊎ (is_new x ≡ true)
claimed_by x y true h = inl refl
claimed_by x y false h = inr h

-- rows of a list that is taken over are as new as before
new_passed : (from to : ℕ) (x : Status) → is_new (passed from to x) ≡ is_new x
new_passed from to Free = refl
new_passed from to (Claimed by) = refl
new_passed from to (Born by) = refl
new_passed from to (Linked bucket) = refl
new_passed from to InQueue = refl
new_passed from to (Cut by) = refl
new_passed from to (Sealed by retire) = refl
new_passed from to (Listed by retire) = refl

pub new_before : (i : ℕ) (v : View) (m : RowMove) (s : ℕ) → MoveFits i v m → is_new ((made i v m).status s) ≡ true → (claims m s ≡ true) ⊎ (is_new (v.status s) ≡ true)
new_before i v Stays s f h = inr h
new_before i v (Claims slot) s f h = claimed_by (v.status s) (Claimed i) (s == slot) h
new_before i v (Bears slot birth) s f h = inr (new_still v s slot (Born i) (s == slot) refl (ap is_new f) h)
new_before i v (Drops slot) s f h = inr (new_by (v.status s) Free (s == slot) refl h)
new_before i v (Links bucket slot) s f h = inr (new_by (v.status s) (Linked bucket) (s == slot) refl h)
new_before i v (Replaces bucket slot old) s f h = inr (new_by (v.status s) (Linked bucket) (s == slot) refl (new_by (if s == slot then Linked bucket else v.status s) (Cut i) (s == old) refl h))
new_before i v (Appends slot) s f h = inr (new_by (v.status s) InQueue (s == slot) refl h)
new_before i v (Pops slot next) s f h = inr (new_by (v.status s) (Cut i) (s == slot) refl h)
new_before i v (Reads slot birth) s f h = inr h
new_before i v (Seals slot birth retire) s f h = inr (new_by (v.status s) (Sealed i retire) (s == slot) refl h)
new_before i v (Lists slot birth retire) s f h = inr (new_by (v.status s) (Listed i retire) (s == slot) refl h)
new_before i v (Returns slot) s f h = inr (new_by (v.status s) Free (s == slot) refl h)
new_before i v (Adopts from) s f h = inr (sym (new_passed from i (v.status s)) ∙ h)

-- a row that is taken after a move is claimed by it, or was taken
taken_still : (v : View) (s slot : ℕ) (y : Status) (same : Bool) → (s == slot) ≡ same → is_taken (v.status slot) ≡ true → is_taken (if s == slot then y else v.status s) ≡ true → is_taken (v.status s) ≡ true
taken_still v s slot y true e n h = let q : slot ≡ s = grind (arith, nat_tests) in subst (λ (t : ℕ). is_taken (v.status t) ≡ true) q n
taken_still v s slot y false e n h = rw e at h

taken_by : (x y : Status) (same : Bool) → is_taken y ≡ false → is_taken (if same then y else x) ≡ true → is_taken x ≡ true
taken_by x y true e h = absurd (cc)
taken_by x y false e h = h

took_by : (x y : Status) (same : Bool) → is_taken (if same then y else x) ≡ true → (same ≡ true) ⊎ (is_taken x ≡ true)
took_by x y true h = inl refl
took_by x y false h = inr h

taken_two : (v : View) (s slot old : ℕ) (y x : Status) (same : Bool) → (s == old) ≡ same → is_taken (v.status slot) ≡ true → is_taken (v.status old) ≡ true → is_taken (if s == old then y else if s == slot then x else v.status s) ≡ true → is_taken (v.status s) ≡ true
taken_two v s slot old y x true e n m h = let q : old ≡ s = grind (arith, nat_tests) in subst (λ (t : ℕ). is_taken (v.status t) ≡ true) q m
taken_two v s slot old y x false e n m h = taken_still v s slot x (s == slot) refl n (rw e at h)

taken_before : (i : ℕ) (v : View) (m : RowMove) (s : ℕ) → MoveFits i v m → is_taken ((made i v m).status s) ≡ true → (claims m s ≡ true) ⊎ (is_taken (v.status s) ≡ true)
taken_before i v Stays s f h = inr h
taken_before i v (Claims slot) s f h = took_by (v.status s) (Claimed i) (s == slot) h
taken_before i v (Bears slot birth) s f h = inr (taken_still v s slot (Born i) (s == slot) refl (ap is_taken f) h)
taken_before i v (Drops slot) s f h = inr (taken_by (v.status s) Free (s == slot) refl h)
taken_before i v (Links bucket slot) s f h = inr (taken_still v s slot (Linked bucket) (s == slot) refl (ap is_taken f) h)
taken_before i v (Replaces bucket slot old) s f h = inr (taken_two v s slot old (Cut i) (Linked bucket) (s == old) refl (ap is_taken f.0) (ap is_taken f.1) h)
taken_before i v (Appends slot) s f h = inr (taken_still v s slot InQueue (s == slot) refl (ap is_taken f) h)
taken_before i v (Pops slot next) s f h = inr (taken_still v s slot (Cut i) (s == slot) refl (ap is_taken f) h)
taken_before i v (Reads slot birth) s f h = inr h
taken_before i v (Seals slot birth retire) s f h = inr (taken_still v s slot (Sealed i retire) (s == slot) refl (ap is_taken f) h)
taken_before i v (Lists slot birth retire) s f h = inr (taken_still v s slot (Listed i retire) (s == slot) refl (ap is_taken f) h)
taken_before i v (Returns slot) s f h = inr (taken_by (v.status s) Free (s == slot) refl h)
taken_before i v (Adopts from) s f h = inr (sym (passed_taken from i (v.status s)) ∙ h)

-- a next link that leads nowhere stays so, unless a row is linked there
pub rows_none : (s b : ℕ) (m : RowMove) → along (next_by s) (row_events b m) None ≡ None
rows_none s b (Claims slot) = either None (s == slot)
  where
    either : (y : Option ℕ) (x : Bool) → (if x then y else y) ≡ y
    either y true = refl
    either y false = refl
rows_none s b Stays = refl
rows_none s b (Bears slot birth) = refl
rows_none s b (Drops slot) = refl
rows_none s b (Links bucket slot) = refl
rows_none s b (Replaces bucket slot old) = refl
rows_none s b (Appends slot) = refl
rows_none s b (Pops slot next) = refl
rows_none s b (Reads slot birth) = refl
rows_none s b (Seals slot birth retire) = refl
rows_none s b (Lists slot birth retire) = refl
rows_none s b (Returns slot) = refl
rows_none s b (Adopts from) = refl

pub queued_none : (kept : EnqueueKept) (slot s : ℕ) (same : Bool) → (s == kept.tail) ≡ false → along (next_by s) (queued_front kept slot same) None ≡ None
queued_none kept slot s true e = rw e refl
queued_none kept slot s false e = refl

pub none_moved : (phase : Phase) (post : Post) (found s : ℕ) → ((kept : EnqueueKept) (slot : ℕ) → phase ≡ Works (Enqueuing kept (ExchangeNext slot)) → (s == kept.tail) ≡ false) → along (next_by s) (marks phase post found) None ≡ None
none_moved Idle post found s h = refl
none_moved (Runs why base) post found s h = rows_none s (birth_in (Runs why base)) (row_move (Runs why base) post found)
none_moved (Scans later (ReadGuard number)) post found s h = refl
none_moved (Scans later (GiveBack place slot)) post found s h = refl
none_moved (Works (Getting key at)) post found s h = refl
none_moved (Works (Keeping at)) post found s h = refl
none_moved (Works (Changing kept (LoadVersion slot))) post found s h = refl
none_moved (Works (Changing kept (LoadCount slot))) post found s h = refl
none_moved (Works (Changing kept (LoadKey slot count))) post found s h = refl
none_moved (Works (Changing kept (LoadValue slot count key))) post found s h = refl
none_moved (Works (Changing kept (ExchangeRoot slot))) post found s h = linked_next kept slot (counted post) s None (found == kept.link)
none_moved (Works (Enqueuing kept LoadNumber)) post found s h = refl
none_moved (Works (Enqueuing kept LoadNext)) post found s h = refl
none_moved (Works (Enqueuing kept (PassTail next))) post found s h = link_next s (next - 1) None (found == kept.tail + 1)
none_moved (Works (Enqueuing kept (ExchangeNext slot))) post found s h = queued_none kept slot s (found == 0) (h kept slot refl)
none_moved (Works (Enqueuing kept (ExchangeTail slot))) post found s h = link_next s slot None (found == kept.tail + 1)
none_moved (Works (Dequeuing (LoadTail head))) post found s h = refl
none_moved (Works (Dequeuing (SwingTail head next))) post found s h = link_next s next None (found == head + 1)
none_moved (Works (Dequeuing (TakeNumber head next))) post found s h = refl
none_moved (Works (Dequeuing (TakeValue head next number))) post found s h = refl
none_moved (Works (Dequeuing (ExchangeHead head next number value))) post found s h = taken_next s head next number value None (found == head + 1)

-- a row that joins the queue, or was in it since it was claimed
pub record Joining (phase : Phase) (found s : ℕ) : Type 0 where
  pub kept : EnqueueKept
  pub at : phase ≡ Works (Enqueuing kept (ExchangeNext s))

pub joins_by : (l : Line) (kept : EnqueueKept) (slot found s : ℕ) (none same : Bool) → (s == slot) ≡ same → (moved_line l (if none then Joins kept.tail slot else Keeps)).lined s ≡ true → (l.lined s ≡ true) ⊎ Joining (Works (Enqueuing kept (ExchangeNext slot))) found s
joins_by l kept slot found s true true e h = let q : slot ≡ s = grind (arith, nat_tests) in inr (record { kept = kept; at = ap (λ (t : ℕ). Works (Enqueuing kept (ExchangeNext t))) q })
joins_by l kept slot found s true false e h = inl (rw e at h)
joins_by l kept slot found s false same e h = inl h

pub lined_by : (phase : Phase) (found : ℕ) (l : Line) (s : ℕ) → (moved_line l (line_move phase found)).lined s ≡ true → (l.lined s ≡ true) ⊎ Joining phase found s
lined_by Idle found l s h = inl h
lined_by (Runs why base) found l s h = inl h
lined_by (Scans later (ReadGuard number)) found l s h = inl h
lined_by (Scans later (GiveBack place slot)) found l s h = inl (unless_true (l.lined s) (s == slot) h)
lined_by (Works (Getting key at)) found l s h = inl h
lined_by (Works (Keeping at)) found l s h = inl h
lined_by (Works (Changing kept at)) found l s h = inl h
lined_by (Works (Enqueuing kept LoadNumber)) found l s h = inl h
lined_by (Works (Enqueuing kept LoadNext)) found l s h = inl h
lined_by (Works (Enqueuing kept (PassTail next))) found l s h = inl h
lined_by (Works (Enqueuing kept (ExchangeNext slot))) found l s h = joins_by l kept slot found s (found == 0) (s == slot) refl h
lined_by (Works (Enqueuing kept (ExchangeTail slot))) found l s h = inl h
lined_by (Works (Dequeuing at)) found l s h = inl h

-- what is known of the queue's links by the record
pub record Nexts (slots : ℕ) (w : World) (v : View) (l : Line) (p : Past) : Type 0 where
  pub tail : tail_at slots p + 1 ≡ w.mem Tail
  pub next : (s : ℕ) → l.lined s ≡ true → word_of (next_at s p) ≡ w.mem (Row s 0)
  pub fresh : (s : ℕ) → is_new (v.status s) ≡ true → next_at s p ≡ None
  pub given : (s : ℕ) → is_taken (v.status s) ≡ true → was_given slots s p ≡ true

pub here_of : (w : World) (i : ℕ) (v : View) (l : Line) (z : Asked) → Known w v l z → Here w.layout.config.slots i w.mem v l (w.seat i).phase (w.seat i).post (list_in w i)
here_of w i v l z k =
    let a = agree_of w v l z k in
    record { good = a.good; plays = a.plays i; line = k.whole.both.queue.line; walks = k.whole.both.queue.walks i; fits = before_at w i v (covers_of w i v l z k) }

pub next_still : (s : ℕ) (event : Event) (x : Option ℕ) → is_marked event ≡ false → next_by s event x ≡ x
next_still s (events.Link root slot) x h = absurd (cc)
next_still s (events.Give slot birth) x h = absurd (cc)
next_still s event x h = refl

pub next_end : (s : ℕ) (post : Post) (outcome : CallOutcome) (x : Option ℕ) → along (next_by s) (told_end post outcome) x ≡ x
next_end s post (GoesOn phase) x = refl
next_end s post (Answers answer) x = refl

pub tail_still : (event : Event) (x : ℕ) → is_marked event ≡ false → tail_by event x ≡ x
tail_still (events.Link root slot) x h = absurd (cc)
tail_still event x h = refl

pub tail_end : (post : Post) (outcome : CallOutcome) (x : ℕ) → along tail_by (told_end post outcome) x ≡ x
tail_end post (GoesOn phase) x = refl
tail_end post (Answers answer) x = refl

pub next_comes : (w : World) (i : ℕ) (p : Past) (s : ℕ) → next_at s (tells_of p i (told_in w i)) ≡ along (next_by s) (marks (w.seat i).phase (w.seat i).post (finds w i)) (next_at s p)
next_comes w i p s = whole_comes (next_by s) (next_at s) w i p (λ q event. refl) (next_still s) (next_end s)

-- a new row is not the one behind which another is linked
pub new_past : (x : Status) → is_new x ≡ true → is_past x ≡ true → false ≡ true
new_past Free a b = a
new_past (Claimed by) a b = b
new_past (Born by) a b = b
new_past (Linked bucket) a b = a
new_past InQueue a b = a
new_past (Cut by) a b = a
new_past (Sealed by retire) a b = a
new_past (Listed by retire) a b = a

pub new_apart : (slots i : ℕ) (mem : Place → ℕ) (v : View) (l : Line) (phase : Phase) (post : Post) (list : List Lifetime) (s : ℕ) → Here slots i mem v l phase post list → is_new (v.status s) ≡ true → (kept : EnqueueKept) (slot : ℕ) → phase ≡ Works (Enqueuing kept (ExchangeNext slot)) → (s == kept.tail) ≡ false
new_apart slots i mem v l phase post list s k n kept slot e = by (s == kept.tail) refl
  where
    by : (x : Bool) → (s == kept.tail) ≡ x → x ≡ false
    by false u = refl
    by true u =
        let q : kept.tail ≡ s = grind (arith, nat_tests) in
        let walks = subst (λ (x : Phase). WalksIn x v l mem) e k.walks in
        let lined : l.lined kept.tail ≡ true = walks.stood kept.tail (same_number kept.tail) in
        let past : is_past (v.status s) ≡ true = ap (λ (t : ℕ). is_past (v.status t)) (sym q) ∙ k.line.passed kept.tail lined in
        let z : false ≡ true = new_past (v.status s) n past in
        absurd (cc)

pub claimed_none : (s slot birth : ℕ) (x : Option ℕ) → (s == slot) ≡ true → along (next_by s) (events.Give slot birth ∷ []) x ≡ None
claimed_none s slot birth x e = rw e refl

pub claims_slot : (m : RowMove) (s : ℕ) → claims m s ≡ true → (slot : ℕ) × (m ≡ Claims slot) × ((s == slot) ≡ true)
claims_slot (Claims slot) s h = (slot, refl, h)
claims_slot m s h = absurd (cc)

pub fresh_step : (w : World) (i : ℕ) (v : View) (l : Line) (z : Asked) (p : Past) (s : ℕ) → Known w v l z → ((t : ℕ) → is_new (v.status t) ≡ true → next_at t p ≡ None) → (claims (move_of w i) s ≡ true) ⊎ (is_new (v.status s) ≡ true) → next_at s (tells_of p i (told_in w i)) ≡ None
fresh_step w i v l z p s k f (inl c) =
    let q = claims_slot (move_of w i) s c in
    let h : Claiming (w.seat i).phase q.0 (marks (w.seat i).phase (w.seat i).post (finds w i)) =
    subst (λ (m : RowMove). Shape (w.seat i).phase (w.seat i).post (finds w i) m (marks (w.seat i).phase (w.seat i).post (finds w i))) q.1 (shape_in w i v (agree_of w v l z k)) in
    next_comes w i p s ∙ ap (λ (es : List Event). along (next_by s) es (next_at s p)) h.is ∙ claimed_none s q.0 h.birth (next_at s p) q.2
fresh_step w i v l z p s k f (inr n) =
    next_comes w i p s
    ∙ ap (along (next_by s) (marks (w.seat i).phase (w.seat i).post (finds w i))) (f s n)
    ∙ none_moved (w.seat i).phase (w.seat i).post (finds w i) s (new_apart w.layout.config.slots i w.mem v l (w.seat i).phase (w.seat i).post (list_in w i) s (here_of w i v l z k) n)

-- a row that joins the queue has a null link, by the record and by its word
pub join_moved : (slots i : ℕ) (mem : Place → ℕ) (v : View) (l : Line) (phase : Phase) (post : Post) (list : List Lifetime) (s : ℕ) (x : Option ℕ) (kept : EnqueueKept) → Here slots i mem v l phase post list → phase ≡ Works (Enqueuing kept (ExchangeNext s)) → word_of x ≡ mem (Row s 0)
    → word_of (along (next_by s) (marks phase post (finds_phase mem phase post)) x) ≡ written mem (phase_move phase post) (Row s 0)
join_moved slots i mem v l phase post list s x kept k e h =
    subst (λ (y : Phase). word_of (along (next_by s) (marks y post (finds_phase mem y post)) x) ≡ written mem (phase_move y post) (Row s 0)) (sym e) (joined_next mem kept s s x (mem (Row kept.tail 0) == 0) refl h)

pub joins_null : (slots i : ℕ) (mem : Place → ℕ) (v : View) (l : Line) (phase : Phase) (post : Post) (list : List Lifetime) (s : ℕ) (kept : EnqueueKept) → Here slots i mem v l phase post list → phase ≡ Works (Enqueuing kept (ExchangeNext s)) → mem (Row s 0) ≡ 0
joins_null slots i mem v l phase post list s kept k e =
    let walks = subst (λ (x : Phase). WalksIn x v l mem) e k.walks in
    walks.blank s (same_number s)

pub joins_new : (w : World) (i : ℕ) (v : View) (l : Line) (z : Asked) (s : ℕ) (kept : EnqueueKept) → Known w v l z → (w.seat i).phase ≡ Works (Enqueuing kept (ExchangeNext s)) → is_new (v.status s) ≡ true
joins_new w i v l z s kept k e =
    let a = agree_of w v l z k in
    let right : holds_slot kept.taken s ≡ true = subst (λ (x : Phase). is_right x (list_in w i) ≡ true) e (a.plays i).right in
    let h : v.hand i ≡ Taken s = (a.plays i).hand ∙ ap hand_in e ∙ taken_slot kept.taken s right in
    let n : names (v.hand i) s ≡ true = ap (λ (x : Hand). names x s) h ∙ same_number s in
    ap is_new (a.good.hands i s n ∙ ap (status_in i) h)

next_step : (w : World) (i : ℕ) (v : View) (l : Line) (z : Asked) (p : Past) (s : ℕ) → Known w v l z → Nexts w.layout.config.slots w v l p → (l.lined s ≡ true) ⊎ Joining (w.seat i).phase (finds w i) s → word_of (next_at s (tells_of p i (told_in w i))) ≡ (step w i).mem (Row s 0)
next_step w i v l z p s k g (inl h) =
    ap word_of (next_comes w i p s) ∙ next_moved w.layout.config.slots i w.mem v l (w.seat i).phase (w.seat i).post (list_in w i) s (next_at s p) (here_of w i v l z k) h (g.next s h)
next_step w i v l z p s k g (inr j) =
    let here = here_of w i v l z k in
    let null : w.mem (Row s 0) ≡ 0 = joins_null w.layout.config.slots i w.mem v l (w.seat i).phase (w.seat i).post (list_in w i) s j.kept here j.at in
    let none : next_at s p ≡ None = g.fresh s (joins_new w i v l z s j.kept k j.at) in
    ap word_of (next_comes w i p s)
    ∙ join_moved w.layout.config.slots i w.mem v l (w.seat i).phase (w.seat i).post (list_in w i) s (next_at s p) j.kept here j.at (ap word_of none ∙ sym null)

-- a row that is taken was given
turned_given : (slots s slot birth : ℕ) (x : Bool) → (s == slot) ≡ true → along (was_given_by s) (events.Give slot birth ∷ []) x ≡ true
turned_given slots s slot birth x e = rw e refl

given_keeps : (s : ℕ) (event : Event) (x : Bool) → x ≡ true → was_given_by s event x ≡ true
given_keeps s (events.Give slot birth) x e = by (s == slot)
  where
    by : (same : Bool) → (if same then true else x) ≡ true
    by true = refl
    by false = e
given_keeps s event x e = e

given_along : (s : ℕ) (told : List Event) (x : Bool) → x ≡ true → along (was_given_by s) told x ≡ true
given_along s [] x e = e
given_along s (event ∷ told) x e = given_along s told (was_given_by s event x) (given_keeps s event x e)

given_still : (s : ℕ) (event : Event) (x : Bool) → is_marked event ≡ false → was_given_by s event x ≡ x
given_still s (events.Give slot birth) x h = absurd (cc)
given_still s event x h = refl

given_end : (s : ℕ) (post : Post) (outcome : CallOutcome) (x : Bool) → along (was_given_by s) (told_end post outcome) x ≡ x
given_end s post (GoesOn phase) x = refl
given_end s post (Answers answer) x = refl

given_step : (slots : ℕ) (w : World) (i : ℕ) (v : View) (l : Line) (z : Asked) (p : Past) (s : ℕ) → Known w v l z → ((t : ℕ) → is_taken (v.status t) ≡ true → was_given slots t p ≡ true) → (claims (move_of w i) s ≡ true) ⊎ (is_taken (v.status s) ≡ true) → was_given slots s (tells_of p i (told_in w i)) ≡ true
given_step slots w i v l z p s k f (inl c) =
    let q = claims_slot (move_of w i) s c in
    let h : Claiming (w.seat i).phase q.0 (marks (w.seat i).phase (w.seat i).post (finds w i)) =
    subst (λ (m : RowMove). Shape (w.seat i).phase (w.seat i).post (finds w i) m (marks (w.seat i).phase (w.seat i).post (finds w i))) q.1 (shape_in w i v (agree_of w v l z k)) in
    whole_comes (was_given_by s) (was_given slots s) w i p (λ r event. refl) (given_still s) (given_end s)
    ∙ ap (λ (es : List Event). along (was_given_by s) es (was_given slots s p)) h.is ∙ turned_given slots s q.0 h.birth (was_given slots s p) q.2
given_step slots w i v l z p s k f (inr n) =
    whole_comes (was_given_by s) (was_given slots s) w i p (λ r event. refl) (given_still s) (given_end s)
    ∙ given_along s (marks (w.seat i).phase (w.seat i).post (finds w i)) (was_given slots s p) (f s n)

nexts_step : (w : World) (i : ℕ) (v : View) (l : Line) (z : Asked) (p : Past) → Known w v l z → Nexts w.layout.config.slots w v l p → Nexts w.layout.config.slots (step w i) (rows_after w i v) (line_after w i l) (tells_of p i (told_in w i))
nexts_step w i v l z p k g = record {
  tail =
      ap (λ (n : ℕ). n + 1) (whole_comes tail_by (tail_at w.layout.config.slots) w i p (λ q event. refl) tail_still tail_end)
      ∙ tail_moved w.layout.config.slots i w.mem v l (w.seat i).phase (w.seat i).post (list_in w i) (tail_at w.layout.config.slots p) (here_of w i v l z k) g.tail;
  next = λ s h. next_step w i v l z p s k g (lined_by (w.seat i).phase (finds w i) l s h);
  fresh = λ s h. fresh_step w i v l z p s k g.fresh (new_before i v (move_of w i) s ((here_of w i v l z k).fits) h);
  given = λ s h. given_step w.layout.config.slots w i v l z p s k g.given (taken_before i v (move_of w i) s ((here_of w i v l z k).fits) h);
}

-- an event that links nothing of the queue
abbrev pub links_none : Event → Bool
links_none (events.Link (roots.Next parent) slot) = false
links_none (events.Link roots.Head slot) = false
links_none (events.Link roots.Tail slot) = false
links_none event = true

none_ok : (slots : ℕ) (p : Past) (i : ℕ) (event : Event) → links_none event ≡ true → nexts_ok slots p i event ≡ true
none_ok slots p i (events.Link (roots.Next parent) slot) h = absurd (cc)
none_ok slots p i (events.Link roots.Head slot) h = absurd (cc)
none_ok slots p i (events.Link roots.Tail slot) h = absurd (cc)
none_ok slots p i event h = refl

common_none : (event : Event) → is_common event ≡ true → links_none event ≡ true
common_none (events.Link (roots.Next parent) slot) h = absurd (cc)
common_none (events.Link roots.Head slot) h = absurd (cc)
common_none (events.Link roots.Tail slot) h = absurd (cc)
common_none event h = refl

none_each : (slots i : ℕ) (told : List Event) (p : Past) → all_of links_none told ≡ true → Each (nexts_ok slots) p → Each (nexts_ok slots) (tells_of p i told)
none_each slots i [] p h g = g
none_each slots i (event ∷ told) p h g = none_each slots i told (Then p i event) (rest_of (links_none event) (all_of links_none told) h) (none_ok slots p i event (first_of (links_none event) (all_of links_none told) h), g)

change_none : (bucket version : ℕ) (change : Change) → all_of links_none (told_change bucket version change ∷ []) ≡ true
change_none bucket version (changes.Put key value) = refl
change_none bucket version (changes.Removed key) = refl

cut_none : (link : ℕ) (none : Bool) (told : List Event) → all_of links_none told ≡ true → all_of links_none ((if none then [] else events.Cut (link - 1) ∷ []) ++ told) ≡ true
cut_none link true told h = h
cut_none link false told h = h

linked_none : (kept : ChangeKept) (slot : ℕ) (post : Post) (same : Bool) → all_of links_none (linked_front kept slot post same) ≡ true
linked_none kept slot post true = cut_none kept.link (kept.link == 0) _ (change_none (changed_bucket kept post) (kept.version + 1) kept.change)
linked_none kept slot post false = refl

-- the next row of a row that was in the queue
pub row_is : (slot : ℕ) (x : Option ℕ) → x ≡ Some slot → is_slot slot x ≡ true
row_is slot x e = ap (is_slot slot) e ∙ same_number slot

-- the links of a step, at what the record says before it
record Before (slots i : ℕ) (mem : Place → ℕ) (v : View) (l : Line) (p : Past) : Type 0 where
  tail : tail_at slots p + 1 ≡ mem Tail
  head : head_at slots p + 1 ≡ mem Head
  next : (s : ℕ) → l.lined s ≡ true → word_of (next_at s p) ≡ mem (Row s 0)
  given : (s : ℕ) → is_taken (v.status s) ≡ true → was_given slots s p ≡ true

past_taken : (x : Status) → is_past x ≡ true → is_taken x ≡ true
past_taken InQueue h = refl
past_taken (Cut by) h = refl
past_taken (Sealed by retire) h = refl
past_taken (Listed by retire) h = refl
past_taken x h = absurd (cc)

follows : (slots i : ℕ) (mem : Place → ℕ) (v : View) (l : Line) (p : Past) (h m : ℕ) → Before slots i mem v l p → l.lined h ≡ true → mem (Row h 0) ≡ m + 1 → next_at h p ≡ Some m
follows slots i mem v l p h m b e n = one_row (next_at h p) m (b.next h e ∙ n)

swings_each : (slots i : ℕ) (mem : Place → ℕ) (v : View) (l : Line) (p : Past) (h m : ℕ) (same : Bool) → (mem Tail == h + 1) ≡ same → Before slots i mem v l p → l.lined h ≡ true → mem (Row h 0) ≡ m + 1 → Each (nexts_ok slots) p → Each (nexts_ok slots) (tells_of p i (told_link roots.Tail m same))
swings_each slots i mem v l p h m false q b e n g = g
swings_each slots i mem v l p h m true q b e n g =
    let at : tail_at slots p ≡ h = head_is (mem Tail) h (mem Tail) (tail_at slots p) b.tail refl (number_is (mem Tail) (h + 1) q) in
    (row_is m (next_at (tail_at slots p) p) (ap (λ (s : ℕ). next_at s p) at ∙ follows slots i mem v l p h m b e n), g)

joins_each : (slots i : ℕ) (mem : Place → ℕ) (v : View) (l : Line) (p : Past) (kept : EnqueueKept) (slot : ℕ) (same : Bool) → (mem (Row kept.tail 0) == 0) ≡ same → Before slots i mem v l p → is_past (v.status kept.tail) ≡ true → l.lined kept.tail ≡ true → Each (nexts_ok slots) p → Each (nexts_ok slots) (tells_of p i (queued_front kept slot same))
joins_each slots i mem v l p kept slot false q b t e g = g
joins_each slots i mem v l p kept slot true q b t e g =
    let null : is_none (next_at kept.tail p) ≡ true = none_by (next_at kept.tail p) (no_row (next_at kept.tail p) (b.next kept.tail e ∙ number_is (mem (Row kept.tail 0)) 0 q)) in
    (refl, (both (was_given slots kept.tail p) (is_none (next_at kept.tail p)) (b.given kept.tail (past_taken (v.status kept.tail) t)) null, g))

pops_each : (slots i : ℕ) (mem : Place → ℕ) (v : View) (l : Line) (p : Past) (head next number value : ℕ) (same : Bool) → (mem Head == head + 1) ≡ same → Before slots i mem v l p → l.lined head ≡ true → mem (Row head 0) ≡ next + 1 → Each (nexts_ok slots) p → Each (nexts_ok slots) (tells_of p i (taken_front head next number value same))
pops_each slots i mem v l p head next number value false q b e n g = g
pops_each slots i mem v l p head next number value true q b e n g =
    let at : head_at slots p ≡ head = head_is (mem Head) head (mem Head) (head_at slots p) b.head refl (number_is (mem Head) (head + 1) q) in
    (refl, (refl, (row_is next (next_at (head_at slots p) p) (ap (λ (s : ℕ). next_at s p) at ∙ follows slots i mem v l p head next b e n), g)))

ordered_each : (slots table i : ℕ) (mem : Place → ℕ) (v : View) (l : Line) (phase : Phase) (post : Post) (list : List Lifetime) (p : Past) → Here table i mem v l phase post list → Before slots i mem v l p → Each (nexts_ok slots) p → Each (nexts_ok slots) (tells_of p i (ordered phase post (finds_phase mem phase post)))
ordered_each slots table i mem v l Idle post list p k b g = g
ordered_each slots table i mem v l (Runs why base) post list p k b g = g
ordered_each slots table i mem v l (Scans later at) post list p k b g = g
ordered_each slots table i mem v l (Works (Getting key at)) post list p k b g = g
ordered_each slots table i mem v l (Works (Keeping at)) post list p k b g = g
ordered_each slots table i mem v l (Works (Changing kept (LoadVersion slot))) post list p k b g = g
ordered_each slots table i mem v l (Works (Changing kept (LoadCount slot))) post list p k b g = g
ordered_each slots table i mem v l (Works (Changing kept (LoadKey slot count))) post list p k b g = g
ordered_each slots table i mem v l (Works (Changing kept (LoadValue slot count key))) post list p k b g = g
ordered_each slots table i mem v l (Works (Changing kept (ExchangeRoot slot))) post list p k b g =
    none_each slots i (linked_front kept slot (counted post) (mem (Bucket (changed_bucket kept post)) == kept.link)) p (linked_none kept slot (counted post) (mem (Bucket (changed_bucket kept post)) == kept.link)) g
ordered_each slots table i mem v l (Works (Enqueuing kept LoadNumber)) post list p k b g = g
ordered_each slots table i mem v l (Works (Enqueuing kept LoadNext)) post list p k b g = g
ordered_each slots table i mem v l (Works (Enqueuing kept (PassTail next))) post list p k b g =
    swings_each slots i mem v l p kept.tail (next - 1) (mem Tail == kept.tail + 1) refl b (k.walks.stood kept.tail (same_number kept.tail))
    (k.walks.follows kept.tail next (same_both kept.tail next) ∙ sym (before_next next (k.walks.some kept.tail next (same_both kept.tail next)))) g
ordered_each slots table i mem v l (Works (Enqueuing kept (ExchangeNext slot))) post list p k b g = joins_each slots i mem v l p kept slot (mem (Row kept.tail 0) == 0) refl b (k.line.passed kept.tail (k.walks.stood kept.tail (same_number kept.tail))) (k.walks.stood kept.tail (same_number kept.tail)) g
ordered_each slots table i mem v l (Works (Enqueuing kept (ExchangeTail slot))) post list p k b g =
    swings_each slots i mem v l p kept.tail slot (mem Tail == kept.tail + 1) refl b (k.walks.stood kept.tail (same_number kept.tail)) (k.walks.follows kept.tail (slot + 1) (same_both kept.tail (slot + 1))) g
ordered_each slots table i mem v l (Works (Dequeuing (LoadTail head))) post list p k b g = g
ordered_each slots table i mem v l (Works (Dequeuing (SwingTail head next))) post list p k b g =
    swings_each slots i mem v l p head next (mem Tail == head + 1) refl b (k.walks.stood head (same_number head)) (k.walks.follows head (next + 1) (same_both head (next + 1))) g
ordered_each slots table i mem v l (Works (Dequeuing (TakeNumber head next))) post list p k b g = g
ordered_each slots table i mem v l (Works (Dequeuing (TakeValue head next number))) post list p k b g = g
ordered_each slots table i mem v l (Works (Dequeuing (ExchangeHead head next number value))) post list p k b g =
    pops_each slots i mem v l p head next number value (mem Head == head + 1) refl b (k.walks.stood head (same_number head)) (k.walks.follows head (next + 1) (same_both head (next + 1))) g

end_none : (post : Post) (outcome : CallOutcome) → all_of links_none (told_end post outcome) ≡ true
end_none post (GoesOn phase) = refl
end_none post (Answers answer) = refl

step_law : (slots : ℕ) (w : World) (i : ℕ) (v : View) (l : Line) (z : Asked) (p : Past) → Known w v l z → Before slots i w.mem v l p → Each (nexts_ok slots) p → Each (nexts_ok slots) (tells_of p i (told_in w i))
step_law slots w i v l z p k b g =
    let t : CallTurn = turn (offered w i) (finds w i) in
    let first : List Event = ordered (w.seat i).phase (w.seat i).post (finds w i) in
    let o : InOrder first (tells w i) = step_order w i in
    let one : Each (nexts_ok slots) (tells_of p i first) = ordered_each slots w.layout.config.slots i w.mem v l (w.seat i).phase (w.seat i).post (list_in w i) p (here_of w i v l z k) b g in
    let two : Each (nexts_ok slots) (tells_of (tells_of p i first) i o.rest) = none_each slots i o.rest (tells_of p i first) (of_weaker is_common links_none o.rest common_none o.calm) one in
    let three : Each (nexts_ok slots) (tells_of p i t.told) = subst (λ (q : Past). Each (nexts_ok slots) q) (sym (ap (tells_of p i) o.is ∙ tells_both i first o.rest p)) two in
    subst (λ (q : Past). Each (nexts_ok slots) q) (sym (tells_both i t.told (told_end t.post t.outcome) p)) (none_each slots i (told_end t.post t.outcome) (tells_of p i t.told) (end_none t.post t.outcome) three)

-- what a history keeps
record LinksKept (layout : Layout) (made : Made) : Type 0 where
  table : made.world.layout ≡ layout
  rows : View
  line : Line
  asked : Asked
  known : Known made.world rows line asked
  roots : Roots layout.config.slots rows made.past
  nexts : Nexts made.world.layout.config.slots made.world rows line made.past
  law : Each (nexts_ok layout.config.slots) made.past

begin_nexts : (slots : ℕ) (w u : World) (v : View) (l : Line) (p : Past) (i : ℕ) (call : Call) → u.mem Tail ≡ w.mem Tail → ((s : ℕ) → u.mem (Row s 0) ≡ w.mem (Row s 0)) → Nexts slots w v l p → Nexts slots u v l (Then p i (events.Begin call))
begin_nexts slots w u v l p i call t n g = record { tail = g.tail ∙ sym t; next = λ s h. g.next s h ∙ sym (n s); fresh = g.fresh; given = g.given }

begin_kept : (layout : Layout) (made : Made) (i : ℕ) (call : Call) → is_busy made.world i ≡ false → may_start made.world i call ≡ true → LinksKept layout made → LinksKept layout (done made (Begins i call))
begin_kept layout made i call f n g =
    let k = g.known in
    let q = requests_begin made.world i call g.asked k.valid f k.seats k.requests in
    let d = done made (Begins i call) in
    record {
      table = g.table;
      rows = g.rows;
      line = g.line;
      asked = q.0;
      known = known_begin made.world i call g.rows g.line g.asked q.0 f n k q.1.facts q.1.deal;
      roots = record { buckets = g.roots.buckets; head = g.roots.head };
      nexts = begin_nexts made.world.layout.config.slots made.world d.world g.rows g.line made.past i call refl (λ s. refl) g.nexts;
      law = (refl, g.law);
    }

before_of : (layout : Layout) (made : Made) (i : ℕ) (k : LinksKept layout made) → Before layout.config.slots i made.world.mem k.rows k.line made.past
before_of layout made i k =
    let a = agree_of made.world k.rows k.line k.asked k.known in
    record {
      tail = subst (λ (x : Layout). tail_at x.config.slots made.past + 1 ≡ made.world.mem Tail) k.table k.nexts.tail;
      head = k.roots.head ∙ sym a.words.head;
      next = k.nexts.next;
      given = λ s. subst (λ (x : Layout). is_taken (k.rows.status s) ≡ true → was_given x.config.slots s made.past ≡ true) k.table (k.nexts.given s);
    }

step_kept : (layout : Layout) (made : Made) (i : ℕ) → i < made.world.layout.config.seats → LinksKept layout made → LinksKept layout (done made (Steps i))
step_kept layout made i b g =
    let w : World = made.world in
    let q = asked_next w i g.rows g.line g.asked b g.known in
    let a = agree_of w g.rows g.line g.asked g.known in
    record {
      table = g.table;
      rows = rows_after w i g.rows;
      line = line_after w i g.line;
      asked = q.0;
      known = known_kept w i g.rows g.line g.asked q.0 b g.known q.1.facts q.1.deal;
      roots = roots_step layout.config.slots w i g.rows made.past a g.roots;
      nexts = nexts_step w i g.rows g.line g.asked made.past g.known g.nexts;
      law = step_law layout.config.slots w i g.rows g.line g.asked made.past g.known (before_of layout made i g) g.law;
    }

steady : (layout : Layout) → Steady (LinksKept layout)
steady layout = record { begins = λ made i call b y m g. begin_kept layout made i call y m g; steps = λ made i b y g. step_kept layout made i b g }

-- and no row is taken but the dummy
first_given : (s slots : ℕ) (same : Bool) → is_taken (if same then InQueue else Free) ≡ true → same ≡ true
first_given s slots true h = refl
first_given s slots false h = h

first_kept : (layout : Layout) → is_valid layout ≡ true → LinksKept layout (first_made layout)
first_kept layout d =
    let q = requests_start layout d in
    record {
      table = refl;
      rows = first_rows layout;
      line = first_line layout;
      asked = q.0;
      known = known_start layout q.0 d q.1.facts q.1.deal;
      roots = record { buckets = λ b. refl; head = refl };
      nexts = record { tail = refl; next = λ s h. if_same 0 (has layout (Row s 0)); fresh = λ s h. refl; given = λ s h. first_given s layout.config.slots (s == layout.config.slots) h };
      law = tt;
    }

pub records_link_nexts : RecordsLinkNexts
records_link_nexts layout items d = let g = items_keep (LinksKept layout) (steady layout) items (first_made layout) (first_kept layout d) in entries_of_each (nexts_ok layout.config.slots) (record_of layout items) g.law
