-- One step of a seat, and the contents of the queue.
use Rattle.std.proofs.Common.{ℕ, ◌≡◌, ◌<◌, ◌+◌, Bool, true, false, arith, refl, ap, sym, subst, ◌∙◌, List, [], ◌∷◌, ◌++◌, length}
use Rattle.std.proofs.lemmas.Bool.Decides.{nat_tests}
use Rattle.std.proofs.lemmas.List.{append_assoc}
use Rattle.std.specs.Prelude.{◌==◌, ◌&&◌, if◌then◌else◌, None}
use Rattle.inv_ends.specs.model.words.Place.{Place}
use Rattle.inv_ends.specs.model.words.Place.Place.{Head, Row}
use Rattle.inv_ends.specs.model.defs.declared.call.Answer.TheVariants as the_answers
use Rattle.inv_ends.specs.model.defs.declared.call.ClockMove.TheVariants as clock_moves
use Rattle.inv_ends.specs.model.defs.declared.event.Event.{Event}
use Rattle.inv_ends.specs.model.defs.declared.event.Event.TheVariants as events
use Rattle.inv_ends.specs.model.defs.declared.event.Root.TheVariants as roots
use Rattle.inv_ends.specs.model.defs.declared.fold.Change.{Change}
use Rattle.inv_ends.specs.model.defs.declared.fold.Change.TheVariants as changes
use Rattle.inv_ends.specs.model.defs.declared.lifetime.Lifetime.{Lifetime}
use Rattle.inv_ends.specs.model.declared.post.Post.{Post}
use Rattle.inv_ends.specs.model.Book.{Book, booked_all}
use Rattle.inv_ends.specs.model.Change as alters
use Rattle.inv_ends.specs.model.Enqueue as enqueues
use Rattle.inv_ends.specs.model.Dequeue as dequeues
use Rattle.inv_ends.specs.model.Desks.{Desk}
use Rattle.inv_ends.specs.model.Memory.{Cas, written}
use Rattle.inv_ends.specs.model.Scan as scan
use Rattle.inv_ends.specs.model.Steps.{phase_move, phase_turn}
use Rattle.inv_ends.specs.model.Locals.{told_by, told_end}
use Rattle.inv_ends.specs.model.Calls.{ChangeKept, EnqueueKept, Changes, Retiring, ChangeAt, LoadVersion, LoadCount, LoadKey, LoadValue, ExchangeRoot, EnqueueAt, LoadNumber, LoadNext, PassTail, ExchangeNext, ExchangeTail, DequeueAt, LoadTail, SwingTail, TakeNumber, TakeValue, ExchangeHead, Work, Getting, Changing, Enqueuing, Dequeuing, Phase, Idle, Runs, Scans, Works, CallTurn, Keeping}
use Rattle.inv_ends.proofs.model.Facts.{same_number, number_is}
use Rattle.inv_ends.specs.shapes.Frame.{phase_left}
use Rattle.inv_ends.proofs.shapes.Frame.{written_own}
use Rattle.inv_ends.specs.rows.Rows.{View, Good, made}
use Rattle.inv_ends.specs.rows.Rows.Status.{Born}
use Rattle.inv_ends.specs.rows.Rows.RowMove.{Stays, Appends, Pops}
use Rattle.inv_ends.specs.rows.Hands.{row_move}
use Rattle.inv_ends.specs.rows.Agree.{Plays}
use Rattle.inv_ends.specs.rows.Queue.{Line, moved_line, line_move}
use Rattle.inv_ends.specs.rows.Queue.LineMove.{Keeps, Joins}
use Rattle.inv_ends.specs.rows.Chain.{queue_of}
use Rattle.inv_ends.proofs.rows.Steps.{of_taken}
use Rattle.inv_ends.proofs.rows.Went.{born_unlined, LineIn, WalksIn}
use Rattle.inv_all.specs.Contents.Shelf.{Filled}
use Rattle.inv_all.proofs.Contents.Contents.Machines.{enqueue_stays}
use Rattle.inv_all.proofs.Contents.Stands.Rounds.{Adds, clearing_adds, clearing_next_adds, scan_told, scan_adds}
use Rattle.inv_all.specs.Contents.Reads.{Reads}
use Rattle.inv_all.specs.Contents.Items.{Shown}
use Rattle.inv_all.proofs.Contents.QueueReads.Events.{mute_append, clear_mute, end_mute, mute_book}
use Rattle.inv_all.proofs.Contents.Items.Follow.{finds_phase, phase_finds}
use Rattle.inv_all.proofs.Contents.Items.Rows.{queues, Mild, mild_made, phase_mild, popped_queue, Lower, same_lower, phase_lower, enqueue_keeps}
use Rattle.inv_all.proofs.Contents.Items.Shown.{Kept, mild_shown, Joining, joined_shown, Grown, lower_grown, joined_grown}
use Rattle.inv_all.proofs.Contents.QueueReads.Turns.{phase_turns, bare_reads, free_bare}
use Rattle.inv_all.specs.Contents.Turns.{SameItems, change_hits, enqueue_hits, dequeue_hits, hits, Turns}
use Rattle.inv_ends.proofs.rows.Runs.{taken_slot}
use Rattle.inv_all.proofs.Contents.Contents.Told.{booked_append}

-- what a step leaves: what rows show, what its own seat has read, and that numbers and values stay
pub record Did (most : ℕ) (a b : Book) (after : Place → ℕ) (u : View) (l m : Line) (left : Phase) : Type 0 where
  pub rows : Shown most after b u m
  pub own : Reads left m b.queued
  pub grown : Grown l m a.queued b.queued

-- the book after a turn that tells these events first
pub first_booked : (a : Book) (told : List Event) (t : CallTurn) → Adds told t → SameItems (booked_all a told) (booked_all a (told_by t))
first_booked a told t h =
    let rest : List Event = h.more ++ told_end t.post t.outcome in
    let all : told_by t ≡ told ++ rest = ap (λ (x : List Event). x ++ told_end t.post t.outcome) h.adds ∙ append_assoc told h.more (told_end t.post t.outcome) in
    let book : booked_all a (told_by t) ≡ booked_all (booked_all a told) rest = ap (λ (x : List Event). booked_all a x) all ∙ booked_append told rest a in
    subst (λ (b : Book). SameItems (booked_all a told) b) (sym book) (mute_book rest (booked_all a told) (mute_append h.more (told_end t.post t.outcome) (clear_mute h.more h.clear) (end_mute t.post t.outcome)))

-- the number of the head's row
head_kept : (a b : Book) (v u : View) (l m : Line) (h : ℕ) → Lower l m → u.head ≡ v.head → b.taken ≡ a.taken → ((x : ℕ) → v.head ≡ x + 1 → l.number x ≡ a.taken) → u.head ≡ h + 1 → m.number h ≡ b.taken
head_kept a b v u l m h o e t f k = o.number h ∙ f h (sym e ∙ k) ∙ sym t

-- a step that changes nothing of the queue leaves what its own seat has read
left_reads : (l : Line) (queued : List ℕ) (phase : Phase) (post : Post) (desk : Desk) (found : ℕ) → queues phase found ≡ false → Turns l queued (phase_turn phase post desk found) → Reads (phase_left (phase_turn phase post desk found).outcome) (moved_line l (line_move phase found)) queued
left_reads l queued Idle post desk found e t = t.reads
left_reads l queued (Runs why base) post desk found e t = t.reads
left_reads l queued (Scans later at) post desk found e t =
    let a : Adds (scan_told at post found) (scan.scan_turn later at post desk found) = scan_adds later at post desk found in
    bare_reads (phase_left (scan.scan_turn later at post desk found).outcome) (moved_line l (line_move (Scans later at) found)) queued (free_bare (phase_left (scan.scan_turn later at post desk found).outcome) a.free)
left_reads l queued (Works (Getting key at)) post desk found e t = t.reads
left_reads l queued (Works (Changing kept at)) post desk found e t = t.reads
left_reads l queued (Works (Enqueuing kept at)) post desk found e t =
    subst (λ (m : Line). Reads (phase_left (phase_turn (Works (Enqueuing kept at)) post desk found).outcome) m queued) (sym (enqueue_keeps l kept at found e)) t.reads
left_reads l queued (Works (Dequeuing at)) post desk found e t = t.reads
left_reads l queued (Works (Keeping at)) post desk found e t = t.reads

calm_did : (most i : ℕ) (a : Book) (v : View) (l : Line) (mem after : Place → ℕ) (phase : Phase) (post next : Post) (desk : Desk) (found : ℕ) → hits phase found ≡ false → queues phase found ≡ false → Turns l a.queued (phase_turn phase next desk found)
    → Kept v (made i v (row_move phase post found)) l mem after → Shown most mem a v l
    → Did most a (booked_all a (told_by (phase_turn phase next desk found))) after (made i v (row_move phase post found)) l (moved_line l (line_move phase found)) (phase_left (phase_turn phase next desk found).outcome)
calm_did most i a v l mem after phase post next desk found e q t k h =
    let turn : CallTurn = phase_turn phase next desk found in
    let same : SameItems a (booked_all a (told_by turn)) = mute_book (told_by turn) a (mute_append turn.told (told_end turn.post turn.outcome) t.mute (end_mute turn.post turn.outcome)) in
    let u : View = made i v (row_move phase post found) in
    let m : Line = moved_line l (line_move phase found) in
    let o : Lower l m = phase_lower l phase found q in
    let mild : Mild v u = mild_made i v (row_move phase post found) (phase_mild phase post found q) in
    record {
      rows = mild_shown most mem after a (booked_all a (told_by turn)) v u l m k o mild.queue same.queued (λ x y. head_kept a (booked_all a (told_by turn)) v u l m x o mild.head same.taken h.first y) h;
      own = subst (λ (x : List ℕ). Reads (phase_left turn.outcome) m x) (sym same.queued) (left_reads l a.queued phase next desk found q t);
      grown = lower_grown l m a.queued (booked_all a (told_by turn)).queued o same.queued;
    }

-- the exchange of a root

pub cut_same : (a : Book) (link : ℕ) (null : Bool) (more : List Event) → booked_all a ((if null then [] else events.Cut link ∷ []) ++ more) ≡ booked_all a more
cut_same a link true more = refl
cut_same a link false more = refl

change_queued : (a : Book) (bucket version : ℕ) (c : Change) → (booked_all a (alters.told_change bucket version c ∷ [])).queued ≡ a.queued
change_queued a bucket version (changes.Put key value) = refl
change_queued a bucket version (changes.Removed key) = refl

change_taken : (a : Book) (bucket version : ℕ) (c : Change) → (booked_all a (alters.told_change bucket version c ∷ [])).taken ≡ a.taken
change_taken a bucket version (changes.Put key value) = refl
change_taken a bucket version (changes.Removed key) = refl

exchange_did : (most i : ℕ) (a : Book) (v : View) (l : Line) (mem after : Place → ℕ) (kept : ChangeKept) (slot : ℕ) (post next : Post) (desk : Desk) (found : ℕ) → (found == kept.link) ≡ true
    → Kept v (made i v (row_move (Works (Changing kept (ExchangeRoot slot))) post found)) l mem after → Shown most mem a v l
    → Did most a (booked_all a (told_by (phase_turn (Works (Changing kept (ExchangeRoot slot))) next desk found))) after (made i v (row_move (Works (Changing kept (ExchangeRoot slot))) post found)) l l (phase_left (phase_turn (Works (Changing kept (ExchangeRoot slot))) next desk found).outcome)
exchange_did most i a v l mem after kept slot post next desk found e k h =
    let u : View = made i v (row_move (Works (Changing kept (ExchangeRoot slot))) post found) in
    let mild : Mild v u = mild_made i v (row_move (Works (Changing kept (ExchangeRoot slot))) post found) (phase_mild (Works (Changing kept (ExchangeRoot slot))) post found refl) in
    let first : List Event = alters.told_linked kept slot next in
    let adds : Adds (alters.told_linked kept slot next) (alters.exchanged kept slot next desk true) = clearing_adds (Changes (record kept { taken = None })) (alters.answer_done (kept.version + 1) kept.link) next desk (alters.told_linked kept slot next) in
    let t : CallTurn = alters.exchanged kept slot next desk true in
    let same : SameItems (booked_all a first) (booked_all a (told_by t)) = first_booked a first t adds in
    let b : ℕ = alters.changed_bucket kept next in
    let linked : Book = booked_all a (events.Link (roots.Bucket b) slot ∷ []) in
    let cut : booked_all a first ≡ booked_all linked (alters.told_change b (kept.version + 1) kept.change ∷ []) = cut_same linked _ (kept.link == 0) (alters.told_change b (kept.version + 1) kept.change ∷ []) in
    let queued : (booked_all a (told_by t)).queued ≡ a.queued = same.queued ∙ ap (λ (x : Book). x.queued) cut ∙ change_queued linked b (kept.version + 1) kept.change in
    let taken : (booked_all a (told_by t)).taken ≡ a.taken = same.taken ∙ ap (λ (x : Book). x.taken) cut ∙ change_taken linked b (kept.version + 1) kept.change in
    let did : Did most a (booked_all a (told_by t)) after u l l (phase_left t.outcome) = record {
      rows = mild_shown most mem after a (booked_all a (told_by t)) v u l l k (same_lower l) mild.queue queued (λ x y. head_kept a (booked_all a (told_by t)) v u l l x (same_lower l) mild.head taken h.first y) h;
      own = bare_reads (phase_left t.outcome) l (booked_all a (told_by t)).queued (free_bare (phase_left t.outcome) adds.free);
      grown = lower_grown l l a.queued (booked_all a (told_by t)).queued (same_lower l) queued;
    } in
    subst (λ (x : Bool). Did most a (booked_all a (told_by (alters.exchanged kept slot next desk x))) after u l l (phase_left (alters.exchanged kept slot next desk x).outcome)) (sym e) did

-- a row joins the queue

appended_queue : (i : ℕ) (v : View) (slot s : ℕ) → queue_of (made i v (Appends slot)) s ≡ true → (s == slot) ≡ false → queue_of v s ≡ true
appended_queue i v slot s e n = grind (arith, nat_tests)

linked_word : (mem : Place → ℕ) (tail slot : ℕ) → (mem (Row tail 0) == 0) ≡ true → written mem (Cas (Row tail 0) 0 (slot + 1)) (Row tail 0) ≡ slot + 1
linked_word mem tail slot e = written_own mem (Cas (Row tail 0) 0 (slot + 1)) ∙ (rw e refl)

join_did : (most i : ℕ) (a : Book) (v : View) (l : Line) (mem : Place → ℕ) (kept : EnqueueKept) (slot : ℕ) (post : Post) (desk : Desk) (same : Bool) → same ≡ true → (mem (Row kept.tail 0) == 0) ≡ same → v.status slot ≡ Born i → LineIn v l mem → WalksIn (Works (Enqueuing kept (ExchangeNext slot))) v l mem → Reads (Works (Enqueuing kept (ExchangeNext slot))) l a.queued
    → Filled mem slot (enqueues.new_item kept) 3 → kept.number < most → Kept v (made i v (if same then Appends slot else Stays)) l mem (written mem (Cas (Row kept.tail 0) 0 (slot + 1))) → Shown most mem a v l
    → Did most a (booked_all a (told_by (enqueues.appended kept slot post desk same))) (written mem (Cas (Row kept.tail 0) 0 (slot + 1))) (made i v (if same then Appends slot else Stays)) l (moved_line l (if same then Joins kept.tail slot else Keeps)) (phase_left (enqueues.appended kept slot post desk same).outcome)
join_did most i a v l mem kept slot post desk false y e born g w r f low k h = absurd (cc)
join_did most i a v l mem kept slot post desk true y e born g w r f low k h =
    let after : Place → ℕ = written mem (Cas (Row kept.tail 0) 0 (slot + 1)) in
    let null : mem (Row kept.tail 0) ≡ 0 = number_is (mem (Row kept.tail 0)) 0 e in
    let tail : l.lined kept.tail ≡ true = w.stood kept.tail (same_number kept.tail) in
    let queue : queue_of v kept.tail ≡ true = g.last kept.tail tail null in
    let number : l.number kept.tail ≡ length a.queued = h.last kept.tail queue null in
    let own : l.number kept.tail ≡ kept.number = r.numbers kept.tail kept.number (both_same kept.tail kept.number) in
    let fresh : l.lined slot ≡ false = born_unlined i v l mem slot g born in
    let j : Joining most mem after a (booked_all a (told_by (enqueues.appended kept slot post desk true))) v (made i v (Appends slot)) l kept slot = record {
      tail = tail;
      fresh = fresh;
      queue = λ s x n. appended_queue i v slot s x n;
      only = λ s x n. g.one s kept.tail x queue n;
      lines = g.lined;
      link = linked_word mem kept.tail slot e;
      number = number;
      word = enqueue_stays mem kept (ExchangeNext slot) slot 1 (omega arith) ∙ f 1 (omega arith) (omega arith) ∙ ap (λ (n : ℕ). n + 1) (sym own ∙ number);
      value = enqueue_stays mem kept (ExchangeNext slot) slot 2 (omega arith) ∙ f 2 (omega arith) (omega arith);
      queued = refl;
      taken = refl;
      head = refl;
      first = g.first;
      room = omega (arith, own, number, low);
    } in
    record {
      rows = joined_shown most mem after a (booked_all a (told_by (enqueues.appended kept slot post desk true))) v (made i v (Appends slot)) l kept slot k j h;
      own = bare_reads (phase_left (enqueues.appended kept slot post desk true).outcome) (moved_line l (Joins kept.tail slot)) (a.queued ++ kept.value ∷ []) refl;
      grown = joined_grown l kept.tail slot kept.value a.queued (a.queued ++ kept.value ∷ []) fresh refl;
    }
  where
    both_same : (x y : ℕ) → (x == x && (y == y)) ≡ true
    both_same x y = grind (arith, nat_tests)

-- the head is cut

pop_did : (most i : ℕ) (a : Book) (v : View) (l : Line) (mem after : Place → ℕ) (head next number value : ℕ) (post : Post) (desk : Desk) (same : Bool) → same ≡ true → v.head ≡ head + 1 → LineIn v l mem → WalksIn (Works (Dequeuing (ExchangeHead head next number value))) v l mem
    → Kept v (made i v (if same then Pops head next else Stays)) l mem after → Shown most mem a v l
    → Did most a (booked_all a (told_by (dequeues.taken head next number value post desk same))) after (made i v (if same then Pops head next else Stays)) l l (phase_left (dequeues.taken head next number value post desk same).outcome)
pop_did most i a v l mem after head next number value post desk false y at g w k h = absurd (cc)
pop_did most i a v l mem after head next number value post desk true y at g w k h =
    let u : View = made i v (Pops head next) in
    let first : List Event = events.Link roots.Head next ∷ events.Cut head ∷ events.Taken number value ∷ [] in
    let t : CallTurn = dequeues.taken head next number value post desk true in
    let adds : Adds (events.Link roots.Head next ∷ events.Cut head ∷ events.Taken number value ∷ []) (dequeues.taken head next number value post desk true) = clearing_next_adds (Retiring head (the_answers.Taken number value clock_moves.Still)) post desk (events.Link roots.Head next ∷ events.Cut head ∷ events.Taken number value ∷ []) in
    let same : SameItems (booked_all a first) (booked_all a (told_by t)) = first_booked a first t adds in
    let link : mem (Row head 0) ≡ next + 1 = w.follows head (next + 1) (both_same head next) in
    let rises : l.number next ≡ l.number head + 1 = g.rises head next (g.first head at) link in
    let was : l.number head ≡ a.taken = h.first head at in
    record {
      rows = mild_shown most mem after a (booked_all a (told_by t)) v u l l k (same_lower l) (λ s x. popped_queue i v head next s x) same.queued (λ x e. by_head x e (rises ∙ ap (λ (n : ℕ). n + 1) was ∙ sym same.taken)) h;
      own = bare_reads (phase_left t.outcome) l (booked_all a (told_by t)).queued (free_bare (phase_left t.outcome) adds.free);
      grown = lower_grown l l a.queued (booked_all a (told_by t)).queued (same_lower l) same.queued;
    }
  where
    both_same : (x y : ℕ) → (x == x && (y + 1 == y + 1)) ≡ true
    both_same x y = grind (arith, nat_tests)

    by_head : (x : ℕ) → next + 1 ≡ x + 1 → l.number next ≡ (booked_all a (told_by (dequeues.taken head next number value post desk true))).taken → l.number x ≡ (booked_all a (told_by (dequeues.taken head next number value post desk true))).taken
    by_head x e f = let is : x ≡ next = omega arith in ap l.number is ∙ f

-- what a step of a seat rests on
pub record Rests (most i slots : ℕ) (a : Book) (v : View) (l : Line) (mem : Place → ℕ) (phase : Phase) (list : List Lifetime) : Type 0 where
  pub good : Good slots v
  pub plays : Plays i phase list v
  pub head : mem Head ≡ v.head
  pub line : LineIn v l mem
  pub walks : WalksIn phase v l mem
  pub reads : Reads phase l a.queued
  pub shown : Shown most mem a v l
  pub filled : (kept : EnqueueKept) (slot : ℕ) → phase ≡ Works (Enqueuing kept (ExchangeNext slot)) → Filled mem slot (enqueues.new_item kept) 3
  pub room : (kept : EnqueueKept) (slot : ℕ) → phase ≡ Works (Enqueuing kept (ExchangeNext slot)) → kept.number < most

abbrev DidIn : (most i : ℕ) → Book → View → Line → (Place → ℕ) → Phase → Post → Post → Desk → Type 0
DidIn most i a v l mem phase post next desk =
    Did most a (booked_all a (told_by (phase_turn phase next desk (finds_phase mem phase post)))) (written mem (phase_move phase post)) (made i v (row_move phase post (finds_phase mem phase post))) l (moved_line l (line_move phase (finds_phase mem phase post))) (phase_left (phase_turn phase next desk (finds_phase mem phase post)).outcome)

abbrev KeptIn : (i : ℕ) → View → Line → (Place → ℕ) → Phase → Post → Type 0
KeptIn i v l mem phase post = Kept v (made i v (row_move phase post (finds_phase mem phase post))) l mem (written mem (phase_move phase post))

-- a step that exchanges nothing
still_did : (most i slots : ℕ) (a : Book) (v : View) (l : Line) (mem : Place → ℕ) (phase : Phase) (post next : Post) (desk : Desk) (list : List Lifetime) → hits phase (finds_phase mem phase post) ≡ false → queues phase (finds_phase mem phase post) ≡ false → KeptIn i v l mem phase post → Rests most i slots a v l mem phase list → DidIn most i a v l mem phase post next desk
still_did most i slots a v l mem phase post next desk list e q k r =
    calm_did most i a v l mem (written mem (phase_move phase post)) phase post next desk (finds_phase mem phase post) e q
    (phase_turns l a.queued phase next desk (finds_phase mem phase post) e (phase_finds most a v l mem phase post next r.head r.line r.walks r.reads r.shown) r.reads) k r.shown

change_did : (most i slots : ℕ) (a : Book) (v : View) (l : Line) (mem : Place → ℕ) (kept : ChangeKept) (at : ChangeAt) (post next : Post) (desk : Desk) (list : List Lifetime) (hit : Bool) → change_hits kept at (finds_phase mem (Works (Changing kept at)) post) ≡ hit → KeptIn i v l mem (Works (Changing kept at)) post → Rests most i slots a v l mem (Works (Changing kept at)) list → DidIn most i a v l mem (Works (Changing kept at)) post next desk
change_did most i slots a v l mem kept at post next desk list false e k r = still_did most i slots a v l mem (Works (Changing kept at)) post next desk list e refl k r
change_did most i slots a v l mem kept (LoadVersion slot) post next desk list true e k r = absurd (cc)
change_did most i slots a v l mem kept (LoadCount slot) post next desk list true e k r = absurd (cc)
change_did most i slots a v l mem kept (LoadKey slot count) post next desk list true e k r = absurd (cc)
change_did most i slots a v l mem kept (LoadValue slot count key) post next desk list true e k r = absurd (cc)
change_did most i slots a v l mem kept (ExchangeRoot slot) post next desk list true e k r =
    exchange_did most i a v l mem (written mem (phase_move (Works (Changing kept (ExchangeRoot slot))) post)) kept slot post next desk (finds_phase mem (Works (Changing kept (ExchangeRoot slot))) post) e k r.shown

enqueue_did : (most i slots : ℕ) (a : Book) (v : View) (l : Line) (mem : Place → ℕ) (kept : EnqueueKept) (at : EnqueueAt) (post next : Post) (desk : Desk) (list : List Lifetime) (hit : Bool) → enqueue_hits at (finds_phase mem (Works (Enqueuing kept at)) post) ≡ hit → KeptIn i v l mem (Works (Enqueuing kept at)) post → Rests most i slots a v l mem (Works (Enqueuing kept at)) list → DidIn most i a v l mem (Works (Enqueuing kept at)) post next desk
enqueue_did most i slots a v l mem kept at post next desk list false e k r = still_did most i slots a v l mem (Works (Enqueuing kept at)) post next desk list e e k r
enqueue_did most i slots a v l mem kept LoadNumber post next desk list true e k r = absurd (cc)
enqueue_did most i slots a v l mem kept LoadNext post next desk list true e k r = absurd (cc)
enqueue_did most i slots a v l mem kept (PassTail link) post next desk list true e k r = absurd (cc)
enqueue_did most i slots a v l mem kept (ExchangeTail slot) post next desk list true e k r = absurd (cc)
enqueue_did most i slots a v l mem kept (ExchangeNext slot) post next desk list true e k r =
    let born : v.status slot ≡ Born i = of_taken slots v i slot r.good (r.plays.hand ∙ taken_slot kept.taken slot r.plays.right) in
    join_did most i a v l mem kept slot next desk (mem (Row kept.tail 0) == 0) e refl born r.line r.walks r.reads (r.filled kept slot refl) (r.room kept slot refl) k r.shown

dequeue_did : (most i slots : ℕ) (a : Book) (v : View) (l : Line) (mem : Place → ℕ) (at : DequeueAt) (post next : Post) (desk : Desk) (list : List Lifetime) (hit : Bool) → dequeue_hits at (finds_phase mem (Works (Dequeuing at)) post) ≡ hit → KeptIn i v l mem (Works (Dequeuing at)) post → Rests most i slots a v l mem (Works (Dequeuing at)) list → DidIn most i a v l mem (Works (Dequeuing at)) post next desk
dequeue_did most i slots a v l mem at post next desk list false e k r = still_did most i slots a v l mem (Works (Dequeuing at)) post next desk list e e k r
dequeue_did most i slots a v l mem (LoadTail head) post next desk list true e k r = absurd (cc)
dequeue_did most i slots a v l mem (SwingTail head row) post next desk list true e k r = absurd (cc)
dequeue_did most i slots a v l mem (TakeNumber head row) post next desk list true e k r = absurd (cc)
dequeue_did most i slots a v l mem (TakeValue head row number) post next desk list true e k r = absurd (cc)
dequeue_did most i slots a v l mem (ExchangeHead head row number value) post next desk list true e k r =
    pop_did most i a v l mem (written mem (phase_move (Works (Dequeuing (ExchangeHead head row number value))) post)) head row number value next desk (mem Head == head + 1) e (sym r.head ∙ number_is (mem Head) (head + 1) e) r.line r.walks k r.shown

work_did : (most i slots : ℕ) (a : Book) (v : View) (l : Line) (mem : Place → ℕ) (work : Work) (post next : Post) (desk : Desk) (list : List Lifetime) → KeptIn i v l mem (Works work) post → Rests most i slots a v l mem (Works work) list → DidIn most i a v l mem (Works work) post next desk
work_did most i slots a v l mem (Getting key at) post next desk list k r = still_did most i slots a v l mem (Works (Getting key at)) post next desk list refl refl k r
work_did most i slots a v l mem (Changing kept at) post next desk list k r = change_did most i slots a v l mem kept at post next desk list (change_hits kept at (finds_phase mem (Works (Changing kept at)) post)) refl k r
work_did most i slots a v l mem (Enqueuing kept at) post next desk list k r = enqueue_did most i slots a v l mem kept at post next desk list (enqueue_hits at (finds_phase mem (Works (Enqueuing kept at)) post)) refl k r
work_did most i slots a v l mem (Dequeuing at) post next desk list k r = dequeue_did most i slots a v l mem at post next desk list (dequeue_hits at (finds_phase mem (Works (Dequeuing at)) post)) refl k r
work_did most i slots a v l mem (Keeping at) post next desk list k r = still_did most i slots a v l mem (Works (Keeping at)) post next desk list refl refl k r

pub phase_did : (most i slots : ℕ) (a : Book) (v : View) (l : Line) (mem : Place → ℕ) (phase : Phase) (post next : Post) (desk : Desk) (list : List Lifetime) → KeptIn i v l mem phase post → Rests most i slots a v l mem phase list → DidIn most i a v l mem phase post next desk
phase_did most i slots a v l mem Idle post next desk list k r = still_did most i slots a v l mem Idle post next desk list refl refl k r
phase_did most i slots a v l mem (Runs why base) post next desk list k r = still_did most i slots a v l mem (Runs why base) post next desk list refl refl k r
phase_did most i slots a v l mem (Scans later at) post next desk list k r = still_did most i slots a v l mem (Scans later at) post next desk list refl refl k r
phase_did most i slots a v l mem (Works work) post next desk list k r = work_did most i slots a v l mem work post next desk list k r
