-- What the contents of the queue give: counts, and what steps tell.
use Rattle.std.proofs.Common.{ℕ, ◌≡◌, ◌≤◌, ◌<◌, ◌+◌, ◌-◌, Bool, true, false, arith, refl, ap, sym, subst, ◌∙◌, List, [], ◌∷◌, ◌++◌, length}
use Rattle.std.proofs.lemmas.List.{append_assoc}
use Rattle.std.specs.Prelude.{◌==◌, None}
use Rattle.inv_ends.specs.model.words.Place.{Place}
use Rattle.inv_ends.specs.model.words.Place.Place.{Head, Row}
use Rattle.inv_ends.specs.model.defs.declared.call.Answer.TheVariants as the_answers
use Rattle.inv_ends.specs.model.defs.declared.call.ClockMove.TheVariants as clock_moves
use Rattle.inv_ends.specs.model.defs.declared.event.Event.{Event}
use Rattle.inv_ends.specs.model.defs.declared.event.Event.TheVariants as events
use Rattle.inv_ends.specs.model.defs.declared.event.Root.TheVariants as roots
use Rattle.inv_ends.specs.model.defs.declared.fold.Change.{Change}
use Rattle.inv_ends.specs.model.defs.declared.fold.Change.TheVariants as changes
use Rattle.inv_ends.specs.model.declared.post.Post.{Post}
use Rattle.inv_ends.specs.model.Book.{Book}
use Rattle.inv_ends.specs.model.Posts.{counted}
use Rattle.inv_ends.specs.model.Change as alters
use Rattle.inv_ends.specs.model.Enqueue as enqueues
use Rattle.inv_ends.specs.model.Dequeue as dequeues
use Rattle.inv_ends.specs.model.Desks.{Desk}
use Rattle.inv_ends.specs.model.Steps.{phase_turn}
use Rattle.inv_ends.specs.model.Locals.{told_by, told_end}
use Rattle.inv_ends.specs.model.World.{offered}
use Rattle.inv_ends.specs.model.Calls.{ChangeKept, EnqueueKept, Changes, Retiring, ChangeAt, LoadVersion, LoadCount, LoadKey, LoadValue, ExchangeRoot, EnqueueAt, LoadNumber, LoadNext, PassTail, ExchangeNext, ExchangeTail, DequeueAt, LoadTail, SwingTail, TakeNumber, TakeValue, ExchangeHead, Getting, Changing, Enqueuing, Dequeuing, Phase, Idle, Runs, Scans, Works, CallTurn, Keeping}
use Rattle.inv_ends.proofs.model.Facts.{same_number, number_is, first_of, rest_of, same_both}
use Rattle.inv_ends.specs.rows.Rows.{View}
use Rattle.inv_ends.specs.rows.Queue.{Line}
use Rattle.inv_all.proofs.Contents.Stands.Rounds.{Adds, clearing_adds, clearing_next_adds}
use Rattle.inv_all.specs.Contents.Reads.{value_under, Reads}
use Rattle.inv_all.specs.Contents.Items.{Shown}
use Rattle.inv_all.specs.Contents.Gives.{LastNumber, EmptyRight, ItemsCount, TakenRight, QueueRight, AllQueueRight, ItemsTold}
use Rattle.inv_all.proofs.Contents.QueueReads.Events.{mute_append, clear_mute, end_mute}
use Rattle.inv_all.proofs.Contents.Items.Follow.{finds_phase, phase_finds}
use Rattle.inv_all.proofs.Contents.QueueReads.Turns.{phase_turns}
use Rattle.inv_all.specs.Contents.Turns.{is_mute, all_mute, change_hits, enqueue_hits, dequeue_hits, hits, Turns}
use Rattle.inv_ends.proofs.rows.Went.{LineIn, WalksIn}

-- the tail's row, where it is the last
tail_number : (most : ℕ) (mem : Place → ℕ) (a : Book) (v : View) (l : Line) (kept : EnqueueKept) (slot : ℕ) → LineIn v l mem → WalksIn (Works (Enqueuing kept (ExchangeNext slot))) v l mem → Reads (Works (Enqueuing kept (ExchangeNext slot))) l a.queued → Shown most mem a v l → mem (Row kept.tail 0) ≡ 0 → kept.number ≡ length a.queued
tail_number most mem a v l kept slot g w r h null =
    sym (r.numbers kept.tail kept.number (same_both kept.tail kept.number)) ∙ h.last kept.tail (g.last kept.tail (w.stood kept.tail (same_number kept.tail)) null) null

pub last_number : LastNumber
last_number w i v l kept slot b h e null =
    tail_number w.layout.config.last_version w.mem w.book v l kept slot b.queue.line (subst (λ (p : Phase). WalksIn p v l w.mem) e (b.queue.walks i)) (subst (λ (p : Phase). Reads p l w.book.queued) e (h.seats i)) h.rows null

pub empty_right : EmptyRight
empty_right w v l s b h e null =
    let at : v.head ≡ s + 1 = sym b.rows.words.head ∙ e in
    sym (h.rows.first s at) ∙ h.rows.last s (b.queue.line.first s at) null

pub items_count : ItemsCount
items_count w v l b h =
    let some : 0 < v.head = b.rows.good.some in
    let at : v.head ≡ v.head - 1 + 1 = omega arith in
    let lined : l.lined (v.head - 1) ≡ true = b.queue.line.lined (v.head - 1) (b.queue.line.first (v.head - 1) at) in
    record { taken = subst (λ (n : ℕ). n ≤ length w.book.queued) (h.rows.first (v.head - 1) at) (h.rows.within (v.head - 1) lined); queued = h.rows.room }

-- what steps tell

mute_is_right : (a : Book) (event : Event) → is_mute event ≡ true → QueueRight a event
mute_is_right a (events.Queued number value) h = absurd (cc)
mute_is_right a (events.Taken number value) h = absurd (cc)
mute_is_right a event h = tt

mute_right : (a : Book) (told : List Event) → all_mute told ≡ true → AllQueueRight a told
mute_right a [] h = tt
mute_right a (event ∷ told) h = (mute_is_right a event (first_of (is_mute event) (all_mute told) h), mute_right a told (rest_of (is_mute event) (all_mute told) h))

right_append : (a : Book) (told more : List Event) → AllQueueRight a told → AllQueueRight a more → AllQueueRight a (told ++ more)
right_append a [] more h k = k
right_append a (event ∷ told) more h k = (h.0, right_append a told more h.1 k)

adds_right : (a : Book) (told : List Event) (t : CallTurn) → AllQueueRight a told → Adds told t → AllQueueRight a (told_by t)
adds_right a told t h x =
    let rest : List Event = x.more ++ told_end t.post t.outcome in
    let all : told_by t ≡ told ++ rest = ap (λ (y : List Event). y ++ told_end t.post t.outcome) x.adds ∙ append_assoc told x.more (told_end t.post t.outcome) in
    subst (λ (y : List Event). AllQueueRight a y) (sym all) (right_append a told rest h (mute_right a rest (mute_append x.more (told_end t.post t.outcome) (clear_mute x.more x.clear) (end_mute t.post t.outcome))))

still_right : (l : Line) (a : Book) (t : CallTurn) → Turns l a.queued t → AllQueueRight a (told_by t)
still_right l a t h = mute_right a (told_by t) (mute_append t.told (told_end t.post t.outcome) h.mute (end_mute t.post t.outcome))

change_told : (a : Book) (bucket version : ℕ) (c : Change) → AllQueueRight a (alters.told_change bucket version c ∷ [])
change_told a bucket version (changes.Put key value) = (tt, tt)
change_told a bucket version (changes.Removed key) = (tt, tt)

cut_told : (a : Book) (link : ℕ) → AllQueueRight a (alters.told_cut link)
cut_told a link = by_link (link == 0) refl
  where
    by_link : (x : Bool) → (link == 0) ≡ x → AllQueueRight a (alters.told_cut link)
    by_link true e = rw e tt
    by_link false e = rw e (tt, tt)

exchange_right : (a : Book) (kept : ChangeKept) (slot : ℕ) (post : Post) (desk : Desk) (same : Bool) → same ≡ true → AllQueueRight a (told_by (alters.exchanged kept slot post desk same))
exchange_right a kept slot post desk false e = absurd (cc)
exchange_right a kept slot post desk true e =
    let b : ℕ = alters.changed_bucket kept post in
    adds_right a (alters.told_linked kept slot post) (alters.exchanged kept slot post desk true) (tt, right_append a (alters.told_cut kept.link) (alters.told_change b (kept.version + 1) kept.change ∷ []) (cut_told a kept.link) (change_told a b (kept.version + 1) kept.change))
    (clearing_adds (Changes (record kept { taken = None })) (alters.answer_done (kept.version + 1) kept.link) post desk (alters.told_linked kept slot post))

join_right : (a : Book) (kept : EnqueueKept) (slot : ℕ) (post : Post) (desk : Desk) (same : Bool) → same ≡ true → kept.number ≡ length a.queued → AllQueueRight a (told_by (enqueues.appended kept slot post desk same))
join_right a kept slot post desk false e h = absurd (cc)
join_right a kept slot post desk true e h = (tt, (ap (λ (n : ℕ). n + 1) h, tt))

pop_right : (a : Book) (head next number value : ℕ) (post : Post) (desk : Desk) (same : Bool) → same ≡ true → TakenRight a number value → AllQueueRight a (told_by (dequeues.taken head next number value post desk same))
pop_right a head next number value post desk false e h = absurd (cc)
pop_right a head next number value post desk true e h =
    adds_right a (events.Link roots.Head next ∷ events.Cut head ∷ events.Taken number value ∷ []) (dequeues.taken head next number value post desk true) (tt, (tt, (h, tt)))
    (clearing_next_adds (Retiring head (the_answers.Taken number value clock_moves.Still)) post desk (events.Link roots.Head next ∷ events.Cut head ∷ events.Taken number value ∷ []))

-- what is known where a step is made
record Known (most : ℕ) (a : Book) (v : View) (l : Line) (mem : Place → ℕ) (phase : Phase) : Type 0 where
  head : mem Head ≡ v.head
  line : LineIn v l mem
  walks : WalksIn phase v l mem
  reads : Reads phase l a.queued
  shown : Shown most mem a v l

abbrev RightIn : Book → (Place → ℕ) → Phase → Post → Post → Desk → Type 0
RightIn a mem phase post next desk = AllQueueRight a (told_by (phase_turn phase next desk (finds_phase mem phase post)))

calm_right : (most : ℕ) (a : Book) (v : View) (l : Line) (mem : Place → ℕ) (phase : Phase) (post next : Post) (desk : Desk) → hits phase (finds_phase mem phase post) ≡ false → Known most a v l mem phase → RightIn a mem phase post next desk
calm_right most a v l mem phase post next desk e r =
    still_right l a (phase_turn phase next desk (finds_phase mem phase post)) (phase_turns l a.queued phase next desk (finds_phase mem phase post) e (phase_finds most a v l mem phase post next r.head r.line r.walks r.reads r.shown) r.reads)

changes_right : (most : ℕ) (a : Book) (v : View) (l : Line) (mem : Place → ℕ) (kept : ChangeKept) (at : ChangeAt) (post next : Post) (desk : Desk) (hit : Bool) → change_hits kept at (finds_phase mem (Works (Changing kept at)) post) ≡ hit → Known most a v l mem (Works (Changing kept at)) → RightIn a mem (Works (Changing kept at)) post next desk
changes_right most a v l mem kept at post next desk false e r = calm_right most a v l mem (Works (Changing kept at)) post next desk e r
changes_right most a v l mem kept (LoadVersion slot) post next desk true e r = absurd (cc)
changes_right most a v l mem kept (LoadCount slot) post next desk true e r = absurd (cc)
changes_right most a v l mem kept (LoadKey slot count) post next desk true e r = absurd (cc)
changes_right most a v l mem kept (LoadValue slot count key) post next desk true e r = absurd (cc)
changes_right most a v l mem kept (ExchangeRoot slot) post next desk true e r = exchange_right a kept slot next desk (finds_phase mem (Works (Changing kept (ExchangeRoot slot))) post == kept.link) e

enqueues_right : (most : ℕ) (a : Book) (v : View) (l : Line) (mem : Place → ℕ) (kept : EnqueueKept) (at : EnqueueAt) (post next : Post) (desk : Desk) (hit : Bool) → enqueue_hits at (finds_phase mem (Works (Enqueuing kept at)) post) ≡ hit → Known most a v l mem (Works (Enqueuing kept at)) → RightIn a mem (Works (Enqueuing kept at)) post next desk
enqueues_right most a v l mem kept at post next desk false e r = calm_right most a v l mem (Works (Enqueuing kept at)) post next desk e r
enqueues_right most a v l mem kept LoadNumber post next desk true e r = absurd (cc)
enqueues_right most a v l mem kept LoadNext post next desk true e r = absurd (cc)
enqueues_right most a v l mem kept (PassTail link) post next desk true e r = absurd (cc)
enqueues_right most a v l mem kept (ExchangeTail slot) post next desk true e r = absurd (cc)
enqueues_right most a v l mem kept (ExchangeNext slot) post next desk true e r =
    join_right a kept slot next desk (mem (Row kept.tail 0) == 0) e (tail_number most mem a v l kept slot r.line r.walks r.reads r.shown (number_is (mem (Row kept.tail 0)) 0 e))

-- the row after the head has the next number, and its value
taken_right : (most : ℕ) (a : Book) (v : View) (l : Line) (mem : Place → ℕ) (head next number value : ℕ) → mem Head ≡ head + 1 → Known most a v l mem (Works (Dequeuing (ExchangeHead head next number value))) → TakenRight a number value
taken_right most a v l mem head next number value e r =
    let at : v.head ≡ head + 1 = sym r.head ∙ e in
    let link : mem (Row head 0) ≡ next + 1 = r.walks.follows head (next + 1) (same_both head (next + 1)) in
    let rises : l.number next ≡ l.number head + 1 = r.line.rises head next (r.line.first head at) link in
    let own : l.number next ≡ number = r.reads.numbers next number (same_both next number) in
    let shown : value_under a.queued (l.number next) ≡ value = r.reads.values next value (same_both next value) in
    let low : l.number next ≤ length a.queued = r.shown.within next (r.reads.lined next (same_number next)) in
    record {
      next = sym own ∙ rises ∙ ap (λ (n : ℕ). n + 1) (r.shown.first head at);
      within = subst (λ (n : ℕ). n ≤ length a.queued) own low;
      right = sym shown ∙ ap (λ (n : ℕ). value_under a.queued n) own;
    }

dequeues_right : (most : ℕ) (a : Book) (v : View) (l : Line) (mem : Place → ℕ) (at : DequeueAt) (post next : Post) (desk : Desk) (hit : Bool) → dequeue_hits at (finds_phase mem (Works (Dequeuing at)) post) ≡ hit → Known most a v l mem (Works (Dequeuing at)) → RightIn a mem (Works (Dequeuing at)) post next desk
dequeues_right most a v l mem at post next desk false e r = calm_right most a v l mem (Works (Dequeuing at)) post next desk e r
dequeues_right most a v l mem (LoadTail head) post next desk true e r = absurd (cc)
dequeues_right most a v l mem (SwingTail head row) post next desk true e r = absurd (cc)
dequeues_right most a v l mem (TakeNumber head row) post next desk true e r = absurd (cc)
dequeues_right most a v l mem (TakeValue head row number) post next desk true e r = absurd (cc)
dequeues_right most a v l mem (ExchangeHead head row number value) post next desk true e r =
    pop_right a head row number value next desk (mem Head == head + 1) e (taken_right most a v l mem head row number value (number_is (mem Head) (head + 1) e) r)

phase_right : (most : ℕ) (a : Book) (v : View) (l : Line) (mem : Place → ℕ) (phase : Phase) (post next : Post) (desk : Desk) → Known most a v l mem phase → RightIn a mem phase post next desk
phase_right most a v l mem Idle post next desk r = calm_right most a v l mem Idle post next desk refl r
phase_right most a v l mem (Runs why base) post next desk r = calm_right most a v l mem (Runs why base) post next desk refl r
phase_right most a v l mem (Scans later at) post next desk r = calm_right most a v l mem (Scans later at) post next desk refl r
phase_right most a v l mem (Works (Getting key at)) post next desk r = calm_right most a v l mem (Works (Getting key at)) post next desk refl r
phase_right most a v l mem (Works (Changing kept at)) post next desk r = changes_right most a v l mem kept at post next desk (change_hits kept at (finds_phase mem (Works (Changing kept at)) post)) refl r
phase_right most a v l mem (Works (Enqueuing kept at)) post next desk r = enqueues_right most a v l mem kept at post next desk (enqueue_hits at (finds_phase mem (Works (Enqueuing kept at)) post)) refl r
phase_right most a v l mem (Works (Dequeuing at)) post next desk r = dequeues_right most a v l mem at post next desk (dequeue_hits at (finds_phase mem (Works (Dequeuing at)) post)) refl r
phase_right most a v l mem (Works (Keeping at)) post next desk r = calm_right most a v l mem (Works (Keeping at)) post next desk refl r

pub items_told : ItemsTold
items_told w i v l b h =
    phase_right w.layout.config.last_version w.book v l w.mem (w.seat i).phase (w.seat i).post (counted (w.seat i).post) (offered w i).desk
    (record { head = b.rows.words.head; line = b.queue.line; walks = b.queue.walks i; reads = h.seats i; shown = h.rows })
