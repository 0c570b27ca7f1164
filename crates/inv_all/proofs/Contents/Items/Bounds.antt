-- Each step keeps the numbers of versions and of pairs within the setting.
use Rattle.std.proofs.Common.{ℕ, ◌≡◌, ◌≤◌, ◌<◌, ◌+◌, Bool, true, false, arith, refl, ap, subst, ◌∙◌, List, [], ◌∷◌, ◌++◌, length}
use Rattle.std.proofs.lemmas.Bool.Decides.{nat_tests}
use Rattle.std.proofs.lemmas.List.{length-append, take-append-le, take_all}
use Rattle.std.specs.Prelude.{◌==◌, nat_le, take, None}
use Rattle.inv_ends.specs.model.words.Place.{Place}
use Rattle.inv_ends.specs.model.words.Place.Place.{Bucket, Head, Row}
use Rattle.inv_ends.specs.model.defs.Pairs.{Pair, changed, pairs_after}
use Rattle.inv_ends.specs.model.defs.declared.call.Answer.TheVariants as the_answers
use Rattle.inv_ends.specs.model.defs.declared.call.ClockMove.TheVariants as clock_moves
use Rattle.inv_ends.specs.model.defs.declared.event.Event.{Event}
use Rattle.inv_ends.specs.model.defs.declared.event.Event.TheVariants as events
use Rattle.inv_ends.specs.model.defs.declared.event.Root.TheVariants as roots
use Rattle.inv_ends.specs.model.defs.declared.fold.Change.{Change}
use Rattle.inv_ends.specs.model.defs.declared.fold.Change.TheVariants as changes
use Rattle.inv_ends.specs.model.declared.post.Post.{Post}
use Rattle.inv_ends.specs.model.Book.{Book, booked_all}
use Rattle.inv_ends.specs.model.Memory.{upd}
use Rattle.inv_ends.specs.model.Posts.{counted}
use Rattle.inv_ends.specs.model.Change as alters
use Rattle.inv_ends.specs.model.Enqueue as enqueues
use Rattle.inv_ends.specs.model.Dequeue as dequeues
use Rattle.inv_ends.specs.model.Desks.{Desk}
use Rattle.inv_ends.specs.model.Steps.{phase_turn}
use Rattle.inv_ends.specs.model.Locals.{told_by, told_end}
use Rattle.inv_ends.specs.model.World.{World, offered}
use Rattle.inv_ends.specs.model.Calls.{ChangeKept, EnqueueKept, Changes, Retiring, ChangeAt, LoadVersion, LoadCount, LoadKey, LoadValue, ExchangeRoot, EnqueueAt, LoadNumber, LoadNext, PassTail, ExchangeNext, ExchangeTail, DequeueAt, LoadTail, SwingTail, TakeNumber, TakeValue, ExchangeHead, Getting, Changing, Enqueuing, Dequeuing, Phase, Idle, Runs, Scans, Works, CallTurn, Keeping}
use Rattle.inv_ends.proofs.model.Facts.{number_is}
use Rattle.inv_ends.specs.shapes.Slots.{Slots, PhaseIn, ChangeIn, ChangeAtIn}
use Rattle.inv_ends.specs.rows.Rows.{View}
use Rattle.inv_ends.specs.rows.Agree.{Agree}
use Rattle.inv_ends.specs.rows.Queue.{Line}
use Rattle.inv_all.specs.Contents.Buckets.{IsLatest}
use Rattle.inv_all.specs.Contents.Contents.{Contents, ground_of}
use Rattle.inv_all.specs.Contents.Knows.{Knows, Ready}
use Rattle.inv_all.proofs.Contents.Contents.Buckets.{changes_know}
use Rattle.inv_all.proofs.Contents.Contents.Lists.{after_append}
use Rattle.inv_all.proofs.Contents.Stands.Rounds.{Adds, clearing_adds, clearing_next_adds}
use Rattle.inv_all.specs.Contents.Reads.{Reads}
use Rattle.inv_all.specs.Contents.Items.{Shown}
use Rattle.inv_all.specs.Contents.Bounded.{BoundedStart, BoundedBegin, BoundedKept}
use Rattle.inv_all.proofs.Contents.QueueReads.Events.{mute_append, end_mute, mute_book}
use Rattle.inv_all.proofs.Contents.Items.Follow.{finds_phase, phase_finds}
use Rattle.inv_all.proofs.Contents.Items.Steps.{first_booked, cut_same}
use Rattle.inv_all.proofs.Contents.QueueReads.Turns.{phase_turns}
use Rattle.inv_all.specs.Contents.Turns.{SameItems, change_hits, enqueue_hits, dequeue_hits, hits, Turns}
use Rattle.inv_ends.proofs.rows.Went.{LineIn, WalksIn}

-- the same of a book
pub record Limits (most pairs : ℕ) (book : Book) : Type 0 where
  pub versions : (b : ℕ) → length (book.changes b) ≤ most
  pub few : (b version : ℕ) → length (pairs_after (take version (book.changes b))) ≤ pairs

same_limits : (most pairs : ℕ) (a b : Book) → ((x : ℕ) → b.changes x ≡ a.changes x) → Limits most pairs a → Limits most pairs b
same_limits most pairs a b e h = record {
  versions = λ x. rw (e x) (h.versions x);
  few = λ x version. rw (e x) (h.few x version);
}

-- one change more
more_pairs : (cs : List Change) (c : Change) (version most : ℕ) → ((n : ℕ) → length (pairs_after (take n cs)) ≤ most) → length (changed (pairs_after cs) c) ≤ most → length (pairs_after (take version (cs ++ c ∷ []))) ≤ most
more_pairs cs c version most h k = by_version (nat_le version (length cs)) refl
  where
    by_version : (x : Bool) → nat_le version (length cs) ≡ x → length (pairs_after (take version (cs ++ c ∷ []))) ≤ most
    by_version true e =
        let low : version ≤ length cs = grind (arith, nat_tests) in
        rw (take-append-le version cs (c ∷ []) low) (h version)
    by_version false e =
        let past : length cs < version = grind (arith, nat_tests) in
        let long : length (cs ++ c ∷ []) ≡ length cs + 1 = length-append cs (c ∷ []) in
        let whole : length (cs ++ c ∷ []) ≤ version = omega arith in
        rw (take_all version (cs ++ c ∷ []) whole, after_append cs c) k

change_limits : (most pairs : ℕ) (a b : Book) (bucket : ℕ) (c : Change) → ((x : ℕ) → b.changes x ≡ upd a.changes bucket (a.changes bucket ++ c ∷ []) x) → length (a.changes bucket) < most → length (changed (pairs_after (a.changes bucket)) c) ≤ pairs → Limits most pairs a → Limits most pairs b
change_limits most pairs a b bucket c e low few h = record {
  versions = λ x. by_version x (x == bucket) refl;
  few = λ x version. by_pairs x version (x == bucket) refl;
}
  where
    own : (x : ℕ) → (x == bucket) ≡ true → b.changes x ≡ a.changes bucket ++ c ∷ []
    own x s = e x ∙ (rw s refl)

    other : (x : ℕ) → (x == bucket) ≡ false → b.changes x ≡ a.changes x
    other x s = e x ∙ (rw s refl)

    by_version : (x : ℕ) (same : Bool) → (x == bucket) ≡ same → length (b.changes x) ≤ most
    by_version x true s = rw (own x s, length-append (a.changes bucket) (c ∷ [])) (omega arith)
    by_version x false s = rw (other x s) (h.versions x)

    by_pairs : (x version : ℕ) (same : Bool) → (x == bucket) ≡ same → length (pairs_after (take version (b.changes x))) ≤ pairs
    by_pairs x version true s = rw (own x s) (more_pairs (a.changes bucket) c version pairs (λ n. h.few bucket n) few)
    by_pairs x version false s = rw (other x s) (h.few x version)

change_told : (a : Book) (bucket version : ℕ) (c : Change) (x : ℕ) → (booked_all a (alters.told_change bucket version c ∷ [])).changes x ≡ upd a.changes bucket (a.changes bucket ++ c ∷ []) x
change_told a bucket version (changes.Put key value) x = refl
change_told a bucket version (changes.Removed key) x = refl

exchange_limits : (most pairs : ℕ) (a : Book) (kept : ChangeKept) (slot : ℕ) (post : Post) (desk : Desk) (same : Bool) → same ≡ true → length (a.changes (alters.changed_bucket kept post)) < most → length (changed (pairs_after (a.changes (alters.changed_bucket kept post))) kept.change) ≤ pairs → Limits most pairs a → Limits most pairs (booked_all a (told_by (alters.exchanged kept slot post desk same)))
exchange_limits most pairs a kept slot post desk false e low few h = absurd (cc)
exchange_limits most pairs a kept slot post desk true e low few h =
    let b : ℕ = alters.changed_bucket kept post in
    let first : List Event = alters.told_linked kept slot post in
    let t : CallTurn = alters.exchanged kept slot post desk true in
    let adds : Adds (alters.told_linked kept slot post) (alters.exchanged kept slot post desk true) = clearing_adds (Changes (record kept { taken = None })) (alters.answer_done (kept.version + 1) kept.link) post desk (alters.told_linked kept slot post) in
    let same : SameItems (booked_all a first) (booked_all a (told_by t)) = first_booked a first t adds in
    let linked : Book = booked_all a (events.Link (roots.Bucket b) slot ∷ []) in
    let cut : booked_all a first ≡ booked_all linked (alters.told_change b (kept.version + 1) kept.change ∷ []) = cut_same linked _ (kept.link == 0) (alters.told_change b (kept.version + 1) kept.change ∷ []) in
    change_limits most pairs a (booked_all a (told_by t)) b kept.change (λ x. same.changes x ∙ ap (λ (y : Book). y.changes x) cut ∙ change_told linked b (kept.version + 1) kept.change x) low few h

join_limits : (most pairs : ℕ) (a : Book) (kept : EnqueueKept) (slot : ℕ) (post : Post) (desk : Desk) (same : Bool) → same ≡ true → Limits most pairs a → Limits most pairs (booked_all a (told_by (enqueues.appended kept slot post desk same)))
join_limits most pairs a kept slot post desk false e h = absurd (cc)
join_limits most pairs a kept slot post desk true e h = same_limits most pairs a (booked_all a (told_by (enqueues.appended kept slot post desk true))) (λ x. refl) h

pop_limits : (most pairs : ℕ) (a : Book) (head next number value : ℕ) (post : Post) (desk : Desk) (same : Bool) → same ≡ true → Limits most pairs a → Limits most pairs (booked_all a (told_by (dequeues.taken head next number value post desk same)))
pop_limits most pairs a head next number value post desk false e h = absurd (cc)
pop_limits most pairs a head next number value post desk true e h =
    let first : List Event = events.Link roots.Head next ∷ events.Cut head ∷ events.Taken number value ∷ [] in
    let t : CallTurn = dequeues.taken head next number value post desk true in
    let adds : Adds (events.Link roots.Head next ∷ events.Cut head ∷ events.Taken number value ∷ []) (dequeues.taken head next number value post desk true) = clearing_next_adds (Retiring head (the_answers.Taken number value clock_moves.Still)) post desk (events.Link roots.Head next ∷ events.Cut head ∷ events.Taken number value ∷ []) in
    let same : SameItems (booked_all a first) (booked_all a (told_by t)) = first_booked a first t adds in
    same_limits most pairs a (booked_all a (told_by t)) (λ x. same.changes x) h

-- what is known where a step is made
record Known (most pairs : ℕ) (a : Book) (v : View) (l : Line) (mem : Place → ℕ) (phase : Phase) (next : Post) : Type 0 where
  head : mem Head ≡ v.head
  line : LineIn v l mem
  walks : WalksIn phase v l mem
  reads : Reads phase l a.queued
  shown : Shown most mem a v l
  limits : Limits most pairs a
  version : (kept : ChangeKept) (slot : ℕ) → phase ≡ Works (Changing kept (ExchangeRoot slot)) → mem (Bucket (alters.changed_bucket kept next)) ≡ kept.link → length (a.changes (alters.changed_bucket kept next)) < most
  few : (kept : ChangeKept) (slot : ℕ) → phase ≡ Works (Changing kept (ExchangeRoot slot)) → mem (Bucket (alters.changed_bucket kept next)) ≡ kept.link → length (changed (pairs_after (a.changes (alters.changed_bucket kept next))) kept.change) ≤ pairs

abbrev LimitsIn : (most pairs : ℕ) → Book → (Place → ℕ) → Phase → Post → Post → Desk → Type 0
LimitsIn most pairs a mem phase post next desk = Limits most pairs (booked_all a (told_by (phase_turn phase next desk (finds_phase mem phase post))))

calm_limits : (most pairs : ℕ) (a : Book) (v : View) (l : Line) (mem : Place → ℕ) (phase : Phase) (post next : Post) (desk : Desk) → hits phase (finds_phase mem phase post) ≡ false → Known most pairs a v l mem phase next → LimitsIn most pairs a mem phase post next desk
calm_limits most pairs a v l mem phase post next desk e r =
    let t : CallTurn = phase_turn phase next desk (finds_phase mem phase post) in
    let turns : Turns l a.queued t = phase_turns l a.queued phase next desk (finds_phase mem phase post) e (phase_finds most a v l mem phase post next r.head r.line r.walks r.reads r.shown) r.reads in
    let same : SameItems a (booked_all a (told_by t)) = mute_book (told_by t) a (mute_append t.told (told_end t.post t.outcome) turns.mute (end_mute t.post t.outcome)) in
    same_limits most pairs a (booked_all a (told_by t)) (λ x. same.changes x) r.limits

changes_limits : (most pairs : ℕ) (a : Book) (v : View) (l : Line) (mem : Place → ℕ) (kept : ChangeKept) (at : ChangeAt) (post : Post) (desk : Desk) (hit : Bool) → change_hits kept at (finds_phase mem (Works (Changing kept at)) post) ≡ hit → Known most pairs a v l mem (Works (Changing kept at)) (counted post) → LimitsIn most pairs a mem (Works (Changing kept at)) post (counted post) desk
changes_limits most pairs a v l mem kept at post desk false e r = calm_limits most pairs a v l mem (Works (Changing kept at)) post (counted post) desk e r
changes_limits most pairs a v l mem kept (LoadVersion slot) post desk true e r = absurd (cc)
changes_limits most pairs a v l mem kept (LoadCount slot) post desk true e r = absurd (cc)
changes_limits most pairs a v l mem kept (LoadKey slot count) post desk true e r = absurd (cc)
changes_limits most pairs a v l mem kept (LoadValue slot count key) post desk true e r = absurd (cc)
changes_limits most pairs a v l mem kept (ExchangeRoot slot) post desk true e r =
    let at : mem (Bucket (alters.changed_bucket kept post)) ≡ kept.link = number_is (mem (Bucket (alters.changed_bucket kept post))) kept.link e in
    exchange_limits most pairs a kept slot (counted post) desk (mem (Bucket (alters.changed_bucket kept post)) == kept.link) e (r.version kept slot refl at) (r.few kept slot refl at) r.limits

enqueues_limits : (most pairs : ℕ) (a : Book) (v : View) (l : Line) (mem : Place → ℕ) (kept : EnqueueKept) (at : EnqueueAt) (post next : Post) (desk : Desk) (hit : Bool) → enqueue_hits at (finds_phase mem (Works (Enqueuing kept at)) post) ≡ hit → Known most pairs a v l mem (Works (Enqueuing kept at)) next → LimitsIn most pairs a mem (Works (Enqueuing kept at)) post next desk
enqueues_limits most pairs a v l mem kept at post next desk false e r = calm_limits most pairs a v l mem (Works (Enqueuing kept at)) post next desk e r
enqueues_limits most pairs a v l mem kept LoadNumber post next desk true e r = absurd (cc)
enqueues_limits most pairs a v l mem kept LoadNext post next desk true e r = absurd (cc)
enqueues_limits most pairs a v l mem kept (PassTail link) post next desk true e r = absurd (cc)
enqueues_limits most pairs a v l mem kept (ExchangeTail slot) post next desk true e r = absurd (cc)
enqueues_limits most pairs a v l mem kept (ExchangeNext slot) post next desk true e r = join_limits most pairs a kept slot next desk (mem (Row kept.tail 0) == 0) e r.limits

dequeues_limits : (most pairs : ℕ) (a : Book) (v : View) (l : Line) (mem : Place → ℕ) (at : DequeueAt) (post next : Post) (desk : Desk) (hit : Bool) → dequeue_hits at (finds_phase mem (Works (Dequeuing at)) post) ≡ hit → Known most pairs a v l mem (Works (Dequeuing at)) next → LimitsIn most pairs a mem (Works (Dequeuing at)) post next desk
dequeues_limits most pairs a v l mem at post next desk false e r = calm_limits most pairs a v l mem (Works (Dequeuing at)) post next desk e r
dequeues_limits most pairs a v l mem (LoadTail head) post next desk true e r = absurd (cc)
dequeues_limits most pairs a v l mem (SwingTail head row) post next desk true e r = absurd (cc)
dequeues_limits most pairs a v l mem (TakeNumber head row) post next desk true e r = absurd (cc)
dequeues_limits most pairs a v l mem (TakeValue head row number) post next desk true e r = absurd (cc)
dequeues_limits most pairs a v l mem (ExchangeHead head row number value) post next desk true e r = pop_limits most pairs a head row number value next desk (mem Head == head + 1) e r.limits

phase_limits : (most pairs : ℕ) (a : Book) (v : View) (l : Line) (mem : Place → ℕ) (phase : Phase) (post : Post) (desk : Desk) → Known most pairs a v l mem phase (counted post) → LimitsIn most pairs a mem phase post (counted post) desk
phase_limits most pairs a v l mem Idle post desk r = calm_limits most pairs a v l mem Idle post (counted post) desk refl r
phase_limits most pairs a v l mem (Runs why base) post desk r = calm_limits most pairs a v l mem (Runs why base) post (counted post) desk refl r
phase_limits most pairs a v l mem (Scans later at) post desk r = calm_limits most pairs a v l mem (Scans later at) post (counted post) desk refl r
phase_limits most pairs a v l mem (Works (Getting key at)) post desk r = calm_limits most pairs a v l mem (Works (Getting key at)) post (counted post) desk refl r
phase_limits most pairs a v l mem (Works (Changing kept at)) post desk r = changes_limits most pairs a v l mem kept at post desk (change_hits kept at (finds_phase mem (Works (Changing kept at)) post)) refl r
phase_limits most pairs a v l mem (Works (Enqueuing kept at)) post desk r = enqueues_limits most pairs a v l mem kept at post (counted post) desk (enqueue_hits at (finds_phase mem (Works (Enqueuing kept at)) post)) refl r
phase_limits most pairs a v l mem (Works (Dequeuing at)) post desk r = dequeues_limits most pairs a v l mem at post (counted post) desk (dequeue_hits at (finds_phase mem (Works (Dequeuing at)) post)) refl r
phase_limits most pairs a v l mem (Works (Keeping at)) post desk r = calm_limits most pairs a v l mem (Works (Keeping at)) post (counted post) desk refl r

-- what a change that exchanges its root has decided upon
latest_of : (w : World) (i : ℕ) (v : View) (kept : ChangeKept) (slot b : ℕ) → Agree w v → Contents w v → (w.seat i).phase ≡ Works (Changing kept (ExchangeRoot slot)) → w.mem (Bucket b) ≡ kept.link → IsLatest w b kept
latest_of w i v kept slot b a c e at =
    let ready : Ready (ground_of w) kept slot = subst (λ (p : Phase). Knows (ground_of w) p) e (c.seats i) in
    changes_know w v b kept a c ready.decided at

change_in : (w : World) (i : ℕ) (kept : ChangeKept) (slot : ℕ) → Slots w → (w.seat i).phase ≡ Works (Changing kept (ExchangeRoot slot)) → ChangeIn w.layout.config kept × ChangeAtIn w.layout.config kept (ExchangeRoot slot)
change_in w i kept slot s e = subst (λ (p : Phase). PhaseIn w.layout (w.seat i).desk p) e (s.seats i).phase

version_low : (w : World) (i : ℕ) (v : View) (kept : ChangeKept) (slot b : ℕ) → Slots w → Agree w v → Contents w v → (w.seat i).phase ≡ Works (Changing kept (ExchangeRoot slot)) → w.mem (Bucket b) ≡ kept.link → length (w.book.changes b) < w.layout.config.last_version
version_low w i v kept slot b s a c e at =
    let latest : IsLatest w b kept = latest_of w i v kept slot b a c e at in
    let low : kept.version < w.layout.config.last_version = (change_in w i kept slot s e).1.1 in
    subst (λ (n : ℕ). n < w.layout.config.last_version) latest.version low

pairs_few : (w : World) (i : ℕ) (v : View) (kept : ChangeKept) (slot b : ℕ) → Slots w → Agree w v → Contents w v → (w.seat i).phase ≡ Works (Changing kept (ExchangeRoot slot)) → w.mem (Bucket b) ≡ kept.link → length (changed (pairs_after (w.book.changes b)) kept.change) ≤ w.layout.config.pairs
pairs_few w i v kept slot b s a c e at =
    let latest : IsLatest w b kept = latest_of w i v kept slot b a c e at in
    let few : length kept.pairs ≤ w.layout.config.pairs = (change_in w i kept slot s e).0.pairs in
    subst (λ (ps : List Pair). length ps ≤ w.layout.config.pairs) latest.pairs few

pub bounded_kept : BoundedKept
bounded_kept w i v l s c b h o =
    let post : Post = counted (w.seat i).post in
    let limits : Limits w.layout.config.last_version w.layout.config.pairs (booked_all w.book (told_by (phase_turn (w.seat i).phase (counted (w.seat i).post) (offered w i).desk (finds_phase w.mem (w.seat i).phase (w.seat i).post)))) =
    phase_limits w.layout.config.last_version w.layout.config.pairs w.book v l w.mem (w.seat i).phase (w.seat i).post (offered w i).desk
    (record {
      head = b.rows.words.head;
      line = b.queue.line;
      walks = b.queue.walks i;
      reads = h.seats i;
      shown = h.rows;
      limits = record { versions = o.versions; few = o.pairs };
      version = λ kept slot e at. version_low w i v kept slot (alters.changed_bucket kept post) s b.rows c e at;
      few = λ kept slot e at. pairs_few w i v kept slot (alters.changed_bucket kept post) s b.rows c e at;
    })
    in record { versions = limits.versions; pairs = limits.few }

pub bounded_begin : BoundedBegin
bounded_begin w i call h = record { versions = h.versions; pairs = h.pairs }

no_pairs : (version : ℕ) → length (pairs_after (take version [])) ≡ 0
no_pairs version = grind arith

pub bounded_start : BoundedStart
bounded_start layout = record {
  versions = λ b. omega arith;
  pairs = λ b version. rw (no_pairs version) (omega arith);
}
