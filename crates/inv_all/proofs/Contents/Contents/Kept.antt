-- Each step keeps what rows of the map show, and what seats know of them.
use Rattle.std.proofs.Common.{ℕ, ◌≤◌, ◌+◌, ◌*◌, ◌%◌, ◌≡◌, Bool, true, false, refl, ap, ◌∙◌, sym, subst, List, ◌++◌, length}
use Rattle.std.proofs.lemmas.List.{append_assoc}
use Rattle.std.specs.Prelude.{◌==◌, if◌then◌else◌, take, Option, None}
use Rattle.inv_ends.specs.model.words.Place.{Place}
use Rattle.inv_ends.specs.model.words.Place.Place.{Bucket, Row}
use Rattle.inv_ends.specs.model.words.declared.layout.Layout.{Layout}
use Rattle.inv_ends.specs.model.defs.Pairs.{pairs_after, value_in}
use Rattle.inv_ends.specs.model.defs.declared.event.Event.{Event}
use Rattle.inv_ends.specs.model.defs.declared.event.Root.{Root}
use Rattle.inv_ends.specs.model.defs.declared.lifetime.Lifetime.{Lifetime}
use Rattle.inv_ends.specs.model.declared.post.Post.{Post}
use Rattle.inv_ends.specs.model.Book.{Book, booked_all}
use Rattle.inv_ends.specs.model.Change as alters
use Rattle.inv_ends.specs.model.Enqueue as enqueues
use Rattle.inv_ends.specs.model.Desks.{Desk, noting}
use Rattle.inv_ends.specs.model.Machine as machine
use Rattle.inv_ends.specs.model.Memory.{place_in, found, written}
use Rattle.inv_ends.specs.model.Posts.{counted}
use Rattle.inv_ends.specs.model.Steps.{phase_move, phase_turn}
use Rattle.inv_ends.specs.model.Locals.{Local, turn, settled, told_by, told_end, rounds_told}
use Rattle.inv_ends.specs.model.World.{World, step, finds, told_in, offered, list_in}
use Rattle.inv_ends.specs.model.Calls.{ChangeKept, EnqueueKept, Changes, ChangeAt, LoadVersion, LoadCount, LoadKey, LoadValue, ExchangeRoot, EnqueueAt, LoadNumber, LoadNext, PassTail, ExchangeNext, ExchangeTail, Getting, Changing, Enqueuing, Dequeuing, Phase, Idle, Runs, Scans, Works, CallTurn, CallOutcome, GoesOn, Answers, Looks, Keeping, GetAt, FindVersion, FindCount, FindKey, FindValue}
use Rattle.inv_ends.proofs.model.Facts.{number_is, same_number}
use Rattle.inv_ends.proofs.model.Ranges.{bounds_of}
use Rattle.inv_ends.specs.rows.Rows.{View, Good, made, is_settled}
use Rattle.inv_ends.specs.rows.Rows.Status.{Born}
use Rattle.inv_ends.specs.rows.Rows.RowMove.{Stays, Appends}
use Rattle.inv_ends.specs.rows.Hands.{row_move, linked_row}
use Rattle.inv_ends.specs.rows.Agree.{Agree, Words, Plays, Needs, RowsNeeds, rows_after}
use Rattle.inv_ends.proofs.rows.Fits.{phase_fits}
use Rattle.inv_ends.proofs.rows.Steps.{of_taken}
use Rattle.inv_ends.specs.shapes.Frame.{phase_left, read_slot}
use Rattle.inv_all.specs.Contents.Shelf.{Shelf, shelf_of, pairs_by, Filled}
use Rattle.inv_all.specs.Contents.Knows.{Ground, Knows, LookKnows, Ready, get_reads, reads_in}
use Rattle.inv_all.specs.Contents.Contents.{Shelved, KeptRows, Contents, ContentsNeeds, ContentsKept}
use Rattle.inv_all.specs.Contents.Told.{AllRight, ContentsTold, LookRight, ContentsLooked}
use Rattle.inv_all.proofs.Contents.Contents.Right.{claimed_right, right_append, linked_right}
use Rattle.inv_all.proofs.Contents.Contents.Told.{all_calm, calm_append, SameBook, SameSlot, calm_book, booked_append, same_slot, claimed_book, claimed_append, calm_claimed}
use Rattle.inv_all.proofs.Contents.Contents.Keeps.{Takes, rises_counted, turn_kept}
use Rattle.inv_all.proofs.Contents.Contents.Lasts.{on, knows_lasts}
use Rattle.inv_all.proofs.Contents.Contents.Links.{exchange_linking, exchange_latest}
use Rattle.inv_all.proofs.Contents.Contents.Machines.{enqueue_stays, rows_stay}
use Rattle.inv_all.proofs.Contents.Contents.Phases.{links_in, RootsHeld, phase_turns}
use Rattle.inv_all.proofs.Contents.Contents.Rounds.{Adds, Turns, plain_knows, clearing_adds}
use Rattle.inv_all.proofs.Contents.Contents.Shelves.{WordsStay, calm_shelved, keeps_all, joined_far, joined_shelved, exchanged_book, linked_booked, exchanged_far, Linking, Latest, exchanged_shelved}
use Rattle.inv_all.proofs.Contents.Contents.Turns.{GetOwes, Shown, Looked, LookOutcome, look_turns}
use Rattle.inv_all.proofs.Contents.Contents.Views.{Keeps, keeps_made, unlinks, settled_stays, owned_stays}
use Rattle.inv_ends.proofs.rows.Runs.{taken_slot}
use Rattle.inv_ends.proofs.shapes.Frame.{settled_phase, settled_seated, finds_at}
use Rattle.inv_ends.proofs.shapes.Kept.{counted_fits, run_counted, work_counted}
use Rattle.inv_ends.specs.shapes.Seats.{PhaseFits}
use Rattle.inv_ends.specs.model.words.Schemes.{publishes_rows}
use Rattle.inv_ends.specs.model.Rounds.{scheme_of}

-- what a step leaves: what rows show, what the seat itself knows, and that rows that stood show the same
pub record Did (n : ℕ) (a b : Book) (v u : View) (after : Place → ℕ) (left : Phase) (told : List Event) : Type 0 where
  pub rows : Shelved (on n (shelf_of b) after) b u
  pub own : Knows (on n (shelf_of b) after) left
  pub far : (s : ℕ) → is_settled (v.status s) ≡ true → SameSlot (shelf_of a) (shelf_of b) s
  pub right : AllRight n a told

-- events that the book does not mind
pub end_calm : (post : Post) (outcome : CallOutcome) → all_calm (told_end post outcome) ≡ true
end_calm post (GoesOn phase) = refl
end_calm post (Answers answer) = refl

slot_then : (a b c : Shelf) (s : ℕ) → SameSlot a b s → SameSlot b c s → SameSlot a c s
slot_then a b c s h k = record { root = k.root ∙ h.root; version = k.version ∙ h.version; pairs = k.pairs ∙ h.pairs; value = k.value ∙ h.value }

did_then : (n : ℕ) (a b c : Book) (v u : View) (after : Place → ℕ) (left : Phase) (told : List Event) → SameBook b c → Did n a b v u after left told → Did n a c v u after left told
did_then n a b c v u after left told e d = record {
  rows = calm_shelved n b c u u after after e (keeps_all u) (λ s q y low. refl) d.rows;
  own = knows_lasts n (shelf_of b) (shelf_of c) after after left (λ s y. same_slot b c s e) (λ s q y low. refl) d.own;
  far = λ s y. slot_then (shelf_of a) (shelf_of b) (shelf_of c) s (d.far s y) (same_slot b c s e);
  right = d.right;
}

-- a step that links no row
turns_same : (n : ℕ) (a : Book) (after : Place → ℕ) (t : CallTurn) → Turns (on n (shelf_of a) after) t → SameBook a (booked_all a (told_by t))
turns_same n a after t h = claimed_book (shelf_of a) (told_by t) a (claimed_append (shelf_of a) t.told (told_end t.post t.outcome) h.calm (calm_claimed (shelf_of a) (told_end t.post t.outcome) (end_calm t.post t.outcome)))

calm_did : (n : ℕ) (a : Book) (v u : View) (mem after : Place → ℕ) (t : CallTurn) → Turns (on n (shelf_of a) after) t → Keeps v u → WordsStay v mem after → Shelved (on n (shelf_of a) mem) a v → Did n a (booked_all a (told_by t)) v u after (phase_left t.outcome) (told_by t)
calm_did n a v u mem after t h k w c =
    let same : SameBook a (booked_all a (told_by t)) = turns_same n a after t h in
    record {
      rows = calm_shelved n a (booked_all a (told_by t)) v u mem after same k w c;
      own = knows_lasts n (shelf_of a) (shelf_of (booked_all a (told_by t))) after after (phase_left t.outcome) (λ s y. same_slot a (booked_all a (told_by t)) s same) (λ s q y low. refl) h.knows;
      far = λ s y. same_slot a (booked_all a (told_by t)) s same;
      right = claimed_right n a (told_by t) (claimed_append (shelf_of a) t.told (told_end t.post t.outcome) h.calm (calm_claimed (shelf_of a) (told_end t.post t.outcome) (end_calm t.post t.outcome)));
    }

calm_right : (n : ℕ) (a : Book) (told : List Event) → all_calm told ≡ true → AllRight n a told
calm_right n a told h = claimed_right n a told (calm_claimed (shelf_of a) told h)

first_told : (told : List Event) (t : CallTurn) (h : Adds told t) → told_by t ≡ told ++ (h.more ++ told_end t.post t.outcome)
first_told told t h = ap (λ (l : List Event). l ++ told_end t.post t.outcome) h.adds ∙ append_assoc told h.more (told_end t.post t.outcome)

-- the book after a turn that tells these events first
first_booked : (a : Book) (told : List Event) (t : CallTurn) → Adds told t → SameBook (booked_all a told) (booked_all a (told_by t))
first_booked a told t h =
    let rest : List Event = h.more ++ told_end t.post t.outcome in
    let all : told_by t ≡ told ++ rest = ap (λ (l : List Event). l ++ told_end t.post t.outcome) h.adds ∙ append_assoc told h.more (told_end t.post t.outcome) in
    let book : booked_all a (told_by t) ≡ booked_all (booked_all a told) rest = ap (λ (l : List Event). booked_all a l) all ∙ booked_append told rest a in
    subst (λ (b : Book). SameBook (booked_all a told) b) (sym book) (calm_book rest (booked_all a told) (calm_append h.more (told_end t.post t.outcome) h.calm (end_calm t.post t.outcome)))

settled_apart : (v : View) (i s slot : ℕ) → v.status slot ≡ Born i → is_settled (v.status s) ≡ true → (s == slot) ≡ false
settled_apart v i s slot born y = by_slot (s == slot) refl
  where
    by_slot : (x : Bool) → (s == slot) ≡ x → x ≡ false
    by_slot true e =
        let is : v.status s ≡ Born i = ap (λ (n : ℕ). v.status n) (number_is s slot e) ∙ born in
        let no : is_settled (v.status s) ≡ false = rw is refl in
        absurd (cc)
    by_slot false e = refl

-- the exchange of the root
exchange_did : (n slots : ℕ) (a : Book) (v : View) (mem after : Place → ℕ) (i : ℕ) (kept : ChangeKept) (slot : ℕ) (post : Post) (desk : Desk) (same : Bool) → same ≡ true → post.layout.config.buckets ≡ n → v.root (alters.changed_bucket kept post) ≡ kept.link → v.status slot ≡ Born i → Good slots v → WordsStay v mem after → Filled after slot (alters.new_row kept) (3 + 2 * length kept.pairs) → Ready (on n (shelf_of a) mem) kept slot → Shelved (on n (shelf_of a) mem) a v
    → Did n a (booked_all a (told_by (alters.exchanged kept slot (counted post) desk same))) v (made i v (if same then linked_row (alters.changed_bucket kept post) slot kept.link else Stays)) after (phase_left (alters.exchanged kept slot (counted post) desk same).outcome) (told_by (alters.exchanged kept slot (counted post) desk same))
exchange_did n slots a v mem after i kept slot post desk false y p root born g w f h c = absurd (cc)
exchange_did n slots a v mem after i kept slot post desk true y p root born g w f h c =
    let b : ℕ = alters.changed_bucket kept post in
    let t : CallTurn = alters.exchanged kept slot (counted post) desk true in
    let adds : Adds (alters.told_linked kept slot (counted post)) t = clearing_adds (Changes (record kept { taken = None })) (alters.answer_done (kept.version + 1) kept.link) (counted post) desk (alters.told_linked kept slot (counted post)) in
    let first : SameBook (booked_all a (alters.told_linked kept slot (counted post))) (booked_all a (told_by t)) = first_booked a (alters.told_linked kept slot (counted post)) t adds in
    let same : SameBook (exchanged_book a b slot kept.change) (booked_all a (told_by t)) = subst (λ (x : Book). SameBook x (booked_all a (told_by t))) (linked_booked a kept slot (counted post)) first in
    let linking : Linking v (made i v (linked_row b slot kept.link)) b slot = exchange_linking slots i v b slot kept.link g root born in
    let latest : Latest (a.changes b) kept = exchange_latest n slots a mem v kept b g root c h.decided in
    did_then
    n
    a
    (exchanged_book a b slot kept.change)
    (booked_all a (told_by t))
    v
    (made i v (linked_row b slot kept.link))
    after
    (phase_left t.outcome)
    (told_by t)
    same
    (record {
      rows = exchanged_shelved n a v (made i v (linked_row b slot kept.link)) mem after b slot kept linking latest w f c;
      own = plain_knows (on n (shelf_of (exchanged_book a b slot kept.change)) after) (phase_left t.outcome) adds.plain;
      far = λ s z. exchanged_far a b slot kept.change s (settled_apart v i s slot born z) (λ d r. c.within s d z r);
      right = subst (λ (l : List Event). AllRight n a l) (sym (first_told (alters.told_linked kept slot (counted post)) t adds)) (right_append n a (alters.told_linked kept slot (counted post)) (adds.more ++ told_end t.post t.outcome) (linked_right n a kept slot (counted post) p latest) (calm_right n a (adds.more ++ told_end t.post t.outcome) (calm_append adds.more (told_end t.post t.outcome) adds.calm (end_calm t.post t.outcome))));
    })

-- a row joins the queue
join_did : (n : ℕ) (a : Book) (v : View) (mem after : Place → ℕ) (i : ℕ) (kept : EnqueueKept) (slot : ℕ) (post : Post) (desk : Desk) (same : Bool) → same ≡ true → kept.number ≡ length a.queued → Filled after slot (enqueues.new_item kept) 3 → v.status slot ≡ Born i → WordsStay v mem after → Shelved (on n (shelf_of a) mem) a v
    → Did n a (booked_all a (told_by (enqueues.appended kept slot post desk same))) v (made i v (if same then Appends slot else Stays)) after (phase_left (enqueues.appended kept slot post desk same).outcome) (told_by (enqueues.appended kept slot post desk same))
join_did n a v mem after i kept slot post desk false y e f born w c = absurd (cc)
join_did n a v mem after i kept slot post desk true y e f born w c = record {
  rows = joined_shelved n a v mem after i kept.tail slot (kept.number + 1) kept.value (ap (λ (k : ℕ). k + 1) e) f w c;
  own = tt;
  far = λ s z. joined_far a kept.tail slot (kept.number + 1) kept.value s (settled_apart v i s slot born z) (λ p r. c.queued s p z r);
  right = (tt, (ap (λ (k : ℕ). k + 1) e, tt));
}

-- a step of a seat that links a row
change_did : (n slots : ℕ) (a : Book) (v : View) (mem after : Place → ℕ) (i : ℕ) (kept : ChangeKept) (at : ChangeAt) (post : Post) (desk : Desk) (list : List Lifetime) → links_in (Works (Changing kept at)) (found (alters.change_move kept at post) (mem (place_in (alters.change_move kept at post)))) ≡ true → post.layout.config.buckets ≡ n → after ≡ written mem (alters.change_move kept at post) → Good slots v → Words slots mem v → Plays i (Works (Changing kept at)) list v → WordsStay v mem after → Knows (on n (shelf_of a) mem) (Works (Changing kept at)) → Shelved (on n (shelf_of a) mem) a v
    → Did n a (booked_all a (told_by (phase_turn (Works (Changing kept at)) (counted post) desk (found (alters.change_move kept at post) (mem (place_in (alters.change_move kept at post))))))) v (made i v (row_move (Works (Changing kept at)) post (found (alters.change_move kept at post) (mem (place_in (alters.change_move kept at post)))))) after (phase_left (phase_turn (Works (Changing kept at)) (counted post) desk (found (alters.change_move kept at post) (mem (place_in (alters.change_move kept at post))))).outcome) (told_by (phase_turn (Works (Changing kept at)) (counted post) desk (found (alters.change_move kept at post) (mem (place_in (alters.change_move kept at post))))))
change_did n slots a v mem after i kept (LoadVersion slot) post desk list y u e g x p w h c = absurd (cc)
change_did n slots a v mem after i kept (LoadCount slot) post desk list y u e g x p w h c = absurd (cc)
change_did n slots a v mem after i kept (LoadKey slot count) post desk list y u e g x p w h c = absurd (cc)
change_did n slots a v mem after i kept (LoadValue slot count key) post desk list y u e g x p w h c = absurd (cc)
change_did n slots a v mem after i kept (ExchangeRoot slot) post desk list y u e g x p w h c =
    let b : ℕ = alters.changed_bucket kept post in
    let root : v.root b ≡ kept.link = sym (x.roots b) ∙ number_is (mem (Bucket b)) kept.link y in
    let born : v.status slot ≡ Born i = of_taken slots v i slot g (p.hand ∙ taken_slot kept.taken slot p.right) in
    exchange_did n slots a v mem after i kept slot post desk (mem (Bucket b) == kept.link) y u root born g w (λ q low high. ap (λ (m : Place → ℕ). m (Row slot q)) e ∙ h.words q low high) h c

row_after : (mem : Place → ℕ) (kept : EnqueueKept) (slot k : ℕ) → 1 ≤ k → written mem (enqueues.enqueue_move kept (ExchangeNext slot)) (Row slot k) ≡ mem (Row slot k)
row_after mem kept slot k low = enqueue_stays mem kept (ExchangeNext slot) slot k low

enqueue_did : (n slots : ℕ) (a : Book) (v : View) (mem after : Place → ℕ) (i : ℕ) (kept : EnqueueKept) (at : EnqueueAt) (post : Post) (desk : Desk) (list : List Lifetime) → links_in (Works (Enqueuing kept at)) (found (enqueues.enqueue_move kept at) (mem (place_in (enqueues.enqueue_move kept at)))) ≡ true → ((k : EnqueueKept) (slot : ℕ) → Works (Enqueuing kept at) ≡ Works (Enqueuing k (ExchangeNext slot)) → mem (Row k.tail 0) ≡ 0 → k.number ≡ length a.queued) → after ≡ written mem (enqueues.enqueue_move kept at) → Knows (on n (shelf_of a) mem) (Works (Enqueuing kept at)) → Good slots v → Plays i (Works (Enqueuing kept at)) list v → WordsStay v mem after → Shelved (on n (shelf_of a) mem) a v
    → Did n a (booked_all a (told_by (phase_turn (Works (Enqueuing kept at)) (counted post) desk (found (enqueues.enqueue_move kept at) (mem (place_in (enqueues.enqueue_move kept at))))))) v (made i v (row_move (Works (Enqueuing kept at)) post (found (enqueues.enqueue_move kept at) (mem (place_in (enqueues.enqueue_move kept at)))))) after (phase_left (phase_turn (Works (Enqueuing kept at)) (counted post) desk (found (enqueues.enqueue_move kept at) (mem (place_in (enqueues.enqueue_move kept at))))).outcome) (told_by (phase_turn (Works (Enqueuing kept at)) (counted post) desk (found (enqueues.enqueue_move kept at) (mem (place_in (enqueues.enqueue_move kept at))))))
enqueue_did n slots a v mem after i kept LoadNumber post desk list y last q f g p w c = absurd (cc)
enqueue_did n slots a v mem after i kept LoadNext post desk list y last q f g p w c = absurd (cc)
enqueue_did n slots a v mem after i kept (PassTail next) post desk list y last q f g p w c = absurd (cc)
enqueue_did n slots a v mem after i kept (ExchangeTail slot) post desk list y last q f g p w c = absurd (cc)
enqueue_did n slots a v mem after i kept (ExchangeNext slot) post desk list y last q f g p w c =
    join_did n a v mem after i kept slot (counted post) desk (mem (Row kept.tail 0) == 0) y (last kept slot refl (number_is (mem (Row kept.tail 0)) 0 y)) (λ k low high. ap (λ (m : Place → ℕ). m (Row slot k)) q ∙ row_after mem kept slot k low ∙ f k low high) (of_taken slots v i slot g (p.hand ∙ taken_slot kept.taken slot p.right)) w c

linking_did : (n slots : ℕ) (a : Book) (v : View) (mem after : Place → ℕ) (i : ℕ) (phase : Phase) (post : Post) (desk : Desk) (list : List Lifetime) → links_in phase (found (phase_move phase post) (mem (place_in (phase_move phase post)))) ≡ true → post.layout.config.buckets ≡ n → ((k : EnqueueKept) (slot : ℕ) → phase ≡ Works (Enqueuing k (ExchangeNext slot)) → mem (Row k.tail 0) ≡ 0 → k.number ≡ length a.queued) → after ≡ written mem (phase_move phase post) → Good slots v → Words slots mem v → Plays i phase list v → WordsStay v mem after → Knows (on n (shelf_of a) mem) phase → Shelved (on n (shelf_of a) mem) a v
    → Did n a (booked_all a (told_by (phase_turn phase (counted post) desk (found (phase_move phase post) (mem (place_in (phase_move phase post))))))) v (made i v (row_move phase post (found (phase_move phase post) (mem (place_in (phase_move phase post)))))) after (phase_left (phase_turn phase (counted post) desk (found (phase_move phase post) (mem (place_in (phase_move phase post))))).outcome) (told_by (phase_turn phase (counted post) desk (found (phase_move phase post) (mem (place_in (phase_move phase post))))))
linking_did n slots a v mem after i Idle post desk list y u last e g x p w h c = absurd (cc)
linking_did n slots a v mem after i (Runs why base) post desk list y u last e g x p w h c = absurd (cc)
linking_did n slots a v mem after i (Scans later at) post desk list y u last e g x p w h c = absurd (cc)
linking_did n slots a v mem after i (Works (Getting key at)) post desk list y u last e g x p w h c = absurd (cc)
linking_did n slots a v mem after i (Works (Changing kept at)) post desk list y u last e g x p w h c = change_did n slots a v mem after i kept at post desk list y u e g x p w h c
linking_did n slots a v mem after i (Works (Enqueuing kept at)) post desk list y u last e g x p w h c = enqueue_did n slots a v mem after i kept at post desk list y last e h g p w c
linking_did n slots a v mem after i (Works (Dequeuing at)) post desk list y u last e g x p w h c = absurd (cc)
linking_did n slots a v mem after i (Works (Keeping at)) post desk list y u last e g x p w h c = absurd (cc)

phase_did : (n slots : ℕ) (a : Book) (v : View) (mem : Place → ℕ) (i : ℕ) (phase : Phase) (post : Post) (desk : Desk) (list : List Lifetime) (links : Bool) → links_in phase (found (phase_move phase post) (mem (place_in (phase_move phase post)))) ≡ links → ((k : EnqueueKept) (slot : ℕ) → phase ≡ Works (Enqueuing k (ExchangeNext slot)) → mem (Row k.tail 0) ≡ 0 → k.number ≡ length a.queued) → Needs slots mem v phase → Good slots v → Words slots mem v → Plays i phase list v
    → RootsHeld n (shelf_of a) phase (λ b. (machine.after b (counted post) (found (phase_move phase post) (mem (place_in (phase_move phase post))))).outcome) → GetOwes n (shelf_of a) (counted post) (reads_in phase) → Shown (reads_in phase) (shelf_of a) mem → Knows (on n (shelf_of a) mem) phase → Shelved (on n (shelf_of a) mem) a v
    → Did n a (booked_all a (told_by (phase_turn phase (counted post) desk (found (phase_move phase post) (mem (place_in (phase_move phase post))))))) v (made i v (row_move phase post (found (phase_move phase post) (mem (place_in (phase_move phase post)))))) (written mem (phase_move phase post)) (phase_left (phase_turn phase (counted post) desk (found (phase_move phase post) (mem (place_in (phase_move phase post))))).outcome) (told_by (phase_turn phase (counted post) desk (found (phase_move phase post) (mem (place_in (phase_move phase post))))))
phase_did n slots a v mem i phase post desk list true y last needs g x p r o shown h c =
    linking_did n slots a v mem (written mem (phase_move phase post)) i phase post desk list y o.buckets last refl g x p (λ s q z low. rows_stay mem phase post s q (settled_stays slots v i phase list s g p z) low) h c
phase_did n slots a v mem i phase post desk list false y last needs g x p r o shown h c =
    let word : ℕ = found (phase_move phase post) (mem (place_in (phase_move phase post))) in
    calm_did
    n
    a
    v
    (made i v (row_move phase post word))
    mem
    (written mem (phase_move phase post))
    (phase_turn phase (counted post) desk word)
    (phase_turns n (shelf_of a) mem phase post (counted post) desk list p.right y r o shown h)
    (keeps_made i v (row_move phase post word) (phase_fits slots i mem v phase post list needs g x p) (unlinks phase post word y))
    (λ s q z low. rows_stay mem phase post s q (settled_stays slots v i phase list s g p z) low)
    c

-- the seat that steps, and the others
knows_at : (g : Ground) (i k : ℕ) (old new : Local) (same : Bool) → (k == i) ≡ same → ((k == i) ≡ false → Knows g old.phase) → Knows g new.phase → Knows g (if same then new else old).phase
knows_at g i k old new true e p q = q
knows_at g i k old new false e p q = p e

roots_held : (w : World) (i : ℕ) (v : View) → ContentsNeeds w i v → RootsHeld w.layout.config.buckets (shelf_of w.book) (w.seat i).phase (λ b. (machine.after b (counted (w.seat i).post) (finds w i)).outcome)
roots_held w i v owed = record { gets = λ key base e slot era o. owed.gets key slot era base e o; changes = λ kept base e slot era o. owed.changes kept slot era base e o }

get_owes : (w : World) (i : ℕ) (v : View) → ContentsNeeds w i v → Contents w v → GetOwes w.layout.config.buckets (shelf_of w.book) (counted (w.seat i).post) (reads_in (w.seat i).phase)
get_owes w i v owed c = record { buckets = ap (λ (layout : Layout). layout.config.buckets) (owed.shapes.fits i).post.layout; lows = λ s b y r. c.rows.within s b (owed.held i s y) r }

pub step_did : (w : World) (i : ℕ) (v : View) → RowsNeeds w i v → ContentsNeeds w i v → Agree w v → Contents w v → Did w.layout.config.buckets w.book (step w i).book v (rows_after w i v) (step w i).mem (phase_left (turn (offered w i) (finds w i)).outcome) (told_in w i)
step_did w i v needs owed agree c =
    let l : Local = offered w i in
    phase_did
    w.layout.config.buckets
    w.layout.config.slots
    w.book
    v
    w.mem
    i
    l.phase
    l.post
    l.desk
    (list_in w i)
    (links_in l.phase (finds w i))
    refl
    owed.last
    needs
    agree.good
    agree.words
    (agree.plays i)
    (roots_held w i v owed)
    (get_owes w i v owed c)
    (λ s b y r. c.rows.shows s b (owed.held i s y) r)
    (c.seats i)
    c.rows

pub contents_told : ContentsTold
contents_told w i v needs owed agree c = (step_did w i v needs owed agree c).right

phase_counted : (layout : Layout) (phase : Phase) (post : Post) → PhaseFits layout post phase → PhaseFits layout (counted post) phase
phase_counted layout Idle post f = tt
phase_counted layout (Runs why base) post f = run_counted layout why base post f
phase_counted layout (Scans later at) post f = f
phase_counted layout (Works work) post f = work_counted work post f

-- a step of a machine tells nothing of rows of the map
machine_same : (w : World) (i : ℕ) (v : View) → links_in (w.seat i).phase (finds w i) ≡ false → ContentsNeeds w i v → Agree w v → Contents w v → SameBook w.book (step w i).book
machine_same w i v y owed agree c =
    let l : Local = offered w i in
    turns_same w.layout.config.buckets w.book (step w i).mem (turn l (finds w i))
    (phase_turns w.layout.config.buckets (shelf_of w.book) w.mem l.phase l.post (counted l.post) l.desk (list_in w i) (agree.plays i).right y (roots_held w i v owed) (get_owes w i v owed c) (λ s b x r. c.rows.shows s b (owed.held i s x) r) (c.seats i))

-- rows that stood at indexes from 2 on are rows of buckets still
kept_before : (w : World) (i : ℕ) (v : View) (k : ℕ) → RowsNeeds w i v → ContentsNeeds w i v → Agree w v → Contents w v → KeptRows (shelf_of (step w i).book) (w.seat k).post
kept_before w i v k needs owed agree c = λ j s low h.
    let row = c.kept k j s low h in
    record { bucket = row.bucket; root = ((step_did w i v needs owed agree c).far s (owed.stood k j s h)).root ∙ row.root }

takes_rows : (w : World) (i : ℕ) (v : View) → ContentsNeeds w i v → Agree w v → Contents w v → Takes (shelf_of (step w i).book) (w.seat i).phase (counted (w.seat i).post) (finds w i)
takes_rows w i v owed agree c = λ key aim index root steps at s e u.
    let same = machine_same w i v (ap (λ (phase : Phase). links_in phase (finds w i)) e) owed agree c in
    record { bucket = key % w.layout.config.buckets; root = same.roots s ∙ owed.holds key aim index root steps at s e (sym (rises_counted (w.seat i).post at (finds w i) s) ∙ u) }

kept_own : (w : World) (i : ℕ) (v : View) → RowsNeeds w i v → ContentsNeeds w i v → Agree w v → Contents w v → KeptRows (shelf_of (step w i).book) (settled (offered w i) (turn (offered w i) (finds w i))).post
kept_own w i v needs owed agree c =
    let l : Local = offered w i in
    let q = owed.shapes.fits i in
    let a : Shelf = shelf_of (step w i).book in
    let Q : Post → Type 0 = KeptRows a in
    let P : Post → Phase → Type 0 = λ post phase. Unit {0} in
    (settled_seated {Q = Q} {P = P} l (turn l (finds w i))
    (record {
      post = turn_kept a w.layout i l.phase (counted l.post) l.desk (w.seat i).desk (finds w i) ((bounds_of w.layout owed.valid).indexes.1) (counted_fits w.layout i l.post q.post) (phase_counted w.layout l.phase l.post q.phase) (owed.slots.seats i).phase (takes_rows w i v owed agree c) (kept_before w i v i needs owed agree c);
      phase = tt;
    })).post

kept_at : (a : Shelf) (old new : Local) (same : Bool) → KeptRows a old.post → KeptRows a new.post → KeptRows a (if same then new else old).post
kept_at a old new true p q = q
kept_at a old new false p q = p

pub contents_kept : ContentsKept
contents_kept w i v needs owed agree c =
    let l : Local = offered w i in
    let n : ℕ = w.layout.config.buckets in
    let slots : ℕ = w.layout.config.slots in
    let t : CallTurn = turn l (finds w i) in
    let d : Did n w.book (step w i).book v (rows_after w i v) (step w i).mem (phase_left t.outcome) (told_by t) = step_did w i v needs owed agree c in
    record {
      rows = d.rows;
      kept = λ k. kept_at
          (shelf_of (step w i).book)
          (w.seat k)
          (settled l t)
          (k == i)
          (kept_before w i v k needs owed agree c)
          (kept_own w i v needs owed agree c);
      seats = λ k. knows_at
          (on n (shelf_of (step w i).book) (step w i).mem)
          i
          k
          (w.seat k)
          (settled l t)
          (k == i)
          refl
          (λ e. knows_lasts n (shelf_of w.book) (shelf_of (step w i).book) w.mem (step w i).mem (w.seat k).phase (λ s y. d.far s (owed.held k s y)) (λ s q y low. rows_stay w.mem l.phase l.post s q (owned_stays slots v i k l.phase (w.seat k).phase (list_in w i) (list_in w k) s e agree.good (agree.plays i) (agree.plays k) y) low) (c.seats k))
          (subst (λ (phase : Phase). Knows (on n (shelf_of (step w i).book) (step w i).mem) phase) (sym (settled_phase l t.post (noting t.desk (told_by t)) (rounds_told (publishes_rows (scheme_of t.post)) l.rounds (told_by t)) t.outcome)) d.own);
    }

-- a look answers what its row shows
look_right : (w : World) (v : View) (key s slot version : ℕ) (value : Option ℕ) → is_settled (v.status s) ≡ true → Contents w v → Looked (on w.layout.config.buckets (shelf_of w.book) w.mem) key s slot version value → LookRight w.book slot version key value
look_right w v key s slot version value y c h =
    let a : Book = w.book in
    let low : (a.row slot).version ≤ length (a.changes h.bucket) = c.rows.within slot h.bucket (subst (λ (n : ℕ). is_settled (v.status n) ≡ true) (sym h.same) y) h.row.root in
    record {
      bucket = h.bucket;
      root = h.row.root;
      shown = h.row.shown;
      was = subst (λ (n : ℕ). n ≤ length (a.changes h.bucket)) (sym h.row.shown) low;
      right = h.right ∙ ap (λ (r : Root). value_in (pairs_by a.changes r (a.row slot).version) key) h.row.root ∙ sym (ap (λ (n : ℕ). value_in (pairs_after (take n (a.changes h.bucket))) key) h.row.shown);
    }

pub contents_looked : ContentsLooked
contents_looked w i v index key at slot version value owed c e q =
    let l : Local = offered w i in
    let n : ℕ = w.layout.config.buckets in
    let a : Shelf = shelf_of w.book in
    let phase : Phase = Works (Keeping (Looks index key at)) in
    let h : LookKnows (on n a w.mem) key at = subst (λ (p : Phase). Knows (on n a w.mem) p) e (c.seats i) in
    let reads = λ (s : ℕ) (x : get_reads at s ≡ true). owed.held i s (ap (λ (p : Phase). reads_in p s) e ∙ x) in
    let t = look_turns n a w.mem h.bucket index key at (counted l.post) l.desk (λ s b x r. c.rows.shows s b (reads s x) r) h.reads in
    let word = finds_at w i phase e in
    let outcome = sym (ap (λ (x : ℕ). (phase_turn phase (counted l.post) l.desk x).outcome) word) ∙ sym (ap (λ (p : Phase). (phase_turn p (counted l.post) l.desk (finds w i)).outcome) e) ∙ q in
    look_right w v key (read_slot at) slot version value (reads (read_slot at) (reads_own at)) c (subst (LookOutcome (on n a w.mem) key (read_slot at)) outcome t.looked)
  where
    reads_own : (at : GetAt) → get_reads at (read_slot at) ≡ true
    reads_own (FindVersion s) = same_number s
    reads_own (FindCount s version) = same_number s
    reads_own (FindKey s version count pair) = same_number s
    reads_own (FindValue s version pair) = same_number s
