-- The call's own steps, and each step of a seat.
use Rattle.std.proofs.Common.{ℕ, ◌+◌, ◌-◌, ◌<◌, ◌≡◌, Bool, true, false, arith, refl, ◌∙◌, sym, subst, length, List}
use Rattle.std.proofs.lemmas.Bool.Decides.{nat_tests}
use Rattle.wfe_core.specs.defs.declared.lifetime.Lifetime.{Lifetime}
use Rattle.std.specs.Prelude.{◌==◌, nat_lt, if◌then◌else◌}
use Rattle.wfe_core.specs.defs.declared.call.Answer.TheVariants as the_answers
use Rattle.wfe_core.specs.declared.post.Post.{Post}
use Rattle.wfe_core.specs.Desks.{Desk}
use Rattle.wfe_core.specs.Phases.{Base}
use Rattle.wfe_core.specs.Get as gets
use Rattle.wfe_core.specs.Keep as keeps
use Rattle.wfe_core.specs.Change as alters
use Rattle.wfe_core.specs.Enqueue as enqueues
use Rattle.wfe_core.specs.Dequeue as dequeues
use Rattle.wfe_core.specs.Calls.{ChangeKept, EnqueueKept, Enqueues, Again, Answering, Why, Opens, FollowsHead, Fills, ClearsNext, Clears, Finishes, GivesUp, Retires, Tidies, Advances, Releases, GetAt, FindVersion, FindCount, FindKey, FindValue, ChangeAt, LoadVersion, LoadCount, LoadKey, LoadValue, ExchangeRoot, EnqueueAt, LoadNumber, LoadNext, PassTail, ExchangeNext, ExchangeTail, DequeueAt, LoadTail, SwingTail, TakeNumber, TakeValue, ExchangeHead, Work, Getting, Changing, Enqueuing, Dequeuing, Phase, Idle, Runs, Scans, Works, KeepAt, Loosens, LoadHeld, StoreHeld, Looks, Misses, HideSpan, MarkLeft, TakeList, MarkTaken, Keeping, GoesOn}
use Rattle.inv_rows.specs.Rows.Hand.{Empty, Taken, Old}
use Rattle.inv_rows.specs.Hands.{in_list, each_once, base_row, row_move, linked_row, change_row, enqueue_row, dequeue_row, keep_row, work_row}
use Rattle.inv_rows.proofs.Lists.{in_list_joined, once_joined}
use Rattle.wfe_core.specs.words.Place.{Place}
use Rattle.wfe_core.specs.words.Place.Place.{Clock, Bucket, Head, Tail, Row, PlaceOf}
use Rattle.wfe_core.specs.Memory as memory
use Rattle.wfe_core.specs.Memory.{place_in, written, upd}
use Rattle.wfe_core.specs.Machine as machine
use Rattle.wfe_core.specs.Machine.{base_move}
use Rattle.wfe_core.specs.Steps.{run_turn, phase_move, phase_turn, work_move, work_turn}
use Rattle.inv_rows.specs.Rows.{Status, View, Good, made, joined}
use Rattle.inv_rows.specs.Rows.Status.{InQueue, Listed}
use Rattle.inv_rows.specs.Rows.RowMove.{Stays, Links, Replaces, Appends, Pops, Adopts}
use Rattle.inv_rows.specs.Agree.{Words, Plays, Needs}
use Rattle.inv_rows.proofs.Made.{links_good, replaces_good, appends_good, pops_good, adopts_good}
use Rattle.inv_rows.proofs.Words.{is_writing, words_plain, words_missed, words_links, words_replaces, words_appends, words_pops, words_adopts}
use Rattle.inv_rows.proofs.Rounds.{get_leaves, reading_leaves, at_next_leaves, clearing_leaves, clearing_next_leaves}
use Rattle.inv_rows.proofs.Turns.{linked_leaves, replaced_leaves, missed_leaves, appended_leaves, unappended_leaves, popped_leaves, unpopped_leaves, takes_list, not_taken_leaves, keep_leaves}
use Rattle.wfe_core.specs.defs.declared.event.Root.TheVariants as roots
use Rattle.inv_rows.proofs.Steps.{Did, did_stays, did_hand, did_plain, did_fills, did_gives_up, did_retires, did_scans, of_taken}
use Rattle.inv_rows.proofs.Runs.{taken_slot}
use Rattle.wfe_core.proofs.Facts.{one_less_one_more, number_is, false_by}

-- the root is exchanged
did_links : (slots i : ℕ) (mem : Place → ℕ) (v : View) (kept : ChangeKept) (slot bucket : ℕ) (post : Post) (desk : Desk) (null : Bool) → (kept.link == 0) ≡ null → (mem (Bucket bucket) == kept.link) ≡ true → Good slots v → Words slots mem v → Plays i (Works (Changing kept (ExchangeRoot slot))) desk.list v
    → Did slots i (written mem (memory.Cas (Bucket bucket) kept.link (slot + 1))) (made i v (if null then Links bucket slot else Replaces bucket slot (kept.link - 1))) (alters.exchanged kept slot post desk true)
did_links slots i mem v kept slot bucket post desk true null same g w p =
    let hand : v.hand i ≡ Taken slot = p.hand ∙ taken_slot kept.taken slot p.right in
    let root : v.root bucket ≡ 0 = sym (w.roots bucket) ∙ number_is (mem (Bucket bucket)) kept.link same ∙ number_is kept.link 0 null in
    did_hand
    slots
    i
    (written mem (memory.Cas (Bucket bucket) kept.link (slot + 1)))
    v
    (made i v (Links bucket slot))
    (Works (Changing kept (ExchangeRoot slot)))
    Empty
    desk.list
    (alters.exchanged kept slot post desk true)
    (links_good slots v i bucket slot g hand root)
    (words_links slots mem v i bucket slot kept.link same (of_taken slots v i slot g hand) w)
    refl
    refl
    p
    (linked_leaves kept slot post desk null)
did_links slots i mem v kept slot bucket post desk false null same g w p =
    let hand : v.hand i ≡ Taken slot = p.hand ∙ taken_slot kept.taken slot p.right in
    let link : mem (Bucket bucket) ≡ kept.link = number_is (mem (Bucket bucket)) kept.link same in
    let root : v.root bucket ≡ kept.link - 1 + 1 = sym (w.roots bucket) ∙ link ∙ one_less_one_more kept.link null in
    did_hand
    slots
    i
    (written mem (memory.Cas (Bucket bucket) kept.link (slot + 1)))
    v
    (made i v (Replaces bucket slot (kept.link - 1)))
    (Works (Changing kept (ExchangeRoot slot)))
    (Old (kept.link - 1))
    desk.list
    (alters.exchanged kept slot post desk true)
    (replaces_good slots v i bucket slot (kept.link - 1) g hand root)
    (words_replaces slots mem v i bucket slot (kept.link - 1) kept.link same (of_taken slots v i slot g hand) (g.roots bucket (kept.link - 1) root) w)
    refl
    refl
    p
    (replaced_leaves kept slot post desk null)

did_exchanges : (slots i : ℕ) (mem : Place → ℕ) (v : View) (kept : ChangeKept) (slot bucket : ℕ) (post : Post) (desk : Desk) (same : Bool) → (mem (Bucket bucket) == kept.link) ≡ same → Good slots v → Words slots mem v → Plays i (Works (Changing kept (ExchangeRoot slot))) desk.list v
    → Did slots i (written mem (memory.Cas (Bucket bucket) kept.link (slot + 1))) (made i v (if same then linked_row bucket slot kept.link else Stays)) (alters.exchanged kept slot post desk same)
did_exchanges slots i mem v kept slot bucket post desk true same g w p = did_links slots i mem v kept slot bucket post desk (kept.link == 0) refl same g w p
did_exchanges slots i mem v kept slot bucket post desk false same g w p =
    did_stays
    slots
    i
    mem
    (written mem (memory.Cas (Bucket bucket) kept.link (slot + 1)))
    v
    (Works (Changing kept (ExchangeRoot slot)))
    desk.list
    (alters.exchanged kept slot post desk false)
    g
    (words_missed slots mem v (Bucket bucket) kept.link (slot + 1) same w)
    p
    (missed_leaves kept slot post desk)

did_changes : (slots i : ℕ) (mem : Place → ℕ) (v : View) (kept : ChangeKept) (at : ChangeAt) (post next : Post) (desk : Desk) → Good slots v → Words slots mem v → Plays i (Works (Changing kept at)) desk.list v
    → Did slots i (written mem (alters.change_move kept at post)) (made i v (change_row kept at post (memory.found (alters.change_move kept at post) (mem (place_in (alters.change_move kept at post)))))) (alters.change_turn kept at next desk (memory.found (alters.change_move kept at post) (mem (place_in (alters.change_move kept at post)))))
did_changes slots i mem v kept (LoadVersion slot) post next desk g w p =
    did_stays slots i mem mem v (Works (Changing kept (LoadVersion slot))) desk.list (alters.change_turn kept (LoadVersion slot) next desk (mem (Row slot 1))) g w p (record { hand = refl; right = refl; list = refl })
did_changes slots i mem v kept (LoadCount slot) post next desk g w p =
    did_stays slots i mem mem v (Works (Changing kept (LoadCount slot))) desk.list (alters.change_turn kept (LoadCount slot) next desk (mem (Row slot 2))) g w p (reading_leaves kept slot (mem (Row slot 2)) next desk (nat_lt 0 (mem (Row slot 2))))
did_changes slots i mem v kept (LoadKey slot count) post next desk g w p =
    did_stays slots i mem mem v (Works (Changing kept (LoadKey slot count))) desk.list (alters.change_turn kept (LoadKey slot count) next desk (mem (Row slot (gets.key_place (length kept.pairs))))) g w p (record { hand = refl; right = refl; list = refl })
did_changes slots i mem v kept (LoadValue slot count key) post next desk g w p =
    did_stays slots i mem mem v (Works (Changing kept (LoadValue slot count key))) desk.list (alters.change_turn kept (LoadValue slot count key) next desk (mem (Row slot (gets.value_place (length kept.pairs))))) g w p (reading_leaves (alters.with_read kept key (mem (Row slot (gets.value_place (length kept.pairs))))) slot count next desk (nat_lt (length kept.pairs + 1) count))
did_changes slots i mem v kept (ExchangeRoot slot) post next desk g w p =
    did_exchanges slots i mem v kept slot (alters.changed_bucket kept post) next desk (mem (Bucket (alters.changed_bucket kept post)) == kept.link) refl g w p

-- a row goes into the queue
did_appends : (slots i : ℕ) (mem : Place → ℕ) (v : View) (kept : EnqueueKept) (slot : ℕ) (post : Post) (desk : Desk) (same : Bool) → (mem (Row kept.tail 0) == 0) ≡ same → Good slots v → Words slots mem v → Plays i (Works (Enqueuing kept (ExchangeNext slot))) desk.list v
    → Did slots i (written mem (memory.Cas (Row kept.tail 0) 0 (slot + 1))) (made i v (if same then Appends slot else Stays)) (enqueues.appended kept slot post desk same)
did_appends slots i mem v kept slot post desk true same g w p =
    let hand : v.hand i ≡ Taken slot = p.hand ∙ taken_slot kept.taken slot p.right in
    did_hand
    slots
    i
    (written mem (memory.Cas (Row kept.tail 0) 0 (slot + 1)))
    v
    (made i v (Appends slot))
    (Works (Enqueuing kept (ExchangeNext slot)))
    Empty
    desk.list
    (enqueues.appended kept slot post desk true)
    (appends_good slots v i slot g hand)
    (words_appends slots mem v i slot kept.tail (of_taken slots v i slot g hand) w)
    refl
    refl
    p
    (appended_leaves kept slot post desk)
did_appends slots i mem v kept slot post desk false same g w p =
    did_stays
    slots
    i
    mem
    (written mem (memory.Cas (Row kept.tail 0) 0 (slot + 1)))
    v
    (Works (Enqueuing kept (ExchangeNext slot)))
    desk.list
    (enqueues.appended kept slot post desk false)
    g
    (words_missed slots mem v (Row kept.tail 0) 0 (slot + 1) same w)
    p
    (unappended_leaves kept slot post desk)

did_enqueues : (slots i : ℕ) (mem : Place → ℕ) (v : View) (kept : EnqueueKept) (at : EnqueueAt) (next : Post) (desk : Desk) → Good slots v → Words slots mem v → Plays i (Works (Enqueuing kept at)) desk.list v
    → Did slots i (written mem (enqueues.enqueue_move kept at)) (made i v (enqueue_row at (memory.found (enqueues.enqueue_move kept at) (mem (place_in (enqueues.enqueue_move kept at)))))) (enqueues.enqueue_turn kept at next desk (memory.found (enqueues.enqueue_move kept at) (mem (place_in (enqueues.enqueue_move kept at)))))
did_enqueues slots i mem v kept LoadNumber next desk g w p =
    did_stays slots i mem mem v (Works (Enqueuing kept LoadNumber)) desk.list (enqueues.enqueue_turn kept LoadNumber next desk (mem (Row kept.tail 1))) g w p (record { hand = refl; right = refl; list = refl })
did_enqueues slots i mem v kept LoadNext next desk g w p =
    did_stays slots i mem mem v (Works (Enqueuing kept LoadNext)) desk.list (enqueues.enqueue_turn kept LoadNext next desk (mem (Row kept.tail 0))) g w p (at_next_leaves kept (mem (Row kept.tail 0)) next desk (mem (Row kept.tail 0) == 0))
did_enqueues slots i mem v kept (PassTail link) next desk g w p =
    did_stays
    slots
    i
    mem
    (written mem (memory.Cas Tail (kept.tail + 1) link))
    v
    (Works (Enqueuing kept (PassTail link)))
    desk.list
    (enqueues.enqueue_turn kept (PassTail link) next desk (mem Tail))
    g
    (words_plain slots mem v (memory.Cas Tail (kept.tail + 1) link) refl w)
    p
    (clearing_leaves (Enqueues kept) Again next desk (enqueues.told_link roots.Tail (link - 1) (mem Tail == kept.tail + 1)))
did_enqueues slots i mem v kept (ExchangeNext slot) next desk g w p = did_appends slots i mem v kept slot next desk (mem (Row kept.tail 0) == 0) refl g w p
did_enqueues slots i mem v kept (ExchangeTail slot) next desk g w p =
    did_stays
    slots
    i
    mem
    (written mem (memory.Cas Tail (kept.tail + 1) (slot + 1)))
    v
    (Works (Enqueuing kept (ExchangeTail slot)))
    desk.list
    (enqueues.enqueue_turn kept (ExchangeTail slot) next desk (mem Tail))
    g
    (words_plain slots mem v (memory.Cas Tail (kept.tail + 1) (slot + 1)) refl w)
    p
    (clearing_leaves (Enqueues kept) (Answering (the_answers.Queued (kept.number + 1))) next desk (enqueues.told_link roots.Tail slot (mem Tail == kept.tail + 1)))

-- the head is exchanged
did_pops : (slots i : ℕ) (mem : Place → ℕ) (v : View) (head next number value : ℕ) (post : Post) (desk : Desk) (same : Bool) → (mem Head == head + 1) ≡ same → (mem Head ≡ head + 1 → v.status next ≡ InQueue) → (mem Head ≡ head + 1 → (next == head) ≡ false) → Good slots v → Words slots mem v → Plays i (Works (Dequeuing (ExchangeHead head next number value))) desk.list v
    → Did slots i (written mem (memory.Cas Head (head + 1) (next + 1))) (made i v (if same then Pops head next else Stays)) (dequeues.taken head next number value post desk same)
did_pops slots i mem v head next number value post desk true same q a g w p =
    let word : mem Head ≡ head + 1 = number_is (mem Head) (head + 1) same in
    let at : v.head ≡ head + 1 = sym w.head ∙ word in
    did_hand
    slots
    i
    (written mem (memory.Cas Head (head + 1) (next + 1)))
    v
    (made i v (Pops head next))
    (Works (Dequeuing (ExchangeHead head next number value)))
    (Old head)
    desk.list
    (dequeues.taken head next number value post desk true)
    (pops_good slots v i head next g p.hand at (q word) (a word))
    (words_pops slots mem v i head next same (g.queue head at) w)
    refl
    refl
    p
    (popped_leaves head next number value post desk)
did_pops slots i mem v head next number value post desk false same q a g w p =
    did_stays
    slots
    i
    mem
    (written mem (memory.Cas Head (head + 1) (next + 1)))
    v
    (Works (Dequeuing (ExchangeHead head next number value)))
    desk.list
    (dequeues.taken head next number value post desk false)
    g
    (words_missed slots mem v Head (head + 1) (next + 1) same w)
    p
    (unpopped_leaves head next number value post desk)

did_dequeues : (slots i : ℕ) (mem : Place → ℕ) (v : View) (at : DequeueAt) (next : Post) (desk : Desk) → Needs slots mem v (Works (Dequeuing at)) → Good slots v → Words slots mem v → Plays i (Works (Dequeuing at)) desk.list v
    → Did slots i (written mem (dequeues.dequeue_move at)) (made i v (dequeue_row at (memory.found (dequeues.dequeue_move at) (mem (place_in (dequeues.dequeue_move at)))))) (dequeues.dequeue_turn at next desk (memory.found (dequeues.dequeue_move at) (mem (place_in (dequeues.dequeue_move at)))))
did_dequeues slots i mem v (LoadTail head) next desk n g w p =
    did_stays slots i mem mem v (Works (Dequeuing (LoadTail head))) desk.list (dequeues.dequeue_turn (LoadTail head) next desk (mem Tail)) g w p (record { hand = refl; right = refl; list = refl })
did_dequeues slots i mem v (SwingTail head row) next desk n g w p =
    did_stays
    slots
    i
    mem
    (written mem (memory.Cas Tail (head + 1) (row + 1)))
    v
    (Works (Dequeuing (SwingTail head row)))
    desk.list
    (dequeues.dequeue_turn (SwingTail head row) next desk (mem Tail))
    g
    (words_plain slots mem v (memory.Cas Tail (head + 1) (row + 1)) refl w)
    p
    (clearing_next_leaves Again next desk (enqueues.told_link roots.Tail row (mem Tail == head + 1)))
did_dequeues slots i mem v (TakeNumber head slot) next desk n g w p =
    did_stays slots i mem mem v (Works (Dequeuing (TakeNumber head slot))) desk.list (dequeues.dequeue_turn (TakeNumber head slot) next desk (mem (Row slot 1))) g w p (record { hand = refl; right = refl; list = refl })
did_dequeues slots i mem v (TakeValue head slot number) next desk n g w p =
    did_stays slots i mem mem v (Works (Dequeuing (TakeValue head slot number))) desk.list (dequeues.dequeue_turn (TakeValue head slot number) next desk (mem (Row slot 2))) g w p (record { hand = refl; right = refl; list = refl })
did_dequeues slots i mem v (ExchangeHead head row number value) next desk n g w p =
    did_pops slots i mem v head row number value next desk (mem Head == head + 1) refl (n.follows head row number value refl) (n.apart head row number value refl) g w p

get_loads : (at : GetAt) → is_writing (gets.get_move at) ≡ false
get_loads (FindVersion slot) = refl
get_loads (FindCount slot version) = refl
get_loads (FindKey slot version count pair) = refl
get_loads (FindValue slot version pair) = refl

keep_loads : (at : KeepAt) (post : Post) → is_writing (keeps.keep_move at post) ≡ false
keep_loads (Loosens let_go) post = refl
keep_loads (LoadHeld from index) post = refl
keep_loads (StoreHeld from index era) post = refl
keep_loads (Looks index key at) post = get_loads at
keep_loads (Misses index) post = refl
keep_loads HideSpan post = refl
keep_loads MarkLeft post = refl
keep_loads (TakeList place) post = refl
keep_loads (MarkTaken place count) post = refl

-- the list that a step may take over: it is that of another seat, which has left
pub record Offers (i : ℕ) (mem : Place → ℕ) (v : View) (phase : Phase) (gift : List Lifetime) : Type 0 where
  pub lists : (place s b r : ℕ) → phase ≡ Works (Keeping (TakeList place)) → mem (PlaceOf place) ≡ 1 → v.lists place s b r ≡ in_list gift s b r
  pub once : (place : ℕ) → phase ≡ Works (Keeping (TakeList place)) → mem (PlaceOf place) ≡ 1 → each_once gift ≡ true
  pub apart : (place : ℕ) → phase ≡ Works (Keeping (TakeList place)) → mem (PlaceOf place) ≡ 1 → (place == i) ≡ false

adopted_own : (i from : ℕ) (v : View) (s b r : ℕ) → (from == i) ≡ false → (made i v (Adopts from)).lists i s b r ≡ joined (v.lists i) (v.lists from) s b r
adopted_own i from v s b r o = grind (arith, nat_tests, o)

listed_apart : (x : Status) (i from r q : ℕ) → x ≡ Listed i r → x ≡ Listed from q → (from == i) ≡ false → ⊥
listed_apart x i from r q e f o = let same : Listed i r ≡ Listed from q = sym e ∙ f in let number : i ≡ from = cc in grind (arith, nat_tests)

-- no row is in both lists
pub gift_apart : (slots i : ℕ) (v : View) (phase : Phase) (list gift : List Lifetime) (from : ℕ) → Good slots v → Plays i phase list v → ((s b r : ℕ) → v.lists from s b r ≡ in_list gift s b r) → (from == i) ≡ false → (s b r c q : ℕ) → in_list list s b r ≡ true → in_list gift s c q ≡ false
gift_apart slots i v phase list gift from g p f o s b r c q u =
    false_by (in_list gift s c q) (λ h. listed_apart (v.status s) i from r q (g.listed i s b r (p.lists s b r ∙ u)) (g.listed from s c q (f s c q ∙ h)) o)

marked_word : (mem : Place → ℕ) (place : ℕ) → (mem (PlaceOf place) == 1) ≡ true → 1 < written mem (memory.Cas (PlaceOf place) 1 2) (PlaceOf place)
marked_word mem place e = grind (arith, nat_tests, e)

marked_place : (mem : Place → ℕ) (place many other count : ℕ) → GoesOn (Works (Keeping (MarkTaken place many))) ≡ GoesOn (Works (Keeping (MarkTaken other count))) → 1 < mem (PlaceOf place) → 1 < mem (PlaceOf other)
marked_place mem place many other count e h = let same : place ≡ other = cc in subst (λ (x : ℕ). 1 < mem (PlaceOf x)) same h

did_takes : (slots i : ℕ) (mem : Place → ℕ) (v : View) (place : ℕ) (next : Post) (desk : Desk) (left : Bool) → (mem (PlaceOf place) == 1) ≡ left → Offers i mem v (Works (Keeping (TakeList place))) desk.gift → Good slots v → Words slots mem v → Plays i (Works (Keeping (TakeList place))) desk.list v
    → Did slots i (written mem (memory.Cas (PlaceOf place) 1 2)) (made i v (if left then Adopts place else Stays)) (keeps.taking place next desk left (mem (PlaceOf place)))
did_takes slots i mem v place next desk true e o g w p =
    let one : mem (PlaceOf place) ≡ 1 = number_is (mem (PlaceOf place)) 1 e in
    let other : (place == i) ≡ false = o.apart place refl one in
    record {
      good = adopts_good slots v i place g other;
      words = words_adopts slots (written mem (memory.Cas (PlaceOf place) 1 2)) v i place (words_plain slots mem v (memory.Cas (PlaceOf place) 1 2) refl w);
      hand = p.hand;
      lists = λ s b r. adopted_own i place v s b r other ∙ (rw (p.lists s b r, o.lists place s b r refl one) (sym (in_list_joined desk.list desk.gift s b r)));
      once = once_joined desk.list desk.gift (gift_apart slots i v (Works (Keeping (TakeList place))) desk.list desk.gift place g p (λ s b r. o.lists place s b r refl one) other) p.once (o.once place refl one);
      right = refl;
      marks = λ more count q. marked_place (written mem (memory.Cas (PlaceOf place) 1 2)) place (length desk.gift) more count q (marked_word mem place e);
    }
did_takes slots i mem v place next desk false e o g w p =
    did_stays
    slots
    i
    mem
    (written mem (memory.Cas (PlaceOf place) 1 2))
    v
    (Works (Keeping (TakeList place)))
    desk.list
    (keeps.taking place next desk false (mem (PlaceOf place)))
    g
    (words_plain slots mem v (memory.Cas (PlaceOf place) 1 2) refl w)
    p
    (not_taken_leaves place next desk (mem (PlaceOf place)))

-- the others move no row
did_keep : (slots i : ℕ) (mem : Place → ℕ) (v : View) (at : KeepAt) (post next : Post) (desk : Desk) → takes_list at ≡ false → Good slots v → Words slots mem v → Plays i (Works (Keeping at)) desk.list v
    → Did slots i (written mem (keeps.keep_move at post)) v (keeps.keep_turn at next desk (memory.found (keeps.keep_move at post) (mem (place_in (keeps.keep_move at post)))))
did_keep slots i mem v at post next desk h g w p =
    let found : ℕ = memory.found (keeps.keep_move at post) (mem (place_in (keeps.keep_move at post))) in
    did_stays slots i mem (written mem (keeps.keep_move at post)) v (Works (Keeping at)) desk.list (keeps.keep_turn at next desk found) g (words_plain slots mem v (keeps.keep_move at post) (keep_loads at post) w) p (keep_leaves at next desk found h)

did_keeps : (slots i : ℕ) (mem : Place → ℕ) (v : View) (at : KeepAt) (post next : Post) (desk : Desk) → Offers i mem v (Works (Keeping at)) desk.gift → Good slots v → Words slots mem v → Plays i (Works (Keeping at)) desk.list v
    → Did slots i (written mem (keeps.keep_move at post)) (made i v (keep_row at (memory.found (keeps.keep_move at post) (mem (place_in (keeps.keep_move at post)))))) (keeps.keep_turn at next desk (memory.found (keeps.keep_move at post) (mem (place_in (keeps.keep_move at post)))))
did_keeps slots i mem v (Loosens let_go) post next desk o g w p = did_keep slots i mem v (Loosens let_go) post next desk refl g w p
did_keeps slots i mem v (LoadHeld from index) post next desk o g w p = did_keep slots i mem v (LoadHeld from index) post next desk refl g w p
did_keeps slots i mem v (StoreHeld from index era) post next desk o g w p = did_keep slots i mem v (StoreHeld from index era) post next desk refl g w p
did_keeps slots i mem v (Looks index key at) post next desk o g w p = did_keep slots i mem v (Looks index key at) post next desk refl g w p
did_keeps slots i mem v (Misses index) post next desk o g w p = did_keep slots i mem v (Misses index) post next desk refl g w p
did_keeps slots i mem v HideSpan post next desk o g w p = did_keep slots i mem v HideSpan post next desk refl g w p
did_keeps slots i mem v MarkLeft post next desk o g w p = did_keep slots i mem v MarkLeft post next desk refl g w p
did_keeps slots i mem v (TakeList place) post next desk o g w p = did_takes slots i mem v place next desk (mem (PlaceOf place) == 1) refl o g w p
did_keeps slots i mem v (MarkTaken place count) post next desk o g w p = did_keep slots i mem v (MarkTaken place count) post next desk refl g w p

did_works : (slots i : ℕ) (mem : Place → ℕ) (v : View) (work : Work) (post next : Post) (desk : Desk) → Needs slots mem v (Works work) → Offers i mem v (Works work) desk.gift → Good slots v → Words slots mem v → Plays i (Works work) desk.list v
    → Did slots i (written mem (work_move work post)) (made i v (work_row work post (memory.found (work_move work post) (mem (place_in (work_move work post)))))) (work_turn work next desk (memory.found (work_move work post) (mem (place_in (work_move work post)))))
did_works slots i mem v (Getting key at) post next desk n o g w p =
    did_stays
    slots
    i
    mem
    (written mem (gets.get_move at))
    v
    (Works (Getting key at))
    desk.list
    (gets.get_turn key at next desk (memory.found (gets.get_move at) (mem (place_in (gets.get_move at)))))
    g
    (words_plain slots mem v (gets.get_move at) (get_loads at) w)
    p
    (get_leaves key at next desk (memory.found (gets.get_move at) (mem (place_in (gets.get_move at)))))
did_works slots i mem v (Changing kept at) post next desk n o g w p = did_changes slots i mem v kept at post next desk g w p
did_works slots i mem v (Enqueuing kept at) post next desk n o g w p = did_enqueues slots i mem v kept at next desk g w p
did_works slots i mem v (Dequeuing at) post next desk n o g w p = did_dequeues slots i mem v at next desk n g w p
did_works slots i mem v (Keeping at) post next desk n o g w p = did_keeps slots i mem v at post next desk o g w p

did_runs : (slots i : ℕ) (mem : Place → ℕ) (v : View) (why : Why) (base : Base) (post next : Post) (desk : Desk) → Needs slots mem v (Runs why base) → Good slots v → Words slots mem v → Plays i (Runs why base) desk.list v
    → Did slots i (written mem (base_move base post)) (made i v (base_row base (memory.found (base_move base post) (mem (place_in (base_move base post)))))) (run_turn why desk (machine.after base next (memory.found (base_move base post) (mem (place_in (base_move base post))))))
did_runs slots i mem v (Fills task) base post next desk n g w p = did_fills slots i mem v task base post next desk n g w p
did_runs slots i mem v (GivesUp answer) base post next desk n g w p = did_gives_up slots i mem v answer base post next desk g w p
did_runs slots i mem v (Retires answer) base post next desk n g w p = did_retires slots i mem v answer base post next desk g w p
did_runs slots i mem v (Opens task) base post next desk n g w p = did_plain slots i mem v (Opens task) base post next desk (memory.found (base_move base post) (mem (place_in (base_move base post)))) g w p refl p.right
did_runs slots i mem v (FollowsHead head tail) base post next desk n g w p = did_plain slots i mem v (FollowsHead head tail) base post next desk (memory.found (base_move base post) (mem (place_in (base_move base post)))) g w p refl p.right
did_runs slots i mem v (ClearsNext after) base post next desk n g w p = did_plain slots i mem v (ClearsNext after) base post next desk (memory.found (base_move base post) (mem (place_in (base_move base post)))) g w p refl p.right
did_runs slots i mem v (Clears task after) base post next desk n g w p = did_plain slots i mem v (Clears task after) base post next desk (memory.found (base_move base post) (mem (place_in (base_move base post)))) g w p refl p.right
did_runs slots i mem v (Finishes task after) base post next desk n g w p = did_plain slots i mem v (Finishes task after) base post next desk (memory.found (base_move base post) (mem (place_in (base_move base post)))) g w p refl p.right
did_runs slots i mem v (Tidies later) base post next desk n g w p = did_plain slots i mem v (Tidies later) base post next desk (memory.found (base_move base post) (mem (place_in (base_move base post)))) g w p refl p.right
did_runs slots i mem v Advances base post next desk n g w p = did_plain slots i mem v Advances base post next desk (memory.found (base_move base post) (mem (place_in (base_move base post)))) g w p refl p.right
did_runs slots i mem v (Releases let_go) base post next desk n g w p = did_plain slots i mem v (Releases let_go) base post next desk (memory.found (base_move base post) (mem (place_in (base_move base post)))) g w p refl p.right

-- one step of a seat that stands at a phase
pub phase_did : (slots i : ℕ) (mem : Place → ℕ) (v : View) (phase : Phase) (post next : Post) (desk : Desk) → Needs slots mem v phase → Offers i mem v phase desk.gift → Good slots v → Words slots mem v → Plays i phase desk.list v
    → Did slots i (written mem (phase_move phase post)) (made i v (row_move phase post (memory.found (phase_move phase post) (mem (place_in (phase_move phase post)))))) (phase_turn phase next desk (memory.found (phase_move phase post) (mem (place_in (phase_move phase post)))))
phase_did slots i mem v Idle post next desk n o g w p =
    did_stays slots i mem mem v Idle desk.list (phase_turn Idle next desk (mem Clock)) g w p (record { hand = refl; right = refl; list = refl })
phase_did slots i mem v (Runs why base) post next desk n o g w p = did_runs slots i mem v why base post next desk n g w p
phase_did slots i mem v (Scans later at) post next desk n o g w p = did_scans slots i mem v later at post next desk g w p
phase_did slots i mem v (Works work) post next desk n o g w p = did_works slots i mem v work post next desk n o g w p
