-- The words of a row that its seat writes, and no other.
use Rattle.std.proofs.Common.{ℕ, ◌+◌, ◌≡◌, Bool, true, false, arith, refl, ◌∙◌, sym, subst, List}
use Rattle.std.proofs.lemmas.Bool.Decides.{nat_tests}
use Rattle.std.specs.Prelude.{◌==◌, bit_or, bit_and}
use Rattle.wfe_core.specs.defs.declared.lifetime.Lifetime.{Lifetime}
use Rattle.wfe_core.specs.declared.post.Post.{Post}
use Rattle.wfe_core.specs.Phases.{Base}
use Rattle.wfe_core.specs.Get as gets
use Rattle.wfe_core.specs.Keep as keeps
use Rattle.wfe_core.specs.Change as alters
use Rattle.wfe_core.specs.Enqueue as enqueues
use Rattle.wfe_core.specs.Dequeue as dequeues
use Rattle.wfe_core.specs.Calls.{ChangeKept, EnqueueKept, Why, Opens, FollowsHead, Fills, ClearsNext, Clears, Finishes, GivesUp, Retires, Tidies, Advances, Releases, ReadGuard, GiveBack, GetAt, FindVersion, FindCount, FindKey, FindValue, ChangeAt, LoadVersion, LoadCount, LoadKey, LoadValue, ExchangeRoot, EnqueueAt, LoadNumber, LoadNext, PassTail, ExchangeNext, ExchangeTail, DequeueAt, LoadTail, SwingTail, TakeNumber, TakeValue, ExchangeHead, Getting, Changing, Enqueuing, Dequeuing, Phase, Idle, Runs, Scans, Works, KeepAt, Loosens, LoadHeld, StoreHeld, Looks, Misses, HideSpan, MarkLeft, TakeList, MarkTaken, Keeping}
use Rattle.inv_rows.specs.Rows.Hand.{Taken}
use Rattle.wfe_core.specs.words.Place.{Place, same}
use Rattle.wfe_core.specs.words.Place.Place.{Clock, Bucket, Head, Tail, Claim, Life, Row, Helper, Index, Interval, Request, PlaceOf}
use Rattle.wfe_core.specs.Memory as memory
use Rattle.wfe_core.specs.Memory.{written, Load, Store, Cas, Or, And, change}
use Rattle.wfe_core.specs.Phases.Base.{Begin, Protect, Reload, Clear, Finish, Release, Allocate, Write, GiveUp, Retire, Move}
use Rattle.wfe_core.specs.Machine.{base_move}
use Rattle.wfe_core.specs.WriteRow.{row_word}
use Rattle.wfe_core.specs.Steps.{phase_move}
use Rattle.inv_rows.specs.Rows.{Status, View, Good}
use Rattle.inv_rows.specs.Rows.Status.{Born}
use Rattle.inv_rows.specs.Agree.{Plays}
use Rattle.wfe_core.specs.World.{list_in}
use Rattle.wfe_core.proofs.Facts.{same_number, no_truth}
use Rattle.inv_rows.specs.Facts.{is_born_by, RowWordsStay}
use Rattle.inv_rows.proofs.Words.{put_other}
use Rattle.inv_rows.proofs.Steps.{of_taken}
use Rattle.inv_rows.proofs.Own.{is_link_place, is_linking, is_write, base_links}

row_apart : (s p : ℕ) (q : Place) → is_link_place q ≡ false → same (Row s p) q ≡ false
row_apart s p Clock h = refl
row_apart s p (Helper i) h = refl
row_apart s p (Index i j) h = refl
row_apart s p (Interval i) h = refl
row_apart s p (Request i) h = refl
row_apart s p (Bucket c) h = refl
row_apart s p Head h = refl
row_apart s p Tail h = absurd (no_truth (sym h))
row_apart s p (Claim v) h = refl
row_apart s p (Life t) h = refl
row_apart s p (Row t r) h = absurd (no_truth (sym h))
row_apart s p (PlaceOf i) h = refl

unlinked : (mem : Place → ℕ) (m : memory.Move) (s p : ℕ) → is_linking m ≡ false → written mem m (Row s p) ≡ mem (Row s p)
unlinked mem (Load place) s p h = refl
unlinked mem (Store place value) s p h = put_other mem place (Row s p) value (row_apart s p place h)
unlinked mem (Cas place old new) s p h = put_other mem place (Row s p) (change (Cas place old new) (mem place)) (row_apart s p place h)
unlinked mem (Or place bits) s p h = put_other mem place (Row s p) (bit_or (mem place) bits) (row_apart s p place h)
unlinked mem (And place bits) s p h = put_other mem place (Row s p) (bit_and (mem place) bits) (row_apart s p place h)

-- a row is written where it is filled
not_own : (x : Status) (i : ℕ) → x ≡ Born i → is_born_by i x ≡ true
not_own x i e = rw e (same_number i)

write_apart : (slots i : ℕ) (v : View) (slot s p place : ℕ) (here : Bool) → (s == slot) ≡ here → Good slots v → v.hand i ≡ Taken slot → is_born_by i (v.status s) ≡ false → same (Row s p) (Row slot place) ≡ false
write_apart slots i v slot s p place true e g h n =
    let one : slot ≡ s = grind (arith, nat_tests) in
    let born : v.status s ≡ Born i = subst (λ (x : ℕ). v.status x ≡ Born i) one (of_taken slots v i slot g h) in
    absurd (no_truth (sym n ∙ not_own (v.status s) i born))
write_apart slots i v slot s p place false e g h n = rw e refl

base_stays : (slots i : ℕ) (mem : Place → ℕ) (v : View) (why : Why) (base : Base) (post : Post) (list : List Lifetime) (s p : ℕ) (writes : Bool) → is_write base ≡ writes → Good slots v → Plays i (Runs why base) list v → is_born_by i (v.status s) ≡ false → written mem (base_move base post) (Row s p) ≡ mem (Row s p)
base_stays slots i mem v why base post list s p false e g l n = unlinked mem (base_move base post) s p (base_links base post e)
base_stays slots i mem v (Opens task) (Write slot row place) post list s p true e g l n = absurd (no_truth l.right)
base_stays slots i mem v (FollowsHead parent last) (Write slot row place) post list s p true e g l n = absurd (no_truth l.right)
base_stays slots i mem v (ClearsNext after) (Write slot row place) post list s p true e g l n = absurd (no_truth l.right)
base_stays slots i mem v (Clears task after) (Write slot row place) post list s p true e g l n = absurd (no_truth l.right)
base_stays slots i mem v (Finishes task after) (Write slot row place) post list s p true e g l n = absurd (no_truth l.right)
base_stays slots i mem v (GivesUp answer) (Write slot row place) post list s p true e g l n = absurd (no_truth l.right)
base_stays slots i mem v (Retires answer) (Write slot row place) post list s p true e g l n = absurd (no_truth l.right)
base_stays slots i mem v (Tidies later) (Write slot row place) post list s p true e g l n = absurd (no_truth l.right)
base_stays slots i mem v Advances (Write slot row place) post list s p true e g l n = absurd (no_truth l.right)
base_stays slots i mem v (Releases let_go) (Write slot row place) post list s p true e g l n = absurd (no_truth l.right)
base_stays slots i mem v (Fills task) (Write slot row place) post list s p true e g l n = put_other mem (Row slot place) (Row s p) (row_word row place) (write_apart slots i v slot s p place (s == slot) refl g l.hand n)
base_stays slots i mem v why (Begin at) post list s p true e g l n = absurd (no_truth e)
base_stays slots i mem v why (Protect aim index root steps at) post list s p true e g l n = absurd (no_truth e)
base_stays slots i mem v why (Reload parent index slot era steps) post list s p true e g l n = absurd (no_truth e)
base_stays slots i mem v why (Clear rows index) post list s p true e g l n = absurd (no_truth e)
base_stays slots i mem v why Finish post list s p true e g l n = absurd (no_truth e)
base_stays slots i mem v why (Release index) post list s p true e g l n = absurd (no_truth e)
base_stays slots i mem v why (Allocate at) post list s p true e g l n = absurd (no_truth e)
base_stays slots i mem v why (GiveUp slot) post list s p true e g l n = absurd (no_truth e)
base_stays slots i mem v why (Retire at) post list s p true e g l n = absurd (no_truth e)
base_stays slots i mem v why (Move at) post list s p true e g l n = absurd (no_truth e)

pub get_stays : (mem : Place → ℕ) (at : GetAt) (s p : ℕ) → written mem (gets.get_move at) (Row s p) ≡ mem (Row s p)
get_stays mem (FindVersion slot) s p = refl
get_stays mem (FindCount slot version) s p = refl
get_stays mem (FindKey slot version count pair) s p = refl
get_stays mem (FindValue slot version pair) s p = refl

pub keep_stays : (mem : Place → ℕ) (at : KeepAt) (post : Post) (s p : ℕ) → written mem (keeps.keep_move at post) (Row s p) ≡ mem (Row s p)
keep_stays mem (Loosens let_go) post s p = refl
keep_stays mem (LoadHeld from index) post s p = refl
keep_stays mem (StoreHeld from index era) post s p = refl
keep_stays mem (Looks index key at) post s p = get_stays mem at s p
keep_stays mem (Misses index) post s p = refl
keep_stays mem HideSpan post s p = refl
keep_stays mem MarkLeft post s p = refl
keep_stays mem (TakeList place) post s p = refl
keep_stays mem (MarkTaken place count) post s p = refl

pub change_stays : (mem : Place → ℕ) (kept : ChangeKept) (at : ChangeAt) (post : Post) (s p : ℕ) → written mem (alters.change_move kept at post) (Row s p) ≡ mem (Row s p)
change_stays mem kept (LoadVersion slot) post s p = refl
change_stays mem kept (LoadCount slot) post s p = refl
change_stays mem kept (LoadKey slot count) post s p = refl
change_stays mem kept (LoadValue slot count key) post s p = refl
change_stays mem kept (ExchangeRoot slot) post s p = refl

other_place : (s last p : ℕ) → (p == 0) ≡ false → same (Row s p) (Row last 0) ≡ false
other_place s last p h = grind (arith, nat_tests)

enqueue_stays : (mem : Place → ℕ) (kept : EnqueueKept) (at : EnqueueAt) (s p : ℕ) → (p == 0) ≡ false → written mem (enqueues.enqueue_move kept at) (Row s p) ≡ mem (Row s p)
enqueue_stays mem kept LoadNumber s p h = refl
enqueue_stays mem kept LoadNext s p h = refl
enqueue_stays mem kept (PassTail next) s p h = refl
enqueue_stays mem kept (ExchangeNext slot) s p h = put_other mem (Row kept.tail 0) (Row s p) (change (Cas (Row kept.tail 0) 0 (slot + 1)) (mem (Row kept.tail 0))) (other_place s kept.tail p h)
enqueue_stays mem kept (ExchangeTail slot) s p h = refl

pub dequeue_stays : (mem : Place → ℕ) (at : DequeueAt) (s p : ℕ) → written mem (dequeues.dequeue_move at) (Row s p) ≡ mem (Row s p)
dequeue_stays mem (LoadTail head) s p = refl
dequeue_stays mem (SwingTail head next) s p = refl
dequeue_stays mem (TakeNumber head next) s p = refl
dequeue_stays mem (TakeValue head next number) s p = refl
dequeue_stays mem (ExchangeHead head next number value) s p = refl

phase_stays : (slots i : ℕ) (mem : Place → ℕ) (v : View) (phase : Phase) (post : Post) (list : List Lifetime) (s p : ℕ) → Good slots v → Plays i phase list v → (p == 0) ≡ false → is_born_by i (v.status s) ≡ false → written mem (phase_move phase post) (Row s p) ≡ mem (Row s p)
phase_stays slots i mem v Idle post list s p g l h n = refl
phase_stays slots i mem v (Runs why base) post list s p g l h n = base_stays slots i mem v why base post list s p (is_write base) refl g l n
phase_stays slots i mem v (Scans later (ReadGuard number)) post list s p g l h n = refl
phase_stays slots i mem v (Scans later (GiveBack place slot)) post list s p g l h n = refl
phase_stays slots i mem v (Works (Getting key at)) post list s p g l h n = get_stays mem at s p
phase_stays slots i mem v (Works (Changing kept at)) post list s p g l h n = change_stays mem kept at post s p
phase_stays slots i mem v (Works (Enqueuing kept at)) post list s p g l h n = enqueue_stays mem kept at s p h
phase_stays slots i mem v (Works (Dequeuing at)) post list s p g l h n = dequeue_stays mem at s p
phase_stays slots i mem v (Works (Keeping at)) post list s p g l h n = keep_stays mem at post s p

pub row_words_stay : RowWordsStay
row_words_stay w i v s place a h n = phase_stays w.layout.config.slots i w.mem v (w.seat i).phase (w.seat i).post (list_in w i) s place a.good (a.plays i) h n
