-- The record says where the queue's next links and its tail lead.
use Rattle.std.proofs.Common.{ℕ, ◌≡◌, ◌<◌, ◌+◌, ◌-◌, Bool, true, false, List, [], ◌∷◌, ◌++◌, Option, Some, refl, sym, ap, ◌∙◌, subst, arith}
use Rattle.std.proofs.lemmas.Bool.Decides.{nat_tests}
use Rattle.std.specs.Prelude.{◌==◌, ◌&&◌, if◌then◌else◌}
use Rattle.law_reuse.specs.inv.model.words.Place.{Place, same}
use Rattle.law_reuse.specs.inv.model.words.Place.Place.{Head, Tail, Bucket, Index, Row}
use Rattle.law_reuse.specs.inv.model.defs.declared.event.Event.{Event}
use Rattle.law_reuse.specs.inv.model.defs.declared.event.Event.TheVariants as events
use Rattle.law_reuse.specs.inv.model.defs.declared.event.Root.TheVariants as roots
use Rattle.law_reuse.specs.inv.model.defs.declared.fold.Change.{Change}
use Rattle.law_reuse.specs.inv.model.defs.declared.fold.Change.TheVariants as changes
use Rattle.law_reuse.specs.inv.model.defs.declared.lifetime.Lifetime.{Lifetime}
use Rattle.law_reuse.specs.inv.model.declared.post.Post.{Post}
use Rattle.law_reuse.specs.inv.model.Change.{told_change, changed_bucket}
use Rattle.law_reuse.specs.inv.model.Enqueue.{told_link}
use Rattle.law_reuse.specs.inv.model.Memory as memory
use Rattle.law_reuse.specs.inv.model.Memory.{written}
use Rattle.law_reuse.specs.inv.model.Machine.{base_move}
use Rattle.law_reuse.specs.inv.model.Phases.{Base, RowOf}
use Rattle.law_reuse.specs.inv.model.Phases.Base.{Write}
use Rattle.law_reuse.specs.inv.model.Posts.{counted, index_word}
use Rattle.law_reuse.specs.inv.model.Steps.{phase_move}
use Rattle.law_reuse.specs.inv.model.WriteRow.{row_word}
use Rattle.law_reuse.specs.inv.model.Calls.{ChangeKept, EnqueueKept, LoadVersion, LoadCount, LoadKey, LoadValue, ExchangeRoot, LoadNumber, LoadNext, PassTail, ExchangeNext, ExchangeTail, LoadTail, SwingTail, TakeNumber, TakeValue, ExchangeHead, KeepAt, StoreHeld, Looks, Getting, Changing, Enqueuing, Dequeuing, Keeping, GetAt, FindVersion, ReadGuard, GiveBack, Why, Phase, Idle, Runs, Scans, Works}
use Rattle.law_reuse.proofs.inv.model.Facts.{same_number, same_both}
use Rattle.law_reuse.specs.inv.rows.Agree.{Plays}
use Rattle.law_reuse.specs.inv.rows.Hands.{row_move}
use Rattle.law_reuse.specs.inv.rows.Queue.{Line, is_past}
use Rattle.law_reuse.specs.inv.rows.Rows.{Status, Hand, View, RowMove, Good, names, status_in}
use Rattle.law_reuse.specs.inv.rows.Rows.Status.{Free, Born}
use Rattle.law_reuse.specs.inv.rows.Rows.Hand.{Taken}
use Rattle.law_reuse.specs.inv.rows.Rows.RowMove.{Stays, Claims, Bears, Drops, Links, Replaces, Appends, Pops, Reads, Seals, Lists, Returns, Adopts}
use Rattle.law_reuse.proofs.inv.rows.Fits.{MoveFits}
use Rattle.law_reuse.proofs.inv.rows.Own.{unlinked_row, unlinked_tail, is_write, base_links}
use Rattle.law_reuse.proofs.inv.rows.Went.{LineIn, WalksIn, born_unlined}
use Rattle.law_reuse.proofs.inv.rows.Words.{put_other, missed}
use Rattle.law_reuse.specs.inv.ends.Told.{row_events, birth_in}
use Rattle.law_reuse.proofs.laws.Along.{along}
use Rattle.law_reuse.specs.laws.StateAt.{next_by, tail_by}
use Rattle.law_scans.proofs.Placing.Fronts.{linked_front, queued_front, taken_front}
use Rattle.law_scans.proofs.Placing.Marks.{marks}
use Rattle.law_scans.proofs.Ordering.Ordered.{word_of}
use Rattle.law_scans.proofs.Placing.Shapes.{why_hand}
use Rattle.law_reuse.proofs.inv.rows.Queued.{finds_phase}

-- events of the rows lead no next link anywhere, but that a row is given
rows_next : (s b : ℕ) (m : RowMove) (x : Option ℕ) → ((slot : ℕ) → m ≡ Claims slot → (s == slot) ≡ false) → along (next_by s) (row_events b m) x ≡ x
rows_next s b (Claims slot) x h = let e : (s == slot) ≡ false = h slot refl in rw e refl
rows_next s b Stays x h = refl
rows_next s b (Bears slot birth) x h = refl
rows_next s b (Drops slot) x h = refl
rows_next s b (Links bucket slot) x h = refl
rows_next s b (Replaces bucket slot old) x h = refl
rows_next s b (Appends slot) x h = refl
rows_next s b (Pops slot next) x h = refl
rows_next s b (Reads slot birth) x h = refl
rows_next s b (Seals slot birth retire) x h = refl
rows_next s b (Lists slot birth retire) x h = refl
rows_next s b (Returns slot) x h = refl
rows_next s b (Adopts from) x h = refl

rows_tail : (b : ℕ) (m : RowMove) (x : ℕ) → along tail_by (row_events b m) x ≡ x
rows_tail b Stays x = refl
rows_tail b (Claims slot) x = refl
rows_tail b (Bears slot birth) x = refl
rows_tail b (Drops slot) x = refl
rows_tail b (Links bucket slot) x = refl
rows_tail b (Replaces bucket slot old) x = refl
rows_tail b (Appends slot) x = refl
rows_tail b (Pops slot next) x = refl
rows_tail b (Reads slot birth) x = refl
rows_tail b (Seals slot birth retire) x = refl
rows_tail b (Lists slot birth retire) x = refl
rows_tail b (Returns slot) x = refl
rows_tail b (Adopts from) x = refl

past_free : (x : Status) → x ≡ Free → is_past x ≡ true → false ≡ true
past_free x e h = rw e at h

-- a row that was in the queue since it was claimed is not claimed
lined_unclaimed : (i : ℕ) (v : View) (l : Line) (mem : Place → ℕ) (m : RowMove) (s : ℕ) → LineIn v l mem → MoveFits i v m → l.lined s ≡ true → (slot : ℕ) → m ≡ Claims slot → (s == slot) ≡ false
lined_unclaimed i v l mem m s g f e slot q = by (s == slot) refl
  where
    by : (x : Bool) → (s == slot) ≡ x → x ≡ false
    by false u = refl
    by true u =
        let same : slot ≡ s = grind (arith, nat_tests) in
        let free : v.status slot ≡ Free = subst (λ (n : RowMove). MoveFits i v n) q f in
        let z : false ≡ true = past_free (v.status s) (ap v.status (sym same) ∙ free) (g.passed s e) in
        absurd (cc)

-- the row that is written was not
written_other : (lined : ℕ → Bool) (s slot : ℕ) → lined s ≡ true → lined slot ≡ false → (s == slot) ≡ false
written_other lined s slot a b = by (s == slot) refl
  where
    by : (x : Bool) → (s == slot) ≡ x → x ≡ false
    by false u = refl
    by true u = let same : s ≡ slot = grind (arith, nat_tests) in let c : lined s ≡ false = ap lined same ∙ b in absurd (cc)

writes_born : (slots i : ℕ) (v : View) (why : Why) (slot place : ℕ) (row : RowOf) (list : List Lifetime) → Good slots v → Plays i (Runs why (Write slot row place)) list v → v.status slot ≡ Born i
writes_born slots i v why slot place row list g p =
    let h : v.hand i ≡ Taken slot = p.hand ∙ why_hand why (Write slot row place) p.right refl in
    let n : names (v.hand i) slot ≡ true = ap (λ (x : Hand). names x slot) h ∙ same_number slot in
    g.hands i slot n ∙ ap (status_in i) h

row_other : (mem : Place → ℕ) (slot place value s : ℕ) → (s == slot) ≡ false → written mem (memory.Store (Row slot place) value) (Row s 0) ≡ mem (Row s 0)
row_other mem slot place value s e = put_other mem (Row slot place) (Row s 0) value (ap (λ (x : Bool). x && (0 == place)) e)

-- a link after a row is told where it is made
exchanged : (mem : Place → ℕ) (last link s : ℕ) → (mem (Row last 0) == 0) ≡ true → written mem (memory.Cas (Row last 0) 0 link) (Row s 0) ≡ (if s == last then link else mem (Row s 0))
exchanged mem last link s e = grind (arith, nat_tests)

pub joined_next : (mem : Place → ℕ) (kept : EnqueueKept) (slot s : ℕ) (x : Option ℕ) (same : Bool) → (mem (Row kept.tail 0) == 0) ≡ same → word_of x ≡ mem (Row s 0) → word_of (along (next_by s) (queued_front kept slot same) x) ≡ written mem (memory.Cas (Row kept.tail 0) 0 (slot + 1)) (Row s 0)
joined_next mem kept slot s x true e h = at_row (s == kept.tail) ∙ sym (exchanged mem kept.tail (slot + 1) s e)
  where
    at_row : (here : Bool) → word_of (if here then Some slot else x) ≡ (if here then slot + 1 else mem (Row s 0))
    at_row true = refl
    at_row false = h
joined_next mem kept slot s x false e h = h ∙ sym (missed mem (Row kept.tail 0) (Row s 0) 0 (slot + 1) e)

pub link_next : (s slot : ℕ) (x : Option ℕ) (same : Bool) → along (next_by s) (told_link roots.Tail slot same) x ≡ x
link_next s slot x true = refl
link_next s slot x false = refl

pub taken_next : (s head next number value : ℕ) (x : Option ℕ) (same : Bool) → along (next_by s) (taken_front head next number value same) x ≡ x
taken_next s head next number value x true = refl
taken_next s head next number value x false = refl

change_next : (s bucket version : ℕ) (change : Change) (x : Option ℕ) → along (next_by s) (told_change bucket version change ∷ []) x ≡ x
change_next s bucket version (changes.Put key value) x = refl
change_next s bucket version (changes.Removed key) x = refl

cut_next : (s link : ℕ) (none : Bool) (told : List Event) (x : Option ℕ) → along (next_by s) told x ≡ x → along (next_by s) ((if none then [] else events.Cut (link - 1) ∷ []) ++ told) x ≡ x
cut_next s link true told x h = h
cut_next s link false told x h = h

pub linked_next : (kept : ChangeKept) (slot : ℕ) (post : Post) (s : ℕ) (x : Option ℕ) (same : Bool) → along (next_by s) (linked_front kept slot post same) x ≡ x
linked_next kept slot post s x true = cut_next s kept.link (kept.link == 0) _ x (change_next s (changed_bucket kept post) (kept.version + 1) kept.change x)
linked_next kept slot post s x false = refl

pub cas_other : (mem : Place → ℕ) (p q : Place) (old new : ℕ) → same q p ≡ false → written mem (memory.Cas p old new) q ≡ mem q
cas_other mem p q old new h = put_other mem p q (memory.change (memory.Cas p old new) (mem p)) h

-- what is known where a seat makes its step
pub record Here (slots i : ℕ) (mem : Place → ℕ) (v : View) (l : Line) (phase : Phase) (post : Post) (list : List Lifetime) : Type 0 where
  pub good : Good slots v
  pub plays : Plays i phase list v
  pub line : LineIn v l mem
  pub walks : WalksIn phase v l mem
  pub fits : MoveFits i v (row_move phase post (finds_phase mem phase post))

plain_next : (slots i : ℕ) (mem : Place → ℕ) (v : View) (l : Line) (phase : Phase) (post : Post) (list : List Lifetime) (s b : ℕ) (x : Option ℕ) → Here slots i mem v l phase post list → l.lined s ≡ true → word_of x ≡ mem (Row s 0) → written mem (phase_move phase post) (Row s 0) ≡ mem (Row s 0)
    → word_of (along (next_by s) (row_events b (row_move phase post (finds_phase mem phase post))) x) ≡ written mem (phase_move phase post) (Row s 0)
plain_next slots i mem v l phase post list s b x k e h m =
    ap word_of (rows_next s b (row_move phase post (finds_phase mem phase post)) x (lined_unclaimed i v l mem (row_move phase post (finds_phase mem phase post)) s k.line k.fits e)) ∙ h ∙ sym m

plain_row : (mem : Place → ℕ) (base : Base) (post : Post) (s : ℕ) → is_write base ≡ false → written mem (base_move base post) (Row s 0) ≡ mem (Row s 0)
plain_row mem base post s h = unlinked_row mem (base_move base post) s (base_links base post h)

run_left : (slots i : ℕ) (mem : Place → ℕ) (v : View) (l : Line) (why : Why) (base : Base) (post : Post) (list : List Lifetime) (s : ℕ) → Here slots i mem v l (Runs why base) post list → l.lined s ≡ true → written mem (phase_move (Runs why base) post) (Row s 0) ≡ mem (Row s 0)
run_left slots i mem v l why (Write slot row place) post list s k e =
    row_other mem slot place (row_word row place) s (written_other l.lined s slot e (born_unlined i v l mem slot k.line (writes_born slots i v why slot place row list k.good k.plays)))
run_left slots i mem v l why base post list s k e = plain_row mem base post s refl

get_left : (mem : Place → ℕ) (key : ℕ) (at : GetAt) (post : Post) (s : ℕ) → written mem (phase_move (Works (Getting key at)) post) (Row s 0) ≡ mem (Row s 0)
get_left mem key (FindVersion slot) post s = refl
get_left mem key at post s = refl

keep_left : (mem : Place → ℕ) (at : KeepAt) (post : Post) (s : ℕ) → written mem (phase_move (Works (Keeping at)) post) (Row s 0) ≡ mem (Row s 0)
keep_left mem (StoreHeld from index era) post s = put_other mem (Index post.seat index) (Row s 0) (index_word post index era) refl
keep_left mem (Looks index key at) post s = get_left mem key at post s
keep_left mem at post s = refl

-- the next link of a row that was in the queue since it was claimed
pub next_moved : (slots i : ℕ) (mem : Place → ℕ) (v : View) (l : Line) (phase : Phase) (post : Post) (list : List Lifetime) (s : ℕ) (x : Option ℕ) → Here slots i mem v l phase post list → l.lined s ≡ true → word_of x ≡ mem (Row s 0)
    → word_of (along (next_by s) (marks phase post (finds_phase mem phase post)) x) ≡ written mem (phase_move phase post) (Row s 0)
next_moved slots i mem v l Idle post list s x k e h = h
next_moved slots i mem v l (Runs why base) post list s x k e h = plain_next slots i mem v l (Runs why base) post list s (birth_in (Runs why base)) x k e h (run_left slots i mem v l why base post list s k e)
next_moved slots i mem v l (Scans later (ReadGuard number)) post list s x k e h = h
next_moved slots i mem v l (Scans later (GiveBack place slot)) post list s x k e h = h ∙ sym (unlinked_row mem (phase_move (Scans later (GiveBack place slot)) post) s refl)
next_moved slots i mem v l (Works (Getting key at)) post list s x k e h = h ∙ sym (get_left mem key at post s)
next_moved slots i mem v l (Works (Keeping at)) post list s x k e h = h ∙ sym (keep_left mem at post s)
next_moved slots i mem v l (Works (Changing kept (LoadVersion slot))) post list s x k e h = h
next_moved slots i mem v l (Works (Changing kept (LoadCount slot))) post list s x k e h = h
next_moved slots i mem v l (Works (Changing kept (LoadKey slot count))) post list s x k e h = h
next_moved slots i mem v l (Works (Changing kept (LoadValue slot count key))) post list s x k e h = h
next_moved slots i mem v l (Works (Changing kept (ExchangeRoot slot))) post list s x k e h =
    ap word_of (linked_next kept slot (counted post) s x (mem (Bucket (changed_bucket kept post)) == kept.link)) ∙ h ∙ sym (unlinked_row mem (phase_move (Works (Changing kept (ExchangeRoot slot))) post) s refl)
next_moved slots i mem v l (Works (Enqueuing kept LoadNumber)) post list s x k e h = h
next_moved slots i mem v l (Works (Enqueuing kept LoadNext)) post list s x k e h = h
next_moved slots i mem v l (Works (Enqueuing kept (PassTail next))) post list s x k e h =
    ap word_of (link_next s (next - 1) x (mem Tail == kept.tail + 1)) ∙ h ∙ sym (cas_other mem Tail (Row s 0) (kept.tail + 1) next refl)
next_moved slots i mem v l (Works (Enqueuing kept (ExchangeNext slot))) post list s x k e h = joined_next mem kept slot s x (mem (Row kept.tail 0) == 0) refl h
next_moved slots i mem v l (Works (Enqueuing kept (ExchangeTail slot))) post list s x k e h =
    ap word_of (link_next s slot x (mem Tail == kept.tail + 1)) ∙ h ∙ sym (cas_other mem Tail (Row s 0) (kept.tail + 1) (slot + 1) refl)
next_moved slots i mem v l (Works (Dequeuing (LoadTail head))) post list s x k e h = h
next_moved slots i mem v l (Works (Dequeuing (SwingTail head next))) post list s x k e h =
    ap word_of (link_next s next x (mem Tail == head + 1)) ∙ h ∙ sym (cas_other mem Tail (Row s 0) (head + 1) (next + 1) refl)
next_moved slots i mem v l (Works (Dequeuing (TakeNumber head next))) post list s x k e h = h
next_moved slots i mem v l (Works (Dequeuing (TakeValue head next number))) post list s x k e h = h
next_moved slots i mem v l (Works (Dequeuing (ExchangeHead head next number value))) post list s x k e h =
    ap word_of (taken_next s head next number value x (mem Head == head + 1)) ∙ h ∙ sym (cas_other mem Head (Row s 0) (head + 1) (next + 1) refl)

-- the tail
pub swung : (mem : Place → ℕ) (old new : ℕ) → (mem Tail == old) ≡ true → written mem (memory.Cas Tail old new) Tail ≡ new
swung mem old new e = grind (arith, nat_tests)

swung_tail : (mem : Place → ℕ) (slot old new x : ℕ) (same : Bool) → (mem Tail == old) ≡ same → slot + 1 ≡ new → x + 1 ≡ mem Tail → along tail_by (told_link roots.Tail slot same) x + 1 ≡ written mem (memory.Cas Tail old new) Tail
swung_tail mem slot old new x true e n h = n ∙ sym (swung mem old new e)
swung_tail mem slot old new x false e n h = h ∙ sym (missed mem Tail Tail old new e)

queued_tail : (kept : EnqueueKept) (slot x : ℕ) (same : Bool) → along tail_by (queued_front kept slot same) x ≡ x
queued_tail kept slot x true = refl
queued_tail kept slot x false = refl

taken_tail : (head next number value x : ℕ) (same : Bool) → along tail_by (taken_front head next number value same) x ≡ x
taken_tail head next number value x true = refl
taken_tail head next number value x false = refl

change_tail : (bucket version : ℕ) (change : Change) (x : ℕ) → along tail_by (told_change bucket version change ∷ []) x ≡ x
change_tail bucket version (changes.Put key value) x = refl
change_tail bucket version (changes.Removed key) x = refl

cut_tail : (link : ℕ) (none : Bool) (told : List Event) (x : ℕ) → along tail_by told x ≡ x → along tail_by ((if none then [] else events.Cut (link - 1) ∷ []) ++ told) x ≡ x
cut_tail link true told x h = h
cut_tail link false told x h = h

linked_tail : (kept : ChangeKept) (slot : ℕ) (post : Post) (x : ℕ) (same : Bool) → along tail_by (linked_front kept slot post same) x ≡ x
linked_tail kept slot post x true = cut_tail kept.link (kept.link == 0) _ x (change_tail (changed_bucket kept post) (kept.version + 1) kept.change x)
linked_tail kept slot post x false = refl

pub run_tail : (mem : Place → ℕ) (why : Why) (base : Base) (post : Post) → written mem (phase_move (Runs why base) post) Tail ≡ mem Tail
run_tail mem why (Write slot row place) post = put_other mem (Row slot place) Tail (row_word row place) refl
run_tail mem why base post = unlinked_tail mem (base_move base post) (base_links base post refl)

pub get_tail : (mem : Place → ℕ) (key : ℕ) (at : GetAt) (post : Post) → written mem (phase_move (Works (Getting key at)) post) Tail ≡ mem Tail
get_tail mem key (FindVersion slot) post = refl
get_tail mem key at post = refl

pub keep_tail : (mem : Place → ℕ) (at : KeepAt) (post : Post) → written mem (phase_move (Works (Keeping at)) post) Tail ≡ mem Tail
keep_tail mem (StoreHeld from index era) post = put_other mem (Index post.seat index) Tail (index_word post index era) refl
keep_tail mem (Looks index key at) post = get_tail mem key at post
keep_tail mem at post = refl

pub before_next : (next : ℕ) → 0 < next → next - 1 + 1 ≡ next
before_next next h = omega (h, arith)

pub tail_moved : (slots i : ℕ) (mem : Place → ℕ) (v : View) (l : Line) (phase : Phase) (post : Post) (list : List Lifetime) (x : ℕ) → Here slots i mem v l phase post list → x + 1 ≡ mem Tail
    → along tail_by (marks phase post (finds_phase mem phase post)) x + 1 ≡ written mem (phase_move phase post) Tail
tail_moved slots i mem v l Idle post list x k h = h
tail_moved slots i mem v l (Runs why base) post list x k h = ap (λ (n : ℕ). n + 1) (rows_tail (birth_in (Runs why base)) (row_move (Runs why base) post (finds_phase mem (Runs why base) post)) x) ∙ h ∙ sym (run_tail mem why base post)
tail_moved slots i mem v l (Scans later (ReadGuard number)) post list x k h = h
tail_moved slots i mem v l (Scans later (GiveBack place slot)) post list x k h = h ∙ sym (unlinked_tail mem (phase_move (Scans later (GiveBack place slot)) post) refl)
tail_moved slots i mem v l (Works (Getting key at)) post list x k h = h ∙ sym (get_tail mem key at post)
tail_moved slots i mem v l (Works (Keeping at)) post list x k h = h ∙ sym (keep_tail mem at post)
tail_moved slots i mem v l (Works (Changing kept (LoadVersion slot))) post list x k h = h
tail_moved slots i mem v l (Works (Changing kept (LoadCount slot))) post list x k h = h
tail_moved slots i mem v l (Works (Changing kept (LoadKey slot count))) post list x k h = h
tail_moved slots i mem v l (Works (Changing kept (LoadValue slot count key))) post list x k h = h
tail_moved slots i mem v l (Works (Changing kept (ExchangeRoot slot))) post list x k h =
    ap (λ (n : ℕ). n + 1) (linked_tail kept slot (counted post) x (mem (Bucket (changed_bucket kept post)) == kept.link)) ∙ h ∙ sym (unlinked_tail mem (phase_move (Works (Changing kept (ExchangeRoot slot))) post) refl)
tail_moved slots i mem v l (Works (Enqueuing kept LoadNumber)) post list x k h = h
tail_moved slots i mem v l (Works (Enqueuing kept LoadNext)) post list x k h = h
tail_moved slots i mem v l (Works (Enqueuing kept (PassTail next))) post list x k h =
    swung_tail mem (next - 1) (kept.tail + 1) next x (mem Tail == kept.tail + 1) refl (before_next next (k.walks.some kept.tail next (same_both kept.tail next))) h
tail_moved slots i mem v l (Works (Enqueuing kept (ExchangeNext slot))) post list x k h =
    ap (λ (n : ℕ). n + 1) (queued_tail kept slot x (mem (Row kept.tail 0) == 0)) ∙ h ∙ sym (cas_other mem (Row kept.tail 0) Tail 0 (slot + 1) refl)
tail_moved slots i mem v l (Works (Enqueuing kept (ExchangeTail slot))) post list x k h = swung_tail mem slot (kept.tail + 1) (slot + 1) x (mem Tail == kept.tail + 1) refl refl h
tail_moved slots i mem v l (Works (Dequeuing (LoadTail head))) post list x k h = h
tail_moved slots i mem v l (Works (Dequeuing (SwingTail head next))) post list x k h = swung_tail mem next (head + 1) (next + 1) x (mem Tail == head + 1) refl refl h
tail_moved slots i mem v l (Works (Dequeuing (TakeNumber head next))) post list x k h = h
tail_moved slots i mem v l (Works (Dequeuing (TakeValue head next number))) post list x k h = h
tail_moved slots i mem v l (Works (Dequeuing (ExchangeHead head next number value))) post list x k h =
    ap (λ (n : ℕ). n + 1) (taken_tail head next number value x (mem Head == head + 1)) ∙ h ∙ sym (cas_other mem Head Tail (head + 1) (next + 1) refl)
