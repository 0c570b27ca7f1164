-- The row of each version by the record is the row that was linked under it by the book.
use Rattle.std.proofs.Common.{ℕ, ◌≡◌, ◌≤◌, ◌+◌, ◌-◌, Bool, true, false, List, [], ◌∷◌, ◌++◌, length, Option, Some, refl, sym, ap, ◌∙◌, subst, arith, length-append}
use Rattle.std.proofs.lemmas.Bool.Decides.{nat_tests}
use Rattle.std.specs.Prelude.{◌==◌, if◌then◌else◌}
use Rattle.law_scans.specs.inv.model.defs.declared.call.Call.{Call}
use Rattle.law_scans.specs.inv.model.defs.declared.event.Event.{Event}
use Rattle.law_scans.specs.inv.model.defs.declared.event.Event.TheVariants as events
use Rattle.law_scans.specs.inv.model.defs.declared.event.Root.TheVariants as roots
use Rattle.law_scans.specs.inv.model.defs.declared.fold.Change.{Change}
use Rattle.law_scans.specs.inv.model.defs.declared.fold.Change.TheVariants as changes
use Rattle.law_scans.specs.inv.model.declared.post.Post.{Post}
use Rattle.law_scans.specs.inv.model.Book.{Book, RowBook, first_book, booked, booked_all}
use Rattle.law_scans.specs.inv.model.Change.{told_change, changed_bucket}
use Rattle.law_scans.specs.inv.model.Enqueue.{told_link}
use Rattle.law_scans.specs.inv.model.Locals.{told_end, turn}
use Rattle.law_scans.specs.inv.model.Memory.{upd}
use Rattle.law_scans.specs.inv.model.Posts.{counted}
use Rattle.law_scans.specs.inv.model.World.{World, finds, offered, step, told_in}
use Rattle.law_scans.specs.inv.model.Calls.{ChangeKept, EnqueueKept, LoadVersion, LoadCount, LoadKey, LoadValue, ExchangeRoot, LoadNumber, LoadNext, PassTail, ExchangeNext, ExchangeTail, LoadTail, SwingTail, TakeNumber, TakeValue, ExchangeHead, Getting, Changing, Enqueuing, Dequeuing, Keeping, Phase, Idle, Runs, Scans, Works, CallTurn, CallOutcome, GoesOn, Answers}
use Rattle.law_scans.proofs.inv.model.Facts.{same_number, first_of, rest_of}
use Rattle.law_scans.proofs.inv.Contents.Contents.Told.{booked_append}
use Rattle.law_scans.specs.laws.records.Record.{Past, tells_of}
use Rattle.law_scans.specs.laws.records.Record.Past.{Start, Then}
use Rattle.law_scans.specs.laws.StateAt.{bucket_at}
use Rattle.law_scans.specs.laws.StructuresAt.{changes_of, count_of, row_at}
use Rattle.law_scans.proofs.reuse.history.AllOf.{all_of, of_weaker}
use Rattle.law_scans.proofs.reuse.Lawful.Maps.{told_changes}
use Rattle.law_scans.proofs.Placing.Fronts.{linked_front, queued_front, taken_front}
use Rattle.law_scans.proofs.Placing.Marks.{is_common, ordered, InOrder, step_order}
use Rattle.law_scans.proofs.laws.Tells.{tells_both}
use Rattle.law_scans.proofs.inv.Contents.Contents.Shelves.{same_bucket}

-- row s is that of this version of bucket b
abbrev pub RowOf : (version b s : ℕ) → Past → Type 0
RowOf version b s p = (version ≤ count_of b p) × (row_at b version p ≡ Some s)

-- so are the rows of the book
pub record Rowed (a : Book) (p : Past) : Type 0 where
  pub changes : (b : ℕ) → changes_of b p ≡ a.changes b
  pub rows : (s b : ℕ) → (a.row s).root ≡ roots.Bucket b → RowOf (a.row s).version b s p

-- events that link no row and change no bucket
abbrev is_plain : Event → Bool
is_plain (events.Link (roots.Bucket bucket) slot) = false
is_plain (events.Link (roots.Next parent) slot) = false
is_plain (events.Put bucket version key value) = false
is_plain (events.Removed bucket version key) = false
is_plain event = true

common_plain : (event : Event) → is_common event ≡ true → is_plain event ≡ true
common_plain (events.Link (roots.Bucket bucket) slot) h = absurd (cc)
common_plain (events.Link (roots.Next parent) slot) h = absurd (cc)
common_plain (events.Link roots.Head slot) h = absurd (cc)
common_plain (events.Link roots.Tail slot) h = absurd (cc)
common_plain (events.Put bucket version key value) h = absurd (cc)
common_plain (events.Removed bucket version key) h = absurd (cc)
common_plain event h = refl

-- a row's birth or retire era is booked
same_row : (a : Book) (p : Past) (s slot : ℕ) (row : RowBook) (same : Bool) → (s == slot) ≡ same → row.root ≡ (a.row slot).root → row.version ≡ (a.row slot).version → ((c : ℕ) → (a.row s).root ≡ roots.Bucket c → RowOf (a.row s).version c s p)
    → (b : ℕ) → (if same then row else a.row s).root ≡ roots.Bucket b → RowOf (if same then row else a.row s).version b s p
same_row a p s slot row true e r v h b q =
    let one : s ≡ slot = grind (arith, nat_tests) in
    let root : (a.row s).root ≡ roots.Bucket b = ap (λ (n : ℕ). (a.row n).root) one ∙ sym r ∙ q in
    subst (λ (n : ℕ). RowOf n b s p) (ap (λ (n : ℕ). (a.row n).version) one ∙ sym v) (h b root)
same_row a p s slot row false e r v h b q = h b q

eras_rowed : (a : Book) (p : Past) (slot : ℕ) (row : RowBook) → row.root ≡ (a.row slot).root → row.version ≡ (a.row slot).version → ((s b : ℕ) → (a.row s).root ≡ roots.Bucket b → RowOf (a.row s).version b s p) → (s b : ℕ) → (upd a.row slot row s).root ≡ roots.Bucket b → RowOf (upd a.row slot row s).version b s p
eras_rowed a p slot row r v h s b q = same_row a p s slot row (s == slot) refl r v (h s) b q

plain_rowed : (a : Book) (p : Past) (i : ℕ) (event : Event) → is_plain event ≡ true → Rowed a p → Rowed (booked a event) (Then p i event)
plain_rowed a p i (events.Link (roots.Bucket bucket) slot) h g = absurd (cc)
plain_rowed a p i (events.Link (roots.Next parent) slot) h g = absurd (cc)
plain_rowed a p i (events.Link roots.Head slot) h g = record { changes = g.changes; rows = g.rows }
plain_rowed a p i (events.Link roots.Tail slot) h g = record { changes = g.changes; rows = g.rows }
plain_rowed a p i (events.Put bucket version key value) h g = absurd (cc)
plain_rowed a p i (events.Removed bucket version key) h g = absurd (cc)
plain_rowed a p i (events.Give slot birth) h g = record { changes = g.changes; rows = eras_rowed a p slot (record (a.row slot) { birth = birth; retire = 0 }) refl refl g.rows }
plain_rowed a p i (events.Retire slot birth retire) h g = record { changes = g.changes; rows = eras_rowed a p slot (record (a.row slot) { birth = birth; retire = retire }) refl refl g.rows }
plain_rowed a p i event h g = record { changes = g.changes; rows = g.rows }

all_plain : (a : Book) (i : ℕ) (told : List Event) (p : Past) → all_of is_plain told ≡ true → Rowed a p → Rowed (booked_all a told) (tells_of p i told)
all_plain a i [] p h g = g
all_plain a i (event ∷ told) p h g = all_plain (booked a event) i told (Then p i event) (rest_of (is_plain event) (all_of is_plain told) h) (plain_rowed a p i event (first_of (is_plain event) (all_of is_plain told) h) g)

-- a row was linked at a bucket's root, and the change is not told yet
record Linked (a : Book) (p : Past) (slot b : ℕ) : Type 0 where
  changes : (c : ℕ) → changes_of c p ≡ a.changes c
  others : (s c : ℕ) → (s == slot) ≡ false → (a.row s).root ≡ roots.Bucket c → RowOf (a.row s).version c s p
  root : (a.row slot).root ≡ roots.Bucket b
  version : (a.row slot).version ≡ count_of b p + 1
  at : bucket_at b p ≡ Some slot

link_linked : (a : Book) (p : Past) (i slot b : ℕ) → Rowed a p → Linked (booked a (events.Link (roots.Bucket b) slot)) (Then p i (events.Link (roots.Bucket b) slot)) slot b
link_linked a p i slot b g =
    let here : (slot == slot) ≡ true = same_number slot in
    let own : (b == b) ≡ true = same_number b in
    record {
      changes = g.changes;
      others = λ s c e q. others s c e q;
      root = rw here refl;
      version = rw here (ap (λ (cs : List Change). length cs + 1) (sym (g.changes b)));
      at = rw own refl;
    }
  where
    others : (s c : ℕ) → (s == slot) ≡ false → ((booked a (events.Link (roots.Bucket b) slot)).row s).root ≡ roots.Bucket c → RowOf ((booked a (events.Link (roots.Bucket b) slot)).row s).version c s (Then p i (events.Link (roots.Bucket b) slot))
    others s c e q =
        let r : (booked a (events.Link (roots.Bucket b) slot)).row s ≡ a.row s = rw e refl in
        subst (λ (row : RowBook). RowOf row.version c s (Then p i (events.Link (roots.Bucket b) slot))) (sym r) (g.rows s c (sym (ap (λ (row : RowBook). row.root) r) ∙ q))

cut_linked : (a : Book) (p : Past) (i slot b link : ℕ) (null : Bool) (told : List Event) → ((q : Past) → Linked a q slot b → Rowed (booked_all a told) (tells_of q i told)) → Linked a p slot b → Rowed (booked_all a ((if null then [] else events.Cut link ∷ []) ++ told)) (tells_of p i ((if null then [] else events.Cut link ∷ []) ++ told))
cut_linked a p i slot b link true told f g = f p g
cut_linked a p i slot b link false told f g = f (Then p i (events.Cut link)) (record { changes = g.changes; others = g.others; root = g.root; version = g.version; at = g.at })

-- the change makes it the row of the next version
none_later : (count version : ℕ) (x y : Option ℕ) → version ≤ count → (if count + 1 == version then x else y) ≡ y
none_later count version x y h = let e : (count + 1 == version) ≡ false = grind (arith, nat_tests) in rw e refl

old_by : (b c version s : ℕ) (p : Past) (before after : List Change) (same : Bool) → changes_of c p ≡ before → version ≤ length before → row_at c version p ≡ Some s → (if same then (if length before + 1 == version then bucket_at c p else row_at c version p) else row_at c version p) ≡ Some s
old_by b c version s p before after true e l h = none_later (length before) version (bucket_at c p) (row_at c version p) l ∙ h
old_by b c version s p before after false e l h = h

longer : (xs : List Change) (one : Change) (version : ℕ) (same : Bool) → version ≤ length xs → version ≤ length (if same then xs ++ one ∷ [] else xs)
longer xs one version true h = let e = length-append xs (one ∷ []) in omega (h, e, arith)
longer xs one version false h = h

longest : (xs : List Change) (one : Change) (version : ℕ) → version ≡ length xs + 1 → version ≤ length (xs ++ one ∷ [])
longest xs one version h = let e = length-append xs (one ∷ []) in omega (h, e, arith)

put_old : (b c version s : ℕ) (p : Past) (i v key value : ℕ) → RowOf version c s p → RowOf version c s (Then p i (events.Put b v key value))
put_old b c version s p i v key value h = (longer (changes_of c p) (changes.Put key value) version (c == b) h.0, old_by b c version s p (changes_of c p) [] (c == b) refl h.0 h.1)

removed_old : (b c version s : ℕ) (p : Past) (i v key : ℕ) → RowOf version c s p → RowOf version c s (Then p i (events.Removed b v key))
removed_old b c version s p i v key h = (longer (changes_of c p) (changes.Removed key) version (c == b) h.0, old_by b c version s p (changes_of c p) [] (c == b) refl h.0 h.1)

put_new : (b version s : ℕ) (p : Past) (i v key value : ℕ) → version ≡ count_of b p + 1 → bucket_at b p ≡ Some s → RowOf version b s (Then p i (events.Put b v key value))
put_new b version s p i v key value e h =
    let own : (b == b) ≡ true = same_number b in
    let next : (count_of b p + 1 == version) ≡ true = grind (arith, nat_tests) in
    (rw own (longest (changes_of b p) (changes.Put key value) version e), rw own (rw next h))

removed_new : (b version s : ℕ) (p : Past) (i v key : ℕ) → version ≡ count_of b p + 1 → bucket_at b p ≡ Some s → RowOf version b s (Then p i (events.Removed b v key))
removed_new b version s p i v key e h =
    let own : (b == b) ≡ true = same_number b in
    let next : (count_of b p + 1 == version) ≡ true = grind (arith, nat_tests) in
    (rw own (longest (changes_of b p) (changes.Removed key) version e), rw own (rw next h))

row_changes : (a : Book) (p next : Past) (slot b s c : ℕ) (same : Bool) → (s == slot) ≡ same → Linked a p slot b → ((version : ℕ) → RowOf version c s p → RowOf version c s next) → ((version : ℕ) → version ≡ count_of b p + 1 → bucket_at b p ≡ Some slot → RowOf version b slot next) → (a.row s).root ≡ roots.Bucket c → RowOf (a.row s).version c s next
row_changes a p next slot b s c true e g old new q =
    let one : slot ≡ s = grind (arith, nat_tests) in
    let root : (a.row slot).root ≡ roots.Bucket c = ap (λ (n : ℕ). (a.row n).root) one ∙ q in
    let d : b ≡ c = same_bucket (a.row slot).root b c g.root root in
    subst (λ (n : ℕ). RowOf (a.row n).version c n next) one (subst (λ (n : ℕ). RowOf (a.row slot).version n slot next) d (new (a.row slot).version g.version g.at))
row_changes a p next slot b s c false e g old new q = old (a.row s).version (g.others s c e q)

change_rowed : (a : Book) (p : Past) (i slot b v : ℕ) (change : Change) → Linked a p slot b → Rowed (booked_all a (told_change b v change ∷ [])) (tells_of p i (told_change b v change ∷ []))
change_rowed a p i slot b v (changes.Put key value) g = record {
  changes = λ c. told_changes c i (events.Put b v key value ∷ []) p a (g.changes c);
  rows = λ s c q. row_changes a p (Then p i (events.Put b v key value)) slot b s c (s == slot) refl g (λ n h. put_old b c n s p i v key value h) (λ n e h. put_new b n slot p i v key value e h) q;
}
change_rowed a p i slot b v (changes.Removed key) g = record {
  changes = λ c. told_changes c i (events.Removed b v key ∷ []) p a (g.changes c);
  rows = λ s c q. row_changes a p (Then p i (events.Removed b v key)) slot b s c (s == slot) refl g (λ n h. removed_old b c n s p i v key h) (λ n e h. removed_new b n slot p i v key e h) q;
}

-- what a call's own step tells first
linked_rowed : (a : Book) (p : Past) (i : ℕ) (kept : ChangeKept) (slot : ℕ) (post : Post) (same : Bool) → Rowed a p → Rowed (booked_all a (linked_front kept slot post same)) (tells_of p i (linked_front kept slot post same))
linked_rowed a p i kept slot post true g =
    let b : ℕ = changed_bucket kept post in
    let told : List Event = told_change b (kept.version + 1) kept.change ∷ [] in
    let link : Event = events.Link (roots.Bucket b) slot in
    cut_linked (booked a link) (Then p i link) i slot b (kept.link - 1) (kept.link == 0) told (λ q h. change_rowed (booked a link) q i slot b (kept.version + 1) kept.change h) (link_linked a p i slot b g)
linked_rowed a p i kept slot post false g = g

moved_rowed : (a : Book) (p : Past) (i slot : ℕ) (same : Bool) → Rowed a p → Rowed (booked_all a (told_link roots.Tail slot same)) (tells_of p i (told_link roots.Tail slot same))
moved_rowed a p i slot true g = all_plain a i (events.Link roots.Tail slot ∷ []) p refl g
moved_rowed a p i slot false g = g

next_row : (a : Book) (p : Past) (s slot parent : ℕ) (row : RowBook) (same : Bool) → row.root ≡ roots.Next parent → ((c : ℕ) → (a.row s).root ≡ roots.Bucket c → RowOf (a.row s).version c s p) → (b : ℕ) → (if same then row else a.row s).root ≡ roots.Bucket b → RowOf (if same then row else a.row s).version b s p
next_row a p s slot parent row true e h b q = absurd (cc)
next_row a p s slot parent row false e h b q = h b q

queued_rowed : (a : Book) (p : Past) (i : ℕ) (kept : EnqueueKept) (slot : ℕ) (same : Bool) → Rowed a p → Rowed (booked_all a (queued_front kept slot same)) (tells_of p i (queued_front kept slot same))
queued_rowed a p i kept slot true g = record {
  changes = g.changes;
  rows = λ s b q. next_row a p s slot kept.tail (record (a.row slot) { root = roots.Next kept.tail; version = length a.queued + 1 }) (s == slot) refl (g.rows s) b q;
}
queued_rowed a p i kept slot false g = g

taken_rowed : (a : Book) (p : Past) (i head next number value : ℕ) (same : Bool) → Rowed a p → Rowed (booked_all a (taken_front head next number value same)) (tells_of p i (taken_front head next number value same))
taken_rowed a p i head next number value true g = all_plain a i (taken_front head next number value true) p refl g
taken_rowed a p i head next number value false g = g

first_rowed : (a : Book) (p : Past) (i : ℕ) (phase : Phase) (post : Post) (found : ℕ) → Rowed a p → Rowed (booked_all a (ordered phase post found)) (tells_of p i (ordered phase post found))
first_rowed a p i Idle post found g = g
first_rowed a p i (Runs why base) post found g = g
first_rowed a p i (Scans later at) post found g = g
first_rowed a p i (Works (Getting key at)) post found g = g
first_rowed a p i (Works (Changing kept (LoadVersion slot))) post found g = g
first_rowed a p i (Works (Changing kept (LoadCount slot))) post found g = g
first_rowed a p i (Works (Changing kept (LoadKey slot count))) post found g = g
first_rowed a p i (Works (Changing kept (LoadValue slot count key))) post found g = g
first_rowed a p i (Works (Changing kept (ExchangeRoot slot))) post found g = linked_rowed a p i kept slot (counted post) (found == kept.link) g
first_rowed a p i (Works (Enqueuing kept LoadNumber)) post found g = g
first_rowed a p i (Works (Enqueuing kept LoadNext)) post found g = g
first_rowed a p i (Works (Enqueuing kept (PassTail next))) post found g = moved_rowed a p i (next - 1) (found == kept.tail + 1) g
first_rowed a p i (Works (Enqueuing kept (ExchangeNext slot))) post found g = queued_rowed a p i kept slot (found == 0) g
first_rowed a p i (Works (Enqueuing kept (ExchangeTail slot))) post found g = moved_rowed a p i slot (found == kept.tail + 1) g
first_rowed a p i (Works (Keeping at)) post found g = g
first_rowed a p i (Works (Dequeuing (LoadTail head))) post found g = g
first_rowed a p i (Works (Dequeuing (SwingTail head next))) post found g = moved_rowed a p i next (found == head + 1) g
first_rowed a p i (Works (Dequeuing (TakeNumber head next))) post found g = g
first_rowed a p i (Works (Dequeuing (TakeValue head next number))) post found g = g
first_rowed a p i (Works (Dequeuing (ExchangeHead head next number value))) post found g = taken_rowed a p i head next number value (found == head + 1) g

-- a step
then_rowed : (a : Book) (p : Past) (i : ℕ) (xs ys : List Event) → all_of is_plain ys ≡ true → Rowed (booked_all a xs) (tells_of p i xs) → Rowed (booked_all a (xs ++ ys)) (tells_of p i (xs ++ ys))
then_rowed a p i xs ys h g =
    subst (λ (b : Book). Rowed b (tells_of p i (xs ++ ys))) (sym (booked_append xs ys a))
    (subst (λ (q : Past). Rowed (booked_all (booked_all a xs) ys) q) (sym (tells_both i xs ys p)) (all_plain (booked_all a xs) i ys (tells_of p i xs) h g))

end_plain : (post : Post) (outcome : CallOutcome) → all_of is_plain (told_end post outcome) ≡ true
end_plain post (GoesOn phase) = refl
end_plain post (Answers answer) = refl

pub step_rowed : (w : World) (i : ℕ) (p : Past) → Rowed w.book p → Rowed (step w i).book (tells_of p i (told_in w i))
step_rowed w i p g =
    let t : CallTurn = turn (offered w i) (finds w i) in
    let first : List Event = ordered (w.seat i).phase (w.seat i).post (finds w i) in
    let o : InOrder first t.told = step_order w i in
    let front : Rowed (booked_all w.book first) (tells_of p i first) = first_rowed w.book p i (w.seat i).phase (w.seat i).post (finds w i) g in
    let rest : Rowed (booked_all w.book (first ++ o.rest)) (tells_of p i (first ++ o.rest)) = then_rowed w.book p i first o.rest (of_weaker is_common is_plain o.rest common_plain o.calm) front in
    let told : Rowed (booked_all w.book t.told) (tells_of p i t.told) = subst (λ (es : List Event). Rowed (booked_all w.book es) (tells_of p i es)) (sym o.is) rest in
    then_rowed w.book p i t.told (told_end t.post t.outcome) (end_plain t.post t.outcome) told

pub begin_rowed : (a : Book) (p : Past) (i : ℕ) (call : Call) → Rowed a p → Rowed a (Then p i (events.Begin call))
begin_rowed a p i call g = record { changes = g.changes; rows = g.rows }

pub first_book_rowed : Rowed first_book Start
first_book_rowed = record { changes = λ b. refl; rows = λ s b q. absurd (cc) }
