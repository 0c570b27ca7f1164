-- A row that a bucket's root was linked to shows the version of that bucket under which it was linked.
use Rattle.std.proofs.Common.{ℕ, ◌≡◌, ◌+◌, ◌-◌, Bool, true, false, List, [], ◌∷◌, ◌++◌, length, refl, sym, ap, ◌∙◌, subst, arith}
use Rattle.std.proofs.lemmas.Bool.Decides.{nat_tests}
use Rattle.std.specs.Prelude.{◌==◌, if◌then◌else◌}
use Rattle.law_scans.specs.inv.model.defs.declared.call.Call.{Call}
use Rattle.law_scans.specs.inv.model.defs.declared.event.Event.{Event}
use Rattle.law_scans.specs.inv.model.defs.declared.event.Event.TheVariants as events
use Rattle.law_scans.specs.inv.model.defs.declared.event.Root.TheVariants as roots
use Rattle.law_scans.specs.inv.model.defs.declared.fold.Change.{Change}
use Rattle.law_scans.specs.inv.model.defs.declared.fold.Change.TheVariants as changes
use Rattle.law_scans.specs.inv.model.declared.post.Post.{Post}
use Rattle.law_scans.specs.inv.model.Book.{Book, RowBook, first_book, booked, booked_all}
use Rattle.law_scans.specs.inv.model.Change.{told_change, changed_bucket}
use Rattle.law_scans.specs.inv.model.Enqueue.{told_link}
use Rattle.law_scans.specs.inv.model.Locals.{told_end, turn}
use Rattle.law_scans.specs.inv.model.Memory.{upd}
use Rattle.law_scans.specs.inv.model.Posts.{counted}
use Rattle.law_scans.specs.inv.model.World.{World, finds, offered, step, told_in}
use Rattle.law_scans.specs.inv.model.Calls.{ChangeKept, EnqueueKept, LoadVersion, LoadCount, LoadKey, LoadValue, ExchangeRoot, LoadNumber, LoadNext, PassTail, ExchangeNext, ExchangeTail, LoadTail, SwingTail, TakeNumber, TakeValue, ExchangeHead, Getting, Changing, Enqueuing, Dequeuing, Keeping, Phase, Idle, Runs, Scans, Works, CallTurn, CallOutcome, GoesOn, Answers}
use Rattle.law_scans.proofs.inv.model.Facts.{same_number, first_of, rest_of}
use Rattle.law_scans.proofs.inv.Contents.Contents.Told.{booked_append}
use Rattle.law_scans.specs.inv.Contents.Told.{AllRight}
use Rattle.law_scans.specs.inv.history.Record.{Past, tells_of}
use Rattle.law_scans.specs.inv.history.Record.Past.{Start, Then}
use Rattle.law_scans.specs.laws.StructuresAt.{changed_to, shows_of}
use Rattle.law_scans.specs.laws.StructuresAt.RowShows.{LinkedAt, ShowsVersion}
use Rattle.law_scans.proofs.inv.history.AllOf.{all_of, of_weaker}
use Rattle.law_scans.proofs.Placing.Fronts.{linked_front, queued_front, taken_front}
use Rattle.law_scans.proofs.Placing.Marks.{is_common, ordered, InOrder, step_order}
use Rattle.law_scans.proofs.laws.Tells.{tells_both}
use Rattle.law_scans.proofs.inv.Contents.Contents.Shelves.{same_bucket}

-- what each row of the book shows by the record
pub record Shows (a : Book) (p : Past) : Type 0 where
  pub shows : (s b : ℕ) → (a.row s).root ≡ roots.Bucket b → shows_of s p ≡ ShowsVersion b (a.row s).version

-- events that link no row and change no bucket
abbrev is_plain : Event → Bool
is_plain (events.Link (roots.Bucket bucket) slot) = false
is_plain (events.Link (roots.Next parent) slot) = false
is_plain (events.Put bucket version key value) = false
is_plain (events.Removed bucket version key) = false
is_plain event = true

common_plain : (event : Event) → is_common event ≡ true → is_plain event ≡ true
common_plain (events.Link (roots.Bucket bucket) slot) h = absurd (cc)
common_plain (events.Link (roots.Next parent) slot) h = absurd (cc)
common_plain (events.Link roots.Head slot) h = absurd (cc)
common_plain (events.Link roots.Tail slot) h = absurd (cc)
common_plain (events.Put bucket version key value) h = absurd (cc)
common_plain (events.Removed bucket version key) h = absurd (cc)
common_plain event h = refl

-- a row's birth or retire era is booked
same_row : (a : Book) (p : Past) (s slot : ℕ) (row : RowBook) (same : Bool) → (s == slot) ≡ same → row.root ≡ (a.row slot).root → row.version ≡ (a.row slot).version → ((c : ℕ) → (a.row s).root ≡ roots.Bucket c → shows_of s p ≡ ShowsVersion c (a.row s).version)
    → (b : ℕ) → (if same then row else a.row s).root ≡ roots.Bucket b → shows_of s p ≡ ShowsVersion b (if same then row else a.row s).version
same_row a p s slot row true e r v h b q =
    let one : s ≡ slot = grind (arith, nat_tests) in
    let root : (a.row s).root ≡ roots.Bucket b = ap (λ (n : ℕ). (a.row n).root) one ∙ sym r ∙ q in
    subst (λ (n : ℕ). shows_of s p ≡ ShowsVersion b n) (ap (λ (n : ℕ). (a.row n).version) one ∙ sym v) (h b root)
same_row a p s slot row false e r v h b q = h b q

eras_show : (a : Book) (p : Past) (slot : ℕ) (row : RowBook) → row.root ≡ (a.row slot).root → row.version ≡ (a.row slot).version → ((s b : ℕ) → (a.row s).root ≡ roots.Bucket b → shows_of s p ≡ ShowsVersion b (a.row s).version)
    → (s b : ℕ) → (upd a.row slot row s).root ≡ roots.Bucket b → shows_of s p ≡ ShowsVersion b (upd a.row slot row s).version
eras_show a p slot row r v h s b q = same_row a p s slot row (s == slot) refl r v (h s) b q

plain_shows : (a : Book) (p : Past) (i : ℕ) (event : Event) → is_plain event ≡ true → Shows a p → Shows (booked a event) (Then p i event)
plain_shows a p i (events.Link (roots.Bucket bucket) slot) h g = absurd (cc)
plain_shows a p i (events.Link (roots.Next parent) slot) h g = absurd (cc)
plain_shows a p i (events.Link roots.Head slot) h g = record { shows = g.shows }
plain_shows a p i (events.Link roots.Tail slot) h g = record { shows = g.shows }
plain_shows a p i (events.Put bucket version key value) h g = absurd (cc)
plain_shows a p i (events.Removed bucket version key) h g = absurd (cc)
plain_shows a p i (events.Give slot birth) h g = record { shows = eras_show a p slot (record (a.row slot) { birth = birth; retire = 0 }) refl refl g.shows }
plain_shows a p i (events.Retire slot birth retire) h g = record { shows = eras_show a p slot (record (a.row slot) { birth = birth; retire = retire }) refl refl g.shows }
plain_shows a p i event h g = record { shows = g.shows }

all_plain : (a : Book) (i : ℕ) (told : List Event) (p : Past) → all_of is_plain told ≡ true → Shows a p → Shows (booked_all a told) (tells_of p i told)
all_plain a i [] p h g = g
all_plain a i (event ∷ told) p h g = all_plain (booked a event) i told (Then p i event) (rest_of (is_plain event) (all_of is_plain told) h) (plain_shows a p i event (first_of (is_plain event) (all_of is_plain told) h) g)

-- a row was linked at a bucket's root, and the change is not told yet
record Linked (a : Book) (p : Past) (slot b version : ℕ) : Type 0 where
  others : (s c : ℕ) → (s == slot) ≡ false → (a.row s).root ≡ roots.Bucket c → shows_of s p ≡ ShowsVersion c (a.row s).version
  root : (a.row slot).root ≡ roots.Bucket b
  shown : (a.row slot).version ≡ version
  at : shows_of slot p ≡ LinkedAt b

link_linked : (a : Book) (p : Past) (i slot b version : ℕ) → version ≡ length (a.changes b) + 1 → Shows a p → Linked (booked a (events.Link (roots.Bucket b) slot)) (Then p i (events.Link (roots.Bucket b) slot)) slot b version
link_linked a p i slot b version v g =
    let here : (slot == slot) ≡ true = same_number slot in
    record {
      others = λ s c e q. others s c e q;
      root = rw here refl;
      shown = rw here (sym v);
      at = rw here refl;
    }
  where
    others : (s c : ℕ) → (s == slot) ≡ false → ((booked a (events.Link (roots.Bucket b) slot)).row s).root ≡ roots.Bucket c
        → shows_of s (Then p i (events.Link (roots.Bucket b) slot)) ≡ ShowsVersion c ((booked a (events.Link (roots.Bucket b) slot)).row s).version
    others s c e q =
        let r : (booked a (events.Link (roots.Bucket b) slot)).row s ≡ a.row s = rw e refl in
        let same : shows_of s (Then p i (events.Link (roots.Bucket b) slot)) ≡ shows_of s p = rw e refl in
        same ∙ g.shows s c (sym (ap (λ (row : RowBook). row.root) r) ∙ q) ∙ ap (λ (row : RowBook). ShowsVersion c row.version) (sym r)

cut_linked : (a : Book) (p : Past) (i slot b version link : ℕ) (null : Bool) (told : List Event) → ((q : Past) → Linked a q slot b version → Shows (booked_all a told) (tells_of q i told)) → Linked a p slot b version
    → Shows (booked_all a ((if null then [] else events.Cut link ∷ []) ++ told)) (tells_of p i ((if null then [] else events.Cut link ∷ []) ++ told))
cut_linked a p i slot b version link true told f g = f p g
cut_linked a p i slot b version link false told f g = f (Then p i (events.Cut link)) (record { others = g.others; root = g.root; shown = g.shown; at = g.at })

-- the change makes it show its version
change_one : (a : Book) (p : Past) (slot b version s c : ℕ) (same : Bool) → (s == slot) ≡ same → Linked a p slot b version → (a.row s).root ≡ roots.Bucket c → changed_to version (shows_of s p) ≡ ShowsVersion c (a.row s).version
change_one a p slot b version s c true e g q =
    let one : slot ≡ s = grind (arith, nat_tests) in
    let root : (a.row slot).root ≡ roots.Bucket c = ap (λ (n : ℕ). (a.row n).root) one ∙ q in
    let d : b ≡ c = same_bucket (a.row slot).root b c g.root root in
    ap (λ (n : ℕ). changed_to version (shows_of n p)) (sym one) ∙ ap (changed_to version) g.at ∙ ap (λ (n : ℕ). ShowsVersion n version) d
    ∙ ap (λ (n : ℕ). ShowsVersion c n) (sym g.shown ∙ ap (λ (n : ℕ). (a.row n).version) one)
change_one a p slot b version s c false e g q = ap (changed_to version) (g.others s c e q)

change_shows : (a : Book) (p : Past) (i slot b version : ℕ) (change : Change) → Linked a p slot b version → Shows (booked_all a (told_change b version change ∷ [])) (tells_of p i (told_change b version change ∷ []))
change_shows a p i slot b version (changes.Put key value) g = record { shows = λ s c q. change_one a p slot b version s c (s == slot) refl g q }
change_shows a p i slot b version (changes.Removed key) g = record { shows = λ s c q. change_one a p slot b version s c (s == slot) refl g q }

-- a change tells the next version
next_version : (n : ℕ) (a : Book) (b version : ℕ) (change : Change) → AllRight n a (told_change b version change ∷ []) → version ≡ length (a.changes b) + 1
next_version n a b version (changes.Put key value) h = h.0.next
next_version n a b version (changes.Removed key) h = h.0.next

cut_right : (n : ℕ) (a : Book) (link : ℕ) (null : Bool) (told : List Event) → AllRight n a ((if null then [] else events.Cut link ∷ []) ++ told) → AllRight n a told
cut_right n a link true told h = h
cut_right n a link false told h = h.1

-- what a call's own step tells first
linked_shows : (n : ℕ) (a : Book) (p : Past) (i : ℕ) (kept : ChangeKept) (slot : ℕ) (post : Post) (same : Bool) → AllRight n a (linked_front kept slot post same) → Shows a p → Shows (booked_all a (linked_front kept slot post same)) (tells_of p i (linked_front kept slot post same))
linked_shows n a p i kept slot post true r g =
    let b : ℕ = changed_bucket kept post in
    let told : List Event = told_change b (kept.version + 1) kept.change ∷ [] in
    let link : Event = events.Link (roots.Bucket b) slot in
    let next : kept.version + 1 ≡ length (a.changes b) + 1 = next_version n a b (kept.version + 1) kept.change (cut_right n a (kept.link - 1) (kept.link == 0) told r.1) in
    cut_linked (booked a link) (Then p i link) i slot b (kept.version + 1) (kept.link - 1) (kept.link == 0) told (λ q h. change_shows (booked a link) q i slot b (kept.version + 1) kept.change h)
    (link_linked a p i slot b (kept.version + 1) next g)
linked_shows n a p i kept slot post false r g = g

moved_shows : (a : Book) (p : Past) (i slot : ℕ) (same : Bool) → Shows a p → Shows (booked_all a (told_link roots.Tail slot same)) (tells_of p i (told_link roots.Tail slot same))
moved_shows a p i slot true g = all_plain a i (events.Link roots.Tail slot ∷ []) p refl g
moved_shows a p i slot false g = g

next_row : (a : Book) (p : Past) (s slot parent : ℕ) (row : RowBook) (same : Bool) → row.root ≡ roots.Next parent → ((c : ℕ) → (a.row s).root ≡ roots.Bucket c → shows_of s p ≡ ShowsVersion c (a.row s).version)
    → (b : ℕ) → (if same then row else a.row s).root ≡ roots.Bucket b → shows_of s p ≡ ShowsVersion b (if same then row else a.row s).version
next_row a p s slot parent row true e h b q = absurd (cc)
next_row a p s slot parent row false e h b q = h b q

queued_shows : (a : Book) (p : Past) (i : ℕ) (kept : EnqueueKept) (slot : ℕ) (same : Bool) → Shows a p → Shows (booked_all a (queued_front kept slot same)) (tells_of p i (queued_front kept slot same))
queued_shows a p i kept slot true g = record {
  shows = λ s b q. next_row a p s slot kept.tail (record (a.row slot) { root = roots.Next kept.tail; version = length a.queued + 1 }) (s == slot) refl (g.shows s) b q;
}
queued_shows a p i kept slot false g = g

taken_shows : (a : Book) (p : Past) (i head next number value : ℕ) (same : Bool) → Shows a p → Shows (booked_all a (taken_front head next number value same)) (tells_of p i (taken_front head next number value same))
taken_shows a p i head next number value true g = all_plain a i (taken_front head next number value true) p refl g
taken_shows a p i head next number value false g = g

first_shows : (n : ℕ) (a : Book) (p : Past) (i : ℕ) (phase : Phase) (post : Post) (found : ℕ) → AllRight n a (ordered phase post found) → Shows a p → Shows (booked_all a (ordered phase post found)) (tells_of p i (ordered phase post found))
first_shows n a p i Idle post found r g = g
first_shows n a p i (Runs why base) post found r g = g
first_shows n a p i (Scans later at) post found r g = g
first_shows n a p i (Works (Getting key at)) post found r g = g
first_shows n a p i (Works (Changing kept (LoadVersion slot))) post found r g = g
first_shows n a p i (Works (Changing kept (LoadCount slot))) post found r g = g
first_shows n a p i (Works (Changing kept (LoadKey slot count))) post found r g = g
first_shows n a p i (Works (Changing kept (LoadValue slot count key))) post found r g = g
first_shows n a p i (Works (Changing kept (ExchangeRoot slot))) post found r g = linked_shows n a p i kept slot (counted post) (found == kept.link) r g
first_shows n a p i (Works (Enqueuing kept LoadNumber)) post found r g = g
first_shows n a p i (Works (Enqueuing kept LoadNext)) post found r g = g
first_shows n a p i (Works (Enqueuing kept (PassTail next))) post found r g = moved_shows a p i (next - 1) (found == kept.tail + 1) g
first_shows n a p i (Works (Enqueuing kept (ExchangeNext slot))) post found r g = queued_shows a p i kept slot (found == 0) g
first_shows n a p i (Works (Enqueuing kept (ExchangeTail slot))) post found r g = moved_shows a p i slot (found == kept.tail + 1) g
first_shows n a p i (Works (Keeping at)) post found r g = g
first_shows n a p i (Works (Dequeuing (LoadTail head))) post found r g = g
first_shows n a p i (Works (Dequeuing (SwingTail head next))) post found r g = moved_shows a p i next (found == head + 1) g
first_shows n a p i (Works (Dequeuing (TakeNumber head next))) post found r g = g
first_shows n a p i (Works (Dequeuing (TakeValue head next number))) post found r g = g
first_shows n a p i (Works (Dequeuing (ExchangeHead head next number value))) post found r g = taken_shows a p i head next number value (found == head + 1) g

-- a step
right_first : (n : ℕ) (a : Book) (xs ys : List Event) → AllRight n a (xs ++ ys) → AllRight n a xs
right_first n a [] ys h = tt
right_first n a (event ∷ xs) ys h = (h.0, right_first n a xs ys h.1)

then_shows : (a : Book) (p : Past) (i : ℕ) (xs ys : List Event) → all_of is_plain ys ≡ true → Shows (booked_all a xs) (tells_of p i xs) → Shows (booked_all a (xs ++ ys)) (tells_of p i (xs ++ ys))
then_shows a p i xs ys h g =
    subst (λ (b : Book). Shows b (tells_of p i (xs ++ ys))) (sym (booked_append xs ys a))
    (subst (λ (q : Past). Shows (booked_all (booked_all a xs) ys) q) (sym (tells_both i xs ys p)) (all_plain (booked_all a xs) i ys (tells_of p i xs) h g))

end_plain : (post : Post) (outcome : CallOutcome) → all_of is_plain (told_end post outcome) ≡ true
end_plain post (GoesOn phase) = refl
end_plain post (Answers answer) = refl

pub step_shows : (w : World) (i : ℕ) (p : Past) → AllRight w.layout.config.buckets w.book (told_in w i) → Shows w.book p → Shows (step w i).book (tells_of p i (told_in w i))
step_shows w i p r g =
    let n : ℕ = w.layout.config.buckets in
    let t : CallTurn = turn (offered w i) (finds w i) in
    let first : List Event = ordered (w.seat i).phase (w.seat i).post (finds w i) in
    let o : InOrder first t.told = step_order w i in
    let right : AllRight n w.book first = right_first n w.book first o.rest (subst (AllRight n w.book) o.is (right_first n w.book t.told (told_end t.post t.outcome) r)) in
    let front : Shows (booked_all w.book first) (tells_of p i first) = first_shows n w.book p i (w.seat i).phase (w.seat i).post (finds w i) right g in
    let rest : Shows (booked_all w.book (first ++ o.rest)) (tells_of p i (first ++ o.rest)) = then_shows w.book p i first o.rest (of_weaker is_common is_plain o.rest common_plain o.calm) front in
    let told : Shows (booked_all w.book t.told) (tells_of p i t.told) = subst (λ (es : List Event). Shows (booked_all w.book es) (tells_of p i es)) (sym o.is) rest in
    then_shows w.book p i t.told (told_end t.post t.outcome) (end_plain t.post t.outcome) told

pub begin_shows : (a : Book) (p : Past) (i : ℕ) (call : Call) → Shows a p → Shows a (Then p i (events.Begin call))
begin_shows a p i call g = record { shows = g.shows }

pub first_book_shows : Shows first_book Start
first_book_shows = record { shows = λ s b q. absurd (cc) }
