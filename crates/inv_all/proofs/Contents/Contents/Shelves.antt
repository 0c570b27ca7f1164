-- What rows show after a step that links no row, after a row joins the queue, and after a bucket's root is exchanged.
use Rattle.std.proofs.Common.{ℕ, ◌-◌, ◌<◌, ◌+◌, ◌*◌, ◌≤◌, ◌≡◌, Bool, true, false, arith, refl, ap, ◌∙◌, sym, subst, List, [], ◌∷◌, ◌++◌, length}
use Rattle.std.proofs.lemmas.Bool.Decides.{nat_tests}
use Rattle.std.proofs.Math.Seq.{get_or-append_seam}
use Rattle.std.proofs.lemmas.List.{get_or_append_left, length-append, take-append-le, take_all}
use Rattle.std.specs.Prelude.{◌==◌, if◌then◌else◌, take, slice_index_or}
use Rattle.inv_ends.specs.model.words.Place.{Place}
use Rattle.inv_ends.specs.model.words.Place.Place.{Row}
use Rattle.inv_ends.specs.model.defs.Pairs.{Pair, changed, pairs_after}
use Rattle.inv_ends.specs.model.defs.declared.event.Event.{Event}
use Rattle.inv_ends.specs.model.defs.declared.event.Event.TheVariants as events
use Rattle.inv_ends.specs.model.defs.declared.event.Root.{Root}
use Rattle.inv_ends.specs.model.defs.declared.event.Root.TheVariants as roots
use Rattle.inv_ends.specs.model.defs.declared.fold.Change.{Change}
use Rattle.inv_ends.specs.model.defs.declared.fold.Change.TheVariants as changes
use Rattle.inv_ends.specs.model.declared.post.Post.{Post}
use Rattle.inv_ends.specs.model.Book.{Book, RowBook, booked_all, booked_link, with_change}
use Rattle.inv_ends.specs.model.Change.{told_linked, told_cut, told_change, changed_bucket, new_row}
use Rattle.inv_ends.specs.model.Memory.{upd}
use Rattle.inv_ends.specs.model.Phases.{QueueRow}
use Rattle.inv_ends.specs.model.Calls.{ChangeKept}
use Rattle.inv_ends.proofs.model.Facts.{number_is, same_number}
use Rattle.inv_ends.specs.rows.Rows.{Status, View, made, is_settled}
use Rattle.inv_ends.specs.rows.Rows.Status.{Linked, InQueue}
use Rattle.inv_ends.specs.rows.Rows.RowMove.{Appends}
use Rattle.inv_all.specs.Contents.Shelf.{Shelf, shelf_of, pairs_by, value_by, Filled, Shows}
use Rattle.inv_all.specs.Contents.Contents.{Shelved}
use Rattle.inv_all.proofs.Contents.Contents.Told.{SameBook, SameSlot, same_slot}
use Rattle.inv_all.proofs.Contents.Contents.Lasts.{on}
use Rattle.inv_all.proofs.Contents.Contents.Lists.{after_append}
use Rattle.inv_all.proofs.Contents.Contents.Views.{Keeps}
use Rattle.inv_ends.proofs.rows.Steps.{upd_own}

pub upd_other : {A : Type 0} (f : ℕ → A) (i : ℕ) (x : A) (k : ℕ) → (k == i) ≡ false → upd f i x k ≡ f k
upd_other f i x k h = rw h refl

-- the words of rows that no seat writes stay
abbrev pub WordsStay : View → (Place → ℕ) → (Place → ℕ) → Type 0
WordsStay v mem after = (s q : ℕ) → is_settled (v.status s) ≡ true → 1 ≤ q → after (Row s q) ≡ mem (Row s q)

-- a row shows the same by another book
shows_same : (a b : Shelf) (mem after : Place → ℕ) (s : ℕ) → SameSlot a b s → ((q : ℕ) → 1 ≤ q → after (Row s q) ≡ mem (Row s q)) → Shows mem s (a.version s) (a.pairs s) → Shows after s (b.version s) (b.pairs s)
shows_same a b mem after s e w h = rw (e.version, e.pairs) (λ q low high. w q low ∙ h q low high)

items_same : (a b : Shelf) (mem after : Place → ℕ) (s : ℕ) → SameSlot a b s → ((q : ℕ) → 1 ≤ q → after (Row s q) ≡ mem (Row s q)) → Filled mem s (QueueRow (a.version s) (a.value s)) 3 → Filled after s (QueueRow (b.version s) (b.value s)) 3
items_same a b mem after s e w h = rw (e.version, e.value) (λ q low high. w q low ∙ h q low high)

-- no row is linked
pub calm_shelved : (n : ℕ) (a b : Book) (v u : View) (mem after : Place → ℕ) → SameBook a b → Keeps v u → WordsStay v mem after → Shelved (on n (shelf_of a) mem) a v → Shelved (on n (shelf_of b) after) b u
calm_shelved n a b v u mem after e k w h = record {
  shows = λ s c y r. shows_same (shelf_of a) (shelf_of b) mem after s (same_slot a b s e) (λ q low. w s q (k.settled s y) low) (h.shows s c (k.settled s y) (sym (e.roots s) ∙ r));
  within = λ s c y r. rw (e.versions s, e.changes c) (h.within s c (k.settled s y) (sym (e.roots s) ∙ r));
  root = λ s c y. e.roots s ∙ h.root s c (k.linked s c y);
  latest = λ s c y. e.versions s ∙ h.latest s c (k.linked s c y) ∙ sym (ap (λ (l : List Change). length l) (e.changes c));
  items = λ s p y r. items_same (shelf_of a) (shelf_of b) mem after s (same_slot a b s e) (λ q low. w s q (k.settled s y) low) (h.items s p (k.settled s y) (sym (e.roots s) ∙ r));
  queued = λ s p y r. rw (e.versions s, e.queued) (h.queued s p (k.settled s y) (sym (e.roots s) ∙ r));
  empty = λ c. rw (k.root c, e.changes c) (h.empty c);
}

pub keeps_all : (v : View) → Keeps v v
keeps_all v = record { settled = λ s y. y; linked = λ s b y. y; root = λ b. refl }

-- a row joins the queue
abbrev pub joined : Book → ℕ → ℕ → ℕ → ℕ → Book
joined a tail slot number value = booked_all a (events.Link (roots.Next tail) slot ∷ events.Queued number value ∷ [])

grown_value : (queued : List ℕ) (value : ℕ) (root : Root) (number : ℕ) → ((p : ℕ) → root ≡ roots.Next p → number - 1 < length queued) → value_by (queued ++ value ∷ []) root number ≡ value_by queued root number
grown_value queued value (roots.Bucket b) number low = refl
grown_value queued value (roots.Next p) number low = get_or_append_left queued (value ∷ []) 0 (number - 1) (low p refl)
grown_value queued value roots.Head number low = refl
grown_value queued value roots.Tail number low = refl

pub joined_far : (a : Book) (tail slot number value s : ℕ) → (s == slot) ≡ false → ((p : ℕ) → (a.row s).root ≡ roots.Next p → (a.row s).version - 1 < length a.queued) → SameSlot (shelf_of a) (shelf_of (joined a tail slot number value)) s
joined_far a tail slot number value s h low =
    let row : (joined a tail slot number value).row s ≡ a.row s = upd_other a.row slot (record (a.row slot) { root = roots.Next tail; version = length a.queued + 1 }) s h in
    record { root = ap (λ (r : RowBook). r.root) row; version = ap (λ (r : RowBook). r.version) row; pairs = ap (λ (r : RowBook). pairs_by a.changes r.root r.version) row; value = ap (λ (r : RowBook). value_by (a.queued ++ value ∷ []) r.root r.version) row ∙ grown_value a.queued value (a.row s).root (a.row s).version low }

joined_shows : (n : ℕ) (a : Book) (v : View) (mem after : Place → ℕ) (i tail slot number value s c : ℕ) (x : Bool) → (s == slot) ≡ x → WordsStay v mem after → Shelved (on n (shelf_of a) mem) a v → is_settled ((made i v (Appends slot)).status s) ≡ true → ((joined a tail slot number value).row s).root ≡ roots.Bucket c → is_settled (v.status s) ≡ true
joined_shows n a v mem after i tail slot number value s c true e w h y r =
    let is : roots.Next tail ≡ roots.Bucket c = subst (λ (z : Bool). (if z then (record (a.row slot) { root = roots.Next tail; version = length a.queued + 1 }) else a.row s).root ≡ roots.Bucket c) e r in
    absurd (cc)
joined_shows n a v mem after i tail slot number value s c false e w h y r = subst (λ (z : Bool). is_settled (if z then InQueue else v.status s) ≡ true) e y

unjoined : (i : ℕ) (v : View) (slot s c : ℕ) (x : Bool) → (s == slot) ≡ x → (made i v (Appends slot)).status s ≡ Linked c → x ≡ false
unjoined i v slot s c true e y = let is : InQueue ≡ Linked c = subst (λ (z : Bool). (if z then InQueue else v.status s) ≡ Linked c) e y in absurd (cc)
unjoined i v slot s c false e y = refl

join_other : (a : Book) (tail slot number value s c : ℕ) (x : Bool) → (s == slot) ≡ x → ((joined a tail slot number value).row s).root ≡ roots.Bucket c → x ≡ false
join_other a tail slot number value s c true e r =
    let is : roots.Next tail ≡ roots.Bucket c = subst (λ (z : Bool). (if z then (record (a.row slot) { root = roots.Next tail; version = length a.queued + 1 }) else a.row s).root ≡ roots.Bucket c) e r in
    absurd (cc)
join_other a tail slot number value s c false e r = refl

-- the new row of the queue
joined_value : (l : List ℕ) (value : ℕ) → slice_index_or (l ++ value ∷ []) (length l + 1 - 1) 0 ≡ value
joined_value l value = let at : length l + 1 - 1 ≡ length l = omega arith in ap (λ (k : ℕ). slice_index_or (l ++ value ∷ []) k 0) at ∙ get_or-append_seam l value [] 0

joined_item : (a : Book) (after : Place → ℕ) (tail slot number value : ℕ) → number ≡ length a.queued + 1 → Filled after slot (QueueRow number value) 3 → Filled after slot (QueueRow ((shelf_of (joined a tail slot number value)).version slot) ((shelf_of (joined a tail slot number value)).value slot)) 3
joined_item a after tail slot number value e f =
    let row : (joined a tail slot number value).row slot ≡ record (a.row slot) { root = roots.Next tail; version = length a.queued + 1 } = upd_own a.row slot (record (a.row slot) { root = roots.Next tail; version = length a.queued + 1 }) in
    let version : number ≡ (shelf_of (joined a tail slot number value)).version slot = e ∙ sym (ap (λ (r : RowBook). r.version) row) in
    let is : value ≡ (shelf_of (joined a tail slot number value)).value slot = sym (ap (λ (r : RowBook). value_by (a.queued ++ value ∷ []) r.root r.version) row ∙ joined_value a.queued value) in
    subst (λ (k : ℕ). Filled after slot (QueueRow k ((shelf_of (joined a tail slot number value)).value slot)) 3) version (subst (λ (k : ℕ). Filled after slot (QueueRow number k) 3) is f)

joined_last : (a : Book) (tail slot number value : ℕ) → ((joined a tail slot number value).row slot).version - 1 < length (joined a tail slot number value).queued
joined_last a tail slot number value =
    let row : (joined a tail slot number value).row slot ≡ record (a.row slot) { root = roots.Next tail; version = length a.queued + 1 } = upd_own a.row slot (record (a.row slot) { root = roots.Next tail; version = length a.queued + 1 }) in
    let long : length (a.queued ++ value ∷ []) ≡ length a.queued + 1 = length-append a.queued (value ∷ []) in
    let version : ((joined a tail slot number value).row slot).version ≡ length a.queued + 1 = ap (λ (r : RowBook). r.version) row in
    subst (λ (k : ℕ). k - 1 < length (a.queued ++ value ∷ [])) (sym version) (subst (λ (k : ℕ). length a.queued + 1 - 1 < k) (sym long) (omega arith))

pub joined_shelved : (n : ℕ) (a : Book) (v : View) (mem after : Place → ℕ) (i tail slot number value : ℕ) → number ≡ length a.queued + 1 → Filled after slot (QueueRow number value) 3 → WordsStay v mem after → Shelved (on n (shelf_of a) mem) a v → Shelved (on n (shelf_of (joined a tail slot number value)) after) (joined a tail slot number value) (made i v (Appends slot))
joined_shelved n a v mem after i tail slot number value e f w h = record {
  shows = λ s c y r.
      let z : is_settled (v.status s) ≡ true = joined_shows n a v mem after i tail slot number value s c (s == slot) refl w h y r in
      let far : SameSlot (shelf_of a) (shelf_of (joined a tail slot number value)) s = by_far s (join_other a tail slot number value s c (s == slot) refl r) z in
      shows_same (shelf_of a) (shelf_of (joined a tail slot number value)) mem after s far (λ q low. w s q z low) (h.shows s c z (sym far.root ∙ r));
  within = λ s c y r.
      let z : is_settled (v.status s) ≡ true = joined_shows n a v mem after i tail slot number value s c (s == slot) refl w h y r in
      let far : SameSlot (shelf_of a) (shelf_of (joined a tail slot number value)) s = by_far s (join_other a tail slot number value s c (s == slot) refl r) z in
      rw far.version (h.within s c z (sym far.root ∙ r));
  root = λ s c y.
      let other : (s == slot) ≡ false = unjoined i v slot s c (s == slot) refl y in
      let was : v.status s ≡ Linked c = sym (upd_other v.status slot InQueue s other) ∙ y in
      (by_far s other (rw was refl)).root ∙ h.root s c was;
  latest = λ s c y.
      let other : (s == slot) ≡ false = unjoined i v slot s c (s == slot) refl y in
      let was : v.status s ≡ Linked c = sym (upd_other v.status slot InQueue s other) ∙ y in
      (by_far s other (rw was refl)).version ∙ h.latest s c was;
  items = λ s p y r. by_items s p (s == slot) refl y r;
  queued = λ s p y r. by_queued s p (s == slot) refl y r;
  empty = h.empty;
}
  where
    by_far : (s : ℕ) → (s == slot) ≡ false → is_settled (v.status s) ≡ true → SameSlot (shelf_of a) (shelf_of (joined a tail slot number value)) s
    by_far s x z = joined_far a tail slot number value s x (λ p r. h.queued s p z r)

    by_items : (s p : ℕ) (x : Bool) → (s == slot) ≡ x → is_settled ((made i v (Appends slot)).status s) ≡ true → ((joined a tail slot number value).row s).root ≡ roots.Next p → Filled after s (QueueRow ((shelf_of (joined a tail slot number value)).version s) ((shelf_of (joined a tail slot number value)).value s)) 3
    by_items s p true x y r = subst (λ (j : ℕ). Filled after j (QueueRow ((shelf_of (joined a tail slot number value)).version j) ((shelf_of (joined a tail slot number value)).value j)) 3) (sym (number_is s slot x)) (joined_item a after tail slot number value e f)
    by_items s p false x y r =
        let z : is_settled (v.status s) ≡ true = subst (λ (k : Status). is_settled k ≡ true) (upd_other v.status slot InQueue s x) y in
        items_same (shelf_of a) (shelf_of (joined a tail slot number value)) mem after s (by_far s x z) (λ q low. w s q z low) (h.items s p z (sym (by_far s x z).root ∙ r))

    by_queued : (s p : ℕ) (x : Bool) → (s == slot) ≡ x → is_settled ((made i v (Appends slot)).status s) ≡ true → ((joined a tail slot number value).row s).root ≡ roots.Next p → ((joined a tail slot number value).row s).version - 1 < length (joined a tail slot number value).queued
    by_queued s p true x y r = subst (λ (j : ℕ). ((joined a tail slot number value).row j).version - 1 < length (joined a tail slot number value).queued) (sym (number_is s slot x)) (joined_last a tail slot number value)
    by_queued s p false x y r =
        let z : is_settled (v.status s) ≡ true = subst (λ (k : Status). is_settled k ≡ true) (upd_other v.status slot InQueue s x) y in
        let low : (a.row s).version - 1 < length a.queued = h.queued s p z (sym (by_far s x z).root ∙ r) in
        let long : length (a.queued ++ value ∷ []) ≡ length a.queued + 1 = length-append a.queued (value ∷ []) in
        subst (λ (k : ℕ). k - 1 < length (a.queued ++ value ∷ [])) (sym (by_far s x z).version) (subst (λ (k : ℕ). (a.row s).version - 1 < k) (sym long) (omega arith))

-- a bucket's root is exchanged: the book gets the row's link, and one change more
abbrev pub exchanged_book : Book → ℕ → ℕ → Change → Book
exchanged_book a b slot change = with_change (booked_link a (roots.Bucket b) slot) b change

cut_booked : (a : Book) (link : ℕ) (more : List Event) → booked_all a (told_cut link ++ more) ≡ booked_all a more
cut_booked a link more = by_link (link == 0) refl
  where
    by_link : (x : Bool) → (link == 0) ≡ x → booked_all a (told_cut link ++ more) ≡ booked_all a more
    by_link true e = rw e refl
    by_link false e = rw e refl

change_booked : (a : Book) (b version : ℕ) (change : Change) → booked_all a (told_change b version change ∷ []) ≡ with_change a b change
change_booked a b version (changes.Put key value) = refl
change_booked a b version (changes.Removed key) = refl

pub linked_booked : (a : Book) (kept : ChangeKept) (slot : ℕ) (post : Post) → booked_all a (told_linked kept slot post) ≡ exchanged_book a (changed_bucket kept post) slot kept.change
linked_booked a kept slot post =
    cut_booked (booked_link a (roots.Bucket (changed_bucket kept post)) slot) kept.link (told_change (changed_bucket kept post) (kept.version + 1) kept.change ∷ [])
    ∙ change_booked (booked_link a (roots.Bucket (changed_bucket kept post)) slot) (changed_bucket kept post) (kept.version + 1) kept.change

-- pairs at a version that there was before are what they were
grown_pairs : (f : ℕ → List Change) (b : ℕ) (change : Change) (root : Root) (version : ℕ) → ((c : ℕ) → root ≡ roots.Bucket c → version ≤ length (f c)) → pairs_by (upd f b (f b ++ change ∷ [])) root version ≡ pairs_by f root version
grown_pairs f b change (roots.Bucket c) version h = by_bucket (c == b) refl
  where
    by_bucket : (x : Bool) → (c == b) ≡ x → pairs_by (upd f b (f b ++ change ∷ [])) (roots.Bucket c) version ≡ pairs_by f (roots.Bucket c) version
    by_bucket true e =
        let is : c ≡ b = number_is c b e in
        let low : version ≤ length (f b) = subst (λ (k : ℕ). version ≤ length (f k)) is (h c refl) in
        rw e (ap (λ (l : List Change). pairs_after l) (take-append-le version (f b) (change ∷ []) low) ∙ ap (λ (k : ℕ). pairs_after (take version (f k))) (sym is))
    by_bucket false e = rw e refl
grown_pairs f b change (roots.Next parent) version h = refl
grown_pairs f b change roots.Head version h = refl
grown_pairs f b change roots.Tail version h = refl

pub exchanged_far : (a : Book) (b slot : ℕ) (change : Change) (s : ℕ) → (s == slot) ≡ false → ((c : ℕ) → (a.row s).root ≡ roots.Bucket c → (a.row s).version ≤ length (a.changes c)) → SameSlot (shelf_of a) (shelf_of (exchanged_book a b slot change)) s
exchanged_far a b slot change s h low =
    let row : (exchanged_book a b slot change).row s ≡ a.row s = upd_other a.row slot (record (a.row slot) { root = roots.Bucket b; version = length (a.changes b) + 1 }) s h in
    record {
      root = ap (λ (r : RowBook). r.root) row;
      version = ap (λ (r : RowBook). r.version) row;
      pairs = ap (λ (r : RowBook). pairs_by (upd a.changes b (a.changes b ++ change ∷ [])) r.root r.version) row ∙ grown_pairs a.changes b change (a.row s).root (a.row s).version low;
      value = ap (λ (r : RowBook). value_by a.queued r.root r.version) row;
    }

-- what the new row is in the book
pub record NewRow (a : Book) (b slot : ℕ) (change : Change) (k : Shelf) : Type 0 where
  pub root : k.root slot ≡ roots.Bucket b
  pub version : k.version slot ≡ length (a.changes b) + 1
  pub pairs : k.pairs slot ≡ changed (pairs_after (a.changes b)) change

grown_length : (l : List Change) (change : Change) → length (l ++ change ∷ []) ≡ length l + 1
grown_length l change = length-append l (change ∷ [])

new_pairs : (l : List Change) (change : Change) → pairs_after (take (length l + 1) (l ++ change ∷ [])) ≡ changed (pairs_after l) change
new_pairs l change =
    let whole : length (l ++ change ∷ []) ≤ length l + 1 = subst (λ (k : ℕ). k ≤ length l + 1) (sym (grown_length l change)) (omega arith) in
    ap (λ (x : List Change). pairs_after x) (take_all (length l + 1) (l ++ change ∷ []) whole) ∙ after_append l change

new_row_is : (a : Book) (b slot : ℕ) (change : Change) → NewRow a b slot change (shelf_of (exchanged_book a b slot change))
new_row_is a b slot change =
    let row : (exchanged_book a b slot change).row slot ≡ record (a.row slot) { root = roots.Bucket b; version = length (a.changes b) + 1 } = upd_own a.row slot (record (a.row slot) { root = roots.Bucket b; version = length (a.changes b) + 1 }) in
    let own : upd a.changes b (a.changes b ++ change ∷ []) b ≡ a.changes b ++ change ∷ [] = upd_own a.changes b (a.changes b ++ change ∷ []) in
    record {
      root = ap (λ (r : RowBook). r.root) row;
      version = ap (λ (r : RowBook). r.version) row;
      pairs = ap (λ (r : RowBook). pairs_by (upd a.changes b (a.changes b ++ change ∷ [])) r.root r.version) row ∙ ap (λ (l : List Change). pairs_after (take (length (a.changes b) + 1) l)) own ∙ new_pairs (a.changes b) change;
    }

-- what the exchange does with rows
pub record Linking (v u : View) (b slot : ℕ) : Type 0 where
  pub settled : (s : ℕ) → (s == slot) ≡ false → is_settled (u.status s) ≡ true → is_settled (v.status s) ≡ true
  pub linked : (s c : ℕ) → (s == slot) ≡ false → u.status s ≡ Linked c → v.status s ≡ Linked c
  pub other : (s c : ℕ) → (s == slot) ≡ false → u.status s ≡ Linked c → (c == b) ≡ false
  pub own : u.status slot ≡ Linked b
  pub root : u.root b ≡ slot + 1
  pub roots_stay : (c : ℕ) → (c == b) ≡ false → u.root c ≡ v.root c

-- what a change knows that exchanges the root of its bucket
pub record Latest (l : List Change) (kept : ChangeKept) : Type 0 where
  pub version : kept.version ≡ length l
  pub pairs : kept.pairs ≡ changed (pairs_after l) kept.change

new_shows : (after : Place → ℕ) (l : List Change) (kept : ChangeKept) (slot : ℕ) (k : Shelf) → k.version slot ≡ length l + 1 → k.pairs slot ≡ changed (pairs_after l) kept.change → Latest l kept → Filled after slot (new_row kept) (3 + 2 * length kept.pairs) → Shows after slot (k.version slot) (k.pairs slot)
new_shows after l kept slot k v p t h =
    let version : kept.version + 1 ≡ k.version slot = ap (λ (x : ℕ). x + 1) t.version ∙ sym v in
    let pairs : kept.pairs ≡ k.pairs slot = t.pairs ∙ sym p in
    subst (λ (x : ℕ). Shows after slot x (k.pairs slot)) version (subst (λ (ps : List Pair). Shows after slot (kept.version + 1) ps) pairs h)

changes_other : (a : Book) (b slot : ℕ) (change : Change) (c : ℕ) → (c == b) ≡ false → (exchanged_book a b slot change).changes c ≡ a.changes c
changes_other a b slot change c h = rw h refl

changes_own : (a : Book) (b slot : ℕ) (change : Change) → (exchanged_book a b slot change).changes b ≡ a.changes b ++ change ∷ []
changes_own a b slot change = rw (same_number b) refl

grown_within : (a : Book) (b slot : ℕ) (change : Change) (c version : ℕ) → version ≤ length (a.changes c) → version ≤ length ((exchanged_book a b slot change).changes c)
grown_within a b slot change c version h = by_bucket (c == b) refl
  where
    by_bucket : (x : Bool) → (c == b) ≡ x → version ≤ length ((exchanged_book a b slot change).changes c)
    by_bucket true e =
        let is : c ≡ b = number_is c b e in
        let low : version ≤ length (a.changes b) = subst (λ (k : ℕ). version ≤ length (a.changes k)) is h in
        let long : length (a.changes b ++ change ∷ []) ≡ length (a.changes b) + 1 = grown_length (a.changes b) change in
        rw e (omega arith)
    by_bucket false e = rw e h

two_roots : (x : Root) (b p : ℕ) → x ≡ roots.Bucket b → x ≡ roots.Next p → ⊥
two_roots x b p h k = cc

pub same_bucket : (x : Root) (b c : ℕ) → x ≡ roots.Bucket b → x ≡ roots.Bucket c → b ≡ c
same_bucket x b c h k = cc

same_status : (x : Status) (b c : ℕ) → x ≡ Linked b → x ≡ Linked c → b ≡ c
same_status x b c h k = cc

not_null : (n : ℕ) → (n + 1 == 0) ≡ false
not_null n = grind (arith, nat_tests)

exchanged_root : (a : Book) (b slot : ℕ) (change : Change) (v u : View) (c : ℕ) → Linking v u b slot → (v.root c == 0) ≡ (length (a.changes c) == 0) → (u.root c == 0) ≡ (length ((exchanged_book a b slot change).changes c) == 0)
exchanged_root a b slot change v u c k h = by_bucket (c == b) refl
  where
    by_bucket : (x : Bool) → (c == b) ≡ x → (u.root c == 0) ≡ (length ((exchanged_book a b slot change).changes c) == 0)
    by_bucket true e =
        let is : c ≡ b = number_is c b e in
        let left : (u.root c == 0) ≡ false = ap (λ (n : ℕ). n == 0) (ap (λ (n : ℕ). u.root n) is ∙ k.root) ∙ not_null slot in
        let right : (length (a.changes b ++ change ∷ []) == 0) ≡ false = ap (λ (n : ℕ). n == 0) (grown_length (a.changes b) change) ∙ not_null (length (a.changes b)) in
        left ∙ sym (rw e right)
    by_bucket false e = rw (e, k.roots_stay c e) h

pub exchanged_shelved : (n : ℕ) (a : Book) (v u : View) (mem after : Place → ℕ) (b slot : ℕ) (kept : ChangeKept) → Linking v u b slot → Latest (a.changes b) kept → WordsStay v mem after → Filled after slot (new_row kept) (3 + 2 * length kept.pairs) → Shelved (on n (shelf_of a) mem) a v
    → Shelved (on n (shelf_of (exchanged_book a b slot kept.change)) after) (exchanged_book a b slot kept.change) u
exchanged_shelved n a v u mem after b slot kept k t w f h = record {
  shows = λ s c y r. by_shows s c (s == slot) refl y r;
  within = λ s c y r. by_within s c (s == slot) refl y r;
  root = λ s c y. by_root s c (s == slot) refl y;
  latest = λ s c y. by_latest s c (s == slot) refl y;
  items = λ s p y r.
      let x : (s == slot) ≡ false = not_new s p (s == slot) refl r in
      let z : is_settled (v.status s) ≡ true = k.settled s x y in
      items_same (shelf_of a) (shelf_of (exchanged_book a b slot kept.change)) mem after s (far s x z) (λ q low. w s q z low) (h.items s p z (sym (far s x z).root ∙ r));
  queued = λ s p y r.
      let x : (s == slot) ≡ false = not_new s p (s == slot) refl r in
      let z : is_settled (v.status s) ≡ true = k.settled s x y in
      subst (λ (j : ℕ). j - 1 < length a.queued) (sym (far s x z).version) (h.queued s p z (sym (far s x z).root ∙ r));
  empty = λ c. exchanged_root a b slot kept.change v u c k (h.empty c);
}
  where
    new : NewRow a b slot kept.change (shelf_of (exchanged_book a b slot kept.change))
    new = new_row_is a b slot kept.change

    far : (s : ℕ) → (s == slot) ≡ false → is_settled (v.status s) ≡ true → SameSlot (shelf_of a) (shelf_of (exchanged_book a b slot kept.change)) s
    far s e y = exchanged_far a b slot kept.change s e (λ c r. h.within s c y r)

    not_new : (s p : ℕ) (x : Bool) → (s == slot) ≡ x → ((exchanged_book a b slot kept.change).row s).root ≡ roots.Next p → x ≡ false
    not_new s p true e r = absurd (two_roots ((exchanged_book a b slot kept.change).row slot).root b p new.root (subst (λ (j : ℕ). ((exchanged_book a b slot kept.change).row j).root ≡ roots.Next p) (number_is s slot e) r))
    not_new s p false e r = refl

    by_shows : (s c : ℕ) (x : Bool) → (s == slot) ≡ x → is_settled (u.status s) ≡ true → ((exchanged_book a b slot kept.change).row s).root ≡ roots.Bucket c → Shows after s ((shelf_of (exchanged_book a b slot kept.change)).version s) ((shelf_of (exchanged_book a b slot kept.change)).pairs s)
    by_shows s c true e y r = subst (λ (j : ℕ). Shows after j ((shelf_of (exchanged_book a b slot kept.change)).version j) ((shelf_of (exchanged_book a b slot kept.change)).pairs j)) (sym (number_is s slot e)) (new_shows after (a.changes b) kept slot (shelf_of (exchanged_book a b slot kept.change)) new.version new.pairs t f)
    by_shows s c false e y r =
        let z : is_settled (v.status s) ≡ true = k.settled s e y in
        shows_same (shelf_of a) (shelf_of (exchanged_book a b slot kept.change)) mem after s (far s e z) (λ q low. w s q z low) (h.shows s c z (sym (far s e z).root ∙ r))

    by_within : (s c : ℕ) (x : Bool) → (s == slot) ≡ x → is_settled (u.status s) ≡ true → ((exchanged_book a b slot kept.change).row s).root ≡ roots.Bucket c → ((exchanged_book a b slot kept.change).row s).version ≤ length ((exchanged_book a b slot kept.change).changes c)
    by_within s c true e y r =
        let is : s ≡ slot = number_is s slot e in
        let same : b ≡ c = same_bucket ((exchanged_book a b slot kept.change).row slot).root b c new.root (subst (λ (j : ℕ). ((exchanged_book a b slot kept.change).row j).root ≡ roots.Bucket c) is r) in
        let long : length ((exchanged_book a b slot kept.change).changes b) ≡ length (a.changes b) + 1 = ap (λ (l : List Change). length l) (changes_own a b slot kept.change) ∙ grown_length (a.changes b) kept.change in
        let there : ((exchanged_book a b slot kept.change).row slot).version ≤ length ((exchanged_book a b slot kept.change).changes b) = subst (λ (j : ℕ). ((exchanged_book a b slot kept.change).row slot).version ≤ j) (sym long) (subst (λ (j : ℕ). j ≤ length (a.changes b) + 1) (sym new.version) (omega arith)) in
        subst (λ (j : ℕ). ((exchanged_book a b slot kept.change).row j).version ≤ length ((exchanged_book a b slot kept.change).changes c)) (sym is) (subst (λ (j : ℕ). ((exchanged_book a b slot kept.change).row slot).version ≤ length ((exchanged_book a b slot kept.change).changes j)) same there)
    by_within s c false e y r =
        let z : is_settled (v.status s) ≡ true = k.settled s e y in
        subst (λ (j : ℕ). j ≤ length ((exchanged_book a b slot kept.change).changes c)) (sym (far s e z).version) (grown_within a b slot kept.change c (a.row s).version (h.within s c z (sym (far s e z).root ∙ r)))

    own_bucket : (s c : ℕ) → (s == slot) ≡ true → u.status s ≡ Linked c → b ≡ c
    own_bucket s c e y = same_status (u.status slot) b c k.own (subst (λ (j : ℕ). u.status j ≡ Linked c) (number_is s slot e) y)

    settled_of : (s c : ℕ) → v.status s ≡ Linked c → is_settled (v.status s) ≡ true
    settled_of s c y = rw y refl

    by_root : (s c : ℕ) (x : Bool) → (s == slot) ≡ x → u.status s ≡ Linked c → ((exchanged_book a b slot kept.change).row s).root ≡ roots.Bucket c
    by_root s c true e y = ap (λ (j : ℕ). ((exchanged_book a b slot kept.change).row j).root) (number_is s slot e) ∙ new.root ∙ ap (λ (j : ℕ). roots.Bucket j) (own_bucket s c e y)
    by_root s c false e y = (far s e (settled_of s c (k.linked s c e y))).root ∙ h.root s c (k.linked s c e y)

    by_latest : (s c : ℕ) (x : Bool) → (s == slot) ≡ x → u.status s ≡ Linked c → ((exchanged_book a b slot kept.change).row s).version ≡ length ((exchanged_book a b slot kept.change).changes c)
    by_latest s c true e y =
        let long : length ((exchanged_book a b slot kept.change).changes b) ≡ length (a.changes b) + 1 = ap (λ (l : List Change). length l) (changes_own a b slot kept.change) ∙ grown_length (a.changes b) kept.change in
        ap (λ (j : ℕ). ((exchanged_book a b slot kept.change).row j).version) (number_is s slot e) ∙ new.version ∙ sym long ∙ ap (λ (j : ℕ). length ((exchanged_book a b slot kept.change).changes j)) (own_bucket s c e y)
    by_latest s c false e y = (far s e (settled_of s c (k.linked s c e y))).version ∙ h.latest s c (k.linked s c e y) ∙ sym (ap (λ (l : List Change). length l) (changes_other a b slot kept.change c (k.other s c e y)))
