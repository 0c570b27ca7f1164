-- What steps tell the book of: most events change neither the changes of a bucket nor where a row was linked.
use Rattle.std.proofs.Common.{◌≤◌, ℕ, ◌≡◌, Bool, true, false, ◌&&◌, arith, refl, ap, ◌∙◌, sym, List, [], ◌∷◌, ◌++◌}
use Rattle.std.proofs.lemmas.Bool.Decides.{nat_tests}
use Rattle.std.specs.Prelude.{◌==◌, Option, None}
use Rattle.inv_ends.specs.model.defs.Pairs.{value_in}
use Rattle.inv_ends.specs.model.defs.declared.event.Event.{Event}
use Rattle.inv_ends.specs.model.defs.declared.event.Event.TheVariants as events
use Rattle.inv_ends.specs.model.defs.declared.event.Root.{Root}
use Rattle.inv_ends.specs.model.defs.declared.event.Root.TheVariants as roots
use Rattle.inv_ends.specs.model.Book.{Book, RowBook, booked, booked_all, with_row}
use Rattle.inv_ends.specs.model.Memory.{upd}
use Rattle.inv_all.specs.Contents.Shelf.{Shelf, shelf_of, pairs_by}
use Rattle.inv_ends.proofs.model.Facts.{first_of, rest_of, both}
use Rattle.inv_ends.specs.rows.Tries.{is_end}

-- the event leaves changes and rows of the map, and tells nothing of a bucket's pairs
abbrev pub is_calm : Event → Bool
is_calm (events.Link root slot) = is_end root
is_calm (events.Put bucket version key value) = false
is_calm (events.Removed bucket version key) = false
is_calm (events.Got bucket version key value) = false
is_calm (events.Queued number value) = false
is_calm event = true

abbrev pub all_calm : List Event → Bool
all_calm [] = true
all_calm (event ∷ told) = is_calm event && all_calm told

pub calm_append : (a b : List Event) → all_calm a ≡ true → all_calm b ≡ true → all_calm (a ++ b) ≡ true
calm_append [] b h k = k
calm_append (event ∷ a) b h k = both (is_calm event) (all_calm (a ++ b)) (first_of (is_calm event) (all_calm a) h) (calm_append a b (rest_of (is_calm event) (all_calm a) h) k)

-- two books have the same changes and rows of the map
pub record SameBook (a b : Book) : Type 0 where
  pub changes : (bucket : ℕ) → b.changes bucket ≡ a.changes bucket
  pub queued : b.queued ≡ a.queued
  pub roots : (s : ℕ) → (b.row s).root ≡ (a.row s).root
  pub versions : (s : ℕ) → (b.row s).version ≡ (a.row s).version

same_book : (a : Book) → SameBook a a
same_book a = record { changes = λ b. refl; queued = refl; roots = λ s. refl; versions = λ s. refl }

same_then : (a b c : Book) → SameBook a b → SameBook b c → SameBook a c
same_then a b c h k = record {
  changes = λ x. k.changes x ∙ h.changes x;
  queued = k.queued ∙ h.queued;
  roots = λ s. k.roots s ∙ h.roots s;
  versions = λ s. k.versions s ∙ h.versions s;
}

row_root : (f : ℕ → RowBook) (slot : ℕ) (row : RowBook) (s : ℕ) → row.root ≡ (f slot).root → (upd f slot row s).root ≡ (f s).root
row_root f slot row s h = by_slot (s == slot) refl
  where
    by_slot : (x : Bool) → (s == slot) ≡ x → (upd f slot row s).root ≡ (f s).root
    by_slot true e = let same : s ≡ slot = grind (arith, nat_tests) in rw e (h ∙ ap (λ (n : ℕ). (f n).root) (sym same))
    by_slot false e = rw e refl

row_version : (f : ℕ → RowBook) (slot : ℕ) (row : RowBook) (s : ℕ) → row.version ≡ (f slot).version → (upd f slot row s).version ≡ (f s).version
row_version f slot row s h = by_slot (s == slot) refl
  where
    by_slot : (x : Bool) → (s == slot) ≡ x → (upd f slot row s).version ≡ (f s).version
    by_slot true e = let same : s ≡ slot = grind (arith, nat_tests) in rw e (h ∙ ap (λ (n : ℕ). (f n).version) (sym same))
    by_slot false e = rw e refl

same_row : (a : Book) (slot : ℕ) (row : RowBook) → row.root ≡ (a.row slot).root → row.version ≡ (a.row slot).version → SameBook a (with_row a slot row)
same_row a slot row h k = record { changes = λ b. refl; queued = refl; roots = λ s. row_root a.row slot row s h; versions = λ s. row_version a.row slot row s k }

calm_booked : (a : Book) (event : Event) → is_calm event ≡ true → SameBook a (booked a event)
calm_booked a (events.Give slot birth) h = same_row a slot (record (a.row slot) { birth = birth; retire = 0 }) refl refl
calm_booked a (events.Retire slot birth retire) h = same_row a slot (record (a.row slot) { birth = birth; retire = retire }) refl refl
calm_booked a (events.Link (roots.Bucket bucket) slot) h = absurd (cc)
calm_booked a (events.Link (roots.Next parent) slot) h = absurd (cc)
calm_booked a (events.Link roots.Head slot) h = same_book a
calm_booked a (events.Link roots.Tail slot) h = same_book a
calm_booked a (events.Put bucket version key value) h = absurd (cc)
calm_booked a (events.Removed bucket version key) h = absurd (cc)
calm_booked a (events.Got bucket version key value) h = absurd (cc)
calm_booked a (events.Queued number value) h = absurd (cc)
calm_booked a (events.Taken number value) h = record { changes = λ b. refl; queued = refl; roots = λ s. refl; versions = λ s. refl }
calm_booked a event h = same_book a

pub calm_book : (told : List Event) (a : Book) → all_calm told ≡ true → SameBook a (booked_all a told)
calm_book [] a h = same_book a
calm_book (event ∷ told) a h =
    same_then a (booked a event) (booked_all (booked a event) told) (calm_booked a event (first_of (is_calm event) (all_calm told) h)) (calm_book told (booked a event) (rest_of (is_calm event) (all_calm told) h))

pub booked_append : (told more : List Event) (a : Book) → booked_all a (told ++ more) ≡ booked_all (booked_all a told) more
booked_append [] more a = refl
booked_append (event ∷ told) more a = booked_append told more (booked a event)

-- rows show the same
pub record SameSlot (a b : Shelf) (s : ℕ) : Type 0 where
  pub root : b.root s ≡ a.root s
  pub version : b.version s ≡ a.version s
  pub pairs : b.pairs s ≡ a.pairs s
  pub value : b.value s ≡ a.value s

pub pairs_same : (a b : Book) (root : Root) (version : ℕ) → ((x : ℕ) → b.changes x ≡ a.changes x) → pairs_by b.changes root version ≡ pairs_by a.changes root version
pairs_same a b (roots.Bucket bucket) version h = rw (h bucket) refl
pairs_same a b (roots.Next parent) version h = refl
pairs_same a b roots.Head version h = refl
pairs_same a b roots.Tail version h = refl

pub same_slot : (a b : Book) (s : ℕ) → SameBook a b → SameSlot (shelf_of a) (shelf_of b) s
same_slot a b s h = record {
  root = h.roots s;
  version = h.versions s;
  pairs = rw (h.roots s, h.versions s) (pairs_same a b (a.row s).root (a.row s).version h.changes);
  value = rw (h.roots s, h.versions s, h.queued) refl;
}

-- where the value comes from that a get tells: there was no row, or a row showed it
pub data GotFrom (a : Shelf) (b version key : ℕ) (value : Option ℕ) : Type 0 where
  FromNone : version ≡ 0 → value ≡ None → GotFrom a b version key value
  FromRow : (s : ℕ) → a.root s ≡ roots.Bucket b → a.version s ≤ a.count b → version ≡ a.version s → value ≡ value_in (a.pairs s) key → GotFrom a b version key value

-- what a step tells that links no row
abbrev pub Claims : Shelf → Event → Type 0
Claims a (events.Got bucket version key value) = GotFrom a bucket version key value
Claims a event = is_calm event ≡ true

abbrev pub Claimed : Shelf → List Event → Type 0
Claimed a [] = Unit {0}
Claimed a (event ∷ told) = Claims a event × Claimed a told

claims_of : (a : Shelf) (event : Event) → is_calm event ≡ true → Claims a event
claims_of a (events.Got bucket version key value) h = absurd (cc)
claims_of a event h = h

pub calm_claimed : (a : Shelf) (told : List Event) → all_calm told ≡ true → Claimed a told
calm_claimed a [] h = tt
calm_claimed a (event ∷ told) h = (claims_of a event (first_of (is_calm event) (all_calm told) h), calm_claimed a told (rest_of (is_calm event) (all_calm told) h))

pub claimed_append : (a : Shelf) (told more : List Event) → Claimed a told → Claimed a more → Claimed a (told ++ more)
claimed_append a [] more h k = k
claimed_append a (event ∷ told) more h k = (h.0, claimed_append a told more h.1 k)

claims_booked : (k : Shelf) (a : Book) (event : Event) → Claims k event → SameBook a (booked a event)
claims_booked k a (events.Got bucket version key value) h = same_book a
claims_booked k a event h = calm_booked a event h

pub claimed_book : (k : Shelf) (told : List Event) (a : Book) → Claimed k told → SameBook a (booked_all a told)
claimed_book k [] a h = same_book a
claimed_book k (event ∷ told) a h = same_then a (booked a event) (booked_all (booked a event) told) (claims_booked k a event h.0) (claimed_book k told (booked a event) h.1)
