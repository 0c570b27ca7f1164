-- What steps tell of the map is right by the book.
use Rattle.std.proofs.Common.{ℕ, ◌+◌, ◌%◌, ◌≤◌, ◌≡◌, Bool, true, false, arith, refl, ap, ◌∙◌, sym, subst, List, [], ◌∷◌, ◌++◌, length}
use Rattle.std.specs.Prelude.{◌==◌, take, Option}
use Rattle.inv_ends.specs.model.defs.Pairs.{pairs_after, value_in}
use Rattle.inv_ends.specs.model.defs.declared.event.Event.{Event}
use Rattle.inv_ends.specs.model.defs.declared.event.Event.TheVariants as events
use Rattle.inv_ends.specs.model.defs.declared.event.Root.{Root}
use Rattle.inv_ends.specs.model.defs.declared.fold.Change.{Change}
use Rattle.inv_ends.specs.model.defs.declared.fold.Change.TheVariants as changes
use Rattle.inv_ends.specs.model.declared.post.Post.{Post}
use Rattle.inv_ends.specs.model.Book.{Book}
use Rattle.inv_ends.specs.model.Change.{told_linked, told_cut, told_change, changed_bucket}
use Rattle.inv_ends.specs.model.Rounds.{key_of}
use Rattle.inv_ends.specs.model.Calls.{ChangeKept}
use Rattle.inv_all.specs.Contents.Shelf.{shelf_of, pairs_by}
use Rattle.inv_all.specs.Contents.Told.{GotRight, NextChange, TellsRight, AllRight}
use Rattle.inv_all.proofs.Contents.Contents.Told.{Claims, Claimed, GotFrom, FromNone, FromRow}
use Rattle.inv_all.proofs.Contents.Contents.Shelves.{Latest}

got_right : (a : Book) (b version key : ℕ) (value : Option ℕ) → GotFrom (shelf_of a) b version key value → GotRight a b version key value
got_right a b version key value (FromNone e f) = record {
  within = subst (λ (k : ℕ). k ≤ length (a.changes b)) (sym e) (omega arith);
  right = f ∙ sym (ap (λ (k : ℕ). value_in (pairs_after (take k (a.changes b))) key) e);
}
got_right a b version key value (FromRow s root low v x) = record {
  within = subst (λ (k : ℕ). k ≤ length (a.changes b)) (sym v) low;
  right = x ∙ ap (λ (r : Root). value_in (pairs_by a.changes r (a.row s).version) key) root ∙ sym (ap (λ (k : ℕ). value_in (pairs_after (take k (a.changes b))) key) v);
}

claims_right : (n : ℕ) (a : Book) (event : Event) → Claims (shelf_of a) event → TellsRight n a event
claims_right n a (events.Got bucket version key value) h = got_right a bucket version key value h
claims_right n a (events.Put bucket version key value) h = absurd (cc)
claims_right n a (events.Removed bucket version key) h = absurd (cc)
claims_right n a (events.Queued number value) h = absurd (cc)
claims_right n a event h = tt

pub claimed_right : (n : ℕ) (a : Book) (told : List Event) → Claimed (shelf_of a) told → AllRight n a told
claimed_right n a [] h = tt
claimed_right n a (event ∷ told) h = (claims_right n a event h.0, claimed_right n a told h.1)

pub right_append : (n : ℕ) (a : Book) (told more : List Event) → AllRight n a told → AllRight n a more → AllRight n a (told ++ more)
right_append n a [] more h k = k
right_append n a (event ∷ told) more h k = (h.0, right_append n a told more h.1 k)

cut_right : (n : ℕ) (a : Book) (link : ℕ) → AllRight n a (told_cut link)
cut_right n a link = by_link (link == 0) refl
  where
    by_link : (x : Bool) → (link == 0) ≡ x → AllRight n a (told_cut link)
    by_link true e = rw e tt
    by_link false e = rw e (tt, tt)

change_right : (n : ℕ) (a : Book) (b version : ℕ) (change : Change) → NextChange n a b version (key_of change) → AllRight n a (told_change b version change ∷ [])
change_right n a b version (changes.Put key value) h = (h, tt)
change_right n a b version (changes.Removed key) h = (h, tt)

-- the exchange of a root tells the next version
pub linked_right : (n : ℕ) (a : Book) (kept : ChangeKept) (slot : ℕ) (post : Post) → post.layout.config.buckets ≡ n → Latest (a.changes (changed_bucket kept post)) kept → AllRight n a (told_linked kept slot post)
linked_right n a kept slot post p t =
    let b : ℕ = changed_bucket kept post in
    let next : NextChange n a b (kept.version + 1) (key_of kept.change) = record { place = ap (λ (k : ℕ). key_of kept.change % k) p; next = ap (λ (k : ℕ). k + 1) t.version } in
    (tt, right_append n a (told_cut kept.link) (told_change b (kept.version + 1) kept.change ∷ []) (cut_right n a kept.link) (change_right n a b (kept.version + 1) kept.change next))
