-- The root under which a row was linked last changes by no step that takes or frees no such row.
use Rattle.std.proofs.Common.{ℕ, ◌≡◌, Bool, true, false, List, [], ◌∷◌, arith, refl, sym, ap, subst, ◌∙◌}
use Rattle.std.proofs.lemmas.Bool.Decides.{nat_tests}
use Rattle.std.specs.Prelude.{◌==◌, ◌-◌, if◌then◌else◌}
use Rattle.inv_rows.specs.defs.declared.event.Event.{Event}
use Rattle.inv_rows.specs.defs.declared.event.Event.TheVariants as events
use Rattle.inv_rows.specs.defs.declared.event.Root.TheVariants as roots
use Rattle.inv_rows.specs.model.declared.post.Post.{Post}
use Rattle.inv_rows.specs.model.Book.{Book, RowBook, booked, booked_all}
use Rattle.inv_rows.specs.model.Calls.{Phase, CallTurn, CallOutcome, GoesOn, Answers}
use Rattle.inv_rows.specs.model.Locals.{turn, told_end, told_by}
use Rattle.inv_rows.specs.model.Posts.{counted}
use Rattle.inv_rows.specs.model.World.{World, step, finds, offered}
use Rattle.inv_rows.proofs.model.Facts.{same_number, first_of, rest_of}
use Rattle.inv_rows.specs.Covering.Covers.{takes_or_frees}
use Rattle.inv_rows.specs.Hands.{row_move, linked_row}
use Rattle.inv_rows.specs.Rows.{RowMove}
use Rattle.inv_rows.specs.Rows.RowMove.{Stays, Appends}
use Rattle.inv_ends.proofs.Links.Told.{links_one, links_in, append_in, phase_in, LinksOf}

row_same : (a : Book) (slot : ℕ) (row : RowBook) (s : ℕ) (same : Bool) → (s == slot) ≡ same → row.root ≡ (a.row slot).root → (if same then row else a.row s).root ≡ (a.row s).root
row_same a slot row s true e h = let q : s ≡ slot = grind (arith, nat_tests) in h ∙ ap (λ (n : ℕ). (a.row n).root) (sym q)
row_same a slot row s false e h = refl

row_other : (f : ℕ → Bool) (a : Book) (slot : ℕ) (row : RowBook) (s : ℕ) (same : Bool) → (s == slot) ≡ same → f s ≡ false → f slot ≡ true → (if same then row else a.row s).root ≡ (a.row s).root
row_other f a slot row s true e n h = let q : s ≡ slot = grind (arith, nat_tests) in absurd (apart (f s) n (subst (λ (x : ℕ). f x ≡ true) (sym q) h))
  where
    apart : (b : Bool) → b ≡ false → b ≡ true → ⊥
    apart b p q = cc
row_other f a slot row s false e n h = refl

one_root : (f : ℕ → Bool) (s : ℕ) (a : Book) (event : Event) → f s ≡ false → links_one f event ≡ true → ((booked a event).row s).root ≡ (a.row s).root
one_root f s a (events.Give slot birth) n h = row_same a slot (record (a.row slot) { birth = birth; retire = 0 }) s (s == slot) refl refl
one_root f s a (events.Retire slot birth retire) n h = row_same a slot (record (a.row slot) { birth = birth; retire = retire }) s (s == slot) refl refl
one_root f s a (events.Link (roots.Bucket bucket) slot) n h = row_other f a slot _ s (s == slot) refl n h
one_root f s a (events.Link (roots.Next parent) slot) n h = row_other f a slot _ s (s == slot) refl n h
one_root f s a (events.Link roots.Head slot) n h = refl
one_root f s a (events.Link roots.Tail slot) n h = refl
one_root f s a event n h = refl

all_root : (f : ℕ → Bool) (s : ℕ) (told : List Event) (a : Book) → f s ≡ false → links_in f told ≡ true → ((booked_all a told).row s).root ≡ (a.row s).root
all_root f s [] a n h = refl
all_root f s (event ∷ told) a n h = all_root f s told (booked a event) n (rest_of (links_one f event) (links_in f told) h) ∙ one_root f s a event n (first_of (links_one f event) (links_in f told) h)

-- a step links the rows that it takes
pub change_taking : (bucket slot link : ℕ) (null : Bool) → takes_or_frees (if null then RowMove.Links bucket slot else RowMove.Replaces bucket slot (link - 1)) slot ≡ true
change_taking bucket slot link true = same_number slot
change_taking bucket slot link false = same_number slot

pub change_takes : (bucket slot link : ℕ) (same : Bool) → same ≡ true → takes_or_frees (if same then linked_row bucket slot link else Stays) slot ≡ true
change_takes bucket slot link true e = change_taking bucket slot link (link == 0)
change_takes bucket slot link false e = cc

pub enqueue_takes : (slot : ℕ) (same : Bool) → same ≡ true → takes_or_frees (if same then Appends slot else Stays) slot ≡ true
enqueue_takes slot true e = same_number slot
enqueue_takes slot false e = cc

pub links_of : (w : World) (i : ℕ) → LinksOf (λ s. takes_or_frees (row_move (w.seat i).phase (w.seat i).post (finds w i)) s) (w.seat i).phase (finds w i)
links_of w i = record {
  changes = λ kept slot q e. subst (λ (p : Phase). takes_or_frees (row_move p (w.seat i).post (finds w i)) slot ≡ true) (sym q) (change_takes _ slot kept.link (finds w i == kept.link) e);
  enqueues = λ kept slot q e. subst (λ (p : Phase). takes_or_frees (row_move p (w.seat i).post (finds w i)) slot ≡ true) (sym q) (enqueue_takes slot (finds w i == 0) e);
}

pub ended_in : (f : ℕ → Bool) (post : Post) (outcome : CallOutcome) → links_in f (told_end post outcome) ≡ true
ended_in f post (GoesOn phase) = refl
ended_in f post (Answers answer) = refl

pub root_stays : (w : World) (i s : ℕ) → takes_or_frees (row_move (w.seat i).phase (w.seat i).post (finds w i)) s ≡ false → ((step w i).book.row s).root ≡ (w.book.row s).root
root_stays w i s h =
    let t : CallTurn = turn (offered w i) (finds w i) in
    all_root (λ n. takes_or_frees (row_move (w.seat i).phase (w.seat i).post (finds w i)) n) s (told_by t) w.book h
    (append_in (λ n. takes_or_frees (row_move (w.seat i).phase (w.seat i).post (finds w i)) n) t.told (told_end t.post t.outcome) (phase_in (λ n. takes_or_frees (row_move (w.seat i).phase (w.seat i).post (finds w i)) n) (w.seat i).phase (counted (w.seat i).post) (offered w i).desk (finds w i) (links_of w i)) (ended_in (λ n. takes_or_frees (row_move (w.seat i).phase (w.seat i).post (finds w i)) n) t.post t.outcome))
