-- The version under which a row was linked last changes by no step that takes or frees no such row.
use Rattle.std.proofs.Common.{ℕ, ◌≡◌, Bool, true, false, List, [], ◌∷◌, arith, refl, sym, ap, subst, ◌∙◌}
use Rattle.std.proofs.lemmas.Bool.Decides.{nat_tests}
use Rattle.std.specs.Prelude.{◌==◌, if◌then◌else◌}
use Rattle.inv_all.specs.model.defs.declared.event.Event.{Event}
use Rattle.inv_all.specs.model.defs.declared.event.Event.TheVariants as events
use Rattle.inv_all.specs.model.defs.declared.event.Root.TheVariants as roots
use Rattle.inv_all.specs.model.Book.{Book, RowBook, booked, booked_all}
use Rattle.inv_all.specs.model.Calls.{CallTurn}
use Rattle.inv_all.specs.model.Locals.{turn, told_end, told_by}
use Rattle.inv_all.specs.model.Posts.{counted}
use Rattle.inv_all.specs.model.World.{World, finds, offered, step}
use Rattle.inv_all.proofs.model.Facts.{first_of, rest_of}
use Rattle.inv_all.specs.covers.Covers.{takes_or_frees}
use Rattle.inv_all.specs.rows.Hands.{row_move}
use Rattle.inv_all.proofs.ends.Links.Told.{links_one, links_in, append_in, phase_in}
use Rattle.inv_all.proofs.ends.Links.Booked.{links_of, ended_in}

row_same : (a : Book) (slot : ℕ) (row : RowBook) (s : ℕ) (same : Bool) → (s == slot) ≡ same → row.version ≡ (a.row slot).version → (if same then row else a.row s).version ≡ (a.row s).version
row_same a slot row s true e h = let q : s ≡ slot = grind (arith, nat_tests) in h ∙ ap (λ (n : ℕ). (a.row n).version) (sym q)
row_same a slot row s false e h = refl

row_other : (f : ℕ → Bool) (a : Book) (slot : ℕ) (row : RowBook) (s : ℕ) (same : Bool) → (s == slot) ≡ same → f s ≡ false → f slot ≡ true → (if same then row else a.row s).version ≡ (a.row s).version
row_other f a slot row s true e n h = let q : s ≡ slot = grind (arith, nat_tests) in absurd (apart (f s) n (subst (λ (x : ℕ). f x ≡ true) (sym q) h))
  where
    apart : (b : Bool) → b ≡ false → b ≡ true → ⊥
    apart b p q = cc
row_other f a slot row s false e n h = refl

one_version : (f : ℕ → Bool) (s : ℕ) (a : Book) (event : Event) → f s ≡ false → links_one f event ≡ true → ((booked a event).row s).version ≡ (a.row s).version
one_version f s a (events.Give slot birth) n h = row_same a slot (record (a.row slot) { birth = birth; retire = 0 }) s (s == slot) refl refl
one_version f s a (events.Retire slot birth retire) n h = row_same a slot (record (a.row slot) { birth = birth; retire = retire }) s (s == slot) refl refl
one_version f s a (events.Link (roots.Bucket bucket) slot) n h = row_other f a slot _ s (s == slot) refl n h
one_version f s a (events.Link (roots.Next parent) slot) n h = row_other f a slot _ s (s == slot) refl n h
one_version f s a (events.Link roots.Head slot) n h = refl
one_version f s a (events.Link roots.Tail slot) n h = refl
one_version f s a event n h = refl

all_version : (f : ℕ → Bool) (s : ℕ) (told : List Event) (a : Book) → f s ≡ false → links_in f told ≡ true → ((booked_all a told).row s).version ≡ (a.row s).version
all_version f s [] a n h = refl
all_version f s (event ∷ told) a n h = all_version f s told (booked a event) n (rest_of (links_one f event) (links_in f told) h) ∙ one_version f s a event n (first_of (links_one f event) (links_in f told) h)

pub version_stays : (w : World) (i s : ℕ) → takes_or_frees (row_move (w.seat i).phase (w.seat i).post (finds w i)) s ≡ false → ((step w i).book.row s).version ≡ (w.book.row s).version
version_stays w i s h =
    let t : CallTurn = turn (offered w i) (finds w i) in
    all_version (λ n. takes_or_frees (row_move (w.seat i).phase (w.seat i).post (finds w i)) n) s (told_by t) w.book h
    (append_in (λ n. takes_or_frees (row_move (w.seat i).phase (w.seat i).post (finds w i)) n) t.told (told_end t.post t.outcome) (phase_in (λ n. takes_or_frees (row_move (w.seat i).phase (w.seat i).post (finds w i)) n) (w.seat i).phase (counted (w.seat i).post) (offered w i).desk (finds w i) (links_of w i)) (ended_in (λ n. takes_or_frees (row_move (w.seat i).phase (w.seat i).post (finds w i)) n) t.post t.outcome))
