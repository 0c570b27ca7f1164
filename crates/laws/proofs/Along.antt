-- What a record says after all that a step tells: of rows, only the events of rows count.
use Rattle.std.proofs.Common.{ℕ, ◌≡◌, Bool, true, false, List, [], ◌∷◌, refl, ap, sym, Option, None, Some, ◌∙◌, arith}
use Rattle.std.proofs.lemmas.Bool.Decides.{nat_tests}
use Rattle.std.specs.List.{filter}
use Rattle.std.specs.Prelude.{◌==◌}
use Rattle.model_record.proofs.defs.Facts.{same_number, number_is}
use Rattle.model_record.specs.Record.{Past, Test, Each, tells_of}
use Rattle.model_record.specs.Record.Past.{Then}
use Rattle.model_record.specs.defs.Events.{is_of_rows}
use Rattle.model_record.specs.defs.declared.event.Event.{Event}
use Rattle.model_record.specs.defs.declared.event.Event.TheVariants as events
use Rattle.model_record.specs.defs.declared.event.Guard.{Guard}
use Rattle.model_record.specs.defs.declared.event.Guard.TheVariants.{Helper, Index, Whole}
use Rattle.model_record.specs.defs.declared.lifetime.Lifetime.{Lifetime}
use Rattle.laws.specs.Lists.{gained_by, handed_by, hands_none, is_handed, list_by, list_of}
use Rattle.laws.specs.StateAt.{is_row, taken_by, taken_at, retired_by, retired_at, cut_by, cut_at, same_guard, is_index_word}

pub row_of : (s : ℕ) (x : Option ℕ) → is_row s x ≡ true → x ≡ Some s
row_of s None h = absurd (cc)
row_of s (Some slot) h = ap Some (sym (number_is s slot h))

abbrev pub along : {X : Type 0} → (Event → X → X) → List Event → X → X
along f [] x = x
along f (event ∷ told) x = along f told (f event x)

-- events of one kind alone change it
along_one : {X : Type 0} (f : Event → X → X) (kind : Event → Bool) (event : Event) (told : List Event) (x : X) (loud : Bool) → kind event ≡ loud → ((e : Event) (y : X) → kind e ≡ false → f e y ≡ y) → ((y : X) → along f told y ≡ along f (filter kind told) y)
    → along f (event ∷ told) x ≡ along f (filter kind (event ∷ told)) x
along_one f kind event told x true e q h = rw e (h (f event x))
along_one f kind event told x false e q h = rw (e, q event x e) (h x)

pub along_kind : {X : Type 0} (f : Event → X → X) (kind : Event → Bool) → ((e : Event) (y : X) → kind e ≡ false → f e y ≡ y) → (told : List Event) (x : X) → along f told x ≡ along f (filter kind told) x
along_kind f kind q [] x = refl
along_kind f kind q (event ∷ told) x = along_one f kind event told x (kind event) refl q (along_kind f kind q told)

-- what no event of which takes a list over
first_none : (event : Event) (told : List Event) → hands_none (event ∷ told) ≡ true → is_handed event ≡ false
first_none event told h = grind (arith, nat_tests)

rest_none : (event : Event) (told : List Event) → hands_none (event ∷ told) ≡ true → hands_none told ≡ true
rest_none event told h = grind (arith, nat_tests)

-- the record after all that is told
pub taken_tells : (slots s i : ℕ) (told : List Event) (p : Past) → taken_at slots s (tells_of p i told) ≡ along (taken_by s) told (taken_at slots s p)
taken_tells slots s i [] p = refl
taken_tells slots s i (event ∷ told) p = taken_tells slots s i told (Then p i event)

pub retired_tells : (s i : ℕ) (told : List Event) (p : Past) → retired_at s (tells_of p i told) ≡ along (retired_by s) told (retired_at s p)
retired_tells s i [] p = refl
retired_tells s i (event ∷ told) p = retired_tells s i told (Then p i event)

-- lists change by their own seats alone, but where one is taken over
gained_own : (event : Event) (other : ℕ → List Lifetime) (list : List Lifetime) → is_handed event ≡ false → gained_by event other list ≡ list_by event list
gained_own (events.Adopted place count) other list h = absurd (cc)
gained_own event other list h = refl

handed_not : (k : ℕ) (event : Event) (list : List Lifetime) → is_handed event ≡ false → handed_by k event list ≡ list
handed_not k (events.Adopted place count) list h = absurd (cc)
handed_not k event list h = refl

pub list_own : (i : ℕ) (event : Event) (p : Past) → is_handed event ≡ false → list_of i (Then p i event) ≡ list_by event (list_of i p)
list_own i event p h = rw (same_number i) (gained_own event (λ (place : ℕ). list_of place p) (list_of i p) h)

pub list_other : (k i : ℕ) (event : Event) (p : Past) → (k == i) ≡ false → is_handed event ≡ false → list_of k (Then p i event) ≡ list_of k p
list_other k i event p e h = rw e (handed_not k event (list_of k p) h)

pub list_tells : (i : ℕ) (told : List Event) (p : Past) → hands_none told ≡ true → list_of i (tells_of p i told) ≡ along list_by told (list_of i p)
list_tells i [] p h = refl
list_tells i (event ∷ told) p h =
    list_tells i told (Then p i event) (rest_none event told h) ∙ ap (along list_by told) (list_own i event p (first_none event told h))

pub list_stays : (k i : ℕ) (told : List Event) (p : Past) → (k == i) ≡ false → hands_none told ≡ true → list_of k (tells_of p i told) ≡ list_of k p
list_stays k i [] p e h = refl
list_stays k i (event ∷ told) p e h = list_stays k i told (Then p i event) e (rest_none event told h) ∙ list_other k i event p e (first_none event told h)

cut_own : (i s : ℕ) (event : Event) (p : Past) → cut_at i s (Then p i event) ≡ cut_by s event (cut_at i s p)
cut_own i s event p = rw (same_number i) refl

pub cut_tells : (i s : ℕ) (told : List Event) (p : Past) → cut_at i s (tells_of p i told) ≡ along (cut_by s) told (cut_at i s p)
cut_tells i s [] p = refl
cut_tells i s (event ∷ told) p = cut_tells i s told (Then p i event) ∙ ap (along (cut_by s) told) (cut_own i s event p)

pub cut_stays : (k i s : ℕ) (told : List Event) (p : Past) → (k == i) ≡ false → cut_at k s (tells_of p i told) ≡ cut_at k s p
cut_stays k i s [] p h = refl
cut_stays k i s (event ∷ told) p h = cut_stays k i s told (Then p i event) h ∙ rw h refl

-- events that are not of rows change nothing of it
pub taken_quiet : (s : ℕ) (event : Event) (x : Bool) → is_of_rows event ≡ false → taken_by s event x ≡ x
taken_quiet s (events.Give slot birth) x h = absurd (cc)
taken_quiet s (events.Unused slot) x h = absurd (cc)
taken_quiet s (events.Back slot) x h = absurd (cc)
taken_quiet s event x h = refl

pub retired_quiet : (s : ℕ) (event : Event) (x : Bool) → is_of_rows event ≡ false → retired_by s event x ≡ x
retired_quiet s (events.Retire slot birth retire) x h = absurd (cc)
retired_quiet s (events.Back slot) x h = absurd (cc)
retired_quiet s event x h = refl

pub list_quiet : (event : Event) (x : List Lifetime) → is_of_rows event ≡ false → list_by event x ≡ x
list_quiet (events.Retire slot birth retire) x h = absurd (cc)
list_quiet (events.Back slot) x h = absurd (cc)
list_quiet event x h = refl

-- a law on one kind of events, of which a step tells one at most
abbrev pub Single : Test → Past → ℕ → List Event → Type 0
Single ok p i [] = Unit {0}
Single ok p i (event ∷ []) = ok p i event ≡ true
Single ok p i (event ∷ other ∷ told) = false ≡ true

-- a law on events of a kind, which no other event makes fail
pub record OfKind (kind : Event → Bool) (ok : Test) : Type 0 where
  pub quiet : (p : Past) (i : ℕ) (event : Event) → kind event ≡ false → ok p i event ≡ true
  pub still : (p : Past) (i : ℕ) (event other : Event) → kind event ≡ false → ok p i other ≡ true → ok (Then p i event) i other ≡ true

single_still : (kind : Event → Bool) (ok : Test) → OfKind kind ok → (p : Past) (i : ℕ) (event : Event) (told : List Event) → kind event ≡ false → Single ok p i told → Single ok (Then p i event) i told
single_still kind ok o p i event [] h s = tt
single_still kind ok o p i event (other ∷ []) h s = o.still p i event other h s
single_still kind ok o p i event (other ∷ more ∷ told) h s = s

none_after : (ok : Test) (p : Past) (i : ℕ) (event : Event) (told : List Event) → Single ok p i (event ∷ told) → told ≡ []
none_after ok p i event [] s = refl
none_after ok p i event (other ∷ told) s = absurd (cc)

first_ok : (ok : Test) (p : Past) (i : ℕ) (event : Event) (told : List Event) → Single ok p i (event ∷ told) → ok p i event ≡ true
first_ok ok p i event [] s = s
first_ok ok p i event (other ∷ told) s = absurd (cc)

single_none : (ok : Test) (p : Past) (i : ℕ) (told : List Event) → told ≡ [] → Single ok p i told
single_none ok p i [] h = tt
single_none ok p i (event ∷ told) h = absurd (cc)

single_one : (kind : Event → Bool) (ok : Test) → OfKind kind ok → (p : Past) (i : ℕ) (event : Event) (told : List Event) (loud : Bool) → kind event ≡ loud → Single ok p i (filter kind (event ∷ told)) → (Single ok (Then p i event) i (filter kind told)) × (ok p i event ≡ true)
single_one kind ok o p i event told true e s =
    let t : Single ok p i (event ∷ filter kind told) = rw e at s in
    (single_none ok (Then p i event) i (filter kind told) (none_after ok p i event (filter kind told) t), first_ok ok p i event (filter kind told) t)
single_one kind ok o p i event told false e s =
    let t : Single ok p i (filter kind told) = rw e at s in
    (single_still kind ok o p i event (filter kind told) e t, o.quiet p i event e)

pub single_each : (kind : Event → Bool) (ok : Test) → OfKind kind ok → (i : ℕ) (told : List Event) (p : Past) → Single ok p i (filter kind told) → Each ok p → Each ok (tells_of p i told)
single_each kind ok o i [] p s h = h
single_each kind ok o i (event ∷ told) p s h =
    let t = single_one kind ok o p i event told (kind event) refl s in
    single_each kind ok o i told (Then p i event) t.0 (t.1, h)

pub index_guard : (k j : ℕ) (guard : Guard) → same_guard (Index k j) guard ≡ is_index_word k j guard
index_guard k j (Helper seat) = refl
index_guard k j (Index seat index) = grind (arith, nat_tests)
index_guard k j (Whole seat) = refl
