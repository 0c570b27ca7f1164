-- What all that a step tells makes of what a seat's events come to: only events of the rows, of links and of changes count.
use Rattle.std.proofs.Common.{ℕ, ◌≡◌, Bool, true, false, List, [], ◌∷◌, ◌++◌, refl, sym, ap, ◌∙◌, subst}
use Rattle.std.specs.List.{filter}
use Rattle.std.specs.Prelude.{◌==◌}
use Rattle.model_record.proofs.defs.Facts.{same_number}
use Rattle.model_record.specs.Record.{Past, Each, tells_of}
use Rattle.model_record.specs.Record.Past.{Then}
use Rattle.model_record.specs.defs.declared.event.Event.{Event}
use Rattle.laws.proofs.Along.{along}
use Rattle.laws.specs.StateAt.{seen}

pub seen_own : {X : Type 0} (next : Event → X → X) (first : X) (i : ℕ) (p : Past) (event : Event) → seen next first i (Then p i event) ≡ next event (seen next first i p)
seen_own next first i p event = let e : (i == i) ≡ true = same_number i in rw e refl

pub seen_other : {X : Type 0} (next : Event → X → X) (first : X) (k i : ℕ) (p : Past) (event : Event) → (k == i) ≡ false → seen next first k (Then p i event) ≡ seen next first k p
seen_other next first k i p event e = rw e refl

pub seen_tells : {X : Type 0} (next : Event → X → X) (first : X) (i : ℕ) (told : List Event) (p : Past) → seen next first i (tells_of p i told) ≡ along next told (seen next first i p)
seen_tells next first i [] p = refl
seen_tells next first i (event ∷ told) p = seen_tells next first i told (Then p i event) ∙ ap (along next told) (seen_own next first i p event)

pub seen_stays : {X : Type 0} (next : Event → X → X) (first : X) (k i : ℕ) (told : List Event) (p : Past) → (k == i) ≡ false → seen next first k (tells_of p i told) ≡ seen next first k p
seen_stays next first k i [] p e = refl
seen_stays next first k i (event ∷ told) p e = seen_stays next first k i told (Then p i event) e ∙ seen_other next first k i p event e

-- each event is right at what the events before it came to
abbrev pub AllRight : {X : Type 0} → (Event → X → X) → (Event → X → Bool) → List Event → X → Type 0
AllRight next right [] x = Unit {0}
AllRight next right (event ∷ told) x = (right event x ≡ true) × AllRight next right told (next event x)

pub each_tells : {X : Type 0} (next : Event → X → X) (first : X) (right : Event → X → Bool) (i : ℕ) (told : List Event) (p : Past) → AllRight next right told (seen next first i p) → Each (λ q k event. right event (seen next first k q)) p → Each (λ q k event. right event (seen next first k q)) (tells_of p i told)
each_tells next first right i [] p h g = g
each_tells next first right i (event ∷ told) p h g =
    each_tells next first right i told (Then p i event) (subst (λ x. AllRight next right told x) (sym (seen_own next first i p event)) h.1) (h.0, g)

-- events of another kind change nothing, and are right
pub record OfKind {X : Type 0} (next : Event → X → X) (test : Event → X → Bool) (kind : Event → Bool) : Type 0 where
  pub still : (event : Event) (x : X) → kind event ≡ false → next event x ≡ x
  pub right : (event : Event) (x : X) → kind event ≡ false → test event x ≡ true

right_one : {X : Type 0} (next : Event → X → X) (right : Event → X → Bool) (kind : Event → Bool) (event : Event) (told : List Event) (x : X) (loud : Bool) → OfKind next right kind → kind event ≡ loud → ((y : X) → AllRight next right (filter kind told) y → AllRight next right told y) → AllRight next right (filter kind (event ∷ told)) x → AllRight next right (event ∷ told) x
right_one next right kind event told x true o e h g =
    let t : AllRight next right (event ∷ filter kind told) x = rw e at g in
    (t.0, h (next event x) t.1)
right_one next right kind event told x false o e h g =
    let t : AllRight next right (filter kind told) x = rw e at g in
    (o.right event x e, subst (λ y. AllRight next right told y) (sym (o.still event x e)) (h x t))

pub right_kind : {X : Type 0} (next : Event → X → X) (right : Event → X → Bool) (kind : Event → Bool) (told : List Event) (x : X) → OfKind next right kind → AllRight next right (filter kind told) x → AllRight next right told x
right_kind next right kind [] x o h = tt
right_kind next right kind (event ∷ told) x o h = right_one next right kind event told x (kind event) o refl (λ y. right_kind next right kind told y o) h

-- what is told after what was told
pub tells_both : (i : ℕ) (xs ys : List Event) (p : Past) → tells_of p i (xs ++ ys) ≡ tells_of (tells_of p i xs) i ys
tells_both i [] ys p = refl
tells_both i (x ∷ xs) ys p = tells_both i xs ys (Then p i x)
