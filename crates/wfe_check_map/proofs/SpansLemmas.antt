-- What guards showed, and what that keeps of a list.
use Rattle.std.specs.Prelude.{◌==◌, ◌||◌, if◌then◌else◌, Bool, true, false, not, filter, count_by}
use Rattle.std.proofs.Common.{◌≡◌, ℕ, ◌<◌, ◌≤◌, ◌+◌, List, [], ◌∷◌, ◌++◌, length, get_or, refl, sym, ap, ◌∙◌, Option, Some, None, take, drop}
use Rattle.std.proofs.lemmas.List.{drop_more, take_more, take_all, take-append-drop, take_at}
use Rattle.std.proofs.lemmas.List.Elements.{filter-append}
use Rattle.std.proofs.lemmas.List.Sums.{length-filter}
use Rattle.std.proofs.lemmas.Option.{slice_get-get_or, slice_get_past}
use Rattle.laws.specs.Lists.{without}
use Rattle.wfe_defs.specs.Shown.{keeps}
use Rattle.wfe_defs.specs.declared.shown.Shown.{Shown}
use Rattle.wfe_defs.specs.declared.shown.Shown.TheVariants.{Nothing}
use Rattle.wfe_defs.specs.declared.lifetime.Lifetime.{Lifetime}
use Rattle.wfe_check_map.specs.Seats.{IsDue, keeps_one, next_due}

either_false : (a b : Bool) → a ≡ false → (a || b) ≡ b
either_false a b h = rw h refl

either_true : (a b : Bool) → a ≡ true → (a || b) ≡ true
either_true a b h = rw h refl

-- one value further, which does not keep the life
pub keeps_next : (life : Lifetime) (values : List Shown) (i : ℕ) → i < length values → keeps life (get_or values i Nothing) ≡ false
    → keeps_one life (drop i values) ≡ keeps_one life (drop (i + 1) values)
keeps_next life values i h e = ap (keeps_one life) (drop_more values i Nothing h) ∙ either_false _ _ e

pub keeps_here : (life : Lifetime) (values : List Shown) (i : ℕ) → i < length values → keeps life (get_or values i Nothing) ≡ true → keeps_one life (drop i values) ≡ true
keeps_here life values i h e = ap (keeps_one life) (drop_more values i Nothing h) ∙ either_true _ _ e

due_append_if : (kept : Bool) (values : List Shown) (x : Lifetime) (xs ys : List Lifetime) → (if kept then next_due values xs else Some x) ≡ None
    → (next_due values xs ≡ None → next_due values (xs ++ ys) ≡ next_due values ys) → (if kept then next_due values (xs ++ ys) else Some x) ≡ next_due values ys
due_append_if true values x xs ys h rest = rest h
due_append_if false values x xs ys h rest = absurd (cc)

-- lives that are kept stand before others
pub due_append : (values : List Shown) (xs ys : List Lifetime) → next_due values xs ≡ None → next_due values (xs ++ ys) ≡ next_due values ys
due_append values [] ys h = refl
due_append values (x ∷ xs) ys h = due_append_if (keeps_one x values) values x xs ys h (due_append values xs ys)

due_filtered_if : (kept stays : Bool) (p : Lifetime → Bool) (values : List Shown) (x : Lifetime) (xs : List Lifetime) → keeps_one x values ≡ kept
    → (if kept then next_due values xs else Some x) ≡ None
    → (next_due values xs ≡ None → next_due values (filter p xs) ≡ None) → next_due values (if stays then x ∷ filter p xs else filter p xs) ≡ None
due_filtered_if true true p values x xs e h rest = rw e (rest h)
due_filtered_if true false p values x xs e h rest = rest h
due_filtered_if false stays p values x xs e h rest = absurd (cc)

pub due_filtered : (p : Lifetime → Bool) (values : List Shown) (xs : List Lifetime) → next_due values xs ≡ None → next_due values (filter p xs) ≡ None
due_filtered p values [] h = refl
due_filtered p values (x ∷ xs) h = due_filtered_if (keeps_one x values) (p x) p values x xs refl h (due_filtered p values xs)

filter_slot_if : (same : Bool) (slot : ℕ) (x : Lifetime) (xs : List Lifetime) → filter (λ (life : Lifetime). not (life.slot == slot)) xs ≡ without slot xs
    → (if not same then x ∷ filter (λ (life : Lifetime). not (life.slot == slot)) xs else filter (λ (life : Lifetime). not (life.slot == slot)) xs) ≡ (if same then without slot xs else x ∷ without slot xs)
filter_slot_if true slot x xs e = e
filter_slot_if false slot x xs e = ap (λ (ys : List Lifetime). x ∷ ys) e

pub filter_slot : (slot : ℕ) (xs : List Lifetime) → filter (λ (life : Lifetime). not (life.slot == slot)) xs ≡ without slot xs
filter_slot slot [] = refl
filter_slot slot (x ∷ xs) = filter_slot_if (x.slot == slot) slot x xs (filter_slot slot xs)

-- the first lives that stay
filter_split : (p : Lifetime → Bool) (place : ℕ) (xs : List Lifetime) → take (count_by p (take place xs)) (filter p xs) ≡ filter p (take place xs)
filter_split p place xs =
    ap (λ (ys : List Lifetime). take (count_by p (take place xs)) (filter p ys)) (sym (take-append-drop place xs))
    ∙ ap (take (count_by p (take place xs))) (filter-append p (take place xs) (drop place xs))
    ∙ take_at (filter p (take place xs)) (filter p (drop place xs)) (count_by p (take place xs)) (length-filter p (take place xs))

pub stays_kept : (p : Lifetime → Bool) (values : List Shown) (place : ℕ) (xs : List Lifetime) → next_due values (take place xs) ≡ None
    → next_due values (take (count_by p (take place xs)) (filter p xs)) ≡ None
stays_kept p values place xs h = rw (filter_split p place xs) (due_filtered p values (take place xs) h)

due_kept : (values : List Shown) (x : Lifetime) → keeps_one x values ≡ true → next_due values (x ∷ []) ≡ None
due_kept values x e = rw e refl

-- a life further, which is kept
pub due_next : (values : List Shown) (xs : List Lifetime) (place : ℕ) (d : Lifetime) → place < length xs → keeps_one (get_or xs place d) values ≡ true
    → next_due values (take place xs) ≡ None → next_due values (take (place + 1) xs) ≡ None
due_next values xs place d h e none = ap (next_due values) (take_more xs place d h) ∙ due_append values (take place xs) (get_or xs place d ∷ []) none ∙ due_kept values (get_or xs place d) e

due_not : (values : List Shown) (x : Lifetime) (xs : List Lifetime) → keeps_one x values ≡ false → next_due values (x ∷ xs) ≡ Some x
due_not values x xs e = rw e refl

-- a life that is not kept, after those that are
pub due_here : (values : List Shown) (xs : List Lifetime) (place : ℕ) (d : Lifetime) → place < length xs → keeps_one (get_or xs place d) values ≡ false
    → next_due values (take place xs) ≡ None → IsDue values xs place
due_here values xs place d h e none =
    record {
      kept = none;
      here = ap (next_due values) (sym (take-append-drop place xs)) ∙ due_append values (take place xs) (drop place xs) none ∙ ap (next_due values) (drop_more xs place d h)
          ∙ due_not values (get_or xs place d) (drop (place + 1) xs) e ∙ sym (slice_get-get_or xs place d h);
    }

-- all are kept
pub due_end : (values : List Shown) (xs : List Lifetime) (place : ℕ) → length xs ≤ place → next_due values (take place xs) ≡ None → IsDue values xs place
due_end values xs place h none = record { kept = none; here = ap (next_due values) (sym (take_all place xs h)) ∙ none ∙ sym (slice_get_past xs place h) }
