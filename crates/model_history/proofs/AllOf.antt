-- A test that each event of a list passes.
use Rattle.std.proofs.Common.{◌≡◌, Bool, true, List, [], ◌∷◌, ◌++◌, refl}
use Rattle.std.specs.Prelude.{◌&&◌}
use Rattle.wfe_core.specs.defs.declared.event.Event.{Event}
use Rattle.wfe_core.proofs.Facts.{both, first_of, rest_of}

abbrev pub all_of : (Event → Bool) → List Event → Bool
all_of ok [] = true
all_of ok (event ∷ told) = ok event && all_of ok told

pub of_along : (ok : Event → Bool) (xs ys : List Event) → all_of ok xs ≡ true → all_of ok ys ≡ true → all_of ok (xs ++ ys) ≡ true
of_along ok [] ys h k = k
of_along ok (x ∷ xs) ys h k = both (ok x) (all_of ok (xs ++ ys)) (first_of (ok x) (all_of ok xs) h) (of_along ok xs ys (rest_of (ok x) (all_of ok xs) h) k)

pub of_weaker : (f g : Event → Bool) (told : List Event) → ((event : Event) → f event ≡ true → g event ≡ true) → all_of f told ≡ true → all_of g told ≡ true
of_weaker f g [] w h = refl
of_weaker f g (event ∷ told) w h = both (g event) (all_of g told) (w event (first_of (f event) (all_of f told) h)) (of_weaker f g told w (rest_of (f event) (all_of f told) h))

-- two tests at once
pub of_both : (f g h : Event → Bool) (told : List Event) → ((event : Event) → f event ≡ true → g event ≡ true → h event ≡ true) → all_of f told ≡ true → all_of g told ≡ true → all_of h told ≡ true
of_both f g h [] w a b = refl
of_both f g h (event ∷ told) w a b =
    both (h event) (all_of h told) (w event (first_of (f event) (all_of f told) a) (first_of (g event) (all_of g told) b)) (of_both f g h told w (rest_of (f event) (all_of f told) a) (rest_of (g event) (all_of g told) b))
