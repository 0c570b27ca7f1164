-- The list of a seat by its own entries alone, where each list that it takes over is what that seat's list was then: while no other seat has
-- taken it over, this is the seat's list.
use Rattle.std.proofs.Common.{ℕ, ◌≡◌, Bool, true, false, List, [], ◌∷◌, ◌++◌, length, refl, sym, ap, ◌∙◌}
use Rattle.std.specs.Prelude.{◌==◌, ◌&&◌, ◌||◌, if◌then◌else◌, not}
use Rattle.law_all.proofs.inv.model.Facts.{false_of_not, first_of, number_is, or_more, rest_of, same_number}
use Rattle.law_all.proofs.inv.model.Lists.{or_left, or_right}
use Rattle.law_all.specs.inv.model.defs.Entry.{Entry}
use Rattle.law_all.specs.inv.model.defs.declared.event.Event.{Event}
use Rattle.law_all.specs.inv.model.defs.declared.event.Event.TheVariants as events
use Rattle.law_all.specs.inv.model.defs.declared.lifetime.Lifetime.{Lifetime}
use Rattle.law_all.proofs.inv.history.Entries.{each_before}
use Rattle.law_all.specs.inv.history.Record.{Each, Past, tells}
use Rattle.law_all.specs.inv.history.Record.Past.{Start, Then}
use Rattle.law_all.specs.laws.Once.{is_adopt, lists_ok}
use Rattle.law_all.specs.laws.Lists.{adopts, gained_by, handed_by, has_left, is_adopted, list_by, list_of}
use Rattle.law_all.specs.laws.StateAt.{began_of}

-- the list that was taken over from a seat: what it was where that was told last
abbrev pub handed_of : (place : ℕ) → Past → List Lifetime
handed_of place Start = []
handed_of place (Then p i event) = if adopts place event then list_of place p else handed_of place p

-- the list of a seat where the lists that it takes over are these
abbrev pub own_of : (left : ℕ → List Lifetime) → (seat : ℕ) → Past → List Lifetime
own_of left k Start = []
own_of left k (Then p i event) = if k == i then gained_by event left (own_of left k p) else own_of left k p

-- each list that is taken over is that one
abbrev pub IsTaken : (left : ℕ → List Lifetime) → Past → Event → Type 0
IsTaken left p (events.Adopted place count) = list_of place p ≡ left place
IsTaken left p event = Unit {0}

abbrev pub AllTaken : (left : ℕ → List Lifetime) → Past → Type 0
AllTaken left Start = Unit {0}
AllTaken left (Then p i event) = IsTaken left p event × AllTaken left p

-- a list is taken over once at most
pub first_taken : (p : Past) (i place count : ℕ) → lists_ok p i (events.Adopted place count) ≡ true → is_adopted place p ≡ false
first_taken p i place count h =
    let a : Bool = is_adopt place (began_of i p) in
    let n : Bool = count == length (list_of place p) in
    false_of_not (is_adopted place p)
    (first_of (not (is_adopted place p)) n
    (rest_of (has_left place p) (not (is_adopted place p) && n) (rest_of a (has_left place p && (not (is_adopted place p) && n)) h)))

pub left_first : (p : Past) (i place count : ℕ) → lists_ok p i (events.Adopted place count) ≡ true → has_left place p ≡ true
left_first p i place count h =
    let a : Bool = is_adopt place (began_of i p) in
    let n : Bool = count == length (list_of place p) in
    first_of (has_left place p) (not (is_adopted place p) && n) (rest_of a (has_left place p && (not (is_adopted place p) && n)) h)

never_again : (place i : ℕ) (p : Past) (event : Event) → lists_ok p i event ≡ true → is_adopted place p ≡ true → adopts place event ≡ false
never_again place i p (events.Adopted other count) l h = by (place == other) refl
  where
    by : (same : Bool) → (place == other) ≡ same → same ≡ false
    by true e =
        let none : is_adopted other p ≡ false = first_taken p i other count l in
        let some : is_adopted other p ≡ true = ap (λ (x : ℕ). is_adopted x p) (sym (number_is place other e)) ∙ h in
        sym some ∙ none
    by false e = refl
never_again place i p event l h = refl

handed_stays : (place : ℕ) (xs : List Entry) (p : Past) → is_adopted place p ≡ true → Each lists_ok (tells p xs) → handed_of place (tells p xs) ≡ handed_of place p
handed_stays place [] p h l = refl
handed_stays place (x ∷ xs) p h l =
    let q : Past = Then p x.seat x.event in
    let n : adopts place x.event ≡ false = never_again place x.seat p x.event (each_before lists_ok q xs l).0 h in
    handed_stays place xs q (or_more (adopts place x.event) (is_adopted place p) h) l
    ∙ ap (λ (b : Bool). if b then list_of place p else handed_of place p) n

taken_one : (p : Past) (i : ℕ) (event : Event) (xs : List Entry) → Each lists_ok (tells (Then p i event) xs)
    → IsTaken (λ place. handed_of place (tells (Then p i event) xs)) p event
taken_one p i (events.Adopted place count) xs l =
    let q : Past = Then p i (events.Adopted place count) in
    let there : is_adopted place q ≡ true = ap (λ (b : Bool). b || is_adopted place p) (same_number place) in
    sym (handed_stays place xs q there l ∙ ap (λ (b : Bool). if b then list_of place p else handed_of place p) (same_number place))
taken_one p i event xs l = tt

pub all_taken : (p : Past) (xs : List Entry) → Each lists_ok (tells p xs) → AllTaken (λ place. handed_of place (tells p xs)) p
all_taken Start xs l = tt
all_taken (Then p i event) xs l = (taken_one p i event xs l, all_taken p (record { seat = i; event = event } ∷ xs) l)

-- while no other seat has taken the list over
gained_same : (left : ℕ → List Lifetime) (event : Event) (p : Past) (x y : List Lifetime) → IsTaken left p event → x ≡ y
    → gained_by event (λ (place : ℕ). list_of place p) x ≡ gained_by event left y
gained_same left (events.Adopted place count) p x y t e = ap (λ (xs : List Lifetime). xs ++ list_of place p) e ∙ ap (λ (xs : List Lifetime). y ++ xs) t
gained_same left event p x y t e = ap (list_by event) e

other_same : (k : ℕ) (event : Event) (list : List Lifetime) → adopts k event ≡ false → handed_by k event list ≡ list
other_same k (events.Adopted place count) list h = ap (λ (b : Bool). if b then [] else list) h
other_same k event list h = refl

pub own_is : (left : ℕ → List Lifetime) (k : ℕ) (p : Past) → AllTaken left p → is_adopted k p ≡ false → list_of k p ≡ own_of left k p
own_is left k Start t a = refl
own_is left k (Then p i event) t a = by (k == i) (own_is left k p t.1 (or_right (adopts k event) (is_adopted k p) a))
  where
    by : (same : Bool) → list_of k p ≡ own_of left k p → (if same then gained_by event (λ (place : ℕ). list_of place p) (list_of k p) else handed_by k event (list_of k p))
        ≡ (if same then gained_by event left (own_of left k p) else own_of left k p)
    by true before = gained_same left event p (list_of k p) (own_of left k p) t.0 before
    by false before = other_same k event (list_of k p) (or_left (adopts k event) (is_adopted k p) a) ∙ before

-- a list that was taken over had been left
pub adopted_left : (k : ℕ) (p : Past) → Each lists_ok p → is_adopted k p ≡ true → has_left k p ≡ true
adopted_left k Start l a = a
adopted_left k (Then p i event) l a = by event (adopts k event) refl l.0 a (λ b. adopted_left k p l.1 b)
  where
    by : (told : Event) (here : Bool) → adopts k told ≡ here → lists_ok p i told ≡ true → (here || is_adopted k p) ≡ true
        → (is_adopted k p ≡ true → has_left k p ≡ true) → has_left k (Then p i event) ≡ true
    by (events.Adopted place count) true e h b f =
        or_more _ (has_left k p) (ap (λ (x : ℕ). has_left x p) (number_is k place e) ∙ left_first p i place count h)
    by told true e h b f = absurd (cc)
    by told false e h b f = or_more _ (has_left k p) (f b)
