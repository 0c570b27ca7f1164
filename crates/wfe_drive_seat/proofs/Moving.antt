-- One life after the other goes from the list of one seat to the end of another's.
use Rattle.std.proofs.Common.{Bool, List, [], ap, ap₂, arith, false, get_or, get_or-set_other, get_or-set_same, length, length-set, refl, slice_set, subst, suc, sym, take, true, zero, ℕ, ◌++◌, ◌+◌, ◌<◌, ◌∙◌, ◌∷◌, ◌≡◌, ◌≢◌, ◌≤◌}
use Rattle.std.proofs.lemmas.Bool.Decides.{nat_tests}
use Rattle.std.proofs.lemmas.List.{append_assoc, ext_get_or}
use Rattle.std.specs.Prelude.{Some, slice_get, ◌==◌}
use Rattle.wfe_core.specs.words.declared.layout.Layout.{Layout}
use Rattle.wfe_core.specs.defs.declared.lifetime.Lifetime.{Lifetime}
use Rattle.wfe_core.specs.Desks.{no_notes, with_life}
use Rattle.wfe_drive_cells.specs.Unit.{SeatView, fresh_seat}
use Rattle.wfe_drive_seat.specs.Leaving.{MayMove, gaining_seat, given_seat, joined_views, moved_views, seat_in, taking_seat}

-- lists with one entry changed again
again_one : {X : Type 0} (xs : List X) (i k : ℕ) (x y d : X) (one : Bool) → (k == i) ≡ one → i < length xs → get_or (slice_set (slice_set xs i x) i y) k d ≡ get_or (slice_set xs i y) k d
again_one xs i k x y d true e h =
    let is : k ≡ i = grind (arith, nat_tests) in
    let h2 : i < length (slice_set xs i x) = subst (λ (n : ℕ). i < n) (sym (length-set xs i x)) h in
    ap (λ (n : ℕ). get_or (slice_set (slice_set xs i x) i y) n d) is ∙ get_or-set_same (slice_set xs i x) i y d h2 ∙ sym (get_or-set_same xs i y d h) ∙ ap (λ (n : ℕ). get_or (slice_set xs i y) n d) (sym is)
again_one xs i k x y d false e h =
    let apart : k ≢ i = grind (arith, nat_tests) in
    get_or-set_other (slice_set xs i x) i k y d apart ∙ get_or-set_other xs i k x d apart ∙ sym (get_or-set_other xs i k y d apart)

set_again : {X : Type 0} (xs : List X) (i : ℕ) (x y : X) → i < length xs → slice_set (slice_set xs i x) i y ≡ slice_set xs i y
set_again xs i x y h = ext_get_or y (slice_set (slice_set xs i x) i y) (slice_set xs i y) (length-set (slice_set xs i x) i y ∙ length-set xs i x ∙ sym (length-set xs i y)) (λ k l. again_one xs i k x y y (k == i) refl h)

-- one life more, and all
more : (list : List Lifetime) (place : ℕ) (life : Lifetime) → slice_get list place ≡ Some life → take (place + 1) list ≡ take place list ++ life ∷ []
more [] place life e = absurd (cc)
more (x ∷ list) zero life e = let is : x ≡ life = cc in ap (λ (y : Lifetime). y ∷ []) is
more (x ∷ list) (suc place) life e = let n : suc place + 1 ≡ suc (place + 1) = omega arith in ap (λ (n : ℕ). take n (x ∷ list)) n ∙ ap (λ (l : List Lifetime). x ∷ l) (more list place life e)

all : (list : List Lifetime) (count : ℕ) → length list ≤ count → take count list ≡ list
all [] zero h = refl
all [] (suc count) h = refl
all (x ∷ list) zero h = absurd (omega (h, arith))
all (x ∷ list) (suc count) h = ap (λ (l : List Lifetime). x ∷ l) (all list count (omega (h, arith)))

-- the seat at a place, by any default
any_default : {X : Type 0} (xs : List X) (i : ℕ) (x y : X) → i < length xs → get_or xs i x ≡ get_or xs i y
any_default [] i x y h = absurd (omega (h, arith))
any_default (z ∷ xs) zero x y h = refl
any_default (z ∷ xs) (suc i) x y h = any_default xs i x y (omega (h, arith))

pub at_place : (layout : Layout) (views : List SeatView) (k : ℕ) (v : SeatView) → k < length views → v ≡ get_or views k v → v ≡ seat_in layout views k
at_place layout views k v h e = e ∙ any_default views k v (fresh_seat layout k) h

-- while lives are moved
pub moved_length : (layout : Layout) (views : List SeatView) (from to count : ℕ) → length (moved_views layout views from to count) ≡ length views
moved_length layout views from to count = length-set views to (taking_seat (take count (seat_in layout views from).desk.list) (seat_in layout views to))

pub moved_from : (layout : Layout) (views : List SeatView) (from to count : ℕ) → (from == to) ≡ false → seat_in layout (moved_views layout views from to count) from ≡ seat_in layout views from
moved_from layout views from to count e = let apart : from ≢ to = grind (arith, nat_tests) in get_or-set_other views to from (taking_seat (take count (seat_in layout views from).desk.list) (seat_in layout views to)) (fresh_seat layout from) apart

pub moved_to : (layout : Layout) (views : List SeatView) (from to count : ℕ) → to < length views → seat_in layout (moved_views layout views from to count) to ≡ taking_seat (take count (seat_in layout views from).desk.list) (seat_in layout views to)
moved_to layout views from to count h = get_or-set_same views to (taking_seat (take count (seat_in layout views from).desk.list) (seat_in layout views to)) (fresh_seat layout to) h

-- none yet, one more, and all
taken_none : (list : List Lifetime) → list ++ [] ≡ list
taken_none [] = refl
taken_none (x ∷ list) = ap (λ (l : List Lifetime). x ∷ l) (taken_none list)

take_zero : (list : List Lifetime) → take 0 list ≡ []
take_zero [] = refl
take_zero (x ∷ list) = refl

pub moved_none : (layout : Layout) (views : List SeatView) (from to : ℕ) → to < length views → views ≡ moved_views layout views from to 0
moved_none layout views from to h =
    let t : SeatView = seat_in layout views to in
    let is : taking_seat (take 0 (seat_in layout views from).desk.list) t ≡ t = ap (λ (l : List Lifetime). let v : SeatView = record t { desk = record t.desk { list = l } } in v) (ap (λ (l : List Lifetime). t.desk.list ++ l) (take_zero (seat_in layout views from).desk.list) ∙ taken_none t.desk.list) in
    sym (ap (slice_set views to) is ∙ same_entry views to (fresh_seat layout to))
  where
    same_entry : {X : Type 0} (xs : List X) (i : ℕ) (d : X) → slice_set xs i (get_or xs i d) ≡ xs
    same_entry [] i d = refl
    same_entry (x ∷ xs) zero d = refl
    same_entry (x ∷ xs) (suc i) d = ap (λ (l : List _). x ∷ l) (same_entry xs i d)

pub moved_more : (layout : Layout) (views : List SeatView) (from to place : ℕ) (taker : SeatView) (life : Lifetime) → to < length views → taker ≡ seat_in layout (moved_views layout views from to place) to
    → slice_get (seat_in layout views from).desk.list place ≡ Some life → slice_set (moved_views layout views from to place) to (record taker { desk = with_life taker.desk life }) ≡ moved_views layout views from to (place + 1)
moved_more layout views from to place taker life h e g =
    let list : List Lifetime = (seat_in layout views from).desk.list in
    let t : SeatView = seat_in layout views to in
    let is : taker ≡ taking_seat (take place list) t = e ∙ moved_to layout views from to place h in
    set_again views to (taking_seat (take place list) t) (record taker { desk = with_life taker.desk life }) h
    ∙ ap (slice_set views to)
    (ap (λ (v : SeatView). let w : SeatView = record v { desk = with_life v.desk life } in w) is
    ∙ ap (λ (l : List Lifetime). let v : SeatView = record t { desk = record t.desk { list = l } } in v) (append_assoc t.desk.list (take place list) (life ∷ []) ∙ ap (λ (l : List Lifetime). t.desk.list ++ l) (sym (more list place life g))))

pub moved_all : (layout : Layout) (views cleared : List SeatView) (from to count : ℕ) (taker giver : SeatView) → from < length views → to < length views → (from == to) ≡ false → length (seat_in layout views from).desk.list ≤ count
    → taker ≡ seat_in layout (moved_views layout views from to count) to → cleared ≡ slice_set (moved_views layout views from to count) to (record taker { desk = record taker.desk { notes = no_notes } }) → giver ≡ seat_in layout cleared from
    → slice_set cleared from (given_seat giver) ≡ joined_views layout views from to
moved_all layout views cleared from to count taker giver l h apart n e c g =
    let list : List Lifetime = (seat_in layout views from).desk.list in
    let t : SeatView = seat_in layout views to in
    let full : SeatView = record taker { desk = record taker.desk { notes = no_notes } } in
    let is : taker ≡ taking_seat list t = e ∙ moved_to layout views from to count h ∙ ap (λ (xs : List Lifetime). taking_seat xs t) (all list count n) in
    let now : cleared ≡ slice_set views to (gaining_seat list t) = c ∙ set_again views to (taking_seat (take count list) t) full h ∙ ap (λ (v : SeatView). slice_set views to (record v { desk = record v.desk { notes = no_notes } })) is in
    let other : from ≢ to = grind (arith, nat_tests) in
    let same : giver ≡ seat_in layout views from = g ∙ ap (λ (xs : List SeatView). seat_in layout xs from) now ∙ get_or-set_other views to from (gaining_seat list t) (fresh_seat layout from) other in
    ap₂ (λ (xs : List SeatView) (v : SeatView). slice_set xs from (given_seat v)) now same

-- a turn of the loop
pub record Moves (layout : Layout) (views items : List SeatView) (from to place : ℕ) (taker : SeatView) (life : Lifetime) : Type 0 where
  pub row : life.slot ≤ taker.post.layout.config.slots
  pub more_is : slice_set items to (record taker { desk = with_life taker.desk life }) ≡ moved_views layout views from to (place + 1)

pub moves : (layout : Layout) (views items : List SeatView) (from to place : ℕ) (giver taker : SeatView) (life : Lifetime) → from < length views → to < length views → (from == to) ≡ false → items ≡ moved_views layout views from to place
    → giver ≡ get_or items from giver → taker ≡ get_or items to taker → slice_get giver.desk.list place ≡ Some life → MayMove layout views from to → Moves layout views items from to place taker life
moves layout views items from to place giver taker life l h apart e g t s fits =
    let moved : List SeatView = moved_views layout views from to place in
    let n : length moved ≡ length views = moved_length layout views from to place in
    let taker_is : taker ≡ seat_in layout moved to = at_place layout moved to taker (subst (λ (k : ℕ). to < k) (sym n) h) (t ∙ ap (λ (xs : List SeatView). get_or xs to taker) e) in
    let giver_is : giver ≡ seat_in layout views from = at_place layout moved from giver (subst (λ (k : ℕ). from < k) (sym n) l) (g ∙ ap (λ (xs : List SeatView). get_or xs from giver) e) ∙ moved_from layout views from to place apart in
    let life_is : slice_get (seat_in layout views from).desk.list place ≡ Some life = subst (λ (v : SeatView). slice_get v.desk.list place ≡ Some life) giver_is s in
    let may = fits place life life_is in
    let slots : (seat_in layout views to).post.layout.config.slots ≡ taker.post.layout.config.slots = sym (ap (λ (v : SeatView). v.post.layout.config.slots) (taker_is ∙ moved_to layout views from to place h)) in
    record {
      row = subst (λ (k : ℕ). life.slot ≤ k) slots may.0;
      more_is = ap (λ (xs : List SeatView). slice_set xs to (record taker { desk = with_life taker.desk life })) e ∙ moved_more layout views from to place taker life h taker_is life_is;
    }

-- and what follows it
pub moved_end : (layout : Layout) (views items : List SeatView) (from to place count : ℕ) (first taker giver : SeatView) → from < length views → to < length views → (from == to) ≡ false → items ≡ moved_views layout views from to place
    → first ≡ get_or views from first → count ≡ length first.desk.list → count ≤ place → taker ≡ get_or items to taker
    → giver ≡ get_or (slice_set items to (record taker { desk = record taker.desk { notes = no_notes } })) from giver
    → slice_set (slice_set items to (record taker { desk = record taker.desk { notes = no_notes } })) from (given_seat giver) ≡ joined_views layout views from to
moved_end layout views items from to place count first taker giver l h apart e f c past t g =
    let moved : List SeatView = moved_views layout views from to place in
    let n : length moved ≡ length views = moved_length layout views from to place in
    let full : SeatView = record taker { desk = record taker.desk { notes = no_notes } } in
    let cleared : List SeatView = slice_set items to full in
    let first_is : first ≡ seat_in layout views from = at_place layout views from first l f in
    let long : length (seat_in layout views from).desk.list ≤ place = subst (λ (v : SeatView). length v.desk.list ≤ place) first_is (subst (λ (k : ℕ). k ≤ place) c past) in
    let taker_is : taker ≡ seat_in layout moved to = at_place layout moved to taker (subst (λ (k : ℕ). to < k) (sym n) h) (t ∙ ap (λ (xs : List SeatView). get_or xs to taker) e) in
    let same : length cleared ≡ length views = length-set items to full ∙ ap length e ∙ n in
    let giver_is : giver ≡ seat_in layout cleared from = at_place layout cleared from giver (subst (λ (k : ℕ). from < k) (sym same) l) g in
    moved_all layout views cleared from to place taker giver l h apart long taker_is (ap (λ (xs : List SeatView). slice_set xs to full) e) giver_is
