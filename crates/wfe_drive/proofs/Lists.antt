-- Where lists are about a step of a seat of a World in which the invariant holds.
use Rattle.std.proofs.Common.{Bool, [], ap, arith, false, refl, sym, true, ℕ, ◌∙◌, ◌≡◌}
use Rattle.std.proofs.lemmas.Bool.Decides.{nat_tests}
use Rattle.std.specs.Prelude.{if◌then◌else◌, ◌==◌}
use Rattle.wfe_core.specs.words.Place.Place.{PlaceOf}
use Rattle.wfe_core.specs.Calls.{Keeping, Phase, TakeList, Works}
use Rattle.wfe_core.specs.World.{World, finds, is_busy, list_in}
use Rattle.wfe_drive_cells.specs.Unit.{ListsStay, takes_from}
use Rattle.law_reuse.specs.inv.Inv.{Inv}
use Rattle.law_reuse.specs.inv.Places.{PlaceMoves, PlaceShows, takes_over}
use Rattle.law_reuse.specs.inv.ends.Lists.{Adopting}
use Rattle.law_reuse.specs.inv.ends.Told.{move_of}
use Rattle.law_reuse.specs.inv.rows.Rows.{RowMove}
use Rattle.law_reuse.specs.inv.rows.Rows.RowMove.{Adopts}
use Rattle.law_reuse.proofs.inv.Inv.Places.{inv_place_moves, inv_places}
use Rattle.law_reuse.proofs.inv.ends.Ends.Lists.{adopts_alone, adopts_told}
use Rattle.law_reuse.proofs.shapes.Frame.{finds_at}

-- a step takes over the list that its phase says
over_none : (m : RowMove) (k : ℕ) → ((place : ℕ) → m ≡ Adopts place → ⊥) → takes_over m k ≡ false
over_none (Adopts from) k h = absurd (h from refl)
over_none m k h = refl

taken_found : (w : World) (i place : ℕ) → (w.seat i).phase ≡ Works (Keeping (TakeList place)) → finds w i ≡ w.mem (PlaceOf place)
taken_found w i place e = finds_at w i (Works (Keeping (TakeList place))) e

over_taken : (w : World) (i k place : ℕ) (left : Bool) → (w.seat i).phase ≡ Works (Keeping (TakeList place)) → (finds w i == 1) ≡ left → takes_over (move_of w i) k ≡ (if left then k == place else false)
over_taken w i k place true e f =
    let one : w.mem (PlaceOf place) ≡ 1 = sym (taken_found w i place e) ∙ (grind (arith, nat_tests)) in
    ap (λ (m : RowMove). takes_over m k) (adopts_alone w i place e one)
over_taken w i k place false e f =
    over_none (move_of w i) k (λ other m.
    let a : Adopting w i other = adopts_told w i other m in
    let same : other ≡ place = same_place other place (sym a.takes ∙ e) in
    let one : finds w i ≡ 1 = taken_found w i place e ∙ ap (λ (n : ℕ). w.mem (PlaceOf n)) (sym same) ∙ a.left in
    absurd (grind (arith, nat_tests)))
  where
    same_place : (a b : ℕ) → Works (Keeping (TakeList a)) ≡ Works (Keeping (TakeList b)) → a ≡ b
    same_place a b e = cc

over_phase : (w : World) (i k : ℕ) (phase : Phase) → (w.seat i).phase ≡ phase → takes_over (move_of w i) k ≡ takes_from phase (finds w i) k
over_phase w i k (Works (Keeping (TakeList place))) e = over_taken w i k place (finds w i == 1) e refl
over_phase w i k phase e = over_none (move_of w i) k (λ place m. let a : Adopting w i place = adopts_told w i place m in absurd (other_phase place (sym e ∙ a.takes)))
  where
    other_phase : (place : ℕ) → phase ≡ Works (Keeping (TakeList place)) → ⊥
    other_phase place e = absurd (cc)

-- a list that was left is at its seat
left_list : (w : World) (place : ℕ) → w.mem (PlaceOf place) ≡ 1 → list_in w place ≡ (w.seat place).desk.list
left_list w place h = rw h refl

pub lists_stay : (w : World) (i : ℕ) → is_busy w i ≡ true → Inv w → ListsStay w i
lists_stay w i b a =
    let p : PlaceShows w i = inv_places w i a in
    let moves : (k : ℕ) → PlaceMoves w i k = λ k. inv_place_moves w i k b a in
    let here : w.mem (PlaceOf i) ≡ 0 = p.here b in
    record {
      own = p.own b;
      place = p.takes;
      left = λ place e f. apart place (place == i) refl (sym (taken_found w i place e) ∙ f) here;
      gift = λ place e f. left_list w place (sym (taken_found w i place e) ∙ f);
      keeps = (moves i).own;
      others = λ k e. (moves k).other e ∙ ap (λ (b : Bool). if b then [] else list_in w k) (over_phase w i k (w.seat i).phase refl);
    }
  where
    apart : (place : ℕ) (same : Bool) → (place == i) ≡ same → w.mem (PlaceOf place) ≡ 1 → w.mem (PlaceOf i) ≡ 0 → (place == i) ≡ false
    apart place true e one zero = let is : place ≡ i = grind (arith, nat_tests) in absurd (no_word (w.mem (PlaceOf i)) zero (ap (λ (n : ℕ). w.mem (PlaceOf n)) (sym is) ∙ one))
      where
        no_word : (word : ℕ) → word ≡ 0 → word ≡ 1 → ⊥
        no_word word e f = omega (arith, e, f)
    apart place false e one zero = e
