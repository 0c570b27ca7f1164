-- Places of a grid: which are in it, and that each is one place of its cells.
use Rattle.std.proofs.Common.{◌≡◌, ◌<◌, ℕ, true, false, ◌&&◌, ◌==◌, ◌+◌, ◌*◌, ◌/◌, ◌%◌, List, if◌then◌else◌, get_or, length, slice_set, mul_comm, refl, ap, subst, sym, ◌∙◌, arith}
use Rattle.std.proofs.lemmas.Bool.Decides.{nat_tests}
use Rattle.std.proofs.lemmas.List.{get_or-set_other}
use Rattle.std.proofs.lemmas.Grind.{get_or-set_at}
use Rattle.std.proofs.lemmas.Nat.{div-mul-add, mod-mul-add, mul-add-lt}
use Rattle.wfe_check_held.specs.Grids.{IsGrid}
use Rattle.wfe_check_held.specs.declared.grid.Grid.{Grid}

-- two places that have one number are one
one_line : (l q line place w : ℕ) → q < w → place < w → l * w + q ≡ line * w + place → l ≡ line
one_line l q line place w h k e = sym (div-mul-add l w q h) ∙ ap (λ n. n / w) e ∙ div-mul-add line w place k

one_place : (l q line place w : ℕ) → q < w → place < w → l * w + q ≡ line * w + place → q ≡ place
one_place l q line place w h k e = sym (mod-mul-add l w q h) ∙ ap (λ n. n % w) e ∙ mod-mul-add line w place k

-- a number is set at one place
pub cell-set : (xs : List ℕ) (w l q line place v : ℕ) → q < w → place < w → line * w + place < length xs →
    get_or (slice_set xs (line * w + place) v) (l * w + q) 0 ≡ (if l == line && q == place then v else get_or xs (l * w + q) 0)
cell-set xs w l q line place v h k within =
    elim (l == line && q == place) as (λ b. (l == line && q == place) ≡ b → get_or (slice_set xs (line * w + place) v) (l * w + q) 0 ≡ (if b then v else get_or xs (l * w + q) 0)) [
      | true ↦ λ t.
          let a : l ≡ line = grind (arith, nat_tests) in
          let b : q ≡ place = grind (arith, nat_tests) in
          get_or-set_at xs (line * w + place) (l * w + q) v 0 (ap (λ n. n * w + q) a ∙ ap (λ n. line * w + n) b) within
      | false ↦ λ t.
          get_or-set_other xs (line * w + place) (l * w + q) v 0
          (λ e. apart (one_line l q line place w h k e) (one_place l q line place w h k e) t)
    ] refl
  where
    apart : l ≡ line → q ≡ place → (l == line && q == place) ≡ false → ⊥
    apart a b t = grind (arith, nat_tests)

-- a place of a line is in the grid
pub inside : (high wide : ℕ) (grid : Grid) (line place : ℕ) → IsGrid high wide grid → line < high → place < wide →
    line * grid.width + place < length grid.cells.items
inside high wide grid line place is l p =
    rw (is.width, is.count) (subst (λ n. line * wide + place < n) (mul_comm wide high) (mul-add-lt line wide place high l p))
