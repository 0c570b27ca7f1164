-- Handles that are given their seats from the last one on.
use Rattle.std.proofs.Common.{List, ap, arith, eqb, false, length, refl, slice_index_or, slice_set, subst, sym, true, ℕ, ◌+◌, ◌<◌, ◌∙◌, ◌≡◌, ◌≢◌}
use Rattle.std.proofs.lemmas.Bool.Decides.{nat_tests}
use Rattle.std.proofs.lemmas.List.{get_or-set_other, get_or-set_same, length-set}
use Rattle.std.specs.List.{AllWithin}
use Rattle.wfe_c.specs.declared.handle.SeatHandle.{SeatHandle}

pub seated_more : (P : SeatHandle → Type 0) (seats : List SeatHandle) (place : ℕ) (handle : SeatHandle) → place < length seats → P handle → AllWithin P seats (place + 1) (length seats)
    → AllWithin P (slice_set seats place handle) place (length (slice_set seats place handle))
seated_more P seats place handle within here later k d low high =
    elim (eqb k place) as (λ b. eqb k place ≡ b → P (slice_index_or (slice_set seats place handle) k d)) [
      | true ↦ λ e. let same : k ≡ place = grind (arith, nat_tests) in
          subst P (sym (ap (λ (n : ℕ). slice_index_or (slice_set seats place handle) n d) same ∙ get_or-set_same seats place handle d within)) here
      | false ↦ λ e. let apart : k ≢ place = grind (arith, nat_tests) in let count : length (slice_set seats place handle) ≡ length seats = length-set seats place handle in
          subst P (sym (get_or-set_other seats place k handle d apart)) (later k d (grind arith) (omega (arith, high, count)))
    ] refl
