-- A box whose value was written back as it was.
use Rattle.std.proofs.Common.{◌≡◌, ◌∙◌, ap, Result, Ok, Err, OnErr}
use Rattle.std.specs.declared.dyn_box.DynBox.{DynBox}
use Rattle.std.specs.DynBox.{dyn_box_with}

same_box : {X Z : Type 0} {F : X → Type 0} (d : DynBox X Z F) (p : (x : X) × F x) (v : F p.0) → p ≡ (d.vtable, d.value) → v ≡ p.1 → dyn_box_with d p.0 v ≡ d
same_box d p v same kept = ap (dyn_box_with d p.0) kept ∙ ap (λ q. dyn_box_with d q.0 q.1) same

pub same_box_on_err : {X Z T E : Type 0} {F : X → Type 0} (d : DynBox X Z F) (p : (x : X) × F x) (v : F p.0) (r : Result T E) → p ≡ (d.vtable, d.value) → OnErr r (v ≡ p.1) → OnErr r (dyn_box_with d p.0 v ≡ d)
same_box_on_err d p v (Ok x) same kept = tt
same_box_on_err d p v (Err e) same kept = same_box d p v same kept
