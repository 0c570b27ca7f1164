-- The share that is read has the object's number, of which the rule's fact holds.
use Rattle.std.proofs.Common.{rules, IsSomeAnd, Some, ap, subst, sym, ◌∙◌, ◌≡◌}
use Rattle.std.proofs.Math.Logic.{∥∥₁_elim}
use Rattle.std.specs.Arc.{arc_value}
use Rattle.std.specs.Coded.{Coded-set, coded_ℕ}
use Rattle.wfe_shared_cells.proofs.object.Object.value.Goals as goal

pub returns-clause-kept : goal.returns-clause-kept
returns-clause-kept g c =
    let share = c.in-Some.share in
    let object = c.args.self.now in
    let found : c.get.result.now ≡ Some share = search rules in
    let held : object.claim.value ≡ Some (Some share) = sym c.get.ensures.0 ∙ ap (λ x. Some x) found in
    let same : share.number ≡ object.number =
    ∥∥₁_elim object.filled (Coded-set coded_ℕ _ _) (λ h. subst (λ v. IsSomeAnd v (λ place. IsSomeAnd place (λ s. s.number ≡ object.number))) held h) in
    subst (λ x. ∥ g.K.Keeps.holds object.number x ∥₁) (sym c.deref.ensures) (subst (λ n. ∥ g.K.Keeps.holds n (arc_value share.object) ∥₁) same share.kept)
