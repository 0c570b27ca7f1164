use Rattle.std.proofs.Common.{◌≡◌, [], ◌∷◌, ◌++◌, List, ℕ, nat_eq, arith, length, ap, ◌+◌}
use Rattle.std.proofs.lemmas.Grind.{common_steps}
use Rattle.std.specs.Map.{lookup}
use Rattle.std.specs.Option.{unwrap_or}
use Rattle.wfe_check_map.specs.Steps.{SkipsTo, EndsAt}
use Rattle.wfe_check_map.proofs.StepsLemmas.{links_pushed, ends_pushed, skips_within}
use Rattle.wfe_check_map.proofs.bucket.Bucket.push.Goals as goal

pub invariant_of-self-in-Ok : goal.invariant_of-self-in-Ok
invariant_of-self-in-Ok c =
    let old = c.self.inside.steps.items in
    let step = c.linked-step.result in
    let items : c.push.new.self.items ≡ old ++ step ∷ [] = grind (arith, common_steps) in
    let last : EndsAt step.mark.key step.before old =
    rw (c.linked-step.ensures.mark, c.linked-step.ensures.before, c.last_number-before.ensures) (c.self.invariant.lasts c.args.mark.key) in
    let skip : SkipsTo step.mark.key step.skip (length old) old =
    rw (c.linked-step.ensures.mark) (skips_within c.args.mark.key step.skip c.last_number-before.result old (rw c.last_number-before.ensures (c.self.invariant.lasts c.args.mark.key)) (rw c.deref.ensures.value at c.linked-step.ensures.skip)) in
    let value : c.len.result ≡ length old + 1 = grind (arith, common_steps) in
    record {
      links = rw items (links_pushed old step c.self.invariant.links last skip);
      lasts = rw items (ends_pushed c.self.inside.lasts c.insert.new.self old step c.len.result c.self.invariant.lasts value (rw c.linked-step.ensures.mark c.in-Ok.ensures.updates.0));
    }

pub invariant_of-self-in-Err : goal.invariant_of-self-in-Err
invariant_of-self-in-Err c =
    let items : c.pop.new.self.items ≡ c.self.inside.steps.items = grind (arith, common_steps) in
    let kept = c.in-Err.ensures.err in
    record {
      links = rw items c.self.invariant.links;
      lasts = rw items (λ key. rw (ap (λ (es : List (ℕ × ℕ)). unwrap_or (lookup (nat_eq key) es) 0) kept) (c.self.invariant.lasts key));
    }
