use Rattle.std.proofs.Common.{ℕ, Option, ap, ◌∙◌}
use Rattle.std.specs.Option.{unwrap_or}
use Rattle.wfe_watch.proofs.ChangesLemmas.{early_count-lookup}
use Rattle.wfe_watch.proofs.keys.early_removals.Goals as goal

pub returns : goal.returns
returns c =
    c.unwrap_or.ensures
    ∙ ap (λ (found : Option ℕ). unwrap_or found 0) (c.copied.ensures ∙ c.get.ensures.value)
    ∙ early_count-lookup c.args.key c.args.early.now.entries
