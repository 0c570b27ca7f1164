use Rattle.std.proofs.Common.{rules, ap₂, codes, ◌≡◌, ◌∙◌}
use Rattle.std.proofs.lemmas.Result.{IfOk-weaker}
use Rattle.clap.specs.Words.{app_of, new_app, rule_of, with_rule}
use Rattle.wfe_job.specs.Words.{needed}
use Rattle.wfe_job.proofs.job.gen_command.Goals as goal

pub returns-clause-app : goal.returns-clause-app
returns-clause-app c =
    let seed : rule_of c.required-seed.result ≡ needed (codes "SEED") = search rules in
    let turns : rule_of c.required-turns.result ≡ needed (codes "N") = search rules in
    let one : app_of c.in_ok-arg.field-0 ≡ with_rule (new_app (codes "gen")) (needed (codes "SEED")) =
    c.in_ok-arg.ensures.shape (search rules) ∙ ap₂ with_rule c.new-3.ensures.app seed in
    IfOk-weaker c.arg-2.result _ _ (λ command h. h.shape (search rules) ∙ ap₂ with_rule one turns) c.arg-2.ensures
