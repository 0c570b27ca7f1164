use Rattle.std.proofs.Common.{◌∙◌}
use Rattle.wfe_server_out.proofs.Hearing.{hears_some_none}
use Rattle.wfe_server_out.proofs.Texts.{on_err}
use Rattle.wfe_server_gen.proofs.History.{generated_counted, generated_heard, generated_some, generated_taken}
use Rattle.wfe_server_gen.proofs.generator.summarize.Goals as goal

pub returns-in_err-table-clause-taken : goal.returns-in_err-table-clause-taken
returns-in_err-table-clause-taken g c = generated_taken c.args.seed c.args.turns

pub returns-in-Ok-clause-taken : goal.returns-in-Ok-clause-taken
returns-in-Ok-clause-taken g c = generated_taken c.args.seed c.args.turns

pub returns-clause-taken : goal.returns-clause-taken
returns-clause-taken g c = generated_taken c.args.seed c.args.turns

pub returns-in-Ok-clause-counted : goal.returns-in-Ok-clause-counted
returns-in-Ok-clause-counted g c =
    c.summary.ensures
    ∙ generated_counted _ _ _ c.in_ok-table.table.summary c.play.new.self.summary c.args.seed c.args.turns c.in_ok-table.table.played c.in_ok-table.ensures.played c.in_ok-table.ensures.counts c.in-Ok.ensures.ok

pub returns-in-Ok-clause-heard : goal.returns-in-Ok-clause-heard
returns-in-Ok-clause-heard g c = generated_heard _ _ _ _ _ c.args.seed c.args.turns c.in_ok-table.table.played c.in_ok-table.ensures.played c.in-Ok.ensures.ok

pub returns-in_err-table-clause-some : goal.returns-in_err-table-clause-some
returns-in_err-table-clause-some g c = on_err c.from_residual.result (hears_some_none _ c.args.watchers.now _)

pub returns-clause-some : goal.returns-clause-some
returns-clause-some g c = generated_some _ _ _ c.args.seed c.args.turns c.in_ok-table.table.played c.in_ok-table.ensures.played c.in-Err.ensures.err
