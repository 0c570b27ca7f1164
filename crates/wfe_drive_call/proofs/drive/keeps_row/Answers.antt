-- Where its interval would end now a seat keeps no row, and no other scheme has an interval.
use Rattle.std.proofs.Common.{ap, refl, sym, ◌∙◌}
use Rattle.std.proofs.lemmas.Bool.{false≢true}
use Rattle.wfe_core.specs.words.declared.config.Config.{Config}
use Rattle.wfe_drive_runs.proofs.drive_words.Beginnings.{clears_else}
use Rattle.wfe_drive_machines.proofs.Starting.{ends_free}
use Rattle.wfe_drive_call.proofs.Standing.{free_without}
use Rattle.wfe_drive_call.proofs.drive.keeps_row.Goals as goal

pub returns-in-Some-clause-kept : goal.returns-in-Some-clause-kept
returns-in-Some-clause-kept c = λ e. absurd (false≢true e)

pub returns-in-Some-clause-free : goal.returns-in-Some-clause-free
returns-in-Some-clause-free c = λ e one. ends_free c.args.post.now _ (sym c.in-Some.ensures)

pub returns-in-None-clause-kept : goal.returns-in-None-clause-kept
returns-in-None-clause-kept c = λ e. ap (λ (config : Config). config.scheme) (sym c.config.ensures) ∙ c.in-Ibr.is

pub returns-in-None-clause-free : goal.returns-in-None-clause-free
returns-in-None-clause-free c = λ e. absurd (false≢true (sym e))

pub returns-in_default-clause-kept : goal.returns-in_default-clause-kept
returns-in_default-clause-kept c = λ e. absurd (false≢true e)

pub returns-in_default-clause-free : goal.returns-in_default-clause-free
returns-in_default-clause-free c = λ e. free_without c.args.post.now.layout.config.scheme c.args.post.now refl (clears_else c.args.post.now.layout.config c.config.result (sym c.config.ensures) c.in_default.not-Ibr)
