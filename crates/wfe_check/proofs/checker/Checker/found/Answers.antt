use Rattle.std.proofs.Common.{◌∙◌, sym}
use Rattle.wfe_check.proofs.Steps.{row_in}
use Rattle.wfe_check.proofs.checker.Checker.found.Goals as goal

pub returns-in-Begin-Get-clause-within : goal.returns-in-Begin-Get-clause-within
returns-in-Begin-Get-clause-within c config p shows =
    row_in config.slots c.root_of_key.result (λ slot e. shows.linked _ slot (sym (c.root_of_key.ensures config p shows) ∙ e))
