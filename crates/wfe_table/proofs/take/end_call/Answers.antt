-- The notes were emptied, and then their steps set.
use Rattle.std.proofs.Common.{ap, ◌∙◌}
use Rattle.wfe_core.specs.Desks.{Notes}
use Rattle.wfe_core.specs.Held.{notes_of}
use Rattle.wfe_core.specs.declared.desk.Desk.{Desk}
use Rattle.wfe_table.proofs.take.end_call.Goals as goal

pub returns-clause-notes : goal.returns-clause-notes
returns-clause-notes c =
    ap (λ (desk : Desk). let later : Notes = record (notes_of desk.notes) { steps = c.args.steps } in later) c.desk.view_is
    ∙ ap (λ (notes : Notes). let later : Notes = record notes { steps = c.args.steps } in later) c.clear.ensures.empty
