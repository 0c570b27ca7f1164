use Rattle.std.proofs.Common.{ap, ◌∙◌}
use Rattle.wfe_drive_rule.specs.Moves.{one_more}
use Rattle.wfe_drive_rule.specs.Views.{Handle}
use Rattle.wfe_table.proofs.shared.next_seat.Goals as goal

pub returns-clause-counts : goal.returns-clause-counts
returns-clause-counts c = c.split-handle.ensures.handle ∙ ap (λ (me : Handle). (one_more me.0, me.1)) c.requires.counts
