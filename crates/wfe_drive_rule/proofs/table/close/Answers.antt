-- The last state meets the rule, and the handle's view is in it.
use Rattle.std.proofs.Common.{subst}
use Rattle.wfe_drive_rule.specs.Ended.{Ended}
use Rattle.wfe_drive_rule.specs.Spots.{shown}
use Rattle.wfe_drive_rule.proofs.Ending.{handles_end}
use Rattle.wfe_drive_rule.proofs.table.close.Goals as goal

pub returns-clause-ended : goal.returns-clause-ended
returns-clause-ended c =
    let f = c.close_with.ensures.values.2 in
    subst (λ block. Ended c.args.table.shared.key (shown c.args.table.shared.key block) c.args.handle.me.0.tracks) f.2
    (handles_end c.args.table.shared.key (shown c.args.table.shared.key f.0.words) f.0.homes f.0.views c.args.handle.id c.args.handle.me.0 f.1.0.1 f.1.1 c.requires.all c.requires.gathered.idle)
