use Rattle.std.proofs.Common.{subst}
use Rattle.wfe_draw.specs.Records.{Reads}
use Rattle.wfe_draw.proofs.Reading.{closed, unclosed, unread}
use Rattle.wfe_draw.proofs.record.conclude.Goals as goal

pub returns-in-Unread-clause-pictures : goal.returns-in-Unread-clause-pictures
returns-in-Unread-clause-pictures c last before left reads =
    unread last c.in-Unread.unread before left c.args.reader c.args.scene (subst (λ e. Reads last e before left c.args.reader c.args.scene) c.in-Unread.is reads)

pub returns-in-Ok-clause-pictures : goal.returns-in-Ok-clause-pictures
returns-in-Ok-clause-pictures c last before left reads =
    let (taken, consumed, at_end, holds) = subst (λ e. Reads last e before left c.args.reader c.args.scene) c.in-AtEnd.is reads in
    closed last c.in-Ok.picture before left taken consumed at_end (c.in-Ok.ensures last taken holds)

pub returns-in-Err-clause-pictures : goal.returns-in-Err-clause-pictures
returns-in-Err-clause-pictures c last before left reads =
    let (taken, consumed, at_end, holds) = subst (λ e. Reads last e before left c.args.reader c.args.scene) c.in-AtEnd.is reads in
    unclosed last c.in-Err.stop before left taken consumed at_end (c.in-Err.ensures last taken holds)
