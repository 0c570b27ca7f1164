-- What is left is a call that is none of these.
use Rattle.wfe_drive_machines.proofs.Starting.{other_by}
use Rattle.wfe_drive_machines.proofs.under.drive_unchanged.Goals as goal

pub drive_other-requires-clause-other : goal.drive_other-requires-clause-other
drive_other-requires-clause-other g c = other_by c.args.call c.requires.keeps c.in_default.not-Get c.in_default.not-Enqueue c.in_default.not-Dequeue
