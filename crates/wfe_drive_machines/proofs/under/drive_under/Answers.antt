-- What is left is a call that changes no bucket.
use Rattle.wfe_drive_machines.proofs.Starting.{unchanged_by}
use Rattle.wfe_drive_machines.proofs.under.drive_under.Goals as goal

pub drive_unchanged-requires-clause-keeps : goal.drive_unchanged-requires-clause-keeps
drive_unchanged-requires-clause-keeps g c = unchanged_by c.args.call c.in_default.not-Put c.in_default.not-Remove c.in_default.not-PutIf
