-- Each call that names an index is made.
use Rattle.wfe_drive_machines.proofs.Starting.{none_at_index}
use Rattle.wfe_drive_machines.proofs.under.drive_at_index.Goals as goal

pub unreachable-requires : goal.unreachable-requires
unreachable-requires g c = none_at_index c.args.call c.requires.named c.in_default.not-Copy c.in_default.not-DropIndex c.in_default.not-Look
