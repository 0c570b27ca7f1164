-- So far nothing stands below this index, and from it on what stood as the call began.
use Rattle.std.proofs.Common.{drop, ◌≡◌}
use Rattle.wfe_core.specs.Keep.{parting_from}
use Rattle.wfe_drive_rule.specs.Views.{standing}
use Rattle.wfe_table.specs.Parting.{Parted}
use Rattle.wfe_table.proofs.part.clear_rows.Given as goal

abbrev pub invariant-loop-index : goal.invariant-loop-index
invariant-loop-index l = record {
  ids : l.handle.table_id ≡ l.fn.ledger.table_id;
  parted : Parted l.fn.ledger.key l.fn.seat l.fn.post l.fn.handle.me (parting_from l.index (standing l.handle.me).post) l.first l.handle.me;
  rows : drop l.index (standing l.handle.me).post.standing ≡ drop l.index l.fn.post.standing;
}
