-- What is left of the slots makes of the store what all of them do.
use Rattle.std.proofs.Common.{drop, length, ◌≡◌}
use Rattle.wfe_cells.specs.Stores.{with_backs}
use Rattle.wfe_cells.proofs.store.Store.take_back.Given as goal

abbrev pub invariant-loop-slot : goal.invariant-loop-slot
invariant-loop-slot l = record {
  back : with_backs (drop l.slot-index l.backs) l.self ≡ with_backs l.backs l.fn.self;
  places : length l.self.kept ≡ length l.fn.self.kept;
}
