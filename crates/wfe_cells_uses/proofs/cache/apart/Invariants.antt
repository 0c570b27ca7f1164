-- The seats are the cells', and so are the readers that are left.
use Rattle.std.proofs.Common.{vec_len}
use Rattle.std.specs.Prelude.{All}
use Rattle.wfe_table.specs.Public.{IsOf}
use Rattle.wfe_cells_uses.proofs.cache.apart.Given as goal

abbrev pub invariant-loop-reader : goal.invariant-loop-reader
invariant-loop-reader l = record {
  seats : All (λ seat. IsOf seat l._cells) l.seats.items;
  readers : All (λ reader. IsOf reader.user.seat l._cells) l.readers.items;
}

abbrev pub decreases-loop-reader : goal.decreases-loop-reader
decreases-loop-reader l = vec_len l.readers
