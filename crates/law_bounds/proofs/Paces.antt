-- The steps of all calls of each history.
use Rattle.law_bounds.specs.Paces.{HistoriesPaced}
use Rattle.law_bounds.proofs.Changes.Keeps.{changes_end}
use Rattle.law_bounds.proofs.Gets.Keeps.{reads_end}
use Rattle.law_bounds.proofs.Leaves.{leaves_end}

pub histories_are_paced : HistoriesPaced
histories_are_paced layout items d = record {
  reads = λ s. reads_end layout items d s;
  changes = changes_end layout items d;
  leaves = leaves_end layout items d;
}
