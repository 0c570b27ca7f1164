-- All bounds of each history.
use Rattle.law_bounds.specs.Whole.{HistoriesBounded}
use Rattle.law_bounds.proofs.Eras.Judged.{records_judge}
use Rattle.law_bounds.proofs.Eras.Keeps.{records_bound_still}
use Rattle.law_bounds.proofs.Eras.Scanned.{records_keep_few}
use Rattle.law_bounds.proofs.Hazards.Keeps.{records_bound_hazards}
use Rattle.law_bounds.proofs.Hazards.Needed.{records_need_rows}
use Rattle.law_bounds.proofs.Rows.Lost.{records_take_few}
use Rattle.law_bounds.proofs.Scans.Keeps.{records_bound_scans}

pub histories_are_bounded : HistoriesBounded
histories_are_bounded layout items d = record {
  rows = records_take_few layout items d;
  scans = records_bound_scans layout items d;
  hazards = λ s. records_bound_hazards layout items d s;
  needed = λ s. records_need_rows layout items d s;
  still = λ s. records_bound_still layout items d s;
  judged = λ s. records_judge layout items d s;
  keeps = λ s. records_keep_few layout items d s;
}
