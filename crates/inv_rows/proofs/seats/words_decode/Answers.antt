use Rattle.inv_rows.proofs.Shapes.Decode.{clock_next, eras_start, eras_begin, eras_step}
use Rattle.inv_rows.proofs.seats.words_decode.Goals as goal

pub returns-clause-start : goal.returns-clause-start
returns-clause-start c = eras_start

pub returns-clause-begin : goal.returns-clause-begin
returns-clause-begin c = eras_begin

pub returns-clause-step : goal.returns-clause-step
returns-clause-step c = eras_step

pub returns-clause-rises : goal.returns-clause-rises
returns-clause-rises c = λ w i e. (clock_next w i e).rises
