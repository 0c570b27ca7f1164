use Rattle.std.proofs.Common.{refl, inl, arith}
use Rattle.model_record.specs.Record.Past.{Start}
use Rattle.wfe_check_lines.specs.Reading.{reading_start}
use Rattle.wfe_draw.proofs.reader.Reader.new.Goals as goal

pub returns : goal.returns
returns c scene shows = record {
  r = reading_start;
  text = refl;
  reading = record { line = c.new.ensures; bytes = refl; few = omega arith; lines = refl; within = omega arith; entries = refl; fewer = omega arith; place = tt; end = refl };
  p = Start;
  up_to = inl (omega arith, refl);
  shows = shows;
}
