use Rattle.std.proofs.Common.{ap}
use Rattle.wfe_words.specs.Place.{start_of}
use Rattle.wfe_words.proofs.Numbers.{number_below, number_one, place_at_there, number-place_at, place_at-number, words_few}
use Rattle.wfe_words.proofs.Places.{row_bit, other_bit}
use Rattle.wfe_words.proofs.laws.numbers_name_places.Goals as goal

pub returns-clause-numbering : goal.returns-clause-numbering
returns-clause-numbering c = record {
  below = number_below c.args.layout.now;
  apart = number_one c.args.layout.now;
  there = place_at_there c.args.layout.now;
  numbered = number-place_at c.args.layout.now;
  found = place_at-number c.args.layout.now;
  few = words_few c.args.layout.now c.requires;
}

pub returns-clause-start : goal.returns-clause-start
returns-clause-start c = record {
  starts = λ place h. ap (start_of c.args.layout.now) (place_at-number c.args.layout.now place h);
  row_bits = row_bit c.args.layout.now;
  other_bits = other_bit c.args.layout.now;
}
