-- The ranges of a valid layout's numbers.
use Rattle.std.proofs.Common.{◌≡◌, true, arith}
use Rattle.std.proofs.lemmas.Bool.Decides.{nat_tests}
use Rattle.wfe_words.specs.Place.{is_valid}
use Rattle.wfe_words.specs.declared.layout.Layout.{Layout}
use Rattle.wfe_core.specs.Valid.{Bounds}

pub bounds_of : (layout : Layout) → is_valid layout ≡ true → Bounds layout.config
unfolding is_valid
bounds_of layout h = record {
  seats = grind (arith, nat_tests);
  indexes = grind (arith, nat_tests);
  slots = grind (arith, nat_tests);
  buckets = grind (arith, nat_tests);
  tries = grind (arith, nat_tests);
  every = grind (arith, nat_tests);
  eras = grind (arith, nat_tests);
  versions = grind (arith, nat_tests);
  pairs = grind (arith, nat_tests);
}
