use Rattle.std.proofs.Common.{arith}
use Rattle.std.proofs.lemmas.Bool.Decides.{nat_tests}
use Rattle.wfe_words.specs.Place.{is_valid}
use Rattle.wfe_words.proofs.layout.Layout.new.Goals as goal

pub returns-clause-valid : goal.returns-clause-valid
unfolding is_valid
returns-clause-valid c = grind (arith, nat_tests)

pub of-requires : goal.of-requires
unfolding is_valid
of-requires c = grind (arith, nat_tests)
