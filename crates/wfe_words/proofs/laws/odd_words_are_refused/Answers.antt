use Rattle.std.proofs.Common.{arith}
use Rattle.std.proofs.lemmas.Bool.Decides.{nat_tests}
use Rattle.wfe_words.specs.Packed.{read_life, read_request}
use Rattle.wfe_words.proofs.laws.odd_words_are_refused.Goals as goal

pub returns-clause-requests : goal.returns-clause-requests
unfolding read_request
returns-clause-requests c = record {
  kind_3 = λ word k. grind (arith, nat_tests);
  kind_0 = λ word k b. grind (arith, nat_tests);
  stray_bit = λ word k b. grind (arith, nat_tests);
  no_era = λ word k b. grind (arith, nat_tests);
}

pub returns-clause-lives : goal.returns-clause-lives
unfolding read_life
returns-clause-lives c = record {
  no_birth = λ word b. grind (arith, nat_tests);
  early = λ word b r. grind (arith, nat_tests);
}
