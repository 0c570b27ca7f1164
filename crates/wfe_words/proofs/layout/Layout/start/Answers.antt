use Rattle.std.proofs.Common.{arith, ◌≤◌}
use Rattle.std.proofs.lemmas.Bool.Decides.{nat_tests}
use Rattle.std.proofs.lemmas.Nat.Bits.{ones_shl}
use Rattle.wfe_words.specs.Place.{claim_start, claim_mask}
use Rattle.wfe_words.proofs.Starts.{start_at_by}
use Rattle.wfe_words.proofs.layout.Layout.start.Goals as goal

pub returns-then-word-clock : goal.returns-then-word-clock
returns-then-word-clock c = let by = start_at_by c.args.self.now c.args.word c.requires.there in grind (arith, nat_tests)

pub returns-then-word-tail : goal.returns-then-word-tail
returns-then-word-tail c = let by = start_at_by c.args.self.now c.args.word c.requires.there in grind (arith, nat_tests)

pub returns-then-word-claim : goal.returns-then-word-claim
unfolding claim_start claim_mask
returns-then-word-claim c = let by = start_at_by c.args.self.now c.args.word c.requires.there in
    let within : c.claim_bit.result ≤ 64 = omega arith in
    let bits = ones_shl 64 c.claim_bit.result within in grind (arith, nat_tests)

pub returns-then-word-life : goal.returns-then-word-life
returns-then-word-life c = let by = start_at_by c.args.self.now c.args.word c.requires.there in grind (arith, nat_tests)

pub returns-else-word-life : goal.returns-else-word-life
returns-else-word-life c = let by = start_at_by c.args.self.now c.args.word c.requires.there in grind (arith, nat_tests)
