use Rattle.std.proofs.Common.{arith, ap, ◌∙◌, ◌<◌, ◌^◌}
use Rattle.std.proofs.lemmas.Nat.{one_shl}
use Rattle.wfe_words.specs.Place.{claim_mask}
use Rattle.wfe_words.proofs.layout.Layout.claim_mask.Goals as goal

pub returns : goal.returns
unfolding claim_mask
returns c = let within : c.claim_bit.result < 64 = omega arith in
    one_shl c.claim_bit.result 64 within ∙ ap (λ n. 2 ^ n) c.claim_bit.ensures
