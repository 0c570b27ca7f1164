use Rattle.std.proofs.Common.{arith, ap, ◌∙◌, ◌^◌, ◌*◌, ◌%◌, ◌≡◌, bit_or}
use Rattle.std.proofs.lemmas.Nat.{or_shifted}
use Rattle.wfe_words.proofs.packed.append.Goals as goal

-- no bit of the higher part is lost, and none of the lower one meets it
pub returns : goal.returns
returns c = let kept : c.args.high * 2 ^ c.args.bits % 2 ^ 64 ≡ c.args.high * 2 ^ c.args.bits = omega arith in
    ap (λ n. bit_or n c.args.low) kept ∙ or_shifted c.args.high c.args.bits c.args.low c.requires.fits
