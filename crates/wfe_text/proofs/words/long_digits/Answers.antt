use Rattle.std.proofs.Common.{refl}
use Rattle.wfe_text.proofs.Numerals.{number_from-digits}
use Rattle.wfe_text.proofs.words.long_digits.Goals as goal

pub loop-byte-init : goal.loop-byte-init
loop-byte-init c = number_from-digits 0 c.args.word.now refl
