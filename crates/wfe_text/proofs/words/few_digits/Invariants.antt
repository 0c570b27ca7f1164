use Rattle.std.proofs.Common.{◌≡◌, ◌<◌, ◌^◌, drop}
use Rattle.wfe_text.specs.Words.{digits_in}
use Rattle.wfe_text.proofs.Numerals.{number_from}
use Rattle.wfe_text.proofs.words.few_digits.Given as goal

-- what is left makes the number, which has no more digits than were read
abbrev pub invariant-loop-byte : goal.invariant-loop-byte
invariant-loop-byte l = (number_from l.number (drop l.byte-index l.word) ≡ digits_in l.word) × (l.number < 10 ^ l.byte-index)
