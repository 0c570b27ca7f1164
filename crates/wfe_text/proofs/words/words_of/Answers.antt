use Rattle.std.proofs.Common.{arith}
use Rattle.wfe_text.proofs.Spaces.{words_some}
use Rattle.wfe_text.proofs.words.words_of.Goals as goal

pub returns-in_default-Some : goal.returns-in_default-Some
returns-in_default-Some c =
    rw (c.split.ensures, c.in-Some.is, c.split-2.ensures, c.in-Some-rest.is, c.split-3.ensures, c.in-Some-rest-2.is, c.split-4.ensures, c.in-Some-rest-3.is, c.split-5.ensures, c.in_default-Some.is-1)
    (omega (arith, words_some c.in_default-Some.field-0-1.now))
