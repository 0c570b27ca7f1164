-- What came of taking over a list, as the answer of a call.
use Rattle.std.specs.Prelude.{ℕ}
use Rattle.wfe_table.specs.history.defs.declared.call.Answer.{Answer}
use Rattle.wfe_table.specs.history.defs.declared.call.Answer.TheVariants as answers
use Rattle.wfe_table_end.specs.declared.answers.AdoptEnd.{AdoptEnd}
use Rattle.wfe_table_end.specs.declared.answers.AdoptEnd.TheVariants as adopts

abbrev pub adopt_answer : AdoptEnd → Answer
adopt_answer (adopts.Adopted count) = answers.Adopted count
adopt_answer adopts.NotLeft = answers.NotLeft
adopt_answer adopts.AdoptedBefore = answers.AdoptedBefore

-- the steps of it: an exchange, and a store where a list was there
abbrev pub adopt_steps : AdoptEnd → ℕ
adopt_steps (adopts.Adopted count) = 2
adopt_steps adopts.NotLeft = 1
adopt_steps adopts.AdoptedBefore = 1
