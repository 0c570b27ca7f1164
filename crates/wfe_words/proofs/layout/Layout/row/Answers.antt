use Rattle.std.proofs.Common.{arith}
use Rattle.wfe_words.proofs.Bounds.{bounds, row_word_few}
use Rattle.wfe_words.proofs.layout.Layout.row.Goals as goal

pub overflow_mul-result : goal.overflow_mul-result
overflow_mul-result c = grind (arith, row_word_few c.args.self.now c.args.slot c.args.place c.requires.valid c.requires.there)

pub overflow_add-result : goal.overflow_add-result
overflow_add-result c = grind (arith, row_word_few c.args.self.now c.args.slot c.args.place c.requires.valid c.requires.there)

pub overflow_add-result-2 : goal.overflow_add-result-2
overflow_add-result-2 c = grind (arith, bounds, row_word_few c.args.self.now c.args.slot c.args.place c.requires.valid c.requires.there)
