use Rattle.std.proofs.Common.{arith}
use Rattle.std.proofs.lemmas.Bool.Decides.{nat_tests}
use Rattle.std.proofs.lemmas.Grind.{common_steps}
use Rattle.wfe_core.specs.Links.{link_place}
use Rattle.wfe_core.proofs.words.Numbers.{number_below, words_few}
use Rattle.wfe_help.proofs.help_at.asking_word.Goals as goal

pub request_word-requires : goal.request_word-requires
request_word-requires c =
    let below = number_below c.args.post.now.layout (link_place c.args.root) c.requires.root in
    let few = words_few c.args.post.now.layout c.requires.valid.layout in
    grind (arith, nat_tests, common_steps, below, few, c.requires.valid.bounds.indexes.1, c.requires.index, c.link_word_number.ensures.number)
