use Rattle.std.proofs.Common.{arith}
use Rattle.wfe_words.proofs.Bounds.{firsts_few}
use Rattle.wfe_words.proofs.layout.Layout.of.Goals as goal

pub overflow_mul-intervals : goal.overflow_mul-intervals
overflow_mul-intervals c = let few = firsts_few c.args.config c.requires in omega arith

pub overflow_add-requests : goal.overflow_add-requests
overflow_add-requests c = let few = firsts_few c.args.config c.requires in omega arith

pub overflow_add-roots : goal.overflow_add-roots
overflow_add-roots c = let few = firsts_few c.args.config c.requires in omega arith

pub overflow_add-head : goal.overflow_add-head
overflow_add-head c = let few = firsts_few c.args.config c.requires in omega arith

pub overflow_add-claims : goal.overflow_add-claims
overflow_add-claims c = let few = firsts_few c.args.config c.requires in omega arith

pub overflow_add-lives-2 : goal.overflow_add-lives-2
overflow_add-lives-2 c = let few = firsts_few c.args.config c.requires in omega arith

pub overflow_add-rows : goal.overflow_add-rows
overflow_add-rows c = let few = firsts_few c.args.config c.requires in omega arith
