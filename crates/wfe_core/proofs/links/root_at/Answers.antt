use Rattle.std.proofs.Common.{arith}
use Rattle.std.proofs.lemmas.Bool.Decides.{nat_tests}
use Rattle.wfe_core.proofs.Roots.{root_by_number}
use Rattle.wfe_core.proofs.links.root_at.Goals as goal

pub returns-then-word-head : goal.returns-then-word-head
returns-then-word-head c =
    let h = root_by_number c.args.layout c.args.word c.requires.there c.requires.number in
    grind (arith, nat_tests, h)

pub returns-then-word-head-2 : goal.returns-then-word-head-2
returns-then-word-head-2 c =
    let h = root_by_number c.args.layout c.args.word c.requires.there c.requires.number in
    grind (arith, nat_tests, h)

pub returns-then-word-tail : goal.returns-then-word-tail
returns-then-word-tail c =
    let h = root_by_number c.args.layout c.args.word c.requires.there c.requires.number in
    grind (arith, nat_tests, h)

pub returns : goal.returns
returns c =
    let h = root_by_number c.args.layout c.args.word c.requires.there c.requires.number in
    rw (c.saturating_sub-2.ensures, c.row.ensures, c.config.ensures)
    (grind (arith, nat_tests, h, c.if-word-head.false, c.head.ensures, c.if-word-head-2.false, c.head-2.ensures, c.if-word-tail.false, c.tail.ensures))
