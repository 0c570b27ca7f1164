use Rattle.std.proofs.Common.{arith, rules}
use Rattle.wfe_check_lines.specs.Reading.{reading_start}
use Rattle.wfe_check_lines.proofs.Standing.{ends_then, goes_start, goes_then}
use Rattle.wfe_check_lines.proofs.check.read_all.Goals as goal

pub turn-requires-clause-some : goal.turn-requires-clause-some
turn-requires-clause-some g c = (c.loop.invariant.goes.after, c.loop.invariant.goes.is)

pub returns-in-Some-clause-ended : goal.returns-in-Some-clause-ended
returns-in-Some-clause-ended g c =
    let goes = c.loop.invariant.goes in
    ends_then g.J.Judge.judges g.J.Judge.good c.in-Some.ending _ _ _ reading_start c.loop.reader c.turn.new.reader goes (c.in-Some.ensures.turned goes.after goes.is)

pub loop-init : goal.loop-init
loop-init g c = record {
  goes = goes_start g.J.Judge.judges g.J.Judge.good _ reading_start c.args.reader.now c.requires.fresh;
  counted = omega arith;
  source = search rules;
  room = search rules;
}

pub loop-preserved : goal.loop-preserved
loop-preserved g c =
    let goes = c.loop.invariant.goes in
    let (more, counts) = c.in_default.ensures.turned goes.after goes.is in
    record {
      goes = goes_then g.J.Judge.judges g.J.Judge.good _ _ _ reading_start c.loop.reader c.turn.new.reader goes more;
      counted = omega (arith, c.loop.invariant.counted, counts, goes.is.count, more.is.count);
      source = omega (arith, c.loop.invariant.source, c.in_default.ensures.source);
      room = search rules;
    }

pub unreachable-requires : goal.unreachable-requires
unreachable-requires g c =
    let goes = c.loop.invariant.goes in
    omega (arith, goes.is.few, goes.is.count, c.loop.invariant.counted, c.loop-test.false)
