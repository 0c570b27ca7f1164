use Rattle.std.proofs.Common.{◌++◌, [], length-append, arith, rules}
use Rattle.std.proofs.KnownBytes.{Consumes-nil, Consumes-trans}
use Rattle.wfe_draw.proofs.Reading.{few, reads_then}
use Rattle.wfe_draw.proofs.record.read_all.Goals as goal

pub returns-in-Some-clause-reads : goal.returns-in-Some-clause-reads
returns-in-Some-clause-reads g c last h =
    let (taken, consumed, holds) = c.loop.invariant.goes last h in
    reads_then last c.in-Some.ending _ _ _ taken c.turn.new.reader c.turn.new.scene consumed (c.in-Some.ensures.turned last taken holds)

pub loop-init : goal.loop-init
loop-init g c = record {
  counted = let (last, h) = c.requires.fresh in (last, [], h, omega arith);
  goes = λ last h. ([], Consumes-nil _, h);
  source = omega arith;
  room = search rules;
}

pub loop-preserved : goal.loop-preserved
loop-preserved g c = record {
  counted =
      let (last, taken, h, count) = c.loop.invariant.counted in
      let goes = c.in_default.ensures.turned last taken h in
      (last, taken ++ goes.more, goes.holds, omega (arith, count, goes.some, length-append taken goes.more));
  goes = λ last h.
      let (taken, consumed, holds) = c.loop.invariant.goes last h in
      let goes = c.in_default.ensures.turned last taken holds in
      (taken ++ goes.more, Consumes-trans _ _ _ taken goes.more consumed goes.consumed, goes.holds);
  source = omega (arith, c.loop.invariant.source, c.in_default.ensures.source);
  room = search rules;
}

pub unreachable-requires : goal.unreachable-requires
unreachable-requires g c =
    let (last, taken, h, count) = c.loop.invariant.counted in
    omega (arith, count, few last taken c.loop.reader c.loop.scene h, c.loop-test.false)
