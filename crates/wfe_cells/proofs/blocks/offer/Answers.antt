-- Each enqueue queues one bucket more.
use Rattle.std.proofs.Common.{arith, refl}
use Rattle.wfe_cells.proofs.Kept.{queued_before, queued_more, queued_other, taken_none}
use Rattle.wfe_cells.proofs.blocks.offer.Goals as goal

pub loop-block-init : goal.loop-block-init
loop-block-init c = record { of = c.requires.of; least = omega arith; most = c.requires.range; done = λ block least most. absurd (omega arith); before = λ block below. refl; left = λ block least. refl; takes = λ block. refl }

pub loop-block-preserved : goal.loop-block-preserved
loop-block-preserved c =
    let i = c.loop-block.invariant in
    let made = c.in-Ok.ensures.made in
    let layout = c.args.shared.now.layout in
    let old = c.args.seat.now in
    let mid = c.loop-block.seat in
    let new = c.enqueue.new.seat in
    let number = c.in-Ok._queued.number in
    record {
      of = c.enqueue.ensures.of;
      least = omega (arith, i.least);
      most = omega (arith, c.loop-block-test.true);
      done = λ block least most. queued_more layout old mid new c.args.first c.loop-block.block number block made i.done i.left least most;
      before = λ block below. queued_before layout old mid new c.args.first c.loop-block.block number block made i.before i.least below;
      left = λ block least. queued_other layout old mid new c.loop-block.block number block made i.left least;
      takes = λ block. taken_none layout old mid new c.loop-block.block number block made (i.takes block);
    }

pub returns-clause-after : goal.returns-clause-after
returns-clause-after c whole block past = c.loop-block.invariant.left block (omega (arith, c.loop-block.invariant.most, past))
