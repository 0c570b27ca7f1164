-- One pair after another.
use Rattle.std.proofs.Common.{arith, length, ◌*◌, ◌+◌, ◌<◌, ◌^◌, ◌≡◌}
use Rattle.wfe_core.specs.DeskHeld.{desk_of}
use Rattle.wfe_drive_runs.proofs.drive_words.Leading.{here_on, leads_as, leads_none, then_leads}
use Rattle.wfe_drive_call.specs.Changing.{kept_of, step_post}
use Rattle.wfe_drive_call.proofs.RowWriting.{key_asks, pair_written, value_asks, writes_end, word_written}
use Rattle.wfe_drive_call.proofs.write.write_pairs.Goals as goal

pub loop-pair-init : goal.loop-pair-init
loop-pair-init g c = record {
  valid = c.requires.valid;
  later = c.requires.later;
  same = g.W.Words.same_self c.args.words.now;
  rest = omega arith;
  below = omega arith;
  leads = leads_none (g.W.Words.at c.args.words.now) (g.W.Words.stands c.args.words.now) _;
}

pub step-requires-clause-asks : goal.step-requires-clause-asks
step-requires-clause-asks g c =
    let kept = kept_of c.args.kept.now in
    let desk = desk_of c.args._desk.now in
    let post = step_post c.args.post.now c.loop-pair.steps in
    let left : c.loop-pair.pair < length kept.pairs = omega (arith, c.len-count.ensures.count, c.loop-pair-test.true) in
    let first = key_asks kept c.args.slot c.loop-pair.pair c.get-key.result post desk c.store_cell.result left c.get-key.ensures (here_on c.requires.here c.loop-pair.invariant.leads) c.store_cell.ensures in
    (_, first)

pub step-requires-in-loop-pair-clause-asks : goal.step-requires-in-loop-pair-clause-asks
step-requires-in-loop-pair-clause-asks g c =
    let kept = kept_of c.args.kept.now in
    let desk = desk_of c.args._desk.now in
    let post = step_post c.args.post.now c.loop-pair.steps in
    let left : c.loop-pair.pair < length kept.pairs = omega (arith, c.len-count.ensures.count, c.loop-pair-test.true) in
    let first = key_asks kept c.args.slot c.loop-pair.pair c.get-key.result post desk c.store_cell.result left c.get-key.ensures (here_on c.requires.here c.loop-pair.invariant.leads) c.store_cell.ensures in
    let stored = word_written kept c.args.slot (3 + 2 * c.loop-pair.pair) c.args.post.now desk c.loop-pair.steps c.step.result (c.step.ensures.steps _ first) in
    let second = value_asks kept c.args.slot c.loop-pair.pair c.get-key.result (step_post c.args.post.now (c.loop-pair.steps + 1)) desk c.store_cell-in-loop-pair.result left c.get-key.ensures (here_on first.here stored) c.store_cell-in-loop-pair.ensures in
    (_, second)

pub overflow_add-steps : goal.overflow_add-steps
overflow_add-steps g c =
    let kept = kept_of c.args.kept.now in
    let desk = desk_of c.args._desk.now in
    let post = step_post c.args.post.now c.loop-pair.steps in
    let left : c.loop-pair.pair < length kept.pairs = omega (arith, c.len-count.ensures.count, c.loop-pair-test.true) in
    let first = key_asks kept c.args.slot c.loop-pair.pair c.get-key.result post desk c.store_cell.result left c.get-key.ensures (here_on c.requires.here c.loop-pair.invariant.leads) c.store_cell.ensures in
    let few : c.loop-pair.steps < 2 ^ 62 = (c.step.ensures.steps _ first).few in
    omega (arith, few)

pub loop-pair-preserved : goal.loop-pair-preserved
loop-pair-preserved g c =
    let kept = kept_of c.args.kept.now in
    let desk = desk_of c.args._desk.now in
    let post = step_post c.args.post.now c.loop-pair.steps in
    let left : c.loop-pair.pair < length kept.pairs = omega (arith, c.len-count.ensures.count, c.loop-pair-test.true) in
    let first = key_asks kept c.args.slot c.loop-pair.pair c.get-key.result post desk c.store_cell.result left c.get-key.ensures (here_on c.requires.here c.loop-pair.invariant.leads) c.store_cell.ensures in
    let stored = word_written kept c.args.slot (3 + 2 * c.loop-pair.pair) c.args.post.now desk c.loop-pair.steps c.step.result (c.step.ensures.steps _ first) in
    let second = value_asks kept c.args.slot c.loop-pair.pair c.get-key.result (step_post c.args.post.now (c.loop-pair.steps + 1)) desk c.store_cell-in-loop-pair.result left c.get-key.ensures (here_on first.here stored) c.store_cell-in-loop-pair.ensures in
    record {
      valid = c.step-in-loop-pair.ensures.valid;
      later = c.step-in-loop-pair.ensures.later;
      same = g.W.Words.same_on _ _ _ (g.W.Words.same_on _ _ _ c.loop-pair.invariant.same c.step.ensures.same) c.step-in-loop-pair.ensures.same;
      rest = omega arith;
      below = omega arith;
      leads = then_leads c.loop-pair.invariant.leads (pair_written kept c.args.slot c.loop-pair.pair c.args.post.now desk c.loop-pair.steps c.step.result c.step-in-loop-pair.result left (c.step.ensures.steps _ first) (c.step-in-loop-pair.ensures.steps _ second));
    }

pub returns-clause-leads : goal.returns-clause-leads
returns-clause-leads g c =
    let kept = kept_of c.args.kept.now in
    let all : 2 + 2 * c.loop-pair.pair ≡ 2 + 2 * length kept.pairs = omega (arith, c.len-count.ensures.count, c.loop-pair-test.false, c.loop-pair.invariant.below) in
    leads_as _ _ (writes_end kept c.args.slot (2 + 2 * c.loop-pair.pair) (step_post c.args.post.now c.loop-pair.steps) (desk_of c.args._desk.now) all) c.loop-pair.invariant.leads
