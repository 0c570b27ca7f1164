-- One pair after another.
use Rattle.std.proofs.Common.{arith, length, refl, ◌+◌, ◌<◌, ◌^◌}
use Rattle.wfe_core.specs.Calls.{LoadKey, LoadValue}
use Rattle.wfe_core.specs.DeskHeld.{desk_of}
use Rattle.wfe_drive_runs.proofs.drive_words.Leading.{here_on, leads_as, leads_none, then_leads}
use Rattle.wfe_drive_call.specs.Changing.{kept_of, step_post}
use Rattle.wfe_drive_call.proofs.RowReading.{key_read, more_counted, pair_is, pairs_none, value_read, work_asks}
use Rattle.wfe_drive_call.proofs.read.read_pairs.Goals as goal

pub loop-pair-init : goal.loop-pair-init
loop-pair-init g c = record {
  valid = c.requires.valid;
  later = c.requires.later;
  same = g.W.Words.same_self c.args.words.now;
  below = omega arith;
  many = rw c.requires.none refl;
  rest = omega arith;
  leads = leads_none (g.W.Words.at c.args.words.now) (g.W.Words.stands c.args.words.now) _;
}

pub step-key-requires-clause-asks : goal.step-key-requires-clause-asks
step-key-requires-clause-asks g c =
    let kept = kept_of c.loop-pair.kept in
    let post = step_post c.args.post.now c.loop-pair.steps in
    let desk = desk_of c.args._desk.now in
    let left : length kept.pairs < c.args.count = omega (arith, c.loop-pair.invariant.many, c.loop-pair-test.true) in
    let at = leads_as _ _ (pair_is kept c.args.slot c.args.count post desk left) c.loop-pair.invariant.leads in
    (_, work_asks kept (LoadKey c.args.slot c.args.count) post desk c.load_cell.result (here_on c.requires.here at) (rw c.loop-pair.invariant.many c.load_cell.ensures))

pub step-value-requires-clause-asks : goal.step-value-requires-clause-asks
step-value-requires-clause-asks g c =
    let kept = kept_of c.loop-pair.kept in
    let post = step_post c.args.post.now c.loop-pair.steps in
    let desk = desk_of c.args._desk.now in
    let left : length kept.pairs < c.args.count = omega (arith, c.loop-pair.invariant.many, c.loop-pair-test.true) in
    let at = leads_as _ _ (pair_is kept c.args.slot c.args.count post desk left) c.loop-pair.invariant.leads in
    let asks = work_asks kept (LoadKey c.args.slot c.args.count) post desk c.load_cell.result (here_on c.requires.here at) (rw c.loop-pair.invariant.many c.load_cell.ensures) in
    let read = key_read kept c.args.slot c.args.count c.args.post.now desk c.loop-pair.steps c.step-key.result (c.step-key.ensures.steps _ asks) in
    (_, work_asks kept (LoadValue c.args.slot c.args.count c.step-key.result) (step_post c.args.post.now (c.loop-pair.steps + 1)) desk c.load_cell-in-loop-pair.result (here_on asks.here read) (rw c.loop-pair.invariant.many c.load_cell-in-loop-pair.ensures))

pub overflow_add-steps : goal.overflow_add-steps
overflow_add-steps g c =
    let kept = kept_of c.loop-pair.kept in
    let post = step_post c.args.post.now c.loop-pair.steps in
    let desk = desk_of c.args._desk.now in
    let left : length kept.pairs < c.args.count = omega (arith, c.loop-pair.invariant.many, c.loop-pair-test.true) in
    let at = leads_as _ _ (pair_is kept c.args.slot c.args.count post desk left) c.loop-pair.invariant.leads in
    let asks = work_asks kept (LoadKey c.args.slot c.args.count) post desk c.load_cell.result (here_on c.requires.here at) (rw c.loop-pair.invariant.many c.load_cell.ensures) in
    let few : c.loop-pair.steps < 2 ^ 62 = (c.step-key.ensures.steps _ asks).few in
    omega (arith, few)

pub loop-pair-preserved : goal.loop-pair-preserved
loop-pair-preserved g c =
    let kept = kept_of c.loop-pair.kept in
    let post = step_post c.args.post.now c.loop-pair.steps in
    let desk = desk_of c.args._desk.now in
    let left : length kept.pairs < c.args.count = omega (arith, c.loop-pair.invariant.many, c.loop-pair-test.true) in
    let at = leads_as _ _ (pair_is kept c.args.slot c.args.count post desk left) c.loop-pair.invariant.leads in
    let asks = work_asks kept (LoadKey c.args.slot c.args.count) post desk c.load_cell.result (here_on c.requires.here at) (rw c.loop-pair.invariant.many c.load_cell.ensures) in
    let read = key_read kept c.args.slot c.args.count c.args.post.now desk c.loop-pair.steps c.step-key.result (c.step-key.ensures.steps _ asks) in
    let asks2 = work_asks kept (LoadValue c.args.slot c.args.count c.step-key.result) (step_post c.args.post.now (c.loop-pair.steps + 1)) desk c.load_cell-in-loop-pair.result (here_on asks.here read) (rw c.loop-pair.invariant.many c.load_cell-in-loop-pair.ensures) in
    record {
      valid = c.step-value.ensures.valid;
      later = c.step-value.ensures.later;
      same = g.W.Words.same_on _ _ _ (g.W.Words.same_on _ _ _ c.loop-pair.invariant.same c.step-key.ensures.same) c.step-value.ensures.same;
      below = omega arith;
      many = more_counted kept.pairs (c.step-key.result, c.step-value.result) c.loop-pair.pair c.loop-pair.invariant.many c.push.ensures;
      rest = omega arith;
      leads = then_leads (then_leads at read) (value_read kept c.args.slot c.args.count c.args.post.now desk c.loop-pair.steps c.step-key.result c.step-value.result _ c.push.ensures (c.step-value.ensures.steps _ asks2));
    }

pub returns-clause-leads : goal.returns-clause-leads
returns-clause-leads g c =
    leads_as _ _ (pairs_none (kept_of c.loop-pair.kept) c.args.slot c.args.count (step_post c.args.post.now c.loop-pair.steps) (desk_of c.args._desk.now) (omega (arith, c.loop-pair.invariant.many, c.loop-pair-test.false))) c.loop-pair.invariant.leads
