-- One key after another, up to the own one.
use Rattle.std.proofs.Common.{arith, ◌+◌}
use Rattle.wfe_core.specs.Calls.{FindKey, FindValue}
use Rattle.wfe_drive_words.proofs.Leading.{here_on, leads_as, then_leads}
use Rattle.wfe_drive_words.proofs.RowReads.{key_passed, key_read, pair_is, read_asks, value_read}
use Rattle.wfe_drive_words.proofs.found.find_key.Goals as goal

pub step-requires-clause-asks : goal.step-requires-clause-asks
step-requires-clause-asks g c =
    let (r, e, h) = c.requires.here in
    let at = leads_as _ _ (pair_is c.args.key r (2 + c.loop-pair.pair) c.args.slot c.args.version c.args.count c.loop-pair.pair c.loop-pair-test.true) (c.loop-pair.invariant.leads r e h) in
    (_, read_asks c.args.key r (2 + c.loop-pair.pair) (FindKey c.args.slot c.args.version c.args.count c.loop-pair.pair) c.args.post.now.layout c.load_cell.result e (here_on h at) c.load_cell.ensures)

pub step-value-requires-clause-asks : goal.step-value-requires-clause-asks
step-value-requires-clause-asks g c =
    let (r, e, h) = c.requires.here in
    let at = leads_as _ _ (pair_is c.args.key r (2 + c.loop-pair.pair) c.args.slot c.args.version c.args.count c.loop-pair.pair c.loop-pair-test.true) (c.loop-pair.invariant.leads r e h) in
    let asks = read_asks c.args.key r (2 + c.loop-pair.pair) (FindKey c.args.slot c.args.version c.args.count c.loop-pair.pair) c.args.post.now.layout c.load_cell.result e (here_on h at) c.load_cell.ensures in
    let read = key_read c.args.key r c.args.slot c.args.version c.args.count c.loop-pair.pair c.step.result c.if-step-key.true (c.step.ensures.steps _ asks) in
    (_, read_asks c.args.key r (3 + c.loop-pair.pair) (FindValue c.args.slot c.args.version c.loop-pair.pair) c.args.post.now.layout c.load_cell-then-step-key.result e (here_on asks.here read) c.load_cell-then-step-key.ensures)

pub returns-then-step-key-clause-same : goal.returns-then-step-key-clause-same
returns-then-step-key-clause-same g c = g.W.Words.same_on _ _ _ (g.W.Words.same_on _ _ _ c.loop-pair.invariant.same c.step.ensures.same) c.step-value.ensures.same

pub returns-then-step-key-clause-leads : goal.returns-then-step-key-clause-leads
returns-then-step-key-clause-leads g c = λ r e h.
    let at = leads_as _ _ (pair_is c.args.key r (2 + c.loop-pair.pair) c.args.slot c.args.version c.args.count c.loop-pair.pair c.loop-pair-test.true) (c.loop-pair.invariant.leads r e h) in
    let asks = read_asks c.args.key r (2 + c.loop-pair.pair) (FindKey c.args.slot c.args.version c.args.count c.loop-pair.pair) c.args.post.now.layout c.load_cell.result e (here_on h at) c.load_cell.ensures in
    let read = key_read c.args.key r c.args.slot c.args.version c.args.count c.loop-pair.pair c.step.result c.if-step-key.true (c.step.ensures.steps _ asks) in
    let asks2 = read_asks c.args.key r (3 + c.loop-pair.pair) (FindValue c.args.slot c.args.version c.loop-pair.pair) c.args.post.now.layout c.load_cell-then-step-key.result e (here_on asks.here read) c.load_cell-then-step-key.ensures in
    then_leads (then_leads at read) (value_read c.args.key r c.args.slot c.args.version c.loop-pair.pair c.step-value.result (c.step-value.ensures.steps _ asks2))

pub loop-pair-preserved : goal.loop-pair-preserved
loop-pair-preserved g c = record {
  valid = c.step.ensures.valid;
  later = c.step.ensures.later;
  same = g.W.Words.same_on _ _ _ c.loop-pair.invariant.same c.step.ensures.same;
  below = omega arith;
  leads = λ r e h.
      let at = leads_as _ _ (pair_is c.args.key r (2 + c.loop-pair.pair) c.args.slot c.args.version c.args.count c.loop-pair.pair c.loop-pair-test.true) (c.loop-pair.invariant.leads r e h) in
      let asks = read_asks c.args.key r (2 + c.loop-pair.pair) (FindKey c.args.slot c.args.version c.args.count c.loop-pair.pair) c.args.post.now.layout c.load_cell.result e (here_on h at) c.load_cell.ensures in
      then_leads at (key_passed c.args.key r c.args.slot c.args.version c.args.count c.loop-pair.pair c.step.result c.if-step-key.false (c.step.ensures.steps _ asks));
}
