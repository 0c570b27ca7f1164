-- Each try is of a protection in which so many have failed.
use Rattle.std.proofs.Common.{ap, arith, ◌<◌, ◌≡◌, ◌≤◌}
use Rattle.wfe_core.specs.words.declared.config.Config.{Config}
use Rattle.wfe_drive_words.proofs.Askings.{asked_held, asked_more, asked_none, asked_used, last_asks, may_ask_try}
use Rattle.wfe_drive_words.proofs.asking.try_within.Goals as goal

pub loop-failed-init : goal.loop-failed-init
loop-failed-init g c = record {
  valid = c.requires.valid;
  later = c.requires.later;
  same = g.W.Words.same_self c.args.words.now;
  rest = omega arith;
  below = omega arith;
  leads = λ t h. asked_none (g.W.Words.at c.args.words.now) (g.W.Words.stands c.args.words.now) t c.args.index c.args.root c.args.first c.args.post.now;
}

pub try_once-requires-clause-here : goal.try_once-requires-clause-here
try_once-requires-clause-here g c =
    let (t, h) = c.requires.here in
    let most : c.config-most.result.tries ≡ c.args.post.now.layout.config.tries = ap (λ (config : Config). config.tries) c.config-most.ensures in
    let left : c.loop-failed.failed < c.args.post.now.layout.config.tries = omega (arith, most, c.loop-failed-test.true) in
    (_, may_ask_try t c.args.index c.args.root c.args.first c.loop-failed.era c.args.post.now c.loop-failed.failed left h (c.loop-failed.invariant.leads t h))

pub returns-in-Held-clause-leads : goal.returns-in-Held-clause-leads
returns-in-Held-clause-leads g c = λ t h.
    let most : c.config-most.result.tries ≡ c.args.post.now.layout.config.tries = ap (λ (config : Config). config.tries) c.config-most.ensures in
    let left : c.loop-failed.failed < c.args.post.now.layout.config.tries = omega (arith, most, c.loop-failed-test.true) in
    let x = c.loop-failed.invariant.leads t h in
    asked_held t c.args.index c.args.root c.args.first c.loop-failed.era c.in-Held.link c.args.post.now c.loop-failed.failed x
    (c.in-Held.ensures.leads _ (may_ask_try t c.args.index c.args.root c.args.first c.loop-failed.era c.args.post.now c.loop-failed.failed left h x))

pub loop-failed-preserved : goal.loop-failed-preserved
loop-failed-preserved g c = record {
  valid = c.try_once.ensures.valid;
  later = c.try_once.ensures.later;
  same = g.W.Words.same_on _ _ _ c.loop-failed.invariant.same c.try_once.ensures.same;
  rest = omega (arith, c.loop-failed.invariant.rest, c.try_once.ensures.rest);
  below = omega arith;
  leads = λ t h.
      let most : c.config-most.result.tries ≡ c.args.post.now.layout.config.tries = ap (λ (config : Config). config.tries) c.config-most.ensures in
      let left : c.loop-failed.failed < c.args.post.now.layout.config.tries = omega (arith, most, c.loop-failed-test.true) in
      let few : c.loop-failed.failed < 64 = omega (arith, left, c.requires.own.bounds.tries) in
      let x = c.loop-failed.invariant.leads t h in
      asked_more t c.args.index c.args.root c.args.first c.loop-failed.era c.in-Moved.seen c.args.post.now c.loop-failed.failed few x
      (c.in-Moved.ensures.leads _ (may_ask_try t c.args.index c.args.root c.args.first c.loop-failed.era c.args.post.now c.loop-failed.failed left h x));
}

pub step-requires-clause-asks : goal.step-requires-clause-asks
step-requires-clause-asks g c =
    let (t, h) = c.requires.here in
    (_, last_asks t c.args.index c.args.root c.args.first c.loop-failed.era c.args.post.now c.loop-failed.failed c.publish.result h (c.loop-failed.invariant.leads t h) c.publish.ensures)

pub returns-clause-same : goal.returns-clause-same
returns-clause-same g c = g.W.Words.same_on _ _ _ c.loop-failed.invariant.same c.step.ensures.same

pub returns-clause-leads : goal.returns-clause-leads
returns-clause-leads g c = λ t h.
    let most : c.config-most.result.tries ≡ c.args.post.now.layout.config.tries = ap (λ (config : Config). config.tries) c.config-most.ensures in
    let used : c.args.post.now.layout.config.tries ≤ c.loop-failed.failed = omega (arith, most, c.loop-failed-test.false) in
    let few : c.loop-failed.failed ≤ 64 = omega (arith, most, c.loop-failed.invariant.below, c.requires.own.bounds.tries) in
    let x = c.loop-failed.invariant.leads t h in
    asked_used t c.args.index c.args.root c.args.first c.loop-failed.era c.args.post.now c.loop-failed.failed c.step.result few used x
    (c.step.ensures.steps _ (last_asks t c.args.index c.args.root c.args.first c.loop-failed.era c.args.post.now c.loop-failed.failed c.publish.result h x c.publish.ensures))
