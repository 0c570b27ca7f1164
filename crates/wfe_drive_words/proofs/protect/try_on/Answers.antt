-- Each try is of a protection that has made so many steps.
use Rattle.std.proofs.Common.{arith, ◌+◌, ◌<◌, ◌^◌}
use Rattle.wfe_drive_words.proofs.Tries.{may_try, tries_held, tries_more, tries_none}
use Rattle.wfe_drive_words.proofs.protect.try_on.Goals as goal

pub loop-link-init : goal.loop-link-init
loop-link-init g c = record {
  valid = c.requires.valid;
  later = c.requires.later;
  same = g.W.Words.same_self c.args.words.now;
  rest = omega arith;
  leads = λ t p. tries_none (g.W.Words.at c.args.words.now) (g.W.Words.stands c.args.words.now) t c.args.index c.args.root c.args.first c.args.post.now;
}

pub try_once-requires-clause-here : goal.try_once-requires-clause-here
try_once-requires-clause-here g c =
    let (t, p) = c.requires.here in
    let (n, x) = c.loop-link.invariant.leads t p in
    (_, may_try t c.args.index c.args.root c.args.first c.loop-link.era c.args.post.now n c.loop-link.steps p x)

pub overflow_add-result : goal.overflow_add-result
overflow_add-result g c =
    let (t, p) = c.requires.here in
    let (n, x) = c.loop-link.invariant.leads t p in
    let few : t.steps + c.loop-link.steps < 2 ^ 62 = c.in-Held.ensures.few _ (may_try t c.args.index c.args.root c.args.first c.loop-link.era c.args.post.now n c.loop-link.steps p x) in
    omega (arith, few)

pub returns-in-Held-clause-few : goal.returns-in-Held-clause-few
returns-in-Held-clause-few g c =
    let (t, p) = c.requires.here in
    let (n, x) = c.loop-link.invariant.leads t p in
    let few : t.steps + c.loop-link.steps < 2 ^ 62 = c.in-Held.ensures.few _ (may_try t c.args.index c.args.root c.args.first c.loop-link.era c.args.post.now n c.loop-link.steps p x) in
    omega (arith, few)

pub returns-in-Held-clause-leads : goal.returns-in-Held-clause-leads
returns-in-Held-clause-leads g c = λ t p.
    let (n, x) = c.loop-link.invariant.leads t p in
    tries_held t c.args.index c.args.root c.args.first c.loop-link.era c.in-Held.link c.args.post.now n c.loop-link.steps x
    (c.in-Held.ensures.leads _ (may_try t c.args.index c.args.root c.args.first c.loop-link.era c.args.post.now n c.loop-link.steps p x))

pub overflow_add-steps : goal.overflow_add-steps
overflow_add-steps g c =
    let (t, p) = c.requires.here in
    let (n, x) = c.loop-link.invariant.leads t p in
    let few : t.steps + c.loop-link.steps < 2 ^ 62 = c.in-Moved.ensures.few _ (may_try t c.args.index c.args.root c.args.first c.loop-link.era c.args.post.now n c.loop-link.steps p x) in
    omega (arith, few)

pub loop-link-preserved : goal.loop-link-preserved
loop-link-preserved g c = record {
  valid = c.try_once.ensures.valid;
  later = c.try_once.ensures.later;
  same = g.W.Words.same_on _ _ _ c.loop-link.invariant.same c.try_once.ensures.same;
  rest = omega (arith, c.loop-link.invariant.rest, c.try_once.ensures.rest);
  leads = λ t p.
      let (n, x) = c.loop-link.invariant.leads t p in
      tries_more t c.args.index c.args.root c.args.first c.loop-link.era c.in-Moved.seen c.args.post.now n c.loop-link.steps x
      (c.in-Moved.ensures.leads _ (may_try t c.args.index c.args.root c.args.first c.loop-link.era c.args.post.now n c.loop-link.steps p x));
}
