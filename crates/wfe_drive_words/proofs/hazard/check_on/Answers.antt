-- Each check is of a protection that has made so many steps.
use Rattle.std.proofs.Common.{arith, sym, ◌+◌, ◌<◌, ◌^◌, ◌∙◌}
use Rattle.wfe_drive_words.specs.Path.{checked_after}
use Rattle.wfe_drive_words.proofs.Hazards.{checks_more, checks_none, checks_over}
use Rattle.wfe_drive_words.proofs.Leading.{here_on}
use Rattle.wfe_drive_words.proofs.hazard.check_on.Goals as goal

pub loop-root-init : goal.loop-root-init
loop-root-init g c = record {
  valid = c.requires.valid;
  later = c.requires.later;
  same = g.W.Words.same_self c.args.words.now;
  rest = omega arith;
  leads = λ t h. checks_none (g.W.Words.at c.args.words.now) (g.W.Words.stands c.args.words.now) t c.args.index c.args.root c.args.first c.args.post.now;
}

pub check_once-found-requires-clause-here : goal.check_once-found-requires-clause-here
check_once-found-requires-clause-here g c =
    let (t, h) = c.requires.here in
    let (n, x) = c.loop-root.invariant.leads t h in
    (checked_after t n c.loop-root.steps, here_on h x)

pub overflow_add-steps : goal.overflow_add-steps
overflow_add-steps g c =
    let (t, h) = c.requires.here in
    let (n, x) = c.loop-root.invariant.leads t h in
    let few : t.steps + c.loop-root.steps < 2 ^ 62 = c.check_once-found.ensures.few (checked_after t n c.loop-root.steps) (here_on h x) in
    omega (arith, few)

pub returns-then-is_over-clause-few : goal.returns-then-is_over-clause-few
returns-then-is_over-clause-few g c =
    let (t, h) = c.requires.here in
    let (n, x) = c.loop-root.invariant.leads t h in
    let few : t.steps + c.loop-root.steps < 2 ^ 62 = c.check_once-found.ensures.few (checked_after t n c.loop-root.steps) (here_on h x) in
    omega (arith, few)

pub returns-then-is_over-clause-leads : goal.returns-then-is_over-clause-leads
returns-then-is_over-clause-leads g c = λ t h.
    let (n, x) = c.loop-root.invariant.leads t h in
    checks_over t c.args.index c.args.root c.args.first c.loop-root.link c.check_once-found.result c.args.post.now n c.loop-root.steps (sym c.is_over.ensures ∙ c.if-is_over.true) x (c.check_once-found.ensures.leads (checked_after t n c.loop-root.steps) (here_on h x))

pub loop-root-preserved : goal.loop-root-preserved
loop-root-preserved g c = record {
  valid = c.check_once-found.ensures.valid;
  later = c.check_once-found.ensures.later;
  same = g.W.Words.same_on _ _ _ c.loop-root.invariant.same c.check_once-found.ensures.same;
  rest = omega (arith, c.loop-root.invariant.rest, c.check_once-found.ensures.rest);
  leads = λ t h.
      let (n, x) = c.loop-root.invariant.leads t h in
      checks_more t c.args.index c.args.root c.args.first c.loop-root.link c.check_once-found.result c.args.post.now n c.loop-root.steps (sym c.is_over.ensures ∙ c.if-is_over.false) x (c.check_once-found.ensures.leads (checked_after t n c.loop-root.steps) (here_on h x));
}
