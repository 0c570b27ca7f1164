-- Each look is of a protection that has made so many steps.
use Rattle.std.proofs.Common.{arith, ◌+◌, ◌<◌, ◌^◌}
use Rattle.wfe_drive_words.proofs.Leading.{here_on}
use Rattle.wfe_drive_words.proofs.Looks.{looking, looks_held, looks_more, looks_none, valid_steps}
use Rattle.wfe_core.specs.declared.post.Post.{Post}
use Rattle.wfe_core.specs.Phases.ProtectAt.{LoadWithin}
use Rattle.wfe_drive_words.specs.Path.{protecting, spanned}
use Rattle.wfe_drive_words.proofs.Makes.{may_ask_at}
use Rattle.wfe_drive_words.specs.Readiness.{MayAsk}
use Rattle.wfe_drive_words.proofs.within.protect_within.Goals as goal

pub loop-link-init : goal.loop-link-init
loop-link-init g c = record {
  valid = c.requires.valid;
  same = g.W.Words.same_self c.args.words.now;
  rest = omega arith;
  leads = λ t index h. looks_none (g.W.Words.at c.args.words.now) (g.W.Words.stands c.args.words.now) t index c.args.root c.args.lo c.args.hi c.args.post.now;
}

pub look-requires-clause-here : goal.look-requires-clause-here
look-requires-clause-here g c =
    let (t, index, h) = c.requires.here in
    let (n, x) = c.loop-link.invariant.leads t index h in
    (looking t n c.loop-link.steps, index, here_on h x)

pub overflow_add-result : goal.overflow_add-result
overflow_add-result g c =
    let (t, index, h) = c.requires.here in
    let (n, x) = c.loop-link.invariant.leads t index h in
    let few : t.steps + c.loop-link.steps < 2 ^ 62 = c.in-Stands.ensures.few (looking t n c.loop-link.steps) index (here_on h x) in
    omega (arith, few)

pub returns-in-Stands-clause-few : goal.returns-in-Stands-clause-few
returns-in-Stands-clause-few g c =
    let (t, index, h) = c.requires.here in
    let (n, x) = c.loop-link.invariant.leads t index h in
    let few : t.steps + c.loop-link.steps < 2 ^ 62 = c.in-Stands.ensures.few (looking t n c.loop-link.steps) index (here_on h x) in
    omega (arith, few)

pub returns-in-Stands-clause-leads : goal.returns-in-Stands-clause-leads
returns-in-Stands-clause-leads g c = λ t index h.
    let (n, x) = c.loop-link.invariant.leads t index h in
    looks_held t index c.args.root c.args.lo c.args.hi c.loop-link.era c.in-Stands.link c.args.post.now n c.loop-link.steps x (c.in-Stands.ensures.leads (looking t n c.loop-link.steps) index (here_on h x))

pub overflow_add-steps : goal.overflow_add-steps
overflow_add-steps g c =
    let (t, index, h) = c.requires.here in
    let (n, x) = c.loop-link.invariant.leads t index h in
    let few : t.steps + c.loop-link.steps < 2 ^ 62 = c.in-Raised.ensures.few (looking t n c.loop-link.steps) index (here_on h x) in
    omega (arith, few)

pub loop-link-preserved : goal.loop-link-preserved
loop-link-preserved g c = record {
  valid = c.look.ensures.valid;
  same = g.W.Words.same_on _ _ _ c.loop-link.invariant.same c.look.ensures.same;
  rest = omega (arith, c.loop-link.invariant.rest, c.look.ensures.rest);
  leads = λ t index h.
      let (n, x) = c.loop-link.invariant.leads t index h in
      looks_more t index c.args.root c.args.lo c.args.hi c.loop-link.era c.in-Raised.seen c.args.post.now n c.loop-link.steps x (c.in-Raised.ensures.leads (looking t n c.loop-link.steps) index (here_on h x));
}

pub returns-in-Stands-clause-raised : goal.returns-in-Stands-clause-raised
returns-in-Stands-clause-raised g c =
    let (t, index, h) = c.requires.here in
    let (n, x) = c.loop-link.invariant.leads t index h in
    let post : Post = spanned c.args.post.now c.args.lo c.loop-link.era in
    let there = here_on h x in
    let may : MayAsk (protecting (looking t n c.loop-link.steps) index c.args.root LoadWithin post) = may_ask_at there.local _ (g.W.Words.comes c.loop-link.words there.local c.loop-link.invariant.valid there.there) there.is in
    valid_steps (record post { steps = t.steps + c.loop-link.steps }) post.steps may.valid
