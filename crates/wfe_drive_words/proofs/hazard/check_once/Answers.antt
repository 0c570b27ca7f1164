-- Both steps are of the trial that the seat is in, whichever it is.
use Rattle.std.proofs.Common.{arith}
use Rattle.wfe_core.specs.Ready.{LinkFits}
use Rattle.wfe_drive_words.proofs.Hazards.{check_asks, checked, checks_by}
use Rattle.wfe_drive_words.proofs.hazard.check_once.Goals as goal

pub step-requires-2-clause-asks : goal.step-requires-2-clause-asks
step-requires-2-clause-asks g c =
    let (t, h) = c.requires.here in
    (_, check_asks t c.args.index c.args.root c.args.link c.args.post.now c.publish_as.result c.load_link.result c.step.result h c.publish_as.ensures c.step.ensures.steps c.load_link.ensures)

pub overflow_cast-result : goal.overflow_cast-result
overflow_cast-result g c =
    let (t, h) = c.requires.here in
    let s = checks_by t c.args.index c.args.root c.args.link c.args.post.now c.publish_as.result c.load_link.result c.step.result c.step-2.result h c.publish_as.ensures c.step.ensures.steps c.load_link.ensures c.step-2.ensures.steps in
    let fits : LinkFits c.args.post.now c.step-2.result = s.second.take.plausible in
    omega (arith, c.requires.own.bounds.slots)

pub returns-clause-fits : goal.returns-clause-fits
returns-clause-fits g c =
    let (t, h) = c.requires.here in
    let s = checks_by t c.args.index c.args.root c.args.link c.args.post.now c.publish_as.result c.load_link.result c.step.result c.step-2.result h c.publish_as.ensures c.step.ensures.steps c.load_link.ensures c.step-2.ensures.steps in
    s.second.take.plausible

pub returns-clause-few : goal.returns-clause-few
returns-clause-few g c = λ t h.
    let s = checks_by t c.args.index c.args.root c.args.link c.args.post.now c.publish_as.result c.load_link.result c.step.result c.step-2.result h c.publish_as.ensures c.step.ensures.steps c.load_link.ensures c.step-2.ensures.steps in
    s.first.few

pub returns-clause-leads : goal.returns-clause-leads
returns-clause-leads g c = λ t h.
    checked t c.args.index c.args.root c.args.link c.args.post.now c.step.result c.step-2.result
    (checks_by t c.args.index c.args.root c.args.link c.args.post.now c.publish_as.result c.load_link.result c.step.result c.step-2.result h c.publish_as.ensures c.step.ensures.steps c.load_link.ensures c.step-2.ensures.steps)
