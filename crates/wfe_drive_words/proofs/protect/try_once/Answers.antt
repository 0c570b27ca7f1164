-- Each step is of the trial that the seat is in, whichever it is.
use Rattle.std.proofs.Common.{arith}
use Rattle.wfe_core.specs.Ready.{EraFits, LinkFits}
use Rattle.wfe_drive_words.proofs.Trying.{clock_asks, held, link_asks, link_fits, moved, tries_by}
use Rattle.wfe_drive_words.proofs.protect.try_once.Goals as goal

pub step-link-requires-2-clause-asks : goal.step-link-requires-2-clause-asks
step-link-requires-2-clause-asks g c =
    let (t, p) = c.requires.here in
    (_, link_asks t c.args.index c.args.root c.args.era c.args.post.now c.publish.result c.load_link.result c.step-link.result p c.publish.ensures c.step-link.ensures.steps c.load_link.ensures)

pub step-seen-requires-clause-asks : goal.step-seen-requires-clause-asks
step-seen-requires-clause-asks g c =
    let (t, p) = c.requires.here in
    (_, clock_asks t c.args.index c.args.root c.args.era c.args.post.now c.publish.result c.load_link.result c.load_clock.result c.step-link.result c.step-link-2.result p c.publish.ensures c.step-link.ensures.steps c.load_link.ensures c.step-link-2.ensures.steps c.load_clock.ensures)

pub returns-then-seen-era-clause-fits : goal.returns-then-seen-era-clause-fits
returns-then-seen-era-clause-fits g c =
    let (t, p) = c.requires.here in
    let s = tries_by t c.args.index c.args.root c.args.era c.args.post.now c.publish.result c.load_link.result c.load_clock.result c.step-link.result c.step-link-2.result c.step-seen.result p c.publish.ensures c.step-link.ensures.steps c.load_link.ensures c.step-link-2.ensures.steps c.load_clock.ensures c.step-seen.ensures.steps in
    s.second.take.plausible

pub returns-then-seen-era-clause-few : goal.returns-then-seen-era-clause-few
returns-then-seen-era-clause-few g c = λ t p.
    let s = tries_by t c.args.index c.args.root c.args.era c.args.post.now c.publish.result c.load_link.result c.load_clock.result c.step-link.result c.step-link-2.result c.step-seen.result p c.publish.ensures c.step-link.ensures.steps c.load_link.ensures c.step-link-2.ensures.steps c.load_clock.ensures c.step-seen.ensures.steps in
    s.first.few

pub returns-then-seen-era-clause-leads : goal.returns-then-seen-era-clause-leads
returns-then-seen-era-clause-leads g c = λ t p.
    let s = tries_by t c.args.index c.args.root c.args.era c.args.post.now c.publish.result c.load_link.result c.load_clock.result c.step-link.result c.step-link-2.result c.step-seen.result p c.publish.ensures c.step-link.ensures.steps c.load_link.ensures c.step-link-2.ensures.steps c.load_clock.ensures c.step-seen.ensures.steps in
    held t c.args.index c.args.root c.args.era c.args.post.now c.step-link.result c.step-link-2.result c.step-seen.result c.if-seen-era.true s

pub returns-clause-few : goal.returns-clause-few
returns-clause-few g c = λ t p.
    let s = tries_by t c.args.index c.args.root c.args.era c.args.post.now c.publish.result c.load_link.result c.load_clock.result c.step-link.result c.step-link-2.result c.step-seen.result p c.publish.ensures c.step-link.ensures.steps c.load_link.ensures c.step-link-2.ensures.steps c.load_clock.ensures c.step-seen.ensures.steps in
    s.first.few

pub returns-clause-leads : goal.returns-clause-leads
returns-clause-leads g c = λ t p.
    let s = tries_by t c.args.index c.args.root c.args.era c.args.post.now c.publish.result c.load_link.result c.load_clock.result c.step-link.result c.step-link-2.result c.step-seen.result p c.publish.ensures c.step-link.ensures.steps c.load_link.ensures c.step-link-2.ensures.steps c.load_clock.ensures c.step-seen.ensures.steps in
    moved t c.args.index c.args.root c.args.era c.args.post.now c.step-link.result c.step-link-2.result c.step-seen.result c.if-seen-era.false s

pub overflow_cast-link : goal.overflow_cast-link
overflow_cast-link g c =
    let (t, p) = c.requires.here in
    let fits : LinkFits c.args.post.now c.step-link-2.result = link_fits t c.args.index c.args.root c.args.era c.args.post.now c.publish.result c.load_link.result c.step-link.result c.step-link-2.result p c.publish.ensures c.step-link.ensures.steps c.load_link.ensures c.step-link-2.ensures.steps in
    omega (arith, c.requires.own.bounds.slots)

pub overflow_cast-result : goal.overflow_cast-result
overflow_cast-result g c =
    let (t, p) = c.requires.here in
    let s = tries_by t c.args.index c.args.root c.args.era c.args.post.now c.publish.result c.load_link.result c.load_clock.result c.step-link.result c.step-link-2.result c.step-seen.result p c.publish.ensures c.step-link.ensures.steps c.load_link.ensures c.step-link-2.ensures.steps c.load_clock.ensures c.step-seen.ensures.steps in
    let fits : EraFits c.step-seen.result = s.third.take.plausible in
    omega (arith, fits.1)

pub returns-then-seen-era-clause-same : goal.returns-then-seen-era-clause-same
returns-then-seen-era-clause-same g c = g.W.Words.same_on _ _ _ c.step-link.ensures.same (g.W.Words.same_on _ _ _ c.step-link-2.ensures.same c.step-seen.ensures.same)

pub returns-clause-same : goal.returns-clause-same
returns-clause-same g c = g.W.Words.same_on _ _ _ c.step-link.ensures.same (g.W.Words.same_on _ _ _ c.step-link-2.ensures.same c.step-seen.ensures.same)
