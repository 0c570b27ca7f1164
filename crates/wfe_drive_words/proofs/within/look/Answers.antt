-- Each step is of the protection that the seat is in, whichever it is.
use Rattle.std.proofs.Common.{arith}
use Rattle.wfe_core.specs.Ready.{EraFits, LinkFits}
use Rattle.wfe_drive_words.proofs.Looks.{look_asks, looks_by, passes_upper, raise_asks, raised, stands_within, upper_asks}
use Rattle.wfe_drive_words.proofs.within.look.Goals as goal

pub any_step-link-requires-clause-asks : goal.any_step-link-requires-clause-asks
any_step-link-requires-clause-asks g c =
    let (t, index, h) = c.requires.here in
    (_, look_asks t index c.args.root c.args.lo c.args.hi c.args.post.now c.load_link.result h c.load_link.ensures)

pub overflow_cast-link : goal.overflow_cast-link
overflow_cast-link g c =
    let (t, index, h) = c.requires.here in
    let fits : LinkFits c.args.post.now c.any_step-link.result = (c.any_step-link.ensures.steps _ (look_asks t index c.args.root c.args.lo c.args.hi c.args.post.now c.load_link.result h c.load_link.ensures)).take.plausible in
    omega (arith, fits, c.requires.own.bounds.slots)

pub step-era-requires-clause-asks : goal.step-era-requires-clause-asks
step-era-requires-clause-asks g c =
    let (t, index, h) = c.requires.here in
    (_, upper_asks t index c.args.root c.args.lo c.args.hi c.args.post.now c.load_link.result c.load_clock.result c.any_step-link.result h c.load_link.ensures c.any_step-link.ensures.steps c.load_clock.ensures)

pub overflow_cast-era : goal.overflow_cast-era
overflow_cast-era g c =
    let (t, index, h) = c.requires.here in
    let s = looks_by t index c.args.root c.args.lo c.args.hi c.args.post.now c.load_link.result c.load_clock.result c.any_step-link.result c.step-era.result h c.load_link.ensures c.any_step-link.ensures.steps c.load_clock.ensures c.step-era.ensures.steps in
    let fits : EraFits c.step-era.result = s.second.take.plausible in
    omega (arith, fits.1)

pub returns-then-era-hi-clause-fits : goal.returns-then-era-hi-clause-fits
returns-then-era-hi-clause-fits g c =
    let (t, index, h) = c.requires.here in
    let s = looks_by t index c.args.root c.args.lo c.args.hi c.args.post.now c.load_link.result c.load_clock.result c.any_step-link.result c.step-era.result h c.load_link.ensures c.any_step-link.ensures.steps c.load_clock.ensures c.step-era.ensures.steps in
    s.first.take.plausible

pub returns-then-era-hi-clause-few : goal.returns-then-era-hi-clause-few
returns-then-era-hi-clause-few g c = λ t index h.
    let s = looks_by t index c.args.root c.args.lo c.args.hi c.args.post.now c.load_link.result c.load_clock.result c.any_step-link.result c.step-era.result h c.load_link.ensures c.any_step-link.ensures.steps c.load_clock.ensures c.step-era.ensures.steps in
    s.first.few

pub returns-then-era-hi-clause-leads : goal.returns-then-era-hi-clause-leads
returns-then-era-hi-clause-leads g c = λ t index h.
    let s = looks_by t index c.args.root c.args.lo c.args.hi c.args.post.now c.load_link.result c.load_clock.result c.any_step-link.result c.step-era.result h c.load_link.ensures c.any_step-link.ensures.steps c.load_clock.ensures c.step-era.ensures.steps in
    stands_within t index c.args.root c.args.lo c.args.hi c.args.post.now c.any_step-link.result c.step-era.result c.if-era-hi.true s

pub step-requires-clause-asks : goal.step-requires-clause-asks
step-requires-clause-asks g c =
    let (t, index, h) = c.requires.here in
    let s = looks_by t index c.args.root c.args.lo c.args.hi c.args.post.now c.load_link.result c.load_clock.result c.any_step-link.result c.step-era.result h c.load_link.ensures c.any_step-link.ensures.steps c.load_clock.ensures c.step-era.ensures.steps in
    (_, raise_asks t index c.args.root c.args.lo c.args.hi c.step-era.result c.args.post.now c.store_span.result h (passes_upper t index c.args.root c.args.lo c.args.hi c.args.post.now c.any_step-link.result c.step-era.result c.if-era-hi.false s) c.store_span.ensures)

pub returns-clause-few : goal.returns-clause-few
returns-clause-few g c = λ t index h.
    let s = looks_by t index c.args.root c.args.lo c.args.hi c.args.post.now c.load_link.result c.load_clock.result c.any_step-link.result c.step-era.result h c.load_link.ensures c.any_step-link.ensures.steps c.load_clock.ensures c.step-era.ensures.steps in
    s.first.few

pub returns-clause-leads : goal.returns-clause-leads
returns-clause-leads g c = λ t index h.
    let s = looks_by t index c.args.root c.args.lo c.args.hi c.args.post.now c.load_link.result c.load_clock.result c.any_step-link.result c.step-era.result h c.load_link.ensures c.any_step-link.ensures.steps c.load_clock.ensures c.step-era.ensures.steps in
    let x = passes_upper t index c.args.root c.args.lo c.args.hi c.args.post.now c.any_step-link.result c.step-era.result c.if-era-hi.false s in
    let asks = raise_asks t index c.args.root c.args.lo c.args.hi c.step-era.result c.args.post.now c.store_span.result h x c.store_span.ensures in
    raised t index c.args.root c.args.lo c.args.hi c.step-era.result c.args.post.now c.step.result x (c.step.ensures.steps _ asks)

pub returns-clause-same : goal.returns-clause-same
returns-clause-same g c = g.W.Words.same_on _ _ _ (g.W.Words.same_on _ _ _ c.any_step-link.ensures.same c.step-era.ensures.same) c.step.ensures.same
