-- Both steps are of the interval that begins.
use Rattle.std.proofs.Common.{arith}
use Rattle.wfe_core.specs.Ready.{EraFits}
use Rattle.wfe_drive_words.proofs.Endings.{lower_asks, span_asks, span_begun}
use Rattle.wfe_drive_words.proofs.get_span.begin_span.Goals as goal

pub any_step-era-requires-clause-asks : goal.any_step-era-requires-clause-asks
any_step-era-requires-clause-asks g c =
    let (task, desk, steps, h) = c.requires.here in
    (_, lower_asks task desk c.args.post.now steps c.load_clock.result h c.load_clock.ensures)

pub overflow_cast-era : goal.overflow_cast-era
overflow_cast-era g c =
    let (task, desk, steps, h) = c.requires.here in
    let fits : EraFits c.any_step-era.result = (c.any_step-era.ensures.steps _ (lower_asks task desk c.args.post.now steps c.load_clock.result h c.load_clock.ensures)).take.plausible in
    omega (arith, fits.1)

pub step-requires-clause-asks : goal.step-requires-clause-asks
step-requires-clause-asks g c =
    let (task, desk, steps, h) = c.requires.here in
    (_, span_asks task desk c.args.post.now steps c.any_step-era.result c.load_clock.result c.store_span.result h c.load_clock.ensures c.any_step-era.ensures.steps c.store_span.ensures)

pub returns-clause-leads : goal.returns-clause-leads
returns-clause-leads g c = λ task desk steps h.
    span_begun task desk c.args.post.now steps c.any_step-era.result c.load_clock.result c.store_span.result c.step.result h c.load_clock.ensures c.any_step-era.ensures.steps c.store_span.ensures c.step.ensures.steps
