-- The clock is loaded, and then come the tries.
use Rattle.std.proofs.Common.{arith}
use Rattle.wfe_core.specs.Phases.{Endless}
use Rattle.wfe_core.specs.Ready.{EraFits}
use Rattle.wfe_drive_words.proofs.Tries.{first_try, guarded_on, load_asks}
use Rattle.wfe_drive_words.proofs.Trying.{once}
use Rattle.wfe_drive_words.proofs.protect.protect_he.Goals as goal

pub any_step-era-requires-clause-asks : goal.any_step-era-requires-clause-asks
any_step-era-requires-clause-asks g c =
    let (t, h) = c.requires.here in
    (_, load_asks t c.args.index c.args.root Endless c.args.post.now c.load_clock.result h c.load_clock.ensures)

pub overflow_cast-era : goal.overflow_cast-era
overflow_cast-era g c =
    let (t, h) = c.requires.here in
    let fits : EraFits c.any_step-era.result = (c.any_step-era.ensures.steps _ (load_asks t c.args.index c.args.root Endless c.args.post.now c.load_clock.result h c.load_clock.ensures)).take.plausible in
    omega (arith, fits.1)

pub try_on-tried-requires-clause-here : goal.try_on-tried-requires-clause-here
try_on-tried-requires-clause-here g c =
    let (t, h) = c.requires.here in
    (once t, first_try t c.args.index c.args.root c.args.post.now c.load_clock.result c.any_step-era.result h c.load_clock.ensures c.any_step-era.ensures.steps)

pub returns-clause-leads : goal.returns-clause-leads
returns-clause-leads g c = λ t h.
    guarded_on t c.args.index c.args.root c.args.post.now c.load_clock.result c.any_step-era.result c.try_on-tried.result h c.load_clock.ensures c.any_step-era.ensures.steps
    (c.try_on-tried.ensures.leads (once t) (first_try t c.args.index c.args.root c.args.post.now c.load_clock.result c.any_step-era.result h c.load_clock.ensures c.any_step-era.ensures.steps))
