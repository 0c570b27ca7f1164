-- The clock is loaded, and then come the tries.
use Rattle.std.proofs.Common.{arith}
use Rattle.wfe_core.specs.Phases.{Failed}
use Rattle.wfe_core.specs.Ready.{EraFits}
use Rattle.wfe_drive_words.specs.Path.{asks_from}
use Rattle.wfe_drive_words.proofs.Askings.{asked_within, asked_without, asks_first}
use Rattle.wfe_drive_words.proofs.Leading.{here_on}
use Rattle.wfe_drive_words.proofs.Tries.{load_asks}
use Rattle.wfe_drive_words.proofs.Trying.{once}
use Rattle.wfe_drive_words.proofs.asking.protect_wfe.Goals as goal

pub any_step-era-requires-clause-asks : goal.any_step-era-requires-clause-asks
any_step-era-requires-clause-asks g c =
    let (t, h) = c.requires.here in
    (_, load_asks (asks_from t) c.args.index c.args.root (Failed 0) c.args.post.now c.load_clock.result h c.load_clock.ensures)

pub overflow_cast-era : goal.overflow_cast-era
overflow_cast-era g c =
    let (t, h) = c.requires.here in
    let fits : EraFits c.any_step-era.result = (c.any_step-era.ensures.steps _ (load_asks (asks_from t) c.args.index c.args.root (Failed 0) c.args.post.now c.load_clock.result h c.load_clock.ensures)).take.plausible in
    omega (arith, fits.1)

pub try_within-requires-clause-here : goal.try_within-requires-clause-here
try_within-requires-clause-here g c =
    let (t, h) = c.requires.here in
    (once t, here_on h (asks_first t c.args.index c.args.root c.args.post.now c.load_clock.result c.any_step-era.result h c.load_clock.ensures c.any_step-era.ensures.steps))

pub returns-in-Within-clause-leads : goal.returns-in-Within-clause-leads
returns-in-Within-clause-leads g c = λ t h.
    let x = asks_first t c.args.index c.args.root c.args.post.now c.load_clock.result c.any_step-era.result h c.load_clock.ensures c.any_step-era.ensures.steps in
    asked_within t c.args.index c.args.root c.args.post.now c.any_step-era.result c.in-Within.guarded x (c.in-Within.ensures.leads (once t) (here_on h x))

pub returns-in-Used-clause-leads : goal.returns-in-Used-clause-leads
returns-in-Used-clause-leads g c = λ t h.
    let x = asks_first t c.args.index c.args.root c.args.post.now c.load_clock.result c.any_step-era.result h c.load_clock.ensures c.any_step-era.ensures.steps in
    asked_without t c.args.index c.args.root c.args.post.now c.any_step-era.result c.in-Used.steps x (c.in-Used.ensures.leads (once t) (here_on h x))
