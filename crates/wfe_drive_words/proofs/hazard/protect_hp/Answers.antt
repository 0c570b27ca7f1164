-- The link is loaded, and where it is not null then come the checks.
use Rattle.std.proofs.Common.{arith}
use Rattle.wfe_core.specs.Ready.{LinkFits}
use Rattle.wfe_drive_words.proofs.Hazards.{checked_on, first_loads, first_null, first_published}
use Rattle.wfe_drive_words.proofs.Leading.{here_on}
use Rattle.wfe_drive_words.proofs.Trying.{once}
use Rattle.wfe_drive_words.proofs.hazard.protect_hp.Goals as goal

pub overflow_cast-link : goal.overflow_cast-link
overflow_cast-link g c =
    let (t, h) = c.requires.here in
    let fits : LinkFits c.args.post.now c.any_step-link.result = (first_loads t c.args.index c.args.root c.args.post.now c.load_link.result c.any_step-link.result h c.load_link.ensures c.any_step-link.ensures.steps).take.plausible in
    omega (arith, c.requires.own.bounds.slots)

pub returns-then-link-eq0-clause-leads : goal.returns-then-link-eq0-clause-leads
returns-then-link-eq0-clause-leads g c = λ t h.
    first_null t c.args.index c.args.root c.args.post.now c.load_link.result c.any_step-link.result h c.load_link.ensures c.any_step-link.ensures.steps c.if-link-eq0.true

pub check_on-checked-requires-clause-here : goal.check_on-checked-requires-clause-here
check_on-checked-requires-clause-here g c =
    let (t, h) = c.requires.here in
    (once t, here_on h (first_published t c.args.index c.args.root c.args.post.now c.load_link.result c.any_step-link.result h c.load_link.ensures c.any_step-link.ensures.steps c.if-link-eq0.false))

pub returns-clause-leads : goal.returns-clause-leads
returns-clause-leads g c = λ t h.
    let x = first_published t c.args.index c.args.root c.args.post.now c.load_link.result c.any_step-link.result h c.load_link.ensures c.any_step-link.ensures.steps c.if-link-eq0.false in
    checked_on t c.args.index c.args.root c.args.post.now c.any_step-link.result c.check_on-checked.result x (c.check_on-checked.ensures.leads (once t) (here_on h x))
