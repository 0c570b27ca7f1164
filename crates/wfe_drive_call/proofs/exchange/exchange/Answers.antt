-- The exchange is made, or the root has moved.
use Rattle.std.proofs.Common.{arith, ◌<◌, ◌^◌}
use Rattle.wfe_core.specs.Calls.{ExchangeRoot}
use Rattle.wfe_core.specs.DeskHeld.{desk_of}
use Rattle.wfe_drive_call.specs.Changing.{kept_of}
use Rattle.wfe_drive_call.proofs.Swapping.{first_linked, lost, next_linked}
use Rattle.wfe_drive_call.proofs.RowReading.{work_asks}
use Rattle.wfe_drive_call.proofs.exchange.exchange.Goals as goal

pub step-found-requires-clause-asks : goal.step-found-requires-clause-asks
step-found-requires-clause-asks g c =
    let kept = kept_of c.args.kept.now in
    let desk = desk_of c.args._desk.now in
    let asks = work_asks kept (ExchangeRoot c.args.slot) c.args.post.now desk c.swap_root.result c.requires.here c.swap_root.ensures in
    (_, asks)

pub overflow_add-post : goal.overflow_add-post
overflow_add-post g c =
    let kept = kept_of c.args.kept.now in
    let desk = desk_of c.args._desk.now in
    let asks = work_asks kept (ExchangeRoot c.args.slot) c.args.post.now desk c.swap_root.result c.requires.here c.swap_root.ensures in
    let few : c.args.post.now.steps < 2 ^ 62 = (c.step-found.ensures.steps _ asks).few in
    omega (arith, few)

pub overflow_add-answer : goal.overflow_add-answer
overflow_add-answer g c =
    let kept = kept_of c.args.kept.now in
    let desk = desk_of c.args._desk.now in
    let asks = work_asks kept (ExchangeRoot c.args.slot) c.args.post.now desk c.swap_root.result c.requires.here c.swap_root.ensures in
    omega (arith, (c.step-found.ensures.steps _ asks).ask.ready.1.1, c.requires.own.bounds.versions)

pub returns-then-found-kept-clause-leads : goal.returns-then-found-kept-clause-leads
returns-then-found-kept-clause-leads g c =
    let kept = kept_of c.args.kept.now in
    let desk = desk_of c.args._desk.now in
    let asks = work_asks kept (ExchangeRoot c.args.slot) c.args.post.now desk c.swap_root.result c.requires.here c.swap_root.ensures in
    lost kept c.args.slot c.args.post.now desk c.step-found.result c.if-found-kept.true (c.step-found.ensures.steps _ asks)

pub returns-then-kept-eq0-clause-leads : goal.returns-then-kept-eq0-clause-leads
returns-then-kept-eq0-clause-leads g c =
    let kept = kept_of c.args.kept.now in
    let desk = desk_of c.args._desk.now in
    let asks = work_asks kept (ExchangeRoot c.args.slot) c.args.post.now desk c.swap_root.result c.requires.here c.swap_root.ensures in
    first_linked kept c.args.slot c.args.post.now desk c.step-found.result c.if-found-kept.false c.if-kept-eq0.true (c.step-found.ensures.steps _ asks)

pub returns-clause-leads : goal.returns-clause-leads
returns-clause-leads g c =
    let kept = kept_of c.args.kept.now in
    let desk = desk_of c.args._desk.now in
    let asks = work_asks kept (ExchangeRoot c.args.slot) c.args.post.now desk c.swap_root.result c.requires.here c.swap_root.ensures in
    next_linked kept c.args.slot c.args.post.now desk c.step-found.result c.if-found-kept.false c.if-kept-eq0.false (c.step-found.ensures.steps _ asks)
