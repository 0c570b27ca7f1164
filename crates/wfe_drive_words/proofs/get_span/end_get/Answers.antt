-- The interval ends, and the answer is what was found.
use Rattle.std.proofs.Common.{ap, arith, sym, ◌+◌, ◌<◌, ◌^◌}
use Rattle.wfe_core.specs.DeskHeld.{desk_of}
use Rattle.wfe_drive_words.specs.Path.{spanned}
use Rattle.wfe_drive_words.proofs.Endings.{ended_by, finish_asks}
use Rattle.wfe_drive_words.proofs.Leading.{closes_with}
use Rattle.wfe_drive_words.proofs.get_span.end_get.Goals as goal

pub step-requires-clause-asks : goal.step-requires-clause-asks
step-requires-clause-asks g c =
    let (key, lo, hi, h) = c.requires.here in
    (_, finish_asks key (spanned c.args.post.now lo hi) (desk_of c.args.desk.now) (c.args.post.now.steps + c.args.before) c.args.found c.store_none.result h c.store_none.ensures)

pub returns-clause-closes : goal.returns-clause-closes
returns-clause-closes g c = λ key lo hi h.
    let asks = finish_asks key (spanned c.args.post.now lo hi) (desk_of c.args.desk.now) (c.args.post.now.steps + c.args.before) c.args.found c.store_none.result h c.store_none.ensures in
    closes_with (sym c.answer_of.ensures)
    (ended_by key c.args.post.now lo hi c.args.desk.now c.note_steps.new.desk (c.args.post.now.steps + c.args.before) c.args.found c.step.result (ap desk_of c.note_steps.ensures) (c.step.ensures.steps _ asks))

pub overflow_add-post : goal.overflow_add-post
overflow_add-post g c =
    let (key, lo, hi, h) = c.requires.here in
    let asks = finish_asks key (spanned c.args.post.now lo hi) (desk_of c.args.desk.now) (c.args.post.now.steps + c.args.before) c.args.found c.store_none.result h c.store_none.ensures in
    let few : c.args.post.now.steps + c.args.before + c.args.found.steps < 2 ^ 62 = (c.step.ensures.steps _ asks).few in
    omega (arith, few)

pub overflow_add-post-2 : goal.overflow_add-post-2
overflow_add-post-2 g c =
    let (key, lo, hi, h) = c.requires.here in
    let asks = finish_asks key (spanned c.args.post.now lo hi) (desk_of c.args.desk.now) (c.args.post.now.steps + c.args.before) c.args.found c.store_none.result h c.store_none.ensures in
    let few : c.args.post.now.steps + c.args.before + c.args.found.steps < 2 ^ 62 = (c.step.ensures.steps _ asks).few in
    omega (arith, few)

pub overflow_add-post-3 : goal.overflow_add-post-3
overflow_add-post-3 g c =
    let (key, lo, hi, h) = c.requires.here in
    let asks = finish_asks key (spanned c.args.post.now lo hi) (desk_of c.args.desk.now) (c.args.post.now.steps + c.args.before) c.args.found c.store_none.result h c.store_none.ensures in
    let few : c.args.post.now.steps + c.args.before + c.args.found.steps < 2 ^ 62 = (c.step.ensures.steps _ asks).few in
    omega (arith, few)
