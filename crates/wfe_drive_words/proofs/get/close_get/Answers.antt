-- The index is cleared, and the answer is what was found.
use Rattle.std.proofs.Common.{ap, arith, sym, ◌+◌, ◌<◌, ◌^◌, ◌∙◌}
use Rattle.wfe_core.specs.Rounds.{scheme_of}
use Rattle.wfe_core.specs.words.Schemes.{publishes_rows}
use Rattle.wfe_core.specs.DeskHeld.{desk_of}
use Rattle.wfe_drive_words.proofs.Getting.{clear_asks, clear_stores, closed_by}
use Rattle.wfe_drive_words.proofs.Leading.{closes_with}
use Rattle.wfe_drive_words.proofs.get.close_get.Goals as goal

pub returns-clause-closes : goal.returns-clause-closes
returns-clause-closes g c = λ key bucket link h.
    let asks = clear_asks key c.args.post.now bucket link (desk_of c.args.desk.now) (c.args.post.now.steps + c.args.before) c.args.found c.publish_as.result h (clear_stores c.args.place.now c.args.post.now 0 c.ROWS.result c.publish_as.result c.requires.place (c.ROWS.ensures ∙ g.P.ByIndex.rows ∙ ap publishes_rows (sym (ap scheme_of c.requires.place ∙ c.requires.scheme))) c.publish_as.ensures) in
    closes_with (sym c.answer_of.ensures)
    (closed_by key c.args.post.now bucket link c.args.desk.now c.note_steps.new.desk (c.args.post.now.steps + c.args.before) c.args.found c.step.result c.requires.clears (ap desk_of c.note_steps.ensures) (c.step.ensures.steps _ asks))

pub overflow_add-post : goal.overflow_add-post
overflow_add-post g c =
    let (key, bucket, link, h) = c.requires.here in
    let asks = clear_asks key c.args.post.now bucket link (desk_of c.args.desk.now) (c.args.post.now.steps + c.args.before) c.args.found c.publish_as.result h (clear_stores c.args.place.now c.args.post.now 0 c.ROWS.result c.publish_as.result c.requires.place (c.ROWS.ensures ∙ g.P.ByIndex.rows ∙ ap publishes_rows (sym (ap scheme_of c.requires.place ∙ c.requires.scheme))) c.publish_as.ensures) in
    let few : c.args.post.now.steps + c.args.before + c.args.found.steps < 2 ^ 62 = (c.step.ensures.steps _ asks).few in
    omega (arith, few)

pub overflow_add-post-2 : goal.overflow_add-post-2
overflow_add-post-2 g c =
    let (key, bucket, link, h) = c.requires.here in
    let asks = clear_asks key c.args.post.now bucket link (desk_of c.args.desk.now) (c.args.post.now.steps + c.args.before) c.args.found c.publish_as.result h (clear_stores c.args.place.now c.args.post.now 0 c.ROWS.result c.publish_as.result c.requires.place (c.ROWS.ensures ∙ g.P.ByIndex.rows ∙ ap publishes_rows (sym (ap scheme_of c.requires.place ∙ c.requires.scheme))) c.publish_as.ensures) in
    let few : c.args.post.now.steps + c.args.before + c.args.found.steps < 2 ^ 62 = (c.step.ensures.steps _ asks).few in
    omega (arith, few)

pub overflow_add-post-3 : goal.overflow_add-post-3
overflow_add-post-3 g c =
    let (key, bucket, link, h) = c.requires.here in
    let asks = clear_asks key c.args.post.now bucket link (desk_of c.args.desk.now) (c.args.post.now.steps + c.args.before) c.args.found c.publish_as.result h (clear_stores c.args.place.now c.args.post.now 0 c.ROWS.result c.publish_as.result c.requires.place (c.ROWS.ensures ∙ g.P.ByIndex.rows ∙ ap publishes_rows (sym (ap scheme_of c.requires.place ∙ c.requires.scheme))) c.publish_as.ensures) in
    let few : c.args.post.now.steps + c.args.before + c.args.found.steps < 2 ^ 62 = (c.step.ensures.steps _ asks).few in
    omega (arith, few)
