-- The seat has left as its handle has.
use Rattle.std.proofs.Common.{ap, length, subst, sym, ◌∙◌, ◌≡◌}
use Rattle.wfe_core.specs.Locals.{Local}
use Rattle.wfe_core.specs.Valid.{IsValid}
use Rattle.wfe_core.specs.defs.declared.call.Answer.TheVariants as answers
use Rattle.wfe_core.specs.defs.declared.call.Call.TheVariants as calls
use Rattle.wfe_drive_call.proofs.drive_words.Histories.{may_ask}
use Rattle.wfe_drive_rule.specs.drive_cells.Unit.{SeatView}
use Rattle.wfe_drive_rule.specs.Views.{own, standing}
use Rattle.wfe_table.specs.Calls.{IsMade}
use Rattle.wfe_table.specs.Public.{SeatNow}
use Rattle.wfe_table.proofs.Made.{made_by, rests_as, stands_at}
use Rattle.wfe_table.proofs.TableWords.{comes_standing}
use Rattle.wfe_table.proofs.seat.Seat.leave.Goals as goal

pub leave_on-requires-clause-valid : goal.leave_on-requires-clause-valid
leave_on-requires-clause-valid c =
    let i = c.self.invariant in
    let handle = c.self.inside.handle.me in
    subst IsValid (ap (λ (l : Local). l.post) (stands_at handle i.resting) ∙ ap (λ (v : SeatView). v.post) i.here) (may_ask (standing handle) (comes_standing _ _ _ i.seated)).valid

pub returns-clause-made : goal.returns-clause-made
returns-clause-made c =
    let key = c.args.ledger.now.key in
    let i = c.self.invariant in
    let is : c.self.inside.post.layout ≡ key = sym (ap (λ (v : SeatView). v.post.layout) i.here) ∙ ap (λ (s : SeatNow). s.track.local.post.layout) c.self.view_is ∙ c.requires.layout in
    let d = c.leave_on.ensures.departed in
    let old : SeatNow = record { table = c.self.inside.handle.table_id; track = own c.self.inside.handle.me.0 } in
    let gone : SeatNow = record { table = c.leave_on.new.handle.table_id; track = own c.leave_on.new.handle.me.0 } in
    let made = made_by key old gone calls.Leave (answers.Left (length old.track.local.desk.list)) d.ops d.more (rests_as _ _ _ _ i.seated i.resting is) c.leave_on.ensures.bare.tracked d.ends d.grows in
    subst (λ (s : SeatNow). IsMade key s c.new.result calls.Leave (answers.Left (length s.track.local.desk.list))) c.self.view_is
    (subst (λ (s : SeatNow). IsMade key old s calls.Leave (answers.Left (length old.track.local.desk.list))) (sym c.new.ensures) made)
