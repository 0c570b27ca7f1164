-- Whether a call is under way: the rig's, or one that the seat's part has.
use Rattle.std.proofs.Common.{Bool, ap, sym, ◌∙◌}
use Rattle.std.specs.Prelude.{if◌then◌else◌}
use Rattle.wfe_core.specs.Locals.{busy_in}
use Rattle.wfe_drive_cells.specs.Unit.{seat_at}
use Rattle.wfe_leave.specs.Parts.{is_open}
use Rattle.wfe_leave.proofs.Kept.{busy_from}
use Rattle.wfe_leave.proofs.rig.LeaveRig.busy.Goals as goal

pub returns-then-stays : goal.returns-then-stays
returns-then-stays g c =
    let b = busy_from c.self.inside.rig c.args.self.now c.self.inside.layout c.self.inside.parts.items c.args.seat c.index.result.now c.self.view_is c.self.invariant c.requires c.index.ensures in
    c.busy.ensures ∙ sym (b ∙ ap (λ (x : Bool). if x then busy_in (seat_at c.self.inside.rig c.args.seat).phase else is_open c.index.result.now) (sym c.stays.ensures ∙ c.if-stays.true))

pub returns-else-stays : goal.returns-else-stays
returns-else-stays g c =
    let b = busy_from c.self.inside.rig c.args.self.now c.self.inside.layout c.self.inside.parts.items c.args.seat c.index.result.now c.self.view_is c.self.invariant c.requires c.index.ensures in
    c.open.ensures ∙ sym (b ∙ ap (λ (x : Bool). if x then busy_in (seat_at c.self.inside.rig c.args.seat).phase else is_open c.index.result.now) (sym c.stays.ensures ∙ c.if-stays.false))
