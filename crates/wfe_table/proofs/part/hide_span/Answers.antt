-- The interval is withdrawn in one step.
use Rattle.std.proofs.Common.{ap, refl, ℕ, ◌∙◌}
use Rattle.wfe_core.specs.Locals.{busy_in}
use Rattle.wfe_core.specs.declared.op.Op.TheVariants.{Store}
use Rattle.wfe_core.specs.words.declared.layout.Layout.{Layout}
use Rattle.wfe_drive_rule.specs.drive_cells.Spots.{spot}
use Rattle.wfe_drive_rule.specs.Views.{standing}
use Rattle.wfe_table.proofs.Parts.{asks_hide, has_seat, hidden_next, parting_later, parted_layout, parting_moves, parts_at, parts_on}
use Rattle.wfe_table.proofs.TableWords.{step_made}
use Rattle.wfe_table.proofs.part.hide_span.Goals as goal

pub interval-word-requires-clause-there : goal.interval-word-requires-clause-there
interval-word-requires-clause-there c = has_seat _ _ c.requires.valid.seat

pub step-requires-clause-busy : goal.step-requires-clause-busy
step-requires-clause-busy c = ap busy_in c.requires.parted.at

pub step-requires-clause-asks : goal.step-requires-clause-asks
step-requires-clause-asks c =
    let p = c.requires.parted in
    ap (λ (n : ℕ). Store n 0) c.interval-word.ensures ∙ asks_hide (standing c.args.handle.now.me) c.args.post.now p.at p.place

pub step-requires-clause-spot : goal.step-requires-clause-spot
step-requires-clause-spot c = c.spot_at-spot.ensures ∙ ap (λ (d : Layout). spot d c.interval-word.result) (parted_layout _ _ _ _ _ _ _ c.requires.parted)

pub step-requires-clause-seated : goal.step-requires-clause-seated
step-requires-clause-seated c = c.requires.parted.seated

pub step-requires-clause-later : goal.step-requires-clause-later
step-requires-clause-later c = parting_later _ _ _ _ _ _ _ c.requires.parted

pub step-requires-clause-moves : goal.step-requires-clause-moves
step-requires-clause-moves c = parting_moves _ _ _ _ _ _ _ c.requires.parted refl

pub returns-clause-parted : goal.returns-clause-parted
returns-clause-parted c =
    let p = c.requires.parted in
    let now = c.args.handle.now.me in
    let later = c.step.new.handle.me in
    let s = step_made _ _ c.step.result now later p.seated (ap busy_in p.at) c.step.ensures.told c.step.ensures.slot in
    let asked = asks_hide (standing now) c.args.post.now p.at p.place in
    parts_at _ _ _ _ _ _ _ _ (parts_on _ _ _ _ _ _ _ _ _ _ p refl asked s c.step.ensures.slot c.step.ensures.seated) (hidden_next c.step.result now later p.at s)
