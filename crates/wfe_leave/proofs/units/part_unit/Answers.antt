-- Where nothing is left to let go the rig is as before; the word of the place is a place word of the table.
use Rattle.std.proofs.Common.{Bool, ap, length, ◌∙◌, ◌≡◌}
use Rattle.wfe_drive_cells.specs.Unit.{TableView}
use Rattle.wfe_drive.specs.Leaving.{after_clear}
use Rattle.wfe_leave.proofs.Words.{place_from, word_from}
use Rattle.wfe_leave.proofs.units.part_unit.Goals as goal

pub place_unit-requires-clause-there : goal.place_unit-requires-clause-there
place_unit-requires-clause-there g c =
    let is : c.clear_unit.new.self ≡ c.args.rig.now = c.clear_unit.ensures.table ∙ ap (λ (more : Bool). after_clear more c.args.rig.now c.args.seat) c.if-clear_unit.false in
    word_from c.args.layout c.args.rig.now.layout c.clear_unit.new.self.words c.args.seat c.place-word.result c.requires.layout c.place-word.ensures c.requires.seat (ap (λ (t : TableView). length t.words) is ∙ c.requires.words)

pub place_unit-requires-clause-place : goal.place_unit-requires-clause-place
place_unit-requires-clause-place g c =
    let is : c.clear_unit.new.self ≡ c.args.rig.now = c.clear_unit.ensures.table ∙ ap (λ (more : Bool). after_clear more c.args.rig.now c.args.seat) c.if-clear_unit.false in
    place_from c.args.layout c.args.rig.now.layout c.clear_unit.new.self.layout c.args.seat c.place-word.result c.requires.layout (ap (λ (t : TableView). t.layout) is) c.place-word.ensures c.requires.seat
