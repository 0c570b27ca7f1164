-- With each place word 0 the table is as it was.
use Rattle.std.proofs.Common.{List, ap, subst, sym, true, ℕ, ◌∙◌, ◌≡◌}
use Rattle.wfe_drive_cells.specs.Operations.{word_in}
use Rattle.wfe_drive_cells.specs.Unit.{TableView}
use Rattle.wfe_drive.specs.Bare.{bare_words, is_place}
use Rattle.wfe_drive.specs.Reached.{IsReached}
use Rattle.wfe_drive.proofs.Bare.{place_performed}
use Rattle.wfe_drive.proofs.rig.Rig.place_unit.Goals as goal

pub invariant_of-self : goal.invariant_of-self
invariant_of-self g c =
    let old : TableView = record { layout = c.self.inside.layout; words = g.C.Cells.words c.self.inside.cells; seats = c.self.inside.seats.items } in
    let on : is_place old.layout (word_in c.args.op) ≡ true = ap (λ (table : TableView). is_place table.layout (word_in c.args.op)) c.self.view_is ∙ c.requires.place in
    subst (λ (list : List ℕ). IsReached (record { layout = old.layout; words = list; seats = old.seats }))
    (sym (ap (bare_words old.layout) c.perform.ensures.words ∙ place_performed old.layout old.words c.args.op on)) c.self.invariant
