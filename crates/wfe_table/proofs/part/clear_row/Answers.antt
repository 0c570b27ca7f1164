-- A row is let go in one step.
use Rattle.std.proofs.Common.{ap, refl, ℕ, ◌∙◌}
use Rattle.wfe_core.specs.Locals.{busy_in}
use Rattle.wfe_core.specs.declared.op.Op.TheVariants.{Store}
use Rattle.wfe_core.specs.words.Place.Place.{Index}
use Rattle.wfe_core.specs.words.Place.{number}
use Rattle.wfe_core.specs.words.declared.layout.Layout.{Layout}
use Rattle.wfe_drive_rule.specs.drive_cells.Spots.{spot}
use Rattle.wfe_drive_rule.specs.Views.{standing}
use Rattle.wfe_table.proofs.Parts.{asks_clear, cleared_next, fits_post, has_index, parting_later, parted_layout, parting_moves, parts_at, parts_on}
use Rattle.wfe_table.proofs.TableWords.{comes_standing, step_made}
use Rattle.wfe_table.proofs.part.clear_row.Goals as goal

pub index-word-requires-clause-there : goal.index-word-requires-clause-there
index-word-requires-clause-there c =
    let p = c.requires.parted.1 in
    has_index c.args.post.now.layout c.args.post.now.seat c.args.index c.requires.valid.seat (fits_post _ (comes_standing _ _ _ p.seated) c.args.rows c.args.index c.args.post.now p.at p.place)

pub shown_word-requires-clause-index : goal.shown_word-requires-clause-index
shown_word-requires-clause-index c =
    let p = c.requires.parted.1 in
    fits_post _ (comes_standing _ _ _ p.seated) c.args.rows c.args.index c.args.post.now p.at p.place

pub step-requires-clause-busy : goal.step-requires-clause-busy
step-requires-clause-busy c = let p = c.requires.parted.1 in ap busy_in p.at

pub step-requires-clause-asks : goal.step-requires-clause-asks
step-requires-clause-asks c =
    let p = c.requires.parted.1 in
    let post = c.args.post.now in
    ap (λ (n : ℕ). Store n c.shown_word.result) c.index-word.ensures ∙ ap (λ (n : ℕ). Store (number post.layout (Index post.seat c.args.index)) n) c.shown_word.ensures
    ∙ asks_clear c.args.rows c.args.index (standing c.args.handle.now.me) post p.at p.place p.tags

pub step-requires-clause-spot : goal.step-requires-clause-spot
step-requires-clause-spot c = c.spot_at-spot.ensures ∙ ap (λ (d : Layout). spot d c.index-word.result) (parted_layout _ _ _ _ _ _ _ c.requires.parted.1)

pub step-requires-clause-seated : goal.step-requires-clause-seated
step-requires-clause-seated c = let p = c.requires.parted.1 in p.seated

pub step-requires-clause-later : goal.step-requires-clause-later
step-requires-clause-later c = parting_later _ _ _ _ _ _ _ c.requires.parted.1

pub step-requires-clause-moves : goal.step-requires-clause-moves
step-requires-clause-moves c = parting_moves _ _ _ _ _ _ _ c.requires.parted.1 refl

pub returns-clause-parted : goal.returns-clause-parted
returns-clause-parted c = λ old p.
    let post = c.args.post.now in
    let now = c.args.handle.now.me in
    let later = c.step.new.handle.me in
    let s = step_made _ _ c.step.result now later p.seated (ap busy_in p.at) c.step.ensures.told c.step.ensures.slot in
    let asked = asks_clear c.args.rows c.args.index (standing now) post p.at p.place p.tags in
    parts_at _ _ _ _ _ _ _ _ (parts_on _ _ _ _ _ _ _ _ _ _ p refl asked s c.step.ensures.slot c.step.ensures.seated) (cleared_next c.args.rows c.args.index c.step.result now later p.at s).phase

pub returns-clause-stands : goal.returns-clause-stands
returns-clause-stands c =
    let p = c.requires.parted.1 in
    let now = c.args.handle.now.me in
    let later = c.step.new.handle.me in
    let s = step_made _ _ c.step.result now later p.seated (ap busy_in p.at) c.step.ensures.told c.step.ensures.slot in
    (cleared_next c.args.rows c.args.index c.step.result now later p.at s).rows
