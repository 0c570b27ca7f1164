-- The word's number is the first one's and the place.
use Rattle.std.proofs.Common.{ap, arith, ◌+◌, ◌∙◌, ◌<◌, ◌^◌, ◌≤◌, ℕ, subst, sym}
use Rattle.wfe_core.specs.words.Place.{first_claim, number}
use Rattle.wfe_core.specs.words.Place.Place.{Row}
use Rattle.wfe_core.specs.declared.op.Op.{Op}
use Rattle.wfe_core.specs.declared.op.Op.TheVariants as ops
use Rattle.wfe_drive_cells.proofs.Lying.{row_dense}
use Rattle.wfe_drive_cells.specs.Spots.{located}
use Rattle.wfe_drive_words.proofs.Cells.{cell_fits, cell_is}
use Rattle.wfe_drive_words.proofs.path.load_cell.Goals as goal

pub overflow_add-word : goal.overflow_add-word
overflow_add-word c =
    let fits : number c.args.post.now.layout (Row c.args._slot 0) + c.args.place < 2 ^ 32 = cell_fits c.args.post.now.layout c.args._slot c.args.place c.requires.valid.layout c.requires.there in
    omega (arith, fits, c.requires.first)

pub dense-requires-clause-from : goal.dense-requires-clause-from
dense-requires-clause-from c = omega (arith, row_dense c.args.post.now.layout c.args._slot c.args.place, cell_is c.args.post.now.layout c.args._slot c.args.place, c.requires.first)

pub returns : goal.returns
returns c =
    c.dense.ensures ∙ ap (λ (op : Op). located c.args.post.now.layout op)
    (ap (λ (first : ℕ). ops.Load (first + c.args.place)) c.requires.first ∙ ap ops.Load (cell_is c.args.post.now.layout c.args._slot c.args.place))
