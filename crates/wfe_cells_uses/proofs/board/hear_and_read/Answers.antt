-- What was heard of is read at its version, or something later.
use Rattle.std.proofs.Common.{subst, sym, ◌∙◌}
use Rattle.wfe_table.specs.Hearing.{IsAware}
use Rattle.wfe_table.specs.Public.{TableNow}
use Rattle.wfe_cells_uses.proofs.Boards.{whole}
use Rattle.wfe_cells_uses.proofs.board.hear_and_read.Goals as goal

pub returns-in-Some-clause-whole : goal.returns-in-Some-clause-whole
returns-in-Some-clause-whole c =
    let cells = c.args.cells.now in
    let told = c.args.told in
    let layout = cells.table.layout in
    let found = c.in-Some.ensures in
    let aware : IsAware layout c.args.seat.now c.hear.new.seat told.news.past = subst (λ (table : TableNow). IsAware table.layout c.args.seat.now c.hear.new.seat told.news.past) c.shared.ensures c.hear.ensures.aware in
    whole layout c.args.seat.now c.hear.new.seat c.load.new.seat told.news.past found.quiet.later.past.0 c.args.cell told.seen c.in-Some.seen c.args._words.now c.load.new.words c.requires.some c.requires.told.shown aware found.quiet.later.past.1 found.shown found.current (c.requires.same ∙ sym found.length)
