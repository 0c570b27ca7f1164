-- What was written is shown by the past that the news tell.
use Rattle.std.proofs.Common.{List, ap, subst, sym, ◌∙◌}
use Rattle.wfe_cells.specs.Wide.{IsShown}
use Rattle.wfe_table.specs.Public.{TableNow}
use Rattle.wfe_table.specs.history.History.{Item}
use Rattle.wfe_cells_uses.proofs.board.write_and_tell.Goals as goal

pub returns-in-Ok-clause-told : goal.returns-in-Ok-clause-told
returns-in-Ok-clause-told c =
    let cells = c.args.cells.now in
    let news = c.news.ensures.news in
    record {
      table = news.0 ∙ ap (λ (shared : TableNow). shared.table) c.shared.ensures;
      shown = subst (λ (past : List Item). IsShown cells.table.layout past c.args.seen.cell c.in-Ok.seen c.args.words.now) (sym news.1) c.in-Ok.ensures.shown;
    }
