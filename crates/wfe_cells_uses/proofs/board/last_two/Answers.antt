-- The second of the parts that are taken off the end is the cells' too.
use Rattle.std.proofs.lemmas.List.Elements.{All-pop}
use Rattle.wfe_cells.specs.declared.wide.WideUser.{WideUser}
use Rattle.wfe_table.specs.Public.{IsOf}
use Rattle.wfe_cells_uses.proofs.board.last_two.Goals as goal

pub returns-clause-second : goal.returns-clause-second
returns-clause-second c =
    let table = c.args._cells.now.table in
    let first = All-pop (λ (user : WideUser). IsOf user.seat table) c.args.users.items c.pop.new.self.items c.pop.result c.pop.ensures.items c.requires.of in
    let second = All-pop (λ (user : WideUser). IsOf user.seat table) c.pop.new.self.items c.pop-2.new.self.items c.pop-2.result c.pop-2.ensures.items first.0 in
    rw c.in_ok-second.was at second.1
