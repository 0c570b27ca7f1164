-- The user that is taken off the end is the cells'.
use Rattle.std.proofs.lemmas.List.Elements.{All-pop}
use Rattle.wfe_shared_cells.specs.declared.user.SharedUser.{SharedUser}
use Rattle.wfe_shared_cells.specs.cells.table.Public.{IsOf}
use Rattle.wfe_shared_uses.proofs.dropped.counted.Goals as goal

pub replace_all-requires-clause-of : goal.replace_all-requires-clause-of
replace_all-requires-clause-of c =
    let first = All-pop (λ (user : SharedUser). IsOf user.part.user.seat c.in-Ok.cells) c.in-Ok.users.items c.pop.new.self.items c.pop.result c.pop.ensures.items c.in-Ok.ensures.of in
    rw c.in_ok-user.was at first.1
