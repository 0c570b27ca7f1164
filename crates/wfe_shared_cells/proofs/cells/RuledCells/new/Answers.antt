-- A new part is of these cells.
use Rattle.std.proofs.lemmas.List.Elements.{All-weaker}
use Rattle.wfe_cells.specs.table.Public.{IsOf}
use Rattle.wfe_shared_cells.specs.Calls.{IsNewPart}
use Rattle.wfe_shared_cells.specs.declared.user.SharedUser.{SharedUser}
use Rattle.wfe_shared_cells.proofs.cells.RuledCells.new.Goals as goal

pub returns-in-Some-clause-of : goal.returns-in-Some-clause-of
returns-in-Some-clause-of g c =
    let cells = c.in-Ok.made.0 in
    All-weaker (λ (user : SharedUser). IsNewPart cells user.part) (λ (user : SharedUser). IsOf user.part.user.seat cells) (λ user new. new.user.of) c.in-Some.users.items c.in-Some.ensures.fresh
