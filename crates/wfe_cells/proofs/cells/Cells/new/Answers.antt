use Rattle.std.proofs.lemmas.List.Elements.{All-weaker}
use Rattle.wfe_table.specs.Public.{IsOf}
use Rattle.wfe_cells.specs.Calls.{IsFresh, UserNow}
use Rattle.wfe_cells.proofs.cells.Cells.new.Goals as goal

pub returns-in-Some-clause-of : goal.returns-in-Some-clause-of
returns-in-Some-clause-of c =
    let shared = c.in_ok-shared.shared in
    All-weaker (IsFresh shared) (λ (user : UserNow). IsOf user.seat shared) (λ user fresh. fresh.of) c.in-Some.users.items c.in-Some.ensures.fresh
