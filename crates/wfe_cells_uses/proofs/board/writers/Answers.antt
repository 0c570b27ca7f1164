-- A user that is taken off the end leaves the others, and its writer is put after those before it.
use Rattle.std.proofs.Common.{rules, [], ◌++◌, ◌∷◌}
use Rattle.std.proofs.lemmas.List.Elements.{All-pop, All-push, All-same}
use Rattle.wfe_cells.specs.declared.wide.WideUser.{WideUser}
use Rattle.wfe_table.specs.Public.{IsOf}
use Rattle.wfe_cells_uses.specs.declared.board.Writer.{Writer}
use Rattle.wfe_cells_uses.proofs.board.writers.Goals as goal

pub loop-user-preserved : goal.loop-user-preserved
loop-user-preserved c =
    let table = c.args._cells.now.table in
    let popped = All-pop (λ (user : WideUser). IsOf user.seat table) c.loop-user.users.items c.pop.new.self.items c.pop.result c.pop.ensures.items c.loop-user.invariant.users in
    let one : IsOf c.in-Some.user.seat table = rw c.in-Some.is at popped.1 in
    let writer : Writer = record { user = c.in-Some.user; tried = 0; torn = 0 } in
    record {
      writers = All-same (λ (w : Writer). IsOf w.user.seat table) c.push.new.self.items (c.loop-user.writers.items ++ writer ∷ []) (search rules) (All-push (λ (w : Writer). IsOf w.user.seat table) c.loop-user.writers.items writer c.loop-user.invariant.writers one);
      users = popped.0;
    }
