-- A user that is taken off the end leaves the others, and its reader is put after those before it.
use Rattle.std.proofs.Common.{rules, subst, sym, [], ◌++◌, ◌∷◌}
use Rattle.std.proofs.lemmas.List.Elements.{All-pop, All-push, All-same}
use Rattle.wfe_cells.specs.Calls.{UserNow}
use Rattle.wfe_table.specs.Public.{IsOf}
use Rattle.wfe_cells_uses.specs.declared.cache.Reader.{Reader}
use Rattle.wfe_cells_uses.proofs.cache.readers.Goals as goal

pub loop-user-preserved : goal.loop-user-preserved
loop-user-preserved c =
    let cells = c.args._cells.now in
    let popped = All-pop (λ (user : UserNow). IsOf user.seat cells) c.loop-user.users.items c.pop.new.self.items c.pop.result c.pop.ensures.items c.loop-user.invariant.users in
    let one : IsOf c.in-Some.user.seat cells = rw c.in-Some.is at popped.1 in
    let reader : Reader = c.in_ok-reader.reader in
    let its : IsOf reader.user.seat cells = subst (λ (user : UserNow). IsOf user.seat cells) (sym c.in_ok-reader.ensures) one in
    record {
      readers = All-same (λ (r : Reader). IsOf r.user.seat cells) c.push.new.self.items (c.loop-user.readers.items ++ reader ∷ []) (search rules) (All-push (λ (r : Reader). IsOf r.user.seat cells) c.loop-user.readers.items reader c.loop-user.invariant.readers its);
      users = popped.0;
    }
