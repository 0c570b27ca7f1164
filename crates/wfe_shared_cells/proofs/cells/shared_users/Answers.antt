-- A user that is taken off the end leaves the others, and its part is put after those before it.
use Rattle.std.proofs.Common.{ap, arith, length, refl, rules, [], ◌++◌, ◌∷◌, ◌≡◌}
use Rattle.std.proofs.lemmas.List.{length_push}
use Rattle.std.proofs.lemmas.List.Elements.{All-pop, All-push, All-same}
use Rattle.wfe_cells.specs.Calls.{IsFresh}
use Rattle.wfe_shared_cells.specs.Calls.{IsNewPart}
use Rattle.wfe_shared_cells.specs.declared.user.SharedUser.{SharedUser}
use Rattle.wfe_shared_cells.proofs.cells.shared_users.Goals as goal

pub loop-user-preserved : goal.loop-user-preserved
loop-user-preserved c =
    let cells = c.args._cells.now in
    let i = c.loop-user.invariant in
    let popped = All-pop (IsFresh cells) c.loop-user.users.items c.pop.new.self.items c.pop.result c.pop.ensures.items i.users in
    let one : IsFresh cells c.in-Some.user = rw c.in-Some.is at popped.1 in
    let left : c.loop-user.users.items ≡ c.pop.new.self.items ++ c.in-Some.user ∷ [] = rw c.in-Some.is at c.pop.ensures.items in
    let part : SharedUser = record { part = record { user = c.in-Some.user; count = 0 }; reading = record { one = tt } } in
    let pushed : c.push.new.self.items ≡ c.loop-user.all.items ++ part ∷ [] = search rules in
    record {
      all = All-same (λ (s : SharedUser). IsNewPart cells s.part) c.push.new.self.items (c.loop-user.all.items ++ part ∷ []) pushed (All-push (λ (s : SharedUser). IsNewPart cells s.part) c.loop-user.all.items part i.all (record { user = one; count = refl }));
      users = popped.0;
      long = omega (arith, i.long, ap length left, length_push c.pop.new.self.items c.in-Some.user, ap length pushed, length_push c.loop-user.all.items part);
    }
