-- A seat that is taken off the end leaves the others, and its user is put after those before it.
use Rattle.std.proofs.Common.{None, ap, arith, length, refl, rules, [], ◌++◌, ◌∷◌, ◌≡◌}
use Rattle.std.proofs.lemmas.List.{length_push}
use Rattle.std.proofs.lemmas.List.Elements.{All-pop, All-push, All-same}
use Rattle.wfe_cells.specs.Reasons.{IsFresh, IsNew}
use Rattle.wfe_cells.specs.declared.wide.WideUser.{WideUser}
use Rattle.wfe_cells.proofs.wide.wide_users.Goals as goal

pub loop-seat-preserved : goal.loop-seat-preserved
loop-seat-preserved c =
    let table = c.args._shared.now in
    let i = c.loop-seat.invariant in
    let popped = All-pop (IsNew table) c.loop-seat.seats.items c.pop.new.self.items c.pop.result c.pop.ensures.items i.seats in
    let one : IsNew table c.in-Some.seat = rw c.in-Some.is at popped.1 in
    let user : WideUser = record { seat = c.in-Some.seat; spare = None } in
    let left : c.loop-seat.seats.items ≡ c.pop.new.self.items ++ c.in-Some.seat ∷ [] = rw c.in-Some.is at c.pop.ensures.items in
    let pushed : c.push.new.self.items ≡ c.loop-seat.users.items ++ user ∷ [] = search rules in
    record {
      users = All-same (IsFresh table) c.push.new.self.items (c.loop-seat.users.items ++ user ∷ []) pushed (All-push (IsFresh table) c.loop-seat.users.items user i.users (record { seat = one; spare = refl }));
      seats = popped.0;
      long = omega (arith, i.long, ap length left, length_push c.pop.new.self.items c.in-Some.seat, ap length pushed, length_push c.loop-seat.users.items user);
    }
