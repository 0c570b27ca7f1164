-- A seat that is taken off the end leaves the others, and its user is put after those before it.
use Rattle.std.proofs.Common.{ap, arith, length, rules, subst, sym, ◌++◌, ◌∷◌, ◌≡◌, []}
use Rattle.std.proofs.lemmas.List.{length_push}
use Rattle.std.proofs.lemmas.List.Elements.{All-pop, All-push, All-same}
use Rattle.wfe_table.specs.Public.{SeatNow}
use Rattle.wfe_cells.specs.Calls.{IsFresh}
use Rattle.wfe_cells.specs.Reasons.{IsNew}
use Rattle.wfe_cells.proofs.cells.users.Goals as goal

pub loop-seat-preserved : goal.loop-seat-preserved
loop-seat-preserved c =
    let shared = c.args.shared.now in
    let i = c.loop-seat.invariant in
    let popped = All-pop (IsNew shared) c.loop-seat.seats.items c.pop.new.self.items c.pop.result c.pop.ensures.items i.seats in
    let one : IsNew shared c.in-Some.seat = rw c.in-Some.is at popped.1 in
    let made = c.in-Ok.ensures in
    let user = c.in-Ok.user in
    let left : c.loop-seat.seats.items ≡ c.pop.new.self.items ++ c.in-Some.seat ∷ [] = rw c.in-Some.is at c.pop.ensures.items in
    let pushed : c.push.new.self.items ≡ c.loop-seat.users.items ++ user ∷ [] = search rules in
    let new : IsNew shared user.seat = subst (λ (seat : SeatNow). IsNew shared seat) (sym made.seat) one in
    let fresh : IsFresh shared user = record { of = new.of; log = new.log; kept = made.kept; free = made.free; room = made.room } in
    record {
      users = All-same (IsFresh shared) c.push.new.self.items (c.loop-seat.users.items ++ user ∷ []) pushed (All-push (IsFresh shared) c.loop-seat.users.items user i.users fresh);
      seats = popped.0;
      long = omega (arith, i.long, ap length left, length_push c.pop.new.self.items c.in-Some.seat, ap length pushed, length_push c.loop-seat.users.items user);
    }
