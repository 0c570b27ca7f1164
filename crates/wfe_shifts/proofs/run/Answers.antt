-- The seat of the steady worker is taken off the end, and leaves the others.
use Rattle.std.proofs.Common.{rules, All, [], subst, sym, ◌≡◌}
use Rattle.std.proofs.lemmas.List.Elements.{All-nil, All-pop, All-same}
use Rattle.wfe_table.specs.Public.{IsOf, SeatNow}
use Rattle.wfe_shifts.proofs.run.Goals as goal

pub rounds-requires-clause-staff : goal.rounds-requires-clause-staff
rounds-requires-clause-staff g c κs within =
    let shared = c.in-Ok.shared in
    let of : All (λ seat. IsOf seat shared) c.in-Ok.seats.items = search rules in
    let popped = All-pop (λ seat. IsOf seat shared) c.in-Ok.seats.items c.pop.new.self.items c.pop.result c.pop.ensures.items of in
    let steady : c.new-staff.result.steady.seat ≡ c.open.new.self.seat = search rules in
    let seats : c.new-staff.result.seats.items ≡ c.pop.new.self.items = search rules in
    record {
      steady = subst (λ (seat : SeatNow). IsOf seat shared) (sym steady) c.open.ensures.of;
      seats = All-same (λ seat. IsOf seat shared) c.new-staff.result.seats.items _ seats popped.0;
      left = All-same (λ seat. IsOf seat shared) c.new-staff.result.left.items [] c.new-staff.ensures.left (All-nil (λ seat. IsOf seat shared));
    }
