-- A seat that is taken off the end leaves the others, and the one that has left is put after those before it.
use Rattle.std.proofs.Common.{rules, [], ◌++◌, ◌≡◌, ◌∷◌}
use Rattle.std.proofs.lemmas.List.Elements.{All-pop, All-push, All-same}
use Rattle.wfe_table.specs.Public.{IsOf}
use Rattle.wfe_shifts.proofs.round.Goals as goal

pub returns : goal.returns
returns g c =
    let shared = c.args.shared.now in
    let staff = c.requires.staff in
    let popped = All-pop (λ seat. IsOf seat shared) c.args.staff.seats.items c.pop.new.self.items c.pop.result c.pop.ensures.items staff.seats in
    let pushed : c.push.new.self.items ≡ c.args.staff.left.items ++ c.work-gone.result.0.seat ∷ [] = search rules in
    record {
      staff = record {
        steady = c.work-gone.ensures.steady;
        seats = popped.0;
        left = All-same (λ seat. IsOf seat shared) c.push.new.self.items _ pushed (All-push (λ seat. IsOf seat shared) c.args.staff.left.items c.work-gone.result.0.seat staff.left c.work-gone.ensures.gone);
      };
    }
