-- The seat comes to those of the list.
use Rattle.std.proofs.Common.{rules}
use Rattle.std.proofs.lemmas.List.Elements.{All-push, All-same}
use Rattle.wfe_table.specs.Public.{IsOf, SeatNow}
use Rattle.wfe_table_tests.proofs.bench.Bench.with.Goals as goal

pub invariant_of-self-clause-of : goal.invariant_of-self-clause-of
invariant_of-self-clause-of c =
    All-same
    (λ (seat : SeatNow). IsOf seat c.args.self.shared)
    c.push.new.self.items
    _
    (search rules)
    (All-push (λ (seat : SeatNow). IsOf seat c.args.self.shared) c.args.self.seats.items c.args.seat c.args.self.of c.requires)
