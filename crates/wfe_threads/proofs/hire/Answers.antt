-- A seat that is taken off the end leaves the others, and its worker may make calls on the table.
use Rattle.std.proofs.Common.{rules, [], subst, ◌++◌, ◌≡◌, ◌∷◌}
use Rattle.std.proofs.lemmas.List.Elements.{All-pop, All-push, All-same}
use Rattle.std.specs.Prelude.{IfSome, Option}
use Rattle.wfe_table.specs.Public.{IsOf, SeatNow}
use Rattle.wfe_threads.specs.Works.{WorksOn}
use Rattle.wfe_threads.proofs.hire.Goals as goal

pub worker_of-requires-clause-of : goal.worker_of-requires-clause-of
worker_of-requires-clause-of c =
    let shared = c.args.shared.now in
    let popped = All-pop (λ seat. IsOf seat shared) c.loop-seat.seats.items c.pop.new.self.items c.pop.result c.pop.ensures.items c.loop-seat.invariant.left in
    subst (λ (r : Option SeatNow). IfSome r (λ seat. IsOf seat shared)) c.in-Some.is popped.1

pub loop-seat-preserved : goal.loop-seat-preserved
loop-seat-preserved c =
    let i = c.loop-seat.invariant in
    let shared = c.args.shared.now in
    let popped = All-pop (λ seat. IsOf seat shared) c.loop-seat.seats.items c.pop.new.self.items c.pop.result c.pop.ensures.items i.left in
    let pushed : c.push.new.self.items ≡ c.loop-seat.workers.items ++ c.in-Some-worker_of.worker ∷ [] = search rules in
    record {
      left = popped.0;
      works = All-same (λ worker. WorksOn worker shared) c.push.new.self.items _ pushed (All-push (λ worker. WorksOn worker shared) c.loop-seat.workers.items c.in-Some-worker_of.worker i.works c.in-Some-worker_of.ensures.works);
    }
