-- A worker that is taken off the end leaves the others, and its seat is one of the table after its scan.
use Rattle.std.proofs.Common.{rules, [], ◌++◌, ◌≡◌, ◌∷◌}
use Rattle.std.proofs.lemmas.List.Elements.{All-pop, All-push, All-same}
use Rattle.wfe_table.specs.Public.{IsOf}
use Rattle.wfe_threads.specs.Works.{WorksOn}
use Rattle.wfe_threads.proofs.hand_back.Goals as goal

pub loop-worker-preserved : goal.loop-worker-preserved
loop-worker-preserved c =
    let i = c.loop-worker.invariant in
    let popped = All-pop (λ worker. WorksOn worker c.args.shared.now) c.loop-worker.workers.items c.pop.new.self.items c.pop.result c.pop.ensures.items i.left in
    let pushed : c.push.new.self.items ≡ c.loop-worker.seats.items ++ c.scan_last-seat.result.0 ∷ [] = search rules in
    record {
      left = popped.0;
      back = All-same (λ seat. IsOf seat c.args.shared.now) c.push.new.self.items _ pushed (All-push (λ seat. IsOf seat c.args.shared.now) c.loop-worker.seats.items c.scan_last-seat.result.0 i.back c.scan_last-seat.ensures.of);
    }
