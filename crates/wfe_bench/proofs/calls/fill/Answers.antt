-- The seat that was taken off the end comes back to the others.
use Rattle.std.proofs.Common.{rules, [], ◌++◌, ◌≡◌, ◌∷◌}
use Rattle.std.proofs.lemmas.List.Elements.{All-pop, All-push, All-same}
use Rattle.wfe_table.specs.Public.{IsOf}
use Rattle.wfe_bench.proofs.calls.fill.Goals as goal

pub returns-in-Ok : goal.returns-in-Ok
returns-in-Ok c =
    let popped = All-pop (λ seat. IsOf seat c.args.shared.now) c.args.seats.items c.pop.new.self.items c.pop.result c.pop.ensures.items c.requires.of in
    let pushed : c.push.new.self.items ≡ c.pop.new.self.items ++ c.fill.new.self.seat ∷ [] = search rules in
    record {
      of = All-same (λ seat. IsOf seat c.args.shared.now) c.push.new.self.items _ pushed (All-push (λ seat. IsOf seat c.args.shared.now) c.pop.new.self.items c.fill.new.self.seat popped.0 c.fill.ensures.of);
    }
