-- The steady worker's seat is put after those that no one has had.
use Rattle.std.proofs.Common.{rules, [], ◌++◌, ◌≡◌, ◌∷◌}
use Rattle.std.proofs.lemmas.List.Elements.{All-push, All-same}
use Rattle.wfe_table.specs.Public.{IsOf}
use Rattle.wfe_shifts.proofs.close.Goals as goal

pub close_left-requires-clause-of : goal.close_left-requires-clause-of
close_left-requires-clause-of c =
    let pushed : c.push.new.self.items ≡ c.args.staff.seats.items ++ c.scan-kept.new.self.seat ∷ [] = search rules in
    All-same (λ seat. IsOf seat c.args.shared) c.push.new.self.items _ pushed (All-push (λ seat. IsOf seat c.args.shared) c.args.staff.seats.items c.scan-kept.new.self.seat c.requires.staff.seats c.scan-kept.ensures.of)
