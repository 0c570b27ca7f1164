use Rattle.std.proofs.Common.{Some, [], ap, arith, length, length-append, rules, ◌+◌, ◌++◌, ◌∙◌, ◌∷◌, ◌≡◌}
use Rattle.std.proofs.lemmas.List.{length-set}
use Rattle.std.proofs.lemmas.List.Elements.{All-pop}
use Rattle.wfe_c.specs.Opened.{IsSeated, IsSet}
use Rattle.wfe_c.specs.Place.{seat_in}
use Rattle.wfe_c.proofs.Seating.{seated_more}
use Rattle.wfe_c.proofs.opening.seat_all.Goals as goal

pub loop-boxed-init : goal.loop-boxed-init
loop-boxed-init c = record { most = omega (arith, c.requires.count); set = c.requires.set; seated = λ k d low high. absurd (omega (arith, low, high, c.requires.count)) }

pub loop-boxed-preserved : goal.loop-boxed-preserved
loop-boxed-preserved c =
    let i = c.loop-boxed.invariant in
    let popped : c.loop-boxed.made.items ≡ c.pop.new.self.items ++ c.in-Some.boxed ∷ [] = search rules in
    let p = All-pop (IsSet c.args._config) c.loop-boxed.made.items c.pop.new.self.items (Some c.in-Some.boxed) popped i.set in
    let count : length c.loop-boxed.made.items ≡ length c.pop.new.self.items + 1 = ap length popped ∙ length-append c.pop.new.self.items (c.in-Some.boxed ∷ []) in
    record {
      most = omega (arith, i.most, count, length-set c.loop-boxed.seats c.len.result c.of.result);
      set = p.0;
      seated = λ k d low high.
          seated_more (IsSeated c.args._config) c.loop-boxed.seats c.len.result c.of.result (omega (arith, i.most, count, c.len.ensures)) (record { joined = c.in-Some.boxed.value; inside = ap seat_in c.of.ensures.inside; set = p.1 })
          (λ n e from to. i.seated n e (omega (arith, from, count, c.len.ensures)) to) k d (omega (arith, low, c.len.ensures)) high;
    }

pub returns : goal.returns
returns c k d within =
    let empty : length c.loop-boxed.made.items ≡ 0 = grind arith in
    c.loop-boxed.invariant.seated k d (omega (arith, empty)) within
