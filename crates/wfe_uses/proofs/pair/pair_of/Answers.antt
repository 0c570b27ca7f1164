-- A seat that is taken off the end leaves the others.
use Rattle.std.proofs.Common.{subst}
use Rattle.std.proofs.lemmas.List.Elements.{All-pop}
use Rattle.std.specs.Prelude.{IfSome, Option}
use Rattle.wfe_table.specs.Public.{SeatNow}
use Rattle.wfe_uses.specs.Counting.{IsFresh}
use Rattle.wfe_uses.proofs.pair.pair_of.Goals as goal

pub returns : goal.returns
returns c =
    let shared = c.args._shared.now in
    let one = All-pop (IsFresh shared) c.args.seats.items c.pop.new.self.items c.pop.result c.pop.ensures.items c.requires.fresh in
    let two = All-pop (IsFresh shared) c.pop.new.self.items c.pop-2.new.self.items c.pop-2.result c.pop-2.ensures.items one.0 in
    let first : IsFresh shared c.in_ok-first.first = subst (λ (r : Option SeatNow). IfSome r (IsFresh shared)) c.in_ok-first.was one.1 in
    let second : IsFresh shared c.in_ok-second.second = subst (λ (r : Option SeatNow). IfSome r (IsFresh shared)) c.in_ok-second.was two.1 in
    record { first = first.of; second = second.of; fresh = first.log }
