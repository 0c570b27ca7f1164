-- Each seat that is in a box is with the table.
use Rattle.std.proofs.Common.{All}
use Rattle.std.specs.Arc.{arc_value}
use Rattle.wfe_c.specs.Opened.{IsWith}
use Rattle.wfe_c.proofs.opening.joined.Given as goal

abbrev pub invariant-loop-seat : goal.invariant-loop-seat
invariant-loop-seat l = All (IsWith (arc_value l.fn.common).shared) l.made.items
