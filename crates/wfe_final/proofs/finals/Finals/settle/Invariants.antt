-- The slots so far were settled.
use Rattle.std.proofs.Common.{◌≡◌, length, take}
use Rattle.wfe_final.specs.Slots.{Settles, calls_at, capped, firsts}
use Rattle.wfe_final.proofs.finals.Finals.settle.Given as goal

abbrev pub invariant-loop-slot : goal.invariant-loop-slot
invariant-loop-slot g l = record {
  settled : Settles l.initial.self l.self (take l.slot-index l.backs) l.initial.ledger l.ledger;
  count : l.count ≡ capped (length (calls_at l.initial.self (firsts (take l.slot-index l.backs))));
}
