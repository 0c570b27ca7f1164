-- So far the first slots are taken out, and the others are there.
use Rattle.std.proofs.Common.{false, get_or, ℕ, ◌<◌, ◌≡◌}
use Rattle.std.specs.Slots.{slots_filled, slots_len}
use Rattle.std.specs.Slots.Ownership.{Filled}
use Rattle.wfe_drive_rule.proofs.table.finish.Given as goal

abbrev pub invariant-loop-slot : goal.invariant-loop-slot
invariant-loop-slot l = record {
  all : slots_len l.closed.slots ≡ l.slot-end;
  there : Filled (slots_filled l.closed.slots) l.slot (slots_len l.closed.slots);
  out : (slot : ℕ) → slot < l.slot → get_or (slots_filled l.closed.slots) slot false ≡ false;
}
