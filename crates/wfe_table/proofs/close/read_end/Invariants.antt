-- So far the first words by number are in the room.
use Rattle.std.proofs.Common.{take, ◌≡◌}
use Rattle.std.specs.Slots.{slots_items}
use Rattle.wfe_drive_rule.specs.Spots.{shown}
use Rattle.wfe_table.proofs.close.read_end.Given as goal

abbrev pub invariant-loop-word : goal.invariant-loop-word
invariant-loop-word l = l.room ≡ record { layout = l.fn.layout; list = take l.word (shown l.fn.layout (slots_items l.closed.words)) }
