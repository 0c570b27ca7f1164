-- Which entries begin a block by which a call seeks a free row.
use Rattle.std.specs.Prelude.{Bool, false, Option}
use Rattle.laws.specs.defs.declared.call.Call.{Call}
use Rattle.laws.specs.defs.declared.event.Event.{Event}
use Rattle.laws.specs.defs.declared.event.Event.TheVariants as events
use Rattle.laws.specs.ScanLaw.{Blocks, seeks_room}

-- a guard is read, and the block that begins with it is one that the call needs to find a free row
abbrev pub seeks_by : Event → Option Call → Blocks → Bool
seeks_by (events.Read guard span) call blocks = seeks_room call blocks
seeks_by (events.Saw guard slot) call blocks = seeks_room call blocks
seeks_by event call blocks = false
