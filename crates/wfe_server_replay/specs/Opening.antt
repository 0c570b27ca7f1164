-- What joins a trace that is read and the table that takes its lines.
use Rattle.std.specs.Prelude.{Bool, None, Option, Some, true, ◌≡◌}
use Rattle.wfe_trace.specs.words.Config.{bad_field}
use Rattle.wfe_trace.specs.Body.{IsCommandWithin}
use Rattle.wfe_trace.specs.Good.{is_body}
use Rattle.wfe_trace.specs.Reading.{Reading}
use Rattle.wfe_trace.specs.declared.item.Item.{Item}
use Rattle.wfe_trace.specs.declared.item.Item.TheVariants as items
use Rattle.wfe_outside.specs.defs.declared.call.Call.{Call}
use Rattle.wfe_outside.specs.defs.declared.command.Command.{Command}
use Rattle.wfe_server_replay.specs.Playing.{Played, player}
use Rattle.wfe_server_replay.specs.Trace.{Progress}

-- a table is there in the body alone, and has the setting that was read
abbrev pub PlaysIn : Reading → Option Played → Type 0
PlaysIn r None = Unit {0}
PlaysIn r (Some s) = (is_body r.stage ≡ true) × (s.table.layout.config ≡ r.config)

-- the seat of the line is one of the table's, and its call's indexes are in their ranges there
abbrev pub FitsTable : Command → Option Played → Type 0
FitsTable c None = Unit {0}
FitsTable c (Some s) = IsCommandWithin s.table.layout.config c

abbrev pub ItemFits : Item → Option Played → Type 0
ItemFits items.Setting engine = Unit {0}
ItemFits (items.Ready version config) engine = Unit {0}
ItemFits (items.Command c) engine = FitsTable c engine

-- the table may take the line: its seat is one of the table's, its call's indexes are in their ranges, and the call is not refused
abbrev pub MayPlay : (makes : Call → Bool) → Command → Option Played → Type 0
MayPlay makes c None = Unit {0}
MayPlay makes c (Some s) = IsCommandWithin s.table.layout.config c × ((player makes).refuses c s ≡ None)

-- what a line that was read says may be taken
abbrev pub MayTake : (makes : Call → Bool) → Progress Played → Item → Type 0
MayTake makes p items.Setting = Unit {0}
MayTake makes p (items.Ready version config) = (bad_field config ≡ None) × (is_body p.reading.stage ≡ true) × (config ≡ p.reading.config)
MayTake makes p (items.Command c) = MayPlay makes c p.engine
