-- What joins a trace that is read and the scripts that it gives; and how bytes of it are taken.
use Rattle.std.specs.Prelude.{Err, None, Ok, Option, Result, Some, [], true, ◌≡◌}
use Rattle.wfe_outside.specs.defs.declared.command.Command.{Command}
use Rattle.wfe_outside.specs.defs.declared.command.Command.TheVariants as commands
use Rattle.wfe_server_replay.specs.Trace.{Engine, Progress}
use Rattle.wfe_server_lines.specs.Scripted.{Scripted, called, no_calls}
use Rattle.wfe_server.specs.declared.reader.Stop.{Stop}
use Rattle.wfe_server.specs.declared.reader.Stop.TheVariants as stops
use Rattle.wfe_trace.specs.Body.{IsCommandWithin}
use Rattle.wfe_trace.specs.Good.{is_body, is_for_workers}
use Rattle.wfe_trace.specs.Reading.{Reading}
use Rattle.wfe_trace.specs.declared.item.Item.{Item}
use Rattle.wfe_trace.specs.declared.item.Item.TheVariants as items
use Rattle.wfe_trace.specs.declared.reason.BadLine.{BadLine}
use Rattle.wfe_trace.specs.words.Config.{bad_field}

-- what takes the lines only to collect their calls: it refuses none, and puts nothing out
abbrev pub scripter : Engine Scripted
scripter = record { opened = no_calls; refuses = λ line s. None; after = called; out = λ line s. [] }

-- scripts are there in the body alone, and of the setting that was read
abbrev pub CollectsIn : Reading → Option Scripted → Type 0
CollectsIn r None = Unit {0}
CollectsIn r (Some s) = (is_body r.stage ≡ true) × (s.config ≡ r.config)

-- the call of the line is one that workers make
abbrev pub IsForWorkers : Command → Type 0
IsForWorkers (commands.Call seat call) = is_for_workers call ≡ true
IsForWorkers c = Unit {0}

abbrev pub IsItemForWorkers : Item → Type 0
IsItemForWorkers items.Setting = Unit {0}
IsItemForWorkers (items.Ready version config) = Unit {0}
IsItemForWorkers (items.Command c) = IsForWorkers c

-- the seat of the line has a script, and the indexes of its call are in their ranges
abbrev pub MayAdd : Command → Option Scripted → Type 0
MayAdd c None = Unit {0}
MayAdd c (Some s) = IsCommandWithin s.config c

-- what a line that was read says may be taken
abbrev pub MayCollect : Progress Scripted → Item → Type 0
MayCollect p items.Setting = Unit {0}
MayCollect p (items.Ready version config) = (bad_field config ≡ None) × (is_body p.reading.stage ≡ true) × (config ≡ p.reading.config)
MayCollect p (items.Command c) = MayAdd c p.engine

-- bytes of a trace were taken up to a stop, as they are judged
abbrev pub StopsAt : Stop → Result (Progress Scripted) BadLine → Type 0
StopsAt (stops.Bad bad) verdict = verdict ≡ Err bad
StopsAt stops.NoMemory verdict = Unit {0}

-- bytes of a trace were taken, as they are judged
abbrev pub Takes : {T : Type 0} → Result T Stop → Result (Progress Scripted) BadLine → Progress Scripted → Type 0
Takes (Ok x) verdict now = verdict ≡ Ok now
Takes (Err stop) verdict now = StopsAt stop verdict
