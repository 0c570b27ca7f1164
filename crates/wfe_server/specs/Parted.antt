-- What the workers of all seats made, and its parts.
use Rattle.std.specs.Prelude.{Err, List, Ok, Result, [], length, map, slice_index_or, ◌<◌, ◌≡◌}
use Rattle.std.specs.declared.alloc.Global.{Global}
use Rattle.std.specs.declared.vec.Vec.{Vec}
use Rattle.wfe_core.specs.defs.declared.call.Call.{Call}
use Rattle.wfe_core.specs.defs.declared.event.Event.{Event}
use Rattle.wfe_table.specs.rule.Views.{seat_of}
use Rattle.wfe_table.specs.Public.{IsOf, SeatNow, TableNow}
use Rattle.wfe_server_lines.specs.Scripted.{lists_in}
use Rattle.wfe_server_lines.specs.Fitting.{MayBegin}
use Rattle.wfe_server.specs.Working.{IsWorked}
use Rattle.wfe_server.specs.declared.worker.Worked.{Worked}

-- the seat is the table's, and there is a script for it, whose calls may begin
pub record IsReady (shared : TableNow) (scripts : List (Vec Call Global)) (seat : SeatNow) : Type 0 where
  pub of : IsOf seat shared
  pub script : seat_of seat.track < length scripts
  pub fits : MayBegin shared.layout.config (slice_index_or (lists_in scripts) (seat_of seat.track) [])

-- a worker that made the script with the seat
pub record IsDone (shared : TableNow) (seat : SeatNow) (script : List Call) (worked : Worked) : Type 0 where
  pub of : IsOf worked.seat shared
  pub made : IsWorked shared.layout.config.buckets seat.track script worked.seat.track worked.events.items

-- the same, unless it wanted memory
abbrev pub IsOutcome : {E : Type 0} → TableNow → SeatNow → List Call → Result Worked E → Type 0
IsOutcome shared seat script (Ok worked) = IsDone shared seat script worked
IsOutcome shared seat script (Err none) = Unit {0}

-- none wanted memory, and these are their seats and their events
pub record IsParted {E : Type 0} (all : List (Result Worked E)) (seats : List SeatNow) (events : List (Vec Event Global)) : Type 0 where
  pub done : List Worked
  pub all_done : all ≡ map (λ worked. Ok worked) done
  pub seats_are : seats ≡ map (λ worked. worked.seat) done
  pub events_are : events ≡ map (λ worked. worked.events) done
