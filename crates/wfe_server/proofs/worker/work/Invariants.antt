-- The calls before this one were made.
use Rattle.std.proofs.Common.{take}
use Rattle.wfe_table.specs.Public.{IsOf}
use Rattle.wfe_server.specs.Working.{IsWorked}
use Rattle.wfe_server.proofs.worker.work.Given as goal

abbrev pub invariant-loop-place : goal.invariant-loop-place
invariant-loop-place g l = record {
  of : IsOf l.seat l.shared;
  worked : IsWorked l.shared.layout.config.buckets l.fn.seat.track (take l.place l.script) l.seat.track l.events.items;
}
