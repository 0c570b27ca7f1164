use Rattle.std.proofs.Common.{◌≡◌, []}
use Rattle.wfe_watch.specs.Garbage.{garbage_rows}
use Rattle.wfe_watch.proofs.garbage.GarbageCounter.new.Given as goal

abbrev pub invariant-loop-seat : goal.invariant-loop-seat
invariant-loop-seat l = l.rows.items ≡ garbage_rows l.seat []
