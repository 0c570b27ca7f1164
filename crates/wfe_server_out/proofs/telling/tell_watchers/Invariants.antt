use Rattle.wfe_server_out.specs.Heard.{boxed}
use Rattle.std.proofs.Common.{[], ◌∷◌}
use Rattle.wfe_outside.specs.defs.Entry.{entry}
use Rattle.wfe_server_out.proofs.Turns.{HeardFirst}
use Rattle.wfe_server_out.proofs.telling.tell_watchers.Given as goal

-- the watchers before this one have heard the event
abbrev pub invariant-loop-watcher : goal.invariant-loop-watcher
invariant-loop-watcher g l = HeardFirst (boxed (λ b. (goal.Watcher-dyn g (b.vtable, b.value)).stands b.value)) (entry l.seat l.event ∷ []) l.watcher-index l.fn.watchers l.watchers
