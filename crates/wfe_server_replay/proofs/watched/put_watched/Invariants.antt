use Rattle.std.proofs.Common.{drop}
use Rattle.wfe_server_replay.specs.Watched.{rows_of, watch_from}
use Rattle.wfe_server_replay.proofs.watched.put_watched.Given as goal
use Rattle.wfe_server_out.proofs.Written.{Wrote}
use Rattle.wfe_server_replay.proofs.WatchedLines.{WatchersFirst}

-- the rows of the watchers before this one are written, and their numbers have the bits of their type
abbrev pub invariant-loop-place : goal.invariant-loop-place
invariant-loop-place g l =
    (Wrote g.K.Sink.written g.K.Sink.faults g.K.Sink.may_stand l.fn.sink l.sink
    (watch_from (rows_of (λ b. (goal.Watcher-dyn g (b.vtable, b.value)).shown b.value) (λ b. (goal.Watcher-dyn g (b.vtable, b.value)).shows b.value)) 0 l.watchers)
    (watch_from (rows_of (λ b. (goal.Watcher-dyn g (b.vtable, b.value)).shown b.value) (λ b. (goal.Watcher-dyn g (b.vtable, b.value)).shows b.value)) l.place (drop l.place l.watchers)))
    × WatchersFirst (λ b. (goal.Watcher-dyn g (b.vtable, b.value)).shown b.value) (λ b. (goal.Watcher-dyn g (b.vtable, b.value)).shows b.value) l.watchers l.place
