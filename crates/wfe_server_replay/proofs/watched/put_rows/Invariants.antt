use Rattle.std.proofs.Common.{drop}
use Rattle.wfe_server_replay.specs.Watched.{rows_of, rows_text}
use Rattle.wfe_server_replay.proofs.watched.put_rows.Given as goal
use Rattle.wfe_server_out.proofs.Written.{Wrote}
use Rattle.wfe_server_replay.proofs.WatchedLines.{FirstFit}

-- the rows before this one are written, and their numbers have the bits of their type
abbrev pub invariant-loop-row : goal.invariant-loop-row
invariant-loop-row g l =
    (Wrote g.K.Sink.written g.K.Sink.faults g.K.Sink.may_stand l.fn.sink l.sink
    (rows_text l.place (rows_of (λ b. (goal.Watcher-dyn g (b.vtable, b.value)).shown b.value) (λ b. (goal.Watcher-dyn g (b.vtable, b.value)).shows b.value) l.watcher))
    (rows_text l.place (drop l.row (rows_of (λ b. (goal.Watcher-dyn g (b.vtable, b.value)).shown b.value) (λ b. (goal.Watcher-dyn g (b.vtable, b.value)).shows b.value) l.watcher))))
    × FirstFit (λ b. (goal.Watcher-dyn g (b.vtable, b.value)).shows b.value) l.watcher l.row
