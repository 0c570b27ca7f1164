use Rattle.std.proofs.Common.{rules}
use Rattle.wfe_server_out.proofs.Written.{wrote_all, wrote_fails, wrote_more, wrote_none}
use Rattle.wfe_server_replay.proofs.WatchedLines.{fits_all, fits_more, fits_none, row_next, rows_over}
use Rattle.wfe_server_replay.proofs.watched.put_rows.Goals as goal

pub loop-row-init : goal.loop-row-init
loop-row-init g c = (wrote_none _, fits_none (λ b. (goal.Watcher-dyn g (b.vtable, b.value)).shows b.value) c.args.watcher.now)

pub returns-in_err-put_row-clause-writes : goal.returns-in_err-put_row-clause-writes
returns-in_err-put_row-clause-writes g c =
    wrote_fails _ (search rules) (row_next (λ b. (goal.Watcher-dyn g (b.vtable, b.value)).shown b.value) (λ b. (goal.Watcher-dyn g (b.vtable, b.value)).shows b.value) c.args.watcher.now c.args.place c.loop-row.row c.row_in.result (search rules) c.row_in.ensures) c.loop-row.invariant.0 c.in_err-put_row.ensures.writes

pub loop-row-preserved : goal.loop-row-preserved
loop-row-preserved g c = (
  wrote_more (row_next (λ b. (goal.Watcher-dyn g (b.vtable, b.value)).shown b.value) (λ b. (goal.Watcher-dyn g (b.vtable, b.value)).shows b.value) c.args.watcher.now c.args.place c.loop-row.row c.row_in.result (search rules) c.row_in.ensures) c.loop-row.invariant.0 c.in_ok-put_row.ensures.writes,
  fits_more (λ b. (goal.Watcher-dyn g (b.vtable, b.value)).shows b.value) c.args.watcher.now c.loop-row.row c.row_in.result c.row_in.ensures c.in_ok-put_row.ensures.fits.1 c.loop-row.invariant.1,
)

pub returns-clause-writes : goal.returns-clause-writes
returns-clause-writes g c = wrote_all (rows_over (λ b. (goal.Watcher-dyn g (b.vtable, b.value)).shown b.value) (λ b. (goal.Watcher-dyn g (b.vtable, b.value)).shows b.value) c.args.watcher.now c.args.place c.loop-row.row (search rules)) c.loop-row.invariant.0

pub returns-clause-fits : goal.returns-clause-fits
returns-clause-fits g c = (search rules, fits_all (λ b. (goal.Watcher-dyn g (b.vtable, b.value)).shown b.value) (λ b. (goal.Watcher-dyn g (b.vtable, b.value)).shows b.value) c.args.watcher.now c.loop-row.row (search rules) c.loop-row.invariant.1)
