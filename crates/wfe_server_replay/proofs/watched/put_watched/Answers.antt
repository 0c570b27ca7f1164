use Rattle.std.proofs.Common.{rules}
use Rattle.wfe_server_out.proofs.Written.{wrote_all, wrote_fails, wrote_more, wrote_none}
use Rattle.wfe_server_replay.proofs.WatchedLines.{watcher_next, watchers_all, watchers_more, watchers_none, watchers_over}
use Rattle.wfe_server_replay.proofs.watched.put_watched.Goals as goal

pub loop-place-init : goal.loop-place-init
loop-place-init g c = (wrote_none _, watchers_none (λ b. (goal.Watcher-dyn g (b.vtable, b.value)).shown b.value) (λ b. (goal.Watcher-dyn g (b.vtable, b.value)).shows b.value) c.args.watchers.now)

pub returns-in_err-put_rows-clause-writes : goal.returns-in_err-put_rows-clause-writes
returns-in_err-put_rows-clause-writes g c =
    wrote_fails _ (search rules) (watcher_next _ c.loop-place.place c.args.watchers.now c.index-watchers-place.result (search rules) (search rules)) c.loop-place.invariant.0 c.in_err-put_rows.ensures.writes

pub loop-place-preserved : goal.loop-place-preserved
loop-place-preserved g c = (
  wrote_more (watcher_next _ c.loop-place.place c.args.watchers.now c.index-watchers-place.result (search rules) (search rules)) c.loop-place.invariant.0 c.in_ok-put_rows.ensures.writes,
  watchers_more (λ b. (goal.Watcher-dyn g (b.vtable, b.value)).shown b.value) (λ b. (goal.Watcher-dyn g (b.vtable, b.value)).shows b.value) c.args.watchers.now c.loop-place.place c.index-watchers-place.result (search rules) (search rules) c.in_ok-put_rows.ensures.fits c.loop-place.invariant.1,
)

pub returns-clause-writes : goal.returns-clause-writes
returns-clause-writes g c = wrote_all (watchers_over _ c.loop-place.place c.args.watchers.now (search rules)) c.loop-place.invariant.0

pub returns-clause-fits : goal.returns-clause-fits
returns-clause-fits g c = watchers_all (λ b. (goal.Watcher-dyn g (b.vtable, b.value)).shown b.value) (λ b. (goal.Watcher-dyn g (b.vtable, b.value)).shows b.value) c.args.watchers.now c.loop-place.place (search rules) c.loop-place.invariant.1
