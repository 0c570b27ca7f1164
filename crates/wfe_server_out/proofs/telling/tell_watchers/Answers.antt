use Rattle.std.proofs.Common.{arith, ◌<◌, length}
use Rattle.wfe_server_out.proofs.Hearing.{hears_out_some}
use Rattle.wfe_server_out.proofs.Turns.{first_more, first_all, first_stays}
use Rattle.wfe_server_out.proofs.telling.tell_watchers.Goals as goal

pub returns-in_err-tell_one-clause-some : goal.returns-in_err-tell_one-clause-some
returns-in_err-tell_one-clause-some g c =
    let turn = c.loop-watcher in
    let within : turn.watcher-index < length turn.watchers = omega (arith, turn.invariant.count) in
    first_stays _ _ turn.watcher-index c.args.watchers.now turn.watchers c.watcher-item.result c.tell_one.new.watcher turn.invariant within c.in_err-tell_one.ensures.err

pub loop-watcher-preserved : goal.loop-watcher-preserved
loop-watcher-preserved g c =
    let turn = c.loop-watcher in
    let within : turn.watcher-index < length turn.watchers = omega (arith, turn.invariant.count) in
    first_more _ _ turn.watcher-index c.args.watchers.now turn.watchers c.watcher-item.result c.tell_one.new.watcher turn.invariant within c.in_ok-tell_one.ensures.place c.in_ok-tell_one.ensures.ok

pub returns-clause-ok : goal.returns-clause-ok
returns-clause-ok g c = first_all _ _ c.loop-watcher.watcher-index _ _ (omega (arith, c.loop-watcher.invariant.count)) c.loop-watcher.invariant

pub returns-clause-some : goal.returns-clause-some
returns-clause-some g c = hears_out_some _ _ _ _ (first_all _ _ c.loop-watcher.watcher-index _ _ (omega (arith, c.loop-watcher.invariant.count)) c.loop-watcher.invariant)
