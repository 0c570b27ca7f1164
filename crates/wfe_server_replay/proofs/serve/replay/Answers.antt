use Rattle.std.proofs.Common.{[], rules}
use Rattle.std.proofs.KnownBytes.{Consumes-nil}
use Rattle.wfe_server_replay.specs.Sunk.{outside}
use Rattle.wfe_server_replay.proofs.Says.{fits_back, replays_back, stopped_before}
use Rattle.wfe_server_replay.proofs.serve.replay.Goals as goal

pub returns-clause-said : goal.returns-clause-said
returns-clause-said g c =
    replays_back g.E.Engine.taken _ _ _ c.replay_in.result _ _ (g.K.Sink.written c.args.sink.now) (g.K.Sink.written c.replay_in.new.sink) c.deref_mut.result.now c.args.watchers.now.items c.replay_in.new.watchers c.args.watchers.now.len
    c.deref_mut.ensures.value (search rules) (search rules) c.replay_in.ensures.said

pub returns-in_default-clause-said : goal.returns-in_default-clause-said
returns-in_default-clause-said g c = ([], Consumes-nil (g.S.Source.left c.args.source.now), stopped_before g.E.Engine.taken _ _ _ (outside (g.K.Sink.written c.args.sink.now) c.args.watchers.now.items))

pub returns-clause-fits : goal.returns-clause-fits
returns-clause-fits g c done =
    fits_back (λ b. (goal.Watcher-dyn g (b.vtable, b.value)).shown b.value) (λ b. (goal.Watcher-dyn g (b.vtable, b.value)).shows b.value) c.args.watchers.now.items c.replay_in.new.watchers c.args.watchers.now.len (search rules) (search rules) (c.replay_in.ensures.fits done)
