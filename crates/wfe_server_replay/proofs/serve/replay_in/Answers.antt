use Rattle.std.proofs.Common.{inl, inr}
use Rattle.wfe_outside.specs.Faults.{Rose}
use Rattle.wfe_outside.proofs.Rising.{rose_earlier, rose_later}
use Rattle.wfe_server_replay.proofs.serve.replay_in.Goals as goal

pub returns-clause-said : goal.returns-clause-said
returns-clause-said g c = c.conclude.ensures.said _ _ _ _ c.read_all-ending.ensures.ended

pub returns-clause-read : goal.returns-clause-read
returns-clause-read g c = λ fault. c.read_all-ending.ensures.read (c.conclude.ensures.read fault)

pub returns-clause-write : goal.returns-clause-write
returns-clause-write g c = λ fault. elim (c.conclude.ensures.write fault) as (λ s. Rose g.K.Sink.may_stand (g.K.Sink.faults c.args.sink.now) (g.K.Sink.faults c.conclude.new.sink)) [
  | inl stop ↦ rose_later g.K.Sink.may_stand (g.K.Sink.faults c.args.sink.now) (g.K.Sink.faults c.read_all-ending.new.sink) (g.K.Sink.faults c.conclude.new.sink) (c.read_all-ending.ensures.write stop) c.conclude.ensures.later
  | inr rose ↦ rose_earlier g.K.Sink.may_stand (g.K.Sink.faults c.args.sink.now) (g.K.Sink.faults c.read_all-ending.new.sink) (g.K.Sink.faults c.conclude.new.sink) c.read_all-ending.ensures.sink rose
]
