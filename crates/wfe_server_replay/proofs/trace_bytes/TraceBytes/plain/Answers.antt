use Rattle.std.proofs.Common.{arith, subst}
use Rattle.wfe_server_replay.specs.Trace.{ArePlain, Progress}
use Rattle.wfe_server_replay.proofs.trace_bytes.TraceBytes.plain.Goals as goal

pub returns-then-self : goal.returns-then-self
returns-then-self c = subst (λ (p : Progress (Unit {0})). ArePlain p c.args.bytes.now 0) c.self.view_is (record {
  within = omega arith;
  none = λ k h. absurd (omega (arith, h));
  short = omega (arith, c.remaining_capacity-room.ensures);
  few = omega (arith, c.self.invariant);
  going = λ h. absurd (omega (arith, h));
})
