use Rattle.std.proofs.Common.{List, ap, arith, drop, length, length-drop, refl, rules, take, ℕ, ◌-◌, ◌≡◌, ◌≤◌}
use Rattle.std.proofs.lemmas.List.{take_rest}
use Rattle.wfe_server_replay.specs.Playing.{player}
use Rattle.wfe_server_replay.specs.Sunk.{outside}
use Rattle.wfe_server_replay.proofs.Bytes.{StopsAt-from, after_bytes-from, puts-from}
use Rattle.wfe_server_replay.proofs.Outs.{puts_nil}
use Rattle.wfe_server_replay.proofs.progress.Work.take_bytes.Goals as goal

pub loop-at-init : goal.loop-at-init
loop-at-init g c = record { within = omega arith; taken = refl; put = puts_nil _ _; later = omega arith }

pub returns-in-Err : goal.returns-in-Err
returns-in-Err g c = record {
  took = StopsAt-from g.E.Engine.taken _ c.in-Err.stop c.args.self.now c.loop-at.self c.args.bytes.now c.loop-at.at (outside (g.K.Sink.written c.args.sink.now) c.args.watchers.now) (outside (g.K.Sink.written c.loop-at.sink) c.loop-at.watchers) (outside (g.K.Sink.written c.take_some.new.sink) c.take_some.new.watchers)
      c.loop-at.invariant.taken c.loop-at.invariant.put c.in-Err.ensures.takes.took;
  later = search rules;
  cause = search rules;
}

pub loop-at-preserved : goal.loop-at-preserved
loop-at-preserved g c =
    let at = c.loop-at.at in
    let count = c.in-Ok.count in
    let bytes : List ℕ = c.args.bytes.now in
    let rest : take (length bytes - at) (drop at bytes) ≡ drop at bytes = take_rest bytes at in
    let some : count ≤ length (take (length bytes - at) (drop at bytes)) = c.in-Ok.ensures.within.1 in
    record {
      within = omega (arith, some, ap length rest, length-drop at bytes);
      taken = after_bytes-from (player g.E.Engine.taken) c.args.self.now c.loop-at.self c.take_some.new.self bytes at count c.loop-at.invariant.taken c.in-Ok.ensures.takes.took.0;
      put = puts-from _ (player g.E.Engine.taken) c.args.self.now c.loop-at.self bytes at count (outside (g.K.Sink.written c.args.sink.now) c.args.watchers.now) (outside (g.K.Sink.written c.loop-at.sink) c.loop-at.watchers) (outside (g.K.Sink.written c.take_some.new.sink) c.take_some.new.watchers)
          c.loop-at.invariant.taken c.loop-at.invariant.put c.in-Ok.ensures.takes.took.1;
      later = search rules;
    }
