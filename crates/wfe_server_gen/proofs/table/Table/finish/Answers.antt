use Rattle.wfe_server_out.specs.Heard.{boxed}
use Rattle.std.proofs.Common.{ap, rules, subst, ℕ, ◌<◌, ◌∙◌, ◌≡◌}
use Rattle.wfe_server_out.proofs.Texts.{on_err}
use Rattle.wfe_server_gen.proofs.Turning.{seats_fail, seats_more}
use Rattle.wfe_server_replay.specs.Playing.{Played, call_most, seats_out}
use Rattle.wfe_server_gen.specs.Tally.{Tells}
use Rattle.wfe_server_replay.proofs.Units.{layout_made}
use Rattle.wfe_server_gen.proofs.table.Table.finish.Goals as goal
use Rattle.wfe_server_replay.proofs.Seats.{run_more}

pub returns-in_err-run-clause-err : goal.returns-in_err-run-clause-err
returns-in_err-run-clause-err g c =
    let within : c.loop-seat.seat < 4 = search (rules) in
    on_err c.from_residual.result (seats_fail _ _ _ _ _ _ c.loop-seat.seat 4 c.args.self.now.played c.loop-seat.self.played within c.loop-seat.invariant.run c.loop-seat.invariant.told c.in_err-run.ensures.err)

pub loop-seat-preserved : goal.loop-seat-preserved
loop-seat-preserved g c = record {
  run = run_more c.loop-seat.seat c.args.self.now.played c.loop-seat.self.played _ c.loop-seat.invariant.run c.in_ok-run.ensures.after;
  told = seats_more _ _ _ _ _ _ _ c.loop-seat.seat c.args.self.now.played c.loop-seat.self.played c.loop-seat.invariant.run c.loop-seat.invariant.told c.in_ok-run.ensures.ok;
  table = ap (λ (s : Played). s.table.layout) c.in_ok-run.ensures.after ∙ layout_made call_most c.loop-seat.seat c.loop-seat.self.played ∙ c.loop-seat.invariant.table;
}

pub returns-clause-ok : goal.returns-clause-ok
returns-clause-ok g c =
    let done : c.loop-seat.seat ≡ 4 = search (rules) in
    subst (λ (n : ℕ). Tells (boxed (λ b. (goal.Watcher-dyn g (b.vtable, b.value)).stands b.value)) c.args.watchers.now c.loop-seat.watchers c.args.self.now.summary c.loop-seat.self.summary (seats_out n c.args.self.now.played)) done c.loop-seat.invariant.told
