use Rattle.std.proofs.Common.{ap, rules, sym, ◌∙◌, ◌<◌}
use Rattle.wfe_server_out.proofs.Emits.{emits_of, emits_then, emits_within}
use Rattle.wfe_server_replay.specs.Playing.{Played, call_most}
use Rattle.wfe_server_replay.proofs.Seats.{out_more, run_more, seats_split}
use Rattle.wfe_server_replay.proofs.Units.{layout_made}
use Rattle.wfe_server_replay.proofs.play.Play.finish.Goals as goal

pub returns-in_err-run-clause-emits : goal.returns-in_err-run-clause-emits
returns-in_err-run-clause-emits g c =
    let within : c.loop-seat.seat < c.args.self.now.table.layout.config.seats = search (rules) in
    let parts = seats_split c.loop-seat.seat c.args.self.now.table.layout.config.seats c.args.self.now c.loop-seat.self within c.loop-seat.invariant.run in
    emits_within parts.0 (search rules) parts.1 c.loop-seat.invariant.emits c.in_err-run.ensures.emits

pub loop-seat-preserved : goal.loop-seat-preserved
loop-seat-preserved g c = record {
  run = run_more c.loop-seat.seat c.args.self.now c.loop-seat.self c.run.new.self c.loop-seat.invariant.run c.in_ok-run.ensures.after;
  emits = emits_of (sym (out_more c.loop-seat.seat c.args.self.now c.loop-seat.self c.loop-seat.invariant.run)) (emits_then c.loop-seat.invariant.emits c.in_ok-run.ensures.emits);
  table = ap (λ (s : Played). s.table.layout) c.in_ok-run.ensures.after ∙ layout_made call_most c.loop-seat.seat c.loop-seat.self ∙ c.loop-seat.invariant.table;
}
