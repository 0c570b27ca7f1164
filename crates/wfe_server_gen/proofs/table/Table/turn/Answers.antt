use Rattle.std.proofs.Common.{◌∙◌}
use Rattle.wfe_server_out.proofs.Texts.{on_err}
use Rattle.wfe_server_gen.proofs.Calls.{turn_may, turn_stays}
use Rattle.wfe_server_gen.proofs.Turning.{began, began_layout, ran_layout, seat_within, turn_err, turn_first, turn_is, turn_made, turn_ok, turn_second}
use Rattle.wfe_server_gen.proofs.table.Table.turn.Goals as goal

pub start-requires-clause-seat : goal.start-requires-clause-seat
start-requires-clause-seat g c =
    seat_within c.of-turn.result c.args.a c.args.b c.args.self.now.played.table.layout c.run.new.self.played.table.layout c.of-turn.ensures c.requires (ran_layout c.of-turn.result.seat c.args.self.now.played c.run.new.self.played c.in_ok-run.ensures.after)

pub start-requires-clause-may : goal.start-requires-clause-may
start-requires-clause-may g c = turn_may c.of-turn.result c.args.a c.args.b c.run.new.self.played.table.layout.config c.of-turn.ensures

pub start-requires-clause-stays : goal.start-requires-clause-stays
start-requires-clause-stays g c = turn_stays c.of-turn.result c.args.a c.args.b c.of-turn.ensures

pub step-requires : goal.step-requires
step-requires g c =
    seat_within c.of-turn.result c.args.a c.args.b c.args.self.now.played.table.layout c.start.new.self.played.table.layout c.of-turn.ensures c.requires
    (began_layout c.of-turn.result.seat c.of-turn.result.call c.run.new.self.played c.start.new.self.played c.in_ok-start.ensures.after ∙ ran_layout c.of-turn.result.seat c.args.self.now.played c.run.new.self.played c.in_ok-run.ensures.after)

pub returns-in_err-run-clause-err : goal.returns-in_err-run-clause-err
returns-in_err-run-clause-err g c =
    on_err c.from_residual.result (turn_is _ _ _ c.of-turn.result c.args.a c.args.b c.args.self.now.played c.of-turn.ensures (turn_first _ _ _ c.of-turn.result c.args.self.now.played c.in_err-run.ensures.err))

pub returns-in_err-start-clause-err : goal.returns-in_err-start-clause-err
returns-in_err-start-clause-err g c =
    on_err c.from_residual-in_err-start.result (turn_is _ _ _ c.of-turn.result c.args.a c.args.b c.args.self.now.played c.of-turn.ensures (turn_second _ _ _ _ _ _ c.of-turn.result c.args.self.now.played c.in_ok-run.ensures.ok c.in_err-start.ensures.err))

pub returns-clause-after : goal.returns-clause-after
returns-clause-after g c = turn_made c.step.result c.of-turn.result c.args.a c.args.b c.args.self.now.played _ _ c.of-turn.ensures (began c.of-turn.result c.args.self.now.played _ _ c.in_ok-run.ensures.after c.in_ok-start.ensures.after) c.step.ensures.after

pub returns-clause-ok : goal.returns-clause-ok
returns-clause-ok g c = turn_ok _ _ _ _ _ _ _ _ _ c.step.result c.of-turn.result c.args.a c.args.b c.args.self.now.played _ c.of-turn.ensures (began c.of-turn.result c.args.self.now.played _ _ c.in_ok-run.ensures.after c.in_ok-start.ensures.after) c.in_ok-run.ensures.ok c.in_ok-start.ensures.ok c.step.ensures.ok

pub returns-clause-err : goal.returns-clause-err
returns-clause-err g c = turn_err _ _ _ _ _ _ _ _ c.step.result c.of-turn.result c.args.a c.args.b c.args.self.now.played _ c.of-turn.ensures (began c.of-turn.result c.args.self.now.played _ _ c.in_ok-run.ensures.after c.in_ok-start.ensures.after) c.in_ok-run.ensures.ok c.in_ok-start.ensures.ok c.step.ensures.err
