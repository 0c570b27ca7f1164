use Rattle.std.proofs.Common.{arith, rules}
use Rattle.std.proofs.lemmas.List.Elements.{All-get_or}
use Rattle.wfe_server_lines.specs.Fitting.{Begins}
use Rattle.wfe_server.proofs.Told.{worked_more}
use Rattle.wfe_server.proofs.worker.work.Goals as goal

pub make_call-requires-clause-may : goal.make_call-requires-clause-may
make_call-requires-clause-may g c κs within = let begins = All-get_or (Begins c.args.shared.now.layout.config) c.args.script.now c.loop-place.place _ c.loop-place-test.true c.requires.fits in begins.0

pub make_call-requires-clause-stays : goal.make_call-requires-clause-stays
make_call-requires-clause-stays g c κs within = let begins = All-get_or (Begins c.args.shared.now.layout.config) c.args.script.now c.loop-place.place _ c.loop-place-test.true c.requires.fits in begins.1

pub loop-place-preserved : goal.loop-place-preserved
loop-place-preserved g c = record {
  of = c.make_call.ensures.of;
  worked = worked_more _ _ c.loop-place.seat.track c.make_call.new.seat.track c.args.script.now c.loop-place.place _ c.loop-place.events.items c.make_call.new.events.items (omega arith) (search rules) c.loop-place.invariant.worked c.in_ok-make_call.ensures.called;
}
