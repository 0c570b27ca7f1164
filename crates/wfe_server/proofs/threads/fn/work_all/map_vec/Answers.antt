use Rattle.std.proofs.Common.{rules}
use Rattle.wfe_table.specs.rule.Views.{seat_of}
use Rattle.wfe_server.proofs.Parting.{script_fits}
use Rattle.wfe_server.proofs.threads.fn.work_all.map_vec.Goals as goal

pub work-requires-clause-fits : goal.work-requires-clause-fits
work-requires-clause-fits g c κs within =
    script_fits c.captures.shared.now.layout.config c.captures.scripts.now (seat_of c.args.seat.track) c.deref.result.now c.index-scripts-number.result c.requires.script (search rules) c.deref.ensures.value c.requires.fits
