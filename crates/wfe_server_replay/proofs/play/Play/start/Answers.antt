-- A call whose indexes and place the line's reader let pass may begin.
use Rattle.std.proofs.Common.{rules, true, ◌≡◌}
use Rattle.wfe_trace.specs.Body.{fits_indexes, fits_seats}
use Rattle.wfe_server_replay.proofs.Items.{may_fits}
use Rattle.wfe_server_replay.proofs.play.Play.start.Goals as goal

pub start-requires-clause-may : goal.start-requires-clause-may
start-requires-clause-may g c =
    let indexes : fits_indexes (g.E.Engine.table c.self.inside.engine).layout.config.indexes c.args.call ≡ true = search (rules) in
    let place : fits_seats (g.E.Engine.table c.self.inside.engine).layout.config.seats c.args.call ≡ true = search (rules) in
    may_fits (g.E.Engine.table c.self.inside.engine).layout.config c.args.call indexes place
