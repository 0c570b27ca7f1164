use Rattle.std.proofs.Common.{◌+◌}
use Rattle.wfe_check_held.proofs.Grids.{inside}
use Rattle.wfe_check_held.proofs.Notes.{place-in}
use Rattle.wfe_check_held.proofs.times.Times.has_had.Goals as goal

pub get-stamp-requires : goal.get-stamp-requires
get-stamp-requires c =
    let times = c.args.self.now in
    inside times.config.seats (times.config.slots + 2) times.had c.args.seat c.place_of.result c.requires.sized.had c.requires.seat
    (place-in times.config.slots c.args.found c.place_of.result c.place_of.ensures c.requires.found)
