use Rattle.std.proofs.Common.{length, ◌+◌}
use Rattle.wfe_check_held.proofs.Grids.{inside}
use Rattle.wfe_check_held.proofs.Notes.{place-in}
use Rattle.wfe_check_held.proofs.had.tell_had.Goals as goal

pub set-requires-clause-inside : goal.set-requires-clause-inside
set-requires-clause-inside c =
    inside (length c.args.seats.now) (c.args.config.now.slots + 2) c.args.had.now c.args.seat c.place_of.result c.requires.grid c.requires.seat
    (place-in c.args.config.now.slots c.args.found c.place_of.result c.place_of.ensures c.requires.found)
