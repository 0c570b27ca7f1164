-- The tail is an end of the queue.
use Rattle.std.proofs.Common.{arith, ◌<◌, ◌≤◌}
use Rattle.wfe_drive_words.proofs.drive_cells.Lying.{tail_below, tail_from}
use Rattle.wfe_drive_runs.proofs.tail.move_tail.Goals as goal

pub end-requires-clause-from : goal.end-requires-clause-from
end-requires-clause-from c = omega (arith, tail_from c.args.post.now.layout, c.tail-word.ensures)

pub end-requires-clause-below : goal.end-requires-clause-below
end-requires-clause-below c = omega (arith, tail_below c.args.post.now.layout, c.tail-word.ensures)
