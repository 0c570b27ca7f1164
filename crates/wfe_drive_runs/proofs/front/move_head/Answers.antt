-- The head is an end of the queue.
use Rattle.std.proofs.Common.{arith, ◌<◌, ◌≤◌}
use Rattle.wfe_drive_words.proofs.drive_cells.Lying.{head_below, head_from}
use Rattle.wfe_drive_runs.proofs.front.move_head.Goals as goal

pub end-requires-clause-from : goal.end-requires-clause-from
end-requires-clause-from c = omega (arith, head_from c.args.post.now.layout, c.head-word.ensures)

pub end-requires-clause-below : goal.end-requires-clause-below
end-requires-clause-below c = omega (arith, head_below c.args.post.now.layout, c.head-word.ensures)
