use Rattle.std.proofs.Common.{refl}
use Rattle.laws.specs.records.Record.{begins}
use Rattle.laws.specs.StructuresAt.{all_taken}
use Rattle.wfe_check_rows.proofs.Positions.{held_by_numbers}
use Rattle.wfe_check_map.proofs.contents.Contents.was_empty.Goals as goal

pub returns : goal.returns
returns c config p h = rw (held_by_numbers (begins c.args.seat) all_taken p) (rw (c.was_empty.ensures, c.began.ensures, h.queue.queued, h.queue.taken, h.queue.ceased, h.begun c.args.seat (rw (← h.setting) c.requires.seated)) refl)
