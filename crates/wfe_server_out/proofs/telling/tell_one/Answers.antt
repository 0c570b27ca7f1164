use Rattle.std.proofs.Common.{rules}
use Rattle.wfe_server_out.proofs.Boxes.{same_box_on_err}
use Rattle.wfe_server_out.proofs.telling.tell_one.Goals as goal

pub returns-clause-err : goal.returns-clause-err
returns-clause-err g c = same_box_on_err c.args.watcher.now _ c.note.new.self c.note.result (search rules) c.note.ensures.1
