use Rattle.std.proofs.Common.{subst, sym}
use Rattle.wfe_server_replay.proofs.Bytes.{is_fed}
use Rattle.wfe_server.specs.Collecting.{Takes}
use Rattle.wfe_server.specs.Collecting.{scripter}
use Rattle.wfe_server.proofs.reader.Reader.take_byte.Goals as goal

pub returns-in-Ok-true : goal.returns-in-Ok-true
returns-in-Ok-true c =
    let ends = c.in-Ok-true in
    let fed = is_fed scripter c.self.inside.bytes c.push.new.self c.self.inside.scripts c.args.self.now c.args.byte ends.field-0 c.self.view_is ends.field-0-test ends.ensures.judged.0 ends.ensures.judged.1 ends.ensures.taken in
    subst (λ verdict. Takes c.take_line.result verdict c.take_line.new.self) (sym fed.after) c.take_line.ensures
