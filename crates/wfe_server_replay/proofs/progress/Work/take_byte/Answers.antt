use Rattle.std.proofs.Common.{rules}
use Rattle.wfe_server_replay.specs.Playing.{player}
use Rattle.wfe_server_replay.proofs.Bytes.{fed_took, is_fed}
use Rattle.wfe_server_replay.proofs.progress.Work.take_byte.Goals as goal

pub returns-in-Ok-true : goal.returns-in-Ok-true
returns-in-Ok-true g c =
    let ends = c.in-Ok-true in
    let fed = is_fed (player g.E.Engine.taken) c.self.inside.bytes c.push.new.self c.self.inside.play c.args.self.now c.args.byte ends.field-0 c.self.view_is ends.field-0-test ends.ensures.judged.0 ends.ensures.judged.1 ends.ensures.taken in
    record {
      took = fed_took g.E.Engine.taken _ c.take_line.result c.args.self.now _ _ _ _ c.args.byte fed c.take_line.ensures.took;
      later = search rules;
      cause = search rules;
    }
