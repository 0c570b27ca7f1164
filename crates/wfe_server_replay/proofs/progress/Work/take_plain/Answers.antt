use Rattle.wfe_server_replay.specs.Playing.{player}
use Rattle.wfe_server_replay.proofs.Plain.{plain_after, plain_output}
use Rattle.wfe_server_replay.proofs.progress.Work.take_plain.Goals as goal

pub returns-clause-after : goal.returns-clause-after
returns-clause-after g c =
    plain_after (player g.E.Engine.taken) c.self.inside.bytes c.push_plain.new.self c.self.inside.play c.args.self.now c.args.bytes.now c.push_plain.result c.self.view_is c.push_plain.ensures.plain c.push_plain.ensures.taken

pub returns-clause-output : goal.returns-clause-output
returns-clause-output g c = plain_output (player g.E.Engine.taken) c.self.inside.bytes c.self.inside.play c.args.self.now c.args.bytes.now c.push_plain.result c.self.view_is c.push_plain.ensures.plain
