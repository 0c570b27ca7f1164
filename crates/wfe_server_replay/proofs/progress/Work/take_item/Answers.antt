use Rattle.std.proofs.Common.{ap, sym}
use Rattle.wfe_trace.specs.declared.item.Item.{Item}
use Rattle.wfe_server_out.proofs.Emits.{emits_of}
use Rattle.wfe_server_replay.specs.Playing.{player}
use Rattle.wfe_server_replay.specs.Trace.{out_by}
use Rattle.wfe_server_replay.proofs.progress.Work.take_item.Goals as goal

pub returns-in-Ready-clause-emits : goal.returns-in-Ready-clause-emits
returns-in-Ready-clause-emits g c = emits_of (ap (λ (item : Item). out_by (player g.E.Engine.taken) c.args.self.now item) (sym c.in-Ready.is)) c.open.ensures.emits

pub returns-in-Command-clause-emits : goal.returns-in-Command-clause-emits
returns-in-Command-clause-emits g c = emits_of (ap (λ (item : Item). out_by (player g.E.Engine.taken) c.args.self.now item) (sym c.in-Command.is)) c.take_command.ensures.emits
