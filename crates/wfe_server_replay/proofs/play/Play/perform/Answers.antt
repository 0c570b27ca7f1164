use Rattle.std.proofs.Common.{ap, sym}
use Rattle.wfe_outside.specs.defs.declared.command.Command.{Command}
use Rattle.wfe_server_out.proofs.Emits.{emits_of, emits_text}
use Rattle.wfe_server_replay.specs.Playing.{played_out}
use Rattle.wfe_server_replay.proofs.Entries.{heard_of-table_pieces}
use Rattle.wfe_server_replay.proofs.play.Play.perform.Goals as goal

pub returns-in-Call-clause-emits : goal.returns-in-Call-clause-emits
returns-in-Call-clause-emits g c = emits_of (ap (λ (command : Command). played_out command c.args.self.now) (sym c.in-Call.is)) c.start.ensures.emits

pub returns-in-Step-clause-emits : goal.returns-in-Step-clause-emits
returns-in-Step-clause-emits g c = emits_of (ap (λ (command : Command). played_out command c.args.self.now) (sym c.in-Step.is)) c.step.ensures.emits

pub returns-in-Run-clause-emits : goal.returns-in-Run-clause-emits
returns-in-Run-clause-emits g c = emits_of (ap (λ (command : Command). played_out command c.args.self.now) (sym c.in-Run.is)) c.run.ensures.emits

pub returns-in-End-clause-emits : goal.returns-in-End-clause-emits
returns-in-End-clause-emits g c = emits_of (ap (λ (command : Command). played_out command c.args.self.now) (sym c.in-End.is)) c.finish.ensures.emits

pub returns-in-Table-clause-emits : goal.returns-in-Table-clause-emits
returns-in-Table-clause-emits g c = emits_of (ap (λ (command : Command). played_out command c.args.self.now) (sym c.in-Table.is)) (emits_text (heard_of-table_pieces c.args.self.now.garbage c.args.self.now.waiting) c.put_table.ensures.writes)
