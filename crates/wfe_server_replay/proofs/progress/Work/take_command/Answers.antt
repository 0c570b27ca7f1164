use Rattle.std.proofs.Common.{[], rules, ◌≡◌}
use Rattle.wfe_server_out.proofs.Emits.{emits_fault, emits_none, emits_of}
use Rattle.wfe_server_replay.specs.Playing.{played_out, player}
use Rattle.wfe_server_replay.specs.Trace.{out_in}
use Rattle.wfe_server_replay.proofs.progress.Work.take_command.Goals as goal
use Rattle.wfe_server_replay.proofs.progress.Work.take_command.Goals.{in-Some+in_ok-perform, in_default}

pub returns-in_err-perform-clause-emits : goal.returns-in_err-perform-clause-emits
returns-in_err-perform-clause-emits g c =
    let e : played_out c.args.command c.in-Some.play ≡ out_in (player g.E.Engine.taken) c.args.command c.args.self.now.engine = search (rules) in
    emits_of e (emits_fault (search rules) c.in_err-perform.ensures.emits)

pub returns-clause-emits : goal.returns-clause-emits
returns-clause-emits g c = elim c.match-self.branch [
  | in-Some+in_ok-perform w ↦
      let e : played_out c.args.command w.in-Some.play ≡ out_in (player g.E.Engine.taken) c.args.command c.args.self.now.engine = search (rules) in
      rw (w.sink-is, w.watchers-is) (emits_of e w.in_ok-perform.ensures.emits)
  | in_default w ↦
      let e : [] ≡ out_in (player g.E.Engine.taken) c.args.command c.args.self.now.engine = search (rules) in
      rw (w.sink-is, w.watchers-is) (emits_of e emits_none)
]
