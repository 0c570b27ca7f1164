use Rattle.std.proofs.Common.{ap, rules, subst, ◌∙◌, ◌≡◌}
use Rattle.wfe_server_out.specs.Pieces.{heard_of, told_pieces}
use Rattle.wfe_server_replay.specs.Playing.{unit_out}
use Rattle.wfe_server_gen.specs.Tally.{Tally}
use Rattle.wfe_server_gen.proofs.Going.{told_err, told_ok}
use Rattle.wfe_server_gen.proofs.Bare.{unit_after}
use Rattle.wfe_server_gen.specs.Summary.{Counts}
use Rattle.wfe_server_out.specs.Heard.{Gains}
use Rattle.wfe_server_replay.proofs.drive.Reached.{unit_reached}
use Rattle.wfe_server_gen.proofs.table.Table.unit.Goals as goal

pub returns-clause-err : goal.returns-clause-err
returns-clause-err g c =
    let u = c.unit.ensures.unit in
    let e : told_pieces c.args.seat c.unit.new.told ≡ unit_out c.args.self.now.played c.args.seat = ap (told_pieces c.args.seat) u.told_is ∙ ap (λ (s : Tally). unit_out s.played c.args.seat) c.self.view_is in
    told_err _ _ _ _ _ c.tell_all.result _ _ e c.tell_all.ensures.emits.some

pub returns-clause-after : goal.returns-clause-after
returns-clause-after g c =
    let u = c.unit.ensures.unit in
    unit_after c.args.seat _ _ c.args.self.now c.self.inside.summary u.table_is c.self.view_is

pub returns-clause-ok : goal.returns-clause-ok
returns-clause-ok g c =
    let u = c.unit.ensures.unit in
    let e : told_pieces c.args.seat c.unit.new.told ≡ unit_out c.args.self.now.played c.args.seat = ap (told_pieces c.args.seat) u.told_is ∙ ap (λ (s : Tally). unit_out s.played c.args.seat) c.self.view_is in
    told_ok _ _ _ _ _ _ _ c.tell_all.result _ _ e (subst (λ (s : Tally). Gains Counts s.summary c.count_all.new.self (heard_of (told_pieces c.args.seat c.unit.new.told))) c.self.view_is c.count_all.ensures) c.tell_all.ensures.emits.put

pub invariant_of-self : goal.invariant_of-self
invariant_of-self g c = unit_reached _ _ c.args.seat _ _ c.self.invariant c.unit.ensures.unit (search rules) (search rules)
