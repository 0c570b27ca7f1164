use Rattle.std.proofs.Common.{None, ap, false, true, ◌∙◌, ◌≡◌}
use Rattle.std.specs.Prelude.{is_some}
use Rattle.wfe_server.proofs.Begun.{read_has}
use Rattle.wfe_server.proofs.serve.finish.Goals as goal

pub unreachable-requires : goal.unreachable-requires
unreachable-requires c =
    let has = read_has c.requires.0 c.args.reader c.finish.new.self c.requires.1 c.in-Ok.ensures in
    let none : None ≡ c.finish.new.self.engine = c.in-None.ensures in
    let never : false ≡ true = ap is_some none ∙ has in
    absurd (cc)
