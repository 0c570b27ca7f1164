-- The reader's seat is the last one that is handed in.
use Rattle.std.proofs.Common.{rules, [], ◌++◌, ◌≡◌, ◌∷◌}
use Rattle.wfe_uses.proofs.Kept.{reads_same_of}
use Rattle.wfe_uses.proofs.snapshot.close.Goals as goal

pub returns-in-Ok : goal.returns-in-Ok
returns-in-Ok c =
    let reader = c.args.reader in
    let pushed : c.push-else-is_err.new.self.items ≡ c.push.new.self.items ++ reader ∷ [] = search rules in
    reads_same_of c.args.shared.layout c.push.new.self.items reader c.push-else-is_err.new.self.items c.args._key c.args.views c.in-Ok.field-0 pushed c.requires.number c.requires.kept c.in-Ok.ensures.closed
