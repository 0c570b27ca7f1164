-- A version that some change has made, and a bucket, have a number.
use Rattle.std.proofs.Common.{arith, refl, ◌*◌, ◌+◌, ◌≡◌}
use Rattle.std.specs.Prelude.{◌==◌}
use Rattle.wfe_table.proofs.all.laws.records.defs.Facts.{false_by, number_is}
use Rattle.wfe_cells.proofs.Words.{name_is}
use Rattle.wfe_cells.proofs.blocks.name.Goals as goal

pub returns : goal.returns
returns c = name_is c.args.block c.args.version (c.args.version * 1024 + c.args.block) c.requires.block refl (false_by (c.args.version * 1024 + c.args.block == 0) (λ t. let none : c.args.version * 1024 + c.args.block ≡ 0 = number_is (c.args.version * 1024 + c.args.block) 0 t in absurd (omega (arith, c.requires.some))))
