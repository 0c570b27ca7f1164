use Rattle.std.proofs.Common.{◌≡◌, arith, refl}
use Rattle.std.proofs.lemmas.Grind.{common_steps}
use Rattle.wfe_check_map.specs.Told.{marks_of}
use Rattle.wfe_check_map.proofs.MarksLemmas.{row_marked}
use Rattle.wfe_check_map.proofs.contents.Contents.row.Goals as goal

pub returns-in-Some : goal.returns-in-Some
returns-in-Some c config p h =
    let marks = h.marks c.args.bucket (rw (← h.setting) c.requires.range) in
    let is : c.in-Some.bucket.now ≡ marks_of c.args.bucket p = grind (arith, common_steps) in
    rw (← row_marked c.args.bucket c.args.version p) (rw (c.row.ensures, is) refl)
