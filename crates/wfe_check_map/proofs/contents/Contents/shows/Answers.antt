use Rattle.std.proofs.Common.{◌≡◌, arith, refl}
use Rattle.std.proofs.lemmas.Grind.{common_steps}
use Rattle.wfe_check_map.specs.Told.{marks_of}
use Rattle.wfe_check_map.proofs.MarksLemmas.{value_marked, current_marked}
use Rattle.wfe_check_map.proofs.contents.Contents.shows.Goals as goal

pub returns-in-Some : goal.returns-in-Some
returns-in-Some c config p h =
    let marks = h.marks c.args.bucket (rw (← h.setting) c.requires.range) in
    let begun = h.begun c.args.seat (rw (← h.setting) c.requires.seated) in
    let is : c.in-Some.bucket.now ≡ marks_of c.args.bucket p = grind (arith, common_steps) in
    rw (← value_marked c.args.bucket c.args.version c.args.key p, ← current_marked c.args.seat c.args.bucket c.args.version p)
    (rw (c.shows.ensures, c.began.ensures, is, begun) refl)
