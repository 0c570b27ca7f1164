use Rattle.std.specs.Prelude.{◌==◌, ◌-◌}
use Rattle.std.proofs.Common.{◌≡◌, ℕ, length, ap, ◌∙◌, ◌+◌, ◌<◌, arith}
use Rattle.std.proofs.lemmas.Bool.Decides.{nat_tests}
use Rattle.std.proofs.lemmas.Grind.{common_steps}
use Rattle.laws.specs.StructuresAt.{count_of}
use Rattle.wfe_check_map.specs.Told.{marks_of}
use Rattle.wfe_check_map.proofs.MarksLemmas.{counted}
use Rattle.wfe_check_map.proofs.contents.Contents.is_next.Goals as goal

one_less : (version count : ℕ) → 0 < version → (version - 1 == count) ≡ (version == count + 1)
one_less version count h = grind (arith, nat_tests)

pub returns-then-version-gt0 : goal.returns-then-version-gt0
returns-then-version-gt0 c config p h =
    let marks = h.marks c.args.bucket (rw (← h.setting) c.requires.range) in
    let is : c.in-Some.bucket.now ≡ marks_of c.args.bucket p = grind (arith, common_steps) in
    let count : c.version.result ≡ count_of c.args.bucket p = c.version.ensures ∙ ap length is ∙ counted c.args.bucket p in
    rw count (one_less c.args.version (count_of c.args.bucket p) c.if-version-gt0.true)
