-- What is let go, and a move of the clock, begin as the scheme has them.
use Rattle.std.proofs.Common.{ap, sym, ◌∙◌}
use Rattle.wfe_core.specs.words.declared.config.SchemeKind.{SchemeKind}
use Rattle.wfe_core.specs.defs.declared.call.Call.{Call}
use Rattle.wfe_core.specs.Calls.{Advances, Runs}
use Rattle.wfe_core.specs.Rounds.{move_base}
use Rattle.wfe_core.specs.Steps.{first_phase}
use Rattle.wfe_drive_machines.proofs.Starting.{at_index_by}
use Rattle.wfe_drive_machines.proofs.under.drive_other.Goals as goal

pub drive-requires-in-Release-clause-first : goal.drive-requires-in-Release-clause-first
drive-requires-in-Release-clause-first g c = c.new-in-Release.ensures c.args.post.now ∙ ap (λ (call : Call). first_phase call c.args.post.now) (sym c.in-Release.is)

pub drive-requires-in-Advance-clause-first : goal.drive-requires-in-Advance-clause-first
drive-requires-in-Advance-clause-first g c = c.new-in-Advance.ensures c.args.post.now ∙ (ap (λ (kind : SchemeKind). Runs Advances (move_base kind)) (sym c.requires.scheme) ∙ ap (λ (call : Call). first_phase call c.args.post.now) (sym c.in-Advance.is))

pub drive_at_index-requires-clause-named : goal.drive_at_index-requires-clause-named
drive_at_index-requires-clause-named g c = at_index_by c.args.call c.requires.other c.requires.stays c.in_default.not-Hold c.in_default.not-Release c.in_default.not-Advance c.in_default.not-Scan
