-- Where the seat is, its numbers are in range; and where its interval would end it keeps no row.
use Rattle.std.proofs.Common.{sym}
use Rattle.wfe_core.specs.Steps.{first_phase}
use Rattle.wfe_drive_runs.specs.drive_words.Called.{at_phase}
use Rattle.wfe_drive_runs.specs.drive_words.Readiness.{MayAsk}
use Rattle.wfe_drive_runs.proofs.drive_words.Makes.{may_ask_at}
use Rattle.wfe_drive_machines.proofs.Starting.{ends_free}
use Rattle.wfe_drive_call.proofs.drive.drive_ibr.Goals as goal

pub finish-requires : goal.finish-requires
finish-requires g c =
    let h = c.requires.here in
    let may : MayAsk (at_phase (first_phase c.args.call c.args.post.now) c.args.post.now c.args.desk.now) = may_ask_at h.local _ (g.W.Words.comes c.args.words.now h.local c.requires.valid h.there) h.is in
    may.valid

pub drive_free-requires-clause-free : goal.drive_free-requires-clause-free
drive_free-requires-clause-free g c = λ one. ends_free c.args.post.now _ (sym c.in-Some.ensures)
