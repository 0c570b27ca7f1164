-- Where the seat is, its numbers are in range; and where its interval would end it keeps no row.
use Rattle.std.proofs.Common.{sym}
use Rattle.wfe_core.specs.Steps.{first_phase}
use Rattle.wfe_drive_words.specs.Called.{at_phase}
use Rattle.wfe_drive_words.specs.Readiness.{MayAsk}
use Rattle.wfe_drive_words.proofs.Makes.{may_ask_at}
use Rattle.wfe_drive_machines.proofs.Starting.{ends_free}
use Rattle.wfe_drive_machines.proofs.gets.get_free.Goals as goal

pub finish-requires : goal.finish-requires
finish-requires g c =
    let h = c.requires.here in
    let may : MayAsk (at_phase (first_phase c.args.call c.args.post.now) c.args.post.now c.args.desk.now) = may_ask_at h.local _ (g.W.Words.comes c.args.words.now h.local c.requires.valid h.there) h.is in
    may.valid

pub get_ibr_in-requires-clause-free : goal.get_ibr_in-requires-clause-free
get_ibr_in-requires-clause-free g c = ends_free c.args.post.now _ (sym c.in-Some-finish.ensures)
