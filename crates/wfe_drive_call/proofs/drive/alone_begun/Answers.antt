-- The machine is that of the call; and where the seat keeps no row its own code makes it.
use Rattle.std.proofs.Common.{ap, subst, sym, true, ◌≡◌}
use Rattle.wfe_core.specs.defs.declared.call.Call.{Call}
use Rattle.wfe_core.specs.Locals.{stays}
use Rattle.wfe_core.specs.Steps.{first_phase}
use Rattle.wfe_drive_runs.specs.drive_words.Called.{at_phase}
use Rattle.wfe_drive_runs.specs.drive_words.Readiness.{MayAsk}
use Rattle.wfe_drive_runs.proofs.drive_words.Leading.{closes_from, here_as}
use Rattle.wfe_drive_runs.proofs.drive_words.Makes.{may_ask_at}
use Rattle.wfe_drive_call.proofs.drive.alone_begun.Goals as goal

pub keeps_row-requires : goal.keeps_row-requires
keeps_row-requires g c =
    let h = c.requires.here in
    let may : MayAsk (at_phase (first_phase (g.C.Alone.named c.args.made) c.args.post.now) c.args.post.now c.args.desk.now) = may_ask_at h.local _ (g.W.Words.comes c.args.words.now h.local c.requires.valid h.there) h.is in
    may.valid

pub drive_under-requires-clause-scheme : goal.drive_under-requires-clause-scheme
drive_under-requires-clause-scheme g c = c.keeps_row.ensures.kept c.if-keeps_row.true

pub drive_under-requires-clause-here : goal.drive_under-requires-clause-here
drive_under-requires-clause-here g c = here_as _ _ (ap (λ (call : Call). at_phase (first_phase call c.args.post.now) c.args.post.now c.args.desk.now) (sym c.call.ensures)) c.requires.here

pub drive_under-requires-clause-stays : goal.drive_under-requires-clause-stays
drive_under-requires-clause-stays g c = subst (λ (call : Call). stays call ≡ true) (sym c.call.ensures) (g.C.Alone.remains c.args.made)

pub returns-then-keeps_row-clause-made : goal.returns-then-keeps_row-clause-made
returns-then-keeps_row-clause-made g c = closes_from _ _ (ap (λ (call : Call). at_phase (first_phase call c.args.post.now) c.args.post.now c.args.desk.now) c.call.ensures) c.drive_under.ensures.made

pub make-requires-clause-free : goal.make-requires-clause-free
make-requires-clause-free g c = c.keeps_row.ensures.free c.if-keeps_row.false
