-- The guard's word is in the table, and what it published is noted.
use Rattle.std.proofs.Common.{ap, arith, refl, subst, sym, true, ◌<◌, ◌^◌, ◌∙◌, ◌≡◌, ◌≤◌}
use Rattle.wfe_scan.proofs.There.{guard_there}
use Rattle.wfe_core.specs.defs.Shown.{Seen}
use Rattle.wfe_core.specs.defs.declared.event.Guard.{Guard}
use Rattle.wfe_core.specs.defs.declared.shown.Shown.{Shown}
use Rattle.wfe_core.specs.words.Place.{has}
use Rattle.wfe_core.specs.words.Schemes.{publishes_rows}
use Rattle.wfe_core.specs.words.declared.config.Config.{Config}
use Rattle.wfe_core.specs.Calls.{ReadGuard, Scans}
use Rattle.wfe_core.specs.DeskHeld.{desk_of}
use Rattle.wfe_core.specs.Desks.{Desk, Report}
use Rattle.wfe_core.specs.Guards.{guard_at, guard_place, published}
use Rattle.wfe_core.specs.Memory.{Load}
use Rattle.wfe_core.specs.Scan.{with_read}
use Rattle.wfe_core.specs.Valid.{Bounds}
use Rattle.wfe_core.specs.declared.post.Post.{Post}
use Rattle.wfe_drive_words.specs.drive_cells.Spots.{spotted}
use Rattle.wfe_drive_words.specs.Called.{at_phase}
use Rattle.wfe_drive_words.specs.Path.{stepped}
use Rattle.wfe_drive_words.proofs.Leading.{few_here}
use Rattle.wfe_drive_runs.proofs.Readying.{valid_stepped}
use Rattle.wfe_drive_runs.proofs.Scanning.{guard_read, shown_found}
use Rattle.wfe_drive_runs.proofs.Turning.{asks_seat, may_here, turns_once}
use Rattle.wfe_drive_runs.proofs.scan_run.read_guard.Goals as goal

pub guard_at-guard-requires : goal.guard_at-guard-requires
guard_at-guard-requires g c =
    let (later, h) = c.requires.here in
    subst Bounds (sym c.config.ensures) (may_here (g.W.Words.comes c.args.words.now) c.requires.valid h).valid.bounds

pub load_guard-requires-clause-valid : goal.load_guard-requires-clause-valid
load_guard-requires-clause-valid g c =
    let (later, h) = c.requires.here in
    (may_here (g.W.Words.comes c.args.words.now) c.requires.valid h).valid

pub load_guard-requires-clause-there : goal.load_guard-requires-clause-there
load_guard-requires-clause-there g c =
    let (later, h) = c.requires.here in
    let may = may_here (g.W.Words.comes c.args.words.now) c.requires.valid h in
    let guard : c.guard_at-guard.result ≡ guard_at c.args.post.now.layout.config c.args.number = c.guard_at-guard.ensures ∙ ap (λ (config : Config). guard_at config c.args.number) c.config.ensures in
    ap (λ (at : Guard). has c.args.post.now.layout (guard_place at)) guard ∙ guard_there c.args.post.now.layout c.args.number may.valid.bounds may.ready.1.0

pub step-found-requires-clause-asks : goal.step-found-requires-clause-asks
step-found-requires-clause-asks g c =
    let (later, h) = c.requires.here in
    let guard : c.guard_at-guard.result ≡ guard_at c.args.post.now.layout.config c.args.number = c.guard_at-guard.ensures ∙ ap (λ (config : Config). guard_at config c.args.number) c.config.ensures in
    (_, asks_seat (at_phase (Scans later (ReadGuard c.args.number)) c.args.post.now c.args.desk.now) h refl (c.load_guard.ensures ∙ ap (λ (at : Guard). spotted c.args.post.now.layout (Load (guard_place at))) guard))

pub overflow_add-post : goal.overflow_add-post
overflow_add-post g c =
    let (later, h) = c.requires.here in
    let few : c.args.post.now.steps < 2 ^ 62 = few_here (g.W.Words.comes c.args.words.now) c.requires.valid h refl in
    omega (arith, few)

pub shown_by-shown-requires-clause-valid : goal.shown_by-shown-requires-clause-valid
shown_by-shown-requires-clause-valid g c =
    let (later, h) = c.requires.here in
    valid_stepped c.args.post.now (may_here (g.W.Words.comes c.args.words.now) c.requires.valid h).valid

pub shown_by-shown-requires-clause-fits : goal.shown_by-shown-requires-clause-fits
shown_by-shown-requires-clause-fits g c =
    let (later, h) = c.requires.here in
    let guard : c.guard_at-guard.result ≡ guard_at c.args.post.now.layout.config c.args.number = c.guard_at-guard.ensures ∙ ap (λ (config : Config). guard_at config c.args.number) c.config.ensures in
    let x = c.step-found.ensures.steps _ (asks_seat (at_phase (Scans later (ReadGuard c.args.number)) c.args.post.now c.args.desk.now) h refl (c.load_guard.ensures ∙ ap (λ (at : Guard). spotted c.args.post.now.layout (Load (guard_place at))) guard)) in
    shown_found (publishes_rows c.args.post.now.layout.config.scheme) c.args.post.now c.step-found.result x.take.plausible

pub note-requires : goal.note-requires
note-requires g c =
    let (later, h) = c.requires.here in
    let may = may_here (g.W.Words.comes c.args.words.now) c.requires.valid h in
    omega (arith, may.ready.1.0, may.ready.1.1, c.requires.room.guards_fit)

pub returns-clause-turns : goal.returns-clause-turns
returns-clause-turns g c = λ later h.
    let post : Post = c.args.post.now in
    let desk : Desk = desk_of c.args.desk.now in
    let guard : c.guard_at-guard.result ≡ guard_at post.layout.config c.args.number = c.guard_at-guard.ensures ∙ ap (λ (config : Config). guard_at config c.args.number) c.config.ensures in
    let rows = publishes_rows post.layout.config.scheme in
    let seat = at_phase (Scans later (ReadGuard c.args.number)) post c.args.desk.now in
    let x = c.step-found.ensures.steps _ (asks_seat seat h refl (c.load_guard.ensures ∙ ap (λ (at : Guard). spotted post.layout (Load (guard_place at))) guard)) in
    let seen = ap (λ (s : Shown). let it : Seen = (c.guard_at-guard.result, s) in it) c.shown_by-shown.ensures ∙ ap (λ (at : Guard). let it : Seen = (at, published rows at c.step-found.result) in it) guard in
    let read = ap (λ (report : Report). let d : Desk = record desk { report = report } in d) c.note.ensures.report ∙ ap (with_read desk c.args.number) seen in
    guard_read later c.args.number (stepped post) desk _ c.step-found.result read (turns_once seat x)
