-- The move is a machine's, or is made without one; or the scan comes at once.
use Rattle.std.proofs.Common.{ap, subst, sym, ◌∙◌, ◌≡◌}
use Rattle.wfe_core.specs.Calls.{AfterScan, Phase, ReadGuard, Runs, Scans, Tidies}
use Rattle.wfe_core.specs.Phases.{Base}
use Rattle.wfe_core.specs.Rounds.{first_tidy}
use Rattle.wfe_core.specs.Steps.{after_move}
use Rattle.wfe_drive_words.specs.Called.{at_phase}
use Rattle.wfe_drive_words.proofs.Leading.{here_as, leads_as, leads_from, leads_none}
use Rattle.wfe_drive_runs.specs.Pieces.{IsWalk}
use Rattle.wfe_drive_runs.proofs.Moving.{helps_first, moves_first, scans_first}
use Rattle.wfe_drive_runs.proofs.Turning.{went_on}
use Rattle.wfe_drive_runs.proofs.clock_run.move_clock.Goals as goal

pub run-requires-clause-here : goal.run-requires-clause-here
run-requires-clause-here g c =
    let (later, still, h) = c.requires.here in
    let first = helps_first later c.args.post.now c.config-scheme.result c.helps.result c.config-scheme.ensures c.helps.ensures c.if-helps.true in
    (Tidies later, here_as _ _ (ap (λ (phase : Phase). at_phase phase c.args.post.now c.args.desk.now) (first ∙ ap (Runs (Tidies later)) (sym c.new.ensures))) h)

pub returns-then-helps-clause-standing : goal.returns-then-helps-clause-standing
returns-then-helps-clause-standing g c = c.run.ensures.walks (subst IsWalk (sym c.new.ensures) tt)

pub returns-then-helps-clause-leads : goal.returns-then-helps-clause-leads
returns-then-helps-clause-leads g c = λ later still h.
    let first = helps_first later c.args.post.now c.config-scheme.result c.helps.result c.config-scheme.ensures c.helps.ensures c.if-helps.true in
    let is = ap (λ (phase : Phase). at_phase phase c.args.post.now c.args.desk.now) (first ∙ ap (Runs (Tidies later)) (sym c.new.ensures)) in
    let x = c.run.ensures.ends (Tidies later) (here_as _ _ is h) in
    leads_from _ _ (sym is) (leads_as _ _ (went_on (Scans (after_move later c.run.result) (ReadGuard 0)) c.run.new.post x.before x.told c.run.new.desk x.noted) x.turns.leads)

pub advance-requires-clause-here : goal.advance-requires-clause-here
advance-requires-clause-here g c =
    let (later, still, h) = c.requires.here in
    let first = moves_first later c.args.post.now c.config-scheme.result c.helps.result c.moves.result c.config-scheme.ensures c.helps.ensures c.if-helps.false c.moves.ensures c.if-moves.true in
    (later, here_as _ _ (ap (λ (phase : Phase). at_phase phase c.args.post.now c.args.desk.now) first) h)

pub returns-then-moves-clause-leads : goal.returns-then-moves-clause-leads
returns-then-moves-clause-leads g c = λ later still h.
    let first = moves_first later c.args.post.now c.config-scheme.result c.helps.result c.moves.result c.config-scheme.ensures c.helps.ensures c.if-helps.false c.moves.ensures c.if-moves.true in
    let is = ap (λ (phase : Phase). at_phase phase c.args.post.now c.args.desk.now) first in
    leads_from _ _ (sym is) (c.advance.ensures.leads later (here_as _ _ is h))

pub returns-clause-same : goal.returns-clause-same
returns-clause-same g c = g.W.Words.same_self _

pub returns-clause-leads : goal.returns-clause-leads
returns-clause-leads g c = λ later still h.
    let first = scans_first later c.args.post.now c.config-scheme.result c.moves.result c.config-scheme.ensures c.moves.ensures c.if-moves.false in
    let is = ap (λ (phase : Phase). at_phase phase c.args.post.now c.args.desk.now) (first ∙ ap (λ (next : AfterScan). Scans next (ReadGuard 0)) (sym still)) in
    leads_as _ _ is (leads_none (g.W.Words.at c.args.words.now) (g.W.Words.stands c.args.words.now) (at_phase (first_tidy later c.args.post.now) c.args.post.now c.args.desk.now))
