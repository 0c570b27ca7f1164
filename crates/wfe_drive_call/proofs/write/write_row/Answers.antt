-- The version and the count, and then the pairs.
use Rattle.std.proofs.Common.{ap, arith, refl, ℕ, ◌+◌, ◌<◌, ◌^◌, ◌≡◌}
use Rattle.wfe_core.specs.DeskHeld.{desk_of}
use Rattle.wfe_drive_runs.proofs.drive_words.Leading.{here_on, leads_as, then_leads}
use Rattle.wfe_drive_call.specs.Changing.{kept_of, step_post, wrote_at}
use Rattle.wfe_drive_call.proofs.Standing.{ready_here}
use Rattle.wfe_drive_call.proofs.RowWriting.{write_asks, writes_on}
use Rattle.wfe_drive_call.proofs.write.write_row.Goals as goal

two-more : (n : ℕ) → n + 1 + 1 ≡ n + 2
two-more n = omega arith

pub overflow_add-kept : goal.overflow_add-kept
overflow_add-kept g c =
    let may = ready_here (g.W.Words.comes c.args.words.now) c.requires.valid c.requires.here in
    omega (arith, may.ready.1.1, c.requires.own.bounds.versions)

pub step-requires-clause-asks : goal.step-requires-clause-asks
step-requires-clause-asks g c =
    let kept = kept_of c.args.kept.now in
    let desk = desk_of c.args._desk.now in
    let first = write_asks kept c.args.slot 1 _ (step_post c.args.post.now c.args.before) desk c.store_cell.result c.requires.here refl c.store_cell.ensures in
    (_, first)

pub step-requires-2-clause-asks : goal.step-requires-2-clause-asks
step-requires-2-clause-asks g c =
    let kept = kept_of c.args.kept.now in
    let desk = desk_of c.args._desk.now in
    let first = write_asks kept c.args.slot 1 _ (step_post c.args.post.now c.args.before) desk c.store_cell.result c.requires.here refl c.store_cell.ensures in
    let stored = leads_as _ _ (writes_on kept c.args.slot 1 2 (step_post c.args.post.now (c.args.before + 1)) desk (omega arith) refl) (c.step.ensures.steps _ first).leads in
    let second = write_asks kept c.args.slot 2 _ (step_post c.args.post.now (c.args.before + 1)) desk c.store_cell-2.result (here_on first.here stored) c.len-count.ensures.count c.store_cell-2.ensures in
    (_, second)

pub overflow_add-before : goal.overflow_add-before
overflow_add-before g c =
    let kept = kept_of c.args.kept.now in
    let desk = desk_of c.args._desk.now in
    let first = write_asks kept c.args.slot 1 _ (step_post c.args.post.now c.args.before) desk c.store_cell.result c.requires.here refl c.store_cell.ensures in
    let few : c.args.before < 2 ^ 62 = (c.step.ensures.steps _ first).few in
    omega (arith, few)

pub write_pairs-requires-clause-here : goal.write_pairs-requires-clause-here
write_pairs-requires-clause-here g c =
    let kept = kept_of c.args.kept.now in
    let desk = desk_of c.args._desk.now in
    let first = write_asks kept c.args.slot 1 _ (step_post c.args.post.now c.args.before) desk c.store_cell.result c.requires.here refl c.store_cell.ensures in
    let stored = leads_as _ _ (writes_on kept c.args.slot 1 2 (step_post c.args.post.now (c.args.before + 1)) desk (omega arith) refl) (c.step.ensures.steps _ first).leads in
    let second = write_asks kept c.args.slot 2 _ (step_post c.args.post.now (c.args.before + 1)) desk c.store_cell-2.result (here_on first.here stored) c.len-count.ensures.count c.store_cell-2.ensures in
    let wrote = leads_as _ _ (ap (λ (k : ℕ). wrote_at kept c.args.slot 2 (step_post c.args.post.now k) desk) (two-more c.args.before)) (c.step-2.ensures.steps _ second).leads in
    here_on second.here wrote

pub returns-clause-same : goal.returns-clause-same
returns-clause-same g c = g.W.Words.same_on _ _ _ (g.W.Words.same_on _ _ _ c.step.ensures.same c.step-2.ensures.same) c.write_pairs.ensures.same

pub returns-clause-leads : goal.returns-clause-leads
returns-clause-leads g c =
    let kept = kept_of c.args.kept.now in
    let desk = desk_of c.args._desk.now in
    let first = write_asks kept c.args.slot 1 _ (step_post c.args.post.now c.args.before) desk c.store_cell.result c.requires.here refl c.store_cell.ensures in
    let stored = leads_as _ _ (writes_on kept c.args.slot 1 2 (step_post c.args.post.now (c.args.before + 1)) desk (omega arith) refl) (c.step.ensures.steps _ first).leads in
    let second = write_asks kept c.args.slot 2 _ (step_post c.args.post.now (c.args.before + 1)) desk c.store_cell-2.result (here_on first.here stored) c.len-count.ensures.count c.store_cell-2.ensures in
    let wrote = leads_as _ _ (ap (λ (k : ℕ). wrote_at kept c.args.slot 2 (step_post c.args.post.now k) desk) (two-more c.args.before)) (c.step-2.ensures.steps _ second).leads in
    then_leads (then_leads stored wrote) c.write_pairs.ensures.leads
