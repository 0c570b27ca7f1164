-- The first two reads, and then the pairs.
use Rattle.std.proofs.Common.{arith, ◌+◌, ◌<◌, ◌^◌, ◌≤◌}
use Rattle.wfe_core.specs.Calls.{LoadCount, LoadVersion}
use Rattle.wfe_core.specs.DeskHeld.{desk_of}
use Rattle.wfe_drive_runs.proofs.drive_words.Leading.{here_on, then_leads}
use Rattle.wfe_drive_call.specs.Changing.{kept_of, step_post}
use Rattle.wfe_drive_call.proofs.RowReading.{count_read, version_read, work_asks}
use Rattle.wfe_drive_call.proofs.read.read_row.Goals as goal

pub step-version-requires-clause-asks : goal.step-version-requires-clause-asks
step-version-requires-clause-asks g c = (_, work_asks (kept_of c.args.kept.now) (LoadVersion c.args.slot) (step_post c.args.post.now c.args.before) (desk_of c.args._desk.now) c.load_cell.result c.requires.here c.load_cell.ensures)

pub step-count-requires-clause-asks : goal.step-count-requires-clause-asks
step-count-requires-clause-asks g c =
    let kept = kept_of c.args.kept.now in
    let desk = desk_of c.args._desk.now in
    let first = work_asks kept (LoadVersion c.args.slot) (step_post c.args.post.now c.args.before) desk c.load_cell.result c.requires.here c.load_cell.ensures in
    let second = version_read kept c.args.slot c.args.post.now desk c.args.before c.step-version.result (c.step-version.ensures.steps _ first) in
    (_, work_asks (record kept { version = c.step-version.result }) (LoadCount c.args.slot) (step_post c.args.post.now (c.args.before + 1)) desk c.load_cell-2.result (here_on first.here second) c.load_cell-2.ensures)

pub overflow_cast-count : goal.overflow_cast-count
overflow_cast-count g c =
    let kept = kept_of c.args.kept.now in
    let desk = desk_of c.args._desk.now in
    let first = work_asks kept (LoadVersion c.args.slot) (step_post c.args.post.now c.args.before) desk c.load_cell.result c.requires.here c.load_cell.ensures in
    let second = version_read kept c.args.slot c.args.post.now desk c.args.before c.step-version.result (c.step-version.ensures.steps _ first) in
    let third = work_asks (record kept { version = c.step-version.result }) (LoadCount c.args.slot) (step_post c.args.post.now (c.args.before + 1)) desk c.load_cell-2.result (here_on first.here second) c.load_cell-2.ensures in
    let fits : c.step-count.result ≤ c.args.post.now.layout.config.pairs = (c.step-count.ensures.steps _ third).take.plausible in
    omega (arith, fits, c.requires.own.bounds.pairs)

pub overflow_add-before : goal.overflow_add-before
overflow_add-before g c =
    let kept = kept_of c.args.kept.now in
    let desk = desk_of c.args._desk.now in
    let first = work_asks kept (LoadVersion c.args.slot) (step_post c.args.post.now c.args.before) desk c.load_cell.result c.requires.here c.load_cell.ensures in
    let few : c.args.before < 2 ^ 62 = (c.step-version.ensures.steps _ first).few in
    omega (arith, few)

pub read_pairs-requires-clause-count : goal.read_pairs-requires-clause-count
read_pairs-requires-clause-count g c =
    let kept = kept_of c.args.kept.now in
    let desk = desk_of c.args._desk.now in
    let first = work_asks kept (LoadVersion c.args.slot) (step_post c.args.post.now c.args.before) desk c.load_cell.result c.requires.here c.load_cell.ensures in
    let second = version_read kept c.args.slot c.args.post.now desk c.args.before c.step-version.result (c.step-version.ensures.steps _ first) in
    let third = work_asks (record kept { version = c.step-version.result }) (LoadCount c.args.slot) (step_post c.args.post.now (c.args.before + 1)) desk c.load_cell-2.result (here_on first.here second) c.load_cell-2.ensures in
    (c.step-count.ensures.steps _ third).take.plausible

pub read_pairs-requires-clause-here : goal.read_pairs-requires-clause-here
read_pairs-requires-clause-here g c =
    let kept = kept_of c.args.kept.now in
    let desk = desk_of c.args._desk.now in
    let first = work_asks kept (LoadVersion c.args.slot) (step_post c.args.post.now c.args.before) desk c.load_cell.result c.requires.here c.load_cell.ensures in
    let second = version_read kept c.args.slot c.args.post.now desk c.args.before c.step-version.result (c.step-version.ensures.steps _ first) in
    let third = work_asks (record kept { version = c.step-version.result }) (LoadCount c.args.slot) (step_post c.args.post.now (c.args.before + 1)) desk c.load_cell-2.result (here_on first.here second) c.load_cell-2.ensures in
    here_on third.here (count_read (record kept { version = c.step-version.result }) c.args.slot c.args.post.now desk c.args.before c.step-count.result c.requires.none (c.step-count.ensures.steps _ third))

pub returns-clause-same : goal.returns-clause-same
returns-clause-same g c = g.W.Words.same_on _ _ _ (g.W.Words.same_on _ _ _ c.step-version.ensures.same c.step-count.ensures.same) c.read_pairs.ensures.same

pub returns-clause-leads : goal.returns-clause-leads
returns-clause-leads g c =
    let kept = kept_of c.args.kept.now in
    let desk = desk_of c.args._desk.now in
    let first = work_asks kept (LoadVersion c.args.slot) (step_post c.args.post.now c.args.before) desk c.load_cell.result c.requires.here c.load_cell.ensures in
    let second = version_read kept c.args.slot c.args.post.now desk c.args.before c.step-version.result (c.step-version.ensures.steps _ first) in
    let third = work_asks (record kept { version = c.step-version.result }) (LoadCount c.args.slot) (step_post c.args.post.now (c.args.before + 1)) desk c.load_cell-2.result (here_on first.here second) c.load_cell-2.ensures in
    let fourth = count_read (record kept { version = c.step-version.result }) c.args.slot c.args.post.now desk c.args.before c.step-count.result c.requires.none (c.step-count.ensures.steps _ third) in
    then_leads (then_leads second fourth) c.read_pairs.ensures.leads
