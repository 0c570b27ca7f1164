-- The first two reads, and what they lead to.
use Rattle.std.proofs.Common.{arith, ◌≤◌}
use Rattle.wfe_core.specs.Calls.{FindCount, FindVersion}
use Rattle.wfe_drive_words.proofs.Leading.{here_on, then_leads}
use Rattle.wfe_drive_words.proofs.RowReads.{count_read, read_asks, version_read}
use Rattle.wfe_drive_words.proofs.found.find.Goals as goal

pub step-count-requires-clause-asks : goal.step-count-requires-clause-asks
step-count-requires-clause-asks g c =
    let (r, e, h) = c.requires.here in
    let first = read_asks c.args.key r 0 (FindVersion c.args.slot) c.args.post.now.layout c.load_cell.result e h c.load_cell.ensures in
    let second = version_read c.args.key r c.args.slot c.step-version.result (c.step-version.ensures.steps _ first) in
    (_, read_asks c.args.key r 1 (FindCount c.args.slot c.step-version.result) c.args.post.now.layout c.load_cell-2.result e (here_on h second) c.load_cell-2.ensures)

pub overflow_cast-count : goal.overflow_cast-count
overflow_cast-count g c =
    let (r, e, h) = c.requires.here in
    let first = read_asks c.args.key r 0 (FindVersion c.args.slot) c.args.post.now.layout c.load_cell.result e h c.load_cell.ensures in
    let second = version_read c.args.key r c.args.slot c.step-version.result (c.step-version.ensures.steps _ first) in
    let third = read_asks c.args.key r 1 (FindCount c.args.slot c.step-version.result) c.args.post.now.layout c.load_cell-2.result e (here_on h second) c.load_cell-2.ensures in
    let fits : c.step-count.result ≤ c.args.post.now.layout.config.pairs = rw (← e) (c.step-count.ensures.steps _ third).take.plausible in
    omega (arith, fits, c.requires.own.bounds.pairs)

pub find_key-requires-clause-count : goal.find_key-requires-clause-count
find_key-requires-clause-count g c =
    let (r, e, h) = c.requires.here in
    let first = read_asks c.args.key r 0 (FindVersion c.args.slot) c.args.post.now.layout c.load_cell.result e h c.load_cell.ensures in
    let second = version_read c.args.key r c.args.slot c.step-version.result (c.step-version.ensures.steps _ first) in
    let third = read_asks c.args.key r 1 (FindCount c.args.slot c.step-version.result) c.args.post.now.layout c.load_cell-2.result e (here_on h second) c.load_cell-2.ensures in
    rw (← e) (c.step-count.ensures.steps _ third).take.plausible

pub find_key-requires-clause-here : goal.find_key-requires-clause-here
find_key-requires-clause-here g c =
    let (r, e, h) = c.requires.here in
    let first = read_asks c.args.key r 0 (FindVersion c.args.slot) c.args.post.now.layout c.load_cell.result e h c.load_cell.ensures in
    let second = version_read c.args.key r c.args.slot c.step-version.result (c.step-version.ensures.steps _ first) in
    let third = read_asks c.args.key r 1 (FindCount c.args.slot c.step-version.result) c.args.post.now.layout c.load_cell-2.result e (here_on h second) c.load_cell-2.ensures in
    (r, e, here_on third.here (count_read c.args.key r c.args.slot c.step-version.result c.step-count.result (c.step-count.ensures.steps _ third)))

pub returns-clause-same : goal.returns-clause-same
returns-clause-same g c = g.W.Words.same_on _ _ _ (g.W.Words.same_on _ _ _ c.step-version.ensures.same c.step-count.ensures.same) c.find_key.ensures.same

pub returns-clause-leads : goal.returns-clause-leads
returns-clause-leads g c = λ r e h.
    let first = read_asks c.args.key r 0 (FindVersion c.args.slot) c.args.post.now.layout c.load_cell.result e h c.load_cell.ensures in
    let second = version_read c.args.key r c.args.slot c.step-version.result (c.step-version.ensures.steps _ first) in
    let third = read_asks c.args.key r 1 (FindCount c.args.slot c.step-version.result) c.args.post.now.layout c.load_cell-2.result e (here_on h second) c.load_cell-2.ensures in
    let fourth = count_read c.args.key r c.args.slot c.step-version.result c.step-count.result (c.step-count.ensures.steps _ third) in
    then_leads (then_leads second fourth) (c.find_key.ensures.leads r e (here_on third.here fourth))
