-- The machine stands where the protection asks for help; then the head is loaded again.
use Rattle.std.proofs.Common.{ap, arith, refl, sym, ◌+◌, ◌<◌, ◌^◌}
use Rattle.wfe_core.specs.Calls.{Runs}
use Rattle.wfe_core.specs.Follow.{following}
use Rattle.wfe_core.specs.Phases.{Base}
use Rattle.wfe_core.specs.Phases.ProtectAt.{PublishRequest}
use Rattle.wfe_core.specs.declared.post.Post.{Post}
use Rattle.wfe_drive_words.specs.Called.{at_phase}
use Rattle.wfe_drive_runs.proofs.Followings.{so_from}
use Rattle.wfe_drive_words.proofs.Leading.{few_here, here_as, here_on, leads_from}
use Rattle.wfe_drive_runs.proofs.Turning.{leads_so_after}
use Rattle.wfe_drive_runs.proofs.follow.ask.Goals as goal

pub overflow_add-post : goal.overflow_add-post
overflow_add-post g c =
    let (why, h) = c.requires.here in
    let few : c.args.post.now.steps + c.args.steps < 2 ^ 62 = few_here (g.W.Words.comes c.args.words.now) c.requires.valid h refl in
    omega (arith, few)

pub run_followed-requires-clause-of : goal.run_followed-requires-clause-of
run_followed-requires-clause-of g c = (c.args.steps, PublishRequest, c.asking-machine.ensures)

pub run_followed-requires-clause-here : goal.run_followed-requires-clause-here
run_followed-requires-clause-here g c =
    let (why, h) = c.requires.here in
    let post : Post = record c.args.post.now { steps = c.args.post.now.steps + c.args.steps } in
    (why, here_as _ _ (ap (λ (base : Base). at_phase (Runs why (following base)) post c.args.desk.now) (sym c.asking-machine.ensures)) h)

pub reload-requires-clause-here : goal.reload-requires-clause-here
reload-requires-clause-here g c =
    let (why, h) = c.requires.here in
    let post : Post = record c.args.post.now { steps = c.args.post.now.steps + c.args.steps } in
    let is = ap (λ (base : Base). at_phase (Runs why (following base)) post c.args.desk.now) (sym c.asking-machine.ensures) in
    let (n, x) = c.in-Held.ensures.follows why (here_as _ _ is h) in
    (why, c.in-Held.era, n, here_on (here_as _ _ is h) x)

pub returns-in-Held-clause-leads : goal.returns-in-Held-clause-leads
returns-in-Held-clause-leads g c = λ why h.
    let post : Post = record c.args.post.now { steps = c.args.post.now.steps + c.args.steps } in
    let is = ap (λ (base : Base). at_phase (Runs why (following base)) post c.args.desk.now) (sym c.asking-machine.ensures) in
    let (n, x) = c.in-Held.ensures.follows why (here_as _ _ is h) in
    leads_so_after (leads_from _ _ (sym is) x) (c.reload.ensures.leads why c.in-Held.era n (here_on (here_as _ _ is h) x))

pub returns-in-Null-clause-leads : goal.returns-in-Null-clause-leads
returns-in-Null-clause-leads g c = λ why h.
    let post : Post = record c.args.post.now { steps = c.args.post.now.steps + c.args.steps } in
    let is = ap (λ (base : Base). at_phase (Runs why (following base)) post c.args.desk.now) (sym c.asking-machine.ensures) in
    so_from _ _ (sym is) (c.in-Null.ensures.follows why (here_as _ _ is h))
