-- The machine stands where the protection asks for help.
use Rattle.std.proofs.Common.{ap, arith, refl, sym, ◌+◌, ◌<◌, ◌^◌}
use Rattle.wfe_core.specs.Calls.{Runs}
use Rattle.wfe_core.specs.Phases.{Base}
use Rattle.wfe_core.specs.declared.post.Post.{Post}
use Rattle.wfe_drive_words.specs.Called.{at_phase}
use Rattle.wfe_drive_words.proofs.Leading.{few_here, here_as}
use Rattle.wfe_drive_runs.proofs.Turning.{ends_from, leads_so}
use Rattle.wfe_drive_runs.proofs.hold.ask.Goals as goal

pub overflow_add-post : goal.overflow_add-post
overflow_add-post g c =
    let (why, h) = c.requires.here in
    let few : c.args.post.now.steps + c.args.steps < 2 ^ 62 = few_here (g.W.Words.comes c.args.words.now) c.requires.valid h refl in
    omega (arith, few)

pub run-requires-clause-here : goal.run-requires-clause-here
run-requires-clause-here g c =
    let (why, h) = c.requires.here in
    let post : Post = record c.args.post.now { steps = c.args.post.now.steps + c.args.steps } in
    (why, here_as _ _ (ap (λ (base : Base). at_phase (Runs why base) post c.args.desk.now) (sym c.asking.ensures)) h)

pub returns-in-Held-clause-leads : goal.returns-in-Held-clause-leads
returns-in-Held-clause-leads g c = λ why h.
    let post : Post = record c.args.post.now { steps = c.args.post.now.steps + c.args.steps } in
    let is = ap (λ (base : Base). at_phase (Runs why base) post c.args.desk.now) (sym c.asking.ensures) in
    (c.in-Held.era, leads_so (ends_from _ _ (sym is) (c.in-Held.ensures.ends why (here_as _ _ is h))))

pub returns-in-Null-clause-leads : goal.returns-in-Null-clause-leads
returns-in-Null-clause-leads g c = λ why h.
    let post : Post = record c.args.post.now { steps = c.args.post.now.steps + c.args.steps } in
    let is = ap (λ (base : Base). at_phase (Runs why base) post c.args.desk.now) (sym c.asking.ensures) in
    (0, leads_so (ends_from _ _ (sym is) (c.in-Null.ensures.ends why (here_as _ _ is h))))
