-- The machine stands where the protection asks for help.
use Rattle.std.proofs.Common.{ap, arith, refl, sym, ◌+◌, ◌<◌, ◌^◌, ◌∙◌}
use Rattle.wfe_core.specs.Calls.{Gets, Opens, Phase, Runs}
use Rattle.wfe_core.specs.Locals.{busy_in}
use Rattle.wfe_core.specs.declared.post.Post.{Post}
use Rattle.wfe_drive_words.specs.Called.{at_phase}
use Rattle.wfe_drive_words.proofs.Leading.{closes_from, few_here, here_as}
use Rattle.wfe_drive_words.proofs.get.ask.Goals as goal

pub overflow_add-post : goal.overflow_add-post
overflow_add-post g c =
    let few : c.args.post.now.steps + c.args.steps < 2 ^ 62 = few_here (g.W.Words.comes c.args.words.now) c.requires.valid c.requires.here refl in
    omega (arith, few)

pub drive_apart-requires-clause-busy : goal.drive_apart-requires-clause-busy
drive_apart-requires-clause-busy g c =
    let post : Post = record c.args.post.now { steps = c.args.post.now.steps + c.args.steps } in
    ap busy_in (c.protecting.ensures post)

pub drive_apart-requires-clause-here : goal.drive_apart-requires-clause-here
drive_apart-requires-clause-here g c =
    let post : Post = record c.args.post.now { steps = c.args.post.now.steps + c.args.steps } in
    here_as _ _ (ap (λ (phase : Phase). at_phase phase post c.args.desk.now) (sym (c.protecting.ensures post ∙ ap (Runs (Opens (Gets c.args.key))) c.asking-protect.ensures))) c.requires.here

pub returns-clause-closes : goal.returns-clause-closes
returns-clause-closes g c =
    let post : Post = record c.args.post.now { steps = c.args.post.now.steps + c.args.steps } in
    closes_from _ _ (ap (λ (phase : Phase). at_phase phase post c.args.desk.now) (c.protecting.ensures post ∙ ap (Runs (Opens (Gets c.args.key))) c.asking-protect.ensures)) c.drive_apart.ensures.made
