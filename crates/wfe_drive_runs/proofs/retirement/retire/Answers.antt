-- The row is retired, and where it is due the tidying answers.
use Rattle.wfe_core.specs.declared.post.Post.{Post}
use Rattle.wfe_core.specs.words.declared.layout.Layout.{Layout}
use Rattle.wfe_core.specs.words.declared.config.Config.{Config}
use Rattle.std.proofs.Common.{ap, sym, ◌%◌, ◌∙◌, ◌≡◌, arith, ℕ}
use Rattle.wfe_core.specs.Calls.{Answered}
use Rattle.wfe_core.specs.DeskHeld.{desk_of}
use Rattle.wfe_drive_words.proofs.Leading.{closes_with, here_on, then_closes}
use Rattle.wfe_drive_runs.proofs.Turning.{may_here, tidies_not, tidies_now, tidied_so}
use Rattle.wfe_drive_runs.proofs.retirement.retire.Goals as goal

pub returns-then-post-config-ne0-clause-closes : goal.returns-then-post-config-ne0-clause-closes
returns-then-post-config-ne0-clause-closes g c = λ answer e h.
    let post : Post = c.store_life.new.post in
    let every : c.config-config.result.every ≡ post.layout.config.every = ap (λ (config : Config). config.every) c.config-config.ensures in
    closes_with (sym e) (tidies_not answer post c.args.desk.now c.store_life.new.desk c.note_steps.new.desk c.store_life.result c.store_life.ensures.noted (ap desk_of c.note_steps.ensures)
    (λ z. c.if-post-config-ne0.true (ap (λ (n : ℕ). post.retired % n) every ∙ z)) (c.store_life.ensures.turns answer h))

pub store_life-requires-clause-own : goal.store_life-requires-clause-own
store_life-requires-clause-own g c =
    let (answer, e, h) = c.requires.here in
    (may_here (g.W.Words.comes c.args.words.now) c.requires.valid h).valid

pub store_life-requires-clause-slot : goal.store_life-requires-clause-slot
store_life-requires-clause-slot g c =
    let (answer, e, h) = c.requires.here in
    (may_here (g.W.Words.comes c.args.words.now) c.requires.valid h).ready.0

pub nonzero_rem-post : goal.nonzero_rem-post
nonzero_rem-post g c =
    let (answer, e, h) = c.requires.here in
    let most : c.config-config.result.every ≡ c.args.post.now.layout.config.every = ap (λ (config : Config). config.every) c.config-config.ensures ∙ ap (λ (layout : Layout). layout.config.every) c.store_life.ensures.layout in
    omega (arith, most, (may_here (g.W.Words.comes c.args.words.now) c.requires.valid h).valid.bounds.every)

pub tidy-clock-requires-clause-here : goal.tidy-clock-requires-clause-here
tidy-clock-requires-clause-here g c =
    let (answer, e, h) = c.requires.here in
    let post : Post = c.store_life.new.post in
    let every : c.config-config.result.every ≡ post.layout.config.every = ap (λ (config : Config). config.every) c.config-config.ensures in
    let due : post.retired % post.layout.config.every ≡ 0 = ap (λ (n : ℕ). post.retired % n) (sym every) ∙ c.if-post-config-ne0.false in
    (Answered answer, ap Answered e, here_on h (tidies_now answer post c.args.desk.now c.store_life.new.desk c.store_life.result c.store_life.ensures.noted due (c.store_life.ensures.turns answer h)))

pub returns-clause-closes : goal.returns-clause-closes
returns-clause-closes g c = λ answer e h.
    let post : Post = c.store_life.new.post in
    let every : c.config-config.result.every ≡ post.layout.config.every = ap (λ (config : Config). config.every) c.config-config.ensures in
    let due : post.retired % post.layout.config.every ≡ 0 = ap (λ (n : ℕ). post.retired % n) (sym every) ∙ c.if-post-config-ne0.false in
    let y = tidies_now answer post c.args.desk.now c.store_life.new.desk c.store_life.result c.store_life.ensures.noted due (c.store_life.ensures.turns answer h) in
    then_closes y (tidied_so answer c.tidy-clock.result c.tidy-clock.new.post c.tidy-clock.new.desk c.note_steps-2.new.desk (c.tidy-clock.ensures.ends (Answered answer) (ap Answered e) (here_on h y)) (ap desk_of c.note_steps-2.ensures))
