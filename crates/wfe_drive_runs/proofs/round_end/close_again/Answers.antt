-- Under 2GE nothing is to be done on the words; else the index is cleared.
use Rattle.std.proofs.Common.{ap, arith, refl, sym, ◌∙◌}
use Rattle.wfe_core.specs.Calls.{Again}
use Rattle.wfe_core.specs.words.declared.config.Config.{Config}
use Rattle.wfe_core.specs.Posts.{withdrawn}
use Rattle.wfe_core.specs.declared.post.Post.{Post}
use Rattle.wfe_drive_words.proofs.Beginnings.{clears_else}
use Rattle.wfe_drive_words.proofs.Leading.{leads_as, leads_none}
use Rattle.wfe_drive_runs.proofs.Spanning.{again_is, free_without, kept_cleared}
use Rattle.wfe_drive_runs.proofs.round_end.close_again.Goals as goal

pub bounds-post-0 : goal.bounds-post-0
bounds-post-0 g c = omega arith

pub returns-in-Ibr-clause-free : goal.returns-in-Ibr-clause-free
returns-in-Ibr-clause-free g c = λ one. kept_cleared c.args.post.now (withdrawn c.args.post.now 0) refl ∙ c.requires.free one

pub returns-in-Ibr-clause-leads : goal.returns-in-Ibr-clause-leads
returns-in-Ibr-clause-leads g c = λ task desk i h.
    leads_as _ _ (again_is task c.args.post.now desk i (ap (λ (config : Config). config.scheme) (sym c.config.ensures) ∙ c.in-Ibr.is)) (leads_none (g.W.Words.at c.args.words.now) (g.W.Words.stands c.args.words.now) _)

pub close-requires-clause-clears : goal.close-requires-clause-clears
close-requires-clause-clears g c = clears_else c.args.post.now.layout.config c.config.result (sym c.config.ensures) c.in_default.not-Ibr

pub close-requires-clause-here : goal.close-requires-clause-here
close-requires-clause-here g c =
    let (task, desk, i, h) = c.requires.here in
    (task, Again, desk, i, h)

pub returns-in_default-clause-layout : goal.returns-in_default-clause-layout
returns-in_default-clause-layout g c = ap (λ (post : Post). post.layout) c.close.ensures.post

pub returns-in_default-clause-free : goal.returns-in_default-clause-free
returns-in_default-clause-free g c = free_without c.args.post.now c.close.new.post (ap (λ (post : Post). post.layout) c.close.ensures.post) (clears_else c.args.post.now.layout.config c.config.result (sym c.config.ensures) c.in_default.not-Ibr)

pub returns-in_default-clause-leads : goal.returns-in_default-clause-leads
returns-in_default-clause-leads g c = λ task desk i h. (c.close.ensures.turns task Again desk i h).leads
