-- Under 2GE nothing is to be done on the words; else index 1 is cleared, and index 0 comes after it.
use Rattle.std.proofs.Common.{None, ap, arith, refl, sym, ◌∙◌}
use Rattle.wfe_core.specs.Calls.{ClearsNext, Dequeues}
use Rattle.wfe_core.specs.words.declared.config.Config.{Config}
use Rattle.wfe_core.specs.Posts.{withdrawn}
use Rattle.wfe_core.specs.declared.post.Post.{Post}
use Rattle.wfe_drive_runs.specs.Pieces.{clearing_at}
use Rattle.wfe_drive_runs.proofs.Closing.{clearing_noted, clears_next_is}
use Rattle.wfe_drive_words.proofs.Beginnings.{clears_else}
use Rattle.wfe_drive_words.proofs.Leading.{here_as, leads_as, leads_from, leads_none}
use Rattle.wfe_drive_runs.proofs.Spanning.{free_without, kept_set, next_clears}
use Rattle.wfe_drive_runs.proofs.round_end.close_next.Goals as goal

pub bounds-post-1 : goal.bounds-post-1
bounds-post-1 g c = omega arith

pub returns-in-Ibr-clause-free : goal.returns-in-Ibr-clause-free
returns-in-Ibr-clause-free g c = λ one. kept_set c.args.post.now (withdrawn c.args.post.now 1) 1 None (omega arith) refl ∙ c.requires.free one

pub returns-in-Ibr-clause-leads : goal.returns-in-Ibr-clause-leads
returns-in-Ibr-clause-leads g c = λ next desk h.
    leads_as _ _ (next_clears next c.args.post.now desk (ap (λ (config : Config). config.scheme) (sym c.config.ensures) ∙ c.in-Ibr.is)) (leads_none (g.W.Words.at c.args.words.now) (g.W.Words.stands c.args.words.now) _)

pub clear-requires-clause-here : goal.clear-requires-clause-here
clear-requires-clause-here g c =
    let (next, desk, h) = c.requires.here in
    (ClearsNext next, desk, here_as _ _ (clears_next_is next c.args.post.now desk (clears_else c.args.post.now.layout.config c.config.result (sym c.config.ensures) c.in_default.not-Ibr)) h)

pub returns-in_default-clause-layout : goal.returns-in_default-clause-layout
returns-in_default-clause-layout g c = ap (λ (post : Post). post.layout) c.clear.ensures.post

pub returns-in_default-clause-free : goal.returns-in_default-clause-free
returns-in_default-clause-free g c = free_without c.args.post.now c.clear.new.post (ap (λ (post : Post). post.layout) c.clear.ensures.post) (clears_else c.args.post.now.layout.config c.config.result (sym c.config.ensures) c.in_default.not-Ibr)

pub returns-in_default-clause-leads : goal.returns-in_default-clause-leads
returns-in_default-clause-leads g c = λ next desk h.
    let is = clears_next_is next c.args.post.now desk (clears_else c.args.post.now.layout.config c.config.result (sym c.config.ensures) c.in_default.not-Ibr) in
    let (told, quiet, x) = c.clear.ensures.turns (ClearsNext next) desk (here_as _ _ is h) in
    let post = c.clear.new.post in
    leads_from _ _ (sym is) (leads_as _ _ (clearing_noted Dequeues next post desk told ∙ ap (clearing_at Dequeues next post) quiet) x.leads)
