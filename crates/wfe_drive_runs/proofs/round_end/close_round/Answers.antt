-- The end is the scheme's.
use Rattle.std.proofs.Common.{ap, sym, ◌∙◌}
use Rattle.wfe_core.specs.words.Schemes.{has_one_interval}
use Rattle.wfe_core.specs.words.declared.config.Config.{Config}
use Rattle.wfe_core.specs.declared.post.Post.{Post}
use Rattle.wfe_drive_words.proofs.Beginnings.{clears_else}
use Rattle.wfe_drive_runs.proofs.Spanning.{free_without, kept_cleared}
use Rattle.wfe_drive_runs.proofs.round_end.close_round.Goals as goal

pub close_span-requires-clause-scheme : goal.close_span-requires-clause-scheme
close_span-requires-clause-scheme g c = ap (λ (config : Config). config.scheme) (sym c.config.ensures) ∙ c.in-Ibr.is

pub close_span-requires-clause-free : goal.close_span-requires-clause-free
close_span-requires-clause-free g c = c.requires.free (ap has_one_interval (ap (λ (config : Config). config.scheme) (sym c.config.ensures) ∙ c.in-Ibr.is))

pub close_span-requires-clause-here : goal.close_span-requires-clause-here
close_span-requires-clause-here g c = c.requires.here

pub returns-in-Ibr-clause-layout : goal.returns-in-Ibr-clause-layout
returns-in-Ibr-clause-layout g c = ap (λ (post : Post). post.layout) c.close_span.ensures.post

pub returns-in-Ibr-clause-free : goal.returns-in-Ibr-clause-free
returns-in-Ibr-clause-free g c = λ one.
    kept_cleared c.args.post.now c.close_span.new.post (ap (λ (post : Post). post.standing) c.close_span.ensures.post)
    ∙ c.requires.free (ap has_one_interval (ap (λ (config : Config). config.scheme) (sym c.config.ensures) ∙ c.in-Ibr.is))

pub returns-in-Ibr-clause-turns : goal.returns-in-Ibr-clause-turns
returns-in-Ibr-clause-turns g c = c.close_span.ensures.turns

pub close-requires-clause-clears : goal.close-requires-clause-clears
close-requires-clause-clears g c = clears_else c.args.post.now.layout.config c.config.result (sym c.config.ensures) c.in_default.not-Ibr

pub close-requires-clause-here : goal.close-requires-clause-here
close-requires-clause-here g c =
    let (task, next, desk, i, f, h) = c.requires.here in
    (task, next, desk, i, h)

pub returns-in_default-clause-layout : goal.returns-in_default-clause-layout
returns-in_default-clause-layout g c = ap (λ (post : Post). post.layout) c.close.ensures.post

pub returns-in_default-clause-free : goal.returns-in_default-clause-free
returns-in_default-clause-free g c = free_without c.args.post.now c.close.new.post (ap (λ (post : Post). post.layout) c.close.ensures.post) (clears_else c.args.post.now.layout.config c.config.result (sym c.config.ensures) c.in_default.not-Ibr)

pub returns-in_default-clause-turns : goal.returns-in_default-clause-turns
returns-in_default-clause-turns g c = λ task next desk i f h. c.close.ensures.turns task next desk i h
