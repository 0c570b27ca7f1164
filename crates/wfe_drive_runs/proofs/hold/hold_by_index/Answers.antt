-- The scheme is not 2GE.
use Rattle.std.proofs.Common.{ap, sym, ◌∙◌}
use Rattle.wfe_core.specs.words.declared.config.Config.{Config}
use Rattle.wfe_drive_words.proofs.Beginnings.{clears_not}
use Rattle.wfe_drive_runs.proofs.hold.hold_by_index.Goals as goal

pub unreachable-requires : goal.unreachable-requires
unreachable-requires g c = clears_not c.args.post.now.layout.config c.config.result (sym c.config.ensures) c.requires.clears c.in-Ibr.is

pub hold_under-requires-clause-scheme : goal.hold_under-requires-clause-scheme
hold_under-requires-clause-scheme g c = ap (λ (config : Config). config.scheme) (sym c.config.ensures) ∙ c.in-He.is

pub hold_under-requires-in-Wfe-clause-scheme : goal.hold_under-requires-in-Wfe-clause-scheme
hold_under-requires-in-Wfe-clause-scheme g c = ap (λ (config : Config). config.scheme) (sym c.config.ensures) ∙ c.in-Wfe.is

pub hold_under-requires-in-Hp-clause-scheme : goal.hold_under-requires-in-Hp-clause-scheme
hold_under-requires-in-Hp-clause-scheme g c = ap (λ (config : Config). config.scheme) (sym c.config.ensures) ∙ c.in-Hp.is
