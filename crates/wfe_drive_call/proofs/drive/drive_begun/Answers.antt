-- The table's scheme is that of the code, and only 2GE has an interval.
use Rattle.std.proofs.Common.{ap, refl, sym, ◌∙◌}
use Rattle.wfe_core.specs.words.declared.config.Config.{Config}
use Rattle.wfe_core.specs.words.declared.config.SchemeKind.TheVariants as kinds
use Rattle.wfe_drive_call.proofs.Standing.{free_without}
use Rattle.wfe_drive_call.proofs.drive.drive_begun.Goals as goal

pub drive_free-requires-clause-scheme : goal.drive_free-requires-clause-scheme
drive_free-requires-clause-scheme g c = ap (λ (config : Config). config.scheme) (sym c.config.ensures) ∙ c.in-He.is

pub drive_free-requires-clause-free : goal.drive_free-requires-clause-free
drive_free-requires-clause-free g c = free_without kinds.He c.args.post.now (ap (λ (config : Config). config.scheme) (sym c.config.ensures) ∙ c.in-He.is) refl

pub drive_ibr-requires-clause-scheme : goal.drive_ibr-requires-clause-scheme
drive_ibr-requires-clause-scheme g c = ap (λ (config : Config). config.scheme) (sym c.config.ensures) ∙ c.in-Ibr.is

pub drive_free-requires-in-Wfe-clause-scheme : goal.drive_free-requires-in-Wfe-clause-scheme
drive_free-requires-in-Wfe-clause-scheme g c = ap (λ (config : Config). config.scheme) (sym c.config.ensures) ∙ c.in-Wfe.is

pub drive_free-requires-in-Wfe-clause-free : goal.drive_free-requires-in-Wfe-clause-free
drive_free-requires-in-Wfe-clause-free g c = free_without kinds.Wfe c.args.post.now (ap (λ (config : Config). config.scheme) (sym c.config.ensures) ∙ c.in-Wfe.is) refl

pub drive_free-requires-in-Hp-clause-scheme : goal.drive_free-requires-in-Hp-clause-scheme
drive_free-requires-in-Hp-clause-scheme g c = ap (λ (config : Config). config.scheme) (sym c.config.ensures) ∙ c.in-Hp.is

pub drive_free-requires-in-Hp-clause-free : goal.drive_free-requires-in-Hp-clause-free
drive_free-requires-in-Hp-clause-free g c = free_without kinds.Hp c.args.post.now (ap (λ (config : Config). config.scheme) (sym c.config.ensures) ∙ c.in-Hp.is) refl
