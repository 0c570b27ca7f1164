-- The start words meet the rule.
use Rattle.std.proofs.Common.{ap, length, map, replicate, subst, sym, [], ◌∷◌, ◌≡◌}
use Rattle.std.specs.Prelude.{None}
use mathlib.Core.Option.{some}
use Rattle.wfe_core.specs.words.declared.config.Config.{Config}
use Rattle.wfe_drive_cells.specs.Memory.{HoldsStart}
use Rattle.wfe_drive_rule.specs.Rule.{Rules}
use Rattle.wfe_drive_rule.specs.Spots.{shown, slot_at, spots}
use Rattle.wfe_drive_rule.specs.Views.{first_view}
use Rattle.wfe_drive_rule.proofs.Making.{first_bare, opens}
use Rattle.wfe_drive_rule.proofs.table.open.Goals as goal

pub vacant-requires : goal.vacant-requires
vacant-requires c =
    let block = c.as_slice.result.now in
    let is = sym c.as_slice.ensures.value in (
      subst (λ b. length b ≡ spots c.args.layout) is c.in_ok-block.ensures.count,
      subst (λ seats. Rules c.args.layout (shown c.args.layout block) (map some (replicate (slot_at seats) None)) (first_view c.args.layout ∷ [])) (sym (ap (λ (config : Config). config.seats) c.config.ensures))
          (opens c.args.layout (shown c.args.layout block) c.requires.valid (subst (λ b. HoldsStart c.args.layout (shown c.args.layout b)) is c.in_ok-block.ensures.starts)),
    )

pub returns-in-Ok-clause-bare : goal.returns-in-Ok-clause-bare
returns-in-Ok-clause-bare c = first_bare c.args.layout c.in-Ok.handle.me c.requires.valid c.in-Ok.ensures.4
