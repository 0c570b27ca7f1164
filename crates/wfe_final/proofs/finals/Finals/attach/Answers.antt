-- The ids with the deleter's at its slot.
use Rattle.std.proofs.Common.{ap, ℕ, List, ◌∙◌}
use Rattle.std.proofs.lemmas.List.{map-set}
use Rattle.std.specs.Option.{option_map}
use Rattle.std.specs.Prelude.{Option, Some, slice_set}
use Rattle.wfe_final.proofs.finals.Finals.attach.Goals as goal

pub returns-clause-attached : goal.returns-clause-attached
returns-clause-attached g c =
    map-set (λ o. option_map g.D.Deleter.identity o) c.self.inside.deleters.items c.args.slot (Some c.args.deleter)
    ∙ ap (λ (ids : List (Option ℕ)). slice_set ids c.args.slot (Some (g.D.Deleter.identity c.args.deleter))) c.self.view_is
