-- The ids without one at the slot.
use Rattle.std.proofs.Common.{ap, map, ℕ, List, ◌∙◌}
use Rattle.std.proofs.lemmas.List.{map-set}
use Rattle.std.specs.Option.{option_map}
use Rattle.std.specs.Prelude.{None, Option, slice_set}
use Rattle.wfe_final.proofs.finals.Finals.settle_slot.Goals as goal

pub returns-clause-left : goal.returns-clause-left
returns-clause-left g c =
    map-set (λ o. option_map g.D.Deleter.identity o) c.self.inside.deleters.items c.args.slot c.take-taken.new.self
    ∙ ap (λ o. slice_set (map (λ o. option_map g.D.Deleter.identity o) c.self.inside.deleters.items) c.args.slot (option_map g.D.Deleter.identity o)) c.take-taken.ensures.after
    ∙ ap (λ (ids : List (Option ℕ)). slice_set ids c.args.slot None) c.self.view_is
