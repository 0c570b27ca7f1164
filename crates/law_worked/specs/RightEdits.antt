-- Worked records, changed at a few lines, that each law takes.
use Rattle.std.specs.Prelude.{List, [], ◌∷◌, map, ◌≡◌}
use Rattle.wfe_core.specs.defs.declared.event.Event.TheVariants as events
use Rattle.wfe_core.specs.defs.declared.event.Guard.TheVariants as guards
use Rattle.wfe_core.specs.Guards.{from_to}
use Rattle.model_history.specs.Among.{said}
use Rattle.law_worked.specs.Edited.{Wrong, wrong, named_by, refused_by}
use Rattle.law_worked.specs.Edited.Edit.{Before, Until}
use Rattle.law_worked.specs.Helped.{helped, helped_setting}

abbrev pub right_edits : List Wrong
right_edits =
    -- help is asked for while no protection is under way, and a word still publishes what the last one published
    wrong helped_setting.config helped (Before 3 (said 2 (events.Reserve (guards.Index 2 0) (from_to 1 1))) ∷ Before 3 (said 2 (events.Reserve (guards.Helper 2) (from_to 1 1))) ∷ Until 3 ∷ []) [] ∷ []

abbrev pub RightEditsTaken : Type 0
RightEditsTaken = map refused_by right_edits ≡ map named_by right_edits
