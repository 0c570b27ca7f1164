-- A record of a look that is not linearizable.
use Rattle.std.specs.Prelude.{List, Some, [], ◌∷◌}
use Rattle.wfe_core.specs.defs.declared.call.Answer.TheVariants as answers
use Rattle.wfe_core.specs.defs.declared.event.Event.TheVariants as events
use Rattle.model_history.specs.Among.{said}
use Rattle.law_worked.specs.Edited.Edit.{Instead}
use Rattle.law_worked.specs.Edited.{Wrong, wrong}
use Rattle.law_worked.specs.Judges.Law.{Reasons}
use Rattle.law_worked.specs.Orders.{OrdersRefused}
use Rattle.law_worked_later.specs.Copies.Copied.{copied, copied_setting}

abbrev pub wrong_orders : List Wrong
wrong_orders =
    -- a look shows the pairs of another row than it keeps
    wrong copied_setting.config copied (Instead 35 (said 1 (events.End 4 (answers.Looked 0 1 (Some 71)))) ∷ []) (Reasons ∷ []) ∷ []

abbrev pub WrongOrdersRefused : Type 0
WrongOrdersRefused = OrdersRefused wrong_orders
