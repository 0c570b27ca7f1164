-- Records that are not linearizable. Each is refused by the other laws that are named, and by no other of them.
use Rattle.std.specs.Prelude.{List, None, Some, [], ◌∷◌}
use Rattle.wfe_core.specs.Guards.{from_to}
use Rattle.wfe_core.specs.defs.declared.call.Answer.TheVariants as answers
use Rattle.wfe_core.specs.defs.declared.call.Call.TheVariants as calls
use Rattle.wfe_core.specs.defs.declared.call.ClockMove.TheVariants as moves
use Rattle.wfe_core.specs.defs.declared.event.Event.TheVariants as events
use Rattle.wfe_core.specs.defs.declared.event.Guard.TheVariants as guards
use Rattle.model_history.specs.Among.{said}
use Rattle.law_worked.specs.Edited.Edit.{Before, Instead, Until}
use Rattle.law_worked.specs.Edited.{Wrong, wrong}
use Rattle.law_worked.specs.Judges.Law.{Behind, Emptied, Finds, Full, Gots, Lacks, Map, Told, Values}
use Rattle.law_worked.specs.Kept.{kept, kept_setting}
use Rattle.law_worked.specs.Orders.{OrdersRefused}
use Rattle.law_worked.specs.PutThenGet.{put_then_get, put_then_get_setting}
use Rattle.law_worked.specs.Queued.{queued, queued_setting}
use Rattle.law_worked.specs.Spent.{spent, spent_setting}

abbrev pub wrong_orders : List Wrong
wrong_orders =
    -- a get answers a version that was over before it began
    wrong kept_setting.config kept (Before 43 (said 1 (events.Begin (calls.Get 7))) ∷ Before 43 (said 1 (events.Reserve (guards.Index 1 0) (from_to 2 2))) ∷ Before 43 (said 1 (events.Held 0 1 4)) ∷ Before 43 (said 1 (events.Got 0 1 7 (Some 70))) ∷ Before 43 (said 1 (events.Clear 0 1)) ∷ Before 43 (said 1 (events.Reserve (guards.Index 1 0) None)) ∷ Before 43 (said 1 (events.End 9 (answers.Got 1 (Some 70)))) ∷ []) (Gots ∷ Map ∷ [])
    -- a put takes effect before it begins
    ∷ wrong put_then_get_setting.config put_then_get (Before 0 (said 0 (events.Begin (calls.Get 7))) ∷ Before 0 (said 0 (events.End 9 (answers.Got 1 (Some 70)))) ∷ []) (Finds ∷ Told ∷ [])
    -- a get puts a value besides
    ∷ wrong put_then_get_setting.config put_then_get (Instead 0 (said 0 (events.Begin (calls.Get 7))) ∷ Before 3 (said 0 (events.Got 0 0 7 None)) ∷ Instead 7 (said 0 (events.End 13 (answers.Got 0 None))) ∷ []) []
    -- two dequeues, one after the other, take two values against their order
    ∷ wrong queued_setting.config queued (Instead 27 (said 0 (events.Taken 2 6)) ∷ Instead 33 (said 0 (events.End 18 (answers.Taken 2 6 moves.Still))) ∷ Instead 41 (said 0 (events.Taken 1 5)) ∷ Instead 47 (said 0 (events.End 18 (answers.Taken 1 5 moves.Still))) ∷ []) (Values ∷ [])
    -- a dequeue answers that the queue is empty while a value waits
    ∷ wrong queued_setting.config queued (Instead 24 (said 0 (events.Null 1 4)) ∷ Instead 25 (said 0 (events.Reserve (guards.Index 0 1) None)) ∷ Instead 26 (said 0 (events.Clear 0 8)) ∷ Instead 27 (said 0 (events.Reserve (guards.Index 0 0) None)) ∷ Instead 28 (said 0 (events.End 11 answers.Empty)) ∷ Until 29 ∷ []) (Behind ∷ Emptied ∷ [])
    -- a remove answers that the table is full where the last version would have refused it
    ∷ wrong spent_setting.config spent (Instead 35 (said 0 (events.End 11 answers.Full)) ∷ []) (Full ∷ Lacks ∷ []) ∷ []

abbrev pub WrongOrdersRefused : Type 0
WrongOrdersRefused = OrdersRefused wrong_orders
