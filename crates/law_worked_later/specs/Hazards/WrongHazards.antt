-- Records that a sentence on what is published, and on eras refuses. Each is refused by the laws that are named, and by no other.
use Rattle.std.specs.Prelude.{List, [], ◌∷◌, Some, None, map, ◌≡◌}
use Rattle.wfe_core.specs.defs.declared.call.Answer.TheVariants as answers
use Rattle.wfe_core.specs.defs.declared.call.Call.TheVariants as calls
use Rattle.wfe_core.specs.defs.declared.call.ClockMove.TheVariants as moves
use Rattle.wfe_core.specs.defs.declared.event.Event.TheVariants as events
use Rattle.wfe_core.specs.defs.declared.event.Guard.TheVariants as guards
use Rattle.wfe_core.specs.Guards.{from_to}
use Rattle.model_history.specs.Among.{said}
use Rattle.law_worked.specs.Edited.{Wrong, wrong, named_by, refused_by}
use Rattle.law_worked.specs.Edited.Edit.{Before, Instead, Until}
use Rattle.law_worked.specs.Judges.Law.{Eras, Moves, Advances, Births, Retires, Guards, Kinds, Named, Ranges}
use Rattle.law_worked.specs.PutThenGet.{put_then_get as eras_get, put_then_get_setting as eras_get_setting}
use Rattle.law_worked.specs.Kept.{kept as eras_kept, kept_setting as eras_kept_setting}
use Rattle.law_worked_later.specs.Hazards.PutThenGet.{put_then_get, put_then_get_setting}
use Rattle.law_worked_later.specs.Hazards.Seen.{seen, seen_setting}

abbrev pub wrong_hazards : List Wrong
wrong_hazards =
    -- a put moves the clock before its scan
    wrong seen_setting.config seen (Before 19 (said 0 (events.Era 2)) ∷ Until 19 ∷ []) (Advances ∷ [])
    -- a get moves the clock
    ∷ wrong put_then_get_setting.config put_then_get (Before 11 (said 0 (events.Era 2)) ∷ Until 11 ∷ []) (Advances ∷ [])
    -- an advance moves the clock twice
    ∷ wrong seen_setting.config seen (Before 61 (said 1 (events.Era 3)) ∷ Until 61 ∷ []) (Moves ∷ Advances ∷ [])
    -- an advance moves the clock twice, with another seat between
    ∷ wrong seen_setting.config seen (Before 61 (said 0 (events.Begin calls.Scan)) ∷ Before 61 (said 1 (events.Era 3)) ∷ Until 61 ∷ []) (Moves ∷ Advances ∷ [])
    -- the clock is moved by two eras
    ∷ wrong seen_setting.config seen (Instead 60 (said 1 (events.Era 3)) ∷ Until 61 ∷ []) (Eras ∷ [])
    -- the clock is moved past its last era
    ∷ wrong seen_setting.config seen (Before 59 (said 0 (events.Begin calls.Advance)) ∷ Before 59 (said 0 (events.Era 2)) ∷ Before 59 (said 0 (events.End 2 (answers.Clock (moves.Moved 2)))) ∷ Before 59 (said 0 (events.Begin calls.Advance)) ∷ Before 59 (said 0 (events.Era 3)) ∷ Before 59 (said 0 (events.End 2 (answers.Clock (moves.Moved 3)))) ∷ Instead 60 (said 1 (events.Era 4)) ∷ Until 61 ∷ []) (Eras ∷ [])
    -- a birth era was never the clock in the call
    ∷ wrong seen_setting.config seen (Instead 12 (said 0 (events.Give 1 2)) ∷ Until 13 ∷ []) (Births ∷ [])
    -- a row is retired with another birth era
    ∷ wrong seen_setting.config seen (Instead 18 (said 0 (events.Retire 0 2 1)) ∷ Until 19 ∷ []) (Retires ∷ [])
    -- a retire era was never the clock after the cut
    ∷ wrong seen_setting.config seen (Instead 18 (said 0 (events.Retire 0 1 2)) ∷ Until 19 ∷ []) (Retires ∷ [])
    -- a seat publishes a row at an index word of another
    ∷ wrong put_then_get_setting.config put_then_get (Before 10 (said 1 (events.Begin (calls.Get 7))) ∷ Before 10 (said 1 (events.Hazard (guards.Index 0 1) (Some 0))) ∷ Until 10 ∷ []) (Guards ∷ Ranges ∷ [])
    -- a seat withdraws the row of another
    ∷ wrong seen_setting.config seen (Before 27 (said 0 (events.Begin (calls.Get 7))) ∷ Before 27 (said 0 (events.Hazard (guards.Index 1 1) None)) ∷ Until 27 ∷ []) (Guards ∷ [])
    -- a seat publishes a row at its helper word
    ∷ wrong seen_setting.config seen (Before 12 (said 0 (events.Hazard (guards.Helper 0) None)) ∷ Until 12 ∷ []) (Guards ∷ Named ∷ [])
    -- an era is published
    ∷ wrong put_then_get_setting.config put_then_get (Before 10 (said 0 (events.Reserve (guards.Index 0 1) (from_to 1 1))) ∷ Until 10 ∷ []) (Kinds ∷ [])
    -- an interval is read where a row is seen
    ∷ wrong seen_setting.config seen (Instead 20 (said 0 (events.Read (guards.Index 0 1) None)) ∷ Until 21 ∷ []) (Kinds ∷ [])
    -- a row is published under Hazard Eras
    ∷ wrong eras_get_setting.config eras_get (Before 2 (said 0 (events.Hazard (guards.Index 0 1) (Some 0))) ∷ Until 2 ∷ []) (Kinds ∷ [])
    -- a row is seen under Hazard Eras
    ∷ wrong eras_kept_setting.config eras_kept (Instead 23 (said 0 (events.Saw (guards.Index 0 0) None)) ∷ Until 24 ∷ []) (Kinds ∷ []) ∷ []

abbrev pub WrongHazardsRefused : Type 0
WrongHazardsRefused = map refused_by wrong_hazards ≡ map named_by wrong_hazards
