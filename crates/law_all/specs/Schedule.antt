-- Calls and turns.
use Rattle.std.specs.Prelude.{ℕ, ◌≡◌, ◌<◌, false, true, List}
use Rattle.law_all.specs.inv.model.words.declared.layout.Layout.{Layout}
use Rattle.law_all.specs.inv.model.words.Schemes.{is_ibr, publishes_eras, publishes_rows}
use Rattle.law_all.specs.inv.history.History.{Item, record_of}
use Rattle.law_reasons.specs.reuse.Heard.{IsCounted}
use Rattle.law_all.specs.inv.history.Heard.{heard_of}
use Rattle.law_all.specs.laws.HistoryTurns.{handed_right, loads_right, one_step, numbers_right, OpenLaw}
use Rattle.law_all.specs.inv.history.Turns.{EachTurn}
use Rattle.law_all.specs.inv.Finish.{CallFinishes}

-- A history is starts of calls and turns of seats.
pub record Schedule (layout : Layout) (items : List Item) : Type 0 where
  -- calls start on free seats, busy seats take turns, an End comes last in its turn and counts the turns of its call
  pub turns : IsCounted layout items
  -- a seat tells entries from the beginning of a call to its end
  pub in_calls : OpenLaw (record_of layout items)
  -- a turn tells at most one event of those that an atomic step makes
  pub one_step : EachTurn one_step (heard_of layout items)
  -- under Hazard Eras and Wait-Free Eras the number in a Held or Null counts its seat's turns
  pub numbers : publishes_eras layout.config.scheme ≡ true → EachTurn numbers_right (heard_of layout items)
  -- so it does under hazard pointers, where a protection begins with the turn before the one that first publishes a row
  pub loads : publishes_rows layout.config.scheme ≡ true → EachTurn loads_right (heard_of layout items)
  -- a seat hands another seat's index word on only while the owner's entries say that it publishes
  pub handed : is_ibr layout.config.scheme ≡ false → EachTurn handed_right (heard_of layout items)
  -- among any later items that have more steps of a seat than its call has left, the call ends
  pub ends : (i : ℕ) → i < layout.config.seats → CallFinishes layout items i
