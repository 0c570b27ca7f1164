-- What a history of the machines is as starts of calls and turns, with what each turn told.
use Rattle.inv_all.specs.model.Calls.{GoesOn, Phase}
use Rattle.inv_all.specs.history.History.{Item, world_of}
use Rattle.inv_all.specs.model.words.declared.layout.Layout.{Layout}
use Rattle.std.specs.Prelude.{List, true, ℕ, ◌≡◌, ◌<◌, ◌+◌, ◌^◌}
use Rattle.inv_all.specs.model.Locals.{busy_in, turn}
use Rattle.inv_all.specs.model.World.{finds, offered, step}
use Rattle.inv_all.specs.history.History as histories
use Rattle.inv_all.specs.model.Rest.{rest}
use Rattle.inv_all.specs.history.Turns as schedule
use Rattle.inv_all.specs.model.World as worlds
use Rattle.inv_all.specs.history.Heard.{heard_of}
use Rattle.inv_all.specs.model.words.Place.{is_valid}

pub record IsCounted (layout : Layout) (items : List Item) : Type 0 where
  pub counts : schedule.CountsTurns (heard_of layout items)
  pub tells : schedule.record_of (heard_of layout items) ≡ histories.record_of layout items
  pub busy : (k : ℕ) → schedule.is_busy k (heard_of layout items) ≡ worlds.is_busy (world_of layout items) k
  -- what a call has made and what it has left are few, so that no count of steps is cut short; a step that does not answer leaves
  -- its call under way, and counts one more
  pub few : (k : ℕ) → worlds.is_busy (world_of layout items) k ≡ true → ((world_of layout items).seat k).post.steps + rest (world_of layout items) k < 2 ^ 62
  pub goes_on : (k : ℕ) (phase : Phase) → worlds.is_busy (world_of layout items) k ≡ true → (turn (offered (world_of layout items) k) (finds (world_of layout items) k)).outcome ≡ GoesOn phase → busy_in phase ≡ true
  pub one_more : (k : ℕ) → worlds.is_busy (world_of layout items) k ≡ true → ((step (world_of layout items) k).seat k).post.steps ≡ ((world_of layout items).seat k).post.steps + 1

abbrev pub HistoriesCount : Type 0
HistoriesCount = (layout : Layout) (items : List Item) → is_valid layout ≡ true → IsCounted layout items
