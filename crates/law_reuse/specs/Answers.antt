-- What calls answer and how turns tell it in each history, whatever calls begin and whichever seats make their steps.
use Rattle.std.specs.Prelude.{List, true, ℕ, ◌≡◌, nat_lt}
use Rattle.inv_all.specs.model.World.{World}
use Rattle.inv_all.specs.model.words.Place.{Place, is_valid}
use Rattle.inv_all.specs.model.words.Place.Place.{PlaceOf}
use Rattle.inv_all.specs.model.words.Schemes.{is_wfe}
use Rattle.inv_all.specs.model.words.declared.layout.Layout.{Layout}
use Rattle.inv_all.specs.history.Heard.{heard_of}
use Rattle.inv_all.specs.history.History.{Item, record_of, world_of}
use Rattle.inv_all.specs.history.Record.{EachEntry, Past}
use Rattle.inv_all.specs.history.Turns.{EachTurn}
use Rattle.laws.specs.HistoryAnswers.{AnswersLaw}
use Rattle.laws.specs.QueueLaw.{queue_ok}
use Rattle.laws.specs.HistoryTurns.{one_step, OpenLaw}
use Rattle.laws.specs.HistorySteps.{NumberLaw}
use Rattle.laws.specs.Lists.{has_left, is_adopted}
use Rattle.laws.specs.StructuresAt.{changes_of, queued_of, taken_of}

-- each history's record keeps it, whatever calls begin and whichever seats make their steps
abbrev pub RecordsKeepQueue : Type 0
RecordsKeepQueue = (layout : Layout) (items : List Item) → is_valid layout ≡ true → EachEntry queue_ok (record_of layout items)

-- each history's record keeps it, whatever calls begin and whichever seats make their steps
abbrev pub RecordsKeepSteps : Type 0
RecordsKeepSteps = (layout : Layout) (items : List Item) → is_valid layout ≡ true → is_wfe layout.config.scheme ≡ true → NumberLaw layout.config.tries (record_of layout items)

-- each history's record keeps it, whatever calls begin and whichever seats make their steps
abbrev pub RecordsKeepAnswers : Type 0
RecordsKeepAnswers = (layout : Layout) (items : List Item) → is_valid layout ≡ true → AnswersLaw layout.config.buckets (record_of layout items)

-- so it is with each turn of each history, whatever calls begin and whichever seats make their steps
abbrev pub TurnsTellOne : Type 0
TurnsTellOne = (layout : Layout) (items : List Item) → is_valid layout ≡ true → EachTurn one_step (heard_of layout items)

-- each history's record keeps it, whatever calls begin and whichever seats make their steps
abbrev pub RecordsOpenCalls : Type 0
RecordsOpenCalls = (layout : Layout) (items : List Item) → is_valid layout ≡ true → OpenLaw (record_of layout items)

-- the book has of the map and of the queue what the record says
pub record IsBooked (w : World) (p : Past) : Type 0 where
  pub changes : (b : ℕ) → changes_of b p ≡ w.book.changes b
  pub queued : queued_of p ≡ w.book.queued
  pub taken : taken_of p ≡ w.book.taken

-- so it is with each history
abbrev pub RecordBooks : Type 0
RecordBooks = (layout : Layout) (items : List Item) → is_valid layout ≡ true → IsBooked (world_of layout items) (record_of layout items)

-- by the record a seat has left where its place word is not 0, and its list is taken over where that is greater than 1
pub record PlacesSay (mem : Place → ℕ) (p : Past) : Type 0 where
  pub left : (k : ℕ) → has_left k p ≡ nat_lt 0 (mem (PlaceOf k))
  pub adopted : (k : ℕ) → is_adopted k p ≡ nat_lt 1 (mem (PlaceOf k))

-- so it is with each history
abbrev pub RecordPlaces : Type 0
RecordPlaces = (layout : Layout) (items : List Item) → is_valid layout ≡ true → PlacesSay (world_of layout items).mem (record_of layout items)
