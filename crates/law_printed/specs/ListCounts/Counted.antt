-- How many rows wait in each seat's list, as it is counted from a record, entry by entry.
use Rattle.std.specs.Prelude.{List, length, true, ℕ, ◌<◌, ◌≡◌}
use Rattle.law_reuse.specs.inv.model.words.Place.{is_valid}
use Rattle.law_reuse.specs.inv.model.words.declared.layout.Layout.{Layout}
use Rattle.law_reuse.specs.inv.history.History.{Item, record_of}
use Rattle.law_reuse.specs.inv.history.Record.{Past}
use Rattle.law_reuse.specs.inv.history.Record.Past.{Start, Then}
use Rattle.law_reuse.specs.laws.Lists.{list_of}
use Rattle.wfe_watch.specs.Lists.{lists_after, no_lists, waiting_at}

-- the counts of so many seats
abbrev pub waiting_of : (seats : ℕ) → Past → List ℕ
waiting_of seats Start = no_lists seats
waiting_of seats (Then p i event) = lists_after (waiting_of seats p) i event

-- they are the lengths of the lists, in the record of each history
abbrev pub RecordsCountLists : Type 0
RecordsCountLists =
    (layout : Layout) (items : List Item)
    → is_valid layout ≡ true
    → (k : ℕ)
    → k < layout.config.seats
    → waiting_at (waiting_of layout.config.seats (record_of layout items)) k ≡ length (list_of k (record_of layout items))
