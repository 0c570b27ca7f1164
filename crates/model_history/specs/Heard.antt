-- What a history of the machines is as starts of calls and turns, with what each turn told.
use Rattle.std.specs.Prelude.{Bool, false, true, List, [], ◌∷◌}
use Rattle.wfe_core.specs.World.{World, told_in}
use Rattle.wfe_core.specs.words.declared.layout.Layout.{Layout}
use Rattle.model_history.specs.History.{Begins, Item, Steps, Made, did, fits, first_made}
use Rattle.model_record.specs.Turns as schedule
use Rattle.model_record.specs.Turns.History.{Starts, Turns, Blank}

-- one item more
abbrev pub heard_by : World → Item → schedule.History → schedule.History
heard_by w (Begins i call) h = Starts h i call
heard_by w (Steps i) h = Turns h i (told_in w i)

-- an item that does not fit is nothing
abbrev pub heard_if : World → Item → (fit : Bool) → schedule.History → schedule.History
heard_if w item true h = heard_by w item h
heard_if w item false h = h

abbrev pub heard_from : Made → List Item → schedule.History → schedule.History
heard_from made [] h = h
heard_from made (item ∷ items) h = heard_from (did made item) items (heard_if made.world item (fits made.world item) h)

abbrev pub heard_of : Layout → List Item → schedule.History
heard_of layout items = heard_from (first_made layout) items Blank
