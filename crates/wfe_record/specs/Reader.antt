-- How lines of events are read, word by word.
use Rattle.std.specs.Prelude.{ℕ, List, [], ◌∷◌, Option, codes}
use Rattle.wfe_words.specs.declared.config.Config.{Config}
use Rattle.wfe_defs.specs.declared.event.Event.{Event}
use Rattle.wfe_defs.specs.declared.event.Event.TheVariants as events
use Rattle.wfe_record_words.specs.Reader.{Read, ◌>>=◌, done, one, two, three, first, whole, long, short, seat, index, slot, shown, span, guard, root, Named, by, since}
use Rattle.wfe_record_calls.specs.AnswerReader.{answer}
use Rattle.wfe_record_calls.specs.Reader.{call}
use Rattle.wfe_record_words.specs.ContentsReader.{contents_event_by}

-- the events of calls, of the clock and of guards
abbrev pub event_table : ℕ → Config → List (Named Event)
event_table version config =
    (codes "begin", one (call version config) events.Begin) ∷ (codes "end", two long (answer version config) events.End)
    ∷ (codes "era", one short events.Era) ∷ (codes "reserve", two (guard config) span events.Reserve) ∷ (codes "read", two (guard config) span events.Read) ∷ []

-- the events of guards that publish rows
abbrev pub hazard_event_table : ℕ → Config → List (Named Event)
hazard_event_table version config =
    (codes "hazard", since 5 version (two (guard config) (shown config) events.Hazard))
    ∷ (codes "saw", since 5 version (two (guard config) (shown config) events.Saw)) ∷ []

-- the events of rows
abbrev pub row_event_table : Config → List (Named Event)
row_event_table config =
    (codes "give", two (slot config) short events.Give) ∷ (codes "unused", one (slot config) events.Unused)
    ∷ (codes "link", two (root config) (slot config) events.Link) ∷ (codes "cut", one (slot config) events.Cut)
    ∷ (codes "retire", three (slot config) short short events.Retire) ∷ (codes "back", one (slot config) events.Back) ∷ []

-- the events of protections
abbrev pub standing_event_table : ℕ → Config → List (Named Event)
standing_event_table version config =
    (codes "held", three (index config) (slot config) long events.Held) ∷ (codes "null", two (index config) long events.Null)
    ∷ (codes "clear", two (index config) (slot config) events.Clear)
    ∷ (codes "copied", since 2 version (three (index config) (index config) (slot config) events.Copied)) ∷ []

unfoldable pub standing_event_by : ℕ → Config → List ℕ → Read Event
standing_event_by version config w = by (standing_event_table version config) (contents_event_by version config) w

unfoldable pub row_event_by : ℕ → Config → List ℕ → Read Event
row_event_by version config w = by (row_event_table config) (standing_event_by version config) w

unfoldable pub hazard_event_by : ℕ → Config → List ℕ → Read Event
hazard_event_by version config w = by (hazard_event_table version config) (row_event_by version config) w

unfoldable pub event_by : ℕ → Config → List ℕ → Read Event
event_by version config w = by (event_table version config) (hazard_event_by version config) w

abbrev pub event : ℕ → Config → Read Event
event version config = do
  w ← first
  event_by version config w

-- a seat and an event
abbrev pub entry : ℕ → Config → Read (ℕ × Event)
entry version config = do
  s ← seat config
  e ← event version config
  done (s, e)

-- the seat and the event of a line's words
abbrev pub entry_in : ℕ → Config → List (List ℕ) → Option (ℕ × Event)
entry_in version config ws = whole (entry version config ws)
