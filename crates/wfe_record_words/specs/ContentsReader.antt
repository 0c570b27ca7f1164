-- How events of keys and values, and of lists, are read, word by word.
use Rattle.std.specs.Prelude.{ℕ, List, [], ◌∷◌, codes}
use Rattle.wfe_words.specs.declared.config.Config.{Config}
use Rattle.wfe_defs.specs.declared.event.Event.{Event}
use Rattle.wfe_defs.specs.declared.event.Event.TheVariants as events
use Rattle.wfe_record_words.specs.Reader.{Read, one, two, three, four, long, short, seat, bucket, value, Named, by, unknown, since}

-- the events of keys and values
abbrev pub contents_event_table : Config → List (Named Event)
contents_event_table config =
    (codes "put", four (bucket config) long long long events.Put) ∷ (codes "removed", three (bucket config) long long events.Removed)
    ∷ (codes "got", four (bucket config) long long value events.Got) ∷ (codes "queued", two long long events.Queued)
    ∷ (codes "taken", two long long events.Taken) ∷ []

-- the events of lists
abbrev pub leaving_event_table : ℕ → Config → List (Named Event)
leaving_event_table version config =
    (codes "left", since 4 version (one short events.Left)) ∷ (codes "adopted", since 4 version (two (seat config) short events.Adopted)) ∷ []

unfoldable pub leaving_event_by : ℕ → Config → List ℕ → Read Event
leaving_event_by version config w = by (leaving_event_table version config) unknown w

unfoldable pub contents_event_by : ℕ → Config → List ℕ → Read Event
contents_event_by version config w = by (contents_event_table config) (leaving_event_by version config) w
