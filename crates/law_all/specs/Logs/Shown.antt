-- What rows that are kept show of buckets, by a record: a row that stands is linked at no root, and a hold's row shows a version of the
-- bucket of its key.
use Rattle.std.specs.Prelude.{Bool, Option, Some, false, is_none, not, true, ℕ, ◌&&◌, ◌==◌, ◌≡◌, List}
use Rattle.law_scans.specs.inv.model.Locals.{may_begin}
use Rattle.law_scans.specs.laws.defs.declared.call.Answer.TheVariants as answers
use Rattle.law_scans.specs.laws.defs.declared.call.Call.TheVariants as calls
use Rattle.law_scans.specs.laws.defs.declared.call.Call.{Call}
use Rattle.law_scans.specs.laws.defs.declared.event.Event.TheVariants as events
use Rattle.law_scans.specs.laws.defs.declared.event.Event.{Event}
use Rattle.law_scans.specs.laws.defs.declared.event.Root.TheVariants as roots
use Rattle.law_scans.specs.laws.words.Place.{is_valid}
use Rattle.law_scans.specs.laws.words.declared.config.Config.{Config}
use Rattle.law_scans.specs.laws.words.declared.layout.Layout.{Layout}
use Rattle.law_scans.specs.laws.StructuresAt.RowShows.{ShowsVersion}
use Rattle.law_scans.specs.laws.StateAt.{began_of, is_row, stood_at}
use Rattle.law_scans.specs.laws.StructuresAt.{RowShows, bucket_of, shows_of}
use Rattle.law_scans.specs.inv.history.History.{Item, record_of}
use Rattle.law_scans.specs.laws.records.Record.{Each, Test}

-- the row is linked at a bucket's root
abbrev pub is_bucket_link : ℕ → Event → Bool
is_bucket_link s (events.Link (roots.Bucket bucket) slot) = s == slot
is_bucket_link s event = false

-- the entry does not link row s at a bucket's root, or the row does not stand at index j of seat k
abbrev pub links_ok : (k j s : ℕ) → Test
links_ok k j s p i event = not (is_row s (stood_at k j p) && is_bucket_link s event)

-- the row shows a version of the bucket
abbrev pub shows_bucket : ℕ → RowShows → Bool
shows_bucket b (ShowsVersion bucket version) = bucket == b
shows_bucket b shows = false

abbrev pub shows_for : (buckets : ℕ) → Option Call → RowShows → Bool
shows_for n (Some (calls.Hold key)) shows = shows_bucket (bucket_of n key) shows
shows_for n call shows = true

-- what a hold tells to stand shows a version of its key's bucket
abbrev pub shows_ok : (buckets : ℕ) → Test
shows_ok n p i (events.Held index slot steps) = shows_for n (began_of i p) (shows_of slot p)
shows_ok n p i event = true

abbrev pub misses_for : Option Call → Option ℕ → Bool
misses_for (Some (calls.Hold key)) stood = is_none stood
misses_for call stood = true

-- where a hold has found nothing, nothing stands at its index
abbrev pub misses_ok : Test
misses_ok p i (events.End steps answers.Nothing) = misses_for (began_of i p) (stood_at i 2 p)
misses_ok p i event = true

-- a call that begins may begin
abbrev pub starts_ok : Config → Test
starts_ok c p i (events.Begin call) = may_begin c call
starts_ok c p i event = true

pub record KeepsShown (layout : Layout) (items : List Item) : Type 0 where
  pub links : (k j s : ℕ) → Each (links_ok k j s) (record_of layout items)
  pub shows : Each (shows_ok layout.config.buckets) (record_of layout items)
  pub misses : Each misses_ok (record_of layout items)
  pub starts : Each (starts_ok layout.config) (record_of layout items)

abbrev pub RecordsKeepShown : Type 0
RecordsKeepShown = (layout : Layout) (items : List Item) → is_valid layout ≡ true → KeepsShown layout items
