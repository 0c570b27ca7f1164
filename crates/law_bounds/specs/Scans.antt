-- What a scan leaves on a list: what a guard that it read keeps, so nothing where no guard publishes. On no list a row is twice.
use Rattle.std.specs.Prelude.{Bool, List, None, [], false, if◌then◌else◌, length, not, suc, true, zero, ℕ, ◌&&◌, ◌+◌, ◌==◌, ◌||◌, ◌<◌, ◌∷◌, ◌≡◌, ◌≤◌}
use Rattle.law_all.specs.inv.history.History.{Item, record_of}
use Rattle.law_all.specs.inv.history.Record.{EachEntry, Past, Test, held_since, tells}
use Rattle.law_all.specs.inv.history.Record.Past.{Start, Then}
use Rattle.law_all.specs.inv.model.CallReady.{slots_of}
use Rattle.law_all.specs.inv.model.defs.Entry.{Entry}
use Rattle.law_all.specs.inv.model.defs.declared.event.Event.{Event}
use Rattle.law_all.specs.inv.model.defs.declared.event.Event.TheVariants as events
use Rattle.law_all.specs.inv.model.defs.declared.lifetime.Lifetime.{Lifetime}
use Rattle.law_all.specs.inv.model.words.Place.{is_valid}
use Rattle.law_all.specs.inv.model.words.declared.config.Config.{Config}
use Rattle.law_all.specs.inv.model.words.declared.layout.Layout.{Layout}
use Rattle.law_all.specs.laws.Good.{Good}
use Rattle.law_all.specs.laws.HoldLaw.{is_blank}
use Rattle.law_all.specs.laws.Lists.{handed_by, list_of, without}
use Rattle.law_all.specs.laws.ScanLaw.{guard_at, guards, next_back}
use Rattle.law_all.specs.laws.StateAt.{is_open, is_scan, published_at, read_of, scans_of, seen}
use Rattle.law_bounds.specs.Rows.{are_apart}

-- Where a seat tells anything, no row is twice on its list.
abbrev pub apart_ok : Test
apart_ok p i event = are_apart (slots_of (list_of i p))

-- the lives of a seat's list that its last block judges: those that were on it when the seat read a guard last, and have not gone back
abbrev pub judged_by : Event → (list before : List Lifetime) → List Lifetime
judged_by (events.Read guard span) list before = list
judged_by (events.Saw guard slot) list before = list
judged_by (events.Back slot) list before = without slot before
judged_by event list before = before

abbrev pub judged_of : ℕ → Past → List Lifetime
judged_of i Start = []
judged_of i (Then p k event) = if i == k then judged_by event (list_of i p) (judged_of i p) else handed_by i event (judged_of i p)

-- how many rows a seat has retired since it read a guard last
abbrev pub late_by : Event → ℕ → ℕ
late_by (events.Read guard span) before = 0
late_by (events.Saw guard slot) before = 0
late_by (events.Retire slot birth retire) before = before + 1
late_by event before = before

abbrev pub late_of : ℕ → Past → ℕ
late_of i p = seen late_by 0 i p

-- how many lives have come since then with lists that it took over
abbrev pub came_by : Event → ℕ → ℕ
came_by (events.Read guard span) before = 0
came_by (events.Saw guard slot) before = 0
came_by (events.Adopted place count) before = before + count
came_by event before = before

abbrev pub came_of : ℕ → Past → ℕ
came_of i p = seen came_by 0 i p

-- some guard with a number below this publishes
abbrev pub publishes_below : Config → (below : ℕ) → Past → Bool
publishes_below config zero p = false
publishes_below config (suc k) p = not (is_blank (published_at config.scheme (guard_at config k) p)) || publishes_below config k p

abbrev pub is_nil : List Lifetime → Bool
is_nil [] = true
is_nil (life ∷ lives) = false

-- the seat tells anything but what scans tell
abbrev pub tells_other : ℕ → Test
tells_other i p k event = not (is_scan event) && i == k

-- Where a call ends with a scan, and no guard of the table published anything at a position of the scan, from the entry of the seat before
-- it on, the seat's list is empty.
abbrev pub emptied_ok : Config → Test
emptied_ok config p i (events.End steps answer) =
    not (scans_of i p) || (held_since (tells_other i) (publishes_below config (guards config)) p || is_nil (list_of i p))
emptied_ok config p i event = true

-- What scans leave.
pub record ScanLeaves (config : Config) (r : Past) : Type 0 where
  -- Wherever the record is cut where a seat is in no call, something that the seat's last block read keeps each life that it judged.
  pub kept :
      (before : Past) (later : List Entry) (i : ℕ)
      → r ≡ tells before later
      → is_open i before ≡ false
      → next_back (read_of (guards config) i before) (judged_of i before) ≡ None
  -- All others on its list came since: by its own retirements, or with lists that it took over.
  pub since :
      (before : Past) (later : List Entry) (i : ℕ)
      → r ≡ tells before later
      → is_open i before ≡ false
      → length (list_of i before) ≤ length (judged_of i before) + (late_of i before + came_of i before)
  -- A call that ends with a scan leaves an empty list, if no guard published anything meanwhile.
  pub emptied : EachEntry (emptied_ok config) r

-- so it is in each record that a check finds good
abbrev pub GoodLeaves : Type 0
GoodLeaves = (version : ℕ) (config : Config) (r : Past) → 0 < guards config → Good version config r → ScanLeaves config r

-- with the lists
pub record ScanBounds (config : Config) (r : Past) : Type 0 where
  -- Where a seat tells anything, no row is twice on its list.
  pub apart : EachEntry apart_ok r
  pub leaves : ScanLeaves config r

-- so it is in the record of each history
abbrev pub RecordsBoundScans : Type 0
RecordsBoundScans = (layout : Layout) (items : List Item) → is_valid layout ≡ true → ScanBounds layout.config (record_of layout items)
