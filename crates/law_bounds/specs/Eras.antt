-- Which rows a guard keeps that stands still, where guards publish eras.
use Rattle.std.specs.Prelude.{Bool, List, Some, [], false, if◌then◌else◌, not, true, ℕ, ◌&&◌, ◌++◌, ◌<◌, ◌==◌, ◌∷◌, ◌≡◌, ◌≤◌}
use Rattle.law_all.specs.inv.history.History.{Item, record_of}
use Rattle.law_all.specs.inv.history.Record.{Past, begins, tells, value_since}
use Rattle.law_all.specs.inv.history.Record.Past.{Start, Then}
use Rattle.law_all.specs.inv.model.defs.Entry.{Entry}
use Rattle.law_all.specs.inv.model.defs.Meets.{meets}
use Rattle.law_all.specs.inv.model.defs.Shown.{Seen, keeps}
use Rattle.law_all.specs.inv.model.defs.declared.event.Event.{Event}
use Rattle.law_all.specs.inv.model.defs.declared.event.Event.TheVariants as events
use Rattle.law_all.specs.inv.model.defs.declared.event.Guard.{Guard}
use Rattle.law_all.specs.inv.model.defs.declared.lifetime.Interval.{Interval}
use Rattle.law_all.specs.inv.model.defs.declared.lifetime.Lifetime.{Lifetime}
use Rattle.law_all.specs.inv.model.defs.declared.shown.Shown.TheVariants as shown
use Rattle.law_all.specs.inv.model.words.Place.{is_valid}
use Rattle.law_all.specs.inv.model.words.Schemes.{publishes_rows}
use Rattle.law_all.specs.inv.model.words.declared.config.Config.{Config}
use Rattle.law_all.specs.inv.model.words.declared.layout.Layout.{Layout}
use Rattle.law_all.specs.inv.rows.Hands.{in_list}
use Rattle.law_all.specs.laws.Lists.{list_of}
use Rattle.law_all.specs.laws.ScanLaw.{guards}
use Rattle.law_all.specs.laws.StateAt.{clock_of, is_open, published_at, read_of, same_guard, taken_at, value_of}
use Rattle.law_bounds.specs.Scans.{judged_of}

-- the clock where the call began that was given the row last, and 1 for the dummy, which is taken before the first call
abbrev pub sought_by : (clock s : ℕ) → Event → ℕ → ℕ
sought_by clock s (events.Give slot birth) before = if s == slot then clock else before
sought_by clock s event before = before

abbrev pub sought_of : ℕ → Past → ℕ
sought_of s Start = 1
sought_of s (Then p i event) = sought_by (value_since (begins i) clock_of p) s event (sought_of s p)

-- the event does not say what the guard publishes
abbrev pub is_untold : Guard → Event → Bool
is_untold guard (events.Reserve other span) = not (same_guard guard other)
is_untold guard event = true

-- the guard stands still along these entries
abbrev pub stands_still : Guard → List Entry → Bool
stands_still guard [] = true
stands_still guard (x ∷ xs) = is_untold guard x.event && stands_still guard xs

-- the seat begins no call among these entries
abbrev pub begins_none : (seat : ℕ) → List Entry → Bool
begins_none k [] = true
begins_none k (x ∷ xs) = not (begins k Start x.seat x.event) && begins_none k xs

-- a call is under way at this position that is given the row in the entries after it
pub record IsGiven (s : ℕ) (at : Past) (later : List Entry) : Type 0 where
  pub seat : ℕ
  pub birth : ℕ
  pub first : List Entry
  pub last : List Entry
  pub cut : later ≡ first ++ record { seat = seat; event = events.Give s birth } ∷ last
  pub under_way : is_open seat at ≡ true
  pub same : begins_none seat first ≡ true

-- there was a position at which the clock was one of these eras, and the row was taken; or else a call sought one that was given it later
pub record WasThere (slots : ℕ) (span : Interval) (s : ℕ) (p : Past) : Type 0 where
  pub at : Past
  pub later : List Entry
  pub cut : p ≡ tells at later
  pub low : span.lo ≤ clock_of at
  pub high : clock_of at ≤ span.hi
  pub there : taken_at slots s at ≡ false → IsGiven s at later

-- a guard that publishes eras has stood still since a position, and a life is on some list
pub record Stands (p before : Past) (later : List Entry) (guard : Guard) (span : Interval) (k : ℕ) (life : Lifetime) : Type 0 where
  pub cut : p ≡ tells before later
  pub still : stands_still guard later ≡ true
  pub eras : value_of guard before ≡ Some span
  pub on : in_list (list_of k p) life.slot life.birth life.retire ≡ true

-- What a guard keeps that stands still.
pub record StillBounds (config : Config) (p : Past) : Type 0 where
  -- No row that was born after its eras: none that was given in a call that began once the clock had passed the last of them, which
  -- under 2GE is the upper end.
  pub young :
      (before : Past) (later : List Entry) (guard : Guard) (span : Interval) (k : ℕ) (life : Lifetime)
      → Stands p before later guard span k life
      → span.hi < sought_of life.slot p
      → keeps life (published_at config.scheme guard p) ≡ false
  -- So only rows that were taken, or sought by the call that was given them, while the clock was one of its eras.
  pub old :
      (before : Past) (later : List Entry) (guard : Guard) (span : Interval) (k : ℕ) (life : Lifetime)
      → Stands p before later guard span k life
      → keeps life (published_at config.scheme guard p) ≡ true
      → WasThere config.slots span life.slot p

-- so it is after each history of a table whose guards publish eras
abbrev pub RecordsBoundStill : Type 0
RecordsBoundStill =
    (layout : Layout) (items : List Item)
    → is_valid layout ≡ true
    → publishes_rows layout.config.scheme ≡ false
    → StillBounds layout.config (record_of layout items)

-- A seat's last block read an interval of a guard that a life meets, and the row was there while the clock was one of its eras.
pub record JudgedBy (config : Config) (i : ℕ) (life : Lifetime) (p : Past) : Type 0 where
  pub guard : Guard
  pub span : Interval
  pub first : List Seen
  pub last : List Seen
  pub read : read_of (guards config) i p ≡ first ++ (guard, shown.Eras span) ∷ last
  pub meets : meets life span ≡ true
  pub there : WasThere config.slots span life.slot p

-- So it is, where a seat is in no call, with each life on its list that its last block judged; all others came since, by `ScanLeaves`.
abbrev pub JudgesSo : Config → Past → Type 0
JudgesSo config p =
    (i : ℕ) (life : Lifetime)
    → is_open i p ≡ false
    → in_list (judged_of i p) life.slot life.birth life.retire ≡ true
    → JudgedBy config i life p

-- after each history of a table whose guards publish eras
abbrev pub RecordsJudge : Type 0
RecordsJudge =
    (layout : Layout) (items : List Item)
    → is_valid layout ≡ true
    → publishes_rows layout.config.scheme ≡ false
    → JudgesSo layout.config (record_of layout items)
