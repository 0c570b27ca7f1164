-- How many rows an interval of eras keeps, and so how many a scan leaves: those that were there while the clock was one of its eras, and
-- those that were retired since it came to them.
use Rattle.std.specs.Prelude.{Bool, List, [], false, filter, length, suc, true, zero, ℕ, ◌&&◌, ◌*◌, ◌+◌, ◌-◌, ◌<◌, ◌==◌, ◌||◌, ◌∷◌, ◌≡◌, ◌≤◌, nat_le}
use Rattle.std.specs.List.{range_with_len}
use Rattle.law_all.specs.inv.history.History.{Item, record_of}
use Rattle.law_all.specs.inv.history.Record.{Past, Test, tells}
use Rattle.law_all.specs.inv.model.defs.Entry.{Entry}
use Rattle.law_all.specs.inv.model.defs.Meets.{meets}
use Rattle.law_all.specs.inv.model.defs.Shown.{Seen}
use Rattle.law_all.specs.inv.model.defs.declared.lifetime.Interval.{Interval}
use Rattle.law_all.specs.inv.model.defs.declared.lifetime.Lifetime.{Lifetime}
use Rattle.law_all.specs.inv.model.defs.declared.shown.Shown.{Shown}
use Rattle.law_all.specs.inv.model.defs.declared.shown.Shown.TheVariants as shown
use Rattle.law_all.specs.inv.model.words.Place.{is_valid}
use Rattle.law_all.specs.inv.model.words.Schemes.{publishes_rows}
use Rattle.law_all.specs.inv.model.words.declared.config.Config.{Config}
use Rattle.law_all.specs.inv.model.words.declared.layout.Layout.{Layout}
use Rattle.law_all.specs.laws.Lists.{list_of}
use Rattle.law_all.specs.laws.ScanLaw.{guards}
use Rattle.law_all.specs.laws.StateAt.{clock_of, count, is_open, is_retire, read_of}
use Rattle.law_bounds.specs.Rows.{changed_below, open_below, waiting_at}
use Rattle.law_bounds.specs.Scans.{judged_of}

-- the list has a life of the row that meets the interval
abbrev pub meets_row : Interval → (s : ℕ) → List Lifetime → Bool
meets_row span s [] = false
meets_row span s (life ∷ lives) = (s == life.slot && meets life span) || meets_row span s lives

-- so has the list of a seat below a number
abbrev pub meets_below : (below : ℕ) → Interval → (s : ℕ) → Past → Bool
meets_below zero span s p = false
meets_below (suc k) span s p = meets_below k span s p || meets_row span s (list_of k p)

-- the rows on all lists that the interval keeps, in the order of their numbers
abbrev pub kept_by : Config → Interval → Past → List ℕ
kept_by config span p = filter (λ s. meets_below config.seats span s p) (range_with_len 0 (config.slots + 1))

-- a row is retired while the clock is this era, or from this era on
abbrev pub retires_in : (era : ℕ) → Test
retires_in era p i event = is_retire event && clock_of p == era

abbrev pub retires_from : (era : ℕ) → Test
retires_from era p i event = is_retire event && nat_le era (clock_of p)

-- By a position at which the clock had not passed the interval: the rows that buckets had there, those of the queue with its dummy, and
-- one in hand for each seat in a call; one for each seat that is given it later, in a call that began before the clock passed the
-- interval; and those that were retired before that position, while the clock was one of its eras.
pub record KeptFew (config : Config) (span : Interval) (p : Past) : Type 0 where
  pub at : Past
  pub later : List Entry
  pub cut : p ≡ tells at later
  pub clock : clock_of at ≤ span.hi
  pub most :
      length (kept_by config span p)
      ≤ changed_below config.buckets at + (suc (waiting_at at) + open_below config.seats at) + (config.seats + count (retires_from span.lo) at)

-- so many, where no more values than this ever waited in the queue
abbrev pub span_most : Config → (queue : ℕ) → Interval → ℕ
span_most config queue span = config.buckets + (queue + 1) + config.seats * ((span.hi + 1 - span.lo) * config.every + 2)

-- of all that a block read
abbrev pub shown_most : Config → (queue : ℕ) → Shown → ℕ
shown_most config queue shown.Nothing = 0
shown_most config queue (shown.Eras span) = span_most config queue span
shown_most config queue (shown.Row slot) = 0

abbrev pub read_most : Config → (queue : ℕ) → List Seen → ℕ
read_most config queue [] = 0
read_most config queue (seen ∷ read) = shown_most config queue seen.1 + read_most config queue read

-- no more values than this have waited
abbrev pub WaitedMost : (queue : ℕ) → Past → Type 0
WaitedMost queue p = (before : Past) (later : List Entry) → p ≡ tells before later → waiting_at before ≤ queue

-- How few rows guards keep that publish eras.
pub record KeepsFew (config : Config) (p : Past) : Type 0 where
  -- While the clock stays at an era, but at the last, each seat retires at most `every` rows.
  pub pace : (era : ℕ) → era < config.last_era → count (retires_in era) p ≤ config.seats * config.every
  -- What an interval keeps of all lists was there at a position while the clock was one of its eras, or was retired or given so.
  pub parts : (span : Interval) → 1 ≤ span.hi → KeptFew config span p
  -- So while its eras are before the last one it keeps so many rows at most.
  pub all :
      (span : Interval) (queue : ℕ)
      → 1 ≤ span.hi
      → span.lo ≤ span.hi
      → span.hi < config.last_era
      → WaitedMost queue p
      → length (kept_by config span p) ≤ span_most config queue span
  -- And while the clock has not come to the last one, a scan has left so many of the rows that it judged, by what it read.
  pub scan :
      (i queue : ℕ)
      → is_open i p ≡ false
      → clock_of p < config.last_era
      → WaitedMost queue p
      → length (judged_of i p) ≤ read_most config queue (read_of (guards config) i p)

-- so it is after each history of a table whose guards publish eras
abbrev pub RecordsKeepFew : Type 0
RecordsKeepFew =
    (layout : Layout) (items : List Item)
    → is_valid layout ≡ true
    → publishes_rows layout.config.scheme ≡ false
    → KeepsFew layout.config (record_of layout items)
