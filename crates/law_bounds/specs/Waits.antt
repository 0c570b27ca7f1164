-- What waits for a seat between two of its calls, and on all lists of a table that is closed: the bounds as a caller reads them, by the
-- calls that were answered.
use Rattle.std.specs.Prelude.{Bool, List, None, Option, Some, [], false, length, sum_by, true, zero, suc, ℕ, ◌&&◌, ◌*◌, ◌+◌, ◌-◌, ◌<◌, ◌∷◌, ◌≡◌, ◌≤◌}
use Rattle.law_all.specs.RunLaw.{AtClose}
use Rattle.law_all.specs.Runs.{AtRest, at_close, logs_of}
use Rattle.law_all.specs.inv.history.History.{Item, record_of, world_of}
use Rattle.law_all.specs.inv.history.Record.{Past}
use Rattle.law_all.specs.inv.model.CallReady.{slots_of}
use Rattle.law_all.specs.inv.model.Locals.{Group}
use Rattle.law_all.specs.inv.model.World.{is_busy}
use Rattle.law_all.specs.inv.model.defs.Shown.{Seen}
use Rattle.law_all.specs.inv.model.defs.declared.call.Answer.{Answer}
use Rattle.law_all.specs.inv.model.defs.declared.call.Answer.TheVariants as answers
use Rattle.law_all.specs.inv.model.defs.declared.call.Call.{Call}
use Rattle.law_all.specs.inv.model.defs.declared.lifetime.Lifetime.{Lifetime}
use Rattle.law_all.specs.inv.model.words.Place.{is_valid}
use Rattle.law_all.specs.inv.model.words.Schemes.{publishes_rows}
use Rattle.law_all.specs.inv.model.words.declared.config.Config.{Config}
use Rattle.law_all.specs.inv.model.words.declared.layout.Layout.{Layout}
use Rattle.law_all.specs.laws.HoldLaw.{is_blank}
use Rattle.law_all.specs.laws.Lists.{list_of}
use Rattle.law_all.specs.laws.ScanLaw.{guards, next_back}
use Rattle.law_all.specs.laws.Standing.{is_leave}
use Rattle.law_all.specs.laws.StateAt.{clock_of, read_of}
use Rattle.law_bounds.specs.Kept.{WaitedMost, read_most}
use Rattle.law_bounds.specs.Rows.{ClosesWhole, NoneLost, are_apart, listed_below}
use Rattle.law_bounds.specs.Scans.{came_of, judged_of, late_of}

-- the last of these calls
abbrev pub last_from : (before : Option Call) → List Group → Option Call
last_from before [] = before
last_from before (group ∷ log) = last_from (Some group.call) log

abbrev pub last_call : List Group → Option Call
last_call log = last_from None log

-- the last of them only scans
abbrev pub is_scanned : Answer → Bool
is_scanned (answers.Scanned kept back) = true
is_scanned answer = false

abbrev pub scans_from : (before : Bool) → List Group → Bool
scans_from before [] = before
scans_from before (group ∷ log) = scans_from (is_scanned group.answer) log

abbrev pub has_scanned : List Group → Bool
has_scanned log = scans_from false log

-- how many rows have come with lists that were taken over, after a call that was answered so: a call that only scans judges them all
abbrev pub came_after : Answer → (before : ℕ) → ℕ
came_after (answers.Adopted count) before = before + count
came_after (answers.Scanned kept back) before = 0
came_after answer before = before

abbrev pub came_from : (before : ℕ) → List Group → ℕ
came_from before [] = before
came_from before (group ∷ log) = came_from (came_after group.answer before) log

-- with the lists that these calls have taken over since the last of them that only scans
abbrev pub came_in : List Group → ℕ
came_in log = came_from 0 log

-- nothing of what was read publishes
abbrev pub shows_none : List Seen → Bool
shows_none [] = true
shows_none (seen ∷ read) = is_blank seen.1 && shows_none read

-- A seat that has not left and is in no call: its number, the record, its calls, and its list.
pub record WaitsFew (config : Config) (k : ℕ) (p : Past) (log : List Group) (lives : List Lifetime) : Type 0 where
  -- the list is that of the record, and no row is on it twice
  pub list : list_of k p ≡ lives
  pub apart : are_apart (slots_of lives) ≡ true
  -- something that the seat's last scan read keeps each life that this scan judged; so where nothing was published none is left of these
  pub kept : next_back (read_of (guards config) k p) (judged_of k p) ≡ None
  pub blank : shows_none (read_of (guards config) k p) ≡ true → judged_of k p ≡ []
  -- so a call that only scans leaves an empty list, if it read nothing that was published
  pub emptied : has_scanned log ≡ true → shows_none (read_of (guards config) k p) ≡ true → lives ≡ []
  -- all others came since: by retirements, fewer than `every`, or with lists that the seat took over
  pub size : length lives ≤ length (judged_of k p) + (late_of k p + came_of k p)
  pub late : late_of k p < config.every
  -- with no more of these than its calls were answered since the last one that only scans
  pub came : came_of k p ≤ came_in log
  -- Michael's bound: under hazard pointers one row for each guard, `every` but one, and those that came with lists, since an adopt scans
  -- nothing
  pub hazards : publishes_rows config.scheme ≡ true → length lives ≤ config.seats * config.indexes + (config.every - 1) + came_of k p
  -- under eras, while the clock has not come to the last one, so many for each guard that the last scan read publishing, `every` but one,
  -- and those that came with lists; if no more values than that ever waited in the queue
  pub eras :
      (queue : ℕ)
      → publishes_rows config.scheme ≡ false
      → clock_of p < config.last_era
      → WaitedMost queue p
      → length lives ≤ read_most config queue (read_of (guards config) k p) + (config.every - 1) + came_of k p

-- so it is after each history in which the seat has ended its last call, and that was none by which it leaves
abbrev pub SeatsWaitFew : Type 0
SeatsWaitFew =
    (layout : Layout) (items : List Item) (k : ℕ)
    → is_valid layout ≡ true
    → is_busy (world_of layout items) k ≡ false
    → is_leave (last_call ((world_of layout items).seat k).log) ≡ false
    → WaitsFew layout.config k (record_of layout items) ((world_of layout items).seat k).log ((world_of layout items).seat k).desk.list

-- how many lives have come to the seats below a number with lists, each since its last scan
abbrev pub came_below : (below : ℕ) → Past → ℕ
came_below zero p = 0
came_below (suc k) p = came_below k p + came_of k p

-- how many rows guards may keep that the last scans of the seats below a number have read
abbrev pub read_below : (below : ℕ) → Config → (queue : ℕ) → Past → ℕ
read_below zero config queue p = 0
read_below (suc k) config queue p = read_below k config queue p + read_most config queue (read_of (guards config) k p)

-- A table that is closed.
pub record ClosesFew (layout : Layout) (items : List Item) (closed : AtClose) : Type 0 where
  -- no row is lost: those that are taken are the rows of the buckets that were changed, the queue's with its dummy, and those on the
  -- lists, each of them once
  pub rows : NoneLost layout.config (record_of layout items)
  -- so as many are answered
  pub number : ClosesWhole closed (listed_below layout.config.seats (record_of layout items))
  -- the list of a seat that has not left is the one that it has
  pub lists : (k : ℕ)
      → is_leave (last_call ((world_of layout items).seat k).log) ≡ false
      → list_of k (record_of layout items) ≡ ((world_of layout items).seat k).desk.list
  -- under hazard pointers so many rows wait on all lists at most, beside those that came with lists since the last scans
  pub hazards :
      publishes_rows layout.config.scheme ≡ true
      → listed_below layout.config.seats (record_of layout items)
      ≤ layout.config.seats * (layout.config.seats * layout.config.indexes + (layout.config.every - 1)) + came_below layout.config.seats (record_of layout items)
  -- and under eras, while the clock has not come to the last one
  pub eras :
      (queue : ℕ)
      → publishes_rows layout.config.scheme ≡ false
      → clock_of (record_of layout items) < layout.config.last_era
      → WaitedMost queue (record_of layout items)
      → listed_below layout.config.seats (record_of layout items)
      ≤ read_below layout.config.seats layout.config queue (record_of layout items) + layout.config.seats * (layout.config.every - 1)
      + came_below layout.config.seats (record_of layout items)
  -- with no more of these than calls were answered
  pub came : came_below layout.config.seats (record_of layout items) ≤ sum_by came_in (logs_of layout items)

-- so it is after each history that leaves no call under way
abbrev pub TablesCloseFew : Type 0
TablesCloseFew = (layout : Layout) (items : List Item) → AtRest layout items → ClosesFew layout items (at_close layout (record_of layout items))
