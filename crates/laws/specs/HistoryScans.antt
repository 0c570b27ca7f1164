-- What scans read and give back, and which calls scan.
use Rattle.std.specs.Prelude.{Bool, List, false, if◌then◌else◌, length, nat_lt, not, true, ℕ, ◌%◌, ◌&&◌, ◌*◌, ◌+◌, ◌<◌, ◌==◌, ◌||◌, ◌≡◌, ◌≤◌}
use Rattle.model_record.specs.Record.{EachEntry, Past, Test, tells}
use Rattle.model_record.specs.defs.Entry.{Entry}
use Rattle.model_record.specs.defs.declared.call.Answer.TheVariants as answers
use Rattle.model_record.specs.defs.declared.call.Answer.{Answer}
use Rattle.model_record.specs.defs.declared.call.Call.TheVariants as calls
use Rattle.model_record.specs.defs.declared.call.Call.{Call}
use Rattle.model_record.specs.defs.declared.event.Event.TheVariants as events
use Rattle.model_record.specs.defs.declared.event.Event.{Event}
use Rattle.wfe_words.specs.declared.config.Config.{Config}
use Rattle.laws.specs.ScanLaw.{guards, is_scan_call, read_ok, scan_ok}
use Rattle.laws.specs.Lists.{list_of}
use Rattle.laws.specs.StateAt.{call_of, is_back, is_read, is_retire, seen, takes_out, times, told, was_taken}

abbrev pub BlockLaw : Config → Past → Type 0
BlockLaw config r = EachEntry (scan_ok config) r

-- each guard was read once in the call; the answer is how many lives are left on the seat's list, and how many rows went back
abbrev pub answers_scan : Config → ℕ → Past → Answer → Bool
answers_scan config i p (answers.Scanned kept back) = times i is_read p == guards config && (kept == length (list_of i p) && back == times i is_back p)
answers_scan config i p answer = false

-- a call that only scans ends with such an answer
abbrev pub count_ok : Config → Test
count_ok config p i (events.End steps answer) = if is_scan_call (call_of i p) then answers_scan config i p answer else true
count_ok config p i event = true

abbrev pub CountLaw : Config → Past → Type 0
CountLaw config r = EachEntry (count_ok config) r

abbrev pub ReadLaw : Past → Type 0
ReadLaw r = EachEntry read_ok r

-- what of scans may come next in a call. `Plain`: none. `Advancing`: none, but the clock may be moved once. `MayScan`: one, before a
-- row is given, and the clock may be moved before it. `MustScan`: one has to come; `moves` says whether the clock may be moved
-- before it. `Reading`: one that has begun, of which so many guards are read
pub data Course : Type 0 where
  Plain : Course
  Advancing : Course
  MayScan : Course
  MustScan : (moves : Bool) → Course
  Reading : (reads : ℕ) → Course

-- what a seat's entries come to: how many rows it has retired in all its calls; and what may come in its call
pub record Tally : Type 0 where
  pub retired : ℕ
  pub course : Course

abbrev pub first_course : Call → Course
first_course (calls.Put key value) = MayScan
first_course (calls.Remove key) = MayScan
first_course (calls.PutIf key value version) = MayScan
first_course (calls.Enqueue value) = MayScan
first_course calls.Advance = Advancing
first_course calls.Scan = MustScan false
first_course call = Plain

-- once the clock was moved: a scan that may have come has to come
abbrev pub moved_course : Course → Course
moved_course Advancing = Plain
moved_course MayScan = MustScan false
moved_course (MustScan moves) = MustScan false
moved_course course = course

abbrev pub read_course : Course → Course
read_course (Reading reads) = Reading (reads + 1)
read_course course = Reading 1

-- once a row is retired: a scan has to come where the count is a multiple of `every`
abbrev pub retired_course : (due : Bool) → Course
retired_course true = MustScan true
retired_course false = Plain

abbrev pub plain_by : (every : ℕ) → Event → Tally → Tally
plain_by every (events.Begin call) before = record { retired = before.retired; course = first_course call }
plain_by every (events.Era era) before = record { retired = before.retired; course = moved_course before.course }
plain_by every (events.Read guard span) before = record { retired = before.retired; course = read_course before.course }
plain_by every (events.Saw guard slot) before = record { retired = before.retired; course = read_course before.course }
plain_by every (events.Give slot birth) before = record { retired = before.retired; course = Plain }
plain_by every (events.Retire slot birth retire) before = record { retired = before.retired + 1; course = retired_course ((before.retired + 1) % every == 0) }
plain_by every event before = before

abbrev pub no_tally : Tally
no_tally = record { retired = 0; course = Plain }

-- a guard may be read: a scan may begin or has to, or one goes on that has not read all of them
abbrev pub may_read : (all : ℕ) → Course → Bool
may_read all Plain = false
may_read all Advancing = false
may_read all MayScan = true
may_read all (MustScan moves) = true
may_read all (Reading reads) = nat_lt reads all

-- no scan is due, and none that has begun lacks a guard
abbrev pub is_settled : (all : ℕ) → Course → Bool
is_settled all Plain = true
is_settled all Advancing = true
is_settled all MayScan = true
is_settled all (MustScan moves) = false
is_settled all (Reading reads) = reads == all

-- A call that only scans reads each guard once. A call in which the number of its seat's retirements became a multiple of `every`
-- does so once after that Retire, before it ends. A put, a remove or an enqueue may do so once more, before it is given a row and
-- before it ends. No guard is read elsewhere.
abbrev pub scan_right : (all : ℕ) → Event → Course → Bool
scan_right all (events.Read guard span) before = may_read all before
scan_right all (events.Saw guard slot) before = may_read all before
scan_right all (events.Give slot birth) before = is_settled all before
scan_right all (events.Retire slot birth retire) before = is_settled all before
scan_right all (events.End steps answer) before = is_settled all before
scan_right all event before = true

-- At each position no more rows were retired than changes were made and values taken before. These are at most as many as there are
-- versions of all buckets and numbers of the queue. So a count that stops at the greatest number of 64 bits does not get there.
pub record FewRetired (config : Config) (r : Past) : Type 0 where
  pub retired : (before : Past) (later : List Entry) → r ≡ tells before later → told is_retire before ≤ told takes_out before
  pub taken : told takes_out r ≤ (config.buckets + 1) * config.last_version
  pub room : told is_retire r < 18446744073709551615

-- the tally of seat i
abbrev pub plain_tally : (every : ℕ) → ℕ → Past → Tally
plain_tally every i p = seen (plain_by every) no_tally i p

-- A call that only scans does so once, and one in which the number of its seat's retirements became a multiple of `every` once after
-- that; a call that is given a row may do so once more before
abbrev pub plain_scans_ok : Config → Test
plain_scans_ok config p i event = scan_right (guards config) event (plain_tally config.every i p).course

abbrev pub PlainScans : Config → Past → Type 0
PlainScans config r = EachEntry (plain_scans_ok config) r

-- what a call has come to in its search for a row: whether it still seeks one, since it is a put, a remove or an enqueue that was
-- given none and has retired none; and how many guards it has read
pub record Search : Type 0 where
  pub seeks : Bool
  pub reads : ℕ

-- calls that are given a row
abbrev pub seeks_row : Call → Bool
seeks_row (calls.Put key value) = true
seeks_row (calls.Remove key) = true
seeks_row (calls.PutIf key value version) = true
seeks_row (calls.Enqueue value) = true
seeks_row call = false

-- the search after an event of the seat
abbrev pub search_by : Event → Search → Search
search_by (events.Begin call) before = record { seeks = seeks_row call; reads = 0 }
search_by (events.Give slot birth) before = record { seeks = false; reads = before.reads }
search_by (events.Retire slot birth retire) before = record { seeks = false; reads = before.reads }
search_by (events.Read guard span) before = record { seeks = before.seeks; reads = before.reads + 1 }
search_by (events.Saw guard slot) before = record { seeks = before.seeks; reads = before.reads + 1 }
search_by event before = before

abbrev pub no_search : Search
no_search = record { seeks = false; reads = 0 }

-- the search of seat i
abbrev pub search_of : ℕ → Past → Search
search_of i p = seen search_by no_search i p

-- a guard that a call reads while it seeks a row is read only where the row was taken at a position of the call so far
abbrev pub room_ok : (slots s : ℕ) → Test
room_ok slots s p i (events.Read guard span) = let x : Search = search_of i p in not x.seeks || was_taken slots i s p
room_ok slots s p i (events.Saw guard slot) = let x : Search = search_of i p in not x.seeks || was_taken slots i s p
room_ok slots s p i event = true

-- so it is with each row
abbrev pub RoomScans : Config → Past → Type 0
RoomScans config r = (s : ℕ) → s ≤ config.slots → EachEntry (room_ok config.slots s) r

-- Each scan keeps just the rows that something which it read keeps.
pub record HistoryScans (config : Config) (r : Past) : Type 0 where
  -- a seat reads all guards, in order, and then just the rows of its list go back that nothing which it read keeps
  pub blocks : BlockLaw config r
  -- a guard that is read shows what was last told that it publishes, whichever seat told it
  pub reads : ReadLaw r
  -- a call that only scans reads each guard once, and answers how many lives are kept and how many rows went back
  pub counts : CountLaw config r
  -- a call scans where a scan is due, may scan before it is given a row, and scans nowhere else
  pub due : PlainScans config r
  -- no more rows are retired than changes were made and values taken, so that a count of 64 bits has room for all
  pub few : FewRetired config r
  -- a call that has no row yet reads a guard only where each row was taken at a position of the call before
  pub room : RoomScans config r
