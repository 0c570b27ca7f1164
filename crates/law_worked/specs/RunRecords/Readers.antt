-- A plain reader of runs: each sentence of the law of runs is a test of it, and so is each bullet.
use Rattle.std.specs.Prelude.{Bool, List, None, Option, Some, [], count_by, drop, false, filter, if◌then◌else◌, is_some, length, max, nat_le, nat_lt, not, suc, true, zero, ℕ, ◌&&◌, ◌++◌, ◌+◌, ◌-◌, ◌<◌, ◌==◌, ◌∷◌, ◌≡◌, ◌≤◌}
use Rattle.std.specs.Bool.{Decides}
use Rattle.std.specs.List.{cons_option, find, list_all, range_with_len, slice_get}
use Rattle.law_all.specs.inv.model.Locals.{Group}
use Rattle.law_all.specs.inv.model.defs.Pairs.{pairs_after, value_in}
use Rattle.law_all.specs.inv.model.defs.declared.call.Answer.{Answer}
use Rattle.law_all.specs.inv.model.defs.declared.call.Answer.TheVariants as answers
use Rattle.law_all.specs.inv.model.defs.declared.call.Call.{Call}
use Rattle.law_all.specs.inv.model.defs.declared.call.Call.TheVariants as calls
use Rattle.law_all.specs.inv.model.defs.declared.call.ClockMove.{ClockMove}
use Rattle.law_all.specs.inv.model.defs.declared.fold.Change.{Change}
use Rattle.law_all.specs.inv.model.defs.declared.fold.Change.TheVariants as changes
use Rattle.law_all.specs.inv.model.words.Schemes.{moves}
use Rattle.law_all.specs.inv.model.words.declared.config.Config.{Config}
use Rattle.law_all.specs.laws.AnswerLaw.{retires_for, suits}
use Rattle.law_all.specs.laws.StateAt.{is_among, one}
use Rattle.law_all.specs.laws.StructuresAt.{bucket_of, numbered_from, same_value}
use Rattle.law_all.specs.Kept.{Keeping, kept_in, looked_in}
use Rattle.law_all.specs.Logs.Versions.{number_queued, number_taken, seen_in, version_told}
use Rattle.law_all.specs.RunLaw as law
use Rattle.law_worked.specs.RunRecords.Runs.{Run}

-- What is so of each call, of each two calls of one seat, and of each number.

-- of each of these calls with those before it
abbrev pub each_in : (List Group → Group → Bool) → List Group → List Group → Bool
each_in test before [] = true
each_in test before (group ∷ log) = test before group && each_in test (before ++ group ∷ []) log

abbrev pub each_call : (List Group → Group → Bool) → List (List Group) → Bool
each_call test logs = list_all (λ log. each_in test [] log) logs

abbrev pub each_pair : (Group → Group → Bool) → List (List Group) → Bool
each_pair test logs = each_call (λ before two. list_all (λ one. test one two) before) logs

-- of each two calls of one seat, each with the calls before it
abbrev pub each_two : (List Group → Group → List Group → Group → Bool) → List (List Group) → Bool
each_two test logs = each_call (λ before two. each_in (λ early one. test early one before two) [] before) logs

abbrev pub each_below : ℕ → (ℕ → Bool) → Bool
each_below zero test = true
each_below (suc n) test = test n && each_below n test

abbrev pub same_pairs : List (ℕ × ℕ) → List (ℕ × ℕ) → Bool
same_pairs [] [] = true
same_pairs [] (y ∷ ys) = false
same_pairs (x ∷ xs) [] = false
same_pairs (x ∷ xs) (y ∷ ys) = (x.0 == y.0 && x.1 == y.1) && same_pairs xs ys

abbrev pub same_numbers : List ℕ → List ℕ → Bool
same_numbers [] [] = true
same_numbers [] (y ∷ ys) = false
same_numbers (x ∷ xs) [] = false
same_numbers (x ∷ xs) (y ∷ ys) = x == y && same_numbers xs ys

abbrev pub is_this : Change → Option Change → Bool
is_this (changes.Put key value) (Some (changes.Put key' value')) = key == key' && value == value'
is_this (changes.Removed key) (Some (changes.Removed key')) = key == key'
is_this change other = false

-- Numbers that calls tell.

abbrev pub number_or_none : Option ℕ → ℕ
number_or_none None = 0
number_or_none (Some number) = number

abbrev pub greatest_in : (Group → Option ℕ) → List Group → ℕ
greatest_in f [] = 0
greatest_in f (group ∷ log) = max (number_or_none (f group)) (greatest_in f log)

-- the greatest number that calls tell
abbrev pub greatest : (Group → Option ℕ) → List (List Group) → ℕ
greatest f [] = 0
greatest f (log ∷ logs) = max (greatest_in f log) (greatest f logs)

abbrev pub tellers : (Group → Option ℕ) → ℕ → List (List Group) → ℕ
tellers f number logs = law.total_of (λ group. law.has_number number (f group)) logs

-- the numbers that calls tell are those from 1 to this one, each once
abbrev pub once_ok : (Group → Option ℕ) → ℕ → List (List Group) → Bool
once_ok f most logs = each_below (suc (greatest f logs + most)) (λ number. tellers f number logs == law.once_up_to most number)

-- no number is told twice
abbrev pub single_ok : (Group → Option ℕ) → List (List Group) → Bool
single_ok f logs = each_below (suc (greatest f logs)) (λ number. nat_le (tellers f number logs) 1)

-- the version of a change of the bucket
abbrev pub version_in : (buckets b : ℕ) → Option (ℕ × ℕ) → Option ℕ
version_in n b None = None
version_in n b (Some told) = if bucket_of n told.0 == b then Some told.1 else None

abbrev pub change_in : (buckets b : ℕ) → Group → Option ℕ
change_in n b group = if law.is_change group then version_in n b (version_told group.call group.answer) else None

abbrev pub queued_by : Group → Option ℕ
queued_by group = number_queued group.call group.answer

abbrev pub taken_by : Group → Option ℕ
taken_by group = number_taken group.call group.answer

abbrev pub moved_by : Group → Option ℕ
moved_by group = law.era_moved (law.clock_told group.answer)

-- The changes of buckets and the values queued, as the calls tell them.

abbrev pub first_of : Option Group → Option Group → Option Group
first_of None other = other
first_of (Some group) other = Some group

-- the first call that passes a test
abbrev pub find_call : (Group → Bool) → List (List Group) → Option Group
find_call test [] = None
find_call test (log ∷ logs) = first_of (find test log) (find_call test logs)

-- what there is from a number on, for so many numbers
abbrev pub listed : {X : Type 0} → (ℕ → Option X) → (from many : ℕ) → List X
listed f from zero = []
listed f from (suc many) = cons_option (f from) (listed f (suc from) many)

abbrev pub change_by : Option Group → Option Change
change_by None = None
change_by (Some group) = law.change_made group.call group.answer

abbrev pub made_in : (buckets : ℕ) → List (List Group) → ℕ → List Change
made_in n logs b = listed (λ version. change_by (find_call (law.is_change_of n b version) logs)) 1 (greatest (change_in n b) logs)

abbrev pub value_of_call : Call → Option ℕ
value_of_call (calls.Enqueue value) = Some value
value_of_call call = None

abbrev pub value_by : Option Group → Option ℕ
value_by None = None
value_by (Some group) = value_of_call group.call

abbrev pub queued_in : List (List Group) → List ℕ
queued_in logs = listed (λ number. value_by (find_call (law.is_queued_as number) logs)) 1 (greatest queued_by logs)

abbrev pub taken_in : List (List Group) → ℕ
taken_in logs = greatest taken_by logs

-- Tests of single calls.

abbrev pub full_ok : Answer → Option (ℕ × ℕ) → Bool
full_ok answers.Full given = not (is_some given)
full_ok answer given = true

abbrev pub clock_ok : Option ClockMove → (due : Bool) → Bool
clock_ok None due = true
clock_ok (Some move) due = if due then not (law.is_still move) else law.is_still move

abbrev pub plain_ok : Option (ℕ × ℕ) → (early : ℕ) → Bool
plain_ok None early = early == 0
plain_ok (Some row) early = true

abbrev pub back_ok : Answer → ℕ → Bool
back_ok (answers.Scanned kept back) many = back == many
back_ok answer many = true

abbrev pub bare_ok : (bare : Bool) → Option (ℕ × ℕ) → (back : List ℕ) → Bool
bare_ok true None [] = true
bare_ok true None (slot ∷ slots) = false
bare_ok true (Some row) back = false
bare_ok false given back = true

abbrev pub kept_ok : Answer → ℕ → Bool
kept_ok (answers.Scanned kept back) many = kept == many
kept_ok answer many = true

-- a seat that leaves counts what it leaves
abbrev pub parted_ok : Answer → ℕ → Bool
parted_ok (answers.Left count) many = count == many
parted_ok answer many = true

-- and one that takes a list over what was left
abbrev pub adopted_ok : (left : ℕ → List ℕ) → (place : Option ℕ) → Answer → Bool
adopted_ok left None answer = true
adopted_ok left (Some place) (answers.Adopted count) = count == length (left place)
adopted_ok left (Some place) answer = true

abbrev pub adopted_by : Group → Option ℕ
adopted_by group = law.taken_over group.call group.answer

abbrev pub away_ok : List Change → (key version : ℕ) → Bool
away_ok cs key version = nat_le version (length cs) && not (is_some (value_in (law.pairs_by cs version) key))

abbrev pub made_ok : List Change → Change → (version : ℕ) → (could : Bool) → Bool
made_ok cs change version could = nat_le 1 version && (is_this change (slice_get cs (version - 1)) && could)

abbrev pub reads_ok : Config → (ℕ → List Change) → Call → Answer → Bool
reads_ok c made (calls.Get key) (answers.Got version value) =
    nat_le version (length (made (bucket_of c.buckets key)))
    && same_value value (value_in (law.pairs_by (made (bucket_of c.buckets key)) version) key)
reads_ok c made (calls.Put key value) (answers.Done version clock) =
    made_ok (made (bucket_of c.buckets key)) (changes.Put key value) version
    (law.could_put c.pairs (law.pairs_by (made (bucket_of c.buckets key)) (version - 1)) key)
reads_ok c made (calls.Put key value) (answers.BucketFull version) =
    away_ok (made (bucket_of c.buckets key)) key version && length (law.pairs_by (made (bucket_of c.buckets key)) version) == c.pairs
reads_ok c made (calls.Put key value) (answers.Spent version) = version == length (made (bucket_of c.buckets key))
reads_ok c made (calls.PutIf key value wanted) (answers.Done version clock) =
    made_ok (made (bucket_of c.buckets key)) (changes.Put key value) version
    (law.could_put c.pairs (law.pairs_by (made (bucket_of c.buckets key)) (version - 1)) key)
    && version == wanted + 1
reads_ok c made (calls.PutIf key value wanted) (answers.BucketFull version) =
    (away_ok (made (bucket_of c.buckets key)) key version && length (law.pairs_by (made (bucket_of c.buckets key)) version) == c.pairs)
    && version == wanted
reads_ok c made (calls.PutIf key value wanted) (answers.Spent version) = version == length (made (bucket_of c.buckets key)) && version == wanted
reads_ok c made (calls.PutIf key value wanted) (answers.Stale version) =
    nat_le version (length (made (bucket_of c.buckets key))) && not (version == wanted)
reads_ok c made (calls.Remove key) (answers.Done version clock) =
    made_ok (made (bucket_of c.buckets key)) (changes.Removed key) version
    (is_some (value_in (law.pairs_by (made (bucket_of c.buckets key)) (version - 1)) key))
reads_ok c made (calls.Remove key) (answers.Absent version) = away_ok (made (bucket_of c.buckets key)) key version
reads_ok c made (calls.Remove key) (answers.Spent version) =
    (nat_le version (length (made (bucket_of c.buckets key)))
    && is_some (value_in (law.pairs_by (made (bucket_of c.buckets key)) version) key))
    && version == length (made (bucket_of c.buckets key))
reads_ok c made call answer = true

abbrev pub queues_ok : Config → List ℕ → Call → Answer → Bool
queues_ok c queued (calls.Enqueue value) (answers.Queued number) = same_value (slice_get queued (number - 1)) (Some value)
queues_ok c queued (calls.Enqueue value) (answers.Spent number) = length queued == c.last_version
queues_ok c queued calls.Dequeue (answers.Taken number value clock) = same_value (slice_get queued (number - 1)) (Some value)
queues_ok c queued call answer = true

-- a row is kept, in this slot
abbrev pub row_ok : Option Keeping → (slot : ℕ) → Bool
row_ok None slot = false
row_ok (Some kept) slot = kept.slot == slot

-- the row shows a version that its hold's bucket had, and no earlier one than was told of the bucket before that hold, by looks or others
abbrev pub shows_ok : Config → List Change → Keeping → (key version : ℕ) → Option ℕ → Bool
shows_ok c cs kept key version value =
    nat_le 1 version
    && (nat_le version (length cs)
    && (same_value value (value_in (law.pairs_by cs version) key)
    && (nat_le (seen_in c.buckets (law.bucket_kept c kept) kept.before) version
    && nat_le (looked_in c.buckets (law.bucket_kept c kept) kept.before) version)))

abbrev pub look_ok : Config → (ℕ → List Change) → Option Keeping → (key slot version : ℕ) → Option ℕ → Bool
look_ok c made None key slot version value = false
look_ok c made (Some kept) key slot version value = kept.slot == slot && shows_ok c (made (law.bucket_kept c kept)) kept key version value

abbrev pub keeps_ok : Config → (ℕ → List Change) → List Group → Call → Answer → Bool
keeps_ok c made before (calls.Copy from index) (answers.Copied slot) = row_ok (kept_in from before) slot
keeps_ok c made before (calls.Copy from index) answers.Nothing = not (is_some (kept_in from before))
keeps_ok c made before (calls.Look index key) (answers.Looked slot version value) = look_ok c made (kept_in index before) key slot version value
keeps_ok c made before (calls.Look index key) answers.Nothing = not (is_some (kept_in index before))
keeps_ok c made before call answer = true

-- Tests of two calls of one seat.

-- where both tell a version of one bucket, it passes the test
abbrev pub versions_ok : (ℕ → ℕ → Bool) → (buckets : ℕ) → Option (ℕ × ℕ) → Option (ℕ × ℕ) → Bool
versions_ok test n None high = true
versions_ok test n (Some low) None = true
versions_ok test n (Some low) (Some high) = if bucket_of n low.0 == bucket_of n high.0 then test low.1 high.1 else true

abbrev pub never_fall_ok : (buckets : ℕ) → (one two : Group) → Bool
never_fall_ok n one two = versions_ok (λ low high. nat_le low high) n (version_told one.call one.answer) (version_told two.call two.answer)

abbrev pub changes_rise_ok : (buckets : ℕ) → (one two : Group) → Bool
changes_rise_ok n one two =
    if law.is_change two then versions_ok (λ low high. nat_lt low high) n (version_told one.call one.answer) (version_told two.call two.answer) else true

-- looks before a change have told no later version of its bucket than the one before it
abbrev pub later_ok : (buckets : ℕ) → (change : Bool) → List Group → Option (ℕ × ℕ) → Bool
later_ok n true before (Some told) = nat_le (looked_in n (bucket_of n told.0) before) (told.1 - 1)
later_ok n true before None = true
later_ok n false before told = true

abbrev pub rises_ok : Option ℕ → Option ℕ → Bool
rises_ok None high = true
rises_ok (Some low) None = true
rises_ok (Some low) (Some high) = nat_lt low high

-- two rows that a seat keeps are from one hold: as many calls were before it
abbrev pub one_hold : Option Keeping → Option Keeping → Bool
one_hold None two = false
one_hold (Some one) None = false
one_hold (Some one) (Some two) = one.key == two.key && (one.slot == two.slot && length one.before == length two.before)

-- two looks at rows from one hold, each with the calls before it, show one version
abbrev pub same_ok : List Group → Option (ℕ × ℕ) → List Group → Option (ℕ × ℕ) → Bool
same_ok early None before two = true
same_ok early (Some one) before None = true
same_ok early (Some one) before (Some two) = if one_hold (kept_in one.0 early) (kept_in two.0 before) then one.1 == two.1 else true

abbrev pub empty_ok : (taken : ℕ) → Option ℕ → Answer → Bool
empty_ok taken (Some number) answers.Empty = nat_le number taken
empty_ok taken number answer = true

abbrev pub final_ok : (spent told : Option ℕ) → Bool
final_ok None told = true
final_ok (Some era) told = not (is_some told)

abbrev pub spent_ok : (last_era clock era : ℕ) → Bool
spent_ok last_era clock era = era == last_era && clock == last_era

-- where there is a number, it passes the test
abbrev pub if_some_ok : (ℕ → Bool) → Option ℕ → Bool
if_some_ok test None = true
if_some_ok test (Some number) = test number

-- a hold that finds nothing, in a table with so many buckets: its seat has told no version of the bucket
abbrev pub unseen_ok : (buckets : ℕ) → (before : List Group) → Call → Answer → Bool
unseen_ok n before (calls.Hold key) answers.Nothing = seen_in n (bucket_of n key) before == 0
unseen_ok n before call answer = true

-- The sentences of the law of runs, under the names that they have in the records of its bullets, or others where two have one name.

pub data Sentence : Type 0 where
  -- of answers
  Seats : Sentence
  Suits : Sentence
  Allowed : Sentence
  Full : Sentence
  Retires : Sentence
  Clock : Sentence
  Counted : Sentence
  Bare : Sentence
  -- of versions
  Buckets : Sentence
  Version : Sentence
  Once : Sentence
  Pairs : Sentence
  Reads : Sentence
  -- of what rises
  NeverFall : Sentence
  ChangesRise : Sentence
  AfterLooks : Sentence
  Unseen : Sentence
  -- of what is kept
  KeptRight : Sentence
  Same : Sentence
  -- of the queue
  MostTaken : Sentence
  OnceQueued : Sentence
  OnceTaken : Sentence
  Right : Sentence
  QueuedRise : Sentence
  TakenRise : Sentence
  TakenFirst : Sentence
  Left : Sentence
  Empty : Sentence
  -- of rows
  Used : Sentence
  Balance : Sentence
  -- of lists
  Plain : Sentence
  Early : Sentence
  Late : Sentence
  Kept : Sentence
  LeftCount : Sentence
  TakenCount : Sentence
  Whole : Sentence
  LastCall : Sentence
  Gone : Sentence
  OnceAdopted : Sentence
  FoundAdopted : Sentence
  -- of eras
  Most : Sentence
  OnceMoved : Sentence
  Later : Sentence
  Seen : Sentence
  Rise : Sentence
  Spent : Sentence
  Final : Sentence

abbrev pub reads : Run → Sentence → Bool
reads run Sentence.Seats = length run.logs == run.config.seats
reads run Sentence.Suits = each_call (λ before group. suits group.call group.answer) run.logs
reads run Sentence.Allowed = each_call (λ before group. law.is_allowed run.config.last_version group.answer) run.logs
reads run Sentence.Full = each_call (λ before group. full_ok group.answer group.notes.given) run.logs
reads run Sentence.Retires = each_call (λ before group. law.retired_in group == retires_for group.answer) run.logs
reads run Sentence.Clock = each_call (λ before group. clock_ok (law.clock_told group.answer) (law.is_due (moves run.config.scheme) run.config.every before group)) run.logs
reads run Sentence.Counted = each_call (λ before group. back_ok group.answer (length group.notes.back)) run.logs
reads run Sentence.Bare = each_call (λ before group. bare_ok (law.is_bare group.call) group.notes.given group.notes.back) run.logs
reads run Sentence.Buckets = length run.closed.buckets == run.config.buckets
reads run Sentence.Version = each_below run.config.buckets (λ b. (law.bucket_in b run.closed).version == length (made_in run.config.buckets run.logs b))
reads run Sentence.Once =
    each_below run.config.buckets (λ b. once_ok (change_in run.config.buckets b) (length (made_in run.config.buckets run.logs b)) run.logs)
reads run Sentence.Pairs =
    each_below run.config.buckets (λ b. same_pairs (law.bucket_in b run.closed).pairs (pairs_after (made_in run.config.buckets run.logs b)))
reads run Sentence.Reads = each_call (λ before group. reads_ok run.config (made_in run.config.buckets run.logs) group.call group.answer) run.logs
reads run Sentence.NeverFall =
    each_pair (λ one two. never_fall_ok run.config.buckets one two) run.logs
reads run Sentence.ChangesRise =
    each_pair (λ one two. changes_rise_ok run.config.buckets one two) run.logs
reads run Sentence.AfterLooks =
    each_call (λ before group. later_ok run.config.buckets (law.is_change group) before (version_told group.call group.answer)) run.logs
reads run Sentence.Unseen = each_call (λ before group. unseen_ok run.config.buckets before group.call group.answer) run.logs
reads run Sentence.KeptRight = each_call (λ before group. keeps_ok run.config (made_in run.config.buckets run.logs) before group.call group.answer) run.logs
reads run Sentence.Same =
    each_two (λ early one before two. same_ok early (law.look_made one.call one.answer) before (law.look_made two.call two.answer)) run.logs
reads run Sentence.MostTaken = nat_le (taken_in run.logs) (length (queued_in run.logs))
reads run Sentence.OnceQueued = once_ok queued_by (length (queued_in run.logs)) run.logs
reads run Sentence.OnceTaken = once_ok taken_by (taken_in run.logs) run.logs
reads run Sentence.Right = each_call (λ before group. queues_ok run.config (queued_in run.logs) group.call group.answer) run.logs
reads run Sentence.QueuedRise = each_pair (λ one two. rises_ok (queued_by one) (queued_by two)) run.logs
reads run Sentence.TakenRise = each_pair (λ one two. rises_ok (taken_by one) (taken_by two)) run.logs
reads run Sentence.TakenFirst = each_pair (λ one two. rises_ok (taken_by one) (queued_by two)) run.logs
reads run Sentence.Left = same_pairs run.closed.queue (numbered_from (taken_in run.logs) (drop (taken_in run.logs) (queued_in run.logs)))
reads run Sentence.Empty = each_pair (λ one two. empty_ok (taken_in run.logs) (queued_by one) two.answer) run.logs
reads run Sentence.Used = same_numbers run.closed.used (filter (λ slot. is_among slot run.closed.used) (range_with_len 0 (run.config.slots + 1)))
reads run Sentence.Balance =
    each_below (suc run.config.slots) (λ slot.
    law.total (law.gives slot) run.logs + one (slot == run.config.slots)
    == law.total (law.unuseds slot) run.logs + law.total (law.backs_in slot) run.logs + one (is_among slot run.closed.used))
reads run Sentence.Plain = each_call (λ before group. plain_ok group.notes.given group.notes.early) run.logs
reads run Sentence.Early = each_call (λ before group. law.is_part_of (law.early_backs group.notes) (law.list_in run.logs before)) run.logs
reads run Sentence.Late =
    each_call (λ before group. law.is_part_of (law.late_backs group.notes) (law.list_between (law.left_in run.logs) (law.list_in run.logs before) group)) run.logs
reads run Sentence.Kept =
    each_call (λ before group. kept_ok group.answer (length (law.list_after (law.left_in run.logs) (law.list_in run.logs before) group))) run.logs
reads run Sentence.LeftCount =
    each_call (λ before group. parted_ok group.answer (length (law.list_after (law.left_in run.logs) (law.list_in run.logs before) group))) run.logs
reads run Sentence.TakenCount = each_call (λ before group. adopted_ok (law.left_in run.logs) (adopted_by group) group.answer) run.logs
reads run Sentence.Whole =
    each_below (length run.logs) (λ seat. same_numbers (law.list_in run.logs (law.log_in run.logs seat)) (law.left_in run.logs seat))
reads run Sentence.LastCall = each_pair (λ one two. not (law.leaves one)) run.logs
reads run Sentence.Gone =
    each_call (λ before group. if_some_ok (λ place. nat_le 1 (count_by law.leaves (law.log_in run.logs place))) (adopted_by group)) run.logs
reads run Sentence.OnceAdopted = single_ok adopted_by run.logs
reads run Sentence.FoundAdopted =
    each_call (λ before group. if_some_ok (λ place. nat_le 1 (law.total_of (law.takes_over place) run.logs)) (law.found_taken group.call group.answer)) run.logs
reads run Sentence.Most = nat_le run.closed.clock run.config.last_era
reads run Sentence.OnceMoved = single_ok moved_by run.logs
reads run Sentence.Later = each_call (λ before group. if_some_ok (λ era. nat_le 2 era) (law.era_told (law.clock_told group.answer))) run.logs
reads run Sentence.Seen = each_call (λ before group. if_some_ok (λ era. nat_le era run.closed.clock) (law.era_told (law.clock_told group.answer))) run.logs
reads run Sentence.Rise = each_pair (λ one two. rises_ok (law.era_told (law.clock_told one.answer)) (law.era_told (law.clock_told two.answer))) run.logs
reads run Sentence.Spent =
    each_call (λ before group. if_some_ok (λ era. spent_ok run.config.last_era run.closed.clock era) (law.era_spent (law.clock_told group.answer))) run.logs
reads run Sentence.Final = each_pair (λ one two. final_ok (law.era_spent (law.clock_told one.answer)) (law.era_told (law.clock_told two.answer))) run.logs

-- The bullets.

pub data Bullet : Type 0 where
  Answers : Bullet
  Versions : Bullet
  Rises : Bullet
  Keeps : Bullet
  Queue : Bullet
  Rows : Bullet
  Lists : Bullet
  Eras : Bullet

abbrev pub bullets : List Bullet
bullets = Bullet.Answers ∷ Bullet.Versions ∷ Bullet.Rises ∷ Bullet.Keeps ∷ Bullet.Queue ∷ Bullet.Rows ∷ Bullet.Lists ∷ Bullet.Eras ∷ []

abbrev pub sentences_of : Bullet → List Sentence
sentences_of Bullet.Answers =
    Sentence.Seats ∷ Sentence.Suits ∷ Sentence.Allowed ∷ Sentence.Full ∷ Sentence.Retires ∷ Sentence.Clock ∷ Sentence.Counted ∷ Sentence.Bare ∷ []
sentences_of Bullet.Versions = Sentence.Buckets ∷ Sentence.Version ∷ Sentence.Once ∷ Sentence.Pairs ∷ Sentence.Reads ∷ []
sentences_of Bullet.Rises = Sentence.NeverFall ∷ Sentence.ChangesRise ∷ Sentence.AfterLooks ∷ Sentence.Unseen ∷ []
sentences_of Bullet.Keeps = Sentence.KeptRight ∷ Sentence.Same ∷ []
sentences_of Bullet.Queue =
    Sentence.MostTaken ∷ Sentence.OnceQueued ∷ Sentence.OnceTaken ∷ Sentence.Right
    ∷ Sentence.QueuedRise ∷ Sentence.TakenRise ∷ Sentence.TakenFirst ∷ Sentence.Left ∷ Sentence.Empty ∷ []
sentences_of Bullet.Rows = Sentence.Used ∷ Sentence.Balance ∷ []
sentences_of Bullet.Lists =
    Sentence.Plain ∷ Sentence.Early ∷ Sentence.Late ∷ Sentence.Kept ∷ Sentence.LeftCount ∷ Sentence.TakenCount
    ∷ Sentence.Whole ∷ Sentence.LastCall ∷ Sentence.Gone ∷ Sentence.OnceAdopted ∷ Sentence.FoundAdopted ∷ []
sentences_of Bullet.Eras = Sentence.Most ∷ Sentence.OnceMoved ∷ Sentence.Later ∷ Sentence.Seen ∷ Sentence.Rise ∷ Sentence.Spent ∷ Sentence.Final ∷ []

-- each sentence of the bullet takes the run
abbrev pub takes : Run → Bullet → Bool
takes run bullet = list_all (reads run) (sentences_of bullet)

-- the law of the bullet holds of the run, whatever the changes of the buckets, the values queued and their number may be; what is said of rows that
-- are kept, by the changes that calls tell
abbrev pub Holds : Run → Bullet → Type 0
Holds run Bullet.Answers = law.AnswersLaw run.config run.logs
Holds run Bullet.Versions = (made : ℕ → List Change) × law.VersionsLaw run.config run.logs run.closed made
Holds run Bullet.Rises = law.RisesLaw run.config run.logs
Holds run Bullet.Keeps = law.KeepsLaw run.config run.logs (made_in run.config.buckets run.logs)
Holds run Bullet.Queue = (queued : List ℕ) × (taken : ℕ) × law.QueueLaw run.config run.logs run.closed queued taken
Holds run Bullet.Rows = law.RowsLaw run.config run.logs run.closed
Holds run Bullet.Lists = law.ListsLaw run.logs
Holds run Bullet.Eras = law.ErasLaw run.config run.logs run.closed

-- The reader judges as the law does: where there is a bucket, each bullet takes a run exactly where its law holds of it, and all take it
-- exactly where the law of runs does.
pub record ReadersJudge : Type 0 where
  pub bullet : (run : Run) (bullet : Bullet) → 1 ≤ run.config.buckets → Decides (takes run bullet) (Holds run bullet)
  pub whole : (run : Run) → 1 ≤ run.config.buckets → Decides (list_all (takes run) bullets) (law.RunLaw run.config run.logs run.closed)
  -- the changes of a bucket, the values queued and the number of those taken are what the calls tell: the law leaves no choice of them
  pub made :
      (run : Run) (made : ℕ → List Change)
      → law.VersionsLaw run.config run.logs run.closed made
      → (b : ℕ)
      → b < run.config.buckets
      → made_in run.config.buckets run.logs b ≡ made b
  pub queued : (run : Run) (queued : List ℕ) (taken : ℕ) → law.QueueLaw run.config run.logs run.closed queued taken → queued_in run.logs ≡ queued
  pub taken : (run : Run) (queued : List ℕ) (taken : ℕ) → law.QueueLaw run.config run.logs run.closed queued taken → taken_in run.logs ≡ taken
