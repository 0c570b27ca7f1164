-- What is read off a record at a position, that is off the entries before it. What one law alone counts stands with that law.
use Rattle.std.specs.Prelude.{None, Option, Some, ℕ, ◌==◌, if◌then◌else◌, Bool, false, true, List, [], ◌∷◌, ◌++◌, ◌||◌, ◌+◌, length, ◌&&◌, is_some, nat_lt}
use Rattle.model_record.specs.Record.{Past, begins, own, told_since, Test, held_since}
use Rattle.model_record.specs.Record.Past.{Start, Then}
use Rattle.model_record.specs.defs.Shown.{Seen, shown, shown_row}
use Rattle.model_record.specs.defs.declared.call.Call.{Call}
use Rattle.model_record.specs.defs.declared.call.Call.TheVariants as calls
use Rattle.model_record.specs.defs.declared.event.Event.{Event}
use Rattle.model_record.specs.defs.declared.event.Event.TheVariants as events
use Rattle.model_record.specs.defs.declared.event.Guard.{Guard}
use Rattle.model_record.specs.defs.declared.event.Guard.TheVariants.{Helper, Index, Whole}
use Rattle.model_record.specs.defs.declared.event.Root.TheVariants as roots
use Rattle.model_record.specs.defs.declared.shown.Shown.{Shown}
use Rattle.model_record.specs.defs.declared.lifetime.Interval.{Interval}
use Rattle.model_record.specs.defs.declared.lifetime.Lifetime.{Lifetime}
use Rattle.wfe_words.specs.Schemes.{publishes_rows}
use Rattle.wfe_words.specs.declared.config.SchemeKind.{SchemeKind}

-- Counts of entries, and what a seat's own entries come to.

-- what the events of seat i make of a first value, one after another
abbrev pub seen : {X : Type 0} → (Event → X → X) → X → ℕ → Past → X
seen next first i Start = first
seen next first i (Then p k event) = if i == k then next event (seen next first i p) else seen next first i p

-- one where it is so, and else none
abbrev pub one : Bool → ℕ
one true = 1
one false = 0

-- how many entries pass a test
abbrev pub count : Test → Past → ℕ
count test Start = 0
count test (Then p i event) = count test p + one (test p i event)

-- how many events of a kind all seats have told
abbrev pub told : (Event → Bool) → Past → ℕ
told kind p = count (λ q i event. kind event) p

-- how often the call of seat i told an event of a kind
abbrev pub times : ℕ → (Event → Bool) → Past → ℕ
times i kind p = told_since (begins i) (own i kind) p

-- Calls: which one a seat has begun, and what it has told in it.

-- the call of seat i that is under way
abbrev pub call_of : ℕ → Past → Option Call
call_of i Past.Start = None
call_of i (Past.Then p k (events.Begin call)) = if i == k then Some call else call_of i p
call_of i (Past.Then p k (events.End steps answer)) = if i == k then None else call_of i p
call_of i (Past.Then p k e) = call_of i p

-- a Begin opens a call, and an End closes it
abbrev pub opened_by : Event → Bool → Bool
opened_by (events.Begin call) before = true
opened_by (events.End steps answer) before = false
opened_by event before = before

-- seat k is in a call
abbrev pub is_open : ℕ → Past → Bool
is_open k Start = false
is_open k (Then p i event) = if k == i then opened_by event (is_open k p) else is_open k p

-- the call that a seat began last
abbrev pub began_by : Event → Option Call → Option Call
began_by (events.Begin call) x = Some call
began_by event x = x

abbrev pub began_of : ℕ → Past → Option Call
began_of k Start = None
began_of k (Then p i event) = if k == i then began_by event (began_of k p) else began_of k p

-- what it has told of the map, of the queue, of copies and of lists since
abbrev pub with_told : Event → List Event → List Event
with_told (events.Begin call) before = []
with_told (events.Got bucket version key value) before = before ++ events.Got bucket version key value ∷ []
with_told (events.Put bucket version key value) before = before ++ events.Put bucket version key value ∷ []
with_told (events.Removed bucket version key) before = before ++ events.Removed bucket version key ∷ []
with_told (events.Queued number value) before = before ++ events.Queued number value ∷ []
with_told (events.Taken number value) before = before ++ events.Taken number value ∷ []
with_told (events.Copied from index slot) before = before ++ events.Copied from index slot ∷ []
with_told (events.Left count) before = before ++ events.Left count ∷ []
with_told (events.Adopted place count) before = before ++ events.Adopted place count ∷ []
with_told event before = before

abbrev pub told_of : ℕ → Past → List Event
told_of k Start = []
told_of k (Then p i event) = if k == i then with_told event (told_of k p) else told_of k p

-- the call of seat i has told an event of this kind
abbrev pub has_told : ℕ → (Event → Bool) → Past → Bool
has_told i kind p = nat_lt 0 (told_since (begins i) (own i kind) p)

-- What stands at the indexes of a seat, and whether its call has found its root.

abbrev pub is_row : ℕ → Option ℕ → Bool
is_row s None = false
is_row s (Some slot) = s == slot

abbrev pub is_empty : List ℕ → Bool
is_empty [] = true
is_empty (slot ∷ slots) = false

-- the rows without this one
abbrev pub without_row : ℕ → List ℕ → List ℕ
without_row slot [] = []
without_row slot (other ∷ rows) = if slot == other then without_row slot rows else other ∷ without_row slot rows

-- the row is one of these
abbrev pub is_one_of : ℕ → List ℕ → Bool
is_one_of slot [] = false
is_one_of slot (other ∷ rows) = (slot == other) || is_one_of slot rows

-- what an event of a seat makes of the rows that stand at its index j: a Held or a Copied adds its row, whatever stands there, and a
-- Clear takes its own row away, and no other
abbrev pub standing_by : ℕ → Event → List ℕ → List ℕ
standing_by j (events.Held index slot steps) rows = if j == index then slot ∷ rows else rows
standing_by j (events.Copied from index slot) rows = if j == index then slot ∷ rows else rows
standing_by j (events.Clear index slot) rows = if j == index then without_row slot rows else rows
standing_by j event rows = rows

-- the rows that stand at index j of seat k
abbrev pub standing_of : ℕ → ℕ → Past → List ℕ
standing_of k j Start = []
standing_of k j (Then p i e) = if k == i then standing_by j e (standing_of k j p) else standing_of k j p

-- row s stands at index j of seat k: the seat told Held of it there, or Copied, and since then no Clear of it there
abbrev pub stands : (k j s : ℕ) → Past → Bool
stands k j s p = is_one_of s (standing_of k j p)

-- no row stands there
abbrev pub is_bare : ℕ → ℕ → Past → Bool
is_bare k j p = is_empty (standing_of k j p)

-- What stands where one row does at most, as it is in each history: the row told last.

-- what an event of a seat makes of what stood at its index j
abbrev pub stood_by : ℕ → Event → Option ℕ → Option ℕ
stood_by j (events.Held index slot steps) x = if j == index then Some slot else x
stood_by j (events.Copied from index slot) x = if j == index then Some slot else x
stood_by j (events.Clear index slot) x = if j == index then None else x
stood_by j event x = x

-- what stands at index j of seat k: what it told to hold there last and not to clear since
abbrev pub stood_at : ℕ → ℕ → Past → Option ℕ
stood_at k j Start = None
stood_at k j (Then p i e) = if k == i then stood_by j e (stood_at k j p) else stood_at k j p

abbrev pub is_dequeue : Option Call → Bool
is_dequeue (Some calls.Dequeue) = true
is_dequeue call = false

-- the calls that look for a root at index 0: all that work on a bucket or on the queue, but a hold
abbrev pub has_root : Option Call → Bool
has_root (Some (calls.Get key)) = true
has_root (Some (calls.Put key value)) = true
has_root (Some (calls.Remove key)) = true
has_root (Some (calls.PutIf key value version)) = true
has_root (Some (calls.Enqueue value)) = true
has_root (Some calls.Dequeue) = true
has_root call = false

-- a call has found its root: it told at index 0 that a row stands, or that there is none
abbrev pub rooted_by : Event → Bool → Bool
rooted_by (events.Begin call) before = false
rooted_by (events.Held index slot steps) before = (index == 0) || before
rooted_by (events.Null index steps) before = (index == 0) || before
rooted_by event before = before

-- so has the call that seat i began last
abbrev pub rooted_of : ℕ → Past → Bool
rooted_of i p = seen rooted_by false i p

-- a call has found none at its root: of what it told at index 0, the last was that there is none
abbrev pub null_by : Event → Bool → Bool
null_by (events.Begin call) before = false
null_by (events.Held index slot steps) before = if index == 0 then false else before
null_by (events.Null index steps) before = if index == 0 then true else before
null_by event before = before

-- so has the call that seat i began last
abbrev pub null_of : ℕ → Past → Bool
null_of i p = seen null_by false i p

-- the row of the call's root was found, or that there is none
abbrev pub finds_root : Event → Bool
finds_root (events.Held index slot steps) = index == 0
finds_root (events.Null index steps) = index == 0
finds_root event = false

-- an index is protected, or found null
abbrev pub is_found : Event → Bool
is_found (events.Held index slot steps) = true
is_found (events.Null index steps) = true
is_found event = false

-- how often the call of seat i has told so
abbrev pub finds_of : ℕ → Past → ℕ
finds_of i p = told_since (begins i) (own i finds_root) p

-- Rows: which are taken, with which life, and which one a call was given.

abbrev pub is_give : Event → Bool
is_give (events.Give slot birth) = true
is_give event = false

-- a row is taken from its Give on, until it is told Unused or Back
abbrev pub taken_by : ℕ → Event → Bool → Bool
taken_by s (events.Give slot birth) before = if s == slot then true else before
taken_by s (events.Unused slot) before = if s == slot then false else before
taken_by s (events.Back slot) before = if s == slot then false else before
taken_by s event before = before

-- the dummy of the queue, whose number is the number of slots, is taken before the first entry
abbrev pub taken_at : (slots s : ℕ) → Past → Bool
taken_at slots s Start = s == slots
taken_at slots s (Then p i event) = taken_by s event (taken_at slots s p)

-- the row was taken at a position of the call of seat i, from its beginning on
abbrev pub was_taken : (slots i s : ℕ) → Past → Bool
was_taken slots i s p = held_since (begins i) (taken_at slots s) p

-- a call begins, a guard is read, or a row goes back
abbrev pub is_mark : Event → Bool
is_mark (events.Begin call) = true
is_mark (events.Read guard span) = true
is_mark (events.Saw guard slot) = true
is_mark (events.Back slot) = true
is_mark event = false

-- the row was taken at a position after the last such entry of seat i
abbrev pub taken_since : (slots i s : ℕ) → Past → Bool
taken_since slots i s p = held_since (own i is_mark) (taken_at slots s) p

-- the row was given before, or is the dummy, whose number is the number of slots
abbrev pub was_given_by : ℕ → Event → Bool → Bool
was_given_by s (events.Give slot birth) before = if s == slot then true else before
was_given_by s event before = before

abbrev pub was_given : (slots : ℕ) → ℕ → Past → Bool
was_given slots s Start = s == slots
was_given slots s (Then p i event) = was_given_by s event (was_given slots s p)

-- a row has the birth era of its last Give, and the dummy of the queue 1 before it
abbrev pub born_by : ℕ → Event → ℕ → ℕ
born_by s (events.Give slot birth) x = if s == slot then birth else x
born_by s event x = x

abbrev pub birth_of : ℕ → Past → ℕ
birth_of s Start = 1
birth_of s (Then p i event) = born_by s event (birth_of s p)

-- it has the retire era of its Retire since then, and 0, which stands for none, before that
abbrev pub ended_by : ℕ → Event → ℕ → ℕ
ended_by s (events.Give slot birth) x = if s == slot then 0 else x
ended_by s (events.Retire slot birth retire) x = if s == slot then retire else x
ended_by s event x = x

abbrev pub retire_of : ℕ → Past → ℕ
retire_of s Start = 0
retire_of s (Then p i event) = ended_by s event (retire_of s p)

abbrev pub life_at : ℕ → Past → Lifetime
life_at s p = record { slot = s; birth = birth_of s p; retire = retire_of s p }

-- what a call has done of rows. `Without`: none was given to it; `InHand`: this row was, and is neither linked nor given up;
-- `Placed`: its row was linked or given up
pub data Given : Type 0 where
  Without : Given
  InHand : (slot : ℕ) → Given
  Placed : Given

-- a Give puts a row in hand; an Unused, and a Link to a bucket's root or to a next link, places it
abbrev pub given_by : Event → Given → Given
given_by (events.Begin call) before = Without
given_by (events.Give slot birth) before = InHand slot
given_by (events.Unused slot) before = Placed
given_by (events.Link (roots.Bucket bucket) slot) before = Placed
given_by (events.Link (roots.Next parent) slot) before = Placed
given_by event before = before

-- of the call that seat i began last
abbrev pub given_of : ℕ → Past → Given
given_of i p = seen given_by Without i p

-- Rows on their way out: cut, retired, and on a seat's list.

-- a list without the first entry of this slot
abbrev pub without_one : ℕ → List ℕ → List ℕ
without_one slot [] = []
without_one slot (other ∷ slots) = if other == slot then slots else other ∷ without_one slot slots

abbrev pub is_among : ℕ → List ℕ → Bool
is_among slot [] = false
is_among slot (other ∷ slots) = (other == slot) || is_among slot slots

-- the row is cut
abbrev pub cuts : (slot : ℕ) → Event → Bool
cuts s (events.Cut slot) = s == slot
cuts s event = false

-- the rows that a call has cut and not retired: a Cut adds one, a Retire takes one away
abbrev pub cuts_by : Event → List ℕ → List ℕ
cuts_by (events.Begin call) before = []
cuts_by (events.Cut slot) before = slot ∷ before
cuts_by (events.Retire slot birth retire) before = without_one slot before
cuts_by event before = before

-- of the call that seat i began last
abbrev pub cuts_of : ℕ → Past → List ℕ
cuts_of i p = seen cuts_by [] i p

-- a seat has cut a row and not retired it since
abbrev pub cut_by : ℕ → Event → Bool → Bool
cut_by s (events.Cut slot) before = if s == slot then true else before
cut_by s (events.Retire slot birth retire) before = if s == slot then false else before
cut_by s event before = before

abbrev pub cut_at : ℕ → ℕ → Past → Bool
cut_at i s Start = false
cut_at i s (Then p k event) = if i == k then cut_by s event (cut_at i s p) else cut_at i s p

-- seat i has told the row's cut
abbrev pub has_cut : (seat row : ℕ) → Past → Bool
has_cut i s Start = false
has_cut i s (Then p k event) = if i == k then cuts s event || has_cut i s p else has_cut i s p

-- a call has told a change of the map or of the queue, or a link that is not to the tail
abbrev pub changed_by : Event → Bool → Bool
changed_by (events.Begin call) before = false
changed_by (events.Put bucket version key value) before = true
changed_by (events.Removed bucket version key) before = true
changed_by (events.Queued number value) before = true
changed_by (events.Taken number value) before = true
changed_by (events.Link (roots.Bucket bucket) slot) before = true
changed_by (events.Link (roots.Next parent) slot) before = true
changed_by (events.Link roots.Head slot) before = true
changed_by event before = before

abbrev pub changed_of : ℕ → Past → Bool
changed_of i p = seen changed_by false i p

-- the event retires a row
abbrev pub is_retire : Event → Bool
is_retire (events.Retire slot birth retire) = true
is_retire event = false

-- how many rows a call has retired
abbrev pub retires_by : Event → ℕ → ℕ
retires_by (events.Begin call) before = 0
retires_by (events.Retire slot birth retire) before = before + 1
retires_by event before = before

abbrev pub retires_of : ℕ → Past → ℕ
retires_of i p = seen retires_by 0 i p

-- the event changes the map, or takes a value of the queue
abbrev pub takes_out : Event → Bool
takes_out (events.Put bucket version key value) = true
takes_out (events.Removed bucket version key) = true
takes_out (events.Taken number value) = true
takes_out event = false

-- how many rows a seat has retired in all its calls
abbrev pub total_retires : ℕ → Past → ℕ
total_retires i p = count (λ q k event. is_retire event && i == k) p

-- a row is retired from its Retire on, until it is told Back
abbrev pub retired_by : ℕ → Event → Bool → Bool
retired_by s (events.Retire slot birth retire) before = if s == slot then true else before
retired_by s (events.Back slot) before = if s == slot then false else before
retired_by s event before = before

abbrev pub retired_at : ℕ → Past → Bool
retired_at s Start = false
retired_at s (Then p i event) = retired_by s event (retired_at s p)

-- Links: the roots of the buckets, head and tail, and the next rows.

-- the row of a bucket's root: the one that was linked there last, and none before the first
abbrev pub bucket_by : ℕ → Event → Option ℕ → Option ℕ
bucket_by b (events.Link (roots.Bucket bucket) slot) before = if b == bucket then Some slot else before
bucket_by b event before = before

abbrev pub bucket_at : ℕ → Past → Option ℕ
bucket_at b Start = None
bucket_at b (Then p i event) = bucket_by b event (bucket_at b p)

-- the row of the head: the one that was linked there last, and before the first the dummy, whose number is the number of slots
abbrev pub head_by : Event → ℕ → ℕ
head_by (events.Link roots.Head slot) before = slot
head_by event before = before

abbrev pub head_at : (slots : ℕ) → Past → ℕ
head_at slots Start = slots
head_at slots (Then p i event) = head_by event (head_at slots p)

-- the row of the tail: the one that was linked there last, and before the first the dummy
abbrev pub tail_by : Event → ℕ → ℕ
tail_by (events.Link roots.Tail slot) before = slot
tail_by event before = before

abbrev pub tail_at : (slots : ℕ) → Past → ℕ
tail_at slots Start = slots
tail_at slots (Then p i event) = tail_by event (tail_at slots p)

-- how often the tail was linked
abbrev pub tails_by : Event → ℕ → ℕ
tails_by (events.Link roots.Tail slot) before = before + 1
tails_by event before = before

abbrev pub tails_of : Past → ℕ
tails_of Start = 0
tails_of (Then p i event) = tails_by event (tails_of p)

-- the row of the next link of row s: the one that was linked there last, and none where s was given since
abbrev pub next_by : ℕ → Event → Option ℕ → Option ℕ
next_by s (events.Link (roots.Next parent) slot) before = if s == parent then Some slot else before
next_by s (events.Give slot birth) before = if s == slot then None else before
next_by s event before = before

abbrev pub next_at : ℕ → Past → Option ℕ
next_at s Start = None
next_at s (Then p i event) = next_by s event (next_at s p)

-- Guards, and what they publish.

abbrev pub same_guard : Guard → Guard → Bool
same_guard (Helper a) (Helper b) = a == b
same_guard (Index a i) (Index b j) = a == b && i == j
same_guard (Whole a) (Whole b) = a == b
same_guard a b = false

abbrev pub seat_of : Guard → ℕ
seat_of (Helper seat) = seat
seat_of (Index seat index) = seat
seat_of (Whole seat) = seat

abbrev pub is_index : Guard → Bool
is_index (Helper seat) = false
is_index (Index seat index) = true
is_index (Whole seat) = false

-- the guard is this index word
abbrev pub is_index_word : (seat index : ℕ) → Guard → Bool
is_index_word i j (Index k m) = k == i && m == j
is_index_word i j guard = false

-- the guard is this helper word
abbrev pub is_helper : (seat : ℕ) → Guard → Bool
is_helper i (Helper k) = k == i
is_helper i guard = false

-- the guard is this interval word
abbrev pub is_whole : (seat : ℕ) → Guard → Bool
is_whole i (Whole k) = k == i
is_whole i guard = false

abbrev pub same_span : Option Interval → Option Interval → Bool
same_span None None = true
same_span (Some a) (Some b) = a.lo == b.lo && a.hi == b.hi
same_span a b = false

-- a guard publishes what was reserved last, whichever seat told it, and nothing before
abbrev pub reserved_by : Guard → Event → Option Interval → Option Interval
reserved_by guard (events.Reserve other span) x = if same_guard guard other then span else x
reserved_by guard event x = x

abbrev pub value_of : Guard → Past → Option Interval
value_of guard Start = None
value_of guard (Then p i event) = reserved_by guard event (value_of guard p)

-- under hazard pointers a guard publishes the row of its last Hazard, whichever seat told it, and nothing before
abbrev pub hazard_by : Guard → Event → Option ℕ → Option ℕ
hazard_by guard (events.Hazard other slot) before = if same_guard guard other then slot else before
hazard_by guard event before = before

abbrev pub hazard_of : Guard → Past → Option ℕ
hazard_of guard Start = None
hazard_of guard (Then p i event) = hazard_by guard event (hazard_of guard p)

-- what a guard publishes under a scheme: a row, or an interval
abbrev pub published_at : SchemeKind → Guard → Past → Shown
published_at scheme guard p = if publishes_rows scheme then shown_row (hazard_of guard p) else shown (value_of guard p)

-- whether the helper word publishes after an event of its seat
abbrev pub shown_by : (seat : ℕ) → Event → Bool → Bool
shown_by i (events.Reserve guard span) before = if is_helper i guard then is_some span else before
shown_by i event before = before

-- whether the last that seat i told of its helper word is an interval
abbrev pub shown_of : (seat : ℕ) → Past → Bool
shown_of i Start = false
shown_of i (Then p k event) = if i == k then shown_by i event (shown_of i p) else shown_of i p

-- an interval is one more, none begins anew
abbrev pub one_more : Option Interval → ℕ → ℕ
one_more None before = 0
one_more (Some span) before = before + 1

abbrev pub reserves_by : (seat index : ℕ) → Event → ℕ → ℕ
reserves_by i j (events.Reserve guard span) before = if is_index_word i j guard then one_more span before else before
reserves_by i j event before = before

-- how many intervals seat i has told of its index word j since it told none
abbrev pub reserves_of : (seat index : ℕ) → Past → ℕ
reserves_of i j Start = 0
reserves_of i j (Then p k event) = if i == k then reserves_by i j event (reserves_of i j p) else reserves_of i j p

-- an era that follows another is later
abbrev pub era_grows : Option Interval → Option Interval → Bool
era_grows None span = true
era_grows (Some old) None = true
era_grows (Some old) (Some span) = nat_lt old.hi span.hi

-- an interval is later than the one before it, and so were those before; none begins anew
abbrev pub rises_on : (last span : Option Interval) → (before : Bool) → Bool
rises_on last None before = true
rises_on last (Some span) before = era_grows last (Some span) && before

abbrev pub rising_by : (seat index : ℕ) → (last : Option Interval) → Event → (before : Bool) → Bool
rising_by i j last (events.Reserve guard span) before = if is_index_word i j guard then rises_on last span before else before
rising_by i j last event before = before

-- the eras that index word j of seat i has published since it published nothing rose, whoever told them
abbrev pub rising_of : (seat index : ℕ) → Past → Bool
rising_of i j Start = true
rising_of i j (Then p k event) = rising_by i j (value_of (Index i j) p) event (rising_of i j p)

-- an interval is one more; none, what a protection ends with, and a copy, which is no protection, begin anew
abbrev pub tried_by : (seat index : ℕ) → Event → ℕ → ℕ
tried_by i j (events.Reserve guard span) before = if is_index_word i j guard then one_more span before else before
tried_by i j (events.Held index slot steps) before = if index == j then 0 else before
tried_by i j (events.Null index steps) before = if index == j then 0 else before
tried_by i j (events.Copied from index slot) before = if index == j then 0 else before
tried_by i j event before = before

-- how often seat i has published its index word j in the protection that is under way there: since it published nothing, and since
-- Held or Null was told there
abbrev pub tried_of : (seat index : ℕ) → Past → ℕ
tried_of i j Start = 0
tried_of i j (Then p k event) = if i == k then tried_by i j event (tried_of i j p) else tried_of i j p

-- none, what a protection ends with, and a copy begin anew
abbrev pub own_last_by : (seat index : ℕ) → Event → Option Interval → Option Interval
own_last_by i j (events.Reserve guard span) before = if is_index_word i j guard then span else before
own_last_by i j (events.Held index slot steps) before = if index == j then None else before
own_last_by i j (events.Null index steps) before = if index == j then None else before
own_last_by i j (events.Copied from index slot) before = if index == j then None else before
own_last_by i j event before = before

-- what seat i itself told last that its index word j publishes, in the protection that is under way there
abbrev pub own_last_of : (seat index : ℕ) → Past → Option Interval
own_last_of i j Start = None
own_last_of i j (Then p k event) = if i == k then own_last_by i j event (own_last_of i j p) else own_last_of i j p

abbrev pub own_rising_by : (seat index : ℕ) → (last : Option Interval) → Event → (before : Bool) → Bool
own_rising_by i j last (events.Reserve guard span) before = if is_index_word i j guard then rises_on last span before else before
own_rising_by i j last (events.Held index slot steps) before = if index == j then true else before
own_rising_by i j last (events.Null index steps) before = if index == j then true else before
own_rising_by i j last (events.Copied from index slot) before = if index == j then true else before
own_rising_by i j last event before = before

-- the eras that seat i itself has told of its index word j in that protection rose
abbrev pub own_rising_of : (seat index : ℕ) → Past → Bool
own_rising_of i j Start = true
own_rising_of i j (Then p k event) = if i == k then own_rising_by i j (own_last_of i j p) event (own_rising_of i j p) else own_rising_of i j p

abbrev pub last_by : Event → ℕ → ℕ
last_by (events.Held index slot steps) before = index
last_by (events.Null index steps) before = index
last_by event before = before

-- the index of the last Held or Null of seat i
abbrev pub last_of : (seat : ℕ) → Past → ℕ
last_of i Start = 0
last_of i (Then p k event) = if i == k then last_by event (last_of i p) else last_of i p

-- whether the interval word publishes after an event of its seat
abbrev pub spanned_by : (seat : ℕ) → Event → Bool → Bool
spanned_by i (events.Reserve guard span) before = if is_whole i guard then is_some span else before
spanned_by i event before = before

-- whether the last that seat i told of its interval word is an interval
abbrev pub spanned_of : (seat : ℕ) → Past → Bool
spanned_of i Start = false
spanned_of i (Then p k event) = if i == k then spanned_by i event (spanned_of i p) else spanned_of i p

-- a row is one more, none begins anew
abbrev pub one_hazard : Option ℕ → ℕ → ℕ
one_hazard None before = 0
one_hazard (Some slot) before = before + 1

abbrev pub hazards_by : (seat index : ℕ) → Event → ℕ → ℕ
hazards_by i j (events.Hazard guard slot) before = if is_index_word i j guard then one_hazard slot before else before
hazards_by i j event before = before

-- how many rows seat i has told of its index word j since it told none
abbrev pub hazards_of : (seat index : ℕ) → Past → ℕ
hazards_of i j Start = 0
hazards_of i j (Then p k event) = if i == k then hazards_by i j event (hazards_of i j p) else hazards_of i j p

-- what a protection ends with, and a copy, which is no protection, begin anew
abbrev pub own_hazard_by : (seat index : ℕ) → Event → Option ℕ → Option ℕ
own_hazard_by i j (events.Hazard guard slot) before = if is_index_word i j guard then slot else before
own_hazard_by i j (events.Held index slot steps) before = if index == j then None else before
own_hazard_by i j (events.Null index steps) before = if index == j then None else before
own_hazard_by i j (events.Copied from index slot) before = if index == j then None else before
own_hazard_by i j event before = before

-- the row that seat i told last of its index word j, in the protection that is under way there
abbrev pub own_hazard_of : (seat index : ℕ) → Past → Option ℕ
own_hazard_of i j Start = None
own_hazard_of i j (Then p k event) = if i == k then own_hazard_by i j event (own_hazard_of i j p) else own_hazard_of i j p

-- an interval that comes while one is published is one more; a call, a protection's end and a Clear begin anew
abbrev pub raised_by : (seat : ℕ) → Event → (spanned : Bool) → ℕ → ℕ
raised_by i (events.Begin call) spanned before = 0
raised_by i (events.Held index slot steps) spanned before = 0
raised_by i (events.Null index steps) spanned before = 0
raised_by i (events.Clear index slot) spanned before = 0
raised_by i (events.Reserve guard span) spanned before = if is_whole i guard && (spanned && is_some span) then before + 1 else before
raised_by i event spanned before = before

-- how often seat i has raised its interval since its last Begin, Held, Null or Clear
abbrev pub raised_of : (seat : ℕ) → Past → ℕ
raised_of i Start = 0
raised_of i (Then p k event) = if i == k then raised_by i event (spanned_of i p) (raised_of i p) else raised_of i p

-- Scans: what a seat has read, and what went back.

abbrev pub is_read : Event → Bool
is_read (events.Read guard span) = true
is_read (events.Saw guard slot) = true
is_read event = false

abbrev pub is_back : Event → Bool
is_back (events.Back slot) = true
is_back event = false

-- the entries that scans tell
abbrev pub is_scan : Event → Bool
is_scan (events.Read guard span) = true
is_scan (events.Saw guard slot) = true
is_scan (events.Back slot) = true
is_scan event = false

-- the last entry of the seat is one of them
abbrev pub scans_of : ℕ → Past → Bool
scans_of i Start = false
scans_of i (Then p k event) = if i == k then is_scan event else scans_of i p

-- what a seat has read of its block: after a whole block, of `all` guards, the next one begins
abbrev pub with_read : (all : ℕ) → Seen → List Seen → List Seen
with_read all seen read = (if length read == all then [] else read) ++ seen ∷ []

abbrev pub read_by : ℕ → Event → List Seen → List Seen
read_by all (events.Read guard span) read = with_read all (guard, shown span) read
read_by all (events.Saw guard slot) read = with_read all (guard, shown_row slot) read
read_by all event read = read

abbrev pub read_of : ℕ → ℕ → Past → List Seen
read_of all i Start = []
read_of all i (Then p k event) = if i == k then read_by all event (read_of all i p) else read_of all i p

-- how many rows a seat has told back since its last call began
abbrev pub backs_by : Event → ℕ → ℕ
backs_by (events.Begin call) before = 0
backs_by (events.Back slot) before = before + 1
backs_by event before = before

abbrev pub backs_of : (seat : ℕ) → Past → ℕ
backs_of i Start = 0
backs_of i (Then p k event) = if i == k then backs_by event (backs_of i p) else backs_of i p

-- The clock.

-- the clock is 1 plus the number of Era entries
abbrev pub ticked_by : Event → ℕ → ℕ
ticked_by (events.Era era) clock = clock + 1
ticked_by event clock = clock

abbrev pub clock_of : Past → ℕ
clock_of Start = 1
clock_of (Then p i event) = ticked_by event (clock_of p)

-- the era was the clock at a position after the last entry that passes the test, the one right after it and the present one included
abbrev pub was_clock : Test → (era : ℕ) → Past → Bool
was_clock test era p = held_since test (λ (q : Past). clock_of q == era) p
