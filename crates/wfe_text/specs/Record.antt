-- The text of a record's lines.
use Rattle.std.specs.Prelude.{Bool, true, false, ℕ, List, [], ◌∷◌, ◌++◌, Option, Some, None, codes}
use Rattle.std.specs.Fmt.{decimal}
use Rattle.wfe_words.specs.declared.config.Config.{Config}
use Rattle.wfe_words.specs.declared.config.SchemeKind.{SchemeKind}
use Rattle.wfe_words.specs.declared.config.SchemeKind.TheVariants as schemes
use Rattle.wfe_defs.specs.declared.lifetime.Interval.{Interval}
use Rattle.wfe_defs.specs.declared.event.Guard.{Guard}
use Rattle.wfe_defs.specs.declared.event.Guard.TheVariants as guards
use Rattle.wfe_defs.specs.declared.event.Root.{Root}
use Rattle.wfe_defs.specs.declared.event.Root.TheVariants as roots
use Rattle.wfe_defs.specs.declared.call.ClockMove.{ClockMove}
use Rattle.wfe_defs.specs.declared.call.ClockMove.TheVariants as clocks
use Rattle.wfe_defs.specs.declared.call.Call.{Call}
use Rattle.wfe_defs.specs.declared.call.Call.TheVariants as calls
use Rattle.wfe_defs.specs.declared.call.Answer.{Answer}
use Rattle.wfe_defs.specs.declared.call.Answer.TheVariants as answers
use Rattle.wfe_defs.specs.declared.event.Event.{Event}
use Rattle.wfe_defs.specs.declared.event.Event.TheVariants as events

-- each word after a space
abbrev pub spaced : List (List ℕ) → List ℕ
spaced [] = []
spaced (w ∷ ws) = (32 ∷ w) ++ spaced ws

-- a line: its words separated by single spaces, and a line feed
abbrev pub line_of : List ℕ → List (List ℕ) → List ℕ
line_of first others = first ++ spaced others ++ codes "\n"

-- a guard: the helper word, an index word or the interval word of a seat
abbrev pub guard_word : Guard → List ℕ
guard_word (guards.Helper seat) = codes "h" ++ decimal seat
guard_word (guards.Index seat index) = codes "i" ++ decimal seat ++ codes "." ++ decimal index
guard_word (guards.Whole seat) = codes "v" ++ decimal seat

-- what a guard publishes
abbrev pub span_words : Option Interval → List (List ℕ)
span_words None = codes "none" ∷ []
span_words (Some span) = decimal span.lo ∷ decimal span.hi ∷ []

abbrev pub value_words : Option ℕ → List (List ℕ)
value_words None = codes "none" ∷ []
value_words (Some value) = decimal value ∷ []

abbrev pub root_word : Root → List ℕ
root_word (roots.Bucket bucket) = codes "b" ++ decimal bucket
root_word roots.Head = codes "head"
root_word roots.Tail = codes "tail"
root_word (roots.Next slot) = codes "n" ++ decimal slot

abbrev pub clock_words : ClockMove → List (List ℕ)
clock_words clocks.Still = codes "still" ∷ []
clock_words (clocks.Moved era) = codes "moved" ∷ decimal era ∷ []
clock_words (clocks.Other seen) = codes "other" ∷ decimal seen ∷ []
clock_words (clocks.EraSpent era) = codes "era-spent" ∷ decimal era ∷ []

-- a call as in a trace, without its seat
abbrev pub call_words : Call → List (List ℕ)
call_words (calls.Get key) = codes "get" ∷ decimal key ∷ []
call_words (calls.Put key value) = codes "put" ∷ decimal key ∷ decimal value ∷ []
call_words (calls.Remove key) = codes "remove" ∷ decimal key ∷ []
call_words (calls.Enqueue value) = codes "enq" ∷ decimal value ∷ []
call_words calls.Dequeue = codes "deq" ∷ []
call_words (calls.Hold key) = codes "hold" ∷ decimal key ∷ []
call_words calls.Release = codes "release" ∷ []
call_words calls.Advance = codes "advance" ∷ []
call_words calls.Scan = codes "scan" ∷ []
call_words (calls.Copy from index) = codes "copy" ∷ decimal from ∷ decimal index ∷ []
call_words (calls.DropIndex index) = codes "drop" ∷ decimal index ∷ []
call_words (calls.Look index key) = codes "look" ∷ decimal index ∷ decimal key ∷ []
call_words (calls.PutIf key value version) = codes "put_if" ∷ decimal key ∷ decimal value ∷ decimal version ∷ []
call_words calls.Leave = codes "leave" ∷ []
call_words (calls.Adopt place) = codes "adopt" ∷ decimal place ∷ []

abbrev pub answer_words : Answer → List (List ℕ)
answer_words (answers.Got version value) = codes "got" ∷ decimal version ∷ value_words value
answer_words (answers.Done version clock) = codes "done" ∷ decimal version ∷ clock_words clock
answer_words (answers.Absent version) = codes "absent" ∷ decimal version ∷ []
answer_words answers.Full = codes "full" ∷ []
answer_words (answers.BucketFull version) = codes "bucket-full" ∷ decimal version ∷ []
answer_words (answers.Spent number) = codes "spent" ∷ decimal number ∷ []
answer_words (answers.Queued number) = codes "queued" ∷ decimal number ∷ []
answer_words (answers.Taken number value clock) = codes "taken" ∷ decimal number ∷ decimal value ∷ clock_words clock
answer_words answers.Empty = codes "empty" ∷ []
answer_words (answers.Holding slot) = codes "holding" ∷ decimal slot ∷ []
answer_words answers.Nothing = codes "nothing" ∷ []
answer_words answers.Released = codes "released" ∷ []
answer_words (answers.Clock outcome) = clock_words outcome
answer_words (answers.Scanned kept back) = codes "scanned" ∷ decimal kept ∷ decimal back ∷ []
answer_words (answers.Copied slot) = codes "copied" ∷ decimal slot ∷ []
answer_words answers.Dropped = codes "dropped" ∷ []
answer_words (answers.Looked slot version value) = codes "looked" ∷ decimal slot ∷ decimal version ∷ value_words value
answer_words (answers.Stale version) = codes "stale" ∷ decimal version ∷ []
answer_words (answers.Left count) = codes "left" ∷ decimal count ∷ []
answer_words (answers.Adopted count) = codes "adopted" ∷ decimal count ∷ []
answer_words answers.NotLeft = codes "not-left" ∷ []
answer_words answers.AdoptedBefore = codes "adopted-before" ∷ []

abbrev pub event_words : Event → List (List ℕ)
event_words (events.Begin call) = codes "begin" ∷ call_words call
event_words (events.End steps answer) = codes "end" ∷ decimal steps ∷ answer_words answer
event_words (events.Era era) = codes "era" ∷ decimal era ∷ []
event_words (events.Reserve guard span) = codes "reserve" ∷ guard_word guard ∷ span_words span
event_words (events.Read guard span) = codes "read" ∷ guard_word guard ∷ span_words span
event_words (events.Hazard guard slot) = codes "hazard" ∷ guard_word guard ∷ value_words slot
event_words (events.Saw guard slot) = codes "saw" ∷ guard_word guard ∷ value_words slot
event_words (events.Give slot birth) = codes "give" ∷ decimal slot ∷ decimal birth ∷ []
event_words (events.Unused slot) = codes "unused" ∷ decimal slot ∷ []
event_words (events.Link root slot) = codes "link" ∷ root_word root ∷ decimal slot ∷ []
event_words (events.Cut slot) = codes "cut" ∷ decimal slot ∷ []
event_words (events.Retire slot birth retire) = codes "retire" ∷ decimal slot ∷ decimal birth ∷ decimal retire ∷ []
event_words (events.Back slot) = codes "back" ∷ decimal slot ∷ []
event_words (events.Held index slot steps) = codes "held" ∷ decimal index ∷ decimal slot ∷ decimal steps ∷ []
event_words (events.Null index steps) = codes "null" ∷ decimal index ∷ decimal steps ∷ []
event_words (events.Clear index slot) = codes "clear" ∷ decimal index ∷ decimal slot ∷ []
event_words (events.Copied from index slot) = codes "copied" ∷ decimal from ∷ decimal index ∷ decimal slot ∷ []
event_words (events.Put bucket version key value) = codes "put" ∷ decimal bucket ∷ decimal version ∷ decimal key ∷ decimal value ∷ []
event_words (events.Removed bucket version key) = codes "removed" ∷ decimal bucket ∷ decimal version ∷ decimal key ∷ []
event_words (events.Got bucket version key value) = codes "got" ∷ decimal bucket ∷ decimal version ∷ decimal key ∷ value_words value
event_words (events.Queued number value) = codes "queued" ∷ decimal number ∷ decimal value ∷ []
event_words (events.Taken number value) = codes "taken" ∷ decimal number ∷ decimal value ∷ []
event_words (events.Left count) = codes "left" ∷ decimal count ∷ []
event_words (events.Adopted place count) = codes "adopted" ∷ decimal place ∷ decimal count ∷ []

-- an event of keys and values
abbrev pub tells_contents : Event → Bool
tells_contents (events.Put bucket version key value) = true
tells_contents (events.Removed bucket version key) = true
tells_contents (events.Got bucket version key value) = true
tells_contents (events.Queued number value) = true
tells_contents (events.Taken number value) = true
tells_contents _ = false

-- the line of an event of a seat
abbrev pub event_line : ℕ → Event → List ℕ
event_line seat event = line_of (decimal seat) (event_words event)

-- the seat of a line of counts, or that it has the sums of all
abbrev pub seat_word : Option ℕ → List ℕ
seat_word None = codes "all"
seat_word (Some seat) = decimal seat

-- the line of counts: how many rows were retired, how many went back, and how many wait
abbrev pub table_line : Option ℕ → ℕ → ℕ → ℕ → List ℕ
table_line seat retired back waiting =
    line_of (codes "table") (seat_word seat ∷ codes "retired" ∷ decimal retired ∷ codes "back" ∷ decimal back ∷ codes "waiting" ∷ decimal waiting ∷ [])

-- the line of a watcher's row: the watcher's place, and the row's three numbers
abbrev pub watch_line : ℕ → ℕ → ℕ → ℕ → List ℕ
watch_line place a b c = line_of (codes "watch") (decimal place ∷ decimal a ∷ decimal b ∷ decimal c ∷ [])

-- the line of a summary: a name and its number
abbrev pub count_line : List ℕ → ℕ → List ℕ
count_line name number = line_of name (decimal number ∷ [])

abbrev pub scheme_word : SchemeKind → List ℕ
scheme_word schemes.He = codes "he"
scheme_word schemes.Ibr = codes "ibr"
scheme_word schemes.Wfe = codes "wfe"
scheme_word schemes.Hp = codes "hp"

-- a setting; the pairs in a row follow from the version
abbrev pub setting_words : Config → List (List ℕ)
setting_words config =
    scheme_word config.scheme ∷ decimal config.seats ∷ decimal config.indexes ∷ decimal config.slots ∷ decimal config.buckets
    ∷ decimal config.tries ∷ decimal config.every ∷ decimal config.last_era ∷ decimal config.last_version ∷ []

-- the first line of a record
abbrev pub header_line : ℕ → Config → List ℕ
header_line version config = line_of (codes "record") (decimal version ∷ setting_words config)
