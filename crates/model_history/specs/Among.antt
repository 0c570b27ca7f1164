-- Lines that stand among those of a record, in this order.
use Rattle.std.specs.Prelude.{ℕ, ◌==◌, ◌&&◌, Bool, true, false, List, [], ◌∷◌, ◌++◌, Option, Some, None}
use Rattle.wfe_core.specs.words.declared.config.SchemeKind.{SchemeKind}
use Rattle.wfe_core.specs.words.declared.layout.Layout.{Layout}
use Rattle.wfe_core.specs.defs.declared.call.Answer.{Answer}
use Rattle.wfe_core.specs.defs.declared.call.Answer.TheVariants as answers
use Rattle.wfe_core.specs.defs.declared.call.Call.{Call}
use Rattle.wfe_core.specs.defs.declared.call.Call.TheVariants as calls
use Rattle.wfe_core.specs.defs.declared.call.ClockMove.{ClockMove}
use Rattle.wfe_core.specs.defs.declared.call.ClockMove.TheVariants as moves
use Rattle.wfe_core.specs.defs.declared.event.Event.{Event}
use Rattle.wfe_core.specs.defs.declared.event.Event.TheVariants as events
use Rattle.wfe_core.specs.defs.declared.event.Guard.{Guard}
use Rattle.wfe_core.specs.defs.declared.event.Guard.TheVariants as guards
use Rattle.wfe_core.specs.defs.declared.event.Root.{Root}
use Rattle.wfe_core.specs.defs.declared.event.Root.TheVariants as roots
use Rattle.wfe_core.specs.defs.declared.lifetime.Interval.{Interval}
use Rattle.wfe_core.specs.defs.Entry.{Entry}
use Rattle.model_record.specs.Record.{Past}
use Rattle.model_record.specs.Record.Past.{Start, Then}
use Rattle.model_history.specs.History.{Item, Begins, times}

-- each event as its kind's number and its parts
abbrev guard_code : Guard → List ℕ
guard_code (guards.Helper seat) = 0 ∷ seat ∷ []
guard_code (guards.Index seat index) = 1 ∷ seat ∷ index ∷ []
guard_code (guards.Whole seat) = 2 ∷ seat ∷ []

abbrev span_code : Option Interval → List ℕ
span_code None = 0 ∷ []
span_code (Some span) = 1 ∷ span.lo ∷ span.hi ∷ []

abbrev root_code : Root → List ℕ
root_code (roots.Bucket bucket) = 0 ∷ bucket ∷ []
root_code roots.Head = 1 ∷ []
root_code roots.Tail = 2 ∷ []
root_code (roots.Next slot) = 3 ∷ slot ∷ []

abbrev clock_code : ClockMove → List ℕ
clock_code moves.Still = 0 ∷ []
clock_code (moves.Moved era) = 1 ∷ era ∷ []
clock_code (moves.Other seen) = 2 ∷ seen ∷ []
clock_code (moves.EraSpent era) = 3 ∷ era ∷ []

abbrev value_code : Option ℕ → List ℕ
value_code None = 0 ∷ []
value_code (Some value) = 1 ∷ value ∷ []

abbrev call_code : Call → List ℕ
call_code (calls.Get key) = 0 ∷ key ∷ []
call_code (calls.Put key value) = 1 ∷ key ∷ value ∷ []
call_code (calls.Remove key) = 2 ∷ key ∷ []
call_code (calls.Enqueue value) = 3 ∷ value ∷ []
call_code calls.Dequeue = 4 ∷ []
call_code (calls.Hold key) = 5 ∷ key ∷ []
call_code calls.Release = 6 ∷ []
call_code calls.Advance = 7 ∷ []
call_code calls.Scan = 8 ∷ []
call_code (calls.Copy from index) = 9 ∷ from ∷ index ∷ []
call_code (calls.DropIndex index) = 10 ∷ index ∷ []
call_code (calls.Look index key) = 11 ∷ index ∷ key ∷ []
call_code (calls.PutIf key value version) = 12 ∷ key ∷ value ∷ version ∷ []
call_code calls.Leave = 13 ∷ []
call_code (calls.Adopt place) = 14 ∷ place ∷ []

abbrev answer_code : Answer → List ℕ
answer_code (answers.Got version value) = 0 ∷ version ∷ value_code value
answer_code (answers.Done version clock) = 1 ∷ version ∷ clock_code clock
answer_code (answers.Absent version) = 2 ∷ version ∷ []
answer_code answers.Full = 3 ∷ []
answer_code (answers.BucketFull version) = 4 ∷ version ∷ []
answer_code (answers.Spent number) = 5 ∷ number ∷ []
answer_code (answers.Queued number) = 6 ∷ number ∷ []
answer_code (answers.Taken number value clock) = 7 ∷ number ∷ value ∷ clock_code clock
answer_code answers.Empty = 8 ∷ []
answer_code (answers.Holding slot) = 9 ∷ slot ∷ []
answer_code answers.Nothing = 10 ∷ []
answer_code answers.Released = 11 ∷ []
answer_code (answers.Clock outcome) = 12 ∷ clock_code outcome
answer_code (answers.Scanned kept back) = 13 ∷ kept ∷ back ∷ []
answer_code (answers.Copied slot) = 14 ∷ slot ∷ []
answer_code answers.Dropped = 15 ∷ []
answer_code (answers.Looked slot version value) = 16 ∷ slot ∷ version ∷ value_code value
answer_code (answers.Stale version) = 17 ∷ version ∷ []
answer_code (answers.Left count) = 18 ∷ count ∷ []
answer_code (answers.Adopted count) = 19 ∷ count ∷ []
answer_code answers.NotLeft = 20 ∷ []
answer_code answers.AdoptedBefore = 21 ∷ []

abbrev event_code : Event → List ℕ
event_code (events.Begin call) = 0 ∷ call_code call
event_code (events.End steps answer) = 1 ∷ steps ∷ answer_code answer
event_code (events.Era era) = 2 ∷ era ∷ []
event_code (events.Reserve guard span) = 3 ∷ guard_code guard ++ span_code span
event_code (events.Read guard span) = 4 ∷ guard_code guard ++ span_code span
event_code (events.Give slot birth) = 5 ∷ slot ∷ birth ∷ []
event_code (events.Unused slot) = 6 ∷ slot ∷ []
event_code (events.Link root slot) = 7 ∷ slot ∷ root_code root
event_code (events.Cut slot) = 8 ∷ slot ∷ []
event_code (events.Retire slot birth retire) = 9 ∷ slot ∷ birth ∷ retire ∷ []
event_code (events.Back slot) = 10 ∷ slot ∷ []
event_code (events.Held index slot steps) = 11 ∷ index ∷ slot ∷ steps ∷ []
event_code (events.Null index steps) = 12 ∷ index ∷ steps ∷ []
event_code (events.Clear index slot) = 13 ∷ index ∷ slot ∷ []
event_code (events.Put bucket version key value) = 14 ∷ bucket ∷ version ∷ key ∷ value ∷ []
event_code (events.Removed bucket version key) = 15 ∷ bucket ∷ version ∷ key ∷ []
event_code (events.Got bucket version key value) = 16 ∷ bucket ∷ version ∷ key ∷ value_code value
event_code (events.Queued number value) = 17 ∷ number ∷ value ∷ []
event_code (events.Taken number value) = 18 ∷ number ∷ value ∷ []
event_code (events.Copied from index slot) = 19 ∷ from ∷ index ∷ slot ∷ []
event_code (events.Left count) = 20 ∷ count ∷ []
event_code (events.Adopted place count) = 21 ∷ place ∷ count ∷ []
event_code (events.Hazard guard slot) = 22 ∷ guard_code guard ++ value_code slot
event_code (events.Saw guard slot) = 23 ∷ guard_code guard ++ value_code slot

abbrev same_numbers : List ℕ → List ℕ → Bool
same_numbers [] [] = true
same_numbers [] (y ∷ ys) = false
same_numbers (x ∷ xs) [] = false
same_numbers (x ∷ xs) (y ∷ ys) = x == y && same_numbers xs ys

abbrev code_of : Entry → List ℕ
code_of entry = entry.seat ∷ event_code entry.event

-- the entries of a record, in the order of time, before others
abbrev pub entries : Past → List Entry → List Entry
entries Start later = later
entries (Then past i event) later = entries past (record { seat = i; event = event } ∷ later)

-- the lines without the first, where the entry is that
abbrev without_first : List Entry → Entry → List Entry
without_first [] entry = []
without_first (line ∷ lines) entry = elim (same_numbers (code_of line) (code_of entry)) [ true ↦ lines | false ↦ line ∷ lines ]

-- the lines that do not stand among these entries in their order
abbrev pub left_over : List Entry → List Entry → List Entry
left_over lines [] = lines
left_over lines (entry ∷ later) = left_over (without_first lines entry) later

abbrev pub said : ℕ → Event → Entry
said i event = record { seat = i; event = event }

-- a call that begins, and steps up to the end of a call of at most 60
abbrev pub call : ℕ → Call → List Item
call i name = Begins i name ∷ []

abbrev pub to_end : ℕ → List Item
to_end i = times 60 i

-- a table with three indexes, one bucket, and six pairs in a row
abbrev pub setting : SchemeKind → ℕ → ℕ → ℕ → ℕ → ℕ → ℕ → Layout
setting scheme seats slots tries every last_era last_version =
    record {
      config =
          record {
            scheme = scheme;
            seats = seats;
            indexes = 3;
            slots = slots;
            buckets = 1;
            tries = tries;
            every = every;
            last_era = last_era;
            last_version = last_version;
            pairs = 6;
          };
    }
