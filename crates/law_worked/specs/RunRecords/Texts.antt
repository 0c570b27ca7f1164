-- The lines that a seat prints of its calls: a reader of them, one after another, which any run's lines pass.
use Rattle.std.specs.Prelude.{Bool, List, None, Option, Some, [], false, if◌then◌else◌, length, nat_le, true, ℕ, ◌&&◌, ◌==◌, ◌||◌, ◌∷◌}
use Rattle.law_all.specs.inv.model.defs.declared.call.Answer.{Answer}
use Rattle.law_all.specs.inv.model.defs.declared.call.Call.{Call}
use Rattle.law_all.specs.inv.model.defs.declared.call.Call.TheVariants as calls
use Rattle.law_all.specs.inv.model.defs.declared.event.Event.{Event}
use Rattle.law_all.specs.inv.model.defs.declared.event.Event.TheVariants as events
use Rattle.law_all.specs.laws.AnswerLaw.{same_event}
use Rattle.law_all.specs.RunLaw.{change_told}

abbrev pub same_call : Call → Call → Bool
same_call (calls.Get key) (calls.Get other) = key == other
same_call (calls.Put key value) (calls.Put other worth) = key == other && value == worth
same_call (calls.Remove key) (calls.Remove other) = key == other
same_call (calls.Enqueue value) (calls.Enqueue other) = value == other
same_call calls.Dequeue calls.Dequeue = true
same_call (calls.Hold key) (calls.Hold other) = key == other
same_call calls.Release calls.Release = true
same_call calls.Advance calls.Advance = true
same_call calls.Scan calls.Scan = true
same_call (calls.Copy from index) (calls.Copy lower higher) = from == lower && index == higher
same_call (calls.DropIndex index) (calls.DropIndex other) = index == other
same_call (calls.Look index key) (calls.Look other sought) = index == other && key == sought
same_call calls.Leave calls.Leave = true
same_call (calls.Adopt place) (calls.Adopt other) = place == other
same_call (calls.PutIf key value version) (calls.PutIf other worth wanted) = key == other && (value == worth && version == wanted)
same_call call other = false

abbrev pub same_told : Option Event → Option Event → Bool
same_told None None = true
same_told None (Some event) = false
same_told (Some event) None = false
same_told (Some event) (Some other) = same_event event other

-- how far a seat's lines have come: 0 between calls, 1 after a call began, and after a row was given 2, after what was done of the map, of
-- the queue or of lists 3, after a row was given up 4, after one was retired 5, after rows went back late 6, and after a line that may not stand there 9;
-- the calls to come, and of the call under way its name, the row given, and what was done
pub record Stand : Type 0 where
  pub stage : ℕ
  pub script : List Call
  pub call : Option Call
  pub given : Option ℕ
  pub told : Option Event

abbrev pub stand : ℕ → List Call → Option Call → Option ℕ → Option Event → Stand
stand stage script call given told = record { stage = stage; script = script; call = call; given = given; told = told }

abbrev pub between : List Call → Stand
between script = stand 0 script None None None

abbrev pub lost : Stand
lost = stand 9 [] None None None

abbrev pub begun : ℕ → List Call → Call → Stand
begun stage [] call = lost
begun stage (other ∷ script) call = if stage == 0 && same_call other call then stand 1 script (Some call) None None else lost

abbrev pub told_next : Stand → Event → Stand
told_next s event = if s.stage == 1 || s.stage == 2 then stand 3 s.script s.call s.given (Some event) else lost

abbrev pub is_slot : ℕ → Option ℕ → Bool
is_slot slot None = false
is_slot slot (Some other) = slot == other

abbrev pub ended_ok : (buckets : ℕ) → Option Call → Answer → Option Event → Bool
ended_ok n None answer told = false
ended_ok n (Some call) answer told = same_told (change_told n call answer) told

-- after one line more
abbrev pub next : (buckets : ℕ) → Stand → Event → Stand
next n s (events.Begin call) = begun s.stage s.script call
next n s (events.Back slot) =
    if s.stage == 1 then s else (if nat_le 2 s.stage && nat_le s.stage 6 then stand 6 s.script s.call s.given s.told else lost)
next n s (events.Give slot birth) = if s.stage == 1 then stand 2 s.script s.call (Some slot) s.told else lost
next n s (events.Got bucket version key value) = told_next s (events.Got bucket version key value)
next n s (events.Put bucket version key value) = told_next s (events.Put bucket version key value)
next n s (events.Removed bucket version key) = told_next s (events.Removed bucket version key)
next n s (events.Queued number value) = told_next s (events.Queued number value)
next n s (events.Taken number value) = told_next s (events.Taken number value)
next n s (events.Left count) = told_next s (events.Left count)
next n s (events.Adopted place count) = told_next s (events.Adopted place count)
next n s (events.Unused slot) =
    if (s.stage == 2 || s.stage == 3) && is_slot slot s.given then stand 4 s.script s.call s.given s.told else lost
next n s (events.Retire slot birth retire) = if nat_le 1 s.stage && nat_le s.stage 4 then stand 5 s.script s.call s.given s.told else lost
next n s (events.End steps answer) = if (nat_le 1 s.stage && nat_le s.stage 6) && ended_ok n s.call answer s.told then between s.script else lost
next n s event = lost

-- after these
abbrev pub after_lines : (buckets : ℕ) → Stand → List Event → Stand
after_lines n s [] = s
after_lines n s (event ∷ lines) = after_lines n (next n s event) lines

-- at the end no call is under way, and none is to come
abbrev pub is_done : Stand → Bool
is_done s = s.stage == 0 && length s.script == 0

abbrev pub lines_ok : (buckets : ℕ) → List (List Call) → List (List Event) → Bool
lines_ok n [] [] = true
lines_ok n [] (lines ∷ seats) = false
lines_ok n (script ∷ scripts) [] = false
lines_ok n (script ∷ scripts) (lines ∷ seats) = is_done (after_lines n (between script) lines) && lines_ok n scripts seats
