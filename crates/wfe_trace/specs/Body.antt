-- The body lines of a trace.
use Rattle.std.specs.Prelude.{◌<◌, ◌≤◌, ◌≡◌, ◌==◌, ◌&&◌, if◌then◌else◌, nat_lt, nat_le, Bool, true, false, ℕ, List, [], ◌∷◌, Option, Some, None, Result, Ok, Err, codes}
use Rattle.std.specs.Str.{bytes_eq}
use Rattle.wfe_words.specs.declared.config.Config.{Config}
use Rattle.wfe_defs.specs.declared.call.Call.{Call}
use Rattle.wfe_defs.specs.declared.call.Call.TheVariants as calls
use Rattle.wfe_defs.specs.declared.command.Command.{Command}
use Rattle.wfe_defs.specs.declared.command.Command.TheVariants as commands
use Rattle.wfe_trace.specs.declared.item.Mode.{Mode}
use Rattle.wfe_trace.specs.declared.item.Mode.TheVariants as modes
use Rattle.wfe_trace.specs.declared.reason.Reason.{Reason}
use Rattle.wfe_trace.specs.declared.reason.Reason.TheVariants as reasons
use Rattle.wfe_trace.specs.declared.verb.CallVerb.{CallVerb}
use Rattle.wfe_trace.specs.declared.verb.CallVerb.TheVariants as call_verbs
use Rattle.wfe_trace.specs.declared.verb.Verb.{Verb}
use Rattle.wfe_trace.specs.declared.verb.Verb.TheVariants as verbs
use Rattle.wfe_trace.specs.declared.body.Places.{Places}
use Rattle.wfe_trace.specs.declared.body.Places.TheVariants as places
use Rattle.wfe_trace.specs.declared.body.Numbers.{Numbers}
use Rattle.wfe_trace.specs.Words.{number_in, need, or_number, ◌>>=◌}

-- the call that a word names in traces of later versions than the first
abbrev pub later_call_in : List ℕ → Option CallVerb
later_call_in w =
    if bytes_eq w (codes "copy") then Some call_verbs.Copy else
    if bytes_eq w (codes "drop") then Some call_verbs.DropIndex else
    if bytes_eq w (codes "look") then Some call_verbs.Look else
    if bytes_eq w (codes "put_if") then Some call_verbs.PutIf else
    if bytes_eq w (codes "leave") then Some call_verbs.Leave else
    if bytes_eq w (codes "adopt") then Some call_verbs.Adopt else None

-- the call that a word names, in the traces that have it
abbrev pub call_verb_in : List ℕ → Option CallVerb
call_verb_in w =
    if bytes_eq w (codes "get") then Some call_verbs.Get else
    if bytes_eq w (codes "put") then Some call_verbs.Put else
    if bytes_eq w (codes "remove") then Some call_verbs.Remove else
    if bytes_eq w (codes "enq") then Some call_verbs.Enqueue else
    if bytes_eq w (codes "deq") then Some call_verbs.Dequeue else
    if bytes_eq w (codes "hold") then Some call_verbs.Hold else
    if bytes_eq w (codes "release") then Some call_verbs.Release else
    if bytes_eq w (codes "advance") then Some call_verbs.Advance else
    if bytes_eq w (codes "scan") then Some call_verbs.Scan else later_call_in w

-- the first version whose traces have the call
abbrev pub first_version : CallVerb → ℕ
first_version call_verbs.Copy = 2
first_version call_verbs.DropIndex = 2
first_version call_verbs.Look = 2
first_version call_verbs.PutIf = 3
first_version call_verbs.Leave = 4
first_version call_verbs.Adopt = 4
first_version call = 1

-- the call, where traces of the version have it
abbrev pub known_in : ℕ → Option CallVerb → Option Verb
known_in version None = None
known_in version (Some call) = if nat_le (first_version call) version then Some (verbs.Call call) else None

-- the verb that a word names in a trace of the version
abbrev pub verb_in : ℕ → List ℕ → Option Verb
verb_in version w =
    if bytes_eq w (codes "step") then Some verbs.Step else
    if bytes_eq w (codes "run") then Some verbs.Run else
    if bytes_eq w (codes "table") then Some verbs.Table else
    if bytes_eq w (codes "end") then Some verbs.End else known_in version (call_verb_in w)

-- how many numbers a call's line has, the seat's among them
abbrev pub call_count : CallVerb → ℕ
call_count call_verbs.Dequeue = 1
call_count call_verbs.Release = 1
call_count call_verbs.Advance = 1
call_count call_verbs.Scan = 1
call_count call_verbs.Get = 2
call_count call_verbs.Remove = 2
call_count call_verbs.Enqueue = 2
call_count call_verbs.Hold = 2
call_count call_verbs.DropIndex = 2
call_count call_verbs.Put = 3
call_count call_verbs.Copy = 3
call_count call_verbs.Look = 3
call_count call_verbs.PutIf = 4
call_count call_verbs.Leave = 1
call_count call_verbs.Adopt = 2

-- how many numbers a verb's line has, the seat's among them
abbrev pub count_of : Verb → ℕ
count_of (verbs.Call call) = call_count call
count_of verbs.Step = 2
count_of verbs.Run = 1
count_of verbs.Table = 0
count_of verbs.End = 0

-- how many numbers a line has
abbrev pub count_in : Places → ℕ
count_in places.Nothing = 0
count_in (places.Seat s) = 1
count_in (places.SeatOne s a) = 2
count_in (places.SeatTwo s a b) = 3
count_in (places.SeatThree s a b c) = 4

-- the verb, with as many numbers as it takes
abbrev pub in_form : Option Verb → Places → Result Verb Reason
in_form None line = Err reasons.Form
in_form (Some verb) line = if count_of verb == count_in line then Ok verb else Err reasons.Form

-- each word in a number's place is a number; a place that the line does not have counts as 0
abbrev pub numbers_in : Places → Result Numbers Reason
numbers_in places.Nothing = Ok (record { seat = 0; first = 0; second = 0; third = 0 })
numbers_in (places.Seat s) = do
  seat ← or_number s
  Ok (record { seat = seat; first = 0; second = 0; third = 0 })
numbers_in (places.SeatOne s a) = do
  seat ← or_number s
  first ← or_number a
  Ok (record { seat = seat; first = first; second = 0; third = 0 })
numbers_in (places.SeatTwo s a b) = do
  seat ← or_number s
  first ← or_number a
  second ← or_number b
  Ok (record { seat = seat; first = first; second = second; third = 0 })
numbers_in (places.SeatThree s a b c) = do
  seat ← or_number s
  first ← or_number a
  second ← or_number b
  third ← or_number c
  Ok (record { seat = seat; first = first; second = second; third = third })

-- workers know no single steps, no table of counts on the way, and no seats that leave
abbrev pub is_for : Mode → Verb → Bool
is_for modes.Replay verb = true
is_for modes.Run verbs.Step = false
is_for modes.Run verbs.Table = false
is_for modes.Run (verbs.Call call_verbs.Leave) = false
is_for modes.Run (verbs.Call call_verbs.Adopt) = false
is_for modes.Run _ = true

-- a line with the verb names a seat
abbrev pub names_seat : Verb → Bool
names_seat (verbs.Call call) = true
names_seat verbs.Step = true
names_seat verbs.Run = true
names_seat verbs.Table = false
names_seat verbs.End = false

-- the seat that a line names is one of the trace; a line without a seat counts as seat 0
abbrev pub seat_of : ℕ → Verb → ℕ → Result ℕ Reason
seat_of seats verb seat = if names_seat verb then (if nat_lt seat seats then Ok seat else Err reasons.Seat) else Ok 0

-- the place that a line names, its first number, is one of so many seats
abbrev pub is_placed : (seats : ℕ) → Verb → (first : ℕ) → Bool
is_placed seats (verbs.Call call_verbs.Adopt) first = nat_lt first seats
is_placed seats verb first = true

-- the place that a call names is one of so many seats
abbrev pub fits_seats : ℕ → Call → Bool
fits_seats seats (calls.Adopt place) = nat_lt place seats
fits_seats seats call = true

-- the indexes that a call names are some at which a row may stand between calls, and a copy goes upwards
abbrev pub fits_indexes : ℕ → Call → Bool
fits_indexes indexes (calls.Copy from index) = nat_le 2 from && (nat_lt from index && nat_lt index indexes)
fits_indexes indexes (calls.DropIndex index) = nat_le 2 index && nat_lt index indexes
fits_indexes indexes (calls.Look index key) = nat_le 2 index && nat_lt index indexes
fits_indexes indexes call = true

-- the call, where the indexes that it names are in their ranges
abbrev pub call_within : ℕ → Call → Result Call Reason
call_within indexes call = do
  within ← need (fits_indexes indexes call) reasons.Range
  Ok call

-- the call with these numbers
abbrev pub call_of : CallVerb → Numbers → Call
call_of call_verbs.Get n = calls.Get n.first
call_of call_verbs.Put n = calls.Put n.first n.second
call_of call_verbs.Remove n = calls.Remove n.first
call_of call_verbs.Enqueue n = calls.Enqueue n.first
call_of call_verbs.Dequeue n = calls.Dequeue
call_of call_verbs.Hold n = calls.Hold n.first
call_of call_verbs.Release n = calls.Release
call_of call_verbs.Advance n = calls.Advance
call_of call_verbs.Scan n = calls.Scan
call_of call_verbs.Copy n = calls.Copy n.first n.second
call_of call_verbs.DropIndex n = calls.DropIndex n.first
call_of call_verbs.Look n = calls.Look n.first n.second
call_of call_verbs.PutIf n = calls.PutIf n.first n.second n.third
call_of call_verbs.Leave n = calls.Leave
call_of call_verbs.Adopt n = calls.Adopt n.first

-- what the line asks for; the indexes of a call and the units of a step can be out of range
abbrev pub command_of : ℕ → Verb → ℕ → Numbers → Result Command Reason
command_of indexes (verbs.Call named) s n = do
  call ← call_within indexes (call_of named n)
  Ok (commands.Call s call)
command_of indexes verbs.Step s n = do
  units ← need (nat_le 1 n.first && nat_le n.first 100000) reasons.Range
  Ok (commands.Step s n.first)
command_of indexes verbs.Run s n = Ok (commands.Run s)
command_of indexes verbs.Table s n = Ok commands.Table
command_of indexes verbs.End s n = Ok commands.End

-- a line with this verb and these words in the places of numbers, in the order of judging
abbrev pub judged_line : Mode → Config → Option Verb → Places → Result Command Reason
judged_line mode config named line = do
  verb ← in_form named line
  numbers ← numbers_in line
  fit ← need (is_for mode verb) reasons.RunLine
  seat ← seat_of config.seats verb numbers.seat
  placed ← need (is_placed config.seats verb numbers.first) reasons.Seat
  command_of config.indexes verb seat numbers

-- the word in the verb's place, which is the second where the line names a seat, and the words in the places of numbers
abbrev pub places_in : List (List ℕ) → Option (List ℕ × Places)
places_in (v ∷ []) = Some (v, places.Nothing)
places_in (s ∷ v ∷ []) = Some (v, places.Seat (number_in s))
places_in (s ∷ v ∷ a ∷ []) = Some (v, places.SeatOne (number_in s) (number_in a))
places_in (s ∷ v ∷ a ∷ b ∷ []) = Some (v, places.SeatTwo (number_in s) (number_in a) (number_in b))
places_in (s ∷ v ∷ a ∷ b ∷ c ∷ []) = Some (v, places.SeatThree (number_in s) (number_in a) (number_in b) (number_in c))
places_in _ = None

abbrev pub command_at : Mode → ℕ → Config → Option (List ℕ × Places) → Result Command Reason
command_at mode version config None = Err reasons.Form
command_at mode version config (Some placed) = judged_line mode config (verb_in version placed.0) placed.1

-- the command of a line's words, in a trace of the version and with the setting
abbrev pub command_in : Mode → ℕ → Config → List (List ℕ) → Result Command Reason
command_in mode version config ws = command_at mode version config (places_in ws)

-- the seat is one of the trace, the indexes of a call are in their ranges and its place is a seat of the trace, and the units of a step are
-- 1 to 100,000
abbrev pub IsCommandWithin : Config → Command → Type 0
IsCommandWithin config (commands.Call seat call) = (seat < config.seats) × (fits_indexes config.indexes call ≡ true) × (fits_seats config.seats call ≡ true)
IsCommandWithin config (commands.Step seat units) = (seat < config.seats) × (1 ≤ units) × (units ≤ 100000)
IsCommandWithin config (commands.Run seat) = seat < config.seats
IsCommandWithin config commands.Table = Unit {0}
IsCommandWithin config commands.End = Unit {0}
