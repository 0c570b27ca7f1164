-- A trace as its bytes come, judged byte by byte, over any engine that takes its lines.
use Rattle.std.specs.Prelude.{ℕ, ◌+◌, ◌==◌, ◌++◌, ◌≡◌, ◌≢◌, ◌<◌, ◌≤◌, nat_le, if◌then◌else◌, Bool, true, false, List, [], ◌∷◌, length, slice_index, Option, Some, None, Result, Ok, Err, codes}
use Rattle.wfe_trace.specs.words.declared.config.Config.{Config}
use Rattle.wfe_outside.specs.defs.declared.call.Call.{Call}
use Rattle.wfe_outside.specs.defs.declared.command.Command.{Command}
use Rattle.wfe_outside.specs.defs.declared.command.Command.TheVariants as commands
use Rattle.wfe_trace.specs.declared.item.Item.{Item}
use Rattle.wfe_trace.specs.declared.item.Item.TheVariants as items
use Rattle.wfe_trace.specs.declared.item.Mode.{Mode}
use Rattle.wfe_trace.specs.declared.reason.BadLine.{BadLine}
use Rattle.wfe_trace.specs.declared.reason.Reason.{Reason}
use Rattle.wfe_trace.specs.declared.reason.Reason.TheVariants as reasons
use Rattle.wfe_trace.specs.Reading.{Reading, reading_start, reading_after, judged, line_after}
use Rattle.wfe_trace.specs.Record.{header_line, bad_line as bad_text}
use Rattle.wfe_server_out.specs.Pieces.{Piece, Text}

-- What takes the lines of a trace's body: how it begins, why it does not take a line, what it is after a line, and what the line puts out.
pub record Engine (S : Type 0) : Type 0 where
  pub opened : ℕ → Config → S
  pub refuses : Command → S → Option Reason
  pub after : Command → S → S
  pub out : Command → S → List Piece

-- A trace of which some bytes came: the lines that are whole, the bytes of the line under way, how many bytes came, whether the line `end` did, and the engine from the line `begin` on.
pub record Progress (S : Type 0) : Type 0 where
  pub reading : Reading
  pub line : List ℕ
  pub count : ℕ
  pub ended : Bool
  pub engine : Option S

-- the bytes of a trace, and the engine that takes its lines
abbrev pub taken_by : {S : Type 0} → Progress (Unit {0}) → Option S → Progress S
taken_by p engine = record { reading = p.reading; line = p.line; count = p.count; ended = p.ended; engine = engine }

-- no byte came
abbrev pub progress_start : {S : Type 0} → Mode → Progress S
progress_start mode = record { reading = reading_start mode; line = []; count = 0; ended = false; engine = None }

-- the line under way is bad
abbrev pub bad_line : {S : Type 0} → Progress S → Reason → BadLine
bad_line p reason = record { line = line_after p.reading; reason = reason }

-- the line is read
abbrev pub line_read : {S : Type 0} → Progress S → Progress S
line_read p = record p { reading = reading_after p.reading p.line; line = [] }

abbrev pub is_end : Command → Bool
is_end (commands.Call seat call) = false
is_end (commands.Step seat units) = false
is_end (commands.Run seat) = false
is_end commands.Table = false
is_end commands.End = true

-- why a call does not begin: it is none of those that are made, or the seat's call has not ended, or the seat has left
abbrev pub why_refused : (made busy gone : Bool) → Option Reason
why_refused made busy gone = if made then (if busy then Some reasons.Busy else if gone then Some reasons.Gone else None) else Some reasons.NotYet

-- why a line is refused, where these calls are made, and these seats are busy and have left: only the line of a call is
abbrev pub line_refused : (makes : Call → Bool) → (busy gone : ℕ → Bool) → Command → Option Reason
line_refused makes busy gone (commands.Call seat call) = why_refused (makes call) (busy seat) (gone seat)
line_refused makes busy gone (commands.Step seat units) = None
line_refused makes busy gone (commands.Run seat) = None
line_refused makes busy gone commands.Table = None
line_refused makes busy gone commands.End = None

-- why the line would be refused
abbrev pub refused_in : {S : Type 0} → Engine S → Command → Option S → Option Reason
refused_in E c None = None
refused_in E c (Some s) = E.refuses c s

-- the engine takes a body line
abbrev pub command_taken : {S : Type 0} → Engine S → Progress S → Command → Option S → Progress S
command_taken E p c None = record p { ended = is_end c }
command_taken E p c (Some s) = record p { ended = is_end c; engine = Some (E.after c s) }

-- what a body line makes the engine put out
abbrev pub out_in : {S : Type 0} → Engine S → Command → Option S → List Piece
out_in E c None = []
out_in E c (Some s) = E.out c s

-- the engine takes what a line says
abbrev pub item_taken : {S : Type 0} → Engine S → Progress S → Item → Progress S
item_taken E p items.Setting = p
item_taken E p (items.Ready version config) = record p { engine = Some (E.opened version config) }
item_taken E p (items.Command c) = command_taken E p c p.engine

-- what a line puts out
abbrev pub out_by : {S : Type 0} → Engine S → Progress S → Item → List Piece
out_by E p items.Setting = []
out_by E p (items.Ready version config) = Text (header_line version config) ∷ []
out_by E p (items.Command c) = out_in E c p.engine

-- why the engine does not take what a line says
abbrev pub refused_by : {S : Type 0} → Engine S → Progress S → Item → Option Reason
refused_by E p items.Setting = None
refused_by E p (items.Ready version config) = None
refused_by E p (items.Command c) = refused_in E c p.engine

abbrev pub unless_refused : {S : Type 0} → Progress S → Item → Option Reason → Result Item BadLine
unless_refused p item (Some reason) = Err (bad_line p reason)
unless_refused p item None = Ok item

-- what the line under way says, or that it is bad
abbrev pub judged_item : {S : Type 0} → Engine S → Progress S → Result Item Reason → Result Item BadLine
judged_item E p (Err reason) = Err (bad_line p reason)
judged_item E p (Ok item) = unless_refused p item (refused_by E p item)

abbrev pub line_item : {S : Type 0} → Engine S → Progress S → Result Item BadLine
line_item E p = judged_item E p (judged p.reading p.line)

-- the line under way is whole
abbrev pub line_taken : {S : Type 0} → Engine S → Progress S → Result Item BadLine → Result (Progress S) BadLine
line_taken E p (Err bad) = Err bad
line_taken E p (Ok item) = Ok (item_taken E (line_read p) item)

abbrev pub after_line : {S : Type 0} → Engine S → Progress S → Result (Progress S) BadLine
after_line E p = line_taken E p (line_item E p)

-- what it puts out
abbrev pub line_out : {S : Type 0} → Engine S → Progress S → Result Item BadLine → List Piece
line_out E p (Err bad) = []
line_out E p (Ok item) = out_by E p item

abbrev pub line_output : {S : Type 0} → Engine S → Progress S → List Piece
line_output E p = line_out E p (line_item E p)

-- why the next byte is bad, whatever it ends: the trace is too long, it follows the line `end`, or its line is too long
abbrev pub byte_refused : {S : Type 0} → Progress S → ℕ → Option Reason
byte_refused p b =
    if nat_le 16777216 p.count then Some reasons.LongTrace else
    if p.ended then Some reasons.AfterEnd else
    if b == 10 then None else
    if nat_le 200 (length p.line) then Some reasons.LongLine else None

-- one more byte is counted
abbrev pub counted : {S : Type 0} → Progress S → Progress S
counted p = record p { count = p.count + 1 }

-- a byte is taken, which ends the line under way or is one more of it
abbrev pub byte_taken : {S : Type 0} → Progress S → ℕ → (ends : Bool) → Progress S
byte_taken p b true = counted p
byte_taken p b false = record (counted p) { line = p.line ++ b ∷ [] }

-- these bytes go to the line under way
abbrev pub more_bytes : {S : Type 0} → Progress S → List ℕ → Progress S
more_bytes p bytes = record p { line = p.line ++ bytes; count = p.count + length bytes }

-- the first n of these bytes are not bad, and none of them is a line feed: there is room for them in the line under way and in the trace, and where there is one the line `end` has not come
pub record ArePlain {S : Type 0} (p : Progress S) (bytes : List ℕ) (n : ℕ) : Type 0 where
  pub within : n ≤ length bytes
  pub none : (k : ℕ) → k < n → slice_index bytes k ≢ 10
  pub short : length p.line + n ≤ 200
  pub few : p.count + n ≤ 16777216
  pub going : 0 < n → p.ended ≡ false

abbrev pub after_good_byte : {S : Type 0} → Engine S → Progress S → ℕ → Option Reason → Result (Progress S) BadLine
after_good_byte E p b (Some reason) = Err (bad_line p reason)
after_good_byte E p b None = if b == 10 then after_line E (counted p) else Ok (record (counted p) { line = p.line ++ b ∷ [] })

-- a line feed ends the line under way
abbrev pub after_byte : {S : Type 0} → Engine S → Progress S → ℕ → Result (Progress S) BadLine
after_byte E p b = after_good_byte E p b (byte_refused p b)

abbrev pub good_byte_output : {S : Type 0} → Engine S → Progress S → ℕ → Option Reason → List Piece
good_byte_output E p b (Some reason) = []
good_byte_output E p b None = if b == 10 then line_output E (counted p) else []

abbrev pub byte_output : {S : Type 0} → Engine S → Progress S → ℕ → List Piece
byte_output E p b = good_byte_output E p b (byte_refused p b)

infixl 10 ◌>>=◌
abbrev pub ◌>>=◌ : {A B : Type 0} → Result A BadLine → (A → Result B BadLine) → Result B BadLine
(Ok x) >>= f = f x
(Err bad) >>= f = Err bad

-- after the bytes, in order, up to the first bad line
abbrev pub after_bytes : {S : Type 0} → Engine S → Result (Progress S) BadLine → List ℕ → Result (Progress S) BadLine
after_bytes E r [] = r
after_bytes E r (b ∷ bs) = after_bytes E (r >>= (λ p. after_byte E p b)) bs

abbrev pub output_of : {S : Type 0} → (Progress S → List Piece) → Result (Progress S) BadLine → List Piece
output_of f (Ok p) = f p
output_of f (Err bad) = []

-- what the bytes put out, up to the first bad line
abbrev pub bytes_output : {S : Type 0} → Engine S → Result (Progress S) BadLine → List ℕ → List Piece
bytes_output E r [] = []
bytes_output E r (b ∷ bs) = output_of (λ p. byte_output E p b) r ++ bytes_output E (r >>= (λ p. after_byte E p b)) bs

-- as far as it is good
abbrev pub go_on : {S : Type 0} → (Progress S → Progress S) → Progress S → Result (Progress S) BadLine → Progress S
go_on f p (Ok q) = f q
go_on f p (Err bad) = p

-- after the bytes before the first that is bad
abbrev pub good_bytes : {S : Type 0} → Engine S → Progress S → List ℕ → Progress S
good_bytes E p [] = p
good_bytes E p (b ∷ bs) = go_on (λ q. good_bytes E q bs) p (after_byte E p b)

-- bytes after the last line feed are a line too
abbrev pub after_last : {S : Type 0} → Engine S → Progress S → Result (Progress S) BadLine
after_last E p = if length p.line == 0 then Ok p else after_line E p

abbrev pub last_output : {S : Type 0} → Engine S → Progress S → List Piece
last_output E p = if length p.line == 0 then [] else line_output E p

-- the input ends: after the line `end` and nowhere else
abbrev pub at_end : {S : Type 0} → Progress S → Result (Progress S) BadLine
at_end p = if p.ended then Ok p else Err (bad_line p reasons.NoEnd)

-- no byte comes any more
abbrev pub finished : {S : Type 0} → Engine S → Progress S → Result (Progress S) BadLine
finished E p = after_last E p >>= at_end

-- a whole trace
abbrev pub after_trace : {S : Type 0} → Engine S → Mode → List ℕ → Result (Progress S) BadLine
after_trace E mode bytes = after_bytes E (Ok (progress_start mode)) bytes >>= finished E

-- a whole trace before its first bad line
abbrev pub good_trace : {S : Type 0} → Engine S → Mode → List ℕ → Progress S
good_trace E mode bytes =
    go_on (λ p. go_on (λ q. q) p (after_last E p)) (good_bytes E (progress_start mode) bytes) (after_bytes E (Ok (progress_start mode)) bytes)

-- what its lines put out, up to the first bad one
abbrev pub lines_output : {S : Type 0} → Engine S → Mode → List ℕ → List Piece
lines_output E mode bytes =
    bytes_output E (Ok (progress_start mode)) bytes
    ++ output_of (last_output E) (after_bytes E (Ok (progress_start mode)) bytes)

-- the last lines of a record: the rows of the watchers and that the work is done, or the first bad line
abbrev pub closing : {S : Type 0} → (watched : List ℕ) → Result (Progress S) BadLine → List Piece
closing watched (Ok p) = Text watched ∷ Text (codes "done\n") ∷ []
closing watched (Err bad) = Text (bad_text bad.line bad.reason) ∷ []

-- what a whole trace puts out, where the watchers' rows are these lines
abbrev pub trace_output : {S : Type 0} → Engine S → Mode → (watched : List ℕ) → List ℕ → List Piece
trace_output E mode watched bytes = lines_output E mode bytes ++ closing watched (after_trace E mode bytes)
