-- What the lines of a trace give: a setting, commands, and the one history of the model that they make.
use Rattle.std.specs.Prelude.{Bool, List, None, Some, Option, [], false, not, suc, true, zero, ℕ, ◌++◌, ◌<◌, ◌≡◌, ◌∷◌}
use Rattle.wfe_trace.specs.words.Config.{bad_field}
use Rattle.wfe_trace.specs.words.Place.{is_valid}
use Rattle.wfe_trace.specs.words.declared.config.Config.{Config}
use Rattle.wfe_trace.specs.words.declared.layout.Layout.{Layout}
use Rattle.wfe_outside.specs.defs.declared.call.Call.{Call}
use Rattle.wfe_outside.specs.defs.declared.command.Command.{Command}
use Rattle.wfe_outside.specs.defs.declared.command.Command.TheVariants as commands
use Rattle.wfe_outside.specs.defs.declared.event.Event.TheVariants as events
use Rattle.wfe_outside.specs.defs.Entry.{Entry, entry}
use Rattle.wfe_drive.specs.history.Record.{Past}
use Rattle.wfe_core.specs.World.{World, is_busy, is_here, told_in}
use Rattle.wfe_drive.specs.history.History.{Begins, Item, Made, Steps, did, fits, made_of, record_of, times, world_of}
use Rattle.wfe_outside.specs.declared.watcher.WatchRow.{WatchRow}
use Rattle.wfe_server_out.specs.Pieces.{Piece, Text, Told, told_pieces}
use Rattle.wfe_trace.specs.Body.{IsCommandWithin}
use Rattle.wfe_trace.specs.Record.{header_line}
use Rattle.wfe_watch.specs.Garbage.{garbage_rows}
use Rattle.wfe_watch.specs.Lists.{waiting_in}
use Rattle.wfe_server_replay.specs.Counts.{table_pieces}
use Rattle.wfe_server_replay.specs.Playing.{call_most}
use Rattle.wfe_server_replay.specs.Trace.{Engine, line_refused}

pub record Given : Type 0 where
  pub version : ℕ
  pub config : Config
  pub lines : List Command

abbrev pub layout_of : Given → Layout
layout_of given = record { config = given.config }

-- so many seats, one after the other, are run until their calls end
abbrev pub all_run : ℕ → List Item
all_run zero = []
all_run (suc n) = all_run n ++ times call_most n

-- the items of the model for a line, where there are so many seats
abbrev pub items_of : ℕ → Command → List Item
items_of seats (commands.Call seat call) = Begins seat call ∷ []
items_of seats (commands.Step seat units) = times units seat
items_of seats (commands.Run seat) = times call_most seat
items_of seats commands.Table = []
items_of seats commands.End = all_run seats

-- those of all lines, in order
abbrev pub all_items : ℕ → List Command → List Item
all_items seats [] = []
all_items seats (line ∷ lines) = items_of seats line ++ all_items seats lines

abbrev pub items : Given → List Item
items given = all_items given.config.seats given.lines

-- the World and the record that they come to
abbrev pub given_made : Given → Made
given_made given = made_of (layout_of given) (items given)

abbrev pub given_world : Given → World
given_world given = world_of (layout_of given) (items given)

abbrev pub given_record : Given → Past
given_record given = record_of (layout_of given) (items given)

-- the entries of a record, in order
abbrev pub past_entries : Past → List Entry
past_entries Past.Start = []
past_entries (Past.Then past seat event) = past_entries past ++ entry seat event ∷ []

-- the rows that each seat retired and gave back
abbrev pub given_garbage : Given → List WatchRow
given_garbage given = garbage_rows given.config.seats (past_entries (given_record given))

-- the rows that wait in each seat's list
abbrev pub given_waiting : Given → List ℕ
given_waiting given = waiting_in given.config.seats (past_entries (given_record given))

-- what an item that fits tells
abbrev pub item_pieces : World → Item → List Piece
item_pieces w (Begins seat call) = Told (entry seat (events.Begin call)) ∷ []
item_pieces w (Steps seat) = told_pieces seat (told_in w seat)

-- one that does not fit tells nothing
abbrev pub fit_pieces : World → Item → (fit : Bool) → List Piece
fit_pieces w item true = item_pieces w item
fit_pieces w item false = []

-- what items tell one after another
abbrev pub made_pieces : Made → List Item → List Piece
made_pieces made [] = []
made_pieces made (item ∷ items) = fit_pieces made.world item (fits made.world item) ++ made_pieces (did made item) items

-- what a line puts out
abbrev pub line_pieces : Command → Given → List Piece
line_pieces (commands.Call seat call) given = Told (entry seat (events.Begin call)) ∷ []
line_pieces (commands.Step seat units) given = made_pieces (given_made given) (items_of given.config.seats (commands.Step seat units))
line_pieces (commands.Run seat) given = made_pieces (given_made given) (items_of given.config.seats (commands.Run seat))
line_pieces commands.Table given = table_pieces (given_garbage given) (given_waiting given)
line_pieces commands.End given = made_pieces (given_made given) (items_of given.config.seats commands.End)

-- one line more
abbrev pub with_line : Command → Given → Given
with_line line given = record { version = given.version; config = given.config; lines = given.lines ++ line ∷ [] }

-- no line came
abbrev pub no_lines : ℕ → Config → Given
no_lines version config = record { version = version; config = config; lines = [] }

-- the engine that only keeps the lines, where these calls are made
abbrev pub keeper : (makes : Call → Bool) → Engine Given
keeper makes = record {
  opened = no_lines;
  refuses = λ line given. line_refused makes (λ seat. is_busy (given_world given) seat) (λ seat. not (is_here (given_world given) seat)) line;
  after = with_line;
  out = line_pieces;
}

-- what lines put out one after another
abbrev pub lines_out : Given → List Command → List Piece
lines_out given [] = []
lines_out given (line ∷ lines) = line_pieces line given ++ lines_out (with_line line given) lines

-- what all of it puts out: the header, and then each line
abbrev pub given_out : Given → List Piece
given_out given = Text (header_line given.version given.config) ∷ lines_out (no_lines given.version given.config) given.lines

-- nothing before the line `begin`
abbrev pub partial_out : Option Given → List Piece
partial_out None = []
partial_out (Some given) = given_out given

-- lines that name seats of the setting and indexes in their ranges, begin only calls that are made, and give no call to a seat whose call has not ended or that has left
abbrev pub AreTaken : (makes : Call → Bool) → Given → List Command → Type 0
AreTaken makes given [] = Unit {0}
AreTaken makes given (line ∷ lines) = IsCommandWithin given.config line × ((keeper makes).refuses line given ≡ None) × AreTaken makes (with_line line given) lines

-- the setting is in its ranges, and its lines are such
pub record IsTaken (makes : Call → Bool) (given : Given) : Type 0 where
  pub config : bad_field given.config ≡ None
  pub lines : AreTaken makes (no_lines given.version given.config) given.lines

-- the same of the lines before a bad one, or of those that came so far
abbrev pub IsTakenIn : (makes : Call → Bool) → Option Given → Type 0
IsTakenIn makes None = Unit {0}
IsTakenIn makes (Some given) = IsTaken makes given

-- a seat that is run has no call under way in the end
abbrev pub RunsEnd : Type 0
RunsEnd = (layout : Layout) (items : List Item) (seat : ℕ) → is_valid layout ≡ true → seat < layout.config.seats → is_busy (world_of layout (items ++ times call_most seat)) seat ≡ false
