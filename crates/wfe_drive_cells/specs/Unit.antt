-- Words and seats as code keeps them, and one unit: a seat's operation, and what the seat makes of what it found. It is
-- one step of each World that they show. The book, the calls' names, the rounds and the log are the World's alone; and a
-- list that another seat has taken over is kept by that seat, and by no other.
use Rattle.std.specs.Prelude.{Bool, List, None, Option, Some, [], false, if◌then◌else◌, length, not, slice_index_or, slice_set, true, ℕ, ◌<◌, ◌==◌, ◌≡◌}
use Rattle.wfe_core.specs.words.Place.{words}
use Rattle.wfe_core.specs.words.Place.Place.{PlaceOf}
use Rattle.wfe_core.specs.words.declared.layout.Layout.{Layout}
use Rattle.wfe_core.specs.defs.declared.call.Answer.{Answer}
use Rattle.wfe_core.specs.defs.declared.call.Call.{Call}
use Rattle.wfe_core.specs.defs.declared.event.Event.{Event}
use Rattle.wfe_core.specs.defs.declared.lifetime.Lifetime.{Lifetime}
use Rattle.wfe_core.specs.CallReady.{IsCallPlausible, IsCallReady, NotesFit}
use Rattle.wfe_core.specs.Calls.{Answers, CallOutcome, CallTurn, GoesOn, Idle, Keeping, Phase, TakeList, Works}
use Rattle.wfe_core.specs.DeskHeld.{desk_of}
use Rattle.wfe_core.specs.declared.desk.Desk.{Desk as HeldDesk}
use Rattle.wfe_core.specs.Desks.{Desk, new_desk, no_notes, noting}
use Rattle.wfe_core.specs.Locals.{Local, begun_post, told_by, turn}
use Rattle.wfe_core.specs.Posts.{counted, new_post}
use Rattle.wfe_core.specs.Steps.{call_op, first_phase, phase_turn}
use Rattle.wfe_core.specs.Valid.{IsValid}
use Rattle.wfe_core.specs.World.{World, finds, list_in, offered, step, told_in}
use Rattle.wfe_core.specs.declared.op.Op.{Op}
use Rattle.wfe_core.specs.declared.post.Post.{Post}
use Rattle.wfe_drive_cells.specs.Memory.{memory}
use Rattle.wfe_drive_cells.specs.Operations.{answered, performed, word_in}

-- a seat: where its call stands, what it knows and keeps
pub record SeatView : Type 0 where
  pub phase : Phase
  pub post : Post
  pub desk : Desk

-- a table: its words by number, and its seats
pub record TableView : Type 0 where
  pub layout : Layout
  pub words : List ℕ
  pub seats : List SeatView

-- a seat that has made no call
abbrev pub fresh_seat : Layout → ℕ → SeatView
fresh_seat layout seat = record { phase = Idle; post = new_post seat layout; desk = new_desk }

-- a seat of the table; one that there is not has made no call
abbrev pub seat_at : TableView → ℕ → SeatView
seat_at table seat = slice_index_or table.seats seat (fresh_seat table.layout seat)

-- the table with another seat in this one's place
abbrev pub with_seat : TableView → List ℕ → ℕ → SeatView → TableView
with_seat table list seat view = record { layout = table.layout; words = list; seats = slice_set table.seats seat view }

-- a desk as code keeps it between steps: a list is offered to a step alone
abbrev pub kept_desk : Desk → Desk
kept_desk desk = record desk { gift = [] }

-- the operation that the seat asks for, and what it finds
abbrev pub asked : SeatView → Op
asked seat = call_op seat.phase seat.post

abbrev pub found_by : TableView → ℕ → ℕ
found_by table seat = answered table.words (asked (seat_at table seat))

-- the seat has left: its place word says so
abbrev pub is_gone : TableView → ℕ → Bool
is_gone table seat = not (memory table.layout table.words (PlaceOf seat) == 0)

-- the next step takes over a list, where it finds one that was left
abbrev pub may_adopt : Phase → Bool
may_adopt (Works (Keeping (TakeList place))) = true
may_adopt phase = false

-- the seat as it makes its next step, with the list that it may take over
abbrev pub lent_desk : TableView → Phase → Desk → Desk
lent_desk table (Works (Keeping (TakeList place))) desk = record desk { gift = (seat_at table place).desk.list }
lent_desk table phase desk = desk

abbrev pub lent_seat : TableView → SeatView → SeatView
lent_seat table seat = record seat { desk = lent_desk table seat.phase seat.desk }

-- what the seat makes of it
abbrev pub turned : SeatView → ℕ → CallTurn
turned seat found = phase_turn seat.phase (counted seat.post) seat.desk found

abbrev pub unit_turn : TableView → ℕ → CallTurn
unit_turn table seat = turned (lent_seat table (seat_at table seat)) (found_by table seat)

-- an answer ends the call
abbrev pub phase_after : CallOutcome → Phase
phase_after (GoesOn phase) = phase
phase_after (Answers answer) = Idle

abbrev pub answer_in : CallOutcome → Option Answer
answer_in (GoesOn phase) = None
answer_in (Answers answer) = Some answer

abbrev pub seat_after : CallTurn → SeatView
seat_after t = record { phase = phase_after t.outcome; post = t.post; desk = kept_desk (noting t.desk (told_by t)) }

-- a seat whose list was taken over
abbrev pub bare_seat : SeatView → SeatView
bare_seat seat = record seat { desk = record seat.desk { list = [] } }

-- the seats once a phase's step has found this: one whose list it takes over has none any more
abbrev pub handed_by : TableView → (place : ℕ) → (left : Bool) → List SeatView
handed_by table place true = slice_set table.seats place (bare_seat (seat_at table place))
handed_by table place false = table.seats

abbrev pub handed : TableView → Phase → (found : ℕ) → List SeatView
handed table (Works (Keeping (TakeList place))) found = handed_by table place (found == 1)
handed table phase found = table.seats

-- the table after a unit of the seat
abbrev pub after_unit : TableView → ℕ → TableView
after_unit table seat =
    record {
      layout = table.layout;
      words = performed table.words (asked (seat_at table seat));
      seats = slice_set (handed table (seat_at table seat).phase (found_by table seat)) seat (seat_after (unit_turn table seat));
    }

-- the seat whose call begins
abbrev pub begun_seat : SeatView → Call → SeatView
begun_seat seat call =
    record { phase = first_phase call (begun_post seat.post); post = begun_post seat.post; desk = record seat.desk { notes = no_notes } }

-- the table after a call of the seat began
abbrev pub after_start : TableView → ℕ → Call → TableView
after_start table seat call = with_seat table table.words seat (begun_seat (seat_at table seat) call)

-- what a unit leaves, tells and answers
pub record IsUnit (old new : TableView) (seat : ℕ) (told : List Event) (answer : Option Answer) : Type 0 where
  pub table_is : new ≡ after_unit old seat
  pub told_is : told ≡ told_by (unit_turn old seat)
  pub answer_is : answer ≡ answer_in (unit_turn old seat).outcome

-- what a seat's code needs for its unit: its word is one of the table's, and what it stands on and finds is in range
pub record MayUnit (table : TableView) (seat : ℕ) : Type 0 where
  pub there : word_in (asked (seat_at table seat)) < length table.words
  pub valid : IsValid (seat_at table seat).post
  pub ready : IsCallReady (seat_at table seat).phase (seat_at table seat).post (seat_at table seat).desk
  pub noted : NotesFit (seat_at table seat).post (seat_at table seat).desk
  pub plausible : IsCallPlausible (seat_at table seat).phase (seat_at table seat).post (found_by table seat)

-- a seat of a World, as code keeps it
abbrev pub shown : Local → SeatView
shown l = record { phase = l.phase; post = l.post; desk = kept_desk l.desk }

-- the same, with the list that is the seat's own
abbrev pub shown_in : World → ℕ → SeatView
shown_in w i = record { phase = (w.seat i).phase; post = (w.seat i).post; desk = record (kept_desk (w.seat i).desk) { list = list_in w i } }

-- the table's words are the World's memory, and its seats are the World's
pub record Shows (table : TableView) (w : World) : Type 0 where
  pub layout : w.layout ≡ table.layout
  pub count : length table.words ≡ words table.layout
  pub mem : w.mem ≡ memory table.layout table.words
  pub seats : (i : ℕ) → shown_in w i ≡ seat_at table i

-- a phase's step that finds this takes over the list of seat k
abbrev pub takes_from : Phase → (found k : ℕ) → Bool
takes_from (Works (Keeping (TakeList place))) found k = if found == 1 then k == place else false
takes_from phase found k = false

-- where lists are about a step of seat i: it keeps its own before and after it, that which it takes over is another
-- seat's, of the table, and kept there, and no other list changes hands
pub record ListsStay (w : World) (i : ℕ) : Type 0 where
  pub own : list_in w i ≡ (w.seat i).desk.list
  pub place : (place : ℕ) → (w.seat i).phase ≡ Works (Keeping (TakeList place)) → place < w.layout.config.seats
  pub left : (place : ℕ) → (w.seat i).phase ≡ Works (Keeping (TakeList place)) → finds w i ≡ 1 → (place == i) ≡ false
  pub gift : (place : ℕ) → (w.seat i).phase ≡ Works (Keeping (TakeList place)) → finds w i ≡ 1 → list_in w place ≡ (w.seat place).desk.list
  pub keeps : list_in (step w i) i ≡ ((step w i).seat i).desk.list
  pub others : (k : ℕ) → (k == i) ≡ false → list_in (step w i) k ≡ (if takes_from (w.seat i).phase (finds w i) k then [] else list_in w k)

-- the table, the events and the answer are those of a step of the World
pub record IsStep (table : TableView) (w : World) (seat : ℕ) (told : List Event) (answer : Option Answer) : Type 0 where
  pub shows : Shows table (step w seat)
  pub told_is : told ≡ told_in w seat
  pub answer_is : answer ≡ answer_in (turn (offered w seat) (finds w seat)).outcome

-- a call that has answered is over
abbrev pub phase_left : Option Answer → Phase → Phase
phase_left None phase = phase
phase_left (Some answer) phase = Idle

-- the seat whose code has these
abbrev pub seat_left : Option Answer → Phase → Post → HeldDesk → SeatView
seat_left answer phase post held = record { phase = phase_left answer phase; post = post; desk = desk_of held }

-- post, desk, events, answer and phase are what a turn leaves of a seat
pub record Leaves (t : CallTurn) (post : Post) (held : HeldDesk) (told : List Event) (answer : Option Answer) (phase : Phase) : Type 0 where
  pub seat_is : seat_left answer phase post held ≡ seat_after t
  pub told_is : told ≡ told_by t
  pub answer_is : answer ≡ answer_in t.outcome
