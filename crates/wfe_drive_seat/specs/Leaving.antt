-- What a seat between calls lets go in one step of a call by which it leaves, as if that step were a call of its own.
use Rattle.std.specs.Prelude.{Bool, List, Some, [], false, not, slice_get, slice_index_or, slice_set, take, true, ℕ, ◌++◌, ◌≡◌, ◌≤◌}
use Rattle.wfe_core.specs.defs.declared.call.Call.TheVariants as names
use Rattle.wfe_core.specs.defs.declared.event.Event.{Event}
use Rattle.wfe_core.specs.defs.declared.lifetime.Lifetime.{Lifetime}
use Rattle.wfe_core.specs.words.declared.layout.Layout.{Layout}
use Rattle.wfe_core.specs.CallReady.{NotListed}
use Rattle.wfe_core.specs.Calls.{CallTurn, Idle, Keeping, MarkLeft, Phase, Works}
use Rattle.wfe_core.specs.Desks.{no_notes}
use Rattle.wfe_drive_cells.specs.Operations.{answered, performed}
use Rattle.wfe_drive_cells.specs.Unit.{SeatView, asked, begun_seat, fresh_seat, turned}

-- the seat as a call begins by which it leaves
abbrev pub leaving : SeatView → SeatView
leaving seat = begun_seat seat names.Leave

-- nothing is left to let go: the seat's place is to be marked
abbrev pub is_marking : Phase → Bool
is_marking (Works (Keeping MarkLeft)) = true
is_marking phase = false

abbrev pub lets_go : SeatView → Bool
lets_go seat = not (is_marking (leaving seat).phase)

-- the call's first step on these words
abbrev pub let_turn : SeatView → List ℕ → CallTurn
let_turn seat list = turned (leaving seat) (answered list (asked (leaving seat)))

-- the seat after a call that was this step alone
abbrev pub let_seat : CallTurn → SeatView
let_seat t = record { phase = Idle; post = t.post; desk = record t.desk { notes = record no_notes { steps = 1 } } }

-- the seat, the words and the events where it is made, and where it is not
abbrev pub seat_let : (more : Bool) → SeatView → List ℕ → SeatView
seat_let true seat list = let_seat (let_turn seat list)
seat_let false seat list = seat

abbrev pub words_let : (more : Bool) → SeatView → List ℕ → List ℕ
words_let true seat list = performed list (asked (leaving seat))
words_let false seat list = list

abbrev pub told_let : (more : Bool) → SeatView → List ℕ → List Event
told_let true seat list = (let_turn seat list).told
told_let false seat list = []

-- a seat whose list another takes over, and that other one
abbrev pub given_seat : SeatView → SeatView
given_seat seat = record seat { desk = record seat.desk { list = [] } }

abbrev pub gaining_seat : List Lifetime → SeatView → SeatView
gaining_seat gift seat = record seat { desk = record seat.desk { list = seat.desk.list ++ gift; notes = no_notes } }

-- the seats once so many lives of one seat's list went to the end of another's
abbrev pub seat_in : Layout → List SeatView → ℕ → SeatView
seat_in layout views seat = slice_index_or views seat (fresh_seat layout seat)

abbrev pub taking_seat : List Lifetime → SeatView → SeatView
taking_seat gift seat = record seat { desk = record seat.desk { list = seat.desk.list ++ gift } }

abbrev pub moved_views : Layout → List SeatView → (from to count : ℕ) → List SeatView
moved_views layout views from to count = slice_set views to (taking_seat (take count (seat_in layout views from).desk.list) (seat_in layout views to))

-- each of them can be added
abbrev pub MayMove : Layout → List SeatView → (from to : ℕ) → Type 0
MayMove layout views from to =
    (place : ℕ) (life : Lifetime) → slice_get (seat_in layout views from).desk.list place ≡ Some life
    → (life.slot ≤ (seat_in layout views to).post.layout.config.slots) × NotListed life.slot ((seat_in layout views to).desk.list ++ take place (seat_in layout views from).desk.list)

-- all of them went, and the notes are cleared
abbrev pub joined_views : Layout → List SeatView → (from to : ℕ) → List SeatView
joined_views layout views from to = slice_set (slice_set views to (gaining_seat (seat_in layout views from).desk.list (seat_in layout views to))) from (given_seat (seat_in layout views from))
