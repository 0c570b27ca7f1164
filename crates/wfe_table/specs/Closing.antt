-- What a shared table leaves when it is closed, and what comes back where it is not.
use Rattle.std.specs.Prelude.{All, Contains, List, false, length, map, ℕ, ◌+◌, ◌<◌, ◌≡◌, ◌≤◌}
use Rattle.wfe_core.specs.words.declared.layout.Layout.{Layout}
use Rattle.wfe_core.specs.World.{is_busy}
use Rattle.law_bounds.specs.all.RunLaw.{AtClose, RunLaw}
use Rattle.law_bounds.specs.all.RunOrder.{RunOrder}
use Rattle.law_bounds.specs.all.Runs.{logs_of}
use Rattle.law_bounds.specs.Waits.{ClosesFew}
use Rattle.wfe_table_end.specs.ClosedTable.{IsClosed, Reaches}
use Rattle.wfe_table_end.specs.Contents.{IsRead, filling_of}
use Rattle.wfe_table_end.specs.declared.closed.Closed.{Closed}
use Rattle.wfe_drive_rule.specs.Rule.{Follows}
use Rattle.wfe_drive_rule.specs.Views.{Track, seat_of}
use Rattle.wfe_drive_rule.specs.history.History.{Item, record_of, world_of}
use Rattle.wfe_table.specs.Public.{SeatNow, TableNow}
use Rattle.wfe_table.specs.declared.close.CloseError.{CloseError}
use Rattle.wfe_table.specs.declared.close.CloseError.TheVariants as errors
use Rattle.wfe_table.specs.declared.close_left.CloseLeftError.{CloseLeftError}
use Rattle.wfe_table.specs.declared.close_left.CloseLeftError.TheVariants as left_errors

abbrev pub track_of : SeatNow → Track
track_of seat = seat.track

-- what is answered, as the law of runs reads it
abbrev pub closing_of : Closed → AtClose
closing_of closed = record { clock = closed.clock; buckets = map filling_of closed.buckets.items; queue = closed.queue.items; used = closed.used.items }

pub record IsLeft (layout : Layout) (tracks : List Track) (closed : Closed) : Type 0 where
  -- the words of the table at its end, and a history that comes to them
  pub list : List ℕ
  pub items : List Item
  pub reaches : Reaches layout list items
  -- the seats are all that the table has, one of each number; each stands in that World as it did when it was handed in, its past begins that history,
  -- and no call is under way
  pub all : length tracks ≡ layout.config.seats
  pub numbers : (seat : ℕ) → seat < layout.config.seats → (track : Track) × Contains tracks track × (seat_of track ≡ seat)
  pub follow : All (Follows layout items) tracks
  pub idle : (seat : ℕ) → is_busy (world_of layout items) seat ≡ false
  -- what is answered is what the words show, and what the record of that history says
  pub read : IsRead layout list closed
  pub closed_is : IsClosed layout (record_of layout items) closed
  -- what the calls of all seats were answered, each seat's in their order, meets the law of runs with it
  pub run : RunLaw layout.config (logs_of layout items) (closing_of closed)
  -- and they are in one order, as of a map and a queue used by one call after another, which come to what is answered
  pub order : RunOrder layout.config (logs_of layout items) (closing_of closed)
  -- No row is lost: just as many are taken as buckets were changed, values are left with the dummy, and rows wait on the lists, those of
  -- seats that left and were not taken over among them; no row is twice among these. Under hazard pointers the lists have at most one row for
  -- each guard and `every` but one, for each seat, beside those that came with lists that were taken over since the last scans.
  pub rows : ClosesFew layout items (closing_of closed)

-- fewer seats than the table has; or enough of them, and memory ran out
abbrev pub IsHandedBack : TableNow → List SeatNow → CloseError → Type 0
IsHandedBack shared seats (errors.SeatMissing table handed place) = (length seats < shared.layout.config.seats) × (place ≡ length seats) × (table ≡ shared) × (handed.items ≡ seats)
IsHandedBack shared seats (errors.NoMemory table handed) = (shared.layout.config.seats ≤ length seats) × (table ≡ shared) × (handed.items ≡ seats)

-- the same where some seats have left
abbrev pub IsLeftBack : TableNow → List SeatNow → List SeatNow → CloseLeftError → Type 0
IsLeftBack shared seats left (left_errors.SeatMissing table handed gone place) = (length seats + length left < shared.layout.config.seats) × (place ≡ length seats + length left) × (table ≡ shared) × (handed.items ≡ seats) × (gone.items ≡ left)
IsLeftBack shared seats left (left_errors.NoMemory table handed gone) = (shared.layout.config.seats ≤ length seats + length left) × (table ≡ shared) × (handed.items ≡ seats) × (gone.items ≡ left)
