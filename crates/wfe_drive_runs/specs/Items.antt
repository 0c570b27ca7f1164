-- What an enqueue keeps, and where it stands once a row was sought, as in the model.
use Rattle.std.specs.Prelude.{None, Option, Some, ℕ}
use Rattle.wfe_core.specs.Calls.{EnqueueKept, Enqueues, Enqueuing, ExchangeNext, Works}
use Rattle.wfe_core.specs.Change.{no_room}
use Rattle.wfe_core.specs.Desks.{Desk}
use Rattle.wfe_core.specs.declared.post.Post.{Post}
use Rattle.wfe_drive_words.specs.drive_cells.Unit.{SeatView}
use Rattle.wfe_drive_runs.specs.Pieces.{clearing_at, seat_of}
use Rattle.wfe_drive_runs.specs.declared.item.Item.{Item}

abbrev pub kept_of : Item → EnqueueKept
kept_of item = record { value = item.value; taken = item.taken; walked = item.walked; tail = item.tail; number = item.number }

-- a row was filled and is to be linked, or none was free
abbrev pub filled_at : Option ℕ → (old new : EnqueueKept) → Post → Desk → SeatView
filled_at (Some slot) old new post desk = seat_of (Works (Enqueuing new (ExchangeNext slot))) post desk
filled_at None old new post desk = clearing_at (Enqueues new) (no_room old.walked) post desk
