-- What else the invariant says of a World: how long protections and moves of the clock take, that the clock waits for pending
-- requests, and what the words show of the map and of the queue.
use Rattle.std.specs.Prelude.{ℕ, ◌≡◌, ◌<◌, ◌+◌, length}
use Rattle.inv_ends.specs.model.words.Place.Place.{Head, Row}
use Rattle.inv_ends.specs.model.World.{World}
use Rattle.inv_ends.specs.requests.Paces.{InTime, MovesOn}
use Rattle.inv_ends.specs.requests.Pending.{Pending}
use Rattle.inv_all.specs.Contents.Buckets.{BucketShows}
use Rattle.inv_all.specs.Contents.Gives.{QueueCounts}
use Rattle.inv_all.specs.Inv.{Inv}

pub record Timely (w : World) (k : ℕ) : Type 0 where
  -- a protection has made no more steps than it may, and each step of a move of the clock leaves fewer
  pub protects : InTime w k
  pub moves : MovesOn w k
  -- while the seat's request is pending the clock is at most one above the first value that it loaded
  pub pending : Pending w k

abbrev pub InvTimes : Type 0
InvTimes = (w : World) (k : ℕ) → k < w.layout.config.seats → Inv w → Timely w k

pub record WordsShow (w : World) : Type 0 where
  -- a bucket's root is null exactly while nothing was changed, else it leads to the row of the last version and its pairs
  pub buckets : (b : ℕ) → BucketShows w b
  -- no more was taken than queued
  pub counts : QueueCounts w
  -- where the head's row has no next link, all that was queued was taken
  pub empty : (h : ℕ) → w.mem Head ≡ h + 1 → w.mem (Row h 0) ≡ 0 → w.book.taken ≡ length w.book.queued

abbrev pub InvShows : Type 0
InvShows = (w : World) → Inv w → WordsShow w
