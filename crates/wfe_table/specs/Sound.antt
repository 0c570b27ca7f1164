-- What holds of each shared table and of each seat between calls.
use Rattle.std.specs.Prelude.{List, false, length, slice_index, true, ℕ, ◌<◌, ◌≡◌}
use Rattle.wfe_core.specs.words.Place.{is_valid}
use Rattle.wfe_core.specs.Calls.{Idle}
use Rattle.wfe_core.specs.DeskHeld.{HasRoom}
use Rattle.wfe_drive_rule.specs.drive_cells.Unit.{shown}
use Rattle.law_bounds.specs.all.Logs.Versions.{Counts, met_in}
use Rattle.wfe_drive_call.specs.drive_words.Called.{at_phase}
use Rattle.wfe_drive_call.specs.drive_words.Comes.{departs}
use Rattle.wfe_drive_rule.specs.Handles.{IsResting, IsSeated, IsSized}
use Rattle.wfe_drive_rule.specs.Views.{own}
use Rattle.wfe_table.specs.declared.seat.Seat.TheInside.{Inside as SeatInside}
use Rattle.wfe_table.specs.declared.shared.Shared.TheInside.{Inside as SharedInside}

-- the list has for each bucket the version that was met
pub record IsMet (buckets : ℕ) (met : Counts) (list : List ℕ) : Type 0 where
  pub count : length list ≡ buckets
  pub each : (bucket : ℕ) → bucket < buckets → slice_index list bucket ≡ met.versions bucket

-- the words are those of the layout, which is the table's key
pub record IsWhole (s : SharedInside) : Type 0 where
  pub valid : is_valid s.layout ≡ true
  pub key : s.ledger.shared.key ≡ s.layout
  pub sized : IsSized s.ledger.shared.table_id s.layout

-- the handle has its own seat with its slot, and no call; post and desk are those of the seat's state, and the versions seen those
-- that the seat's log tells
pub record IsSound (s : SeatInside) : Type 0 where
  pub seated : IsSeated s.post.layout s.post.seat s.handle.me
  pub resting : IsResting s.handle.me
  pub here : shown (own s.handle.me.0).local ≡ at_phase Idle s.post s.desk
  pub room : HasRoom s.desk s.post.layout
  -- it has not left
  pub there : departs (own s.handle.me.0).local.call ≡ false
  pub met : IsMet s.post.layout.config.buckets (met_in s.post.layout.config.buckets (own s.handle.me.0).local.log) s.seen.items
