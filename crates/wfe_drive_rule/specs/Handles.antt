-- What holds of a table's handles between two of its steps.
use Rattle.std.specs.Prelude.{All, Bool, None, Some, [], false, true, ℕ, ◌<◌, ◌∷◌, ◌≡◌, ◌≢◌}
use Rattle.atomic_table.specs.Seated.{TableId}
use Rattle.wfe_core.specs.words.Place.{is_valid}
use Rattle.wfe_core.specs.words.declared.layout.Layout.{Layout}
use Rattle.wfe_core.specs.defs.declared.call.Call.{Call}
use Rattle.wfe_core.specs.defs.declared.call.Call.TheVariants as names
use Rattle.wfe_core.specs.Calls.{Keeping, MarkTaken, Works}
use Rattle.wfe_core.specs.Locals.{Local, busy_in, may_begin}
use Rattle.law_reuse.specs.history.History.{world_of}
use Rattle.law_reuse.specs.inv.Places.{is_leaving}
use Rattle.wfe_drive_rule.specs.Spots.{slot_at, spots}
use Rattle.wfe_drive_rule.specs.Views.{Handle, Track, call_in, own, seat_of, slot_of, standing}

-- the table has a spot for each word of the layout, and a slot for each seat
pub record IsSized (table : TableId) (layout : Layout) : Type 0 where
  pub words_are : table.words ≡ spots layout
  pub slots_are : table.slots ≡ slot_at layout.config.seats

-- a seat of the table, which stands where its past leaves it
pub record IsTracked (layout : Layout) (track : Track) : Type 0 where
  pub valid : is_valid layout ≡ true
  pub seat : seat_of track < layout.config.seats
  pub layout_is : track.local.post.layout ≡ layout
  pub stood : (world_of layout track.past).seat (seat_of track) ≡ track.local

-- the call is one that takes over another seat's list
abbrev pub adopts : Call → Bool
adopts (names.Adopt place) = true
adopts call = false

-- a call that may begin on a seat that stands so: none is under way, the last one was no leave, and the call is one that may begin
pub record MayStart (layout : Layout) (local : Local) (call : Call) : Type 0 where
  pub idle : busy_in local.phase ≡ false
  pub there : local.call ≢ names.Leave
  pub may : may_begin layout.config call ≡ true

-- a handle of one seat, which has the seat's slot; the slot holds a call only while none is under way, and one that may begin
pub record IsSeated (layout : Layout) (seat : ℕ) (handle : Handle) : Type 0 where
  pub one : handle.0.tracks ≡ own handle.0 ∷ []
  pub tracked : IsTracked layout (own handle.0)
  pub holds : handle.0.holds ≡ true
  pub number : seat ≡ seat_of (own handle.0)
  pub slots : handle.1 ≡ (slot_at seat, slot_of (call_in handle.1)) ∷ []
  pub begins : (call : Call) → call_in handle.1 ≡ Some call → MayStart layout (own handle.0).local call

-- a handle of one seat, without its slot
pub record IsBare (layout : Layout) (handle : Handle) : Type 0 where
  pub one : handle.0.tracks ≡ own handle.0 ∷ []
  pub tracked : IsTracked layout (own handle.0)
  pub holds : handle.0.holds ≡ false
  pub slots : handle.1 ≡ []

-- a handle of one seat that has the seat's slot, whatever that holds
pub record IsHeld (layout : Layout) (handle : Handle) : Type 0 where
  pub one : handle.0.tracks ≡ own handle.0 ∷ []
  pub tracked : IsTracked layout (own handle.0)
  pub holds : handle.0.holds ≡ true
  pub begins : (call : Call) → call_in handle.1 ≡ Some call → MayStart layout (own handle.0).local call

-- a handle of one seat whose next step marks the list of a place as taken over: it has that place's slot before its own, both empty
pub record IsAdopting (layout : Layout) (seat place : ℕ) (handle : Handle) : Type 0 where
  pub one : handle.0.tracks ≡ own handle.0 ∷ []
  pub tracked : IsTracked layout (own handle.0)
  pub holds : handle.0.holds ≡ true
  pub number : seat ≡ seat_of (own handle.0)
  pub slots : handle.1 ≡ (slot_at place, None) ∷ (slot_at seat, None) ∷ []
  pub marks : (count : ℕ) × ((own handle.0).local.phase ≡ Works (Keeping (MarkTaken place count)))

-- a step that moves no list: the seat does not leave by it, and its call takes over none
pub record MovesNone (local : Local) : Type 0 where
  pub stays : is_leaving local.phase ≡ false
  pub alone : adopts local.call ≡ false

-- no call of the handle's own seat is under way, and none has begun
abbrev pub IsResting : Handle → Type 0
IsResting handle = busy_in (standing handle).phase ≡ false

-- no call of the seat is under way
abbrev pub IsIdle : Track → Type 0
IsIdle track = busy_in track.local.phase ≡ false

-- a handle without a slot, all of whose seats are between calls
pub record IsGathered (handle : Handle) : Type 0 where
  pub idle : All IsIdle handle.0.tracks
  pub holds : handle.0.holds ≡ false
  pub slots : handle.1 ≡ []
