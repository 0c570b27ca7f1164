-- What a handle of the shared table knows: a seat with its past, and the seats that it has taken in.
use Rattle.std.specs.Prelude.{Bool, List, None, Option, Some, [], false, true, ℕ, ◌∷◌}
use Rattle.atomic_table.specs.Table.{Me}
use Rattle.wfe_core.specs.words.declared.config.SchemeKind.TheVariants.{He}
use Rattle.wfe_core.specs.words.declared.layout.Layout.{Layout}
use Rattle.wfe_core.specs.Held.{ListHeld}
use Rattle.wfe_core.specs.defs.declared.call.Call.{Call}
use Rattle.wfe_core.specs.defs.declared.call.Call.TheVariants as names
use Rattle.wfe_core.specs.Locals.{Local, begun, fresh}
use Rattle.law_reuse.specs.history.History.{Begins, Item}
use Rattle.wfe_drive_rule.specs.declared.kept.Kept.{Kept}
use Rattle.wfe_drive_rule.specs.declared.kept.Kept.TheVariants.{Begun, Left}

-- a seat's local state, and the history up to its own last step
pub record Track : Type 0 where
  pub local : Local
  pub past : List Item

-- how many seats were made, and 0 where the handle does not say; the seats that it has, its own first and after it those that
-- it has taken in; whether it has its own seat's slot; and how far it has heard that the history goes
pub record View : Type 0 where
  pub made : ℕ
  pub tracks : List Track
  pub holds : Bool
  pub heard : List Item

-- a handle: what it knows, and the slots that it has
abbrev pub Handle : Type 0
Handle = Me (Option Kept) View

-- the seat's number
abbrev pub seat_of : Track → ℕ
seat_of track = track.local.post.seat

-- a seat that has made no call
abbrev pub fresh_track : Layout → ℕ → Track
fresh_track layout seat = record { local = fresh layout seat; past = [] }

-- a handle of one seat, without its slot
abbrev pub bare_view : ℕ → Track → View
bare_view made track = record { made = made; tracks = track ∷ []; holds = false; heard = [] }

-- the first handle, which counts the seats that are made
abbrev pub first_view : Layout → View
first_view layout = bare_view 1 (fresh_track layout 0)

-- what is left of a handle that another has taken in
abbrev pub spent : View
spent = record { made = 0; tracks = []; holds = false; heard = [] }

-- a handle without a seat, which says how far a history is known
abbrev pub tidings : List Item → View
tidings past = record { made = 0; tracks = []; holds = false; heard = past }

-- a seat of no table, for a spent handle
abbrev pub no_track : Track
no_track =
    fresh_track
    (record {
      config = record { scheme = He; seats = 0; indexes = 0; slots = 0; buckets = 0; tries = 0; every = 0; last_era = 0; last_version = 0; pairs = 0 };
    })
    0

-- the first of these tracks
abbrev pub first_of : List Track → Track
first_of [] = no_track
first_of (track ∷ tracks) = track

-- the handle's own seat
abbrev pub own : View → Track
own view = first_of view.tracks

-- the call that a slot holds, which has begun and has made no step yet: it holds that, or nothing; or the list that a seat leaves,
-- and then a leave if that has made no step
abbrev pub leave_if : (first : Bool) → Option Call
leave_if true = Some names.Leave
leave_if false = None

abbrev pub call_of : Option Kept → Option Call
call_of None = None
call_of (Some (Begun call)) = Some call
call_of (Some (Left list first)) = leave_if first

-- the call in the first of these slots
abbrev pub call_in : List (ℕ × Option Kept) → Option Call
call_in [] = None
call_in (slot ∷ slots) = call_of slot.1

-- a slot with this call, or with none
abbrev pub slot_of : Option Call → Option Kept
slot_of None = None
slot_of (Some call) = Some (Begun call)

-- a slot with a list that was left
abbrev pub slot_left : ListHeld → (first : Bool) → Option Kept
slot_left list first = Some (Left list first)

-- the seat with the call of its slot begun
abbrev pub entered : Local → Option Call → Local
entered local None = local
entered local (Some call) = begun local call

-- the item by which that call begins
abbrev pub entry : ℕ → Option Call → List Item
entry seat None = []
entry seat (Some call) = Begins seat call ∷ []

-- where the handle's own seat stands
abbrev pub standing : Handle → Local
standing handle = entered (own handle.0).local (call_in handle.1)
