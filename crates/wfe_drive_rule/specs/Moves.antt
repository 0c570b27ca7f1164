-- What a handle learns by a step of its seat, and how handles take and give their slots, are made and are joined.
use Rattle.std.specs.Prelude.{Bool, List, MatchBool, None, Option, [], false, true, ℕ, ◌++◌, ◌+◌, ◌==◌, ◌∷◌, ◌≡◌}
use Rattle.atomic_table.specs.Table.{Step, rest}
use Rattle.wfe_core.specs.words.declared.layout.Layout.{Layout}
use Rattle.wfe_drive_rule.specs.declared.kept.Kept.{Kept}
use Rattle.wfe_core.specs.Calls.{Keeping, TakeList, Works}
use Rattle.wfe_core.specs.defs.declared.lifetime.Lifetime.{Lifetime}
use Rattle.wfe_core.specs.Locals.{Local, after, asks}
use Rattle.wfe_core.specs.World.{finds, offered}
use Rattle.wfe_drive_cells.specs.Operations.{answer_of}
use Rattle.wfe_drive_cells.specs.Unit.{kept_desk}
use Rattle.law_reuse.specs.history.History.{Item, Steps, world_of}
use Rattle.wfe_drive_rule.specs.Spots.{slot_at}
use Rattle.wfe_drive_rule.specs.Rule.{Opens}
use Rattle.wfe_drive_rule.specs.Views.{Handle, Track, View, bare_view, fresh_track, own, seat_of, slot_left, standing, tidings}

-- the view with another own seat, and no other
abbrev pub with_own : View → Track → View
with_own view track = record { made = view.made; tracks = track ∷ []; holds = view.holds; heard = view.heard }

-- the view of a handle that has its slot
abbrev pub slotted : View → View
slotted view = record { made = view.made; tracks = view.tracks; holds = true; heard = view.heard }

-- the seat as it makes a step that takes over no list
abbrev pub keeping : Local → Local
keeping l = record l { desk = kept_desk l.desk }

-- a step of the handle's seat that answered `found`
pub record Told (layout : Layout) (handle : Handle) (found : ℕ) (view : View) : Type 0 where
  -- the history so far, which begins with the seat's past
  pub items : List Item
  pub more : List Item
  pub begins : items ≡ (own handle.0).past ++ more
  -- the seat stands in its World with its call begun, and the step found what that World's seat finds
  pub stands : (world_of layout items).seat (seat_of (own handle.0)) ≡ standing handle
  pub found_is : found ≡ finds (world_of layout items) (seat_of (own handle.0))
  -- the seat is then where that leaves it, with the list that it takes over if it takes one, and its past is that history with the step
  pub to : view ≡ with_own handle.0 (record { local = after (offered (world_of layout items) (seat_of (own handle.0))) found; past = items ++ Steps (seat_of (own handle.0)) ∷ [] })

-- a handle's step, by what it found in the word
pub record Stepped (handle : Handle) (word : ℕ) (later : Handle) : Type 0 where
  pub told : Told (own handle.0).local.post.layout handle (answer_of (asks (standing handle)) word) later.0
  pub slots : later.1 ≡ handle.1

-- one step of the table, of whichever kind
abbrev pub StepsOnce : Step (Option Kept) → Handle → ℕ → Handle → Type 0
StepsOnce step = Stepped

-- a step by which the seat leaves: its slot goes home, with what it holds
pub record HandsOver (handle : Handle) (word : ℕ) (later : Handle) : Type 0 where
  pub told : Told (own handle.0).local.post.layout handle word (slotted later.0)
  pub gone : later.0.holds ≡ false
  pub slots : later.1 ≡ rest handle.1

-- the list that the seat takes over: its place's slot comes with it
pub record IsTaken (handle : Handle) (gift : List Lifetime) (later : Handle) : Type 0 where
  pub place : ℕ
  pub at : (standing handle).phase ≡ Works (Keeping (TakeList place))
  pub first : Bool
  pub slots : later.1 ≡ (slot_at place, slot_left (record { lives = gift; slots = (own handle.0).local.post.layout.config.slots }) first) ∷ handle.1

-- a step by which it takes over a list, if it finds one that was left
pub record TakesOver (handle : Handle) (word : ℕ) (later : Handle) : Type 0 where
  pub told : Told (own handle.0).local.post.layout handle word later.0
  pub slots : MatchBool (word == 1) (IsTaken handle (offered (world_of (own handle.0).local.post.layout told.items) (seat_of (own handle.0))).desk.gift later) (later.1 ≡ handle.1)

-- a step by which it marks that: the place's slot goes home
pub record MarksOver (handle : Handle) (word : ℕ) (later : Handle) : Type 0 where
  pub told : Told (own handle.0).local.post.layout handle word later.0
  pub slots : later.1 ≡ rest handle.1

-- the same as what a store answers, which is no word
abbrev pub Hands : Step (Option Kept) → Handle → ℕ → Handle → Type 0
Hands step handle word later = HandsOver handle 0 later

abbrev pub Adopts : Step (Option Kept) → Handle → ℕ → Handle → Type 0
Adopts step = TakesOver

abbrev pub Marks : Step (Option Kept) → Handle → ℕ → Handle → Type 0
Marks step handle word later = MarksOver handle 0 later

-- the own seat's slot is taken, and holds no call
abbrev pub Takes : Step (Option Kept) → Handle → ℕ → Handle → Type 0
Takes step handle word later = later ≡ (slotted handle.0, (slot_at (seat_of (own handle.0)), None) ∷ [])

-- the view of a handle without its slot
abbrev pub bared : View → View
bared view = record { made = view.made; tracks = view.tracks; holds = false; heard = view.heard }

-- the slot is given back
abbrev pub Gives : Step (Option Kept) → Handle → ℕ → Handle → Type 0
Gives step handle word later = later ≡ (bared handle.0, [])

-- the handle that counts has counted one seat more
abbrev pub one_more : View → View
one_more view = record { made = view.made + 1; tracks = view.tracks; holds = view.holds; heard = view.heard }

-- a handle of the next seat
abbrev pub newcomer : View → View
newcomer view = bare_view 0 (fresh_track (own view).local.post.layout view.made)

-- a handle takes in another, and its seats come after its own
abbrev pub taken_in : View → View → View
taken_in view other = record { made = view.made + other.made; tracks = view.tracks ++ other.tracks; holds = false; heard = [] }

-- a handle that tells how far its seat's history is known
abbrev pub same_view : View → View
same_view view = view

abbrev pub told_of : View → View
told_of view = tidings (own view).past

-- a handle hears what another tells
abbrev pub hearing : View → View → View
hearing view other = record { made = view.made; tracks = view.tracks; holds = view.holds; heard = other.heard }

-- the seat with a longer past
abbrev pub aware : View → List Item → View
aware view items = record { made = view.made; tracks = (record { local = (own view).local; past = items }) ∷ []; holds = view.holds; heard = [] }

-- from now on the seat's past is a history that begins with what it was and with what the handle has heard
pub record Learns (layout : Layout) (handle later : Handle) : Type 0 where
  pub items : List Item
  pub to : later ≡ (aware handle.0 items, handle.1)
  pub grows : Opens items (own handle.0).past
  pub knows : Opens items handle.0.heard
  pub stood : (world_of layout items).seat (seat_of (own handle.0)) ≡ (own handle.0).local

abbrev pub Hears : Step (Option Kept) → Handle → ℕ → Handle → Type 0
Hears step handle word later = Learns (own handle.0).local.post.layout handle later
