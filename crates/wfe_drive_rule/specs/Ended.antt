-- What the rule says of words and views, and what is left at the end, where one handle has each seat.
use Rattle.std.specs.Prelude.{All, Contains, List, Option, false, if◌then◌else◌, length, nat_lt, sum_by, true, ℕ, ◌<◌, ◌≡◌, ◌≤◌}
use mathlib.Core.Option.{some}
use mathlib.Core.Option.{Option as Home}
use lib.ListN.{get_elem?}
use Rattle.wfe_core.specs.words.Place.{is_valid, words}
use Rattle.wfe_core.specs.words.declared.layout.Layout.{Layout}
use Rattle.wfe_core.specs.defs.declared.call.Call.{Call}
use Rattle.wfe_drive_rule.specs.declared.kept.Kept.{Kept}
use Rattle.wfe_core.specs.Locals.{fresh}
use Rattle.wfe_core.specs.World.{is_busy}
use Rattle.wfe_drive_cells.specs.Memory.{memory}
use Rattle.law_reuse.specs.history.History.{Item, world_of}
use Rattle.law_reuse.specs.inv.Inv.{Inv}
use Rattle.wfe_drive_rule.specs.Handles.{IsIdle}
use Rattle.wfe_drive_rule.specs.Rule.{Follows, Numbered, Rules, had, times}
use Rattle.wfe_drive_rule.specs.Views.{Track, View, seat_of}

-- the World that is read off words and views
pub record ShowsWorld (layout : Layout) (list : List ℕ) (views : List View) : Type 0 where
  -- a history comes to it, so it has the invariant
  pub items : List Item
  pub inv : Inv (world_of layout items)
  -- the words are its memory
  pub mem : (world_of layout items).mem ≡ memory layout list
  -- each seat of a view stands there as the view says, and its past begins that history; one that no view has has made no call
  pub tracks : (id : ℕ) (view : View) → get_elem? views id ≡ some view → All (Follows layout items) view.tracks
  pub unmade : (seat : ℕ) → sum_by (had seat) views ≡ 0 → (world_of layout items).seat seat ≡ fresh layout seat
  -- the seats that were made have the numbers below their count, which just one view says
  pub made : ℕ
  pub numbers : Numbered layout views made

-- words and views of a table between any two steps of any threads
abbrev pub SharedRule : Type 0
SharedRule = (layout : Layout) (list : List ℕ) (homes : List (Home (Option Kept))) (views : List View) → Rules layout list homes views → ShowsWorld layout list views

-- the words of a table that no thread shares any more, with these tracks
pub record Ended (layout : Layout) (list : List ℕ) (tracks : List Track) : Type 0 where
  pub valid : is_valid layout ≡ true
  pub count : length list ≡ words layout
  -- a history comes to a World whose memory the words are, and in which no call is under way
  pub items : List Item
  pub mem : (world_of layout items).mem ≡ memory layout list
  pub idle : (seat : ℕ) → is_busy (world_of layout items) seat ≡ false
  -- each seat has one track, stands there as it says, and its past begins that history
  pub follow : All (Follows layout items) tracks
  pub all : length tracks ≡ layout.config.seats
  pub once : (seat : ℕ) → times seat tracks ≡ (if nat_lt seat layout.config.seats then 1 else 0)
  pub seats : (seat : ℕ) → seat < layout.config.seats → (track : Track) × Contains tracks track × (seat_of track ≡ seat)

-- where one handle has as many seats as there are, and all are between calls
abbrev pub HandlesEnd : Type 0
HandlesEnd = (layout : Layout) (list : List ℕ) (homes : List (Home (Option Kept))) (views : List View) (id : ℕ) (view : View) → Rules layout list homes views → get_elem? views id ≡ some view
    → layout.config.seats ≤ length view.tracks → All IsIdle view.tracks → Ended layout list view.tracks
