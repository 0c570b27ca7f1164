-- The rule of the shared table: a history comes to the World that words and views show.
use Rattle.std.specs.Prelude.{All, Bool, List, None, Option, count_by, false, if◌then◌else◌, length, nat_lt, sum_by, true, ℕ, ◌++◌, ◌+◌, ◌<◌, ◌==◌, ◌≡◌, ◌≢◌, ◌≤◌, ◌⊎◌}
use mathlib.Core.Option.{some}
use mathlib.Core.Option.{Option as Home}
use lib.ListN.{get_elem?}
use Rattle.atomic_table.specs.Table.{State}
use Rattle.wfe_core.specs.words.Place.{is_valid, words}
use Rattle.wfe_core.specs.words.declared.layout.Layout.{Layout}
use Rattle.wfe_drive_rule.specs.declared.kept.Kept.{Kept}
use Rattle.wfe_core.specs.Calls.{Keeping, MarkTaken, Phase, Works}
use Rattle.wfe_core.specs.Locals.{fresh}
use Rattle.wfe_core.specs.World.{World, is_here, list_in}
use Rattle.wfe_core.specs.words.Place.Place.{PlaceOf}
use Rattle.wfe_drive_cells.specs.Memory.{memory}
use Rattle.law_reuse.specs.history.History.{Begins, Item, Steps, world_of}
use Rattle.wfe_drive_rule.specs.Spots.{shown, slot_at, spots}
use Rattle.wfe_drive_rule.specs.Views.{Track, View, seat_of, slot_left}

-- how many of these tracks are the seat's
abbrev pub times : ℕ → List Track → ℕ
times seat tracks = count_by (λ track. seat_of track == seat) tracks

-- how many of the view's tracks are the seat's
abbrev pub had : ℕ → View → ℕ
had seat view = times seat view.tracks

-- the same of a view that has its slot, and 0 of another
abbrev pub held : ℕ → View → ℕ
held seat view = if view.holds then times seat view.tracks else 0

-- the seat's next step marks the list of this place as taken over
abbrev pub marks_at : Phase → (place : ℕ) → Bool
marks_at (Works (Keeping (MarkTaken at count))) place = at == place
marks_at phase place = false

-- how many of these tracks do
abbrev pub markings : ℕ → List Track → ℕ
markings place tracks = count_by (λ track. marks_at track.local.phase place) tracks

abbrev pub marking : ℕ → View → ℕ
marking place view = markings place view.tracks

-- how often the view has the seat's slot: as its own, and between taking over the list in it and marking that
abbrev pub taken : ℕ → View → ℕ
taken seat view = held seat view + marking seat view

-- how many tracks the view has in all
abbrev pub size : View → ℕ
size view = length view.tracks

-- how many seats it says were made
abbrev pub counted : View → ℕ
counted view = view.made

-- the seat whose call begins by the item, or whose step it is
abbrev pub item_seat : Item → ℕ
item_seat (Begins seat call) = seat
item_seat (Steps seat) = seat

-- none of the items is the seat's
abbrev pub NoneOf : (seat : ℕ) → List Item → Type 0
NoneOf seat items = All (λ item. (seat == item_seat item) ≡ false) items

-- these items begin the history
abbrev pub Opens : List Item → List Item → Type 0
Opens items past = (more : List Item) × (items ≡ past ++ more)

-- the seat stands in the World that a history comes to as its own last step left it
pub record Follows (layout : Layout) (items : List Item) (track : Track) : Type 0 where
  -- the seat's past begins the history, which has none of the seat's items beyond it
  pub more : List Item
  pub begins : items ≡ track.past ++ more
  pub alone : NoneOf (seat_of track) more
  -- the seat stands where its past left it, in the World of that past and in that of the history
  pub stood : (world_of layout track.past).seat (seat_of track) ≡ track.local
  pub stands : (world_of layout items).seat (seat_of track) ≡ track.local

-- the seats that were made are those below the count, each in one place
pub record Numbered (layout : Layout) (views : List View) (made : ℕ) : Type 0 where
  -- some seats were made, and no more than the table has
  pub some_made : 1 ≤ made
  pub most : made ≤ layout.config.seats
  -- each number below the count has one place in one view, and no view has another
  pub once : (seat : ℕ) → sum_by (had seat) views ≡ (if nat_lt seat made then 1 else 0)
  pub all : sum_by size views ≡ made
  -- just one view says the count, since each says that or 0
  pub says : (id : ℕ) (view : View) → get_elem? views id ≡ some view → (view.made ≡ 0) ⊎ (view.made ≡ made)
  pub sum : sum_by counted views ≡ made

-- what the slot of a seat holds at home: the list of a seat that has left, until another takes that over; else nothing
pub record AtHome (layout : Layout) (w : World) (seat : ℕ) (kept : Option Kept) : Type 0 where
  pub left : w.mem (PlaceOf seat) ≡ 1 → (first : Bool) × (kept ≡ slot_left (record { lives = list_in w seat; slots = layout.config.slots }) first)
  pub clear : w.mem (PlaceOf seat) ≢ 1 → kept ≡ None

-- it is at home, and holds that
pub record IsHome (layout : Layout) (w : World) (homes : List (Home (Option Kept))) (seat : ℕ) : Type 0 where
  pub kept : Option Kept
  pub there : get_elem? homes (slot_at seat) ≡ some (some kept)
  pub holds : AtHome layout w seat kept

-- the seat of this track has not left
abbrev pub IsHere : World → Track → Type 0
IsHere w track = is_here w (seat_of track) ≡ true

-- what holds of words, slots and views between any two steps of the table
pub record Rules (layout : Layout) (list : List ℕ) (homes : List (Home (Option Kept))) (views : List View) : Type 0 where
  -- the setting is valid
  pub valid : is_valid layout ≡ true
  -- there are as many words as the layout has
  pub count : length list ≡ words layout
  -- calls began and steps were made, so that the words are the memory of the World that they come to
  pub items : List Item
  pub mem : (world_of layout items).mem ≡ memory layout list
  -- each seat of a view stands in that World as the view says, and its past begins these items
  pub tracks : (id : ℕ) (view : View) → get_elem? views id ≡ some view → All (Follows layout items) view.tracks
  -- what a view has heard begins them too
  pub heard : (id : ℕ) (view : View) → get_elem? views id ≡ some view → Opens items view.heard
  -- a seat that no view has has made no call
  pub unmade : (seat : ℕ) → sum_by (had seat) views ≡ 0 → (world_of layout items).seat seat ≡ fresh layout seat
  pub none : (seat : ℕ) → sum_by (had seat) views ≡ 0 → NoneOf seat items
  -- the seats that were made are numbered, and one view says how many they are
  pub made : ℕ
  pub numbers : Numbered layout views made
  -- a seat whose view has its slot has not left
  pub here : (id : ℕ) (view : View) → get_elem? views id ≡ some view → view.holds ≡ true → All (IsHere (world_of layout items)) view.tracks
  -- each slot that no view has is at home
  pub home : (seat : ℕ) → seat < layout.config.seats → sum_by (taken seat) views ≡ 0 → IsHome layout (world_of layout items) homes seat

-- the same of a table as plain data, whose words lie by number
abbrev pub ByNumber : Layout → State (Option Kept) View → Type 0
ByNumber layout state = Rules layout state.words state.homes state.views

-- a table whose words lie by spot, as it is shown by number
abbrev pub by_number : Layout → State (Option Kept) View → State (Option Kept) View
by_number layout state = record { words = shown layout state.words; homes = state.homes; views = state.views }

-- what holds of the table as plain data, whose words lie by spot: the block has that length, and what it shows meets the rule
abbrev pub Holds : Layout → State (Option Kept) View → Type 0
Holds layout state = (length state.words ≡ spots layout) × ByNumber layout (by_number layout state)
