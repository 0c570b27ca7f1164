-- What the invariant says of the places of seats and of their lists, and how a step changes them.
use Rattle.std.specs.Prelude.{ℕ, ◌≡◌, ◌<◌, ◌==◌, ◌&&◌, ◌||◌, not, nat_lt, Bool, true, false, if◌then◌else◌, [], None}
use Rattle.inv_ends.specs.model.words.Place.Place.{PlaceOf}
use Rattle.inv_ends.specs.model.Calls.{Keeping, MarkLeft, MarkTaken, TakeList, Phase, Works}
use Rattle.inv_ends.specs.model.Posts.{stands}
use Rattle.inv_ends.specs.model.World.{World, is_busy, is_here, list_in, step}
use Rattle.inv_ends.specs.Told.{move_of}
use Rattle.inv_ends.specs.rows.Facts.{SeatShows}
use Rattle.inv_ends.specs.rows.Rows.{RowMove}
use Rattle.inv_ends.specs.rows.Rows.RowMove.{Adopts}
use Rattle.inv_all.specs.Inv.{Inv}

pub record PlaceShows (w : World) (k : ℕ) : Type 0 where
  -- each seat has its number; one that is busy has not left, and the list that it keeps is its own
  pub number : (w.seat k).post.seat ≡ k
  pub here : is_busy w k ≡ true → w.mem (PlaceOf k) ≡ 0
  pub own : is_busy w k ≡ true → list_in w k ≡ (w.seat k).desk.list
  -- a list that another seat has taken over is no more its own
  pub handed : 1 < w.mem (PlaceOf k) → list_in w k ≡ []
  -- no row is twice in a list, and each is one of the table's
  pub lists : SeatShows w k
  -- a list that the seat is to take over, or to mark as taken over, is that of a seat of the table; the latter is taken over
  pub takes : (place : ℕ) → (w.seat k).phase ≡ Works (Keeping (TakeList place)) → place < w.layout.config.seats
  pub marks : (place count : ℕ) → (w.seat k).phase ≡ Works (Keeping (MarkTaken place count)) → (place < w.layout.config.seats) × (1 < w.mem (PlaceOf place))
  -- nothing stands at a seat that is to leave its list
  pub bare : (w.seat k).phase ≡ Works (Keeping MarkLeft) → (j : ℕ) → stands (w.seat k).post j ≡ None

abbrev pub InvPlaces : Type 0
InvPlaces = (w : World) (k : ℕ) → Inv w → PlaceShows w k

-- what a step of seat i in this phase makes of a place word
abbrev pub placed : (i : ℕ) → Phase → (k word : ℕ) → ℕ
placed i (Works (Keeping MarkLeft)) k word = if k == i then 1 else word
placed i (Works (Keeping (TakeList place))) k word = if k == place && word == 1 then 2 else word
placed i (Works (Keeping (MarkTaken place count))) k word = if k == place then 3 else word
placed i phase k word = word

-- the next step leaves the list
abbrev pub is_leaving : Phase → Bool
is_leaving (Works (Keeping MarkLeft)) = true
is_leaving phase = false

-- the move takes over the list of this seat
abbrev pub takes_over : RowMove → ℕ → Bool
takes_over (Adopts from) k = k == from
takes_over m k = false

-- of seat k, after a step of seat i, which is busy
pub record PlaceMoves (w : World) (i k : ℕ) : Type 0 where
  pub word : (step w i).mem (PlaceOf k) ≡ placed i (w.seat i).phase k (w.mem (PlaceOf k))
  -- it is there while it was and the step is not the one by which it leaves
  pub here : is_here (step w i) k ≡ (is_here w k && not (k == i && is_leaving (w.seat i).phase))
  -- its list is taken over where it was, or where the step takes it over
  pub taken : nat_lt 1 ((step w i).mem (PlaceOf k)) ≡ (nat_lt 1 (w.mem (PlaceOf k)) || takes_over (move_of w i) k)
  -- the list of another seat stays until then, and that of seat i is the one that it keeps
  pub other : (k == i) ≡ false → list_in (step w i) k ≡ (if takes_over (move_of w i) k then [] else list_in w k)
  pub own : list_in (step w i) i ≡ ((step w i).seat i).desk.list

abbrev pub InvPlaceMoves : Type 0
InvPlaceMoves = (w : World) (i k : ℕ) → is_busy w i ≡ true → Inv w → PlaceMoves w i k
