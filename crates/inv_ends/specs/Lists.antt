-- What steps tell of retire lists: that a seat leaves its list, and that another takes it over.
use Rattle.std.specs.Prelude.{ℕ, ◌≡◌, ◌==◌, ◌++◌, Bool, true, false, if◌then◌else◌, List, [], ◌∷◌, length}
use Rattle.std.specs.List.{filter}
use Rattle.inv_rows.specs.words.Place.Place.{PlaceOf}
use Rattle.inv_rows.specs.defs.declared.call.Answer.TheVariants as answers
use Rattle.inv_rows.specs.defs.declared.event.Event.{Event}
use Rattle.inv_rows.specs.defs.declared.event.Event.TheVariants as events
use Rattle.inv_rows.specs.model.Calls.{KeepAt, MarkLeft, MarkTaken, TakeList, Work, Keeping, Phase, Works}
use Rattle.inv_rows.specs.model.Keep.{not_taken}
use Rattle.inv_rows.specs.model.Posts.{counted}
use Rattle.inv_rows.specs.model.World.{World, finds, list_in, offered, step, told_in}
use Rattle.inv_rows.specs.Rows.RowMove.{Adopts}
use Rattle.inv_ends.specs.Told.{move_of}

abbrev pub is_of_lists : Event → Bool
is_of_lists (events.Left count) = true
is_of_lists (events.Adopted place count) = true
is_of_lists event = false

-- what a step that found this tells of lists, where its seat's list and the one that it may take over have so many entries
abbrev pub keep_lists : KeepAt → (found own gift : ℕ) → List Event
keep_lists MarkLeft found own gift = events.Left own ∷ []
keep_lists (TakeList place) found own gift = if found == 1 then events.Adopted place gift ∷ [] else []
keep_lists at found own gift = []

abbrev pub work_lists : Work → (found own gift : ℕ) → List Event
work_lists (Keeping at) found own gift = keep_lists at found own gift
work_lists work found own gift = []

abbrev pub list_events : Phase → (found own gift : ℕ) → List Event
list_events (Works work) found own gift = work_lists work found own gift
list_events phase found own gift = []

-- a step tells of lists just this
abbrev pub ListsTold : Type 0
ListsTold =
    (w : World) (i : ℕ)
    → filter is_of_lists (told_in w i) ≡ list_events (w.seat i).phase (finds w i) (length (w.seat i).desk.list) (length (offered w i).desk.gift)

-- a step that leaves the seat's list tells so, and then that its call has ended
abbrev pub LeftTold : Type 0
LeftTold =
    (w : World) (i : ℕ)
    → (w.seat i).phase ≡ Works (Keeping MarkLeft)
    → told_in w i ≡ events.Left (length (w.seat i).desk.list) ∷ events.End (counted (w.seat i).post).steps (answers.Left (length (w.seat i).desk.list)) ∷ []

-- a step that moves rows from the list of another seat finds that list left, tells just that it takes it over, and has it at the end of
-- its own list
pub record Adopting (w : World) (i place : ℕ) : Type 0 where
  pub takes : (w.seat i).phase ≡ Works (Keeping (TakeList place))
  pub left : w.mem (PlaceOf place) ≡ 1
  pub told : told_in w i ≡ events.Adopted place (length (list_in w place)) ∷ []
  pub gains : ((step w i).seat i).desk.list ≡ (w.seat i).desk.list ++ list_in w place
  -- what it does next is to mark that list as taken over
  pub goes : ((step w i).seat i).phase ≡ Works (Keeping (MarkTaken place (length (list_in w place))))

abbrev pub AdoptsTold : Type 0
AdoptsTold = (w : World) (i place : ℕ) → move_of w i ≡ Adopts place → Adopting w i place

-- and only such a step does
abbrev pub AdoptsAlone : Type 0
AdoptsAlone = (w : World) (i place : ℕ) → (w.seat i).phase ≡ Works (Keeping (TakeList place)) → w.mem (PlaceOf place) ≡ 1 → move_of w i ≡ Adopts place

-- where no list was left there, or another seat has it, the call ends with that
abbrev pub NoneTaken : Type 0
NoneTaken =
    (w : World) (i place : ℕ)
    → (w.seat i).phase ≡ Works (Keeping (TakeList place))
    → (w.mem (PlaceOf place) == 1) ≡ false
    → told_in w i ≡ events.End (counted (w.seat i).post).steps (not_taken (w.mem (PlaceOf place))) ∷ []

-- a step that marks a list as taken over ends its call
abbrev pub MarkedTold : Type 0
MarkedTold =
    (w : World) (i place count : ℕ)
    → (w.seat i).phase ≡ Works (Keeping (MarkTaken place count))
    → told_in w i ≡ events.End (counted (w.seat i).post).steps (answers.Adopted count) ∷ []
