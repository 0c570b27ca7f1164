-- Seats whose calls leave or adopt, over what the rig knows of them.
use Rattle.std.specs.Prelude.{◌⊎◌, Bool, List, None, Option, Some, [], false, if◌then◌else◌, length, slice_index_or, true, ℕ, ◌+◌, ◌<◌, ◌==◌, ◌^◌, ◌≡◌, ◌∷◌}
use Rattle.wfe_core.specs.words.Place.{number}
use Rattle.wfe_core.specs.words.Place.Place.{PlaceOf}
use Rattle.wfe_core.specs.words.declared.layout.Layout.{Layout}
use Rattle.wfe_core.specs.defs.declared.call.Answer.{Answer}
use Rattle.wfe_core.specs.defs.declared.call.Answer.TheVariants as answers
use Rattle.wfe_core.specs.defs.declared.call.Call.{Call}
use Rattle.wfe_core.specs.defs.declared.call.Call.TheVariants as names
use Rattle.wfe_core.specs.defs.declared.event.Event.{Event}
use Rattle.wfe_core.specs.defs.declared.event.Event.TheVariants as events
use Rattle.wfe_core.specs.declared.op.Op.TheVariants as ops
use Rattle.wfe_core.specs.declared.post.Post.{Post}
use Rattle.wfe_core.specs.Calls.{Idle, Keeping, MarkTaken, TakeList, Works}
use Rattle.wfe_core.specs.Desks.{Desk, no_notes}
use Rattle.wfe_core.specs.Keep.{not_taken, parting}
use Rattle.wfe_core.specs.Locals.{busy_in}
use Rattle.wfe_drive_cells.specs.Operations.{answered, performed}
use Rattle.wfe_drive_cells.specs.Unit.{IsUnit, SeatView, TableView, after_start, is_gone, may_adopt, seat_at, with_seat}
use Rattle.wfe_drive.specs.Bare.{bare}
use Rattle.wfe_drive_seat.specs.Leaving.{lets_go, seat_let, told_let, words_let}
use Rattle.wfe_drive.specs.Leaving.{after_join}
use Rattle.wfe_leave.specs.Comes.{Comes}
use Rattle.wfe_leave.specs.declared.part.Part.{Part}
use Rattle.wfe_leave.specs.declared.part.Part.TheVariants.{Marks, Over, Parts, Stays, Takes}

-- the seat's last call is one of the rig's
abbrev pub is_stays : Part → Bool
is_stays Stays = true
is_stays part = false

-- where a call begins
abbrev pub first_part : Call → Part
first_part names.Leave = Parts 0
first_part (names.Adopt place) = Takes place
first_part call = Stays

-- the rig, where a call begins
abbrev pub table_begun : TableView → (seat : ℕ) → Call → TableView
table_begun rig seat call = if is_stays (first_part call) then after_start rig seat call else rig

-- each call is taken
abbrev pub any_call : Call → Bool
any_call call = true

-- a call is under way that leaves or adopts
abbrev pub is_open : Part → Bool
is_open Stays = false
is_open (Over steps left) = false
is_open part = true

-- the seat has left
abbrev pub is_left : Part → Bool
is_left (Over steps left) = left
is_left part = false

abbrev pub part_at : List Part → ℕ → Part
part_at parts seat = slice_index_or parts seat Stays

-- so many seats have made no call that leaves or adopts
pub record AllStay (parts : List Part) (count : ℕ) : Type 0 where
  pub many : length parts ≡ count
  pub each : (seat : ℕ) → part_at parts seat ≡ Stays

-- a seat between calls for the rig, as the model has it: its phase, the steps of its call, and what they noted
abbrev pub at_steps : ℕ → Post → Post
at_steps steps post = record post { steps = steps }

abbrev pub quiet_desk : Desk → Desk
quiet_desk desk = record desk { notes = no_notes }

abbrev pub laid_seat : Part → SeatView → SeatView
laid_seat Stays v = v
laid_seat (Parts steps) v = record { phase = parting v.post; post = at_steps steps v.post; desk = quiet_desk v.desk }
laid_seat (Takes place) v = record { phase = Works (Keeping (TakeList place)); post = at_steps 0 v.post; desk = quiet_desk v.desk }
laid_seat (Marks place count) v = record { phase = Works (Keeping (MarkTaken place count)); post = at_steps 1 v.post; desk = quiet_desk v.desk }
laid_seat (Over steps left) v = record { phase = Idle; post = at_steps steps v.post; desk = record v.desk { notes = record no_notes { steps = steps } } }

abbrev pub laid : List Part → List SeatView → List SeatView
laid [] views = views
laid (part ∷ parts) [] = []
laid (part ∷ parts) (view ∷ views) = laid_seat part view ∷ laid parts views

-- the rig's table, with each seat as the model has it
abbrev pub overlay : TableView → List Part → TableView
overlay rig parts = record { layout = rig.layout; words = rig.words; seats = laid parts rig.seats }

-- each seat has its part; one whose last call leaves or adopts makes no call of the rig's; the place words say which have
-- left; and a history comes to all of it
pub record Leaving (rig : TableView) (layout : Layout) (parts : List Part) : Type 0 where
  pub layout_is : layout ≡ rig.layout
  pub count : length parts ≡ rig.layout.config.seats
  pub seats : length rig.seats ≡ rig.layout.config.seats
  pub idle : (seat : ℕ) → is_stays (part_at parts seat) ≡ false → busy_in (seat_at rig seat).phase ≡ false
  pub gone : (seat : ℕ) → is_gone rig seat ≡ is_left (part_at parts seat)
  pub comes : Comes (overlay rig parts)

-- the rig with other words
abbrev pub with_words : TableView → List ℕ → TableView
with_words rig list = record { layout = rig.layout; words = list; seats = rig.seats }

-- the operations on place words
abbrev pub leaving_words : TableView → ℕ → List ℕ
leaving_words rig seat = performed rig.words (ops.Store (number rig.layout (PlaceOf seat)) 1)

abbrev pub taking_found : TableView → ℕ → ℕ
taking_found rig place = answered rig.words (ops.Cas (number rig.layout (PlaceOf place)) 1 2)

abbrev pub taking_words : TableView → ℕ → List ℕ
taking_words rig place = performed rig.words (ops.Cas (number rig.layout (PlaceOf place)) 1 2)

abbrev pub marking_words : TableView → ℕ → List ℕ
marking_words rig place = performed rig.words (ops.Store (number rig.layout (PlaceOf place)) 3)

abbrev pub list_count : TableView → ℕ → ℕ
list_count rig seat = length (seat_at rig seat).desk.list

-- a unit of each kind: what it leaves of the rig and of the seat's part, tells and answers
pub record Units (next : Part) (told : List Event) (answer : Option Answer) (part : Part) (events : List Event) (said : Option Answer) : Type 0 where
  pub next_is : next ≡ part
  pub told_is : told ≡ events
  pub answer_is : answer ≡ said

pub record CallUnit (old new : TableView) (seat : ℕ) (next : Part) (told : List Event) (answer : Option Answer) : Type 0 where
  pub unit : IsUnit old new seat told answer
  pub bared : IsUnit (bare old) (bare new) seat told answer
  pub adopts : may_adopt (seat_at old seat).phase ≡ false
  pub next_is : next ≡ Stays

pub record ClearUnit (old new : TableView) (seat steps : ℕ) (next : Part) (told : List Event) (answer : Option Answer) : Type 0 where
  pub more : lets_go (seat_at old seat) ≡ true
  pub table_is : new ≡ with_seat old (words_let true (seat_at old seat) old.words) seat (seat_let true (seat_at old seat) old.words)
  pub units : Units next told answer (Parts (steps + 1)) (told_let true (seat_at old seat) old.words) None

pub record LeaveUnit (old new : TableView) (seat steps : ℕ) (next : Part) (told : List Event) (answer : Option Answer) : Type 0 where
  pub none : lets_go (seat_at old seat) ≡ false
  pub table_is : new ≡ with_words old (leaving_words old seat)
  pub units : Units next told answer (Over (steps + 1) true) (events.Left (list_count old seat) ∷ events.End (steps + 1) (answers.Left (list_count old seat)) ∷ []) (Some (answers.Left (list_count old seat)))

abbrev pub PartUnit : (old new : TableView) (seat steps : ℕ) (next : Part) (told : List Event) (answer : Option Answer) → Type 0
PartUnit old new seat steps next told answer = ClearUnit old new seat steps next told answer ⊎ LeaveUnit old new seat steps next told answer

pub record AdoptUnit (old new : TableView) (seat place : ℕ) (next : Part) (told : List Event) (answer : Option Answer) : Type 0 where
  pub found : taking_found old place ≡ 1
  pub table_is : new ≡ after_join (with_words old (taking_words old place)) place seat
  pub units : Units next told answer (Marks place (list_count old place)) (events.Adopted place (list_count old place) ∷ []) None

pub record MissUnit (old new : TableView) (place : ℕ) (next : Part) (told : List Event) (answer : Option Answer) : Type 0 where
  pub found : (taking_found old place == 1) ≡ false
  pub table_is : new ≡ with_words old (taking_words old place)
  pub units : Units next told answer (Over 1 false) (events.End 1 (not_taken (taking_found old place)) ∷ []) (Some (not_taken (taking_found old place)))

abbrev pub TakeUnit : (old new : TableView) (seat place : ℕ) (next : Part) (told : List Event) (answer : Option Answer) → Type 0
TakeUnit old new seat place next told answer = AdoptUnit old new seat place next told answer ⊎ MissUnit old new place next told answer

pub record MarkUnit (old new : TableView) (place count : ℕ) (next : Part) (told : List Event) (answer : Option Answer) : Type 0 where
  pub table_is : new ≡ with_words old (marking_words old place)
  pub units : Units next told answer (Over 2 false) (events.End 2 (answers.Adopted count) ∷ []) (Some (answers.Adopted count))

abbrev pub MadeUnit : (old new : TableView) (seat : ℕ) (part next : Part) (told : List Event) (answer : Option Answer) → Type 0
MadeUnit old new seat Stays next told answer = CallUnit old new seat next told answer
MadeUnit old new seat (Parts steps) next told answer = PartUnit old new seat steps next told answer
MadeUnit old new seat (Takes place) next told answer = TakeUnit old new seat place next told answer
MadeUnit old new seat (Marks place count) next told answer = MarkUnit old new place count next told answer
MadeUnit old new seat (Over steps left) next told answer = CallUnit old new seat next told answer

-- the rig has no call of the seat under way, and a list that was left at the place is that of another such seat
pub record MayTake (rig : TableView) (seat place : ℕ) : Type 0 where
  pub below : place < rig.layout.config.seats
  pub apart : taking_found rig place ≡ 1 → (place == seat) ≡ false
  pub free : taking_found rig place ≡ 1 → busy_in (seat_at rig place).phase ≡ false

-- what a unit needs: the seat has a call under way, and by its part the rig has or not
abbrev pub MayMake : (rig : TableView) (seat : ℕ) → Part → Type 0
MayMake rig seat Stays = busy_in (seat_at rig seat).phase ≡ true
MayMake rig seat (Parts steps) = (busy_in (seat_at rig seat).phase ≡ false) × ((steps < 2 ^ 62) × (list_count rig seat < 2 ^ 32))
MayMake rig seat (Takes place) = (busy_in (seat_at rig seat).phase ≡ false) × MayTake rig seat place
MayMake rig seat (Marks place count) = (busy_in (seat_at rig seat).phase ≡ false) × (place < rig.layout.config.seats)
MayMake rig seat (Over steps left) = busy_in (seat_at rig seat).phase ≡ true
