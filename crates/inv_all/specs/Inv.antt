-- The invariant, and that it holds at the start, when a call begins, and over each step.
use Rattle.std.specs.Prelude.{ℕ, ◌≡◌, ◌<◌, true, false, Option, Some, is_some}
use Rattle.inv_ends.specs.model.words.Place.{is_valid}
use Rattle.inv_ends.specs.model.words.declared.layout.Layout.{Layout}
use Rattle.inv_ends.specs.model.defs.declared.call.Answer.TheVariants as answers
use Rattle.inv_ends.specs.model.defs.declared.call.Call.{Call}
use Rattle.inv_ends.specs.model.defs.declared.event.Guard.TheVariants.{Index}
use Rattle.inv_ends.specs.model.Calls.{Answers, GetAt, StoreHeld, Looks, Keeping, Works}
use Rattle.inv_ends.specs.model.Locals.{turn}
use Rattle.inv_ends.specs.model.MayStep.{MayStep}
use Rattle.inv_ends.specs.model.Posts.{stands}
use Rattle.inv_ends.specs.model.World.{World, begin, finds, is_busy, may_start, offered, start, step, told_in}
use Rattle.inv_ends.specs.requests.Views.{View as Asked}
use Rattle.inv_ends.specs.rows.Hands.{row_move}
use Rattle.inv_ends.specs.rows.Queue.{Line}
use Rattle.inv_ends.specs.rows.Rows.{View}
use Rattle.inv_ends.specs.covers.Covers.{number_shown, shown, takes_or_frees}
use Rattle.inv_ends.specs.model.Guards.{own_guard}
use Rattle.inv_ends.specs.model.words.Schemes.{publishes_rows}
use Rattle.inv_ends.specs.covers.Held.{Holds}
use Rattle.inv_all.specs.Contents.Told.{AllRight, LookRight}
use Rattle.inv_all.specs.Contents.Gives.{AllQueueRight}
use Rattle.inv_all.specs.Known.{Known}

-- views exist of which all parts hold
pub record Inv (w : World) : Type 0 where
  pub rows : View
  pub line : Line
  pub asked : Asked
  pub known : Known w rows line asked

-- it holds at the start of a table with a valid setting, and is kept where a call that names indexes which it may name begins on a
-- seat that is not busy, and by each step of a seat of the table
abbrev pub InvStart : Type 0
InvStart = (layout : Layout) → is_valid layout ≡ true → Inv (start layout)

abbrev pub InvBegin : Type 0
InvBegin = (w : World) (i : ℕ) (call : Call) → is_busy w i ≡ false → may_start w i call ≡ true → Inv w → Inv (begin w i call)

abbrev pub InvKept : Type 0
InvKept = (w : World) (i : ℕ) → i < w.layout.config.seats → Inv w → Inv (step w i)

-- what the code of a seat's step may rest on
abbrev pub InvReady : Type 0
InvReady = (w : World) (i : ℕ) → i < w.layout.config.seats → Inv w → MayStep w i

-- what a step tells of the map and of the queue is right by the book before it, and so is what a look answers
pub record TellsRight (w : World) (i : ℕ) : Type 0 where
  pub map : AllRight w.layout.config.buckets w.book (told_in w i)
  pub queue : AllQueueRight w.book (told_in w i)
  pub looks : (index key : ℕ) (at : GetAt) (slot version : ℕ) (value : Option ℕ)
      → (w.seat i).phase ≡ Works (Keeping (Looks index key at))
      → (turn (offered w i) (finds w i)).outcome ≡ Answers (answers.Looked slot version value)
      → LookRight w.book slot version key value

abbrev pub InvTells : Type 0
InvTells = (w : World) (i : ℕ) → i < w.layout.config.seats → Inv w → TellsRight w i

-- where a row stands at an index of a seat, a guard of the table covers it, and no step of any seat makes it free or claims it
pub record StandsSafe (w : World) (i k j s : ℕ) (v : View) : Type 0 where
  pub held : Holds w v (own_guard w.layout.config.scheme k j) s
  pub stays : takes_or_frees (row_move (w.seat i).phase (w.seat i).post (finds w i)) s ≡ false

abbrev pub InvStays : Type 0
InvStays = (w : World) (i k j s : ℕ) (a : Inv w) → stands (w.seat k).post j ≡ Some s → StandsSafe w i k j s a.rows

-- between the two steps of a copy the index word that is copied publishes the era, or the link, that was found, and a row still stands
-- there
pub record CopyUnderway (w : World) (k from number : ℕ) : Type 0 where
  pub publishes : shown w (Index k from) ≡ number_shown (publishes_rows w.layout.config.scheme) number
  pub stands : is_some (stands (w.seat k).post from) ≡ true

abbrev pub InvCopies : Type 0
InvCopies = (w : World) (k from index number : ℕ) → Inv w → (w.seat k).phase ≡ Works (Keeping (StoreHeld from index number)) → CopyUnderway w k from number
