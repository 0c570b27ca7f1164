-- What the calls of seats that leave, and of those that take over their lists, come to: the seat as its code has it, and by which
-- operations.
use Rattle.std.specs.Prelude.{List, [], ◌∷◌, length, ℕ, ◌++◌, ◌≡◌, ◌≢◌}
use Rattle.wfe_core.specs.defs.declared.call.Answer.{Answer}
use Rattle.wfe_core.specs.defs.declared.call.Answer.TheVariants as answers
use Rattle.wfe_core.specs.defs.declared.call.Call.TheVariants as names
use Rattle.wfe_core.specs.defs.declared.lifetime.Lifetime.{Lifetime}
use Rattle.wfe_core.specs.declared.op.Op.{Op}
use Rattle.wfe_core.specs.declared.post.Post.{Post}
use Rattle.wfe_core.specs.Calls.{Idle}
use Rattle.wfe_core.specs.Desks.{Notes, no_notes}
use Rattle.wfe_core.specs.Keep.{not_taken}
use Rattle.wfe_core.specs.Locals.{Local}
use Rattle.wfe_drive_rule.specs.drive_cells.Unit.{SeatView, shown}
use Rattle.wfe_drive_rule.specs.history.History.{Item}
use Rattle.wfe_drive_rule.specs.inv.rows.Facts.{Listing}
use Rattle.wfe_drive_call.specs.drive_words.Called.{Ends}
use Rattle.wfe_drive_rule.specs.Views.{Handle, Track, own}

-- what a call leaves that noted nothing, after so many steps: of its seat's post, of the notes, and of the seat as its code has it
abbrev pub post_over : Post → ℕ → Post
post_over post steps = record post { steps = steps }

abbrev pub notes_over : ℕ → Notes
notes_over steps = record no_notes { steps = steps }

abbrev pub over_view : Local → List Lifetime → ℕ → SeatView
over_view l list steps =
    record {
      phase = Idle;
      post = post_over l.post steps;
      desk = record { list = list; report = l.desk.report; notes = notes_over steps; gift = [] };
    }

-- an adoption was answered so, and the seat's past has grown
pub record Adoption (place : ℕ) (answer : Answer) (old new : Track) : Type 0 where
  pub ops : List (Op × ℕ)
  pub ends : Ends (names.Adopt place) answer ops old.local new.local
  pub more : List Item
  pub grows : new.past ≡ old.past ++ more

-- none was: the one operation found this word
pub record Found (place found : ℕ) (old new : Track) : Type 0 where
  pub adoption : Adoption place (not_taken found) old new
  pub exchange : Op
  pub word : adoption.ops ≡ (exchange, found) ∷ []
  pub apart : found ≢ 1

-- a list was taken over, by two steps
pub record Took (place : ℕ) (old : Track) (list : List Lifetime) (new : Handle) : Type 0 where
  pub ops : List (Op × ℕ)
  pub ends : Ends (names.Adopt place) (answers.Adopted (length list)) ops old.local (own new.0).local
  pub here : shown (own new.0).local ≡ over_view old.local (old.local.desk.list ++ list) 2
  pub more : List Item
  pub grows : (own new.0).past ≡ old.past ++ more
  -- no row is twice in both lists together
  pub listing : Listing old.local.post.layout.config.slots (old.local.desk.list ++ list)

-- none was left, by one step, which found this word
pub record Missed (place found : ℕ) (old : Track) (new : Handle) : Type 0 where
  pub ops : List (Op × ℕ)
  pub exchange : Op
  pub word : ops ≡ (exchange, found) ∷ []
  pub ends : Ends (names.Adopt place) (not_taken found) ops old.local (own new.0).local
  pub here : shown (own new.0).local ≡ over_view old.local old.local.desk.list 1
  pub more : List Item
  pub grows : (own new.0).past ≡ old.past ++ more
