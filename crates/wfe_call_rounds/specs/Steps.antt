-- A step of a call, before its events are noted.
use Rattle.std.specs.Prelude.{◌≡◌, ◌≤◌, length, List, Option, Some, None, ℕ}
use Rattle.wfe_core.specs.defs.declared.call.Answer.{Answer}
use Rattle.wfe_core.specs.defs.declared.event.Event.{Event}
use Rattle.wfe_core.specs.declared.post.Post.{Post}
use Rattle.wfe_core.specs.Calls.{Phase, Why, Runs, CallTurn, goes_on}
use Rattle.wfe_core.specs.DeskHeld.{Leads}
use Rattle.wfe_core.specs.Desks.{Desk}
use Rattle.wfe_core.specs.Phases.{Base, Ending}
use Rattle.wfe_core.specs.Steps.{resume}
use Rattle.wfe_core.specs.Valid.{IsValid}

-- the call took this turn, and its desk is this one
pub record Steps (t : CallTurn) (post : Post) (desk : Desk) (told : List Event) (answer : Option Answer) (phase : Phase) : Type 0 where
  pub post_is : post ≡ t.post
  pub told_is : told ≡ t.told
  pub desk_is : desk ≡ t.desk
  pub outcome_is : Leads t.outcome answer phase

-- a part of a step leaves a valid post of the same seat and table, and at most so many events told
pub record SameSeat (old new : Post) (told : List Event) (count : ℕ) : Type 0 where
  pub valid : IsValid new
  pub layout : new.layout ≡ old.layout
  pub seat : new.seat ≡ old.seat
  pub most : length told ≤ count

-- the turn of a call whose machine has made a step, by what it answered: it goes on, or the call does from its end
abbrev pub came : {E : Type 0} → (E → Ending) → Why → Base → Option E → Post → Desk → List Event → CallTurn
came ending why base None post desk told = goes_on post desk told (Runs why base)
came ending why base (Some e) post desk told = resume why (ending e) post desk told
