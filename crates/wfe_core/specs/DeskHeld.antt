-- A desk's lists as the machines see them, and the room that a desk has.
use Rattle.std.specs.Prelude.{◌≡◌, ◌≤◌, ◌+◌, ◌*◌, ◌++◌, List, [], ◌∷◌, Option, Some, None}
use Rattle.wfe_defs.specs.declared.call.Answer.{Answer}
use Rattle.wfe_defs.specs.declared.event.Event.{Event}
use Rattle.wfe_defs.specs.declared.event.Event.TheVariants as events
use Rattle.wfe_core.specs.declared.post.Post.{Post}
use Rattle.wfe_core.specs.Calls.{Phase, CallTurn, CallOutcome, GoesOn, Answers}
use Rattle.wfe_core.specs.declared.desk.Desk.{Desk as HeldDesk}
use Rattle.wfe_words.specs.declared.layout.Layout.{Layout}
use Rattle.wfe_core.specs.Desks.{Desk, noting}
use Rattle.wfe_core.specs.Guards.{guards}
use Rattle.wfe_core.specs.Held.{report_of, notes_of}

-- the desk without its room
abbrev pub desk_of : HeldDesk → Desk
desk_of held = record { list = held.list.lives; report = report_of held.report; notes = notes_of held.notes; gift = [] }

-- the desk is for this table, with room for all guards, for the rows that two scans of a call may give back, and for one
-- step's events more
pub record HasRoom (held : HeldDesk) (layout : Layout) : Type 0 where
  pub slots : held.list.slots ≡ layout.config.slots
  pub guards_fit : guards layout.config ≤ held.report.room
  pub rows_fit : 2 * (layout.config.slots + 1) + 8 ≤ held.notes.room

-- a call's answer is told last
abbrev pub told_answer : Post → Option Answer → List Event
told_answer post None = []
told_answer post (Some answer) = events.End post.steps answer ∷ []

-- a call goes on to this phase, or has this answer
abbrev pub Leads : CallOutcome → Option Answer → Phase → Type 0
Leads outcome None phase = outcome ≡ GoesOn phase
Leads outcome (Some answer) phase = outcome ≡ Answers answer

-- a call took this turn
pub record Took (t : CallTurn) (post : Post) (held : HeldDesk) (told : List Event) (answer : Option Answer) (phase : Phase) : Type 0 where
  pub post_is : post ≡ t.post
  pub told_is : told ≡ t.told ++ told_answer post answer
  pub desk_is : desk_of held ≡ noting t.desk told
  pub outcome_is : Leads t.outcome answer phase
