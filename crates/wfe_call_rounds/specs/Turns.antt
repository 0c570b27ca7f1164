-- What a step of a call leads to, as a turn of the model, and what it keeps of its seat and desk.
use Rattle.std.specs.Prelude.{ℕ, ◌≡◌, ◌≤◌, length, List}
use Rattle.wfe_core.specs.defs.declared.event.Event.{Event}
use Rattle.wfe_core.specs.declared.desk.Desk.{Desk as HeldDesk}
use Rattle.wfe_core.specs.declared.post.Post.{Post}
use Rattle.wfe_core.specs.Calls.{Task, Phase, CallTurn, goes_on, answers}
use Rattle.wfe_core.specs.DeskHeld.{HasRoom, desk_of}
use Rattle.wfe_core.specs.Desks.{Desk}
use Rattle.wfe_core.specs.Rounds.{round}
use Rattle.wfe_core.specs.Valid.{IsValid}
use Rattle.wfe_call_rounds.specs.declared.then.Then.{Then}
use Rattle.wfe_call_rounds.specs.declared.then.Then.TheVariants.{Stands, Begins, Answers}

-- the call goes on from there, or another round begins, or the call answers
abbrev pub stood : {A : Type 0} → (A → Post → Phase) → Task → Then A → Post → Desk → List Event → CallTurn
stood phase task (Stands at) post desk told = goes_on post desk told (phase at post)
stood phase task Begins post desk told = goes_on post desk told (round task post)
stood phase task (Answers answer) post desk told = answers post desk told answer

-- the post is valid, and of the same seat and table; at most so many events are told; and the desk has its room and notes
pub record Keeps (old new : Post) (desk held : HeldDesk) (told : List Event) (count : ℕ) : Type 0 where
  pub valid : IsValid new
  pub layout : new.layout ≡ old.layout
  pub seat : new.seat ≡ old.seat
  pub most : length told ≤ count
  pub room : HasRoom held new.layout
  pub notes : (desk_of held).notes ≡ (desk_of desk).notes
