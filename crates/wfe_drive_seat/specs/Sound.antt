-- What holds of a seat's state between its units.
use Rattle.std.specs.Prelude.{◌≡◌}
use Rattle.wfe_core.specs.words.declared.config.SchemeKind.{SchemeKind}
use Rattle.wfe_core.specs.Calls.{Phase}
use Rattle.wfe_core.specs.DeskHeld.{HasRoom}
use Rattle.wfe_core.specs.Locals.{busy_in}
use Rattle.wfe_core.specs.declared.desk.Desk.{Desk as HeldDesk}
use Rattle.wfe_core.specs.declared.post.Post.{Post}
use Rattle.wfe_drive_seat.specs.Seats.{Suits, engaged_phase, is_engaged}
use Rattle.wfe_drive_seat.specs.declared.seat.Engaged.{Engaged}

pub record IsSound {H I W P : Type 0} (he ibr wfe hp : SchemeKind → Type 0) (he_phase : H → Post → Phase) (ibr_phase : I → Post → Phase) (wfe_phase : W → Post → Phase) (hp_phase : P → Post → Phase) (engaged : Engaged H I W P) (post : Post) (desk : HeldDesk) : Type 0 where
  -- the call is one of the table's scheme, and under way
  pub suits : Suits he ibr wfe hp engaged post.layout.config.scheme
  pub busy : is_engaged engaged ≡ busy_in (engaged_phase he_phase ibr_phase wfe_phase hp_phase engaged post)
  -- the desk has room for what the call notes
  pub room : HasRoom desk post.layout
