-- A step of a call by which a seat leaves, and what is to be let go next.
use Rattle.std.proofs.Common.{Bool, List, ap, false, refl, subst, sym, true, ℕ, ◌∙◌, ◌≡◌, ◌<◌, length}
use Rattle.std.specs.Prelude.{not}
use Rattle.wfe_core.specs.defs.declared.event.Event.{Event}
use Rattle.wfe_core.specs.Calls.{CallTurn, Idle, Phase}
use Rattle.wfe_core.specs.Desks.{Desk, no_notes}
use Rattle.wfe_core.specs.Locals.{begun_post}
use Rattle.wfe_core.specs.Keep.{parting}
use Rattle.wfe_core.specs.Posts.{counted}
use Rattle.wfe_core.specs.Steps.{call_op, phase_turn}
use Rattle.wfe_core.specs.declared.post.Post.{Post}
use Rattle.wfe_drive_cells.specs.Operations.{answered, performed}
use Rattle.wfe_drive_cells.specs.Unit.{SeatView, asked}
use Rattle.wfe_drive_seat.specs.Leaving.{is_marking, leaving, let_seat, let_turn, seat_let}
use Rattle.wfe_drive_seat.specs.Letting.{letting_phase}
use Rattle.wfe_drive_seat.specs.declared.letting.Letting.{Letting}
use Rattle.wfe_drive_seat.specs.declared.letting.Letting.TheVariants as lettings

-- no such step changes the desk
letting_desk : (rows : Bool) (letting : Letting) (post : Post) (desk : Desk) (found : ℕ) → (phase_turn (letting_phase rows letting) post desk found).desk ≡ desk
letting_desk rows lettings.Nothing post desk found = refl
letting_desk rows (lettings.At index) post desk found = refl
letting_desk rows lettings.Span post desk found = refl

pub parting_desk : (rows : Bool) (letting : Letting) (phase : Phase) (post : Post) (desk : Desk) (found : ℕ) → letting_phase rows letting ≡ phase → (phase_turn phase post desk found).desk ≡ desk
parting_desk rows letting phase post desk found e = subst (λ (p : Phase). (phase_turn p post desk found).desk ≡ desk) e (letting_desk rows letting post desk found)
