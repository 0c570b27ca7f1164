-- What is known wherever the seat is.
use Rattle.wfe_core.specs.words.Schemes.{has_one_interval}
use Rattle.wfe_core.specs.words.declared.config.SchemeKind.{SchemeKind}
use Rattle.wfe_core.specs.Locals.{Local}
use Rattle.wfe_core.specs.Valid.{IsValid}
use Rattle.wfe_core.specs.declared.post.Post.{Post}
use Rattle.wfe_drive_runs.specs.drive_words.drive_cells.Unit.{SeatView}
use Rattle.wfe_drive_runs.specs.Pieces.{IsFree}
use Rattle.wfe_drive_runs.specs.drive_words.Called.{Here}
use Rattle.wfe_drive_runs.specs.drive_words.Comes.{Comes}
use Rattle.wfe_drive_runs.specs.drive_words.Readiness.{MayAsk}
use Rattle.wfe_drive_runs.proofs.drive_words.Makes.{may_ask_at}
use Rattle.std.proofs.Common.{ap, false, subst, sym, ℕ, ◌∙◌, ◌≡◌}
use Rattle.std.proofs.lemmas.Bool.{false≢true}
use Rattle.wfe_core.specs.words.declared.layout.Layout.{Layout}
use Rattle.wfe_core.specs.DeskHeld.{HasRoom}
use Rattle.wfe_core.specs.declared.desk.Desk.{Desk as HeldDesk}

pub ready_here : {A : Type 0} {at : Local → Type 0} {seat : SeatView} → ((l : Local) → A → at l → Comes l) → A → Here at seat → MayAsk seat
ready_here {seat = seat} comes valid h = may_ask_at h.local seat (comes h.local valid h.there) h.is

-- steps do not make a post less valid
pub valid_steps : (post : Post) (steps : ℕ) → IsValid post → IsValid (record post { steps = steps })
valid_steps post steps v = record {
  layout = v.layout;
  bounds = v.bounds;
  seat = v.seat;
  cursor = v.cursor;
  tags = v.tags;
  standing = v.standing;
  span = v.span;
  all_tags = v.all_tags;
  all_standing = v.all_standing;
}

-- a desk has room for its table
pub room_stays : {held : HeldDesk} {layout as_layout : Layout} → as_layout ≡ layout → HasRoom held layout → HasRoom held as_layout
room_stays {held = held} e room = subst (λ (l : Layout). HasRoom held l) (sym e) room

-- a scheme that has no interval
pub free_without : (kind : SchemeKind) (post : Post) → post.layout.config.scheme ≡ kind → has_one_interval kind ≡ false → IsFree post
free_without kind post e none one = absurd (false≢true (sym none ∙ (sym (ap has_one_interval e) ∙ one)))
