-- The protection of the next link of the queue's head row, which is followed: the head is loaded again before the row is held.
use Rattle.std.specs.Prelude.{List, ℕ, ◌≡◌}
use Rattle.wfe_core.specs.defs.declared.event.Root.TheVariants.{Next}
use Rattle.wfe_core.specs.declared.desk.Desk.{Desk as HeldDesk}
use Rattle.wfe_core.specs.declared.ends.FollowEnd.TheVariants as follow_ends
use Rattle.wfe_core.specs.declared.ends.ProtectEnd.{ProtectEnd}
use Rattle.wfe_core.specs.declared.ends.ProtectEnd.TheVariants as protect_ends
use Rattle.wfe_core.specs.declared.op.Op.{Op}
use Rattle.wfe_core.specs.declared.post.Post.{Post}
use Rattle.wfe_core.specs.Calls.{Runs, Why}
use Rattle.wfe_core.specs.Desks.{Desk}
use Rattle.wfe_core.specs.Locals.{Local}
use Rattle.wfe_core.specs.Phases.{Alone, Base, Endless, Follows, ProtectAt}
use Rattle.wfe_core.specs.Phases.Base.{Protect, Reload}
use Rattle.wfe_core.specs.Phases.Ending.{Followed}
use Rattle.wfe_drive_words.specs.drive_cells.Unit.{SeatView}
use Rattle.wfe_drive_words.specs.Called.{at_phase}
use Rattle.wfe_drive_words.specs.Path.{Leads, Trial}
use Rattle.wfe_drive_runs.specs.Pieces.{LeadsSo}

-- that protection after so many steps of its own and of the call
abbrev pub followed_trial : Why → Desk → (made steps : ℕ) → Trial
followed_trial why desk made steps = record { aim = Follows; why = why; desk = desk; made = made; tries = Endless; steps = steps }

-- the phase of a protection of the parent's next link at index 1, by itself
abbrev pub IsNextAlone : (parent : ℕ) → Base → Type 0
IsNextAlone parent base = (n : ℕ) × (at : ProtectAt) × (base ≡ Protect Alone 1 (Next parent) n at)

-- it is over: the head is to be loaded again, or there is no next row
abbrev pub FollowsSo : (at_old at_new : Local → Type 0) (stands_old stands_new : List (Op × ℕ) → Type 0) (old : SeatView) (why : Why) (parent : ℕ) (ending : ProtectEnd) (post : Post) (held : HeldDesk) → Type 0
FollowsSo at_old at_new stands_old stands_new old why parent (protect_ends.Held slot era) post held = (n : ℕ) × Leads at_old at_new stands_old stands_new old (at_phase (Runs why (Reload parent 1 slot era n)) post held)
FollowsSo at_old at_new stands_old stands_new old why parent protect_ends.Null post held = LeadsSo at_old at_new stands_old stands_new old why (Followed follow_ends.NoNext) post held
