-- The protections of a dequeue, as its turns in the model.
use Rattle.wfe_core.specs.declared.desk.Desk.{Desk as HeldDesk}
use Rattle.wfe_core.specs.declared.ends.FollowEnd.TheVariants as follow_ends
use Rattle.wfe_drive_runs.proofs.Turning.{went_on}
use Rattle.wfe_drive_runs.proofs.drive_words.Leading.{leads_as}
use Rattle.wfe_drive_runs.specs.drive_words.Path.{Leads}
use Rattle.wfe_drive_runs.specs.drive_words.Called.{at_phase}
use Rattle.wfe_core.specs.declared.op.Op.{Op}
use Rattle.wfe_core.specs.Phases.Ending.{Followed, Protected}
use Rattle.wfe_core.specs.Locals.{Local}
use Rattle.wfe_core.specs.DeskHeld.{desk_of}
use Rattle.std.proofs.Common.{Bool, List, [], ap, false, true, ℕ, ◌+◌, ◌==◌, ◌∙◌, ◌≡◌, None, Some}
use Rattle.std.proofs.lemmas.Bool.{eq-eqb, ne_eqb}
use Rattle.wfe_core.specs.defs.declared.call.Answer.TheVariants as answers
use Rattle.wfe_core.specs.Calls.{Again, Dequeuing, SwingTail, TakeNumber, Works, Answering, Dequeues, FollowsHead, LoadTail, Opens}
use Rattle.wfe_core.specs.Dequeue.{followed_row}
use Rattle.wfe_core.specs.declared.post.Post.{Post}
use Rattle.wfe_drive_runs.specs.drive_words.drive_cells.Unit.{SeatView, seat_after}
use Rattle.wfe_drive_runs.specs.Pieces.{clearing_next_at, LeadsSo, clearing_at, end_of}
use Rattle.wfe_drive_runs.proofs.Noted.{ends_noted, next_noted}

-- the head's row is held, or the head was null
module _ {at0 at1 : Local → Type 0} {stands0 stands1 : List (Op × ℕ) → Type 0} {first : SeatView} where
  pub head_held : (head era : ℕ) (post : Post) (held : HeldDesk) → LeadsSo at0 at1 stands0 stands1 first (Opens Dequeues) (Protected (end_of (Some head) era)) post held
      → Leads at0 at1 stands0 stands1 first (at_phase (Works (Dequeuing (LoadTail head))) post held)
  head_held head era post held x = leads_as _ _ (went_on (Works (Dequeuing (LoadTail head))) post x.before x.told held x.noted) x.leads

  pub head_null : (era : ℕ) (post : Post) (held : HeldDesk) → LeadsSo at0 at1 stands0 stands1 first (Opens Dequeues) (Protected (end_of None era)) post held
      → Leads at0 at1 stands0 stands1 first (clearing_at Dequeues Again post (desk_of held))
  head_null era post held x = leads_as _ _ (ends_noted Dequeues Again post held x.before x.told x.noted) x.leads

  -- the row after it is held, and the tail lags or does not
  lags : (head tail next : ℕ) (post : Post) (held : HeldDesk) → LeadsSo at0 at1 stands0 stands1 first (FollowsHead head tail) (Followed (follow_ends.Followed next)) post held
      → (b : Bool) → (tail == head + 1) ≡ b → Leads at0 at1 stands0 stands1 first (seat_after (followed_row head next post (desk_of held) [] b))
  lags head tail next post held x true e = leads_as _ _ (ap (λ (b : Bool). seat_after (followed_row head next post x.before x.told b)) e ∙ went_on (Works (Dequeuing (SwingTail head next))) post x.before x.told held x.noted) x.leads
  lags head tail next post held x false e = leads_as _ _ (ap (λ (b : Bool). seat_after (followed_row head next post x.before x.told b)) e ∙ went_on (Works (Dequeuing (TakeNumber head next))) post x.before x.told held x.noted) x.leads

  pub next_lags : (head tail next : ℕ) (post : Post) (held : HeldDesk) → tail ≡ head + 1 → LeadsSo at0 at1 stands0 stands1 first (FollowsHead head tail) (Followed (follow_ends.Followed next)) post held
      → Leads at0 at1 stands0 stands1 first (at_phase (Works (Dequeuing (SwingTail head next))) post held)
  next_lags head tail next post held h x = lags head tail next post held x true (eq-eqb tail (head + 1) h)

  pub next_held : (head tail next : ℕ) (post : Post) (held : HeldDesk) → (tail ≡ head + 1 → ⊥) → LeadsSo at0 at1 stands0 stands1 first (FollowsHead head tail) (Followed (follow_ends.Followed next)) post held
      → Leads at0 at1 stands0 stands1 first (at_phase (Works (Dequeuing (TakeNumber head next))) post held)
  next_held head tail next post held h x = lags head tail next post held x false (ne_eqb tail (head + 1) h)

  -- or there is none, or the head has moved
  pub next_null : (head tail : ℕ) (post : Post) (held : HeldDesk) → LeadsSo at0 at1 stands0 stands1 first (FollowsHead head tail) (Followed follow_ends.NoNext) post held
      → Leads at0 at1 stands0 stands1 first (clearing_next_at (Answering answers.Empty) post (desk_of held))
  next_null head tail post held x = leads_as _ _ (next_noted (Answering answers.Empty) post held x.before x.told x.noted) x.leads

  pub head_moved : (head tail seen : ℕ) (post : Post) (held : HeldDesk) → LeadsSo at0 at1 stands0 stands1 first (FollowsHead head tail) (Followed (follow_ends.RootMoved seen)) post held
      → Leads at0 at1 stands0 stands1 first (clearing_next_at Again post (desk_of held))
  head_moved head tail seen post held x = leads_as _ _ (next_noted Again post held x.before x.told x.noted) x.leads
