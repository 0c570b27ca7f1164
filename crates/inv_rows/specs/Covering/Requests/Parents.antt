-- The row whose next link a dequeue follows stands at index 0 of its seat; and what was protected stands at its index from
-- the step on in which its protection is told.
use Rattle.std.specs.Prelude.{ℕ, ◌≡◌, ◌==◌, ◌+◌, ◌-◌, ◌&&◌, Bool, false, Some}
use Rattle.inv_rows.specs.model.declared.ends.ProtectEnd.{ProtectEnd}
use Rattle.inv_rows.specs.model.declared.ends.ProtectEnd.TheVariants as protect_ends
use Rattle.inv_rows.specs.model.declared.post.Post.{Post}
use Rattle.inv_rows.specs.model.Posts.{stands, upper}
use Rattle.inv_rows.specs.model.Phases.{ProtectAt, Base, Ending, Outcome, Goes, Ends, Turn}
use Rattle.inv_rows.specs.model.Phases.ProtectAt.{CheckClock, TakeAnswer, WithdrawRequest, WithdrawHelper, CheckUpper, ByHazard}
use Rattle.inv_rows.specs.model.Phases.HazardAt.{CheckLink}
use Rattle.inv_rows.specs.model.Phases.Base.{Begin, Protect}
use Rattle.inv_rows.specs.model.Phases.Ending.{Done, Protected, Followed, Allocated, Retired, Clocked}
use Rattle.inv_rows.specs.model.Rounds.{index_of}
use Rattle.inv_rows.specs.model.Calls.{Why, Opens, FollowsHead, DequeueAt, LoadTail, SwingTail, TakeNumber, TakeValue, ExchangeHead, Work, Getting, Changing, Enqueuing, Dequeuing, Keeping, Phase, Idle, Runs, Scans, Works, CallTurn}
use Rattle.inv_rows.specs.model.World.{World}
use Rattle.inv_rows.specs.Shapes.Frame.{phase_left}

-- a step that found this makes the row to which its link leads stand: it concludes a try, takes an answer, or finds the link again that
-- is published
abbrev pub rises_at : Post → ProtectAt → (found slot : ℕ) → Bool
rises_at post (CheckClock era tries link) found slot = (found == era) && (link == slot + 1)
rises_at post (TakeAnswer link era) found slot = link == slot + 1
rises_at post (CheckUpper link) found slot = (found == upper post.span) && (link == slot + 1)
rises_at post (ByHazard (CheckLink link)) found slot = (found == link) && (link == slot + 1)
rises_at post at found slot = false

-- a link that is not null leads to the row that stands at the index
abbrev pub LinkStands : ℕ → ℕ → Post → Type 0
LinkStands link index post = (link == 0) ≡ false → stands post index ≡ Some (link - 1)

abbrev pub protect_stands : ProtectAt → ℕ → Post → Type 0
protect_stands (WithdrawRequest link era) index post = LinkStands link index post
protect_stands (WithdrawHelper link era) index post = LinkStands link index post
protect_stands at index post = Unit {0}

abbrev pub base_stands : Base → Post → Type 0
base_stands (Begin at) post = Unit {0}
base_stands (Protect aim index root steps at) post = protect_stands at index post
base_stands base post = Unit {0}

abbrev pub why_stands : Why → Base → Post → Type 0
why_stands (Opens task) base post = base_stands base post
why_stands (FollowsHead head tail) base post = stands post 0 ≡ Some head
why_stands why base post = Unit {0}

-- the head's row that a dequeue protects
abbrev pub head_in : DequeueAt → ℕ
head_in (LoadTail head) = head
head_in (SwingTail head next) = head
head_in (TakeNumber head next) = head
head_in (TakeValue head next number) = head
head_in (ExchangeHead head next number value) = head

abbrev pub work_stands : Work → Post → Type 0
work_stands (Getting key at) post = Unit {0}
work_stands (Changing kept at) post = Unit {0}
work_stands (Enqueuing kept at) post = Unit {0}
work_stands (Dequeuing at) post = stands post 0 ≡ Some (head_in at)
work_stands (Keeping at) post = Unit {0}

abbrev pub phase_stands : Phase → Post → Type 0
phase_stands Idle post = Unit {0}
phase_stands (Runs why base) post = why_stands why base post
phase_stands (Scans later at) post = Unit {0}
phase_stands (Works work) post = work_stands work post

-- how a protection of a task's root may end
abbrev pub protect_ended : ProtectEnd → ℕ → Post → Type 0
protect_ended (protect_ends.Held slot era) index post = stands post index ≡ Some slot
protect_ended protect_ends.Null index post = Unit {0}

abbrev pub ended : Ending → ℕ → Post → Type 0
ended Done index post = Unit {0}
ended (Protected ending) index post = protect_ended ending index post
ended (Followed ending) index post = Unit {0}
ended (Allocated ending) index post = Unit {0}
ended (Retired life) index post = Unit {0}
ended (Clocked clock) index post = Unit {0}

-- what has to hold where a machine has ended, by what comes after it
abbrev pub why_ended : Why → Ending → Post → Type 0
why_ended (Opens task) ending post = ended ending (index_of task) post
why_ended (FollowsHead head tail) ending post = stands post 0 ≡ Some head
why_ended why ending post = Unit {0}

abbrev pub OutcomeStands : Why → Outcome → Post → Type 0
OutcomeStands why (Goes base) post = why_stands why base post
OutcomeStands why (Ends ending) post = why_ended why ending post

abbrev pub MachineStands : Why → Turn → Type 0
MachineStands why t = OutcomeStands why t.outcome t.post

-- the same of what a call's turn leaves
pub record TurnStands (t : CallTurn) : Type 0 where
  pub stand : phase_stands (phase_left t.outcome) t.post

pub record Parents (w : World) : Type 0 where
  pub stand : (k : ℕ) → phase_stands (w.seat k).phase (w.seat k).post
