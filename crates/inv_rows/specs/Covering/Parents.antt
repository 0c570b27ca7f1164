-- The row whose next link a dequeue follows stands at index 0.
use Rattle.std.specs.Prelude.{ℕ, ◌≡◌, ◌<◌, ◌==◌, Bool, true, false, length, Some}
use Rattle.inv_rows.specs.words.declared.layout.Layout.{Layout}
use Rattle.inv_rows.specs.defs.declared.call.Call.{Call}
use Rattle.inv_rows.specs.model.declared.post.Post.{Post}
use Rattle.inv_rows.specs.model.Posts.{stands}
use Rattle.inv_rows.specs.model.Phases.{Base}
use Rattle.inv_rows.specs.model.Calls.{Why, Opens, FollowsHead, DequeueAt, LoadTail, SwingTail, TakeNumber, TakeValue, ExchangeHead, Work, Getting, Changing, Enqueuing, Dequeuing, Keeping, Phase, Idle, Runs, Scans, Works}
use Rattle.inv_rows.specs.model.World.{World, start, begin, step}
use Rattle.inv_rows.specs.words.Schemes.{helps}
use Rattle.inv_rows.specs.Shapes.Seats.{Run}
use Rattle.inv_rows.specs.Covering.Held.{follows_row}

-- the row is the head's that a dequeue has protected, and whose next link it follows
abbrev pub has_parent_why : Why → ℕ → Bool
has_parent_why (Opens task) row = false
has_parent_why (FollowsHead head tail) row = head == row
has_parent_why why row = false

abbrev pub has_parent_dequeue : DequeueAt → ℕ → Bool
has_parent_dequeue (LoadTail head) row = head == row
has_parent_dequeue (SwingTail head next) row = false
has_parent_dequeue (TakeNumber head next) row = false
has_parent_dequeue (TakeValue head next number) row = false
has_parent_dequeue (ExchangeHead head next number value) row = false

abbrev pub has_parent_work : Work → ℕ → Bool
has_parent_work (Getting key at) row = false
has_parent_work (Changing kept at) row = false
has_parent_work (Enqueuing kept at) row = false
has_parent_work (Dequeuing at) row = has_parent_dequeue at row
has_parent_work (Keeping at) row = false

abbrev pub has_parent : Phase → ℕ → Bool
has_parent Idle row = false
has_parent (Runs why base) row = has_parent_why why row
has_parent (Scans later at) row = false
has_parent (Works work) row = has_parent_work work row

abbrev pub Parent : Phase → Post → Type 0
Parent phase post = (row : ℕ) → has_parent phase row ≡ true → stands post 0 ≡ Some row

pub record Parents (w : World) : Type 0 where
  pub stand : (k : ℕ) → Parent (w.seat k).phase (w.seat k).post

-- what the part takes from others of the seat that steps: its phase's shape, and that its post has places for rows
pub record ParentsNeeds (w : World) (i : ℕ) : Type 0 where
  pub shape : (k : ℕ) (why : Why) (base : Base) → (w.seat k).phase ≡ Runs why base → Run w.layout why base (w.seat k).post
  pub room : 0 < length (w.seat i).post.standing

abbrev pub ParentsStart : Type 0
ParentsStart = (layout : Layout) → Parents (start layout)

abbrev pub ParentsBegin : Type 0
ParentsBegin = (w : World) (i : ℕ) (call : Call) → Parents w → Parents (begin w i call)

-- where no seat helps another
abbrev pub ParentsKept : Type 0
ParentsKept = (w : World) (i : ℕ) → helps w.layout.config.scheme ≡ false → ParentsNeeds w i → Parents w → Parents (step w i)

-- a row whose next link is followed stands at index 0
abbrev pub ParentsGive : Type 0
ParentsGive =
    (w : World) (i k : ℕ) (why : Why) (base : Base) (row : ℕ)
    → ParentsNeeds w i
    → Parents w
    → (w.seat k).phase ≡ Runs why base
    → follows_row base row ≡ true
    → stands (w.seat k).post 0 ≡ Some row
