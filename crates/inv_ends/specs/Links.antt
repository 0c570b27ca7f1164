-- What is true of each link that a protection may end with: from a bucket's root it leads to a row that was linked there
-- last; from the queue's ends to a row that was in the queue since it was claimed last, and from the head to the head's row
-- while that is in the queue; and the next link of a row that is followed is still that row's.
use Rattle.std.specs.Prelude.{ℕ, ◌≡◌, ◌+◌, ◌-◌, ◌==◌, ◌%◌, ◌&&◌, ◌||◌, not, Bool, true, false, Some}
use Rattle.inv_rows.specs.words.Place.{Place}
use Rattle.inv_rows.specs.words.Place.Place.{Clock, Row}
use Rattle.inv_rows.specs.words.Packed.{read_request}
use Rattle.inv_rows.specs.words.declared.layout.Layout.{Layout}
use Rattle.inv_rows.specs.words.declared.packed.Request.TheVariants as requests
use Rattle.inv_rows.specs.defs.declared.call.Call.{Call}
use Rattle.inv_rows.specs.defs.declared.event.Root.{Root}
use Rattle.inv_rows.specs.defs.declared.event.Root.TheVariants as roots
use Rattle.inv_rows.specs.model.declared.ends.ProtectEnd.TheVariants as protect_ends
use Rattle.inv_rows.specs.model.Book.{Book}
use Rattle.inv_rows.specs.model.Machine.{after}
use Rattle.inv_rows.specs.model.Posts.{counted}
use Rattle.inv_rows.specs.model.Phases.{Aim, ProtectAt, Base, Ends, Protected}
use Rattle.inv_rows.specs.model.Phases.Base.{Protect}
use Rattle.inv_rows.specs.model.Rounds.{key_of}
use Rattle.inv_rows.specs.model.Calls.{ChangeKept, Task, Gets, Changes, Holds, Why, Opens, FollowsHead, Runs}
use Rattle.inv_rows.specs.model.World.{World, start, begin, step, is_busy, finds}
use Rattle.inv_rows.specs.Shapes.Seats.{Seats}
use Rattle.inv_rows.specs.words.Schemes.{helps}
use Rattle.inv_rows.specs.Covering.Requests.NextDeals.{next_deals}
use Rattle.inv_rows.specs.Covering.Requests.Parents.{rises_at}
use Rattle.inv_rows.specs.Covering.Requests.Standing.{Requests}
use Rattle.inv_rows.specs.Covering.Requests.Views.{View as Asking}
use Rattle.inv_rows.specs.Covering.Requests.Views.Deal.{Quiet}
use Rattle.inv_rows.specs.Rows.{View}
use Rattle.inv_rows.specs.Rows.Status.{Linked}
use Rattle.inv_rows.specs.Hands.{row_move}
use Rattle.inv_rows.specs.Agree.{rows_after, first_rows}
use Rattle.inv_rows.specs.Queue.{Line}
use Rattle.inv_rows.specs.Chain.{Both, QueueNeeds, queue_of, line_after, first_line}
use Rattle.inv_rows.specs.Follow.{at_asks, AnswersFit}
use Rattle.inv_rows.specs.Tries.{is_tail, is_head, FromHead}
use Rattle.inv_rows.specs.Covering.Covers.{takes_or_frees, CoversNeeds, Scanning}
use Rattle.inv_rows.specs.Covering.Held.{under, tries_base, Held}
use Rattle.inv_ends.specs.Tracked.{root_in, Tracked}
use Rattle.inv_ends.specs.Origins.{OriginsNeeds, Origins}

abbrev pub is_bucket : ℕ → Root → Bool
is_bucket b (roots.Bucket bucket) = bucket == b
is_bucket b roots.Head = false
is_bucket b roots.Tail = false
is_bucket b (roots.Next parent) = false

-- the link x may be taken for one of the root: it is null, or it leads to a row as above
abbrev pub links_to : Book → (Place → ℕ) → View → Line → Root → ℕ → Bool
links_to book mem v l (roots.Bucket b) x = x == 0 || is_bucket b (book.row (x - 1)).root
links_to book mem v l roots.Head x = x == 0 || (l.lined (x - 1) && (not (queue_of v (x - 1)) || v.head == x))
links_to book mem v l roots.Tail x = x == 0 || l.lined (x - 1)
links_to book mem v l (roots.Next parent) x = x == 0 || mem (Row parent 0) == x

-- all links that are tracked are such
abbrev pub Links : World → View → Line → Asking → Type 0
Links w v l z = Origins (λ k. links_to w.book w.mem v l) w z

-- what a step needs of the other parts
pub record LinksNeeds (w : World) (i : ℕ) (v : View) (l : Line) (z : Asking) : Type 0 where
  pub origins : OriginsNeeds w i z
  pub both : Both w v l
  pub queue : QueueNeeds w i v l
  -- by the book the row that a bucket's root leads to was linked there last
  pub linked : (s b : ℕ) → v.status s ≡ Linked b → (w.book.row s).root ≡ roots.Bucket b
  -- the step takes or frees no row of a tracked link, but for one next to a row that has left the queue
  pub stays : (k s : ℕ) → Tracked w z k (s + 1) → under v.status (root_in w k) ≡ true → takes_or_frees (row_move (w.seat i).phase (w.seat i).post (finds w i)) s ≡ false

abbrev pub LinksKept : Type 0
LinksKept =
    (w : World) (i : ℕ) (v : View) (l : Line) (z next : Asking)
    → LinksNeeds w i v l z
    → next.deal ≡ next_deals w i z.deal
    → Links w v l z
    → Links (step w i) (rows_after w i v) (line_after w i l) next

abbrev pub LinksBegin : Type 0
LinksBegin =
    (w : World) (i : ℕ) (call : Call) (v : View) (l : Line) (z next : Asking)
    → is_busy w i ≡ false
    → Requests w z
    → next.deal ≡ z.deal
    → Links w v l z
    → Links (begin w i call) v l next

abbrev pub LinksStart : Type 0
LinksStart = (layout : Layout) (z : Asking) → ((k : ℕ) → z.deal k ≡ Quiet) → Links (start layout) (first_rows layout) (first_line layout) z

-- what the contents of rows and the queue need of a step of seat i
pub record LinksShow (w : World) (i : ℕ) (v : View) (l : Line) : Type 0 where
  -- a row that was protected from a bucket's root was linked there last
  pub gets : (key slot era : ℕ) (base : Base) → (w.seat i).phase ≡ Runs (Opens (Gets key)) base → (after base (counted (w.seat i).post) (finds w i)).outcome ≡ Ends (Protected (protect_ends.Held slot era)) → (w.book.row slot).root ≡ roots.Bucket (key % w.layout.config.buckets)
  pub changes : (kept : ChangeKept) (slot era : ℕ) (base : Base) → (w.seat i).phase ≡ Runs (Opens (Changes kept)) base → (after base (counted (w.seat i).post) (finds w i)).outcome ≡ Ends (Protected (protect_ends.Held slot era)) → (w.book.row slot).root ≡ roots.Bucket (key_of kept.change % w.layout.config.buckets)
  -- so was a row that comes to stand for a hold
  pub holds : (key : ℕ) (aim : Aim) (index : ℕ) (root : Root) (steps : ℕ) (at : ProtectAt) (s : ℕ) → (w.seat i).phase ≡ Runs (Opens (Holds key)) (Protect aim index root steps at) → rises_at (w.seat i).post at (finds w i) s ≡ true → (w.book.row s).root ≡ roots.Bucket (key % w.layout.config.buckets)
  -- an answer that the seat's request has: the head's next link, or null, where it follows that; else a row of the queue
  pub answers : (head tail : ℕ) (aim : Aim) (index : ℕ) (root : Root) (steps : ℕ) (at : ProtectAt) → (w.seat i).phase ≡ Runs (FollowsHead head tail) (Protect aim index root steps at) → AnswersFit at (finds w i) (w.mem (Row head 0))
  pub asks : (task : Task) (aim : Aim) (index : ℕ) (root : Root) (steps : ℕ) (at : ProtectAt) (link era s : ℕ) → (w.seat i).phase ≡ Runs (Opens task) (Protect aim index root steps at) → at_asks at ≡ true → read_request (finds w i) ≡ Some (requests.Answered link era) → link ≡ s + 1 → is_tail root ≡ true → l.lined s ≡ true
  pub heads : (task : Task) (aim : Aim) (index : ℕ) (root : Root) (steps : ℕ) (at : ProtectAt) (link era s : ℕ) → (w.seat i).phase ≡ Runs (Opens task) (Protect aim index root steps at) → at_asks at ≡ true → read_request (finds w i) ≡ Some (requests.Answered link era) → link ≡ s + 1 → is_head root ≡ true → FromHead (queue_of v) l v.head s

abbrev pub LinksGive : Type 0
LinksGive =
    (w : World) (i : ℕ) (v : View) (l : Line) (z : Asking)
    → OriginsNeeds w i z
    → Both w v l
    → ((s b : ℕ) → v.status s ≡ Linked b → (w.book.row s).root ≡ roots.Bucket b)
    → Links w v l z
    → LinksShow w i v l

-- a try of the seat has loaded a link to the row
pub record Tried (w : World) (v : View) (k s : ℕ) : Type 0 where
  pub why : Why
  pub base : Base
  pub is : (w.seat k).phase ≡ Runs why base
  pub tries : tries_base (w.mem Clock) v.status (w.seat k).post base s ≡ true

-- where no seat helps another only tries load links, and a guard holds the row of each
abbrev pub TrackedTried : Type 0
TrackedTried =
    (w : World) (k s : ℕ) (v : View) (z : Asking)
    → helps w.layout.config.scheme ≡ false
    → Seats w
    → Requests w z
    → Tracked w z k (s + 1)
    → under v.status (root_in w k) ≡ true
    → Tried w v k s

-- so no step takes or frees it
abbrev pub HeldLinksStay : Type 0
HeldLinksStay =
    (w : World) (i k s : ℕ) (v : View) (z : Asking)
    → helps w.layout.config.scheme ≡ false
    → Seats w
    → Requests w z
    → CoversNeeds w i v
    → Scanning w
    → Held w v
    → Tracked w z k (s + 1)
    → under v.status (root_in w k) ≡ true
    → takes_or_frees (row_move (w.seat i).phase (w.seat i).post (finds w i)) s ≡ false
