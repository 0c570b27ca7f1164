-- What was true of a root and a link when the link was loaded stays true of them as long as the link is tracked.
use Rattle.std.specs.Prelude.{ℕ, ◌≡◌, ◌<◌, ◌+◌, ◌==◌, ◌&&◌, ◌||◌, Bool, true, false, [], Option, Some, None}
use Rattle.inv_rows.specs.words.Place.{is_valid}
use Rattle.inv_rows.specs.words.Packed.{read_request}
use Rattle.inv_rows.specs.words.declared.layout.Layout.{Layout}
use Rattle.inv_rows.specs.words.declared.packed.Request.TheVariants as requests
use Rattle.inv_rows.specs.defs.declared.call.Call.{Call}
use Rattle.inv_rows.specs.defs.declared.event.Root.{Root}
use Rattle.inv_rows.specs.model.declared.ends.FollowEnd.TheVariants as follow_ends
use Rattle.inv_rows.specs.model.declared.ends.ProtectEnd.TheVariants as protect_ends
use Rattle.inv_rows.specs.model.Links.{link_place}
use Rattle.inv_rows.specs.model.Machine.{after}
use Rattle.inv_rows.specs.model.declared.post.Post.{Post}
use Rattle.inv_rows.specs.model.Posts.{counted, upper}
use Rattle.inv_rows.specs.model.Phases.{Aim, ProtectAt, MoveAt, Base, Ending, Ends, Followed, Protected}
use Rattle.inv_rows.specs.model.Phases.ProtectAt.{LoadClock, PublishEra, LoadLink, CheckClock, PublishRequest, LoadOwnClock, PublishHelper, LoadOwnLink, CheckOwnClock, AnswerOwn, LoadAnswer, TakeAnswer, WithdrawRequest, WithdrawHelper, LoadWithin, CheckUpper, RaiseUpper, ByHazard}
use Rattle.inv_rows.specs.model.Phases.HazardAt.{FirstLink, PublishLink, CheckLink}
use Rattle.inv_rows.specs.model.Phases.MoveAt.{LoadEra, LoadRequest, ShowEra, LoadAsked}
use Rattle.inv_rows.specs.model.Phases.Base.{Begin, Protect, Reload, Clear, Finish, Release, Allocate, Write, GiveUp, Retire, Move}
use Rattle.inv_rows.specs.model.Calls.{Why, Phase, Idle, Runs, Scans, Works}
use Rattle.inv_rows.specs.model.World.{World, start, begin, step, is_busy, finds, told_in}
use Rattle.inv_rows.specs.Shapes.Eras.{Eras}
use Rattle.inv_rows.specs.Shapes.Seats.{Seats, root_by}
use Rattle.inv_rows.specs.Covering.Requests.Needs.{Needs}
use Rattle.inv_rows.specs.Covering.Requests.NextDeals.{next_deals}
use Rattle.inv_rows.specs.Covering.Requests.Standing.{Requests}
use Rattle.inv_rows.specs.Covering.Requests.Views.{View}
use Rattle.inv_rows.specs.Covering.Requests.Views.Deal.{Quiet}
use Rattle.inv_rows.specs.Follow.{at_asks}
use Rattle.inv_ends.specs.Tracked.{root_in, Tracked}

-- the step loads a link, for the own protection or for the request of another seat, and may carry it from there on
abbrev pub loads_at : ProtectAt → Bool
loads_at (LoadClock tries) = false
loads_at (PublishEra era tries) = false
loads_at (LoadLink era tries) = true
loads_at (CheckClock era tries link) = false
loads_at PublishRequest = false
loads_at LoadOwnClock = false
loads_at (PublishHelper first era last) = false
loads_at (LoadOwnLink first era last) = true
loads_at (CheckOwnClock first era last link) = false
loads_at (AnswerOwn first era link) = false
loads_at (LoadAnswer first) = false
loads_at (TakeAnswer link era) = false
loads_at (WithdrawRequest link era) = false
loads_at (WithdrawHelper link era) = false
loads_at LoadWithin = true
loads_at (CheckUpper link) = false
loads_at (RaiseUpper era) = false
loads_at (ByHazard FirstLink) = false
loads_at (ByHazard (PublishLink link)) = false
loads_at (ByHazard (CheckLink link)) = true

abbrev pub loads_asked : MoveAt → Bool
loads_asked (LoadEra helps) = false
loads_asked (LoadRequest era seat shows) = false
loads_asked (ShowEra era seat tag index root) = false
loads_asked (LoadAsked era seat tag index root) = true
loads_asked at = false

abbrev pub loads_base : Base → Bool
loads_base (Begin at) = false
loads_base (Protect aim index root steps at) = loads_at at
loads_base (Reload parent index slot era steps) = false
loads_base (Clear rows index) = false
loads_base Finish = false
loads_base (Release index) = false
loads_base (Allocate at) = false
loads_base (Write slot row place) = false
loads_base (GiveUp slot) = false
loads_base (Retire at) = false
loads_base (Move at) = loads_asked at

abbrev pub loads_link : Phase → Bool
loads_link Idle = false
loads_link (Runs why base) = loads_base base
loads_link (Scans later at) = false
loads_link (Works work) = false

-- what a step needs of the other parts: the shape of seats, the eras, roots of the table, and what is known of requests
pub record OriginsNeeds (w : World) (i : ℕ) (z : View) : Type 0 where
  pub valid : is_valid w.layout ≡ true
  pub below : i < w.layout.config.seats
  pub seats : Seats w
  pub eras : Eras w
  pub needs : Needs w
  pub requests : Requests w z

-- where a link that is tracked for seat k after a step of seat i comes from: it was tracked before, or the step loads it, and
-- tells nothing; and the protection's root is the same
pub data Came (w : World) (i : ℕ) (z : View) (k link : ℕ) : Type 0 where
  Before : root_in (step w i) k ≡ root_in w k → Tracked w z k link → Came w i z k link
  Now : root_in (step w i) k ≡ root_in w k → loads_link (w.seat i).phase ≡ true → told_in w i ≡ [] → w.mem (link_place (root_in w k)) ≡ link → Came w i z k link

abbrev pub TrackedCame : Type 0
TrackedCame =
    (w : World) (i : ℕ) (z next : View) (k link : ℕ)
    → OriginsNeeds w i z
    → next.deal ≡ next_deals w i z.deal
    → Tracked (step w i) next k link
    → Came w i z k link

-- each seat may take each link that is tracked for it for one of its protection's root
pub record Origins (good : ℕ → Root → ℕ → Bool) (w : World) (z : View) : Type 0 where
  pub tracked : (k link : ℕ) → Tracked w z k link → good k (root_in w k) link ≡ true

-- what is in a root that a step loads is good, where it tells nothing, and what is tracked stays good over the step
pub record Stays (good after : ℕ → Root → ℕ → Bool) (w : World) (i : ℕ) (z : View) : Type 0 where
  pub fresh : (k : ℕ) → loads_link (w.seat i).phase ≡ true → told_in w i ≡ [] → after k (root_in w k) (w.mem (link_place (root_in w k))) ≡ true
  pub stays : (k link : ℕ) → Tracked w z k link → good k (root_in w k) link ≡ true → after k (root_in w k) link ≡ true

abbrev pub OriginsKept : Type 0
OriginsKept =
    (good after : ℕ → Root → ℕ → Bool) (w : World) (i : ℕ) (z next : View)
    → OriginsNeeds w i z
    → next.deal ≡ next_deals w i z.deal
    → Stays good after w i z
    → Origins good w z
    → Origins after (step w i) next

abbrev pub OriginsBegin : Type 0
OriginsBegin =
    (good : ℕ → Root → ℕ → Bool) (w : World) (i : ℕ) (call : Call) (z next : View)
    → is_busy w i ≡ false
    → Requests w z
    → next.deal ≡ z.deal
    → Origins good w z
    → Origins good (begin w i call) next

-- nothing is tracked at the start
abbrev pub OriginsStart : Type 0
OriginsStart =
    (good : ℕ → Root → ℕ → Bool) (layout : Layout) (z : View)
    → ((k : ℕ) → z.deal k ≡ Quiet)
    → Origins good (start layout) z

-- the link with which a protection, or a follow that finds no next row, ends; other machines end with none
abbrev pub link_of : Ending → Option ℕ
link_of (Protected (protect_ends.Held slot era)) = Some (slot + 1)
link_of (Protected protect_ends.Null) = Some 0
link_of (Followed follow_ends.NoNext) = Some 0
link_of ending = None

-- the step at which it is over, with the link x
abbrev pub ends_at : Post → ProtectAt → (found x : ℕ) → Bool
ends_at post (CheckClock era tries link) found x = (found == era) && (link == x)
ends_at post (WithdrawHelper link era) found x = link == x
ends_at post (CheckUpper link) found x = (found == upper post.span) && (link == x)
ends_at post (ByHazard FirstLink) found x = (found == 0) && (found == x)
ends_at post (ByHazard (CheckLink link)) found x = (found == link || found == 0) && (found == x)
ends_at post at found x = false

abbrev pub ends_base : Post → Base → (found x : ℕ) → Bool
ends_base post (Protect aim index root steps at) found x = ends_at post at found x
ends_base post base found x = false

abbrev pub EndsWith : Type 0
EndsWith =
    (base : Base) (post : Post) (found : ℕ) (ending : Ending) (link : ℕ)
    → (after base post found).outcome ≡ Ends ending
    → link_of ending ≡ Some link
    → ends_base post base found link ≡ true

-- that link was tracked, or its root leads to it in this very step
pub data Ended (w : World) (i : ℕ) (z : View) (link : ℕ) : Type 0 where
  HadBefore : Tracked w z i link → Ended w i z link
  LoadedNow : w.mem (link_place (root_in w i)) ≡ link → Ended w i z link

abbrev pub EndComes : Type 0
EndComes =
    (w : World) (i : ℕ) (z : View) (why : Why) (base : Base) (ending : Ending) (link : ℕ)
    → (w.seat i).phase ≡ Runs why base
    → (after base (counted (w.seat i).post) (finds w i)).outcome ≡ Ends ending
    → link_of ending ≡ Some link
    → Ended w i z link

-- so it is good where what is tracked is, and what the root leads to
abbrev pub EndGood : Type 0
EndGood =
    (good : ℕ → Root → ℕ → Bool) (w : World) (i : ℕ) (z : View) (why : Why) (base : Base) (ending : Ending) (link : ℕ)
    → Origins good w z
    → good i (root_in w i) (w.mem (link_place (root_in w i))) ≡ true
    → (w.seat i).phase ≡ Runs why base
    → (after base (counted (w.seat i).post) (finds w i)).outcome ≡ Ends ending
    → link_of ending ≡ Some link
    → good i (root_in w i) link ≡ true

-- and it is one of the root that its call is after
abbrev pub EndRoot : Type 0
EndRoot =
    (w : World) (i : ℕ) (why : Why) (base : Base) (ending : Ending) (link : ℕ)
    → Seats w
    → (w.seat i).phase ≡ Runs why base
    → (after base (counted (w.seat i).post) (finds w i)).outcome ≡ Ends ending
    → link_of ending ≡ Some link
    → root_in w i ≡ root_by w.layout.config.buckets why

-- the link of an answer that a seat finds in its request is tracked too
abbrev pub AnswerTracked : Type 0
AnswerTracked =
    (w : World) (i : ℕ) (z : View) (why : Why) (aim : Aim) (index : ℕ) (root : Root) (steps : ℕ) (at : ProtectAt) (link era : ℕ)
    → OriginsNeeds w i z
    → (w.seat i).phase ≡ Runs why (Protect aim index root steps at)
    → at_asks at ≡ true
    → read_request (finds w i) ≡ Some (requests.Answered link era)
    → Tracked w z i link
