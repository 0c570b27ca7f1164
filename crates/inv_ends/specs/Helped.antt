-- What helper words hold under Wait-Free Eras, and what an index word holds between the hand-over and the taking.
use Rattle.std.specs.Prelude.{ℕ, ◌≡◌, ◌==◌, ◌&&◌, Bool, true, false}
use Rattle.inv_rows.specs.words.declared.layout.Layout.{Layout}
use Rattle.inv_rows.specs.words.Place.Place.{Clock}
use Rattle.inv_rows.specs.defs.declared.event.Guard.TheVariants.{Helper, Index}
use Rattle.inv_rows.specs.defs.declared.event.Root.{Root}
use Rattle.inv_rows.specs.model.Links.{link_number, root_at}
use Rattle.inv_rows.specs.model.Phases.{ProtectAt, MoveAt, Base}
use Rattle.inv_rows.specs.model.Phases.ProtectAt.{LoadClock, PublishEra, LoadLink, CheckClock, PublishRequest, LoadOwnClock, PublishHelper, LoadOwnLink, CheckOwnClock, AnswerOwn}
use Rattle.inv_rows.specs.model.Phases.MoveAt.{LoadEra, LoadRequest, ShowEra, LoadAsked, CheckEra, AnswerAsked, LoadReserved, HandOver, HideEra, HideLate, ExchangeClock}
use Rattle.inv_rows.specs.model.Phases.Base.{Begin, Protect, Reload, Clear, Finish, Release, Allocate, Write, GiveUp, Retire, Move}
use Rattle.inv_rows.specs.model.Calls.{Why, Runs}
use Rattle.inv_rows.specs.model.World.{World}
use Rattle.inv_rows.specs.Covering.Requests.Views.{Deal}
use Rattle.inv_rows.specs.Covering.Requests.Views.Deal.{Quiet, Open, Answered, Passed, Taken}
use Rattle.inv_rows.specs.Rows.{Status, View}
use Rattle.inv_rows.specs.Covering.Held.{leads, under, Holds}

-- the request for this word at this index, with this tag, has no answer yet
abbrev pub open_by : ℕ → ℕ → ℕ → Deal → Bool
open_by tag index word Quiet = false
open_by tag index word (Open t j w) = t == tag && (j == index && w == word)
open_by tag index word (Answered t j w l e m) = false
open_by tag index word (Passed t j w l e) = false
open_by tag index word (Taken t j w l e) = false

-- an own turn has loaded a link to the row: before its check while its era is the clock, and from the check on
abbrev pub turn_holds : ℕ → (ℕ → Status) → Root → ProtectAt → ℕ → Bool
turn_holds clock status root (LoadClock tries) s = false
turn_holds clock status root (PublishEra era tries) s = false
turn_holds clock status root (LoadLink era tries) s = false
turn_holds clock status root (CheckClock era tries link) s = false
turn_holds clock status root PublishRequest s = false
turn_holds clock status root LoadOwnClock s = false
turn_holds clock status root (PublishHelper first era last) s = false
turn_holds clock status root (LoadOwnLink first era last) s = false
turn_holds clock status root (CheckOwnClock first era last link) s = leads link s && (clock == era && under status root)
turn_holds clock status root (AnswerOwn first era link) s = leads link s && under status root
turn_holds clock status root at s = false

-- a mover has loaded a link to the row for a request that has no answer yet: so long the row whose next link it is stands
-- with the seat that asks
abbrev pub move_holds : Layout → ℕ → (ℕ → Status) → (ℕ → Deal) → MoveAt → ℕ → Bool
move_holds layout clock status deal (LoadEra helps) s = false
move_holds layout clock status deal (LoadRequest e k shows) s = false
move_holds layout clock status deal (ShowEra e k t j root) s = false
move_holds layout clock status deal (LoadAsked e k t j root) s = false
move_holds layout clock status deal (CheckEra e k t j root link) s =
    open_by t j (link_number layout root) (deal k) && (leads link s && (clock == e && under status root))
move_holds layout clock status deal (AnswerAsked e k t j root link) s =
    open_by t j (link_number layout root) (deal k) && (leads link s && under status root)
move_holds layout clock status deal (LoadReserved e k t j root link) s = false
move_holds layout clock status deal (HandOver e k t j root link old) s = false
move_holds layout clock status deal (HideEra e) s = false
move_holds layout clock status deal (HideLate seen) s = false
move_holds layout clock status deal (ExchangeClock e) s = false

-- the helper word of a seat holds the row, by what the seat runs
abbrev pub helper_holds : Layout → ℕ → (ℕ → Status) → (ℕ → Deal) → Base → ℕ → Bool
helper_holds layout clock status deal (Begin at) s = false
helper_holds layout clock status deal (Protect aim index root steps at) s = turn_holds clock status root at s
helper_holds layout clock status deal (Reload parent index slot era steps) s = false
helper_holds layout clock status deal (Clear rows index) s = false
helper_holds layout clock status deal Finish s = false
helper_holds layout clock status deal (Release index) s = false
helper_holds layout clock status deal (Allocate at) s = false
helper_holds layout clock status deal (Write slot row place) s = false
helper_holds layout clock status deal (GiveUp slot) s = false
helper_holds layout clock status deal (Retire at) s = false
helper_holds layout clock status deal (Move at) s = move_holds layout clock status deal at s

-- a request has an answer that leads to the row: from a seat, and neither handed over nor taken; or handed over, and not
-- taken
abbrev pub answered_from : Layout → (ℕ → Status) → ℕ → Deal → ℕ → Bool
answered_from layout status by Quiet s = false
answered_from layout status by (Open t j w) s = false
answered_from layout status by (Answered t j w l e m) s = m == by && (leads l s && under status (root_at layout w))
answered_from layout status by (Passed t j w l e) s = false
answered_from layout status by (Taken t j w l e) s = false

abbrev pub passed_to : Layout → (ℕ → Status) → ℕ → Deal → ℕ → Bool
passed_to layout status index Quiet s = false
passed_to layout status index (Open t j w) s = false
passed_to layout status index (Answered t j w l e m) s = false
passed_to layout status index (Passed t j w l e) s = j == index && (leads l s && under status (root_at layout w))
passed_to layout status index (Taken t j w l e) s = false

-- a helper word covers the row that its seat has loaded, and the one of an answer that its seat gave; an index word covers
-- the row of an answer that was handed over
pub record Helped (w : World) (v : View) (deal : ℕ → Deal) : Type 0 where
  pub loaded : (k : ℕ) (why : Why) (base : Base) (s : ℕ) → (w.seat k).phase ≡ Runs why base
      → helper_holds w.layout (w.mem Clock) v.status deal base s ≡ true
      → Holds w v (Helper k) s
  pub answered : (k by s : ℕ) → answered_from w.layout v.status by (deal k) s ≡ true → Holds w v (Helper by) s
  pub passed : (k index s : ℕ) → passed_to w.layout v.status index (deal k) s ≡ true → Holds w v (Index k index) s
