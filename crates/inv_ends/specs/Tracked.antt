-- The links that a seat's protection may end with: those that it carries itself, the one of its request's answer, and those
-- that movers have loaded for its request.
use Rattle.std.specs.Prelude.{ℕ, ◌≡◌, ◌+◌, ◌==◌, ◌&&◌, Bool, true, false}
use Rattle.inv_rows.specs.words.Place.Place.{Clock}
use Rattle.inv_rows.specs.words.declared.layout.Layout.{Layout}
use Rattle.inv_rows.specs.defs.declared.event.Root.{Root}
use Rattle.inv_rows.specs.defs.declared.event.Root.TheVariants as roots
use Rattle.inv_rows.specs.model.Links.{link_number}
use Rattle.inv_rows.specs.model.Posts.{upper}
use Rattle.inv_rows.specs.model.Phases.{ProtectAt, MoveAt, Base}
use Rattle.inv_rows.specs.model.Phases.ProtectAt.{LoadClock, PublishEra, LoadLink, CheckClock, PublishRequest, LoadOwnClock, PublishHelper, LoadOwnLink, CheckOwnClock, AnswerOwn, LoadAnswer, TakeAnswer, WithdrawRequest, WithdrawHelper, LoadWithin, CheckUpper, RaiseUpper, ByHazard}
use Rattle.inv_rows.specs.model.Phases.MoveAt.{LoadEra, LoadRequest, ShowEra, LoadAsked, CheckEra, AnswerAsked, LoadReserved, HandOver, HideEra, HideLate, ExchangeClock}
use Rattle.inv_rows.specs.model.Phases.Base.{Begin, Protect, Reload, Clear, Finish, Release, Allocate, Write, GiveUp, Retire, Move}
use Rattle.inv_rows.specs.model.Calls.{Phase, Idle, Runs, Scans, Works}
use Rattle.inv_rows.specs.model.World.{World}
use Rattle.inv_rows.specs.Covering.Requests.Views.{View, Deal}
use Rattle.inv_rows.specs.Covering.Requests.Views.Deal.{Quiet, Open, Answered, Passed, Taken}

-- the protection carries the link x: it was loaded, and its era is still the clock, or it is an answer's. `upto` is the
-- upper end of the seat's interval. A link that is to be loaded again may not be the root's any more: it is not carried
abbrev pub carries_at : ℕ → ℕ → ProtectAt → ℕ → Bool
carries_at clock upto (LoadClock tries) x = false
carries_at clock upto (PublishEra era tries) x = false
carries_at clock upto (LoadLink era tries) x = false
carries_at clock upto (CheckClock era tries link) x = link == x && clock == era
carries_at clock upto PublishRequest x = false
carries_at clock upto LoadOwnClock x = false
carries_at clock upto (PublishHelper first era last) x = false
carries_at clock upto (LoadOwnLink first era last) x = false
carries_at clock upto (CheckOwnClock first era last link) x = link == x && clock == era
carries_at clock upto (AnswerOwn first era link) x = link == x
carries_at clock upto (LoadAnswer first) x = false
carries_at clock upto (TakeAnswer link era) x = link == x
carries_at clock upto (WithdrawRequest link era) x = link == x
carries_at clock upto (WithdrawHelper link era) x = link == x
carries_at clock upto LoadWithin x = false
carries_at clock upto (CheckUpper link) x = link == x && clock == upto
carries_at clock upto (RaiseUpper era) x = false
carries_at clock upto (ByHazard at) x = false

-- a followed link is carried until the head is loaded again
abbrev pub carries_base : ℕ → ℕ → Base → ℕ → Bool
carries_base clock upto (Begin at) x = false
carries_base clock upto (Protect aim index root steps at) x = carries_at clock upto at x
carries_base clock upto (Reload parent index slot era steps) x = slot + 1 == x
carries_base clock upto base x = false

abbrev pub carries_in : ℕ → ℕ → Phase → ℕ → Bool
carries_in clock upto Idle x = false
carries_in clock upto (Runs why base) x = carries_base clock upto base x
carries_in clock upto (Scans later at) x = false
carries_in clock upto (Works work) x = false

-- the request has an answer, and the link x is the answer's
abbrev pub has_link : Deal → ℕ → Bool
has_link Quiet x = false
has_link (Open tag index word) x = false
has_link (Answered tag index word link era by) x = link == x
has_link (Passed tag index word link era) x = link == x
has_link (Taken tag index word link era) x = link == x

-- the request for this word at this index with this tag is open
abbrev pub opened_by : ℕ → ℕ → ℕ → Deal → Bool
opened_by tag index word Quiet = false
opened_by tag index word (Open t j w) = t == tag && (j == index && w == word)
opened_by tag index word (Answered t j w link era by) = false
opened_by tag index word (Passed t j w link era) = false
opened_by tag index word (Taken t j w link era) = false

-- the mover has loaded the link x for the request d of seat k, which is still open: at an era that is still the clock, or
-- that was it when the mover checked it
abbrev pub helps_at : Layout → ℕ → ℕ → MoveAt → Deal → ℕ → Bool
helps_at layout clock k (LoadEra helps) d x = false
helps_at layout clock k (LoadRequest era seat shows) d x = false
helps_at layout clock k (ShowEra era seat tag index root) d x = false
helps_at layout clock k (LoadAsked era seat tag index root) d x = false
helps_at layout clock k (CheckEra era seat tag index root link) d x =
    seat == k && (link == x && (clock == era && opened_by tag index (link_number layout root) d))
helps_at layout clock k (AnswerAsked era seat tag index root link) d x =
    seat == k && (link == x && opened_by tag index (link_number layout root) d)
helps_at layout clock k (LoadReserved era seat tag index root link) d x = false
helps_at layout clock k (HandOver era seat tag index root link old) d x = false
helps_at layout clock k (HideEra era) d x = false
helps_at layout clock k (HideLate seen) d x = false
helps_at layout clock k (ExchangeClock era) d x = false

abbrev pub helps_base : Layout → ℕ → ℕ → Base → Deal → ℕ → Bool
helps_base layout clock k (Begin at) d x = false
helps_base layout clock k (Protect aim index root steps at) d x = false
helps_base layout clock k (Reload parent index slot era steps) d x = false
helps_base layout clock k (Clear rows index) d x = false
helps_base layout clock k Finish d x = false
helps_base layout clock k (Release index) d x = false
helps_base layout clock k (Allocate at) d x = false
helps_base layout clock k (Write slot row place) d x = false
helps_base layout clock k (GiveUp slot) d x = false
helps_base layout clock k (Retire at) d x = false
helps_base layout clock k (Move at) d x = helps_at layout clock k at d x

abbrev pub helps_in : Layout → ℕ → ℕ → Phase → Deal → ℕ → Bool
helps_in layout clock k Idle d x = false
helps_in layout clock k (Runs why base) d x = helps_base layout clock k base d x
helps_in layout clock k (Scans later at) d x = false
helps_in layout clock k (Works work) d x = false

-- the root that a protection is for; of other phases it says nothing
abbrev pub root_base : Base → Root
root_base (Begin at) = roots.Head
root_base (Protect aim index root steps at) = root
root_base (Reload parent index slot era steps) = roots.Next parent
root_base (Clear rows index) = roots.Head
root_base Finish = roots.Head
root_base (Release index) = roots.Head
root_base (Allocate at) = roots.Head
root_base (Write slot row place) = roots.Head
root_base (GiveUp slot) = roots.Head
root_base (Retire at) = roots.Head
root_base (Move at) = roots.Head

abbrev pub root_for : Phase → Root
root_for Idle = roots.Head
root_for (Runs why base) = root_base base
root_for (Scans later at) = roots.Head
root_for (Works work) = roots.Head

-- the root of a seat's protection
abbrev pub root_in : World → ℕ → Root
root_in w k = root_for (w.seat k).phase

-- the protection of seat k may end with the link: it carries it, its request was answered with it, or the mover m has it
-- for the open request
pub data Tracked (w : World) (z : View) (k link : ℕ) : Type 0 where
  Carried : carries_in (w.mem Clock) (upper (w.seat k).post.span) (w.seat k).phase link ≡ true → Tracked w z k link
  Given : has_link (z.deal k) link ≡ true → Tracked w z k link
  Helped : (m : ℕ) → helps_in w.layout (w.mem Clock) k (w.seat m).phase (z.deal k) link ≡ true → Tracked w z k link
