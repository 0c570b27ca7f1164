-- A dequeue that follows the head's next link: each link that it has loaded, and is not null, is that next link.
use Rattle.std.specs.Prelude.{ℕ, ◌≡◌, ◌<◌, ◌+◌, ◌==◌, ◌&&◌, not, Bool, true, false, Some}
use Rattle.wfe_core.specs.words.Packed.{read_request}
use Rattle.wfe_core.specs.words.declared.packed.Request.TheVariants as requests
use Rattle.wfe_core.specs.defs.declared.event.Root.{Root}
use Rattle.wfe_core.specs.defs.declared.event.Root.TheVariants as roots
use Rattle.wfe_core.specs.Phases.{Aim, Alone, Follows, HazardAt, ProtectAt, Base}
use Rattle.wfe_core.specs.Phases.HazardAt.{FirstLink, PublishLink, CheckLink}
use Rattle.wfe_core.specs.Phases.ProtectAt.{LoadClock, PublishEra, LoadLink, CheckClock, PublishRequest, LoadOwnClock, PublishHelper, LoadOwnLink, CheckOwnClock, AnswerOwn, LoadAnswer, TakeAnswer, WithdrawRequest, WithdrawHelper, LoadWithin, CheckUpper, RaiseUpper, ByHazard}
use Rattle.wfe_core.specs.Phases.Base.{Begin, Protect, Reload}
use Rattle.wfe_core.specs.Calls.{Why, Opens, FollowsHead, Phase, Idle, Runs, Scans, Works}

-- the protection has loaded this link, and it is not null
abbrev pub hazard_loaded : HazardAt → ℕ → Bool
hazard_loaded FirstLink x = false
hazard_loaded (PublishLink link) x = link == x && not (x == 0)
hazard_loaded (CheckLink link) x = link == x && not (x == 0)

abbrev pub at_loaded : ProtectAt → ℕ → Bool
at_loaded (LoadClock tries) x = false
at_loaded (PublishEra era tries) x = false
at_loaded (LoadLink era tries) x = false
at_loaded (CheckClock era tries link) x = link == x && not (x == 0)
at_loaded PublishRequest x = false
at_loaded LoadOwnClock x = false
at_loaded (PublishHelper first era last) x = false
at_loaded (LoadOwnLink first era last) x = false
at_loaded (CheckOwnClock first era last link) x = link == x && not (x == 0)
at_loaded (AnswerOwn first era link) x = link == x && not (x == 0)
at_loaded (LoadAnswer first) x = false
at_loaded (TakeAnswer link era) x = link == x && not (x == 0)
at_loaded (WithdrawRequest link era) x = link == x && not (x == 0)
at_loaded (WithdrawHelper link era) x = link == x && not (x == 0)
at_loaded LoadWithin x = false
at_loaded (CheckUpper link) x = link == x && not (x == 0)
at_loaded (RaiseUpper era) x = false
at_loaded (ByHazard at) x = hazard_loaded at x

-- it reads an answer to its request now
abbrev pub at_asks : ProtectAt → Bool
at_asks (LoadClock tries) = false
at_asks (PublishEra era tries) = false
at_asks (LoadLink era tries) = false
at_asks (CheckClock era tries link) = false
at_asks PublishRequest = false
at_asks LoadOwnClock = false
at_asks (PublishHelper first era last) = false
at_asks (LoadOwnLink first era last) = false
at_asks (CheckOwnClock first era last link) = false
at_asks (AnswerOwn first era link) = true
at_asks (LoadAnswer first) = true
at_asks at = false

abbrev pub base_loaded : Base → ℕ → Bool
base_loaded (Begin at) x = false
base_loaded (Protect aim index root steps at) x = at_loaded at x
base_loaded (Reload parent index slot era steps) x = slot + 1 == x
base_loaded base x = false

abbrev pub is_follows : Aim → Bool
is_follows Alone = false
is_follows Follows = true

abbrev pub is_next : Root → ℕ → Bool
is_next (roots.Bucket bucket) h = false
is_next roots.Head h = false
is_next roots.Tail h = false
is_next (roots.Next parent) h = parent == h

-- the machine follows the next link of this row
abbrev pub follows_base : Base → ℕ → Bool
follows_base (Begin at) h = false
follows_base (Protect aim index root steps at) h = is_follows aim && is_next root h
follows_base (Reload parent index slot era steps) h = parent == h
follows_base base h = false

-- of the machine that follows the next link of row h
pub record LoadsBase (h : ℕ) (base : Base) (next : ℕ) : Type 0 where
  pub loaded : (link : ℕ) → base_loaded base link ≡ true → next ≡ link
  pub right : follows_base base h ≡ true

abbrev pub WhyLoads : Why → Base → (ℕ → ℕ) → Type 0
WhyLoads (Opens task) base next = Unit {0}
WhyLoads (FollowsHead head tail) base next = LoadsBase head base (next head)
WhyLoads why base next = Unit {0}

-- the link that a seat has loaded is the head's row's next link
abbrev pub Loads : Phase → (ℕ → ℕ) → Type 0
Loads Idle next = Unit {0}
Loads (Runs why base) next = WhyLoads why base next
Loads (Scans later at) next = Unit {0}
Loads (Works work) next = Unit {0}

-- an answer that a seat's request has, where it follows a next link, is that link or null
abbrev pub AnswersFit : ProtectAt → (found next : ℕ) → Type 0
AnswersFit at found next = (link era : ℕ) → at_asks at ≡ true → read_request found ≡ Some (requests.Answered link era) → 0 < link → next ≡ link
