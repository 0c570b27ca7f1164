-- Which role a seat's phase is, and the words that a view stands for.
use Rattle.std.specs.Prelude.{ℕ, ◌≡◌, Bool, true, false, nat_lt}
use Rattle.inv_rows.specs.words.Place.{Place, has}
use Rattle.inv_rows.specs.words.Place.Place.{Clock, Helper, Index, Request}
use Rattle.inv_rows.specs.words.Packed.{halves, pending_word, answered_word}
use Rattle.inv_rows.specs.words.Schemes.{publishes_rows}
use Rattle.inv_rows.specs.words.declared.layout.Layout.{Layout}
use Rattle.inv_rows.specs.defs.declared.event.Root.{Root}
use Rattle.inv_rows.specs.model.Links.{link_place, link_number}
use Rattle.inv_rows.specs.model.Posts.{tag_of}
use Rattle.inv_rows.specs.model.Phases.{Tries, Endless, Failed, ProtectAt, MoveAt, Base}
use Rattle.inv_rows.specs.model.Phases.ProtectAt.{LoadClock, PublishEra, LoadLink, CheckClock, PublishRequest, LoadOwnClock, PublishHelper, LoadOwnLink, CheckOwnClock, AnswerOwn, LoadAnswer, TakeAnswer, WithdrawRequest, WithdrawHelper, LoadWithin, CheckUpper, RaiseUpper, ByHazard}
use Rattle.inv_rows.specs.model.Phases.MoveAt.{LoadEra, LoadRequest, ShowEra, LoadAsked, CheckEra, AnswerAsked, LoadReserved, HandOver, HideEra, HideLate, ExchangeClock}
use Rattle.inv_rows.specs.model.Phases.Base.{Begin, Protect, Reload, Clear, Finish, Release, Allocate, Write, GiveUp, Retire, Move}
use Rattle.inv_rows.specs.model.Calls.{StoreHeld, Work, Keeping, Phase, Idle, Runs, Scans, Works}
use Rattle.inv_rows.specs.model.Locals.{Local}
use Rattle.inv_rows.specs.model.World.{World}
use Rattle.inv_rows.specs.Covering.Requests.Views.{View, Deal, Role}
use Rattle.inv_rows.specs.Covering.Requests.Views.Deal.{Quiet, Open, Answered, Passed, Taken}
use Rattle.inv_rows.specs.Covering.Requests.Views.Role.{Away, Publishes, Attempts, Copies, Asks, Asked, Turns, Looks, Answers, Waits, Takes, Took, Leaves, Meets, Shows, Loads, Helps, Reads, Hands, Hides, Late, Moves}
use Rattle.inv_rows.specs.Covering.Requests.Parts.{Parts}

-- a try has failed; Hazard Eras count none
abbrev pub has_failed : Tries → Bool
has_failed Endless = false
has_failed (Failed count) = nat_lt 0 count

abbrev pub protect_role : Layout → ℕ → Root → ProtectAt → Role
protect_role layout j r (LoadClock tries) = Away
protect_role layout j r (PublishEra era tries) = Publishes j era (has_failed tries)
protect_role layout j r (LoadLink era tries) = Attempts j era (has_failed tries)
protect_role layout j r (CheckClock era tries link) = Attempts j era (has_failed tries)
protect_role layout j r PublishRequest = Asks j (link_number layout r)
protect_role layout j r LoadOwnClock = Asked j (link_number layout r)
protect_role layout j r (PublishHelper first era last) = Turns j (link_number layout r) first era last
protect_role layout j r (LoadOwnLink first era last) = Looks j (link_number layout r) first era last 0
protect_role layout j r (CheckOwnClock first era last link) = Looks j (link_number layout r) first era last link
protect_role layout j r (AnswerOwn first era link) = Answers j (link_number layout r) first era link
protect_role layout j r (LoadAnswer first) = Waits j (link_number layout r)
protect_role layout j r (TakeAnswer link era) = Takes j (link_number layout r) link era
protect_role layout j r (WithdrawRequest link era) = Took j (link_number layout r) link era
protect_role layout j r (WithdrawHelper link era) = Leaves j link era
protect_role layout j r LoadWithin = Away
protect_role layout j r (CheckUpper link) = Away
protect_role layout j r (RaiseUpper era) = Away
protect_role layout j r (ByHazard at) = Away

abbrev pub move_role : Layout → MoveAt → Role
move_role layout (LoadEra helps) = Away
move_role layout (LoadRequest e k shown) = Meets e k shown
move_role layout (ShowEra e k t j r) = Shows e k t j (link_number layout r)
move_role layout (LoadAsked e k t j r) = Loads e k t j (link_number layout r) 0
move_role layout (CheckEra e k t j r link) = Loads e k t j (link_number layout r) link
move_role layout (AnswerAsked e k t j r link) = Helps e k t j (link_number layout r) link
move_role layout (LoadReserved e k t j r link) = Reads e k t j (link_number layout r) link
move_role layout (HandOver e k t j r link old) = Hands e k t j (link_number layout r) link old
move_role layout (HideEra e) = Hides e
move_role layout (HideLate seen) = Late
move_role layout (ExchangeClock e) = Moves e

abbrev pub base_role : Layout → Base → Role
base_role layout (Begin at) = Away
base_role layout (Protect aim index root steps at) = protect_role layout index root at
base_role layout (Reload parent index slot era steps) = Away
base_role layout (Clear rows index) = Away
base_role layout Finish = Away
base_role layout (Release index) = Away
base_role layout (Allocate at) = Away
base_role layout (Write slot row place) = Away
base_role layout (GiveUp slot) = Away
base_role layout (Retire at) = Away
base_role layout (Move at) = move_role layout at

-- of a call's own steps only the second of a copy matters, where eras are published
abbrev pub copy_role : (rows : Bool) → ℕ → ℕ → Role
copy_role true from link = Away
copy_role false from era = Copies from era

abbrev pub work_role : Layout → Work → Role
work_role layout (Keeping (StoreHeld from index number)) = copy_role (publishes_rows layout.config.scheme) from number
work_role layout work = Away

abbrev pub role_of : Layout → Phase → Role
role_of layout Idle = Away
role_of layout (Runs why base) = base_role layout base
role_of layout (Scans later at) = Away
role_of layout (Works work) = work_role layout work

-- the link word that a mover is asked for is one of the table's
abbrev pub asked_there : Layout → MoveAt → Bool
asked_there layout (LoadEra helps) = true
asked_there layout (LoadRequest e k shown) = true
asked_there layout (ShowEra e k t j r) = has layout (link_place r)
asked_there layout (LoadAsked e k t j r) = has layout (link_place r)
asked_there layout (CheckEra e k t j r link) = has layout (link_place r)
asked_there layout (AnswerAsked e k t j r link) = has layout (link_place r)
asked_there layout (LoadReserved e k t j r link) = has layout (link_place r)
asked_there layout (HandOver e k t j r link old) = has layout (link_place r)
asked_there layout at = true

abbrev pub base_there : Layout → Base → Bool
base_there layout (Begin at) = true
base_there layout (Protect aim index root steps at) = true
base_there layout (Reload parent index slot era steps) = true
base_there layout (Clear rows index) = true
base_there layout Finish = true
base_there layout (Release index) = true
base_there layout (Allocate at) = true
base_there layout (Write slot row place) = true
base_there layout (GiveUp slot) = true
base_there layout (Retire at) = true
base_there layout (Move at) = asked_there layout at

abbrev pub is_there : Layout → Phase → Bool
is_there layout Idle = true
is_there layout (Runs why base) = base_there layout base
is_there layout (Scans later at) = true
is_there layout (Works work) = true

-- the request word of a deal
abbrev pub request_of : Deal → ℕ
request_of Quiet = 0
request_of (Open t j w) = pending_word t j w
request_of (Answered t j w l e m) = answered_word l e
request_of (Passed t j w l e) = answered_word l e
request_of (Taken t j w l e) = answered_word l e

-- the words of clock, helpers and requests, and where no rows are published of indexes
pub record Words (rows : Bool) (mem : Place → ℕ) (clock : ℕ) (helper : ℕ → ℕ) (era mark : ℕ → ℕ → ℕ) (deal : ℕ → Deal) : Type 0 where
  pub clocks : mem Clock ≡ clock
  pub helpers : (k : ℕ) → mem (Helper k) ≡ halves (helper k) 0
  pub indexes : rows ≡ false → (k j : ℕ) → mem (Index k j) ≡ halves (era k j) (mark k j)
  pub requests : (k : ℕ) → mem (Request k) ≡ request_of (deal k)

-- the tags and roles of the seats; a request that a mover is at asks for one of the table's words
pub record Locals (layout : Layout) (seat : ℕ → Local) (tag : ℕ → ℕ → ℕ) (role : ℕ → Role) : Type 0 where
  pub tags : (k j : ℕ) → tag_of (seat k).post j ≡ tag k j
  pub roles : (k : ℕ) → role_of layout (seat k).phase ≡ role k
  pub there : (k : ℕ) → is_there layout (seat k).phase ≡ true

-- words and seats are those of the view, and the parts hold of it
pub record Facts (layout : Layout) (mem : Place → ℕ) (seat : ℕ → Local) (v : View) : Type 0 where
  pub words : Words (publishes_rows layout.config.scheme) mem v.clock v.helper v.era v.mark v.deal
  pub locals : Locals layout seat v.tag v.role
  pub parts : Parts layout.config v

-- what holds of requests and helping in a World, with the view that it stands for
abbrev pub Requests : World → View → Type 0
Requests w v = Facts w.layout w.mem w.seat v
