-- The deals after a step: what publishing, answering, handing over, taking and withdrawing make of them.
use Rattle.std.specs.Prelude.{ℕ, ◌==◌, if◌then◌else◌}
use Rattle.inv_rows.specs.words.Place.{Place}
use Rattle.inv_rows.specs.words.Place.Place.{Index, Request}
use Rattle.inv_rows.specs.words.Packed.{halves}
use Rattle.inv_rows.specs.defs.declared.event.Root.{Root}
use Rattle.inv_rows.specs.model.declared.post.Post.{Post}
use Rattle.inv_rows.specs.model.Links.{link_number}
use Rattle.inv_rows.specs.model.Memory.{upd}
use Rattle.inv_rows.specs.model.Posts.{tag_of}
use Rattle.inv_rows.specs.model.SlowPath.{asking, own_request}
use Rattle.inv_rows.specs.model.Phases.{ProtectAt, MoveAt, Base}
use Rattle.inv_rows.specs.model.Phases.ProtectAt.{LoadClock, PublishEra, LoadLink, CheckClock, PublishRequest, LoadOwnClock, PublishHelper, LoadOwnLink, CheckOwnClock, AnswerOwn, LoadAnswer, TakeAnswer, WithdrawRequest}
use Rattle.inv_rows.specs.model.Phases.MoveAt.{LoadEra, LoadRequest, ShowEra, LoadAsked, CheckEra, AnswerAsked, LoadReserved, HandOver, HideEra, HideLate, ExchangeClock}
use Rattle.inv_rows.specs.model.Phases.Base.{Begin, Protect, Reload, Clear, Finish, Release, Allocate, Write, GiveUp, Retire, Move}
use Rattle.inv_rows.specs.model.Calls.{Phase, Idle, Runs, Scans, Works}
use Rattle.inv_rows.specs.model.World.{World}
use Rattle.inv_rows.specs.Covering.Requests.Views.{Deal}
use Rattle.inv_rows.specs.Covering.Requests.Views.Deal.{Quiet, Open, Answered, Passed, Taken}

-- the own request is published, answered, taken and withdrawn
abbrev pub protect_deals : (Place → ℕ) → ℕ → Post → ℕ → Root → ProtectAt → (ℕ → Deal) → ℕ → Deal
protect_deals mem i post j r (LoadClock tries) deals = deals
protect_deals mem i post j r (PublishEra era tries) deals = deals
protect_deals mem i post j r (LoadLink era tries) deals = deals
protect_deals mem i post j r (CheckClock era tries link) deals = deals
protect_deals mem i post j r PublishRequest deals = upd deals i (Open (tag_of post j) j (link_number post.layout r))
protect_deals mem i post j r LoadOwnClock deals = deals
protect_deals mem i post j r (PublishHelper first era last) deals = deals
protect_deals mem i post j r (LoadOwnLink first era last) deals = deals
protect_deals mem i post j r (CheckOwnClock first era last link) deals = deals
protect_deals mem i post j r (AnswerOwn first era link) deals =
    if mem (Request post.seat) == own_request post j r
    then upd deals i (Answered (tag_of post j) j (link_number post.layout r) link era i)
    else deals
protect_deals mem i post j r (LoadAnswer first) deals = deals
protect_deals mem i post j r (TakeAnswer link era) deals = upd deals i (Taken (tag_of post j) j (link_number post.layout r) link era)
protect_deals mem i post j r (WithdrawRequest link era) deals = upd deals i Quiet
protect_deals mem i post j r at deals = deals

-- a mover answers a request, and hands its answer over
abbrev pub move_deals : (Place → ℕ) → ℕ → Post → MoveAt → (ℕ → Deal) → ℕ → Deal
move_deals mem i post (LoadEra helps) deals = deals
move_deals mem i post (LoadRequest e k shown) deals = deals
move_deals mem i post (ShowEra e k t j r) deals = deals
move_deals mem i post (LoadAsked e k t j r) deals = deals
move_deals mem i post (CheckEra e k t j r link) deals = deals
move_deals mem i post (AnswerAsked e k t j r link) deals =
    if mem (Request k) == asking post.layout t j r
    then upd deals k (Answered t j (link_number post.layout r) link e i)
    else deals
move_deals mem i post (LoadReserved e k t j r link) deals = deals
move_deals mem i post (HandOver e k t j r link old) deals =
    if mem (Index k j) == halves old t
    then upd deals k (Passed t j (link_number post.layout r) link e)
    else deals
move_deals mem i post (HideEra e) deals = deals
move_deals mem i post (HideLate seen) deals = deals
move_deals mem i post (ExchangeClock e) deals = deals

abbrev pub base_deals : (Place → ℕ) → ℕ → Post → Base → (ℕ → Deal) → ℕ → Deal
base_deals mem i post (Begin at) deals = deals
base_deals mem i post (Protect aim index root steps at) deals = protect_deals mem i post index root at deals
base_deals mem i post (Reload parent index slot era steps) deals = deals
base_deals mem i post (Clear rows index) deals = deals
base_deals mem i post Finish deals = deals
base_deals mem i post (Release index) deals = deals
base_deals mem i post (Allocate at) deals = deals
base_deals mem i post (Write slot row place) deals = deals
base_deals mem i post (GiveUp slot) deals = deals
base_deals mem i post (Retire at) deals = deals
base_deals mem i post (Move at) deals = move_deals mem i post at deals

abbrev pub phase_deals : (Place → ℕ) → ℕ → Post → Phase → (ℕ → Deal) → ℕ → Deal
phase_deals mem i post Idle deals = deals
phase_deals mem i post (Runs why base) deals = base_deals mem i post base deals
phase_deals mem i post (Scans later at) deals = deals
phase_deals mem i post (Works work) deals = deals

-- the deals after a step of seat i
abbrev pub next_deals : World → ℕ → (ℕ → Deal) → ℕ → Deal
next_deals w i deals = phase_deals w.mem i (w.seat i).post (w.seat i).phase deals
