-- What holds where a machine makes its next step, what that step may find, and what its end may be. A history gives all
-- of it at each step.
use Rattle.std.specs.Prelude.{ℕ, ◌≡◌, ◌≤◌, ◌<◌, ◌+◌, ◌^◌, Bool, false, true, length, Option, Some, None}
use Rattle.wfe_words.specs.Place.{has}
use Rattle.wfe_words.specs.Packed.{read_request}
use Rattle.wfe_words.specs.declared.layout.Layout.{Layout}
use Rattle.wfe_words.specs.declared.packed.Request.{Request}
use Rattle.wfe_words.specs.declared.packed.Request.TheVariants as requests
use Rattle.wfe_defs.specs.declared.event.Root.{Root}
use Rattle.wfe_core.specs.declared.ends.AllocateEnd.{AllocateEnd}
use Rattle.wfe_core.specs.declared.ends.AllocateEnd.TheVariants as allocate_ends
use Rattle.wfe_core.specs.declared.ends.FollowEnd.{FollowEnd}
use Rattle.wfe_core.specs.declared.ends.FollowEnd.TheVariants as follow_ends
use Rattle.wfe_core.specs.declared.ends.ProtectEnd.{ProtectEnd}
use Rattle.wfe_core.specs.declared.ends.ProtectEnd.TheVariants as protect_ends
use Rattle.wfe_core.specs.declared.post.Post.{Post}
use Rattle.wfe_core.specs.Links.{link_place, link_number, root_at}
use Rattle.wfe_core.specs.Phases.{Tries, Endless, Failed, BeginAt, HazardAt, ProtectAt, Walk, AllocateAt, RetireAt, MoveAt, RowOf, MapRow, QueueRow, Base, Ending}
use Rattle.wfe_core.specs.Phases.BeginAt.{LoadLower, PublishSpan}
use Rattle.wfe_core.specs.Phases.ProtectAt.{LoadClock, PublishEra, LoadLink, CheckClock, PublishRequest, LoadOwnClock, PublishHelper, LoadOwnLink, CheckOwnClock, AnswerOwn, LoadAnswer, TakeAnswer, WithdrawRequest, WithdrawHelper, LoadWithin, CheckUpper, RaiseUpper, ByHazard}
use Rattle.wfe_core.specs.Phases.HazardAt.{FirstLink, PublishLink, CheckLink}
use Rattle.wfe_core.specs.Phases.AllocateAt.{LoadBirth, ClaimSlot, StoreLife}
use Rattle.wfe_core.specs.Phases.RetireAt.{LoadLife, LoadRetire, StoreRetired}
use Rattle.wfe_core.specs.Phases.MoveAt.{LoadEra, LoadRequest, ShowEra, LoadAsked, CheckEra, AnswerAsked, LoadReserved, HandOver, HideEra, HideLate, ExchangeClock}
use Rattle.wfe_core.specs.Phases.Base.{Begin, Protect, Reload, Clear, Finish, Release, Allocate, Write, GiveUp, Retire, Move}
use Rattle.wfe_core.specs.Phases.Ending.{Done, Protected, Followed, Allocated, Retired, Clocked}
use Rattle.wfe_core.specs.Posts.{tag_of, lower}
use Rattle.wfe_core.specs.WriteRow.{first_written, last_written}

-- a row's number
abbrev pub SlotFits : Post → ℕ → Type 0
SlotFits post slot = slot ≤ post.layout.config.slots

-- a link: null, or a row's number plus one
abbrev pub LinkFits : Post → ℕ → Type 0
LinkFits post link = link ≤ post.layout.config.slots + 1

-- where index words publish rows, a link
abbrev pub ShownFits : (rows : Bool) → Post → ℕ → Type 0
ShownFits false post word = Unit {0}
ShownFits true post word = LinkFits post word

-- an index of the seat
abbrev pub IndexFits : Post → ℕ → Type 0
IndexFits post index = index < post.layout.config.indexes

-- the root is a word of the table
abbrev pub RootFits : Layout → Root → Type 0
RootFits layout root = has layout (link_place root) ≡ true

-- an era, as a word
abbrev pub EraFits : ℕ → Type 0
EraFits era = (1 ≤ era) × (era < 2 ^ 32)

-- at most so many tries have failed
abbrev pub FailedFits : Tries → ℕ → Type 0
FailedFits Endless most = Unit {0}
FailedFits (Failed count) most = count ≤ most

-- a try is left
abbrev pub TryFits : Tries → ℕ → Type 0
TryFits Endless most = Unit {0}
TryFits (Failed count) most = count < most

abbrev pub begin_ready : BeginAt → Post → Type 0
begin_ready LoadLower post = Unit {0}
begin_ready (PublishSpan era) post = 1 ≤ era

abbrev pub hazard_ready : HazardAt → Post → Type 0
hazard_ready FirstLink post = Unit {0}
hazard_ready (PublishLink link) post = LinkFits post link
hazard_ready (CheckLink link) post = LinkFits post link

abbrev pub protect_ready : ProtectAt → ℕ → Post → Type 0
protect_ready (LoadClock tries) index post = FailedFits tries post.layout.config.tries
protect_ready (PublishEra era tries) index post = FailedFits tries post.layout.config.tries
protect_ready (LoadLink era tries) index post = TryFits tries post.layout.config.tries
protect_ready (CheckClock era tries link) index post = (TryFits tries post.layout.config.tries) × (LinkFits post link)
protect_ready PublishRequest index post = Unit {0}
protect_ready LoadOwnClock index post = Unit {0}
protect_ready (PublishHelper first era last) index post = Unit {0}
protect_ready (LoadOwnLink first era last) index post = Unit {0}
protect_ready (CheckOwnClock first era last link) index post = LinkFits post link
protect_ready (AnswerOwn first era link) index post = (LinkFits post link) × (1 ≤ era)
protect_ready (LoadAnswer first) index post = Unit {0}
protect_ready (TakeAnswer link era) index post = (LinkFits post link) × (tag_of post index + 1 < 4294967295)
protect_ready (WithdrawRequest link era) index post = LinkFits post link
protect_ready (WithdrawHelper link era) index post = LinkFits post link
protect_ready LoadWithin index post = Unit {0}
protect_ready (CheckUpper link) index post = LinkFits post link
protect_ready (RaiseUpper era) index post = (1 ≤ lower post.span) × (lower post.span ≤ era)
protect_ready (ByHazard at) index post = hazard_ready at post

-- the walk stands at a row, and no more than the others come after it
pub record WalkFits (post : Post) (walk : Walk) : Type 0 where
  pub slot : walk.slot ≤ post.layout.config.slots
  pub left : walk.left ≤ post.layout.config.slots

abbrev pub allocate_ready : AllocateAt → Post → Type 0
allocate_ready LoadBirth post = Unit {0}
allocate_ready (ClaimSlot birth walk) post = WalkFits post walk
allocate_ready (StoreLife birth slot) post = (1 ≤ birth) × (SlotFits post slot)

abbrev pub retire_ready : RetireAt → Post → Type 0
retire_ready (LoadLife slot) post = SlotFits post slot
retire_ready (LoadRetire slot birth) post = SlotFits post slot
retire_ready (StoreRetired slot birth retire) post = (SlotFits post slot) × (1 ≤ birth) × (birth ≤ retire)

-- whom a mover answers: seat, tag, index and root
pub record AskFits (post : Post) (seat tag index : ℕ) (root : Root) : Type 0 where
  pub seat_in : seat < post.layout.config.seats
  pub tag_in : tag < 4294967295
  pub index_in : index < post.layout.config.indexes
  pub root_in : RootFits post.layout root

abbrev pub move_ready : MoveAt → Post → Type 0
move_ready (LoadEra helps) post = Unit {0}
move_ready (LoadRequest era seat shows) post = seat < post.layout.config.seats
move_ready (ShowEra era seat tag index root) post = AskFits post seat tag index root
move_ready (LoadAsked era seat tag index root) post = AskFits post seat tag index root
move_ready (CheckEra era seat tag index root link) post = AskFits post seat tag index root
move_ready (AnswerAsked era seat tag index root link) post = (AskFits post seat tag index root) × (LinkFits post link) × (1 ≤ era)
move_ready (LoadReserved era seat tag index root link) post = AskFits post seat tag index root
move_ready (HandOver era seat tag index root link old) post = AskFits post seat tag index root
move_ready (HideEra era) post = Unit {0}
move_ready (HideLate seen) post = Unit {0}
move_ready (ExchangeClock era) post = era < post.layout.config.last_era

-- the row has room for the pairs
abbrev pub RowFits : Post → RowOf → Type 0
RowFits post (MapRow version pairs) = length pairs ≤ post.layout.config.pairs
RowFits post (QueueRow number value) = Unit {0}

-- what holds where a machine makes its next step
abbrev pub IsReady : Base → Post → Type 0
IsReady (Begin at) post = begin_ready at post
IsReady (Protect aim index root steps at) post = (IndexFits post index) × (RootFits post.layout root) × protect_ready at index post
IsReady (Reload parent index slot era steps) post = (IndexFits post index) × (SlotFits post slot) × (SlotFits post parent)
IsReady (Clear rows index) post = IndexFits post index
IsReady Finish post = Unit {0}
IsReady (Release index) post = IndexFits post index
IsReady (Allocate at) post = allocate_ready at post
IsReady (Write slot row place) post = (SlotFits post slot) × (RowFits post row) × (first_written row ≤ place) × (place ≤ last_written row)
IsReady (GiveUp slot) post = SlotFits post slot
IsReady (Retire at) post = retire_ready at post
IsReady (Move at) post = move_ready at post

-- a pending request asks for a root of the table at one of its seat's indexes
abbrev pub AskedFits : Post → Option Request → Type 0
AskedFits post (Some (requests.Pending tag index word)) =
    (tag < 4294967295) × (IndexFits post index) × (RootFits post.layout (root_at post.layout word)) × (link_number post.layout (root_at post.layout word) ≡ word)
AskedFits post (Some (requests.Answered link era)) = Unit {0}
AskedFits post (Some requests.Idle) = Unit {0}
AskedFits post None = Unit {0}

abbrev pub begin_plausible : BeginAt → ℕ → Type 0
begin_plausible LoadLower found = EraFits found
begin_plausible (PublishSpan era) found = Unit {0}

abbrev pub hazard_plausible : HazardAt → Post → ℕ → Type 0
hazard_plausible FirstLink post found = LinkFits post found
hazard_plausible (PublishLink link) post found = Unit {0}
hazard_plausible (CheckLink link) post found = LinkFits post found

abbrev pub protect_plausible : ProtectAt → Post → ℕ → Type 0
protect_plausible (LoadClock tries) post found = EraFits found
protect_plausible (PublishEra era tries) post found = Unit {0}
protect_plausible (LoadLink era tries) post found = LinkFits post found
protect_plausible (CheckClock era tries link) post found = EraFits found
protect_plausible PublishRequest post found = Unit {0}
protect_plausible LoadOwnClock post found = EraFits found
protect_plausible (PublishHelper first era last) post found = Unit {0}
protect_plausible (LoadOwnLink first era last) post found = LinkFits post found
protect_plausible (CheckOwnClock first era last link) post found = EraFits found
protect_plausible (AnswerOwn first era link) post found = Unit {0}
protect_plausible (LoadAnswer first) post found = Unit {0}
protect_plausible (TakeAnswer link era) post found = Unit {0}
protect_plausible (WithdrawRequest link era) post found = Unit {0}
protect_plausible (WithdrawHelper link era) post found = Unit {0}
protect_plausible LoadWithin post found = LinkFits post found
protect_plausible (CheckUpper link) post found = EraFits found
protect_plausible (RaiseUpper era) post found = Unit {0}
protect_plausible (ByHazard at) post found = hazard_plausible at post found

abbrev pub allocate_plausible : AllocateAt → ℕ → Type 0
allocate_plausible LoadBirth found = EraFits found
allocate_plausible (ClaimSlot birth walk) found = Unit {0}
allocate_plausible (StoreLife birth slot) found = Unit {0}

abbrev pub retire_plausible : RetireAt → ℕ → Type 0
retire_plausible (LoadLife slot) found = Unit {0}
retire_plausible (LoadRetire slot birth) found = EraFits found
retire_plausible (StoreRetired slot birth retire) found = Unit {0}

abbrev pub move_plausible : MoveAt → Post → ℕ → Type 0
move_plausible (LoadEra helps) post found = EraFits found
move_plausible (LoadRequest era seat shows) post found = AskedFits post (read_request found)
move_plausible (ShowEra era seat tag index root) post found = Unit {0}
move_plausible (LoadAsked era seat tag index root) post found = LinkFits post found
move_plausible (CheckEra era seat tag index root link) post found = EraFits found
move_plausible (AnswerAsked era seat tag index root link) post found = Unit {0}
move_plausible (LoadReserved era seat tag index root link) post found = Unit {0}
move_plausible (HandOver era seat tag index root link old) post found = Unit {0}
move_plausible (HideEra era) post found = Unit {0}
move_plausible (HideLate seen) post found = Unit {0}
move_plausible (ExchangeClock era) post found = EraFits found

-- what the word may hold that a step finds
abbrev pub Plausible : Base → Post → ℕ → Type 0
Plausible (Begin at) post found = begin_plausible at found
Plausible (Protect aim index root steps at) post found = protect_plausible at post found
Plausible (Reload parent index slot era steps) post found = Unit {0}
Plausible (Clear rows index) post found = Unit {0}
Plausible Finish post found = Unit {0}
Plausible (Release index) post found = Unit {0}
Plausible (Allocate at) post found = allocate_plausible at found
Plausible (Write slot row place) post found = Unit {0}
Plausible (GiveUp slot) post found = Unit {0}
Plausible (Retire at) post found = retire_plausible at found
Plausible (Move at) post found = move_plausible at post found

abbrev pub protect_within : ProtectEnd → Post → Type 0
protect_within (protect_ends.Held slot era) post = SlotFits post slot
protect_within protect_ends.Null post = Unit {0}

abbrev pub follow_within : FollowEnd → Post → Type 0
follow_within (follow_ends.Followed slot) post = SlotFits post slot
follow_within follow_ends.NoNext post = Unit {0}
follow_within (follow_ends.RootMoved seen) post = Unit {0}

abbrev pub allocate_within : AllocateEnd → Post → Type 0
allocate_within (allocate_ends.Given slot birth) post = SlotFits post slot
allocate_within allocate_ends.Full post = Unit {0}

-- what a machine's end may be
abbrev pub Within : Ending → Post → Type 0
Within Done post = Unit {0}
Within (Protected ending) post = protect_within ending post
Within (Followed ending) post = follow_within ending post
Within (Allocated ending) post = allocate_within ending post
Within (Retired life) post = SlotFits post life.slot
Within (Clocked clock) post = Unit {0}
