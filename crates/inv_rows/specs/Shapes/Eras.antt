-- Each word decodes, and each era in a word or a phase is at most the clock.
use Rattle.std.specs.Prelude.{ℕ, ◌≡◌, ◌≤◌, ◌<◌, ◌+◌, Bool, false, true, Option, Some, None}
use Rattle.wfe_core.specs.words.Place.{Place, has}
use Rattle.wfe_core.specs.words.Place.Place.{Clock, Helper, Index, Interval, Request, Bucket, Head, Tail, Claim, Life, Row, PlaceOf}
use Rattle.wfe_core.specs.words.Packed.{life_word, reservation_word, request_word}
use Rattle.wfe_core.specs.words.Schemes.{publishes_rows}
use Rattle.wfe_core.specs.words.declared.layout.Layout.{Layout}
use Rattle.wfe_core.specs.words.declared.packed.Request.{Request as Asking}
use Rattle.wfe_core.specs.words.declared.packed.Request.TheVariants as requests
use Rattle.wfe_core.specs.defs.declared.event.Root.{Root}
use Rattle.wfe_core.specs.defs.declared.event.Root.TheVariants as roots
use Rattle.wfe_core.specs.defs.declared.lifetime.Interval.{Interval as Eras_of}
use Rattle.wfe_core.specs.declared.post.Post.{Post}
use Rattle.wfe_core.specs.Links.{link_place, link_number}
use Rattle.wfe_core.specs.Memory.{Move, Load, Store, Cas, Or, And}
use Rattle.wfe_core.specs.Posts.{helper_word, tag_of, upper}
use Rattle.wfe_core.specs.Spans.{eras_word}
use Rattle.wfe_core.specs.Phases.{BeginAt, HazardAt, ProtectAt, AllocateAt, RetireAt, MoveAt, Base}
use Rattle.wfe_core.specs.Phases.BeginAt.{LoadLower, PublishSpan}
use Rattle.wfe_core.specs.Phases.ProtectAt.{LoadClock, PublishEra, LoadLink, CheckClock, PublishRequest, LoadOwnClock, PublishHelper, LoadOwnLink, CheckOwnClock, AnswerOwn, LoadAnswer, TakeAnswer, WithdrawRequest, WithdrawHelper, LoadWithin, CheckUpper, RaiseUpper, ByHazard}
use Rattle.wfe_core.specs.Phases.HazardAt.{PublishLink}
use Rattle.wfe_core.specs.Phases.AllocateAt.{LoadBirth, ClaimSlot, StoreLife}
use Rattle.wfe_core.specs.Phases.RetireAt.{LoadLife, LoadRetire, StoreRetired}
use Rattle.wfe_core.specs.Phases.MoveAt.{LoadEra, LoadRequest, ShowEra, LoadAsked, CheckEra, AnswerAsked, LoadReserved, HandOver, HideEra, HideLate, ExchangeClock}
use Rattle.wfe_core.specs.Phases.Base.{Begin, Protect, Reload, Clear, Finish, Release, Allocate, Write, GiveUp, Retire, Move as Moves}
use Rattle.wfe_core.specs.Calls.{StoreHeld, Work, Keeping, Phase, Idle, Runs, Scans, Works}
use Rattle.wfe_core.specs.World.{World}
use Rattle.inv_rows.specs.Shapes.Frame.{Seated}
use Rattle.inv_rows.specs.Shapes.Seats.{PostFits}

-- an era that the clock has shown
pub record EraIn (clock era : ℕ) : Type 0 where
  pub some : 1 ≤ era
  pub most : era ≤ clock

-- a span of such eras
abbrev pub SpanIn : ℕ → Option Eras_of → Type 0
SpanIn clock None = Unit {0}
SpanIn clock (Some span) = (1 ≤ span.lo) × (span.lo ≤ span.hi) × (span.hi ≤ clock)

-- the word of a span
abbrev pub span_shown : Option Eras_of → ℕ
span_shown None = 0
span_shown (Some span) = eras_word span.lo span.hi

-- a helper word has an era, or 0
pub record HelperIn (clock word : ℕ) : Type 0 where
  pub era : ℕ
  pub is : word ≡ helper_word era
  pub most : era ≤ clock

-- an index word has an era, or 0, and a tag of 32 bits
pub record IndexIn (clock word : ℕ) : Type 0 where
  pub era : ℕ
  pub tag : ℕ
  pub is : word ≡ reservation_word (record { era = era; tag = tag })
  pub most : era ≤ clock
  pub few : tag < 4294967296

-- a link is null or leads to a row
abbrev pub LinkIn : Layout → ℕ → Type 0
LinkIn layout link = link ≤ layout.config.slots + 1

-- an index word has an era under its tag, or where rows are published a link
abbrev pub ShownIn : (rows : Bool) → Layout → ℕ → ℕ → Type 0
ShownIn false layout clock word = IndexIn clock word
ShownIn true layout clock word = LinkIn layout word

-- a request is for a link of the table, at an index of a seat, under a tag that can rise
pub record AskIn (layout : Layout) (tag index : ℕ) (root : Root) : Type 0 where
  pub few : tag < 4294967295
  pub at : index < layout.config.indexes
  pub there : has layout (link_place root) ≡ true

pub record AskedIn (layout : Layout) (tag index number : ℕ) : Type 0 where
  pub root : Root
  pub is : number ≡ link_number layout root
  pub fits : AskIn layout tag index root

pub record AnswerIn (layout : Layout) (clock link era : ℕ) : Type 0 where
  pub link_in : LinkIn layout link
  pub era_in : EraIn clock era

abbrev pub AskingIn : Layout → ℕ → Asking → Type 0
AskingIn layout clock requests.Idle = Unit {0}
AskingIn layout clock (requests.Pending tag index number) = AskedIn layout tag index number
AskingIn layout clock (requests.Answered link era) = AnswerIn layout clock link era

-- a request word decodes
pub record RequestIn (layout : Layout) (clock word : ℕ) : Type 0 where
  pub request : Asking
  pub is : word ≡ request_word request
  pub fits : AskingIn layout clock request

-- a lifetime has a birth, and a retire era no earlier where it is retired
pub record LivesIn (clock birth retire : ℕ) : Type 0 where
  pub born : EraIn clock birth
  pub over : retire ≤ clock
  pub later : 0 < retire → birth ≤ retire

-- a lifetime word: none yet, or one
pub data LifeIn (clock word : ℕ) : Type 0 where
  NoLife : word ≡ 0 → LifeIn clock word
  Lives : (birth retire : ℕ) → word ≡ life_word (record { birth = birth; retire = retire }) → LivesIn clock birth retire → LifeIn clock word

-- the word of a place, but for the clock and the interval words
abbrev pub WordIn : Layout → ℕ → Place → ℕ → Type 0
WordIn layout clock Clock word = Unit {0}
WordIn layout clock (Helper seat) word = HelperIn clock word
WordIn layout clock (Index seat index) word = ShownIn (publishes_rows layout.config.scheme) layout clock word
WordIn layout clock (Interval seat) word = Unit {0}
WordIn layout clock (Request seat) word = RequestIn layout clock word
WordIn layout clock (Bucket bucket) word = Unit {0}
WordIn layout clock Head word = Unit {0}
WordIn layout clock Tail word = Unit {0}
WordIn layout clock (Claim number) word = Unit {0}
WordIn layout clock (Life slot) word = LifeIn clock word
WordIn layout clock (Row slot place) word = Unit {0}
WordIn layout clock (PlaceOf seat) word = Unit {0}

-- what an operation writes decodes
abbrev pub MoveIn : Layout → ℕ → Move → Type 0
MoveIn layout clock (Load place) = Unit {0}
MoveIn layout clock (Store place value) = WordIn layout clock place value
MoveIn layout clock (Cas place old new) = WordIn layout clock place new
MoveIn layout clock (Or place bits) = (word : ℕ) → WordIn layout clock place word
MoveIn layout clock (And place bits) = (word : ℕ) → WordIn layout clock place word

-- the clock stays, or rises by one up to the last era
pub record ClockIn (last clock next : ℕ) : Type 0 where
  pub rises : clock ≤ next
  pub most : next ≤ last

abbrev pub begin_eras : ℕ → BeginAt → Type 0
begin_eras clock LoadLower = Unit {0}
begin_eras clock (PublishSpan era) = EraIn clock era

-- a request's first clock value, and the era of a turn
pub record TurnIn (clock first era : ℕ) : Type 0 where
  pub began : 1 ≤ first
  pub rises : first ≤ era
  pub most : era ≤ clock

-- an interval is raised
pub record RaiseIn (clock : ℕ) (post : Post) (era : ℕ) : Type 0 where
  pub rises : upper post.span ≤ era
  pub most : era ≤ clock

abbrev pub protect_eras : ℕ → Post → ProtectAt → Type 0
protect_eras clock post (LoadClock tries) = Unit {0}
protect_eras clock post (PublishEra era tries) = EraIn clock era
protect_eras clock post (LoadLink era tries) = EraIn clock era
protect_eras clock post (CheckClock era tries link) = EraIn clock era
protect_eras clock post PublishRequest = Unit {0}
protect_eras clock post LoadOwnClock = Unit {0}
protect_eras clock post (PublishHelper first era last) = TurnIn clock first era
protect_eras clock post (LoadOwnLink first era last) = TurnIn clock first era
protect_eras clock post (CheckOwnClock first era last link) = TurnIn clock first era
protect_eras clock post (AnswerOwn first era link) = TurnIn clock first era
protect_eras clock post (LoadAnswer first) = EraIn clock first
protect_eras clock post (TakeAnswer link era) = era ≤ clock
protect_eras clock post (WithdrawRequest link era) = era ≤ clock
protect_eras clock post (WithdrawHelper link era) = era ≤ clock
protect_eras clock post LoadWithin = Unit {0}
protect_eras clock post (CheckUpper link) = Unit {0}
protect_eras clock post (RaiseUpper era) = RaiseIn clock post era
protect_eras clock post (ByHazard at) = Unit {0}

abbrev pub allocate_eras : ℕ → AllocateAt → Type 0
allocate_eras clock LoadBirth = Unit {0}
allocate_eras clock (ClaimSlot birth walk) = EraIn clock birth
allocate_eras clock (StoreLife birth slot) = EraIn clock birth

-- a retire era no earlier than the birth
pub record RetiresIn (clock birth retire : ℕ) : Type 0 where
  pub born : 1 ≤ birth
  pub later : birth ≤ retire
  pub most : retire ≤ clock

abbrev pub retire_eras : ℕ → RetireAt → Type 0
retire_eras clock (LoadLife slot) = Unit {0}
retire_eras clock (LoadRetire slot birth) = EraIn clock birth
retire_eras clock (StoreRetired slot birth retire) = RetiresIn clock birth retire

-- a mover's era, with a later one to come
pub record MoverIn (layout : Layout) (clock era : ℕ) : Type 0 where
  pub era_in : EraIn clock era
  pub left : era < layout.config.last_era

-- the same, with the request that it answers
pub record HelpsIn (layout : Layout) (clock era tag index : ℕ) (root : Root) : Type 0 where
  pub mover : MoverIn layout clock era
  pub asked : AskIn layout tag index root

-- the same, with the era that it found
pub record HandsIn (layout : Layout) (clock era tag index : ℕ) (root : Root) (old : ℕ) : Type 0 where
  pub helps : HelpsIn layout clock era tag index root
  pub before : old ≤ clock

abbrev pub move_eras : Layout → ℕ → MoveAt → Type 0
move_eras layout clock (LoadEra helps) = Unit {0}
move_eras layout clock (LoadRequest era seat shows) = MoverIn layout clock era
move_eras layout clock (ShowEra era seat tag index root) = HelpsIn layout clock era tag index root
move_eras layout clock (LoadAsked era seat tag index root) = HelpsIn layout clock era tag index root
move_eras layout clock (CheckEra era seat tag index root link) = HelpsIn layout clock era tag index root
move_eras layout clock (AnswerAsked era seat tag index root link) = HelpsIn layout clock era tag index root
move_eras layout clock (LoadReserved era seat tag index root link) = HelpsIn layout clock era tag index root
move_eras layout clock (HandOver era seat tag index root link old) = HandsIn layout clock era tag index root old
move_eras layout clock (HideEra era) = MoverIn layout clock era
move_eras layout clock (HideLate seen) = EraIn clock seen
move_eras layout clock (ExchangeClock era) = MoverIn layout clock era

-- the eras of a machine's phase
abbrev pub base_eras : Layout → ℕ → Post → Base → Type 0
base_eras layout clock post (Begin at) = begin_eras clock at
base_eras layout clock post (Protect aim index root steps at) = protect_eras clock post at
base_eras layout clock post (Reload parent index slot era steps) = era ≤ clock
base_eras layout clock post (Clear rows index) = Unit {0}
base_eras layout clock post Finish = Unit {0}
base_eras layout clock post (Release index) = Unit {0}
base_eras layout clock post (Allocate at) = allocate_eras clock at
base_eras layout clock post (Write slot row place) = Unit {0}
base_eras layout clock post (GiveUp slot) = Unit {0}
base_eras layout clock post (Retire at) = retire_eras clock at
base_eras layout clock post (Moves at) = move_eras layout clock at

-- what a copy has found: an era, or where rows are published a link
abbrev pub HeldIn : (rows : Bool) → Layout → ℕ → ℕ → Type 0
HeldIn false layout clock number = number ≤ clock
HeldIn true layout clock number = LinkIn layout number

abbrev pub work_eras : Layout → ℕ → Work → Type 0
work_eras layout clock (Keeping (StoreHeld from index number)) = HeldIn (publishes_rows layout.config.scheme) layout clock number
work_eras layout clock work = Unit {0}

abbrev pub PhaseEras : Layout → ℕ → Post → Phase → Type 0
PhaseEras layout clock post Idle = Unit {0}
PhaseEras layout clock post (Runs why base) = base_eras layout clock post base
PhaseEras layout clock post (Scans later at) = Unit {0}
PhaseEras layout clock post (Works work) = work_eras layout clock work

-- the post's interval is what the seat's interval word shows
pub record PostEras (layout : Layout) (seat clock word : ℕ) (post : Post) : Type 0 where
  pub fits : PostFits layout seat post
  pub span : SpanIn clock post.span
  pub shown : word ≡ span_shown post.span

-- the clock is a word of the table's eras; each word decodes, and no era is above the clock
pub record Eras (w : World) : Type 0 where
  pub some : 1 ≤ w.mem Clock
  pub most : w.mem Clock ≤ w.layout.config.last_era
  pub words : (place : Place) → WordIn w.layout (w.mem Clock) place (w.mem place)
  pub seats : (k : ℕ) → Seated (PostEras w.layout k (w.mem Clock) (w.mem (Interval k))) (PhaseEras w.layout (w.mem Clock)) (w.seat k)

-- what a step takes of other parts: links and a followed row of the table, and lives stored before they are loaded
abbrev pub RootNeeds : Layout → Root → Type 0
RootNeeds layout (roots.Bucket bucket) = Unit {0}
RootNeeds layout roots.Head = Unit {0}
RootNeeds layout roots.Tail = Unit {0}
RootNeeds layout (roots.Next slot) = slot ≤ layout.config.slots

abbrev pub hazard_needs : HazardAt → Layout → Type 0
hazard_needs (PublishLink link) layout = LinkIn layout link
hazard_needs at layout = Unit {0}

abbrev pub protect_needs : ProtectAt → Layout → Root → Type 0
protect_needs PublishRequest layout root = RootNeeds layout root
protect_needs (AnswerOwn first era link) layout root = LinkIn layout link
protect_needs (ByHazard at) layout root = hazard_needs at layout
protect_needs at layout root = Unit {0}

abbrev pub retire_needs : RetireAt → (Place → ℕ) → Type 0
retire_needs (LoadLife slot) mem = 0 < mem (Life slot)
retire_needs at mem = Unit {0}

abbrev pub move_needs : MoveAt → Layout → Type 0
move_needs (AnswerAsked era seat tag index root link) layout = LinkIn layout link
move_needs at layout = Unit {0}

abbrev pub base_needs : Base → Layout → (Place → ℕ) → Type 0
base_needs (Protect aim index root steps at) layout mem = protect_needs at layout root
base_needs (Retire at) layout mem = retire_needs at mem
base_needs (Moves at) layout mem = move_needs at layout
base_needs base layout mem = Unit {0}

abbrev pub phase_needs : Phase → Layout → (Place → ℕ) → Type 0
phase_needs (Runs why base) layout mem = base_needs base layout mem
phase_needs phase layout mem = Unit {0}

abbrev pub base_life : Base → (Place → ℕ) → Type 0
base_life (Retire at) mem = retire_needs at mem
base_life base mem = Unit {0}

-- a lifetime word that is loaded was stored
abbrev pub life_needs : Phase → (Place → ℕ) → Type 0
life_needs (Runs why base) mem = base_life base mem
life_needs phase mem = Unit {0}

-- what the other parts give a step of seat i
pub record ErasNeeds (w : World) (i : ℕ) : Type 0 where
  -- the tags of the seat can rise
  pub tags : (index : ℕ) → tag_of (w.seat i).post index < 4294967295
  -- the lifetime word of a row that is being retired is not 0
  pub life : life_needs (w.seat i).phase w.mem
