-- What is in range of the clock stays so while the clock rises.
use Rattle.std.proofs.Common.{ℕ, ◌≤◌, Option, Some, None, arith}
use Rattle.wfe_core.specs.words.Place.{Place}
use Rattle.wfe_core.specs.words.Place.Place.{Clock, Helper, Index, Interval, Request, Bucket, Head, Tail, Claim, Life, Row, PlaceOf}
use Rattle.wfe_core.specs.words.declared.layout.Layout.{Layout}
use Rattle.wfe_core.specs.words.declared.packed.Request.{Request as Asking}
use Rattle.wfe_core.specs.words.declared.packed.Request.TheVariants as requests
use Rattle.wfe_core.specs.defs.declared.lifetime.Interval.{Interval as Span}
use Rattle.wfe_core.specs.declared.post.Post.{Post}
use Rattle.wfe_core.specs.Phases.{BeginAt, ProtectAt, AllocateAt, RetireAt, MoveAt, Base}
use Rattle.wfe_core.specs.Phases.BeginAt.{LoadLower, PublishSpan}
use Rattle.wfe_core.specs.Phases.ProtectAt.{LoadClock, PublishEra, LoadLink, CheckClock, PublishRequest, LoadOwnClock, PublishHelper, LoadOwnLink, CheckOwnClock, AnswerOwn, LoadAnswer, TakeAnswer, WithdrawRequest, WithdrawHelper, LoadWithin, CheckUpper, RaiseUpper, ByHazard}
use Rattle.wfe_core.specs.Phases.AllocateAt.{LoadBirth, ClaimSlot, StoreLife}
use Rattle.wfe_core.specs.Phases.RetireAt.{LoadLife, LoadRetire, StoreRetired}
use Rattle.wfe_core.specs.Phases.MoveAt.{LoadEra, LoadRequest, ShowEra, LoadAsked, CheckEra, AnswerAsked, LoadReserved, HandOver, HideEra, HideLate, ExchangeClock}
use Rattle.wfe_core.specs.Phases.Base.{Begin, Protect, Reload, Clear, Finish, Release, Allocate, Write, GiveUp, Retire, Move}
use Rattle.wfe_core.specs.Calls.{StoreHeld, Work, Getting, Changing, Enqueuing, Dequeuing, Keeping, Phase, Idle, Runs, Scans, Works}
use Rattle.wfe_core.specs.words.Schemes.{publishes_rows}
use Rattle.inv_rows.proofs.Shapes.Indexes.{held_later, shown_later}
use Rattle.inv_rows.specs.Shapes.Eras.{EraIn, SpanIn, AskingIn, LivesIn, LifeIn, NoLife, Lives, WordIn, TurnIn, MoverIn, begin_eras, protect_eras, allocate_eras, retire_eras, move_eras, base_eras, work_eras, PhaseEras, PostEras}

pub era_later : (c d era : ℕ) → c ≤ d → EraIn c era → EraIn d era
era_later c d era h e = record { some = e.some; most = let m = e.most in omega arith }

pub span_later : (c d : ℕ) (span : Option Span) → c ≤ d → SpanIn c span → SpanIn d span
span_later c d None h e = tt
span_later c d (Some span) h e = (e.0, e.1, let m = e.2 in omega arith)

asking_later : (layout : Layout) (c d : ℕ) (request : Asking) → c ≤ d → AskingIn layout c request → AskingIn layout d request
asking_later layout c d requests.Idle h e = tt
asking_later layout c d (requests.Pending tag index number) h e = e
asking_later layout c d (requests.Answered link era) h e = record { link_in = e.link_in; era_in = era_later c d era h e.era_in }

lives_later : (c d birth retire : ℕ) → c ≤ d → LivesIn c birth retire → LivesIn d birth retire
lives_later c d birth retire h e = record { born = era_later c d birth h e.born; over = let m = e.over in omega arith; later = e.later }

life_later : (c d word : ℕ) → c ≤ d → LifeIn c word → LifeIn d word
life_later c d word h (NoLife e) = NoLife e
life_later c d word h (Lives birth retire e l) = Lives birth retire e (lives_later c d birth retire h l)

pub word_later : (layout : Layout) (c d : ℕ) (place : Place) (word : ℕ) → c ≤ d → WordIn layout c place word → WordIn layout d place word
word_later layout c d Clock word h e = tt
word_later layout c d (Helper seat) word h e = record { era = e.era; is = e.is; most = let m = e.most in omega arith }
word_later layout c d (Index seat index) word h e = shown_later (publishes_rows layout.config.scheme) layout c d word h e
word_later layout c d (Interval seat) word h e = tt
word_later layout c d (Request seat) word h e = record { request = e.request; is = e.is; fits = asking_later layout c d e.request h e.fits }
word_later layout c d (Bucket bucket) word h e = tt
word_later layout c d Head word h e = tt
word_later layout c d Tail word h e = tt
word_later layout c d (Claim number) word h e = tt
word_later layout c d (Life slot) word h e = life_later c d word h e
word_later layout c d (Row slot place) word h e = tt
word_later layout c d (PlaceOf seat) word h e = tt

begin_later : (c d : ℕ) (at : BeginAt) → c ≤ d → begin_eras c at → begin_eras d at
begin_later c d LoadLower h e = tt
begin_later c d (PublishSpan era) h e = era_later c d era h e

turn_later : (c d first era : ℕ) → c ≤ d → TurnIn c first era → TurnIn d first era
turn_later c d first era h e = record { began = e.began; rises = e.rises; most = let m = e.most in omega arith }

below_later : (c d era : ℕ) → c ≤ d → era ≤ c → era ≤ d
below_later c d era h e = omega arith

protect_later : (c d : ℕ) (post : Post) (at : ProtectAt) → c ≤ d → protect_eras c post at → protect_eras d post at
protect_later c d post (LoadClock tries) h e = tt
protect_later c d post (PublishEra era tries) h e = era_later c d era h e
protect_later c d post (LoadLink era tries) h e = era_later c d era h e
protect_later c d post (CheckClock era tries link) h e = era_later c d era h e
protect_later c d post PublishRequest h e = tt
protect_later c d post LoadOwnClock h e = tt
protect_later c d post (PublishHelper first era last) h e = turn_later c d first era h e
protect_later c d post (LoadOwnLink first era last) h e = turn_later c d first era h e
protect_later c d post (CheckOwnClock first era last link) h e = turn_later c d first era h e
protect_later c d post (AnswerOwn first era link) h e = turn_later c d first era h e
protect_later c d post (LoadAnswer first) h e = era_later c d first h e
protect_later c d post (TakeAnswer link era) h e = below_later c d era h e
protect_later c d post (WithdrawRequest link era) h e = below_later c d era h e
protect_later c d post (WithdrawHelper link era) h e = below_later c d era h e
protect_later c d post LoadWithin h e = tt
protect_later c d post (CheckUpper link) h e = tt
protect_later c d post (RaiseUpper era) h e = record { rises = e.rises; most = below_later c d era h e.most }
protect_later c d post (ByHazard at) h e = tt

allocate_later : (c d : ℕ) (at : AllocateAt) → c ≤ d → allocate_eras c at → allocate_eras d at
allocate_later c d LoadBirth h e = tt
allocate_later c d (ClaimSlot birth walk) h e = era_later c d birth h e
allocate_later c d (StoreLife birth slot) h e = era_later c d birth h e

retire_later : (c d : ℕ) (at : RetireAt) → c ≤ d → retire_eras c at → retire_eras d at
retire_later c d (LoadLife slot) h e = tt
retire_later c d (LoadRetire slot birth) h e = era_later c d birth h e
retire_later c d (StoreRetired slot birth retire) h e = record { born = e.born; later = e.later; most = below_later c d retire h e.most }

mover_later : (layout : Layout) (c d era : ℕ) → c ≤ d → MoverIn layout c era → MoverIn layout d era
mover_later layout c d era h e = record { era_in = era_later c d era h e.era_in; left = e.left }

move_later : (layout : Layout) (c d : ℕ) (at : MoveAt) → c ≤ d → move_eras layout c at → move_eras layout d at
move_later layout c d (LoadEra helps) h e = tt
move_later layout c d (LoadRequest era seat shows) h e = mover_later layout c d era h e
move_later layout c d (ShowEra era seat tag index root) h e = record { mover = mover_later layout c d era h e.mover; asked = e.asked }
move_later layout c d (LoadAsked era seat tag index root) h e = record { mover = mover_later layout c d era h e.mover; asked = e.asked }
move_later layout c d (CheckEra era seat tag index root link) h e = record { mover = mover_later layout c d era h e.mover; asked = e.asked }
move_later layout c d (AnswerAsked era seat tag index root link) h e = record { mover = mover_later layout c d era h e.mover; asked = e.asked }
move_later layout c d (LoadReserved era seat tag index root link) h e = record { mover = mover_later layout c d era h e.mover; asked = e.asked }
move_later layout c d (HandOver era seat tag index root link old) h e =
    record { helps = record { mover = mover_later layout c d era h e.helps.mover; asked = e.helps.asked }; before = below_later c d old h e.before }
move_later layout c d (HideEra era) h e = mover_later layout c d era h e
move_later layout c d (HideLate seen) h e = era_later c d seen h e
move_later layout c d (ExchangeClock era) h e = mover_later layout c d era h e

base_later : (layout : Layout) (c d : ℕ) (post : Post) (base : Base) → c ≤ d → base_eras layout c post base → base_eras layout d post base
base_later layout c d post (Begin at) h e = begin_later c d at h e
base_later layout c d post (Protect aim index root steps at) h e = protect_later c d post at h e
base_later layout c d post (Reload parent index slot era steps) h e = below_later c d era h e
base_later layout c d post (Clear rows index) h e = tt
base_later layout c d post Finish h e = tt
base_later layout c d post (Release index) h e = tt
base_later layout c d post (Allocate at) h e = allocate_later c d at h e
base_later layout c d post (Write slot row place) h e = tt
base_later layout c d post (GiveUp slot) h e = tt
base_later layout c d post (Retire at) h e = retire_later c d at h e
base_later layout c d post (Move at) h e = move_later layout c d at h e

work_later : (layout : Layout) (c d : ℕ) (work : Work) → c ≤ d → work_eras layout c work → work_eras layout d work
work_later layout c d (Getting key at) h e = tt
work_later layout c d (Changing kept at) h e = tt
work_later layout c d (Enqueuing kept at) h e = tt
work_later layout c d (Dequeuing at) h e = tt
work_later layout c d (Keeping (StoreHeld from index era)) h e = held_later (publishes_rows layout.config.scheme) layout c d era h e
work_later layout c d (Keeping at) h e = tt

pub phase_later : (layout : Layout) (c d : ℕ) (post : Post) (phase : Phase) → c ≤ d → PhaseEras layout c post phase → PhaseEras layout d post phase
phase_later layout c d post Idle h e = tt
phase_later layout c d post (Runs why base) h e = base_later layout c d post base h e
phase_later layout c d post (Scans later at) h e = tt
phase_later layout c d post (Works work) h e = work_later layout c d work h e

pub post_later : (layout : Layout) (k c d word : ℕ) (post : Post) → c ≤ d → PostEras layout k c word post → PostEras layout k d word post
post_later layout k c d word post h e = record { fits = e.fits; span = span_later c d post.span h e.span; shown = e.shown }
