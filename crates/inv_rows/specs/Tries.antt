-- A call that opens the queue protects its tail or its head: a row to which a try leads, whose era is still the clock, or to
-- which an answer leads, was in the queue since it was claimed last, and one from the head is the head while it is there.
use Rattle.std.specs.Prelude.{ℕ, ◌≡◌, ◌≤◌, ◌<◌, ◌+◌, ◌==◌, ◌&&◌, Bool, true, false, Some}
use Rattle.wfe_core.specs.words.Place.{is_valid}
use Rattle.wfe_core.specs.words.Place.Place.{Clock, Row}
use Rattle.wfe_core.specs.words.Packed.{read_request}
use Rattle.wfe_core.specs.words.declared.layout.Layout.{Layout}
use Rattle.wfe_core.specs.words.declared.packed.Request.TheVariants as requests
use Rattle.wfe_core.specs.defs.declared.call.Call.{Call}
use Rattle.wfe_core.specs.defs.declared.event.Root.{Root}
use Rattle.wfe_core.specs.defs.declared.event.Root.TheVariants as roots
use Rattle.wfe_core.specs.Posts.{upper}
use Rattle.wfe_core.specs.Phases.{Aim, Alone, Follows, ProtectAt, Base, Walk}
use Rattle.wfe_core.specs.Phases.ProtectAt.{LoadClock, PublishEra, LoadLink, CheckClock, PublishRequest, LoadOwnClock, PublishHelper, LoadOwnLink, CheckOwnClock, AnswerOwn, LoadAnswer, TakeAnswer, WithdrawRequest, WithdrawHelper, LoadWithin, CheckUpper, RaiseUpper, ByHazard}
use Rattle.wfe_core.specs.Phases.AllocateAt.{ClaimSlot, StoreLife}
use Rattle.wfe_core.specs.Phases.Base.{Begin, Protect, Reload, Clear, Finish, Release, Allocate, Write, GiveUp, Retire, Move}
use Rattle.wfe_core.specs.Calls.{Task, Gets, Changes, Holds, Enqueues, Dequeues, Why, Opens, FollowsHead, AfterScan, GiveBack, Phase, Idle, Runs, Scans, Works}
use Rattle.wfe_core.specs.World.{World, start, step, begin, is_busy, is_here, finds}
use Rattle.inv_rows.specs.Rows.{View}
use Rattle.inv_rows.specs.Agree.{rows_after, first_rows}
use Rattle.inv_rows.specs.Queue.{Line, stands_on}
use Rattle.inv_rows.specs.Chain.{Both, line_after, first_line, queue_of}
use Rattle.inv_rows.specs.Follow.{at_asks, AnswersFit}

-- the try leads to the row and its era is still the clock, or the answer does
abbrev pub at_tries : ℕ → ℕ → ProtectAt → ℕ → Bool
at_tries clock upto (LoadClock tries) s = false
at_tries clock upto (PublishEra era tries) s = false
at_tries clock upto (LoadLink era tries) s = false
at_tries clock upto (CheckClock era tries link) s = link == s + 1 && clock == era
at_tries clock upto PublishRequest s = false
at_tries clock upto LoadOwnClock s = false
at_tries clock upto (PublishHelper first era last) s = false
at_tries clock upto (LoadOwnLink first era last) s = false
at_tries clock upto (CheckOwnClock first era last link) s = link == s + 1 && clock == era
at_tries clock upto (AnswerOwn first era link) s = link == s + 1
at_tries clock upto (LoadAnswer first) s = false
at_tries clock upto (TakeAnswer link era) s = link == s + 1
at_tries clock upto (WithdrawRequest link era) s = link == s + 1
at_tries clock upto (WithdrawHelper link era) s = link == s + 1
at_tries clock upto LoadWithin s = false
at_tries clock upto (CheckUpper link) s = link == s + 1 && clock == upto
at_tries clock upto (RaiseUpper era) s = false
at_tries clock upto (ByHazard at) s = false

abbrev pub base_tries : ℕ → ℕ → Base → ℕ → Bool
base_tries clock upto (Begin at) s = false
base_tries clock upto (Protect aim index root steps at) s = at_tries clock upto at s
base_tries clock upto base s = false

-- the era that the try compares with the clock
abbrev pub at_era : ℕ → ProtectAt → ℕ
at_era upto (LoadClock tries) = 0
at_era upto (PublishEra era tries) = 0
at_era upto (LoadLink era tries) = 0
at_era upto (CheckClock era tries link) = era
at_era upto PublishRequest = 0
at_era upto LoadOwnClock = 0
at_era upto (PublishHelper first era last) = 0
at_era upto (LoadOwnLink first era last) = 0
at_era upto (CheckOwnClock first era last link) = era
at_era upto (AnswerOwn first era link) = 0
at_era upto (LoadAnswer first) = 0
at_era upto (TakeAnswer link era) = 0
at_era upto (WithdrawRequest link era) = 0
at_era upto (WithdrawHelper link era) = 0
at_era upto LoadWithin = 0
at_era upto (CheckUpper link) = upto
at_era upto (RaiseUpper era) = 0
at_era upto (ByHazard at) = 0

abbrev pub base_era : ℕ → Base → ℕ
base_era upto (Begin at) = 0
base_era upto (Protect aim index root steps at) = at_era upto at
base_era upto (Reload parent index slot era steps) = 0
base_era upto (Clear rows index) = 0
base_era upto Finish = 0
base_era upto (Release index) = 0
base_era upto (Allocate at) = 0
base_era upto (Write slot row place) = 0
base_era upto (GiveUp slot) = 0
base_era upto (Retire at) = 0
base_era upto (Move at) = 0

abbrev pub is_alone : Aim → Bool
is_alone Alone = true
is_alone Follows = false

abbrev pub is_tail : Root → Bool
is_tail (roots.Bucket bucket) = false
is_tail roots.Head = false
is_tail roots.Tail = true
is_tail (roots.Next parent) = false

abbrev pub is_head : Root → Bool
is_head (roots.Bucket bucket) = false
is_head roots.Head = true
is_head roots.Tail = false
is_head (roots.Next parent) = false

-- an end of the queue
abbrev pub is_end : Root → Bool
is_end roots.Head = true
is_end roots.Tail = true
is_end root = false

-- the machine protects a root of the wanted kind, after it began an interval under 2GE
abbrev pub opens_by : (Root → Bool) → Base → Bool
opens_by wanted (Begin at) = true
opens_by wanted (Protect aim index root steps at) = is_alone aim && wanted root
opens_by wanted base = false

-- what is known of a row from the tail, or from the head
abbrev pub FromTail : (ℕ → Bool) → Line → ℕ → ℕ → Type 0
FromTail q l head s = l.lined s ≡ true

pub record FromHead (q : ℕ → Bool) (l : Line) (head s : ℕ) : Type 0 where
  pub lined : l.lined s ≡ true
  pub first : q s ≡ true → head ≡ s + 1

pub record TriesBase (wanted : Root → Bool) (clock upto : ℕ) (base : Base) (P : ℕ → Type 0) : Type 0 where
  pub right : opens_by wanted base ≡ true
  pub tried : (s : ℕ) → base_tries clock upto base s ≡ true → P s

abbrev pub TaskTries : Task → ℕ → ℕ → Base → (ℕ → Bool) → Line → ℕ → Type 0
TaskTries (Gets key) clock upto base q l head = Unit {0}
TaskTries (Changes kept) clock upto base q l head = Unit {0}
TaskTries (Holds key) clock upto base q l head = Unit {0}
TaskTries (Enqueues kept) clock upto base q l head = TriesBase is_tail clock upto base (λ s. FromTail q l head s)
TaskTries Dequeues clock upto base q l head = TriesBase is_head clock upto base (λ s. FromHead q l head s)

abbrev pub WhyTries : Why → ℕ → ℕ → Base → (ℕ → Bool) → Line → ℕ → Type 0
WhyTries (Opens task) clock upto base q l head = TaskTries task clock upto base q l head
WhyTries why clock upto base q l head = Unit {0}

abbrev pub PhaseTries : Phase → ℕ → ℕ → (ℕ → Bool) → Line → ℕ → Type 0
PhaseTries Idle clock upto q l head = Unit {0}
PhaseTries (Runs why base) clock upto q l head = WhyTries why clock upto base q l head
PhaseTries (Scans later at) clock upto q l head = Unit {0}
PhaseTries (Works work) clock upto q l head = Unit {0}

-- the rows, the queue, and what protections of its ends have found
pub record Whole (w : World) (v : View) (l : Line) : Type 0 where
  pub both : Both w v l
  pub tries : (k : ℕ) → PhaseTries (w.seat k).phase (w.mem Clock) (upper (w.seat k).post.span) (queue_of v) l v.head

abbrev pub EraIn : Phase → ℕ → ℕ → Type 0
EraIn Idle clock upto = Unit {0}
EraIn (Runs why base) clock upto = base_era upto base ≤ clock
EraIn (Scans later at) clock upto = Unit {0}
EraIn (Works work) clock upto = Unit {0}

-- what a step of a seat needs of the other parts
pub record WholeNeeds (w : World) (i : ℕ) (v : View) (l : Line) : Type 0 where
  -- a walk stays within the table, and the birth era that is stored is positive
  pub walks : (why : Why) (birth : ℕ) (walk : Walk) → (w.seat i).phase ≡ Runs why (Allocate (ClaimSlot birth walk)) → walk.slot ≤ w.layout.config.slots
  pub births : (why : Why) (birth slot : ℕ) → (w.seat i).phase ≡ Runs why (Allocate (StoreLife birth slot)) → 0 < birth
  -- eras are at most the clock, which never falls
  pub eras : (k : ℕ) → EraIn (w.seat k).phase (w.mem Clock) (upper (w.seat k).post.span)
  pub rises : w.mem Clock ≤ (step w i).mem Clock
  -- no seat works on a queue's row that is given back, and no try leads to it
  pub backs : (later : AfterScan) (place slot k : ℕ) → (w.seat i).phase ≡ Scans later (GiveBack place slot) → stands_on (w.seat k).phase slot ≡ false
  pub untried : (later : AfterScan) (place slot k : ℕ) (task : Task) (base : Base) → (w.seat i).phase ≡ Scans later (GiveBack place slot) → (w.seat k).phase ≡ Runs (Opens task) base → base_tries (w.mem Clock) (upper (w.seat k).post.span) base slot ≡ false
  -- an answer that the seat's request has: the head's next link, or null, where it follows that; else a row of the queue
  pub answers : (head tail : ℕ) (aim : Aim) (index : ℕ) (root : Root) (steps : ℕ) (at : ProtectAt) → (w.seat i).phase ≡ Runs (FollowsHead head tail) (Protect aim index root steps at) → AnswersFit at (finds w i) (w.mem (Row head 0))
  pub asks : (task : Task) (aim : Aim) (index : ℕ) (root : Root) (steps : ℕ) (at : ProtectAt) (link era s : ℕ) → (w.seat i).phase ≡ Runs (Opens task) (Protect aim index root steps at) → at_asks at ≡ true → read_request (finds w i) ≡ Some (requests.Answered link era) → link ≡ s + 1 → is_tail root ≡ true → l.lined s ≡ true
  pub heads : (task : Task) (aim : Aim) (index : ℕ) (root : Root) (steps : ℕ) (at : ProtectAt) (link era s : ℕ) → (w.seat i).phase ≡ Runs (Opens task) (Protect aim index root steps at) → at_asks at ≡ true → read_request (finds w i) ≡ Some (requests.Answered link era) → link ≡ s + 1 → is_head root ≡ true → FromHead (queue_of v) l v.head s

abbrev pub WholeKept : Type 0
WholeKept = (w : World) (i : ℕ) (v : View) (l : Line) → WholeNeeds w i v l → Whole w v l → Whole (step w i) (rows_after w i v) (line_after w i l)

abbrev pub WholeBegin : Type 0
WholeBegin = (w : World) (i : ℕ) (call : Call) (v : View) (l : Line) → is_busy w i ≡ false → is_here w i ≡ true → Whole w v l → Whole (begin w i call) v l

abbrev pub WholeStart : Type 0
WholeStart = (layout : Layout) → is_valid layout ≡ true → Whole (start layout) (first_rows layout) (first_line layout)
