-- Where nothing stands, by where a call stands.
use Rattle.std.specs.Prelude.{ℕ, ◌≡◌, ◌==◌, ◌+◌, ◌&&◌, ◌||◌, nat_lt, not, Bool, true, false, None}
use Rattle.inv_rows.specs.model.declared.post.Post.{Post}
use Rattle.inv_rows.specs.model.Posts.{stands}
use Rattle.inv_rows.specs.model.Rounds.{index_of, scheme_of}
use Rattle.inv_rows.specs.model.Calls.{Task, Gets, Changes, Holds, Enqueues, Dequeues, AfterScan, Answered, Repeated, Counted, Why, Opens, FollowsHead, Fills, ClearsNext, Clears, Finishes, GivesUp, Retires, Tidies, Advances, Releases, LetGo, Released, Rehold, Dropped, Parting, DequeueAt, LoadTail, SwingTail, TakeNumber, TakeValue, ExchangeHead, Work, Getting, Changing, Enqueuing, Dequeuing, KeepAt, Loosens, LoadHeld, StoreHeld, Looks, Misses, HideSpan, MarkLeft, TakeList, MarkTaken, Keeping, Phase, Idle, Runs, Scans, Works}
use Rattle.inv_rows.specs.model.Phases.Ending.{Done, Protected, Followed, Allocated, Retired, Clocked}
use Rattle.inv_rows.specs.model.Phases.{Ending, ProtectAt, Base}
use Rattle.inv_rows.specs.model.World.{World, start, begin, step, is_busy}
use Rattle.inv_rows.specs.model.Phases.ProtectAt.{WithdrawRequest, WithdrawHelper}
use Rattle.inv_rows.specs.model.Phases.Base.{Protect}
use Rattle.inv_rows.specs.words.Schemes.{has_one_interval}
use Rattle.inv_rows.specs.words.declared.layout.Layout.{Layout}
use Rattle.inv_rows.specs.defs.declared.call.Call.{Call}
use Rattle.inv_rows.specs.Hands.{runs_right}
use Rattle.inv_rows.specs.Shapes.Seats.{Run}
use Rattle.inv_rows.specs.Shapes.Slots.{KeepIn}
use Rattle.inv_rows.specs.Covering.Held.{rests_base, Held}
use Rattle.inv_rows.specs.Covering.Covers.{eras_shown}
use Rattle.inv_rows.specs.Rows.{View}
use Rattle.inv_rows.specs.defs.declared.event.Guard.TheVariants.{Whole}

-- between rounds only what is kept stands, at indexes from 2 on
abbrev pub spare : ℕ → Bool
spare j = nat_lt j 2

-- where a round of a task begins; nothing is held at index 2 where a key is to be held there
abbrev pub bare : Task → ℕ → Bool
bare (Gets key) j = spare j
bare (Changes kept) j = spare j
bare (Holds key) j = nat_lt j 3
bare (Enqueues kept) j = spare j
bare Dequeues j = spare j

-- the same but for the task's index
abbrev pub beside : Task → ℕ → Bool
beside task j = bare task j && not (j == index_of task)

-- within a round, and once a dequeue holds the next row
abbrev pub within : ℕ → Bool
within j = spare j && not (j == 0)

abbrev pub deep : ℕ → Bool
deep j = within j && not (j == 1)

abbrev pub vacant_later : AfterScan → ℕ → Bool
vacant_later (Answered answer) j = spare j
vacant_later (Repeated task) j = bare task j
vacant_later Counted j = spare j

-- under Wait-Free Eras a row stands from the taking of its answer on, before its protection is over
abbrev pub has_taken : ProtectAt → Bool
has_taken (WithdrawRequest link era) = true
has_taken (WithdrawHelper link era) = true
has_taken at = false

abbrev pub base_taken : Base → Bool
base_taken (Protect aim index root steps at) = has_taken at
base_taken base = false

abbrev pub vacant_opening : Task → (taken : Bool) → ℕ → Bool
vacant_opening task true j = beside task j
vacant_opening task false j = bare task j

-- a seat that leaves has let go of what stood at lower indexes
abbrev pub vacant_let : LetGo → ℕ → Bool
vacant_let Released j = spare j
vacant_let (Rehold key) j = spare j
vacant_let (Dropped index) j = spare j
vacant_let (Parting index) j = spare j || nat_lt j index

-- and of all before its place is marked
abbrev pub vacant_keep : KeepAt → ℕ → Bool
vacant_keep (Loosens let_go) j = vacant_let let_go j
vacant_keep (LoadHeld from index) j = spare j
vacant_keep (StoreHeld from index era) j = spare j
vacant_keep (Looks index key at) j = spare j
vacant_keep (Misses index) j = spare j
vacant_keep HideSpan j = spare j
vacant_keep MarkLeft j = true
vacant_keep (TakeList place) j = spare j
vacant_keep (MarkTaken place count) j = spare j

abbrev pub vacant_why : Why → Base → ℕ → Bool
vacant_why (Opens task) base j = vacant_opening task (base_taken base) j
vacant_why (FollowsHead head tail) base j = within j
vacant_why (Fills task) base j = within j
vacant_why (ClearsNext next) base j = deep j
vacant_why (Clears task next) base j = beside task j
vacant_why (Finishes task next) base j = bare task j
vacant_why (GivesUp answer) base j = spare j
vacant_why (Retires answer) base j = spare j
vacant_why (Tidies later) base j = vacant_later later j
vacant_why Advances base j = spare j
vacant_why (Releases let_go) base j = vacant_let let_go j

abbrev pub vacant_dequeue : DequeueAt → ℕ → Bool
vacant_dequeue (LoadTail head) j = within j
vacant_dequeue (SwingTail head next) j = deep j
vacant_dequeue (TakeNumber head next) j = deep j
vacant_dequeue (TakeValue head next number) j = deep j
vacant_dequeue (ExchangeHead head next number value) j = deep j

abbrev pub vacant_work : Work → ℕ → Bool
vacant_work (Getting key at) j = within j
vacant_work (Changing kept at) j = within j
vacant_work (Enqueuing kept at) j = within j
vacant_work (Dequeuing at) j = vacant_dequeue at j
vacant_work (Keeping at) j = vacant_keep at j

-- the indexes at which nothing stands
abbrev pub vacant : Phase → ℕ → Bool
vacant Idle j = spare j
vacant (Runs why base) j = vacant_why why base j
vacant (Scans later at) j = vacant_later later j
vacant (Works work) j = vacant_work work j

abbrev pub Vacant : (ℕ → Bool) → Post → Type 0
Vacant f post = (j : ℕ) → f j ≡ true → stands post j ≡ None

-- nothing stands where the phase of a seat says so
pub record Rests (w : World) : Type 0 where
  pub vacant : (k : ℕ) → Vacant (vacant (w.seat k).phase) (w.seat k).post

-- where nothing may stand once a machine has ended, by what comes after it
abbrev pub vacant_filled : Task → ℕ → Bool
vacant_filled (Gets key) j = spare j
vacant_filled (Changes kept) j = within j
vacant_filled (Holds key) j = nat_lt j 3
vacant_filled (Enqueues kept) j = within j
vacant_filled Dequeues j = spare j

abbrev pub vacant_opened : Task → Ending → ℕ → Bool
vacant_opened task Done j = bare task j
vacant_opened task (Protected end) j = beside task j
vacant_opened task (Followed end) j = bare task j
vacant_opened task (Allocated end) j = bare task j
vacant_opened task (Retired life) j = bare task j
vacant_opened task (Clocked clock) j = bare task j

abbrev pub vacant_followed : Ending → ℕ → Bool
vacant_followed Done j = spare j
vacant_followed (Protected end) j = spare j
vacant_followed (Followed end) j = deep j
vacant_followed (Allocated end) j = spare j
vacant_followed (Retired life) j = spare j
vacant_followed (Clocked clock) j = spare j

abbrev pub vacant_released : LetGo → ℕ → Bool
vacant_released Released j = spare j
vacant_released (Rehold key) j = nat_lt j 3
vacant_released (Dropped index) j = spare j
vacant_released (Parting index) j = spare j || nat_lt j (index + 1)

abbrev pub vacant_after : Why → Ending → ℕ → Bool
vacant_after (Opens task) ending j = vacant_opened task ending j
vacant_after (FollowsHead head tail) ending j = vacant_followed ending j
vacant_after (Fills task) ending j = vacant_filled task j
vacant_after (ClearsNext next) ending j = within j
vacant_after (Clears task next) ending j = bare task j
vacant_after (Finishes task next) ending j = bare task j
vacant_after (GivesUp answer) ending j = spare j
vacant_after (Retires answer) ending j = spare j
vacant_after (Tidies later) ending j = vacant_later later j
vacant_after Advances ending j = spare j
vacant_after (Releases let_go) ending j = vacant_released let_go j

-- what the part takes from others of the seat that steps: the shape of its phase, that only a change or an enqueue fills a
-- row, and that a copy goes to an index from 2 on
pub record RestsNeeds (w : World) (i : ℕ) : Type 0 where
  pub shape : (why : Why) (base : Base) → (w.seat i).phase ≡ Runs why base → Run w.layout why base (w.seat i).post
  pub right : (why : Why) (base : Base) → (w.seat i).phase ≡ Runs why base → runs_right why base ≡ true
  pub kept : (at : KeepAt) → (w.seat i).phase ≡ Works (Keeping at) → KeepIn w.layout.config at

abbrev pub RestsStart : Type 0
RestsStart = (layout : Layout) → Rests (start layout)

-- under 2GE nothing stands where no interval does
abbrev pub SpanRests : Post → Type 0
SpanRests post = has_one_interval (scheme_of post) ≡ true → post.span ≡ None → (j : ℕ) → stands post j ≡ None

abbrev pub RestsBegin : Type 0
RestsBegin = (w : World) (i : ℕ) (call : Call) → is_busy w i ≡ false → SpanRests (w.seat i).post → Rests w → Rests (begin w i call)

abbrev pub RestsKept : Type 0
RestsKept = (w : World) (i : ℕ) → RestsNeeds w i → Rests w → Rests (step w i)

-- under 2GE, where what guards hold is known and the interval word has the seat's interval
abbrev pub SpansRest : Type 0
SpansRest =
    (w : World) (v : View) (k : ℕ)
    → (w.seat k).post.layout ≡ w.layout
    → (has_one_interval w.layout.config.scheme ≡ true → eras_shown w (Whole k) ≡ (w.seat k).post.span)
    → (has_one_interval w.layout.config.scheme ≡ true → Held w v)
    → SpanRests (w.seat k).post

-- nothing stands where a step takes from what a guard publishes
abbrev pub RestsGive : Type 0
RestsGive =
    (w : World) (i : ℕ) (why : Why) (base : Base) (j : ℕ)
    → RestsNeeds w i
    → Rests w
    → (w.seat i).phase ≡ Runs why base
    → rests_base base j ≡ true
    → stands (w.seat i).post j ≡ None
