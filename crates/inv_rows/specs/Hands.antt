-- What a seat's local state says of rows: what its call has in hand, what is in its list, which move of rows its step makes,
-- and what always holds of its phase.
use Rattle.std.specs.Prelude.{ℕ, zero, suc, ◌≡◌, ◌+◌, ◌-◌, ◌==◌, ◌&&◌, ◌||◌, not, Bool, true, false, if◌then◌else◌, List, [], ◌∷◌, Option, Some, None}
use Rattle.wfe_core.specs.words.Packed.{read_life}
use Rattle.wfe_core.specs.defs.declared.lifetime.Lifetime.{Lifetime}
use Rattle.wfe_core.specs.declared.post.Post.{Post}
use Rattle.wfe_core.specs.Allocate.{is_claimed}
use Rattle.wfe_core.specs.Retire.{birth_in}
use Rattle.wfe_core.specs.Rounds.{taken_of}
use Rattle.wfe_core.specs.Change.{changed_bucket}
use Rattle.wfe_core.specs.Phases.{AllocateAt, RetireAt, Base}
use Rattle.wfe_core.specs.Phases.AllocateAt.{LoadBirth, ClaimSlot, StoreLife}
use Rattle.wfe_core.specs.Phases.RetireAt.{LoadLife, LoadRetire, StoreRetired}
use Rattle.wfe_core.specs.Phases.Base.{Begin, Protect, Reload, Clear, Finish, Release, Allocate, Write, GiveUp, Retire, Move}
use Rattle.wfe_core.specs.Calls.{ChangeKept, Task, Gets, Changes, Holds, Enqueues, Dequeues, Next, Again, MakeRoom, Answering, Retiring, AfterScan, Answered, Repeated, Counted, Why, Opens, FollowsHead, Fills, ClearsNext, Clears, Finishes, GivesUp, Retires, Tidies, Advances, Releases, ScanAt, ReadGuard, GiveBack, ChangeAt, LoadVersion, LoadCount, LoadKey, LoadValue, ExchangeRoot, EnqueueAt, LoadNumber, LoadNext, PassTail, ExchangeNext, ExchangeTail, DequeueAt, LoadTail, SwingTail, TakeNumber, TakeValue, ExchangeHead, Work, Getting, Changing, Enqueuing, Dequeuing, Phase, Idle, Runs, Scans, Works, CallTurn, CallOutcome, GoesOn, KeepAt, Loosens, LoadHeld, StoreHeld, Looks, Misses, HideSpan, MarkLeft, TakeList, MarkTaken, Keeping}
use Rattle.wfe_core.specs.Calls as calls
use Rattle.inv_rows.specs.Rows.{Hand, RowMove}
use Rattle.inv_rows.specs.Rows.Hand.{Empty, New, Taken, Old, Known, Dated}
use Rattle.inv_rows.specs.Rows.RowMove.{Stays, Claims, Bears, Drops, Links, Replaces, Appends, Pops, Reads, Seals, Lists, Returns, Adopts}

-- a row that a task has taken
abbrev pub hand_of : Option ℕ → Hand
hand_of None = Empty
hand_of (Some slot) = Taken slot

abbrev pub hand_task : Task → Hand
hand_task task = hand_of (taken_of task)

-- at a round's end a row that was cut is in hand
abbrev pub hand_next : Task → Next → Hand
hand_next task Again = hand_task task
hand_next task MakeRoom = hand_task task
hand_next task (Answering answer) = hand_task task
hand_next task (Retiring slot answer) = Old slot

abbrev pub hand_allocate : AllocateAt → Hand
hand_allocate LoadBirth = Empty
hand_allocate (ClaimSlot birth walk) = Empty
hand_allocate (StoreLife birth slot) = New slot

abbrev pub hand_retire : RetireAt → Hand
hand_retire (LoadLife slot) = Old slot
hand_retire (LoadRetire slot birth) = Known slot birth
hand_retire (StoreRetired slot birth retire) = Dated slot birth retire

-- what a machine has in hand
abbrev pub hand_base : Base → Hand
hand_base (Begin at) = Empty
hand_base (Protect aim index root steps at) = Empty
hand_base (Reload parent index slot era steps) = Empty
hand_base (Clear rows index) = Empty
hand_base Finish = Empty
hand_base (Release index) = Empty
hand_base (Allocate at) = hand_allocate at
hand_base (Write slot row place) = Taken slot
hand_base (GiveUp slot) = Taken slot
hand_base (Retire at) = hand_retire at
hand_base (Move at) = Empty

abbrev pub hand_later : AfterScan → Hand
hand_later (Answered answer) = Empty
hand_later (Repeated task) = hand_task task
hand_later Counted = Empty

-- what is in hand while a machine runs: what comes after it has it, or the machine
abbrev pub hand_why : Why → Base → Hand
hand_why (Opens task) base = hand_task task
hand_why (FollowsHead head tail) base = Empty
hand_why (Fills task) base = hand_base base
hand_why (ClearsNext next) base = hand_next Dequeues next
hand_why (Clears task next) base = hand_next task next
hand_why (Finishes task next) base = hand_next task next
hand_why (GivesUp answer) base = hand_base base
hand_why (Retires answer) base = hand_base base
hand_why (Tidies later) base = hand_later later
hand_why Advances base = Empty
hand_why (Releases let_go) base = Empty

abbrev pub hand_work : Work → Hand
hand_work (Getting key at) = Empty
hand_work (Changing kept at) = hand_of kept.taken
hand_work (Enqueuing kept at) = hand_of kept.taken
hand_work (Dequeuing at) = Empty
hand_work (Keeping at) = Empty

-- what a seat has in hand
abbrev pub hand_in : Phase → Hand
hand_in Idle = Empty
hand_in (Runs why base) = hand_why why base
hand_in (Scans later at) = hand_later later
hand_in (Works work) = hand_work work

abbrev pub hand_left : CallOutcome → Hand
hand_left (GoesOn phase) = hand_in phase
hand_left (calls.Answers answer) = Empty

-- slot, birth and retire era are an entry of the list
abbrev pub in_list : List Lifetime → ℕ → ℕ → ℕ → Bool
in_list [] s b r = false
in_list (life ∷ lives) s b r = ((s == life.slot) && ((b == life.birth) && (r == life.retire))) || in_list lives s b r

-- no entry has the slot
abbrev pub no_entry : ℕ → List Lifetime → Bool
no_entry s [] = true
no_entry s (life ∷ lives) = not (s == life.slot) && no_entry s lives

-- each slot is in the list once at most
abbrev pub each_once : List Lifetime → Bool
each_once [] = true
each_once (life ∷ lives) = no_entry life.slot lives && each_once lives

-- the entry at a place of the list has this slot
abbrev pub stands_at : List Lifetime → ℕ → ℕ → Bool
stands_at [] place slot = false
stands_at (life ∷ lives) zero slot = life.slot == slot
stands_at (life ∷ lives) (suc place) slot = stands_at lives place slot

-- a machine that takes, writes, gives up or retires no row
abbrev pub is_plain : Base → Bool
is_plain (Begin at) = true
is_plain (Protect aim index root steps at) = true
is_plain (Reload parent index slot era steps) = true
is_plain (Clear rows index) = true
is_plain Finish = true
is_plain (Release index) = true
is_plain (Allocate at) = false
is_plain (Write slot row place) = false
is_plain (GiveUp slot) = false
is_plain (Retire at) = false
is_plain (Move at) = true

abbrev pub holds_none : Option ℕ → Bool
holds_none None = true
holds_none (Some slot) = false

abbrev pub holds_slot : Option ℕ → ℕ → Bool
holds_slot None slot = false
holds_slot (Some taken) slot = taken == slot

-- while a row is taken none was before, and the row taken is the one that is written
abbrev pub fills_right : Base → Option ℕ → Bool
fills_right (Begin at) taken = false
fills_right (Protect aim index root steps at) taken = false
fills_right (Reload parent index slot era steps) taken = false
fills_right (Clear rows index) taken = false
fills_right Finish taken = false
fills_right (Release index) taken = false
fills_right (Allocate at) taken = holds_none taken
fills_right (Write slot row place) taken = holds_slot taken slot
fills_right base taken = false

-- only a change or an enqueue fills a row
abbrev pub task_fills : Task → Base → Bool
task_fills (Gets key) base = false
task_fills (Changes kept) base = fills_right base kept.taken
task_fills (Holds key) base = false
task_fills (Enqueues kept) base = fills_right base kept.taken
task_fills Dequeues base = false

abbrev pub is_giving_up : Base → Bool
is_giving_up (Begin at) = false
is_giving_up (Protect aim index root steps at) = false
is_giving_up (Reload parent index slot era steps) = false
is_giving_up (Clear rows index) = false
is_giving_up Finish = false
is_giving_up (Release index) = false
is_giving_up (Allocate at) = false
is_giving_up (Write slot row place) = false
is_giving_up (GiveUp slot) = true
is_giving_up (Retire at) = false
is_giving_up (Move at) = false

abbrev pub is_retiring : Base → Bool
is_retiring (Begin at) = false
is_retiring (Protect aim index root steps at) = false
is_retiring (Reload parent index slot era steps) = false
is_retiring (Clear rows index) = false
is_retiring Finish = false
is_retiring (Release index) = false
is_retiring (Allocate at) = false
is_retiring (Write slot row place) = false
is_retiring (GiveUp slot) = false
is_retiring (Retire at) = true
is_retiring (Move at) = false

-- each machine that handles rows has its own Why
abbrev pub runs_right : Why → Base → Bool
runs_right (Opens task) base = is_plain base
runs_right (FollowsHead head tail) base = is_plain base
runs_right (Fills task) base = task_fills task base
runs_right (ClearsNext next) base = is_plain base
runs_right (Clears task next) base = is_plain base
runs_right (Finishes task next) base = is_plain base
runs_right (GivesUp answer) base = is_giving_up base
runs_right (Retires answer) base = is_retiring base
runs_right (Tidies later) base = is_plain base
runs_right Advances base = is_plain base
runs_right (Releases let_go) base = is_plain base

-- the row that is linked is the one taken
abbrev pub change_right : ChangeAt → Option ℕ → Bool
change_right (LoadVersion slot) taken = true
change_right (LoadCount slot) taken = true
change_right (LoadKey slot count) taken = true
change_right (LoadValue slot count key) taken = true
change_right (ExchangeRoot slot) taken = holds_slot taken slot

abbrev pub enqueue_right : EnqueueAt → Option ℕ → Bool
enqueue_right LoadNumber taken = true
enqueue_right LoadNext taken = true
enqueue_right (PassTail next) taken = true
enqueue_right (ExchangeNext slot) taken = holds_slot taken slot
enqueue_right (ExchangeTail slot) taken = true

abbrev pub works_right : Work → Bool
works_right (Getting key at) = true
works_right (Changing kept at) = change_right at kept.taken
works_right (Enqueuing kept at) = enqueue_right at kept.taken
works_right (Dequeuing at) = true
works_right (Keeping at) = true

-- a scan gives back the entry at its place
abbrev pub scans_right : ScanAt → List Lifetime → Bool
scans_right (ReadGuard number) list = true
scans_right (GiveBack place slot) list = stands_at list place slot

-- what always holds of a phase
abbrev pub is_right : Phase → List Lifetime → Bool
is_right Idle list = true
is_right (Runs why base) list = runs_right why base
is_right (Scans later at) list = scans_right at list
is_right (Works work) list = works_right work

-- the seat has taken a list over, and marks it so
abbrev pub is_marking : Phase → Bool
is_marking (Works (Keeping (MarkTaken place count))) = true
is_marking phase = false

abbrev pub right_left : CallOutcome → List Lifetime → Bool
right_left (GoesOn phase) list = is_right phase list
right_left (calls.Answers answer) list = true

-- the same, and the phase is none that marks a list
abbrev pub goes_right : Phase → List Lifetime → Bool
goes_right phase list = not (is_marking phase) && is_right phase list

abbrev pub unmarked_left : CallOutcome → List Lifetime → Bool
unmarked_left (GoesOn phase) list = goes_right phase list
unmarked_left (calls.Answers answer) list = true

abbrev pub allocate_row : AllocateAt → ℕ → RowMove
allocate_row LoadBirth found = Stays
allocate_row (ClaimSlot birth walk) found = if is_claimed found walk.slot then Stays else Claims walk.slot
allocate_row (StoreLife birth slot) found = Bears slot birth

abbrev pub retire_row : RetireAt → ℕ → RowMove
retire_row (LoadLife slot) found = Reads slot (birth_in (read_life found))
retire_row (LoadRetire slot birth) found = Seals slot birth found
retire_row (StoreRetired slot birth retire) found = Lists slot birth retire

-- the move of rows that a step of a machine makes
abbrev pub base_row : Base → ℕ → RowMove
base_row (Begin at) found = Stays
base_row (Protect aim index root steps at) found = Stays
base_row (Reload parent index slot era steps) found = Stays
base_row (Clear rows index) found = Stays
base_row Finish found = Stays
base_row (Release index) found = Stays
base_row (Allocate at) found = allocate_row at found
base_row (Write slot row place) found = Stays
base_row (GiveUp slot) found = Drops slot
base_row (Retire at) found = retire_row at found
base_row (Move at) found = Stays

abbrev pub scan_row : ScanAt → RowMove
scan_row (ReadGuard number) = Stays
scan_row (GiveBack place slot) = Returns slot

abbrev pub linked_row : ℕ → ℕ → ℕ → RowMove
linked_row bucket slot link = if link == 0 then Links bucket slot else Replaces bucket slot (link - 1)

abbrev pub change_row : ChangeKept → ChangeAt → Post → ℕ → RowMove
change_row kept (LoadVersion slot) post found = Stays
change_row kept (LoadCount slot) post found = Stays
change_row kept (LoadKey slot count) post found = Stays
change_row kept (LoadValue slot count key) post found = Stays
change_row kept (ExchangeRoot slot) post found =
    if found == kept.link then linked_row (changed_bucket kept post) slot kept.link else Stays

abbrev pub enqueue_row : EnqueueAt → ℕ → RowMove
enqueue_row LoadNumber found = Stays
enqueue_row LoadNext found = Stays
enqueue_row (PassTail next) found = Stays
enqueue_row (ExchangeNext slot) found = if found == 0 then Appends slot else Stays
enqueue_row (ExchangeTail slot) found = Stays

abbrev pub dequeue_row : DequeueAt → ℕ → RowMove
dequeue_row (LoadTail head) found = Stays
dequeue_row (SwingTail head next) found = Stays
dequeue_row (TakeNumber head next) found = Stays
dequeue_row (TakeValue head next number) found = Stays
dequeue_row (ExchangeHead head next number value) found = if found == head + 1 then Pops head next else Stays

-- a list that was left is taken over
abbrev pub keep_row : KeepAt → ℕ → RowMove
keep_row (Loosens let_go) found = Stays
keep_row (LoadHeld from index) found = Stays
keep_row (StoreHeld from index era) found = Stays
keep_row (Looks index key at) found = Stays
keep_row (Misses index) found = Stays
keep_row HideSpan found = Stays
keep_row MarkLeft found = Stays
keep_row (TakeList place) found = if found == 1 then Adopts place else Stays
keep_row (MarkTaken place count) found = Stays

abbrev pub work_row : Work → Post → ℕ → RowMove
work_row (Getting key at) post found = Stays
work_row (Changing kept at) post found = change_row kept at post found
work_row (Enqueuing kept at) post found = enqueue_row at found
work_row (Dequeuing at) post found = dequeue_row at found
work_row (Keeping at) post found = keep_row at found

-- the move of rows that a step of a seat makes which found this
abbrev pub row_move : Phase → Post → ℕ → RowMove
row_move Idle post found = Stays
row_move (Runs why base) post found = base_row base found
row_move (Scans later at) post found = scan_row at
row_move (Works work) post found = work_row work post found

-- what a turn leaves in hand and on the list, of all turns but that which takes a list over
pub record Leaves (h : Hand) (lives : List Lifetime) (t : CallTurn) : Type 0 where
  pub hand : hand_left t.outcome ≡ h
  pub right : unmarked_left t.outcome t.desk.list ≡ true
  pub list : t.desk.list ≡ lives
