-- A step of a call: the step of what runs, and what comes after it.
use Rattle.std.specs.Prelude.{ℕ, ◌==◌, ◌+◌, ◌%◌, Bool, true, false, List, [], Option, Some, None}
use Rattle.wfe_words.specs.Place.Place.{Clock}
use Rattle.wfe_defs.specs.declared.call.Answer.{Answer}
use Rattle.wfe_defs.specs.declared.call.Answer.TheVariants as answers
use Rattle.wfe_defs.specs.declared.call.Call.{Call}
use Rattle.wfe_defs.specs.declared.call.Call.TheVariants as names
use Rattle.wfe_defs.specs.declared.call.ClockMove.{ClockMove}
use Rattle.wfe_defs.specs.declared.event.Event.{Event}
use Rattle.wfe_defs.specs.declared.fold.Change.{Change}
use Rattle.wfe_defs.specs.declared.fold.Change.TheVariants as changes
use Rattle.wfe_core.specs.declared.ends.AllocateEnd.{AllocateEnd}
use Rattle.wfe_core.specs.declared.ends.AllocateEnd.TheVariants as allocate_ends
use Rattle.wfe_core.specs.declared.ends.ProtectEnd.TheVariants as protect_ends
use Rattle.wfe_core.specs.declared.op.Op.{Op}
use Rattle.wfe_core.specs.declared.post.Post.{Post}
use Rattle.wfe_core.specs.Desks.{Desk, with_life}
use Rattle.wfe_core.specs.Memory.{Move, Load, numbered}
use Rattle.wfe_core.specs.Phases.{Ending, Protected, Followed, Allocated, Retired, Clocked, Turn, Outcome, Goes, Ends}
use Rattle.wfe_core.specs.Posts.{stands}
use Rattle.wfe_core.specs.WriteRow.{writing}
use Rattle.wfe_core.specs.Machine.{base_move, after}
use Rattle.wfe_core.specs.Calls.{Task, Gets, Changes, Holds, Enqueues, Dequeues, Next, Again, Answering, AfterScan, Answered, Repeated, Counted, Why, Opens, FollowsHead, Fills, ClearsNext, Clears, Finishes, GivesUp, Retires, Tidies, Advances, Releases, Released, Rehold, Dropped, Parting, LoadHeld, Looks, Misses, HideSpan, MarkLeft, TakeList, MarkTaken, TakeList, Keeping, ReadGuard, FindVersion, LoadVersion, ExchangeRoot, LoadNumber, ExchangeNext, LoadTail, Work, Getting, Changing, Enqueuing, Dequeuing, Phase, Idle, Runs, Scans, Works, CallTurn, goes_on}
use Rattle.wfe_core.specs.Calls as calls
use Rattle.wfe_core.specs.Rounds.{scheme_of, first_tidy, opening, round, letting, move_base, closed, finishing, clearing, with_clock}
use Rattle.wfe_core.specs.Get.{get_move, get_turn, got}
use Rattle.wfe_core.specs.Change.{change_move, change_turn, deciding, at_link, with_taken, with_walked, no_room, new_row}
use Rattle.wfe_core.specs.Enqueue.{enqueue_move, enqueue_turn, item_taken, item_walked, new_item}
use Rattle.wfe_core.specs.Dequeue.{dequeue_move, dequeue_turn, followed}
use Rattle.wfe_core.specs.Keep.{keep_move, keep_turn, parting, released}
use Rattle.wfe_core.specs.Scan.{scan_move, scan_turn}

abbrev pub work_move : Work → Post → Move
work_move (Getting key at) post = get_move at
work_move (Changing kept at) post = change_move kept at post
work_move (Enqueuing kept at) post = enqueue_move kept at
work_move (Dequeuing at) post = dequeue_move at
work_move (Keeping at) post = keep_move at post

-- the operation of a phase; a seat between calls has none, and stands for a load that nobody makes
abbrev pub phase_move : Phase → Post → Move
phase_move Idle post = Load Clock
phase_move (Runs why base) post = base_move base post
phase_move (Scans later at) post = scan_move at post
phase_move (Works work) post = work_move work post

-- the same on the word of the place's number
abbrev pub call_op : Phase → Post → Op
call_op phase post = numbered post.layout (phase_move phase post)

abbrev pub work_turn : Work → Post → Desk → ℕ → CallTurn
work_turn (Getting key at) post desk found = get_turn key at post desk found
work_turn (Changing kept at) post desk found = change_turn kept at post desk found
work_turn (Enqueuing kept at) post desk found = enqueue_turn kept at post desk found
work_turn (Dequeuing at) post desk found = dequeue_turn at post desk found
work_turn (Keeping at) post desk found = keep_turn at post desk found

-- the task's root was protected, and leads to a row
abbrev pub opened_row : Task → ℕ → Post → Desk → List Event → CallTurn
opened_row (Gets key) slot post desk told = goes_on post desk told (Works (Getting key (FindVersion slot)))
opened_row (Changes kept) slot post desk told = goes_on post desk told (Works (Changing (at_link kept (slot + 1)) (LoadVersion slot)))
opened_row (Holds key) slot post desk told = calls.answers post desk told (answers.Holding slot)
opened_row (Enqueues kept) slot post desk told = goes_on post desk told (Works (Enqueuing (record kept { tail = slot }) LoadNumber))
opened_row Dequeues slot post desk told = goes_on post desk told (Works (Dequeuing (LoadTail slot)))

-- it was null; head and tail never are
abbrev pub opened_null : Task → Post → Desk → List Event → CallTurn
opened_null (Gets key) post desk told = got key 0 None post desk told
opened_null (Changes kept) post desk told = deciding (at_link kept 0) post desk told
opened_null (Holds key) post desk told = clearing (Holds key) (Answering answers.Nothing) post desk told
opened_null (Enqueues kept) post desk told = clearing (Enqueues kept) Again post desk told
opened_null Dequeues post desk told = clearing Dequeues Again post desk told

abbrev pub opened : Task → Ending → Post → Desk → List Event → CallTurn
opened task (Protected (protect_ends.Held slot era)) post desk told = opened_row task slot post desk told
opened task (Protected protect_ends.Null) post desk told = opened_null task post desk told
opened task ending post desk told = goes_on post desk told (opening task post)

-- the row was given, or written
abbrev pub filled_by : Task → AllocateEnd → Post → Desk → List Event → CallTurn
filled_by (Changes kept) (allocate_ends.Given slot birth) post desk told =
    goes_on post desk told (Runs (Fills (Changes (with_taken kept slot))) (writing slot (new_row kept)))
filled_by (Changes kept) allocate_ends.Full post desk told = clearing (Changes (with_walked kept)) (no_room kept.walked) post desk told
filled_by (Enqueues kept) (allocate_ends.Given slot birth) post desk told =
    goes_on post desk told (Runs (Fills (Enqueues (item_taken kept slot))) (writing slot (new_item kept)))
filled_by (Enqueues kept) allocate_ends.Full post desk told = clearing (Enqueues (item_walked kept)) (no_room kept.walked) post desk told
filled_by task ending post desk told = closed task Again post desk told

abbrev pub slot_in : Option ℕ → ℕ
slot_in None = 0
slot_in (Some slot) = slot

abbrev pub written_row : Task → Post → Desk → List Event → CallTurn
written_row (Changes kept) post desk told = goes_on post desk told (Works (Changing kept (ExchangeRoot (slot_in kept.taken))))
written_row (Enqueues kept) post desk told = goes_on post desk told (Works (Enqueuing kept (ExchangeNext (slot_in kept.taken))))
written_row task post desk told = closed task Again post desk told

abbrev pub filled : Task → Ending → Post → Desk → List Event → CallTurn
filled task (Allocated ending) post desk told = filled_by task ending post desk told
filled task ending post desk told = written_row task post desk told

-- a dequeue has followed the head's next link
abbrev pub followed_by : ℕ → ℕ → Ending → Post → Desk → List Event → CallTurn
followed_by head tail (Followed ending) post desk told = followed head tail ending post desk told
followed_by head tail ending post desk told = closed Dequeues Again post desk told

-- after every so many retirements the clock is moved and the list is scanned
abbrev pub tidying : Answer → Post → Desk → List Event → (due : Bool) → CallTurn
tidying answer post desk told true = goes_on post desk told (first_tidy (Answered answer) post)
tidying answer post desk told false = calls.answers post desk told answer

abbrev pub retired_by : Answer → Ending → Post → Desk → List Event → CallTurn
retired_by answer (Retired life) post desk told =
    tidying answer post (with_life desk life) told (post.retired % post.layout.config.every == 0)
retired_by answer ending post desk told = calls.answers post desk told answer

-- the outcome of the move goes into the answer
abbrev pub after_move : AfterScan → ClockMove → AfterScan
after_move (Answered answer) clock = Answered (with_clock answer clock)
after_move (Repeated task) clock = Repeated task
after_move Counted clock = Counted

abbrev pub tidied : AfterScan → Ending → Post → Desk → List Event → CallTurn
tidied later (Clocked clock) post desk told = goes_on post desk told (Scans (after_move later clock) (ReadGuard 0))
tidied later ending post desk told = goes_on post desk told (Scans later (ReadGuard 0))

abbrev pub advanced : Ending → Post → Desk → List Event → CallTurn
advanced (Clocked clock) post desk told = calls.answers post desk told (answers.Clock clock)
advanced ending post desk told = goes_on post desk told Idle

-- a machine has ended: what comes after it
abbrev pub resume : Why → Ending → Post → Desk → List Event → CallTurn
resume (Opens task) ending post desk told = opened task ending post desk told
resume (FollowsHead head tail) ending post desk told = followed_by head tail ending post desk told
resume (Fills task) ending post desk told = filled task ending post desk told
resume (ClearsNext next) ending post desk told = clearing Dequeues next post desk told
resume (Clears task next) ending post desk told = finishing task next post desk told
resume (Finishes task next) ending post desk told = closed task next post desk told
resume (GivesUp answer) ending post desk told = calls.answers post desk told answer
resume (Retires answer) ending post desk told = retired_by answer ending post desk told
resume (Tidies later) ending post desk told = tidied later ending post desk told
resume Advances ending post desk told = advanced ending post desk told
resume (Releases let_go) ending post desk told = released let_go post desk told

-- a machine has made a step
abbrev pub resumed : Why → Desk → Post → List Event → Outcome → CallTurn
resumed why desk post told (Goes base) = goes_on post desk told (Runs why base)
resumed why desk post told (Ends ending) = resume why ending post desk told

abbrev pub run_turn : Why → Desk → Turn → CallTurn
run_turn why desk turn = resumed why desk turn.post turn.told turn.outcome

-- one step of a phase that found this
abbrev pub phase_turn : Phase → Post → Desk → ℕ → CallTurn
phase_turn Idle post desk found = goes_on post desk [] Idle
phase_turn (Runs why base) post desk found = run_turn why desk (after base post found)
phase_turn (Scans later at) post desk found = scan_turn later at post desk found
phase_turn (Works work) post desk found = work_turn work post desk found

-- what is held is let go before another key is held
abbrev pub holding : ℕ → Post → Option ℕ → Phase
holding key post None = round (Holds key) post
holding key post (Some slot) = letting (Rehold key) post

-- a put or remove that names a version, or none, and has done nothing
abbrev pub changing : Change → Option ℕ → Task
changing change wanted = Changes (record { change = change; wanted = wanted; taken = None; walked = false; link = 0; version = 0; pairs = [] })

-- what stands at an index is copied or looked at, if something does
abbrev pub copying : (from index : ℕ) → Option ℕ → Phase
copying from index None = Works (Keeping (Misses from))
copying from index (Some slot) = Works (Keeping (LoadHeld from index))

abbrev pub looking_at : (index key : ℕ) → Option ℕ → Phase
looking_at index key None = Works (Keeping (Misses index))
looking_at index key (Some slot) = Works (Keeping (Looks index key (FindVersion slot)))

-- a call's first phase
abbrev pub first_phase : Call → Post → Phase
first_phase (names.Get key) post = round (Gets key) post
first_phase (names.Put key value) post = round (changing (changes.Put key value) None) post
first_phase (names.Remove key) post = round (changing (changes.Removed key) None) post
first_phase (names.Enqueue value) post =
    round (Enqueues (record { value = value; taken = None; walked = false; tail = 0; number = 0 })) post
first_phase names.Dequeue post = round Dequeues post
first_phase (names.Hold key) post = holding key post (stands post 2)
first_phase names.Release post = letting Released post
first_phase names.Advance post = Runs Advances (move_base (scheme_of post))
first_phase names.Scan post = Scans Counted (ReadGuard 0)
first_phase (names.Copy from index) post = copying from index (stands post from)
first_phase (names.DropIndex index) post = letting (Dropped index) post
first_phase (names.Look index key) post = looking_at index key (stands post index)
first_phase (names.PutIf key value version) post = round (changing (changes.Put key value) (Some version)) post
first_phase names.Leave post = parting post
first_phase (names.Adopt place) post = Works (Keeping (TakeList place))
