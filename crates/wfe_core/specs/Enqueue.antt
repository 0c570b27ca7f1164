-- An enqueue links a row of its own after the tail's row, and then moves the tail.
use Rattle.std.specs.Prelude.{ℕ, ◌==◌, ◌+◌, ◌-◌, Bool, true, false, List, [], ◌∷◌, Option, Some, None}
use Rattle.wfe_words.specs.Place.Place.{Tail, Row}
use Rattle.wfe_defs.specs.declared.call.Answer.TheVariants as answers
use Rattle.wfe_defs.specs.declared.event.Event.{Event}
use Rattle.wfe_defs.specs.declared.event.Event.TheVariants as events
use Rattle.wfe_defs.specs.declared.event.Root.{Root}
use Rattle.wfe_defs.specs.declared.event.Root.TheVariants as roots
use Rattle.wfe_core.specs.declared.post.Post.{Post}
use Rattle.wfe_core.specs.Desks.{Desk}
use Rattle.wfe_core.specs.Memory.{Move, Load, Cas}
use Rattle.wfe_core.specs.Phases.{Base, RowOf, QueueRow}
use Rattle.wfe_core.specs.Phases.Base.{Allocate}
use Rattle.wfe_core.specs.Phases.AllocateAt.{LoadBirth}
use Rattle.wfe_core.specs.WriteRow.{writing}
use Rattle.wfe_core.specs.Calls.{EnqueueKept, Enqueues, Again, Answering, Fills, EnqueueAt, LoadNumber, LoadNext, PassTail, ExchangeNext, ExchangeTail, Works, Enqueuing, Runs, CallTurn, goes_on}
use Rattle.wfe_core.specs.Rounds.{clearing}

abbrev pub enqueue_move : EnqueueKept → EnqueueAt → Move
enqueue_move kept LoadNumber = Load (Row kept.tail 1)
enqueue_move kept LoadNext = Load (Row kept.tail 0)
enqueue_move kept (PassTail next) = Cas Tail (kept.tail + 1) next
enqueue_move kept (ExchangeNext slot) = Cas (Row kept.tail 0) 0 (slot + 1)
enqueue_move kept (ExchangeTail slot) = Cas Tail (kept.tail + 1) (slot + 1)

-- the row that is written
abbrev pub new_item : EnqueueKept → RowOf
new_item kept = QueueRow (kept.number + 1) kept.value

-- a row is taken, unless one is
abbrev pub filling_by : EnqueueKept → Option ℕ → Base
filling_by kept None = Allocate LoadBirth
filling_by kept (Some slot) = writing slot (new_item kept)

abbrev pub filling : EnqueueKept → Base
filling kept = filling_by kept kept.taken

abbrev pub item_taken : EnqueueKept → ℕ → EnqueueKept
item_taken kept slot = record kept { taken = Some slot }

abbrev pub item_walked : EnqueueKept → EnqueueKept
item_walked kept = record kept { walked = true }

-- a root is exchanged where it has the row's link
abbrev pub told_link : Root → ℕ → (same : Bool) → List Event
told_link root slot true = events.Link root slot ∷ []
told_link root slot false = []

-- the last row was read: the queue is spent, or a row is filled
abbrev pub appending : EnqueueKept → Post → Desk → (spent : Bool) → CallTurn
appending kept post desk true = clearing (Enqueues kept) (Answering (answers.Spent kept.number)) post desk []
appending kept post desk false = goes_on post desk [] (Runs (Fills (Enqueues kept)) (filling kept))

-- the next link was read: the tail's row is the last, or the tail lags
abbrev pub at_next : EnqueueKept → ℕ → Post → Desk → (none : Bool) → CallTurn
at_next kept next post desk true = appending kept post desk (kept.number == post.layout.config.last_version)
at_next kept next post desk false = goes_on post desk [] (Works (Enqueuing kept (PassTail next)))

abbrev pub appended : EnqueueKept → ℕ → Post → Desk → (same : Bool) → CallTurn
appended kept slot post desk true =
    goes_on
    post
    desk
    (events.Link (roots.Next kept.tail) slot ∷ events.Queued (kept.number + 1) kept.value ∷ [])
    (Works (Enqueuing (record kept { taken = None }) (ExchangeTail slot)))
appended kept slot post desk false = clearing (Enqueues kept) Again post desk []

-- one step of an enqueue's own
abbrev pub enqueue_turn : EnqueueKept → EnqueueAt → Post → Desk → ℕ → CallTurn
enqueue_turn kept LoadNumber post desk found = goes_on post desk [] (Works (Enqueuing (record kept { number = found }) LoadNext))
enqueue_turn kept LoadNext post desk found = at_next kept found post desk (found == 0)
enqueue_turn kept (PassTail next) post desk found =
    clearing (Enqueues kept) Again post desk (told_link roots.Tail (next - 1) (found == kept.tail + 1))
enqueue_turn kept (ExchangeNext slot) post desk found = appended kept slot post desk (found == 0)
enqueue_turn kept (ExchangeTail slot) post desk found =
    clearing
    (Enqueues kept)
    (Answering (answers.Queued (kept.number + 1)))
    post
    desk
    (told_link roots.Tail slot (found == kept.tail + 1))
