-- What a seat that enqueues or dequeues has read of the queue's rows.
use Rattle.std.specs.Prelude.{ℕ, ◌≡◌, ◌<◌, ◌-◌, ◌==◌, ◌&&◌, Bool, true, false, List, slice_index_or}
use Rattle.inv_ends.specs.model.Calls.{EnqueueKept, Task, Gets, Changes, Holds, Enqueues, Dequeues, Why, Opens, FollowsHead, Fills, EnqueueAt, LoadNumber, LoadNext, PassTail, ExchangeNext, ExchangeTail, DequeueAt, LoadTail, SwingTail, TakeNumber, TakeValue, ExchangeHead, Work, Getting, Changing, Enqueuing, Dequeuing, Keeping, Phase, Idle, Runs, Scans, Works}
use Rattle.inv_ends.specs.rows.Queue.{Line}
use Rattle.inv_all.specs.Contents.Stands.{nexts_in}

-- the value that was queued under a number; numbers count from 1
abbrev pub value_under : List ℕ → ℕ → ℕ
value_under queued number = slice_index_or queued (number - 1) 0

abbrev pub kept_numbers : EnqueueKept → ℕ → ℕ → Bool
kept_numbers kept t n = kept.tail == t && (kept.number == n)

abbrev pub enqueue_numbers : EnqueueKept → EnqueueAt → ℕ → ℕ → Bool
enqueue_numbers kept LoadNumber t n = false
enqueue_numbers kept LoadNext t n = kept_numbers kept t n
enqueue_numbers kept (PassTail next) t n = kept_numbers kept t n
enqueue_numbers kept (ExchangeNext slot) t n = kept_numbers kept t n
enqueue_numbers kept (ExchangeTail slot) t n = false

abbrev pub dequeue_numbers : DequeueAt → ℕ → ℕ → Bool
dequeue_numbers (LoadTail head) t n = false
dequeue_numbers (SwingTail head next) t n = false
dequeue_numbers (TakeNumber head next) t n = false
dequeue_numbers (TakeValue head next number) t n = next == t && (number == n)
dequeue_numbers (ExchangeHead head next number value) t n = next == t && (number == n)

abbrev pub task_numbers : Task → ℕ → ℕ → Bool
task_numbers (Gets key) t n = false
task_numbers (Changes kept) t n = false
task_numbers (Holds key) t n = false
task_numbers (Enqueues kept) t n = kept_numbers kept t n
task_numbers Dequeues t n = false

abbrev pub why_numbers : Why → ℕ → ℕ → Bool
why_numbers (Opens task) t n = false
why_numbers (FollowsHead head tail) t n = false
why_numbers (Fills task) t n = task_numbers task t n
why_numbers why t n = false

abbrev pub work_numbers : Work → ℕ → ℕ → Bool
work_numbers (Getting key at) t n = false
work_numbers (Changing kept at) t n = false
work_numbers (Enqueuing kept at) t n = enqueue_numbers kept at t n
work_numbers (Dequeuing at) t n = dequeue_numbers at t n
work_numbers (Keeping at) t n = false

-- it has read the number n of row t: an enqueue of the tail's row, a dequeue of the row after the head
abbrev pub numbers_in : Phase → ℕ → ℕ → Bool
numbers_in Idle t n = false
numbers_in (Runs why base) t n = why_numbers why t n
numbers_in (Scans later at) t n = false
numbers_in (Works work) t n = work_numbers work t n

abbrev pub dequeue_values : DequeueAt → ℕ → ℕ → Bool
dequeue_values (LoadTail head) t x = false
dequeue_values (SwingTail head next) t x = false
dequeue_values (TakeNumber head next) t x = false
dequeue_values (TakeValue head next number) t x = false
dequeue_values (ExchangeHead head next number value) t x = next == t && (value == x)

abbrev pub work_values : Work → ℕ → ℕ → Bool
work_values (Getting key at) t x = false
work_values (Changing kept at) t x = false
work_values (Enqueuing kept at) t x = false
work_values (Dequeuing at) t x = dequeue_values at t x
work_values (Keeping at) t x = false

-- a dequeue has read the value x of row t
abbrev pub values_in : Phase → ℕ → ℕ → Bool
values_in Idle t x = false
values_in (Runs why base) t x = false
values_in (Scans later at) t x = false
values_in (Works work) t x = work_values work t x

-- the row after the head was in the queue since it was claimed last, behind another; and what was read of a row still holds
pub record Reads (phase : Phase) (l : Line) (queued : List ℕ) : Type 0 where
  pub lined : (t : ℕ) → nexts_in phase t ≡ true → l.lined t ≡ true
  pub above : (t : ℕ) → nexts_in phase t ≡ true → 0 < l.number t
  pub numbers : (t n : ℕ) → numbers_in phase t n ≡ true → l.number t ≡ n
  pub values : (t x : ℕ) → values_in phase t x ≡ true → value_under queued (l.number t) ≡ x
