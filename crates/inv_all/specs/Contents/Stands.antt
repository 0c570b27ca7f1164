-- Each row that a call works on stands at an index of its seat: what it has protected and reads on at index 0, the row after
-- the head that a dequeue has followed at index 1, and what a look reads at the index that it looks at.
use Rattle.std.specs.Prelude.{ℕ, ◌≡◌, ◌==◌, Bool, true, false, Some}
use Rattle.inv_ends.specs.model.words.declared.layout.Layout.{Layout}
use Rattle.inv_ends.specs.model.defs.declared.call.Call.{Call}
use Rattle.inv_ends.specs.model.declared.post.Post.{Post}
use Rattle.inv_ends.specs.model.Posts.{stands}
use Rattle.inv_ends.specs.model.Calls.{DequeueAt, LoadTail, SwingTail, TakeNumber, TakeValue, ExchangeHead, Looks, Work, Getting, Changing, Enqueuing, Dequeuing, Keeping, Phase, Idle, Runs, Scans, Works}
use Rattle.inv_ends.specs.model.World.{World, start, begin, step}
use Rattle.inv_ends.specs.shapes.Seats.{Seats}
use Rattle.inv_ends.specs.requests.Parents.{Parents}
use Rattle.inv_ends.specs.rows.Queue.{stands_on}
use Rattle.inv_all.specs.Contents.Knows.{reads_in}

abbrev pub dequeue_nexts : DequeueAt → ℕ → Bool
dequeue_nexts (LoadTail head) s = false
dequeue_nexts (SwingTail head next) s = next == s
dequeue_nexts (TakeNumber head next) s = next == s
dequeue_nexts (TakeValue head next number) s = next == s
dequeue_nexts (ExchangeHead head next number value) s = next == s

abbrev pub work_nexts : Work → ℕ → Bool
work_nexts (Getting key at) s = false
work_nexts (Changing kept at) s = false
work_nexts (Enqueuing kept at) s = false
work_nexts (Dequeuing at) s = dequeue_nexts at s
work_nexts (Keeping at) s = false

-- a dequeue has followed the head's next link to row s
abbrev pub nexts_in : Phase → ℕ → Bool
nexts_in Idle s = false
nexts_in (Runs why base) s = false
nexts_in (Scans later at) s = false
nexts_in (Works work) s = work_nexts work s

-- the index at which stands what the call has read of
abbrev pub read_index : Phase → ℕ
read_index (Works (Keeping (Looks index key at))) = index
read_index phase = 0

-- what a get or a change has read, and the row of the queue that a call found at the tail or at the head, stand at index 0;
-- what a look has read at the index that it looks at; and the row after the head at index 1
pub record Stood (phase : Phase) (post : Post) : Type 0 where
  pub reads : (s : ℕ) → reads_in phase s ≡ true → stands post (read_index phase) ≡ Some s
  pub queue : (s : ℕ) → stands_on phase s ≡ true → stands post 0 ≡ Some s
  pub nexts : (s : ℕ) → nexts_in phase s ≡ true → stands post 1 ≡ Some s

pub record Stands (w : World) : Type 0 where
  pub stood : (k : ℕ) → Stood (w.seat k).phase (w.seat k).post

abbrev pub StandsStart : Type 0
StandsStart = (layout : Layout) → Stands (start layout)

abbrev pub StandsBegin : Type 0
StandsBegin = (w : World) (i : ℕ) (call : Call) → Stands w → Stands (begin w i call)

-- a step needs of the other parts the shape of its seat, and that what was protected stands
abbrev pub StandsKept : Type 0
StandsKept = (w : World) (i : ℕ) → Seats w → Parents w → Stands w → Stands (step w i)
