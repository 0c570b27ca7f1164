-- Why a call loses few rounds: a round is lost only where its bucket was changed, or where the queue's tail or head was moved
-- or a row was queued, since its root was loaded; or where a walk has failed. So the rounds lost are no more than those. Where rows are
-- published each attempt of a protection is a round, which is lost where the reload finds another link.
use Rattle.std.specs.Prelude.{ℕ, ◌≡◌, ◌≤◌, ◌+◌, ◌-◌, ◌%◌, ◌==◌, ◌&&◌, ◌||◌, not, Bool, true, false, if◌then◌else◌, nat_le, length}
use Rattle.inv_ends.specs.model.words.Place.Place.{Bucket, Head, Tail, Row}
use Rattle.inv_ends.specs.model.defs.declared.event.Root.{Root}
use Rattle.inv_ends.specs.model.defs.declared.event.Root.TheVariants as roots
use Rattle.inv_ends.specs.model.Phases.{Base, HazardAt, ProtectAt}
use Rattle.inv_ends.specs.model.Phases.Base.{Protect}
use Rattle.inv_ends.specs.model.Phases.HazardAt.{FirstLink, PublishLink, CheckLink}
use Rattle.inv_ends.specs.model.Phases.ProtectAt.{ByHazard}
use Rattle.inv_ends.specs.model.words.Schemes.{publishes_rows}
use Rattle.inv_ends.specs.model.Rest.{is_told, lost_by}
use Rattle.inv_ends.specs.model.Rounds.{key_of}
use Rattle.inv_ends.specs.model.Calls.{ChangeKept, EnqueueKept, Task, Gets, Changes, Holds, Enqueues, Dequeues, Next, Again, MakeRoom, Answering, Retiring, AfterScan, Answered, Repeated, Counted, Why, Opens, FollowsHead, Fills, ClearsNext, Clears, Finishes, GivesUp, Retires, Tidies, Advances, Releases, EnqueueAt, LoadNumber, LoadNext, PassTail, ExchangeNext, ExchangeTail, DequeueAt, LoadTail, SwingTail, TakeNumber, TakeValue, ExchangeHead, Work, Getting, Changing, Enqueuing, Dequeuing, Keeping, Phase, Idle, Runs, Scans, Works}
use Rattle.inv_ends.specs.model.World.{World}
use Rattle.inv_ends.specs.rows.Queue.{Line}

-- whether rows are published, the roots and next links, how often each bucket was changed, and what grows with each row queued or
-- tail moved, and with each row taken or tail moved
pub record Tally : Type 0 where
  pub rows : Bool
  pub buckets : ℕ
  pub root : ℕ → ℕ
  pub tail : ℕ
  pub head : ℕ
  pub next : ℕ → ℕ
  pub count : ℕ → ℕ
  pub passes : ℕ
  pub takes : ℕ

abbrev pub tally : World → Line → Tally
tally w l =
    record {
      rows = publishes_rows w.layout.config.scheme;
      buckets = w.layout.config.buckets;
      root = λ b. w.mem (Bucket b);
      tail = w.mem Tail;
      head = w.mem Head;
      next = λ s. w.mem (Row s 0);
      count = λ b. length (w.book.changes b);
      passes = l.number (w.mem Tail - 1) + length w.book.queued;
      takes = w.book.taken + l.number (w.mem Tail - 1);
    }

-- one round more may be lost to a walk that failed
abbrev pub once : Bool → ℕ
once walked = if walked then 1 else 0

-- how often a change's bucket was changed, and how far the queue has moved, with the walk that failed
abbrev pub changes_so_far : Tally → ChangeKept → ℕ
changes_so_far t kept = t.count (key_of kept.change % t.buckets) + once kept.walked

abbrev pub passes_so_far : Tally → EnqueueKept → ℕ
passes_so_far t kept = t.passes + once kept.walked

-- how often what a task works on has changed, with the walk that failed
abbrev pub task_most : Tally → Task → ℕ
task_most t (Gets key) = t.count (key % t.buckets)
task_most t (Changes kept) = changes_so_far t kept
task_most t (Holds key) = t.count (key % t.buckets)
task_most t (Enqueues kept) = passes_so_far t kept
task_most t Dequeues = t.takes

-- so many rounds of a task were lost
abbrev pub task_paced : Tally → Task → ℕ → Type 0
task_paced t (Gets key) lost = lost ≤ task_most t (Gets key)
task_paced t (Changes kept) lost = lost ≤ changes_so_far t kept
task_paced t (Holds key) lost = lost ≤ task_most t (Holds key)
task_paced t (Enqueues kept) lost = lost ≤ passes_so_far t kept
task_paced t Dequeues lost = lost ≤ t.takes

-- the present round's root is still what was loaded, or one more round may be lost
pub record Since (same : Bool) (lost most : ℕ) : Type 0 where
  pub lost_few : lost ≤ most
  pub moved : (same || nat_le (lost + 1) most) ≡ true

-- the root of a task leads to this
abbrev pub root_test : Tally → Task → ℕ → Bool
root_test t (Gets key) x = t.root (key % t.buckets) == x
root_test t (Changes kept) x = t.root (key_of kept.change % t.buckets) == x
root_test t (Holds key) x = t.root (key % t.buckets) == x
root_test t (Enqueues kept) x = t.tail == x
root_test t Dequeues x = t.head == x

-- where rows are published: the link that a protection has loaded, and publishes
abbrev pub published_since : Tally → Task → ℕ → ℕ → Type 0
published_since t task x lost = Since (root_test t task x) lost (task_most t task)

abbrev pub hazard_paced : Tally → Task → HazardAt → ℕ → Type 0
hazard_paced t task FirstLink lost = task_paced t task lost
hazard_paced t task (PublishLink link) lost = published_since t task link lost
hazard_paced t task (CheckLink link) lost = published_since t task link lost

abbrev pub at_paced : Tally → Task → ProtectAt → ℕ → Type 0
at_paced t task (ByHazard at) lost = hazard_paced t task at lost
at_paced t task at lost = task_paced t task lost

-- of a machine by which a round opens
abbrev pub open_paced : Tally → Task → Base → ℕ → Type 0
open_paced t task (Protect aim index root steps at) lost = at_paced t task at lost
open_paced t task base lost = task_paced t task lost

abbrev pub root_since : Tally → ChangeKept → ℕ → Type 0
root_since t kept lost = Since (t.root (key_of kept.change % t.buckets) == kept.link) lost (changes_so_far t kept)

abbrev pub tail_since : Tally → EnqueueKept → ℕ → Type 0
tail_since t kept lost = Since (t.tail == kept.tail + 1) lost (passes_so_far t kept)

abbrev pub next_since : Tally → EnqueueKept → ℕ → Type 0
next_since t kept lost = Since (t.next kept.tail == 0) lost (passes_so_far t kept)

abbrev pub head_since : Tally → ℕ → ℕ → Type 0
head_since t head lost = Since (t.head == head + 1) lost t.takes

-- where the tail was found at the head's row
abbrev pub lag_since : Tally → ℕ → Bool → ℕ → Type 0
lag_since t head true lost = Since (t.tail == head + 1) lost t.takes
lag_since t head false lost = Unit {0}

abbrev pub fills_paced : Tally → Task → ℕ → Type 0
fills_paced t (Gets key) lost = Unit {0}
fills_paced t (Changes kept) lost = root_since t kept lost
fills_paced t (Holds key) lost = Unit {0}
fills_paced t (Enqueues kept) lost = next_since t kept lost
fills_paced t Dequeues lost = Unit {0}

abbrev pub next_paced : Tally → Task → Next → ℕ → Type 0
next_paced t task Again lost = task_paced t task lost
next_paced t task MakeRoom lost = task_paced t task lost
next_paced t task (Answering answer) lost = Unit {0}
next_paced t task (Retiring slot answer) lost = Unit {0}

abbrev pub later_paced : Tally → AfterScan → ℕ → Type 0
later_paced t (Answered answer) lost = Unit {0}
later_paced t (Repeated task) lost = task_paced t task lost
later_paced t Counted lost = Unit {0}

abbrev pub why_paced : Tally → ℕ → Base → Why → Type 0
why_paced t rounds base (Opens task) = open_paced t task base (lost_by rounds (is_told base))
why_paced t rounds base (FollowsHead head tail) = head_since t head (rounds - 1) × lag_since t head (tail == head + 1) (rounds - 1)
why_paced t rounds base (Fills task) = fills_paced t task (rounds - 1)
why_paced t rounds base (ClearsNext next) = next_paced t Dequeues next rounds
why_paced t rounds base (Clears task next) = next_paced t task next rounds
why_paced t rounds base (Finishes task next) = next_paced t task next rounds
why_paced t rounds base (GivesUp answer) = Unit {0}
why_paced t rounds base (Retires answer) = Unit {0}
why_paced t rounds base (Tidies later) = later_paced t later rounds
why_paced t rounds base Advances = Unit {0}
why_paced t rounds base (Releases let_go) = Unit {0}

abbrev pub enqueue_paced : Tally → EnqueueKept → EnqueueAt → ℕ → Type 0
enqueue_paced t kept LoadNumber lost = tail_since t kept lost
enqueue_paced t kept LoadNext lost = tail_since t kept lost
enqueue_paced t kept (PassTail next) lost = tail_since t kept lost
enqueue_paced t kept (ExchangeNext slot) lost = next_since t kept lost
enqueue_paced t kept (ExchangeTail slot) lost = Unit {0}

abbrev pub dequeue_paced : Tally → DequeueAt → ℕ → Type 0
dequeue_paced t (LoadTail head) lost = head_since t head lost
dequeue_paced t (SwingTail head next) lost = lag_since t head true lost
dequeue_paced t (TakeNumber head next) lost = head_since t head lost
dequeue_paced t (TakeValue head next number) lost = head_since t head lost
dequeue_paced t (ExchangeHead head next number value) lost = head_since t head lost

abbrev pub work_paced : Tally → Work → ℕ → Type 0
work_paced t (Getting key at) lost = Unit {0}
work_paced t (Changing kept at) lost = root_since t kept lost
work_paced t (Enqueuing kept at) lost = enqueue_paced t kept at lost
work_paced t (Dequeuing at) lost = dequeue_paced t at lost
work_paced t (Keeping at) lost = Unit {0}

-- how many rounds a seat's call has lost, by where it stands
abbrev pub phase_paced : Tally → ℕ → Phase → Type 0
phase_paced t rounds Idle = Unit {0}
phase_paced t rounds (Runs why base) = why_paced t rounds base why
phase_paced t rounds (Scans later at) = later_paced t later rounds
phase_paced t rounds (Works work) = work_paced t work (rounds - 1)

-- a link that is tracked for a task's root: it is not the queue's null, and it is still in the root, or one more round may
-- be lost
abbrev pub since_test : Bool → ℕ → ℕ → Bool
since_test same lost most = same || nat_le (lost + 1) most

abbrev pub bucket_good : Tally → Task → ℕ → ℕ → Bool
bucket_good t (Gets key) lost x = true
bucket_good t (Changes kept) lost x = since_test (t.root (key_of kept.change % t.buckets) == x) lost (changes_so_far t kept)
bucket_good t task lost x = true

abbrev pub tail_good : Tally → Task → ℕ → ℕ → Bool
tail_good t (Gets key) lost x = true
tail_good t (Changes kept) lost x = true
tail_good t (Holds key) lost x = true
tail_good t (Enqueues kept) lost x = not (x == 0) && since_test (t.tail == x) lost (passes_so_far t kept)
tail_good t Dequeues lost x = true

abbrev pub head_good : Tally → Task → ℕ → ℕ → Bool
head_good t (Gets key) lost x = true
head_good t (Changes kept) lost x = true
head_good t (Holds key) lost x = true
head_good t (Enqueues kept) lost x = true
head_good t Dequeues lost x = not (x == 0) && since_test (t.head == x) lost t.takes

abbrev pub task_good : Tally → Task → ℕ → Root → ℕ → Bool
task_good t task lost (roots.Bucket b) x = bucket_good t task lost x
task_good t task lost roots.Tail x = tail_good t task lost x
task_good t task lost roots.Head x = head_good t task lost x
task_good t task lost (roots.Next parent) x = true

abbrev pub why_good : Tally → ℕ → Base → Why → Root → ℕ → Bool
why_good t rounds base (Opens task) root x = task_good t task (lost_by rounds (is_told base)) root x
why_good t rounds base why root x = true

abbrev pub phase_good : Tally → ℕ → Phase → Root → ℕ → Bool
phase_good t rounds Idle root x = true
phase_good t rounds (Runs why base) root x = why_good t rounds base why root x
phase_good t rounds (Scans later at) root x = true
phase_good t rounds (Works work) root x = true

-- of each seat
abbrev pub good_link : World → Line → ℕ → Root → ℕ → Bool
good_link w l k root x = phase_good (tally w l) (w.seat k).rounds (w.seat k).phase root x
