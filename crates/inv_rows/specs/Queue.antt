-- The queue: from the head the next links lead through its rows with rising numbers to the last one, and the tail is one of
-- them. What each seat that enqueues or dequeues has found of it still holds.
use Rattle.std.specs.Prelude.{ℕ, ◌≡◌, ◌≤◌, ◌<◌, ◌+◌, ◌==◌, ◌&&◌, not, Bool, true, false, if◌then◌else◌}
use Rattle.wfe_core.specs.Memory.{upd}
use Rattle.wfe_core.specs.Phases.{RowOf, MapRow, QueueRow, Base}
use Rattle.wfe_core.specs.Phases.Base.{Begin, Protect, Reload, Clear, Finish, Release, Allocate, Write}
use Rattle.wfe_core.specs.Calls.{EnqueueKept, Task, Gets, Changes, Holds, Enqueues, Dequeues, Why, Opens, FollowsHead, Fills, ScanAt, ReadGuard, GiveBack, EnqueueAt, LoadNumber, LoadNext, PassTail, ExchangeNext, ExchangeTail, DequeueAt, LoadTail, SwingTail, TakeNumber, TakeValue, ExchangeHead, Work, Getting, Changing, Enqueuing, Dequeuing, Phase, Idle, Runs, Scans, Works, Keeping}
use Rattle.inv_rows.specs.Follow.{Loads}
use Rattle.inv_rows.specs.Rows.{Status}
use Rattle.inv_rows.specs.Rows.Status.{Free, Claimed, Born, Linked, InQueue, Cut, Sealed, Listed}

abbrev pub in_queue : Status → Bool
in_queue Free = false
in_queue (Claimed by) = false
in_queue (Born by) = false
in_queue (Linked bucket) = false
in_queue InQueue = true
in_queue (Cut by) = false
in_queue (Sealed by retire) = false
in_queue (Listed by retire) = false

-- the row is in the queue, or was cut and is not free
abbrev pub is_past : Status → Bool
is_past Free = false
is_past (Claimed by) = false
is_past (Born by) = false
is_past (Linked bucket) = false
is_past InQueue = true
is_past (Cut by) = true
is_past (Sealed by retire) = true
is_past (Listed by retire) = true

-- what no word shows of a row: its number in the queue, and whether it was in the queue since it was claimed last
pub record Line : Type 0 where
  pub number : ℕ → ℕ
  pub lined : ℕ → Bool

-- the parts, over: whether a row is in the queue, whether it is that or cut, its next link, the head, and the tail
pub record InLine (q past : ℕ → Bool) (l : Line) (next : ℕ → ℕ) (head tail : ℕ) : Type 0 where
  pub lined : (s : ℕ) → q s ≡ true → l.lined s ≡ true
  pub passed : (s : ℕ) → l.lined s ≡ true → past s ≡ true
  pub last : (s : ℕ) → l.lined s ≡ true → next s ≡ 0 → q s ≡ true
  pub links : (s t : ℕ) → q s ≡ true → next s ≡ t + 1 → q t ≡ true
  pub rises : (s t : ℕ) → q s ≡ true → next s ≡ t + 1 → l.number t ≡ l.number s + 1
  pub one : (s t : ℕ) → q s ≡ true → q t ≡ true → l.number s ≡ l.number t → s ≡ t
  pub first : (s : ℕ) → head ≡ s + 1 → q s ≡ true
  pub least : (s h : ℕ) → head ≡ h + 1 → q s ≡ true → l.number h ≤ l.number s
  pub most : (s t : ℕ) → q s ≡ true → next s ≡ 0 → q t ≡ true → l.number t ≤ l.number s
  pub reached : (s : ℕ) → tail ≡ s + 1 → q s ≡ true
  pub some : 0 < tail

abbrev pub head_of : DequeueAt → ℕ
head_of (LoadTail head) = head
head_of (SwingTail head next) = head
head_of (TakeNumber head next) = head
head_of (TakeValue head next number) = head
head_of (ExchangeHead head next number value) = head

abbrev pub task_stands : Task → ℕ → Bool
task_stands (Gets key) h = false
task_stands (Changes kept) h = false
task_stands (Holds key) h = false
task_stands (Enqueues kept) h = kept.tail == h
task_stands Dequeues h = false

abbrev pub why_stands : Why → ℕ → Bool
why_stands (Opens task) h = false
why_stands (FollowsHead head tail) h = head == h
why_stands (Fills task) h = task_stands task h
why_stands why h = false

abbrev pub work_stands : Work → ℕ → Bool
work_stands (Getting key at) h = false
work_stands (Changing kept at) h = false
work_stands (Enqueuing kept at) h = kept.tail == h
work_stands (Dequeuing at) h = head_of at == h
work_stands (Keeping at) h = false

-- the call works on the queue's row h, which it found at the tail or at the head
abbrev pub stands_on : Phase → ℕ → Bool
stands_on Idle h = false
stands_on (Runs why base) h = why_stands why h
stands_on (Scans later at) h = false
stands_on (Works work) h = work_stands work h

abbrev pub why_heads : Why → ℕ → Bool
why_heads (Opens task) h = false
why_heads (FollowsHead head tail) h = head == h
why_heads why h = false

abbrev pub work_heads : Work → ℕ → Bool
work_heads (Getting key at) h = false
work_heads (Changing kept at) h = false
work_heads (Enqueuing kept at) h = false
work_heads (Dequeuing at) h = head_of at == h
work_heads (Keeping at) h = false

-- it found it at the head
abbrev pub heads_on : Phase → ℕ → Bool
heads_on Idle h = false
heads_on (Runs why base) h = why_heads why h
heads_on (Scans later at) h = false
heads_on (Works work) h = work_heads work h

abbrev pub dequeue_follows : DequeueAt → ℕ → ℕ → Bool
dequeue_follows (LoadTail head) h link = false
dequeue_follows (SwingTail head next) h link = head == h && (next + 1 == link)
dequeue_follows (TakeNumber head next) h link = head == h && (next + 1 == link)
dequeue_follows (TakeValue head next number) h link = head == h && (next + 1 == link)
dequeue_follows (ExchangeHead head next number value) h link = head == h && (next + 1 == link)

abbrev pub enqueue_follows : EnqueueKept → EnqueueAt → ℕ → ℕ → Bool
enqueue_follows kept LoadNumber h link = false
enqueue_follows kept LoadNext h link = false
enqueue_follows kept (PassTail next) h link = kept.tail == h && (next == link)
enqueue_follows kept (ExchangeNext slot) h link = false
enqueue_follows kept (ExchangeTail slot) h link = kept.tail == h && (slot + 1 == link)

abbrev pub work_follows : Work → ℕ → ℕ → Bool
work_follows (Getting key at) h link = false
work_follows (Changing kept at) h link = false
work_follows (Enqueuing kept at) h link = enqueue_follows kept at h link
work_follows (Dequeuing at) h link = dequeue_follows at h link
work_follows (Keeping at) h link = false

-- it has found this link after the row h, not null
abbrev pub follows_in : Phase → ℕ → ℕ → Bool
follows_in Idle h link = false
follows_in (Runs why base) h link = false
follows_in (Scans later at) h link = false
follows_in (Works work) h link = work_follows work h link

abbrev pub why_lags : Why → ℕ → Bool
why_lags (Opens task) h = false
why_lags (FollowsHead head tail) h = head == h && not (tail == head + 1)
why_lags why h = false

abbrev pub dequeue_leads : DequeueAt → ℕ → Bool
dequeue_leads (LoadTail head) h = false
dequeue_leads (SwingTail head next) h = false
dequeue_leads (TakeNumber head next) h = head == h
dequeue_leads (TakeValue head next number) h = head == h
dequeue_leads (ExchangeHead head next number value) h = head == h

abbrev pub work_leads : Work → ℕ → Bool
work_leads (Getting key at) h = false
work_leads (Changing kept at) h = false
work_leads (Enqueuing kept at) h = false
work_leads (Dequeuing at) h = dequeue_leads at h
work_leads (Keeping at) h = false

-- it has found the tail past the row h
abbrev pub leads_in : Phase → ℕ → Bool
leads_in Idle h = false
leads_in (Runs why base) h = why_lags why h
leads_in (Scans later at) h = false
leads_in (Works work) h = work_leads work h

abbrev pub base_blanks : Base → ℕ → Bool
base_blanks (Begin at) s = false
base_blanks (Protect aim index root steps at) s = false
base_blanks (Reload parent index slot era steps) s = false
base_blanks (Clear rows index) s = false
base_blanks Finish s = false
base_blanks (Release index) s = false
base_blanks (Allocate at) s = false
base_blanks (Write slot row place) s = slot == s && not (place == 0)
base_blanks base s = false

abbrev pub task_blanks : Task → Base → ℕ → Bool
task_blanks (Gets key) base s = false
task_blanks (Changes kept) base s = false
task_blanks (Holds key) base s = false
task_blanks (Enqueues kept) base s = base_blanks base s
task_blanks Dequeues base s = false

abbrev pub why_blanks : Why → Base → ℕ → Bool
why_blanks (Opens task) base s = false
why_blanks (FollowsHead head tail) base s = false
why_blanks (Fills task) base s = task_blanks task base s
why_blanks why base s = false

abbrev pub enqueue_blanks : EnqueueAt → ℕ → Bool
enqueue_blanks LoadNumber s = false
enqueue_blanks LoadNext s = false
enqueue_blanks (PassTail next) s = false
enqueue_blanks (ExchangeNext slot) s = slot == s
enqueue_blanks (ExchangeTail slot) s = false

abbrev pub work_blanks : Work → ℕ → Bool
work_blanks (Getting key at) s = false
work_blanks (Changing kept at) s = false
work_blanks (Enqueuing kept at) s = enqueue_blanks at s
work_blanks (Dequeuing at) s = false
work_blanks (Keeping at) s = false

-- it has stored the null link of its own row s
abbrev pub blanks_in : Phase → ℕ → Bool
blanks_in Idle s = false
blanks_in (Runs why base) s = why_blanks why base s
blanks_in (Scans later at) s = false
blanks_in (Works work) s = work_blanks work s

abbrev pub is_item : RowOf → Bool
is_item (MapRow version pairs) = false
is_item (QueueRow number value) = true

abbrev pub base_items : Base → Bool
base_items (Begin at) = true
base_items (Protect aim index root steps at) = true
base_items (Reload parent index slot era steps) = true
base_items (Clear rows index) = true
base_items Finish = true
base_items (Release index) = true
base_items (Allocate at) = true
base_items (Write slot row place) = is_item row
base_items base = true

abbrev pub task_items : Task → Base → Bool
task_items (Gets key) base = true
task_items (Changes kept) base = true
task_items (Holds key) base = true
task_items (Enqueues kept) base = base_items base
task_items Dequeues base = true

abbrev pub why_items : Why → Base → Bool
why_items (Opens task) base = true
why_items (FollowsHead head tail) base = true
why_items (Fills task) base = task_items task base
why_items why base = true

-- an enqueue writes rows of the queue
abbrev pub items_in : Phase → Bool
items_in Idle = true
items_in (Runs why base) = why_items why base
items_in (Scans later at) = true
items_in (Works work) = true

-- what a seat has found still holds
pub record Walks (phase : Phase) (q : ℕ → Bool) (l : Line) (next : ℕ → ℕ) (head tail : ℕ) : Type 0 where
  pub stood : (h : ℕ) → stands_on phase h ≡ true → l.lined h ≡ true
  pub heads : (h : ℕ) → heads_on phase h ≡ true → q h ≡ true → head ≡ h + 1
  pub follows : (h link : ℕ) → follows_in phase h link ≡ true → next h ≡ link
  pub some : (h link : ℕ) → follows_in phase h link ≡ true → 0 < link
  pub leads : (h : ℕ) → leads_in phase h ≡ true → head ≡ h + 1 → (tail == h + 1) ≡ false
  pub blank : (s : ℕ) → blanks_in phase s ≡ true → next s ≡ 0
  pub items : items_in phase ≡ true
  pub loads : Loads phase next

-- how a step changes what no word shows: a row joins the queue after another, or is free again
pub data LineMove : Type 0 where
  Keeps : LineMove
  Joins : (tail : ℕ) → (slot : ℕ) → LineMove
  Leaves : (slot : ℕ) → LineMove

abbrev pub scan_line : ScanAt → LineMove
scan_line (ReadGuard number) = Keeps
scan_line (GiveBack place slot) = Leaves slot

abbrev pub enqueue_line : EnqueueKept → EnqueueAt → ℕ → LineMove
enqueue_line kept LoadNumber found = Keeps
enqueue_line kept LoadNext found = Keeps
enqueue_line kept (PassTail next) found = Keeps
enqueue_line kept (ExchangeNext slot) found = if found == 0 then Joins kept.tail slot else Keeps
enqueue_line kept (ExchangeTail slot) found = Keeps

abbrev pub work_line : Work → ℕ → LineMove
work_line (Getting key at) found = Keeps
work_line (Changing kept at) found = Keeps
work_line (Enqueuing kept at) found = enqueue_line kept at found
work_line (Dequeuing at) found = Keeps
work_line (Keeping at) found = Keeps

abbrev pub line_move : Phase → ℕ → LineMove
line_move Idle found = Keeps
line_move (Runs why base) found = Keeps
line_move (Scans later at) found = scan_line at
line_move (Works work) found = work_line work found

abbrev pub moved_line : Line → LineMove → Line
moved_line l Keeps = l
moved_line l (Joins tail slot) = record { number = upd l.number slot (l.number tail + 1); lined = upd l.lined slot true }
moved_line l (Leaves slot) = record l { lined = upd l.lined slot false }
