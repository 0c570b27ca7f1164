-- Which rows a step takes into the queue or out of it, and how it changes their numbers.
use Rattle.std.proofs.Common.{ℕ, ◌≡◌, ◌-◌, Bool, true, false, arith, refl, sym, ◌∙◌}
use Rattle.std.proofs.lemmas.Bool.Decides.{nat_tests}
use Rattle.std.specs.Prelude.{◌==◌, if◌then◌else◌}
use Rattle.inv_ends.specs.model.declared.post.Post.{Post}
use Rattle.inv_ends.specs.model.Allocate.{is_claimed}
use Rattle.inv_ends.specs.model.Change.{changed_bucket}
use Rattle.inv_ends.specs.model.Phases.{AllocateAt, RetireAt, Base}
use Rattle.inv_ends.specs.model.Phases.AllocateAt.{LoadBirth, ClaimSlot, StoreLife}
use Rattle.inv_ends.specs.model.Phases.RetireAt.{LoadLife, LoadRetire, StoreRetired}
use Rattle.inv_ends.specs.model.Phases.Base.{Begin, Protect, Reload, Clear, Finish, Release, Allocate, Write, GiveUp, Retire, Move}
use Rattle.inv_ends.specs.model.Calls.{ChangeKept, EnqueueKept, ChangeAt, LoadVersion, LoadCount, LoadKey, LoadValue, ExchangeRoot, EnqueueAt, LoadNumber, LoadNext, PassTail, ExchangeNext, ExchangeTail, DequeueAt, LoadTail, SwingTail, TakeNumber, TakeValue, ExchangeHead, ScanAt, ReadGuard, GiveBack, Work, Getting, Changing, Enqueuing, Dequeuing, Phase, Idle, Runs, Scans, Works, Keeping, TakeList, KeepAt}
use Rattle.inv_ends.specs.rows.Rows.{View, RowMove, made}
use Rattle.inv_ends.specs.rows.Rows.RowMove.{Stays, Claims, Bears, Drops, Links, Replaces, Appends, Pops, Reads, Seals, Lists, Returns, Adopts}
use Rattle.inv_ends.specs.rows.Hands.{allocate_row, retire_row, base_row, scan_row, linked_row, change_row, enqueue_row, dequeue_row, keep_row, work_row, row_move}
use Rattle.inv_ends.specs.rows.Queue.{Line, moved_line, line_move, scan_line, enqueue_line}
use Rattle.inv_ends.specs.rows.Chain.{queue_of}
use Rattle.inv_ends.proofs.rows.Fits.{passed_queue}
use Rattle.inv_all.specs.Contents.Turns.{enqueue_hits, dequeue_hits}

-- a move that neither takes a row into the queue nor cuts its head
abbrev pub is_mild : RowMove → Bool
is_mild Stays = true
is_mild (Claims slot) = true
is_mild (Bears slot birth) = true
is_mild (Drops slot) = true
is_mild (Links bucket slot) = true
is_mild (Replaces bucket slot old) = true
is_mild (Appends slot) = false
is_mild (Pops slot next) = false
is_mild (Reads slot birth) = true
is_mild (Seals slot birth retire) = true
is_mild (Lists slot birth retire) = true
is_mild (Returns slot) = true
is_mild (Adopts from) = true

-- no row joins the queue
pub record Mild (v u : View) : Type 0 where
  pub queue : (s : ℕ) → queue_of u s ≡ true → queue_of v s ≡ true
  pub head : u.head ≡ v.head

pub mild_made : (i : ℕ) (v : View) (m : RowMove) → is_mild m ≡ true → Mild v (made i v m)
mild_made i v Stays h = record { queue = λ s e. e; head = refl }
mild_made i v (Claims slot) h = record { queue = λ s e. grind (arith, nat_tests); head = refl }
mild_made i v (Bears slot birth) h = record { queue = λ s e. grind (arith, nat_tests); head = refl }
mild_made i v (Drops slot) h = record { queue = λ s e. grind (arith, nat_tests); head = refl }
mild_made i v (Links bucket slot) h = record { queue = λ s e. grind (arith, nat_tests); head = refl }
mild_made i v (Replaces bucket slot old) h = record { queue = λ s e. grind (arith, nat_tests); head = refl }
mild_made i v (Appends slot) h = absurd (cc)
mild_made i v (Pops slot next) h = absurd (cc)
mild_made i v (Reads slot birth) h = record { queue = λ s e. e; head = refl }
mild_made i v (Seals slot birth retire) h = record { queue = λ s e. grind (arith, nat_tests); head = refl }
mild_made i v (Lists slot birth retire) h = record { queue = λ s e. grind (arith, nat_tests); head = refl }
mild_made i v (Returns slot) h = record { queue = λ s e. grind (arith, nat_tests); head = refl }
mild_made i v (Adopts from) h = record { queue = λ s e. sym (passed_queue from i (v.status s)) ∙ e; head = refl }

pub popped_queue : (i : ℕ) (v : View) (slot next s : ℕ) → queue_of (made i v (Pops slot next)) s ≡ true → queue_of v s ≡ true
popped_queue i v slot next s e = grind (arith, nat_tests)

pub returned_queue : (i : ℕ) (v : View) (slot : ℕ) → queue_of (made i v (Returns slot)) slot ≡ false
returned_queue i v slot = grind (arith, nat_tests)

claim_mild : (slot : ℕ) (shown : Bool) → is_mild (if shown then Stays else Claims slot) ≡ true
claim_mild slot true = refl
claim_mild slot false = refl

allocate_mild : (at : AllocateAt) (found : ℕ) → is_mild (allocate_row at found) ≡ true
allocate_mild LoadBirth found = refl
allocate_mild (ClaimSlot birth walk) found = claim_mild walk.slot (is_claimed found walk.slot)
allocate_mild (StoreLife birth slot) found = refl

retire_mild : (at : RetireAt) (found : ℕ) → is_mild (retire_row at found) ≡ true
retire_mild (LoadLife slot) found = refl
retire_mild (LoadRetire slot birth) found = refl
retire_mild (StoreRetired slot birth retire) found = refl

base_mild : (base : Base) (found : ℕ) → is_mild (base_row base found) ≡ true
base_mild (Begin at) found = refl
base_mild (Protect aim index root steps at) found = refl
base_mild (Reload parent index slot era steps) found = refl
base_mild (Clear rows index) found = refl
base_mild Finish found = refl
base_mild (Release index) found = refl
base_mild (Allocate at) found = allocate_mild at found
base_mild (Write slot row place) found = refl
base_mild (GiveUp slot) found = refl
base_mild (Retire at) found = retire_mild at found
base_mild (Move at) found = refl

scan_mild : (at : ScanAt) → is_mild (scan_row at) ≡ true
scan_mild (ReadGuard number) = refl
scan_mild (GiveBack place slot) = refl

linked_mild : (bucket slot link : ℕ) (null : Bool) → is_mild (if null then Links bucket slot else Replaces bucket slot (link - 1)) ≡ true
linked_mild bucket slot link true = refl
linked_mild bucket slot link false = refl

exchange_mild : (bucket slot link : ℕ) (same : Bool) → is_mild (if same then linked_row bucket slot link else Stays) ≡ true
exchange_mild bucket slot link true = linked_mild bucket slot link (link == 0)
exchange_mild bucket slot link false = refl

change_mild : (kept : ChangeKept) (at : ChangeAt) (post : Post) (found : ℕ) → is_mild (change_row kept at post found) ≡ true
change_mild kept (LoadVersion slot) post found = refl
change_mild kept (LoadCount slot) post found = refl
change_mild kept (LoadKey slot count) post found = refl
change_mild kept (LoadValue slot count key) post found = refl
change_mild kept (ExchangeRoot slot) post found = exchange_mild (changed_bucket kept post) slot kept.link (found == kept.link)

enqueue_mild : (at : EnqueueAt) (found : ℕ) → enqueue_hits at found ≡ false → is_mild (enqueue_row at found) ≡ true
enqueue_mild LoadNumber found e = refl
enqueue_mild LoadNext found e = refl
enqueue_mild (PassTail next) found e = refl
enqueue_mild (ExchangeNext slot) found e = rw e refl
enqueue_mild (ExchangeTail slot) found e = refl

dequeue_mild : (at : DequeueAt) (found : ℕ) → dequeue_hits at found ≡ false → is_mild (dequeue_row at found) ≡ true
dequeue_mild (LoadTail head) found e = refl
dequeue_mild (SwingTail head next) found e = refl
dequeue_mild (TakeNumber head next) found e = refl
dequeue_mild (TakeValue head next number) found e = refl
dequeue_mild (ExchangeHead head next number value) found e = rw e refl

-- the step adds to the queue, or takes from it
abbrev pub work_queues : Work → ℕ → Bool
work_queues (Getting key at) found = false
work_queues (Changing kept at) found = false
work_queues (Enqueuing kept at) found = enqueue_hits at found
work_queues (Dequeuing at) found = dequeue_hits at found
work_queues (Keeping at) found = false

abbrev pub queues : Phase → ℕ → Bool
queues Idle found = false
queues (Runs why base) found = false
queues (Scans later at) found = false
queues (Works work) found = work_queues work found

take_mild : (place : ℕ) (left : Bool) → is_mild (if left then Adopts place else Stays) ≡ true
take_mild place true = refl
take_mild place false = refl

keep_mild : (at : KeepAt) (found : ℕ) → is_mild (keep_row at found) ≡ true
keep_mild (TakeList place) found = take_mild place (found == 1)
keep_mild at found = refl

work_mild : (work : Work) (post : Post) (found : ℕ) → work_queues work found ≡ false → is_mild (work_row work post found) ≡ true
work_mild (Getting key at) post found e = refl
work_mild (Changing kept at) post found e = change_mild kept at post found
work_mild (Enqueuing kept at) post found e = enqueue_mild at found e
work_mild (Dequeuing at) post found e = dequeue_mild at found e
work_mild (Keeping at) post found e = keep_mild at found

pub phase_mild : (phase : Phase) (post : Post) (found : ℕ) → queues phase found ≡ false → is_mild (row_move phase post found) ≡ true
phase_mild Idle post found e = refl
phase_mild (Runs why base) post found e = base_mild base found
phase_mild (Scans later at) post found e = scan_mild at
phase_mild (Works work) post found e = work_mild work post found e

-- numbers stay, and no row is lined that was not
pub record Lower (l m : Line) : Type 0 where
  pub number : (s : ℕ) → m.number s ≡ l.number s
  pub lined : (s : ℕ) → m.lined s ≡ true → l.lined s ≡ true

pub same_lower : (l : Line) → Lower l l
same_lower l = record { number = λ s. refl; lined = λ s e. e }

scan_lower : (l : Line) (at : ScanAt) → Lower l (moved_line l (scan_line at))
scan_lower l (ReadGuard number) = same_lower l
scan_lower l (GiveBack place slot) = record { number = λ s. refl; lined = λ s e. grind (arith, nat_tests) }

-- an enqueue that adds nothing changes no number
pub enqueue_keeps : (l : Line) (kept : EnqueueKept) (at : EnqueueAt) (found : ℕ) → enqueue_hits at found ≡ false → moved_line l (enqueue_line kept at found) ≡ l
enqueue_keeps l kept LoadNumber found e = refl
enqueue_keeps l kept LoadNext found e = refl
enqueue_keeps l kept (PassTail next) found e = refl
enqueue_keeps l kept (ExchangeNext slot) found e = rw e refl
enqueue_keeps l kept (ExchangeTail slot) found e = refl

enqueue_lower : (l : Line) (kept : EnqueueKept) (at : EnqueueAt) (found : ℕ) → enqueue_hits at found ≡ false → Lower l (moved_line l (enqueue_line kept at found))
enqueue_lower l kept at found e = rw (enqueue_keeps l kept at found e) (same_lower l)

work_lower : (l : Line) (work : Work) (found : ℕ) → work_queues work found ≡ false → Lower l (moved_line l (line_move (Works work) found))
work_lower l (Getting key at) found e = same_lower l
work_lower l (Changing kept at) found e = same_lower l
work_lower l (Enqueuing kept at) found e = enqueue_lower l kept at found e
work_lower l (Dequeuing at) found e = same_lower l
work_lower l (Keeping at) found e = same_lower l

pub phase_lower : (l : Line) (phase : Phase) (found : ℕ) → queues phase found ≡ false → Lower l (moved_line l (line_move phase found))
phase_lower l Idle found e = same_lower l
phase_lower l (Runs why base) found e = same_lower l
phase_lower l (Scans later at) found e = scan_lower l at
phase_lower l (Works work) found e = work_lower l work found e
