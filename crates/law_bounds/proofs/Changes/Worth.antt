-- Where a round less is counted as lost, a call has no more steps left than a round is worth.
use Rattle.std.proofs.Common.{ℕ, ◌≡◌, ◌≤◌, ◌+◌, ◌*◌, ◌-◌, Bool, true, false, List, length, arith, mul-le-mul_right, refl}
use Rattle.law_held.specs.inv.model.Calls.{Task, Gets, Changes, Enqueues, Dequeues, Next, Again, MakeRoom, Answering, Retiring, AfterScan, Answered, Repeated, Counted, Why, Opens, FollowsHead, Fills, ClearsNext, Clears, Finishes, GivesUp, Retires, Tidies, Advances, Releases, EnqueueAt, LoadNumber, LoadNext, PassTail, ExchangeNext, ExchangeTail, Work, Getting, Changing, Enqueuing, Dequeuing, Keeping, Phase, Idle, Runs, Scans, Works}
use Rattle.law_held.specs.inv.model.Phases.{Base}
use Rattle.law_held.specs.inv.model.Phases.Base.{Allocate}
use Rattle.law_held.specs.inv.model.Rest.{closing_left, enqueue_left, filling_left, is_told, later_left, lost_by, phase_left, round_worth, rounds_left, rounds_most, task_left, why_left, work_left}
use Rattle.law_held.specs.inv.model.defs.declared.lifetime.Lifetime.{Lifetime}
use Rattle.law_held.specs.inv.model.words.declared.config.Config.{Config}

times_worth : (a r s d w : ℕ) → s ≤ r + d → (a + 1 - r) * w ≤ (a + 1 - s) * w + d * w
times_worth a r s d w h =
    let m : (a + 1 - r) * w ≤ (a + 1 - s + d) * w = mul-le-mul_right w (omega (arith, h)) in
    let e = apart (a + 1 - s) d w in
    omega (arith, m, e)
  where
    apart : (x d w : ℕ) → (x + d) * w ≡ x * w + d * w
    apart x d w = grind arith

-- so many rounds less
task_worth : (c : Config) (lives : ℕ) (task : Task) (r s d : ℕ) → s ≤ r + d → task_left c lives task r ≤ task_left c lives task s + d * round_worth c
task_worth c lives task r s d h = let a : rounds_left c task r ≤ rounds_left c task s + d * round_worth c = times_worth (rounds_most c task) r s d (round_worth c) h in omega (arith, a)

told_less : (r s d : ℕ) (told : Bool) → s ≤ r + d → lost_by s told ≤ lost_by r told + d
told_less r s d true h = omega (arith, h)
told_less r s d false h = h

less_one : (r s d : ℕ) → s ≤ r + d → s - 1 ≤ r - 1 + d
less_one r s d h = omega (arith, h)

no_less : (n m : ℕ) → n ≤ n + m
no_less n m = omega arith

closing_worth : (c : Config) (lives r s d : ℕ) (task : Task) (next : Next) → s ≤ r + d → closing_left c lives r task next ≤ closing_left c lives s task next + d * round_worth c
closing_worth c lives r s d task Again h = let a = task_worth c lives task r s d h in omega (arith, a)
closing_worth c lives r s d task MakeRoom h = let a = task_worth c lives task (r - 1) (s - 1) d (less_one r s d h) in omega (arith, a)
closing_worth c lives r s d task (Answering answer) h = no_less (closing_left c lives r task (Answering answer)) (d * round_worth c)
closing_worth c lives r s d task (Retiring slot answer) h = no_less (closing_left c lives r task (Retiring slot answer)) (d * round_worth c)

later_worth : (c : Config) (lives r s d : ℕ) (later : AfterScan) → s ≤ r + d → later_left c lives r later ≤ later_left c lives s later + d * round_worth c
later_worth c lives r s d (Answered answer) h = no_less 0 (d * round_worth c)
later_worth c lives r s d (Repeated task) h = task_worth c lives task (r - 1) (s - 1) d (less_one r s d h)
later_worth c lives r s d Counted h = no_less 0 (d * round_worth c)

filling_worth : (c : Config) (lives r s d : ℕ) (task : Task) (base : Base) → s ≤ r + d → filling_left c lives r task base ≤ filling_left c lives s task base + d * round_worth c
filling_worth c lives r s d task (Allocate at) h = let a : rounds_left c task (r - 1) ≤ rounds_left c task (s - 1) + d * round_worth c = times_worth (rounds_most c task) (r - 1) (s - 1) d (round_worth c) (less_one r s d h) in omega (arith, a)
filling_worth c lives r s d task base h = let a = task_worth c lives task (r - 1) (s - 1) d (less_one r s d h) in omega (arith, a)

why_worth : (c : Config) (lives r s d : ℕ) (base : Base) (why : Why) → s ≤ r + d → why_left c lives r base why ≤ why_left c lives s base why + d * round_worth c
why_worth c lives r s d base (Opens task) h = let a = task_worth c lives task (lost_by r (is_told base)) (lost_by s (is_told base)) d (told_less r s d (is_told base) h) in omega (arith, a)
why_worth c lives r s d base (FollowsHead head tail) h = let a = task_worth c lives Dequeues (r - 1) (s - 1) d (less_one r s d h) in omega (arith, a)
why_worth c lives r s d base (Fills task) h = filling_worth c lives r s d task base h
why_worth c lives r s d base (ClearsNext next) h = let a = closing_worth c lives r s d Dequeues next h in omega (arith, a)
why_worth c lives r s d base (Clears task next) h = let a = closing_worth c lives r s d task next h in omega (arith, a)
why_worth c lives r s d base (Finishes task next) h = closing_worth c lives r s d task next h
why_worth c lives r s d base (GivesUp answer) h = no_less (why_left c lives r base (GivesUp answer)) (d * round_worth c)
why_worth c lives r s d base (Retires answer) h = no_less (why_left c lives r base (Retires answer)) (d * round_worth c)
why_worth c lives r s d base (Tidies later) h = let a = later_worth c lives r s d later h in omega (arith, a)
why_worth c lives r s d base Advances h = no_less (why_left c lives r base Advances) (d * round_worth c)
why_worth c lives r s d base (Releases let_go) h = no_less (why_left c lives r base (Releases let_go)) (d * round_worth c)

enqueue_worth : (at : EnqueueAt) (more less x : ℕ) → more ≤ less + x → enqueue_left at more ≤ enqueue_left at less + x
enqueue_worth LoadNumber more less x h = omega (arith, h)
enqueue_worth LoadNext more less x h = omega (arith, h)
enqueue_worth (PassTail next) more less x h = omega (arith, h)
enqueue_worth (ExchangeNext slot) more less x h = omega (arith, h)
enqueue_worth (ExchangeTail slot) more less x h = omega arith

work_worth : (c : Config) (lives r s d : ℕ) (work : Work) → s ≤ r + d → work_left c lives r work ≤ work_left c lives s work + d * round_worth c
work_worth c lives r s d (Getting key at) h = let a = task_worth c lives (Gets key) (r - 1) (s - 1) d (less_one r s d h) in omega (arith, a)
work_worth c lives r s d (Changing kept at) h = let a = task_worth c lives (Changes kept) (r - 1) (s - 1) d (less_one r s d h) in omega (arith, a)
work_worth c lives r s d (Enqueuing kept at) h = enqueue_worth at (task_left c lives (Enqueues kept) (r - 1)) (task_left c lives (Enqueues kept) (s - 1)) (d * round_worth c) (task_worth c lives (Enqueues kept) (r - 1) (s - 1) d (less_one r s d h))
work_worth c lives r s d (Dequeuing at) h = let a = task_worth c lives Dequeues (r - 1) (s - 1) d (less_one r s d h) in omega (arith, a)
work_worth c lives r s d (Keeping at) h = no_less (work_left c lives r (Keeping at)) (d * round_worth c)

pub phase_worth : (c : Config) (r s d : ℕ) (lives : List Lifetime) (phase : Phase) → s ≤ r + d → phase_left c r lives phase ≤ phase_left c s lives phase + d * round_worth c
phase_worth c r s d lives Idle h = no_less 0 (d * round_worth c)
phase_worth c r s d lives (Runs why base) h = why_worth c (length lives) r s d base why h
phase_worth c r s d lives (Scans later at) h = let a = later_worth c (length lives) r s d later h in omega (arith, a)
phase_worth c r s d lives (Works work) h = work_worth c (length lives) r s d work h

-- a call whose row was queued, and that has the tail still to pass: no round of it is lost any more
abbrev pub is_last : Phase → Bool
is_last (Works (Enqueuing kept (ExchangeTail slot))) = true
is_last phase = false

pub last_left : (c : Config) (r s : ℕ) (lives : List Lifetime) (phase : Phase) → is_last phase ≡ true → phase_left c r lives phase ≡ phase_left c s lives phase
last_left c r s lives (Works (Enqueuing kept (ExchangeTail slot))) h = refl
last_left c r s lives phase h = absurd (cc)
