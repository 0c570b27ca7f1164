-- What was lost stays no more than what has changed since, while that grows.
use Rattle.std.proofs.Common.{ℕ, ◌≡◌, ◌≤◌, ◌+◌, ◌-◌, Bool, true, false, arith, refl}
use Rattle.std.proofs.lemmas.Bool.Decides.{nat_tests}
use Rattle.inv_ends.specs.model.Calls.{AfterScan, ChangeKept, DequeueAt, EnqueueAt, EnqueueKept, Next, Phase, Task, Why, Work}
use Rattle.inv_ends.specs.model.Calls.AfterScan.{Answered, Counted, Repeated}
use Rattle.inv_ends.specs.model.Calls.DequeueAt.{ExchangeHead, LoadTail, SwingTail, TakeNumber, TakeValue}
use Rattle.inv_ends.specs.model.Calls.EnqueueAt.{ExchangeNext, ExchangeTail, LoadNext, LoadNumber, PassTail}
use Rattle.inv_ends.specs.model.Calls.Next.{Again, Answering, MakeRoom, Retiring}
use Rattle.inv_ends.specs.model.Calls.Phase.{Idle, Runs, Scans, Works}
use Rattle.inv_ends.specs.model.Calls.Task.{Changes, Dequeues, Enqueues, Gets, Holds}
use Rattle.inv_ends.specs.model.Calls.Why.{Advances, Clears, ClearsNext, Fills, Finishes, FollowsHead, GivesUp, Opens, Releases, Retires, Tidies}
use Rattle.inv_ends.specs.model.Calls.Work.{Changing, Dequeuing, Enqueuing, Getting, Keeping}
use Rattle.inv_ends.specs.model.Phases.{Base, HazardAt, ProtectAt}
use Rattle.inv_ends.specs.model.Phases.Base.{Protect}
use Rattle.inv_ends.specs.model.Phases.HazardAt.{CheckLink, FirstLink, PublishLink}
use Rattle.inv_ends.specs.model.Phases.ProtectAt.{ByHazard}
use Rattle.inv_ends.specs.model.Rest.{is_told, lost_by}
use Rattle.inv_ends.specs.model.Rounds.{key_of}
use Rattle.inv_all.specs.Tallies.{Since, Tally, at_paced, bucket_good, dequeue_paced, enqueue_paced, fills_paced, hazard_paced, head_since, lag_since, later_paced, next_paced, next_since, once, open_paced, phase_paced, published_since, root_since, since_test, tail_since, task_most, task_paced, why_paced, work_paced, head_good, passes_so_far, phase_good, tail_good, task_good, why_good}
use Rattle.std.specs.Prelude.{nat_le, ◌==◌, ◌||◌, ◌%◌, not}
use Rattle.inv_ends.specs.model.defs.declared.event.Root.TheVariants as roots
use Rattle.inv_ends.specs.model.defs.declared.event.Root.{Root}
use Rattle.inv_ends.proofs.model.Facts.{first_of, rest_of, both, or_more}

-- counts never fall; where a root, the tail or the head is another, the count of it has risen, and so where a row is linked
pub record Grows (t u : Tally) : Type 0 where
  pub buckets : u.buckets ≡ t.buckets
  pub count : (b : ℕ) → t.count b ≤ u.count b
  pub passes : t.passes ≤ u.passes
  pub takes : t.takes ≤ u.takes
  pub root : (b : ℕ) → ((u.root b == t.root b) || nat_le (t.count b + 1) (u.count b)) ≡ true
  pub tail : ((u.tail == t.tail) || nat_le (t.passes + 1) u.passes) ≡ true
  pub lag : ((u.tail == t.tail) || nat_le (t.takes + 1) u.takes) ≡ true
  pub head : ((u.head == t.head) || nat_le (t.takes + 1) u.takes) ≡ true
  pub next : (s : ℕ) → (t.next s == 0) ≡ true → ((u.next s == 0) || nat_le (t.passes + 1) u.passes) ≡ true

-- one test more
pub since_grows : (same now : Bool) (lost most more : ℕ) → most ≤ more → (same ≡ true → (now || nat_le (most + 1) more) ≡ true) → Since same lost most → Since now lost more
since_grows true now lost most more h k s = let a = s.lost_few in let b = k refl in record { lost_few = omega (arith, a, h); moved = moved_on now b a }
  where
    moved_on : (now : Bool) → (now || nat_le (most + 1) more) ≡ true → lost ≤ most → (now || nat_le (lost + 1) more) ≡ true
    moved_on true b a = refl
    moved_on false b a = grind (arith, nat_tests, a, b)
since_grows false now lost most more h k s = let a = s.lost_few in let b = s.moved in record { lost_few = omega (arith, a, h); moved = or_right now (grind (arith, nat_tests, b, h)) }
  where
    or_right : (now : Bool) → nat_le (lost + 1) more ≡ true → (now || nat_le (lost + 1) more) ≡ true
    or_right true h = refl
    or_right false h = h

-- a number that is the same as another, where that stays or the count rises
same_on : (old new x n m : ℕ) → ((new == old) || nat_le (n + 1) m) ≡ true → (old == x) ≡ true → ((new == x) || nat_le (n + 1) m) ≡ true
same_on old new x n m h e = by_new (new == old) refl h
  where
    by_new : (b : Bool) → (new == old) ≡ b → (b || nat_le (n + 1) m) ≡ true → ((new == x) || nat_le (n + 1) m) ≡ true
    by_new true q h = let y : (new == x) ≡ true = grind (arith, nat_tests, q, e) in rw y refl
    by_new false q h = or_more (new == x) (nat_le (n + 1) m) h

-- with the walk that failed
more_on : (b : Bool) (n m extra : ℕ) → (b || nat_le (n + 1) m) ≡ true → (b || nat_le (n + extra + 1) (m + extra)) ≡ true
more_on true n m extra h = refl
more_on false n m extra h = grind (arith, nat_tests, h)

-- a root that a task has loaded
published_grows : (t u : Tally) (task : Task) (x lost : ℕ) → Grows t u → published_since t task x lost → published_since u task x lost
published_grows t u (Gets key) x lost g s =
    let b : ℕ = key % t.buckets in
    let c = g.count b in
    rw g.buckets (since_grows (t.root b == x) (u.root b == x) lost (t.count b) (u.count b) c (λ e. same_on (t.root b) (u.root b) x (t.count b) (u.count b) (g.root b) e) s)
published_grows t u (Changes kept) x lost g s =
    let b : ℕ = key_of kept.change % t.buckets in
    let c = g.count b in
    rw g.buckets (since_grows (t.root b == x) (u.root b == x) lost (t.count b + once kept.walked) (u.count b + once kept.walked) (omega (arith, c))
    (λ e. more_on (u.root b == x) (t.count b) (u.count b) (once kept.walked) (same_on (t.root b) (u.root b) x (t.count b) (u.count b) (g.root b) e)) s)
published_grows t u (Holds key) x lost g s =
    let b : ℕ = key % t.buckets in
    let c = g.count b in
    rw g.buckets (since_grows (t.root b == x) (u.root b == x) lost (t.count b) (u.count b) c (λ e. same_on (t.root b) (u.root b) x (t.count b) (u.count b) (g.root b) e) s)
published_grows t u (Enqueues kept) x lost g s =
    let c = g.passes in
    since_grows (t.tail == x) (u.tail == x) lost (t.passes + once kept.walked) (u.passes + once kept.walked) (omega (arith, c))
    (λ e. more_on (u.tail == x) t.passes u.passes (once kept.walked) (same_on t.tail u.tail x t.passes u.passes g.tail e)) s
published_grows t u Dequeues x lost g s = since_grows (t.head == x) (u.head == x) lost t.takes u.takes g.takes (λ e. same_on t.head u.head x t.takes u.takes g.head e) s

root_grows : (t u : Tally) (kept : ChangeKept) (lost : ℕ) → Grows t u → root_since t kept lost → root_since u kept lost
root_grows t u kept lost g s = published_grows t u (Changes kept) kept.link lost g s

tail_grows : (t u : Tally) (kept : EnqueueKept) (lost : ℕ) → Grows t u → tail_since t kept lost → tail_since u kept lost
tail_grows t u kept lost g s = published_grows t u (Enqueues kept) (kept.tail + 1) lost g s

link_grows : (t u : Tally) (kept : EnqueueKept) (lost : ℕ) → Grows t u → next_since t kept lost → next_since u kept lost
link_grows t u kept lost g s =
    let c = g.passes in
    since_grows (t.next kept.tail == 0) (u.next kept.tail == 0) lost (t.passes + once kept.walked) (u.passes + once kept.walked) (omega (arith, c))
    (λ e. more_on (u.next kept.tail == 0) t.passes u.passes (once kept.walked) (g.next kept.tail e)) s

head_grows : (t u : Tally) (head lost : ℕ) → Grows t u → head_since t head lost → head_since u head lost
head_grows t u head lost g s = published_grows t u Dequeues (head + 1) lost g s

lag_grows : (t u : Tally) (head : ℕ) (lags : Bool) (lost : ℕ) → Grows t u → lag_since t head lags lost → lag_since u head lags lost
lag_grows t u head true lost g s = since_grows (t.tail == head + 1) (u.tail == head + 1) lost t.takes u.takes g.takes (λ e. same_on t.tail u.tail (head + 1) t.takes u.takes g.lag e) s
lag_grows t u head false lost g s = tt

pub task_grows : (t u : Tally) (task : Task) (lost : ℕ) → Grows t u → task_paced t task lost → task_paced u task lost
task_grows t u (Gets key) lost g p = let c = g.count (key % t.buckets) in rw g.buckets (omega (arith, c, p))
task_grows t u (Changes kept) lost g p = let c = g.count (key_of kept.change % t.buckets) in rw g.buckets (omega (arith, c, p))
task_grows t u (Holds key) lost g p = let c = g.count (key % t.buckets) in rw g.buckets (omega (arith, c, p))
task_grows t u (Enqueues kept) lost g p = let c = g.passes in omega (arith, c, p)
task_grows t u Dequeues lost g p = let c = g.takes in omega (arith, c, p)

hazards_grow : (t u : Tally) (task : Task) (at : HazardAt) (lost : ℕ) → Grows t u → hazard_paced t task at lost → hazard_paced u task at lost
hazards_grow t u task FirstLink lost g p = task_grows t u task lost g p
hazards_grow t u task (PublishLink link) lost g p = published_grows t u task link lost g p
hazards_grow t u task (CheckLink link) lost g p = published_grows t u task link lost g p

ats_grow : (t u : Tally) (task : Task) (at : ProtectAt) (lost : ℕ) → Grows t u → at_paced t task at lost → at_paced u task at lost
ats_grow t u task (ByHazard at) lost g p = hazards_grow t u task at lost g p
ats_grow t u task at lost g p = task_grows t u task lost g p

opens_grow : (t u : Tally) (task : Task) (base : Base) (lost : ℕ) → Grows t u → open_paced t task base lost → open_paced u task base lost
opens_grow t u task (Protect aim index root steps at) lost g p = ats_grow t u task at lost g p
opens_grow t u task base lost g p = task_grows t u task lost g p

-- what a published link was loaded for has lost no more rounds either
pub paced_of : (t : Tally) (task : Task) (lost : ℕ) → lost ≤ task_most t task → task_paced t task lost
paced_of t (Gets key) lost h = h
paced_of t (Changes kept) lost h = h
paced_of t (Holds key) lost h = h
paced_of t (Enqueues kept) lost h = h
paced_of t Dequeues lost h = h

pub most_of : (t : Tally) (task : Task) (lost : ℕ) → task_paced t task lost → lost ≤ task_most t task
most_of t (Gets key) lost h = h
most_of t (Changes kept) lost h = h
most_of t (Holds key) lost h = h
most_of t (Enqueues kept) lost h = h
most_of t Dequeues lost h = h

at_task : (t : Tally) (task : Task) (at : ProtectAt) (lost : ℕ) → at_paced t task at lost → task_paced t task lost
at_task t task (ByHazard FirstLink) lost p = p
at_task t task (ByHazard (PublishLink link)) lost p = paced_of t task lost p.lost_few
at_task t task (ByHazard (CheckLink link)) lost p = paced_of t task lost p.lost_few
at_task t task at lost p = p

pub open_task : (t : Tally) (task : Task) (base : Base) (lost : ℕ) → open_paced t task base lost → task_paced t task lost
open_task t task (Protect aim index root steps at) lost p = at_task t task at lost p
open_task t task base lost p = p

fills_grow : (t u : Tally) (task : Task) (lost : ℕ) → Grows t u → fills_paced t task lost → fills_paced u task lost
fills_grow t u (Gets key) lost g p = tt
fills_grow t u (Changes kept) lost g p = root_grows t u kept lost g p
fills_grow t u (Holds key) lost g p = tt
fills_grow t u (Enqueues kept) lost g p = link_grows t u kept lost g p
fills_grow t u Dequeues lost g p = tt

nexts_grow : (t u : Tally) (task : Task) (next : Next) (lost : ℕ) → Grows t u → next_paced t task next lost → next_paced u task next lost
nexts_grow t u task Again lost g p = task_grows t u task lost g p
nexts_grow t u task MakeRoom lost g p = task_grows t u task lost g p
nexts_grow t u task (Answering answer) lost g p = tt
nexts_grow t u task (Retiring slot answer) lost g p = tt

later_grows : (t u : Tally) (later : AfterScan) (lost : ℕ) → Grows t u → later_paced t later lost → later_paced u later lost
later_grows t u (Answered answer) lost g p = tt
later_grows t u (Repeated task) lost g p = task_grows t u task lost g p
later_grows t u Counted lost g p = tt

why_grows : (t u : Tally) (rounds : ℕ) (base : Base) (why : Why) → Grows t u → why_paced t rounds base why → why_paced u rounds base why
why_grows t u rounds base (Opens task) g p = opens_grow t u task base (lost_by rounds (is_told base)) g p
why_grows t u rounds base (FollowsHead head tail) g p = (head_grows t u head (rounds - 1) g p.0, lag_grows t u head (tail == head + 1) (rounds - 1) g p.1)
why_grows t u rounds base (Fills task) g p = fills_grow t u task (rounds - 1) g p
why_grows t u rounds base (ClearsNext next) g p = nexts_grow t u Dequeues next rounds g p
why_grows t u rounds base (Clears task next) g p = nexts_grow t u task next rounds g p
why_grows t u rounds base (Finishes task next) g p = nexts_grow t u task next rounds g p
why_grows t u rounds base (GivesUp answer) g p = tt
why_grows t u rounds base (Retires answer) g p = tt
why_grows t u rounds base (Tidies later) g p = later_grows t u later rounds g p
why_grows t u rounds base Advances g p = tt
why_grows t u rounds base (Releases let_go) g p = tt

enqueues_grow : (t u : Tally) (kept : EnqueueKept) (at : EnqueueAt) (lost : ℕ) → Grows t u → enqueue_paced t kept at lost → enqueue_paced u kept at lost
enqueues_grow t u kept LoadNumber lost g p = tail_grows t u kept lost g p
enqueues_grow t u kept LoadNext lost g p = tail_grows t u kept lost g p
enqueues_grow t u kept (PassTail next) lost g p = tail_grows t u kept lost g p
enqueues_grow t u kept (ExchangeNext slot) lost g p = link_grows t u kept lost g p
enqueues_grow t u kept (ExchangeTail slot) lost g p = tt

dequeues_grow : (t u : Tally) (at : DequeueAt) (lost : ℕ) → Grows t u → dequeue_paced t at lost → dequeue_paced u at lost
dequeues_grow t u (LoadTail head) lost g p = head_grows t u head lost g p
dequeues_grow t u (SwingTail head next) lost g p = lag_grows t u head true lost g p
dequeues_grow t u (TakeNumber head next) lost g p = head_grows t u head lost g p
dequeues_grow t u (TakeValue head next number) lost g p = head_grows t u head lost g p
dequeues_grow t u (ExchangeHead head next number value) lost g p = head_grows t u head lost g p

work_grows : (t u : Tally) (work : Work) (lost : ℕ) → Grows t u → work_paced t work lost → work_paced u work lost
work_grows t u (Getting key at) lost g p = tt
work_grows t u (Changing kept at) lost g p = root_grows t u kept lost g p
work_grows t u (Enqueuing kept at) lost g p = enqueues_grow t u kept at lost g p
work_grows t u (Dequeuing at) lost g p = dequeues_grow t u at lost g p
work_grows t u (Keeping at) lost g p = tt

pub phase_grows : (t u : Tally) (rounds : ℕ) (phase : Phase) → Grows t u → phase_paced t rounds phase → phase_paced u rounds phase
phase_grows t u rounds Idle g p = tt
phase_grows t u rounds (Runs why base) g p = why_grows t u rounds base why g p
phase_grows t u rounds (Scans later at) g p = later_grows t u later rounds g p
phase_grows t u rounds (Works work) g p = work_grows t u work (rounds - 1) g p

-- tracked links

test_grows : (same now : Bool) (lost most more : ℕ) → lost ≤ most → most ≤ more → (same ≡ true → (now || nat_le (most + 1) more) ≡ true) → since_test same lost most ≡ true → since_test now lost more ≡ true
test_grows same now lost most more l h k s = (since_grows same now lost most more h k (record { lost_few = l; moved = s })).moved

buckets_good : (t u : Tally) (task : Task) (lost x : ℕ) → Grows t u → task_paced t task lost → bucket_good t task lost x ≡ true → bucket_good u task lost x ≡ true
buckets_good t u (Gets key) lost x g l h = refl
buckets_good t u (Changes kept) lost x g l h =
    let b : ℕ = key_of kept.change % t.buckets in
    let c = g.count b in
    rw g.buckets (test_grows (t.root b == x) (u.root b == x) lost (t.count b + once kept.walked) (u.count b + once kept.walked) l (omega (arith, c))
    (λ e. more_on (u.root b == x) (t.count b) (u.count b) (once kept.walked) (same_on (t.root b) (u.root b) x (t.count b) (u.count b) (g.root b) e)) h)
buckets_good t u (Holds key) lost x g l h = refl
buckets_good t u (Enqueues kept) lost x g l h = refl
buckets_good t u Dequeues lost x g l h = refl

tails_good : (t u : Tally) (task : Task) (lost x : ℕ) → Grows t u → task_paced t task lost → tail_good t task lost x ≡ true → tail_good u task lost x ≡ true
tails_good t u (Gets key) lost x g l h = refl
tails_good t u (Changes kept) lost x g l h = refl
tails_good t u (Holds key) lost x g l h = refl
tails_good t u (Enqueues kept) lost x g l h =
    let c = g.passes in
    both (not (x == 0)) (since_test (u.tail == x) lost (passes_so_far u kept)) (first_of (not (x == 0)) (since_test (t.tail == x) lost (passes_so_far t kept)) h)
    (test_grows (t.tail == x) (u.tail == x) lost (t.passes + once kept.walked) (u.passes + once kept.walked) l (omega (arith, c))
    (λ e. more_on (u.tail == x) t.passes u.passes (once kept.walked) (same_on t.tail u.tail x t.passes u.passes g.tail e)) (rest_of (not (x == 0)) (since_test (t.tail == x) lost (passes_so_far t kept)) h))
tails_good t u Dequeues lost x g l h = refl

heads_good : (t u : Tally) (task : Task) (lost x : ℕ) → Grows t u → task_paced t task lost → head_good t task lost x ≡ true → head_good u task lost x ≡ true
heads_good t u (Gets key) lost x g l h = refl
heads_good t u (Changes kept) lost x g l h = refl
heads_good t u (Holds key) lost x g l h = refl
heads_good t u (Enqueues kept) lost x g l h = refl
heads_good t u Dequeues lost x g l h =
    both (not (x == 0)) (since_test (u.head == x) lost u.takes) (first_of (not (x == 0)) (since_test (t.head == x) lost t.takes) h)
    (test_grows (t.head == x) (u.head == x) lost t.takes u.takes l g.takes (λ e. same_on t.head u.head x t.takes u.takes g.head e) (rest_of (not (x == 0)) (since_test (t.head == x) lost t.takes) h))

pub task_stays : (t u : Tally) (task : Task) (lost : ℕ) (root : Root) (x : ℕ) → Grows t u → task_paced t task lost → task_good t task lost root x ≡ true → task_good u task lost root x ≡ true
task_stays t u task lost (roots.Bucket b) x g l h = buckets_good t u task lost x g l h
task_stays t u task lost roots.Tail x g l h = tails_good t u task lost x g l h
task_stays t u task lost roots.Head x g l h = heads_good t u task lost x g l h
task_stays t u task lost (roots.Next parent) x g l h = refl

why_stays : (t u : Tally) (rounds : ℕ) (base : Base) (why : Why) (root : Root) (x : ℕ) → Grows t u → why_paced t rounds base why → why_good t rounds base why root x ≡ true → why_good u rounds base why root x ≡ true
why_stays t u rounds base (Opens task) root x g l h = task_stays t u task (lost_by rounds (is_told base)) root x g (open_task t task base (lost_by rounds (is_told base)) l) h
why_stays t u rounds base why root x g l h = refl

pub phase_stays : (t u : Tally) (rounds : ℕ) (phase : Phase) (root : Root) (x : ℕ) → Grows t u → phase_paced t rounds phase → phase_good t rounds phase root x ≡ true → phase_good u rounds phase root x ≡ true
phase_stays t u rounds Idle root x g l h = refl
phase_stays t u rounds (Runs why base) root x g l h = why_stays t u rounds base why root x g l h
phase_stays t u rounds (Scans later at) root x g l h = refl
phase_stays t u rounds (Works work) root x g l h = refl
