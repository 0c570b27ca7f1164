-- Where a call stands, so many of its rounds may be counted as lost that it loses but few more while nothing is changed.
use Rattle.std.proofs.Common.{ℕ, ◌≡◌, ◌≤◌, ◌+◌, ◌-◌, ◌%◌, Bool, true, false, refl, sym, subst, arith}
use Rattle.std.proofs.lemmas.Bool.Decides.{nat_tests}
use Rattle.std.specs.Prelude.{◌==◌, ◌&&◌, ◌||◌, nat_le, not, if◌then◌else◌}
use Rattle.law_held.specs.inv.Known.{Known as AllKnown}
use Rattle.law_held.specs.inv.Rounds.{Rounds}
use Rattle.law_held.specs.inv.Tallies.{Since, Tally, at_paced, dequeue_paced, enqueue_paced, fills_paced, hazard_paced, lag_since, later_paced, next_paced, once, open_paced, phase_good, phase_paced, since_test, tally, task_good, task_most, task_paced, why_good, why_paced}
use Rattle.law_held.specs.inv.ends.Losses.{Losses, phase_fit}
use Rattle.law_held.specs.inv.ends.Tracked.{root_in}
use Rattle.law_held.specs.inv.model.Calls.{Task, Gets, Changes, Holds, Enqueues, Dequeues, Next, Again, MakeRoom, Answering, Retiring, AfterScan, Answered, Repeated, Counted, Why, Opens, FollowsHead, Fills, ClearsNext, Clears, Finishes, GivesUp, Retires, Tidies, Advances, Releases, EnqueueAt, LoadNumber, LoadNext, PassTail, ExchangeNext, ExchangeTail, DequeueAt, LoadTail, SwingTail, TakeNumber, TakeValue, ExchangeHead, EnqueueKept, Getting, Changing, Enqueuing, Dequeuing, Keeping, Phase, Idle, Runs, Scans, Works}
use Rattle.law_held.specs.inv.model.Phases.{Base, HazardAt, ProtectAt}
use Rattle.law_held.specs.inv.model.Phases.Base.{Protect}
use Rattle.law_held.specs.inv.model.Phases.HazardAt.{FirstLink, PublishLink, CheckLink}
use Rattle.law_held.specs.inv.model.Phases.ProtectAt.{ByHazard}
use Rattle.law_held.specs.inv.model.Rest.{is_told, lost_by, rounds_most}
use Rattle.law_held.specs.inv.model.World.{World}
use Rattle.law_held.specs.inv.model.defs.declared.call.Call.{Call}
use Rattle.law_held.specs.inv.model.defs.declared.call.Call.TheVariants as calls
use Rattle.law_held.specs.inv.model.defs.declared.event.Root.{Root}
use Rattle.law_held.specs.inv.model.defs.declared.event.Root.TheVariants as roots
use Rattle.law_held.specs.inv.model.words.declared.config.Config.{Config}
use Rattle.law_held.specs.inv.requests.Views.{View as Asked}
use Rattle.law_held.specs.inv.rows.Queue.{Line}
use Rattle.law_held.specs.inv.rows.Rows.{View}
use Rattle.law_held.proofs.inv.model.Facts.{le_test, same_number}
use Rattle.law_reasons.proofs.Repeats.Paces.{Few}
use Rattle.law_reasons.proofs.Repeats.Records.{is_counted}
use Rattle.law_reasons.proofs.Repeats.Shift.{shifted, tracked_alike}
use Rattle.law_bounds.proofs.Changes.Fits.{Known, Spare, phase_known, phase_more}
use Rattle.law_bounds.proofs.Changes.Paid.{most_rounds, world_moves}
use Rattle.law_bounds.proofs.Changes.Worth.{is_last}

-- only of seat k more rounds are counted
abbrev pub only : ℕ → ℕ → ℕ → ℕ
only k n j = if j == k then n else 0

pub only_own : (k n : ℕ) → only k n k ≡ n
only_own k n = rw (same_number k) refl

pub only_other : (k n j : ℕ) → (j == k) ≡ false → only k n j ≡ 0
only_other k n j e = rw e refl

-- a task that may lose one round more
abbrev pub Roomy : Tally → ℕ → Task → Type 0
Roomy t r task = r + 1 ≤ task_most t task

or_test : (same b : Bool) → b ≡ true → (same || b) ≡ true
or_test true b h = refl
or_test false b h = h

since_any : (same : Bool) (r lost most : ℕ) → lost ≤ r → r + 1 ≤ most → Since same lost most
since_any same r lost most h l = record { lost_few = omega (arith, h, l); moved = or_test same (nat_le (lost + 1) most) (le_test (lost + 1) most (omega (arith, h, l))) }

test_any : (same : Bool) (r lost most : ℕ) → lost ≤ r → r + 1 ≤ most → since_test same lost most ≡ true
test_any same r lost most h l = or_test same (nat_le (lost + 1) most) (le_test (lost + 1) most (omega (arith, h, l)))

task_any : (t : Tally) (task : Task) (r lost : ℕ) → lost ≤ r → Roomy t r task → task_paced t task lost
task_any t (Gets key) r lost h l = omega (arith, h, l)
task_any t (Changes kept) r lost h l = omega (arith, h, l)
task_any t (Holds key) r lost h l = omega (arith, h, l)
task_any t (Enqueues kept) r lost h l = omega (arith, h, l)
task_any t Dequeues r lost h l = omega (arith, h, l)

hazard_any : (t : Tally) (task : Task) (at : HazardAt) (r lost : ℕ) → lost ≤ r → Roomy t r task → hazard_paced t task at lost
hazard_any t task FirstLink r lost h l = task_any t task r lost h l
hazard_any t task (PublishLink link) r lost h l = since_any _ r lost (task_most t task) h l
hazard_any t task (CheckLink link) r lost h l = since_any _ r lost (task_most t task) h l

at_any : (t : Tally) (task : Task) (at : ProtectAt) (r lost : ℕ) → lost ≤ r → Roomy t r task → at_paced t task at lost
at_any t task (ByHazard at) r lost h l = hazard_any t task at r lost h l
at_any t task at r lost h l = task_any t task r lost h l

open_any : (t : Tally) (task : Task) (base : Base) (r lost : ℕ) → lost ≤ r → Roomy t r task → open_paced t task base lost
open_any t task (Protect aim index root made at) r lost h l = at_any t task at r lost h l
open_any t task base r lost h l = task_any t task r lost h l

told_low : (r : ℕ) (told : Bool) → lost_by r told ≤ r
told_low r true = omega arith
told_low r false = omega arith

next_any : (t : Tally) (task : Task) (next : Next) (r : ℕ) → Roomy t r task → next_paced t task next r
next_any t task Again r l = task_any t task r r (omega arith) l
next_any t task MakeRoom r l = task_any t task r r (omega arith) l
next_any t task (Answering answer) r l = tt
next_any t task (Retiring slot answer) r l = tt

later_any : (t : Tally) (later : AfterScan) (r : ℕ) → (task : Task) → later ≡ Repeated task → Roomy t r task → later_paced t later r
later_any t later r task e l = rw e (task_any t task r r (omega arith) l)

fills_any : (t : Tally) (task : Task) (r lost : ℕ) → lost ≤ r → Roomy t r task → fills_paced t task lost
fills_any t (Gets key) r lost h l = tt
fills_any t (Changes kept) r lost h l = since_any _ r lost (task_most t (Changes kept)) h l
fills_any t (Holds key) r lost h l = tt
fills_any t (Enqueues kept) r lost h l = since_any _ r lost (task_most t (Enqueues kept)) h l
fills_any t Dequeues r lost h l = tt

lag_any : (t : Tally) (head : ℕ) (same : Bool) (r lost : ℕ) → lost ≤ r → Roomy t r Dequeues → lag_since t head same lost
lag_any t head true r lost h l = since_any _ r lost t.takes h l
lag_any t head false r lost h l = tt

less_low : (r : ℕ) → r - 1 ≤ r
less_low r = omega arith

why_any : (t : Tally) (r : ℕ) (base : Base) (why : Why) → phase_known (Roomy t r) (Runs why base) → why_paced t r base why
why_any t r base (Opens task) k = open_any t task base r (lost_by r (is_told base)) (told_low r (is_told base)) k
why_any t r base (FollowsHead head tail) k = (since_any _ r (r - 1) t.takes (less_low r) k, lag_any t head (tail == head + 1) r (r - 1) (less_low r) k)
why_any t r base (Fills task) k = fills_any t task r (r - 1) (less_low r) k
why_any t r base (ClearsNext next) k = next_any t Dequeues next r k
why_any t r base (Clears task next) k = next_any t task next r k
why_any t r base (Finishes task next) k = next_any t task next r k
why_any t r base (GivesUp answer) k = tt
why_any t r base (Retires answer) k = tt
why_any t r base (Tidies (Answered answer)) k = tt
why_any t r base (Tidies (Repeated task)) k = later_any t (Repeated task) r task refl k
why_any t r base (Tidies Counted) k = tt
why_any t r base Advances k = tt
why_any t r base (Releases let_go) k = tt

enqueue_any : (t : Tally) (kept : EnqueueKept) (at : EnqueueAt) (r lost : ℕ) → lost ≤ r → Roomy t r (Enqueues kept) → enqueue_paced t kept at lost
enqueue_any t kept LoadNumber r lost h l = since_any _ r lost (task_most t (Enqueues kept)) h l
enqueue_any t kept LoadNext r lost h l = since_any _ r lost (task_most t (Enqueues kept)) h l
enqueue_any t kept (PassTail next) r lost h l = since_any _ r lost (task_most t (Enqueues kept)) h l
enqueue_any t kept (ExchangeNext slot) r lost h l = since_any _ r lost (task_most t (Enqueues kept)) h l
enqueue_any t kept (ExchangeTail slot) r lost h l = tt

dequeue_any : (t : Tally) (at : DequeueAt) (r lost : ℕ) → lost ≤ r → Roomy t r Dequeues → dequeue_paced t at lost
dequeue_any t (LoadTail head) r lost h l = since_any _ r lost t.takes h l
dequeue_any t (SwingTail head next) r lost h l = since_any _ r lost t.takes h l
dequeue_any t (TakeNumber head next) r lost h l = since_any _ r lost t.takes h l
dequeue_any t (TakeValue head next number) r lost h l = since_any _ r lost t.takes h l
dequeue_any t (ExchangeHead head next number value) r lost h l = since_any _ r lost t.takes h l

phase_any : (t : Tally) (r : ℕ) (phase : Phase) → phase_known (Roomy t r) phase → phase_paced t r phase
phase_any t r Idle k = tt
phase_any t r (Runs why base) k = why_any t r base why k
phase_any t r (Scans (Answered answer) at) k = tt
phase_any t r (Scans (Repeated task) at) k = later_any t (Repeated task) r task refl k
phase_any t r (Scans Counted at) k = tt
phase_any t r (Works (Getting key at)) k = tt
phase_any t r (Works (Changing kept at)) k = since_any _ r (r - 1) (task_most t (Changes kept)) (less_low r) k
phase_any t r (Works (Enqueuing kept at)) k = enqueue_any t kept at r (r - 1) (less_low r) k
phase_any t r (Works (Dequeuing at)) k = dequeue_any t at r (r - 1) (less_low r) k
phase_any t r (Works (Keeping at)) k = tt

-- a link that is tracked
both_test : (a b d : Bool) → (a && b) ≡ true → d ≡ true → (a && d) ≡ true
both_test true b d h e = e
both_test false b d h e = absurd (cc)

task_link : (t : Tally) (task : Task) (r old lost : ℕ) (root : Root) (x : ℕ) → lost ≤ r → Roomy t r task → task_good t task old root x ≡ true → task_good t task lost root x ≡ true
task_link t (Changes kept) r old lost (roots.Bucket b) x h l g = test_any _ r lost (task_most t (Changes kept)) h l
task_link t (Gets key) r old lost (roots.Bucket b) x h l g = refl
task_link t (Holds key) r old lost (roots.Bucket b) x h l g = refl
task_link t (Enqueues kept) r old lost (roots.Bucket b) x h l g = refl
task_link t Dequeues r old lost (roots.Bucket b) x h l g = refl
task_link t (Changes kept) r old lost roots.Tail x h l g = refl
task_link t (Gets key) r old lost roots.Tail x h l g = refl
task_link t (Holds key) r old lost roots.Tail x h l g = refl
task_link t (Enqueues kept) r old lost roots.Tail x h l g = both_test (not (x == 0)) _ _ g (test_any _ r lost (task_most t (Enqueues kept)) h l)
task_link t Dequeues r old lost roots.Tail x h l g = refl
task_link t (Changes kept) r old lost roots.Head x h l g = refl
task_link t (Gets key) r old lost roots.Head x h l g = refl
task_link t (Holds key) r old lost roots.Head x h l g = refl
task_link t (Enqueues kept) r old lost roots.Head x h l g = refl
task_link t Dequeues r old lost roots.Head x h l g = both_test (not (x == 0)) _ _ g (test_any _ r lost (task_most t Dequeues) h l)
task_link t task r old lost (roots.Next parent) x h l g = refl

why_link : (t : Tally) (r old : ℕ) (base : Base) (why : Why) (root : Root) (x : ℕ) → phase_known (Roomy t r) (Runs why base) → why_good t old base why root x ≡ true → why_good t r base why root x ≡ true
why_link t r old base (Opens task) root x k g = task_link t task r (lost_by old (is_told base)) (lost_by r (is_told base)) root x (told_low r (is_told base)) k g
why_link t r old base why root x k g = refl

phase_link : (t : Tally) (r old : ℕ) (phase : Phase) (root : Root) (x : ℕ) → phase_known (Roomy t r) phase → phase_good t old phase root x ≡ true → phase_good t r phase root x ≡ true
phase_link t r old Idle root x k g = refl
phase_link t r old (Runs why base) root x k g = why_link t r old base why root x k g
phase_link t r old (Scans later at) root x k g = refl
phase_link t r old (Works work) root x k g = refl

-- the rounds of a World in which more are counted of one seat
entry_paced : (w : World) (v : View) (l : Line) (z : Asked) (k b j : ℕ) (same : Bool) → (j == k) ≡ same → AllKnown w v l z → phase_known (Roomy (tally w l) ((w.seat k).rounds + b)) (w.seat k).phase → phase_paced (tally w l) ((w.seat j).rounds + only k b j) (w.seat j).phase
entry_paced w v l z k b j true e a h =
    let one : k ≡ j = grind (arith, nat_tests) in
    subst (λ (m : ℕ). phase_paced (tally w l) ((w.seat m).rounds + only k b m) (w.seat m).phase) one
    (subst (λ (n : ℕ). phase_paced (tally w l) ((w.seat k).rounds + n) (w.seat k).phase) (sym (only_own k b)) (phase_any (tally w l) ((w.seat k).rounds + b) (w.seat k).phase h))
entry_paced w v l z k b j false e a h =
    let r = a.rounds in
    subst (λ (n : ℕ). phase_paced (tally w l) ((w.seat j).rounds + n) (w.seat j).phase) (sym (only_other k b j e)) (subst (λ (n : ℕ). phase_paced (tally w l) n (w.seat j).phase) (omega arith) (r.paced j))

entry_link : (w : World) (v : View) (l : Line) (z : Asked) (k b j x : ℕ) (same : Bool) → (j == k) ≡ same → phase_known (Roomy (tally w l) ((w.seat k).rounds + b)) (w.seat k).phase → phase_good (tally w l) (w.seat j).rounds (w.seat j).phase (root_in w j) x ≡ true
    → phase_good (tally w l) ((w.seat j).rounds + only k b j) (w.seat j).phase (root_in w j) x ≡ true
entry_link w v l z k b j x true e h g =
    let one : j ≡ k = grind (arith, nat_tests) in
    let at : phase_good (tally w l) (w.seat k).rounds (w.seat k).phase (root_in w k) x ≡ true = subst (λ (m : ℕ). phase_good (tally w l) (w.seat m).rounds (w.seat m).phase (root_in w m) x ≡ true) one g in
    subst (λ (m : ℕ). phase_good (tally w l) ((w.seat m).rounds + only k b m) (w.seat m).phase (root_in w m) x ≡ true) (sym one)
    (subst (λ (n : ℕ). phase_good (tally w l) ((w.seat k).rounds + n) (w.seat k).phase (root_in w k) x ≡ true) (sym (only_own k b)) (phase_link (tally w l) ((w.seat k).rounds + b) (w.seat k).rounds (w.seat k).phase (root_in w k) x h at))
entry_link w v l z k b j x false e h g =
    subst (λ (n : ℕ). phase_good (tally w l) ((w.seat j).rounds + n) (w.seat j).phase (root_in w j) x ≡ true) (sym (only_other k b j e)) (subst (λ (n : ℕ). phase_good (tally w l) n (w.seat j).phase (root_in w j) x ≡ true) (omega arith) g)

pub entry_rounds : (w : World) (v : View) (l : Line) (z : Asked) (k b : ℕ) → AllKnown w v l z → phase_known (Roomy (tally w l) ((w.seat k).rounds + b)) (w.seat k).phase → Rounds (shifted w (only k b)) l z
entry_rounds w v l z k b a h =
    let r = a.rounds in
    record {
      paced = λ j. entry_paced w v l z k b j (j == k) refl a h;
      links = record { tracked = λ j x t. entry_link w v l z k b j x (j == k) refl h (let o = r.links in o.tracked j x (tracked_alike w w.seat (shifted w (only k b)).seat z j x (λ m. refl) (λ m. refl) t)) };
    }

-- nothing more is counted
pub none_rounds : (w : World) (v : View) (l : Line) (z : Asked) (k : ℕ) → AllKnown w v l z → Rounds (shifted w (only k 0)) l z
none_rounds w v l z k a =
    let r = a.rounds in
    record {
      paced = λ j. subst (λ (n : ℕ). phase_paced (tally w l) n (w.seat j).phase) (none j (j == k) refl) (r.paced j);
      links = record { tracked = λ j x t. subst (λ (n : ℕ). phase_good (tally w l) n (w.seat j).phase (root_in w j) x ≡ true) (none j (j == k) refl) (let o = r.links in o.tracked j x (tracked_alike w w.seat (shifted w (only k 0)).seat z j x (λ m. refl) (λ m. refl) t)) };
    }
  where
    none : (j : ℕ) (same : Bool) → (j == k) ≡ same → (w.seat j).rounds ≡ (w.seat j).rounds + only k 0 j
    none j true e = rw e (omega arith)
    none j false e = rw e (omega arith)

pub none_losses : (w : World) (v : View) (l : Line) (z : Asked) (k : ℕ) → AllKnown w v l z → Losses (shifted w (only k 0))
none_losses w v l z k a =
    let f = a.losses in
    record { few = λ j. subst (λ (n : ℕ). phase_fit w.layout.config n (w.seat j).phase) (none j (j == k) refl) (f.few j); spans = f.spans }
  where
    none : (j : ℕ) (same : Bool) → (j == k) ≡ same → (w.seat j).rounds ≡ (w.seat j).rounds + only k 0 j
    none j true e = rw e (omega arith)
    none j false e = rw e (omega arith)

-- other seats are counted as they are
pub only_losses : (w : World) (v : View) (l : Line) (z : Asked) (k n : ℕ) → AllKnown w v l z → phase_fit w.layout.config ((w.seat k).rounds + n) (w.seat k).phase → Losses (shifted w (only k n))
only_losses w v l z k n a h = record { few = λ j. by j (j == k) refl; spans = let f = a.losses in f.spans }
  where
    by : (j : ℕ) (same : Bool) → (j == k) ≡ same → phase_fit w.layout.config ((w.seat j).rounds + only k n j) (w.seat j).phase
    by j true e =
        let one : k ≡ j = grind (arith, nat_tests) in
        subst (λ (m : ℕ). phase_fit w.layout.config ((w.seat m).rounds + only k n m) (w.seat m).phase) one (subst (λ (m : ℕ). phase_fit w.layout.config ((w.seat k).rounds + m) (w.seat k).phase) (sym (only_own k n)) h)
    by j false e =
        let f = a.losses in
        subst (λ (m : ℕ). phase_fit w.layout.config ((w.seat j).rounds + m) (w.seat j).phase) (sym (only_other k n j e)) (subst (λ (m : ℕ). phase_fit w.layout.config m (w.seat j).phase) (omega arith) (f.few j))

-- of a call of the map or of the queue
once_low : (walked : Bool) → 0 ≤ once walked
once_low walked = omega arith

pub now_few : (t : Tally) (c : Config) (call : Call) → Few t c.last_version → is_counted call ≡ true → world_moves t call + 1 ≤ most_rounds c call
now_few t c (calls.Put key value) f h = let a = f.count (key % t.buckets) in omega (arith, a)
now_few t c (calls.Remove key) f h = let a = f.count (key % t.buckets) in omega (arith, a)
now_few t c (calls.PutIf key value version) f h = let a = f.count (key % t.buckets) in omega (arith, a)
now_few t c (calls.Enqueue value) f h = let a = f.passes in omega (arith, a)
now_few t c calls.Dequeue f h = let a = f.takes in omega (arith, a)
now_few t c call f h = absurd (cc)

last_fits : (c : Config) (rounds b : ℕ) (phase : Phase) → is_last phase ≡ true → ((kept : EnqueueKept) → rounds + b ≤ rounds_most c (Enqueues kept) + 1) → phase_fit c rounds phase → phase_fit c (rounds + b) phase
last_fits c rounds b (Works (Enqueuing kept (ExchangeTail slot))) l h f = let a = f.told in record { told = omega (arith, a); few = h kept }
last_fits c rounds b phase l h f = absurd (cc)

pub entry_fits : (c : Config) (t : Tally) (most now b rounds : ℕ) (phase : Phase) → phase_known (Known c t most now) phase → now + 1 ≤ most → rounds + b ≤ now → (is_last phase ≡ true → (kept : EnqueueKept) → most ≡ rounds_most c (Enqueues kept)) → phase_fit c rounds phase → phase_paced t (rounds + b) phase → phase_fit c (rounds + b) phase
entry_fits c t most now b rounds phase k m r q f p = by (is_last phase) refl
  where
    spare : Spare most now b b
    spare = record { few = λ lost h l. omega (arith, h, m); found = λ x l h. omega (arith, h, m) }

    by : (last : Bool) → is_last phase ≡ last → phase_fit c (rounds + b) phase
    by true e = last_fits c rounds b phase e (λ kept. let z = q e kept in omega (arith, z, m, r)) f
    by false e = phase_more c t most now b b rounds phase e k spare f p
