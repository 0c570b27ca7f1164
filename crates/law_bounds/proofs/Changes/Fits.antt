-- A call whose rounds are counted so far that no more than those may still be lost that the record leaves it loses no more than it may.
use Rattle.std.proofs.Common.{ℕ, ◌≡◌, ◌≤◌, ◌+◌, ◌-◌, Bool, true, false, refl, sym, subst, arith}
use Rattle.std.specs.Prelude.{if◌then◌else◌}
use Rattle.law_held.specs.inv.ends.Losses.{InRound, LostRound, fills_fit, later_fit, lost_fit, next_fit, finish_fit, opens_fit, phase_fit, tells_fit, why_fit, work_fit}
use Rattle.law_held.specs.inv.Tallies.{Tally, dequeue_paced, enqueue_paced, fills_paced, later_paced, next_paced, phase_paced, task_most, task_paced, why_paced, work_paced}
use Rattle.law_held.specs.inv.model.Calls.{Task, Gets, Changes, Holds, Enqueues, Dequeues, Next, Again, MakeRoom, Answering, Retiring, AfterScan, Answered, Repeated, Counted, Why, Opens, FollowsHead, Fills, ClearsNext, Clears, Finishes, GivesUp, Retires, Tidies, Advances, Releases, EnqueueAt, LoadNumber, LoadNext, PassTail, ExchangeNext, ExchangeTail, DequeueAt, LoadTail, SwingTail, TakeNumber, TakeValue, ExchangeHead, EnqueueKept, Work, Getting, Changing, Enqueuing, Dequeuing, Keeping, Phase, Idle, Runs, Scans, Works}
use Rattle.law_held.specs.inv.model.Phases.{Base}
use Rattle.law_held.specs.inv.model.Rest.{is_told, lost_by, rounds_most}
use Rattle.law_held.specs.inv.model.words.declared.config.Config.{Config}
use Rattle.law_held.proofs.inv.Rounds.Grows.{open_task}
use Rattle.law_bounds.proofs.Changes.Worth.{is_last}

-- what is known of a task: that it is of a change or of the queue, how many rounds it may lose, and how often what it works on was
-- changed, but for the walk that failed
pub record Known (c : Config) (t : Tally) (most now : ℕ) (task : Task) : Type 0 where
  pub most_is : rounds_most c task ≡ most
  pub now_is : task_most t task ≤ now + 1
  pub not_got : (key : ℕ) → task ≡ Gets key → ⊥
  pub not_held : (key : ℕ) → task ≡ Holds key → ⊥

-- so it is with the task of a phase
abbrev pub later_known : (Task → Type 0) → AfterScan → Type 0
later_known P (Answered answer) = Unit {0}
later_known P (Repeated task) = P task
later_known P Counted = Unit {0}

abbrev pub why_known : (Task → Type 0) → Why → Type 0
why_known P (Opens task) = P task
why_known P (FollowsHead head tail) = P Dequeues
why_known P (Fills task) = P task
why_known P (ClearsNext next) = P Dequeues
why_known P (Clears task next) = P task
why_known P (Finishes task next) = P task
why_known P (GivesUp answer) = Unit {0}
why_known P (Retires answer) = Unit {0}
why_known P (Tidies later) = later_known P later
why_known P Advances = Unit {0}
why_known P (Releases let_go) = ⊥

abbrev pub work_known : (Task → Type 0) → Work → Type 0
work_known P (Getting key at) = P (Gets key)
work_known P (Changing kept at) = P (Changes kept)
work_known P (Enqueuing kept at) = P (Enqueues kept)
work_known P (Dequeuing at) = P Dequeues
work_known P (Keeping at) = ⊥

abbrev pub phase_known : (Task → Type 0) → Phase → Type 0
phase_known P Idle = Unit {0}
phase_known P (Runs why base) = why_known P why
phase_known P (Scans later at) = later_known P later
phase_known P (Works work) = work_known P work

-- So many rounds are counted more that no fewer may still be lost than those that the changes leave: `now` of them by now, `before` of
-- them before the call.
pub record Spare (most now before more : ℕ) : Type 0 where
  pub few : (lost : ℕ) → lost + before ≤ now + 1 → lost ≤ most → lost + more ≤ most
  pub found : (rounds : ℕ) → rounds ≤ most + 1 → rounds + before ≤ now + 2 → rounds + more ≤ most + 1

few_by : (most now before more lost : ℕ) → more ≡ most + before - (now + 1) → lost + before ≤ now + 1 → lost ≤ most → lost + more ≤ most
few_by most now before more lost e h l = omega (arith, e, h, l)

found_by : (most now before more rounds : ℕ) → more ≡ most + before - (now + 1) → rounds ≤ most + 1 → rounds + before ≤ now + 2 → rounds + more ≤ most + 1
found_by most now before more rounds e l h = omega (arith, e, h, l)

pub spare_is : (most now before more : ℕ) → more ≡ most + before - (now + 1) → Spare most now before more
spare_is most now before more e = record { few = λ lost h l. few_by most now before more lost e h l; found = λ rounds l h. found_by most now before more rounds e l h }

-- a task is paced
task_few : (c : Config) (t : Tally) (most now lost : ℕ) (task : Task) → Known c t most now task → task_paced t task lost → lost ≤ now + 1
task_few c t most now lost (Gets key) k p = let a = k.now_is in omega (arith, a, p)
task_few c t most now lost (Changes kept) k p = let a = k.now_is in omega (arith, a, p)
task_few c t most now lost (Holds key) k p = let a = k.now_is in omega (arith, a, p)
task_few c t most now lost (Enqueues kept) k p = let a = k.now_is in omega (arith, a, p)
task_few c t most now lost Dequeues k p = let a = k.now_is in omega (arith, a, p)

in_more : (most now before more rounds : ℕ) → Spare most now before more → InRound most rounds → rounds + before - 1 ≤ now + 1 → InRound most (rounds + more)
in_more most now before more rounds s i h =
    let a = i.told in record { told = omega (arith, a); few = s.found rounds i.few (omega (arith, a, h)) }

lost_more : (most now before more rounds : ℕ) → Spare most now before more → LostRound most rounds → rounds + before ≤ now + 1 → LostRound most (rounds + more)
lost_more most now before more rounds s i h = let a = i.told in record { told = omega (arith, a); few = s.few rounds h i.few }

tells_more : (most now before more rounds : ℕ) (told : Bool) → Spare most now before more → tells_fit most rounds told → lost_by (rounds + before) told ≤ now + 1 → tells_fit most (rounds + more) told
tells_more most now before more rounds true s i h = in_more most now before more rounds s i h
tells_more most now before more rounds false s i h = s.few rounds h i

known_tells : (c : Config) (t : Tally) (most now before more rounds : ℕ) (task : Task) (told : Bool) → Known c t most now task → Spare most now before more → tells_fit (rounds_most c task) rounds told → lost_by (rounds + before) told ≤ now + 1 → tells_fit (rounds_most c task) (rounds + more) told
known_tells c t most now before more rounds task told k s i h =
    subst (λ (n : ℕ). tells_fit n (rounds + more) told) (sym k.most_is) (tells_more most now before more rounds told s (subst (λ (n : ℕ). tells_fit n rounds told) k.most_is i) h)

opens_more : (c : Config) (t : Tally) (most now before more rounds : ℕ) (task : Task) (told : Bool) → Known c t most now task → Spare most now before more → opens_fit c rounds task told → lost_by (rounds + before) told ≤ now + 1 → opens_fit c (rounds + more) task told
opens_more c t most now before more rounds (Gets key) told k s i h = absurd (k.not_got key refl)
opens_more c t most now before more rounds (Changes kept) told k s i h = known_tells c t most now before more rounds (Changes kept) told k s i h
opens_more c t most now before more rounds (Holds key) told k s i h = absurd (k.not_held key refl)
opens_more c t most now before more rounds (Enqueues kept) told k s i h = known_tells c t most now before more rounds (Enqueues kept) told k s i h
opens_more c t most now before more rounds Dequeues told k s i h = known_tells c t most now before more rounds Dequeues told k s i h

known_in : (c : Config) (t : Tally) (most now before more rounds : ℕ) (task : Task) → Known c t most now task → Spare most now before more → InRound (rounds_most c task) rounds → rounds + before - 1 ≤ now + 1 → InRound (rounds_most c task) (rounds + more)
known_in c t most now before more rounds task k s i h = known_tells c t most now before more rounds task true k s i h

known_lost : (c : Config) (t : Tally) (most now before more rounds : ℕ) (task : Task) → Known c t most now task → Spare most now before more → LostRound (rounds_most c task) rounds → rounds + before ≤ now + 1 → LostRound (rounds_most c task) (rounds + more)
known_lost c t most now before more rounds task k s i h =
    subst (λ (n : ℕ). LostRound n (rounds + more)) (sym k.most_is) (lost_more most now before more rounds s (subst (λ (n : ℕ). LostRound n rounds) k.most_is i) h)

loses_more : (c : Config) (t : Tally) (most now before more rounds : ℕ) (task : Task) → Known c t most now task → Spare most now before more → lost_fit c rounds task → task_paced t task (rounds + before) → lost_fit c (rounds + more) task
loses_more c t most now before more rounds (Gets key) k s i p = absurd (k.not_got key refl)
loses_more c t most now before more rounds (Changes kept) k s i p = known_lost c t most now before more rounds (Changes kept) k s i (task_few c t most now (rounds + before) (Changes kept) k p)
loses_more c t most now before more rounds (Holds key) k s i p = i
loses_more c t most now before more rounds (Enqueues kept) k s i p = known_lost c t most now before more rounds (Enqueues kept) k s i (task_few c t most now (rounds + before) (Enqueues kept) k p)
loses_more c t most now before more rounds Dequeues k s i p = known_lost c t most now before more rounds Dequeues k s i (task_few c t most now (rounds + before) Dequeues k p)

next_more : (c : Config) (t : Tally) (most now before more rounds : ℕ) (task : Task) (next : Next) → Known c t most now task → Spare most now before more → next_fit c rounds task next → next_paced t task next (rounds + before) → next_fit c (rounds + more) task next
next_more c t most now before more rounds task Again k s i p = loses_more c t most now before more rounds task k s i p
next_more c t most now before more rounds task MakeRoom k s i p = loses_more c t most now before more rounds task k s i p
next_more c t most now before more rounds task (Answering answer) k s i p = tt
next_more c t most now before more rounds task (Retiring slot answer) k s i p = tt

finish_more : (c : Config) (t : Tally) (most now before more rounds : ℕ) (task : Task) (next : Next) → Known c t most now task → Spare most now before more → finish_fit c rounds task next → next_paced t task next (rounds + before) → finish_fit c (rounds + more) task next
finish_more c t most now before more rounds task Again k s i p = i
finish_more c t most now before more rounds task MakeRoom k s i p = loses_more c t most now before more rounds task k s i p
finish_more c t most now before more rounds task (Answering answer) k s i p = tt
finish_more c t most now before more rounds task (Retiring slot answer) k s i p = tt

later_more : (c : Config) (t : Tally) (most now before more rounds : ℕ) (later : AfterScan) → later_known (Known c t most now) later → Spare most now before more → later_fit c rounds later → later_paced t later (rounds + before) → later_fit c (rounds + more) later
later_more c t most now before more rounds (Answered answer) k s i p = tt
later_more c t most now before more rounds (Repeated task) k s i p = loses_more c t most now before more rounds task k s i p
later_more c t most now before more rounds Counted k s i p = tt

fills_more : (c : Config) (t : Tally) (most now before more rounds : ℕ) (task : Task) → Known c t most now task → Spare most now before more → fills_fit c rounds task → fills_paced t task (rounds + before - 1) → fills_fit c (rounds + more) task
fills_more c t most now before more rounds (Gets key) k s i p = i
fills_more c t most now before more rounds (Changes kept) k s i p = known_in c t most now before more rounds (Changes kept) k s i (let a = k.now_is in let b = p.lost_few in omega (arith, a, b))
fills_more c t most now before more rounds (Holds key) k s i p = i
fills_more c t most now before more rounds (Enqueues kept) k s i p = known_in c t most now before more rounds (Enqueues kept) k s i (let a = k.now_is in let b = p.lost_few in omega (arith, a, b))
fills_more c t most now before more rounds Dequeues k s i p = i

why_more : (c : Config) (t : Tally) (most now before more rounds : ℕ) (base : Base) (why : Why) → why_known (Known c t most now) why → Spare most now before more → why_fit c rounds base why → why_paced t (rounds + before) base why → why_fit c (rounds + more) base why
why_more c t most now before more rounds base (Opens task) k s i p =
    opens_more c t most now before more rounds task (is_told base) k s i (task_few c t most now (lost_by (rounds + before) (is_told base)) task k (open_task t task base (lost_by (rounds + before) (is_told base)) p))
why_more c t most now before more rounds base (FollowsHead head tail) k s i p =
    let q = p.0 in let a = k.now_is in let b = q.lost_few in known_in c t most now before more rounds Dequeues k s i (omega (arith, a, b))
why_more c t most now before more rounds base (Fills task) k s i p = fills_more c t most now before more rounds task k s i p
why_more c t most now before more rounds base (ClearsNext next) k s i p = next_more c t most now before more rounds Dequeues next k s i p
why_more c t most now before more rounds base (Clears task next) k s i p = next_more c t most now before more rounds task next k s i p
why_more c t most now before more rounds base (Finishes task next) k s i p = finish_more c t most now before more rounds task next k s i p
why_more c t most now before more rounds base (GivesUp answer) k s i p = tt
why_more c t most now before more rounds base (Retires answer) k s i p = tt
why_more c t most now before more rounds base (Tidies later) k s i p = later_more c t most now before more rounds later k s i p
why_more c t most now before more rounds base Advances k s i p = tt
why_more c t most now before more rounds base (Releases let_go) k s i p = absurd k

enqueue_few : (t : Tally) (kept : EnqueueKept) (at : EnqueueAt) (lost : ℕ) → is_last (Works (Enqueuing kept at)) ≡ false → enqueue_paced t kept at lost → lost ≤ task_most t (Enqueues kept)
enqueue_few t kept LoadNumber lost l p = p.lost_few
enqueue_few t kept LoadNext lost l p = p.lost_few
enqueue_few t kept (PassTail next) lost l p = p.lost_few
enqueue_few t kept (ExchangeNext slot) lost l p = p.lost_few
enqueue_few t kept (ExchangeTail slot) lost l p = absurd (cc)

dequeue_few : (t : Tally) (at : DequeueAt) (lost : ℕ) → dequeue_paced t at lost → lost ≤ task_most t Dequeues
dequeue_few t (LoadTail head) lost p = p.lost_few
dequeue_few t (SwingTail head next) lost p = p.lost_few
dequeue_few t (TakeNumber head next) lost p = p.lost_few
dequeue_few t (TakeValue head next number) lost p = p.lost_few
dequeue_few t (ExchangeHead head next number value) lost p = p.lost_few

work_more : (c : Config) (t : Tally) (most now before more rounds : ℕ) (work : Work) → is_last (Works work) ≡ false → work_known (Known c t most now) work → Spare most now before more → work_fit c rounds work → work_paced t work (rounds + before - 1) → work_fit c (rounds + more) work
work_more c t most now before more rounds (Getting key at) l k s i p = absurd (k.not_got key refl)
work_more c t most now before more rounds (Changing kept at) l k s i p = let a = k.now_is in let b = p.lost_few in known_in c t most now before more rounds (Changes kept) k s i (omega (arith, a, b))
work_more c t most now before more rounds (Enqueuing kept at) l k s i p = let a = k.now_is in let b = enqueue_few t kept at (rounds + before - 1) l p in known_in c t most now before more rounds (Enqueues kept) k s i (omega (arith, a, b))
work_more c t most now before more rounds (Dequeuing at) l k s i p = let a = k.now_is in let b = dequeue_few t at (rounds + before - 1) p in known_in c t most now before more rounds Dequeues k s i (omega (arith, a, b))
work_more c t most now before more rounds (Keeping at) l k s i p = absurd k

pub phase_more : (c : Config) (t : Tally) (most now before more rounds : ℕ) (phase : Phase) → is_last phase ≡ false → phase_known (Known c t most now) phase → Spare most now before more → phase_fit c rounds phase → phase_paced t (rounds + before) phase → phase_fit c (rounds + more) phase
phase_more c t most now before more rounds Idle l k s i p = tt
phase_more c t most now before more rounds (Runs why base) l k s i p = why_more c t most now before more rounds base why k s i p
phase_more c t most now before more rounds (Scans later at) l k s i p = later_more c t most now before more rounds later k s i p
phase_more c t most now before more rounds (Works work) l k s i p = work_more c t most now before more rounds work l k s i p

-- so many rounds are counted more of a phase
abbrev pub counted_more : Phase → ℕ → ℕ
counted_more phase more = if is_last phase then 0 else more

pub phase_counts : (c : Config) (t : Tally) (most now before more rounds : ℕ) (phase : Phase) → phase_known (Known c t most now) phase → Spare most now before more → phase_fit c rounds phase → phase_paced t (rounds + before) phase → phase_fit c (rounds + counted_more phase more) phase
phase_counts c t most now before more rounds phase k s i p = by (is_last phase) refl
  where
    by : (last : Bool) → is_last phase ≡ last → phase_fit c (rounds + (if last then 0 else more)) phase
    by true e = subst (λ (n : ℕ). phase_fit c n phase) (omega arith) i
    by false e = phase_more c t most now before more rounds phase e k s i p
