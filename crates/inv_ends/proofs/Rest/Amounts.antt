-- What rounds and lists are worth in steps.
use Rattle.std.proofs.Common.{ℕ, ◌≤◌, ◌+◌, ◌*◌, ◌-◌, Bool, true, false, arith, mul-le-mul_right}
use Rattle.std.proofs.lemmas.Bool.Decides.{nat_tests}
use Rattle.std.specs.Prelude.{Option, Some, None}
use Rattle.inv_rows.specs.words.declared.config.Config.{Config}
use Rattle.inv_rows.specs.model.Rest.{rounds_most, rounds_left, round_worth, walks_by, ending_most, has_walked, open_left, task_left, walks_left}
use Rattle.inv_rows.specs.model.Calls.{Task, Phase}
use Rattle.inv_rows.specs.model.Calls.Task.{Changes, Dequeues, Enqueues, Gets, Holds}
use Rattle.inv_rows.specs.model.Rounds.{taken_of}
use Rattle.inv_rows.specs.model.Calls.Phase.{Idle, Runs, Scans, Works}
use Rattle.inv_rows.specs.model.Desks.{Desk}
use Rattle.inv_rows.specs.Shapes.Slots.{BaseIn, PhaseIn, WhyIn, WorkIn}
use Rattle.inv_rows.specs.words.declared.layout.Layout.{Layout}

times_drop : (a r w : ℕ) → r ≤ a → (a + 1 - (r + 1)) * w + w ≤ (a + 1 - r) * w
times_drop a r w h = grind (arith, nat_tests)

-- a round more that is lost is worth one round
pub rounds_drop : (c : Config) (task : Task) (r : ℕ) → r ≤ rounds_most c task → rounds_left c task (r + 1) + round_worth c ≤ rounds_left c task r
rounds_drop c task r h = times_drop (rounds_most c task) r (round_worth c) h

pub walks_more : (c : Config) (lives more : ℕ) (walked : Bool) (taken : Option ℕ) → lives ≤ more → walks_by c lives walked taken ≤ walks_by c more walked taken
walks_more c lives more walked (Some slot) h = omega arith
walks_more c lives more true None h = omega arith
walks_more c lives more false None h = omega (arith, h)

pub walks_grow : (c : Config) (lives more : ℕ) (task : Task) → lives ≤ more → walks_left c lives task ≤ walks_left c more task
walks_grow c lives more task h = walks_more c lives more (has_walked task) (taken_of task) h

pub ending_grows : (c : Config) (lives more : ℕ) → lives ≤ more → ending_most c lives ≤ ending_most c more
ending_grows c lives more h = omega (arith, h)

-- a shorter list costs no more
pub task_grows : (c : Config) (lives more : ℕ) (task : Task) (lost : ℕ) → lives ≤ more → task_left c lives task lost ≤ task_left c more task lost
task_grows c lives more task lost h = let a = walks_grow c lives more task h in let b = ending_grows c lives more h in omega (arith, a, b)

-- the task goes on with one round less
pub task_drops : (c : Config) (lives more : ℕ) (task : Task) (r : ℕ) → lives ≤ more → r ≤ rounds_most c task → task_left c lives task (r + 1) + round_worth c ≤ task_left c more task r
task_drops c lives more task r h k = let a = walks_grow c lives more task h in let b = ending_grows c lives more h in let d = rounds_drop c task r k in omega (arith, a, b, d)

times_fall : (a r w : ℕ) → (a + 1 - (r + 1)) * w ≤ (a + 1 - r) * w
times_fall a r w = mul-le-mul_right w (omega arith)

-- a round more that is lost leaves no more
pub task_falls : (c : Config) (lives : ℕ) (task : Task) (r : ℕ) → task_left c lives task (r + 1) ≤ task_left c lives task r
task_falls c lives task r = let d : rounds_left c task (r + 1) ≤ rounds_left c task r = times_fall (rounds_most c task) r (round_worth c) in omega (arith, d)

-- what another round takes, with the clearing before it, is worth less than a round
pub opens_worth : (c : Config) (task : Task) → open_left c task + 3 ≤ round_worth c
opens_worth c (Gets key) = omega arith
opens_worth c (Changes kept) = omega arith
opens_worth c (Holds key) = omega arith
opens_worth c (Enqueues kept) = omega arith
opens_worth c Dequeues = omega arith

-- what is in range where a call goes on, beside its desk
abbrev pub PhaseKnown : Layout → Phase → Type 0
PhaseKnown layout Idle = Unit {0}
PhaseKnown layout (Runs why base) = WhyIn layout.config why × BaseIn layout base
PhaseKnown layout (Scans later at) = Unit {0}
PhaseKnown layout (Works work) = WorkIn layout.config work

pub known_of : (layout : Layout) (desk : Desk) (phase : Phase) → PhaseIn layout desk phase → PhaseKnown layout phase
known_of layout desk Idle h = tt
known_of layout desk (Runs why base) h = h
known_of layout desk (Scans later at) h = tt
known_of layout desk (Works work) h = h
