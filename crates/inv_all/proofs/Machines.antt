-- What machines and scans tell, by kind; and that a step tells at most one event of the map and of the queue, and no beginning
-- of a call.
use Rattle.std.proofs.Common.{ℕ, ◌≡◌, ◌-◌, ◌+◌, Bool, true, false, List, [], ◌∷◌, ◌++◌, refl}
use Rattle.std.specs.Prelude.{◌==◌, if◌then◌else◌}
use Rattle.inv_ends.specs.model.words.declared.config.SchemeKind.{SchemeKind}
use Rattle.inv_ends.specs.model.defs.declared.event.Event.{Event}
use Rattle.inv_ends.specs.model.defs.declared.event.Event.TheVariants as events
use Rattle.inv_ends.specs.model.defs.declared.event.Root.{Root}
use Rattle.inv_ends.specs.model.declared.post.Post.{Post}
use Rattle.inv_ends.specs.model.Change as alters
use Rattle.inv_ends.specs.model.Desks.{Desk}
use Rattle.inv_ends.specs.model.Enqueue as enqueues
use Rattle.inv_ends.specs.model.Locals.{told_by, told_end}
use Rattle.inv_ends.specs.model.Machine as machine
use Rattle.inv_ends.specs.model.Rounds.{scheme_of, clear_told, bucket_of}
use Rattle.inv_ends.specs.model.Scan as scan
use Rattle.inv_ends.specs.model.Guards.{guard_at}
use Rattle.inv_ends.specs.model.words.Schemes.{publishes_rows}
use Rattle.inv_ends.specs.model.defs.declared.event.Guard.{Guard}
use Rattle.inv_ends.specs.model.Steps as steps
use Rattle.inv_ends.specs.model.Phases.{Base}
use Rattle.inv_ends.specs.model.Calls.{ScanAt, ReadGuard, GiveBack, Phase, Idle, Runs, Scans, Works, CallOutcome, GoesOn, Answers}
use Rattle.inv_ends.proofs.model.Facts.{first_of, rest_of, if_implies}
use Rattle.inv_ends.proofs.history.Passes.{is_quiet, Closing, Any, First, phase_any, scan_told, step_closes}
use Rattle.inv_ends.proofs.history.AllOf.{all_of, of_along, of_weaker}
use Rattle.inv_ends.proofs.history.MayTell.{Tells, base_all, clear_all, step_all, work_all}
use Rattle.inv_ends.specs.model.World.{World, finds, offered, told_in}
use Rattle.inv_ends.specs.model.Posts.{counted}
use Rattle.inv_ends.specs.history.Record.{Past, begins}

-- an event of a machine or of a scan
abbrev pub is_machine : Event → Bool
is_machine (events.Era era) = true
is_machine (events.Reserve guard span) = true
is_machine (events.Read guard span) = true
is_machine (events.Hazard guard slot) = true
is_machine (events.Saw guard slot) = true
is_machine (events.Give slot birth) = true
is_machine (events.Unused slot) = true
is_machine (events.Retire slot birth retire) = true
is_machine (events.Back slot) = true
is_machine (events.Held index slot steps) = true
is_machine (events.Null index steps) = true
is_machine (events.Clear index slot) = true
is_machine event = false

pub tells_machine : (base : Base) (post : Post) (found : ℕ) (event : Event) → Tells base post found event → is_machine event ≡ true
tells_machine base post found (events.Begin call) h = absurd (cc)
tells_machine base post found (events.End steps answer) h = absurd (cc)
tells_machine base post found (events.Link root slot) h = absurd (cc)
tells_machine base post found (events.Cut slot) h = absurd (cc)
tells_machine base post found (events.Copied from index slot) h = absurd (cc)
tells_machine base post found (events.Put bucket version key value) h = absurd (cc)
tells_machine base post found (events.Removed bucket version key) h = absurd (cc)
tells_machine base post found (events.Got bucket version key value) h = absurd (cc)
tells_machine base post found (events.Queued number value) h = absurd (cc)
tells_machine base post found (events.Taken number value) h = absurd (cc)
tells_machine base post found (events.Left count) h = absurd (cc)
tells_machine base post found (events.Adopted place count) h = absurd (cc)
tells_machine base post found event h = refl

pub base_machine : (base : Base) (post : Post) (found : ℕ) → all_of is_machine (machine.after base post found).told ≡ true
base_machine base post found = base_all is_machine base post found (tells_machine base post found)

pub clear_machine : (scheme : SchemeKind) (post : Post) (index : ℕ) → all_of is_machine (clear_told scheme post index) ≡ true
clear_machine scheme post index = clear_all is_machine scheme post index (λ index slot. refl)

read_machine : (rows : Bool) (guard : Guard) (word : ℕ) → all_of is_machine (scan.reads_guard rows guard word ∷ []) ≡ true
read_machine false guard word = refl
read_machine true guard word = refl

pub scan_machine : (at : ScanAt) (post : Post) (found : ℕ) → all_of is_machine (scan_told at post found) ≡ true
scan_machine (ReadGuard number) post found = read_machine (publishes_rows post.layout.config.scheme) (guard_at post.layout.config number) found
scan_machine (GiveBack place slot) post found = refl

-- no step tells a beginning
abbrev pub is_within : Event → Bool
is_within (events.Begin call) = false
is_within event = true

machine_within : (event : Event) → is_machine event ≡ true → is_within event ≡ true
machine_within (events.Begin call) h = absurd (cc)
machine_within event h = refl

quiet_within : (event : Event) → is_quiet event ≡ true → is_within event ≡ true
quiet_within (events.Begin call) h = absurd (cc)
quiet_within event h = refl

abbrev Within : Post → List Event → Type 0
Within post told = all_of is_within told ≡ true

first_within : (phase : Phase) (post : Post) (found : ℕ) → First Within phase post found
first_within Idle post found = refl
first_within (Runs why base) post found = base_all is_within base post found (λ event h. machine_within event (tells_machine base post found event h))
first_within (Scans later at) post found = of_weaker is_machine is_within (scan_told at post found) machine_within (scan_machine at post found)
first_within (Works work) post found = work_all is_within (λ index slot. refl) (λ from index slot. refl) (λ seat index era. refl) (λ seat. refl) (λ seat index link. refl) work post

pub told_within : (phase : Phase) (post : Post) (desk : Desk) (found : ℕ) → all_of is_within (told_by (steps.phase_turn phase post desk found)) ≡ true
told_within phase post desk found = step_all is_within (record { quiet = quiet_within; clears = λ index slot. refl }) phase post desk found (first_within phase post found)

pub within_of : (w : World) (i : ℕ) → all_of is_within (told_in w i) ≡ true
within_of w i = told_within (w.seat i).phase (counted (w.seat i).post) (offered w i).desk (finds w i)

pub within_begins : (k i : ℕ) (p : Past) (event : Event) → is_within event ≡ true → begins k p i event ≡ false
within_begins k i p (events.Begin call) h = absurd (cc)
within_begins k i p event h = refl

-- an event that tells nothing of the map and of the queue
abbrev pub is_still : Event → Bool
is_still (events.Got bucket version key value) = false
is_still (events.Put bucket version key value) = false
is_still (events.Removed bucket version key) = false
is_still (events.Queued number value) = false
is_still (events.Taken number value) = false
is_still event = true

-- one other at most
abbrev pub one_loud : List Event → Bool
one_loud [] = true
one_loud (event ∷ told) = if is_still event then one_loud told else all_of is_still told

pub machine_still : (event : Event) → is_machine event ≡ true → is_still event ≡ true
machine_still (events.Got bucket version key value) h = absurd (cc)
machine_still (events.Put bucket version key value) h = absurd (cc)
machine_still (events.Removed bucket version key) h = absurd (cc)
machine_still (events.Queued number value) h = absurd (cc)
machine_still (events.Taken number value) h = absurd (cc)
machine_still event h = refl

still_by : (still : Bool) (a b : Bool) → still ≡ true → a ≡ true → (if still then a else b) ≡ true
still_by true a b h k = k
still_by false a b h k = absurd (cc)

either_by : (still : Bool) (a b : Bool) → a ≡ true → b ≡ true → (if still then a else b) ≡ true
either_by true a b h k = h
either_by false a b h k = k

still_loud : (told : List Event) → all_of is_still told ≡ true → one_loud told ≡ true
still_loud [] h = refl
still_loud (event ∷ told) h = still_by (is_still event) (one_loud told) (all_of is_still told) (first_of (is_still event) (all_of is_still told) h) (still_loud told (rest_of (is_still event) (all_of is_still told) h))

last_loud : (told : List Event) (event : Event) → all_of is_still told ≡ true → one_loud (told ++ event ∷ []) ≡ true
last_loud [] event h = either_by (is_still event) true true refl refl
last_loud (first ∷ told) event h = still_by (is_still first) (one_loud (told ++ event ∷ [])) (all_of is_still (told ++ event ∷ [])) (first_of (is_still first) (all_of is_still told) h) (last_loud told event (rest_of (is_still first) (all_of is_still told) h))

loud_along : (xs ys : List Event) → one_loud xs ≡ true → all_of is_still ys ≡ true → one_loud (xs ++ ys) ≡ true
loud_along [] ys h k = still_loud ys k
loud_along (x ∷ xs) ys h k = if_implies (is_still x) (one_loud xs) (all_of is_still xs) (one_loud (xs ++ ys)) (all_of is_still (xs ++ ys)) (λ f. loud_along xs ys f k) (λ f. of_along is_still xs ys f k) h

pub cut_still : (link : ℕ) → all_of is_still (alters.told_cut link) ≡ true
cut_still link = by (link == 0)
  where
    by : (b : Bool) → all_of is_still (if b then [] else events.Cut (link - 1) ∷ []) ≡ true
    by true = refl
    by false = refl

pub link_still : (root : Root) (slot : ℕ) (same : Bool) → all_of is_still (enqueues.told_link root slot same) ≡ true
link_still root slot true = refl
link_still root slot false = refl

pub end_still : (post : Post) (outcome : CallOutcome) → all_of is_still (told_end post outcome) ≡ true
end_still post (GoesOn phase) = refl
end_still post (Answers answer) = refl

abbrev Still : Post → List Event → Type 0
Still post told = all_of is_still told ≡ true

abbrev OneLoud : Post → List Event → Type 0
OneLoud post told = one_loud told ≡ true

loud_closing : Closing Still OneLoud Any
loud_closing = record {
  weak = λ post told h. still_loud told h;
  gets = λ post told key version value a h. last_loud told (events.Got (bucket_of post key) version key value) h;
  changes = λ post kept slot h. last_loud (alters.told_cut kept.link) (alters.told_change (alters.changed_bucket kept post) (kept.version + 1) kept.change) (cut_still kept.link);
  links = λ post root slot same h. still_loud (enqueues.told_link root slot same) (link_still root slot same);
  queues = λ post tail slot number value h. refl;
  takes = λ post head next number value h. refl;
  leaves = λ post count h. refl;
  adopts = λ post place count h. refl;
  clears = λ post told index h. loud_along told (clear_told (scheme_of post) post index) h (of_weaker is_machine is_still (clear_told (scheme_of post) post index) machine_still (clear_machine (scheme_of post) post index));
  ends = λ post told outcome h. loud_along told (told_end post outcome) h (end_still post outcome);
}

first_still : (phase : Phase) (post : Post) (found : ℕ) → First Still phase post found
first_still Idle post found = refl
first_still (Runs why base) post found = base_all is_still base post found (λ event h. machine_still event (tells_machine base post found event h))
first_still (Scans later at) post found = of_weaker is_machine is_still (scan_told at post found) machine_still (scan_machine at post found)
first_still (Works work) post found = work_all is_still (λ index slot. refl) (λ from index slot. refl) (λ seat index era. refl) (λ seat. refl) (λ seat index link. refl) work post

pub told_loud : (phase : Phase) (post : Post) (desk : Desk) (found : ℕ) → one_loud (told_by (steps.phase_turn phase post desk found)) ≡ true
told_loud phase post desk found = step_closes Still OneLoud Any loud_closing phase post desk found (phase_any phase post found) (first_still phase post found)
