-- Wrong records, each of which the sentence beside it refuses, and the law of steps does not; and what stands just at the bound, which it
-- takes. No history tells one of the wrong ones.
use Rattle.std.specs.Prelude.{List, None, [], suc, true, zero, ℕ, ◌*◌, ◌+◌, ◌∷◌, ◌≡◌}
use Rattle.law_held.specs.inv.history.Record.{Past, tells_of}
use Rattle.law_held.specs.inv.history.Record.Past.{Start}
use Rattle.law_held.specs.inv.history.Turns.{CountsTurns, History}
use Rattle.law_held.specs.inv.history.Turns.History.{Blank, Starts, Turns}
use Rattle.law_held.specs.inv.model.defs.declared.call.Answer.{Answer}
use Rattle.law_held.specs.inv.model.defs.declared.call.Answer.TheVariants as answers
use Rattle.law_held.specs.inv.model.defs.declared.call.Call.{Call}
use Rattle.law_held.specs.inv.model.defs.declared.call.Call.TheVariants as calls
use Rattle.law_held.specs.inv.model.defs.declared.call.ClockMove.TheVariants as moves
use Rattle.law_held.specs.inv.model.defs.declared.event.Event.{Event}
use Rattle.law_held.specs.inv.model.defs.declared.event.Event.TheVariants as events
use Rattle.law_held.specs.inv.model.defs.declared.event.Root.TheVariants as roots
use Rattle.law_held.specs.inv.model.words.declared.config.Config.{Config}
use Rattle.law_held.specs.inv.model.words.declared.config.SchemeKind.{SchemeKind}
use Rattle.law_held.specs.inv.model.words.declared.config.SchemeKind.TheVariants.{He, Hp, Ibr}
use Rattle.law_held.specs.laws.StepLaw.{end_ok}
use Rattle.law_bounds.specs.Changes.{changes_ok}
use Rattle.law_bounds.specs.Free.{FewIdle, free_most}
use Rattle.law_bounds.specs.Gets.{reads_ok}
use Rattle.law_bounds.specs.Leaves.{leaves_ok}
use Rattle.law_bounds.specs.Tails.{KeepsUp}

-- two seats of three indexes, two buckets and two slots
abbrev pub small : SchemeKind → Config
small scheme = record { scheme = scheme; seats = 2; indexes = 3; slots = 2; buckets = 2; tries = 1; every = 2; last_era = 9; last_version = 9; pairs = 6 }

-- seat 0 begins a call; meanwhile seat 1 tells this in another
abbrev pub meanwhile : Call → (others : Call) → List Event → Past
meanwhile call others told = tells_of (tells_of Start 0 (events.Begin call ∷ [])) 1 (events.Begin others ∷ told)

-- the call ends with so many steps
abbrev pub ended : Past → (steps : ℕ) → Answer → Past
ended p steps answer = tells_of p 0 (events.End steps answer ∷ [])

abbrev pub nothing_moved : Call → Past
nothing_moved call = meanwhile call calls.Scan []

abbrev pub clock_moved : Call → Past
clock_moved call = meanwhile call calls.Advance (events.Era 2 ∷ [])

-- a bucket is changed
abbrev pub bucket_changed : Call → (bucket : ℕ) → Past
bucket_changed call bucket = meanwhile call (calls.Put bucket 7) (events.Link (roots.Bucket bucket) 1 ∷ events.Put bucket 1 bucket 7 ∷ [])

-- a value is queued
abbrev pub value_queued : Call → Past
value_queued call = meanwhile call (calls.Enqueue 7) (events.Link (roots.Next 2) 1 ∷ events.Queued 1 7 ∷ [])

-- a row is let go in the call
abbrev pub let_go : Call → Past
let_go call = tells_of (nothing_moved call) 0 (events.Clear 2 1 ∷ [])

-- the sentence refuses this number of steps, and takes one less; the law of steps takes both
pub record Refuses (ok law : Past → ℕ → Event → Type 0) (p : Past) (steps : ℕ) (answer : Answer) : Type 0 where
  pub refused : ok p 0 (events.End (steps + 1) answer) → ⊥
  pub taken : ok p 0 (events.End steps answer)
  pub lawful : law p 0 (events.End (steps + 1) answer)

-- the tests
abbrev pub reads_by : SchemeKind → Past → ℕ → Event → Type 0
reads_by scheme p i event = reads_ok (small scheme) p i event ≡ true

abbrev pub changes_by : SchemeKind → Past → ℕ → Event → Type 0
changes_by scheme p i event = changes_ok (small scheme) p i event ≡ true

abbrev pub leaves_by : SchemeKind → Past → ℕ → Event → Type 0
leaves_by scheme p i event = leaves_ok (small scheme) p i event ≡ true

abbrev pub steps_by : SchemeKind → Past → ℕ → Event → Type 0
steps_by scheme p i event = end_ok (small scheme) p i event ≡ true

abbrev pub found_none : Answer
found_none = answers.Got 0 None

abbrev pub was_done : Answer
was_done = answers.Done 1 moves.Still

-- Gets and holds.
pub record ReadsRefused : Type 0 where
  -- nothing is moved
  pub get : Refuses (reads_by He) (steps_by He) (nothing_moved (calls.Get 0)) 15 found_none
  pub get_within : Refuses (reads_by Ibr) (steps_by Ibr) (nothing_moved (calls.Get 0)) 15 found_none
  pub get_hazard : Refuses (reads_by Hp) (steps_by Hp) (nothing_moved (calls.Get 0)) 14 found_none
  pub hold : Refuses (reads_by He) (steps_by He) (nothing_moved (calls.Hold 0)) 7 answers.Nothing
  pub hold_hazard : Refuses (reads_by Hp) (steps_by Hp) (nothing_moved (calls.Hold 0)) 6 answers.Nothing
  -- the clock is moved once, which costs three steps, but under hazard pointers none
  pub moved : Refuses (reads_by He) (steps_by He) (clock_moved (calls.Get 0)) 18 found_none
  pub moved_hazard : Refuses (reads_by Hp) (steps_by Hp) (clock_moved (calls.Get 0)) 14 found_none
  -- its bucket's root is changed once, which costs two there, and else none
  pub changed : Refuses (reads_by He) (steps_by He) (bucket_changed (calls.Get 0) 0) 15 found_none
  pub changed_hazard : Refuses (reads_by Hp) (steps_by Hp) (bucket_changed (calls.Get 0) 0) 16 found_none
  -- another bucket's costs none
  pub other_hazard : Refuses (reads_by Hp) (steps_by Hp) (bucket_changed (calls.Get 0) 1) 14 found_none

-- Puts, removes, enqueues and dequeues: two rounds of 78, and 147 steps that come once.
pub record ChangesRefused : Type 0 where
  -- nothing is moved
  pub put : Refuses (changes_by He) (steps_by He) (nothing_moved (calls.Put 0 7)) 303 was_done
  pub put_hazard : Refuses (changes_by Hp) (steps_by Hp) (nothing_moved (calls.Put 0 7)) 303 was_done
  -- the clock is moved once, which costs three steps
  pub moved : Refuses (changes_by He) (steps_by He) (clock_moved (calls.Put 0 7)) 306 was_done
  -- its bucket is changed once, which costs a round
  pub changed : Refuses (changes_by He) (steps_by He) (bucket_changed (calls.Put 0 7) 0) 381 was_done
  pub removed : Refuses (changes_by He) (steps_by He) (bucket_changed (calls.Remove 0) 0) 381 was_done
  -- another bucket's costs none, nor does the queue's
  pub other : Refuses (changes_by He) (steps_by He) (bucket_changed (calls.Put 0 7) 1) 303 was_done
  pub queue : Refuses (changes_by He) (steps_by He) (value_queued (calls.Put 0 7)) 303 was_done
  -- a value is queued, which costs an enqueue a round, and a dequeue none
  pub queued : Refuses (changes_by He) (steps_by He) (value_queued (calls.Enqueue 7)) 381 (answers.Queued 2)
  pub taken : Refuses (changes_by He) (steps_by He) (value_queued calls.Dequeue) 303 answers.Empty

-- Leaves.
pub record LeavesRefused : Type 0 where
  -- nothing stood
  pub none : Refuses (leaves_by He) (steps_by He) (nothing_moved calls.Leave) 1 (answers.Left 0)
  pub none_hazard : Refuses (leaves_by Hp) (steps_by Hp) (nothing_moved calls.Leave) 1 (answers.Left 0)
  -- a row did, which costs one step
  pub row : Refuses (leaves_by He) (steps_by He) (let_go calls.Leave) 2 (answers.Left 0)
  -- under 2GE one step lets go of all
  pub within : Refuses (leaves_by Ibr) (steps_by Ibr) (let_go calls.Leave) 2 (answers.Left 0)

-- The tail is two values behind: seat 0 queues one behind the row of seat 1, to which it has not gone on. Nor does it go on where none was
-- queued.
pub record TailsRefused : Type 0 where
  pub two_behind : KeepsUp (tells_of (value_queued (calls.Enqueue 8)) 0 (events.Link (roots.Next 1) 0 ∷ events.Queued 2 8 ∷ [])) → ⊥
  pub ahead : KeepsUp (meanwhile calls.Dequeue calls.Scan (events.Link roots.Tail 1 ∷ [])) → ⊥
  pub taken : KeepsUp (value_queued (calls.Enqueue 8))

-- Wrong histories: seat 0 begins a call, and takes so many turns that tell this.
abbrev pub goes_round : Call → List Event → (turns : ℕ) → History
goes_round call told zero = Starts Blank 0 call
goes_round call told (suc n) = Turns (goes_round call told n) 0 told

-- one turn too many is refused, which no count of turns forbids
pub record IdleRefused (told : List Event) : Type 0 where
  pub refused : (config : Config) (call : Call) → FewIdle config (goes_round call told (config.seats * free_most config + 1)) → ⊥
  pub taken : (config : Config) (call : Call) → FewIdle config (goes_round call told (config.seats * free_most config))
  pub counted : (call : Call) (turns : ℕ) → CountsTurns (goes_round call told turns)

pub record WrongRefused : Type 0 where
  pub reads : ReadsRefused
  pub changes : ChangesRefused
  pub leaves : LeavesRefused
  pub tails : TailsRefused
  -- it tells nothing
  pub idle : IdleRefused []
  -- it moves the tail for ever, and nothing else
  pub swings : IdleRefused (events.Link roots.Tail 1 ∷ [])
