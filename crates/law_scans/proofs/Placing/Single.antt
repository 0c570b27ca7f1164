-- A call retires one row at most: what it has retired and what it still has to are no more than its answer says.
use Rattle.std.proofs.Common.{ℕ, ◌≡◌, ◌+◌, Bool, true, false, List, [], ◌∷◌, Option, Some, None, refl, sym, ap, ◌∙◌, subst, arith}
use Rattle.std.specs.Prelude.{◌==◌, ◌&&◌, nat_lt, if◌then◌else◌}
use Rattle.law_reuse.specs.inv.model.defs.declared.call.Answer.{Answer}
use Rattle.law_reuse.specs.inv.model.defs.declared.call.Answer.TheVariants as answers
use Rattle.law_reuse.specs.inv.model.defs.declared.call.Call.{Call}
use Rattle.law_reuse.specs.inv.model.defs.declared.call.Call.TheVariants as calls
use Rattle.law_reuse.specs.inv.model.defs.declared.event.Event.{Event}
use Rattle.law_reuse.specs.inv.model.defs.declared.event.Event.TheVariants as events
use Rattle.law_reuse.specs.inv.model.declared.post.Post.{Post}
use Rattle.law_reuse.specs.inv.model.Calls.{Phase, Idle, Runs, Scans, Works, Why, Opens, FollowsHead, Fills, ClearsNext, Clears, Finishes, GivesUp, Retires, Tidies, Advances, Releases, Next, Again, MakeRoom, Answering, Retiring, AfterScan, Answered, Repeated, Counted, Getting, Changing, Enqueuing, Dequeuing, Keeping, KeepAt, MarkTaken, EnqueueKept, EnqueueAt, LoadNumber, LoadNext, PassTail, ExchangeNext, ExchangeTail}
use Rattle.law_reuse.proofs.inv.model.Facts.{first_of, rest_of, both}
use Rattle.law_reuse.specs.inv.rows.Rows.{RowMove}
use Rattle.law_reuse.specs.inv.rows.Rows.RowMove.{Stays, Claims, Bears, Drops, Links, Replaces, Appends, Pops, Reads, Seals, Lists, Returns, Adopts}
use Rattle.law_reuse.specs.inv.history.Record.{Past, Each}
use Rattle.law_reuse.specs.inv.history.Record.Past.{Start, Then}
use Rattle.law_reuse.proofs.inv.history.AllOf.{all_of, of_weaker}
use Rattle.law_reuse.proofs.laws.Along.{along}
use Rattle.law_reuse.proofs.laws.Tells.{AllRight, OfKind}
use Rattle.law_reuse.specs.laws.HistoryAnswers.{owes}
use Rattle.law_reuse.specs.laws.HistoryRows.{cuts_one, single_ok}
use Rattle.law_reuse.specs.laws.StateAt.{began_by, began_of, retires_by, retires_of, seen}
use Rattle.law_reuse.proofs.AnswersTold.Owed.{owed, next_owed, later_owed, why_owed, enqueue_owed, keep_owed}
use Rattle.law_scans.proofs.Placing.Marks.{is_marked}
use Rattle.law_scans.proofs.Placing.Moved.{said_by}
use Rattle.law_scans.proofs.Placing.Shapes.{Shape, is_change_of, is_passing}

-- the call that a seat began last, and how many rows it has retired
pub record Single : Type 0 where
  pub call : Option Call
  pub retires : ℕ

abbrev pub no_single : Single
no_single = record { call = None; retires = 0 }

abbrev pub single_by : Event → Single → Single
single_by event x = record { call = began_by event x.call; retires = retires_by event x.retires }

abbrev pub single_right : Event → Single → Bool
single_right (events.Retire slot birth retire) x = cuts_one x.call && x.retires == 0
single_right event x = true

single_entry : (i k : ℕ) (p : Past) (event : Event) (same : Bool) → (i == k) ≡ same → seen single_by no_single i p ≡ record { call = began_of i p; retires = retires_of i p } → seen single_by no_single i (Then p k event) ≡ record { call = began_of i (Then p k event); retires = retires_of i (Then p k event) }
single_entry i k p event true e h = rw e (ap (single_by event) h)
single_entry i k p event false e h = rw e h

pub single_seen : (i : ℕ) (p : Past) → seen single_by no_single i p ≡ record { call = began_of i p; retires = retires_of i p }
single_seen i Start = refl
single_seen i (Then p k event) = single_entry i k p event (i == k) refl (single_seen i p)

right_is : (p : Past) (i : ℕ) (event : Event) → single_right event (record { call = began_of i p; retires = retires_of i p }) ≡ single_ok p i event
right_is p i (events.Retire slot birth retire) = refl
right_is p i event = refl

pub single_each : (p : Past) → Each (λ q k event. single_right event (seen single_by no_single k q)) p → Each single_ok p
single_each Start h = tt
single_each (Then p i event) h = (sym (right_is p i event) ∙ ap (single_right event) (sym (single_seen i p)) ∙ h.0, single_each p h.1)

pub single_kind : OfKind single_by single_right is_marked
single_kind = record { still = still; right = right }
  where
    still : (event : Event) (x : Single) → is_marked event ≡ false → single_by event x ≡ x
    still (events.Begin call) x h = absurd (cc)
    still (events.Retire slot birth retire) x h = absurd (cc)
    still event x h = refl

    right : (event : Event) (x : Single) → is_marked event ≡ false → single_right event x ≡ true
    right (events.Retire slot birth retire) x h = absurd (cc)
    right event x h = refl

-- events that retire nothing are right
abbrev is_calm : Event → Bool
is_calm (events.Retire slot birth retire) = false
is_calm event = true

calm_right : (event : Event) (x : Single) → is_calm event ≡ true → single_right event x ≡ true
calm_right (events.Retire slot birth retire) x h = absurd (cc)
calm_right event x h = refl

all_calm : (told : List Event) (x : Single) → all_of is_calm told ≡ true → AllRight single_by single_right told x
all_calm [] x h = tt
all_calm (event ∷ told) x h = (calm_right event x (first_of (is_calm event) (all_of is_calm told) h), all_calm told (single_by event x) (rest_of (is_calm event) (all_of is_calm told) h))

passing_calm : (event : Event) → is_passing event ≡ true → is_calm event ≡ true
passing_calm (events.Retire slot birth retire) h = absurd (cc)
passing_calm event h = refl

change_calm : (bucket : ℕ) (event : Event) → is_change_of bucket event ≡ true → is_calm event ≡ true
change_calm bucket (events.Retire slot birth retire) h = absurd (cc)
change_calm bucket event h = refl

change_last : (bucket : ℕ) (event : Event) → is_change_of bucket event ≡ true → (is_calm event && true) ≡ true
change_last bucket event h = both (is_calm event) true (change_calm bucket event h) refl

-- what a call has told, and with it the rows that it retires
none_said : (retires : ℕ) → retires + 1 ≡ 0 → ⊥
none_said retires h = omega (arith, h)

some_said : (retires : ℕ) (later : Bool) → retires + 1 ≡ (if later then 0 + 1 else 0) → retires ≡ 0
some_said retires true h = omega (arith, h)
some_said retires false h = absurd (none_said retires h)

-- the call is one that cuts a row, and has retired none yet
abbrev pub RetiresFirst : Call → ℕ → Type 0
RetiresFirst call retires = (cuts_one (Some call) ≡ true) × (retires ≡ 0)

get_first : (n key : ℕ) (answer : Answer) (retires : ℕ) → retires + 1 ≡ along said_by (owes n (calls.Get key) answer) 0 → RetiresFirst (calls.Get key) retires
get_first n key (answers.Got version value) retires h = absurd (none_said retires h)
get_first n key answer retires h = absurd (none_said retires h)

put_first : (n key value : ℕ) (answer : Answer) (retires : ℕ) → retires + 1 ≡ along said_by (owes n (calls.Put key value) answer) 0 → RetiresFirst (calls.Put key value) retires
put_first n key value (answers.Done version clock) retires h = (refl, some_said retires (nat_lt 1 version) h)
put_first n key value answer retires h = absurd (none_said retires h)

remove_first : (n key : ℕ) (answer : Answer) (retires : ℕ) → retires + 1 ≡ along said_by (owes n (calls.Remove key) answer) 0 → RetiresFirst (calls.Remove key) retires
remove_first n key (answers.Done version clock) retires h = (refl, some_said retires (nat_lt 1 version) h)
remove_first n key answer retires h = absurd (none_said retires h)

queue_first : (n value : ℕ) (answer : Answer) (retires : ℕ) → retires + 1 ≡ along said_by (owes n (calls.Enqueue value) answer) 0 → RetiresFirst (calls.Enqueue value) retires
queue_first n value (answers.Queued number) retires h = absurd (none_said retires h)
queue_first n value answer retires h = absurd (none_said retires h)

take_first : (n : ℕ) (answer : Answer) (retires : ℕ) → retires + 1 ≡ along said_by (owes n calls.Dequeue answer) 0 → RetiresFirst calls.Dequeue retires
take_first n (answers.Taken number value clock) retires h = (refl, some_said retires true h)
take_first n answer retires h = absurd (none_said retires h)

copy_first : (n from index : ℕ) (answer : Answer) (retires : ℕ) → retires + 1 ≡ along said_by (owes n (calls.Copy from index) answer) 0 → RetiresFirst (calls.Copy from index) retires
copy_first n from index (answers.Copied slot) retires h = absurd (none_said retires h)
copy_first n from index answer retires h = absurd (none_said retires h)

leave_first : (n : ℕ) (answer : Answer) (retires : ℕ) → retires + 1 ≡ along said_by (owes n calls.Leave answer) 0 → RetiresFirst calls.Leave retires
leave_first n (answers.Left count) retires h = absurd (none_said retires h)
leave_first n answer retires h = absurd (none_said retires h)

adopt_first : (n place : ℕ) (answer : Answer) (retires : ℕ) → retires + 1 ≡ along said_by (owes n (calls.Adopt place) answer) 0 → RetiresFirst (calls.Adopt place) retires
adopt_first n place (answers.Adopted count) retires h = absurd (none_said retires h)
adopt_first n place answer retires h = absurd (none_said retires h)

put_if_first : (n key value wanted : ℕ) (answer : Answer) (retires : ℕ) → retires + 1 ≡ along said_by (owes n (calls.PutIf key value wanted) answer) 0 → RetiresFirst (calls.PutIf key value wanted) retires
put_if_first n key value wanted (answers.Done version clock) retires h = (refl, some_said retires (nat_lt 1 version) h)
put_if_first n key value wanted answer retires h = absurd (none_said retires h)

owes_first : (n : ℕ) (call : Call) (answer : Answer) (retires : ℕ) → retires + 1 ≡ along said_by (owes n call answer) 0 → RetiresFirst call retires
owes_first n (calls.Get key) answer retires h = get_first n key answer retires h
owes_first n (calls.Put key value) answer retires h = put_first n key value answer retires h
owes_first n (calls.Remove key) answer retires h = remove_first n key answer retires h
owes_first n (calls.Enqueue value) answer retires h = queue_first n value answer retires h
owes_first n calls.Dequeue answer retires h = take_first n answer retires h
owes_first n (calls.Hold key) answer retires h = absurd (none_said retires h)
owes_first n calls.Release answer retires h = absurd (none_said retires h)
owes_first n calls.Advance answer retires h = absurd (none_said retires h)
owes_first n calls.Scan answer retires h = absurd (none_said retires h)
owes_first n (calls.Copy from index) answer retires h = copy_first n from index answer retires h
owes_first n (calls.DropIndex index) answer retires h = absurd (none_said retires h)
owes_first n (calls.Look index key) answer retires h = absurd (none_said retires h)
owes_first n calls.Leave answer retires h = leave_first n answer retires h
owes_first n (calls.Adopt place) answer retires h = adopt_first n place answer retires h
owes_first n (calls.PutIf key value wanted) answer retires h = put_if_first n key value wanted answer retires h

next_first : (n : ℕ) (call : Call) (next : Next) (retires : ℕ) → retires + 1 ≡ along said_by (next_owed n call next) 0 → RetiresFirst call retires
next_first n call Again retires h = absurd (none_said retires h)
next_first n call MakeRoom retires h = absurd (none_said retires h)
next_first n call (Answering answer) retires h = owes_first n call answer retires h
next_first n call (Retiring slot answer) retires h = owes_first n call answer retires h

later_first : (n : ℕ) (call : Call) (later : AfterScan) (retires : ℕ) → retires + 1 ≡ along said_by (later_owed n call later) 0 → RetiresFirst call retires
later_first n call (Answered answer) retires h = owes_first n call answer retires h
later_first n call (Repeated task) retires h = absurd (none_said retires h)
later_first n call Counted retires h = absurd (none_said retires h)

why_first : (n : ℕ) (call : Call) (why : Why) (retires : ℕ) → retires + 1 ≡ along said_by (why_owed n call why) 0 → RetiresFirst call retires
why_first n call (Opens task) retires h = absurd (none_said retires h)
why_first n call (FollowsHead head tail) retires h = absurd (none_said retires h)
why_first n call (Fills task) retires h = absurd (none_said retires h)
why_first n call (ClearsNext next) retires h = next_first n call next retires h
why_first n call (Clears task next) retires h = next_first n call next retires h
why_first n call (Finishes task next) retires h = next_first n call next retires h
why_first n call (GivesUp answer) retires h = owes_first n call answer retires h
why_first n call (Retires answer) retires h = owes_first n call answer retires h
why_first n call (Tidies later) retires h = later_first n call later retires h
why_first n call Advances retires h = absurd (none_said retires h)
why_first n call (Releases let_go) retires h = absurd (none_said retires h)

enqueue_first : (n : ℕ) (call : Call) (kept : EnqueueKept) (at : EnqueueAt) (retires : ℕ) → retires + 1 ≡ along said_by (enqueue_owed n call kept at) 0 → RetiresFirst call retires
enqueue_first n call kept LoadNumber retires h = absurd (none_said retires h)
enqueue_first n call kept LoadNext retires h = absurd (none_said retires h)
enqueue_first n call kept (PassTail next) retires h = absurd (none_said retires h)
enqueue_first n call kept (ExchangeNext slot) retires h = absurd (none_said retires h)
enqueue_first n call kept (ExchangeTail slot) retires h = owes_first n call (answers.Queued (kept.number + 1)) retires h

keep_first : (n : ℕ) (call : Call) (at : KeepAt) (retires : ℕ) → retires + 1 ≡ along said_by (keep_owed n call at) 0 → RetiresFirst call retires
keep_first n call (MarkTaken place count) retires h = owes_first n call (answers.Adopted count) retires h
keep_first n call at retires h = absurd (none_said retires h)

pub phase_first : (n : ℕ) (call : Call) (phase : Phase) (retires : ℕ) → retires + 1 ≡ along said_by (owed n call phase) 0 → RetiresFirst call retires
phase_first n call Idle retires h = absurd (none_said retires h)
phase_first n call (Runs why base) retires h = why_first n call why retires h
phase_first n call (Scans later at) retires h = later_first n call later retires h
phase_first n call (Works (Getting key at)) retires h = absurd (none_said retires h)
phase_first n call (Works (Changing kept at)) retires h = absurd (none_said retires h)
phase_first n call (Works (Enqueuing kept at)) retires h = enqueue_first n call kept at retires h
phase_first n call (Works (Dequeuing at)) retires h = absurd (none_said retires h)
phase_first n call (Works (Keeping at)) retires h = keep_first n call at retires h

-- what a move of rows tells is right, where the one that retires is the call's first
abbrev pub OnlyFirst : RowMove → Single → Type 0
OnlyFirst (Lists slot birth retire) x = (cuts_one x.call && x.retires == 0) ≡ true
OnlyFirst m x = Unit {0}

pub single_moved : (phase : Phase) (post : Post) (found : ℕ) (m : RowMove) (told : List Event) (x : Single) → Shape phase post found m told → OnlyFirst m x → AllRight single_by single_right told x
single_moved phase post found Stays told x s f = all_calm told x (of_weaker is_passing is_calm told passing_calm s)
single_moved phase post found (Claims slot) told x s f = all_calm told x (subst (λ (es : List Event). all_of is_calm es ≡ true) (sym s.is) refl)
single_moved phase post found (Bears slot birth) told x s f = all_calm told x (subst (λ (es : List Event). all_of is_calm es ≡ true) (sym s) refl)
single_moved phase post found (Drops slot) told x s f = all_calm told x (subst (λ (es : List Event). all_of is_calm es ≡ true) (sym s.is) refl)
single_moved phase post found (Links bucket slot) told x s f = all_calm told x (subst (λ (es : List Event). all_of is_calm es ≡ true) (sym s.is) (change_last bucket s.change s.of))
single_moved phase post found (Replaces bucket slot old) told x s f = all_calm told x (subst (λ (es : List Event). all_of is_calm es ≡ true) (sym s.is) (change_last bucket s.change s.of))
single_moved phase post found (Appends slot) told x s f = all_calm told x (subst (λ (es : List Event). all_of is_calm es ≡ true) (sym s.is) refl)
single_moved phase post found (Pops slot next) told x s f = all_calm told x (subst (λ (es : List Event). all_of is_calm es ≡ true) (sym s.is) refl)
single_moved phase post found (Reads slot birth) told x s f = all_calm told x (subst (λ (es : List Event). all_of is_calm es ≡ true) (sym s) refl)
single_moved phase post found (Seals slot birth retire) told x s f = all_calm told x (subst (λ (es : List Event). all_of is_calm es ≡ true) (sym s) refl)
single_moved phase post found (Lists slot birth retire) told x s f = subst (λ (es : List Event). AllRight single_by single_right es x) (sym s) (f, tt)
single_moved phase post found (Returns slot) told x s f = all_calm told x (subst (λ (es : List Event). all_of is_calm es ≡ true) (sym s) refl)
single_moved phase post found (Adopts from) told x s f = all_calm told x (subst (λ (es : List Event). all_of is_calm es ≡ true) (sym s) refl)
