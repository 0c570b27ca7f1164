-- What a call has told of the map, of the queue, of copies and of lists where it stands, and the answers that suit it.
use Rattle.std.proofs.Common.{ℕ, ◌≡◌, ◌+◌, Bool, true, false, List, [], ◌∷◌, ◌++◌, Option, Some, None, refl, ap, ◌∙◌}
use Rattle.std.specs.Prelude.{if◌then◌else◌, is_none}
use Rattle.inv_all.specs.model.defs.declared.call.Answer.{Answer}
use Rattle.inv_all.specs.model.defs.declared.call.Answer.TheVariants as the_answers
use Rattle.inv_all.specs.model.defs.declared.call.Call.{Call}
use Rattle.inv_all.specs.model.defs.declared.call.Call.TheVariants as names
use Rattle.inv_all.specs.model.defs.declared.call.ClockMove.{ClockMove}
use Rattle.inv_all.specs.model.defs.declared.event.Event.{Event}
use Rattle.inv_all.specs.model.defs.declared.event.Event.TheVariants as events
use Rattle.inv_all.specs.model.defs.declared.fold.Change.{Change}
use Rattle.inv_all.specs.model.defs.declared.fold.Change.TheVariants as changes
use Rattle.inv_all.specs.model.Rounds.{with_clock}
use Rattle.inv_all.specs.model.Phases.{Ending, Outcome, Goes, Ends}
use Rattle.inv_all.specs.model.Phases.Ending.{Clocked}
use Rattle.inv_all.specs.model.Calls.{Task, Gets, Changes, Holds, Enqueues, Dequeues, Next, Again, MakeRoom, Answering, Retiring, AfterScan, Answered, Repeated, Counted, EnqueueKept, EnqueueAt, LoadNumber, LoadNext, PassTail, ExchangeNext, ExchangeTail, Work, Getting, Changing, Enqueuing, Dequeuing, Keeping, KeepAt, Loosens, LoadHeld, StoreHeld, Looks, Misses, HideSpan, MarkLeft, TakeList, MarkTaken, LetGo, Released, Rehold, Dropped, Parting, Why, Opens, FollowsHead, Fills, ClearsNext, Clears, Finishes, GivesUp, Retires, Tidies, Advances, Releases, Phase, Idle, Runs, Scans, Works, CallTurn, CallOutcome, GoesOn, Answers}
use Rattle.inv_all.proofs.model.Facts.{first_of, rest_of}
use Rattle.laws.specs.AnswerLaw.{suits}
use Rattle.laws.specs.HistoryAnswers.{owes}
use Rattle.inv_all.proofs.history.AllOf.{all_of, of_along, of_weaker}
use Rattle.inv_all.proofs.Machines.{is_machine, is_still, machine_still}

-- an event that tells nothing of the map, of the queue and of lists, and no copy
abbrev pub is_mute : Event → Bool
is_mute (events.Copied from index slot) = false
is_mute (events.Left count) = false
is_mute (events.Adopted place count) = false
is_mute event = is_still event

pub machine_mute : (event : Event) → is_machine event ≡ true → is_mute event ≡ true
machine_mute (events.Copied from index slot) h = absurd (cc)
machine_mute (events.Left count) h = absurd (cc)
machine_mute (events.Adopted place count) h = absurd (cc)
machine_mute event h = machine_still event h

-- the others
abbrev pub loud_one : Event → List Event → List Event
loud_one event told = if is_mute event then told else event ∷ told

abbrev pub loud : List Event → List Event
loud [] = []
loud (event ∷ told) = loud_one event (loud told)

one_along : (still : Bool) (event : Event) (xs ys : List Event) → (if still then xs ++ ys else event ∷ (xs ++ ys)) ≡ (if still then xs else event ∷ xs) ++ ys
one_along true event xs ys = refl
one_along false event xs ys = refl

pub loud_along : (xs ys : List Event) → loud (xs ++ ys) ≡ loud xs ++ loud ys
loud_along [] ys = refl
loud_along (x ∷ xs) ys = ap (λ (told : List Event). loud_one x told) (loud_along xs ys) ∙ one_along (is_mute x) x (loud xs) (loud ys)

none_by : (still : Bool) (event : Event) (told : List Event) → still ≡ true → told ≡ [] → (if still then told else event ∷ told) ≡ []
none_by true event told h k = k
none_by false event told h k = absurd (cc)

pub loud_mute : (told : List Event) → all_of is_mute told ≡ true → loud told ≡ []
loud_mute [] h = refl
loud_mute (event ∷ told) h = none_by (is_mute event) event (loud told) (first_of (is_mute event) (all_of is_mute told) h) (loud_mute told (rest_of (is_mute event) (all_of is_mute told) h))

-- an event that is no end
abbrev pub is_open : Event → Bool
is_open (events.End steps answer) = false
is_open event = true

pub machine_open : (event : Event) → is_machine event ≡ true → is_open event ≡ true
machine_open (events.End steps answer) h = absurd (cc)
machine_open event h = refl

-- the call of a change, which may be made at one version alone
abbrev pub call_for : Change → Option ℕ → Call
call_for (changes.Put key value) None = names.Put key value
call_for (changes.Put key value) (Some version) = names.PutIf key value version
call_for (changes.Removed key) wanted = names.Remove key

-- only a put names a version
abbrev pub may_want : Change → Option ℕ → Bool
may_want (changes.Put key value) wanted = true
may_want (changes.Removed key) wanted = is_none wanted

pub record ChangeServes (call : Call) (change : Change) (wanted : Option ℕ) : Type 0 where
  pub is : call ≡ call_for change wanted
  pub may : may_want change wanted ≡ true

abbrev pub TaskServes : Call → Task → Type 0
TaskServes call (Gets key) = call ≡ names.Get key
TaskServes call (Changes kept) = ChangeServes call kept.change kept.wanted
TaskServes call (Holds key) = call ≡ names.Hold key
TaskServes call (Enqueues kept) = call ≡ names.Enqueue kept.value
TaskServes call Dequeues = call ≡ names.Dequeue

abbrev pub NextServes : Call → Next → Type 0
NextServes call Again = Unit {0}
NextServes call MakeRoom = Unit {0}
NextServes call (Answering answer) = suits call answer ≡ true
NextServes call (Retiring slot answer) = suits call answer ≡ true

abbrev pub LaterServes : Call → AfterScan → Type 0
LaterServes call (Answered answer) = suits call answer ≡ true
LaterServes call (Repeated task) = TaskServes call task
LaterServes call Counted = call ≡ names.Scan

abbrev pub FreeServes : Call → LetGo → Type 0
FreeServes call Released = call ≡ names.Release
FreeServes call (Rehold key) = call ≡ names.Hold key
FreeServes call (Dropped index) = call ≡ names.DropIndex index
FreeServes call (Parting index) = call ≡ names.Leave

abbrev pub WhyServes : Call → Why → Type 0
WhyServes call (Opens task) = TaskServes call task
WhyServes call (FollowsHead head tail) = call ≡ names.Dequeue
WhyServes call (Fills task) = TaskServes call task
WhyServes call (ClearsNext next) = (call ≡ names.Dequeue) × NextServes call next
WhyServes call (Clears task next) = TaskServes call task × NextServes call next
WhyServes call (Finishes task next) = TaskServes call task × NextServes call next
WhyServes call (GivesUp answer) = suits call answer ≡ true
WhyServes call (Retires answer) = suits call answer ≡ true
WhyServes call (Tidies later) = LaterServes call later
WhyServes call Advances = call ≡ names.Advance
WhyServes call (Releases let_go) = FreeServes call let_go

-- a copy or a look of what stands at the index
abbrev pub MissServes : Call → (index : ℕ) → Type 0
MissServes (names.Copy from other) index = from ≡ index
MissServes (names.Look own key) index = own ≡ index
MissServes call index = ⊥

abbrev pub KeepServes : Call → KeepAt → Type 0
KeepServes call (Loosens let_go) = FreeServes call let_go
KeepServes call (LoadHeld from index) = call ≡ names.Copy from index
KeepServes call (StoreHeld from index era) = call ≡ names.Copy from index
KeepServes call (Looks index key at) = call ≡ names.Look index key
KeepServes call (Misses index) = MissServes call index
KeepServes call HideSpan = call ≡ names.Leave
KeepServes call MarkLeft = call ≡ names.Leave
KeepServes call (TakeList place) = call ≡ names.Adopt place
KeepServes call (MarkTaken place count) = call ≡ names.Adopt place

abbrev pub WorkServes : Call → Work → Type 0
WorkServes call (Getting key at) = call ≡ names.Get key
WorkServes call (Changing kept at) = ChangeServes call kept.change kept.wanted
WorkServes call (Enqueuing kept at) = call ≡ names.Enqueue kept.value
WorkServes call (Dequeuing at) = call ≡ names.Dequeue
WorkServes call (Keeping at) = KeepServes call at

abbrev pub Serves : Call → Phase → Type 0
Serves call Idle = ⊥
Serves call (Runs why base) = WhyServes call why
Serves call (Scans later at) = LaterServes call later
Serves call (Works work) = WorkServes call work

-- what was told
abbrev pub next_owed : ℕ → Call → Next → List Event
next_owed n call Again = []
next_owed n call MakeRoom = []
next_owed n call (Answering answer) = owes n call answer
next_owed n call (Retiring slot answer) = owes n call answer

abbrev pub later_owed : ℕ → Call → AfterScan → List Event
later_owed n call (Answered answer) = owes n call answer
later_owed n call (Repeated task) = []
later_owed n call Counted = []

abbrev pub why_owed : ℕ → Call → Why → List Event
why_owed n call (Opens task) = []
why_owed n call (FollowsHead head tail) = []
why_owed n call (Fills task) = []
why_owed n call (ClearsNext next) = next_owed n call next
why_owed n call (Clears task next) = next_owed n call next
why_owed n call (Finishes task next) = next_owed n call next
why_owed n call (GivesUp answer) = owes n call answer
why_owed n call (Retires answer) = owes n call answer
why_owed n call (Tidies later) = later_owed n call later
why_owed n call Advances = []
why_owed n call (Releases let_go) = []

abbrev pub enqueue_owed : ℕ → Call → EnqueueKept → EnqueueAt → List Event
enqueue_owed n call kept LoadNumber = []
enqueue_owed n call kept LoadNext = []
enqueue_owed n call kept (PassTail next) = []
enqueue_owed n call kept (ExchangeNext slot) = []
enqueue_owed n call kept (ExchangeTail slot) = owes n call (the_answers.Queued (kept.number + 1))

-- a list is told to be taken over before its place is marked so
abbrev pub keep_owed : ℕ → Call → KeepAt → List Event
keep_owed n call (MarkTaken place count) = owes n call (the_answers.Adopted count)
keep_owed n call at = []

abbrev pub work_owed : ℕ → Call → Work → List Event
work_owed n call (Getting key at) = []
work_owed n call (Changing kept at) = []
work_owed n call (Enqueuing kept at) = enqueue_owed n call kept at
work_owed n call (Dequeuing at) = []
work_owed n call (Keeping at) = keep_owed n call at

abbrev pub owed : ℕ → Call → Phase → List Event
owed n call Idle = []
owed n call (Runs why base) = why_owed n call why
owed n call (Scans later at) = later_owed n call later
owed n call (Works work) = work_owed n call work

abbrev pub out_owed : ℕ → Call → CallOutcome → List Event
out_owed n call (GoesOn phase) = owed n call phase
out_owed n call (Answers answer) = owes n call answer

abbrev pub OutServes : Call → CallOutcome → Type 0
OutServes call (GoesOn phase) = Serves call phase
OutServes call (Answers answer) = suits call answer ≡ true

-- where the clock is moved alone, its machine ends with an outcome of the move
abbrev pub ends_clocked : Ending → Bool
ends_clocked (Clocked clock) = true
ends_clocked ending = false

abbrev pub out_clocked : Outcome → Bool
out_clocked (Goes base) = true
out_clocked (Ends ending) = ends_clocked ending

abbrev pub EndsFor : Why → Outcome → Type 0
EndsFor Advances outcome = out_clocked outcome ≡ true
EndsFor why outcome = Unit {0}

-- after what was told before, these events make these, and none is an end
pub record Told (before told all : List Event) : Type 0 where
  pub sum : before ++ loud told ≡ all
  pub goes : all_of is_open told ≡ true

pub record Owes (n : ℕ) (call : Call) (before : List Event) (t : CallTurn) : Type 0 where
  pub told : Told before t.told (out_owed n call t.outcome)
  pub serves : OutServes call t.outcome

pub append_none : (xs : List Event) → xs ++ [] ≡ xs
append_none [] = refl
append_none (x ∷ xs) = ap (λ (rest : List Event). x ∷ rest) (append_none xs)

-- what machines tell adds nothing
pub told_machine : (before told : List Event) → all_of is_machine told ≡ true → Told before told before
told_machine before told h = record {
  sum = ap (λ (more : List Event). before ++ more) (loud_mute told (of_weaker is_machine is_mute told machine_mute h)) ∙ append_none before;
  goes = of_weaker is_machine is_open told machine_open h;
}

pub told_more : (before told more all : List Event) → all_of is_machine more ≡ true → Told before told all → Told before (told ++ more) all
told_more before told more all h t = record {
  sum = ap (λ (rest : List Event). before ++ rest) (loud_along told more ∙ ap (λ (rest : List Event). loud told ++ rest) (loud_mute more (of_weaker is_machine is_mute more machine_mute h)) ∙ append_none (loud told)) ∙ t.sum;
  goes = of_along is_open told more t.goes (of_weaker is_machine is_open more machine_open h);
}

pub told_none : Told [] [] []
told_none = record { sum = refl; goes = refl }

-- the outcome of a move of the clock changes nothing of this
done_owes : (n : ℕ) (call : Call) (version : ℕ) (old clock : ClockMove) → owes n call (the_answers.Done version clock) ≡ owes n call (the_answers.Done version old)
done_owes n (names.Put key value) version old clock = refl
done_owes n (names.Remove key) version old clock = refl
done_owes n (names.PutIf key value wanted) version old clock = refl
done_owes n call version old clock = refl

taken_owes : (n : ℕ) (call : Call) (number value : ℕ) (old clock : ClockMove) → owes n call (the_answers.Taken number value clock) ≡ owes n call (the_answers.Taken number value old)
taken_owes n names.Dequeue number value old clock = refl
taken_owes n call number value old clock = refl

pub clock_owes : (n : ℕ) (call : Call) (answer : Answer) (clock : ClockMove) → owes n call (with_clock answer clock) ≡ owes n call answer
clock_owes n call (the_answers.Done version old) clock = done_owes n call version old clock
clock_owes n call (the_answers.Taken number value old) clock = taken_owes n call number value old clock
clock_owes n call answer clock = refl

done_suits : (call : Call) (version : ℕ) (old clock : ClockMove) → suits call (the_answers.Done version clock) ≡ suits call (the_answers.Done version old)
done_suits (names.Put key value) version old clock = refl
done_suits (names.Remove key) version old clock = refl
done_suits (names.PutIf key value wanted) version old clock = refl
done_suits call version old clock = refl

taken_suits : (call : Call) (number value : ℕ) (old clock : ClockMove) → suits call (the_answers.Taken number value clock) ≡ suits call (the_answers.Taken number value old)
taken_suits names.Dequeue number value old clock = refl
taken_suits call number value old clock = refl

pub clock_suits : (call : Call) (answer : Answer) (clock : ClockMove) → suits call (with_clock answer clock) ≡ suits call answer
clock_suits call (the_answers.Done version old) clock = done_suits call version old clock
clock_suits call (the_answers.Taken number value old) clock = taken_suits call number value old clock
clock_suits call answer clock = refl
