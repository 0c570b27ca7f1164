-- The event that the words of its line name.
use Rattle.std.proofs.Common.{◌==◌, ℕ, List, [], ◌∷◌, Option, Some, None, codes, if◌then◌else◌}
use Rattle.std.specs.Str.{bytes_eq}
use Rattle.wfe_defs.specs.declared.lifetime.Interval.{Interval}
use Rattle.wfe_defs.specs.declared.event.Guard.{Guard}
use Rattle.wfe_defs.specs.declared.event.Guard.TheVariants as guards
use Rattle.wfe_defs.specs.declared.event.Root.{Root}
use Rattle.wfe_defs.specs.declared.event.Root.TheVariants as roots
use Rattle.wfe_defs.specs.declared.call.ClockMove.{ClockMove}
use Rattle.wfe_defs.specs.declared.call.ClockMove.TheVariants as clocks
use Rattle.wfe_defs.specs.declared.call.Call.{Call}
use Rattle.wfe_defs.specs.declared.call.Call.TheVariants as calls
use Rattle.wfe_defs.specs.declared.call.Answer.{Answer}
use Rattle.wfe_defs.specs.declared.call.Answer.TheVariants as answers
use Rattle.wfe_defs.specs.declared.event.Event.{Event}
use Rattle.wfe_defs.specs.declared.event.Event.TheVariants as events
use Rattle.wfe_text.specs.Words.{number_in}

-- what words say, if they have the form
abbrev pub Read : Type 0 → Type 0
Read A = List (List ℕ) → Option A

abbrev pub given : {A B : Type 0} → Option A → (A → Option B) → Option B
given None f = None
given (Some x) f = f x

-- a value, and no more words
abbrev pub done : {A : Type 0} → A → Read A
done x [] = Some x
done x (w ∷ ws) = None

-- a number, and what follows
abbrev pub number : {A : Type 0} → (ℕ → Read A) → Read A
number later [] = None
number later (w ∷ ws) = given (number_in w) (λ n. later n ws)

-- the rest, as a part of a whole
abbrev pub within : {A B : Type 0} → (A → B) → Read A → Read B
within f read ws = given (read ws) (λ x. Some (f x))

abbrev pub one : {A : Type 0} → (ℕ → A) → Read A
one f = number (λ a. done (f a))

abbrev pub two : {A : Type 0} → (ℕ → ℕ → A) → Read A
two f = number (λ a. number (λ b. done (f a b)))

abbrev pub three : {A : Type 0} → (ℕ → ℕ → ℕ → A) → Read A
three f = number (λ a. number (λ b. number (λ c. done (f a b c))))

abbrev pub four : {A : Type 0} → (ℕ → ℕ → ℕ → ℕ → A) → Read A
four f = number (λ a. number (λ b. number (λ c. number (λ d. done (f a b c d)))))

-- what stands before the first such byte, and after it
abbrev pub before : ℕ → List ℕ → List ℕ
before b [] = []
before b (c ∷ cs) = if c == b then [] else c ∷ before b cs

abbrev pub after : ℕ → List ℕ → List ℕ
after b [] = []
after b (c ∷ cs) = if c == b then cs else after b cs

abbrev pub guard_in : List ℕ → Option Guard
guard_in [] = None
guard_in (c ∷ cs) =
    if c == 104 then given (number_in cs) (λ seat. Some (guards.Helper seat)) else
    if c == 105 then given (number_in (before 46 cs)) (λ seat. given (number_in (after 46 cs)) (λ index. Some (guards.Index seat index))) else
    if c == 118 then given (number_in cs) (λ seat. Some (guards.Whole seat)) else None

abbrev pub root_in : List ℕ → Option Root
root_in [] = None
root_in (c ∷ cs) =
    if bytes_eq (c ∷ cs) (codes "head") then Some roots.Head else
    if bytes_eq (c ∷ cs) (codes "tail") then Some roots.Tail else
    if c == 98 then given (number_in cs) (λ bucket. Some (roots.Bucket bucket)) else
    if c == 110 then given (number_in cs) (λ slot. Some (roots.Next slot)) else None

-- a number, or `none`
abbrev pub value_or : List ℕ → Option ℕ → Option (Option ℕ)
value_or w (Some n) = Some (Some n)
value_or w None = if bytes_eq w (codes "none") then Some None else None

abbrev pub value_from : Read (Option ℕ)
value_from [] = None
value_from (w ∷ []) = value_or w (number_in w)
value_from (w ∷ v ∷ ws) = None

abbrev pub span_from : Read (Option Interval)
span_from [] = None
span_from (w ∷ []) = if bytes_eq w (codes "none") then Some None else None
span_from (v ∷ w ∷ ws) = two (λ lo hi. Some (record { lo = lo; hi = hi })) (v ∷ w ∷ ws)

abbrev pub clock_from : Read ClockMove
clock_from [] = None
clock_from (w ∷ ws) =
    if bytes_eq w (codes "still") then done clocks.Still ws else
    if bytes_eq w (codes "moved") then one clocks.Moved ws else
    if bytes_eq w (codes "other") then one clocks.Other ws else
    if bytes_eq w (codes "era-spent") then one clocks.EraSpent ws else None

abbrev pub call_from : Read Call
call_from [] = None
call_from (w ∷ ws) =
    if bytes_eq w (codes "get") then one calls.Get ws else
    if bytes_eq w (codes "put") then two calls.Put ws else
    if bytes_eq w (codes "remove") then one calls.Remove ws else
    if bytes_eq w (codes "enq") then one calls.Enqueue ws else
    if bytes_eq w (codes "deq") then done calls.Dequeue ws else
    if bytes_eq w (codes "hold") then one calls.Hold ws else
    if bytes_eq w (codes "release") then done calls.Release ws else
    if bytes_eq w (codes "advance") then done calls.Advance ws else
    if bytes_eq w (codes "scan") then done calls.Scan ws else
    if bytes_eq w (codes "copy") then two calls.Copy ws else
    if bytes_eq w (codes "drop") then one calls.DropIndex ws else
    if bytes_eq w (codes "look") then two calls.Look ws else
    if bytes_eq w (codes "put_if") then three calls.PutIf ws else
    if bytes_eq w (codes "leave") then done calls.Leave ws else
    if bytes_eq w (codes "adopt") then one calls.Adopt ws else None

abbrev pub answer_from : Read Answer
answer_from [] = None
answer_from (w ∷ ws) =
    if bytes_eq w (codes "got") then number (λ version. within (λ value. answers.Got version value) value_from) ws else
    if bytes_eq w (codes "done") then number (λ version. within (λ clock. answers.Done version clock) clock_from) ws else
    if bytes_eq w (codes "absent") then one answers.Absent ws else
    if bytes_eq w (codes "full") then done answers.Full ws else
    if bytes_eq w (codes "bucket-full") then one answers.BucketFull ws else
    if bytes_eq w (codes "spent") then one answers.Spent ws else
    if bytes_eq w (codes "queued") then one answers.Queued ws else
    if bytes_eq w (codes "taken") then number (λ n. number (λ value. within (λ clock. answers.Taken n value clock) clock_from)) ws else
    if bytes_eq w (codes "empty") then done answers.Empty ws else
    if bytes_eq w (codes "holding") then one answers.Holding ws else
    if bytes_eq w (codes "nothing") then done answers.Nothing ws else
    if bytes_eq w (codes "released") then done answers.Released ws else
    if bytes_eq w (codes "scanned") then two answers.Scanned ws else
    if bytes_eq w (codes "copied") then one answers.Copied ws else
    if bytes_eq w (codes "dropped") then done answers.Dropped ws else
    if bytes_eq w (codes "looked") then number (λ slot. number (λ version. within (λ value. answers.Looked slot version value) value_from)) ws else
    if bytes_eq w (codes "stale") then one answers.Stale ws else
    if bytes_eq w (codes "left") then one answers.Left ws else
    if bytes_eq w (codes "adopted") then one answers.Adopted ws else
    if bytes_eq w (codes "not-left") then done answers.NotLeft ws else
    if bytes_eq w (codes "adopted-before") then done answers.AdoptedBefore ws else
    within answers.Clock clock_from (w ∷ ws)

-- a guard, and what it published
abbrev pub guarded : {A : Type 0} → Read A → (Guard → A → Event) → Read Event
guarded read f [] = None
guarded read f (w ∷ ws) = given (guard_in w) (λ guard. within (f guard) read ws)

abbrev pub rooted : (Root → ℕ → Event) → Read Event
rooted f [] = None
rooted f (w ∷ ws) = given (root_in w) (λ root. one (f root) ws)

abbrev pub event_from : Read Event
event_from [] = None
event_from (w ∷ ws) =
    if bytes_eq w (codes "begin") then within events.Begin call_from ws else
    if bytes_eq w (codes "end") then number (λ steps. within (λ answer. events.End steps answer) answer_from) ws else
    if bytes_eq w (codes "era") then one events.Era ws else
    if bytes_eq w (codes "reserve") then guarded span_from events.Reserve ws else
    if bytes_eq w (codes "read") then guarded span_from events.Read ws else
    if bytes_eq w (codes "hazard") then guarded value_from events.Hazard ws else
    if bytes_eq w (codes "saw") then guarded value_from events.Saw ws else
    if bytes_eq w (codes "give") then two events.Give ws else
    if bytes_eq w (codes "unused") then one events.Unused ws else
    if bytes_eq w (codes "link") then rooted events.Link ws else
    if bytes_eq w (codes "cut") then one events.Cut ws else
    if bytes_eq w (codes "retire") then three events.Retire ws else
    if bytes_eq w (codes "back") then one events.Back ws else
    if bytes_eq w (codes "held") then three events.Held ws else
    if bytes_eq w (codes "null") then two events.Null ws else
    if bytes_eq w (codes "clear") then two events.Clear ws else
    if bytes_eq w (codes "copied") then three events.Copied ws else
    if bytes_eq w (codes "put") then four events.Put ws else
    if bytes_eq w (codes "removed") then three events.Removed ws else
    if bytes_eq w (codes "got") then number (λ bucket. number (λ version. number (λ key. within (λ value. events.Got bucket version key value) value_from))) ws else
    if bytes_eq w (codes "queued") then two events.Queued ws else
    if bytes_eq w (codes "taken") then two events.Taken ws else
    if bytes_eq w (codes "left") then one events.Left ws else
    if bytes_eq w (codes "adopted") then two events.Adopted ws else None
