-- Only what is marked changes what a call has come to; and where a call ends, what it has told of the map and of the queue is what
-- its answer says.
use Rattle.std.proofs.Common.{ℕ, ◌≡◌, ◌+◌, Bool, true, false, List, [], ◌∷◌, ◌++◌, Option, Some, None, refl, sym, ap, ◌∙◌, arith}
use Rattle.std.proofs.lemmas.Bool.Decides.{nat_tests}
use Rattle.std.specs.Prelude.{◌==◌, ◌&&◌, nat_lt, if◌then◌else◌}
use Rattle.law_reuse.specs.inv.model.defs.declared.call.Answer.{Answer}
use Rattle.law_reuse.specs.inv.model.defs.declared.call.Answer.TheVariants as answers
use Rattle.law_reuse.specs.inv.model.defs.declared.call.Call.{Call}
use Rattle.law_reuse.specs.inv.model.defs.declared.call.Call.TheVariants as calls
use Rattle.law_reuse.specs.inv.model.defs.declared.event.Event.{Event}
use Rattle.law_reuse.specs.inv.model.defs.declared.event.Event.TheVariants as events
use Rattle.law_reuse.proofs.inv.model.Facts.{first_of, rest_of}
use Rattle.law_reuse.specs.inv.history.Record.{Past}
use Rattle.law_reuse.specs.inv.history.Record.Past.{Start, Then}
use Rattle.law_reuse.proofs.laws.Along.{along}
use Rattle.law_reuse.specs.laws.StateAt.{with_told, told_of, Given, given_by, cuts_by, retires_by, changed_by, seen}
use Rattle.law_reuse.specs.laws.AnswerLaw.{suits, same_event, retires_for}
use Rattle.law_reuse.specs.laws.HistoryAnswers.{owes, same_told, answer_right, is_change}
use Rattle.law_reuse.specs.laws.HistoryRows.{places_right}
use Rattle.law_reuse.specs.laws.Once.{retires_right}
use Rattle.law_scans.proofs.Placing.Marks.{is_marked}
use Rattle.law_scans.proofs.Placing.Moved.{loud_by, said_by}
use Rattle.law_reuse.proofs.laws.Tells.{OfKind}

given_still : (event : Event) (x : Given) → is_marked event ≡ false → given_by event x ≡ x
given_still (events.Begin call) x h = absurd (cc)
given_still (events.Give slot birth) x h = absurd (cc)
given_still (events.Unused slot) x h = absurd (cc)
given_still (events.Link root slot) x h = absurd (cc)
given_still event x h = refl

places_still : (event : Event) (x : Given) → is_marked event ≡ false → places_right event x ≡ true
places_still (events.End steps answer) x h = absurd (cc)
places_still (events.Give slot birth) x h = absurd (cc)
places_still (events.Unused slot) x h = absurd (cc)
places_still (events.Link root slot) x h = absurd (cc)
places_still event x h = refl

pub given_kind : OfKind given_by places_right is_marked
given_kind = record { still = given_still; right = places_still }

cuts_still : (event : Event) (x : List ℕ) → is_marked event ≡ false → cuts_by event x ≡ x
cuts_still (events.Begin call) x h = absurd (cc)
cuts_still (events.Cut slot) x h = absurd (cc)
cuts_still (events.Retire slot birth retire) x h = absurd (cc)
cuts_still event x h = refl

cut_rights : (event : Event) (x : List ℕ) → is_marked event ≡ false → retires_right event x ≡ true
cut_rights (events.End steps answer) x h = absurd (cc)
cut_rights (events.Retire slot birth retire) x h = absurd (cc)
cut_rights event x h = refl

pub cuts_kind : OfKind cuts_by retires_right is_marked
cuts_kind = record { still = cuts_still; right = cut_rights }

pub retires_still : (event : Event) (x : ℕ) → is_marked event ≡ false → retires_by event x ≡ x
retires_still (events.Begin call) x h = absurd (cc)
retires_still (events.Retire slot birth retire) x h = absurd (cc)
retires_still event x h = refl

pub changed_still : (event : Event) (x : Bool) → is_marked event ≡ false → changed_by event x ≡ x
changed_still (events.Begin call) x h = absurd (cc)
changed_still (events.Put bucket version key value) x h = absurd (cc)
changed_still (events.Removed bucket version key) x h = absurd (cc)
changed_still (events.Queued number value) x h = absurd (cc)
changed_still (events.Taken number value) x h = absurd (cc)
changed_still (events.Link root slot) x h = absurd (cc)
changed_still event x h = refl

pub loud_still : (event : Event) (x : Bool) → is_marked event ≡ false → loud_by event x ≡ x
loud_still (events.Begin call) x h = absurd (cc)
loud_still (events.Put bucket version key value) x h = absurd (cc)
loud_still (events.Removed bucket version key) x h = absurd (cc)
loud_still (events.Queued number value) x h = absurd (cc)
loud_still (events.Taken number value) x h = absurd (cc)
loud_still event x h = refl

pub said_still : (event : Event) (x : ℕ) → is_marked event ≡ false → said_by event x ≡ x
said_still (events.Begin call) x h = absurd (cc)
said_still (events.Put bucket version key value) x h = absurd (cc)
said_still (events.Removed bucket version key) x h = absurd (cc)
said_still (events.Taken number value) x h = absurd (cc)
said_still event x h = refl

pub along_both : {X : Type 0} (next : Event → X → X) (xs ys : List Event) (x : X) → along next (xs ++ ys) x ≡ along next ys (along next xs x)
along_both next [] ys x = refl
along_both next (event ∷ xs) ys x = along_both next xs ys (next event x)

-- what was told of the map, of the queue and of copies comes to the same
said_one : (event : Event) (told : List Event) → along said_by (with_told event told) 0 ≡ said_by event (along said_by told 0)
said_one (events.Got bucket version key value) told = along_both said_by told (events.Got bucket version key value ∷ []) 0
said_one (events.Put bucket version key value) told = along_both said_by told (events.Put bucket version key value ∷ []) 0
said_one (events.Removed bucket version key) told = along_both said_by told (events.Removed bucket version key ∷ []) 0
said_one (events.Queued number value) told = along_both said_by told (events.Queued number value ∷ []) 0
said_one (events.Taken number value) told = along_both said_by told (events.Taken number value ∷ []) 0
said_one (events.Copied from index slot) told = along_both said_by told (events.Copied from index slot ∷ []) 0
said_one (events.Left count) told = along_both said_by told (events.Left count ∷ []) 0
said_one (events.Adopted place count) told = along_both said_by told (events.Adopted place count ∷ []) 0
said_one event told = refl

loud_one : (event : Event) (told : List Event) → along loud_by (with_told event told) false ≡ loud_by event (along loud_by told false)
loud_one (events.Got bucket version key value) told = along_both loud_by told (events.Got bucket version key value ∷ []) false
loud_one (events.Put bucket version key value) told = along_both loud_by told (events.Put bucket version key value ∷ []) false
loud_one (events.Removed bucket version key) told = along_both loud_by told (events.Removed bucket version key ∷ []) false
loud_one (events.Queued number value) told = along_both loud_by told (events.Queued number value ∷ []) false
loud_one (events.Taken number value) told = along_both loud_by told (events.Taken number value ∷ []) false
loud_one (events.Copied from index slot) told = along_both loud_by told (events.Copied from index slot ∷ []) false
loud_one (events.Left count) told = along_both loud_by told (events.Left count ∷ []) false
loud_one (events.Adopted place count) told = along_both loud_by told (events.Adopted place count ∷ []) false
loud_one event told = refl

heard_by : {X : Type 0} (next : Event → X → X) (first x : X) (event : Event) (told : List Event) (same : Bool) → along next (with_told event told) first ≡ next event (along next told first) → x ≡ along next told first → (if same then next event x else x) ≡ along next (if same then with_told event told else told) first
heard_by next first x event told true o h = ap (next event) h ∙ sym o
heard_by next first x event told false o h = h

heard : {X : Type 0} (next : Event → X → X) (first : X) → ((event : Event) (told : List Event) → along next (with_told event told) first ≡ next event (along next told first)) → (i : ℕ) (p : Past) → seen next first i p ≡ along next (told_of i p) first
heard next first o i Start = refl
heard next first o i (Then p k event) = heard_by next first (seen next first i p) event (told_of i p) (i == k) (o event (told_of i p)) (heard next first o i p)

pub said_told : (i : ℕ) (p : Past) → seen said_by 0 i p ≡ along said_by (told_of i p) 0
said_told i p = heard said_by 0 said_one i p

pub loud_told : (i : ℕ) (p : Past) → seen loud_by false i p ≡ along loud_by (told_of i p) false
loud_told i p = heard loud_by false loud_one i p

-- the same events come to the same
said_version : (version other before : ℕ) → version ≡ other → (if nat_lt 1 version then before + 1 else before) ≡ (if nat_lt 1 other then before + 1 else before)
said_version version other before e = ap (λ (x : ℕ). if nat_lt 1 x then before + 1 else before) e

pair_version : (a b version other : ℕ) (more : Bool) → ((a == b && version == other) && more) ≡ true → version ≡ other
pair_version a b version other more h = let e = rest_of (a == b) (version == other) (first_of (a == b && version == other) more h) in grind (arith, nat_tests)

said_same : (event other : Event) (x : ℕ) → same_event event other ≡ true → said_by event x ≡ said_by other x
said_same (events.Put b version key value) (events.Put b' version' key' value') x h = said_version version version' x (pair_version b b' version version' _ h)
said_same (events.Removed b version key) (events.Removed b' version' key') x h = said_version version version' x (pair_version b b' version version' _ h)
said_same (events.Got b version key value) (events.Got b' version' key' value') x h = refl
said_same (events.Queued number value) (events.Queued number' value') x h = refl
said_same (events.Taken number value) (events.Taken number' value') x h = refl
said_same (events.Copied from index slot) (events.Copied from' index' slot') x h = refl
said_same (events.Left count) (events.Left count') x h = refl
said_same (events.Adopted place count) (events.Adopted place' count') x h = refl
said_same event other x h = absurd (cc)

loud_same : (event other : Event) (x : Bool) → same_event event other ≡ true → loud_by event x ≡ loud_by other x
loud_same (events.Put b version key value) (events.Put b' version' key' value') x h = refl
loud_same (events.Removed b version key) (events.Removed b' version' key') x h = refl
loud_same (events.Got b version key value) (events.Got b' version' key' value') x h = refl
loud_same (events.Queued number value) (events.Queued number' value') x h = refl
loud_same (events.Taken number value) (events.Taken number' value') x h = refl
loud_same (events.Copied from index slot) (events.Copied from' index' slot') x h = refl
loud_same (events.Left count) (events.Left count') x h = refl
loud_same (events.Adopted place count) (events.Adopted place' count') x h = refl
loud_same event other x h = absurd (cc)

same_along : {X : Type 0} (next : Event → X → X) → ((event other : Event) (x : X) → same_event event other ≡ true → next event x ≡ next other x) → (told others : List Event) (x : X) → same_told told others ≡ true → along next told x ≡ along next others x
same_along next q [] [] x h = refl
same_along next q [] (other ∷ others) x h = absurd (cc)
same_along next q (event ∷ told) [] x h = absurd (cc)
same_along next q (event ∷ told) (other ∷ others) x h =
    ap (along next told) (q event other x (first_of (same_event event other) (same_told told others) h)) ∙ same_along next q told others (next other x) (rest_of (same_event event other) (same_told told others) h)

-- what an answer says
owes_said : (n : ℕ) (call : Call) (answer : Answer) → suits call answer ≡ true → along said_by (owes n call answer) 0 ≡ retires_for answer
owes_said n (calls.Get key) (answers.Got version value) s = refl
owes_said n (calls.Put key value) (answers.Done version clock) s = refl
owes_said n (calls.Put key value) answers.Full s = refl
owes_said n (calls.Put key value) (answers.BucketFull version) s = refl
owes_said n (calls.Put key value) (answers.Spent number) s = refl
owes_said n (calls.Remove key) (answers.Done version clock) s = refl
owes_said n (calls.Remove key) answers.Full s = refl
owes_said n (calls.Remove key) (answers.Absent version) s = refl
owes_said n (calls.Remove key) (answers.Spent number) s = refl
owes_said n (calls.Enqueue value) (answers.Queued number) s = refl
owes_said n (calls.Enqueue value) answers.Full s = refl
owes_said n (calls.Enqueue value) (answers.Spent number) s = refl
owes_said n calls.Dequeue (answers.Taken number value clock) s = refl
owes_said n calls.Dequeue answers.Empty s = refl
owes_said n (calls.Hold key) (answers.Holding slot) s = refl
owes_said n (calls.Hold key) answers.Nothing s = refl
owes_said n calls.Release answers.Released s = refl
owes_said n calls.Advance (answers.Clock clock) s = refl
owes_said n calls.Scan (answers.Scanned kept back) s = refl
owes_said n (calls.Copy from index) (answers.Copied slot) s = refl
owes_said n (calls.Copy from index) answers.Nothing s = refl
owes_said n (calls.DropIndex index) answers.Dropped s = refl
owes_said n (calls.Look index key) (answers.Looked slot version value) s = refl
owes_said n (calls.Look index key) answers.Nothing s = refl
owes_said n calls.Leave (answers.Left count) s = refl
owes_said n (calls.Adopt place) (answers.Adopted count) s = refl
owes_said n (calls.Adopt place) answers.NotLeft s = refl
owes_said n (calls.Adopt place) answers.AdoptedBefore s = refl
owes_said n (calls.PutIf key value wanted) (answers.Done version clock) s = refl
owes_said n (calls.PutIf key value wanted) (answers.Stale version) s = refl
owes_said n (calls.PutIf key value wanted) answers.Full s = refl
owes_said n (calls.PutIf key value wanted) (answers.BucketFull version) s = refl
owes_said n (calls.PutIf key value wanted) (answers.Spent number) s = refl
owes_said n call answer s = absurd (cc)

owes_loud : (n : ℕ) (call : Call) (answer : Answer) → suits call answer ≡ true → along loud_by (owes n call answer) false ≡ is_change answer
owes_loud n (calls.Get key) (answers.Got version value) s = refl
owes_loud n (calls.Put key value) (answers.Done version clock) s = refl
owes_loud n (calls.Put key value) answers.Full s = refl
owes_loud n (calls.Put key value) (answers.BucketFull version) s = refl
owes_loud n (calls.Put key value) (answers.Spent number) s = refl
owes_loud n (calls.Remove key) (answers.Done version clock) s = refl
owes_loud n (calls.Remove key) answers.Full s = refl
owes_loud n (calls.Remove key) (answers.Absent version) s = refl
owes_loud n (calls.Remove key) (answers.Spent number) s = refl
owes_loud n (calls.Enqueue value) (answers.Queued number) s = refl
owes_loud n (calls.Enqueue value) answers.Full s = refl
owes_loud n (calls.Enqueue value) (answers.Spent number) s = refl
owes_loud n calls.Dequeue (answers.Taken number value clock) s = refl
owes_loud n calls.Dequeue answers.Empty s = refl
owes_loud n (calls.Hold key) (answers.Holding slot) s = refl
owes_loud n (calls.Hold key) answers.Nothing s = refl
owes_loud n calls.Release answers.Released s = refl
owes_loud n calls.Advance (answers.Clock clock) s = refl
owes_loud n calls.Scan (answers.Scanned kept back) s = refl
owes_loud n (calls.Copy from index) (answers.Copied slot) s = refl
owes_loud n (calls.Copy from index) answers.Nothing s = refl
owes_loud n (calls.DropIndex index) answers.Dropped s = refl
owes_loud n (calls.Look index key) (answers.Looked slot version value) s = refl
owes_loud n (calls.Look index key) answers.Nothing s = refl
owes_loud n calls.Leave (answers.Left count) s = refl
owes_loud n (calls.Adopt place) (answers.Adopted count) s = refl
owes_loud n (calls.Adopt place) answers.NotLeft s = refl
owes_loud n (calls.Adopt place) answers.AdoptedBefore s = refl
owes_loud n (calls.PutIf key value wanted) (answers.Done version clock) s = refl
owes_loud n (calls.PutIf key value wanted) (answers.Stale version) s = refl
owes_loud n (calls.PutIf key value wanted) answers.Full s = refl
owes_loud n (calls.PutIf key value wanted) (answers.BucketFull version) s = refl
owes_loud n (calls.PutIf key value wanted) (answers.Spent number) s = refl
owes_loud n call answer s = absurd (cc)

pub answer_said : (n : ℕ) (began : Option Call) (told : List Event) (answer : Answer) → answer_right n began told answer ≡ true → along said_by told 0 ≡ retires_for answer
answer_said n None told answer h = absurd (cc)
answer_said n (Some call) told answer h =
    same_along said_by said_same told (owes n call answer) 0 (rest_of (suits call answer) (same_told told (owes n call answer)) h)
    ∙ owes_said n call answer (first_of (suits call answer) (same_told told (owes n call answer)) h)

pub answer_loud : (n : ℕ) (began : Option Call) (told : List Event) (answer : Answer) → answer_right n began told answer ≡ true → along loud_by told false ≡ is_change answer
answer_loud n None told answer h = absurd (cc)
answer_loud n (Some call) told answer h =
    same_along loud_by loud_same told (owes n call answer) false (rest_of (suits call answer) (same_told told (owes n call answer)) h)
    ∙ owes_loud n call answer (first_of (suits call answer) (same_told told (owes n call answer)) h)
