-- A table as those see it who call it one at a time: a map in buckets, a queue, and what each caller keeps of the map. First what it may
-- answer to a call, then what it is after the answer.
use Rattle.std.specs.Prelude.{Bool, List, None, Option, Some, [], false, if◌then◌else◌, is_some, length, nat_lt, not, true, ℕ, ◌%◌, ◌&&◌, ◌+◌, ◌++◌, ◌==◌, ◌∷◌, ◌||◌}
use Rattle.laws.specs.StructuresAt.{Filling, same_value}
use Rattle.laws.specs.defs.Pairs.{value_in, with_pair, without_key}
use Rattle.laws.specs.defs.declared.call.Answer.TheVariants as answers
use Rattle.laws.specs.defs.declared.call.Answer.{Answer}
use Rattle.laws.specs.defs.declared.call.Call.TheVariants as calls
use Rattle.laws.specs.defs.declared.call.Call.{Call}
use Rattle.laws.specs.words.declared.config.Config.{Config}

-- A bucket (`Filling`) has a version, how often it was changed, and its pairs. Values wait in the order in which they were queued; they
-- are numbered from 1 on, and so are those that were taken.
pub record Object : Type 0 where
  pub bucket : ℕ → Filling
  pub waiting : List ℕ
  pub queued : ℕ
  pub taken : ℕ

abbrev pub empty : Object
empty = record { bucket = λ b. record { version = 0; pairs = [] }; waiting = []; queued = 0; taken = 0 }

-- what a caller keeps: a bucket as it was when it was taken, and the name under which answers speak of it
pub record Kept : Type 0 where
  pub name : ℕ
  pub was : Filling

-- by the indexes at which a caller keeps something
abbrev pub Hand : Type 0
Hand = ℕ → Option Kept

abbrev pub empty_hand : Hand
empty_hand index = None

-- What it may answer.

abbrev pub has_key : ℕ → Filling → Bool
has_key key at = is_some (value_in at.pairs key)

-- the key is there, or a bucket may have one pair more
abbrev pub has_room : Config → ℕ → Filling → Bool
has_room c key at = has_key key at || nat_lt (length at.pairs) c.pairs

-- a later version is allowed
abbrev pub goes_on : Config → Filling → Bool
goes_on c at = nat_lt at.version c.last_version

-- a get: the key's value, at the present version
abbrev pub may_get : ℕ → Filling → Answer → Bool
may_get key at (answers.Got version value) = version == at.version && same_value value (value_in at.pairs key)
may_get key at answer = false

-- a put: done, and the version is the next one; `Full`, where nothing is lacking that a caller sees; or refused at the present version
abbrev pub may_put : Config → ℕ → Filling → Answer → Bool
may_put c key at (answers.Done version clock) = version == at.version + 1 && (goes_on c at && has_room c key at)
may_put c key at answers.Full = goes_on c at && has_room c key at
may_put c key at (answers.BucketFull version) = version == at.version && (goes_on c at && (length at.pairs == c.pairs && not (has_key key at)))
may_put c key at (answers.Spent version) = version == at.version && version == c.last_version
may_put c key at answer = false

-- a put that wants a version: as a put at that one, and stale at any other
abbrev pub may_put_if : Config → (key wanted : ℕ) → Filling → Answer → Bool
may_put_if c key wanted at (answers.Stale version) = version == at.version && not (version == wanted)
may_put_if c key wanted at answer = at.version == wanted && may_put c key at answer

-- a remove, of a key that is there
abbrev pub may_remove : Config → ℕ → Filling → Answer → Bool
may_remove c key at (answers.Done version clock) = version == at.version + 1 && (goes_on c at && has_key key at)
may_remove c key at answers.Full = goes_on c at && has_key key at
may_remove c key at (answers.Absent version) = version == at.version && not (has_key key at)
may_remove c key at (answers.Spent version) = version == at.version && (version == c.last_version && has_key key at)
may_remove c key at answer = false

abbrev pub may_enqueue : Config → Object → Answer → Bool
may_enqueue c now (answers.Queued number) = number == now.queued + 1 && nat_lt now.queued c.last_version
may_enqueue c now answers.Full = nat_lt now.queued c.last_version
may_enqueue c now (answers.Spent number) = number == now.queued && number == c.last_version
may_enqueue c now answer = false

abbrev pub is_first : ℕ → List ℕ → Bool
is_first value [] = false
is_first value (first ∷ later) = value == first

abbrev pub none_waits : List ℕ → Bool
none_waits [] = true
none_waits (first ∷ later) = false

-- a dequeue: the value that waits first; or that none does
abbrev pub may_dequeue : Object → Answer → Bool
may_dequeue now (answers.Taken number value clock) = number == now.taken + 1 && is_first value now.waiting
may_dequeue now answers.Empty = none_waits now.waiting
may_dequeue now answer = false

-- a hold: whatever name it gets, but of a bucket that was changed before; nothing, of one that was not
abbrev pub may_hold : Filling → Answer → Bool
may_hold at (answers.Holding name) = not (at.version == 0)
may_hold at answers.Nothing = at.version == 0
may_hold at answer = false

-- a copy: the name of what is kept where it copies from
abbrev pub may_copy : Option Kept → Answer → Bool
may_copy (Some kept) (answers.Copied name) = name == kept.name
may_copy None answers.Nothing = true
may_copy kept answer = false

-- a look: the key's value as it was when the bucket was taken
abbrev pub may_look : ℕ → Option Kept → Answer → Bool
may_look key (Some kept) (answers.Looked name version value) =
    name == kept.name && (version == kept.was.version && same_value value (value_in kept.was.pairs key))
may_look key None answers.Nothing = true
may_look key kept answer = false

-- Other calls work on what no caller sees of map and queue, and have one answer, or any that they ever have.
abbrev pub may_answer : Config → Object → Hand → Call → Answer → Bool
may_answer c now hand (calls.Get key) answer = may_get key (now.bucket (key % c.buckets)) answer
may_answer c now hand (calls.Put key value) answer = may_put c key (now.bucket (key % c.buckets)) answer
may_answer c now hand (calls.PutIf key value wanted) answer = may_put_if c key wanted (now.bucket (key % c.buckets)) answer
may_answer c now hand (calls.Remove key) answer = may_remove c key (now.bucket (key % c.buckets)) answer
may_answer c now hand (calls.Enqueue value) answer = may_enqueue c now answer
may_answer c now hand calls.Dequeue answer = may_dequeue now answer
may_answer c now hand (calls.Hold key) answer = may_hold (now.bucket (key % c.buckets)) answer
may_answer c now hand (calls.Copy from index) answer = may_copy (hand from) answer
may_answer c now hand (calls.Look index key) answer = may_look key (hand index) answer
may_answer c now hand calls.Release answers.Released = true
may_answer c now hand (calls.DropIndex index) answers.Dropped = true
may_answer c now hand calls.Advance (answers.Clock clock) = true
may_answer c now hand calls.Scan (answers.Scanned kept back) = true
may_answer c now hand calls.Leave (answers.Left count) = true
may_answer c now hand (calls.Adopt place) (answers.Adopted count) = true
may_answer c now hand (calls.Adopt place) answers.NotLeft = true
may_answer c now hand (calls.Adopt place) answers.AdoptedBefore = true
may_answer c now hand call answer = false

-- What it is then. Map and queue change where a call answers Done, Queued or Taken.

abbrev pub put_in : (key value : ℕ) → Filling → Filling
put_in key value at = record { version = at.version + 1; pairs = with_pair at.pairs key value }

abbrev pub take_out : ℕ → Filling → Filling
take_out key at = record { version = at.version + 1; pairs = without_key at.pairs key }

-- one bucket becomes another
abbrev pub change : ℕ → Filling → Object → Object
change b new now =
    record { bucket = λ other. if other == b then new else now.bucket other; waiting = now.waiting; queued = now.queued; taken = now.taken }

-- a value comes last
abbrev pub queue : ℕ → Object → Object
queue value now = record { bucket = now.bucket; waiting = now.waiting ++ value ∷ []; queued = now.queued + 1; taken = now.taken }

abbrev pub but_first : List ℕ → List ℕ
but_first [] = []
but_first (first ∷ later) = later

-- the first goes
abbrev pub take_one : Object → Object
take_one now = record { bucket = now.bucket; waiting = but_first now.waiting; queued = now.queued; taken = now.taken + 1 }

abbrev pub after : Config → Object → Call → Answer → Object
after c now (calls.Put key value) (answers.Done version clock) = change (key % c.buckets) (put_in key value (now.bucket (key % c.buckets))) now
after c now (calls.PutIf key value wanted) (answers.Done version clock) = change (key % c.buckets) (put_in key value (now.bucket (key % c.buckets))) now
after c now (calls.Remove key) (answers.Done version clock) = change (key % c.buckets) (take_out key (now.bucket (key % c.buckets))) now
after c now (calls.Enqueue value) (answers.Queued number) = queue value now
after c now calls.Dequeue (answers.Taken number value clock) = take_one now
after c now call answer = now

-- What the caller keeps then: a hold takes the bucket as it is, at index 2; a copy keeps the same at another index too; a release lets go
-- at index 2, a drop at its own, and who leaves keeps nothing.
abbrev pub with_kept : ℕ → Option Kept → Hand → Hand
with_kept index kept hand other = if other == index then kept else hand other

abbrev pub keeps : Config → Object → Hand → Call → Answer → Hand
keeps c now hand (calls.Hold key) (answers.Holding name) = with_kept 2 (Some (record { name = name; was = now.bucket (key % c.buckets) })) hand
keeps c now hand (calls.Hold key) answers.Nothing = with_kept 2 None hand
keeps c now hand (calls.Copy from index) (answers.Copied name) = with_kept index (hand from) hand
keeps c now hand calls.Release answer = with_kept 2 None hand
keeps c now hand (calls.DropIndex index) answer = with_kept index None hand
keeps c now hand calls.Leave answer = empty_hand
keeps c now hand call answer = hand
