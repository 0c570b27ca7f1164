-- The queue: the record has one value queued with each number up to the last, and one taken with each number up to the last that was
-- taken, and so have the logs.
use Rattle.std.proofs.Common.{ℕ, ◌≡◌, ◌+◌, Bool, false, true, List, [], ◌∷◌, ◌++◌, length, refl, sym, ap, ◌∙◌, arith}
use Rattle.std.proofs.lemmas.List.{length-append}
use Rattle.std.specs.Prelude.{count_by, if◌then◌else◌, ◌==◌}
use Rattle.law_all.proofs.inv.model.Facts.{number_is}
use Rattle.law_all.specs.inv.model.Desks.{Notes}
use Rattle.law_all.specs.inv.model.defs.declared.call.Answer.{Answer}
use Rattle.law_all.specs.inv.model.defs.declared.call.Answer.TheVariants as answers
use Rattle.law_all.specs.inv.model.defs.declared.call.Call.{Call}
use Rattle.law_all.specs.inv.model.defs.declared.call.Call.TheVariants as calls
use Rattle.law_all.specs.inv.model.defs.declared.event.Event.{Event}
use Rattle.law_all.specs.inv.model.defs.declared.event.Event.TheVariants as events
use Rattle.law_all.specs.inv.model.words.declared.layout.Layout.{Layout}
use Rattle.law_all.specs.laws.HistoryAnswers.{owes}
use Rattle.law_all.specs.laws.QueueLaw.{queue_ok}
use Rattle.law_all.specs.laws.StateAt.{one, told}
use Rattle.law_all.specs.laws.StructuresAt.{queued_of, taken_of}
use Rattle.law_all.specs.inv.history.History.{Item, record_of}
use Rattle.law_all.specs.inv.history.Record.{Each, Past}
use Rattle.law_all.specs.inv.history.Record.Past.{Start, Then}
use Rattle.law_all.specs.RunLaw.{is_queued_as, is_taken_as, once_up_to, total_of}
use Rattle.law_all.specs.Runs.{AtRest, logs_of}
use Rattle.law_all.proofs.Runs.Kept.{histories_keep}
use Rattle.law_all.proofs.Runs.Numbers.{first_is, once_more, once_none}
use Rattle.law_all.proofs.Runs.Tellings.{OfAnswers, OfHeard, answers_add_up, is_heard}

-- the value with this number
abbrev is_queued_told : (number : ℕ) → Event → Bool
is_queued_told number (events.Queued other value) = other == number
is_queued_told number event = false

abbrev is_taken_told : (number : ℕ) → Event → Bool
is_taken_told number (events.Taken other value) = other == number
is_taken_told number event = false

queued_heard : (number : ℕ) → OfHeard (is_queued_told number)
queued_heard number = record { quiet = quiet }
  where
    quiet : (event : Event) → is_heard event ≡ false → is_queued_told number event ≡ false
    quiet (events.Queued other value) h = absurd (cc)
    quiet event h = refl

taken_heard : (number : ℕ) → OfHeard (is_taken_told number)
taken_heard number = record { quiet = quiet }
  where
    quiet : (event : Event) → is_heard event ≡ false → is_taken_told number event ≡ false
    quiet (events.Taken other value) h = absurd (cc)
    quiet event h = refl

queued_owed : (n number : ℕ) → OfAnswers n (is_queued_as number) (is_queued_told number)
queued_owed n number = record { owed = owed }
  where
    owed :
        (call : Call) (answer : Answer) (notes : Notes)
        → (if is_queued_as number (record { call = call; answer = answer; notes = notes }) then 1 else 0)
        ≡ count_by (is_queued_told number) (owes n call answer)
    owed (calls.Get key) (answers.Got version value) notes = refl
    owed (calls.Put key value) (answers.Done version clock) notes = refl
    owed (calls.Remove key) (answers.Done version clock) notes = refl
    owed (calls.PutIf key value wanted) (answers.Done version clock) notes = refl
    owed (calls.Copy from index) (answers.Copied slot) notes = refl
    owed (calls.Enqueue value) (answers.Queued other) notes = omega arith
    owed calls.Dequeue (answers.Taken other value clock) notes = refl
    owed calls.Leave (answers.Left count) notes = refl
    owed (calls.Adopt place) (answers.Adopted count) notes = refl
    owed call answer notes = refl

taken_owed : (n number : ℕ) → OfAnswers n (is_taken_as number) (is_taken_told number)
taken_owed n number = record { owed = owed }
  where
    owed :
        (call : Call) (answer : Answer) (notes : Notes)
        → (if is_taken_as number (record { call = call; answer = answer; notes = notes }) then 1 else 0)
        ≡ count_by (is_taken_told number) (owes n call answer)
    owed (calls.Get key) (answers.Got version value) notes = refl
    owed (calls.Put key value) (answers.Done version clock) notes = refl
    owed (calls.Remove key) (answers.Done version clock) notes = refl
    owed (calls.PutIf key value wanted) (answers.Done version clock) notes = refl
    owed (calls.Copy from index) (answers.Copied slot) notes = refl
    owed (calls.Enqueue value) (answers.Queued other) notes = refl
    owed calls.Dequeue (answers.Taken other value clock) notes = omega arith
    owed calls.Leave (answers.Left count) notes = refl
    owed (calls.Adopt place) (answers.Adopted count) notes = refl
    owed call answer notes = refl

-- in the record
abbrev QueuedNumbered : ℕ → Past → Type 0
QueuedNumbered number p = told (is_queued_told number) p ≡ once_up_to (length (queued_of p)) number

abbrev TakenNumbered : ℕ → Past → Type 0
TakenNumbered number p = told (is_taken_told number) p ≡ once_up_to (taken_of p) number

queued_entry : (number i : ℕ) (p : Past) (event : Event) → queue_ok p i event ≡ true → QueuedNumbered number p → QueuedNumbered number (Then p i event)
queued_entry number i p (events.Queued other value) h g =
    let q : other ≡ length (queued_of p) + 1 = number_is other (length (queued_of p) + 1) h in
    let next : length (queued_of p ++ value ∷ []) ≡ other = length-append (queued_of p) (value ∷ []) ∙ sym q in
    let more : once_up_to other number ≡ once_up_to (length (queued_of p)) number + one (other == number) =
    once_more (length (queued_of p)) other number q in
    rw (next, more) (ap (λ (x : ℕ). x + one (other == number)) g)
queued_entry number i p event h g = let before : told (is_queued_told number) p ≡ once_up_to (length (queued_of p)) number = g in omega arith

taken_entry : (number i : ℕ) (p : Past) (event : Event) → queue_ok p i event ≡ true → TakenNumbered number p → TakenNumbered number (Then p i event)
taken_entry number i p (events.Taken other value) h g =
    let q : other ≡ taken_of p + 1 = first_is other (taken_of p + 1) _ h in
    let more : once_up_to other number ≡ once_up_to (taken_of p) number + one (other == number) = once_more (taken_of p) other number q in
    rw (← q, more) (ap (λ (x : ℕ). x + one (other == number)) g)
taken_entry number i p event h g = let before : told (is_taken_told number) p ≡ once_up_to (taken_of p) number = g in omega arith

queued_numbered : (number : ℕ) (p : Past) → Each queue_ok p → QueuedNumbered number p
queued_numbered number Start h = sym (once_none number)
queued_numbered number (Then p i event) h = queued_entry number i p event h.0 (queued_numbered number p h.1)

taken_numbered : (number : ℕ) (p : Past) → Each queue_ok p → TakenNumbered number p
taken_numbered number Start h = sym (once_none number)
taken_numbered number (Then p i event) h = taken_entry number i p event h.0 (taken_numbered number p h.1)

-- and in the logs
pub queued_add_up :
    (layout : Layout) (items : List Item) (number : ℕ)
    → AtRest layout items
    → total_of (is_queued_as number) (logs_of layout items) ≡ once_up_to (length (queued_of (record_of layout items))) number
queued_add_up layout items number a =
    answers_add_up layout items (is_queued_as number) (is_queued_told number) (queued_heard number) (queued_owed layout.config.buckets number) a
    ∙ queued_numbered number (record_of layout items) (histories_keep layout items a.valid).queue

pub taken_add_up :
    (layout : Layout) (items : List Item) (number : ℕ)
    → AtRest layout items
    → total_of (is_taken_as number) (logs_of layout items) ≡ once_up_to (taken_of (record_of layout items)) number
taken_add_up layout items number a =
    answers_add_up layout items (is_taken_as number) (is_taken_told number) (taken_heard number) (taken_owed layout.config.buckets number) a
    ∙ taken_numbered number (record_of layout items) (histories_keep layout items a.valid).queue
