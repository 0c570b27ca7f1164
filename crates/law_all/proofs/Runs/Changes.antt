-- The map: the record has one change of a bucket with each version up to the bucket's own, and so have the logs.
use Rattle.std.proofs.Common.{ℕ, ◌≡◌, ◌+◌, Bool, true, false, List, [], ◌∷◌, ◌++◌, length, refl, sym, ap, ◌∙◌, subst, arith}
use Rattle.std.proofs.lemmas.List.{length-append}
use Rattle.std.specs.Prelude.{count_by, if◌then◌else◌, ◌&&◌, ◌==◌}
use Rattle.law_all.proofs.inv.model.Facts.{number_is}
use Rattle.law_all.specs.inv.model.Desks.{Notes}
use Rattle.law_all.specs.inv.model.defs.declared.call.Answer.{Answer}
use Rattle.law_all.specs.inv.model.defs.declared.call.Answer.TheVariants as answers
use Rattle.law_all.specs.inv.model.defs.declared.call.Call.{Call}
use Rattle.law_all.specs.inv.model.defs.declared.call.Call.TheVariants as calls
use Rattle.law_all.specs.inv.model.defs.declared.event.Event.{Event}
use Rattle.law_all.specs.inv.model.defs.declared.event.Event.TheVariants as events
use Rattle.law_all.specs.inv.model.defs.declared.fold.Change.{Change}
use Rattle.law_all.specs.inv.model.defs.declared.fold.Change.TheVariants as changes
use Rattle.law_all.specs.inv.model.words.declared.layout.Layout.{Layout}
use Rattle.law_all.specs.laws.HistoryAnswers.{owes}
use Rattle.law_all.specs.laws.MapLaw.{map_ok}
use Rattle.law_all.specs.laws.StateAt.{one, told}
use Rattle.law_all.specs.laws.StructuresAt.{bucket_of, changes_of, count_of}
use Rattle.law_all.specs.inv.history.History.{Item, record_of}
use Rattle.law_all.specs.inv.history.Record.{Each, Past}
use Rattle.law_all.specs.inv.history.Record.Past.{Start, Then}
use Rattle.law_all.specs.RunLaw.{is_change_of, once_up_to, total_of}
use Rattle.law_all.specs.Runs.{AtRest, logs_of}
use Rattle.law_all.proofs.Runs.Kept.{histories_keep}
use Rattle.law_all.proofs.Runs.Numbers.{differs_either, first_is, once_more, once_none, same_either}
use Rattle.law_all.proofs.Runs.Tellings.{OfAnswers, OfHeard, answers_add_up, is_heard}

-- the change of bucket b with this version
abbrev is_change_told : (b version : ℕ) → Event → Bool
is_change_told b version (events.Put bucket number key value) = bucket == b && number == version
is_change_told b version (events.Removed bucket number key) = bucket == b && number == version
is_change_told b version event = false

change_heard : (b version : ℕ) → OfHeard (is_change_told b version)
change_heard b version = record { quiet = quiet }
  where
    quiet : (event : Event) → is_heard event ≡ false → is_change_told b version event ≡ false
    quiet (events.Put bucket number key value) h = absurd (cc)
    quiet (events.Removed bucket number key) h = absurd (cc)
    quiet event h = refl

change_owed : (n b version : ℕ) → OfAnswers n (is_change_of n b version) (is_change_told b version)
change_owed n b version = record { owed = owed }
  where
    owed :
        (call : Call) (answer : Answer) (notes : Notes)
        → (if is_change_of n b version (record { call = call; answer = answer; notes = notes }) then 1 else 0)
        ≡ count_by (is_change_told b version) (owes n call answer)
    owed (calls.Get key) (answers.Got number value) notes = refl
    owed (calls.Put key value) (answers.Done number clock) notes = omega arith
    owed (calls.Remove key) (answers.Done number clock) notes = omega arith
    owed (calls.PutIf key value wanted) (answers.Done number clock) notes = omega arith
    owed (calls.Copy from index) (answers.Copied slot) notes = refl
    owed (calls.Enqueue value) (answers.Queued number) notes = refl
    owed calls.Dequeue (answers.Taken number value clock) notes = refl
    owed calls.Leave (answers.Left count) notes = refl
    owed (calls.Adopt place) (answers.Adopted count) notes = refl
    owed call answer notes = refl

-- in the record
abbrev Numbered : (b version : ℕ) → Past → Type 0
Numbered b version p = told (is_change_told b version) p ≡ once_up_to (count_of b p) version

numbered_more :
    (b bucket version number : ℕ) (p : Past) (change : Change) (same : Bool)
    → (bucket == b) ≡ same
    → number ≡ count_of bucket p + 1
    → Numbered b version p
    → told (is_change_told b version) p + one (bucket == b && number == version)
    ≡ once_up_to (length (if b == bucket then changes_of b p ++ change ∷ [] else changes_of b p)) version
numbered_more b bucket version number p change true e h g =
    let t : (b == bucket) ≡ true = same_either bucket b e in
    let q : number ≡ count_of b p + 1 = subst (λ (x : ℕ). number ≡ count_of x p + 1) (number_is bucket b e) h in
    let next : length (changes_of b p ++ change ∷ []) ≡ number = length-append (changes_of b p) (change ∷ []) ∙ sym q in
    let more : once_up_to number version ≡ once_up_to (count_of b p) version + one (number == version) = once_more (count_of b p) number version q in
    rw (t, e, next, more) (ap (λ (x : ℕ). x + one (number == version)) g)
numbered_more b bucket version number p change false e h g =
    let t : (b == bucket) ≡ false = differs_either bucket b e in
    rw (t, e) (let before : told (is_change_told b version) p ≡ once_up_to (count_of b p) version = g in omega arith)

numbered_entry : (n b version i : ℕ) (p : Past) (event : Event) → map_ok n p i event ≡ true → Numbered b version p → Numbered b version (Then p i event)
numbered_entry n b version i p (events.Put bucket number key value) h g =
    let next : number ≡ count_of bucket p + 1 = first_is number (count_of bucket p + 1) (bucket == bucket_of n key) h in
    numbered_more b bucket version number p (changes.Put key value) (bucket == b) refl next g
numbered_entry n b version i p (events.Removed bucket number key) h g =
    let next : number ≡ count_of bucket p + 1 = first_is number (count_of bucket p + 1) (bucket == bucket_of n key) h in
    numbered_more b bucket version number p (changes.Removed key) (bucket == b) refl next g
numbered_entry n b version i p event h g = let before : told (is_change_told b version) p ≡ once_up_to (count_of b p) version = g in omega arith

numbered : (n b version : ℕ) (p : Past) → Each (map_ok n) p → Numbered b version p
numbered n b version Start h = sym (once_none version)
numbered n b version (Then p i event) h = numbered_entry n b version i p event h.0 (numbered n b version p h.1)

-- and in the logs
pub changes_add_up :
    (layout : Layout) (items : List Item) (b version : ℕ)
    → AtRest layout items
    → total_of (is_change_of layout.config.buckets b version) (logs_of layout items) ≡ once_up_to (count_of b (record_of layout items)) version
changes_add_up layout items b version a =
    let n : ℕ = layout.config.buckets in
    answers_add_up layout items (is_change_of n b version) (is_change_told b version) (change_heard b version) (change_owed n b version) a
    ∙ numbered n b version (record_of layout items) (histories_keep layout items a.valid).map
