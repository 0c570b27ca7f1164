-- What a call may tell and answer its version has, where it has the call.
use Rattle.std.proofs.Common.{ℕ, ◌≡◌, ◌≤◌, ◌==◌, if◌then◌else◌, Bool, true, false, Option, Some, None}
use Rattle.wfe_defs.proofs.Facts.{first_of}
use Rattle.laws.proofs.records.Entries.{each_of_entries}
use Rattle.laws.specs.defs.declared.call.Answer.{Answer}
use Rattle.laws.specs.defs.declared.call.Answer.TheVariants as answers
use Rattle.laws.specs.defs.declared.call.Call.{Call}
use Rattle.laws.specs.defs.declared.call.Call.TheVariants as calls
use Rattle.laws.specs.defs.declared.event.Event.{Event}
use Rattle.laws.specs.defs.declared.event.Event.TheVariants as events
use Rattle.laws.specs.records.Record.{Past, Each}
use Rattle.laws.specs.records.Record.Past.{Start, Then}
use Rattle.laws.specs.AnswerLaw.{answer_right, answers_ok, suits}
use Rattle.laws.specs.EraLaw.{kind_ok}
use Rattle.laws.specs.Once.{is_adopt, lists_ok}
use Rattle.laws.specs.Standing.{copies_ok, is_copy, is_leave}
use Rattle.laws.specs.StateAt.{began_by, began_of}
use Rattle.laws.specs.words.Schemes.{publishes_rows}
use Rattle.laws.specs.words.declared.config.SchemeKind.{SchemeKind}
use Rattle.laws.specs.words.declared.config.SchemeKind.TheVariants.{He, Hp, Ibr, Wfe}
use Rattle.law_printed.specs.OfVersion.{AreOf, BeginsOf, HasAnswer, HasCall, HasEvent, HasScheme, RecordsAreOf}

-- the version has the call, if there is one
abbrev HasBegan : (version : ℕ) → Option Call → Type 0
HasBegan version None = Unit {0}
HasBegan version (Some call) = HasCall version call

began_then : (version : ℕ) (own : Bool) (event : Event) (before : Option Call) → HasBegan version (began_by event before) → HasBegan version before → HasBegan version (if own then began_by event before else before)
began_then version true event before h g = h
began_then version false event before h g = g

began_next : (version i k : ℕ) (event : Event) (p : Past) → BeginsOf version (Then p k event) → (BeginsOf version p → HasBegan version (began_of i p)) → HasBegan version (began_of i (Then p k event))
began_next version i k (events.Begin call) p h g = began_then version (i == k) (events.Begin call) (began_of i p) h.1 (g h.0)
began_next version i k event p h g = began_then version (i == k) event (began_of i p) (g h) (g h)

-- the call that a seat began last is one of the version
began_has : (version i : ℕ) (p : Past) → BeginsOf version p → HasBegan version (began_of i p)
began_has version i Start h = tt
began_has version i (Then p k event) h = began_next version i k event p h (began_has version i p)

begins_before : (version k : ℕ) (event : Event) (p : Past) → BeginsOf version (Then p k event) → BeginsOf version p
begins_before version k (events.Begin call) p h = h.0
begins_before version k event p h = h

-- each of the later answers is of a call of its own
copied_has : (version : ℕ) (call : Call) (slot : ℕ) → suits call (answers.Copied slot) ≡ true → HasCall version call → 2 ≤ version
copied_has version (calls.Copy from index) slot e h = h
copied_has version call slot e h = absurd (cc)

dropped_has : (version : ℕ) (call : Call) → suits call answers.Dropped ≡ true → HasCall version call → 2 ≤ version
dropped_has version (calls.DropIndex index) e h = h
dropped_has version call e h = absurd (cc)

looked_has : (version : ℕ) (call : Call) (slot number : ℕ) (value : Option ℕ) → suits call (answers.Looked slot number value) ≡ true → HasCall version call → 2 ≤ version
looked_has version (calls.Look index key) slot number value e h = h
looked_has version call slot number value e h = absurd (cc)

stale_has : (version : ℕ) (call : Call) (number : ℕ) → suits call (answers.Stale number) ≡ true → HasCall version call → 3 ≤ version
stale_has version (calls.PutIf key value wanted) number e h = h
stale_has version call number e h = absurd (cc)

left_has : (version : ℕ) (call : Call) (count : ℕ) → suits call (answers.Left count) ≡ true → HasCall version call → 4 ≤ version
left_has version calls.Leave count e h = h
left_has version call count e h = absurd (cc)

adopted_has : (version : ℕ) (call : Call) (count : ℕ) → suits call (answers.Adopted count) ≡ true → HasCall version call → 4 ≤ version
adopted_has version (calls.Adopt place) count e h = h
adopted_has version call count e h = absurd (cc)

not_left_has : (version : ℕ) (call : Call) → suits call answers.NotLeft ≡ true → HasCall version call → 4 ≤ version
not_left_has version (calls.Adopt place) e h = h
not_left_has version call e h = absurd (cc)

adopted_before_has : (version : ℕ) (call : Call) → suits call answers.AdoptedBefore ≡ true → HasCall version call → 4 ≤ version
adopted_before_has version (calls.Adopt place) e h = h
adopted_before_has version call e h = absurd (cc)

answer_has : (version : ℕ) (call : Call) (answer : Answer) → suits call answer ≡ true → HasCall version call → HasAnswer version answer
answer_has version call (answers.Copied slot) e h = copied_has version call slot e h
answer_has version call answers.Dropped e h = dropped_has version call e h
answer_has version call (answers.Looked slot number value) e h = looked_has version call slot number value e h
answer_has version call (answers.Stale number) e h = stale_has version call number e h
answer_has version call (answers.Left count) e h = left_has version call count e h
answer_has version call (answers.Adopted count) e h = adopted_has version call count e h
answer_has version call answers.NotLeft e h = not_left_has version call e h
answer_has version call answers.AdoptedBefore e h = adopted_before_has version call e h
answer_has version call answer e h = tt

end_has : (version n i : ℕ) (p : Past) (began : Option Call) (answer : Answer) → answer_right n i p began answer ≡ true → HasBegan version began → HasAnswer version answer
end_has version n i p None answer e h = absurd (cc)
end_has version n i p (Some call) answer e h = answer_has version call answer (first_of (suits call answer) _ e) h

-- and so are the later events
copy_has : (version from index : ℕ) (began : Option Call) → is_copy from index began ≡ true → HasBegan version began → 2 ≤ version
copy_has version from index None e h = absurd (cc)
copy_has version from index (Some (calls.Copy one other)) e h = h
copy_has version from index (Some call) e h = absurd (cc)

leave_has : (version : ℕ) (began : Option Call) → is_leave began ≡ true → HasBegan version began → 4 ≤ version
leave_has version None e h = absurd (cc)
leave_has version (Some calls.Leave) e h = h
leave_has version (Some call) e h = absurd (cc)

adopt_has : (version place : ℕ) (began : Option Call) → is_adopt place began ≡ true → HasBegan version began → 4 ≤ version
adopt_has version place None e h = absurd (cc)
adopt_has version place (Some (calls.Adopt other)) e h = h
adopt_has version place (Some call) e h = absurd (cc)

row_has : (version : ℕ) (scheme : SchemeKind) → publishes_rows scheme ≡ true → HasScheme version scheme → 5 ≤ version
row_has version Hp e h = h
row_has version He e h = absurd (cc)
row_has version Ibr e h = absurd (cc)
row_has version Wfe e h = absurd (cc)

event_has : (version n : ℕ) (scheme : SchemeKind) (p : Past) (i : ℕ) (event : Event) → HasScheme version scheme → kind_ok scheme p i event ≡ true → answers_ok n p i event ≡ true → copies_ok p i event ≡ true → lists_ok p i event ≡ true → BeginsOf version (Then p i event) → HasEvent version event
event_has version n scheme p i (events.Begin call) s k a c l h = h.1
event_has version n scheme p i (events.End steps answer) s k a c l h = end_has version n i p (began_of i p) answer a (began_has version i p h)
event_has version n scheme p i (events.Copied from index slot) s k a c l h = copy_has version from index (began_of i p) (first_of (is_copy from index (began_of i p)) _ c) (began_has version i p h)
event_has version n scheme p i (events.Left count) s k a c l h = leave_has version (began_of i p) (first_of (is_leave (began_of i p)) _ l) (began_has version i p h)
event_has version n scheme p i (events.Adopted place count) s k a c l h = adopt_has version place (began_of i p) (first_of (is_adopt place (began_of i p)) _ l) (began_has version i p h)
event_has version n scheme p i (events.Hazard guard slot) s k a c l h = row_has version scheme k s
event_has version n scheme p i (events.Saw guard slot) s k a c l h = row_has version scheme (first_of (publishes_rows scheme) _ k) s
event_has version n scheme p i event s k a c l h = tt

all_has : (version n : ℕ) (scheme : SchemeKind) (p : Past) → HasScheme version scheme → Each (kind_ok scheme) p → Each (answers_ok n) p → Each copies_ok p → Each lists_ok p → BeginsOf version p → AreOf version p
all_has version n scheme Start s k a c l h = tt
all_has version n scheme (Then p i event) s k a c l h =
    (all_has version n scheme p s k.1 a.1 c.1 l.1 (begins_before version i event p h), event_has version n scheme p i event s k.0 a.0 c.0 l.0 h)

pub records_are_of : RecordsAreOf
records_are_of version config r s laws h =
    all_has version config.buckets config.scheme r s
    (each_of_entries (kind_ok config.scheme) r laws.eras.kinds)
    (each_of_entries (answers_ok config.buckets) r laws.answers.told)
    (each_of_entries copies_ok r laws.standing.copies)
    (each_of_entries lists_ok r laws.once.lists) h
