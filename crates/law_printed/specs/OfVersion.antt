-- Schemes, calls, answers and events of a version: later versions have more of them.
use Rattle.std.specs.Prelude.{ℕ, ◌≤◌}
use Rattle.laws.specs.words.declared.config.Config.{Config}
use Rattle.laws.specs.words.declared.config.SchemeKind.{SchemeKind}
use Rattle.laws.specs.words.declared.config.SchemeKind.TheVariants.{Hp}
use Rattle.laws.specs.defs.declared.call.Answer.{Answer}
use Rattle.laws.specs.defs.declared.call.Answer.TheVariants as answers
use Rattle.laws.specs.defs.declared.call.Call.{Call}
use Rattle.laws.specs.defs.declared.call.Call.TheVariants as calls
use Rattle.laws.specs.defs.declared.event.Event.{Event}
use Rattle.laws.specs.defs.declared.event.Event.TheVariants as events
use Rattle.laws.specs.records.Record.{Past}
use Rattle.laws.specs.records.Record.Past.{Start, Then}
use Rattle.laws.specs.Laws.{Laws}

-- the version has the scheme
abbrev pub HasScheme : (version : ℕ) → SchemeKind → Type 0
HasScheme version Hp = 5 ≤ version
HasScheme version scheme = Unit {0}

-- the version has the call
abbrev pub HasCall : (version : ℕ) → Call → Type 0
HasCall version (calls.Copy from index) = 2 ≤ version
HasCall version (calls.DropIndex index) = 2 ≤ version
HasCall version (calls.Look index key) = 2 ≤ version
HasCall version (calls.PutIf key value number) = 3 ≤ version
HasCall version calls.Leave = 4 ≤ version
HasCall version (calls.Adopt place) = 4 ≤ version
HasCall version call = Unit {0}

-- the version has the answer
abbrev pub HasAnswer : (version : ℕ) → Answer → Type 0
HasAnswer version (answers.Copied slot) = 2 ≤ version
HasAnswer version answers.Dropped = 2 ≤ version
HasAnswer version (answers.Looked slot number value) = 2 ≤ version
HasAnswer version (answers.Stale number) = 3 ≤ version
HasAnswer version (answers.Left count) = 4 ≤ version
HasAnswer version (answers.Adopted count) = 4 ≤ version
HasAnswer version answers.NotLeft = 4 ≤ version
HasAnswer version answers.AdoptedBefore = 4 ≤ version
HasAnswer version answer = Unit {0}

-- the version has the event
abbrev pub HasEvent : (version : ℕ) → Event → Type 0
HasEvent version (events.Begin call) = HasCall version call
HasEvent version (events.End steps answer) = HasAnswer version answer
HasEvent version (events.Copied from index slot) = 2 ≤ version
HasEvent version (events.Hazard guard slot) = 5 ≤ version
HasEvent version (events.Saw guard slot) = 5 ≤ version
HasEvent version (events.Left count) = 4 ≤ version
HasEvent version (events.Adopted place count) = 4 ≤ version
HasEvent version event = Unit {0}

-- each call that the record begins is such
abbrev pub BeginsAll : (Call → Type 0) → Past → Type 0
BeginsAll such Start = Unit {0}
BeginsAll such (Then p i (events.Begin call)) = BeginsAll such p × such call
BeginsAll such (Then p i event) = BeginsAll such p

-- the version has each call that the record begins
abbrev pub BeginsOf : (version : ℕ) → Past → Type 0
BeginsOf version p = BeginsAll (HasCall version) p

-- the version has each event of the record
abbrev pub AreOf : (version : ℕ) → Past → Type 0
AreOf version Start = Unit {0}
AreOf version (Then p i event) = AreOf version p × HasEvent version event

-- a record that keeps all laws of a scheme that the version has tells only what the version has, where it begins only calls that the
-- version has
abbrev pub RecordsAreOf : Type 0
RecordsAreOf = (version : ℕ) (config : Config) (r : Past) → HasScheme version config.scheme → Laws config r → BeginsOf version r → AreOf version r
