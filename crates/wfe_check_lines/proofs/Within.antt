-- The entries of a record's lines lie in its setting's ranges.
use Rattle.std.proofs.Common.{ℕ, List, None, Option, Some}
use Rattle.wfe_words.specs.declared.config.Config.{Config}
use Rattle.wfe_defs.specs.declared.call.Call.{Call}
use Rattle.wfe_defs.specs.declared.call.Call.TheVariants as calls
use Rattle.wfe_defs.specs.declared.event.Event.{Event}
use Rattle.wfe_defs.specs.declared.event.Event.TheVariants as events
use Rattle.wfe_defs.specs.declared.event.Guard.{Guard}
use Rattle.wfe_defs.specs.declared.event.Guard.TheVariants as guards
use Rattle.wfe_defs.specs.declared.event.Root.{Root}
use Rattle.wfe_defs.specs.declared.event.Root.TheVariants as roots
use Rattle.laws.specs.Ranges.{CallIn, EntryIn, EventIn, GuardIn, RootIn, RowIn}
use Rattle.wfe_record.specs.Entry.{IsEntry, IsEvent}
use Rattle.wfe_record.specs.record_calls.Calls.{IsCall}
use Rattle.wfe_record.specs.record_words.Within.{IsGuard, IsRoot, IsShown}

guard_in : (config : Config) (guard : Guard) → IsGuard config guard → GuardIn config guard
guard_in config (guards.Helper seat) is = is
guard_in config (guards.Index seat index) is = is
guard_in config (guards.Whole seat) is = is

row_in : (config : Config) (slot : Option ℕ) → IsShown config slot → RowIn config slot
row_in config None is = tt
row_in config (Some slot) is = is

root_in : (config : Config) (root : Root) → IsRoot config root → RootIn config root
root_in config (roots.Bucket bucket) is = is
root_in config roots.Head is = tt
root_in config roots.Tail is = tt
root_in config (roots.Next slot) is = is

call_in : (version : ℕ) (config : Config) (call : Call) → IsCall version config call → CallIn config call
call_in version config (calls.Copy from index) is = (is.1, is.2)
call_in version config call is = tt

event_in : (version : ℕ) (config : Config) (event : Event) → IsEvent version config event → EventIn config event
event_in version config (events.Begin call) is = call_in version config call is
event_in version config (events.End steps answer) is = tt
event_in version config (events.Era era) is = tt
event_in version config (events.Reserve guard span) is = guard_in config guard is.0
event_in version config (events.Read guard span) is = guard_in config guard is.0
event_in version config (events.Hazard guard slot) is = (guard_in config guard is.1, row_in config slot is.2)
event_in version config (events.Saw guard slot) is = (guard_in config guard is.1, row_in config slot is.2)
event_in version config (events.Give slot birth) is = is.0
event_in version config (events.Unused slot) is = is
event_in version config (events.Link root slot) is = (root_in config root is.0, is.1)
event_in version config (events.Cut slot) is = is
event_in version config (events.Retire slot birth retire) is = is.0
event_in version config (events.Back slot) is = is
event_in version config (events.Held index slot steps) is = (is.0, is.1)
event_in version config (events.Null index steps) is = is.0
event_in version config (events.Clear index slot) is = is
event_in version config (events.Copied from index slot) is = (is.1, is.2, is.3)
event_in version config (events.Put bucket number key value) is = is.0
event_in version config (events.Removed bucket number key) is = is.0
event_in version config (events.Got bucket number key value) is = is.0
event_in version config (events.Queued number value) is = tt
event_in version config (events.Taken number value) is = tt
event_in version config (events.Left count) is = tt
event_in version config (events.Adopted place count) is = is.1

-- an entry that a line tells
pub entry_in_range : (version : ℕ) (config : Config) (bytes : List ℕ) (seat : ℕ) (event : Event) → IsEntry version config bytes seat event → EntryIn config seat event
entry_in_range version config bytes seat event is = record { seated = is.seated; within = event_in version config event is.within }
