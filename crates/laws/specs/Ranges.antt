-- Entries whose numbers lie in a setting's ranges: seats, indexes, slots with the queue's first row, and buckets.
use Rattle.std.specs.Prelude.{None, Option, Some, ℕ, ◌<◌, ◌≤◌}
use Rattle.laws.specs.words.declared.config.Config.{Config}
use Rattle.laws.specs.defs.declared.call.Call.{Call}
use Rattle.laws.specs.defs.declared.call.Call.TheVariants as calls
use Rattle.laws.specs.defs.declared.event.Event.{Event}
use Rattle.laws.specs.defs.declared.event.Event.TheVariants as events
use Rattle.laws.specs.defs.declared.event.Guard.{Guard}
use Rattle.laws.specs.defs.declared.event.Guard.TheVariants.{Helper, Index, Whole}
use Rattle.laws.specs.defs.declared.event.Root.{Root}
use Rattle.laws.specs.defs.declared.event.Root.TheVariants as roots

abbrev pub GuardIn : Config → Guard → Type 0
GuardIn config (Helper seat) = seat < config.seats
GuardIn config (Index seat index) = (seat < config.seats) × (index < config.indexes)
GuardIn config (Whole seat) = seat < config.seats

abbrev pub RootIn : Config → Root → Type 0
RootIn config (roots.Bucket bucket) = bucket < config.buckets
RootIn config (roots.Next parent) = parent ≤ config.slots
RootIn config root = Unit {0}

abbrev pub CallIn : Config → Call → Type 0
CallIn config (calls.Copy from index) = (from < config.indexes) × (index < config.indexes)
CallIn config call = Unit {0}

-- a row of the table, or none
abbrev pub RowIn : Config → Option ℕ → Type 0
RowIn config None = Unit {0}
RowIn config (Some slot) = slot ≤ config.slots

abbrev pub EventIn : Config → Event → Type 0
EventIn config (events.Begin call) = CallIn config call
EventIn config (events.Reserve guard span) = GuardIn config guard
EventIn config (events.Read guard span) = GuardIn config guard
EventIn config (events.Hazard guard slot) = GuardIn config guard × RowIn config slot
EventIn config (events.Saw guard slot) = GuardIn config guard × RowIn config slot
EventIn config (events.Give slot birth) = slot ≤ config.slots
EventIn config (events.Unused slot) = slot ≤ config.slots
EventIn config (events.Link root slot) = RootIn config root × (slot ≤ config.slots)
EventIn config (events.Cut slot) = slot ≤ config.slots
EventIn config (events.Retire slot birth retire) = slot ≤ config.slots
EventIn config (events.Back slot) = slot ≤ config.slots
EventIn config (events.Held index slot steps) = (index < config.indexes) × (slot ≤ config.slots)
EventIn config (events.Null index steps) = index < config.indexes
EventIn config (events.Clear index slot) = (index < config.indexes) × (slot ≤ config.slots)
EventIn config (events.Copied from index slot) = (from < config.indexes) × (index < config.indexes) × (slot ≤ config.slots)
EventIn config (events.Put bucket number key value) = bucket < config.buckets
EventIn config (events.Removed bucket number key) = bucket < config.buckets
EventIn config (events.Got bucket number key value) = bucket < config.buckets
EventIn config (events.Adopted place count) = place < config.seats
EventIn config event = Unit {0}

-- so it is with an entry
pub record EntryIn (config : Config) (seat : ℕ) (event : Event) : Type 0 where
  pub seated : seat < config.seats
  pub within : EventIn config event
