-- Numbers, guards, roots and intervals in their ranges.
use Rattle.std.specs.Prelude.{◌<◌, ◌≤◌, ℕ, Option, Some, None}
use Rattle.wfe_words.specs.declared.config.Config.{Config}
use Rattle.wfe_defs.specs.declared.lifetime.Interval.{Interval}
use Rattle.wfe_defs.specs.declared.event.Guard.{Guard}
use Rattle.wfe_defs.specs.declared.event.Guard.TheVariants as guards
use Rattle.wfe_defs.specs.declared.event.Root.{Root}
use Rattle.wfe_defs.specs.declared.event.Root.TheVariants as roots

-- the number has 32 bits
abbrev pub IsShort : ℕ → Type 0
IsShort n = n < 4294967296

-- a setting whose numbers have 32 bits, as those of every value of the type do
pub record Small (config : Config) : Type 0 where
  pub seats : IsShort config.seats
  pub indexes : IsShort config.indexes
  pub slots : IsShort config.slots
  pub buckets : IsShort config.buckets

abbrev pub IsSeat : Config → ℕ → Type 0
IsSeat config seat = seat < config.seats

abbrev pub IsIndex : Config → ℕ → Type 0
IsIndex config index = index < config.indexes

-- a row, the queue's first one included
abbrev pub IsSlot : Config → ℕ → Type 0
IsSlot config slot = slot ≤ config.slots

abbrev pub IsBucket : Config → ℕ → Type 0
IsBucket config bucket = bucket < config.buckets

-- the version has what the first such version brought
abbrev pub Since : (first version : ℕ) → Type 0
Since first version = first ≤ version

abbrev pub IsGuard : Config → Guard → Type 0
IsGuard config (guards.Helper seat) = IsSeat config seat
IsGuard config (guards.Index seat index) = IsSeat config seat × IsIndex config index
IsGuard config (guards.Whole seat) = IsSeat config seat

abbrev pub IsSpan : Option Interval → Type 0
IsSpan None = Unit {0}
IsSpan (Some span) = IsShort span.lo × IsShort span.hi

-- a row, or none
abbrev pub IsShown : Config → Option ℕ → Type 0
IsShown config None = Unit {0}
IsShown config (Some slot) = IsSlot config slot

abbrev pub IsRoot : Config → Root → Type 0
IsRoot config (roots.Bucket bucket) = IsBucket config bucket
IsRoot config roots.Head = Unit {0}
IsRoot config roots.Tail = Unit {0}
IsRoot config (roots.Next slot) = IsSlot config slot
