-- Which records are good: what is judged of a record by itself, whoever made it.
use Rattle.std.specs.Prelude.{ℕ, List, true, ◌≤◌, if◌then◌else◌, nat_le}
use Rattle.laws.specs.words.declared.config.Config.{Config}
use Rattle.laws.specs.defs.Entry.{Entry}
use Rattle.laws.specs.defs.declared.event.Event.TheVariants as events
use Rattle.laws.specs.records.Record.{Past, Test, EachEntry, tells}
use Rattle.laws.specs.EraLaw.{EraLaw}
use Rattle.laws.specs.HoldLaw.{HeldThroughout, sources_ok, finds_ok, gots_ok, links_ok, behind_ok, bare_ok, guards_rest}
use Rattle.laws.specs.Laws.{Laws}
use Rattle.laws.specs.MapLaw.{MapLaw}
use Rattle.laws.specs.NoReuse.{NoReuse}
use Rattle.laws.specs.Once.{Once}
use Rattle.laws.specs.QueueLaw.{QueueLaw}
use Rattle.laws.specs.ScanLaw.{ScanLaw}
use Rattle.laws.specs.Standing.{open_ok}
use Rattle.laws.specs.StepLaw.{StepLaw}

-- the setting with the indexes that the version speaks of: the first has no call that lets a row stand at an index above 2
abbrev pub named_indexes : ℕ → Config → Config
named_indexes version config = if nat_le 2 version then config else record config { indexes = 3 }

-- where a call ends its seat's guards publish nothing, but for what is held on
abbrev pub rests_of : ℕ → Config → Test
rests_of version config p i (events.End steps answer) = guards_rest (named_indexes version config) i p
rests_of version config p i event = true

-- A record whose calls begin and end in turn, and that keeps each law of its version from the one on reuse to the one on steps. It may
-- end anywhere: what a law asks for later binds where the call ends. What is no part of it: which calls use which indexes, that a row is
-- cleared only where it stands and copied only upwards, and what answers say.
pub record Good (version : ℕ) (config : Config) (r : Past) : Type 0 where
  -- calls begin where their seat is in none and has not left, and all else is told in a call
  pub calls : EachEntry open_ok r
  -- no row is used again while it stands
  pub no_reuse : NoReuse r
  -- each row is given, linked, cut, retired and given back in this order
  pub once : Once config.slots r
  -- each scan keeps just the rows that something which it read keeps
  pub scans : ScanLaw config r
  -- the clock, lifetimes and reservations
  pub eras : EraLaw config r
  -- at each position what stands is taken, and what the guard of its index publishes keeps its life
  pub throughout : HeldThroughout config r
  -- what a call holds at its root, or that there is nothing, the root had at a position of the call
  pub sources : EachEntry (sources_ok config) r
  -- where a call ends it has held the row of its root, or told that there is none
  pub finds : EachEntry finds_ok r
  -- a get tells a version whose row stands, or that it has found none
  pub gots : EachEntry gots_ok r
  -- the row that a link replaces, or behind which it links, stands at index 0, and the head's next row at index 1
  pub links : EachEntry (links_ok config.slots) r
  -- what is held at index 1 is the next row of the head's row, and where nothing is, that had none at a position of the call
  pub behind : EachEntry (behind_ok config.slots) r
  -- where a call ends nothing stands at index 0 or 1 of its seat
  pub bare : EachEntry bare_ok r
  -- and its seat's guards publish nothing, but for what is held on
  pub rests : EachEntry (rests_of version config) r
  -- the n-th change of a bucket tells version n, and a get its key's value at a version current during its call
  pub map : MapLaw config.buckets r
  -- the n-th value queued has number n, and so has the n-th taken, which is that value and was queued before
  pub queue : QueueLaw r
  -- how many steps protections and calls take
  pub steps : StepLaw config r

-- a good record that is cut after any entry is good
abbrev pub CutsAreGood : Type 0
CutsAreGood = (version : ℕ) (config : Config) (p : Past) (later : List Entry) → Good version config (tells p later) → Good version config p

-- a record that keeps all laws is good by those of version 2 and later
abbrev pub LawfulIsGood : Type 0
LawfulIsGood = (version : ℕ) (config : Config) (r : Past) → 2 ≤ version → Laws config r → Good version config r
