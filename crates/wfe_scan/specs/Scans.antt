-- A scan's steps, whatever comes after it.
use Rattle.std.specs.Prelude.{ℕ, ◌≡◌, ◌<◌, ◌+◌, Bool, true, false, nat_lt, List, [], ◌∷◌, Option, Some, None}
use Rattle.wfe_core.specs.words.Schemes.{publishes_rows}
use Rattle.wfe_core.specs.defs.declared.event.Event.{Event}
use Rattle.wfe_core.specs.defs.declared.event.Event.TheVariants as events
use Rattle.wfe_core.specs.declared.post.Post.{Post}
use Rattle.wfe_core.specs.Desks.{Desk}
use Rattle.wfe_core.specs.Guards.{guards, guard_at, published}
use Rattle.wfe_core.specs.Ready.{SlotFits}
use Rattle.wfe_core.specs.Calls.{AfterScan, Counted, ScanAt, ReadGuard, GiveBack, Phase, Scans, CallTurn, goes_on}
use Rattle.wfe_core.specs.Scan.{Entry, reads_guard, scanned, unmet_from, with_kept, with_read, with_back}
use Rattle.wfe_scan.specs.declared.scan.At.{At}
use Rattle.wfe_scan.specs.declared.scan.At.TheVariants as ats
use Rattle.wfe_scan.specs.declared.scan.Scan.{Scan}
use Rattle.wfe_scan.specs.declared.scan.Scanner.{Scanner}

abbrev pub at_of : At → ScanAt
at_of (ats.ReadGuard number) = ReadGuard number
at_of (ats.GiveBack place slot) = GiveBack place slot

-- where the steps of a scan stand
abbrev pub scans_at : Scanner → ScanAt
scans_at s = at_of s.at

-- a call that only scans
abbrev pub scan_phase : Scan → Phase
scan_phase m = Scans Counted (scans_at m.steps)

-- what a step leaves: the desk, what it tells, and the next step; None where the scan is over
pub record Turn : Type 0 where
  pub desk : Desk
  pub told : List Event
  pub next : Option ScanAt

abbrev pub giving : Desk → List Event → Option Entry → Turn
giving desk told None = record { desk = with_kept desk; told = told; next = None }
giving desk told (Some entry) = record { desk = desk; told = told; next = Some (GiveBack entry.0 entry.1.slot) }

abbrev pub reading : ℕ → Desk → List Event → (more : Bool) → Turn
reading number desk told true = record { desk = desk; told = told; next = Some (ReadGuard (number + 1)) }
reading number desk told false = giving desk told (unmet_from desk 0)

abbrev pub scan_step : ScanAt → Post → Desk → ℕ → Turn
scan_step (ReadGuard number) post desk found =
    reading
    number
    (with_read desk number (guard_at post.layout.config number, published (publishes_rows post.layout.config.scheme) (guard_at post.layout.config number) found))
    (reads_guard (publishes_rows post.layout.config.scheme) (guard_at post.layout.config number) found ∷ [])
    (nat_lt (number + 1) (guards post.layout.config))
scan_step (GiveBack place slot) post desk found =
    giving (with_back desk place) (events.Back slot ∷ []) (unmet_from (with_back desk place) place)

-- the turn of a call whose scan makes this step
abbrev pub then_by : AfterScan → Post → Desk → List Event → Option ScanAt → CallTurn
then_by later post desk told None = scanned later post desk told
then_by later post desk told (Some at) = goes_on post desk told (Scans later at)

abbrev pub then_turn : AfterScan → Post → Turn → CallTurn
then_turn later post turn = then_by later post turn.desk turn.told turn.next

-- what holds where a scan asks for an operation: there is such a guard, or such a row
abbrev pub op_ready : ScanAt → Post → Type 0
op_ready (ReadGuard number) post = number < guards post.layout.config
op_ready (GiveBack place slot) post = SlotFits post slot

-- a scan is over, or stands at this step
abbrev pub Leaves : Option ScanAt → (over : Bool) → ScanAt → Type 0
Leaves next true at = next ≡ None
Leaves next false at = next ≡ Some at
