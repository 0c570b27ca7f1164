-- A scan reads each guard once, and then gives back the rows of the list whose lives meet nothing that it read.
use Rattle.std.specs.Prelude.{ℕ, zero, suc, ◌+◌, Bool, true, false, nat_lt, List, [], ◌∷◌, ◌++◌, length, drop, Option, Some, None}
use Rattle.std.specs.List.{remove}
use Rattle.wfe_words.specs.Schemes.{publishes_rows}
use Rattle.wfe_defs.specs.declared.call.Answer.TheVariants as answers
use Rattle.wfe_defs.specs.declared.event.Event.{Event}
use Rattle.wfe_defs.specs.declared.event.Event.TheVariants as events
use Rattle.wfe_defs.specs.declared.event.Guard.{Guard}
use Rattle.wfe_defs.specs.declared.lifetime.Lifetime.{Lifetime}
use Rattle.wfe_defs.specs.Shown.{Seen, keeps_any}
use Rattle.wfe_core.specs.declared.post.Post.{Post}
use Rattle.wfe_core.specs.Desks.{Desk, Report}
use Rattle.wfe_core.specs.Guards.{guards, guard_at, guard_place, eras_in, linked_row, published}
use Rattle.wfe_core.specs.Memory.{Move, Load}
use Rattle.wfe_core.specs.Machine.{free_move}
use Rattle.wfe_core.specs.Calls.{AfterScan, Answered, Repeated, Counted, ScanAt, ReadGuard, GiveBack, Scans, CallTurn, goes_on}
use Rattle.wfe_core.specs.Calls as calls
use Rattle.wfe_core.specs.Rounds.{round}

abbrev pub scan_move : ScanAt → Post → Move
scan_move (ReadGuard number) post = Load (guard_place (guard_at post.layout.config number))
scan_move (GiveBack place slot) post = free_move slot

-- an entry of the list, with its place
abbrev pub Entry : Type 0
Entry = ℕ × Lifetime

-- the first of these lives that meets nothing read; the first of all has this place
abbrev pub first_unmet : List Seen → ℕ → List Lifetime → Option Entry
first_unmet read place [] = None
first_unmet read place (life ∷ lives) =
    elim (keeps_any life read) [
      | true ↦ first_unmet read (place + 1) lives
      | false ↦ Some (place, life)
    ]

-- the first such from a place of the list on
abbrev pub unmet_from : Desk → ℕ → Option Entry
unmet_from desk place = first_unmet desk.report.read place (drop place desk.list)

-- the number of lives that stay
abbrev pub with_kept : Desk → Desk
with_kept desk = record desk { report = record { read = desk.report.read; kept = length desk.list; back = desk.report.back } }

-- what comes after a scan
abbrev pub scanned : AfterScan → Post → Desk → List Event → CallTurn
scanned (Answered answer) post desk told = calls.answers post desk told answer
scanned (Repeated task) post desk told = goes_on post desk told (round task post)
scanned Counted post desk told = calls.answers post desk told (answers.Scanned desk.report.kept desk.report.back)

-- the next row to give back, or the scan is over
abbrev pub giving_back : AfterScan → Post → Desk → List Event → Option Entry → CallTurn
giving_back later post desk told None = scanned later post (with_kept desk) told
giving_back later post desk told (Some entry) = goes_on post desk told (Scans later (GiveBack entry.0 entry.1.slot))

-- what the scan read before a guard of this number: nothing before the first
abbrev pub read_before : Report → ℕ → List Seen
read_before report zero = []
read_before report (suc number) = report.read

-- one guard more is read
abbrev pub with_read : Desk → ℕ → Seen → Desk
with_read desk number seen = record desk { report = record { read = read_before desk.report number ++ seen ∷ []; kept = 0; back = 0 } }

-- the next guard, or all are read
abbrev pub reading : AfterScan → ℕ → Post → Desk → List Event → (more : Bool) → CallTurn
reading later number post desk told true = goes_on post desk told (Scans later (ReadGuard (number + 1)))
reading later number post desk told false = giving_back later post desk told (unmet_from desk 0)

-- what is told of a guard with this word
abbrev pub reads_guard : (rows : Bool) → Guard → ℕ → Event
reads_guard false guard word = events.Read guard (eras_in guard word)
reads_guard true guard word = events.Saw guard (linked_row word)

abbrev pub read_guard : AfterScan → ℕ → Post → Desk → (rows : Bool) → Guard → ℕ → CallTurn
read_guard later number post desk rows guard word =
    reading
    later
    number
    post
    (with_read desk number (guard, published rows guard word))
    (reads_guard rows guard word ∷ [])
    (nat_lt (number + 1) (guards post.layout.config))

-- a row went back: it leaves the list
abbrev pub with_back : Desk → ℕ → Desk
with_back desk place =
    record desk {
      list = remove desk.list place;
      report = record { read = desk.report.read; kept = desk.report.kept; back = desk.report.back + 1 };
    }

-- 1. Load a guard. 2. Clear the claim bit of a row that goes back.
abbrev pub scan_turn : AfterScan → ScanAt → Post → Desk → ℕ → CallTurn
scan_turn later (ReadGuard number) post desk found =
    read_guard
    later
    number
    post
    desk
    (publishes_rows post.layout.config.scheme)
    (guard_at post.layout.config number)
    found
scan_turn later (GiveBack place slot) post desk found =
    giving_back later post (with_back desk place) (events.Back slot ∷ []) (unmet_from (with_back desk place) place)
