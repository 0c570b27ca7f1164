-- A scan's step, as the turn of a call that has the scan in it.
use Rattle.std.proofs.Common.{ℕ, ◌≡◌, ◌+◌, Bool, true, false, List, Option, Some, None, refl}
use Rattle.std.specs.Prelude.{nat_lt}
use Rattle.wfe_core.specs.words.Schemes.{publishes_rows}
use Rattle.wfe_core.specs.defs.declared.event.Event.{Event}
use Rattle.wfe_core.specs.declared.post.Post.{Post}
use Rattle.wfe_core.specs.Calls.{AfterScan, ScanAt, ReadGuard, GiveBack}
use Rattle.wfe_core.specs.Desks.{Desk}
use Rattle.wfe_core.specs.Guards.{guards, guard_at, published}
use Rattle.wfe_core.specs.Scan.{Entry, giving_back, unmet_from, scan_turn, with_back, with_read}
use Rattle.wfe_core.specs.Scan as model
use Rattle.wfe_scan.specs.Scans.{giving, reading, scan_step, then_turn}

giving_then : (later : AfterScan) (post : Post) (desk : Desk) (told : List Event) (entry : Option Entry) → giving_back later post desk told entry ≡ then_turn later post (giving desk told entry)
giving_then later post desk told None = refl
giving_then later post desk told (Some entry) = refl

reading_then : (later : AfterScan) (number : ℕ) (post : Post) (desk : Desk) (told : List Event) (more : Bool) → model.reading later number post desk told more ≡ then_turn later post (reading number desk told more)
reading_then later number post desk told true = refl
reading_then later number post desk told false = giving_then later post desk told (unmet_from desk 0)

-- it is the scan's step, and what comes after it
pub turn_by_step : (later : AfterScan) (at : ScanAt) (post : Post) (desk : Desk) (found : ℕ) → scan_turn later at post desk found ≡ then_turn later post (scan_step at post desk found)
turn_by_step later (ReadGuard number) post desk found =
    reading_then
    later
    number
    post
    (with_read desk number (guard_at post.layout.config number, published (publishes_rows post.layout.config.scheme) (guard_at post.layout.config number) found))
    _
    (nat_lt (number + 1) (guards post.layout.config))
turn_by_step later (GiveBack place slot) post desk found = giving_then later post (with_back desk place) _ (unmet_from (with_back desk place) place)
