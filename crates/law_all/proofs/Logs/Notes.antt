-- A turn leaves the notes of its desk.
use Rattle.std.proofs.Common.{ℕ, ◌≡◌, ◌+◌, Bool, true, false, List, [], ◌∷◌, Option, Some, None, refl, ap, ◌∙◌}
use Rattle.std.specs.Prelude.{◌==◌, nat_lt}
use Rattle.law_scans.specs.inv.model.Calls.{AfterScan, Answered, Repeated, Counted, ScanAt, ReadGuard, GiveBack, Why, Retires, KeepAt, TakeList, Work, Keeping, Phase, Idle, Runs, Scans, Works}
use Rattle.law_scans.specs.inv.model.Desks.{Desk}
use Rattle.law_scans.specs.inv.model.Guards.{guards, guard_at, published}
use Rattle.law_scans.specs.inv.model.Keep.{keep_turn, taking}
use Rattle.law_scans.specs.inv.model.Machine as machine
use Rattle.law_scans.specs.inv.model.Phases.{Ending, Outcome, Goes, Ends}
use Rattle.law_scans.specs.inv.model.Phases.Ending.{Retired}
use Rattle.law_scans.specs.inv.model.Posts.{counted}
use Rattle.law_scans.specs.inv.model.Scan as scan
use Rattle.law_scans.specs.inv.model.Scan.{Entry}
use Rattle.law_scans.specs.inv.model.Steps.{phase_turn, work_turn}
use Rattle.law_scans.specs.inv.model.declared.post.Post.{Post}
use Rattle.law_scans.specs.laws.words.Schemes.{publishes_rows}
use Rattle.law_scans.specs.laws.defs.declared.event.Event.{Event}
use Rattle.law_scans.specs.laws.defs.declared.event.Event.TheVariants as events
use Rattle.law_scans.proofs.reuse.Once.Desks.{left_at, left_desk, resumed_desk, work_desk}
use Rattle.law_all.specs.Logs.Records.{TurnsLeaveNotes}

ending_notes : (why : Why) (ending : Ending) (desk : Desk) → (left_desk why ending desk).notes ≡ desk.notes
ending_notes (Retires answer) (Retired life) desk = refl
ending_notes why ending desk = refl

left_notes : (why : Why) (outcome : Outcome) (desk : Desk) → (left_at why outcome desk).notes ≡ desk.notes
left_notes why (Goes base) desk = refl
left_notes why (Ends ending) desk = ending_notes why ending desk

-- a step of a scan
scanned_notes : (later : AfterScan) (post : Post) (desk : Desk) (told : List Event) → (scan.scanned later post desk told).desk.notes ≡ desk.notes
scanned_notes (Answered answer) post desk told = refl
scanned_notes (Repeated task) post desk told = refl
scanned_notes Counted post desk told = refl

giving_notes : (later : AfterScan) (post : Post) (desk : Desk) (told : List Event) (o : Option Entry) → (scan.giving_back later post desk told o).desk.notes ≡ desk.notes
giving_notes later post desk told None = scanned_notes later post (scan.with_kept desk) told
giving_notes later post desk told (Some entry) = refl

reading_notes : (later : AfterScan) (number : ℕ) (post : Post) (desk : Desk) (told : List Event) (more : Bool) → (scan.reading later number post desk told more).desk.notes ≡ desk.notes
reading_notes later number post desk told true = refl
reading_notes later number post desk told false = giving_notes later post desk told (scan.unmet_from desk 0)

scan_notes : (later : AfterScan) (at : ScanAt) (post : Post) (desk : Desk) (found : ℕ) → (scan.scan_turn later at post desk found).desk.notes ≡ desk.notes
scan_notes later (ReadGuard number) post desk found =
    let rows = publishes_rows post.layout.config.scheme in
    let guard = guard_at post.layout.config number in
    reading_notes later number post (scan.with_read desk number (guard, published rows guard found)) (scan.reads_guard rows guard found ∷ []) (nat_lt (number + 1) (guards post.layout.config))
scan_notes later (GiveBack place slot) post desk found = giving_notes later post (scan.with_back desk place) (events.Back slot ∷ []) (scan.unmet_from (scan.with_back desk place) place)

-- a step of a call
taking_notes : (place : ℕ) (post : Post) (desk : Desk) (left : Bool) (found : ℕ) → (taking place post desk left found).desk.notes ≡ desk.notes
taking_notes place post desk true found = refl
taking_notes place post desk false found = refl

keep_notes : (at : KeepAt) (post : Post) (desk : Desk) (found : ℕ) → (keep_turn at post desk found).desk.notes ≡ desk.notes
keep_notes (TakeList place) post desk found = taking_notes place post desk (found == 1) found
keep_notes at post desk found = ap (λ (d : Desk). d.notes) (work_desk (Keeping at) post desk found refl)

work_notes : (work : Work) (post : Post) (desk : Desk) (found : ℕ) → (work_turn work post desk found).desk.notes ≡ desk.notes
work_notes (Keeping at) post desk found = keep_notes at post desk found
work_notes work post desk found = ap (λ (d : Desk). d.notes) (work_desk work post desk found refl)

pub phase_notes : (phase : Phase) (post : Post) (desk : Desk) (found : ℕ) → (phase_turn phase post desk found).desk.notes ≡ desk.notes
phase_notes Idle post desk found = refl
phase_notes (Runs why base) post desk found =
    let t = machine.after base post found in
    ap (λ (d : Desk). d.notes) (resumed_desk why desk t.post t.told t.outcome) ∙ left_notes why t.outcome desk
phase_notes (Scans later at) post desk found = scan_notes later at post desk found
phase_notes (Works work) post desk found = work_notes work post desk found

pub turns_leave_notes : TurnsLeaveNotes
turns_leave_notes l found = phase_notes l.phase (counted l.post) l.desk found
