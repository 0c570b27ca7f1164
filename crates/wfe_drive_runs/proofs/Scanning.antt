-- The steps of a scan, whatever comes after it: what one tells is noted before what comes next.
use Rattle.std.proofs.Common.{Bool, List, None, Option, Some, [], ap, append-nil, arith, false, length, refl, sym, true, ℕ, ◌+◌, ◌<◌, ◌∙◌, ◌∷◌, ◌≡◌}
use Rattle.std.proofs.lemmas.Bool.Decides.{nat_tests}
use Rattle.std.proofs.lemmas.List.{length-map}
use Rattle.std.proofs.lemmas.Option.{slice_get_within}
use Rattle.std.specs.Prelude.{nat_lt, slice_get}
use Rattle.std.specs.List.{remove}
use Rattle.wfe_core.specs.defs.declared.call.Answer.{Answer}
use Rattle.wfe_core.specs.defs.declared.event.Event.{Event}
use Rattle.wfe_core.specs.defs.declared.event.Event.TheVariants as events
use Rattle.wfe_core.specs.defs.declared.event.Guard.{Guard}
use Rattle.wfe_core.specs.defs.declared.event.Guard.TheVariants as guard_names
use Rattle.wfe_core.specs.defs.declared.lifetime.Lifetime.{Lifetime}
use Rattle.wfe_core.specs.words.Place.{Place as places, first_bucket, has, number}
use Rattle.wfe_core.specs.words.Schemes.{publishes_rows}
use Rattle.wfe_core.specs.words.declared.layout.Layout.{Layout}
use Rattle.wfe_core.specs.CallReady.{slots_of}
use Rattle.wfe_core.specs.Calls.{AfterScan, Answered, Counted, GiveBack, Idle, Phase, ReadGuard, Repeated, Scans, goes_on}
use Rattle.wfe_core.specs.Calls as calls
use Rattle.wfe_core.specs.DeskHeld.{desk_of}
use Rattle.wfe_core.specs.Desks.{Desk, Notes, noted, noting}
use Rattle.wfe_core.specs.Guards.{guard_at, guard_place, guards, published}
use Rattle.wfe_core.specs.Locals.{Local}
use Rattle.wfe_core.specs.Ready.{ShownFits}
use Rattle.wfe_core.specs.Scan.{Entry, giving_back, reading, reads_guard, scan_turn, scanned, unmet_from, with_back, with_kept, with_read}
use Rattle.wfe_core.specs.declared.desk.Desk.{Desk as HeldDesk}
use Rattle.wfe_core.specs.declared.op.Op.{Op}
use Rattle.wfe_core.specs.declared.post.Post.{Post}
use Rattle.wfe_drive_words.specs.drive_cells.Unit.{SeatView, seat_after}
use Rattle.wfe_drive_words.specs.Called.{at_phase}
use Rattle.wfe_drive_words.specs.Path.{stepped}
use Rattle.wfe_drive_words.proofs.drive_cells.Lying.{index_alone, interval_alone}
use Rattle.wfe_drive_runs.specs.Pieces.{TurnsTo, giving_at, seat_of}
use Rattle.wfe_drive_runs.proofs.Turning.{noted_append, turns_as, turns_same}

goes-noted : (post : Post) (desk : Desk) (told : List Event) (phase : Phase) → seat_after (goes_on post desk told phase) ≡ seat_after (goes_on post (noting desk told) [] phase)
goes-noted post desk told phase = ap (λ (said : List Event). seat_of phase post (noting desk said)) (append-nil told)

answers-noted : (post : Post) (desk : Desk) (told : List Event) (answer : Answer) → seat_after (calls.answers post desk told answer) ≡ seat_after (calls.answers post (noting desk told) [] answer)
answers-noted post desk told answer = ap (λ (notes : Notes). seat_of Idle post (record desk { notes = notes })) (noted_append desk.notes told (events.End post.steps answer ∷ []))

scanned-noted : (later : AfterScan) (post : Post) (desk : Desk) (told : List Event) → seat_after (scanned later post desk told) ≡ seat_after (scanned later post (noting desk told) [])
scanned-noted (Answered answer) post desk told = answers-noted post desk told answer
scanned-noted (Repeated task) post desk told = goes-noted post desk told _
scanned-noted Counted post desk told = answers-noted post desk told _

scanned-ends : (later : AfterScan) (post : Post) (desk : Desk) (told : List Event) → (scanned later post desk told).outcome ≡ (scanned later post (noting desk told) []).outcome
scanned-ends (Answered answer) post desk told = refl
scanned-ends (Repeated task) post desk told = refl
scanned-ends Counted post desk told = refl

giving-noted : (later : AfterScan) (post : Post) (desk : Desk) (told : List Event) (entry : Option Entry) → seat_after (giving_back later post desk told entry) ≡ seat_after (giving_back later post (noting desk told) [] entry)
giving-noted later post desk told None = scanned-noted later post (with_kept desk) told
giving-noted later post desk told (Some entry) = goes-noted post desk told _

giving-ends : (later : AfterScan) (post : Post) (desk : Desk) (told : List Event) (entry : Option Entry) → (giving_back later post desk told entry).outcome ≡ (giving_back later post (noting desk told) [] entry).outcome
giving-ends later post desk told None = scanned-ends later post (with_kept desk) told
giving-ends later post desk told (Some entry) = refl

reading-noted : (later : AfterScan) (number : ℕ) (post : Post) (desk : Desk) (told : List Event) (more : Bool) → seat_after (reading later number post desk told more) ≡ seat_after (reading later number post (noting desk told) [] more)
reading-noted later number post desk told true = goes-noted post desk told _
reading-noted later number post desk told false = giving-noted later post desk told (unmet_from desk 0)

reading-ends : (later : AfterScan) (number : ℕ) (post : Post) (desk : Desk) (told : List Event) (more : Bool) → (reading later number post desk told more).outcome ≡ (reading later number post (noting desk told) [] more).outcome
reading-ends later number post desk told true = refl
reading-ends later number post desk told false = giving-ends later post desk told (unmet_from desk 0)

-- what is told of a guard leaves no note
reads-nothing : (desk : Desk) (rows : Bool) (guard : Guard) (found : ℕ) → noting desk (reads_guard rows guard found ∷ []) ≡ desk
reads-nothing desk false guard found = refl
reads-nothing desk true guard found = refl

-- a guard was read
pub guard_read : {at0 at1 : Local → Type 0} {stands0 stands1 : List (Op × ℕ) → Type 0} {a : SeatView} (later : AfterScan) (number : ℕ) (post : Post) (desk new : Desk) (found : ℕ)
    → new ≡ with_read desk number (guard_at post.layout.config number, published (publishes_rows post.layout.config.scheme) (guard_at post.layout.config number) found)
    → TurnsTo at0 at1 stands0 stands1 a (scan_turn later (ReadGuard number) post desk found) → TurnsTo at0 at1 stands0 stands1 a (reading later number post new [] (nat_lt (number + 1) (guards post.layout.config)))
guard_read later number post desk new found e x =
    let rows : Bool = publishes_rows post.layout.config.scheme in
    let guard : Guard = guard_at post.layout.config number in
    let more : Bool = nat_lt (number + 1) (guards post.layout.config) in
    let read : Desk = with_read desk number (guard, published rows guard found) in
    let told : List Event = reads_guard rows guard found ∷ [] in
    turns_as _ _ (ap (λ (d : Desk). reading later number post d [] more) (reads-nothing read rows guard found ∙ sym e))
    (turns_same (reading later number post read told more) _ (reading-noted later number post read told more) (reading-ends later number post read told more) x)

-- and another one comes
pub reads_on : (later : AfterScan) (number : ℕ) (post : Post) (held : HeldDesk) (more : Bool) → more ≡ true → seat_after (reading later number post (desk_of held) [] more) ≡ at_phase (Scans later (ReadGuard (number + 1))) post held
reads_on later number post held more e = ap (λ (b : Bool). seat_after (reading later number post (desk_of held) [] b)) e

-- or it was the last
pub reads_last : (later : AfterScan) (number : ℕ) (post : Post) (desk : Desk) (more : Bool) → more ≡ false → reading later number post desk [] more ≡ giving_at later 0 post desk
reads_last later number post desk more e = ap (reading later number post desk []) e

-- a row is to go back
pub row_given : (later : AfterScan) (from place : ℕ) (post : Post) (held : HeldDesk) (life : Lifetime) → unmet_from (desk_of held) from ≡ Some (place, life) → seat_after (giving_at later from post (desk_of held)) ≡ at_phase (Scans later (GiveBack place life.slot)) post held
row_given later from place post held life e = ap (λ (entry : Option Entry). seat_after (giving_back later post (desk_of held) [] entry)) e

-- it went back
pub row_back : {at0 at1 : Local → Type 0} {stands0 stands1 : List (Op × ℕ) → Type 0} {a : SeatView} (later : AfterScan) (place slot : ℕ) (post : Post) (desk new : Desk) (found : ℕ) → new ≡ noting (with_back desk place) (events.Back slot ∷ [])
    → TurnsTo at0 at1 stands0 stands1 a (scan_turn later (GiveBack place slot) post desk found) → TurnsTo at0 at1 stands0 stands1 a (giving_at later place post new)
row_back later place slot post desk new found e x =
    let back : Desk = with_back desk place in
    let told : List Event = events.Back slot ∷ [] in
    turns_as _ _ (ap (giving_at later place post) (sym e))
    (turns_same (giving_back later post back told (unmet_from back place)) _ (giving-noted later post back told (unmet_from back place)) (giving-ends later post back told (unmet_from back place)) x)

-- the desk that it leaves
pub back_noted : (desk : Desk) (place slot : ℕ) (list : List Lifetime) (notes : Notes) → list ≡ remove desk.list place → notes ≡ noted desk.notes (events.Back slot)
    → record desk { list = list; report = record { read = desk.report.read; kept = desk.report.kept; back = desk.report.back + 1 }; notes = notes } ≡ noting (with_back desk place) (events.Back slot ∷ [])
back_noted desk place slot list notes e n =
    let left : List Lifetime → Notes → Desk = λ l m. record desk { list = l; report = record { read = desk.report.read; kept = desk.report.kept; back = desk.report.back + 1 }; notes = m } in
    ap (λ (l : List Lifetime). left l notes) e ∙ ap (left (remove desk.list place)) n

-- no row is left that may
pub none_given : (later : AfterScan) (from : ℕ) (post : Post) (desk new : Desk) → unmet_from desk from ≡ None → new ≡ with_kept desk → giving_at later from post desk ≡ scanned later post new []
none_given later from post desk new e k = ap (giving_back later post desk []) e ∙ ap (λ (d : Desk). scanned later post d []) (sym k)

-- what a step finds of a guard fits whatever steps the call has made
pub shown_found : (rows : Bool) (post : Post) (found : ℕ) → ShownFits rows post found → ShownFits rows (stepped post) found
shown_found false post found h = h
shown_found true post found h = h

-- the word of a guard lies alone
helper-alone : (layout : Layout) (seat : ℕ) → has layout (places.Helper seat) ≡ true → number layout (places.Helper seat) < first_bucket layout
unfolding number
helper-alone layout seat there = let a : seat < layout.config.seats = grind (arith, nat_tests) in omega (arith, a)

pub guard_alone : (layout : Layout) (guard : Guard) → has layout (guard_place guard) ≡ true → number layout (guard_place guard) < first_bucket layout
guard_alone layout (guard_names.Helper seat) h = helper-alone layout seat h
guard_alone layout (guard_names.Index seat index) h = index_alone layout seat index h
guard_alone layout (guard_names.Whole seat) h = interval_alone layout seat h

-- an entry of the list is in it
pub listed_within : (lives : List Lifetime) (place slot : ℕ) → slice_get (slots_of lives) place ≡ Some slot → place < length lives
listed_within lives place slot e = let within : place < length (slots_of lives) = slice_get_within (slots_of lives) place slot e in omega (arith, within, length-map lives (λ (life : Lifetime). life.slot))
