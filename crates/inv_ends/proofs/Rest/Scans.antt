-- A step of a scan leaves fewer steps.
use Rattle.std.proofs.Common.{ℕ, ◌≡◌, ◌≤◌, ◌<◌, ◌+◌, ◌-◌, Bool, true, false, [], ◌∷◌, arith, refl, subst}
use Rattle.std.proofs.lemmas.Bool.Decides.{nat_tests}
use Rattle.std.proofs.lemmas.List.{length-drop}
use Rattle.std.proofs.lemmas.List.Edits.{length-remove}
use Rattle.inv_rows.specs.defs.Shown.{Seen, keeps_any}
use Rattle.inv_rows.specs.model.Scan as scan
use Rattle.inv_rows.specs.defs.declared.event.Event.TheVariants as events
use Rattle.inv_rows.specs.model.Calls.{AfterScan, ScanAt, Task}
use Rattle.inv_rows.specs.model.Calls.AfterScan.{Answered, Counted, Repeated}
use Rattle.inv_rows.specs.model.Calls.ScanAt.{GiveBack, ReadGuard}
use Rattle.inv_rows.specs.model.Desks.{Desk}
use Rattle.inv_rows.specs.model.Guards.{guard_at, guards, eras_in, published, linked_row}
use Rattle.inv_rows.specs.model.Rest.{later_left, phase_left, round_worth, rounds_most, scan_left, task_left}
use Rattle.inv_rows.specs.model.Rounds.{round}
use Rattle.inv_rows.specs.model.declared.post.Post.{Post}
use Rattle.inv_rows.specs.defs.Entry.{entry}
use Rattle.inv_rows.specs.defs.declared.event.Event.{Event}
use Rattle.inv_rows.specs.defs.declared.lifetime.Lifetime.{Lifetime}
use Rattle.inv_rows.specs.Shapes.Seats.{scan_fits}
use Rattle.inv_rows.specs.Shapes.Slots.{scan_lists}
use Rattle.inv_ends.proofs.Rest.Amounts.{opens_worth, task_drops, task_grows}
use Rattle.inv_ends.proofs.Rest.Closings.{round_begins, turn_left}
use Rattle.inv_ends.specs.Losses.{LostRound, later_fit, lost_fit, rounds_in}
use Rattle.inv_rows.specs.words.declared.config.Config.{Config}
use Rattle.std.specs.Prelude.{List, length, Option, Some, None, nat_lt, drop, remove}
use Rattle.inv_rows.specs.model.Calls.Task.{Changes, Dequeues, Enqueues, Gets, Holds}
use Rattle.inv_rows.specs.words.Schemes.{publishes_rows}
use Rattle.inv_rows.specs.defs.declared.event.Guard.{Guard}

-- an entry found lies from a place on, below another
abbrev Within : (low high : ℕ) → Option scan.Entry → Type 0
Within low high None = Unit {0}
Within low high (Some entry) = (low ≤ entry.0) × (entry.0 < high)

wider : (low less high more : ℕ) (x : Option scan.Entry) → less ≤ low → high ≤ more → Within low high x → Within less more x
wider low less high more None a b w = tt
wider low less high more (Some entry) a b w = let u = w.0 in let v = w.1 in (omega (arith, a, u), omega (arith, b, v))

found_within : (read : List Seen) (place : ℕ) (lives : List Lifetime) → Within place (place + length lives) (scan.first_unmet read place lives)
found_within read place [] = tt
found_within read place (life ∷ lives) =
    elim (keeps_any life read) as (λ x. Within place (place + length (life ∷ lives)) (elim x [
      | true ↦ scan.first_unmet read (place + 1) lives
      | false ↦ Some (place, life)
    ])) [
      | true ↦ wider (place + 1) place (place + 1 + length lives) (place + length (life ∷ lives)) (scan.first_unmet read (place + 1) lives) (omega arith) (omega arith) (found_within read (place + 1) lives)
      | false ↦ (omega arith, omega arith)
    ]

unmet_within : (desk : Desk) (place : ℕ) → place ≤ length desk.list → Within place (length desk.list) (scan.unmet_from desk place)
unmet_within desk place h =
    let n = length-drop place desk.list in
    wider place place (place + length (drop place desk.list)) (length desk.list) (scan.unmet_from desk place) (omega arith) (omega (arith, n, h)) (found_within desk.report.read place (drop place desk.list))

-- a round is begun anew after room was made
repeated_left : (c : Config) (rounds : ℕ) (lives : List Lifetime) (task : Task) (post : Post) → LostRound (rounds_most c task) rounds → phase_left c rounds lives (round task post) + 1 ≤ task_left c (length lives) task (rounds - 1)
repeated_left c rounds lives task post l =
    let a = l.told in let b = l.few in
    let r : rounds - 1 + 1 ≡ rounds = omega (arith, a) in
    let d : task_left c (length lives) task rounds + round_worth c ≤ task_left c (length lives) task (rounds - 1) = subst (λ (n : ℕ). task_left c (length lives) task n + round_worth c ≤ task_left c (length lives) task (rounds - 1)) r (task_drops c (length lives) (length lives) task (rounds - 1) (omega arith) (omega (arith, b))) in
    let h = round_begins c rounds lives task post in
    let w = opens_worth c task in
    omega (arith, d, h, w)

lost_round : (c : Config) (rounds : ℕ) (task : Task) → lost_fit c rounds task → LostRound (rounds_most c task) rounds
lost_round c rounds (Gets key) l = l
lost_round c rounds (Changes kept) l = l
lost_round c rounds (Holds key) l = absurd (cc)
lost_round c rounds (Enqueues kept) l = l
lost_round c rounds Dequeues l = l

scanned_left : (c : Config) (rounds : ℕ) (later : AfterScan) (post : Post) (desk : Desk) (told : List Event) → rounds_in c rounds told ≡ rounds → later_fit c rounds later → turn_left c rounds (scan.scanned later post desk told) ≤ later_left c (length desk.list) rounds later
scanned_left c rounds (Answered answer) post desk told e l = omega arith
scanned_left c rounds (Repeated task) post desk told e l = let h = repeated_left c rounds desk.list task post (lost_round c rounds task l) in rw e (omega (arith, h))
scanned_left c rounds Counted post desk told e l = omega arith

gives_left : (c : Config) (rounds : ℕ) (later : AfterScan) (post : Post) (desk : Desk) (told : List Event) (place : ℕ) (x : Option scan.Entry) → rounds_in c rounds told ≡ rounds → later_fit c rounds later → Within place (length desk.list) x
    → turn_left c rounds (scan.giving_back later post desk told x) ≤ (length desk.list - place) + later_left c (length desk.list) rounds later
gives_left c rounds later post desk told place None e l w = let h = scanned_left c rounds later post (scan.with_kept desk) told e l in omega (arith, h)
gives_left c rounds later post desk told place (Some entry) e l w = let a = w.0 in let b = w.1 in rw e (omega (arith, a, b))

reads_left : (c : Config) (rounds : ℕ) (later : AfterScan) (number : ℕ) (post : Post) (desk : Desk) (told : List Event) (more : Bool) → rounds_in c rounds told ≡ rounds → later_fit c rounds later → number < guards c
    → turn_left c rounds (scan.reading later number post desk told more) + 1 ≤ (guards c - number) + length desk.list + later_left c (length desk.list) rounds later
reads_left c rounds later number post desk told true e l b = rw e (omega (arith, b))
reads_left c rounds later number post desk told false e l b = let h = gives_left c rounds later post desk told 0 (scan.unmet_from desk 0) e l (unmet_within desk 0 (omega arith)) in omega (arith, h, b)

later_grows : (c : Config) (lives more rounds : ℕ) (later : AfterScan) → lives ≤ more → later_left c lives rounds later ≤ later_left c more rounds later
later_grows c lives more rounds (Answered answer) h = omega arith
later_grows c lives more rounds (Repeated task) h = task_grows c lives more task (rounds - 1) h
later_grows c lives more rounds Counted h = omega arith

read_left : (c : Config) (rounds : ℕ) (later : AfterScan) (number : ℕ) (post : Post) (desk : Desk) (rows : Bool) (guard : Guard) (word : ℕ) → later_fit c rounds later → number < guards c
    → turn_left c rounds (scan.read_guard later number post desk rows guard word) + 1 ≤ scan_left c desk.list (ReadGuard number) + later_left c (length desk.list) rounds later
read_left c rounds later number post desk false guard word l f = reads_left c rounds later number post (scan.with_read desk number (guard, published false guard word)) (events.Read guard (eras_in guard word) ∷ []) (nat_lt (number + 1) (guards post.layout.config)) refl l f
read_left c rounds later number post desk true guard word l f = reads_left c rounds later number post (scan.with_read desk number (guard, published true guard word)) (events.Saw guard (linked_row word) ∷ []) (nat_lt (number + 1) (guards post.layout.config)) refl l f

pub scan_falls : (c : Config) (rounds : ℕ) (later : AfterScan) (at : ScanAt) (post : Post) (desk : Desk) (found : ℕ) → later_fit c rounds later → scan_fits c at ≡ true → scan_lists c desk at
    → turn_left c rounds (scan.scan_turn later at post desk found) + 1 ≤ scan_left c desk.list at + later_left c (length desk.list) rounds later
scan_falls c rounds later (ReadGuard number) post desk found l f s = read_left c rounds later number post desk (publishes_rows post.layout.config.scheme) (guard_at post.layout.config number) found l (grind (arith, nat_tests, f))
scan_falls c rounds later (GiveBack place slot) post desk found l f s =
    let n = length-remove desk.list place s in
    let h = gives_left c rounds later post (scan.with_back desk place) (events.Back slot ∷ []) place (scan.unmet_from (scan.with_back desk place) place) refl l (unmet_within (scan.with_back desk place) place (omega (arith, n, s))) in
    let g = later_grows c (length (remove desk.list place)) (length desk.list) rounds later (omega (arith, n)) in
    omega (arith, n, h, g, s)
