-- A scan: what it has met it has met ever after, and what it gives back meets nothing that it read.
use Rattle.std.proofs.Common.{ℕ, zero, suc, ◌≤◌, ◌+◌, ◌<◌, ◌≡◌, true, false, arith, refl, ◌∙◌, ap, sym, Bool, Option, Some, None, List, [], ◌∷◌, ◌++◌, suc-add, zero-add, add-one, ◌||◌}
use Rattle.std.proofs.lemmas.Bool.Decides.{nat_tests}
use Rattle.std.specs.Prelude.{nat_lt, drop}
use Rattle.inv_rows.specs.defs.declared.event.Event.{Event}
use Rattle.inv_rows.specs.defs.declared.event.Event.TheVariants as events
use Rattle.inv_rows.specs.defs.declared.lifetime.Lifetime.{Lifetime}
use Rattle.inv_rows.specs.defs.Shown.{Seen, keeps, keeps_any}
use Rattle.inv_rows.specs.model.declared.post.Post.{Post}
use Rattle.inv_rows.specs.model.Desks.{Desk, Report}
use Rattle.inv_rows.specs.model.Guards.{guards, guard_at, published}
use Rattle.inv_rows.specs.model.Scan.{read_before, Entry, first_unmet, unmet_from, scanned, giving_back, reading, with_kept, with_read, with_back, reads_guard, scan_turn}
use Rattle.inv_rows.specs.model.Calls.{AfterScan, Answered, Repeated, Counted, ScanAt, ReadGuard, GiveBack, Phase, Idle, Runs, Scans, Works}
use Rattle.inv_rows.specs.Shapes.Frame.{phase_left}
use Rattle.inv_rows.specs.Covering.Covers.{has_met, unmet_at, is_unmet, is_fresh}
use Rattle.inv_rows.specs.Covering.Tries.{is_start, Shrinks}
use Rattle.inv_rows.proofs.Covering.Fresh.{round_fresh}
use Rattle.inv_rows.specs.words.Schemes.{publishes_rows}

fresh_number : (number : ℕ) (later : AfterScan) → is_fresh (Scans later (ReadGuard number)) ≡ true → number ≡ 0
fresh_number zero later h = refl
fresh_number (suc number) later h = absurd (cc)

-- a scan that has read nothing has come to no guard
pub fresh_met : (all : ℕ) (phase : Phase) (report : Report) (number : ℕ) (life : Lifetime) → is_fresh phase ≡ true → has_met all phase report number life ≡ true
fresh_met all Idle report number life h = grind (arith, nat_tests)
fresh_met all (Runs why base) report number life h = grind (arith, nat_tests)
fresh_met all (Scans later (ReadGuard n)) report number life h = let e : n ≡ 0 = fresh_number n later h in grind (arith, nat_tests)
fresh_met all (Scans later (GiveBack place slot)) report number life h = absurd (cc)
fresh_met all (Works work) report number life h = grind (arith, nat_tests)

pub fresh_unmet : (phase : Phase) (desk : Desk) → is_fresh phase ≡ true → is_unmet phase desk ≡ true
fresh_unmet Idle desk h = refl
fresh_unmet (Runs why base) desk h = refl
fresh_unmet (Scans later (ReadGuard n)) desk h = refl
fresh_unmet (Scans later (GiveBack place slot)) desk h = absurd (cc)
fresh_unmet (Works work) desk h = refl

-- after a scan nothing of it is left
scanned_fresh : (later : AfterScan) (post : Post) (desk : Desk) (told : List Event) → is_fresh (phase_left (scanned later post desk told).outcome) ≡ true
scanned_fresh (Answered answer) post desk told = refl
scanned_fresh (Repeated task) post desk told = (round_fresh task post).fresh
scanned_fresh Counted post desk told = refl

-- one guard more
meets_more : (life : Lifetime) (read : List Seen) (seen : Seen) → keeps_any life (read ++ seen ∷ []) ≡ (keeps_any life read || keeps life seen.1)
meets_more life [] seen = grind (arith, nat_tests)
meets_more life (x ∷ read) seen = let h = meets_more life read seen in grind (arith, nat_tests, h)

-- what the scan has met once all guards are read, or in the middle
back_met : (all : ℕ) (later : AfterScan) (post : Post) (desk : Desk) (told : List Event) (x : Option Entry) (number : ℕ) (life : Lifetime) → (nat_lt number all ≡ true → keeps_any life desk.report.read ≡ true) → has_met all (phase_left (giving_back later post desk told x).outcome) (giving_back later post desk told x).desk.report number life ≡ true
back_met all later post desk told None number life h = fresh_met all (phase_left (scanned later post (with_kept desk) told).outcome) (scanned later post (with_kept desk) told).desk.report number life (scanned_fresh later post (with_kept desk) told)
back_met all later post desk told (Some entry) number life h = grind (arith, nat_tests, h)

reading_met : (all : ℕ) (later : AfterScan) (n : ℕ) (post : Post) (desk : Desk) (told : List Event) (more : Bool) (number : ℕ) (life : Lifetime) → (number < n + 1 → keeps_any life desk.report.read ≡ true) → (more ≡ false → all ≤ n + 1) → has_met all (phase_left (reading later n post desk told more).outcome) (reading later n post desk told more).desk.report number life ≡ true
reading_met all later n post desk told true number life h e = rw add-one (grind (arith, nat_tests, h))
reading_met all later n post desk told false number life h e = back_met all later post desk told (unmet_from desk 0) number life (λ k. h (grind (arith, nat_tests, e refl)))

read_met : (report : Report) (n number : ℕ) (life : Lifetime) (seen : Seen) → (nat_lt number n ≡ true → keeps_any life (read_before report n) ≡ true) → (number ≡ n → keeps life seen.1 ≡ true) → number < n + 1 → keeps_any life (read_before report n ++ seen ∷ []) ≡ true
read_met report n number life seen h e k = let m = meets_more life (read_before report n) seen in rw m (grind (arith, nat_tests, h, e))

-- what a scan has met it has met after its step; at a guard that it reads it meets the life if the guard does
pub scan_met : (later : AfterScan) (at : ScanAt) (post : Post) (desk : Desk) (found number : ℕ) (life : Lifetime) → ((n : ℕ) → at ≡ ReadGuard n → number ≡ n → keeps life (published (publishes_rows post.layout.config.scheme) (guard_at post.layout.config n) found) ≡ true) → has_met (guards post.layout.config) (Scans later at) desk.report number life ≡ true
    → has_met (guards post.layout.config) (phase_left (scan_turn later at post desk found).outcome) (scan_turn later at post desk found).desk.report number life ≡ true
scan_met later (ReadGuard n) post desk found number life e h =
    reading_met
    (guards post.layout.config)
    later
    n
    post
    (with_read desk n (guard_at post.layout.config n, published (publishes_rows post.layout.config.scheme) (guard_at post.layout.config n) found))
    (reads_guard (publishes_rows post.layout.config.scheme) (guard_at post.layout.config n) found ∷ [])
    (nat_lt (n + 1) (guards post.layout.config))
    number
    life
    (read_met desk.report n number life (guard_at post.layout.config n, published (publishes_rows post.layout.config.scheme) (guard_at post.layout.config n) found) (λ k. grind (arith, nat_tests)) (e n refl))
    (λ k. grind (arith, nat_tests))
scan_met later (GiveBack place slot) post desk found number life e h =
    back_met
    (guards post.layout.config)
    later
    post
    (with_back desk place)
    (events.Back slot ∷ [])
    (unmet_from (with_back desk place) place)
    number
    life
    (λ k. grind (arith, nat_tests))

-- what is given back: the entry found meets nothing that was read
abbrev UnmetIn : List Seen → List Lifetime → ℕ → Option Entry → Type 0
UnmetIn read lives n None = Unit {0}
UnmetIn read lives n (Some entry) = (q : ℕ) × (entry.0 ≡ n + q) × (unmet_at read lives q ≡ true)

unmet_more : (read : List Seen) (life : Lifetime) (lives : List Lifetime) (n : ℕ) (x : Option Entry) → UnmetIn read lives (n + 1) x → UnmetIn read (life ∷ lives) n x
unmet_more read life lives n None h = tt
unmet_more read life lives n (Some entry) h = (suc h.0, omega (arith, h.1), h.2)

unmet_by : (read : List Seen) (n : ℕ) (life : Lifetime) (lives : List Lifetime) (met : Bool) → keeps_any life read ≡ met → UnmetIn read lives (n + 1) (first_unmet read (n + 1) lives) → UnmetIn read (life ∷ lives) n (elim met [ true ↦ first_unmet read (n + 1) lives | false ↦ Some (n, life) ])
unmet_by read n life lives true e h = unmet_more read life lives n (first_unmet read (n + 1) lives) h
unmet_by read n life lives false e h = (0, omega arith, rw e refl)

unmet_first : (read : List Seen) (n : ℕ) (lives : List Lifetime) → UnmetIn read lives n (first_unmet read n lives)
unmet_first read n [] = tt
unmet_first read n (life ∷ lives) = unmet_by read n life lives (keeps_any life read) refl (unmet_first read (n + 1) lives)

unmet_drop : (read : List Seen) (n q : ℕ) (lives : List Lifetime) → unmet_at read (drop n lives) q ≡ unmet_at read lives (n + q)
unmet_drop read zero q [] = refl
unmet_drop read zero q (life ∷ lives) = rw zero-add refl
unmet_drop read (suc n) q [] = refl
unmet_drop read (suc n) q (life ∷ lives) = unmet_drop read n q lives ∙ sym (ap (λ (k : ℕ). unmet_at read (life ∷ lives) k) (suc-add n q))

abbrev UnmetEntry : List Seen → List Lifetime → Option Entry → Type 0
UnmetEntry read lives None = Unit {0}
UnmetEntry read lives (Some entry) = unmet_at read lives entry.0 ≡ true

unmet_entry : (read : List Seen) (lives : List Lifetime) (n : ℕ) (x : Option Entry) → UnmetIn read (drop n lives) n x → UnmetEntry read lives x
unmet_entry read lives n None h = tt
unmet_entry read lives n (Some entry) h = rw h.1 (sym (unmet_drop read n h.0 lives) ∙ h.2)

unmet_found : (desk : Desk) (place : ℕ) → UnmetEntry desk.report.read desk.list (unmet_from desk place)
unmet_found desk place = unmet_entry desk.report.read desk.list place (unmet_from desk place) (unmet_first desk.report.read place (drop place desk.list))

back_unmet : (later : AfterScan) (post : Post) (desk : Desk) (told : List Event) (x : Option Entry) → UnmetEntry desk.report.read desk.list x → is_unmet (phase_left (giving_back later post desk told x).outcome) (giving_back later post desk told x).desk ≡ true
back_unmet later post desk told None h = fresh_unmet (phase_left (scanned later post (with_kept desk) told).outcome) (scanned later post (with_kept desk) told).desk (scanned_fresh later post (with_kept desk) told)
back_unmet later post desk told (Some entry) h = h

reading_unmet : (later : AfterScan) (n : ℕ) (post : Post) (desk : Desk) (told : List Event) (more : Bool) → is_unmet (phase_left (reading later n post desk told more).outcome) (reading later n post desk told more).desk ≡ true
reading_unmet later n post desk told true = refl
reading_unmet later n post desk told false = back_unmet later post desk told (unmet_from desk 0) (unmet_found desk 0)

-- what a scan gives back next meets nothing that it read
pub scan_unmet_kept : (later : AfterScan) (at : ScanAt) (post : Post) (desk : Desk) (found : ℕ) → is_unmet (phase_left (scan_turn later at post desk found).outcome) (scan_turn later at post desk found).desk ≡ true
scan_unmet_kept later (ReadGuard n) post desk found =
    reading_unmet later n post (with_read desk n (guard_at post.layout.config n, published (publishes_rows post.layout.config.scheme) (guard_at post.layout.config n) found)) (reads_guard (publishes_rows post.layout.config.scheme) (guard_at post.layout.config n) found ∷ []) (nat_lt (n + 1) (guards post.layout.config))
scan_unmet_kept later (GiveBack place slot) post desk found =
    back_unmet later post (with_back desk place) (events.Back slot ∷ []) (unmet_from (with_back desk place) place) (unmet_found (with_back desk place) place)

-- what stands after a scan's step stood before, and no try is under way
scanned_starts : (later : AfterScan) (post : Post) (desk : Desk) (told : List Event) → is_start (phase_left (scanned later post desk told).outcome) ≡ true
scanned_starts (Answered answer) post desk told = refl
scanned_starts (Repeated task) post desk told = (round_fresh task post).starts
scanned_starts Counted post desk told = refl

back_starts : (later : AfterScan) (post : Post) (desk : Desk) (told : List Event) (x : Option Entry) → is_start (phase_left (giving_back later post desk told x).outcome) ≡ true
back_starts later post desk told None = scanned_starts later post (with_kept desk) told
back_starts later post desk told (Some entry) = refl

reading_starts : (later : AfterScan) (n : ℕ) (post : Post) (desk : Desk) (told : List Event) (more : Bool) → is_start (phase_left (reading later n post desk told more).outcome) ≡ true
reading_starts later n post desk told true = refl
reading_starts later n post desk told false = back_starts later post desk told (unmet_from desk 0)

pub scan_starts : (later : AfterScan) (at : ScanAt) (post : Post) (desk : Desk) (found : ℕ) → is_start (phase_left (scan_turn later at post desk found).outcome) ≡ true
scan_starts later (ReadGuard n) post desk found =
    reading_starts later n post (with_read desk n (guard_at post.layout.config n, published (publishes_rows post.layout.config.scheme) (guard_at post.layout.config n) found)) (reads_guard (publishes_rows post.layout.config.scheme) (guard_at post.layout.config n) found ∷ []) (nat_lt (n + 1) (guards post.layout.config))
scan_starts later (GiveBack place slot) post desk found = back_starts later post (with_back desk place) (events.Back slot ∷ []) (unmet_from (with_back desk place) place)

scanned_shrinks : (later : AfterScan) (post : Post) (desk : Desk) (told : List Event) → Shrinks post (scanned later post desk told).post
scanned_shrinks (Answered answer) post desk told j s h = h
scanned_shrinks (Repeated task) post desk told j s h = h
scanned_shrinks Counted post desk told j s h = h

back_shrinks : (later : AfterScan) (post : Post) (desk : Desk) (told : List Event) (x : Option Entry) → Shrinks post (giving_back later post desk told x).post
back_shrinks later post desk told None j s h = scanned_shrinks later post (with_kept desk) told j s h
back_shrinks later post desk told (Some entry) j s h = h

reading_shrinks : (later : AfterScan) (n : ℕ) (post : Post) (desk : Desk) (told : List Event) (more : Bool) → Shrinks post (reading later n post desk told more).post
reading_shrinks later n post desk told true j s h = h
reading_shrinks later n post desk told false j s h = back_shrinks later post desk told (unmet_from desk 0) j s h

pub scan_shrinks : (later : AfterScan) (at : ScanAt) (post : Post) (desk : Desk) (found : ℕ) → Shrinks post (scan_turn later at post desk found).post
scan_shrinks later (ReadGuard n) post desk found j s h =
    reading_shrinks later n post (with_read desk n (guard_at post.layout.config n, published (publishes_rows post.layout.config.scheme) (guard_at post.layout.config n) found)) (reads_guard (publishes_rows post.layout.config.scheme) (guard_at post.layout.config n) found ∷ []) (nat_lt (n + 1) (guards post.layout.config)) j s h
scan_shrinks later (GiveBack place slot) post desk found j s h = back_shrinks later post (with_back desk place) (events.Back slot ∷ []) (unmet_from (with_back desk place) place) j s h
