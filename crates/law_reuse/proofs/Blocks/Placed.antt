-- Where a seat's scan stands, by its phase, and what a step of a scan makes of it.
use Rattle.std.proofs.Common.{ℕ, zero, suc, ◌≡◌, ◌<◌, ◌+◌, Bool, true, false, List, [], ◌∷◌, ◌++◌, length, Option, Some, None, refl, sym, ap, subst, ◌∙◌, arith, add-one}
use Rattle.std.proofs.lemmas.Bool.Decides.{nat_tests}
use Rattle.std.proofs.lemmas.List.{length-append}
use Rattle.std.specs.Prelude.{◌==◌, ◌&&◌, ◌||◌, not, nat_lt, if◌then◌else◌, is_none}
use Rattle.std.specs.List.{remove}
use Rattle.laws.specs.defs.Shown.{Seen}
use Rattle.laws.specs.words.declared.config.Config.{Config}
use Rattle.laws.specs.defs.declared.event.Event.{Event}
use Rattle.laws.specs.defs.declared.event.Event.TheVariants as events
use Rattle.laws.specs.defs.declared.event.Guard.{Guard}
use Rattle.laws.specs.defs.declared.event.Guard.TheVariants.{Helper, Index, Whole}
use Rattle.laws.specs.defs.declared.lifetime.Lifetime.{Lifetime}
use Rattle.inv_all.specs.model.declared.post.Post.{Post}
use Rattle.inv_all.specs.model.Calls.{AfterScan, Answered, Repeated, Counted, ScanAt, ReadGuard, GiveBack, Phase, Idle, Runs, Scans, Works, CallTurn}
use Rattle.inv_all.specs.model.Desks.{Desk, Report}
use Rattle.inv_all.specs.model.Guards.{guards, guard_at, published}
use Rattle.inv_all.specs.model.Scan.{Entry, read_before, scanned, giving_back, reading, reads_guard, with_kept, with_read, with_back, unmet_from, scan_turn}
use Rattle.inv_all.proofs.model.Facts.{both}
use Rattle.inv_all.specs.shapes.Frame.{phase_left}
use Rattle.inv_all.specs.shapes.Seats.{scan_fits}
use Rattle.inv_all.specs.covers.Covers.{is_fresh}
use Rattle.inv_all.proofs.covers.Fresh.{round_fresh}
use Rattle.laws.specs.StateAt.{read_by, same_guard}
use Rattle.laws.specs.ScanLaw.{next_back, is_over, is_partial, next_number, read_next, scan_by}
use Rattle.laws.specs.words.Schemes.{publishes_rows}
use Rattle.law_reuse.proofs.ReadGuards.{reads_are}
use Rattle.laws.specs.ScanLaw.{is_life_of}
use Rattle.law_reuse.proofs.Blocks.Found.{met_before, met_none, PlaceOf, place_from, met_remove}

-- no scan is left undone
pub record Rests (all : ℕ) (read : List Seen) (list : List Lifetime) (scans : Bool) : Type 0 where
  pub whole : (length read == 0 || length read == all) ≡ true
  pub over : (not scans || is_over all read list) ≡ true

-- a row is to go back
pub record Gives (all place slot : ℕ) (read : List Seen) (list : List Lifetime) (scans : Bool) : Type 0 where
  pub whole : length read ≡ all
  pub going : scans ≡ true
  pub met : met_before read place list ≡ true
  pub next : is_life_of slot (next_back read list) ≡ true

abbrev pub PlacedAt : ℕ → ScanAt → List Seen → List Lifetime → Bool → Type 0
PlacedAt all (ReadGuard zero) read list scans = Rests all read list scans
PlacedAt all (ReadGuard (suc n)) read list scans = (length read ≡ suc n) × (scans ≡ true)
PlacedAt all (GiveBack place slot) read list scans = Gives all place slot read list scans

abbrev pub Placed : ℕ → Phase → List Seen → List Lifetime → Bool → Type 0
Placed all Idle read list scans = Rests all read list scans
Placed all (Runs why base) read list scans = Rests all read list scans
Placed all (Scans later at) read list scans = PlacedAt all at read list scans
Placed all (Works work) read list scans = Rests all read list scans

pub fresh_placed : (all : ℕ) (phase : Phase) (read : List Seen) (list : List Lifetime) (scans : Bool) → is_fresh phase ≡ true → Rests all read list scans → Placed all phase read list scans
fresh_placed all Idle read list scans f h = h
fresh_placed all (Runs why base) read list scans f h = h
fresh_placed all (Scans later (ReadGuard zero)) read list scans f h = h
fresh_placed all (Scans later (ReadGuard (suc n))) read list scans f h = absurd (cc)
fresh_placed all (Scans later (GiveBack place slot)) read list scans f h = absurd (cc)
fresh_placed all (Works work) read list scans f h = h

-- what a turn leaves, once the seat has told an event of a scan
abbrev pub TurnPlaced : ℕ → CallTurn → Type 0
TurnPlaced all t = Placed all (phase_left t.outcome) t.desk.report.read t.desk.list true

scanned_placed : (all : ℕ) (later : AfterScan) (post : Post) (desk : Desk) (told : List Event) → Rests all desk.report.read desk.list true → TurnPlaced all (scanned later post desk told)
scanned_placed all (Answered answer) post desk told h = h
scanned_placed all (Repeated task) post desk told h = fresh_placed all (phase_left (scanned (Repeated task) post desk told).outcome) desk.report.read desk.list true (round_fresh task post).fresh h
scanned_placed all Counted post desk told h = h

whole_over : (all : ℕ) (read : List Seen) (list : List Lifetime) → length read ≡ all → next_back read list ≡ None → Rests all read list true
whole_over all read list e h =
    let q : (length read == all) ≡ true = grind (arith, nat_tests) in
    record { whole = grind (arith, nat_tests); over = both (length read == all) (is_none (next_back read list)) q (ap is_none h) }

giving_placed : (all : ℕ) (later : AfterScan) (post : Post) (desk : Desk) (told : List Event) (x : Option Entry) → length desk.report.read ≡ all → PlaceOf desk.report.read desk.list x → TurnPlaced all (giving_back later post desk told x)
giving_placed all later post desk told None e h = scanned_placed all later post (with_kept desk) told (whole_over all desk.report.read desk.list e h)
giving_placed all later post desk told (Some entry) e h = record { whole = e; going = refl; met = h.0; next = h.1 }

reading_placed : (all : ℕ) (later : AfterScan) (number : ℕ) (post : Post) (desk : Desk) (told : List Event) (more : Bool) → nat_lt (number + 1) all ≡ more → length desk.report.read ≡ number + 1 → number < all → TurnPlaced all (reading later number post desk told more)
reading_placed all later number post desk told true m e b = rw add-one (e ∙ add-one number, refl)
reading_placed all later number post desk told false m e b =
    let w : length desk.report.read ≡ all = grind (arith, nat_tests) in
    giving_placed all later post desk told (unmet_from desk 0) w (place_from desk.report.read 0 desk.list (met_none desk.report.read desk.list))

-- what it has read after one guard more
length_none : (read : List Seen) → length read ≡ 0 → read ≡ []
length_none [] h = refl
length_none (seen ∷ read) h = absurd (omega arith)

zero_before : (all : ℕ) (read : List Seen) (whole : Bool) → (length read == all) ≡ whole → (length read == 0 || length read == all) ≡ true → [] ≡ (if length read == all then [] else read)
zero_before all read true e h = rw e refl
zero_before all read false e h = let z : length read ≡ 0 = grind (arith, nat_tests) in rw e (sym (length_none read z))

some_before : (all n : ℕ) (read : List Seen) → length read ≡ suc n → suc n < all → read ≡ (if length read == all then [] else read)
some_before all n read e b = let o : (length read == all) ≡ false = grind (arith, nat_tests) in rw o refl

read_before_is : (all n : ℕ) (report : Report) (list : List Lifetime) (scans : Bool) → n < all → PlacedAt all (ReadGuard n) report.read list scans → read_before report n ≡ (if length report.read == all then [] else report.read)
read_before_is all zero report list scans b h = zero_before all report.read (length report.read == all) refl h.whole
read_before_is all (suc n) report list scans b h = some_before all n report.read h.0 b

before_length : (all n : ℕ) (report : Report) (list : List Lifetime) (scans : Bool) → PlacedAt all (ReadGuard n) report.read list scans → length (read_before report n) ≡ n
before_length all zero report list scans h = refl
before_length all (suc n) report list scans h = h.0

read_length : (all n : ℕ) (report : Report) (list : List Lifetime) (scans : Bool) (seen : Seen) → PlacedAt all (ReadGuard n) report.read list scans → length (read_before report n ++ seen ∷ []) ≡ n + 1
read_length all n report list scans seen h = let e = before_length all n report list scans h in omega (arith, length-append (read_before report n) (seen ∷ []), e)

-- the event of a scan's step
abbrev pub scan_event : ScanAt → Post → ℕ → Event
scan_event (ReadGuard number) post found = reads_guard (publishes_rows post.layout.config.scheme) (guard_at post.layout.config number) found
scan_event (GiveBack place slot) post found = events.Back slot

pub scan_placed : (later : AfterScan) (at : ScanAt) (post : Post) (desk : Desk) (found : ℕ) (scans : Bool) → scan_fits post.layout.config at ≡ true → PlacedAt (guards post.layout.config) at desk.report.read desk.list scans → TurnPlaced (guards post.layout.config) (scan_turn later at post desk found)
scan_placed later (ReadGuard n) post desk found scans f h =
    let rows : Bool = publishes_rows post.layout.config.scheme in
    let seen : Seen = (guard_at post.layout.config n, published rows (guard_at post.layout.config n) found) in
    let b : n < guards post.layout.config = grind (arith, nat_tests) in
    reading_placed (guards post.layout.config) later n post (with_read desk n seen) (reads_guard rows seen.0 found ∷ []) (nat_lt (n + 1) (guards post.layout.config)) refl (read_length (guards post.layout.config) n desk.report desk.list scans seen h) b
scan_placed later (GiveBack place slot) post desk found scans f h =
    giving_placed (guards post.layout.config) later post (with_back desk place) (events.Back slot ∷ []) (unmet_from (with_back desk place) place) h.whole
    (place_from desk.report.read place (remove desk.list place) (met_remove desk.report.read place desk.list h.met))

-- what it tells and what it has read
scanned_tells : (later : AfterScan) (post : Post) (desk : Desk) (told : List Event) → (scanned later post desk told).told ≡ told
scanned_tells (Answered answer) post desk told = refl
scanned_tells (Repeated task) post desk told = refl
scanned_tells Counted post desk told = refl

giving_tells : (later : AfterScan) (post : Post) (desk : Desk) (told : List Event) (x : Option Entry) → (giving_back later post desk told x).told ≡ told
giving_tells later post desk told None = scanned_tells later post (with_kept desk) told
giving_tells later post desk told (Some entry) = refl

reading_tells : (later : AfterScan) (number : ℕ) (post : Post) (desk : Desk) (told : List Event) (more : Bool) → (reading later number post desk told more).told ≡ told
reading_tells later number post desk told true = refl
reading_tells later number post desk told false = giving_tells later post desk told (unmet_from desk 0)

pub scan_tells : (later : AfterScan) (at : ScanAt) (post : Post) (desk : Desk) (found : ℕ) → (scan_turn later at post desk found).told ≡ scan_event at post found ∷ []
scan_tells later (ReadGuard n) post desk found =
    let rows : Bool = publishes_rows post.layout.config.scheme in
    let seen : Seen = (guard_at post.layout.config n, published rows (guard_at post.layout.config n) found) in
    reading_tells later n post (with_read desk n seen) (reads_guard rows seen.0 found ∷ []) (nat_lt (n + 1) (guards post.layout.config))
scan_tells later (GiveBack place slot) post desk found = giving_tells later post (with_back desk place) (events.Back slot ∷ []) (unmet_from (with_back desk place) place)

scanned_reads : (later : AfterScan) (post : Post) (desk : Desk) (told : List Event) → (scanned later post desk told).desk.report.read ≡ desk.report.read
scanned_reads (Answered answer) post desk told = refl
scanned_reads (Repeated task) post desk told = refl
scanned_reads Counted post desk told = refl

giving_reads : (later : AfterScan) (post : Post) (desk : Desk) (told : List Event) (x : Option Entry) → (giving_back later post desk told x).desk.report.read ≡ desk.report.read
giving_reads later post desk told None = scanned_reads later post (with_kept desk) told
giving_reads later post desk told (Some entry) = refl

reading_reads : (later : AfterScan) (number : ℕ) (post : Post) (desk : Desk) (told : List Event) (more : Bool) → (reading later number post desk told more).desk.report.read ≡ desk.report.read
reading_reads later number post desk told true = refl
reading_reads later number post desk told false = giving_reads later post desk told (unmet_from desk 0)

-- the guard with what it publishes is read
reads_with : (all : ℕ) (rows : Bool) (guard : Guard) (word : ℕ) (read : List Seen) → read_by all (reads_guard rows guard word) read ≡ (if length read == all then [] else read) ++ (guard, published rows guard word) ∷ []
reads_with all false guard word read = refl
reads_with all true guard word read = refl

pub scan_reads : (later : AfterScan) (at : ScanAt) (post : Post) (desk : Desk) (found : ℕ) (scans : Bool) → scan_fits post.layout.config at ≡ true → PlacedAt (guards post.layout.config) at desk.report.read desk.list scans
    → (scan_turn later at post desk found).desk.report.read ≡ read_by (guards post.layout.config) (scan_event at post found) desk.report.read
scan_reads later (ReadGuard n) post desk found scans f h =
    let rows : Bool = publishes_rows post.layout.config.scheme in
    let seen : Seen = (guard_at post.layout.config n, published rows (guard_at post.layout.config n) found) in
    let b : n < guards post.layout.config = grind (arith, nat_tests) in
    reading_reads later n post (with_read desk n seen) (reads_guard rows seen.0 found ∷ []) (nat_lt (n + 1) (guards post.layout.config))
    ∙ ap (λ (read : List Seen). read ++ seen ∷ []) (read_before_is (guards post.layout.config) n desk.report desk.list scans b h)
    ∙ sym (reads_with (guards post.layout.config) rows (guard_at post.layout.config n) found desk.report.read)
scan_reads later (GiveBack place slot) post desk found scans f h = giving_reads later post (with_back desk place) (events.Back slot ∷ []) (unmet_from (with_back desk place) place)

-- it is allowed
guard_self : (guard : Guard) → same_guard guard guard ≡ true
guard_self (Helper seat) = grind (arith, nat_tests)
guard_self (Index seat index) = grind (arith, nat_tests)
guard_self (Whole seat) = grind (arith, nat_tests)

guard_next : (config : Config) (n m : ℕ) → n ≡ m → same_guard (guard_at config n) (guard_at config m) ≡ true
guard_next config n m e = subst (λ (k : ℕ). same_guard (guard_at config n) (guard_at config k) ≡ true) e (guard_self (guard_at config n))

zero_next : (all : ℕ) (read : List Seen) (whole : Bool) → (length read == all) ≡ whole → (length read == 0 || length read == all) ≡ true → 0 ≡ next_number all read
zero_next all read true e h = rw e refl
zero_next all read false e h = let z : length read ≡ 0 = grind (arith, nat_tests) in rw (e, z) refl

number_next : (all n : ℕ) (read : List Seen) (list : List Lifetime) (scans : Bool) → n < all → PlacedAt all (ReadGuard n) read list scans → n ≡ next_number all read
number_next all zero read list scans b h = zero_next all read (length read == all) refl h.whole
number_next all (suc n) read list scans b h = let e : length read ≡ suc n = h.0 in let o : (length read == all) ≡ false = grind (arith, nat_tests) in rw o (sym e)

zero_allowed : (all : ℕ) (read : List Seen) (list : List Lifetime) (scans : Bool) → Rests all read list scans → (if is_partial all read then scans else (not scans || is_over all read list)) ≡ true
zero_allowed all read list scans h = let w : (length read == 0 || length read == all) ≡ true = h.whole in let o : is_partial all read ≡ false = grind (arith, nat_tests) in rw o h.over

some_allowed : (all n : ℕ) (read : List Seen) (list : List Lifetime) (scans : Bool) → suc n < all → length read ≡ suc n → scans ≡ true → (if is_partial all read then scans else (not scans || is_over all read list)) ≡ true
some_allowed all n read list scans b e s = let o : is_partial all read ≡ true = grind (arith, nat_tests) in rw o s

read_allowed : (all n : ℕ) (read : List Seen) (list : List Lifetime) (scans : Bool) → n < all → PlacedAt all (ReadGuard n) read list scans → (if is_partial all read then scans else (not scans || is_over all read list)) ≡ true
read_allowed all zero read list scans b h = zero_allowed all read list scans h
read_allowed all (suc n) read list scans b h = some_allowed all n read list scans b h.0 h.1

pub scan_allowed : (at : ScanAt) (post : Post) (read : List Seen) (list : List Lifetime) (found : ℕ) (scans : Bool) → scan_fits post.layout.config at ≡ true → PlacedAt (guards post.layout.config) at read list scans → scan_by post.layout.config read list scans (scan_event at post found) ≡ true
scan_allowed (ReadGuard n) post read list found scans f h =
    let config : Config = post.layout.config in
    let b : n < guards config = grind (arith, nat_tests) in
    let next : read_next config read list scans (guard_at config n) ≡ true =
    both (same_guard (guard_at config n) (guard_at config (next_number (guards config) read))) (if is_partial (guards config) read then scans else (not scans || is_over (guards config) read list))
    (guard_next config n (next_number (guards config) read) (number_next (guards config) n read list scans b h)) (read_allowed (guards config) n read list scans b h) in
    reads_are (λ (event : Event). scan_by config read list scans event ≡ true) (publishes_rows config.scheme) (guard_at config n) found (λ span. next) (λ slot. next)
scan_allowed (GiveBack place slot) post read list found scans f h =
    let all : ℕ = guards post.layout.config in
    let e : length read ≡ all = h.whole in
    let q : (length read == all) ≡ true = grind (arith, nat_tests) in
    both scans (length read == all && is_life_of slot (next_back read list)) h.going (both (length read == all) (is_life_of slot (next_back read list)) q h.next)
