-- Which calls scan and move the clock, from the courses that histories take: a call retires one row at most.
use Rattle.std.proofs.Common.{ℕ, ◌≡◌, Bool, true, false, refl, sym, arith, None, Some, Option, ap, ◌+◌, ◌-◌, ◌≤◌, ◌<◌}
use Rattle.std.proofs.lemmas.Bool.Decides.{nat_tests}
use Rattle.std.specs.Prelude.{◌==◌, if◌then◌else◌, ◌&&◌, ◌||◌, not, is_none, nat_lt, nat_le, ◌%◌}
use Rattle.laws.proofs.records.defs.Facts.{first_of, rest_of, number_is, false_of_not}
use Rattle.laws.specs.EraLaw.{is_of_advance, moves_ok}
use Rattle.laws.specs.HistoryEras.{may_move, plain_moves_ok}
use Rattle.laws.specs.HistoryRows.{cuts_one, single_ok}
use Rattle.laws.specs.HistoryScans as strong
use Rattle.laws.specs.HistoryScans.{Course, Tally, first_course, moved_course, read_course, retired_course, plain_by, plain_tally, no_tally, may_read, is_settled, scan_right, plain_scans_ok, Search, search_by, search_of, no_search, seeks_row}
use Rattle.laws.specs.HistoryScans.Course.{Plain, Advancing, MayScan, MustScan, Reading}
use Rattle.laws.specs.Standing.{open_ok}
use Rattle.laws.specs.ScanLaw.{Blocks, begun_block, blocks_by, blocks_of, guards, is_given_one, is_scan_call, may_begin, is_scanned, blocks_ok, seeks_room, room_ok, due_block}
use Rattle.laws.specs.Lists.{has_left}
use Rattle.laws.specs.StateAt.{began_by, began_of, is_open, opened_by, retires_by, retires_of, was_taken}
use Rattle.laws.specs.defs.declared.call.Call.{Call}
use Rattle.laws.specs.defs.declared.call.Call.TheVariants as calls
use Rattle.laws.specs.defs.declared.event.Event.{Event}
use Rattle.laws.specs.defs.declared.event.Event.TheVariants as events
use Rattle.laws.specs.records.Record.{Past, Each, Test}
use Rattle.laws.specs.records.Record.Past.{Start, Then}
use Rattle.laws.specs.words.declared.config.Config.{Config}

-- the eras that a call has told and that no block has taken are as few as they may be where it ends
abbrev few_moves : Option Call → Blocks → Bool
few_moves call y = is_of_advance call || y.moves == 0

-- a block is awaited: it may begin, and once it has, none is due; it is one for a row where the call still seeks one
record Awaits (all : ℕ) (call : Option Call) (seeks : Bool) (y : Blocks) : Type 0 where
  whole : y.left ≡ 0
  begins : may_begin call y y.due ≡ true
  scanned : is_scanned call (begun_block all y) ≡ true
  seeking : y.due ≡ None → is_given_one call ≡ true → seeks ≡ true

-- what the blocks of a call have come to on each course; `retires` are the rows that it has retired
abbrev Fits : (all : ℕ) → Option Call → (retires : ℕ) → (seeks : Bool) → Course → Blocks → Type 0
Fits all call retires seeks Plain y = (y.left ≡ 0) × (is_scanned call y ≡ true) × (few_moves call y ≡ true)
Fits all call retires seeks Advancing y = (y.left ≡ 0) × (is_scanned call y ≡ true) × (is_of_advance call ≡ true) × (y.moves ≡ 0)
Fits all call retires seeks MayScan y = Awaits all call seeks y × (is_scanned call y ≡ true) × (y.moves ≡ 0)
Fits all call retires seeks (MustScan moves) y = Awaits all call seeks y × (y.moves ≤ 1) × (moves ≡ true → y.moves ≡ 0)
Fits all call retires seeks (Reading reads) y = (0 < reads) × (reads ≤ all) × (y.left ≡ all - reads) × (is_scanned call y ≡ true) × (y.moves ≡ 0) × (0 < y.begun)

record Agrees (all : ℕ) (call : Option Call) (busy : Bool) (retires : ℕ) (seeks : Bool) (x : Tally) (y : Blocks) : Type 0 where
  counts : x.retired ≡ y.retired
  fits : Fits all call retires seeks x.course y
  closed : busy ≡ false → y.left ≡ 0
  single : retires ≡ 0 → y.due ≡ None

few_of_none : (call : Option Call) (y : Blocks) → y.moves ≡ 0 → few_moves call y ≡ true
few_of_none call y e = rw e (by (is_of_advance call))
  where
    by : (b : Bool) → (b || 0 == 0) ≡ true
    by true = refl
    by false = refl

-- where nothing is left undone
record Settled (call : Option Call) (y : Blocks) : Type 0 where
  whole : y.left ≡ 0
  scanned : is_scanned call y ≡ true
  few : few_moves call y ≡ true

all_read : (reads all left : ℕ) → (reads == all) ≡ true → left ≡ all - reads → left ≡ 0
all_read reads all left h e = let same : reads ≡ all = number_is reads all h in omega (arith, e, same)

settled : (all : ℕ) (call : Option Call) (retires : ℕ) (seeks : Bool) (course : Course) (y : Blocks) → is_settled all course ≡ true → Fits all call retires seeks course y → Settled call y
settled all call retires seeks Plain y h f = record { whole = f.0; scanned = f.1; few = f.2 }
settled all call retires seeks Advancing y h f = record { whole = f.0; scanned = f.1; few = few_of_none call y f.3 }
settled all call retires seeks MayScan y h f = record { whole = f.0.whole; scanned = f.1; few = few_of_none call y f.2 }
settled all call retires seeks (MustScan moves) y h f = absurd (cc)
settled all call retires seeks (Reading reads) y h f = record { whole = all_read reads all y.left h f.2; scanned = f.3; few = few_of_none call y f.4 }

-- a call begins
abbrev fresh : Blocks → Blocks
fresh y = record { retired = y.retired; given = false; begun = 0; due = None; last = 0; left = y.left; moves = 0 }

begin_fits : (all : ℕ) (call : Call) (y : Blocks) → y.left ≡ 0 → Fits all (Some call) 0 (seeks_row call) (first_course call) (fresh y)
begin_fits all (calls.Put key value) y h = (record { whole = h; begins = refl; scanned = refl; seeking = λ e g. refl }, refl, refl)
begin_fits all (calls.Remove key) y h = (record { whole = h; begins = refl; scanned = refl; seeking = λ e g. refl }, refl, refl)
begin_fits all (calls.Enqueue value) y h = (record { whole = h; begins = refl; scanned = refl; seeking = λ e g. refl }, refl, refl)
begin_fits all calls.Advance y h = (h, refl, refl, refl)
begin_fits all calls.Scan y h = (record { whole = h; begins = refl; scanned = refl; seeking = λ e g. absurd (cc) }, omega arith, λ e. absurd (cc))
begin_fits all (calls.Get key) y h = (h, refl, refl)
begin_fits all calls.Dequeue y h = (h, refl, refl)
begin_fits all (calls.Hold key) y h = (h, refl, refl)
begin_fits all calls.Release y h = (h, refl, refl)
begin_fits all (calls.Copy from index) y h = (h, refl, refl)
begin_fits all (calls.DropIndex index) y h = (h, refl, refl)
begin_fits all (calls.Look index key) y h = (h, refl, refl)
begin_fits all calls.Leave y h = (h, refl, refl)
begin_fits all (calls.Adopt place) y h = (h, refl, refl)
begin_fits all (calls.PutIf key value version) y h = (record { whole = h; begins = refl; scanned = refl; seeking = λ e g. refl }, refl, refl)

-- a row is retired
no_scan : (call : Option Call) → cuts_one call ≡ true → is_scan_call call ≡ false
no_scan (Some (calls.Put key value)) h = refl
no_scan (Some (calls.Remove key)) h = refl
no_scan (Some calls.Dequeue) h = refl
no_scan (Some (calls.Get key)) h = refl
no_scan (Some (calls.Enqueue value)) h = refl
no_scan (Some (calls.Hold key)) h = refl
no_scan (Some calls.Release) h = refl
no_scan (Some (calls.Copy from index)) h = refl
no_scan (Some (calls.DropIndex index)) h = refl
no_scan (Some (calls.Look index key)) h = refl
no_scan (Some calls.Leave) h = refl
no_scan (Some (calls.Adopt place)) h = refl
no_scan (Some (calls.PutIf key value version)) h = refl
no_scan (Some calls.Advance) h = refl
no_scan (Some calls.Scan) h = absurd (cc)
no_scan None h = refl

no_advance : (call : Option Call) → cuts_one call ≡ true → is_of_advance call ≡ false
no_advance (Some (calls.Put key value)) h = refl
no_advance (Some (calls.Remove key)) h = refl
no_advance (Some calls.Dequeue) h = refl
no_advance (Some (calls.Get key)) h = refl
no_advance (Some (calls.Enqueue value)) h = refl
no_advance (Some (calls.Hold key)) h = refl
no_advance (Some calls.Release) h = refl
no_advance (Some (calls.Copy from index)) h = refl
no_advance (Some (calls.DropIndex index)) h = refl
no_advance (Some (calls.Look index key)) h = refl
no_advance (Some calls.Leave) h = refl
no_advance (Some (calls.Adopt place)) h = refl
no_advance (Some (calls.PutIf key value version)) h = refl
no_advance (Some calls.Advance) h = absurd (cc)
no_advance (Some calls.Scan) h = refl
no_advance None h = refl

none_moved : (call : Option Call) (y : Blocks) → is_of_advance call ≡ false → few_moves call y ≡ true → y.moves ≡ 0
none_moved call y e h =
    let t : (y.moves == 0) ≡ true = rw e at h in
    number_is y.moves 0 t

retire_fits : (all every : ℕ) (call : Option Call) (seeks : Bool) (y : Blocks) (hit : Bool) → cuts_one call ≡ true → y.due ≡ None → Settled call y
    → Fits all call 1 seeks (retired_course hit) (if hit then record y { retired = y.retired + 1; due = due_block y.due; last = 0 } else record y { retired = y.retired + 1 })
retire_fits all every call seeks y true g d s =
    let n : is_scan_call call ≡ false = no_scan call g in
    let m : y.moves ≡ 0 = none_moved call y (no_advance call g) s.few in
    (record { whole = s.whole; begins = rw (d, n) refl; scanned = rw (d, n) refl; seeking = λ e. absurd (some_due e) }, rw m (omega arith), λ e. m)
  where
    some_due : due_block y.due ≡ None → ⊥
    some_due e = let t : due_block None ≡ None = rw d at e in cc
retire_fits all every call seeks y false g d s = (s.whole, s.scanned, s.few)

-- the clock is moved
era_fits : (all : ℕ) (call : Option Call) (retires : ℕ) (seeks : Bool) (course : Course) (y : Blocks) → may_move course ≡ true → Fits all call retires seeks course y → Fits all call retires seeks (moved_course course) (record y { moves = y.moves + 1 })
era_fits all call retires seeks Plain y h f = absurd (cc)
era_fits all call retires seeks Advancing y h f = (f.0, f.1, rw f.2 refl)
era_fits all call retires seeks MayScan y h f = (record { whole = f.0.whole; begins = f.0.begins; scanned = f.0.scanned; seeking = f.0.seeking }, rw f.2 (omega arith), λ e. absurd (cc))
era_fits all call retires seeks (MustScan true) y h f = (record { whole = f.0.whole; begins = f.0.begins; scanned = f.0.scanned; seeking = f.0.seeking }, rw (f.2 refl) (omega arith), λ e. absurd (cc))
era_fits all call retires seeks (MustScan false) y h f = absurd (cc)
era_fits all call retires seeks (Reading reads) y h f = absurd (cc)

-- a guard is read
begun_fits : (all : ℕ) (call : Option Call) (retires : ℕ) (seeks : Bool) (y : Blocks) → 0 < all → Awaits all call seeks y → y.moves ≤ 1 → Fits all call retires seeks (Reading 1) (if y.left == 0 then begun_block all y else record y { left = y.left - 1 })
begun_fits all call retires seeks y low a m =
    let none : y.moves - 1 ≡ 0 = omega (arith, m) in
    rw a.whole (omega arith, omega (arith, low), refl, a.scanned, none, omega arith)

read_on : (all reads left : ℕ) → (nat_lt reads all) ≡ true → left ≡ all - reads → ((left == 0) ≡ false) × (reads + 1 ≤ all) × (left - 1 ≡ all - (reads + 1))
read_on all reads left h e = (grind (arith, nat_tests), grind (arith, nat_tests), grind (arith, nat_tests))

read_fits : (all : ℕ) (call : Option Call) (retires : ℕ) (seeks : Bool) (course : Course) (y : Blocks) → 0 < all → may_read all course ≡ true → Fits all call retires seeks course y → Fits all call retires seeks (read_course course) (if y.left == 0 then begun_block all y else record y { left = y.left - 1 })
read_fits all call retires seeks Plain y low h f = absurd (cc)
read_fits all call retires seeks Advancing y low h f = absurd (cc)
read_fits all call retires seeks MayScan y low h f = begun_fits all call retires seeks y low f.0 (rw f.2 (omega arith))
read_fits all call retires seeks (MustScan moves) y low h f = begun_fits all call retires seeks y low f.0 f.1
read_fits all call retires seeks (Reading reads) y low h f =
    let n = read_on all reads y.left h f.2 in
    rw n.0 (omega arith, n.1, n.2, f.3, f.4, f.5)

-- each entry of a seat keeps this
abbrev At : Config → ℕ → Past → Type 0
At config i p = Agrees (guards config) (began_of i p) (is_open i p) (retires_of i p) (search_of i p).seeks (plain_tally config.every i p) (blocks_of config i p)

abbrev After : Config → ℕ → Past → Event → Type 0
After config i p event =
    Agrees (guards config) (began_by event (began_of i p)) (opened_by event (is_open i p)) (retires_by event (retires_of i p)) (search_by event (search_of i p)).seeks
    (plain_by config.every event (plain_tally config.every i p)) (blocks_by (guards config) config.every event (blocks_of config i p))

retired_agrees : (all every : ℕ) (call : Option Call) (busy : Bool) (c : ℕ) (seeks : Bool) (x : Tally) (y : Blocks) (hit : Bool) → cuts_one call ≡ true → (c == 0) ≡ true → is_settled all x.course ≡ true → Agrees all call busy c seeks x y
    → ((x.retired + 1) % every == 0) ≡ hit
    → Agrees all call busy (c + 1) false (record { retired = x.retired + 1; course = retired_course hit }) (if hit then record y { retired = y.retired + 1; due = due_block y.due; last = 0 } else record y { retired = y.retired + 1 })
retired_agrees all every call busy c seeks x y true g n h a e =
    let none : y.due ≡ None = a.single (number_is c 0 n) in
    let s : Settled call y = settled all call c seeks x.course y h a.fits in
    let f = retire_fits all every call false y true g none s in
    record { counts = ap (λ (m : ℕ). m + 1) a.counts; fits = (record { whole = f.0.whole; begins = f.0.begins; scanned = f.0.scanned; seeking = f.0.seeking }, f.1, f.2); closed = λ o. s.whole; single = λ o. absurd (omega (arith, o)) }
retired_agrees all every call busy c seeks x y false g n h a e =
    let none : y.due ≡ None = a.single (number_is c 0 n) in
    let s : Settled call y = settled all call c seeks x.course y h a.fits in
    record { counts = ap (λ (m : ℕ). m + 1) a.counts; fits = (s.whole, s.scanned, s.few); closed = λ o. s.whole; single = λ o. absurd (omega (arith, o)) }

retired_pair : (all every : ℕ) (call : Option Call) (busy : Bool) (c : ℕ) (seeks : Bool) (x : Tally) (y : Blocks) (hit other : Bool) → other ≡ hit → cuts_one call ≡ true → (c == 0) ≡ true → is_settled all x.course ≡ true → Agrees all call busy c seeks x y
    → ((x.retired + 1) % every == 0) ≡ hit
    → Agrees all call busy (c + 1) false (record { retired = x.retired + 1; course = retired_course hit }) (if other then record y { retired = y.retired + 1; due = due_block y.due; last = 0 } else record y { retired = y.retired + 1 })
retired_pair all every call busy c seeks x y hit other same g n h a e = rw same (retired_agrees all every call busy c seeks x y hit g n h a e)

read_single : (all c : ℕ) (y : Blocks) (whole : Bool) → (c ≡ 0 → y.due ≡ None) → c ≡ 0 → (if whole then begun_block all y else record y { left = y.left - 1 }).due ≡ None
read_single all c y true f e = rw (f e) refl
read_single all c y false f e = f e

read_counts : (all : ℕ) (x : Tally) (y : Blocks) (whole : Bool) → x.retired ≡ y.retired → x.retired ≡ (if whole then begun_block all y else record y { left = y.left - 1 }).retired
read_counts all x y true e = e
read_counts all x y false e = e

own_step : (config : Config) (i : ℕ) (p : Past) (event : Event) → 0 < guards config → open_ok p i event ≡ true → plain_scans_ok config p i event ≡ true → plain_moves_ok config p i event ≡ true → single_ok p i event ≡ true → At config i p → After config i p event
own_step config i p (events.Begin call) low o s m g a =
    let shut : is_open i p ≡ false = false_of_not (is_open i p) (first_of (not (is_open i p)) (not (has_left i p)) o) in
    record { counts = a.counts; fits = begin_fits (guards config) call (blocks_of config i p) (a.closed shut); closed = λ e. absurd (cc); single = λ e. refl }
own_step config i p (events.Give slot birth) low o s m g a =
    let t : Settled (began_of i p) (blocks_of config i p) = settled (guards config) (began_of i p) (retires_of i p) (search_of i p).seeks (plain_tally config.every i p).course (blocks_of config i p) s a.fits in
    record { counts = a.counts; fits = (t.whole, t.scanned, t.few); closed = λ e. t.whole; single = a.single }
own_step config i p (events.Retire slot birth retire) low o s m g a =
    let same : (((blocks_of config i p).retired + 1) % config.every == 0) ≡ (((plain_tally config.every i p).retired + 1) % config.every == 0) = ap (λ (m : ℕ). (m + 1) % config.every == 0) (sym a.counts) in
    retired_pair (guards config) config.every (began_of i p) (is_open i p) (retires_of i p) (search_of i p).seeks (plain_tally config.every i p) (blocks_of config i p) (((plain_tally config.every i p).retired + 1) % config.every == 0) (((blocks_of config i p).retired + 1) % config.every == 0)
    same (first_of (cuts_one (began_of i p)) (retires_of i p == 0) g) (rest_of (cuts_one (began_of i p)) (retires_of i p == 0) g) s a refl
own_step config i p (events.Era era) low o s m g a =
    record {
      counts = a.counts;
      fits = era_fits (guards config) (began_of i p) (retires_of i p) (search_of i p).seeks (plain_tally config.every i p).course (blocks_of config i p) m a.fits;
      closed = a.closed;
      single = a.single;
    }
own_step config i p (events.Read guard span) low o s m g a =
    record {
      counts = read_counts (guards config) (plain_tally config.every i p) (blocks_of config i p) ((blocks_of config i p).left == 0) a.counts;
      fits = read_fits (guards config) (began_of i p) (retires_of i p) (search_of i p).seeks (plain_tally config.every i p).course (blocks_of config i p) low s a.fits;
      closed = λ e. absurd (cc);
      single = read_single (guards config) (retires_of i p) (blocks_of config i p) ((blocks_of config i p).left == 0) a.single;
    }
own_step config i p (events.Saw guard slot) low o s m g a =
    record {
      counts = read_counts (guards config) (plain_tally config.every i p) (blocks_of config i p) ((blocks_of config i p).left == 0) a.counts;
      fits = read_fits (guards config) (began_of i p) (retires_of i p) (search_of i p).seeks (plain_tally config.every i p).course (blocks_of config i p) low s a.fits;
      closed = λ e. absurd (cc);
      single = read_single (guards config) (retires_of i p) (blocks_of config i p) ((blocks_of config i p).left == 0) a.single;
    }
own_step config i p (events.End steps answer) low o s m g a =
    let t : Settled (began_of i p) (blocks_of config i p) = settled (guards config) (began_of i p) (retires_of i p) (search_of i p).seeks (plain_tally config.every i p).course (blocks_of config i p) s a.fits in
    record { counts = a.counts; fits = a.fits; closed = λ e. t.whole; single = a.single }
own_step config i p event low o s m g a = a

-- at an entry of another seat nothing of this changes
entry_step : (config : Config) (i k : ℕ) (p : Past) (event : Event) (same : Bool) → (i == k) ≡ same → 0 < guards config → open_ok p k event ≡ true → plain_scans_ok config p k event ≡ true → plain_moves_ok config p k event ≡ true → single_ok p k event ≡ true → At config i p → At config i (Then p k event)
entry_step config i k p event true e low o s m g a =
    let here : i ≡ k = number_is i k e in
    let o' : open_ok p i event ≡ true = rw here o in
    let s' : plain_scans_ok config p i event ≡ true = rw here s in
    let m' : plain_moves_ok config p i event ≡ true = rw here m in
    let g' : single_ok p i event ≡ true = rw here g in
    rw e (own_step config i p event low o' s' m' g' a)
entry_step config i k p event false e low o s m g a = rw e a

-- what each history keeps of it
pub record Courses (config : Config) (r : Past) : Type 0 where
  pub calls : Each open_ok r
  pub scans : Each (plain_scans_ok config) r
  pub moves : Each (plain_moves_ok config) r
  pub single : Each single_ok r

pub before_last : (config : Config) (p : Past) (i : ℕ) (event : Event) → Courses config (Then p i event) → Courses config p
before_last config p i event c = record { calls = c.calls.1; scans = c.scans.1; moves = c.moves.1; single = c.single.1 }

agrees_at : (config : Config) (i : ℕ) (p : Past) → 0 < guards config → Courses config p → At config i p
agrees_at config i Start low c = record { counts = refl; fits = (refl, refl, refl); closed = λ e. refl; single = λ e. refl }
agrees_at config i (Then p k event) low c = entry_step config i k p event (i == k) refl low c.calls.0 c.scans.0 c.moves.0 c.single.0 (agrees_at config i p low (before_last config p k event c))

or_true : (b : Bool) → (b || true) ≡ true
or_true true = refl
or_true false = refl

-- a block begins only where one may
read_right : (all : ℕ) (call : Option Call) (retires : ℕ) (seeks : Bool) (course : Course) (y : Blocks) → may_read all course ≡ true → Fits all call retires seeks course y → (not (y.left == 0) || may_begin call y y.due) ≡ true
read_right all call retires seeks Plain y h f = absurd (cc)
read_right all call retires seeks Advancing y h f = absurd (cc)
read_right all call retires seeks MayScan y h f = rw f.0.begins (or_true (not (y.left == 0)))
read_right all call retires seeks (MustScan moves) y h f = rw f.0.begins (or_true (not (y.left == 0)))
read_right all call retires seeks (Reading reads) y h f = let n = read_on all reads y.left h f.2 in rw n.0 refl

block_part : (config : Config) (p : Past) (i : ℕ) (event : Event) → plain_scans_ok config p i event ≡ true → At config i p → blocks_ok config p i event ≡ true
block_part config p i (events.Read guard span) h a = read_right (guards config) (began_of i p) (retires_of i p) (search_of i p).seeks (plain_tally config.every i p).course (blocks_of config i p) h a.fits
block_part config p i (events.Saw guard slot) h a = read_right (guards config) (began_of i p) (retires_of i p) (search_of i p).seeks (plain_tally config.every i p).course (blocks_of config i p) h a.fits
block_part config p i (events.End steps answer) h a =
    let t : Settled (began_of i p) (blocks_of config i p) = settled (guards config) (began_of i p) (retires_of i p) (search_of i p).seeks (plain_tally config.every i p).course (blocks_of config i p) h a.fits in
    t.scanned
block_part config p i event h a = refl

-- where a block begins for a row the call seeks one
due_none : (x : Option ℕ) → is_none x ≡ true → x ≡ None
due_none None e = refl
due_none (Some n) e = absurd (cc)

unless : (b : Bool) → (b ≡ true → ⊥) → (not b || false) ≡ true
unless true f = absurd (f refl)
unless false f = refl

none_sought : (call : Option Call) (y : Blocks) → (y.due ≡ None → is_given_one call ≡ true → false ≡ true) → seeks_room call y ≡ true → ⊥
none_sought call y k e =
    let t : (is_none y.due && is_given_one call) ≡ true = rest_of (y.left == 0) (is_none y.due && is_given_one call) e in
    let f : false ≡ true = k (due_none y.due (first_of (is_none y.due) (is_given_one call) t)) (rest_of (is_none y.due) (is_given_one call) t) in
    cc

seeking_room : (call : Option Call) (seeks : Bool) (y : Blocks) (was : Bool) → (y.due ≡ None → is_given_one call ≡ true → seeks ≡ true) → (not seeks || was) ≡ true → (not (seeks_room call y) || was) ≡ true
seeking_room call seeks y true k g = or_true (not (seeks_room call y))
seeking_room call true y false k g = absurd (cc)
seeking_room call false y false k g = unless (seeks_room call y) (none_sought call y k)

room_right : (all : ℕ) (call : Option Call) (retires : ℕ) (seeks : Bool) (course : Course) (y : Blocks) (was : Bool) → may_read all course ≡ true → Fits all call retires seeks course y → (not seeks || was) ≡ true → (not (seeks_room call y) || was) ≡ true
room_right all call retires seeks Plain y was h f g = absurd (cc)
room_right all call retires seeks Advancing y was h f g = absurd (cc)
room_right all call retires seeks MayScan y was h f g = seeking_room call seeks y was f.0.seeking g
room_right all call retires seeks (MustScan moves) y was h f g = seeking_room call seeks y was f.0.seeking g
room_right all call retires seeks (Reading reads) y was h f g = let n = read_on all reads y.left h f.2 in rw n.0 refl

room_part : (config : Config) (s : ℕ) (p : Past) (i : ℕ) (event : Event) → plain_scans_ok config p i event ≡ true → strong.room_ok config.slots s p i event ≡ true → At config i p → room_ok config s p i event ≡ true
room_part config s p i (events.Read guard span) h g a =
    room_right (guards config) (began_of i p) (retires_of i p) (search_of i p).seeks (plain_tally config.every i p).course (blocks_of config i p) (was_taken config.slots i s p) h a.fits g
room_part config s p i (events.Saw guard slot) h g a =
    room_right (guards config) (began_of i p) (retires_of i p) (search_of i p).seeks (plain_tally config.every i p).course (blocks_of config i p) (was_taken config.slots i s p) h a.fits g
room_part config s p i event h g a = refl

-- the clock is moved only where each era told before has had its block
era_none : (all : ℕ) (call : Option Call) (retires : ℕ) (seeks : Bool) (course : Course) (y : Blocks) → may_move course ≡ true → Fits all call retires seeks course y → (y.moves == 0) ≡ true
era_none all call retires seeks Plain y h f = absurd (cc)
era_none all call retires seeks Advancing y h f = rw f.3 refl
era_none all call retires seeks MayScan y h f = rw f.2 refl
era_none all call retires seeks (MustScan true) y h f = rw (f.2 refl) refl
era_none all call retires seeks (MustScan false) y h f = absurd (cc)
era_none all call retires seeks (Reading reads) y h f = absurd (cc)

-- the eras told have had their blocks where another is told, and where a call ends
move_part : (config : Config) (p : Past) (i : ℕ) (event : Event) → plain_scans_ok config p i event ≡ true → plain_moves_ok config p i event ≡ true → At config i p → moves_ok config p i event ≡ true
move_part config p i (events.Era era) h m a =
    era_none (guards config) (began_of i p) (retires_of i p) (search_of i p).seeks (plain_tally config.every i p).course (blocks_of config i p) m a.fits
move_part config p i (events.End steps answer) h m a =
    let t : Settled (began_of i p) (blocks_of config i p) = settled (guards config) (began_of i p) (retires_of i p) (search_of i p).seeks (plain_tally config.every i p).course (blocks_of config i p) h a.fits in
    t.few
move_part config p i event h m a = refl

-- so at each entry
each_course : (config : Config) (weak : Test) → 0 < guards config → ((p : Past) (i : ℕ) (event : Event) → plain_scans_ok config p i event ≡ true → At config i p → weak p i event ≡ true) → (r : Past) → Courses config r → Each weak r
each_course config weak low f Start c = tt
each_course config weak low f (Then p i event) c = (f p i event c.scans.0 (agrees_at config i p low (before_last config p i event c)), each_course config weak low f p (before_last config p i event c))

pub blocks_kept : (config : Config) (r : Past) → 0 < guards config → Courses config r → Each (blocks_ok config) r
blocks_kept config r low c = each_course config (blocks_ok config) low (block_part config) r c

pub moves_kept : (config : Config) (r : Past) → 0 < guards config → Courses config r → Each (moves_ok config) r
moves_kept config Start low c = tt
moves_kept config (Then p i event) low c =
    (move_part config p i event c.scans.0 c.moves.0 (agrees_at config i p low (before_last config p i event c)), moves_kept config p low (before_last config p i event c))

pub rooms_kept : (config : Config) (s : ℕ) (r : Past) → 0 < guards config → Courses config r → Each (strong.room_ok config.slots s) r → Each (room_ok config s) r
rooms_kept config s Start low c h = tt
rooms_kept config s (Then p i event) low c h =
    (room_part config s p i event c.scans.0 h.0 (agrees_at config i p low (before_last config p i event c)), rooms_kept config s p low (before_last config p i event c) h.1)

-- a call that has read a guard has begun a block
abbrev ReadsBegun : Config → ℕ → Past → Type 0
ReadsBegun config i p = 0 < (search_of i p).reads → 0 < (blocks_of config i p).begun

reading_begun : (all : ℕ) (call : Option Call) (retires : ℕ) (seeks : Bool) (course : Course) (y : Blocks) → Fits all call retires seeks (read_course course) y → 0 < y.begun
reading_begun all call retires seeks Plain y f = f.5
reading_begun all call retires seeks Advancing y f = f.5
reading_begun all call retires seeks MayScan y f = f.5
reading_begun all call retires seeks (MustScan moves) y f = f.5
reading_begun all call retires seeks (Reading reads) y f = f.5

retired_begun : (hit : Bool) (y : Blocks) → (if hit then record y { retired = y.retired + 1; due = due_block y.due; last = 0 } else record y { retired = y.retired + 1 }).begun ≡ y.begun
retired_begun true y = refl
retired_begun false y = refl

own_begun : (config : Config) (i : ℕ) (p : Past) (event : Event) → After config i p event → ReadsBegun config i p → 0 < (search_by event (search_of i p)).reads → 0 < (blocks_by (guards config) config.every event (blocks_of config i p)).begun
own_begun config i p (events.Begin call) a h g = absurd (omega (arith, g))
own_begun config i p (events.Read guard span) a h g = reading_begun (guards config) (began_of i p) (retires_of i p) (search_of i p).seeks (plain_tally config.every i p).course (blocks_by (guards config) config.every (events.Read guard span) (blocks_of config i p)) a.fits
own_begun config i p (events.Saw guard slot) a h g = reading_begun (guards config) (began_of i p) (retires_of i p) (search_of i p).seeks (plain_tally config.every i p).course (blocks_by (guards config) config.every (events.Saw guard slot) (blocks_of config i p)) a.fits
own_begun config i p (events.Retire slot birth retire) a h g = rw (retired_begun (((blocks_of config i p).retired + 1) % config.every == 0) (blocks_of config i p)) (h g)
own_begun config i p event a h g = h g

begun_entry : (config : Config) (i k : ℕ) (p : Past) (event : Event) (same : Bool) → (i == k) ≡ same → At config i (Then p k event) → ReadsBegun config i p → ReadsBegun config i (Then p k event)
begun_entry config i k p event true e a h = rw e (own_begun config i p event (rw e at a) h)
begun_entry config i k p event false e a h = rw e h

pub reads_begun : (config : Config) (i : ℕ) (p : Past) → 0 < guards config → Courses config p → ReadsBegun config i p
reads_begun config i Start low c = λ h. absurd (omega (arith, h))
reads_begun config i (Then p k event) low c =
    begun_entry config i k p event (i == k) refl (agrees_at config i (Then p k event) low c) (reads_begun config i p low (before_last config p k event c))
