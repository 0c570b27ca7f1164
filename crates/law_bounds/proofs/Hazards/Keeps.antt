-- The record of each history under hazard pointers keeps the bound on lists.
use Rattle.std.proofs.Common.{ℕ, zero, suc, ◌≡◌, ◌≤◌, ◌<◌, ◌+◌, ◌-◌, Bool, true, false, List, [], ◌∷◌, length, refl, ap, arith}
use Rattle.std.proofs.lemmas.Nat.{mod_below}
use Rattle.std.proofs.Math.Nat.{suc-mul}
use Rattle.std.specs.Prelude.{◌==◌, ◌%◌, ◌*◌, if◌then◌else◌}
use Rattle.law_all.proofs.inv.model.Ranges.{bounds_of}
use Rattle.law_all.proofs.inv.shapes.Shapes.{guards_some}
use Rattle.law_all.specs.inv.history.History.{record_of}
use Rattle.law_all.specs.inv.history.Record.{Past}
use Rattle.law_all.specs.inv.history.Record.Past.{Start, Then}
use Rattle.law_all.specs.inv.model.defs.declared.event.Event.{Event}
use Rattle.law_all.specs.inv.model.defs.declared.event.Event.TheVariants as events
use Rattle.law_all.specs.inv.model.defs.declared.lifetime.Lifetime.{Lifetime}
use Rattle.law_all.specs.inv.model.words.Place.{is_valid}
use Rattle.law_all.specs.inv.model.words.Schemes.{publishes_rows}
use Rattle.law_all.specs.inv.model.words.declared.config.Config.{Config}
use Rattle.law_all.specs.inv.model.words.declared.config.SchemeKind.{SchemeKind}
use Rattle.law_all.specs.inv.model.words.declared.config.SchemeKind.TheVariants.{He, Hp, Ibr, Wfe}
use Rattle.law_all.specs.inv.model.words.declared.layout.Layout.{Layout}
use Rattle.law_all.specs.laws.HistoryScans.{plain_tally}
use Rattle.law_all.specs.laws.Lists.{gained_by, handed_by, is_handed, list_of, without}
use Rattle.law_all.specs.laws.ScanLaw.{guards, guards_by}
use Rattle.law_all.specs.laws.StateAt.{is_open, is_scan, one, read_of, scans_of, told, total_retires}
use Rattle.law_bounds.specs.Hazards.{RecordsBoundHazards}
use Rattle.law_bounds.specs.Rows.{listed_below}
use Rattle.law_bounds.specs.Scans.{came_of, judged_of, late_of}
use Rattle.law_bounds.proofs.Hazards.Fits.{fits, rows_at}
use Rattle.law_bounds.proofs.Hazards.Paces.{none_came, paced_at, tally_is}
use Rattle.law_bounds.proofs.Scans.Emptied.{blank_at}
use Rattle.law_bounds.proofs.Scans.Judged.{Settled, closed_settled, judged_at}
use Rattle.law_bounds.proofs.Scans.Keeps.{Told, told_cut, told_of_history}

guards_are : (scheme : SchemeKind) (config : Config) → publishes_rows scheme ≡ true → guards_by scheme config ≡ config.seats * config.indexes
guards_are He config h = absurd (cc)
guards_are Ibr config h = absurd (cc)
guards_are Wfe config h = absurd (cc)
guards_are Hp config h = refl

-- the table has guards, and scans come now and then
pub record Sized (config : Config) : Type 0 where
  pub rows : publishes_rows config.scheme ≡ true
  pub some : 0 < guards config
  pub every : 0 < config.every

-- what the last block judged is no more than one row for each guard
judged_few : (config : Config) (i : ℕ) (p : Past) → Sized config → Told config p → Settled (list_of i p) (judged_of i p) (read_of (guards config) i p) (late_of i p) (came_of i p) → length (list_of i p) ≤ config.seats * config.indexes + (late_of i p + came_of i p)
judged_few config i p z t s =
    let rows = rows_at config i p z.rows t.kinds t.apart in
    let few = (blank_at config z.some i p t.blocks t.reads t.kinds).few in
    let most = fits (read_of (guards config) i p) (judged_of i p) rows.rows rows.apart s.kept in
    let all : guards config ≡ config.seats * config.indexes = guards_are config.scheme config z.rows in
    let size = s.size in
    omega (arith, few, most, all, size)

one_bound : (config : Config) (i : ℕ) (p : Past) → Sized config → Told config p → is_open i p ≡ false → length (list_of i p) ≤ config.seats * config.indexes + total_retires i p % config.every + came_of i p
one_bound config i p z t c =
    let s = closed_settled config i p t.calls (judged_at config i p t.blocks t.lists) c in
    let few = judged_few config i p z t s in
    let late = (paced_at config i p z.every t.due t.calls).closed c in
    let same : (plain_tally config.every i p).retired % config.every ≡ total_retires i p % config.every = ap (λ (n : ℕ). n % config.every) (tally_is config.every i p) in
    omega (arith, few, late, same)

-- a scan, and another seat, add nothing to a list
without_short : (slot : ℕ) (list : List Lifetime) → length (without slot list) ≤ length list
without_short slot [] = omega arith
without_short slot (life ∷ lives) = by (life.slot == slot) (without_short slot lives)
  where
    by : (same : Bool) → length (without slot lives) ≤ length lives → length (if same then without slot lives else life ∷ without slot lives) ≤ suc (length lives)
    by true h = omega (arith, h)
    by false h = omega (arith, h)

scan_short : (event : Event) (other : ℕ → List Lifetime) (list : List Lifetime) → is_scan event ≡ true → length (gained_by event other list) ≤ length list
scan_short (events.Read guard span) other list h = omega arith
scan_short (events.Saw guard slot) other list h = omega arith
scan_short (events.Back slot) other list h = without_short slot list
scan_short event other list h = absurd (cc)

handed_short : (i : ℕ) (event : Event) (list : List Lifetime) → length (handed_by i event list) ≤ length list
handed_short i (events.Adopted place count) list = by (i == place)
  where
    by : (same : Bool) → length (if same then [] else list) ≤ length list
    by true = omega arith
    by false = omega arith
handed_short i event list = omega arith

-- wherever the seat stands
free_bound : (config : Config) (i : ℕ) (p : Past) → Sized config → Told config p → told is_handed p ≡ 0 → scans_of i p ≡ false → length (list_of i p) ≤ config.seats * config.indexes + config.every
free_bound config i p z t h s =
    let few = judged_few config i p z t ((judged_at config i p t.blocks t.lists).after s) in
    let late = (paced_at config i p z.every t.due t.calls).paced.most in
    let came = none_came i p h in
    omega (arith, few, late, came)

told_first : (config : Config) (p : Past) (i : ℕ) (event : Event) → Told config (Then p i event) → Told config p
told_first config p i event t = record { calls = t.calls.1; blocks = t.blocks.1; lists = t.lists.1; reads = t.reads.1; kinds = t.kinds.1; due = t.due.1; apart = t.apart.1 }

pub ever_bound : (config : Config) (i : ℕ) (p : Past) → Sized config → Told config p → told is_handed p ≡ 0 → length (list_of i p) ≤ config.seats * config.indexes + config.every
ever_bound config i Start z t h = omega arith
ever_bound config i (Then p k event) z t h =
    by (scans_of i (Then p k event)) refl (ever_bound config i p z (told_first config p k event t) (let all : told is_handed p + one (is_handed event) ≡ 0 = h in omega (arith, all)))
  where
    scanning : (same : Bool) → length (list_of i p) ≤ config.seats * config.indexes + config.every → (if same then is_scan event else scans_of i p) ≡ true → length (if same then gained_by event (λ (place : ℕ). list_of place p) (list_of i p) else handed_by i event (list_of i p)) ≤ config.seats * config.indexes + config.every
    scanning true before s = let short = scan_short event (λ (place : ℕ). list_of place p) (list_of i p) s in omega (arith, short, before)
    scanning false before s = let short = handed_short i event (list_of i p) in omega (arith, short, before)

    by : (scans : Bool) → scans_of i (Then p k event) ≡ scans → length (list_of i p) ≤ config.seats * config.indexes + config.every → length (list_of i (Then p k event)) ≤ config.seats * config.indexes + config.every
    by true s before = scanning (i == k) before s
    by false s before = free_bound config i (Then p k event) z t h s

-- over all seats
all_bound : (config : Config) (p : Past) → Sized config → Told config p → ((i : ℕ) → is_open i p ≡ false) → told is_handed p ≡ 0 → (n : ℕ) → listed_below n p ≤ n * (config.seats * config.indexes + (config.every - 1))
all_bound config p z t c h zero = omega arith
all_bound config p z t c h (suc n) =
    let more = all_bound config p z t c h n in
    let here = one_bound config n p z t (c n) in
    let came = none_came n p h in
    let below : total_retires n p % config.every < config.every = mod_below (total_retires n p) config.every z.every in
    let next : suc n * (config.seats * config.indexes + (config.every - 1)) ≡ n * (config.seats * config.indexes + (config.every - 1)) + (config.seats * config.indexes + (config.every - 1)) = suc-mul n (config.seats * config.indexes + (config.every - 1)) in
    omega (arith, more, here, came, below, next)

pub sized : (layout : Layout) → is_valid layout ≡ true → publishes_rows layout.config.scheme ≡ true → Sized layout.config
sized layout d s = record { rows = s; some = guards_some layout d; every = let b = bounds_of layout d in let low = b.every.0 in omega (arith, low) }

pub records_bound_hazards : RecordsBoundHazards
records_bound_hazards layout items d s =
    let c : Config = layout.config in
    let r : Past = record_of layout items in
    let t : Told c r = told_of_history layout items d in
    let z : Sized c = sized layout d s in
    record {
      one = λ before later i cut closed. one_bound c i before z (told_cut c r before later cut t) closed;
      ever = λ before later i cut none. ever_bound c i before z (told_cut c r before later cut t) none;
      all = λ before later cut closed none. all_bound c before z (told_cut c r before later cut t) closed none c.seats;
    }
