-- What the tests come to on the cells is what they are of the record.
use Rattle.std.proofs.Common.{◌≡◌, ◌<◌, ◌≤◌, ℕ, suc, Bool, true, false, not, ◌&&◌, ◌||◌, ◌==◌, Option, Some, None, List, [], ◌∷◌, All, length, nat_lt, refl, ap, sym, subst, ◌∙◌, arith}
use Rattle.std.proofs.lemmas.Bool.Decides.{nat_tests}
use Rattle.std.proofs.lemmas.List.Elements.{All-get_or, All-from_get_or}
use Rattle.std.proofs.lemmas.List.Sums.{AllPass-from_list_all, list_all-from_AllPass}
use Rattle.std.specs.List.{list_all, list_any}
use Rattle.laws.specs.records.Record.{Past, begins, held_since, own, value_since}
use Rattle.laws.specs.records.Record.Past.{Start, Then}
use Rattle.wfe_words.specs.declared.config.Config.{Config}
use Rattle.wfe_defs.specs.declared.call.Call.{Call}
use Rattle.wfe_defs.specs.declared.call.Call.TheVariants as calls
use Rattle.wfe_defs.specs.declared.event.Event.{Event}
use Rattle.wfe_defs.specs.declared.event.Event.TheVariants as events
use Rattle.wfe_defs.specs.declared.event.Guard.TheVariants.{Index}
use Rattle.wfe_defs.specs.declared.lifetime.Interval.{Interval}
use Rattle.laws.specs.EraLaw.{birth_ok, current_ok, is_copied, retire_ok, same_interval, upper_current}
use Rattle.laws.specs.HoldLaw.{behind_ok, has_had, is_last, is_of_root, sources_ok, was_last}
use Rattle.laws.specs.ScanLaw.{blocks_of, room_ok, seeks_room}
use Rattle.laws.specs.StateAt.{began_of, birth_of, clock_of, cuts, has_cut, is_one_of, is_row, standing_of, taken_at, ticked_by, value_of, was_clock, was_taken}
use Rattle.laws.specs.Ranges.{EntryIn, EventIn}
use Rattle.wfe_check_held.specs.Grids.{cell_at}
use Rattle.wfe_check_rows.specs.Positions.{since}
use Rattle.wfe_check_held.specs.Roots.{RowIn, last_row, looks, place_of}
use Rattle.wfe_check_held.specs.Tests.{AreAmong, IsBirth, IsSource, IsSought, clock_at, clock_since, copied_at, cut_at, fits_at, had_at, room_at, upper_at, was_last_at, was_taken_at}
use Rattle.wfe_check_held.specs.Times.{IsTimes, cut_clock, row_at, seat_at}
use Rattle.wfe_check_held.specs.declared.rows.Row.{Row}
use Rattle.wfe_check_held.specs.declared.times.Times.{Times}
use Rattle.wfe_check_rows.proofs.Positions.{held_by_numbers}
use Rattle.wfe_check_held.proofs.Clock.{clock-starts, clock_by_numbers}
use Rattle.wfe_check_held.proofs.RowsAfter.{last-row}

-- what a root has had
had_is : (config : Config) (p : Past) (times : Times) (i : ℕ) (v : Option ℕ) → IsTimes config times p → i < config.seats → RowIn config.slots v →
    had_at times i v ≡ has_had config i p (began_of i p) v
had_is config p times i v is h low =
    let seat = is.seat i h in
    ap (λ (call : Option Call). looks call && cell_at times.had i (place_of v) == (seat_at times.seats.items i).begun) seat.call
    ∙ ap (λ n. looks (began_of i p) && cell_at times.had i (place_of v) == n) seat.begun
    ∙ sym ((is.had i v h low).had)

-- the clock of a call
clock_is : (config : Config) (p : Past) (times : Times) (i era : ℕ) → IsTimes config times p → i < config.seats → clock_at times i era ≡ was_clock (begins i) era p
clock_is config p times i era is h =
    ap (λ n. clock_since n times.clock era) ((is.seat i h).clock) ∙ ap (λ n. clock_since (value_since (begins i) clock_of p) n era) is.clock
    ∙ sym (clock_by_numbers (begins i) era p)

-- a cut does not move the clock
cut-quiet : (s : ℕ) (event : Event) (clock : ℕ) → cuts s event ≡ true → ticked_by event clock ≡ clock
cut-quiet s (events.Era era) clock h = absurd (cc)
cut-quiet s event clock h = refl

has_cut-clock : (i s : ℕ) (p : Past) → has_cut i s p ≡ nat_lt 0 (cut_clock i s p)
has_cut-clock i s Start = refl
has_cut-clock i s (Then p k event) = grind (arith, nat_tests, has_cut-clock i s p, clock-starts p)

cut_clock-since : (i s : ℕ) (p : Past) → has_cut i s p ≡ true → cut_clock i s p ≡ value_since (own i (cuts s)) clock_of p
cut_clock-since i s Start h = absurd (cc)
cut_clock-since i s (Then p k event) h = grind (arith, nat_tests, cut_clock-since i s p, cut-quiet s event (clock_of p))

-- the clock of a cut
cut_is : (i s era : ℕ) (p : Past) → (nat_lt 0 (cut_clock i s p) && clock_since (cut_clock i s p) (clock_of p) era) ≡ (has_cut i s p && was_clock (own i (cuts s)) era p)
cut_is i s era p = by (has_cut i s p) refl
  where
    by : (b : Bool) → has_cut i s p ≡ b →
        (nat_lt 0 (cut_clock i s p) && clock_since (cut_clock i s p) (clock_of p) era) ≡ (has_cut i s p && was_clock (own i (cuts s)) era p)
    by true h =
        ap (λ b. b && clock_since (cut_clock i s p) (clock_of p) era) (sym (has_cut-clock i s p))
        ∙ ap (λ n. has_cut i s p && clock_since n (clock_of p) era) (cut_clock-since i s p h)
        ∙ ap (λ b. has_cut i s p && b) (sym (clock_by_numbers (own i (cuts s)) era p))
    by false h =
        ap (λ b. b && clock_since (cut_clock i s p) (clock_of p) era) (sym (has_cut-clock i s p) ∙ h)
        ∙ sym (ap (λ b. b && was_clock (own i (cuts s)) era p) h)

-- what is copied
copied_is : (i : ℕ) (p : Past) (call : Option Call) (span source : Option Interval) →
    ((from index : ℕ) → call ≡ Some (calls.Copy from index) → source ≡ value_of (Index i from) p) → copied_at call span source ≡ is_copied i call span p
copied_is i p (Some (calls.Copy from index)) span source h = ap (λ o. same_interval span o) (h from index refl)
copied_is i p call span source h = refl

upper_is : (config : Config) (p : Past) (times : Times) (i : ℕ) (span : Option Interval) → IsTimes config times p → i < config.seats →
    upper_at times i span ≡ upper_current i span p
upper_is config p times i None is h = refl
upper_is config p times i (Some span) is h = clock_is config p times i span.hi is h

and-true : (b : Bool) → b ≡ (b && true)
and-true true = refl
and-true false = refl

-- the tests of an entry
fits_here : (config : Config) (p : Past) (times : Times) (i : ℕ) (event : Event) (birth : ℕ) (source : Option Interval) → IsTimes config times p →
    i < config.seats → EventIn config event → IsBirth event birth p → IsSource i source p →
    fits_at times i event birth source ≡ (sources_ok config p i event && (birth_ok p i event && (retire_ok config.slots p i event && current_ok p i event)))
fits_here config p times i (events.Held index slot steps) birth source is h low b s =
    ap (λ x. not (is_of_root index) || x) (had_is config p times i (Some slot) is h low.1) ∙ and-true _
fits_here config p times i (events.Null index steps) birth source is h low b s =
    ap (λ x. not (is_of_root index) || x) (had_is config p times i None is h tt) ∙ and-true _
fits_here config p times i (events.Give slot era) birth source is h low b s = clock_is config p times i era is h ∙ and-true _
fits_here config p times i (events.Retire slot era retire) birth source is h low b s =
    ap (λ n. era == n && ((row_at times.rows.items slot).taken && cut_at times i slot retire)) b
    ∙ ap (λ x. era == birth_of slot p && (x && cut_at times i slot retire)) (is.row slot low).taken
    ∙ ap (λ n. era == birth_of slot p && (taken_at config.slots slot p && (nat_lt 0 n && clock_since n times.clock retire))) (is.cut i slot h low)
    ∙ ap (λ n. era == birth_of slot p && (taken_at config.slots slot p && (nat_lt 0 (cut_clock i slot p) && clock_since (cut_clock i slot p) n retire))) is.clock
    ∙ ap (λ x. era == birth_of slot p && (taken_at config.slots slot p && x)) (cut_is i slot retire p)
    ∙ and-true _
fits_here config p times i (events.Reserve guard span) birth source is h low b s =
    ap (λ x. x || copied_at (seat_at times.seats.items i).call span source) (upper_is config p times i span is h)
    ∙ ap (λ x. upper_current i span p || copied_at x span source) ((is.seat i h).call)
    ∙ ap (λ x. upper_current i span p || x) (copied_is i p (began_of i p) span source s)
fits_here config p times i event birth source is h low b s = refl

pub fits_is : (config : Config) (p : Past) (times : Times) (i : ℕ) (event : Event) (birth : ℕ) (source : Option Interval) → IsTimes config times p →
    EntryIn times.config i event → IsBirth event birth p → IsSource i source p →
    fits_at times i event birth source ≡ (sources_ok config p i event && (birth_ok p i event && (retire_ok config.slots p i event && current_ok p i event)))
fits_is config p times i event birth source is range b s =
    let within : EntryIn config i event = subst (λ (c : Config). EntryIn c i event) is.setting range in
    fits_here config p times i event birth source is within.seated within.within b s

-- a row was taken during a call
taken_is : (config : Config) (p : Past) (times : Times) (i s : ℕ) → IsTimes config times p → i < config.seats → s ≤ config.slots →
    was_taken_at (seat_at times.seats.items i).begun (row_at times.rows.items s) ≡ was_taken config.slots i s p
taken_is config p times i s is h low =
    let row = is.row s low in
    ap (λ b. b || nat_lt (seat_at times.seats.items i).begun (row_at times.rows.items s).freed) row.taken
    ∙ ap (λ n. taken_at config.slots s p || nat_lt n (row_at times.rows.items s).freed) ((is.seat i h).begun)
    ∙ ap (λ n. taken_at config.slots s p || nat_lt (since (begins i) p) n) row.freed
    ∙ sym (held_by_numbers (begins i) (taken_at config.slots s) p)

all_taken : (config : Config) (p : Past) (times : Times) (i : ℕ) → IsTimes config times p → i < config.seats →
    list_all (was_taken_at (seat_at times.seats.items i).begun) times.rows.items ≡ true → (s : ℕ) → s ≤ config.slots → was_taken config.slots i s p ≡ true
all_taken config p times i is h all s low =
    let f = was_taken_at (seat_at times.seats.items i).begun in
    let slots : times.config.slots ≡ config.slots = ap (λ (c : Config). c.slots) is.setting in
    let within : s < length times.rows.items = omega (arith, is.sized.rows) in
    sym (taken_is config p times i s is h low)
    ∙ All-get_or (λ (row : Row). f row ≡ true) times.rows.items s (record { taken = false; freed = 0; passed = 0 }) within (AllPass-from_list_all f times.rows.items all)

taken_all : (config : Config) (p : Past) (times : Times) (i : ℕ) → IsTimes config times p → i < config.seats →
    ((s : ℕ) → s ≤ config.slots → was_taken config.slots i s p ≡ true) → list_all (was_taken_at (seat_at times.seats.items i).begun) times.rows.items ≡ true
taken_all config p times i is h each =
    let f = was_taken_at (seat_at times.seats.items i).begun in
    let slots : times.config.slots ≡ config.slots = ap (λ (c : Config). c.slots) is.setting in
    list_all-from_AllPass f times.rows.items (All-from_get_or (λ (row : Row). f row ≡ true) times.rows.items (record { taken = false; freed = 0; passed = 0 })
    (λ s within. let low : s ≤ config.slots = omega (arith, is.sized.rows) in taken_is config p times i s is h low ∙ each s low))

or-true : (a b : Bool) → (a ≡ false → b ≡ true) → (a || b) ≡ true
or-true true b h = refl
or-true false b h = h refl

or-rest : (a b : Bool) → (a || b) ≡ true → a ≡ false → b ≡ true
or-rest true b h e = absurd (cc)
or-rest false b h e = h

-- a block that begins in search of a free row
pub room_there : (config : Config) (p : Past) (times : Times) (i : ℕ) (event : Event) (seeks : Bool) → IsTimes config times p → i < times.config.seats →
    IsSought event seeks (seeks_room (began_of i p) (blocks_of config i p)) → room_at times i event seeks ≡ true →
    (s : ℕ) → s ≤ config.slots → room_ok config s p i event ≡ true
room_there config p times i (events.Read guard span) seeks is h e fits s low =
    let seats : times.config.seats ≡ config.seats = ap (λ (c : Config). c.seats) is.setting in
    or-true (not (seeks_room (began_of i p) (blocks_of config i p))) (was_taken config.slots i s p) (λ q.
    all_taken config p times i is (omega arith) (or-rest (not seeks) _ fits (ap not e ∙ q)) s low)
room_there config p times i (events.Saw guard slot) seeks is h e fits s low =
    let seats : times.config.seats ≡ config.seats = ap (λ (c : Config). c.seats) is.setting in
    or-true (not (seeks_room (began_of i p) (blocks_of config i p))) (was_taken config.slots i s p) (λ q.
    all_taken config p times i is (omega arith) (or-rest (not seeks) _ fits (ap not e ∙ q)) s low)
room_there config p times i event seeks is h e fits s low = refl

pub room_back : (config : Config) (p : Past) (times : Times) (i : ℕ) (event : Event) (seeks : Bool) → IsTimes config times p → i < times.config.seats →
    IsSought event seeks (seeks_room (began_of i p) (blocks_of config i p)) →
    ((s : ℕ) → s ≤ config.slots → room_ok config s p i event ≡ true) → room_at times i event seeks ≡ true
room_back config p times i (events.Read guard span) seeks is h e each =
    let seats : times.config.seats ≡ config.seats = ap (λ (c : Config). c.seats) is.setting in
    or-true (not seeks) _ (λ q. taken_all config p times i is (omega arith) (λ s low.
    or-rest (not (seeks_room (began_of i p) (blocks_of config i p))) (was_taken config.slots i s p) (each s low) (ap not (sym e) ∙ q)))
room_back config p times i (events.Saw guard slot) seeks is h e each =
    let seats : times.config.seats ≡ config.seats = ap (λ (c : Config). c.seats) is.setting in
    or-true (not seeks) _ (λ q. taken_all config p times i is (omega arith) (λ s low.
    or-rest (not (seeks_room (began_of i p) (blocks_of config i p))) (was_taken config.slots i s p) (each s low) (ap not (sym e) ∙ q)))
room_back config p times i event seeks is h e each = refl

-- a row was the last one of the queue during a call
last_is : (config : Config) (p : Past) (times : Times) (i : ℕ) (last : Option ℕ) (s : ℕ) → IsTimes config times p → i < config.seats → last ≡ last_row config.slots p →
    s ≤ config.slots → was_last_at times i last s ≡ held_since (begins i) (is_last config.slots s) p
last_is config p times i last s is h l low =
    let row = is.row s low in
    ap (λ o. is_row s o || nat_lt (seat_at times.seats.items i).begun (row_at times.rows.items s).passed) l
    ∙ ap (λ b. b || nat_lt (seat_at times.seats.items i).begun (row_at times.rows.items s).passed) (sym (last-row config.slots s p))
    ∙ ap (λ n. is_last config.slots s p || nat_lt n (row_at times.rows.items s).passed) ((is.seat i h).begun)
    ∙ ap (λ n. is_last config.slots s p || nat_lt (since (begins i) p) n) row.passed
    ∙ sym (held_by_numbers (begins i) (is_last config.slots s) p)

any_same : (f g : ℕ → Bool) (high : ℕ) (rows : List ℕ) → ((s : ℕ) → s ≤ high → f s ≡ g s) → All (λ s. s ≤ high) rows → list_any f rows ≡ list_any g rows
any_same f g high [] same all = refl
any_same f g high (row ∷ rows) same all =
    ap (λ b. b || list_any f rows) (same row (all 0 0 (omega arith)))
    ∙ ap (λ b. g row || b) (any_same f g high rows same (λ k d h. all (suc k) d (omega arith)))

was_last-any : (slots i : ℕ) (p : Past) (rows : List ℕ) → was_last slots i p rows ≡ list_any (λ s. held_since (begins i) (is_last slots s) p) rows
was_last-any slots i p [] = refl
was_last-any slots i p (row ∷ rows) = ap (λ b. held_since (begins i) (is_last slots row) p || b) (was_last-any slots i p rows)

-- a test passes for one of these where it does for one of those, if these are among those
any-among : (f : ℕ → Bool) (s : ℕ) (rows : List ℕ) → is_one_of s rows ≡ true → f s ≡ true → list_any f rows ≡ true
any-among f s [] h t = absurd (cc)
any-among f s (row ∷ rows) h t = elim (s == row) as (λ b. (s == row) ≡ b → list_any f (row ∷ rows) ≡ true) [
  | true ↦ λ e. let same : s ≡ row = grind (arith, nat_tests) in ap (λ b. b || list_any f rows) (ap f (sym same) ∙ t)
  | false ↦ λ e. or-true (f row) (list_any f rows) (λ q. any-among f s rows (or-rest (s == row) (is_one_of s rows) h e) t)
] refl

any-all : (f : ℕ → Bool) (rows others : List ℕ) → ((s : ℕ) → is_one_of s rows ≡ true → is_one_of s others ≡ true) → list_any f rows ≡ true → list_any f others ≡ true
any-all f [] others among h = absurd (cc)
any-all f (row ∷ rows) others among h = elim (f row) as (λ b. f row ≡ b → list_any f others ≡ true) [
  | true ↦ λ t. any-among f row others (among row (ap (λ b. b || is_one_of row rows) (sym (same-refl row)))) t
  | false ↦ λ t. any-all f rows others (λ s one. among s (or-true (s == row) (is_one_of s rows) (λ q. one))) (or-rest (f row) (list_any f rows) h t)
] refl
  where
    same-refl : (n : ℕ) → true ≡ (n == n)
    same-refl n = grind (arith, nat_tests)

same_bool : (a b : Bool) → (a ≡ true → b ≡ true) → (b ≡ true → a ≡ true) → a ≡ b
same_bool true b h k = sym (h refl)
same_bool false true h k = k refl
same_bool false false h k = refl

any-alike : (f : ℕ → Bool) (rows others : List ℕ) → AreAmong rows others → list_any f rows ≡ list_any f others
any-alike f rows others same = same_bool (list_any f rows) (list_any f others)
    (any-all f rows others (λ s h. sym (same s) ∙ h)) (any-all f others rows (λ s h. same s ∙ h))

-- that no row is next
pub null_is : (config : Config) (p : Past) (times : Times) (i index steps : ℕ) (last : Option ℕ) (standing : List ℕ) → IsTimes config times p → i < times.config.seats →
    All (λ s. s ≤ times.config.slots) standing → last ≡ last_row config.slots p → AreAmong standing (standing_of i 0 p) →
    (not (index == 1) || list_any (was_last_at times i last) standing) ≡ behind_ok config.slots p i (events.Null index steps)
null_is config p times i index steps last standing is h all l among =
    let seats : times.config.seats ≡ config.seats = ap (λ (c : Config). c.seats) is.setting in
    let slots : times.config.slots ≡ config.slots = ap (λ (c : Config). c.slots) is.setting in
    let held = λ (s : ℕ). held_since (begins i) (is_last config.slots s) p in
    ap (λ b. not (index == 1) || b)
    (any_same (was_last_at times i last) held config.slots standing (λ s low. last_is config p times i last s is (omega arith) l low)
    (subst (λ n. All (λ s. s ≤ n) standing) slots all)
    ∙ any-alike held standing (standing_of i 0 p) among
    ∙ sym (was_last-any config.slots i p (standing_of i 0 p)))
