-- Counts that stop at the greatest number of 64 bits are plain ones in the record of each history, and so are the laws that use them.
use Rattle.std.proofs.Common.{ℕ, ◌≡◌, ◌≤◌, ◌<◌, ◌+◌, ◌%◌, Bool, true, false, List, ◌∷◌, None, refl, sym, ap, ◌∙◌, subst, arith}
use Rattle.std.proofs.lemmas.Bool.Decides.{nat_tests}
use Rattle.std.specs.Prelude.{◌==◌, ◌&&◌, nat_lt, if◌then◌else◌}
use Rattle.law_reuse.specs.laws.words.Place.{is_valid}
use Rattle.law_reuse.specs.laws.words.Schemes.{moves}
use Rattle.law_reuse.specs.laws.words.declared.layout.Layout.{Layout}
use Rattle.law_reuse.specs.laws.defs.Entry.{Entry}
use Rattle.law_reuse.specs.laws.defs.declared.event.Event.{Event}
use Rattle.law_reuse.specs.laws.defs.declared.event.Event.TheVariants as events
use Rattle.law_reuse.specs.inv.model.Guards.{guards}
use Rattle.law_reuse.specs.inv.model.Memory.{bump}
use Rattle.law_reuse.specs.laws.records.Record.{Past, tells}
use Rattle.law_reuse.specs.laws.records.Record.Past.{Start, Then}
use Rattle.law_reuse.specs.history.History.{Item, record_of}
use Rattle.law_reuse.specs.laws.HistoryScans.{Tally, retired_course, scan_right, plain_by, plain_tally}
use Rattle.law_scans.specs.Scans.{tally_by}
use Rattle.law_scans.specs.Scans.{tally_of}
use Rattle.law_reuse.specs.laws.HistoryEras.{move_right}
use Rattle.law_reuse.specs.laws.HistoryAnswers.{ClockTally, clock_right, plain_clock_by, plain_clock}
use Rattle.law_scans.specs.Outcomes.{clock_by}
use Rattle.law_scans.specs.Outcomes.{clock_tally}
use Rattle.law_scans.proofs.DueScans.Keeps.{records_scan_where_due, records_move_where_due}
use Rattle.law_scans.proofs.ClockAnswers.Kept.{records_keep_outcomes}
use Rattle.law_reuse.specs.laws.StateAt.{one, told, is_retire, total_retires}
use Rattle.law_scans.specs.Records.{RecordsCountPlainly, RecordsScanPlainly, RecordsMovePlainly, RecordsAnswerPlainly}
use Rattle.law_scans.proofs.FewRetired.Counting.{count_less, count_later, other_part, own_part}
use Rattle.law_scans.proofs.FewRetired.Few.{records_retire_few}

-- one seat has retired no more than all, and no more at a position than in the whole record
less_part : (kind same : Bool) → one (kind && same) ≤ one kind
less_part true true = omega arith
less_part true false = omega arith
less_part false same = omega arith

own_less : (i : ℕ) (p : Past) → total_retires i p ≤ told is_retire p
own_less i p = count_less (λ q k event. is_retire event && i == k) (λ q k event. is_retire event) (λ q k event. less_part (is_retire event) (i == k)) p

abbrev LowRetires : ℕ → Past → Type 0
LowRetires i p = total_retires i p < 18446744073709551615

low_before : (i : ℕ) (r before : Past) (later : List Entry) → told is_retire r < 18446744073709551615 → r ≡ tells before later → LowRetires i before
low_before i r before later h cut =
    let most : total_retires i (tells before later) < 18446744073709551615 = subst (λ (q : Past). total_retires i q < 18446744073709551615) cut (omega (arith, own_less i r, h)) in
    omega (arith, most, count_later (λ q k event. is_retire event && i == k) before later)

-- the plain count of a tally
one_counts : (every : ℕ) (event : Event) (x : Tally) → (plain_by every event x).retired ≡ x.retired + one (is_retire event)
one_counts every (events.Retire slot birth retire) x = refl
one_counts every (events.Begin call) x = omega arith
one_counts every (events.Era era) x = omega arith
one_counts every (events.Read guard span) x = omega arith
one_counts every (events.Saw guard slot) x = omega arith
one_counts every (events.Give slot birth) x = omega arith
one_counts every event x = omega arith

clock_counts : (every : ℕ) (event : Event) (x : ClockTally) → (plain_clock_by every event x).retired ≡ x.retired + one (is_retire event)
clock_counts every (events.Retire slot birth retire) x = refl
clock_counts every (events.Begin call) x = omega arith
clock_counts every (events.Era era) x = omega arith
clock_counts every event x = omega arith

tally_entry : (every i k : ℕ) (p : Past) (event : Event) (same : Bool) → (i == k) ≡ same → (plain_tally every i p).retired ≡ total_retires i p → (plain_tally every i (Then p k event)).retired ≡ total_retires i (Then p k event)
tally_entry every i k p event true e h =
    let n : (plain_tally every i (Then p k event)).retired ≡ (plain_by every event (plain_tally every i p)).retired = rw e refl in
    omega (arith, n, one_counts every event (plain_tally every i p), own_part (is_retire event) (i == k) e, h)
tally_entry every i k p event false e h =
    let n : (plain_tally every i (Then p k event)).retired ≡ (plain_tally every i p).retired = rw e refl in
    omega (arith, n, other_part (is_retire event) (i == k) e, h)

tally_retired : (every i : ℕ) (p : Past) → (plain_tally every i p).retired ≡ total_retires i p
tally_retired every i Start = refl
tally_retired every i (Then p k event) = tally_entry every i k p event (i == k) refl (tally_retired every i p)

clock_entry : (every i k : ℕ) (p : Past) (event : Event) (same : Bool) → (i == k) ≡ same → (plain_clock every i p).retired ≡ total_retires i p → (plain_clock every i (Then p k event)).retired ≡ total_retires i (Then p k event)
clock_entry every i k p event true e h =
    let n : (plain_clock every i (Then p k event)).retired ≡ (plain_clock_by every event (plain_clock every i p)).retired = rw e refl in
    omega (arith, n, clock_counts every event (plain_clock every i p), own_part (is_retire event) (i == k) e, h)
clock_entry every i k p event false e h =
    let n : (plain_clock every i (Then p k event)).retired ≡ (plain_clock every i p).retired = rw e refl in
    omega (arith, n, other_part (is_retire event) (i == k) e, h)

clock_retired : (every i : ℕ) (p : Past) → (plain_clock every i p).retired ≡ total_retires i p
clock_retired every i Start = refl
clock_retired every i (Then p k event) = clock_entry every i k p event (i == k) refl (clock_retired every i p)

-- below the greatest number of 64 bits a count goes on
bump_low : (n : ℕ) → n < 18446744073709551615 → bump n ≡ n + 1
bump_low n h = let low : nat_lt n 18446744073709551615 ≡ true = grind (arith, nat_tests) in rw low refl

plain_one : (every : ℕ) (event : Event) (x : Tally) → x.retired < 18446744073709551615 → tally_by every event x ≡ plain_by every event x
plain_one every (events.Retire slot birth retire) x h = ap (λ (n : ℕ). record { retired = n; course = retired_course (n % every == 0) }) (bump_low x.retired h)
plain_one every event x h = refl

plain_clock_one : (every : ℕ) (event : Event) (x : ClockTally) → x.retired < 18446744073709551615 → clock_by every event x ≡ plain_clock_by every event x
plain_clock_one every (events.Retire slot birth retire) x h = ap (λ (n : ℕ). record { retired = n; due = n % every == 0; moved = None }) (bump_low x.retired h)
plain_clock_one every event x h = refl

-- along a record
same_by : {X : Type 0} (next other : Event → X → X) (event : Event) (x y : X) (same : Bool) → x ≡ y → next event y ≡ other event y → (if same then next event x else x) ≡ (if same then other event y else y)
same_by next other event x y true h e = ap (next event) h ∙ e
same_by next other event x y false h e = h

before_low : (i k : ℕ) (p : Past) (event : Event) → LowRetires i (Then p k event) → LowRetires i p
before_low i k p event h = omega (arith, h)

tally_plain : (every i : ℕ) (p : Past) → LowRetires i p → tally_of every i p ≡ plain_tally every i p
tally_plain every i Start h = refl
tally_plain every i (Then p k event) h =
    let low : LowRetires i p = before_low i k p event h in
    same_by (tally_by every) (plain_by every) event (tally_of every i p) (plain_tally every i p) (i == k) (tally_plain every i p low)
    (plain_one every event (plain_tally every i p) (subst (λ (n : ℕ). n < 18446744073709551615) (sym (tally_retired every i p)) low))

clock_plain : (every i : ℕ) (p : Past) → LowRetires i p → clock_tally every i p ≡ plain_clock every i p
clock_plain every i Start h = refl
clock_plain every i (Then p k event) h =
    let low : LowRetires i p = before_low i k p event h in
    same_by (clock_by every) (plain_clock_by every) event (clock_tally every i p) (plain_clock every i p) (i == k) (clock_plain every i p low)
    (plain_clock_one every event (plain_clock every i p) (subst (λ (n : ℕ). n < 18446744073709551615) (sym (clock_retired every i p)) low))

-- in the record of a history
low_in : (layout : Layout) (items : List Item) → is_valid layout ≡ true → (i : ℕ) (before : Past) (later : List Entry) → record_of layout items ≡ tells before later → LowRetires i before
low_in layout items d i before later cut = let f = records_retire_few layout items d in low_before i (record_of layout items) before later f.room cut

pub records_count_plainly : RecordsCountPlainly
records_count_plainly layout items d =
    let every : ℕ = layout.config.every in
    record {
      tallies = λ i before later cut. tally_plain every i before (low_in layout items d i before later cut);
      clocks = λ i before later cut. clock_plain every i before (low_in layout items d i before later cut);
      retired = λ i before later cut. ap (λ (x : Tally). x.retired) (tally_plain every i before (low_in layout items d i before later cut)) ∙ tally_retired every i before;
    }

-- a position before an entry
position : (before : Past) (i : ℕ) (event : Event) (later : List Entry) → tells (Then before i event) later ≡ tells before (record { seat = i; event = event } ∷ later)
position before i event later = refl

pub records_scan_plainly : RecordsScanPlainly
records_scan_plainly layout items d before i event later cut =
    let c = records_count_plainly layout items d in
    subst (λ (x : Tally). scan_right (guards layout.config) event x.course ≡ true) (c.tallies i before (record { seat = i; event = event } ∷ later) (cut ∙ position before i event later))
    (records_scan_where_due layout items d before i event later cut)

pub records_move_plainly : RecordsMovePlainly
records_move_plainly layout items d before i event later cut =
    let c = records_count_plainly layout items d in
    subst (λ (x : Tally). move_right event x.course ≡ true) (c.tallies i before (record { seat = i; event = event } ∷ later) (cut ∙ position before i event later))
    (records_move_where_due layout items d before i event later cut)

pub records_answer_plainly : RecordsAnswerPlainly
records_answer_plainly layout items d before i event later cut =
    let c = records_count_plainly layout items d in
    subst (λ (x : ClockTally). clock_right (moves layout.config.scheme) layout.config.last_era event x ≡ true) (c.clocks i before (record { seat = i; event = event } ∷ later) (cut ∙ position before i event later))
    (records_keep_outcomes layout items d before i event later cut)
