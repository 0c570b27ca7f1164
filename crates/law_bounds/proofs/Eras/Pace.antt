-- While the clock stays at an era, but at the last, each seat retires at most `every` rows: where their number comes to a multiple, the call
-- ends only once the clock has moved.
use Rattle.std.proofs.Common.{ℕ, zero, suc, ◌≡◌, ◌≤◌, ◌<◌, ◌+◌, Bool, true, false, List, Option, Some, None, refl, sym, ap, ◌∙◌, subst, arith}
use Rattle.std.proofs.lemmas.Bool.Decides.{nat_tests}
use Rattle.std.proofs.lemmas.Nat.{mod_below}
use Rattle.std.proofs.Math.Nat.{suc-mul}
use Rattle.std.specs.Prelude.{◌==◌, ◌&&◌, not, nat_le, nat_lt, is_none, ◌%◌, ◌*◌}
use Rattle.law_all.proofs.inv.model.Facts.{false_of_not, first_of, le_of_test, lt_test, no_truth, number_is, rest_of, same_number}
use Rattle.law_all.proofs.laws.records.Entries.{each_before}
use Rattle.law_all.specs.inv.history.Record.{Each, Past, tells}
use Rattle.law_all.specs.inv.history.Record.Past.{Start, Then}
use Rattle.law_all.specs.inv.model.defs.Entry.{Entry}
use Rattle.law_all.specs.inv.model.defs.declared.call.Answer.{Answer}
use Rattle.law_all.specs.inv.model.defs.declared.call.Answer.TheVariants as answers
use Rattle.law_all.specs.inv.model.defs.declared.call.Call.{Call}
use Rattle.law_all.specs.inv.model.defs.declared.call.ClockMove.{ClockMove}
use Rattle.law_all.specs.inv.model.defs.declared.call.ClockMove.TheVariants as moves
use Rattle.law_all.specs.inv.model.defs.declared.event.Event.{Event}
use Rattle.law_all.specs.inv.model.defs.declared.event.Event.TheVariants as events
use Rattle.law_all.specs.inv.model.words.Schemes.{moves as moves_clock}
use Rattle.law_all.specs.inv.model.words.declared.config.Config.{Config}
use Rattle.law_all.specs.laws.AnswerLaw.{from_by, from_of, retires_for}
use Rattle.law_all.specs.laws.HistoryAnswers.{ClockTally, answer_fits, answer_time, is_era, outcome_fits, plain_clock, plain_clock_by, plain_clocks_ok, retires_ok, time_fits, times_ok}
use Rattle.law_all.specs.laws.HistoryRows.{cuts_one, single_ok}
use Rattle.law_all.specs.laws.HistoryTable.{is_in_range, ranges_ok}
use Rattle.law_all.specs.laws.Lists.{has_left}
use Rattle.law_all.specs.laws.Standing.{open_ok}
use Rattle.law_all.specs.laws.StateAt.{began_of, clock_of, count, is_open, is_retire, one, opened_by, retires_by, retires_of, ticked_by}
use Rattle.law_reasons.proofs.Eras.Current.Positions.{ticked_rises}
use Rattle.law_bounds.specs.Kept.{retires_from, retires_in}
use Rattle.law_bounds.proofs.Hazards.Paces.{next_rest}

-- how many rows a seat has retired while the clock was this era
abbrev own_in : (era k : ℕ) → Past → ℕ
own_in era k p = count (λ q i event. (is_retire event && clock_of q == era) && k == i) p

-- What a seat has come to: the clock, and the clock where its call began, or has retired a row; how many rows its call has retired; what it
-- owes the clock; how many rows it has retired while the clock was the era; and whether it is in a call.
record Seat : Type 0 where
  clock : ℕ
  from : ℕ
  retires : ℕ
  tally : ClockTally
  mine : ℕ
  busy : Bool

abbrev seat_at : (every era k : ℕ) → Past → Seat
seat_at every era k p = record {
  clock = clock_of p;
  from = from_of k p;
  retires = retires_of k p;
  tally = plain_clock every k p;
  mine = own_in era k p;
  busy = is_open k p;
}

abbrev next : (every era : ℕ) → (same : Bool) → Event → Seat → Seat
next every era same event x = record {
  clock = ticked_by event x.clock;
  from = from_by x.clock event x.from;
  retires = retires_by event x.retires;
  tally = plain_clock_by every event x.tally;
  mine = x.mine + one ((is_retire event && x.clock == era) && same);
  busy = opened_by event x.busy;
}

-- where another seat tells the event
abbrev beside : (era : ℕ) → Event → Seat → Seat
beside era event x = record {
  clock = ticked_by event x.clock;
  from = x.from;
  retires = x.retires;
  tally = x.tally;
  mine = x.mine + one ((is_retire event && x.clock == era) && false);
  busy = x.busy;
}

-- its call has to move the clock, since it has retired a row in this era or later, with which the number came to a multiple
abbrev owes : ℕ → Seat → Bool
owes era x = (x.tally.due && nat_lt 0 x.retires) && nat_le era x.from

record Fine (every era : ℕ) (x : Seat) : Type 0 where
  most : x.mine ≤ every
  before : x.clock < era → x.mine ≡ 0
  rest : x.clock ≡ era → owes era x ≡ false → x.mine ≤ x.tally.retired % every
  closed : x.clock ≡ era → x.busy ≡ false → x.mine ≤ x.tally.retired % every
  from : x.from ≤ x.clock
  moved : (told : ℕ) → x.tally.moved ≡ Some told → x.from < x.clock

-- what the laws say of the event
record Right (last : ℕ) (event : Event) (x : Seat) : Type 0 where
  begins : (call : Call) → event ≡ events.Begin call → x.busy ≡ false
  within : (slot birth retire : ℕ) → event ≡ events.Retire slot birth retire → x.busy ≡ true
  single : (slot birth retire : ℕ) → event ≡ events.Retire slot birth retire → x.retires ≡ 0
  count_is : (steps : ℕ) (answer : Answer) → event ≡ events.End steps answer → x.retires ≡ retires_for answer
  fits : (steps : ℕ) (answer : Answer) → event ≡ events.End steps answer → answer_fits true last x.tally answer ≡ true
  times : (steps : ℕ) (answer : Answer) → event ≡ events.End steps answer → answer_time x.from x.clock answer ≡ true

-- A call that owes a move of the clock ends once it has moved, or is the last.
some_era : (era : ℕ) (moved : Option ℕ) → is_era era moved ≡ true → (told : ℕ) × (moved ≡ Some told)
some_era era None h = absurd (no_truth h)
some_era era (Some told) h = (told, refl)

owed_move : (every era last : ℕ) (x : Seat) (move : ClockMove) → Fine every era x → x.tally.due ≡ true → outcome_fits last x.tally move ≡ true → time_fits x.from x.clock move ≡ true → era ≤ x.from → x.clock ≡ era → era < last → ⊥
owed_move every era last x moves.Still f d h t low e below = no_truth (sym (ap not d) ∙ h)
owed_move every era last x (moves.Moved told) f d h t low e below =
    let y = some_era told x.tally.moved (rest_of x.tally.due (is_era told x.tally.moved) h) in
    let past = f.moved y.0 y.1 in
    omega (arith, past, low, e)
owed_move every era last x (moves.Other seen) f d h t low e below =
    let one_part = first_of (nat_lt x.from seen) (nat_le seen x.clock) t in
    let other = rest_of (nat_lt x.from seen) (nat_le seen x.clock) t in
    absurd (grind (arith, nat_tests, one_part, other, low, e))
owed_move every era last x (moves.EraSpent told) f d h t low e below =
    let spent : (told == last) ≡ true = rest_of (is_none x.tally.moved) (told == last) (rest_of x.tally.due (is_none x.tally.moved && told == last) h) in
    absurd (grind (arith, nat_tests, spent, t, e, below))

owed_answer : (every era last : ℕ) (x : Seat) (answer : Answer) → Fine every era x → x.tally.due ≡ true → 0 < x.retires → x.retires ≡ retires_for answer → answer_fits true last x.tally answer ≡ true → answer_time x.from x.clock answer ≡ true
    → era ≤ x.from → x.clock ≡ era → era < last → ⊥
owed_answer every era last x (answers.Done version clock) f d some n h t low e below = owed_move every era last x clock f d h t low e below
owed_answer every era last x (answers.Taken number value clock) f d some n h t low e below = owed_move every era last x clock f d h t low e below
owed_answer every era last x answer f d some n h t low e below = omega (arith, some, n)

ended : (every era last steps : ℕ) (answer : Answer) (x : Seat) → era < last → Right last (events.End steps answer) x → Fine every era x → x.clock ≡ era → x.mine ≤ x.tally.retired % every
ended every era last steps answer x below r f e = by (owes era x) refl
  where
    by : (owing : Bool) → owes era x ≡ owing → x.mine ≤ x.tally.retired % every
    by false o = f.rest e o
    by true o =
        let both = first_of (x.tally.due && nat_lt 0 x.retires) (nat_le era x.from) o in
        let some : 0 < x.retires = let t = rest_of x.tally.due (nat_lt 0 x.retires) both in grind (arith, nat_tests, t) in
        absurd (owed_answer every era last x answer f (first_of x.tally.due (nat_lt 0 x.retires) both) some (r.count_is steps answer refl) (r.fits steps answer refl) (r.times steps answer refl)
        (le_of_test era x.from (rest_of (x.tally.due && nat_lt 0 x.retires) (nat_le era x.from) o)) e below)

-- a retirement
retired_most : (every era clock mine retired : ℕ) (here : Bool) → (clock == era) ≡ here → 0 < every → mine ≤ every → (clock ≡ era → mine ≤ retired % every) → mine + one ((true && here) && true) ≤ every
retired_most every era clock mine retired true e low m r =
    let same : clock ≡ era = number_is clock era e in
    let rest = r same in
    let below : retired % every < every = mod_below retired every low in
    omega (arith, rest, below)
retired_most every era clock mine retired false e low m r = omega (arith, m)

retired_none : (era clock mine : ℕ) (here : Bool) → (clock == era) ≡ here → clock < era → mine ≡ 0 → mine + one ((true && here) && true) ≡ 0
retired_none era clock mine true e low z = let same : clock ≡ era = number_is clock era e in absurd (omega (arith, same, low))
retired_none era clock mine false e low z = omega (arith, z)

-- it owes nothing, so the number has not come to a multiple
not_due : (due some low : Bool) → some ≡ true → low ≡ true → ((due && some) && low) ≡ false → due ≡ false
not_due true some low s l h = absurd (let t : ((true && some) && low) ≡ true = rw (s, l) refl in no_truth (sym h ∙ t))
not_due false some low s l h = refl

retired_rest : (every era clock mine retired retires : ℕ) → 0 < every → clock ≡ era → (clock ≡ era → mine ≤ retired % every) → ((((retired + 1) % every == 0) && nat_lt 0 (retires + 1)) && nat_le era clock) ≡ false
    → mine + one ((true && (clock == era)) && true) ≤ (retired + 1) % every
retired_rest every era clock mine retired retires low e r owing =
    let rest = r e in
    let some : nat_lt 0 (retires + 1) ≡ true = grind (arith, nat_tests) in
    let here : nat_le era clock ≡ true = grind (arith, nat_tests, e) in
    let no_hit : ((retired + 1) % every == 0) ≡ false = not_due ((retired + 1) % every == 0) (nat_lt 0 (retires + 1)) (nat_le era clock) some here owing in
    let next_is : (retired + 1) % every ≡ retired % every + 1 = next_rest retired every low no_hit in
    let most : one ((true && (clock == era)) && true) ≤ 1 = one_most ((true && (clock == era)) && true) in
    omega (arith, rest, next_is, most)
  where
    one_most : (b : Bool) → one b ≤ 1
    one_most true = omega arith
    one_most false = omega arith

no_owing : (era from retires : ℕ) (due : Bool) → retires ≡ 0 → ((due && nat_lt 0 retires) && nat_le era from) ≡ false
no_owing era from retires true z = let none : nat_lt 0 retires ≡ false = grind (arith, nat_tests, z) in rw none refl
no_owing era from retires false z = refl

-- one more event of the seat
fine_next : (every era last : ℕ) (event : Event) (x : Seat) → 0 < every → era < last → Right last event x → Fine every era x → Fine every era (next every era true event x)
fine_next every era last (events.Begin call) x low below r f = record {
  most = let m = f.most in omega (arith, m);
  before = λ c. let z = f.before c in omega (arith, z);
  rest = λ e o. let m = f.closed e (r.begins call refl) in omega (arith, m);
  closed = λ e b. absurd (no_truth (sym b));
  from = omega arith;
  moved = λ told e. absurd (cc);
}
fine_next every era last (events.End steps answer) x low below r f = record {
  most = let m = f.most in omega (arith, m);
  before = λ c. let z = f.before c in omega (arith, z);
  rest = λ e o. let m = f.rest e o in omega (arith, m);
  closed = λ e b. let m = ended every era last steps answer x below r f e in omega (arith, m);
  from = f.from;
  moved = f.moved;
}
fine_next every era last (events.Retire slot birth retire) x low below r f =
    let rest : x.clock ≡ era → x.mine ≤ x.tally.retired % every = λ e. f.rest e (no_owing era x.from x.retires x.tally.due (r.single slot birth retire refl)) in
    record {
      most = retired_most every era x.clock x.mine x.tally.retired (x.clock == era) refl low f.most rest;
      before = λ c. retired_none era x.clock x.mine (x.clock == era) refl c (f.before c);
      rest = λ e o. retired_rest every era x.clock x.mine x.tally.retired x.retires low e rest o;
      closed = λ e b. absurd (no_truth (sym b ∙ r.within slot birth retire refl));
      from = omega arith;
      moved = λ told e. absurd (cc);
    }
fine_next every era last (events.Era told) x low below r f =
    let from = f.from in
    record {
      most = let m = f.most in omega (arith, m);
      before = λ c. let z = f.before (omega (arith, c)) in omega (arith, z);
      rest = λ e o. let z = f.before (omega (arith, e)) in omega (arith, z);
      closed = λ e b. let z = f.before (omega (arith, e)) in omega (arith, z);
      from = omega (arith, from);
      moved = λ told e. omega (arith, from);
    }
fine_next every era last event x low below r f = record {
  most = let m = f.most in omega (arith, m);
  before = λ c. let z = f.before c in omega (arith, z);
  rest = λ e o. let m = f.rest e o in omega (arith, m);
  closed = λ e b. let m = f.closed e b in omega (arith, m);
  from = f.from;
  moved = f.moved;
}

-- one of another seat
none_more : (b : Bool) → one (b && false) ≡ 0
none_more true = refl
none_more false = refl

one_tick : (event : Event) (clock : ℕ) → ticked_by event clock ≤ clock + 1
one_tick (events.Era era) clock = omega arith
one_tick event clock = omega arith

fine_beside : (every era : ℕ) (event : Event) (x : Seat) → Fine every era x → Fine every era (beside era event x)
fine_beside every era event x f =
    let none : one ((is_retire event && x.clock == era) && false) ≡ 0 = none_more (is_retire event && x.clock == era) in
    let up = ticked_rises event x.clock in
    let one_up = one_tick event x.clock in
    let from = f.from in
    let most = f.most in
    record {
      most = omega (arith, most, none);
      before = λ c. let z = f.before (omega (arith, c, up)) in omega (arith, z, none);
      rest = λ e o. let m = here e (λ s. f.rest s o) in omega (arith, m, none);
      closed = λ e b. let m = here e (λ s. f.closed s b) in omega (arith, m, none);
      from = omega (arith, from, up);
      moved = λ told e. let past = f.moved told e in omega (arith, past, up);
    }
  where
    here : ticked_by event x.clock ≡ era → (x.clock ≡ era → x.mine ≤ x.tally.retired % every) → x.mine ≤ x.tally.retired % every
    here e g = by (x.clock == era) refl
      where
        by : (same : Bool) → (x.clock == era) ≡ same → x.mine ≤ x.tally.retired % every
        by true s = g (number_is x.clock era s)
        by false s =
            let up = ticked_rises event x.clock in
            let low : x.clock < era = grind (arith, nat_tests, s, up, e) in
            let z = f.before low in
            omega (arith, z)

-- At each position of a record.
pub record Told (c : Config) (p : Past) : Type 0 where
  pub calls : Each open_ok p
  pub single : Each single_ok p
  pub counts : Each retires_ok p
  pub clocks : Each (plain_clocks_ok c) p
  pub times : Each times_ok p
  pub ranges : Each (ranges_ok c) p

pub told_first : (c : Config) (p : Past) (i : ℕ) (event : Event) → Told c (Then p i event) → Told c p
told_first c p i event t = record { calls = t.calls.1; single = t.single.1; counts = t.counts.1; clocks = t.clocks.1; times = t.times.1; ranges = t.ranges.1 }

pub told_before : (c : Config) (p : Past) (later : List Entry) → Told c (tells p later) → Told c p
told_before c p later t = record {
  calls = each_before open_ok p later t.calls;
  single = each_before single_ok p later t.single;
  counts = each_before retires_ok p later t.counts;
  clocks = each_before (plain_clocks_ok c) p later t.clocks;
  times = each_before times_ok p later t.times;
  ranges = each_before (ranges_ok c) p later t.ranges;
}

right : (c : Config) (era k : ℕ) (p : Past) (event : Event) → moves_clock c.scheme ≡ true → Told c (Then p k event) → Right c.last_era event (seat_at c.every era k p)
right c era k p event s t = record {
  begins = λ call e. let o : (not (is_open k p) && not (has_left k p)) ≡ true = ap (open_ok p k) (sym e) ∙ t.calls.0 in false_of_not (is_open k p) (first_of (not (is_open k p)) (not (has_left k p)) o);
  within = λ slot birth retire e. ap (open_ok p k) (sym e) ∙ t.calls.0;
  single = λ slot birth retire e. let o : (cuts_one (began_of k p) && retires_of k p == 0) ≡ true = ap (single_ok p k) (sym e) ∙ t.single.0 in number_is (retires_of k p) 0 (rest_of (cuts_one (began_of k p)) (retires_of k p == 0) o);
  count_is = λ steps answer e. let o : (retires_of k p == retires_for answer) ≡ true = ap (retires_ok p k) (sym e) ∙ t.counts.0 in number_is (retires_of k p) (retires_for answer) o;
  fits = λ steps answer e.
      let o : answer_fits (moves_clock c.scheme) c.last_era (plain_clock c.every k p) answer ≡ true = ap (plain_clocks_ok c p k) (sym e) ∙ t.clocks.0 in
      subst (λ (b : Bool). answer_fits b c.last_era (plain_clock c.every k p) answer ≡ true) s o;
  times = λ steps answer e. ap (times_ok p k) (sym e) ∙ t.times.0;
}

seat_own : (every era k : ℕ) (p : Past) (event : Event) → seat_at every era k (Then p k event) ≡ next every era true event (seat_at every era k p)
seat_own every era k p event = let e : (k == k) ≡ true = same_number k in rw e refl

seat_other : (every era k i : ℕ) (p : Past) (event : Event) → (k == i) ≡ false → seat_at every era k (Then p i event) ≡ beside era event (seat_at every era k p)
seat_other every era k i p event e = rw e refl

entry : (c : Config) (era k i : ℕ) (p : Past) (event : Event) (same : Bool) → (k == i) ≡ same → 0 < c.every → era < c.last_era → moves_clock c.scheme ≡ true → Told c (Then p i event)
    → Fine c.every era (seat_at c.every era k p) → Fine c.every era (seat_at c.every era k (Then p i event))
entry c era k i p event true e low below s t f =
    let here : k ≡ i = number_is k i e in
    let own : Told c (Then p k event) = subst (λ (n : ℕ). Told c (Then p n event)) (sym here) t in
    subst (λ (n : ℕ). Fine c.every era (seat_at c.every era k (Then p n event))) here
    (subst (Fine c.every era) (sym (seat_own c.every era k p event)) (fine_next c.every era c.last_era event (seat_at c.every era k p) low below (right c era k p event s own) f))
entry c era k i p event false e low below s t f = subst (Fine c.every era) (sym (seat_other c.every era k i p event e)) (fine_beside c.every era event (seat_at c.every era k p) f)

fine_at : (c : Config) (era k : ℕ) (p : Past) → 0 < c.every → era < c.last_era → moves_clock c.scheme ≡ true → Told c p → Fine c.every era (seat_at c.every era k p)
fine_at c era k Start low below s t = record {
  most = omega arith;
  before = λ e. refl;
  rest = λ e o. omega arith;
  closed = λ e b. omega arith;
  from = omega arith;
  moved = λ told e. absurd (cc);
}
fine_at c era k (Then p i event) low below s t = entry c era k i p event (k == i) refl low below s t (fine_at c era k p low below s (told_first c p i event t))

-- Over all seats.
abbrev below_in : (era below : ℕ) → Past → ℕ
below_in era n p = count (λ q i event. (is_retire event && clock_of q == era) && nat_lt i n) p

one_more : (t : Bool) (i n : ℕ) → one (t && nat_lt i (suc n)) ≤ one (t && nat_lt i n) + one (t && n == i)
one_more false i n = omega arith
one_more true i n = split (nat_lt i (suc n)) (nat_lt i n) (n == i) refl refl refl
  where
    split : (next low same : Bool) → nat_lt i (suc n) ≡ next → nat_lt i n ≡ low → (n == i) ≡ same → one next ≤ one low + one same
    split false low same a b d = omega arith
    split true true same a b d = omega arith
    split true false true a b d = omega arith
    split true false false a b d = absurd (grind (arith, nat_tests, a, b, d))

below_more : (era n : ℕ) (p : Past) → below_in era (suc n) p ≤ below_in era n p + own_in era n p
below_more era n Start = omega arith
below_more era n (Then p i event) =
    let more = below_more era n p in
    let here = one_more (is_retire event && clock_of p == era) i n in
    omega (arith, more, here)

none_lower : (t : Bool) (i : ℕ) → one (t && nat_lt i 0) ≡ 0
none_lower true i = let none : nat_lt i 0 ≡ false = grind (arith, nat_tests) in ap one none
none_lower false i = refl

below_none : (era : ℕ) (p : Past) → below_in era 0 p ≡ 0
below_none era Start = refl
below_none era (Then p i event) =
    let more = below_none era p in
    let here = none_lower (is_retire event && clock_of p == era) i in
    omega (arith, more, here)

below_few : (c : Config) (era : ℕ) (p : Past) → 0 < c.every → era < c.last_era → moves_clock c.scheme ≡ true → Told c p → (n : ℕ) → below_in era n p ≤ n * c.every
below_few c era p low below s t zero = let none = below_none era p in omega (arith, none)
below_few c era p low below s t (suc n) =
    let more = below_few c era p low below s t n in
    let here = (fine_at c era n p low below s t).most in
    let split = below_more era n p in
    let next_is : suc n * c.every ≡ n * c.every + c.every = suc-mul n c.every in
    omega (arith, more, here, split, next_is)

in_range : (t low : Bool) → low ≡ true → one t ≤ one (t && low)
in_range true low e = rw e (omega arith)
in_range false low e = omega arith

all_below : (c : Config) (era : ℕ) (p : Past) → Each (ranges_ok c) p → count (retires_in era) p ≤ below_in era c.seats p
all_below c era Start h = omega arith
all_below c era (Then p i event) h =
    let more = all_below c era p h.1 in
    let here = in_range (is_retire event && clock_of p == era) (nat_lt i c.seats) (first_of (nat_lt i c.seats) (is_in_range c event) h.0) in
    omega (arith, more, here)

pub pace : (c : Config) (era : ℕ) (p : Past) → 0 < c.every → era < c.last_era → moves_clock c.scheme ≡ true → Told c p → count (retires_in era) p ≤ c.seats * c.every
pace c era p low below s t =
    let all = all_below c era p t.ranges in
    let few = below_few c era p low below s t c.seats in
    omega (arith, all, few)

-- Over some eras, one after another.
abbrev window : (lo hi : ℕ) → Past → ℕ
window lo hi p = count (λ q i event. is_retire event && (nat_le lo (clock_of q) && nat_lt (clock_of q) hi)) p

window_one : (t : Bool) (lo hi clock : ℕ) → one (t && (nat_le lo clock && nat_lt clock (suc hi))) ≤ one (t && (nat_le lo clock && nat_lt clock hi)) + one (t && clock == hi)
window_one false lo hi clock = omega arith
window_one true lo hi clock = split (nat_le lo clock) (nat_lt clock (suc hi)) (nat_lt clock hi) (clock == hi) refl refl refl
  where
    split : (low next high same : Bool) → nat_lt clock (suc hi) ≡ next → nat_lt clock hi ≡ high → (clock == hi) ≡ same → one (low && next) ≤ one (low && high) + one same
    split false next high same a b d = omega arith
    split true false high same a b d = omega arith
    split true true true same a b d = omega arith
    split true true false true a b d = omega arith
    split true true false false a b d = absurd (grind (arith, nat_tests, a, b, d))

window_more : (lo hi : ℕ) (p : Past) → window lo (suc hi) p ≤ window lo hi p + count (retires_in hi) p
window_more lo hi Start = omega arith
window_more lo hi (Then p i event) =
    let more = window_more lo hi p in
    let here = window_one (is_retire event) lo hi (clock_of p) in
    omega (arith, more, here)

window_empty : (t : Bool) (lo clock : ℕ) → one (t && (nat_le lo clock && nat_lt clock lo)) ≡ 0
window_empty false lo clock = refl
window_empty true lo clock = split (nat_le lo clock) (nat_lt clock lo) refl refl
  where
    split : (a b : Bool) → nat_le lo clock ≡ a → nat_lt clock lo ≡ b → one (a && b) ≡ 0
    split true true e f = absurd (grind (arith, nat_tests, e, f))
    split true false e f = refl
    split false b e f = refl

window_none : (lo : ℕ) (p : Past) → window lo lo p ≡ 0
window_none lo Start = refl
window_none lo (Then p i event) =
    let more = window_none lo p in
    let here = window_empty (is_retire event) lo (clock_of p) in
    omega (arith, more, here)

window_few : (c : Config) (lo : ℕ) (p : Past) → 0 < c.every → moves_clock c.scheme ≡ true → Told c p → (eras : ℕ) → lo + eras ≤ c.last_era → window lo (lo + eras) p ≤ eras * (c.seats * c.every)
window_few c lo p low s t zero below =
    let same : lo + 0 ≡ lo = omega arith in
    let none : window lo (lo + 0) p ≡ 0 = ap (λ (n : ℕ). window lo n p) same ∙ window_none lo p in
    omega (arith, none)
window_few c lo p low s t (suc eras) below =
    let more = window_few c lo p low s t eras (omega (arith, below)) in
    let here = pace c (lo + eras) p low (omega (arith, below)) s t in
    let same : lo + suc eras ≡ suc (lo + eras) = omega arith in
    let is : window lo (lo + suc eras) p ≡ window lo (suc (lo + eras)) p = ap (λ (n : ℕ). window lo n p) same in
    let split = window_more lo (lo + eras) p in
    let next_is : suc eras * (c.seats * c.every) ≡ eras * (c.seats * c.every) + c.seats * c.every = suc-mul eras (c.seats * c.every) in
    omega (arith, more, here, is, split, next_is)

from_one : (t : Bool) (lo hi clock : ℕ) → clock < hi → one (t && nat_le lo clock) ≤ one (t && (nat_le lo clock && nat_lt clock hi))
from_one false lo hi clock h = omega arith
from_one true lo hi clock h = by (nat_le lo clock)
  where
    low : nat_lt clock hi ≡ true
    low = lt_test clock hi h

    by : (a : Bool) → one a ≤ one (a && nat_lt clock hi)
    by true = rw low (omega arith)
    by false = omega arith

from_window : (lo hi : ℕ) (p : Past) → clock_of p < hi → count (retires_from lo) p ≤ window lo hi p
from_window lo hi Start h = omega arith
from_window lo hi (Then p i event) h =
    let up = ticked_rises event (clock_of p) in
    let before : clock_of p < hi = omega (arith, up, h) in
    let more = from_window lo hi p before in
    let here = from_one (is_retire event) lo hi (clock_of p) before in
    omega (arith, more, here)

pub from_few : (c : Config) (lo eras : ℕ) (p : Past) → 0 < c.every → moves_clock c.scheme ≡ true → Told c p → clock_of p < lo + eras → lo + eras ≤ c.last_era → count (retires_from lo) p ≤ eras * (c.seats * c.every)
from_few c lo eras p low s t h below =
    let all = from_window lo (lo + eras) p h in
    let few = window_few c lo p low s t eras below in
    omega (arith, all, few)
