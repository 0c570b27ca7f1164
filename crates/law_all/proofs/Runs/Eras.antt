-- Which eras a call tells where it ends: they are later than the clock where it began, and none is later than the clock at its end.
use Rattle.std.proofs.Common.{Bool, List, Option, Some, [], arith, false, refl, subst, sym, true, ℕ, ◌+◌, ◌<◌, ◌∙◌, ◌∷◌, ◌≡◌, ◌≤◌}
use Rattle.std.proofs.lemmas.Bool.Decides.{nat_tests}
use Rattle.std.specs.Prelude.{if◌then◌else◌, nat_le, nat_lt, not, ◌&&◌, ◌==◌, ◌||◌}
use Rattle.law_all.proofs.inv.model.Facts.{first_of, number_is, rest_of, same_number}
use Rattle.law_all.specs.inv.model.defs.Entry.{Entry}
use Rattle.law_all.specs.inv.model.defs.declared.call.Answer.TheVariants as answers
use Rattle.law_all.specs.inv.model.defs.declared.call.Answer.{Answer}
use Rattle.law_all.specs.inv.model.defs.declared.call.Call.{Call}
use Rattle.law_all.specs.inv.model.defs.declared.call.ClockMove.TheVariants as moves
use Rattle.law_all.specs.inv.model.defs.declared.call.ClockMove.{ClockMove}
use Rattle.law_all.specs.inv.model.defs.declared.event.Event.TheVariants as events
use Rattle.law_all.specs.inv.model.defs.declared.event.Event.{Event}
use Rattle.law_all.specs.inv.model.words.Schemes.{moves as moves_clock}
use Rattle.law_all.specs.inv.model.words.declared.config.Config.{Config}
use Rattle.law_reasons.proofs.Eras.Current.Positions.{ticked_rises}
use Rattle.law_all.specs.inv.history.Record.Past.{Start, Then}
use Rattle.law_all.specs.inv.history.Record.{Each, Past, tells}
use Rattle.law_all.proofs.inv.history.Entries.{each_before}
use Rattle.law_all.specs.laws.AnswerLaw.{ClockTally, answer_fits, change_fits, clock_by, clock_tally, clocks_ok, from_by, from_of, is_still, outcome_fits}
use Rattle.law_all.specs.laws.EraLaw.{era_ok}
use Rattle.law_all.specs.laws.StateAt.{clock_of, is_among, ticked_by}
use Rattle.law_all.specs.RunLaw.{clock_told, era_spent, era_told}

-- the laws of eras that a record keeps, by recursion
pub record Timely (c : Config) (p : Past) : Type 0 where
  pub eras : Each (era_ok c.last_era) p
  pub clocks : Each (clocks_ok c) p

pub timely_tells : (c : Config) (xs : List Entry) (p : Past) → Timely c (tells p xs) → Timely c p
timely_tells c xs p l = record { eras = each_before (era_ok c.last_era) p xs l.eras; clocks = each_before (clocks_ok c) p xs l.clocks }

-- the clock never falls
pub clock_rises : (xs : List Entry) (p : Past) → clock_of p ≤ clock_of (tells p xs)
clock_rises [] p = omega arith
clock_rises (x ∷ xs) p =
    let one = ticked_rises x.event (clock_of p) in
    let rest = clock_rises xs (Then p x.seat x.event) in
    omega (arith, one, rest)

-- and is at most the last era
next_most : (last i : ℕ) (p : Past) (event : Event) → era_ok last p i event ≡ true → clock_of p ≤ last → ticked_by event (clock_of p) ≤ last
next_most last i p (events.Era era) o h = grind (arith, nat_tests)
next_most last i p event o h = h

pub clock_most : (last : ℕ) (p : Past) → 1 ≤ last → Each (era_ok last) p → clock_of p ≤ last
clock_most last Start low l = low
clock_most last (Then p i event) low l = next_most last i p event l.0 (clock_most last p low l.1)

-- What a seat's entries come to at a clock, since it was another: the clock from which an era counts as later is no less, and the eras
-- told are greater, and at most the present clock.
pub record Since (least now from : ℕ) (t : ClockTally) : Type 0 where
  pub risen : least ≤ now
  pub start : least ≤ from
  pub eras : (era : ℕ) → is_among era t.eras ≡ true → (least < era) × (era ≤ now)

abbrev pub SinceAt : (every k least : ℕ) → Past → Type 0
SinceAt every k least p = Since least (clock_of p) (from_of k p) (clock_tally every k p)

-- one entry more
told_more : (least now told : ℕ) (eras : List ℕ) (reads : Bool) → told ≡ now + 1 → least ≤ now
    → ((era : ℕ) → is_among era eras ≡ true → (least < era) × (era ≤ now))
    → (era : ℕ) → is_among era (if reads then eras else told ∷ eras) ≡ true → (least < era) × (era ≤ now + 1)
told_more least now told eras true e low h era m = let g = h era m in (g.0, omega (arith, g.1))
told_more least now told eras false e low h era m = by (told == era) refl m
  where
    by : (same : Bool) → (told == era) ≡ same → (same || is_among era eras) ≡ true → (least < era) × (era ≤ now + 1)
    by true s n = let one : told ≡ era = number_is told era s in (omega (arith, one, e, low), omega (arith, one, e))
    by false s n = let g = h era n in (g.0, omega (arith, g.1))

since_own : (every last k least : ℕ) (p : Past) (event : Event) → era_ok last p k event ≡ true → SinceAt every k least p
    → Since least (ticked_by event (clock_of p)) (from_by (clock_of p) event (from_of k p)) (clock_by every event (clock_tally every k p))
since_own every last k least p (events.Begin call) o s = record { risen = s.risen; start = s.risen; eras = λ era m. absurd (cc) }
since_own every last k least p (events.Retire slot birth retire) o s = record { risen = s.risen; start = s.risen; eras = λ era m. absurd (cc) }
since_own every last k least p (events.Era told) o s =
    let t : ClockTally = clock_tally every k p in
    let next : told ≡ clock_of p + 1 = number_is told (clock_of p + 1) (first_of (told == clock_of p + 1) (nat_le told last) o) in
    record {
      risen = omega (arith, s.risen);
      start = s.start;
      eras = told_more least (clock_of p) told t.eras t.reads next s.risen s.eras;
    }
since_own every last k least p (events.Read guard span) o s = record { risen = s.risen; start = s.start; eras = s.eras }
since_own every last k least p (events.Saw guard slot) o s = record { risen = s.risen; start = s.start; eras = s.eras }
since_own every last k least p event o s = s

since_other : (least now later from : ℕ) (t : ClockTally) → now ≤ later → Since least now from t → Since least later from t
since_other least now later from t h s = record {
  risen = omega (arith, h, s.risen);
  start = s.start;
  eras = λ era m. let g = s.eras era m in (g.0, omega (arith, h, g.1));
}

since_entry : (every last k i least : ℕ) (p : Past) (event : Event) (same : Bool) → (k == i) ≡ same → era_ok last p i event ≡ true
    → SinceAt every k least p → SinceAt every k least (Then p i event)
since_entry every last k i least p event true e o s =
    let one : k ≡ i = number_is k i e in
    rw e (since_own every last k least p event (subst (λ (j : ℕ). era_ok last p j event ≡ true) (sym one) o) s)
since_entry every last k i least p event false e o s =
    rw e (since_other least (clock_of p) (ticked_by event (clock_of p)) (from_of k p) (clock_tally every k p) (ticked_rises event (clock_of p)) s)

-- from the first entry on, and from the beginning of a call on
pub since_start : (every last k : ℕ) (p : Past) → Each (era_ok last) p → SinceAt every k 1 p
since_start every last k Start l = record { risen = omega arith; start = omega arith; eras = λ era m. absurd (cc) }
since_start every last k (Then p i event) l = since_entry every last k i 1 p event (k == i) refl l.0 (since_start every last k p l.1)

since_tells : (every last k least : ℕ) (xs : List Entry) (p : Past) → Each (era_ok last) (tells p xs) → SinceAt every k least p
    → SinceAt every k least (tells p xs)
since_tells every last k least [] p l s = s
since_tells every last k least (x ∷ xs) p l s =
    let next : Past = Then p x.seat x.event in
    since_tells every last k least xs next l
    (since_entry every last k x.seat least p x.event (k == x.seat) refl (each_before (era_ok last) next xs l).0 s)

since_begin : (every k : ℕ) (p : Past) (call : Call) → SinceAt every k (clock_of p) (Then p k (events.Begin call))
since_begin every k p call = rw (same_number k) (record { risen = omega arith; start = omega arith; eras = λ era m. absurd (cc) })

pub since_call : (every last k : ℕ) (xs : List Entry) (p : Past) (call : Call) → Each (era_ok last) (tells (Then p k (events.Begin call)) xs)
    → SinceAt every k (clock_of p) (tells (Then p k (events.Begin call)) xs)
since_call every last k xs p call l = since_tells every last k (clock_of p) xs (Then p k (events.Begin call)) l (since_begin every k p call)

-- What a call that ends says of the clock: an era that it or another has moved it to is later than the clock was, and at most the
-- present one; and no era is left where the clock is at the last one.
pub record Timed (last least now : ℕ) (told : Option ClockMove) : Type 0 where
  pub later : (era : ℕ) → era_told told ≡ Some era → (least < era) × (era ≤ now)
  pub spent : (era : ℕ) → era_spent told ≡ Some era → (era ≡ last) × (era ≡ now)

seen_between : (least from now seen era : ℕ) → least ≤ from → nat_lt from seen ≡ true → nat_le seen now ≡ true → seen ≡ era → (least < era) × (era ≤ now)
seen_between least from now seen era low late soon same = (grind (arith, nat_tests), grind (arith, nat_tests))

timed_move : (last least from now : ℕ) (t : ClockTally) (move : ClockMove) → Since least now from t → outcome_fits last from now t move ≡ true
    → Timed last least now (Some move)
timed_move last least from now t moves.Still s h = record { later = λ era e. absurd (cc); spent = λ era e. absurd (cc) }
timed_move last least from now t (moves.Moved told) s h = record {
  later = λ era e. let same : told ≡ era = cc in s.eras era (subst (λ (x : ℕ). is_among x t.eras ≡ true) same (rest_of t.due (is_among told t.eras) h));
  spent = λ era e. absurd (cc);
}
timed_move last least from now t (moves.Other seen) s h =
    let between : (nat_lt from seen && nat_le seen now) ≡ true =
    rest_of (not t.told) (nat_lt from seen && nat_le seen now) (rest_of t.due (not t.told && (nat_lt from seen && nat_le seen now)) h) in
    let late : nat_lt from seen ≡ true = first_of (nat_lt from seen) (nat_le seen now) between in
    let soon : nat_le seen now ≡ true = rest_of (nat_lt from seen) (nat_le seen now) between in
    record { later = λ era e. let same : seen ≡ era = cc in seen_between least from now seen era s.start late soon same; spent = λ era e. absurd (cc) }
timed_move last least from now t (moves.EraSpent last_one) s h =
    let both : (last_one == last && last_one == now) ≡ true =
    rest_of (not t.told) (last_one == last && last_one == now) (rest_of t.due (not t.told && (last_one == last && last_one == now)) h) in
    record {
      later = λ era e. absurd (cc);
      spent = λ era e.
          let same : last_one ≡ era = cc in (
            sym same ∙ number_is last_one last (first_of (last_one == last) (last_one == now) both),
            sym same ∙ number_is last_one now (rest_of (last_one == last) (last_one == now) both),
          );
    }

timed_still : (last least now : ℕ) (move : ClockMove) → is_still move ≡ true → Timed last least now (Some move)
timed_still last least now moves.Still h = record { later = λ era e. absurd (cc); spent = λ era e. absurd (cc) }
timed_still last least now move h = absurd (cc)

timed_change : (by_retires : Bool) (last least from now : ℕ) (t : ClockTally) (move : ClockMove) → Since least now from t
    → change_fits by_retires last from now t move ≡ true → Timed last least now (Some move)
timed_change true last least from now t move s h = timed_move last least from now t move s h
timed_change false last least from now t move s h = timed_still last least now move h

timed_answer : (by_retires : Bool) (last least from now : ℕ) (t : ClockTally) (answer : Answer) → Since least now from t
    → answer_fits by_retires last from now t answer ≡ true → Timed last least now (clock_told answer)
timed_answer by_retires last least from now t (answers.Done version clock) s h = timed_change by_retires last least from now t clock s h
timed_answer by_retires last least from now t (answers.Taken number value clock) s h = timed_change by_retires last least from now t clock s h
timed_answer by_retires last least from now t (answers.Clock clock) s h = timed_move last least from now t clock s h
timed_answer by_retires last least from now t answer s h = record { later = λ era e. absurd (cc); spent = λ era e. absurd (cc) }

pub timed : (c : Config) (k steps least : ℕ) (p : Past) (answer : Answer) → SinceAt c.every k least p → clocks_ok c p k (events.End steps answer) ≡ true
    → Timed c.last_era least (clock_of p) (clock_told answer)
timed c k steps least p answer s h = timed_answer (moves_clock c.scheme) c.last_era least (from_of k p) (clock_of p) (clock_tally c.every k p) answer s h
