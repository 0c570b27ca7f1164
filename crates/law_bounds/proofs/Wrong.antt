-- The wrong records are refused, each by the sentence that it breaks.
use Rattle.std.proofs.Common.{ℕ, suc, ◌≡◌, ◌≤◌, ◌<◌, ◌+◌, ◌⊎◌, inl, inr, Bool, true, false, List, [], ◌∷◌, ◌++◌, length, None, Some, refl, sym, ap, subst, arith, length-append}
use Rattle.std.specs.Prelude.{◌==◌, if◌then◌else◌}
use Rattle.law_all.proofs.inv.model.Facts.{no_truth}
use Rattle.law_all.specs.inv.history.Record.{Past, tells}
use Rattle.law_all.specs.inv.history.Record.Past.{Start, Then}
use Rattle.law_all.specs.inv.model.defs.Entry.{Entry}
use Rattle.law_all.specs.inv.model.defs.declared.event.Event.{Event}
use Rattle.law_all.specs.inv.model.defs.declared.event.Event.TheVariants as events
use Rattle.law_all.specs.inv.model.defs.declared.event.Guard.TheVariants as guards
use Rattle.law_all.specs.inv.model.defs.declared.call.Call.TheVariants as calls
use Rattle.law_all.specs.inv.model.defs.declared.lifetime.Interval.{Interval}
use Rattle.law_all.specs.inv.model.defs.declared.lifetime.Lifetime.{Lifetime}
use Rattle.law_all.specs.inv.model.words.declared.config.SchemeKind.TheVariants.{He}
use Rattle.law_all.specs.laws.StateAt.{clock_of, count, is_give, one, taken_at, taken_by, told}
use Rattle.law_all.specs.laws.StructuresAt.{queued_of}
use Rattle.law_bounds.specs.Eras.{IsGiven, WasThere}
use Rattle.law_bounds.specs.Kept.{KeptFew, WaitedMost, kept_by, retires_from}
use Rattle.law_bounds.specs.Rows.{changed_below, open_below, waiting_at}
use Rattle.law_bounds.specs.WrongRecords.{ErasRefused, HazardsRefused, KeptRefused, RowsRefused, ScansRefused, WaitsRefused, WrongRefused, eight_kept, eight_retired, from_nowhere, kept_unseen, miscounted, never_given, six_retired, small, too_early, unscanned}

rows : RowsRefused
rows = record {
  lost = λ g. let e : true ≡ false = g.taken 0 in no_truth (sym e);
  freed = λ g. no_truth (g.taken 0);
  shared = λ g. no_truth g.apart;
  changed = λ g. let e : 0 ≡ 1 = g.buckets in omega (arith, e);
  queued = λ g. let e : 1 ≡ 2 = g.queue in omega (arith, e);
  freed_in_call = λ g. no_truth (g.taken 0 refl);
  shared_in_call = λ g. no_truth g.apart;
  handed = λ g. let e : 3 ≤ 2 = g.number in omega (arith, e);
}

scans : ScansRefused
scans = record {
  twice = λ g. no_truth (g.apart _ _ _ [] refl);
  unseen = λ g. some_not (g.leaves.kept kept_unseen [] 0 refl refl);
  more = λ g. let e : 1 ≤ 0 = g.leaves.since miscounted [] 1 refl refl in omega (arith, e);
  stays = λ g. no_truth (g.leaves.emptied _ _ _ [] refl);
}
  where
    some_not : {life : Lifetime} → Some life ≡ None → ⊥
    some_not e = absurd (cc)

hazards : HazardsRefused
hazards = record {
  closed = λ g. let e : 6 ≤ 3 = g.one unscanned [] 0 refl refl in omega (arith, e);
  in_call = λ g. let e : 6 ≤ 5 = g.ever (six_retired []) [] 0 refl refl in omega (arith, e);
  needed = λ g. let e : 11 ≤ 9 = g.most refl in omega (arith, e);
}

-- a record with a Give in it has told one, and one without it has taken no row but the dummy
gives_more : (xs : List Entry) (p : Past) → told is_give p ≤ told is_give (tells p xs)
gives_more [] p = omega arith
gives_more (x ∷ xs) p = let more : told is_give p + one (is_give x.event) ≤ told is_give (tells (Then p x.seat x.event) xs) = gives_more xs (Then p x.seat x.event) in omega (arith, more)

given_some : (s birth seat : ℕ) (first last : List Entry) (p : Past) → 1 ≤ told is_give (tells p (first ++ record { seat = seat; event = events.Give s birth } ∷ last))
given_some s birth seat [] last p = let more : told is_give p + 1 ≤ told is_give (tells (Then p seat (events.Give s birth)) last) = gives_more last (Then p seat (events.Give s birth)) in omega (arith, more)
given_some s birth seat (x ∷ first) last p = given_some s birth seat first last (Then p x.seat x.event)

never_taken : (s : ℕ) (event : Event) (x : Bool) → is_give event ≡ false → x ≡ false → taken_by s event x ≡ false
never_taken s (events.Give slot birth) x n e = absurd (no_truth (sym n))
never_taken s (events.Unused slot) x n e = by (s == slot)
  where
    by : (same : Bool) → (if same then false else x) ≡ false
    by true = refl
    by false = e
never_taken s (events.Back slot) x n e = by (s == slot)
  where
    by : (same : Bool) → (if same then false else x) ≡ false
    by true = refl
    by false = e
never_taken s event x n e = e

none_one : (n : ℕ) (b : Bool) → n + one b ≡ 0 → b ≡ false
none_one n true e = absurd (omega (arith, e))
none_one n false e = refl

taken_none : (slots s : ℕ) (p : Past) → (s == slots) ≡ false → told is_give p ≡ 0 → taken_at slots s p ≡ false
taken_none slots s Start h e = h
taken_none slots s (Then p i event) h e =
    let all : told is_give p + one (is_give event) ≡ 0 = e in
    never_taken s event (taken_at slots s p) (none_one (told is_give p) (is_give event) all) (taken_none slots s p h (omega (arith, all)))

was_not : WasThere 2 (record { lo = 1; hi = 1 }) 0 never_given → ⊥
was_not w =
    let none : told is_give (tells w.at w.later) ≡ 0 = sym (ap (told is_give) w.cut) in
    let before : told is_give w.at ≡ 0 = let more = gives_more w.later w.at in omega (arith, more, none) in
    let x : IsGiven 0 w.at w.later = w.there (taken_none 2 0 w.at refl before) in
    let some = given_some 0 x.birth x.seat x.first x.last w.at in
    let same : told is_give (tells w.at w.later) ≡ told is_give (tells w.at (x.first ++ record { seat = x.seat; event = events.Give 0 x.birth } ∷ x.last)) = ap (λ (xs : List Entry). told is_give (tells w.at xs)) x.cut in
    omega (arith, none, some, same)

eras : ErasRefused
eras = record {
  young = λ g.
      let e : true ≡ false = g.young too_early [] (guards.Index 0 0) (record { lo = 1; hi = 1 }) 1 (record { slot = 0; birth = 1; retire = 2 }) (record { cut = refl; still = refl; eras = refl; on = refl }) (omega arith) in
      no_truth (sym e);
  old = λ g. was_not (g.old never_given [] (guards.Index 0 0) (record { lo = 1; hi = 1 }) 0 (record { slot = 0; birth = 1; retire = 1 }) (record { cut = refl; still = refl; eras = refl; on = refl }) refl);
}

-- no value is queued in a record that begins one without any
one_queued : (p : Past) (i : ℕ) (event : Event) → length (queued_of p) ≤ length (queued_of (Then p i event))
one_queued p i (events.Queued number value) = let more = length-append (queued_of p) (value ∷ []) in omega (arith, more)
one_queued p i event = omega arith

queued_more : (xs : List Entry) (p : Past) → length (queued_of p) ≤ length (queued_of (tells p xs))
queued_more [] p = omega arith
queued_more (x ∷ xs) p =
    let more = queued_more xs (Then p x.seat x.event) in
    let here = one_queued p x.seat x.event in
    omega (arith, more, here)

waited_none : (p : Past) → length (queued_of p) ≡ 0 → WaitedMost 0 p
waited_none p e before later cut =
    let more = queued_more later before in
    let same : length (queued_of (tells before later)) ≡ length (queued_of p) = ap (λ (q : Past). length (queued_of q)) (sym cut) in
    omega (arith, more, same, e)

-- a position of a record is its end, or one of the record without its last entry
last_is : (q p : Past) (i j : ℕ) (e f : Event) → Then q i e ≡ Then p j f → q ≡ p
last_is q p i j e f h = cc

cut_first : (q at : Past) (i : ℕ) (event : Event) (later : List Entry) → Then q i event ≡ tells at later → (Then q i event ≡ at) ⊎ ((before : List Entry) × (q ≡ tells at before))
cut_first q at i event [] e = inl e
cut_first q at i event (x ∷ later) e = by (cut_first q (Then at x.seat x.event) i event later e)
  where
    by : (Then q i event ≡ Then at x.seat x.event) ⊎ ((before : List Entry) × (q ≡ tells (Then at x.seat x.event) before)) → (Then q i event ≡ at) ⊎ ((before : List Entry) × (q ≡ tells at before))
    by (inl h) = inr ([], last_is q at i x.seat event x.event h)
    by (inr h) = inr (x ∷ h.0, h.1)

-- the clock has passed the first era at these positions
abbrev one_era : Interval
one_era = record { lo = 1; hi = 1 }

passed : (q at : Past) (i : ℕ) (event : Event) (later : List Entry) → Then q i event ≡ tells at later → clock_of at ≤ 1 → 2 ≤ clock_of (Then q i event) → (before : List Entry) × (q ≡ tells at before)
passed q at i event later e low high = by (cut_first q at i event later e)
  where
    by : (Then q i event ≡ at) ⊎ ((before : List Entry) × (q ≡ tells at before)) → (before : List Entry) × (q ≡ tells at before)
    by (inl h) = let same : clock_of (Then q i event) ≡ clock_of at = ap clock_of h in absurd (omega (arith, same, low, high))
    by (inr h) = h

-- before that nothing was there
few_there : (at : Past) → (Then Start 0 (events.Begin (calls.Remove 0)) ≡ at) ⊎ ((before : List Entry) × (Start ≡ tells at before)) → changed_below 2 at + (suc (waiting_at at) + open_below 1 at) + (1 + count (retires_from 1) at) ≤ 3
few_there at (inl h) = subst (λ (q : Past). changed_below 2 q + (suc (waiting_at q) + open_below 1 q) + (1 + count (retires_from 1) q) ≤ 3) h (omega arith)
few_there at (inr h) = by at h.0 h.1
  where
    never : (xs : List Entry) (q : Past) (i : ℕ) (event : Event) → Start ≡ tells (Then q i event) xs → ⊥
    never [] q i event e = cc
    never (x ∷ xs) q i event e = never xs (Then q i event) x.seat x.event e

    by : (at : Past) (before : List Entry) → Start ≡ tells at before → changed_below 2 at + (suc (waiting_at at) + open_below 1 at) + (1 + count (retires_from 1) at) ≤ 3
    by Start before e = omega arith
    by (Then q i event) before e = absurd (never before q i event e)

nowhere : KeptFew (small He 9) one_era from_nowhere → ⊥
nowhere x =
    let low = x.clock in
    let a = passed _ x.at 0 (events.Retire 3 1 1) x.later x.cut low (omega arith) in
    let b = passed _ x.at 0 (events.Retire 2 1 1) a.0 a.1 low (omega arith) in
    let c = passed _ x.at 0 (events.Retire 1 1 1) b.0 b.1 low (omega arith) in
    let d = passed _ x.at 0 (events.Retire 0 1 1) c.0 c.1 low (omega arith) in
    let e = passed _ x.at 0 (events.Era 2) d.0 d.1 low (omega arith) in
    let few = few_there x.at (cut_first Start x.at 0 (events.Begin (calls.Remove 0)) e.0 e.1) in
    let most = x.most in
    let size : length (kept_by (small He 9) one_era from_nowhere) ≡ 4 = refl in
    omega (arith, few, most, size)

kept : KeptRefused
kept = record {
  pace = λ g. let e : 6 ≤ 2 = g.pace 1 (omega arith) in omega (arith, e);
  parts = λ g. nowhere (g.parts one_era (omega arith));
  all = λ g. let e : 8 ≤ 7 = g.all one_era 0 (omega arith) (omega arith) (omega arith) (waited_none eight_retired refl) in omega (arith, e);
  scan = λ g. let e : 8 ≤ 7 = g.scan 0 0 refl (omega arith) (waited_none eight_kept refl) in omega (arith, e);
}

waits : WaitsRefused
waits = record {
  other = λ g. let e : 0 ≡ 1 = ap (λ (xs : List Lifetime). length xs) g.list in omega (arith, e);
  twice = λ g. no_truth g.apart;
  unseen = λ g. some_not g.kept;
  blank = λ g. let e : 1 ≡ 0 = ap (λ (xs : List Lifetime). length xs) (g.blank refl) in omega (arith, e);
  emptied = λ g. let e : 1 ≡ 0 = ap (λ (xs : List Lifetime). length xs) (g.emptied refl refl) in omega (arith, e);
  more = λ g. let e : 1 ≤ 0 = g.size in omega (arith, e);
  late = λ g. let e : 6 < 2 = g.late in omega (arith, e);
  came = λ g. let e : 1 ≤ 0 = g.came in omega (arith, e);
  hazards = λ g. let e : 6 ≤ 4 = g.hazards refl in omega (arith, e);
  eras = λ g. let e : 6 ≤ 1 = g.eras 0 refl (omega arith) (waited_none unscanned refl) in omega (arith, e);
  closed = λ g. let e : 0 ≡ 1 = g.number in omega (arith, e);
}
  where
    some_not : {life : Lifetime} → Some life ≡ None → ⊥
    some_not e = absurd (cc)

pub wrong_refused : WrongRefused
wrong_refused = record { rows = rows; scans = scans; hazards = hazards; eras = eras; kept = kept; waits = waits }
