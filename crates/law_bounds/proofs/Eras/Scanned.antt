-- How many rows a scan leaves where guards publish eras: of the rows that it judged each meets an interval that it read.
use Rattle.std.proofs.Common.{ℕ, zero, suc, ◌≡◌, ◌≤◌, ◌<◌, ◌+◌, ◌-◌, Bool, true, false, List, [], ◌∷◌, length, None, refl, sym, ◌∙◌, subst, arith, mul-add, mul_left_comm}
use Rattle.std.proofs.lemmas.Bool.Decides.{nat_tests}
use Rattle.std.proofs.lemmas.List.{length-map}
use Rattle.std.specs.Prelude.{◌==◌, ◌||◌, ◌*◌, nat_le}
use Rattle.law_all.proofs.Runs.Kept.{histories_keep}
use Rattle.law_all.proofs.Whole.{histories_are_lawful}
use Rattle.law_all.proofs.inv.model.Facts.{first_of, le_of_test, no_truth, number_is, rest_of}
use Rattle.law_all.proofs.inv.model.Ranges.{bounds_of}
use Rattle.law_all.proofs.laws.records.Entries.{each_of_entries}
use Rattle.law_all.specs.Whole.{IsLawful}
use Rattle.law_all.specs.inv.history.History.{Item, record_of}
use Rattle.law_all.specs.inv.history.Record.{Each, Past}
use Rattle.law_all.specs.inv.history.Record.Past.{Start, Then}
use Rattle.law_all.specs.inv.model.CallReady.{slots_of}
use Rattle.law_all.specs.inv.model.defs.Shown.{Seen, keeps, keeps_any}
use Rattle.law_all.specs.inv.model.defs.declared.event.Event.{Event}
use Rattle.law_all.specs.inv.model.defs.declared.lifetime.Interval.{Interval}
use Rattle.law_all.specs.inv.model.defs.declared.lifetime.Lifetime.{Lifetime}
use Rattle.law_all.specs.inv.model.defs.declared.shown.Shown.{Shown}
use Rattle.law_all.specs.inv.model.defs.declared.shown.Shown.TheVariants.{Eras, Nothing, Row}
use Rattle.law_all.specs.inv.model.words.Place.{is_valid}
use Rattle.law_all.specs.inv.model.words.Schemes.{moves as moves_clock, publishes_rows}
use Rattle.law_all.specs.inv.model.words.declared.config.Config.{Config}
use Rattle.law_all.specs.inv.model.words.declared.config.SchemeKind.{SchemeKind}
use Rattle.law_all.specs.inv.model.words.declared.config.SchemeKind.TheVariants.{He, Hp, Ibr, Wfe}
use Rattle.law_all.specs.inv.model.words.declared.layout.Layout.{Layout}
use Rattle.law_all.specs.inv.rows.Hands.{in_list}
use Rattle.law_all.specs.laws.Lists.{list_of}
use Rattle.law_all.specs.laws.ScanLaw.{guards, next_back}
use Rattle.law_all.specs.laws.StateAt.{clock_of, count, is_one_of, is_open, one, read_of}
use Rattle.law_bounds.specs.Kept.{KeptFew, RecordsKeepFew, WaitedMost, kept_by, meets_below, read_most, retires_from, shown_most, span_most}
use Rattle.law_bounds.specs.Rows.{are_apart, open_below}
use Rattle.law_bounds.specs.Scans.{apart_ok, judged_of}
use Rattle.law_bounds.proofs.Eras.Few.{Found, Life, born_some, counted_most, counted_three, found_of, life_of, meets_by, rows_are, there}
use Rattle.law_bounds.proofs.Eras.Judged.{eras_fit, fits_at, kept_in, shown_fits, within_at}
use Rattle.law_bounds.proofs.Eras.Keeps.{Living, living}
use Rattle.law_bounds.proofs.Eras.Pace as pace
use Rattle.law_bounds.proofs.Eras.Total.{any_life, kept_few, slot_life, taken_within}
use Rattle.law_bounds.proofs.Hazards.Fits.{other_apart, own_apart}
use Rattle.law_bounds.proofs.Hazards.Needed.{changed_most, one_most}
use Rattle.law_bounds.proofs.Rows.Counts.{counted, counted_never, counted_rows, filtered}
use Rattle.law_bounds.proofs.Scans.Judged.{closed_settled, judged_at}
use Rattle.law_bounds.proofs.Scans.Keeps as scans

-- Where guards publish eras, retirements move the clock.
moves_by : (scheme : SchemeKind) → publishes_rows scheme ≡ false → moves_clock scheme ≡ true
moves_by He h = refl
moves_by Ibr h = refl
moves_by Wfe h = refl
moves_by Hp h = absurd (cc)

told : (layout : Layout) (items : List Item) → is_valid layout ≡ true → pace.Told layout.config (record_of layout items)
told layout items d =
    let r : Past = record_of layout items in
    let w : IsLawful layout items = histories_are_lawful layout items d in
    let k = histories_keep layout items d in
    record {
      calls = k.open_calls;
      single = each_of_entries _ r w.beyond.rows.single;
      counts = each_of_entries _ r w.beyond.answers.retires;
      clocks = k.clocks;
      times = each_of_entries _ r w.beyond.answers.times;
      ranges = k.ranges;
    }

-- The parts come to a number.
open_most : (n : ℕ) (p : Past) → open_below n p ≤ n
open_most zero p = omega arith
open_most (suc n) p =
    let more = open_most n p in
    let here = one_most (is_open n p) in
    omega (arith, more, here)

comes_to : (seats every eras : ℕ) → seats * (eras * every + 2) ≡ eras * (seats * every) + (seats + seats)
comes_to seats every eras =
    let parts : seats * (eras * every + 2) ≡ seats * (eras * every) + seats * 2 = mul-add seats (eras * every) 2 in
    let turned : seats * (eras * every) ≡ eras * (seats * every) = mul_left_comm seats eras every in
    let double : seats * 2 ≡ seats + seats = omega arith in
    omega (arith, parts, turned, double)

all_most : (layout : Layout) (items : List Item) (span : Interval) (queue : ℕ) → is_valid layout ≡ true → publishes_rows layout.config.scheme ≡ false → 1 ≤ span.hi → span.lo ≤ span.hi → span.hi < layout.config.last_era → WaitedMost queue (record_of layout items)
    → length (kept_by layout.config span (record_of layout items)) ≤ span_most layout.config queue span
all_most layout items span queue d s some order low waited =
    let c : Config = layout.config in
    let x : KeptFew c span (record_of layout items) = kept_few layout items span d some in
    let eras : ℕ = span.hi + 1 - span.lo in
    let every : 0 < c.every = let b = bounds_of layout d in let low = b.every.0 in omega (arith, low) in
    let clock = x.clock in
    let most = x.most in
    let t : pace.Told c x.at = pace.told_before c x.at x.later (subst (pace.Told c) x.cut (told layout items d)) in
    let retired : count (retires_from span.lo) x.at ≤ eras * (c.seats * c.every) = pace.from_few c span.lo eras x.at every (moves_by c.scheme s) t (omega (arith, clock, order)) (omega (arith, low, order)) in
    let buckets = changed_most c.buckets x.at in
    let open_ones = open_most c.seats x.at in
    let waits = waited x.at x.later x.cut in
    let sum = comes_to c.seats c.every eras in
    omega (arith, most, retired, buckets, open_ones, waits, sum)

-- The rows that were judged are apart.
judged_entry : (i k : ℕ) (p : Past) (event : Event) (same : Bool) → (i == k) ≡ same → apart_ok p k event ≡ true → are_apart (slots_of (judged_of i p)) ≡ true → are_apart (slots_of (judged_of i (Then p k event))) ≡ true
judged_entry i k p event true e a g =
    let here : k ≡ i = sym (number_is i k e) in
    let own : apart_ok p i event ≡ true = subst (λ (n : ℕ). apart_ok p n event ≡ true) here a in
    rw e (own_apart event (list_of i p) (judged_of i p) own g)
judged_entry i k p event false e a g = rw e (other_apart i event (judged_of i p) g)

judged_apart : (i : ℕ) (p : Past) → Each apart_ok p → are_apart (slots_of (judged_of i p)) ≡ true
judged_apart i Start a = refl
judged_apart i (Then p k event) a = judged_entry i k p event (i == k) refl a.0 (judged_apart i p a.1)

-- Each of them is kept by something that was read.
module _ (layout : Layout) (items : List Item) (d : is_valid layout ≡ true) (s : publishes_rows layout.config.scheme ≡ false) (queue : ℕ) (waited : WaitedMost queue (record_of layout items)) (low : clock_of (record_of layout items) < layout.config.last_era) where
  abbrev c : Config
  c = layout.config

  abbrev p : Past
  p = record_of layout items

  abbrev shown_keeps : Shown → ℕ → Bool
  shown_keeps Nothing slot = false
  shown_keeps (Eras span) slot = meets_below c.seats span slot p
  shown_keeps (Row other) slot = false

  abbrev read_keeps : List Seen → ℕ → Bool
  read_keeps [] slot = false
  read_keeps (seen ∷ read) slot = shown_keeps seen.1 slot || read_keeps read slot

  -- no row is born by an era before the first
  never : (span : Interval) → span.hi ≡ 0 → (slot : ℕ) → meets_below c.seats span slot p ≡ false
  never span zero_hi slot = by (meets_below c.seats span slot p) refl
    where
      by : (b : Bool) → meets_below c.seats span slot p ≡ b → b ≡ false
      by false e = refl
      by true e =
          let x : Found slot (meets_by span) p = found_of c.seats slot (meets_by span) p (sym (rows_are c.seats slot span p) ∙ e) in
          let l : Living c.slots (record { slot = slot; birth = x.life.birth; retire = x.life.retire }) p = living layout items d x.seat (record { slot = slot; birth = x.life.birth; retire = x.life.retire }) x.life.on in
          let born = l.born in
          let some = born_some c slot p (histories_keep layout items d).eras in
          let early : x.life.birth ≤ span.hi = le_of_test x.life.birth span.hi (first_of (nat_le x.life.birth span.hi) (x.life.retire == 0 || nat_le span.lo x.life.retire) x.life.passes) in
          absurd (omega (arith, born, some, early, zero_hi))

  span_counts : (span : Interval) → span.lo ≤ span.hi → span.hi ≤ clock_of p → counted (λ slot. meets_below c.seats span slot p) 0 (c.slots + 1) ≤ span_most c queue span
  span_counts span order most = by (nat_le 1 span.hi) refl
    where
      by : (some : Bool) → nat_le 1 span.hi ≡ some → counted (λ slot. meets_below c.seats span slot p) 0 (c.slots + 1) ≤ span_most c queue span
      by true e =
          let all = all_most layout items span queue d s (le_of_test 1 span.hi e) order (omega (arith, most, low)) waited in
          let size = filtered (λ slot. meets_below c.seats span slot p) 0 (c.slots + 1) in
          omega (arith, all, size)
      by false e =
          let none : counted (λ slot. meets_below c.seats span slot p) 0 (c.slots + 1) ≡ 0 = counted_never (λ slot. meets_below c.seats span slot p) 0 (c.slots + 1) (never span (grind (arith, nat_tests, e))) in
          omega (arith, none)

  shown_counts : (x : Shown) → shown_fits (clock_of p) x ≡ true → counted (λ slot. shown_keeps x slot) 0 (c.slots + 1) ≤ shown_most c queue x
  shown_counts Nothing f = let none = counted_never (λ slot. false) 0 (c.slots + 1) (λ slot. refl) in omega (arith, none)
  shown_counts (Eras span) f = span_counts span (le_of_test span.lo span.hi (first_of (nat_le span.lo span.hi) (nat_le span.hi (clock_of p)) f)) (le_of_test span.hi (clock_of p) (rest_of (nat_le span.lo span.hi) (nat_le span.hi (clock_of p)) f))
  shown_counts (Row slot) f = absurd (no_truth f)

  one_or : (a b : Bool) → one (a || b) ≤ one a + one b
  one_or true b = omega arith
  one_or false b = omega arith

  read_counts : (read : List Seen) → eras_fit (clock_of p) read ≡ true → counted (λ slot. read_keeps read slot) 0 (c.slots + 1) ≤ read_most c queue read
  read_counts [] f = let none = counted_never (λ slot. false) 0 (c.slots + 1) (λ slot. refl) in omega (arith, none)
  read_counts (seen ∷ read) f =
      let here = shown_counts seen.1 (first_of (shown_fits (clock_of p) seen.1) (eras_fit (clock_of p) read) f) in
      let more = read_counts read (rest_of (shown_fits (clock_of p) seen.1) (eras_fit (clock_of p) read) f) in
      let split = counted_three (λ slot. read_keeps (seen ∷ read) slot) (λ slot. shown_keeps seen.1 slot) (λ slot. read_keeps read slot) 0 (c.slots + 1) (λ slot. one_or (shown_keeps seen.1 slot) (read_keeps read slot)) in
      omega (arith, here, more, split)

  -- a life that something keeps which was read
  life_kept : (k : ℕ) (life : Lifetime) (x : Shown) → in_list (list_of k p) life.slot life.birth life.retire ≡ true → shown_fits (clock_of p) x ≡ true → keeps life x ≡ true → shown_keeps x life.slot ≡ true
  life_kept k life Nothing on f h = absurd (no_truth h)
  life_kept k life (Eras span) on f h = rows_are c.seats life.slot span p ∙ there c k life.slot life.birth life.retire (meets_by span) p (histories_keep layout items d).ranges on h
  life_kept k life (Row slot) on f h = absurd (no_truth f)

  any_kept : (k : ℕ) (life : Lifetime) (read : List Seen) → in_list (list_of k p) life.slot life.birth life.retire ≡ true → eras_fit (clock_of p) read ≡ true → keeps_any life read ≡ true → read_keeps read life.slot ≡ true
  any_kept k life [] on f h = absurd (no_truth h)
  any_kept k life (seen ∷ read) on f h = by (keeps life seen.1) refl h (any_kept k life read on (rest_of (shown_fits (clock_of p) seen.1) (eras_fit (clock_of p) read) f))
    where
      fit : shown_fits (clock_of p) seen.1 ≡ true
      fit = first_of (shown_fits (clock_of p) seen.1) (eras_fit (clock_of p) read) f

      first : (a b : Bool) → a ≡ true → (a || b) ≡ true
      first true b e = refl
      first false b e = absurd (no_truth e)

      second : (a b : Bool) → b ≡ true → (a || b) ≡ true
      second true b e = refl
      second false b e = e

      by : (here : Bool) → keeps life seen.1 ≡ here → (here || keeps_any life read) ≡ true → (keeps_any life read ≡ true → read_keeps read life.slot ≡ true) → (shown_keeps seen.1 life.slot || read_keeps read life.slot) ≡ true
      by true e h g = first (shown_keeps seen.1 life.slot) (read_keeps read life.slot) (life_kept k life seen.1 on fit e)
      by false e h g = second (shown_keeps seen.1 life.slot) (read_keeps read life.slot) (g h)

  scanned : (i : ℕ) → is_open i p ≡ false → length (judged_of i p) ≤ read_most c queue (read_of (guards c) i p)
  scanned i closed =
      let t = scans.told_of_history layout items d in
      let read : List Seen = read_of (guards c) i p in
      let kept : next_back read (judged_of i p) ≡ None = (closed_settled c i p t.calls (judged_at c i p t.blocks t.lists) closed).kept in
      let fit : eras_fit (clock_of p) read ≡ true = fits_at c i p s t.kinds t.reads (histories_keep layout items d).eras in
      let all : counted (λ slot. is_one_of slot (slots_of (judged_of i p))) 0 (c.slots + 1) ≡ length (slots_of (judged_of i p)) =
      counted_rows (slots_of (judged_of i p)) 0 (c.slots + 1) (judged_apart i p t.apart)
      (λ slot h. let low : slot ≤ c.slots = within slot h in (omega arith, omega (arith, low))) in
      let long : length (slots_of (judged_of i p)) ≡ length (judged_of i p) = length-map (judged_of i p) (λ (life : Lifetime). life.slot) in
      let few = counted_most (λ slot. is_one_of slot (slots_of (judged_of i p))) (λ slot. read_keeps read slot) 0 (c.slots + 1) (λ slot h. shown_of slot h read kept fit) in
      let most = read_counts read fit in
      omega (arith, all, long, few, most)
    where
      on_list : (slot : ℕ) → is_one_of slot (slots_of (judged_of i p)) ≡ true → Life slot any_life (judged_of i p)
      on_list slot h = life_of slot any_life (judged_of i p) (slot_life slot (judged_of i p) h)

      within : (slot : ℕ) → is_one_of slot (slots_of (judged_of i p)) ≡ true → slot ≤ c.slots
      within slot h =
          let x = on_list slot h in
          let l : Living c.slots (record { slot = slot; birth = x.birth; retire = x.retire }) p = living layout items d i (record { slot = slot; birth = x.birth; retire = x.retire }) (within_at i p slot x.birth x.retire x.on) in
          taken_within layout items d slot l.taken

      shown_of : (slot : ℕ) → is_one_of slot (slots_of (judged_of i p)) ≡ true → (read : List Seen) → next_back read (judged_of i p) ≡ None → eras_fit (clock_of p) read ≡ true → read_keeps read slot ≡ true
      shown_of slot h read kept fit =
          let x = on_list slot h in
          let life : Lifetime = record { slot = slot; birth = x.birth; retire = x.retire } in
          any_kept i life read (within_at i p slot x.birth x.retire x.on) fit (kept_in read (judged_of i p) life kept x.on)

pub records_keep_few : RecordsKeepFew
records_keep_few layout items d s =
    let c : Config = layout.config in
    let every : 0 < c.every = let b = bounds_of layout d in let low = b.every.0 in omega (arith, low) in
    record {
      pace = λ era low. pace.pace c era (record_of layout items) every low (moves_by c.scheme s) (told layout items d);
      parts = λ span some. kept_few layout items span d some;
      all = λ span queue some order low waited. all_most layout items span queue d s some order low waited;
      scan = λ i queue closed low waited. scanned layout items d s queue waited low i closed;
    }
