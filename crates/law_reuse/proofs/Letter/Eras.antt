-- The clock, lifetimes and reservations, from what histories keep.
use Rattle.std.proofs.Common.{ℕ, ◌≡◌, Bool, true, false, refl, None, Some, Option, ◌<◌}
use Rattle.std.specs.Prelude.{◌==◌, ◌&&◌, ◌||◌, not, nat_le, nat_lt, if◌then◌else◌}
use Rattle.laws.proofs.records.Entries.{each_of_entries, entries_of_each}
use Rattle.laws.proofs.records.defs.Facts.{both, first_of, or_left_true, or_more, rest_of}
use Rattle.laws.specs.EraLaw as weak
use Rattle.laws.specs.EraLaw.{EraLaw, is_one_era, span_rises, moves_ok}
use Rattle.laws.specs.HistoryEras as strong
use Rattle.laws.specs.HistoryEras.{HistoryEras, span_ok, span_grows}
use Rattle.laws.specs.HistoryRows.{once_ok}
use Rattle.laws.specs.ScanLaw.{guards}
use Rattle.laws.specs.StateAt.{birth_of, clock_of, cut_at, cut_by, cuts, has_cut, taken_at, value_of, was_clock}
use Rattle.laws.specs.HistoryTable.{guards_ok, is_guard}
use Rattle.laws.specs.defs.declared.event.Event.{Event}
use Rattle.laws.specs.defs.declared.event.Event.TheVariants as events
use Rattle.laws.specs.defs.declared.event.Guard.{Guard}
use Rattle.laws.specs.defs.declared.event.Guard.TheVariants.{Helper, Index, Whole}
use Rattle.laws.specs.defs.declared.lifetime.Interval.{Interval}
use Rattle.laws.specs.records.Record.{Past, Each, EachEntry, own}
use Rattle.laws.specs.records.Record.Past.{Start, Then}
use Rattle.laws.specs.words.Schemes.{has_one_interval, is_wfe}
use Rattle.laws.specs.words.declared.config.Config.{Config}
use Rattle.laws.specs.words.declared.config.SchemeKind.{SchemeKind}
use Rattle.laws.specs.words.declared.config.SchemeKind.TheVariants.{He, Hp, Ibr, Wfe}
use Rattle.law_reuse.proofs.Letter.Each.{each_weaker, each_both, each_three}
use Rattle.law_reuse.proofs.Letter.Scans.{Courses, moves_kept}

era_part : (config : Config) (p : Past) (i : ℕ) (event : Event) → strong.era_ok config p i event ≡ true → weak.era_ok config.last_era p i event ≡ true
era_part config p i (events.Era era) h = h
era_part config p i event h = refl

birth_part : (p : Past) (i : ℕ) (event : Event) → strong.birth_current p i event ≡ true → weak.birth_ok p i event ≡ true
birth_part p i (events.Give slot birth) h = h
birth_part p i event h = refl

-- a row that is cut and not retired has been cut
cut_by_one : (s : ℕ) (event : Event) (was had : Bool) → (was ≡ true → had ≡ true) → cut_by s event was ≡ true → (cuts s event || had) ≡ true
cut_by_one s (events.Cut slot) was had f h = by (s == slot) h
  where
    by : (here : Bool) → (if here then true else was) ≡ true → (here || had) ≡ true
    by true e = refl
    by false e = f e
cut_by_one s (events.Retire slot birth retire) was had f h = by (s == slot) h
  where
    by : (here : Bool) → (if here then false else was) ≡ true → had ≡ true
    by true e = absurd (cc)
    by false e = f e
cut_by_one s event was had f h = f h

cut_entry : (i s k : ℕ) (p : Past) (event : Event) (same : Bool) → (i == k) ≡ same → (cut_at i s p ≡ true → has_cut i s p ≡ true) → cut_at i s (Then p k event) ≡ true → has_cut i s (Then p k event) ≡ true
cut_entry i s k p event true e f h = rw e (cut_by_one s event (cut_at i s p) (has_cut i s p) f (rw e at h))
cut_entry i s k p event false e f h = rw e (f (rw e at h))

cut_before : (i s : ℕ) (p : Past) → cut_at i s p ≡ true → has_cut i s p ≡ true
cut_before i s Start h = absurd (cc)
cut_before i s (Then p k event) h = cut_entry i s k p event (i == k) refl (cut_before i s p) h

retire_part : (slots : ℕ) (p : Past) (i : ℕ) (event : Event) → strong.birth_ok p i event ≡ true → once_ok slots p i event ≡ true → strong.retire_current p i event ≡ true → weak.retire_ok slots p i event ≡ true
retire_part slots p i (events.Retire slot birth retire) h g k =
    both (birth == birth_of slot p) (taken_at slots slot p && (has_cut i slot p && was_clock (own i (cuts slot)) retire p)) h
    (both (taken_at slots slot p) (has_cut i slot p && was_clock (own i (cuts slot)) retire p) (first_of (taken_at slots slot p) (cut_at i slot p) g)
    (both (has_cut i slot p) (was_clock (own i (cuts slot)) retire p) (cut_before i slot p (rest_of (taken_at slots slot p) (cut_at i slot p) g)) k))
retire_part slots p i event h g k = refl

current_part : (p : Past) (i : ℕ) (event : Event) → strong.reserve_current p i event ≡ true → weak.current_ok p i event ≡ true
current_part p i (events.Reserve guard span) h = h
current_part p i event h = refl

one_era : (scheme : SchemeKind) (clock : ℕ) (span : Option Interval) → span_ok scheme clock span ≡ true → is_one_era scheme span ≡ true
one_era scheme clock None h = refl
one_era He clock (Some span) h = rest_of (nat_le span.lo span.hi && nat_le span.hi clock) (span.lo == span.hi) h
one_era Ibr clock (Some span) h = refl
one_era Hp clock (Some span) h = rest_of (nat_le span.lo span.hi && nat_le span.hi clock) (span.lo == span.hi) h
one_era Wfe clock (Some span) h = rest_of (nat_le span.lo span.hi && nat_le span.hi clock) (span.lo == span.hi) h

single_part : (config : Config) (p : Past) (i : ℕ) (event : Event) → strong.era_ok config p i event ≡ true → weak.single_ok config.scheme p i event ≡ true
single_part config p i (events.Reserve guard span) h = one_era config.scheme (clock_of p) span h
single_part config p i event h = refl

rises_of : (old span : Option Interval) → span_grows old span ≡ true → span_rises old span ≡ true
rises_of None span h = refl
rises_of (Some old) None h = refl
rises_of (Some old) (Some span) h = h

or_one : (b : Bool) → (b || true) ≡ true
or_one true = refl
or_one false = refl

-- under 2GE interval words alone are guards
no_index : (scheme : SchemeKind) (there grows : Bool) → (not (has_one_interval scheme) && there) ≡ true → (not (has_one_interval scheme) || grows) ≡ true
no_index scheme there grows h = or_left_true (not (has_one_interval scheme)) grows (first_of (not (has_one_interval scheme)) there h)

no_helper : (scheme : SchemeKind) (there grows : Bool) → (is_wfe scheme && there) ≡ true → (not (has_one_interval scheme) || grows) ≡ true
no_helper He there grows h = refl
no_helper Hp there grows h = absurd (cc)
no_helper Ibr there grows h = absurd (cc)
no_helper Wfe there grows h = refl

guard_rises : (config : Config) (guard : Guard) (p : Past) (i : ℕ) (span : Option Interval) → is_guard config guard ≡ true → strong.span_rises p i (events.Reserve guard span) ≡ true → (not (has_one_interval config.scheme) || span_rises (value_of guard p) span) ≡ true
guard_rises config (Helper seat) p i span g h = no_helper config.scheme (nat_lt seat config.seats) (span_rises (value_of (Helper seat) p) span) g
guard_rises config (Index seat index) p i span g h = no_index config.scheme (nat_lt seat config.seats && nat_lt index config.indexes) (span_rises (value_of (Index seat index) p) span) g
guard_rises config (Whole seat) p i span g h = or_more (not (has_one_interval config.scheme)) (span_rises (value_of (Whole seat) p) span) (rises_of (value_of (Whole seat) p) span h)

rising_part : (config : Config) (p : Past) (i : ℕ) (event : Event) → guards_ok config p i event ≡ true → strong.span_rises p i event ≡ true → weak.rising_ok config.scheme p i event ≡ true
rising_part config p i (events.Reserve guard span) g h = guard_rises config guard p i span g h
rising_part config p i event g h = refl

pub eras : (config : Config) (r : Past) → 0 < guards config → Courses config r → EachEntry (once_ok config.slots) r → EachEntry (guards_ok config) r → HistoryEras config r → EraLaw config r
eras config r low c o g h =
    let n : Each (strong.era_ok config) r = each_of_entries (strong.era_ok config) r h.numbers in
    record {
      numbers = entries_of_each (weak.era_ok config.last_era) r (each_weaker (strong.era_ok config) (weak.era_ok config.last_era) (era_part config) r n);
      moves = entries_of_each (moves_ok config) r (moves_kept config r low c);
      advances = h.advances;
      births = entries_of_each weak.birth_ok r (each_weaker strong.birth_current weak.birth_ok birth_part r (each_of_entries strong.birth_current r h.births_current));
      retires = entries_of_each (weak.retire_ok config.slots) r (each_three strong.birth_ok (once_ok config.slots) strong.retire_current (weak.retire_ok config.slots) (retire_part config.slots) r (each_of_entries strong.birth_ok r h.births) (each_of_entries (once_ok config.slots) r o) (each_of_entries strong.retire_current r h.retires_current));
      current = entries_of_each weak.current_ok r (each_weaker strong.reserve_current weak.current_ok current_part r (each_of_entries strong.reserve_current r h.reserves_current));
      single = entries_of_each (weak.single_ok config.scheme) r (each_weaker (strong.era_ok config) (weak.single_ok config.scheme) (single_part config) r n);
      rising = entries_of_each (weak.rising_ok config.scheme) r (each_both (guards_ok config) strong.span_rises (weak.rising_ok config.scheme) (rising_part config) r (each_of_entries (guards_ok config) r g) (each_of_entries strong.span_rises r h.spans_rise));
      guards = h.guards;
      kinds = h.kinds;
    }
