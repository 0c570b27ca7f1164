-- What the last block of a seat has kept of its list: each life meets an interval that was read, and was there in one of its eras.
use Rattle.std.proofs.Common.{ℕ, ◌≡◌, ◌≤◌, Bool, true, false, List, [], ◌∷◌, ◌++◌, length, Option, Some, None, refl, sym, ap, ◌∙◌, arith}
use Rattle.std.proofs.lemmas.Bool.Decides.{nat_tests}
use Rattle.std.specs.Prelude.{◌==◌, ◌&&◌, ◌||◌, nat_le, if◌then◌else◌}
use Rattle.law_all.proofs.Runs.Kept.{histories_keep}
use Rattle.law_all.proofs.inv.model.Facts.{both, first_of, le_of_test, le_test, no_truth, number_is, or_more, rest_of}
use Rattle.law_all.specs.inv.history.History.{record_of}
use Rattle.law_all.specs.inv.history.Record.{Each, Past}
use Rattle.law_all.specs.inv.history.Record.Past.{Start, Then}
use Rattle.law_all.specs.inv.model.defs.Meets.{meets}
use Rattle.law_all.specs.inv.model.defs.Shown.{Seen, keeps, keeps_any, shown}
use Rattle.law_all.specs.inv.model.defs.declared.event.Event.{Event}
use Rattle.law_all.specs.inv.model.defs.declared.event.Event.TheVariants as events
use Rattle.law_all.specs.inv.model.defs.declared.event.Guard.{Guard}
use Rattle.law_all.specs.inv.model.defs.declared.lifetime.Interval.{Interval}
use Rattle.law_all.specs.inv.model.defs.declared.lifetime.Lifetime.{Lifetime}
use Rattle.law_all.specs.inv.model.defs.declared.shown.Shown.{Shown}
use Rattle.law_all.specs.inv.model.defs.declared.shown.Shown.TheVariants.{Eras, Nothing, Row}
use Rattle.law_all.specs.inv.model.words.Schemes.{publishes_rows}
use Rattle.law_all.specs.inv.model.words.declared.config.Config.{Config}
use Rattle.law_all.specs.inv.rows.Hands.{in_list}
use Rattle.law_all.specs.laws.EraLaw.{kind_ok}
use Rattle.law_all.specs.laws.HistoryEras.{era_ok}
use Rattle.law_all.specs.laws.Lists.{gained_by, handed_by, list_of, without}
use Rattle.law_all.specs.laws.ScanLaw.{guards, next_back, read_ok}
use Rattle.law_all.specs.laws.StateAt.{clock_of, is_index, read_by, read_of, same_span, ticked_by, value_of}
use Rattle.law_reasons.proofs.Eras.Current.Positions.{ticked_rises}
use Rattle.law_bounds.specs.Eras.{JudgedBy, RecordsJudge}
use Rattle.law_bounds.specs.Scans.{judged_by, judged_of}
use Rattle.law_bounds.proofs.Eras.Keeps.{Living, Told, living, span_there, told}
use Rattle.law_bounds.proofs.Eras.Still.{Spanned, spanned_at}
use Rattle.law_bounds.proofs.Scans.Judged.{closed_settled, judged_at}
use Rattle.law_bounds.proofs.Scans.Keeps as scans

-- Intervals of eras up to the clock, and no rows.
abbrev pub shown_fits : (clock : ℕ) → Shown → Bool
shown_fits clock Nothing = true
shown_fits clock (Eras span) = nat_le span.lo span.hi && nat_le span.hi clock
shown_fits clock (Row slot) = false

abbrev pub eras_fit : (clock : ℕ) → List Seen → Bool
eras_fit clock [] = true
eras_fit clock (seen ∷ read) = shown_fits clock seen.1 && eras_fit clock read

fit_more : (clock : ℕ) (read : List Seen) (seen : Seen) → eras_fit clock read ≡ true → shown_fits clock seen.1 ≡ true → eras_fit clock (read ++ seen ∷ []) ≡ true
fit_more clock [] seen h b = both (shown_fits clock seen.1) true b refl
fit_more clock (first ∷ read) seen h b =
    both (shown_fits clock first.1) (eras_fit clock (read ++ seen ∷ [])) (first_of (shown_fits clock first.1) (eras_fit clock read) h)
    (fit_more clock read seen (rest_of (shown_fits clock first.1) (eras_fit clock read) h) b)

one_later : (clock next : ℕ) (x : Shown) → clock ≤ next → shown_fits clock x ≡ true → shown_fits next x ≡ true
one_later clock next Nothing l h = refl
one_later clock next (Eras span) l h =
    let most : span.hi ≤ clock = le_of_test span.hi clock (rest_of (nat_le span.lo span.hi) (nat_le span.hi clock) h) in
    both (nat_le span.lo span.hi) (nat_le span.hi next) (first_of (nat_le span.lo span.hi) (nat_le span.hi clock) h) (le_test span.hi next (omega (arith, most, l)))
one_later clock next (Row slot) l h = h

fit_later : (clock next : ℕ) (read : List Seen) → clock ≤ next → eras_fit clock read ≡ true → eras_fit next read ≡ true
fit_later clock next [] l h = refl
fit_later clock next (seen ∷ read) l h =
    both (shown_fits next seen.1) (eras_fit next read) (one_later clock next seen.1 l (first_of (shown_fits clock seen.1) (eras_fit clock read) h))
    (fit_later clock next read l (rest_of (shown_fits clock seen.1) (eras_fit clock read) h))

-- what a guard publishes fits, and so does what is read of it
value_fits : (config : Config) (guard : Guard) (p : Past) (x : Option Interval) → Each (era_ok config) p → value_of guard p ≡ x → shown_fits (clock_of p) (shown x) ≡ true
value_fits config guard p None h e = refl
value_fits config guard p (Some span) h e =
    let s = spanned_at config guard p span h e in
    both (nat_le span.lo span.hi) (nat_le span.hi (clock_of p)) (le_test span.lo span.hi s.order) (le_test span.hi (clock_of p) s.most)

span_fits : (clock : ℕ) (a b : Option Interval) → same_span a b ≡ true → shown_fits clock (shown b) ≡ true → shown_fits clock (shown a) ≡ true
span_fits clock None b h f = refl
span_fits clock (Some x) None h f = absurd (no_truth h)
span_fits clock (Some x) (Some y) h f =
    let lo : x.lo ≡ y.lo = number_is x.lo y.lo (first_of (x.lo == y.lo) (x.hi == y.hi) h) in
    let hi : x.hi ≡ y.hi = number_is x.hi y.hi (rest_of (x.lo == y.lo) (x.hi == y.hi) h) in
    rw (lo, hi) f

with_fits : (clock : ℕ) (seen : Seen) (read : List Seen) (whole : Bool) → shown_fits clock seen.1 ≡ true → eras_fit clock read ≡ true → eras_fit clock ((if whole then [] else read) ++ seen ∷ []) ≡ true
with_fits clock seen read true s r = fit_more clock [] seen refl s
with_fits clock seen read false s r = fit_more clock read seen r s

not_rows : (rows other : Bool) → rows ≡ false → (rows && other) ≡ true → false ≡ true
not_rows true other e h = sym e
not_rows false other e h = h

own_fits : (config : Config) (p : Past) (i : ℕ) (event : Event) (read : List Seen) → publishes_rows config.scheme ≡ false → kind_ok config.scheme p i event ≡ true → read_ok p i event ≡ true → Each (era_ok config) p → eras_fit (clock_of p) read ≡ true → eras_fit (clock_of p) (read_by (guards config) event read) ≡ true
own_fits config p i (events.Read guard span) read s k r h f =
    with_fits (clock_of p) (guard, shown span) read (length read == guards config) (span_fits (clock_of p) span (value_of guard p) r (value_fits config guard p (value_of guard p) h refl)) f
own_fits config p i (events.Saw guard slot) read s k r h f = absurd (no_truth (not_rows (publishes_rows config.scheme) (is_index guard) s k))
own_fits config p i event read s k r h f = f

entry_fits : (config : Config) (i k : ℕ) (p : Past) (event : Event) (same : Bool) → (i == k) ≡ same → publishes_rows config.scheme ≡ false → kind_ok config.scheme p k event ≡ true → read_ok p k event ≡ true → Each (era_ok config) p → eras_fit (clock_of p) (read_of (guards config) i p) ≡ true
    → eras_fit (clock_of p) (if same then read_by (guards config) event (read_of (guards config) i p) else read_of (guards config) i p) ≡ true
entry_fits config i k p event true e s t r h f = own_fits config p k event (read_of (guards config) i p) s t r h f
entry_fits config i k p event false e s t r h f = f

pub fits_at : (config : Config) (i : ℕ) (p : Past) → publishes_rows config.scheme ≡ false → Each (kind_ok config.scheme) p → Each read_ok p → Each (era_ok config) p → eras_fit (clock_of p) (read_of (guards config) i p) ≡ true
fits_at config i Start s t r h = refl
fits_at config i (Then p k event) s t r h =
    fit_later (clock_of p) (ticked_by event (clock_of p)) (if i == k then read_by (guards config) event (read_of (guards config) i p) else read_of (guards config) i p) (ticked_rises event (clock_of p))
    (entry_fits config i k p event (i == k) refl s t.0 r.0 h.1 (fits_at config i p s t.1 r.1 h.1))

-- A life that was judged is on the list.
abbrev pub Within : List Lifetime → List Lifetime → Type 0
Within judged list = (s b r : ℕ) → in_list judged s b r ≡ true → in_list list s b r ≡ true

in_either : (xs ys : List Lifetime) (s b r : ℕ) → in_list xs s b r ≡ true → in_list (xs ++ ys) s b r ≡ true
in_either [] ys s b r h = absurd (no_truth h)
in_either (life ∷ xs) ys s b r h = by ((s == life.slot) && ((b == life.birth) && (r == life.retire))) (in_either xs ys s b r) h
  where
    by : (here : Bool) → (in_list xs s b r ≡ true → in_list (xs ++ ys) s b r ≡ true) → (here || in_list xs s b r) ≡ true → (here || in_list (xs ++ ys) s b r) ≡ true
    by true f h = refl
    by false f h = f h

-- without the lives of a slot
in_without : (slot : ℕ) (xs : List Lifetime) (s b r : ℕ) → in_list (without slot xs) s b r ≡ true → (in_list xs s b r ≡ true) × ((s == slot) ≡ false)
in_without slot [] s b r h = absurd (no_truth h)
in_without slot (life ∷ xs) s b r h = by (life.slot == slot) refl (in_without slot xs s b r) h
  where
    by : (same : Bool) → (life.slot == slot) ≡ same → (in_list (without slot xs) s b r ≡ true → (in_list xs s b r ≡ true) × ((s == slot) ≡ false)) → in_list (if same then without slot xs else life ∷ without slot xs) s b r ≡ true
        → ((((s == life.slot) && ((b == life.birth) && (r == life.retire))) || in_list xs s b r) ≡ true) × ((s == slot) ≡ false)
    by true e f h = let x = f h in (or_more ((s == life.slot) && ((b == life.birth) && (r == life.retire))) (in_list xs s b r) x.0, x.1)
    by false e f h = split ((s == life.slot) && ((b == life.birth) && (r == life.retire))) refl h
      where
        split : (mine : Bool) → ((s == life.slot) && ((b == life.birth) && (r == life.retire))) ≡ mine → (mine || in_list (without slot xs) s b r) ≡ true → ((mine || in_list xs s b r) ≡ true) × ((s == slot) ≡ false)
        split true m h = let own : s ≡ life.slot = number_is s life.slot (first_of (s == life.slot) ((b == life.birth) && (r == life.retire)) m) in (refl, ap (λ (x : ℕ). x == slot) own ∙ e)
        split false m h = f h

still_in : (slot : ℕ) (xs : List Lifetime) (s b r : ℕ) → (s == slot) ≡ false → in_list xs s b r ≡ true → in_list (without slot xs) s b r ≡ true
still_in slot [] s b r n h = h
still_in slot (life ∷ xs) s b r n h = by (life.slot == slot) refl (still_in slot xs s b r n) h
  where
    gone : (a more : Bool) → (s == life.slot) ≡ false → (((s == life.slot) && a) || more) ≡ true → more ≡ true
    gone a more e h = rw e at h

    by : (same : Bool) → (life.slot == slot) ≡ same → (in_list xs s b r ≡ true → in_list (without slot xs) s b r ≡ true) → (((s == life.slot) && ((b == life.birth) && (r == life.retire))) || in_list xs s b r) ≡ true
        → in_list (if same then without slot xs else life ∷ without slot xs) s b r ≡ true
    by true e f h =
        let other : (s == life.slot) ≡ false = grind (arith, nat_tests, e, n) in
        f (gone ((b == life.birth) && (r == life.retire)) (in_list xs s b r) other h)
    by false e f h = keep ((s == life.slot) && ((b == life.birth) && (r == life.retire))) f h
      where
        keep : (mine : Bool) → (in_list xs s b r ≡ true → in_list (without slot xs) s b r ≡ true) → (mine || in_list xs s b r) ≡ true → (mine || in_list (without slot xs) s b r) ≡ true
        keep true f h = refl
        keep false f h = f h

own_within : (event : Event) (other : ℕ → List Lifetime) (list judged : List Lifetime) → Within judged list → Within (judged_by event list judged) (gained_by event other list)
own_within (events.Read guard span) other list judged w = λ s b r h. h
own_within (events.Saw guard slot) other list judged w = λ s b r h. h
own_within (events.Back slot) other list judged w = λ s b r h. let x = in_without slot judged s b r h in still_in slot list s b r x.1 (w s b r x.0)
own_within (events.Retire slot birth retire) other list judged w = λ s b r h. in_either list (record { slot = slot; birth = birth; retire = retire } ∷ []) s b r (w s b r h)
own_within (events.Adopted place count) other list judged w = λ s b r h. in_either list (other place) s b r (w s b r h)
own_within event other list judged w = w

other_within : (i : ℕ) (event : Event) (list judged : List Lifetime) → Within judged list → Within (handed_by i event judged) (handed_by i event list)
other_within i (events.Adopted place count) list judged w = by (i == place)
  where
    by : (same : Bool) → Within (if same then [] else judged) (if same then [] else list)
    by true = λ s b r h. h
    by false = w
other_within i event list judged w = w

pub within_at : (i : ℕ) (p : Past) → Within (judged_of i p) (list_of i p)
within_at i Start = λ s b r h. h
within_at i (Then p k event) = by (i == k) (within_at i p)
  where
    by : (same : Bool) → Within (judged_of i p) (list_of i p)
        → Within (if same then judged_by event (list_of i p) (judged_of i p) else handed_by i event (judged_of i p)) (if same then gained_by event (λ (place : ℕ). list_of place p) (list_of i p) else handed_by i event (list_of i p))
    by true w = own_within event (λ (place : ℕ). list_of place p) (list_of i p) (judged_of i p) w
    by false w = other_within i event (list_of i p) (judged_of i p) w

-- What keeps a life is among what was read.
same_life : (a b : Lifetime) → a.slot ≡ b.slot → a.birth ≡ b.birth → a.retire ≡ b.retire → a ≡ b
same_life a b e f g =
    ap (λ (x : ℕ). record { slot = x; birth = a.birth; retire = a.retire }) e ∙ ap (λ (x : ℕ). record { slot = b.slot; birth = x; retire = a.retire }) f ∙ ap (λ (x : ℕ). record { slot = b.slot; birth = b.birth; retire = x }) g

pub kept_in : (read : List Seen) (lives : List Lifetime) (life : Lifetime) → next_back read lives ≡ None → in_list lives life.slot life.birth life.retire ≡ true → keeps_any life read ≡ true
kept_in read [] life n h = absurd (no_truth h)
kept_in read (first ∷ lives) life n h = by (keeps_any first read) refl n (kept_in read lives life) h
  where
    by : (kept : Bool) → keeps_any first read ≡ kept → (if kept then next_back read lives else Some first) ≡ None → (next_back read lives ≡ None → in_list lives life.slot life.birth life.retire ≡ true → keeps_any life read ≡ true)
        → (((life.slot == first.slot) && ((life.birth == first.birth) && (life.retire == first.retire))) || in_list lives life.slot life.birth life.retire) ≡ true → keeps_any life read ≡ true
    by false e n f h = absurd (cc)
    by true e n f h = split ((life.slot == first.slot) && ((life.birth == first.birth) && (life.retire == first.retire))) refl h
      where
        split : (mine : Bool) → ((life.slot == first.slot) && ((life.birth == first.birth) && (life.retire == first.retire))) ≡ mine → (mine || in_list lives life.slot life.birth life.retire) ≡ true → keeps_any life read ≡ true
        split true m h =
            let rest = rest_of (life.slot == first.slot) ((life.birth == first.birth) && (life.retire == first.retire)) m in
            let same : life ≡ first = same_life life first (number_is life.slot first.slot (first_of (life.slot == first.slot) ((life.birth == first.birth) && (life.retire == first.retire)) m))
            (number_is life.birth first.birth (first_of (life.birth == first.birth) (life.retire == first.retire) rest)) (number_is life.retire first.retire (rest_of (life.birth == first.birth) (life.retire == first.retire) rest)) in
            ap (λ (x : Lifetime). keeps_any x read) same ∙ e
        split false m h = f n h

record Kept (clock : ℕ) (life : Lifetime) (read : List Seen) : Type 0 where
  guard : Guard
  span : Interval
  first : List Seen
  last : List Seen
  cut : read ≡ first ++ (guard, Eras span) ∷ last
  meets_it : meets life span ≡ true
  spanned : Spanned clock span

one_kept : (clock : ℕ) (life : Lifetime) (guard : Guard) (x : Shown) (read : List Seen) → shown_fits clock x ≡ true → keeps life x ≡ true → Kept clock life ((guard, x) ∷ read)
one_kept clock life guard Nothing read f h = absurd (no_truth h)
one_kept clock life guard (Row slot) read f h = absurd (no_truth f)
one_kept clock life guard (Eras span) read f h = record {
  guard = guard;
  span = span;
  first = [];
  last = read;
  cut = refl;
  meets_it = h;
  spanned = record { order = le_of_test span.lo span.hi (first_of (nat_le span.lo span.hi) (nat_le span.hi clock) f); most = le_of_test span.hi clock (rest_of (nat_le span.lo span.hi) (nat_le span.hi clock) f) };
}

more_kept : (clock : ℕ) (life : Lifetime) (seen : Seen) (read : List Seen) → Kept clock life read → Kept clock life (seen ∷ read)
more_kept clock life seen read k = record { guard = k.guard; span = k.span; first = seen ∷ k.first; last = k.last; cut = ap (λ (xs : List Seen). seen ∷ xs) k.cut; meets_it = k.meets_it; spanned = k.spanned }

kept_by : (clock : ℕ) (life : Lifetime) (read : List Seen) → eras_fit clock read ≡ true → keeps_any life read ≡ true → Kept clock life read
kept_by clock life [] f h = absurd (no_truth h)
kept_by clock life (seen ∷ read) f h = by (keeps life seen.1) refl h (kept_by clock life read (rest_of (shown_fits clock seen.1) (eras_fit clock read) f))
  where
    by : (here : Bool) → keeps life seen.1 ≡ here → (here || keeps_any life read) ≡ true → (keeps_any life read ≡ true → Kept clock life read) → Kept clock life (seen ∷ read)
    by true e h g = one_kept clock life seen.0 seen.1 read (first_of (shown_fits clock seen.1) (eras_fit clock read) f) e
    by false e h g = more_kept clock life seen read (g h)

judged_so : (config : Config) (i : ℕ) (life : Lifetime) (p : Past) → Told config p → Living config.slots life p → Kept (clock_of p) life (read_of (guards config) i p) → JudgedBy config i life p
judged_so config i life p t l k = record {
  guard = k.guard;
  span = k.span;
  first = k.first;
  last = k.last;
  read = k.cut;
  meets = k.meets_it;
  there = span_there config p k.span life t l k.spanned (le_of_test life.birth k.span.hi (first_of (nat_le life.birth k.span.hi) _ k.meets_it));
}

pub records_judge : RecordsJudge
records_judge layout items d s i life closed on =
    let c : Config = layout.config in
    let p : Past = record_of layout items in
    let t = scans.told_of_history layout items d in
    let kept = (closed_settled c i p t.calls (judged_at c i p t.blocks t.lists) closed).kept in
    let fit = fits_at c i p s t.kinds t.reads (histories_keep layout items d).eras in
    judged_so c i life p (told layout items d) (living layout items d i life (within_at i p life.slot life.birth life.retire on))
    (kept_by (clock_of p) life (read_of (guards c) i p) fit (kept_in (read_of (guards c) i p) (judged_of i p) life kept on))
