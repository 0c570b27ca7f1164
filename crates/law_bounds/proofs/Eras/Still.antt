-- What a guard publishes that stands still, and the births of rows.
use Rattle.std.proofs.Common.{ℕ, ◌≡◌, ◌≤◌, Bool, true, false, List, [], ◌∷◌, Option, Some, None, refl, sym, ◌∙◌, subst, arith}
use Rattle.std.specs.Prelude.{◌==◌, ◌&&◌, ◌||◌, nat_le, if◌then◌else◌}
use Rattle.law_all.proofs.inv.model.Facts.{false_of_not, first_of, le_of_test, rest_of}
use Rattle.law_all.specs.inv.history.Record.{Each, Past, begins, tells, value_since}
use Rattle.law_all.specs.inv.history.Record.Past.{Start, Then}
use Rattle.law_all.specs.inv.model.defs.Entry.{Entry}
use Rattle.law_all.specs.inv.model.defs.declared.event.Event.{Event}
use Rattle.law_all.specs.inv.model.defs.declared.event.Event.TheVariants as events
use Rattle.law_all.specs.inv.model.defs.declared.event.Guard.{Guard}
use Rattle.law_all.specs.inv.model.defs.declared.lifetime.Interval.{Interval}
use Rattle.law_all.specs.inv.model.words.Schemes.{is_ibr}
use Rattle.law_all.specs.inv.model.words.declared.config.Config.{Config}
use Rattle.law_all.specs.inv.model.words.declared.config.SchemeKind.{SchemeKind}
use Rattle.law_all.specs.laws.EraLaw.{birth_ok}
use Rattle.law_all.specs.laws.HistoryEras.{era_ok, span_ok}
use Rattle.law_all.specs.laws.StateAt.{birth_of, born_by, clock_of, reserved_by, same_guard, ticked_by, value_of}
use Rattle.law_reasons.proofs.Eras.Current.Positions.{clock_between, ticked_rises}
use Rattle.law_bounds.specs.Eras.{is_untold, sought_by, sought_of, stands_still}

-- it publishes the same
one_still : (guard : Guard) (event : Event) (x : Option Interval) → is_untold guard event ≡ true → reserved_by guard event x ≡ x
one_still guard (events.Reserve other span) x h = let e : same_guard guard other ≡ false = false_of_not (same_guard guard other) h in rw e refl
one_still guard event x h = refl

pub value_still : (guard : Guard) (later : List Entry) (p : Past) → stands_still guard later ≡ true → value_of guard (tells p later) ≡ value_of guard p
value_still guard [] p h = refl
value_still guard (x ∷ xs) p h =
    value_still guard xs (Then p x.seat x.event) (rest_of (is_untold guard x.event) (stands_still guard xs) h)
    ∙ one_still guard x.event (value_of guard p) (first_of (is_untold guard x.event) (stands_still guard xs) h)

-- an interval of eras up to the clock
pub record Spanned (clock : ℕ) (span : Interval) : Type 0 where
  pub order : span.lo ≤ span.hi
  pub most : span.hi ≤ clock

span_right : (scheme : SchemeKind) (clock : ℕ) (x : Option Interval) (span : Interval) → span_ok scheme clock x ≡ true → x ≡ Some span → Spanned clock span
span_right scheme clock None span h e = absurd (cc)
span_right scheme clock (Some other) span h e =
    let same : other ≡ span = cc in
    let ends : (nat_le other.lo other.hi && nat_le other.hi clock) ≡ true = first_of (nat_le other.lo other.hi && nat_le other.hi clock) (is_ibr scheme || other.lo == other.hi) h in
    subst (λ (x : Interval). Spanned clock x) same (record {
      order = le_of_test other.lo other.hi (first_of (nat_le other.lo other.hi) (nat_le other.hi clock) ends);
      most = le_of_test other.hi clock (rest_of (nat_le other.lo other.hi) (nat_le other.hi clock) ends);
    })

span_later : (clock next : ℕ) (span : Interval) → clock ≤ next → Spanned clock span → Spanned next span
span_later clock next span l s = let most = s.most in record { order = s.order; most = omega (arith, most, l) }

one_span : (config : Config) (guard : Guard) (p : Past) (i : ℕ) (event : Event) (span : Interval) → era_ok config p i event ≡ true → reserved_by guard event (value_of guard p) ≡ Some span → (value_of guard p ≡ Some span → Spanned (clock_of p) span) → Spanned (clock_of p) span
one_span config guard p i (events.Reserve other told) span h e f = by (same_guard guard other) e
  where
    by : (same : Bool) → (if same then told else value_of guard p) ≡ Some span → Spanned (clock_of p) span
    by true e = span_right config.scheme (clock_of p) told span h e
    by false e = f e
one_span config guard p i event span h e f = f e

pub spanned_at : (config : Config) (guard : Guard) (p : Past) (span : Interval) → Each (era_ok config) p → value_of guard p ≡ Some span → Spanned (clock_of p) span
spanned_at config guard Start span h e = absurd (cc)
spanned_at config guard (Then p i event) span h e =
    span_later (clock_of p) (ticked_by event (clock_of p)) span (ticked_rises event (clock_of p))
    (one_span config guard p i event span h.0 e (spanned_at config guard p span h.1))

-- a birth era is no later than the clock
one_born : (config : Config) (s : ℕ) (p : Past) (i : ℕ) (event : Event) → era_ok config p i event ≡ true → birth_of s p ≤ clock_of p → born_by s event (birth_of s p) ≤ clock_of p
one_born config s p i (events.Give slot birth) h b = by (s == slot)
  where
    by : (same : Bool) → (if same then birth else birth_of s p) ≤ clock_of p
    by true = le_of_test birth (clock_of p) (rest_of (nat_le 1 birth) (nat_le birth (clock_of p)) h)
    by false = b
one_born config s p i event h b = b

pub born_at : (config : Config) (s : ℕ) (p : Past) → Each (era_ok config) p → birth_of s p ≤ clock_of p
born_at config s Start h = omega arith
born_at config s (Then p i event) h =
    let before = one_born config s p i event h.0 (born_at config s p h.1) in
    let rises = ticked_rises event (clock_of p) in
    omega (arith, before, rises)

-- and no earlier than the clock where the call began
one_sought : (s : ℕ) (p : Past) (i : ℕ) (event : Event) → birth_ok p i event ≡ true → sought_of s p ≤ birth_of s p → sought_by (value_since (begins i) clock_of p) s event (sought_of s p) ≤ born_by s event (birth_of s p)
one_sought s p i (events.Give slot birth) h b = by (s == slot)
  where
    from : (nat_le (value_since (begins i) clock_of p) birth && nat_le birth (clock_of p)) ≡ true
    from = sym (clock_between (begins i) birth p) ∙ h

    by : (same : Bool) → (if same then value_since (begins i) clock_of p else sought_of s p) ≤ (if same then birth else birth_of s p)
    by true = le_of_test (value_since (begins i) clock_of p) birth (first_of (nat_le (value_since (begins i) clock_of p) birth) (nat_le birth (clock_of p)) from)
    by false = b
one_sought s p i event h b = b

pub sought_at : (s : ℕ) (p : Past) → Each birth_ok p → sought_of s p ≤ birth_of s p
sought_at s Start h = omega arith
sought_at s (Then p i event) h = one_sought s p i event h.0 (sought_at s p h.1)
