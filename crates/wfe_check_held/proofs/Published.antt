-- What guards publish, as the record has it.
use Rattle.std.proofs.Common.{ℕ, ◌<◌, ◌≡◌, Bool, true, false, Option, refl, ap, ◌∙◌}
use Rattle.std.specs.Prelude.{if◌then◌else◌}
use Rattle.laws.specs.words.Schemes.{has_one_interval, publishes_rows}
use Rattle.wfe_words.proofs.Schemes.{interval_not_rows}
use Rattle.laws.specs.words.declared.config.Config.{Config}
use Rattle.laws.specs.words.declared.config.SchemeKind.{SchemeKind}
use Rattle.laws.specs.defs.Shown.{shown, shown_row}
use Rattle.laws.specs.defs.declared.event.Event.TheVariants as events
use Rattle.laws.specs.defs.declared.event.Guard.{Guard}
use Rattle.laws.specs.defs.declared.event.Guard.TheVariants.{Index, Whole}
use Rattle.laws.specs.defs.declared.lifetime.Interval.{Interval}
use Rattle.laws.specs.records.Record.{Past}
use Rattle.laws.specs.records.Record.Past.{Then}
use Rattle.laws.specs.HoldLaw.{own_guard}
use Rattle.laws.specs.StateAt.{hazard_of, published_at, same_guard, value_of}
use Rattle.wfe_check_held.specs.declared.protections.Protections.{Protections}
use Rattle.wfe_check_held.specs.Protections.{IsProtections}
use Rattle.wfe_check_held.specs.Shown.{hazard_in, published_in, value_in}

pub index_is : (config : Config) (kept : Protections) (p : Past) → IsProtections config kept p → (k j : ℕ) → k < config.seats → j < config.indexes → published_in kept (Index k j) ≡ published_at config.scheme (Index k j) p
index_is config kept p r k j l m =
    ap (λ (c : Config). if publishes_rows c.scheme then shown_row (hazard_in kept (Index k j)) else shown (value_in kept (Index k j))) r.setting
    ∙ ap (λ (x : Option ℕ). if publishes_rows config.scheme then shown_row x else shown (value_in kept (Index k j))) (r.hazards k j l m)
    ∙ ap (λ (v : Option Interval). if publishes_rows config.scheme then shown_row (hazard_of (Index k j) p) else shown v) (r.values (Index k j) (l, m))

-- where one interval stands for a seat, no row is published
interval_is : (config : Config) (kept : Protections) (p : Past) → IsProtections config kept p → (k : ℕ) → k < config.seats → has_one_interval config.scheme ≡ true → published_in kept (Whole k) ≡ published_at config.scheme (Whole k) p
interval_is config kept p r k l e =
    let none : publishes_rows config.scheme ≡ false = interval_not_rows config.scheme e in
    ap (λ (c : Config). if publishes_rows c.scheme then shown_row (hazard_in kept (Whole k)) else shown (value_in kept (Whole k))) r.setting
    ∙ rw none (ap shown (r.values (Whole k) l))

pub own_is : (config : Config) (kept : Protections) (p : Past) → IsProtections config kept p → (k j : ℕ) → k < config.seats → j < config.indexes → published_in kept (own_guard config.scheme k j) ≡ published_at config.scheme (own_guard config.scheme k j) p
own_is config kept p r k j l m = by (has_one_interval config.scheme) refl
  where
    by : (one : Bool) → has_one_interval config.scheme ≡ one → published_in kept (own_guard config.scheme k j) ≡ published_at config.scheme (own_guard config.scheme k j) p
    by true e = rw e (interval_is config kept p r k l e)
    by false e = rw e (index_is config kept p r k j l m)

-- what a guard publishes after an event that says so
pub reserved_now : (scheme : SchemeKind) (p : Past) (i : ℕ) (guard other : Guard) (span : Option Interval) → publishes_rows scheme ≡ false
    → published_at scheme guard (Then p i (events.Reserve other span)) ≡ (if same_guard guard other then shown span else published_at scheme guard p)
reserved_now scheme p i guard other span e = rw e (by (same_guard guard other))
  where
    by : (same : Bool) → shown (if same then span else value_of guard p) ≡ (if same then shown span else shown (value_of guard p))
    by true = refl
    by false = refl

pub told_now : (scheme : SchemeKind) (p : Past) (i : ℕ) (guard other : Guard) (slot : Option ℕ) → publishes_rows scheme ≡ true
    → published_at scheme guard (Then p i (events.Hazard other slot)) ≡ (if same_guard guard other then shown_row slot else published_at scheme guard p)
told_now scheme p i guard other slot e = rw e (by (same_guard guard other))
  where
    by : (same : Bool) → shown_row (if same then slot else hazard_of guard p) ≡ (if same then shown_row slot else shown_row (hazard_of guard p))
    by true = refl
    by false = refl

-- and the other kind of event changes nothing of it
pub reserved_none : (scheme : SchemeKind) (p : Past) (i : ℕ) (guard other : Guard) (span : Option Interval) → publishes_rows scheme ≡ true → published_at scheme guard (Then p i (events.Reserve other span)) ≡ published_at scheme guard p
reserved_none scheme p i guard other span e = rw e refl

pub told_none : (scheme : SchemeKind) (p : Past) (i : ℕ) (guard other : Guard) (slot : Option ℕ) → publishes_rows scheme ≡ false → published_at scheme guard (Then p i (events.Hazard other slot)) ≡ published_at scheme guard p
told_none scheme p i guard other slot e = rw e refl
