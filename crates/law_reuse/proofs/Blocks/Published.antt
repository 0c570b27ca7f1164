-- By the record a guard publishes what its word shows: an interval, or where rows are published a row.
use Rattle.std.proofs.Common.{ℕ, ◌≡◌, Bool, true, false, refl, sym, ap}
use Rattle.std.specs.Prelude.{if◌then◌else◌}
use Rattle.laws.specs.words.Schemes.{publishes_rows}
use Rattle.laws.specs.words.declared.layout.Layout.{Layout}
use Rattle.laws.specs.defs.Shown as values
use Rattle.laws.specs.defs.declared.call.Call.{Call}
use Rattle.laws.specs.defs.declared.event.Event.TheVariants as events
use Rattle.laws.specs.defs.declared.event.Guard.{Guard}
use Rattle.laws.specs.records.Record.{Past, tells_of}
use Rattle.laws.specs.records.Record.Past.{Start, Then}
use Rattle.laws.specs.StateAt.{hazard_of, published_at, value_of}
use Rattle.inv_all.specs.covers.Covers.{eras_shown, shown}
use Rattle.inv_all.specs.model.Guards.{guard_place, linked_row, published}
use Rattle.inv_all.specs.model.World.{World, begin, start, step, told_in}
use Rattle.inv_all.specs.shapes.Seats.{PhaseFits}
use Rattle.law_reuse.proofs.Blocks.Hazards.{start_linked, step_linked}
use Rattle.law_reuse.proofs.Blocks.Reserves.{PhaseWords, start_shown, step_shown}

pub record Values (w : World) (p : Past) : Type 0 where
  pub eras : publishes_rows w.layout.config.scheme ≡ false → (guard : Guard) → value_of guard p ≡ eras_shown w guard
  pub rows : publishes_rows w.layout.config.scheme ≡ true → (guard : Guard) → hazard_of guard p ≡ linked_row (w.mem (guard_place guard))

pub values_start : (layout : Layout) → Values (start layout) Start
values_start layout = record { eras = λ e guard. sym (start_shown layout guard); rows = λ e guard. sym (start_linked layout guard) }

pub values_begin : (w : World) (i : ℕ) (call : Call) (p : Past) → Values w p → Values (begin w i call) (Then p i (events.Begin call))
values_begin w i call p h = record { eras = h.eras; rows = h.rows }

pub values_step : (w : World) (i : ℕ) (p : Past) → (publishes_rows w.layout.config.scheme ≡ false → PhaseWords (w.seat i).phase (w.seat i).post) → (w.seat i).post.layout ≡ w.layout → PhaseFits w.layout (w.seat i).post (w.seat i).phase → Values w p
    → Values (step w i) (tells_of p i (told_in w i))
values_step w i p words l f h = record {
  eras = λ e guard. sym (step_shown w i p guard (words e) (sym (h.eras e guard)));
  rows = λ e guard. sym (step_linked w i p guard e l f (sym (h.rows e guard)));
}

-- as what reclamation needs of it
pub published_is : (w : World) (p : Past) (guard : Guard) → Values w p → published_at w.layout.config.scheme guard p ≡ shown w guard
published_is w p guard h = by (publishes_rows w.layout.config.scheme) h.eras h.rows
  where
    by : (rows : Bool) → (rows ≡ false → (other : Guard) → value_of other p ≡ eras_shown w other) → (rows ≡ true → (other : Guard) → hazard_of other p ≡ linked_row (w.mem (guard_place other)))
        → (if rows then values.shown_row (hazard_of guard p) else values.shown (value_of guard p)) ≡ published rows guard (w.mem (guard_place guard))
    by true e r = ap values.shown_row (r refl guard)
    by false e r = ap values.shown (e refl guard)
