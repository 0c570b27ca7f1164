-- The tests of an entry, as the laws have them.
use Rattle.std.proofs.Common.{ℕ, ◌≡◌, refl, ap, ◌∙◌}
use Rattle.std.specs.Prelude.{◌&&◌, not, is_none}
use Rattle.laws.specs.words.declared.config.Config.{Config}
use Rattle.laws.specs.defs.declared.event.Event.{Event}
use Rattle.laws.specs.defs.declared.event.Event.TheVariants as events
use Rattle.laws.specs.defs.declared.event.Root.TheVariants as links
use Rattle.laws.specs.records.Record.{Past}
use Rattle.laws.specs.EraLaw.{era_ok}
use Rattle.laws.specs.Once.{free_ok, nexts_ok, order_ok, is_slot}
use Rattle.laws.specs.StateAt.{next_at}
use Rattle.laws.specs.Ranges.{EntryIn}
use Rattle.wfe_check_rows.specs.declared.rows.Rows.{Rows}
use Rattle.wfe_check_rows.specs.Rows.{IsRows}
use Rattle.wfe_check_rows.specs.Shown.{frees, goes_on, right, ticks}

frees_is : (config : Config) (rows : Rows) (p : Past) (i : ℕ) (event : Event) → IsRows config rows p → EntryIn config i event → frees rows event ≡ free_ok config.slots p i event
frees_is config rows p i (events.Give slot birth) r w = ap not (r.each slot w.within).taken
frees_is config rows p i (events.Unused slot) r w = (r.each slot w.within).taken
frees_is config rows p i (events.Back slot) r w = (r.each slot w.within).taken
frees_is config rows p i event r w = refl

goes_on_is : (config : Config) (rows : Rows) (p : Past) (i : ℕ) (event : Event) → IsRows config rows p → EntryIn config i event → goes_on rows event ≡ nexts_ok config.slots p i event
goes_on_is config rows p i (events.Link (links.Next parent) slot) r w = ap is_none (r.each parent w.within.0).next
goes_on_is config rows p i (events.Link links.Head slot) r w = ap (is_slot slot) ((r.each rows.head r.head_in).next ∙ ap (λ (s : ℕ). next_at s p) r.head)
goes_on_is config rows p i (events.Link links.Tail slot) r w = ap (is_slot slot) ((r.each rows.tail r.tail_in).next ∙ ap (λ (s : ℕ). next_at s p) r.tail)
goes_on_is config rows p i event r w = refl

ticks_is : (config : Config) (rows : Rows) (p : Past) (i : ℕ) (event : Event) → IsRows config rows p → ticks rows event ≡ era_ok config.last_era p i event
ticks_is config rows p i (events.Era era) r = rw (r.clock, r.setting) refl
ticks_is config rows p i event r = refl

pub right_is : (config : Config) (rows : Rows) (p : Past) (i : ℕ) (event : Event) → IsRows config rows p → EntryIn config i event
    → right rows i event ≡ (free_ok config.slots p i event && nexts_ok config.slots p i event && order_ok config.slots p i event && era_ok config.last_era p i event)
right_is config rows p i event r w =
    rw (frees_is config rows p i event r w, goes_on_is config rows p i event r w, r.due, ticks_is config rows p i event r) refl
