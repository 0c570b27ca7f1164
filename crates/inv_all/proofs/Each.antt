-- A law that looks at events alone holds of the record of each history, where it holds of all that a step tells.
use Rattle.std.proofs.Common.{ℕ, ◌≡◌, ◌<◌, Bool, true, List, [], ◌∷◌, refl}
use Rattle.inv_ends.specs.model.words.Place.{is_valid}
use Rattle.inv_ends.specs.model.words.declared.layout.Layout.{Layout}
use Rattle.inv_ends.specs.model.defs.declared.call.Call.{Call}
use Rattle.inv_ends.specs.model.defs.declared.event.Event.{Event}
use Rattle.inv_ends.specs.model.defs.declared.event.Event.TheVariants as events
use Rattle.inv_ends.specs.model.World.{World, told_in}
use Rattle.inv_ends.proofs.model.Facts.{first_of, rest_of}
use Rattle.inv_ends.specs.history.Record.{Past, Test, Each, EachEntry, tells_of}
use Rattle.inv_ends.specs.history.Record.Past.{Then}
use Rattle.inv_ends.proofs.history.Entries.{entries_of_each}
use Rattle.inv_ends.specs.history.History.{Item, Made, first_made, record_of}
use Rattle.inv_ends.proofs.history.Along.{Steady, items_keep}
use Rattle.inv_all.specs.Inv.{Inv}
use Rattle.inv_all.proofs.Inv.Begun.{inv_start, inv_begin}
use Rattle.inv_all.proofs.Inv.Kept.{inv_kept}
use Rattle.inv_ends.proofs.history.AllOf.{all_of}

abbrev pub of_event : (Event → Bool) → Test
of_event ok p i event = ok event

tells_each : (ok : Event → Bool) (i : ℕ) (told : List Event) (p : Past) → all_of ok told ≡ true → Each (of_event ok) p → Each (of_event ok) (tells_of p i told)
tells_each ok i [] p h g = g
tells_each ok i (event ∷ told) p h g = tells_each ok i told (Then p i event) (rest_of (ok event) (all_of ok told) h) (first_of (ok event) (all_of ok told) h, g)

-- what the steps of a table tell, and the beginnings of its calls
pub record Tells (layout : Layout) (ok : Event → Bool) : Type 0 where
  pub begins : (call : Call) → ok (events.Begin call) ≡ true
  pub steps : (w : World) (i : ℕ) → w.layout ≡ layout → i < w.layout.config.seats → Inv w → all_of ok (told_in w i) ≡ true

record Keeps (layout : Layout) (ok : Event → Bool) (made : Made) : Type 0 where
  pub table : made.world.layout ≡ layout
  pub known : Inv made.world
  pub law : Each (of_event ok) made.past

steady : (layout : Layout) (ok : Event → Bool) → Tells layout ok → Steady (Keeps layout ok)
steady layout ok t = record {
  begins = λ made i call b y m g. record {
    table = g.table;
    known = inv_begin made.world i call y m g.known;
    law = (t.begins call, g.law);
  };
  steps = λ made i b y g. record { table = g.table; known = inv_kept made.world i b g.known; law = tells_each ok i (told_in made.world i) made.past (t.steps made.world i g.table b g.known) g.law };
}

pub record_each : (layout : Layout) (ok : Event → Bool) → Tells layout ok → (items : List Item) → is_valid layout ≡ true → EachEntry (of_event ok) (record_of layout items)
record_each layout ok t items d =
    let g = items_keep (Keeps layout ok) (steady layout ok t) items (first_made layout) (record { table = refl; known = inv_start layout d; law = tt }) in
    entries_of_each (of_event ok) (record_of layout items) g.law
