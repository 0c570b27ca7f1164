-- A seat's operation on the list makes the step of the World.
use Rattle.std.proofs.Common.{List, ap, length, sym, ℕ, ◌∙◌, ◌≡◌}
use Rattle.wfe_core.specs.words.Place.{Place, words}
use Rattle.wfe_core.specs.words.declared.layout.Layout.{Layout}
use Rattle.wfe_core.specs.Locals.{asks, move}
use Rattle.wfe_core.specs.Memory.{found, numbered, place_in, written}
use Rattle.wfe_core.specs.World.{World}
use Rattle.wfe_drive_cells.specs.Bridge.{AsksWithin, MakesSteps}
use Rattle.wfe_drive_cells.specs.Memory.{memory}
use Rattle.wfe_drive_cells.proofs.Bridge.{answered-numbered, length-performed, memory-performed, word_within}

-- the operation is the move's, numbered by the table's layout
asked : (w : World) (i : ℕ) → (w.seat i).post.layout ≡ w.layout → asks (w.seat i) ≡ numbered w.layout (move (w.seat i))
asked w i e = ap (λ (layout : Layout). numbered layout (move (w.seat i))) e

pub makes_step : (w : World) (i : ℕ) (list : List ℕ) → w.mem ≡ memory w.layout list → length list ≡ words w.layout → AsksWithin w i → MakesSteps w i list
makes_step w i list mem count at = record {
  within = rw (asked w i at.layout) (word_within w.layout list (move (w.seat i)) count at.there);
  answers = rw (asked w i at.layout) (answered-numbered w.layout list (move (w.seat i)) at.there ∙ ap (λ (m : Place → ℕ). found (move (w.seat i)) (m (place_in (move (w.seat i))))) (sym mem));
  performs = rw (asked w i at.layout) (memory-performed w.layout list (move (w.seat i)) count at.there ∙ ap (λ (m : Place → ℕ). written m (move (w.seat i))) (sym mem));
  stays = length-performed list (asks (w.seat i)) ∙ count;
}
