-- Events are noted one after another.
use Rattle.std.proofs.Common.{ℕ, zero, suc, ◌≡◌, ◌+◌, List, [], ◌∷◌, take, ap, arith, add-one}
use Rattle.std.specs.Prelude.{slice_get, Some}
use Rattle.wfe_defs.specs.declared.event.Event.{Event}
use Rattle.wfe_core.specs.Desks.{Notes, noted, noted_all}

noted_suc : (notes : Notes) (told : List Event) (place : ℕ) (event : Event) → slice_get told place ≡ Some event → noted_all notes (take (suc place) told) ≡ noted (noted_all notes (take place told)) event
noted_suc notes [] zero event h = absurd (grind arith)
noted_suc notes [] (suc place) event h = absurd (grind arith)
noted_suc notes (first ∷ told) zero event h = let e : first ≡ event = grind arith in ap (noted notes) e
noted_suc notes (first ∷ told) (suc place) event h = noted_suc (noted notes first) told place event h

-- the event at a place is noted after those before it
pub noted_next : (notes : Notes) (told : List Event) (place : ℕ) (event : Event) → slice_get told place ≡ Some event → noted_all notes (take (place + 1) told) ≡ noted (noted_all notes (take place told)) event
noted_next notes told place event h = rw add-one (noted_suc notes told place event h)
