-- What walks for a free row have seen taken, what movers of the clock have seen pending, and what birth eras were told, along
-- a history.
use Rattle.std.specs.Prelude.{ℕ, Bool, true, false, List, [], ◌∷◌}
use Rattle.inv_ends.specs.model.words.declared.layout.Layout.{Layout}
use Rattle.inv_ends.specs.model.World.{World}
use Rattle.inv_ends.specs.history.History.{Item, Begins, Steps, Made, fits, did, first_made}
use Rattle.inv_ends.specs.Births.{given_after}
use Rattle.inv_ends.specs.Moves.{met_after}
use Rattle.inv_ends.specs.Walks.{seen_after}

-- rows by seat and slot, requests by mover, seat, tag and index, and by slot the birth era of its last Give
pub record Sights : Type 0 where
  pub rows : ℕ → ℕ → Bool
  pub requests : ℕ → ℕ → ℕ → ℕ → Bool
  pub births : ℕ → ℕ

-- nothing was seen, and the dummy of the queue has birth era 1
abbrev pub blank : Sights
blank = record { rows = λ i s. false; requests = λ i k t j. false; births = λ s. 1 }

-- the beginning of a call sees nothing, and a step what it finds
abbrev pub sights_by : World → Item → Sights → Sights
sights_by w (Begins i call) s = s
sights_by w (Steps i) s = record { rows = seen_after w i s.rows; requests = met_after w i s.requests; births = given_after w i s.births }

abbrev pub sights_if : World → Item → (fit : Bool) → Sights → Sights
sights_if w item true s = sights_by w item s
sights_if w item false s = s

abbrev pub sights_from : Made → List Item → Sights → Sights
sights_from made [] s = s
sights_from made (item ∷ items) s = sights_from (did made item) items (sights_if made.world item (fits made.world item) s)

abbrev pub sights_of : Layout → List Item → Sights
sights_of layout items = sights_from (first_made layout) items blank
