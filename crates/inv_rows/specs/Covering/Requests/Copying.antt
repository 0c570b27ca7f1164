-- Between the two steps of a copy the index word that is copied publishes the number that the copy has found: an era with the seat's
-- tag, or where rows are published a link.
use Rattle.std.specs.Prelude.{ℕ, ◌≡◌}
use Rattle.inv_rows.specs.words.Place.Place.{Index}
use Rattle.inv_rows.specs.words.Schemes.{publishes_rows}
use Rattle.inv_rows.specs.model.Calls.{StoreHeld, Keeping, Works}
use Rattle.inv_rows.specs.model.Keep.{held_number}
use Rattle.inv_rows.specs.model.Posts.{shown_word}
use Rattle.inv_rows.specs.model.World.{World}

pub record Copying (w : World) (k : ℕ) : Type 0 where
  pub word : (from index number : ℕ) → (w.seat k).phase ≡ Works (Keeping (StoreHeld from index number)) → w.mem (Index k from) ≡ shown_word (publishes_rows w.layout.config.scheme) (w.seat k).post from number
  pub publishes : (from index number : ℕ) → (w.seat k).phase ≡ Works (Keeping (StoreHeld from index number)) → held_number (publishes_rows w.layout.config.scheme) (w.mem (Index k from)) ≡ number
