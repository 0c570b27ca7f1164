-- What the words of a table show of a row that stands: it is taken, and what the guard of its index publishes keeps the row's
-- life.
use Rattle.std.specs.Prelude.{ℕ, ◌≡◌, ◌/◌, ◌%◌, true, Some, List}
use Rattle.std.specs.Int.{bit_at}
use Rattle.laws.specs.words.Packed.{life_word}
use Rattle.laws.specs.words.Place.{is_valid}
use Rattle.laws.specs.words.Place.Place.{Claim, Life}
use Rattle.laws.specs.words.declared.layout.Layout.{Layout}
use Rattle.laws.specs.defs.Shown.{keeps}
use Rattle.inv_all.specs.model.Posts.{stands}
use Rattle.inv_all.specs.model.World.{World}
use Rattle.inv_all.specs.covers.Covers.{shown, life_of}
use Rattle.inv_all.specs.model.Guards.{own_guard}
use Rattle.inv_all.specs.history.History.{Item, world_of}
use Rattle.inv_all.specs.Inv.{Inv}

pub record RowShown (w : World) (k j s : ℕ) : Type 0 where
  pub birth : ℕ
  pub retire : ℕ
  -- the row's lifetime word has birth and retire era, 0 while it is not retired
  pub life : w.mem (Life s) ≡ life_word (record { birth = birth; retire = retire })
  -- what the guard of the index publishes keeps that life
  pub kept : keeps (life_of s birth retire) (shown w (own_guard w.layout.config.scheme k j)) ≡ true
  -- its claim bit is set
  pub taken : bit_at (w.mem (Claim (s / 64))) (s % 64) ≡ 1

-- of each World that has the invariant
abbrev pub StandsShown : Type 0
StandsShown = (w : World) (k j s : ℕ) → Inv w → stands (w.seat k).post j ≡ Some s → RowShown w k j s

-- so of each World that a history comes to
abbrev pub AlwaysShown : Type 0
AlwaysShown =
    (layout : Layout) (items : List Item) (k j s : ℕ)
    → is_valid layout ≡ true
    → stands ((world_of layout items).seat k).post j ≡ Some s
    → RowShown (world_of layout items) k j s
