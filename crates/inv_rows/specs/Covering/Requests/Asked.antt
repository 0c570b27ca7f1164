-- Who asks: a pending request is for a link word of the table, at an index of the table.
use Rattle.std.specs.Prelude.{ℕ, ◌≡◌, ◌<◌, true}
use Rattle.inv_rows.specs.words.Place.{has}
use Rattle.inv_rows.specs.words.declared.layout.Layout.{Layout}
use Rattle.inv_rows.specs.defs.declared.event.Root.{Root}
use Rattle.inv_rows.specs.model.Links.{link_place, link_number}

pub record Asker (layout : Layout) (index word : ℕ) : Type 0 where
  pub root : Root
  pub there : has layout (link_place root) ≡ true
  pub is : word ≡ link_number layout root
  pub below : index < layout.config.indexes
