-- What a history comes to: a World of its layout with the invariant, whose book has of the map and of the queue what the record says.
use Rattle.std.proofs.Common.{List, true, ℕ, ◌≡◌}
use Rattle.laws.specs.StructuresAt.{changes_of, queued_of, taken_of}
use Rattle.law_reasons.specs.inv.history.History.{Item, Made, made_of}
use Rattle.law_reasons.specs.inv.Inv.{Inv}
use Rattle.law_reasons.proofs.inv.history.Snoc.{layout_is}
use Rattle.law_reasons.proofs.inv.Inv.Reached.{inv_reached}
use Rattle.law_reasons.proofs.reuse.Lawful.Books.{record_books}
use Rattle.wfe_core.specs.words.Place.{is_valid}
use Rattle.wfe_core.specs.words.declared.layout.Layout.{Layout}

pub record Comes (layout : Layout) (made : Made) : Type 0 where
  pub table : made.world.layout ≡ layout
  pub known : Inv made.world
  pub changes : (bucket : ℕ) → changes_of bucket made.past ≡ made.world.book.changes bucket
  pub queued : queued_of made.past ≡ made.world.book.queued
  pub taken : taken_of made.past ≡ made.world.book.taken

pub history_comes : (layout : Layout) (items : List Item) → is_valid layout ≡ true → Comes layout (made_of layout items)
history_comes layout items valid =
    let book = record_books layout items valid in
    record { table = layout_is layout items; known = inv_reached layout items valid; changes = book.changes; queued = book.queued; taken = book.taken }
