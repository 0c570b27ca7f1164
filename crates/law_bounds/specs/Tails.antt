-- How far the queue's tail is behind: it leads to the row of the last value queued, or to the one before it.
use Rattle.std.specs.Prelude.{List, length, true, ◌+◌, ◌≡◌, ◌≤◌}
use Rattle.law_held.specs.inv.history.History.{Item, record_of}
use Rattle.law_held.specs.inv.history.Record.{Past}
use Rattle.law_held.specs.inv.model.words.Place.{is_valid}
use Rattle.law_held.specs.inv.model.words.declared.layout.Layout.{Layout}
use Rattle.law_held.specs.laws.StateAt.{tails_of}
use Rattle.law_held.specs.laws.StructuresAt.{queued_of}

pub record KeepsUp (p : Past) : Type 0 where
  -- it goes on only to values that were queued
  pub low : tails_of p ≤ length (queued_of p)
  -- and has gone on to all of them but the last
  pub high : length (queued_of p) ≤ tails_of p + 1

-- each history keeps it, under each scheme
abbrev pub TailsKeepUp : Type 0
TailsKeepUp = (layout : Layout) (items : List Item) → is_valid layout ≡ true → KeepsUp (record_of layout items)
