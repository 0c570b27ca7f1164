-- What seats have met of a table, beside what the table has: between any two steps of any threads.
use Rattle.std.specs.Prelude.{All, List, Option, ℕ, ◌≡◌}
use mathlib.Core.Option.{some}
use mathlib.Core.Option.{Option as Home}
use lib.ListN.{get_elem?}
use Rattle.wfe_drive_rule.specs.declared.kept.Kept.{Kept}
use Rattle.wfe_core.specs.words.declared.layout.Layout.{Layout}
use Rattle.wfe_drive_rule.specs.drive_cells.Memory.{memory}
use Rattle.laws.specs.StructuresAt.{pairs_at}
use Rattle.law_bounds.specs.all.Logs.Versions.{AtMost, counts_of, met_in, seen_in}
use Rattle.wfe_drive_rule.specs.Rule.{Rules}
use Rattle.wfe_drive_rule.specs.Views.{Track, View}
use Rattle.wfe_drive_rule.specs.history.History.{Item, record_of, world_of}

-- by the record of this history
pub record HasMet (layout : Layout) (items : List Item) (track : Track) : Type 0 where
  -- each version that the seat has seen is at most its bucket's count, and the greatest numbers that it has met of the queue are at
  -- most how many values were queued, and how many taken
  pub met : AtMost (met_in layout.config.buckets track.local.log) (counts_of (record_of layout items))
  -- the pairs that a bucket had at the version seen, by the seat's past, are the bucket's at that version
  pub pairs : (bucket : ℕ)
      → pairs_at bucket (seen_in layout.config.buckets bucket track.local.log) (record_of layout items) ≡ pairs_at bucket (seen_in layout.config.buckets bucket track.local.log) (record_of layout track.past)

-- a history comes to the World that the words show, in which each seat of a view has met no more than there is
pub record ShowsMet (layout : Layout) (list : List ℕ) (views : List View) : Type 0 where
  pub items : List Item
  pub mem : (world_of layout items).mem ≡ memory layout list
  pub each : (id : ℕ) (view : View) → get_elem? views id ≡ some view → All (HasMet layout items) view.tracks

-- of each table that meets the rule
abbrev pub TablesMeet : Type 0
TablesMeet = (layout : Layout) (list : List ℕ) (homes : List (Home (Option Kept))) (views : List View) → Rules layout list homes views → ShowsMet layout list views
