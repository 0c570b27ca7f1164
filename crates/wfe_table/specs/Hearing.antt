-- How far one seat's history is known, and a seat that hears it.
use Rattle.std.specs.Prelude.{List, [], ◌≡◌}
use Rattle.atomic_table.specs.Seated.{TableId}
use Rattle.wfe_core.specs.words.declared.layout.Layout.{Layout}
use Rattle.law_bounds.specs.all.Logs.Versions.{AtMost, counts_of}
use Rattle.wfe_drive_rule.specs.Handles.{IsTracked}
use Rattle.wfe_drive_rule.specs.Rule.{Opens}
use Rattle.wfe_drive_rule.specs.Views.{Handle, tidings}
use Rattle.wfe_drive_rule.specs.history.History.{Item, record_of}
use Rattle.wfe_table.specs.Public.{SeatNow}

-- which table it is of, and the first part of that table's history that is known
pub record NewsNow : Type 0 where
  pub table : TableId
  pub past : List Item

-- a handle without a seat
abbrev pub IsNews : Handle → Type 0
IsNews handle = handle ≡ (tidings handle.0.heard, [])

-- the seat stands as it did, and its past is a history of the table that begins with what it was, and with what was heard
pub record IsAware (layout : Layout) (old new : SeatNow) (heard : List Item) : Type 0 where
  pub local : new.track.local ≡ old.track.local
  pub grows : Opens new.track.past old.track.past
  pub knows : Opens new.track.past heard
  pub tracked : IsTracked layout new.track
  -- so it has the versions and the numbers of what was heard, or later ones
  pub counts : AtMost (counts_of (record_of layout heard)) (counts_of (record_of layout new.track.past))
