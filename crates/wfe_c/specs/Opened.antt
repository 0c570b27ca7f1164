-- The handles of a new table.
use Rattle.std.specs.Prelude.{Box, Ok, Some, ◌≡◌}
use Rattle.std.specs.Global.{Global}
use Rattle.wfe_core.specs.words.Place.{layout_of}
use Rattle.wfe_core.specs.words.declared.config.Config.{Config}
use Rattle.wfe_table.specs.Public.{TableNow}
use Rattle.wfe_c.specs.Joined.{table_of}
use Rattle.wfe_c.specs.Place.{seat_in}
use Rattle.wfe_c.specs.declared.handle.SeatHandle.{SeatHandle}
use Rattle.wfe_c.specs.declared.joined.Joined.{Joined}

-- a seat in a box is with this table; with one of this setting
abbrev pub IsWith : TableNow → Box Joined Global → Type 0
IsWith shared boxed = table_of boxed.value ≡ shared

abbrev pub IsSet : Config → Box Joined Global → Type 0
IsSet config boxed = layout_of config ≡ Ok (table_of boxed.value).layout

-- the handle has a seat of a table of this setting
pub record IsSeated (config : Config) (handle : SeatHandle) : Type 0 where
  pub joined : Joined
  pub inside : seat_in handle.place.inside ≡ Some joined
  pub set : layout_of config ≡ Ok (table_of joined).layout
