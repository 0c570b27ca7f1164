-- Why a shared table is not made.
use Rattle.std.specs.Prelude.{Err, Ok, ◌≡◌}
use Rattle.wfe_core.specs.words.Place.{layout_of}
use Rattle.wfe_core.specs.words.declared.config.Config.{Config}
use Rattle.wfe_core.specs.words.declared.layout.Layout.{Layout}
use Rattle.wfe_table_end.specs.declared.refusals.MakeError.{MakeError}
use Rattle.wfe_table_end.specs.declared.refusals.MakeError.TheVariants as errors

-- the setting's first number out of range; or the setting was taken, and memory ran out
abbrev pub IsRefused : Config → MakeError → Type 0
IsRefused config (errors.BadConfig field) = layout_of config ≡ Err (record { field = field })
IsRefused config errors.NoMemory = (layout : Layout) × (layout_of config ≡ Ok layout)
