-- Scripts whose calls may all begin: the indexes that they name are in their ranges, and they are calls of seats that stay.
use Rattle.std.specs.Prelude.{All, List, true, ◌≡◌}
use Rattle.wfe_core.specs.Locals.{may_begin, stays}
use Rattle.wfe_core.specs.defs.declared.call.Call.{Call}
use Rattle.wfe_core.specs.words.declared.config.Config.{Config}

-- a call of a seat that stays, which may begin
abbrev pub Begins : Config → Call → Type 0
Begins config call = (may_begin config call ≡ true) × (stays call ≡ true)

-- the calls of a seat
abbrev pub MayBegin : Config → List Call → Type 0
MayBegin config script = All (Begins config) script

-- those of each seat
abbrev pub AllBegin : Config → List (List Call) → Type 0
AllBegin config scripts = All (MayBegin config) scripts
