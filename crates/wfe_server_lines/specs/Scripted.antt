-- The scripts that the lines of a trace give: the calls of each seat, in the order of its lines.
use Rattle.std.specs.Prelude.{List, [], map, replicate, slice_index_or, slice_set, ℕ, ◌++◌, ◌∷◌}
use Rattle.std.specs.declared.vec.Vec.{Vec}
use Rattle.wfe_outside.specs.defs.declared.call.Call.{Call}
use Rattle.wfe_outside.specs.defs.declared.command.Command.{Command}
use Rattle.wfe_outside.specs.defs.declared.command.Command.TheVariants as commands
use Rattle.wfe_trace.specs.words.declared.config.Config.{Config}

-- vectors as lists
abbrev pub lists_in : {X Z : Type 0} → List (Vec X Z) → List (List X)
lists_in vectors = map (λ vector. vector.items) vectors

pub record Scripted : Type 0 where
  pub version : ℕ
  pub config : Config
  pub scripts : List (List Call)

-- no call came
abbrev pub no_calls : ℕ → Config → Scripted
no_calls version config = record { version = version; config = config; scripts = replicate config.seats [] }

-- one call more of a seat
abbrev pub with_call : ℕ → Call → List (List Call) → List (List Call)
with_call seat call scripts = slice_set scripts seat (slice_index_or scripts seat [] ++ call ∷ [])

-- a line that is no call adds nothing
abbrev pub called : Command → Scripted → Scripted
called (commands.Call seat call) s = record { version = s.version; config = s.config; scripts = with_call seat call s.scripts }
called (commands.Step seat units) s = s
called (commands.Run seat) s = s
called commands.Table s = s
called commands.End s = s
