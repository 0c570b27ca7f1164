-- The lines of a generated trace.
use Rattle.std.specs.Prelude.{List, [], if◌then◌else◌, nat_le, ℕ, ◌%◌, ◌*◌, ◌+◌, ◌++◌, ◌/◌, ◌==◌, ◌∷◌}
use Rattle.rand_core.specs.Steps.{first_words}
use Rattle.rand_pcg.specs.Lcg.{Lcg, increment_of, started}
use Rattle.rand_pcg.specs.Pcg.{multiplier_64, pcg32}
use Rattle.wfe_trace.specs.words.declared.config.Config.{Config}
use Rattle.wfe_trace.specs.words.declared.config.SchemeKind.TheVariants as schemes
use Rattle.wfe_outside.specs.defs.declared.call.Call.{Call}
use Rattle.wfe_outside.specs.defs.declared.call.Call.TheVariants as calls
use Rattle.wfe_outside.specs.defs.declared.command.Command.{Command}
use Rattle.wfe_outside.specs.defs.declared.command.Command.TheVariants as commands
use Rattle.wfe_server_replay.specs.Given.{Given}

-- the setting of each generated trace
abbrev pub setting : Config
setting = record {
  scheme = schemes.Wfe;
  seats = 4;
  indexes = 3;
  slots = 4096;
  buckets = 16;
  tries = 4;
  every = 8;
  last_era = 4294967295;
  last_version = 281474976710656;
  pairs = 6;
}

-- the call of a kind
abbrev pub call_of : ℕ → ℕ → ℕ → Call
call_of kind key value =
    if nat_le kind 1 then calls.Get key else
    if nat_le kind 4 then calls.Put key value else
    if kind == 5 then calls.Remove key else
    if kind == 6 then calls.Enqueue value else calls.Dequeue

-- the seat, the call and the units of a turn, by its two words
abbrev pub turn_seat : ℕ → ℕ
turn_seat a = a % 4

abbrev pub turn_call : ℕ → ℕ → Call
turn_call a b = call_of (a / 4 % 8) (a / 32 % 64) b

abbrev pub turn_units : ℕ → ℕ
turn_units b = 1 + b % 40

-- the seat's call is run to its end, another one begins, and some of its units are made
abbrev pub turn_commands : ℕ → ℕ → List Command
turn_commands a b = commands.Run (turn_seat a) ∷ commands.Call (turn_seat a) (turn_call a b) ∷ commands.Step (turn_seat a) (turn_units b) ∷ []

-- a turn for each two words, and then the end
abbrev pub commands_of : List ℕ → List Command
commands_of (a ∷ b ∷ words) = turn_commands a b ++ commands_of words
commands_of _ = commands.End ∷ []

-- the generator of a seed, before its first word
abbrev pub seeded : ℕ → Lcg
seeded seed = started 64 multiplier_64 seed (increment_of 64 0)

-- the lines of so many turns from a seed
abbrev pub generated : ℕ → ℕ → List Command
generated seed turns = commands_of (first_words pcg32 (2 * turns) (seeded seed))

-- the trace with these lines
abbrev pub trace_of : List Command → Given
trace_of lines = record { version = 1; config = setting; lines = lines }
