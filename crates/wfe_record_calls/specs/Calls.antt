-- Calls with each number in its range in a record of the setting.
use Rattle.std.specs.Prelude.{ℕ}
use Rattle.wfe_words.specs.declared.config.Config.{Config}
use Rattle.wfe_defs.specs.declared.call.Call.{Call}
use Rattle.wfe_defs.specs.declared.call.Call.TheVariants as calls
use Rattle.wfe_trace.specs.Fits.{NumberFits}
use Rattle.wfe_record_words.specs.Within.{IsSeat, IsIndex, Since}

-- a call that records of the version have
abbrev pub IsCall : ℕ → Config → Call → Type 0
IsCall version config (calls.Get key) = NumberFits key
IsCall version config (calls.Put key value) = NumberFits key × NumberFits value
IsCall version config (calls.Remove key) = NumberFits key
IsCall version config (calls.Enqueue value) = NumberFits value
IsCall version config calls.Dequeue = Unit {0}
IsCall version config (calls.Hold key) = NumberFits key
IsCall version config calls.Release = Unit {0}
IsCall version config calls.Advance = Unit {0}
IsCall version config calls.Scan = Unit {0}
IsCall version config (calls.Copy from index) = Since 2 version × IsIndex config from × IsIndex config index
IsCall version config (calls.DropIndex index) = Since 2 version × IsIndex config index
IsCall version config (calls.Look index key) = Since 2 version × IsIndex config index × NumberFits key
IsCall version config (calls.PutIf key value number) = Since 3 version × NumberFits key × NumberFits value × NumberFits number
IsCall version config calls.Leave = Since 4 version
IsCall version config (calls.Adopt place) = Since 4 version × IsSeat config place
