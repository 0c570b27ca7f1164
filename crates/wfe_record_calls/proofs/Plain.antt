-- The words of calls have no space in them.
use Rattle.std.proofs.Common.{ℕ, rules}
use Rattle.wfe_words.specs.declared.config.Config.{Config}
use Rattle.wfe_defs.specs.declared.call.Call.{Call}
use Rattle.wfe_trace.specs.Record.{call_words}
use Rattle.wfe_trace.proofs.EventWords.{Plain}
use Rattle.wfe_record_words.specs.Within.{Small}
use Rattle.wfe_record_words.proofs.Plain.{long_plain, seat_plain, index_plain}
use Rattle.wfe_record_calls.specs.Calls.{IsCall}

pub call-plain : (version : ℕ) (config : Config) → Small config → (call : Call) → IsCall version config call → Plain (call_words call)
call-plain version config small call is = search (rules, long_plain, index_plain config small, seat_plain config small)
