-- The text of a record's lines, and of the lines that name a bad one.
use Rattle.std.specs.Prelude.{ℕ, List, [], ◌∷◌, codes}
use Rattle.std.specs.Fmt.{decimal}
pub use Rattle.wfe_text.specs.Record.{spaced, line_of, guard_word, span_words, value_words, root_word, clock_words, call_words, answer_words, event_words, event_line, seat_word, table_line, watch_line, count_line, scheme_word, setting_words, header_line}
use Rattle.wfe_trace.specs.declared.reason.Reason.{Reason}
use Rattle.wfe_trace.specs.declared.reason.Reason.TheVariants as reasons
use Rattle.wfe_trace.specs.declared.reason.RecordReason.{RecordReason}
use Rattle.wfe_trace.specs.declared.reason.RecordReason.TheVariants as record_reasons

abbrev pub reason_word : Reason → List ℕ
reason_word reasons.First = codes "first"
reason_word reasons.Config = codes "config"
reason_word reasons.Form = codes "form"
reason_word reasons.Number = codes "number"
reason_word reasons.RunLine = codes "run-line"
reason_word reasons.Seat = codes "seat"
reason_word reasons.Range = codes "range"
reason_word reasons.Busy = codes "busy"
reason_word reasons.LongLine = codes "long-line"
reason_word reasons.LongTrace = codes "long-trace"
reason_word reasons.NoEnd = codes "no-end"
reason_word reasons.AfterEnd = codes "after-end"
reason_word reasons.NotYet = codes "not-yet"
reason_word reasons.Gone = codes "gone"

-- the line that names the first bad line of a trace
abbrev pub bad_line : ℕ → Reason → List ℕ
bad_line line reason = line_of (codes "bad") (decimal line ∷ reason_word reason ∷ [])

abbrev pub record_reason_word : RecordReason → List ℕ
record_reason_word record_reasons.Header = codes "header"
record_reason_word record_reasons.Form = codes "form"
record_reason_word record_reasons.LongLine = codes "long-line"
record_reason_word record_reasons.LongRecord = codes "long-record"

-- the line that names the first bad line of a record that is read
abbrev pub bad_record_line : ℕ → RecordReason → List ℕ
bad_record_line line reason = line_of (codes "bad") (decimal line ∷ record_reason_word reason ∷ [])
