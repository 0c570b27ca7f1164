-- How a line of a record after its first one is read, word by word.
use Rattle.std.specs.Prelude.{ℕ, List, Option, Some, None, codes, if◌then◌else◌}
use Rattle.std.specs.Str.{bytes_eq}
use Rattle.wfe_words.specs.declared.config.Config.{Config}
use Rattle.wfe_defs.specs.declared.event.Event.{Event}
use Rattle.wfe_record.specs.record_words.Reader.{Read, given, ◌>>=◌, any_number, done, first, whole, word, long}
use Rattle.wfe_record.specs.record_words.HeaderReader.{exactly}
use Rattle.wfe_record.specs.Reader.{entry_in}
use Rattle.laws.specs.Ranges.{EntryIn}
use Rattle.wfe_check_lines.specs.declared.kind.Kind.{Kind}
use Rattle.wfe_check_lines.specs.declared.kind.Kind.TheVariants as kinds

-- of which seat a line of counts is: of one, whichever, or of all
unfoldable pub counted_in : List ℕ → Option (Unit {0})
counted_in w = if bytes_eq w (codes "all") then Some tt else given (any_number w) (λ seat. Some tt)

-- of counts of rows: how many went back, and how many wait
abbrev pub counts_back : Read Kind
counts_back = do
  back_name ← word (exactly (codes "back"))
  back ← long
  waiting_name ← word (exactly (codes "waiting"))
  waiting ← long
  done kinds.Shown

-- counts of rows: how many were retired, went back, and wait
abbrev pub counts : Read Kind
counts = do
  seat ← word counted_in
  retired_name ← word (exactly (codes "retired"))
  retired ← long
  counts_back

-- a watcher's row: its place, and three numbers
abbrev pub row : Read Kind
row = do
  place ← long
  a ← long
  b ← long
  c ← long
  done kinds.Shown

-- the word is a reason for which a line of a trace is bad: the last of them, those from `seat` on, and all
unfoldable pub end_reason_in : List ℕ → Option (Unit {0})
end_reason_in w =
    if bytes_eq w (codes "no-end") then Some tt else
    if bytes_eq w (codes "after-end") then Some tt else
    if bytes_eq w (codes "not-yet") then Some tt else
    if bytes_eq w (codes "gone") then Some tt else None

unfoldable pub seat_reason_in : List ℕ → Option (Unit {0})
seat_reason_in w =
    if bytes_eq w (codes "seat") then Some tt else
    if bytes_eq w (codes "range") then Some tt else
    if bytes_eq w (codes "busy") then Some tt else
    if bytes_eq w (codes "long-line") then Some tt else
    if bytes_eq w (codes "long-trace") then Some tt else end_reason_in w

unfoldable pub reason_in : List ℕ → Option (Unit {0})
reason_in w =
    if bytes_eq w (codes "first") then Some tt else
    if bytes_eq w (codes "config") then Some tt else
    if bytes_eq w (codes "form") then Some tt else
    if bytes_eq w (codes "number") then Some tt else
    if bytes_eq w (codes "run-line") then Some tt else seat_reason_in w

-- the first bad line of a trace, and why it is bad
abbrev pub refusal : Read Kind
refusal = do
  line ← long
  reason ← word reason_in
  done kinds.Last

-- the end of a record that has come to its end
abbrev pub ending : Read Kind
ending = done kinds.Last

abbrev pub entry_kind : Option (ℕ × Event) → Option Kind
entry_kind None = None
entry_kind (Some entry) = Some (kinds.Entry entry.0 entry.1)

-- by a line's first word, the words after it, and all words
unfoldable pub kind_by : ℕ → Config → (name : List ℕ) → (rest all : List (List ℕ)) → Option Kind
kind_by version config name rest all =
    if bytes_eq name (codes "table") then whole (counts rest) else
    if bytes_eq name (codes "watch") then whole (row rest) else
    if bytes_eq name (codes "done") then whole (ending rest) else
    if bytes_eq name (codes "bad") then whole (refusal rest) else entry_kind (entry_in version config all)

-- the same of a line that tells no event
unfoldable pub named_by : (name : List ℕ) → (rest : List (List ℕ)) → Option Kind
named_by name rest =
    if bytes_eq name (codes "table") then whole (counts rest) else
    if bytes_eq name (codes "watch") then whole (row rest) else
    if bytes_eq name (codes "done") then whole (ending rest) else
    if bytes_eq name (codes "bad") then whole (refusal rest) else None

-- the kind of a line's words
abbrev pub kind_in : ℕ → Config → List (List ℕ) → Option Kind
kind_in version config ws = given (first ws) (λ p. kind_by version config p.0 p.1 ws)

-- an entry's numbers are in the setting's ranges
abbrev pub KindIn : Config → Kind → Type 0
KindIn config (kinds.Entry seat event) = EntryIn config seat event
KindIn config kind = Unit {0}
