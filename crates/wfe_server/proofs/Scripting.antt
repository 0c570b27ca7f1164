-- Bytes of a trace that are taken one by one, and the lines that workers read.
use Rattle.std.proofs.Common.{List, Ok, Result, ap, drop, get_or, length, sym, take, take-append-drop, ℕ, ◌++◌, ◌+◌, ◌<◌, ◌∙◌, ◌∷◌, ◌≡◌}
use Rattle.std.proofs.lemmas.List.{drop_more}
use Rattle.wfe_server_replay.proofs.Bytes.{after_bytes-append, after_bytes-bad}
use Rattle.wfe_server_replay.specs.Trace.{Progress, after_byte, after_bytes}
use Rattle.wfe_server.specs.Collecting.{IsItemForWorkers, StopsAt}
use Rattle.wfe_server_lines.specs.Scripted.{Scripted}
use Rattle.wfe_server.specs.Collecting.{scripter}
use Rattle.wfe_server.specs.declared.reader.Stop.{Stop}
use Rattle.wfe_server.specs.declared.reader.Stop.TheVariants as stops
use Rattle.wfe_trace.specs.declared.reason.BadLine.{BadLine}
use Rattle.wfe_trace.specs.declared.item.Item.{Item}
use Rattle.wfe_trace.specs.declared.item.Item.TheVariants as items
use Rattle.wfe_trace.specs.declared.item.Mode.TheVariants as modes
use Rattle.wfe_trace.specs.Reading.{Reading, judged}
use Rattle.wfe_trace.proofs.Versions.{judged-workers}
use Rattle.wfe_outside.specs.defs.declared.command.Command.TheVariants as commands

-- a line that is read for workers gives no other call
pub workers_item : (r : Reading) (line : List ℕ) (item : Item) → r.mode ≡ modes.Run → judged r line ≡ Ok item → IsItemForWorkers item
workers_item r line items.Setting m h = tt
workers_item r line (items.Ready version config) m h = tt
workers_item r line (items.Command (commands.Call seat call)) m h = judged-workers r line seat call m h
workers_item r line (items.Command (commands.Step seat units)) m h = tt
workers_item r line (items.Command (commands.Run seat)) m h = tt
workers_item r line (items.Command commands.Table) m h = tt
workers_item r line (items.Command commands.End) m h = tt

-- a byte at which the work stops, after those before it
pub bytes_stop : (stop : Stop) (p q : Progress Scripted) (bytes : List ℕ) (i : ℕ) → i < length bytes → after_bytes scripter (Ok p) (take i bytes) ≡ Ok q → StopsAt stop (after_byte scripter q (get_or bytes i 0)) → StopsAt stop (after_bytes scripter (Ok p) bytes)
bytes_stop stops.NoMemory p q bytes i within before here = tt
bytes_stop (stops.Bad bad) p q bytes i within before here =
    let rest : List ℕ = drop (i + 1) bytes in
    let next : List ℕ = get_or bytes i 0 ∷ rest in
    ap (after_bytes scripter (Ok p)) (sym (take-append-drop i bytes) ∙ ap (λ (xs : List ℕ). take i bytes ++ xs) (drop_more bytes i 0 within))
    ∙ after_bytes-append scripter (Ok p) (take i bytes) next ∙ ap (λ (r : Result (Progress Scripted) BadLine). after_bytes scripter r next) before
    ∙ ap (λ (r : Result (Progress Scripted) BadLine). after_bytes scripter r rest) here ∙ after_bytes-bad scripter bad rest
