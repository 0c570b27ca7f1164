-- A trace that has come to its line `end` has scripts: the body begins once they are there.
use Rattle.std.proofs.Common.{Bool, Err, List, None, Ok, Option, Result, Some, [], false, length, refl, subst, sym, true, ℕ, ◌++◌, ◌==◌, ◌∙◌, ◌∷◌, ◌≡◌}
use Rattle.std.specs.Prelude.{if◌then◌else◌, is_some}
use Rattle.wfe_outside.specs.defs.declared.command.Command.{Command}
use Rattle.wfe_server_replay.proofs.Bytes.{after_bytes-bad}
use Rattle.wfe_server_replay.specs.Trace.{Progress, after_byte, after_bytes, after_good_byte, after_last, after_line, at_end, byte_refused, command_taken, counted, finished, item_taken, judged_item, line_read, line_taken, progress_start, refused_by, unless_refused, ◌>>=◌}
use Rattle.wfe_server.specs.Reads.{came}
use Rattle.wfe_server_lines.specs.Scripted.{Scripted}
use Rattle.wfe_server.specs.Collecting.{scripter}
use Rattle.wfe_trace.proofs.Judged.{judged-read}
use Rattle.wfe_trace.specs.Good.{Placed, is_body}
use Rattle.wfe_trace.specs.Reading.{judged}
use Rattle.wfe_trace.specs.declared.item.Item.{Item}
use Rattle.wfe_trace.specs.declared.item.Item.TheVariants as items
use Rattle.wfe_trace.specs.declared.item.Mode.TheVariants as modes
use Rattle.wfe_trace.specs.declared.reason.BadLine.{BadLine}
use Rattle.wfe_trace.specs.declared.reason.Reason.{Reason}

-- in the body, and after its end, there are scripts
record Begun (p : Progress Scripted) : Type 0 where
  body : is_body p.reading.stage ≡ true → is_some p.engine ≡ true
  ended : p.ended ≡ true → is_some p.engine ≡ true

begun_start : Begun (progress_start modes.Run)
begun_start = record { body = λ e. absurd (cc); ended = λ e. absurd (cc) }

begun_command : (p : Progress Scripted) (c : Command) (o : Option Scripted) → is_some o ≡ true → Begun (command_taken scripter p c o)
begun_command p c None h = absurd (cc)
begun_command p c (Some s) h = record { body = λ e. refl; ended = λ e. refl }

begun_item : (p : Progress Scripted) (item : Item) → Placed p.reading p.reading.stage item → Begun p → Begun (item_taken scripter (line_read p) item)
begun_item p items.Setting placed b = record { body = λ e. let never : false ≡ true = sym placed.1 ∙ e in absurd (cc); ended = b.ended }
begun_item p (items.Ready version config) placed b = record { body = λ e. refl; ended = λ e. refl }
begun_item p (items.Command c) placed b = begun_command (line_read p) c p.engine (b.body placed.0)

begun_unless : (p q : Progress Scripted) (item : Item) (why : Option Reason) → Placed p.reading p.reading.stage item → line_taken scripter p (unless_refused p item why) ≡ Ok q → Begun p → Begun q
begun_unless p q item (Some reason) placed h b = absurd (cc)
begun_unless p q item None placed h b = let same : item_taken scripter (line_read p) item ≡ q = cc in subst Begun same (begun_item p item placed b)

begun_judged : (p q : Progress Scripted) (r : Result Item Reason) → judged p.reading p.line ≡ r → line_taken scripter p (judged_item scripter p r) ≡ Ok q → Begun p → Begun q
begun_judged p q (Err reason) e h b = absurd (cc)
begun_judged p q (Ok item) e h b = begun_unless p q item (refused_by scripter p item) (judged-read p.reading p.line item e).placed h b

begun_line : (p q : Progress Scripted) → after_line scripter p ≡ Ok q → Begun p → Begun q
begun_line p q h b = begun_judged p q (judged p.reading p.line) refl h b

begun_counted : (p : Progress Scripted) → Begun p → Begun (counted p)
begun_counted p b = record { body = b.body; ended = b.ended }

begun_feed : (p q : Progress Scripted) (b : ℕ) (feed : Bool) → (if feed then after_line scripter (counted p) else Ok (record (counted p) { line = p.line ++ b ∷ [] })) ≡ Ok q → Begun p → Begun q
begun_feed p q b true h begun = begun_line (counted p) q h (begun_counted p begun)
begun_feed p q b false h begun = let same : record (counted p) { line = p.line ++ b ∷ [] } ≡ q = cc in subst Begun same (record { body = begun.body; ended = begun.ended })

begun_good : (p q : Progress Scripted) (b : ℕ) (o : Option Reason) → after_good_byte scripter p b o ≡ Ok q → Begun p → Begun q
begun_good p q b (Some reason) h begun = absurd (cc)
begun_good p q b None h begun = begun_feed p q b (b == 10) h begun

begun_from : (p q : Progress Scripted) (b : ℕ) (bs : List ℕ) (r : Result (Progress Scripted) BadLine) → after_byte scripter p b ≡ r → after_bytes scripter r bs ≡ Ok q → Begun p → ((m : Progress Scripted) → after_bytes scripter (Ok m) bs ≡ Ok q → Begun m → Begun q) → Begun q
begun_from p q b bs (Err bad) e h begun later = let never : Err bad ≡ Ok q = sym (after_bytes-bad scripter bad bs) ∙ h in absurd (cc)
begun_from p q b bs (Ok m) e h begun later = later m h (begun_good p m b (byte_refused p b) e begun)

begun_bytes : (p q : Progress Scripted) (bs : List ℕ) → after_bytes scripter (Ok p) bs ≡ Ok q → Begun p → Begun q
begun_bytes p q [] h begun = let same : p ≡ q = cc in subst Begun same begun
begun_bytes p q (b ∷ bs) h begun = begun_from p q b bs (after_byte scripter p b) refl h begun (λ m g c. begun_bytes m q bs g c)

begun_last : (p q : Progress Scripted) (none : Bool) → (if none then Ok p else after_line scripter p) ≡ Ok q → Begun p → Begun q
begun_last p q true h begun = let same : p ≡ q = cc in subst Begun same begun
begun_last p q false h begun = begun_line p q h begun

ended_has : (m q : Progress Scripted) (bad : BadLine) (ended : Bool) → m.ended ≡ ended → (if ended then Ok m else Err bad) ≡ Ok q → Begun m → is_some q.engine ≡ true
ended_has m q bad true e h begun = let same : m ≡ q = cc in subst (λ (p : Progress Scripted). is_some p.engine ≡ true) same (begun.ended e)
ended_has m q bad false e h begun = absurd (cc)

finished_has : (p q : Progress Scripted) (r : Result (Progress Scripted) BadLine) → after_last scripter p ≡ r → (r >>= at_end) ≡ Ok q → Begun p → is_some q.engine ≡ true
finished_has p q (Err bad) e h begun = absurd (cc)
finished_has p q (Ok m) e h begun = ended_has m q _ m.ended refl h (begun_last p m (length p.line == 0) e begun)

-- at the end of a trace there are scripts
pub read_has : (taken : List ℕ) (p q : Progress Scripted) → came taken ≡ Ok p → finished scripter p ≡ Ok q → is_some q.engine ≡ true
read_has taken p q good end_ = finished_has p q (after_last scripter p) refl end_ (begun_bytes (progress_start modes.Run) p taken good begun_start)
