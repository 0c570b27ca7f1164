-- What a piece of work put out: to a sink, and to watchers.
use Rattle.wfe_server_out.specs.Heard.{Hears, Seen}
use Rattle.std.specs.Prelude.{Bool, Err, IfErr, List, Ok, Option, Result, take, ℕ, ◌++◌, ◌≡◌, ◌≤◌, ◌⊎◌}
use Rattle.wfe_outside.specs.Faults.{Rose}
use Rattle.wfe_server_out.specs.declared.fault.Fault.TheVariants as fault_kinds
use Rattle.wfe_server_out.specs.Pieces.{Piece, heard_of}
use Rattle.wfe_server_out.specs.PutOut.{PutsOut, PutsSome}
use Rattle.wfe_trace.specs.declared.reason.BadLine.{BadLine}
use Rattle.wfe_server_replay.specs.Playing.{Played}
use Rattle.wfe_server_replay.specs.Trace.{Progress}
use Rattle.wfe_server_replay.specs.declared.stop.Stop.{Stop}
use Rattle.wfe_server_replay.specs.declared.stop.Stop.TheVariants as stops

-- the bytes that a sink has, where it tells them, and its watchers
pub record Outside (W : Type 0) : Type 0 where
  pub written : Option (List ℕ)
  pub watchers : List W

abbrev pub outside : {W : Type 0} → Option (List ℕ) → List W → Outside W
outside written watchers = record { written = written; watchers = watchers }

abbrev pub Puts : {W : Type 0} → Seen W → Outside W → Outside W → List Piece → Type 0
Puts seen old new out = PutsOut seen old.written new.written old.watchers new.watchers out

-- a first part of it, up to a fault
abbrev pub PutsPart : {W : Type 0} → Seen W → Outside W → Outside W → List Piece → Type 0
PutsPart seen old new out = PutsSome seen old.written new.written old.watchers new.watchers out

-- Bytes of a trace were taken up to a stop, and what they give was put out; after a fault, only some of it.
abbrev pub StopsAt : {W : Type 0} → Seen W → Stop → Result (Progress Played) BadLine → Outside W → Outside W → List Piece → Type 0
StopsAt seen (stops.Bad bad) verdict old new out = (verdict ≡ Err bad) × Puts seen old new out
StopsAt seen (stops.Fault fault) verdict old new out = PutsPart seen old new out

-- Bytes of a trace were taken, as they are judged, and what they give was put out.
abbrev pub Took : {W T : Type 0} → Seen W → Result T Stop → Result (Progress Played) BadLine → Progress Played → Outside W → Outside W → List Piece → Type 0
Took seen (Ok x) verdict now old new out = (verdict ≡ Ok now) × Puts seen old new out
Took seen (Err stop) verdict now old new out = StopsAt seen stop verdict old new out

-- The same, by what is seen of the sink. The count of failed writes did not fall, and where a write is the fault, it rose.
pub record Takes {K W T : Type 0} (seen : Seen W) (written : K → Option (List ℕ)) (faults : K → ℕ) (may_stand : Bool) (result : Result T Stop) (old new : K) (before after : List W) (verdict : Result (Progress Played) BadLine) (now : Progress Played) (out : List Piece) : Type 0 where
  pub took : Took seen result verdict now (outside (written old) before) (outside (written new) after) out
  pub later : faults old ≤ faults new
  pub cause : IfErr result (λ stop. stop ≡ stops.Fault fault_kinds.Write → Rose may_stand (faults old) (faults new))

-- the first of these bytes, so many as were taken, or all of them where the work stopped in them
abbrev pub some_of : Result ℕ Stop → List ℕ → List ℕ
some_of (Ok count) bytes = take count bytes
some_of (Err stop) bytes = bytes

-- All lines of a trace were put out, and the work stopped in the lines after them: the first bad byte or the end had been read, and each watcher has heard the whole record.
pub record StopsAfter {W : Type 0} (seen : Seen W) (found : Type 0) (lines last : List Piece) (old new : Outside W) : Type 0 where
  pub is_found : found
  pub heard : Hears seen old.watchers new.watchers (heard_of lines)
  pub put : PutsPart seen old new (lines ++ last)

-- The work stopped by a fault: in a line that was closed; or, where the end was read, in the last line; or after the lines.
abbrev pub StopsShort : {W : Type 0} → Seen W → (at_end found : Type 0) → (closed lines last : List Piece) → Outside W → Outside W → Type 0
StopsShort seen at_end found closed lines last old new = PutsPart seen old new closed ⊎ ((at_end × PutsPart seen old new lines) ⊎ StopsAfter seen found lines last old new)
