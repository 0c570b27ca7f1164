-- A run that is put out, part after part.
use Rattle.std.proofs.Common.{Bool, Err, List, Ok, Option, [], append-nil, inr, refl, sym, ℕ, ◌++◌, ◌∷◌}
use Rattle.std.specs.Io.KnownBytes.{Appends}
use Rattle.std.specs.Prelude.{codes}
use Rattle.wfe_server_out.proofs.Emits.{emits_text}
use Rattle.wfe_server_out.proofs.Hearing.{hears_none}
use Rattle.wfe_server_out.proofs.Puts.{puts_lines_some}
use Rattle.wfe_server_out.proofs.Written.{writes_fault, writes_of, writes_ok}
use Rattle.wfe_server_out.specs.Emits.{Emits, Writes}
use Rattle.wfe_server_out.specs.Heard.{Seen}
use Rattle.wfe_server_out.specs.Pieces.{Piece, Text}
use Rattle.wfe_server_out.specs.PutOut.{PutsOut}
use Rattle.wfe_server_out.specs.Some.{AppendsSome}
use Rattle.wfe_server_out.specs.declared.fault.Fault.TheVariants as kinds
use Rattle.wfe_server_replay.proofs.Outs.{part_then, puts_trans}
use Rattle.wfe_server_replay.specs.Sunk.{outside}
use Rattle.wfe_server.specs.Prints.{Prints}
use Rattle.wfe_server.specs.Text.{end_pieces}
use Rattle.wfe_trace.specs.declared.reason.Status.TheVariants as statuses

-- a text was written
pub text_put : {K W E : Type 0} {seen : Seen W} {written : K → Option (List ℕ)} {faults : K → ℕ} {may_stand : Bool} {old new : K} {watchers : List W} {bytes : List ℕ} → Writes {T = Unit {0}} {E = E} written faults may_stand (Ok tt) old new bytes
    → Emits {T = Unit {0}} seen written faults may_stand (Ok tt) old new watchers watchers (Text bytes ∷ [])
text_put wrote = emits_text refl (writes_ok tt (writes_of (sym (append-nil _)) wrote))

-- or a part of it
pub text_fails : {K W E : Type 0} {seen : Seen W} {written : K → Option (List ℕ)} {faults : K → ℕ} {may_stand : Bool} {failed : E} {old new : K} {watchers : List W} {bytes : List ℕ} → Writes {T = Unit {0}} written faults may_stand (Err failed) old new bytes
    → Emits {T = Unit {0}} seen written faults may_stand (Err kinds.Write) old new watchers watchers (Text bytes ∷ [])
text_fails wrote = emits_text refl (writes_fault refl (writes_of (sym (append-nil _)) wrote))

-- the last lines after the run
pub prints_done : {W : Type 0} (seen : Seen W) (old mid new : Option (List ℕ)) (before after : List W) (watched : List ℕ) (run : List Piece) → PutsOut seen old mid before after run → Appends mid new (watched ++ codes "done\n")
    → Prints seen statuses.Done watched (outside old before) (outside new after) run
prints_done seen old mid new before after watched run put wrote =
    puts_trans seen (outside old before) (outside mid after) (outside new after) run (end_pieces watched) put (record { wrote = wrote; heard = hears_none seen after; sized = tt })

-- or a part of them
pub prints_last : {W : Type 0} (seen : Seen W) (old mid new : Option (List ℕ)) (before after : List W) (watched : List ℕ) (run : List Piece) → PutsOut seen old mid before after run → AppendsSome mid new (watched ++ codes "done\n")
    → Prints seen statuses.WriteFault watched (outside old before) (outside new after) run
prints_last seen old mid new before after watched run put some =
    inr
    (record {
      heard = put.heard;
      put = part_then seen (outside old before) (outside mid after) (outside new after) run (end_pieces watched) put (puts_lines_some seen mid new after (end_pieces watched) refl some);
    })
