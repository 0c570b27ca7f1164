-- What work on a sink and watchers says of them, by what is seen of the sink: what it has written, how often it failed, and whether that count may stand still.
use Rattle.std.specs.Prelude.{◌≡◌, ◌≤◌, ℕ, Bool, List, Option, Result, OnOk, OnErr, IfErr}
use Rattle.std.specs.Io.KnownBytes.{Appends}
use Rattle.wfe_outside.specs.Faults.{Rose}
use Rattle.wfe_server_out.specs.declared.fault.Fault.{Fault}
use Rattle.wfe_server_out.specs.declared.fault.Fault.TheVariants as fault_kinds
use Rattle.wfe_server_out.specs.Heard.{Seen}
use Rattle.wfe_server_out.specs.Pieces.{Piece}
use Rattle.wfe_server_out.specs.PutOut.{PutsOut, PutsSome}
use Rattle.wfe_server_out.specs.Some.{AppendsSome}

-- The pieces were put out, or some of them up to a fault. The count of failed writes did not fall, and where a write is the fault, it rose.
pub record Emits {K W T : Type 0} (seen : Seen W) (written : K → Option (List ℕ)) (faults : K → ℕ) (may_stand : Bool) (result : Result T Fault) (old new : K) (before after : List W) (out : List Piece) : Type 0 where
  pub put : OnOk result (PutsOut seen (written old) (written new) before after out)
  pub some : OnErr result (PutsSome seen (written old) (written new) before after out)
  pub later : faults old ≤ faults new
  pub cause : IfErr result (λ fault. fault ≡ fault_kinds.Write → Rose may_stand (faults old) (faults new))

-- The text was written, or the first bytes of it up to a failure. The count of failed writes did not fall, and at a failure it rose.
pub record Writes {K T E : Type 0} (written : K → Option (List ℕ)) (faults : K → ℕ) (may_stand : Bool) (result : Result T E) (old new : K) (text : List ℕ) : Type 0 where
  pub wrote : OnOk result (Appends (written old) (written new) text)
  pub some : OnErr result (AppendsSome (written old) (written new) text)
  pub later : faults old ≤ faults new
  pub cause : OnErr result (Rose may_stand (faults old) (faults new))
