-- What a place owns may go to another thread, as a box of it may.
use base.Shift.{Keyless}
use mir.Raw.{raw}
use denote.Memory.{lone}
use denote.RawPtr.{Ptr}
use denote.Struct.Struct.{exits_of}
use denote.Struct.Owning.{shape, fields, to}
use denote.Param.Send.{IsSend, AllSend, owning_send, struct_send, sendable}
use Rattle.std.specs.Prelude.{None, Option, Some}
use Rattle.std.specs.Global.{Global}
use Rattle.std.proofs.Crossing as heap
use Rattle.std_alloc.proofs.SendSync.{quiet, lies}
use Rattle.std_heap.proofs.Global.TheSendSync as handle
use Rattle.wfe_c.specs.Place.{place_owns}
use Rattle.wfe_table_end.specs.contracts.closed.Closed as Closed
use Rattle.wfe_table_end.proofs.closed.Closed.TheSendSync.{the_send as closed}
use Rattle.wfe_c.specs.contracts.joined.Joined as Joined
use Rattle.wfe_c.specs.declared.kept.Kept.{Kept}
use Rattle.wfe_c.specs.declared.kept.Kept.TheVariants as kepts
use Rattle.wfe_c.proofs.joined.Joined.TheSendSync.{the_send as joined}
use Rattle.wfe_c.specs.contracts.place.Place.{the_row, the_type}

holds : (alloc : Global) (at : Ptr) (inside : Option Kept) → Keyless (place_owns alloc at inside)
holds alloc at None = tt
holds alloc at (Some (kepts.Seated there)) = (lies Joined.the_row joined at there, heap.frees.frees alloc (raw (lone Joined.the_row.mir)) at)
holds alloc at (Some (kepts.Closed there)) = (lies Closed.the_row closed at there, heap.frees.frees alloc (raw (lone Closed.the_row.mir)) at)

pub send : IsSend the_row
send =
    let all : AllSend (fields the_type) = (search sendable, (handle.the_field_send, tt)) in
    owning_send the_type all (λ d. holds d.alloc d.at d.inside)
    (λ k. quiet (to the_type) (exits_of k (fields the_type)) ((struct_send (shape the_type) all).leaving k))
