-- A place, and a pointer to what lies there, own what a box of it owns: a seat, or what a closed table held.
use Rattle.std.specs.Prelude.{None, Option, Some, refl, ◌≡◌, ◌≢◌}
use mathlib.Core.List.{[]}
use mir.Syntax.{dnil, impl, tnil}
use denote.Signature.{Slot, plain}
use Rattle.std_alloc.proofs.BoxSteps.Form.{Bx}
use Rattle.std.proofs.alloc.Global.TheLaws as heap
use Rattle.std.specs.contracts.alloc.Global as Heap
use Rattle.std.specs.contracts.impls.GlobalAllocator.TheImpl.{dict, ghosts}
use Rattle.wfe_table_end.proofs.closed.Closed.TheLaws as closed
use Rattle.wfe_table_end.specs.contracts.closed.Closed as Closed
use Rattle.wfe_table_end.specs.declared.closed.Closed.{Closed as Held}
use Rattle.wfe_c.proofs.joined.Joined.TheLaws as joined
use Rattle.wfe_c.specs.Place.{closed_in, seat_in}
use Rattle.wfe_c.specs.contracts.joined.Joined as Joined
use Rattle.wfe_c.specs.contracts.place.Place as Place
use Rattle.wfe_c.specs.contracts.pointed.Pointed as Pointed
use Rattle.wfe_c.specs.declared.joined.Joined.{Joined as Seat}
use Rattle.wfe_c.specs.declared.kept.Kept.{Kept}
use Rattle.wfe_c.specs.declared.kept.Kept.TheVariants as kepts

abbrev pub E : Bx
E = record { row = Joined.the_row; laws = joined.the_row_laws; al = record { row = Heap.the_row; laws = heap.the_row_laws; g = ghosts; d = dict; drops = impl [] tnil dnil } }

abbrev pub EClosed : Bx
EClosed = record { row = Closed.the_row; laws = closed.the_row_laws; al = record { row = Heap.the_row; laws = heap.the_row_laws; g = ghosts; d = dict; drops = impl [] tnil dnil } }

abbrev pub FromPointed : Slot 0
FromPointed = plain (λ _. Pointed.the_row Joined.the_row Heap.the_row ghosts)

abbrev pub FromPointedClosed : Slot 0
FromPointedClosed = plain (λ _. Pointed.the_row Closed.the_row Heap.the_row ghosts)

abbrev pub FromPlace : Slot 0
FromPlace = plain (λ _. Place.the_row)

abbrev pub FromHeap : Slot 0
FromHeap = plain (λ _. Heap.the_row)

-- what is there, where it is a seat, and where it is what a closed table held
pub the_seat : (inside : Option Kept) → seat_in inside ≢ None → (x : Seat) × (inside ≡ Some (kepts.Seated x))
the_seat None there = absurd (there refl)
the_seat (Some (kepts.Seated x)) there = (x, refl)
the_seat (Some (kepts.Closed x)) there = absurd (there refl)

pub the_closed : (inside : Option Kept) → closed_in inside ≢ None → (x : Held) × (inside ≡ Some (kepts.Closed x))
the_closed None there = absurd (there refl)
the_closed (Some (kepts.Seated x)) there = absurd (there refl)
the_closed (Some (kepts.Closed x)) there = (x, refl)
