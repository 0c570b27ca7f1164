-- What a place that C keeps owns: nothing, or what a box owns of a seat, or of what a closed table held.
use Rattle.std.specs.Prelude.{None, Option, Some, ℕ, ◌≡◌, ◌≢◌}
use Rattle.std.specs.Coded.{Coded, coded_option}
use Rattle.std.specs.Box.Ownership.{box_owns}
use Rattle.std.specs.Global.{Global}
use Rattle.std.specs.contracts.impls.GlobalAllocator.TheImpl.{ghosts}
use base.Fml.{Fml, ftrue}
use denote.RawPtr.{Ptr}
use Rattle.wfe_table_end.specs.declared.closed.Closed.{Closed}
use Rattle.wfe_table_end.specs.contracts.closed.Closed as closed-type
use Rattle.wfe_c.specs.contracts.joined.Joined as joined-type
use Rattle.wfe_c.specs.contracts.kept.Kept.{the_row}
use Rattle.wfe_c.specs.declared.joined.Joined.{Joined}
use Rattle.wfe_c.specs.declared.kept.Kept.{Kept}
use Rattle.wfe_c.specs.declared.kept.Kept.TheVariants as kepts

abbrev pub place_owns : Global → Ptr → Option the_row.Denot → Fml
place_owns alloc at None = ftrue
place_owns alloc at (Some (kepts.Seated joined)) = box_owns (ghosts.dealloc_token alloc) joined-type.the_row at joined
place_owns alloc at (Some (kepts.Closed closed)) = box_owns (ghosts.dealloc_token alloc) closed-type.the_row at closed

abbrev pub kept_coded : Coded (Option the_row.Denot)
kept_coded = coded_option the_row.coded

-- the seat that is there
abbrev pub seat_in : Option Kept → Option Joined
seat_in None = None
seat_in (Some (kepts.Seated joined)) = Some joined
seat_in (Some (kepts.Closed closed)) = None

-- what is there of a closed table
abbrev pub closed_in : Option Kept → Option Closed
closed_in None = None
closed_in (Some (kepts.Seated joined)) = None
closed_in (Some (kepts.Closed closed)) = Some closed

-- the state says whether a seat is there, or what a closed table held
pub record IsMarked (state : ℕ) (inside : Option Kept) : Type 0 where
  pub there : state ≡ 1 → seat_in inside ≢ None
  pub absent : state ≢ 1 → seat_in inside ≡ None
  pub closed : state ≡ 4 → closed_in inside ≢ None
  pub unclosed : state ≢ 4 → closed_in inside ≡ None
