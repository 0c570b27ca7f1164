-- What a place holds once what it has lent is back.
use Rattle.std.specs.Prelude.{Some}
use Rattle.std.specs.Borrow.{Fml, Lends, MutBor}
use Rattle.wfe_table_end.specs.declared.closed.Closed.{Closed}
use Rattle.wfe_table_end.specs.contracts.closed.Closed as closed-type
use Rattle.wfe_c.specs.declared.joined.Joined.{Joined}
use Rattle.wfe_c.specs.declared.kept.Kept.TheVariants as kepts
use Rattle.wfe_c.specs.declared.place.Place.{Place}
use Rattle.wfe_c.specs.contracts.joined.Joined as joined-type
use Rattle.wfe_c.specs.contracts.place.Place as place-type

-- the place with this seat there; with this of a closed table
abbrev pub with_seat : Place → Joined → Place
with_seat place seat = record place { inside = Some (kepts.Seated seat) }

abbrev pub with_closed : Place → Closed → Place
with_closed place closed = record place { inside = Some (kepts.Closed closed) }

-- the place has it as whoever borrowed it left it
abbrev pub LendsSeat : MutBor Place → MutBor Joined → Fml
LendsSeat place seat = Lends place-type.the_row joined-type.the_row place seat (with_seat place.now)

abbrev pub LendsClosed : MutBor Place → MutBor Closed → Fml
LendsClosed place closed = Lends place-type.the_row closed-type.the_row place closed (with_closed place.now)
