-- The words that publish reservations, and the order in which a scan reads them.
use Rattle.std.specs.Prelude.{ℕ, ◌+◌, ◌-◌, ◌*◌, ◌/◌, ◌%◌, ◌==◌, if◌then◌else◌, nat_lt, Bool, false, true, Option, Some, None}
use Rattle.wfe_words.specs.Place.{Place, Place as places}
use Rattle.wfe_words.specs.Packed.{read_reservation, read_span}
use Rattle.wfe_words.specs.Schemes.{has_one_interval}
use Rattle.wfe_words.specs.declared.config.Config.{Config}
use Rattle.wfe_words.specs.declared.config.SchemeKind.{SchemeKind}
use Rattle.wfe_words.specs.declared.config.SchemeKind.TheVariants.{He, Hp, Ibr, Wfe}
use Rattle.wfe_words.specs.declared.packed.Span.{Span}
use Rattle.wfe_defs.specs.declared.event.Guard.{Guard}
use Rattle.wfe_defs.specs.declared.event.Guard.TheVariants.{Helper, Index, Whole}
use Rattle.wfe_defs.specs.declared.lifetime.Interval.{Interval}
use Rattle.wfe_defs.specs.declared.shown.Shown.{Shown}
use Rattle.wfe_defs.specs.Shown.{shown, shown_row}

-- the index word of this number, by seat and then index
abbrev pub index_at : Config → ℕ → Guard
index_at config k = Index (k / config.indexes) (k % config.indexes)

-- the guard that a scan reads after k others: index words by seat and then index; under 2GE the interval words by seat;
-- under Wait-Free Eras all helper words by seat, and then the index words
abbrev pub guard_by : SchemeKind → Config → ℕ → Guard
guard_by He config k = index_at config k
guard_by Ibr config k = Whole k
guard_by Wfe config k = if nat_lt k config.seats then Helper k else index_at config (k - config.seats)
guard_by Hp config k = index_at config k

abbrev pub guard_at : Config → ℕ → Guard
guard_at config k = guard_by config.scheme config k

-- how many guards there are
abbrev pub guards_by : SchemeKind → Config → ℕ
guards_by He config = config.seats * config.indexes
guards_by Ibr config = config.seats
guards_by Wfe config = config.seats + config.seats * config.indexes
guards_by Hp config = config.seats * config.indexes

abbrev pub guards : Config → ℕ
guards config = guards_by config.scheme config

-- the word of a guard
abbrev pub guard_place : Guard → Place
guard_place (Helper seat) = places.Helper seat
guard_place (Index seat index) = places.Index seat index
guard_place (Whole seat) = places.Interval seat

-- the eras from one to another
abbrev pub from_to : ℕ → ℕ → Option Interval
from_to lo hi = Some (record { lo = lo; hi = hi })

-- one era as an interval; era 0 publishes nothing
abbrev pub one_era : ℕ → Option Interval
one_era era = if era == 0 then None else from_to era era

-- the interval of a span
abbrev pub interval_in : Option (Option Span) → Option Interval
interval_in None = None
interval_in (Some None) = None
interval_in (Some (Some span)) = from_to span.lo span.hi

-- the eras that a guard publishes with this word
abbrev pub eras_in : Guard → ℕ → Option Interval
eras_in (Helper seat) word = one_era (read_reservation word).era
eras_in (Index seat index) word = one_era (read_reservation word).era
eras_in (Whole seat) word = interval_in (read_span word)

-- the row of a link
abbrev pub linked_row : ℕ → Option ℕ
linked_row link = if link == 0 then None else Some (link - 1)

-- what it publishes with this word: eras, or where rows are published the row of a link
abbrev pub published : (rows : Bool) → Guard → ℕ → Shown
published false guard word = shown (eras_in guard word)
published true guard word = shown_row (linked_row word)

-- the guard of a seat's index: its own word, or where the scheme has one interval the seat's interval word
abbrev pub own_guard : SchemeKind → ℕ → ℕ → Guard
own_guard scheme seat index = if has_one_interval scheme then Whole seat else Index seat index
