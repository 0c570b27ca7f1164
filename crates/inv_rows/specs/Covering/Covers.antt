-- When a guard covers a row: the row was linked and is not free since, the guard publishes what keeps its life, and a scan
-- that has the row on its list has met that life, or has not come to the guard.
use Rattle.std.specs.Prelude.{ℕ, zero, suc, ◌≡◌, ◌<◌, ◌==◌, ◌+◌, ◌*◌, ◌||◌, nat_lt, not, Bool, true, false, List, [], ◌∷◌, Option}
use Rattle.inv_rows.specs.words.declared.config.Config.{Config}
use Rattle.inv_rows.specs.words.declared.config.SchemeKind.{SchemeKind}
use Rattle.inv_rows.specs.words.declared.config.SchemeKind.TheVariants.{He, Hp, Ibr, Wfe}
use Rattle.inv_rows.specs.defs.declared.event.Guard.{Guard}
use Rattle.inv_rows.specs.defs.declared.event.Guard.TheVariants.{Helper, Index, Whole}
use Rattle.inv_rows.specs.defs.declared.lifetime.Interval.{Interval}
use Rattle.inv_rows.specs.defs.declared.lifetime.Lifetime.{Lifetime}
use Rattle.inv_rows.specs.defs.declared.shown.Shown.{Shown}
use Rattle.inv_rows.specs.defs.Shown.{Seen, keeps, keeps_any, shown as eras_as, shown_row}
use Rattle.inv_rows.specs.model.Desks.{Desk, Report}
use Rattle.inv_rows.specs.model.Guards.{guards, guard_at, guard_place, eras_in, linked_row, one_era, published}
use Rattle.inv_rows.specs.model.Scan.{read_before}
use Rattle.inv_rows.specs.model.Calls.{ScanAt, ReadGuard, GiveBack, Phase, Idle, Runs, Scans, Works}
use Rattle.inv_rows.specs.model.World.{World, start, step, begin, finds}
use Rattle.inv_rows.specs.Hands.{row_move}
use Rattle.inv_rows.specs.Agree.{Agree, RowsNeeds, rows_after}
use Rattle.inv_rows.specs.words.declared.layout.Layout.{Layout}
use Rattle.inv_rows.specs.words.Place.Place.{Clock}
use Rattle.inv_rows.specs.defs.declared.call.Call.{Call}
use Rattle.inv_rows.specs.Rows.{Status, View, RowMove, is_settled}
use Rattle.inv_rows.specs.Rows.Status.{Sealed, Listed}
use Rattle.inv_rows.specs.Rows.RowMove.{Stays, Claims, Bears, Drops, Links, Replaces, Appends, Pops, Reads, Seals, Lists, Returns, Adopts}
use Rattle.inv_rows.specs.words.Schemes.{publishes_rows}

-- the retire era of a row, once it is loaded, and 0 before
abbrev pub retired_at : Status → ℕ
retired_at (Sealed by retire) = retire
retired_at (Listed by retire) = retire
retired_at status = 0

-- how many of the guards a scan has read
abbrev pub upto_at : ℕ → ScanAt → ℕ
upto_at all (ReadGuard number) = number
upto_at all (GiveBack place slot) = all

abbrev pub upto : ℕ → Phase → ℕ
upto all Idle = 0
upto all (Runs why base) = 0
upto all (Scans later at) = upto_at all at
upto all (Works work) = 0

-- what it has read of them
abbrev pub read_at : ScanAt → Report → List Seen
read_at (ReadGuard number) report = read_before report number
read_at (GiveBack place slot) report = report.read

abbrev pub read_in : Phase → Report → List Seen
read_in Idle report = []
read_in (Runs why base) report = []
read_in (Scans later at) report = read_at at report
read_in (Works work) report = []

-- a scan has not come to the guard of this number, or has met the life
abbrev pub has_met : ℕ → Phase → Report → ℕ → Lifetime → Bool
has_met all phase report number life = not (nat_lt number (upto all phase)) || keeps_any life (read_in phase report)

-- a row's life, once it has a retire era
abbrev pub life_of : ℕ → ℕ → ℕ → Lifetime
life_of slot birth retire = record { slot = slot; birth = birth; retire = retire }

-- its life so far
abbrev pub life_in : View → ℕ → Lifetime
life_in v slot = life_of slot (v.birth slot) (retired_at (v.status slot))

-- the number of a guard in the order in which a scan reads them
abbrev pub number_by : SchemeKind → Config → Guard → ℕ
number_by scheme config (Helper seat) = seat
number_by He config (Index seat index) = seat * config.indexes + index
number_by Ibr config (Index seat index) = seat * config.indexes + index
number_by Wfe config (Index seat index) = config.seats + (seat * config.indexes + index)
number_by Hp config (Index seat index) = seat * config.indexes + index
number_by scheme config (Whole seat) = seat

abbrev pub number_of : Config → Guard → ℕ
number_of config guard = number_by config.scheme config guard

-- the eras that a guard publishes, where it publishes no row
abbrev pub eras_shown : World → Guard → Option Interval
eras_shown w guard = eras_in guard (w.mem (guard_place guard))

-- what a guard publishes
abbrev pub shown : World → Guard → Shown
shown w guard = published (publishes_rows w.layout.config.scheme) guard (w.mem (guard_place guard))

-- what a guard publishes by a number: an era, or where rows are published a link
abbrev pub number_shown : (rows : Bool) → ℕ → Shown
number_shown false era = eras_as (one_era era)
number_shown true link = shown_row (linked_row link)

-- the guard covers the row
pub record Covers (w : World) (v : View) (guard : Guard) (slot : ℕ) : Type 0 where
  pub settled : is_settled (v.status slot) ≡ true
  pub kept : keeps (life_in v slot) (shown w guard) ≡ true
  pub scans : (k r : ℕ) → v.status slot ≡ Listed k r
      → has_met (guards w.layout.config) (w.seat k).phase (w.seat k).desk.report (number_of w.layout.config guard) (life_of slot (v.birth slot) r) ≡ true

-- the entry at a place of the list meets nothing that was read
abbrev pub unmet_at : List Seen → List Lifetime → ℕ → Bool
unmet_at read [] place = false
unmet_at read (life ∷ lives) zero = not (keeps_any life read)
unmet_at read (life ∷ lives) (suc place) = unmet_at read lives place

abbrev pub scan_unmet : ScanAt → Desk → Bool
scan_unmet (ReadGuard number) desk = true
scan_unmet (GiveBack place slot) desk = unmet_at desk.report.read desk.list place

-- what a scan gives back meets nothing that it read
abbrev pub is_unmet : Phase → Desk → Bool
is_unmet Idle desk = true
is_unmet (Runs why base) desk = true
is_unmet (Scans later at) desk = scan_unmet at desk
is_unmet (Works work) desk = true

pub record Scanning (w : World) : Type 0 where
  pub unmet : (k : ℕ) → is_unmet (w.seat k).phase (w.seat k).desk ≡ true

-- no scan that has read something
abbrev pub fresh_at : ScanAt → Bool
fresh_at (ReadGuard zero) = true
fresh_at (ReadGuard (suc number)) = false
fresh_at (GiveBack place slot) = false

abbrev pub is_fresh : Phase → Bool
is_fresh Idle = true
is_fresh (Runs why base) = true
is_fresh (Scans later at) = fresh_at at
is_fresh (Works work) = true

-- what is published keeps a life that is over at the era as it kept it before
abbrev pub NotBefore : Shown → ℕ → Type 0
NotBefore value era = (slot birth : ℕ) → keeps (life_of slot birth 0) value ≡ true → keeps (life_of slot birth era) value ≡ true

-- so it is at a retire era that is loaded
abbrev pub Late : Shown → RowMove → Type 0
Late value (Seals slot birth retire) = NotBefore value retire
Late value move = Unit {0}

-- the row that a move makes free
abbrev pub frees : RowMove → ℕ → Bool
frees Stays s = false
frees (Claims slot) s = false
frees (Bears slot birth) s = false
frees (Drops slot) s = s == slot
frees (Links bucket slot) s = false
frees (Replaces bucket slot old) s = false
frees (Appends slot) s = false
frees (Pops slot next) s = false
frees (Reads slot birth) s = false
frees (Seals slot birth retire) s = false
frees (Lists slot birth retire) s = false
frees (Returns slot) s = s == slot
frees (Adopts from) s = false

-- the row that a move makes free, or claims
abbrev pub takes_or_frees : RowMove → ℕ → Bool
takes_or_frees Stays s = false
takes_or_frees (Claims slot) s = s == slot
takes_or_frees (Bears slot birth) s = s == slot
takes_or_frees (Drops slot) s = s == slot
takes_or_frees (Links bucket slot) s = s == slot
takes_or_frees (Replaces bucket slot old) s = s == slot
takes_or_frees (Appends slot) s = s == slot
takes_or_frees (Pops slot next) s = false
takes_or_frees (Reads slot birth) s = false
takes_or_frees (Seals slot birth retire) s = false
takes_or_frees (Lists slot birth retire) s = false
takes_or_frees (Returns slot) s = s == slot
takes_or_frees (Adopts from) s = false

-- a guard of the table: a scan reads it, under its number
pub record GuardFits (config : Config) (guard : Guard) : Type 0 where
  pub below : number_of config guard < guards config
  pub is : guard_at config (number_of config guard) ≡ guard

-- what keeps at least the lives that the old keeps
abbrev pub Widens : Shown → Shown → Type 0
Widens old new = (life : Lifetime) → keeps life old ≡ true → keeps life new ≡ true

-- what a step needs of the other parts of the invariant: what is known of the rows, that each seat's post has the table's
-- layout, and that what is published keeps a life that is over now as it kept it before
pub record CoversNeeds (w : World) (i : ℕ) (v : View) : Type 0 where
  pub rows : Agree w v
  pub needs : RowsNeeds w i v
  pub layouts : (k : ℕ) → (w.seat k).post.layout ≡ w.layout
  pub eras : (guard : Guard) → NotBefore (shown w guard) (w.mem Clock)

-- a row that a guard covers stays covered by it over each step that does not take from what the guard publishes
abbrev pub CoversKept : Type 0
CoversKept =
    (w : World) (i : ℕ) (v : View) (guard : Guard) (slot : ℕ)
    → CoversNeeds w i v
    → Scanning w
    → GuardFits w.layout.config guard
    → Widens (shown w guard) (shown (step w i) guard)
    → Covers w v guard slot
    → Covers (step w i) (rows_after w i v) guard slot

-- no step makes a covered row free: neither does a scan give it back, nor is it given up; and no step claims it
abbrev pub NotReused : Type 0
NotReused =
    (w : World) (i : ℕ) (v : View) (guard : Guard) (slot : ℕ)
    → CoversNeeds w i v
    → Scanning w
    → GuardFits w.layout.config guard
    → Covers w v guard slot
    → takes_or_frees (row_move (w.seat i).phase (w.seat i).post (finds w i)) slot ≡ false

-- what a scan gives back meets nothing that it read: so from the start on, and over each beginning of a call and each step
abbrev pub ScansStart : Type 0
ScansStart = (layout : Layout) → Scanning (start layout)

abbrev pub ScansBegin : Type 0
ScansBegin = (w : World) (i : ℕ) (call : Call) → Scanning w → Scanning (begin w i call)

abbrev pub ScansKept : Type 0
ScansKept = (w : World) (i : ℕ) → Scanning w → Scanning (step w i)
