-- Which eras are told.
use Rattle.std.specs.Prelude.{Bool, None, Option, Some, false, nat_le, nat_lt, true, ℕ, ◌&&◌, ◌+◌, ◌==◌, ◌||◌, ◌≡◌}
use Rattle.model_record.specs.Record.{EachEntry, Past, Test, begins, own}
use Rattle.model_record.specs.defs.declared.event.Event.TheVariants as events
use Rattle.model_record.specs.defs.declared.event.Event.{Event}
use Rattle.model_record.specs.defs.declared.event.Guard.TheVariants.{Whole}
use Rattle.model_record.specs.defs.declared.lifetime.Interval.{Interval}
use Rattle.wfe_words.specs.Schemes.{is_ibr, moves as moves_clock}
use Rattle.wfe_words.specs.declared.config.Config.{Config}
use Rattle.wfe_words.specs.declared.config.SchemeKind.{SchemeKind}
use Rattle.laws.specs.EraLaw.{advances_ok, guard_ok, kind_ok, upper_current, is_copied}
use Rattle.laws.specs.HistoryScans.Course.{Advancing, MayScan, MustScan, Plain, Reading}
use Rattle.laws.specs.HistoryScans.{Course, plain_tally}
use Rattle.laws.specs.StateAt.{birth_of, clock_of, cuts, value_of, was_clock, began_of}

abbrev pub may_move : Course → Bool
may_move Plain = false
may_move Advancing = true
may_move MayScan = true
may_move (MustScan moves) = moves
may_move (Reading reads) = false

-- The clock is moved only by an Advance, or in a call before one of its scans, which then has to come; once at most for each.
abbrev pub move_right : Event → Course → Bool
move_right (events.Era era) before = may_move before
move_right event before = true

-- the clock is moved only by an Advance, or before one of these scans
abbrev pub plain_moves_ok : Config → Test
plain_moves_ok config p i event = move_right event (plain_tally config.every i p).course

abbrev pub PlainMoves : Config → Past → Type 0
PlainMoves config r = EachEntry (plain_moves_ok config) r

-- an interval of eras up to the clock, and of one era alone but under 2GE
abbrev pub span_ok : SchemeKind → (clock : ℕ) → Option Interval → Bool
span_ok scheme clock None = true
span_ok scheme clock (Some span) = (nat_le span.lo span.hi && nat_le span.hi clock) && (is_ibr scheme || span.lo == span.hi)

abbrev pub era_ok : Config → Test
era_ok config p i (events.Era era) = era == clock_of p + 1 && nat_le era config.last_era
era_ok config p i (events.Reserve guard span) = span_ok config.scheme (clock_of p) span
era_ok config p i (events.Give slot birth) = nat_le 1 birth && nat_le birth (clock_of p)
era_ok config p i (events.Retire slot birth retire) = birth == birth_of slot p && (nat_le birth retire && nat_le retire (clock_of p))
era_ok config p i event = true

abbrev pub ClockLaw : Config → Past → Type 0
ClockLaw config r = EachEntry (era_ok config) r

abbrev pub GuardLaw : SchemeKind → Past → Type 0
GuardLaw scheme r = EachEntry (guard_ok scheme) r

-- a row's birth era was the clock somewhere in the call that the row is given to
abbrev pub birth_current : Test
birth_current p i (events.Give slot birth) = was_clock (begins i) birth p
birth_current p i event = true

abbrev pub BirthsCurrent : Past → Type 0
BirthsCurrent r = EachEntry birth_current r

-- a row is retired with a retire era that was the clock at a position after the seat has told its cut
abbrev pub retire_current : Test
retire_current p i (events.Retire slot birth retire) = was_clock (own i (cuts slot)) retire p
retire_current p i event = true

abbrev pub RetiresCurrent : Past → Type 0
RetiresCurrent r = EachEntry retire_current r

abbrev pub reserve_current : Test
reserve_current p i (events.Reserve guard span) = upper_current i span p || is_copied i (began_of i p) span p
reserve_current p i event = true

abbrev pub ReservesCurrent : Past → Type 0
ReservesCurrent r = EachEntry reserve_current r

abbrev pub birth_ok : Test
birth_ok p i (events.Retire slot birth retire) = birth == birth_of slot p
birth_ok p i event = true

abbrev pub BirthLaw : Past → Type 0
BirthLaw r = EachEntry birth_ok r

-- an interval begins with one era; until it is withdrawn its lower end is kept, and each change raises its upper end
abbrev pub span_grows : Option Interval → Option Interval → Bool
span_grows None None = true
span_grows None (Some span) = span.lo == span.hi
span_grows (Some old) None = true
span_grows (Some old) (Some span) = span.lo == old.lo && nat_lt old.hi span.hi

abbrev pub span_rises : Test
span_rises p i (events.Reserve (Whole seat) span) = span_grows (value_of (Whole seat) p) span
span_rises p i event = true

abbrev pub SpansRise : Past → Type 0
SpansRise r = EachEntry span_rises r

-- The clock, lifetimes and reservations.
pub record HistoryEras (config : Config) (r : Past) : Type 0 where
  -- the clock rises by one up to the last era; what is published, given and retired has eras up to the clock
  pub numbers : ClockLaw config r
  -- the clock is moved only by an Advance or before a scan of the call, once at most for each
  pub moves : PlainMoves config r
  -- where retirements do not move it, only by an Advance, once at most
  pub advances : moves_clock config.scheme ≡ false → EachEntry advances_ok r
  -- a row's birth era was the clock somewhere in the call that the row is given to
  pub births_current : BirthsCurrent r
  -- a row is retired with the birth era of its last Give
  pub births : BirthLaw r
  -- a row is retired with a retire era that was the clock at a position after its seat has told its cut
  pub retires_current : RetiresCurrent r
  -- the upper end of what a guard is told to publish was the clock at a position of the call that tells it, but for a copy
  pub reserves_current : ReservesCurrent r
  -- an interval of 2GE begins with one era; until it is withdrawn its lower end is kept and each change raises its upper end
  pub spans_rise : SpansRise r
  -- a seat publishes at its own guards, but that a helper hands an index word what its own helper word publishes
  pub guards : GuardLaw config.scheme r
  -- under hazard pointers guards publish rows, and under no other scheme
  pub kinds : EachEntry (kind_ok config.scheme) r
