-- Which eras are told.
use Rattle.std.specs.Prelude.{Bool, false, true, None, Option, Some, nat_le, ℕ, ◌==◌, ◌&&◌, ◌||◌, ◌+◌, nat_lt, not, ◌≡◌}
use Rattle.model_record.specs.Record.{Test, EachEntry, Past, begins, own}
use Rattle.model_record.specs.defs.declared.call.Call.{Call}
use Rattle.model_record.specs.defs.declared.call.Call.TheVariants as calls
use Rattle.model_record.specs.defs.declared.event.Event.{Event}
use Rattle.model_record.specs.defs.declared.event.Event.TheVariants as events
use Rattle.model_record.specs.defs.declared.event.Guard.TheVariants.{Helper, Index}
use Rattle.model_record.specs.defs.declared.lifetime.Interval.{Interval}
use Rattle.wfe_words.specs.Schemes.{has_one_interval, is_wfe, publishes_rows, moves as moves_clock}
use Rattle.wfe_words.specs.declared.config.Config.{Config}
use Rattle.wfe_words.specs.declared.config.SchemeKind.{SchemeKind}
use Rattle.laws.specs.ScanLaw.{Blocks, blocks_of}
use Rattle.laws.specs.StateAt.{birth_of, clock_of, value_of, is_index, seat_of, was_clock, cuts, has_cut, has_told, taken_at, began_of}

-- The clock is moved to the next era, up to the last one.
abbrev pub era_ok : (last_era : ℕ) → Test
era_ok last_era p i (events.Era era) = era == clock_of p + 1 && nat_le era last_era
era_ok last_era p i event = true

abbrev pub is_of_advance : Option Call → Bool
is_of_advance (Some calls.Advance) = true
is_of_advance call = false

-- The clock is moved only by an Advance, once, or in a call before one of its blocks, once for each: an era is told only where the call
-- has told none, or a block came after it; and where a call ends, each era that it told has had a block after it, but for one of an
-- Advance.
abbrev pub moves_right : Option Call → Event → Blocks → Bool
moves_right call (events.Era era) blocks = blocks.moves == 0
moves_right call (events.End steps answer) blocks = is_of_advance call || blocks.moves == 0
moves_right call event blocks = true

abbrev pub moves_ok : Config → Test
moves_ok config p i event = moves_right (began_of i p) event (blocks_of config i p)

-- the event moves the clock
abbrev pub is_era : Event → Bool
is_era (events.Era era) = true
is_era event = false

-- Where retirements do not move the clock, it is moved only by an Advance, once.
abbrev pub advances_ok : Test
advances_ok p i (events.Era era) = is_of_advance (began_of i p) && not (has_told i is_era p)
advances_ok p i event = true

-- a row's birth era was the clock at a position of the call that the row is given to
abbrev pub birth_ok : Test
birth_ok p i (events.Give slot birth) = was_clock (begins i) birth p
birth_ok p i event = true

-- a row that is taken is retired, with its birth era, and with a retire era that was the clock at a position after the seat has told its
-- cut
abbrev pub retire_ok : (slots : ℕ) → Test
retire_ok slots p i (events.Retire slot birth retire) =
    birth == birth_of slot p && (taken_at slots slot p && (has_cut i slot p && was_clock (own i (cuts slot)) retire p))
retire_ok slots p i event = true

-- the upper end of what a guard is told to publish was the clock at a position of the call that tells it, unless a copy tells it
abbrev pub upper_current : (seat : ℕ) → Option Interval → Past → Bool
upper_current i None p = true
upper_current i (Some span) p = was_clock (begins i) span.hi p

-- both are intervals, and the same
abbrev pub same_interval : Option Interval → Option Interval → Bool
same_interval (Some a) (Some b) = a.lo == b.lo && a.hi == b.hi
same_interval a b = false

-- in a copy, what the index word publishes from which it copies
abbrev pub is_copied : (seat : ℕ) → Option Call → Option Interval → Past → Bool
is_copied i (Some (calls.Copy from index)) span p = same_interval span (value_of (Index i from) p)
is_copied i call span p = false

abbrev pub current_ok : Test
current_ok p i (events.Reserve guard span) = upper_current i span p || is_copied i (began_of i p) span p
current_ok p i event = true

-- one era alone, but where the scheme has one interval for a seat
abbrev pub is_one_era : SchemeKind → Option Interval → Bool
is_one_era scheme None = true
is_one_era scheme (Some span) = has_one_interval scheme || span.lo == span.hi

abbrev pub single_ok : SchemeKind → Test
single_ok scheme p i (events.Reserve guard span) = is_one_era scheme span
single_ok scheme p i event = true

-- what follows an interval before it is withdrawn keeps its lower end, and has a later upper end
abbrev pub span_rises : Option Interval → Option Interval → Bool
span_rises (Some old) (Some span) = span.lo == old.lo && nat_lt old.hi span.hi
span_rises old span = true

-- so it is under 2GE with each guard
abbrev pub rising_ok : SchemeKind → Test
rising_ok scheme p i (events.Reserve guard span) = not (has_one_interval scheme) || span_rises (value_of guard p) span
rising_ok scheme p i event = true

-- A seat tells of its own guards, but for one case under Wait-Free Eras: an index word, of the interval that the seat's own helper
-- word publishes. It tells rows of its own index words alone.
abbrev pub guard_ok : SchemeKind → Test
guard_ok scheme p i (events.Reserve guard span) = seat_of guard == i || (is_index guard && (is_wfe scheme && same_interval span (value_of (Helper i) p)))
guard_ok scheme p i (events.Hazard guard slot) = is_index guard && seat_of guard == i
guard_ok scheme p i event = true

-- guards publish rows, and scans read rows of index words, where the scheme publishes rows, and intervals where it does not
abbrev pub kind_ok : SchemeKind → Test
kind_ok scheme p i (events.Reserve guard span) = not (publishes_rows scheme)
kind_ok scheme p i (events.Read guard span) = not (publishes_rows scheme)
kind_ok scheme p i (events.Hazard guard slot) = publishes_rows scheme
kind_ok scheme p i (events.Saw guard slot) = publishes_rows scheme && is_index guard
kind_ok scheme p i event = true

-- The clock, lifetimes and reservations.
pub record EraLaw (config : Config) (r : Past) : Type 0 where
  -- the k-th move of the clock is to era k + 1, at most the last era
  pub numbers : EachEntry (era_ok config.last_era) r
  -- the clock is moved only by an Advance or before a block of the call, once at most for each
  pub moves : EachEntry (moves_ok config) r
  -- where retirements do not move it, only by an Advance, once at most
  pub advances : moves_clock config.scheme ≡ false → EachEntry advances_ok r
  -- a row's birth era was the clock at a position of the call that the row is given to
  pub births : EachEntry birth_ok r
  -- a row that is taken is retired, with its birth era, and a retire era that was the clock at a position after its cut
  pub retires : EachEntry (retire_ok config.slots) r
  -- the upper end of what a guard is told to publish was the clock at a position of the call that tells it; in a copy it may be the
  -- interval that the index word publishes from which it copies
  pub current : EachEntry current_ok r
  -- a guard publishes one era, but under 2GE
  pub single : EachEntry (single_ok config.scheme) r
  -- under 2GE the lower end of an interval stays until it is withdrawn, and the upper end rises
  pub rising : EachEntry (rising_ok config.scheme) r
  -- a seat publishes at its own guards, but that a helper hands an index word what its own helper word publishes
  pub guards : EachEntry (guard_ok config.scheme) r
  -- under hazard pointers guards publish rows, and under no other scheme
  pub kinds : EachEntry (kind_ok config.scheme) r
