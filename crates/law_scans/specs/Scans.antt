-- The laws on which calls scan and which move the clock, over records.
use Rattle.law_reuse.specs.laws.records.Record.{Past, Test, EachEntry}
use Rattle.law_reuse.specs.laws.StateAt.{seen}
use Rattle.std.specs.Prelude.{ℕ, ◌%◌, ◌==◌}
use Rattle.law_reuse.specs.laws.HistoryScans.{Tally, no_tally, plain_by, retired_course, scan_right}
use Rattle.law_reuse.specs.inv.model.Memory.{bump}
use Rattle.law_reuse.specs.laws.defs.declared.event.Event.{Event}
use Rattle.law_reuse.specs.laws.defs.declared.event.Event.TheVariants as events
use Rattle.law_reuse.specs.laws.words.declared.config.Config.{Config}
use Rattle.law_reuse.specs.inv.model.Guards.{guards}
use Rattle.law_reuse.specs.laws.HistoryEras.{move_right}

-- the tally of a seat whose count of retirements stays at the greatest number of 64 bits
abbrev pub tally_by : (every : ℕ) → Event → Tally → Tally
tally_by every (events.Retire slot birth retire) before = record { retired = bump before.retired; course = retired_course (bump before.retired % every == 0) }
tally_by every event before = plain_by every event before

abbrev pub tally_of : (every : ℕ) → ℕ → Past → Tally
tally_of every i p = seen (tally_by every) no_tally i p

abbrev pub scans_ok : Config → Test
scans_ok config p i event = let t : Tally = tally_of config.every i p in scan_right (guards config) event t.course

abbrev pub DueScans : Config → Past → Type 0
DueScans config r = EachEntry (scans_ok config) r

abbrev pub moves_ok : Config → Test
moves_ok config p i event = let t : Tally = tally_of config.every i p in move_right event t.course

abbrev pub DueMoves : Config → Past → Type 0
DueMoves config r = EachEntry (moves_ok config) r
