-- The laws on records by name, and how each judges an entry: those that each sentence of a law is, and three that each history keeps
-- besides.
use Rattle.std.specs.Prelude.{ℕ, zero, suc, ◌&&◌, Bool, true, List, [], ◌∷◌, Option, Some, None}
use Rattle.wfe_core.specs.words.declared.config.Config.{Config}
use Rattle.wfe_core.specs.words.declared.config.SchemeKind.{SchemeKind}
use Rattle.wfe_core.specs.words.declared.config.SchemeKind.TheVariants.{He, Hp, Ibr, Wfe}
use Rattle.wfe_core.specs.defs.declared.event.Event.{Event}
use Rattle.wfe_core.specs.defs.declared.event.Event.TheVariants as events
use Rattle.laws.specs.AnswerLaw as answers
use Rattle.laws.specs.EraLaw as eras
use Rattle.laws.specs.HistoryHolds.{lone_ok}
use Rattle.laws.specs.HistoryTable.{guards_ok, ranges_ok}
use Rattle.laws.specs.Standing.{open_ok}
use Rattle.laws.specs.HoldLaw as holds
use Rattle.laws.specs.MapLaw.{map_ok}
use Rattle.laws.specs.NoReuse.{reuse_ok}
use Rattle.laws.specs.Once as once
use Rattle.laws.specs.QueueLaw.{empty_ok, queue_ok}
use Rattle.laws.specs.ScanLaw.{blocks_ok, read_ok, room_ok, scan_ok}
use Rattle.laws.specs.Standing as standing
use Rattle.laws.specs.StateAt.{standing_of}
use Rattle.laws.specs.StepLaw as steps
use Rattle.model_history.specs.Record.{Past, Test}
use Rattle.model_history.specs.Record.Past.{Then}

-- the laws on records, each under the name that it has in the record of its law, or a name for it where another law has that name
pub data Law : Type 0 where
  Calls : Law
  Clears : Law
  Indexes : Law
  Copies : Law
  Reuse : Law
  Free : Law
  Placing : Law
  Order : Law
  Nexts : Law
  Retiring : Law
  Backs : Law
  Lists : Law
  Blocks : Law
  Reads : Law
  Due : Law
  Room : Law
  Eras : Law
  Moves : Law
  Advances : Law
  Births : Law
  Retires : Law
  Current : Law
  Single : Law
  Rising : Law
  Guards : Law
  Kinds : Law
  Throughout : Law
  Sources : Law
  Finds : Law
  Gots : Law
  Links : Law
  Behind : Law
  Bare : Law
  Rests : Law
  Map : Law
  Values : Law
  Emptied : Law
  Steps : Law
  Withdrawals : Law
  Tries : Law
  Raises : Law
  Hazards : Law
  Asks : Law
  CallSteps : Law
  Told : Law
  Reasons : Law
  Full : Law
  Lacks : Law
  Counted : Law
  Refusals : Law
  Clock : Law
  Repeats : Law
  Alone : Law
  Named : Law
  Ranges : Law

-- the row that an event gives, or tells unused or back
abbrev pub freed : Event → Option ℕ
freed (events.Give slot birth) = Some slot
freed (events.Unused slot) = Some slot
freed (events.Back slot) = Some slot
freed event = None

-- the row is not freed or given while it stands at one of so many indexes of a seat
abbrev unheld_at : (indexes k s : ℕ) → Test
unheld_at zero k s p i e = true
unheld_at (suc j) k s p i e = reuse_ok k j s p i e && unheld_at j k s p i e

-- no row is freed or given that stands at an index of these seats
abbrev unheld : (indexes s seats : ℕ) → Test
unheld indexes s zero p i e = true
unheld indexes s (suc k) p i e = unheld_at indexes k s p i e && unheld indexes s k p i e

abbrev unheld_if : Option ℕ → Config → Test
unheld_if None c p i e = true
unheld_if (Some s) c p i e = unheld c.indexes s c.seats p i e

-- what stands at an index is held
abbrev rows_held : Config → (k j : ℕ) → List ℕ → Past → Bool
rows_held c k j [] p = true
rows_held c k j (s ∷ rows) p = holds.is_held c k j s p && rows_held c k j rows p

abbrev seat_held : Config → (k indexes : ℕ) → Past → Bool
seat_held c k zero p = true
seat_held c k (suc j) p = rows_held c k j (standing_of k j p) p && seat_held c k j p

abbrev pub all_held : Config → ℕ → Past → Bool
all_held c zero p = true
all_held c (suc k) p = seat_held c k c.indexes p && all_held c k p

-- only these events change what stands, what is taken, and what is published
abbrev pub held_by : Config → Event → Past → Bool
held_by c (events.Held index slot steps) p = all_held c c.seats p
held_by c (events.Copied from index slot) p = all_held c c.seats p
held_by c (events.Reserve guard span) p = all_held c c.seats p
held_by c (events.Hazard guard slot) p = all_held c c.seats p
held_by c (events.Give slot birth) p = all_held c c.seats p
held_by c (events.Unused slot) p = all_held c c.seats p
held_by c (events.Retire slot birth retire) p = all_held c c.seats p
held_by c (events.Back slot) p = all_held c c.seats p
held_by c e p = true

-- so it is with this row, and with each one before it
abbrev all_rows : (ℕ → Test) → ℕ → Test
all_rows ok zero p i e = ok 0 p i e
all_rows ok (suc s) p i e = ok (suc s) p i e && all_rows ok s p i e

-- what is asked of one scheme alone
abbrev advances_by : SchemeKind → Test
advances_by Hp p i e = eras.advances_ok p i e
advances_by He p i e = true
advances_by Ibr p i e = true
advances_by Wfe p i e = true

abbrev steps_by : SchemeKind → ℕ → Test
steps_by Wfe tries p i e = steps.steps_ok tries p i e
steps_by He tries p i e = true
steps_by Ibr tries p i e = true
steps_by Hp tries p i e = true

abbrev withdrawals_by : SchemeKind → Test
withdrawals_by Wfe p i e = steps.withdraw_ok p i e
withdrawals_by He p i e = true
withdrawals_by Ibr p i e = true
withdrawals_by Hp p i e = true

abbrev tries_by : SchemeKind → Test
tries_by He p i e = steps.tries_ok p i e
tries_by Ibr p i e = true
tries_by Wfe p i e = true
tries_by Hp p i e = true

abbrev raises_by : SchemeKind → Test
raises_by Ibr p i e = steps.raise_ok p i e
raises_by He p i e = true
raises_by Wfe p i e = true
raises_by Hp p i e = true

abbrev hazards_by : SchemeKind → Test
hazards_by Hp p i e = steps.hazards_ok p i e
hazards_by He p i e = true
hazards_by Ibr p i e = true
hazards_by Wfe p i e = true

-- at each of so many indexes
abbrev asks_at : (tries indexes : ℕ) → Test
asks_at tries zero p i e = true
asks_at tries (suc j) p i e = steps.ask_ok tries j p i e && asks_at tries j p i e

abbrev asks_by : SchemeKind → (tries indexes : ℕ) → Test
asks_by Wfe tries indexes p i e = asks_at tries indexes p i e
asks_by He tries indexes p i e = true
asks_by Ibr tries indexes p i e = true
asks_by Hp tries indexes p i e = true

abbrev pub test_of : Config → Law → Test
test_of c Calls p i e = open_ok p i e
test_of c Clears p i e = standing.clears_ok p i e
test_of c Indexes p i e = standing.indexes_ok p i e
test_of c Copies p i e = standing.copies_ok p i e
test_of c Reuse p i e = unheld_if (freed e) c p i e
test_of c Free p i e = once.free_ok c.slots p i e
test_of c Placing p i e = once.placing_ok p i e
test_of c Order p i e = once.order_ok c.slots p i e
test_of c Nexts p i e = once.nexts_ok c.slots p i e
test_of c Retiring p i e = once.retiring_ok p i e
test_of c Backs p i e = once.backs_ok p i e
test_of c Lists p i e = once.lists_ok p i e
test_of c Blocks p i e = scan_ok c p i e
test_of c Reads p i e = read_ok p i e
test_of c Due p i e = blocks_ok c p i e
test_of c Room p i e = all_rows (room_ok c) c.slots p i e
test_of c Eras p i e = eras.era_ok c.last_era p i e
test_of c Moves p i e = eras.moves_ok c p i e
test_of c Advances p i e = advances_by c.scheme p i e
test_of c Births p i e = eras.birth_ok p i e
test_of c Retires p i e = eras.retire_ok c.slots p i e
test_of c Current p i e = eras.current_ok p i e
test_of c Single p i e = eras.single_ok c.scheme p i e
test_of c Rising p i e = eras.rising_ok c.scheme p i e
test_of c Guards p i e = eras.guard_ok c.scheme p i e
test_of c Kinds p i e = eras.kind_ok c.scheme p i e
test_of c Throughout p i e = held_by c e (Then p i e)
test_of c Sources p i e = holds.sources_ok c p i e
test_of c Finds p i e = holds.finds_ok p i e
test_of c Gots p i e = holds.gots_ok p i e
test_of c Links p i e = holds.links_ok c.slots p i e
test_of c Behind p i e = holds.behind_ok c.slots p i e
test_of c Bare p i e = holds.bare_ok p i e
test_of c Rests p i e = holds.rests_ok c p i e
test_of c Map p i e = map_ok c.buckets p i e
test_of c Values p i e = queue_ok p i e
test_of c Emptied p i e = empty_ok p i e
test_of c Steps p i e = steps_by c.scheme c.tries p i e
test_of c Withdrawals p i e = withdrawals_by c.scheme p i e
test_of c Tries p i e = tries_by c.scheme p i e
test_of c Raises p i e = raises_by c.scheme p i e
test_of c Hazards p i e = hazards_by c.scheme p i e
test_of c Asks p i e = asks_by c.scheme c.tries c.indexes p i e
test_of c CallSteps p i e = steps.end_ok c p i e
test_of c Told p i e = answers.answers_ok c.buckets p i e
test_of c Reasons p i e = answers.reasons_ok c p i e
test_of c Full p i e = all_rows (answers.full_ok c) c.slots p i e
test_of c Lacks p i e = answers.lacks_ok c p i e
test_of c Counted p i e = answers.retires_ok p i e
test_of c Refusals p i e = answers.refuses_ok p i e
test_of c Clock p i e = answers.clocks_ok c p i e
test_of c Repeats p i e = answers.repeats_ok c p i e
test_of c Alone p i e = lone_ok p i e
test_of c Named p i e = guards_ok c p i e
test_of c Ranges p i e = ranges_ok c p i e
