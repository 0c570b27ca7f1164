-- How many steps protections and calls take.
use Rattle.std.specs.Prelude.{Bool, List, None, Option, Some, [], false, if◌then◌else◌, is_none, is_some, nat_le, nat_lt, not, suc, true, zero, ℕ, ◌&&◌, ◌+◌, ◌==◌, ◌||◌, ◌∷◌, ◌≡◌}
use Rattle.model_record.specs.Record.{EachEntry, Past, Test, tells_of}
use Rattle.model_record.specs.Turns.History.{Blank, Starts, Turns}
use Rattle.model_record.specs.Turns.{EachTurn, History, record_of}
use Rattle.model_record.specs.defs.Bounds.{clock_most, get_most, hold_most, next_over_most, next_told_most, over_most, told_most, look_most}
use Rattle.model_record.specs.defs.declared.call.Answer.TheVariants as answers
use Rattle.model_record.specs.defs.declared.call.Answer.{Answer}
use Rattle.model_record.specs.defs.declared.call.Call.TheVariants as calls
use Rattle.model_record.specs.defs.declared.call.Call.{Call}
use Rattle.model_record.specs.defs.declared.call.ClockMove.TheVariants as moves
use Rattle.model_record.specs.defs.declared.event.Event.TheVariants as events
use Rattle.model_record.specs.defs.declared.event.Event.{Event}
use Rattle.model_record.specs.defs.declared.event.Guard.TheVariants.{Helper, Index}
use Rattle.wfe_words.specs.Schemes.{is_he, is_ibr, is_wfe, has_one_interval, publishes_rows}
use Rattle.wfe_words.specs.declared.config.Config.{Config}
use Rattle.wfe_words.specs.declared.config.SchemeKind.{SchemeKind}
use Rattle.laws.specs.HistoryEras.{may_move}
use Rattle.laws.specs.HistoryScans.{plain_tally}
use Rattle.laws.specs.HistoryTurns.{turns_since}
use Rattle.laws.specs.ScanLaw.{guards}
use Rattle.laws.specs.StateAt.{backs_of, began_of, era_grows, is_found, is_helper, last_of, own_rising_of, reserves_of, shown_by, shown_of, times, told, tried_of, value_of}
use Rattle.laws.specs.StepLaw.{event_tried, few_steps, hazards_ok, raise_ok, is_made, is_nothing}

-- so are those that a seat whose helper word publishes nothing tells of an index word, until that publishes nothing
abbrev pub era_rises : Test
era_rises p i (events.Reserve (Index seat index) span) = nat_lt 2 index || is_some (value_of (Helper i) p) || era_grows (value_of (Index seat index) p) span
era_rises p i event = true

abbrev pub ErasRise : Past → Type 0
ErasRise r = EachEntry era_rises r

-- an era of an index word is later than the one that the word publishes, but for those that a seat tells under Wait-Free Eras while
-- its helper word publishes
abbrev pub try_rises : SchemeKind → Test
try_rises scheme p i (events.Reserve (Index seat index) span) = nat_lt 2 index || (is_wfe scheme && is_some (value_of (Helper i) p)) || era_grows (value_of (Index seat index) p) span
try_rises scheme p i event = true

abbrev pub TriesRise : SchemeKind → Past → Type 0
TriesRise scheme r = EachEntry (try_rises scheme) r

abbrev pub steps_ok : ℕ → Test
steps_ok tries p i event = few_steps tries event

abbrev pub NumberLaw : ℕ → Past → Type 0
NumberLaw tries r = EachEntry (steps_ok tries) r

-- The turns since the one that published the index word, and the one before it. A row held at index 1 was followed: the head is loaded
-- again.
abbrev pub event_bounded : (tries : ℕ) → (turns : ℕ → ℕ) → Event → Bool
event_bounded tries turns (events.Held index slot steps) = if index == 1 then nat_le (turns index + 1) (next_told_most tries) else nat_le (turns index + 1) (told_most tries)
event_bounded tries turns (events.Null index steps) = nat_le (turns index + 1) (told_most tries)
event_bounded tries turns event = true

abbrev pub events_bounded : (tries : ℕ) → (turns : ℕ → ℕ) → List Event → Bool
events_bounded tries turns [] = true
events_bounded tries turns (event ∷ told) = event_bounded tries turns event && events_bounded tries turns told

abbrev pub turns_bounded : (tries : ℕ) → History → ℕ → List Event → Bool
turns_bounded tries h i told = events_bounded tries (λ j. turns_since i j (Turns h i told)) told

-- a turn tells this at a moment at which its seat's helper word publishes
abbrev pub found_shown : (seat : ℕ) → List Event → (shown : Bool) → Bool
found_shown i [] shown = false
found_shown i (event ∷ told) shown = (is_found event && shown) || found_shown i told (shown_by i event shown)

-- the last of these events is a Held or Null
abbrev pub ends_found : List Event → Bool
ends_found [] = false
ends_found (event ∷ []) = is_found event
ends_found (event ∷ other ∷ told) = ends_found (other ∷ told)

-- a turn that tells a Held or Null while its seat's helper word publishes tells nothing after it
abbrev pub found_last : History → ℕ → List Event → Bool
found_last h i told = not (found_shown i told (shown_of i (record_of h))) || ends_found told

-- one turn less
abbrev pub one_less : ℕ → ℕ
one_less zero = zero
one_less (suc n) = n

-- in how many turns of seat i its helper word has to be withdrawn: in two once it has told Held or Null while that word published
abbrev pub due_of : (seat : ℕ) → History → ℕ
due_of i Blank = 0
due_of i (Starts h k call) = due_of i h
due_of i (Turns h k told) = if i == k then (if found_shown i told (shown_of i (record_of h)) then 2 else one_less (due_of i h)) else due_of i h

-- a protection of seat i at index j has published, and has not told its end; or its helper word is still to be withdrawn
abbrev pub under_way : (seat index : ℕ) → History → Bool
under_way i j h = nat_lt 0 (tried_of i j (record_of h)) || (nat_lt 0 (due_of i h) && last_of i (record_of h) == j)

-- The turns since the one that published the index word, and the one before it. At index 1 the head is loaded again, and where it has
-- moved the next turn withdraws the index word.
abbrev pub lasts_right : (tries index : ℕ) → History → ℕ → List Event → Bool
lasts_right tries j h i told =
    if under_way i j h
    then nat_le (turns_since i j (Turns h i told) + 1) (if j == 1 then next_over_most tries else over_most tries)
    else true

abbrev pub withdraws_first : (seat : ℕ) → List Event → Bool
withdraws_first i (events.Reserve guard span ∷ told) = is_helper i guard && is_none span
withdraws_first i told = false

abbrev pub tells_nothing : List Event → Bool
tells_nothing [] = true
tells_nothing told = false

-- the first of the two turns tells nothing, and the second tells first that the helper word publishes nothing
abbrev pub withdraws_by : (seat due : ℕ) → List Event → Bool
withdraws_by i due told = if due == 0 then true else if due == 1 then withdraws_first i told else tells_nothing told

abbrev pub withdrawn_right : History → ℕ → List Event → Bool
withdrawn_right h i told = withdraws_by i (due_of i h) told

-- no protection at the index is under way, or it has published more often than it has tries
abbrev pub tried_enough : (tries times : ℕ) → Bool
tried_enough tries times = times == 0 || nat_le (tries + 1) times

-- where a seat publishes an era in a helper word
abbrev pub helper_ok : (tries index : ℕ) → Test
helper_ok tries j p i (events.Reserve (Helper k) (Some span)) = tried_enough tries (tried_of i j p)
helper_ok tries j p i event = true

abbrev pub HelperLaw : ℕ → Past → Type 0
HelperLaw tries r = (j : ℕ) → EachEntry (helper_ok tries j) r

-- a seat has not published its index word since it published nothing, or told what a protection ends with or a copy; or it has more
-- often than it has tries, at eras that rose
abbrev pub has_risen : (tries seat index : ℕ) → Past → Bool
has_risen tries i j p = tried_of i j p == 0 || (nat_le (tries + 1) (tried_of i j p) && own_rising_of i j p)

-- so it is where the seat publishes an era in a helper word
abbrev pub asks_ok : (tries index : ℕ) → Test
asks_ok tries j p i (events.Reserve (Helper k) (Some span)) = has_risen tries i j p
asks_ok tries j p i event = true

abbrev pub AskLaw : ℕ → Past → Type 0
AskLaw tries r = (j : ℕ) → EachEntry (asks_ok tries j) r

-- a protection of seat i at the index has published more often than it has tries
abbrev pub failed_at : (tries seat index : ℕ) → Past → Bool
failed_at tries i j p = nat_le (tries + 1) (tried_of i j p)

-- the same at one of its three indexes
abbrev pub failed_once : (tries seat : ℕ) → Past → Bool
failed_once tries i p = failed_at tries i 0 p || (failed_at tries i 1 p || failed_at tries i 2 p)

-- a seat shows an era in a helper word only where its call may move the clock next, or where the tries of a protection have failed
abbrev pub shows_ok : Config → Test
shows_ok config p i (events.Reserve (Helper k) (Some span)) = may_move (plain_tally config.every i p).course || failed_once config.tries i p
shows_ok config p i event = true

abbrev pub ShowLaw : Config → Past → Type 0
ShowLaw config r = EachEntry (shows_ok config) r

-- while its helper word shows an era, a seat publishes an index word of its own only where its tries there have failed
abbrev pub takes_ok : (tries : ℕ) → Test
takes_ok tries p i (events.Reserve (Index k j) span) = if k == i && shown_of i p then failed_at tries i j p else true
takes_ok tries p i event = true

abbrev pub TakeLaw : (tries : ℕ) → Past → Type 0
TakeLaw tries r = EachEntry (takes_ok tries) r

abbrev pub events_tried : (published : ℕ → ℕ) → List Event → Bool
events_tried published [] = true
events_tried published (event ∷ told) = event_tried published event && events_tried published told

-- so it is after the turn that tells the Held or Null
abbrev pub tries_right : History → ℕ → List Event → Bool
tries_right h i told = events_tried (λ j. reserves_of i j (tells_of (record_of h) i told)) told

abbrev pub RaiseLaw : Past → Type 0
RaiseLaw r = EachEntry raise_ok r

-- the clock stands at its last era
abbrev pub is_era_spent : Answer → Bool
is_era_spent (answers.Clock (moves.EraSpent era)) = true
is_era_spent answer = false

-- the steps that a call with this answer takes, where so many rows went back in it
abbrev pub steps_right : Config → Call → (backs : ℕ) → Answer → (steps : ℕ) → Bool
steps_right config calls.Release backs answer steps = steps == 1
steps_right config (calls.DropIndex index) backs answer steps = steps == 1
steps_right config (calls.Copy from index) backs answer steps = steps == (if not (has_one_interval config.scheme) && is_made answer then 2 else 1)
steps_right config (calls.Look index key) backs answer steps = if is_nothing answer then steps == 1 else nat_le steps (look_most config.pairs)
steps_right config calls.Scan backs answer steps = steps == guards config + backs
steps_right config calls.Advance backs answer steps =
    if is_wfe config.scheme then nat_le steps (clock_most config.seats) else steps == (if is_era_spent answer then 1 else 2)
steps_right config (calls.Hold key) backs answer steps = not (is_wfe config.scheme) || nat_le steps (hold_most config.tries)
steps_right config (calls.Get key) backs answer steps = not (is_wfe config.scheme) || nat_le steps (get_most config.tries config.pairs)
steps_right config call backs answer steps = true

abbrev pub began_steps : Config → Option Call → (backs : ℕ) → Answer → (steps : ℕ) → Bool
began_steps config None backs answer steps = true
began_steps config (Some call) backs answer steps = steps_right config call backs answer steps

-- so it is with the last call that the seat began
abbrev pub end_ok : Config → Test
end_ok config p i (events.End steps answer) = began_steps config (began_of i p) (backs_of i p) answer steps
end_ok config p i event = true

abbrev pub EndLaw : Config → Past → Type 0
EndLaw config r = EachEntry (end_ok config) r

-- Bounds and counts of steps, as the turns of the history and its record show them.
pub record HistorySteps (config : Config) (history : History) (r : Past) : Type 0 where
  -- under Wait-Free Eras a Held or Null tells at most 3 * tries + 12 steps, a Held at index 1 at most three more
  pub numbers : is_wfe config.scheme ≡ true → NumberLaw config.tries r
  -- under Wait-Free Eras a protection tells its row or null after at most 3 * tries + 12 turns of its seat, one that follows after
  -- three more
  pub bounded : is_wfe config.scheme ≡ true → EachTurn (turns_bounded config.tries) history
  -- under Wait-Free Eras a protection is under way for at most 3 * tries + 14 turns of its seat, at index 1 for two more
  pub lasts : is_wfe config.scheme ≡ true → (j : ℕ) → EachTurn (lasts_right config.tries j) history
  -- a helper word that publishes at a Held or Null is withdrawn with the second turn after
  pub withdrawals : EachTurn withdrawn_right history
  -- that Held or Null is the last that its turn tells
  pub founds : EachTurn found_last history
  -- under Wait-Free Eras a helper word publishes only once the tries of a protection under way have failed
  pub helpers : is_wfe config.scheme ≡ true → HelperLaw config.tries r
  -- under Wait-Free Eras a seat shows an era in a helper word only where its call may move the clock, or its tries have failed
  pub shows : is_wfe config.scheme ≡ true → ShowLaw config r
  -- under Wait-Free Eras a seat whose helper word shows an era publishes an index word of its own only where its tries there have
  -- failed
  pub takes : is_wfe config.scheme ≡ true → TakeLaw config.tries r
  -- the eras that a seat whose helper word publishes nothing tells of an index word rise until that publishes nothing
  pub eras_rise : ErasRise r
  -- under Hazard Eras a Held or Null tells three steps for each era that its index word published, and one, and a Held at index 1
  -- one more
  pub tries : is_he config.scheme ≡ true → EachTurn tries_right history
  -- under 2GE a Held or Null tells two steps, and three for each time that the interval was raised, and a Held at index 1 one more
  pub raises : is_ibr config.scheme ≡ true → RaiseLaw r
  -- under hazard pointers a Held or Null tells two steps for each row that its index word published, and one, and a Held at index 1 one
  -- more; in a protection each of these rows is another than the one before it
  pub hazards : publishes_rows config.scheme ≡ true → EachEntry hazards_ok r
  -- the steps of releases, scans and advances, and under Wait-Free Eras of holds and gets
  pub calls : EndLaw config r
  -- each era that a seat tells of an index word is later than the one that the word publishes, but for those that it tells under
  -- Wait-Free Eras while its helper word publishes
  pub tries_rise : TriesRise config.scheme r
  -- under Wait-Free Eras a seat whose protection is under way publishes an era in a helper word only after tries + 1 rising eras of its own
  pub asks : is_wfe config.scheme ≡ true → AskLaw config.tries r
