-- How many steps protections and calls take.
use Rattle.std.specs.Prelude.{Bool, None, Option, Some, false, if◌then◌else◌, is_none, is_some, nat_le, not, true, ℕ, ◌&&◌, ◌*◌, ◌+◌, ◌==◌, ◌||◌, ◌≡◌}
use Rattle.model_record.specs.Record.Past.{Start, Then}
use Rattle.model_record.specs.Record.{EachEntry, Past, Test}
use Rattle.model_record.specs.defs.Bounds.{clock_most, get_most, hold_most, look_most, next_told_most, told_most}
use Rattle.model_record.specs.defs.declared.call.Answer.{Answer}
use Rattle.model_record.specs.defs.declared.call.Answer.TheVariants as answers
use Rattle.model_record.specs.defs.declared.call.Call.TheVariants as calls
use Rattle.model_record.specs.defs.declared.call.Call.{Call}
use Rattle.model_record.specs.defs.declared.event.Event.TheVariants as events
use Rattle.model_record.specs.defs.declared.event.Event.{Event}
use Rattle.model_record.specs.defs.declared.event.Guard.TheVariants.{Helper, Index}
use Rattle.model_record.specs.defs.declared.lifetime.Interval.{Interval}
use Rattle.wfe_words.specs.Schemes.{has_one_interval, is_he, is_ibr, is_wfe, publishes_rows}
use Rattle.wfe_words.specs.declared.config.Config.{Config}
use Rattle.laws.specs.ScanLaw.{guards}
use Rattle.laws.specs.StateAt.{backs_of, began_of, hazards_of, is_found, is_helper, is_index_word, is_row, own_hazard_of, own_rising_of, raised_of, reserves_of, rising_of, tried_of, value_of}

-- with so many tries: three steps more at index 1, whose row stands only after the head was loaded again
abbrev pub few_steps : ℕ → Event → Bool
few_steps tries (events.Held index slot steps) = if index == 1 then nat_le steps (next_told_most tries) else nat_le steps (told_most tries)
few_steps tries (events.Null index steps) = nat_le steps (told_most tries)
few_steps tries event = true

abbrev pub steps_ok : (tries : ℕ) → Test
steps_ok tries p i event = few_steps tries event

-- a row held at index 1 was followed, which is one step more
abbrev pub number_raised : Event → (raised : ℕ) → Bool
number_raised (events.Held index slot steps) raised = steps == (if index == 1 then 3 * raised + 3 else 3 * raised + 2)
number_raised (events.Null index steps) raised = steps == 3 * raised + 2
number_raised event raised = true

abbrev pub raise_ok : Test
raise_ok p i event = number_raised event (raised_of i p)

-- the last entry of seat i is a Held or Null that it told while its helper word published
abbrev pub withdrawal_due : (seat : ℕ) → Past → Bool
withdrawal_due i Start = false
withdrawal_due i (Then p k event) = if i == k then is_found event && is_some (value_of (Helper i) p) else withdrawal_due i p

-- the helper word of seat i is told to publish nothing
abbrev pub withdraws : (seat : ℕ) → Event → Bool
withdraws i (events.Reserve guard span) = is_helper i guard && is_none span
withdraws i event = false

-- after such an entry the seat tells that first, whatever others tell between
abbrev pub withdraw_ok : Test
withdraw_ok p i event = not (withdrawal_due i p) || withdraws i event

abbrev pub WithdrawLaw : Past → Type 0
WithdrawLaw r = EachEntry withdraw_ok r

-- by the intervals told of the index word since it published nothing; a row held at index 1 was followed, which is one step more
abbrev pub event_tried : (published : ℕ → ℕ) → Event → Bool
event_tried published (events.Held index slot steps) = steps == (if index == 1 then 3 * published index + 2 else 3 * published index + 1)
event_tried published (events.Null index steps) = steps == 3 * published index + 1
event_tried published event = true

-- the eras of the index at which a protection is told to end
abbrev pub found_rising : Past → ℕ → Event → Bool
found_rising p i (events.Held index slot steps) = rising_of i index p
found_rising p i (events.Null index steps) = rising_of i index p
found_rising p i event = true

-- where a protection is told to end its number is that of the eras that its index word has published since it published nothing, three
-- for each, and one, or at index 1 where a row stands two; and these eras rose
abbrev pub tries_ok : Test
tries_ok p i event = event_tried (λ j. reserves_of i j p) event && found_rising p i event

abbrev pub TryLaw : Past → Type 0
TryLaw r = EachEntry tries_ok r

-- by the rows told of the index word since it published nothing: two steps for each, and one; a row held at index 1 was followed, which is
-- one step more
abbrev pub number_loaded : (hazards : ℕ → ℕ) → Event → Bool
number_loaded hazards (events.Held index slot steps) = steps == (if index == 1 then 2 * hazards index + 2 else 2 * hazards index + 1)
number_loaded hazards (events.Null index steps) = steps == 2 * hazards index + 1
number_loaded hazards event = true

-- a row told of an index word is another than the one that its seat told there before it in the same protection
abbrev pub shows_another : Past → Event → Bool
shows_another p (events.Hazard (Index k j) (Some slot)) = not (is_row slot (own_hazard_of k j p))
shows_another p event = true

-- where a protection is told to end its number is that of the rows that its index word has published since it published nothing, and each
-- of these is another than the one before it
abbrev pub hazards_ok : Test
hazards_ok p i event = number_loaded (λ j. hazards_of i j p) event && shows_another p event

-- what an event of seat i, after its index word published this, makes of whether a protection is under way there: it begins where the
-- word goes from nothing to an interval, and is over with nothing and with a Held, a Null or a copy
abbrev pub under_way_by : (seat index : ℕ) → (there : Option Interval) → Event → (before : Bool) → Bool
under_way_by i j there (events.Reserve guard span) before = if is_index_word i j guard then is_some span && (before || is_none there) else before
under_way_by i j there (events.Held index slot steps) before = if index == j then false else before
under_way_by i j there (events.Null index steps) before = if index == j then false else before
under_way_by i j there (events.Copied from index slot) before = if index == j then false else before
under_way_by i j there event before = before

-- a protection of seat i at its index j is under way
abbrev pub is_under_way : (seat index : ℕ) → Past → Bool
is_under_way i j Start = false
is_under_way i j (Then p k event) = if i == k then under_way_by i j (value_of (Index i j) p) event (is_under_way i j p) else is_under_way i j p

-- no protection of seat i at the index is under way, or it has published more often than it has tries, at eras that rose
abbrev pub has_tried : (tries seat index : ℕ) → Past → Bool
has_tried tries i j p = not (is_under_way i j p) || (nat_le (tries + 1) (tried_of i j p) && own_rising_of i j p)

-- so it is where a seat publishes an era in its own helper word
abbrev pub ask_ok : (tries index : ℕ) → Test
ask_ok tries j p i (events.Reserve (Helper k) (Some span)) = not (k == i) || has_tried tries i j p
ask_ok tries j p i event = true

-- a copy answers that it was made
abbrev pub is_made : Answer → Bool
is_made (answers.Copied slot) = true
is_made answer = false

-- nothing stood there
abbrev pub is_nothing : Answer → Bool
is_nothing answers.Nothing = true
is_nothing answer = false

-- the steps that a call with this answer takes, where so many rows went back in it
abbrev pub steps_right : Config → Call → (backs : ℕ) → Answer → (steps : ℕ) → Bool
steps_right config calls.Release backs answer steps = steps == 1
steps_right config (calls.DropIndex index) backs answer steps = steps == 1
steps_right config (calls.Copy from index) backs answer steps = steps == (if not (has_one_interval config.scheme) && is_made answer then 2 else 1)
steps_right config (calls.Look index key) backs answer steps = if is_nothing answer then steps == 1 else nat_le steps (look_most config.pairs)
steps_right config calls.Scan backs answer steps = steps == guards config + backs
steps_right config calls.Advance backs answer steps = if is_wfe config.scheme then nat_le steps (clock_most config.seats) else nat_le steps 2
steps_right config (calls.Hold key) backs answer steps = not (is_wfe config.scheme) || nat_le steps (hold_most config.tries)
steps_right config (calls.Get key) backs answer steps = not (is_wfe config.scheme) || nat_le steps (get_most config.tries config.pairs)
steps_right config call backs answer steps = true

abbrev pub began_steps : Config → Option Call → (backs : ℕ) → Answer → (steps : ℕ) → Bool
began_steps config None backs answer steps = true
began_steps config (Some call) backs answer steps = steps_right config call backs answer steps

-- so it is with the last call that the seat began
abbrev pub end_ok : Config → Test
end_ok config p i (events.End steps answer) = began_steps config (began_of i p) (backs_of i p) answer steps
end_ok config p i event = true

-- Bounds and counts of steps, as the record shows them.
pub record StepLaw (config : Config) (r : Past) : Type 0 where
  -- under Wait-Free Eras a Held or Null tells at most 3 * tries + 12 steps, a Held at index 1 at most three more
  pub numbers : is_wfe config.scheme ≡ true → EachEntry (steps_ok config.tries) r
  -- under Wait-Free Eras a helper word that publishes at a Held or Null is withdrawn with the seat's next entry
  pub withdrawals : is_wfe config.scheme ≡ true → EachEntry withdraw_ok r
  -- under Hazard Eras a Held or Null tells three steps for each era that its index word has published, and one, and a Held at index 1
  -- one more; these eras rise
  pub tries : is_he config.scheme ≡ true → EachEntry tries_ok r
  -- under 2GE a Held or Null tells two steps, and three for each time that the interval was raised, and a Held at index 1 one more
  pub raises : is_ibr config.scheme ≡ true → EachEntry raise_ok r
  -- under hazard pointers a Held or Null tells two steps for each row that its index word has published, and one, and a Held at index 1 one
  -- more; in a protection each of these rows is another than the one before it
  pub hazards : publishes_rows config.scheme ≡ true → EachEntry hazards_ok r
  -- under Wait-Free Eras a seat whose protection at an index is under way publishes its helper word only after it has published tries + 1
  -- rising eras there itself
  pub asks : is_wfe config.scheme ≡ true → (j : ℕ) → EachEntry (ask_ok config.tries j) r
  -- the steps of releases, drops, copies, looks, scans and advances, and under Wait-Free Eras of holds and gets
  pub calls : EachEntry (end_ok config) r
