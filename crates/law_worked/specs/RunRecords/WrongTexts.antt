-- Lines that are of no run, whatever the table is that was left: a line is missing, told twice, or stands in another place, or the calls are not
-- those of the scripts.
use Rattle.std.specs.List.{AllByRecursion}
use Rattle.std.specs.Prelude.{List, None, Some, [], drop, take, ℕ, ◌++◌, ◌∷◌}
use Rattle.law_all.specs.inv.model.defs.declared.call.Answer.TheVariants as answers
use Rattle.law_all.specs.inv.model.defs.declared.call.Call.{Call}
use Rattle.law_all.specs.inv.model.defs.declared.call.Call.TheVariants as calls
use Rattle.law_all.specs.inv.model.defs.declared.call.ClockMove.TheVariants as moves
use Rattle.law_all.specs.inv.model.defs.declared.event.Event.{Event}
use Rattle.law_all.specs.inv.model.defs.declared.event.Event.TheVariants as events
use Rattle.law_all.specs.inv.model.words.declared.config.Config.{Config}
use Rattle.law_all.specs.RunLaw.{AtClose, IsRun}
use Rattle.law_worked.specs.RunRecords.Handed.{handed_lines_0, handed_lines_1, handed_lines_2, handed_scripts, handed_setting}
use Rattle.law_worked.specs.RunRecords.Kept.{kept_lines_0, kept_lines_1, kept_scripts, kept_setting}
use Rattle.law_worked.specs.RunRecords.Runs.{at_place}
use Rattle.law_worked.specs.RunRecords.Shared.{shared_lines_0, shared_lines_1, shared_scripts, shared_setting}

-- a setting, the scripts of the seats, and what each seat printed
pub record Text : Type 0 where
  pub config : Config
  pub scripts : List (List Call)
  pub seats : List (List Event)

abbrev shared_text : Text
shared_text = record { config = shared_setting; scripts = shared_scripts; seats = shared_lines_0 ∷ shared_lines_1 ∷ [] }

abbrev kept_text : Text
kept_text = record { config = kept_setting; scripts = kept_scripts; seats = kept_lines_0 ∷ kept_lines_1 ∷ [] }

abbrev handed_text : Text
handed_text = record { config = handed_setting; scripts = handed_scripts; seats = handed_lines_0 ∷ handed_lines_1 ∷ handed_lines_2 ∷ [] }

-- in the place of a seat's line these are printed; lines count from 0
abbrev line_in : Text → (seat place : ℕ) → List Event → Text
line_in text seat place lines = record text { seats = at_place seat (λ told. at_place place (λ line. lines) told ∷ []) text.seats }

abbrev line_as : (seat place : ℕ) → List Event → Text
line_as seat place lines = line_in shared_text seat place lines

-- the lines are the same, and the scripts are others
abbrev scripts_as : List (List Call) → Text
scripts_as scripts = record shared_text { scripts = scripts }

abbrev script_as : (seat : ℕ) → (List Call → List Call) → Text
script_as seat change = scripts_as (at_place seat (λ script. change script ∷ []) shared_scripts)

abbrev pub wrong_texts : List Text
wrong_texts =
    -- a call does not begin, and one does not end
    line_as 0 4 []
    ∷ line_as 0 8 []
    -- a call begins that is not the script's
    ∷ line_as 1 9 (events.Begin calls.Advance ∷ [])
    -- what a call has done is not told, or twice, or with another version, or of another bucket
    ∷ line_as 0 2 []
    ∷ line_as 0 2 (events.Put 0 1 0 99 ∷ events.Put 0 1 0 99 ∷ [])
    ∷ line_as 0 2 (events.Put 0 2 0 99 ∷ [])
    ∷ line_as 0 2 (events.Put 1 1 0 99 ∷ [])
    -- a get tells another value than it answers, and a dequeue another number
    ∷ line_as 0 24 (events.Got 0 4 0 None ∷ [])
    ∷ line_as 0 16 (events.Taken 2 71 ∷ [])
    -- a refused call tells a change, and one that finds the queue empty a value
    ∷ line_as 0 14 (events.Put 0 4 0 33 ∷ events.End 30 answers.Full ∷ [])
    ∷ line_as 0 22 (events.Taken 2 94 ∷ events.End 11 answers.Empty ∷ [])
    -- a row is given after the change, and one is given twice
    ∷ line_as 0 2 (events.Put 0 1 0 99 ∷ events.Give 0 1 ∷ [])
    ∷ line_as 0 1 (events.Give 0 1 ∷ events.Give 0 1 ∷ [])
    -- a row is given up that was not given in the call, or before it was
    ∷ line_as 1 27 (events.Unused 3 ∷ [])
    ∷ line_as 1 26 (events.Unused 2 ∷ events.Give 2 4 ∷ [])
    -- a row is retired before the change, and one is retired twice
    ∷ line_as 0 6 (events.Retire 1 1 1 ∷ events.Removed 0 3 0 ∷ [])
    ∷ line_as 0 7 (events.Retire 1 1 1 ∷ events.Retire 1 1 1 ∷ [])
    -- a row goes back between the change and the row's retirement, and one goes back between two calls
    ∷ line_as 1 17 (events.Put 0 4 0 42 ∷ events.Back 0 ∷ [])
    ∷ line_as 0 20 (events.End 28 (answers.Taken 1 71 (moves.Other 4)) ∷ events.Back 5 ∷ [])
    -- a line of another kind
    ∷ line_as 1 19 (events.Era 4 ∷ events.Back 2 ∷ [])
    -- a call of the script is not made, and one is made that is not in it
    ∷ script_as 0 (λ script. script ++ calls.Scan ∷ [])
    ∷ script_as 1 (λ script. take 6 script)
    -- the calls of a script are made in another order
    ∷ script_as 1 (λ script. calls.Put 1 54 ∷ calls.Put 2 71 ∷ drop 2 script)
    -- a seat has no script, and a script no seat
    ∷ scripts_as (take 1 shared_scripts)
    ∷ scripts_as (shared_scripts ++ [] ∷ [])
    -- a copy tells what was copied before it ends, and a look what it read
    ∷ line_in kept_text 1 6 (events.Copied 2 3 0 ∷ events.End 2 (answers.Copied 0) ∷ [])
    ∷ line_in kept_text 1 8 (events.Got 0 1 0 (Some 10) ∷ events.End 4 (answers.Looked 0 1 (Some 10)) ∷ [])
    -- a put at a version does not tell its change, or tells one and is stale
    ∷ line_in kept_text 0 6 []
    ∷ line_in kept_text 1 10 (events.Put 0 2 0 77 ∷ events.End 9 (answers.Stale 2) ∷ [])
    -- a put at another version, a copy to another index, a look for another key, and a drop of another index than the script's
    ∷ line_in kept_text 0 4 (events.Begin (calls.PutIf 0 11 0) ∷ [])
    ∷ line_in kept_text 1 5 (events.Begin (calls.Copy 2 4) ∷ [])
    ∷ line_in kept_text 1 7 (events.Begin (calls.Look 3 2) ∷ [])
    ∷ line_in kept_text 1 21 (events.Begin (calls.DropIndex 4) ∷ [])
    -- a seat leaves and does not tell so, tells it twice, or of another number than it answers
    ∷ line_in handed_text 0 10 []
    ∷ line_in handed_text 0 10 (events.Left 1 ∷ events.Left 1 ∷ [])
    ∷ line_in handed_text 0 10 (events.Left 2 ∷ [])
    -- a scan tells that its seat leaves
    ∷ line_in handed_text 1 6 (events.Left 1 ∷ events.End 9 (answers.Scanned 1 0) ∷ [])
    -- a list is taken over and not told to be, told twice, told to be another one, or with another number
    ∷ line_in handed_text 1 3 []
    ∷ line_in handed_text 1 3 (events.Adopted 0 1 ∷ events.Adopted 0 1 ∷ [])
    ∷ line_in handed_text 1 3 (events.Adopted 2 1 ∷ [])
    ∷ line_in handed_text 1 3 (events.Adopted 0 2 ∷ [])
    -- a call tells that it takes over a list that was not left
    ∷ line_in handed_text 1 1 (events.Adopted 0 0 ∷ events.End 1 answers.NotLeft ∷ [])
    -- a call for another list than the script's
    ∷ line_in handed_text 2 2 (events.Begin (calls.Adopt 1) ∷ []) ∷ []

abbrev pub IsNoRun : Text → Type 0
IsNoRun text = (closed : AtClose) → IsRun text.config text.scripts text.seats closed → ⊥

abbrev pub WrongTextsRefused : Type 0
WrongTextsRefused = AllByRecursion IsNoRun wrong_texts
