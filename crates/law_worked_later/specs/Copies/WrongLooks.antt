-- Records that a sentence refuses on what copies, drops and looks answer. Each is refused by the laws that are named, and by no other.
use Rattle.std.specs.Prelude.{List, [], ◌∷◌, Some, None, map, ◌≡◌}
use Rattle.wfe_core.specs.defs.declared.call.Answer.TheVariants as answers
use Rattle.wfe_core.specs.defs.declared.call.Call.TheVariants as calls
use Rattle.wfe_core.specs.defs.declared.event.Event.TheVariants as events
use Rattle.wfe_core.specs.defs.declared.event.Guard.TheVariants as guards
use Rattle.wfe_core.specs.defs.declared.event.Root.TheVariants as roots
use Rattle.wfe_core.specs.Guards.{from_to}
use Rattle.model_history.specs.Among.{said}
use Rattle.law_worked.specs.Edited.{Wrong, wrong, named_by, refused_by}
use Rattle.law_worked.specs.Edited.Edit.{Before, Instead, Without, Until}
use Rattle.law_worked.specs.Judges.Law.{CallSteps, Told, Reasons, Ranges}
use Rattle.law_worked_later.specs.Copies.Copied.{copied, copied_setting}
use Rattle.law_worked_later.specs.Copies.CopiedAnew.{copied_anew, copied_anew_setting}
use Rattle.law_worked_later.specs.Copies.KeptTwice.{kept_twice, kept_twice_setting}

abbrev pub wrong_looks : List Wrong
wrong_looks =
    -- a copy answers a row that it has not told, though it stands there
    wrong copied_anew_setting.config copied_anew (Without 27 ∷ Without 28 ∷ Without 29 ∷ Without 30 ∷ Without 31 ∷ Without 32 ∷ Without 37 ∷ Without 38 ∷ Without 39 ∷ Instead 40 (said 1 (events.End 2 (answers.Copied 0))) ∷ Until 41 ∷ []) (Told ∷ [])
    -- a copy answers a row that stands at no second index
    ∷ wrong kept_twice_setting.config kept_twice (Without 13 ∷ Until 15 ∷ []) (Told ∷ Reasons ∷ [])
    -- a copy answers another row than it has told
    ∷ wrong kept_twice_setting.config kept_twice (Instead 14 (said 1 (events.End 1 (answers.Copied 1))) ∷ Until 15 ∷ []) (Told ∷ Reasons ∷ [])
    -- a copy finds nothing where a row stands
    ∷ wrong kept_twice_setting.config kept_twice (Without 13 ∷ Instead 14 (said 1 (events.End 1 answers.Nothing)) ∷ Until 15 ∷ []) (Reasons ∷ [])
    -- a copy finds nothing, and has told something
    ∷ wrong kept_twice_setting.config kept_twice (Before 39 (said 1 (events.Reserve (guards.Whole 1) None)) ∷ []) (Reasons ∷ [])
    -- a copy answers as a drop
    ∷ wrong kept_twice_setting.config kept_twice (Instead 39 (said 1 (events.End 1 answers.Dropped)) ∷ []) (Told ∷ [])
    -- a row is dropped that still stands
    ∷ wrong copied_setting.config copied (Without 47 ∷ Without 48 ∷ []) (Reasons ∷ [])
    -- a drop answers as a release
    ∷ wrong copied_setting.config copied (Instead 49 (said 1 (events.End 1 answers.Released)) ∷ []) (Told ∷ [])
    -- a look answers the row that is in its place now
    ∷ wrong copied_setting.config copied (Instead 35 (said 1 (events.End 4 (answers.Looked 1 2 (Some 71)))) ∷ []) (Reasons ∷ [])
    -- a look answers another row
    ∷ wrong copied_setting.config copied (Instead 35 (said 1 (events.End 4 (answers.Looked 1 1 (Some 70)))) ∷ []) (Reasons ∷ [])
    -- a look answers the version that is there now, and its value
    ∷ wrong copied_setting.config copied (Instead 35 (said 1 (events.End 4 (answers.Looked 0 2 (Some 71)))) ∷ []) (Reasons ∷ [])
    -- a look answers another version
    ∷ wrong copied_setting.config copied (Instead 35 (said 1 (events.End 4 (answers.Looked 0 2 (Some 70)))) ∷ []) (Reasons ∷ [])
    -- a look answers the value that is there now
    ∷ wrong copied_setting.config copied (Instead 35 (said 1 (events.End 4 (answers.Looked 0 1 (Some 71)))) ∷ []) (Reasons ∷ [])
    -- a look finds no value of a key that is there
    ∷ wrong copied_setting.config copied (Instead 35 (said 1 (events.End 4 (answers.Looked 0 1 None))) ∷ []) (Reasons ∷ [])
    -- a look finds a value of a key that is not there
    ∷ wrong kept_twice_setting.config kept_twice (Instead 33 (said 1 (events.End 3 (answers.Looked 0 1 (Some 70)))) ∷ []) (Reasons ∷ [])
    -- a look answers a row at another index than its own
    ∷ wrong copied_setting.config copied (Instead 34 (said 1 (events.Begin (calls.Look 2 7))) ∷ []) (Reasons ∷ [])
    -- a look finds nothing where a row stands
    ∷ wrong copied_setting.config copied (Instead 35 (said 1 (events.End 1 answers.Nothing)) ∷ []) (Reasons ∷ [])
    -- a look finds a row where none stands
    ∷ wrong copied_anew_setting.config copied_anew (Instead 46 (said 1 (events.End 4 (answers.Looked 1 2 (Some 71)))) ∷ []) (Reasons ∷ [])
    -- a look answers the version that a row showed before it was given again
    ∷ wrong kept_twice_setting.config kept_twice (Before 45 (said 0 (events.Begin (calls.Put 7 72))) ∷ Before 45 (said 0 (events.Reserve (guards.Whole 0) (from_to 2 2))) ∷ Before 45 (said 0 (events.Held 0 1 2)) ∷ Before 45 (said 0 (events.Give 0 2)) ∷ Before 45 (said 0 (events.Link (roots.Bucket 0) 0)) ∷ Before 45 (said 0 (events.Cut 1)) ∷ Before 45 (said 0 (events.Put 0 3 7 72)) ∷ Before 45 (said 1 (events.Begin (calls.Hold 7))) ∷ Before 45 (said 1 (events.Reserve (guards.Whole 1) (from_to 2 2))) ∷ Before 45 (said 1 (events.Held 2 0 2)) ∷ Before 45 (said 1 (events.End 4 (answers.Holding 0))) ∷ Before 45 (said 1 (events.Begin (calls.Look 2 7))) ∷ Before 45 (said 1 (events.End 4 (answers.Looked 0 1 (Some 70)))) ∷ []) (Reasons ∷ [])
    -- a look answers as a get
    ∷ wrong copied_setting.config copied (Instead 35 (said 1 (events.End 4 (answers.Got 1 (Some 70)))) ∷ []) (Told ∷ [])
    -- a look answers a row that the table does not have
    ∷ wrong copied_setting.config copied (Instead 35 (said 1 (events.End 4 (answers.Looked 9 1 (Some 70)))) ∷ []) (Reasons ∷ Ranges ∷ [])
    -- a look takes one step too many
    ∷ wrong copied_setting.config copied (Instead 35 (said 1 (events.End 10 (answers.Looked 0 1 (Some 70)))) ∷ []) (CallSteps ∷ [])
    -- a look at nothing takes two steps
    ∷ wrong copied_anew_setting.config copied_anew (Instead 46 (said 1 (events.End 2 answers.Nothing)) ∷ []) (CallSteps ∷ []) ∷ []

abbrev pub WrongLooksRefused : Type 0
WrongLooksRefused = map refused_by wrong_looks ≡ map named_by wrong_looks
