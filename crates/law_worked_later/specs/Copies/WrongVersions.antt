-- Records that a sentence refuses on puts that name a version. Each is refused by the laws that are named, and by no other.
use Rattle.std.specs.Prelude.{List, [], ◌∷◌, None, map, ◌≡◌}
use Rattle.wfe_core.specs.words.declared.config.SchemeKind.TheVariants.{He}
use Rattle.wfe_core.specs.words.declared.layout.Layout.{Layout}
use Rattle.wfe_core.specs.defs.declared.call.Answer.TheVariants as answers
use Rattle.wfe_core.specs.defs.declared.call.Call.TheVariants as calls
use Rattle.wfe_core.specs.defs.declared.call.ClockMove.TheVariants as moves
use Rattle.wfe_core.specs.defs.declared.event.Event.TheVariants as events
use Rattle.wfe_core.specs.defs.declared.event.Guard.TheVariants as guards
use Rattle.wfe_core.specs.Guards.{from_to}
use Rattle.model_history.specs.Among.{said}
use Rattle.law_worked.specs.Edited.{Wrong, wrong, named_by, refused_by}
use Rattle.law_worked.specs.Edited.Edit.{Before, Instead, Without, Until}
use Rattle.law_worked.specs.Judges.Law.{Room, Sources, Finds, Told, Reasons, Lacks, Counted, Refusals, Repeats}
use Rattle.law_worked.specs.Full.{full, full_setting}
use Rattle.law_worked_later.specs.Copies.AtVersion.{at_version, at_version_setting}
use Rattle.law_worked_later.specs.Copies.Settings.{table}

-- the first version is the last
abbrev pub worn_setting : Layout
worn_setting = table He 1 3 8 2 100 100 1 14

-- rows with one pair, of which no table is made
abbrev pub narrow_setting : Layout
narrow_setting = table He 1 3 8 2 100 100 100 1

abbrev pub wrong_versions : List Wrong
wrong_versions =
    -- a put is done at another version than it names
    wrong at_version_setting.config at_version (Instead 14 (said 0 (events.Begin (calls.PutIf 7 72 0))) ∷ []) (Reasons ∷ [])
    -- a first put is done that names a later version
    ∷ wrong at_version_setting.config at_version (Instead 0 (said 0 (events.Begin (calls.PutIf 7 70 1))) ∷ []) (Reasons ∷ [])
    -- a put answers another version than it made
    ∷ wrong at_version_setting.config at_version (Instead 24 (said 0 (events.End 20 (answers.Done 3 moves.Still))) ∷ []) (Told ∷ Reasons ∷ [])
    -- a put answers what it did not tell
    ∷ wrong at_version_setting.config at_version (Instead 14 (said 0 (events.Begin (calls.PutIf 7 73 1))) ∷ []) (Told ∷ [])
    -- a put is stale at the version that it names
    ∷ wrong at_version_setting.config at_version (Instead 8 (said 0 (events.Begin (calls.PutIf 7 71 1))) ∷ []) (Reasons ∷ [])
    -- a put is stale at a version that has not come
    ∷ wrong at_version_setting.config at_version (Instead 13 (said 0 (events.End 9 (answers.Stale 2))) ∷ []) (Reasons ∷ [])
    -- a put is stale at a version that was there before the call alone
    ∷ wrong at_version_setting.config at_version (Instead 8 (said 0 (events.Begin (calls.PutIf 7 71 2))) ∷ Instead 13 (said 0 (events.End 9 (answers.Stale 0))) ∷ []) (Reasons ∷ [])
    -- a stale put has changed the map
    ∷ wrong at_version_setting.config at_version (Instead 0 (said 0 (events.Begin (calls.PutIf 7 70 5))) ∷ Instead 7 (said 0 (events.End 13 (answers.Stale 1))) ∷ []) (Refusals ∷ [])
    -- a stale put has retired a row
    ∷ wrong at_version_setting.config at_version (Instead 14 (said 0 (events.Begin (calls.PutIf 7 72 5))) ∷ Instead 24 (said 0 (events.End 20 (answers.Stale 2))) ∷ []) (Counted ∷ Refusals ∷ [])
    -- a put of any version is stale
    ∷ wrong at_version_setting.config at_version (Instead 8 (said 0 (events.Begin (calls.Put 7 71))) ∷ []) (Told ∷ [])
    -- a put is spent at another version than it names
    ∷ wrong worn_setting.config at_version (Instead 13 (said 0 (events.End 9 (answers.Spent 1))) ∷ Until 14 ∷ []) (Reasons ∷ [])
    -- a put is spent before the last version
    ∷ wrong at_version_setting.config at_version (Instead 8 (said 0 (events.Begin (calls.PutIf 7 71 1))) ∷ Instead 13 (said 0 (events.End 9 (answers.Spent 1))) ∷ []) (Reasons ∷ [])
    -- a put finds its bucket full at another version than it names
    ∷ wrong narrow_setting.config at_version (Instead 8 (said 0 (events.Begin (calls.PutIf 8 71 0))) ∷ Instead 13 (said 0 (events.End 9 (answers.BucketFull 1))) ∷ Until 14 ∷ []) (Reasons ∷ [])
    -- a put finds its bucket full that has room
    ∷ wrong at_version_setting.config at_version (Instead 8 (said 0 (events.Begin (calls.PutIf 8 71 1))) ∷ Instead 13 (said 0 (events.End 9 (answers.BucketFull 1))) ∷ []) (Reasons ∷ [])
    -- a full table refuses a put that names another version than it met
    ∷ wrong full_setting.config full (Instead 23 (said 0 (events.Begin (calls.PutIf 7 72 1))) ∷ Until 37 ∷ []) (Lacks ∷ [])
    -- a put that names a version scans for room while rows are free
    ∷ wrong at_version_setting.config at_version (Before 11 (said 0 (events.Read (guards.Index 0 0) (from_to 1 1))) ∷ Before 11 (said 0 (events.Read (guards.Index 0 1) None)) ∷ Before 11 (said 0 (events.Read (guards.Index 0 2) None)) ∷ []) (Room ∷ [])
    -- a put that names a version ends without a look at its root
    ∷ wrong at_version_setting.config at_version (Without 10 ∷ Without 11 ∷ []) (Finds ∷ [])
    -- a put that names a version holds a row that the root never had
    ∷ wrong at_version_setting.config at_version (Instead 10 (said 0 (events.Held 0 8 4)) ∷ Until 11 ∷ []) (Sources ∷ [])
    -- a put that names a version looks at its root twice
    ∷ wrong at_version_setting.config at_version (Before 11 (said 0 (events.Clear 0 0)) ∷ Before 11 (said 0 (events.Held 0 0 4)) ∷ []) (Repeats ∷ []) ∷ []

abbrev pub WrongVersionsRefused : Type 0
WrongVersionsRefused = map refused_by wrong_versions ≡ map named_by wrong_versions
