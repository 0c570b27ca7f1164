-- A put or a remove reads the bucket's row, writes its pairs with the change into a row of its own, and exchanges the root.
use Rattle.std.specs.Prelude.{ℕ, ◌==◌, ◌+◌, ◌-◌, ◌&&◌, Bool, true, false, not, if◌then◌else◌, nat_lt, List, [], ◌∷◌, ◌++◌, length, Option, Some, None, is_some}
use Rattle.wfe_words.specs.Place.Place.{Bucket, Row}
use Rattle.wfe_words.specs.declared.config.Config.{Config}
use Rattle.wfe_defs.specs.declared.call.Answer.{Answer}
use Rattle.wfe_defs.specs.declared.call.Answer.TheVariants as answers
use Rattle.wfe_defs.specs.declared.call.ClockMove.TheVariants as moves
use Rattle.wfe_defs.specs.declared.event.Event.{Event}
use Rattle.wfe_defs.specs.declared.event.Event.TheVariants as events
use Rattle.wfe_defs.specs.declared.event.Root.TheVariants as roots
use Rattle.wfe_defs.specs.declared.fold.Change.{Change}
use Rattle.wfe_defs.specs.declared.fold.Change.TheVariants as changes
use Rattle.wfe_defs.specs.Pairs.{Pair, changed, value_in}
use Rattle.wfe_core.specs.declared.post.Post.{Post}
use Rattle.wfe_core.specs.Desks.{Desk}
use Rattle.wfe_core.specs.Get.{key_place, value_place}
use Rattle.wfe_core.specs.Memory.{Move, Load, Cas}
use Rattle.wfe_core.specs.Phases.{Base, RowOf, MapRow}
use Rattle.wfe_core.specs.Phases.Base.{Allocate}
use Rattle.wfe_core.specs.Phases.AllocateAt.{LoadBirth}
use Rattle.wfe_core.specs.WriteRow.{writing}
use Rattle.wfe_core.specs.Calls.{ChangeKept, Changes, Next, Again, MakeRoom, Answering, Retiring, Fills, ChangeAt, LoadVersion, LoadCount, LoadKey, LoadValue, ExchangeRoot, Works, Changing, Runs, CallTurn, goes_on}
use Rattle.wfe_core.specs.Rounds.{key_of, bucket_of, clearing}

-- the bucket that is changed
abbrev pub changed_bucket : ChangeKept → Post → ℕ
changed_bucket kept post = bucket_of post (key_of kept.change)

abbrev pub change_move : ChangeKept → ChangeAt → Post → Move
change_move kept (LoadVersion slot) post = Load (Row slot 1)
change_move kept (LoadCount slot) post = Load (Row slot 2)
change_move kept (LoadKey slot count) post = Load (Row slot (key_place (length kept.pairs)))
change_move kept (LoadValue slot count key) post = Load (Row slot (value_place (length kept.pairs)))
change_move kept (ExchangeRoot slot) post = Cas (Bucket (changed_bucket kept post)) kept.link (slot + 1)

-- the key is among the pairs
abbrev pub has_key : List Pair → ℕ → Bool
has_key pairs key = is_some (value_in pairs key)

-- why a change of these pairs is refused, if it is
abbrev pub refusal : Config → ℕ → List Pair → Change → Option Answer
refusal config version pairs (changes.Put key value) =
    if version == config.last_version then Some (answers.Spent version)
    else if not (has_key pairs key) && length pairs == config.pairs then Some (answers.BucketFull version)
    else None
refusal config version pairs (changes.Removed key) =
    if not (has_key pairs key) then Some (answers.Absent version)
    else if version == config.last_version then Some (answers.Spent version)
    else None

-- where a change names a version, it is refused first at another
abbrev pub stale_or : Option ℕ → ℕ → Option Answer → Option Answer
stale_or None version other = other
stale_or (Some wanted) version other = if version == wanted then other else Some (answers.Stale version)

-- why the change is refused, if it is
abbrev pub refused : Config → ChangeKept → Option Answer
refused config kept = stale_or kept.wanted kept.version (refusal config kept.version kept.pairs kept.change)

-- the row that is written
abbrev pub new_row : ChangeKept → RowOf
new_row kept = MapRow (kept.version + 1) kept.pairs

-- a row is taken, unless one is
abbrev pub filling_by : ChangeKept → Option ℕ → Base
filling_by kept None = Allocate LoadBirth
filling_by kept (Some slot) = writing slot (new_row kept)

abbrev pub filling : ChangeKept → Base
filling kept = filling_by kept kept.taken

abbrev pub with_change : ChangeKept → ChangeKept
with_change kept = record kept { pairs = changed kept.pairs kept.change }

abbrev pub deciding_by : ChangeKept → Post → Desk → List Event → Option Answer → CallTurn
deciding_by kept post desk told (Some answer) = clearing (Changes kept) (Answering answer) post desk told
deciding_by kept post desk told None = goes_on post desk told (Runs (Fills (Changes (with_change kept))) (filling (with_change kept)))

-- the row is read: it is refused, or the new one is filled
abbrev pub deciding : ChangeKept → Post → Desk → List Event → CallTurn
deciding kept post desk told =
    deciding_by kept post desk told (refused post.layout.config kept)

-- the root was protected with this link
abbrev pub at_link : ChangeKept → ℕ → ChangeKept
at_link kept link = record kept { link = link; version = 0; pairs = [] }

-- the next pair, if there is one
abbrev pub reading : ChangeKept → ℕ → ℕ → Post → Desk → (more : Bool) → CallTurn
reading kept slot count post desk true = goes_on post desk [] (Works (Changing kept (LoadKey slot count)))
reading kept slot count post desk false = deciding kept post desk []

abbrev pub with_read : ChangeKept → ℕ → ℕ → ChangeKept
with_read kept key value = record kept { pairs = kept.pairs ++ (key, value) ∷ [] }

-- a row was given to the call
abbrev pub with_taken : ChangeKept → ℕ → ChangeKept
with_taken kept slot = record kept { taken = Some slot }

-- a walk failed: room is made once
abbrev pub no_room : (walked : Bool) → Next
no_room false = MakeRoom
no_room true = Answering answers.Full

abbrev pub with_walked : ChangeKept → ChangeKept
with_walked kept = record kept { walked = true }

-- Cut is told where there was a row
abbrev pub told_cut : ℕ → List Event
told_cut link = if link == 0 then [] else events.Cut (link - 1) ∷ []

-- the event of a change
abbrev pub told_change : ℕ → ℕ → Change → Event
told_change bucket version (changes.Put key value) = events.Put bucket version key value
told_change bucket version (changes.Removed key) = events.Removed bucket version key

-- what the exchange of the root tells
abbrev pub told_linked : ChangeKept → ℕ → Post → List Event
told_linked kept slot post =
    events.Link (roots.Bucket (changed_bucket kept post)) slot ∷ told_cut kept.link
    ++ told_change (changed_bucket kept post) (kept.version + 1) kept.change ∷ []

-- a row that was cut is retired before the answer
abbrev pub answer_done : ℕ → ℕ → Next
answer_done version link =
    if link == 0
    then Answering (answers.Done version moves.Still)
    else Retiring (link - 1) (answers.Done version moves.Still)

abbrev pub exchanged : ChangeKept → ℕ → Post → Desk → (same : Bool) → CallTurn
exchanged kept slot post desk true =
    clearing (Changes (record kept { taken = None })) (answer_done (kept.version + 1) kept.link) post desk (told_linked kept slot post)
exchanged kept slot post desk false = clearing (Changes kept) Again post desk []

-- one step of a change's own
abbrev pub change_turn : ChangeKept → ChangeAt → Post → Desk → ℕ → CallTurn
change_turn kept (LoadVersion slot) post desk found =
    goes_on post desk [] (Works (Changing (record kept { version = found }) (LoadCount slot)))
change_turn kept (LoadCount slot) post desk found = reading kept slot found post desk (nat_lt 0 found)
change_turn kept (LoadKey slot count) post desk found = goes_on post desk [] (Works (Changing kept (LoadValue slot count found)))
change_turn kept (LoadValue slot count key) post desk found =
    reading (with_read kept key found) slot count post desk (nat_lt (length kept.pairs + 1) count)
change_turn kept (ExchangeRoot slot) post desk found = exchanged kept slot post desk (found == kept.link)
