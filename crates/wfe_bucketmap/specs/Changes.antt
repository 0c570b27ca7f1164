-- Where the work of a change on the bucket's row stands, as phases of the model.
use Rattle.std.specs.Prelude.{◌<◌, ◌+◌, List, Option, Some, None}
use Rattle.wfe_core.specs.defs.declared.event.Event.{Event}
use Rattle.wfe_core.specs.declared.post.Post.{Post}
use Rattle.wfe_core.specs.Calls.{ChangeKept, ChangeAt, LoadVersion, LoadCount, LoadKey, LoadValue, ExchangeRoot, Changes, Fills, Phase, Runs, Works, Changing, CallTurn, goes_on}
use Rattle.wfe_core.specs.Change.{filling}
use Rattle.wfe_core.specs.Desks.{Desk}
use Rattle.wfe_core.specs.Rounds.{clearing}
use Rattle.wfe_call_rounds.specs.Endings.{next_of}
use Rattle.wfe_call_rounds.specs.Leavings.{over_turn}
use Rattle.wfe_bucketmap.specs.declared.change_at.Kept.{Kept}
use Rattle.wfe_bucketmap.specs.declared.change_at.ChangeAt.{ChangeAt as At}
use Rattle.wfe_bucketmap.specs.declared.change_at.ChangeAt.TheVariants as ats
use Rattle.wfe_bucketmap.specs.declared.change_at.Changed.{Changed}
use Rattle.wfe_bucketmap.specs.declared.change_at.Changed.TheVariants as leads

abbrev pub kept_of : Kept → ChangeKept
kept_of kept = record { change = kept.change; wanted = kept.wanted; taken = kept.taken; walked = kept.walked; link = kept.link; version = kept.version; pairs = kept.pairs }

abbrev pub at_of : At → ChangeAt
at_of (ats.LoadVersion slot) = LoadVersion slot
at_of (ats.LoadCount slot) = LoadCount slot
at_of (ats.LoadKey slot count) = LoadKey slot count
at_of (ats.LoadValue slot count key) = LoadValue slot count key
at_of (ats.ExchangeRoot slot) = ExchangeRoot slot

-- the turn that leads there
abbrev pub led : ChangeKept → Changed → Post → Desk → List Event → CallTurn
led kept (leads.Goes at) post desk told = goes_on post desk told (Works (Changing kept (at_of at)))
led kept leads.Fills post desk told = goes_on post desk told (Runs (Fills (Changes kept)) (filling kept))
led kept (leads.Ends ending) post desk told = clearing (Changes kept) (next_of ending) post desk told
led kept (leads.Passes over) post desk told = over_turn (Changes kept) over post desk told

-- what runs goes on at this phase, or the call is led on
abbrev pub ran : ChangeKept → Option Changed → Post → Desk → List Event → Phase → CallTurn
ran kept None post desk told phase = goes_on post desk told phase
ran kept (Some step) post desk told phase = led kept step post desk told

-- a row is filled only with a version that there is
abbrev pub LedWithin : ChangeKept → Changed → Type 0
LedWithin kept (leads.Goes at) = Unit {0}
LedWithin kept leads.Fills = kept.version + 1 < 18446744073709551616
LedWithin kept (leads.Ends ending) = Unit {0}
LedWithin kept (leads.Passes over) = Unit {0}
