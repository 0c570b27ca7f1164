-- Where an enqueue's work on its rows stands, as phases of the model.
use Rattle.std.specs.Prelude.{◌<◌, ◌+◌, List, Option, Some, None}
use Rattle.wfe_core.specs.defs.declared.event.Event.{Event}
use Rattle.wfe_core.specs.declared.post.Post.{Post}
use Rattle.wfe_core.specs.Calls.{EnqueueKept, EnqueueAt, LoadNumber, LoadNext, PassTail, ExchangeNext, ExchangeTail, Enqueues, Fills, Phase, Runs, Works, Enqueuing, CallTurn, goes_on}
use Rattle.wfe_core.specs.Desks.{Desk}
use Rattle.wfe_core.specs.Enqueue.{filling}
use Rattle.wfe_core.specs.Rounds.{clearing}
use Rattle.wfe_call_rounds.specs.Endings.{next_of}
use Rattle.wfe_call_rounds.specs.Leavings.{over_turn}
use Rattle.wfe_msqueue.specs.declared.enqueue_at.Kept.{Kept}
use Rattle.wfe_msqueue.specs.declared.enqueue_at.EnqueueAt.{EnqueueAt as At}
use Rattle.wfe_msqueue.specs.declared.enqueue_at.EnqueueAt.TheVariants as ats
use Rattle.wfe_msqueue.specs.declared.enqueue_at.Enqueued.{Enqueued}
use Rattle.wfe_msqueue.specs.declared.enqueue_at.Enqueued.TheVariants as leads

abbrev pub kept_of : Kept → EnqueueKept
kept_of kept = record { value = kept.value; taken = kept.taken; walked = kept.walked; tail = kept.tail; number = kept.number }

abbrev pub at_of : At → EnqueueAt
at_of ats.LoadNumber = LoadNumber
at_of ats.LoadNext = LoadNext
at_of (ats.PassTail next) = PassTail next
at_of (ats.ExchangeNext slot) = ExchangeNext slot
at_of (ats.ExchangeTail slot) = ExchangeTail slot

-- the turn that leads there
abbrev pub led : EnqueueKept → Enqueued → Post → Desk → List Event → CallTurn
led kept (leads.Goes at) post desk told = goes_on post desk told (Works (Enqueuing kept (at_of at)))
led kept leads.Fills post desk told = goes_on post desk told (Runs (Fills (Enqueues kept)) (filling kept))
led kept (leads.Ends ending) post desk told = clearing (Enqueues kept) (next_of ending) post desk told
led kept (leads.Passes over) post desk told = over_turn (Enqueues kept) over post desk told

-- what runs goes on at this phase, or the call is led on
abbrev pub ran : EnqueueKept → Option Enqueued → Post → Desk → List Event → Phase → CallTurn
ran kept None post desk told phase = goes_on post desk told phase
ran kept (Some step) post desk told phase = led kept step post desk told

-- a row is filled only with a number that there is
abbrev pub LedWithin : EnqueueKept → Enqueued → Type 0
LedWithin kept (leads.Goes at) = Unit {0}
LedWithin kept leads.Fills = kept.number + 1 < 18446744073709551616
LedWithin kept (leads.Ends ending) = Unit {0}
LedWithin kept (leads.Passes over) = Unit {0}
