-- Where a dequeue's work on its rows stands, as phases of the model.
use Rattle.std.specs.Prelude.{List, Option, Some, None}
use Rattle.wfe_core.specs.defs.declared.event.Event.{Event}
use Rattle.wfe_core.specs.declared.post.Post.{Post}
use Rattle.wfe_core.specs.Calls.{DequeueAt, LoadTail, SwingTail, TakeNumber, TakeValue, ExchangeHead, Dequeues, FollowsHead, Phase, Runs, Works, Dequeuing, CallTurn, goes_on}
use Rattle.wfe_core.specs.Dequeue.{follow_base}
use Rattle.wfe_core.specs.Desks.{Desk}
use Rattle.wfe_core.specs.Ready.{SlotFits}
use Rattle.wfe_core.specs.Rounds.{scheme_of, clearing, clearing_next}
use Rattle.wfe_call_rounds.specs.Endings.{next_of}
use Rattle.wfe_call_rounds.specs.Leavings.{over_turn}
use Rattle.wfe_msqueue.specs.declared.dequeue_at.DequeueAt.{DequeueAt as At}
use Rattle.wfe_msqueue.specs.declared.dequeue_at.DequeueAt.TheVariants as ats
use Rattle.wfe_msqueue.specs.declared.dequeue_at.Dequeued.{Dequeued}
use Rattle.wfe_msqueue.specs.declared.dequeue_at.Dequeued.TheVariants as leads

abbrev pub at_of : At → DequeueAt
at_of (ats.LoadTail head) = LoadTail head
at_of (ats.SwingTail head next) = SwingTail head next
at_of (ats.TakeNumber head next) = TakeNumber head next
at_of (ats.TakeValue head next number) = TakeValue head next number
at_of (ats.ExchangeHead head next number value) = ExchangeHead head next number value

-- the turn that leads there
abbrev pub led : Dequeued → Post → Desk → List Event → CallTurn
led (leads.Goes at) post desk told = goes_on post desk told (Works (Dequeuing (at_of at)))
led (leads.Follows head tail) post desk told = goes_on post desk told (Runs (FollowsHead head tail) (follow_base (scheme_of post) head))
led (leads.Ends ending) post desk told = clearing_next (next_of ending) post desk told
led (leads.Clears ending) post desk told = clearing Dequeues (next_of ending) post desk told
led (leads.Passes over) post desk told = over_turn Dequeues over post desk told

-- what runs goes on at this phase, or the call is led on
abbrev pub ran : Option Dequeued → Post → Desk → List Event → Phase → CallTurn
ran None post desk told phase = goes_on post desk told phase
ran (Some step) post desk told phase = led step post desk told

-- the head's row is a row
abbrev pub LedWithin : Dequeued → Post → Type 0
LedWithin (leads.Goes at) post = Unit {0}
LedWithin (leads.Follows head tail) post = SlotFits post head
LedWithin (leads.Ends ending) post = Unit {0}
LedWithin (leads.Clears ending) post = Unit {0}
LedWithin (leads.Passes over) post = Unit {0}
