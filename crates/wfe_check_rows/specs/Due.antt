-- What has to be told next, as it is kept: what is due, and what the last entry linked.
use Rattle.std.specs.Prelude.{ℕ}
use Rattle.laws.specs.defs.declared.event.Event.{Event}
use Rattle.laws.specs.defs.declared.event.Event.TheVariants as events
use Rattle.laws.specs.defs.declared.event.Root.TheVariants as roots
use Rattle.laws.specs.Once.{Due, NoneDue, CutDue, ChangeDue, QueuedDue, TakenDue}
use Rattle.wfe_check_rows.specs.declared.due.Due.{Due as KeptDue}
use Rattle.wfe_check_rows.specs.declared.due.Due.TheVariants as dues
use Rattle.wfe_check_rows.specs.declared.due.LastLink.{LastLink}
use Rattle.wfe_check_rows.specs.declared.due.LastLink.TheVariants as links

-- what is due, in the words of the laws
abbrev pub due_of : KeptDue → Due
due_of dues.Nothing = NoneDue
due_of (dues.Cut seat slot) = CutDue seat slot
due_of (dues.Change seat bucket) = ChangeDue seat bucket
due_of (dues.Queued seat) = QueuedDue seat
due_of (dues.Taken seat) = TakenDue seat

-- what an event linked
abbrev pub link_after : Event → LastLink
link_after (events.Link (roots.Bucket bucket) slot) = links.Bucket bucket
link_after (events.Link roots.Head slot) = links.Head
link_after event = links.None

-- what is due once a seat has told the cut that follows it
abbrev pub due_left : LastLink → ℕ → Due
due_left links.None seat = NoneDue
due_left (links.Bucket bucket) seat = ChangeDue seat bucket
due_left links.Head seat = TakenDue seat
