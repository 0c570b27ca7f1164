-- A dequeue follows the head's next link, reads the row after it, and exchanges the head.
use Rattle.std.specs.Prelude.{ℕ, ◌==◌, ◌+◌, Bool, true, false, List, [], ◌∷◌}
use Rattle.wfe_words.specs.Place.Place.{Head, Tail, Row}
use Rattle.wfe_words.specs.declared.config.SchemeKind.{SchemeKind}
use Rattle.wfe_defs.specs.declared.call.Answer.TheVariants as answers
use Rattle.wfe_defs.specs.declared.call.ClockMove.TheVariants as moves
use Rattle.wfe_defs.specs.declared.event.Event.{Event}
use Rattle.wfe_defs.specs.declared.event.Event.TheVariants as events
use Rattle.wfe_defs.specs.declared.event.Root.TheVariants as roots
use Rattle.wfe_core.specs.declared.ends.FollowEnd.{FollowEnd}
use Rattle.wfe_core.specs.declared.ends.FollowEnd.TheVariants as follow_ends
use Rattle.wfe_core.specs.declared.post.Post.{Post}
use Rattle.wfe_core.specs.Desks.{Desk}
use Rattle.wfe_core.specs.Memory.{Move, Load, Cas}
use Rattle.wfe_core.specs.Phases.{Follows, Base}
use Rattle.wfe_core.specs.Phases.Base.{Protect}
use Rattle.wfe_core.specs.Calls.{Again, Answering, Retiring, DequeueAt, LoadTail, SwingTail, TakeNumber, TakeValue, ExchangeHead, Works, Dequeuing, Runs, FollowsHead, CallTurn, goes_on}
use Rattle.wfe_core.specs.Enqueue.{told_link}
use Rattle.wfe_core.specs.Rounds.{protect_at, scheme_of, clearing_next}

abbrev pub dequeue_move : DequeueAt → Move
dequeue_move (LoadTail head) = Load Tail
dequeue_move (SwingTail head next) = Cas Tail (head + 1) (next + 1)
dequeue_move (TakeNumber head next) = Load (Row next 1)
dequeue_move (TakeValue head next number) = Load (Row next 2)
dequeue_move (ExchangeHead head next number value) = Cas Head (head + 1) (next + 1)

-- the protection of the head's next link, at index 1
abbrev pub follow_base : SchemeKind → ℕ → Base
follow_base scheme parent = Protect Follows 1 (roots.Next parent) 0 (protect_at scheme)

-- the next row is held: the tail lags, or the row is read
abbrev pub followed_row : ℕ → ℕ → Post → Desk → List Event → (lags : Bool) → CallTurn
followed_row head next post desk told true = goes_on post desk told (Works (Dequeuing (SwingTail head next)))
followed_row head next post desk told false = goes_on post desk told (Works (Dequeuing (TakeNumber head next)))

-- the follow is over
abbrev pub followed : ℕ → ℕ → FollowEnd → Post → Desk → List Event → CallTurn
followed head tail (follow_ends.Followed slot) post desk told = followed_row head slot post desk told (tail == head + 1)
followed head tail follow_ends.NoNext post desk told = clearing_next (Answering answers.Empty) post desk told
followed head tail (follow_ends.RootMoved seen) post desk told = clearing_next Again post desk told

abbrev pub taken : ℕ → ℕ → ℕ → ℕ → Post → Desk → (same : Bool) → CallTurn
taken head next number value post desk true =
    clearing_next
    (Retiring head (answers.Taken number value moves.Still))
    post
    desk
    (events.Link roots.Head next ∷ events.Cut head ∷ events.Taken number value ∷ [])
taken head next number value post desk false = clearing_next Again post desk []

-- one step of a dequeue's own
abbrev pub dequeue_turn : DequeueAt → Post → Desk → ℕ → CallTurn
dequeue_turn (LoadTail head) post desk found = goes_on post desk [] (Runs (FollowsHead head found) (follow_base (scheme_of post) head))
dequeue_turn (SwingTail head next) post desk found =
    clearing_next Again post desk (told_link roots.Tail next (found == head + 1))
dequeue_turn (TakeNumber head next) post desk found = goes_on post desk [] (Works (Dequeuing (TakeValue head next found)))
dequeue_turn (TakeValue head next number) post desk found = goes_on post desk [] (Works (Dequeuing (ExchangeHead head next number found)))
dequeue_turn (ExchangeHead head next number value) post desk found = taken head next number value post desk (found == head + 1)
