-- Runs that the law of the queue alone refuses. Two of its sentences refuse nothing by themselves, since the values queued are those that calls
-- tell: that not more are taken than were queued, which follows where each number is taken once with the value that was queued under it; and
-- that a value is queued under its number, which follows where each number is told once.
use Rattle.std.specs.Prelude.{List, None, [], false, ◌∷◌}
use Rattle.law_all.specs.inv.model.Desks.{no_notes}
use Rattle.law_all.specs.inv.model.defs.declared.call.Answer.TheVariants as answers
use Rattle.law_all.specs.inv.model.defs.declared.call.Call.TheVariants as calls
use Rattle.law_all.specs.inv.model.defs.declared.call.ClockMove.TheVariants as moves
use Rattle.law_worked.specs.RunRecords.Readers.{Bullet, Sentence}
use Rattle.law_worked.specs.RunRecords.Refusals.{AreRefused, Wrong, wrong}
use Rattle.law_worked.specs.RunRecords.Runs.{answering, before_call, closing, group, life, notes, then_call, without_call}
use Rattle.law_worked.specs.RunRecords.Shared.{shared}
use Rattle.law_worked.specs.RunRecords.Spent.{spent}

abbrev pub wrong_queues : List Wrong
wrong_queues =
    -- a value is taken that was never queued
    wrong shared
    (then_call 1 (group calls.Dequeue (answers.Taken 3 50 moves.Still) (notes 18 None false (life 1 4 4) [] 0)) ∷ [])
    Bullet.Queue (Sentence.MostTaken ∷ Sentence.OnceTaken ∷ Sentence.Right ∷ Sentence.Left ∷ [])
    -- two values are queued under one number
    ∷ wrong shared (before_call 1 0 (group (calls.Enqueue 71) (answers.Queued 1) no_notes) ∷ []) Bullet.Queue (Sentence.OnceQueued ∷ [])
    -- a value is queued under the number 0
    ∷ wrong shared (before_call 1 0 (group (calls.Enqueue 71) (answers.Queued 0) no_notes) ∷ []) Bullet.Queue (Sentence.OnceQueued ∷ [])
    -- a number is left out
    ∷ wrong shared
    (answering 1 5 (answers.Queued 3)
    ∷ closing (λ t. record t { queue = (3, 94) ∷ [] }) ∷ [])
    Bullet.Queue (Sentence.OnceQueued ∷ Sentence.Right ∷ Sentence.Left ∷ [])
    -- a value is taken twice
    ∷ wrong shared
    (then_call 1 (group calls.Dequeue (answers.Taken 1 71 moves.Still) (notes 18 None false (life 1 4 4) [] 0)) ∷ [])
    Bullet.Queue (Sentence.OnceTaken ∷ [])
    -- the second value is taken, and the first is not
    ∷ wrong shared
    (answering 0 4 (answers.Taken 2 94 (moves.Other 4))
    ∷ closing (λ t. record t { queue = [] }) ∷ [])
    Bullet.Queue (Sentence.OnceTaken ∷ [])
    -- another value is taken than was queued
    ∷ wrong shared (answering 0 4 (answers.Taken 1 72 (moves.Other 4)) ∷ []) Bullet.Queue (Sentence.Right ∷ [])
    -- an enqueue is refused as spent where there are numbers left
    ∷ wrong shared (then_call 1 (group (calls.Enqueue 5) (answers.Spent 9) no_notes) ∷ []) Bullet.Queue (Sentence.Right ∷ [])
    -- a seat queues the second value before the first
    ∷ wrong spent
    (answering 1 0 (answers.Queued 2)
    ∷ answering 1 3 (answers.Queued 1)
    ∷ answering 0 2 (answers.Taken 1 12 (moves.EraSpent 3))
    ∷ closing (λ t. record t { queue = (2, 62) ∷ [] }) ∷ [])
    Bullet.Queue (Sentence.QueuedRise ∷ [])
    -- a seat takes the second value before the first
    ∷ wrong spent
    (before_call 0 2 (group calls.Dequeue (answers.Taken 2 12 (moves.EraSpent 3)) (notes 18 None false (life 1 1 3) [] 0))
    ∷ closing (λ t. record t { queue = [] }) ∷ [])
    Bullet.Queue (Sentence.TakenRise ∷ [])
    -- a seat takes a value before it queues it
    ∷ wrong shared
    (before_call 0 2 (group calls.Dequeue (answers.Taken 1 71 (moves.Other 4)) (notes 28 None false (life 5 1 2) (1 ∷ 5 ∷ []) 0))
    ∷ without_call 0 5 ∷ [])
    Bullet.Queue (Sentence.TakenFirst ∷ [])
    -- a value that is left is not in the queue
    ∷ wrong shared (closing (λ t. record t { queue = [] }) ∷ []) Bullet.Queue (Sentence.Left ∷ [])
    -- a value that is left has another number
    ∷ wrong shared (closing (λ t. record t { queue = (3, 94) ∷ [] }) ∷ []) Bullet.Queue (Sentence.Left ∷ [])
    -- a value that was taken is left
    ∷ wrong shared (closing (λ t. record t { queue = (1, 71) ∷ (2, 94) ∷ [] }) ∷ []) Bullet.Queue (Sentence.Left ∷ [])
    -- a seat finds the queue empty whose value nobody took
    ∷ wrong shared (then_call 1 (group calls.Dequeue answers.Empty no_notes) ∷ []) Bullet.Queue (Sentence.Empty ∷ []) ∷ []

abbrev pub WrongQueuesRefused : Type 0
WrongQueuesRefused = AreRefused wrong_queues
