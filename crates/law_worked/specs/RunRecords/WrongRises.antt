-- Runs that the law of what rises within a seat alone refuses.
use Rattle.std.specs.Prelude.{List, None, Some, [], ◌∷◌}
use Rattle.law_all.specs.inv.model.Desks.{no_notes}
use Rattle.law_all.specs.inv.model.defs.declared.call.Answer.TheVariants as answers
use Rattle.law_all.specs.inv.model.defs.declared.call.Call.TheVariants as calls
use Rattle.law_worked.specs.RunRecords.Crowded.{crowded}
use Rattle.law_worked.specs.RunRecords.Kept.{kept}
use Rattle.law_worked.specs.RunRecords.Readers.{Bullet, Sentence}
use Rattle.law_worked.specs.RunRecords.Refusals.{AreRefused, Wrong, wrong}
use Rattle.law_worked.specs.RunRecords.Runs.{answering, before_call, group, in_call, then_call}
use Rattle.law_worked.specs.RunRecords.Shared.{shared}

abbrev pub wrong_rises : List Wrong
wrong_rises =
    -- a get answers an earlier version than its seat told before
    wrong shared (then_call 0 (group (calls.Get 0) (answers.Got 2 (Some 99)) no_notes) ∷ []) Bullet.Rises (Sentence.NeverFall ∷ [])
    -- a remove finds its key absent at an earlier version
    ∷ wrong shared (answering 1 6 (answers.Absent 3) ∷ []) Bullet.Rises (Sentence.NeverFall ∷ [])
    -- a put finds its bucket full at an earlier version
    ∷ wrong crowded
    (answering 0 6 (answers.Got 5 (Some 16))
    ∷ in_call 0 6 (λ g. record g { call = calls.Get 1 }) ∷ [])
    Bullet.Rises (Sentence.NeverFall ∷ [])
    -- a change has a version that its seat told before
    ∷ wrong shared (answering 0 6 (answers.Got 5 None) ∷ []) Bullet.Rises (Sentence.ChangesRise ∷ [])
    -- a put at a version is done at one that its seat told before, and at one below that
    ∷ wrong kept (before_call 0 1 (group (calls.Get 0) (answers.Got 2 (Some 11)) no_notes) ∷ []) Bullet.Rises (Sentence.ChangesRise ∷ [])
    ∷ wrong kept
    (before_call 0 1 (group (calls.PutIf 0 99 1) (answers.Stale 3) no_notes) ∷ [])
    Bullet.Rises (Sentence.NeverFall ∷ Sentence.ChangesRise ∷ [])
    -- a put is done at a version that a look of its seat told before, and at one below that
    ∷ wrong kept
    (before_call 0 1 (group (calls.Look 2 0) (answers.Looked 7 2 (Some 11)) no_notes)
    ∷ before_call 0 1 (group (calls.Hold 0) (answers.Holding 7) no_notes) ∷ [])
    Bullet.Rises (Sentence.AfterLooks ∷ [])
    ∷ wrong kept
    (before_call 0 1 (group (calls.Look 2 0) (answers.Looked 7 3 (Some 11)) no_notes)
    ∷ before_call 0 1 (group (calls.Hold 0) (answers.Holding 7) no_notes) ∷ [])
    Bullet.Rises (Sentence.AfterLooks ∷ [])
    -- a hold finds nothing in a bucket of which its seat told a version before
    ∷ wrong shared (then_call 1 (group (calls.Hold 2) answers.Nothing no_notes) ∷ []) Bullet.Rises (Sentence.Unseen ∷ [])
    -- a put at a version is stale at an earlier one than its seat told before
    ∷ wrong kept (answering 1 4 (answers.Stale 0) ∷ []) Bullet.Rises (Sentence.NeverFall ∷ []) ∷ []

abbrev pub WrongRisesRefused : Type 0
WrongRisesRefused = AreRefused wrong_rises
