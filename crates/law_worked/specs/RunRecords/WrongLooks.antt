-- Runs that the law of what is kept alone refuses.
use Rattle.std.specs.Prelude.{List, None, Some, [], ◌∷◌}
use Rattle.law_all.specs.inv.model.Desks.{no_notes}
use Rattle.law_all.specs.inv.model.defs.declared.call.Answer.TheVariants as answers
use Rattle.law_all.specs.inv.model.defs.declared.call.Call.TheVariants as calls
use Rattle.law_worked.specs.RunRecords.Kept.{kept}
use Rattle.law_worked.specs.RunRecords.Readers.{Bullet, Sentence}
use Rattle.law_worked.specs.RunRecords.Refusals.{AreRefused, Wrong, wrong}
use Rattle.law_worked.specs.RunRecords.Runs.{answering, before_call, group, then_call, without_call}

abbrev pub wrong_looks : List Wrong
wrong_looks =
    -- a copy answers another row than is kept
    wrong kept (answering 1 2 (answers.Copied 1) ∷ []) Bullet.Keeps (Sentence.KeptRight ∷ [])
    -- a row is copied from an index at which none was held yet
    ∷ wrong kept (before_call 1 1 (group (calls.Copy 2 3) (answers.Copied 0) no_notes) ∷ []) Bullet.Keeps (Sentence.KeptRight ∷ [])
    -- a row is copied from an index from which it was dropped
    ∷ wrong kept (then_call 1 (group (calls.Copy 3 4) (answers.Copied 0) no_notes) ∷ []) Bullet.Keeps (Sentence.KeptRight ∷ [])
    -- a copy finds nothing where a row is held, and one where a row was copied to
    ∷ wrong kept (before_call 1 3 (group (calls.Copy 2 4) answers.Nothing no_notes) ∷ []) Bullet.Keeps (Sentence.KeptRight ∷ [])
    ∷ wrong kept (before_call 1 3 (group (calls.Copy 3 4) answers.Nothing no_notes) ∷ []) Bullet.Keeps (Sentence.KeptRight ∷ [])
    -- a look finds nothing where a row is kept
    ∷ wrong kept (answering 1 3 answers.Nothing ∷ []) Bullet.Keeps (Sentence.KeptRight ∷ [])
    -- a look finds a row that was dropped, one that was released, and one where another hold has found nothing since
    ∷ wrong kept (answering 1 11 (answers.Looked 0 1 (Some 10)) ∷ []) Bullet.Keeps (Sentence.KeptRight ∷ [])
    ∷ wrong kept (before_call 1 10 (group (calls.Look 2 0) (answers.Looked 1 2 (Some 11)) no_notes) ∷ []) Bullet.Keeps (Sentence.KeptRight ∷ [])
    ∷ wrong kept
    (without_call 1 9
    ∷ answering 1 14 (answers.Looked 1 2 None) ∷ [])
    Bullet.Keeps (Sentence.KeptRight ∷ [])
    -- a look shows the row that is kept at another index
    ∷ wrong kept (answering 1 7 (answers.Looked 1 1 None) ∷ []) Bullet.Keeps (Sentence.KeptRight ∷ [])
    -- looks show version 0
    ∷ wrong kept
    (without_call 1 0
    ∷ answering 1 2 (answers.Looked 0 0 None)
    ∷ answering 1 6 (answers.Looked 0 0 None) ∷ [])
    Bullet.Keeps (Sentence.KeptRight ∷ [])
    -- looks show a version that the bucket never had
    ∷ wrong kept
    (answering 1 3 (answers.Looked 0 4 (Some 11))
    ∷ answering 1 7 (answers.Looked 0 4 (Some 12)) ∷ [])
    Bullet.Keeps (Sentence.KeptRight ∷ [])
    -- a look shows another value than the version has, none where there is one, and one where there is none
    ∷ wrong kept (answering 1 3 (answers.Looked 0 1 (Some 11)) ∷ []) Bullet.Keeps (Sentence.KeptRight ∷ [])
    ∷ wrong kept (answering 1 3 (answers.Looked 0 1 None) ∷ []) Bullet.Keeps (Sentence.KeptRight ∷ [])
    ∷ wrong kept (answering 1 7 (answers.Looked 0 1 (Some 12)) ∷ []) Bullet.Keeps (Sentence.KeptRight ∷ [])
    -- looks at a held row show an earlier version than the seat told of the bucket before that hold, at the hold's index and where it was copied to
    ∷ wrong kept
    (answering 1 6 (answers.Looked 1 1 (Some 10))
    ∷ answering 1 13 (answers.Looked 1 1 (Some 10)) ∷ [])
    Bullet.Keeps (Sentence.KeptRight ∷ [])
    ∷ wrong kept
    (without_call 1 6
    ∷ answering 1 12 (answers.Looked 1 1 (Some 10)) ∷ [])
    Bullet.Keeps (Sentence.KeptRight ∷ [])
    -- looks at a held row show an earlier version than a look told of the bucket before that hold
    ∷ wrong kept
    (without_call 1 4
    ∷ answering 1 3 (answers.Looked 0 2 (Some 11))
    ∷ answering 1 6 (answers.Looked 0 2 None)
    ∷ answering 1 5 (answers.Looked 1 1 (Some 10))
    ∷ answering 1 12 (answers.Looked 1 1 (Some 10)) ∷ [])
    Bullet.Keeps (Sentence.KeptRight ∷ [])
    -- two looks at the row of one hold show two versions, the second where it was copied to
    ∷ wrong kept (answering 1 13 (answers.Looked 1 3 (Some 11)) ∷ []) Bullet.Keeps (Sentence.Same ∷ [])
    -- and both at one index
    ∷ wrong kept (answering 1 7 (answers.Looked 0 2 None) ∷ []) Bullet.Keeps (Sentence.Same ∷ []) ∷ []

abbrev pub WrongLooksRefused : Type 0
WrongLooksRefused = AreRefused wrong_looks
