-- Runs that the law of eras alone refuses.
use Rattle.std.specs.Prelude.{List, [], ◌∷◌}
use Rattle.law_all.specs.inv.model.defs.declared.call.Answer.TheVariants as answers
use Rattle.law_all.specs.inv.model.defs.declared.call.ClockMove.TheVariants as moves
use Rattle.law_worked.specs.RunRecords.Crowded.{crowded}
use Rattle.law_worked.specs.RunRecords.Readers.{Bullet, Sentence}
use Rattle.law_worked.specs.RunRecords.Refusals.{AreRefused, Wrong, wrong}
use Rattle.law_worked.specs.RunRecords.Runs.{answering, closing}
use Rattle.law_worked.specs.RunRecords.Shared.{shared}
use Rattle.law_worked.specs.RunRecords.Spent.{spent}

abbrev pub wrong_eras : List Wrong
wrong_eras =
    -- the clock is past the last era
    wrong shared (closing (λ t. record t { clock = 10 }) ∷ []) Bullet.Eras (Sentence.Most ∷ [])
    -- two calls move the clock to one era
    ∷ wrong shared (answering 0 4 (answers.Taken 1 71 (moves.Moved 4)) ∷ []) Bullet.Eras (Sentence.OnceMoved ∷ [])
    -- a call moves the clock to the era at which it began
    ∷ wrong shared (answering 1 4 (answers.Done 4 (moves.Moved 1)) ∷ []) Bullet.Eras (Sentence.Later ∷ [])
    -- a call sees the era at which the clock began, and one sees none at all
    ∷ wrong shared (answering 0 4 (answers.Taken 1 71 (moves.Other 1)) ∷ []) Bullet.Eras (Sentence.Later ∷ [])
    ∷ wrong shared (answering 0 4 (answers.Taken 1 71 (moves.Other 0)) ∷ []) Bullet.Eras (Sentence.Later ∷ [])
    -- a call moves the clock past where it was closed
    ∷ wrong shared (answering 1 4 (answers.Done 4 (moves.Moved 5)) ∷ []) Bullet.Eras (Sentence.Seen ∷ [])
    -- a call sees the clock past where it was closed
    ∷ wrong shared (answering 0 4 (answers.Taken 1 71 (moves.Other 5)) ∷ []) Bullet.Eras (Sentence.Seen ∷ [])
    -- a seat moves the clock to an earlier era
    ∷ wrong crowded
    (answering 0 3 (answers.Done 5 (moves.Moved 6))
    ∷ answering 0 4 (answers.Done 6 (moves.Moved 5)) ∷ [])
    Bullet.Eras (Sentence.Rise ∷ [])
    -- a seat sees an era that it has moved to before
    ∷ wrong crowded (answering 1 2 (answers.Done 4 (moves.Other 3)) ∷ []) Bullet.Eras (Sentence.Rise ∷ [])
    -- no era is left, and the clock was closed before the last one
    ∷ wrong spent (closing (λ t. record t { clock = 2 }) ∷ []) Bullet.Eras (Sentence.Spent ∷ [])
    -- no era is left after one that is not the last
    ∷ wrong spent (answering 0 4 (answers.Clock (moves.EraSpent 2)) ∷ []) Bullet.Eras (Sentence.Spent ∷ [])
    -- a seat sees an era after the last one was spent
    ∷ wrong spent (answering 0 4 (answers.Clock (moves.Other 3)) ∷ []) Bullet.Eras (Sentence.Final ∷ [])
    -- a seat moves the clock after the last era was spent
    ∷ wrong spent (answering 0 4 (answers.Clock (moves.Moved 3)) ∷ []) Bullet.Eras (Sentence.Final ∷ []) ∷ []

abbrev pub WrongErasRefused : Type 0
WrongErasRefused = AreRefused wrong_eras
