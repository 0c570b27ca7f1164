-- Runs that the law of rows alone refuses.
use Rattle.std.specs.Prelude.{List, None, Some, [], false, true, ◌∷◌}
use Rattle.law_worked.specs.RunRecords.Readers.{Bullet, Sentence}
use Rattle.law_worked.specs.RunRecords.Refusals.{AreRefused, Wrong, wrong}
use Rattle.law_worked.specs.RunRecords.Runs.{closing, noting}
use Rattle.law_worked.specs.RunRecords.Shared.{shared}
use Rattle.law_worked.specs.RunRecords.Spent.{spent}

abbrev pub wrong_rows : List Wrong
wrong_rows =
    -- the rows that are used are told in another order, one is told twice, and one is told that the table does not have
    wrong shared (closing (λ t. record t { used = 5 ∷ 4 ∷ 3 ∷ 1 ∷ 0 ∷ [] }) ∷ []) Bullet.Rows (Sentence.Used ∷ [])
    ∷ wrong shared (closing (λ t. record t { used = 0 ∷ 1 ∷ 1 ∷ 3 ∷ 4 ∷ 5 ∷ [] }) ∷ []) Bullet.Rows (Sentence.Used ∷ [])
    ∷ wrong shared (closing (λ t. record t { used = 0 ∷ 1 ∷ 3 ∷ 4 ∷ 5 ∷ 77 ∷ [] }) ∷ []) Bullet.Rows (Sentence.Used ∷ [])
    -- a row that is still used is not among those
    ∷ wrong shared (closing (λ t. record t { used = 0 ∷ 1 ∷ 4 ∷ 5 ∷ [] }) ∷ []) Bullet.Rows (Sentence.Balance ∷ [])
    -- a row that was given up is
    ∷ wrong shared (closing (λ t. record t { used = 0 ∷ 1 ∷ 2 ∷ 3 ∷ 4 ∷ 5 ∷ [] }) ∷ []) Bullet.Rows (Sentence.Balance ∷ [])
    -- the dummy of the queue is free, and did not go back
    ∷ wrong spent (noting 0 2 (λ n. record n { back = [] }) ∷ []) Bullet.Rows (Sentence.Balance ∷ [])
    -- a row is not given up
    ∷ wrong shared (noting 1 6 (λ n. record n { unused = false }) ∷ []) Bullet.Rows (Sentence.Balance ∷ [])
    -- a row is given up that is used
    ∷ wrong shared (noting 0 7 (λ n. record n { unused = true }) ∷ []) Bullet.Rows (Sentence.Balance ∷ [])
    -- another row is given
    ∷ wrong shared (noting 0 7 (λ n. record n { given = Some (3, 4) }) ∷ []) Bullet.Rows (Sentence.Balance ∷ [])
    -- a row is used that was not given
    ∷ wrong shared (noting 0 2 (λ n. record n { given = None }) ∷ []) Bullet.Rows (Sentence.Balance ∷ [])
    -- a row does not go back
    ∷ wrong shared (noting 0 4 (λ n. record n { back = 5 ∷ [] }) ∷ []) Bullet.Rows (Sentence.Balance ∷ []) ∷ []

abbrev pub WrongRowsRefused : Type 0
WrongRowsRefused = AreRefused wrong_rows
