-- Runs that the law of retire lists alone refuses.
use Rattle.std.specs.Prelude.{List, None, Some, [], false, ◌∷◌}
use Rattle.law_all.specs.inv.model.defs.declared.call.Answer.TheVariants as answers
use Rattle.law_all.specs.inv.model.defs.declared.call.Call.TheVariants as calls
use Rattle.law_all.specs.inv.model.defs.declared.call.ClockMove.TheVariants as moves
use Rattle.law_worked.specs.RunRecords.Readers.{Bullet, Sentence}
use Rattle.law_worked.specs.RunRecords.Refusals.{AreRefused, Wrong, wrong}
use Rattle.law_worked.specs.RunRecords.Runs.{Run, answering, group, life, noting, notes, setting, then_call, without_call}
use Rattle.law_worked.specs.RunRecords.Handed.{handed}
use Rattle.law_worked.specs.RunRecords.Shared.{shared}

-- a seat changes a bucket three times, and then its scan gives back both rows that it has retired
abbrev scanned : Run
scanned =
    record {
      config = setting 2 5 1 9 9 9;
      logs =
          (group (calls.Put 0 10) (answers.Done 1 moves.Still) (notes 13 (Some (0, 1)) false None [] 0)
          ∷ group (calls.Put 0 20) (answers.Done 2 moves.Still) (notes 20 (Some (1, 1)) false (life 0 1 1) [] 0)
          ∷ group (calls.Put 0 30) (answers.Done 3 moves.Still) (notes 20 (Some (2, 1)) false (life 1 1 1) [] 0)
          ∷ group calls.Scan (answers.Scanned 0 2) (notes 8 None false None (0 ∷ 1 ∷ []) 0) ∷ [])
          ∷ [] ∷ [];
      closed = record { clock = 1; buckets = record { version = 3; pairs = (0, 30) ∷ [] } ∷ []; queue = []; used = 2 ∷ 5 ∷ [] };
    }

-- two seats leave, each with the list of the other, of which one had a row
abbrev pub circle : Run
circle =
    record {
      config = setting 2 5 1 9 9 9;
      logs =
          (group (calls.Put 0 10) (answers.Done 1 moves.Still) (notes 13 (Some (0, 1)) false None [] 0)
          ∷ group (calls.Put 0 20) (answers.Done 2 moves.Still) (notes 20 (Some (1, 1)) false (life 0 1 1) [] 0)
          ∷ group (calls.Adopt 1) (answers.Adopted 1) (notes 2 None false None [] 0)
          ∷ group calls.Leave (answers.Left 2) (notes 1 None false None [] 0) ∷ [])
          ∷ (group (calls.Adopt 0) (answers.Adopted 2) (notes 2 None false None [] 0)
          ∷ group calls.Leave (answers.Left 2) (notes 1 None false None [] 0) ∷ [])
          ∷ [];
      closed = record { clock = 1; buckets = record { version = 2; pairs = (0, 20) ∷ [] } ∷ []; queue = []; used = 0 ∷ 1 ∷ 5 ∷ [] };
    }

abbrev pub wrong_lists : List Wrong
wrong_lists =
    -- a call that is given no row has rows that went back before
    wrong shared (noting 0 4 (λ n. record n { early = 1 }) ∷ []) Bullet.Lists (Sentence.Plain ∷ [])
    -- a scan gives rows back in another order, and so does one that says that one of them went back before it was given a row
    ∷ wrong scanned (noting 0 3 (λ n. record n { back = 1 ∷ 0 ∷ [] }) ∷ []) Bullet.Lists (Sentence.Late ∷ [])
    ∷ wrong scanned (noting 0 3 (λ n. record n { back = 1 ∷ 0 ∷ []; early = 1 }) ∷ []) Bullet.Lists (Sentence.Plain ∷ [])
    -- a row goes back early that another seat retired
    ∷ wrong shared
    (noting 0 4 (λ n. record n { back = 5 ∷ [] })
    ∷ noting 1 4 (λ n. record n { back = 1 ∷ 0 ∷ 2 ∷ []; early = 2 }) ∷ [])
    Bullet.Lists (Sentence.Early ∷ [])
    -- a row goes back before it is retired
    ∷ wrong shared (noting 1 4 (λ n. record n { early = 2 }) ∷ []) Bullet.Lists (Sentence.Early ∷ [])
    -- a row goes back late that another seat retired
    ∷ wrong shared
    (noting 0 4 (λ n. record n { back = 5 ∷ [] })
    ∷ noting 1 4 (λ n. record n { back = 0 ∷ 2 ∷ 1 ∷ [] }) ∷ [])
    Bullet.Lists (Sentence.Late ∷ [])
    -- a dequeue gives rows back in another order
    ∷ wrong shared (noting 0 4 (λ n. record n { back = 5 ∷ 1 ∷ [] }) ∷ []) Bullet.Lists (Sentence.Late ∷ [])
    -- a scan counts a row that it did not keep
    ∷ wrong shared (answering 1 2 (answers.Scanned 2 0) ∷ []) Bullet.Lists (Sentence.Kept ∷ [])
    -- a row goes back of a list that the seat has not taken over
    ∷ wrong handed (answering 2 2 answers.NotLeft ∷ []) Bullet.Lists (Sentence.Late ∷ [])
    -- so it does in a run in which no seat has taken the list over
    ∷ wrong handed
    (answering 1 1 answers.NotLeft ∷ answering 1 2 (answers.Scanned 0 0) ∷ answering 1 3 (answers.Left 0) ∷ answering 2 1 answers.NotLeft ∷ answering 2 2 (answers.Adopted 0) ∷ [])
    Bullet.Lists (Sentence.Late ∷ [])
    -- a scan does not count the row that was taken over
    ∷ wrong handed (answering 1 2 (answers.Scanned 0 0) ∷ []) Bullet.Lists (Sentence.Kept ∷ [])
    -- a seat leaves more than it has, and without what it has taken over
    ∷ wrong handed (answering 0 2 (answers.Left 2) ∷ []) Bullet.Lists (Sentence.LeftCount ∷ [])
    ∷ wrong handed (answering 1 3 (answers.Left 0) ∷ []) Bullet.Lists (Sentence.LeftCount ∷ [])
    -- a seat takes over more than was left, and less
    ∷ wrong handed (answering 1 1 (answers.Adopted 2) ∷ []) Bullet.Lists (Sentence.TakenCount ∷ [])
    ∷ wrong handed (answering 2 2 (answers.Adopted 0) ∷ []) Bullet.Lists (Sentence.TakenCount ∷ [])
    -- two seats take each other's list over
    ∷ wrong circle [] Bullet.Lists (Sentence.Whole ∷ [])
    -- a seat scans, and takes a list over, after it has left
    ∷ wrong handed (then_call 0 (group calls.Scan (answers.Scanned 1 0) (notes 9 None false None [] 0)) ∷ []) Bullet.Lists (Sentence.LastCall ∷ [])
    ∷ wrong handed (then_call 0 (group (calls.Adopt 1) answers.NotLeft (notes 1 None false None [] 0)) ∷ []) Bullet.Lists (Sentence.LastCall ∷ [])
    -- a list is taken over that was not left
    ∷ wrong handed (without_call 0 2 ∷ []) Bullet.Lists (Sentence.Gone ∷ [])
    -- two seats take one list over
    ∷ wrong handed (answering 2 1 (answers.Adopted 1) ∷ without_call 2 2 ∷ []) Bullet.Lists (Sentence.OnceAdopted ∷ [])
    -- a seat finds a list taken over that no seat takes over
    ∷ wrong handed (then_call 2 (group (calls.Adopt 2) answers.AdoptedBefore (notes 1 None false None [] 0)) ∷ []) Bullet.Lists (Sentence.FoundAdopted ∷ []) ∷ []

abbrev pub WrongListsRefused : Type 0
WrongListsRefused = AreRefused wrong_lists
