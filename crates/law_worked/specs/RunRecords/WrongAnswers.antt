-- Runs that the law of answers alone refuses.
use Rattle.std.specs.Prelude.{List, None, Some, [], false, true, ◌∷◌}
use Rattle.law_all.specs.inv.model.Desks.{no_notes}
use Rattle.law_all.specs.inv.model.defs.declared.call.Answer.TheVariants as answers
use Rattle.law_all.specs.inv.model.defs.declared.call.Call.TheVariants as calls
use Rattle.law_all.specs.inv.model.defs.declared.call.ClockMove.TheVariants as moves
use Rattle.law_all.specs.inv.model.words.declared.config.SchemeKind.TheVariants.{Hp}
use Rattle.law_all.specs.RunLaw.{no_bucket}
use Rattle.law_worked.specs.RunRecords.Crowded.{crowded}
use Rattle.law_worked.specs.RunRecords.Handed.{handed}
use Rattle.law_worked.specs.RunRecords.Kept.{kept}
use Rattle.law_worked.specs.RunRecords.Readers.{Bullet, Sentence}
use Rattle.law_worked.specs.RunRecords.Refusals.{AreRefused, Wrong, wrong}
use Rattle.law_worked.specs.RunRecords.Runs.{Run, answering, group, life, noting, notes, setting, setting_as, then_call, with_seat, without_call}
use Rattle.law_worked.specs.RunRecords.Shared.{shared}
use Rattle.law_worked.specs.RunRecords.Spent.{spent}

-- two values are queued
abbrev two_queued : Run
two_queued =
    record {
      config = setting 2 5 1 1 9 9;
      logs =
          (group (calls.Enqueue 7) (answers.Queued 1) (notes 16 (Some (0, 1)) false None [] 0) ∷ [])
          ∷ (group (calls.Enqueue 8) (answers.Queued 2) (notes 16 (Some (1, 1)) false None [] 0) ∷ []) ∷ [];
      closed = record { clock = 1; buckets = no_bucket ∷ []; queue = (1, 7) ∷ (2, 8) ∷ []; used = 0 ∷ 1 ∷ 5 ∷ [] };
    }

abbrev pub wrong_answers : List Wrong
wrong_answers =
    -- a seat more than the table has
    wrong shared (with_seat ∷ []) Bullet.Answers (Sentence.Seats ∷ [])
    -- a copy is given a row, which it gives up, and rows go back in a look and in a drop
    ∷ wrong kept (noting 1 2 (λ n. record n { given = Some (3, 2); unused = true }) ∷ []) Bullet.Answers (Sentence.Bare ∷ [])
    ∷ wrong kept
    (then_call 0 (group (calls.Look 2 0) answers.Nothing (notes 1 None false None (0 ∷ []) 0))
    ∷ noting 0 5 (λ n. record n { back = 1 ∷ [] })
    ∷ answering 0 5 (answers.Scanned 1 1) ∷ [])
    Bullet.Answers (Sentence.Bare ∷ [])
    ∷ wrong kept
    (then_call 0 (group (calls.DropIndex 2) answers.Dropped (notes 1 None false None (0 ∷ []) 0))
    ∷ noting 0 5 (λ n. record n { back = 1 ∷ [] })
    ∷ answering 0 5 (answers.Scanned 1 1) ∷ [])
    Bullet.Answers (Sentence.Bare ∷ [])
    -- a get answers as a release
    ∷ wrong shared (answering 0 6 answers.Released ∷ []) Bullet.Answers (Sentence.Suits ∷ [])
    -- a release answers as a hold
    ∷ wrong crowded (answering 0 2 answers.Nothing ∷ []) Bullet.Answers (Sentence.Suits ∷ [])
    -- a copy answers as a hold, a look as a get, a drop as a release, and a put at a version that its key is absent
    ∷ wrong kept (then_call 1 (group (calls.Copy 2 3) (answers.Holding 2) no_notes) ∷ []) Bullet.Answers (Sentence.Suits ∷ [])
    ∷ wrong kept (then_call 1 (group (calls.Look 2 0) (answers.Got 3 (Some 11)) no_notes) ∷ []) Bullet.Answers (Sentence.Suits ∷ [])
    ∷ wrong kept (answering 1 16 answers.Released ∷ []) Bullet.Answers (Sentence.Suits ∷ [])
    ∷ wrong kept (answering 0 4 (answers.Absent 3) ∷ []) Bullet.Answers (Sentence.Suits ∷ [])
    -- and a put that names no version is stale
    ∷ wrong kept (then_call 1 (group (calls.Put 0 99) (answers.Stale 3) no_notes) ∷ []) Bullet.Answers (Sentence.Suits ∷ [])
    -- done above the last version
    ∷ wrong shared (setting_as (λ c. record c { last_version = 4 }) ∷ []) Bullet.Answers (Sentence.Allowed ∷ [])
    -- queued above the last number
    ∷ wrong two_queued (setting_as (λ c. record c { last_version = 1 }) ∷ []) Bullet.Answers (Sentence.Allowed ∷ [])
    -- a bucket is full at the last version
    ∷ wrong crowded (setting_as (λ c. record c { last_version = 6 }) ∷ []) Bullet.Answers (Sentence.Allowed ∷ [])
    -- spent before the last version
    ∷ wrong spent (without_call 1 5 ∷ setting_as (λ c. record c { last_version = 3 }) ∷ []) Bullet.Answers (Sentence.Allowed ∷ [])
    -- an enqueue answers that a number below the last one is spent
    ∷ wrong spent (answering 1 5 (answers.Spent 1) ∷ []) Bullet.Answers (Sentence.Allowed ∷ [])
    -- no row was to be had, and one was given
    ∷ wrong shared (noting 0 3 (λ n. record n { given = Some (2, 1); unused = true }) ∷ []) Bullet.Answers (Sentence.Full ∷ [])
    -- a change above version 1 retires no row
    ∷ wrong shared (noting 0 7 (λ n. record n { retired = None }) ∷ []) Bullet.Answers (Sentence.Retires ∷ [])
    -- a remove that finds its key absent retires a row
    ∷ wrong shared (noting 1 6 (λ n. record n { retired = life 3 1 4 }) ∷ []) Bullet.Answers (Sentence.Retires ∷ [])
    -- a put is done as version 1 and retires a row; and where a row is retired, the clock has to be moved
    ∷ wrong crowded (noting 0 0 (λ n. record n { retired = life 0 1 1 }) ∷ []) Bullet.Answers (Sentence.Retires ∷ Sentence.Clock ∷ [])
    -- the clock had to be moved by a put, and stood still
    ∷ wrong shared (answering 1 4 (answers.Done 4 moves.Still) ∷ []) Bullet.Answers (Sentence.Clock ∷ [])
    -- the clock had to be moved by a dequeue, and stood still
    ∷ wrong shared (answering 0 4 (answers.Taken 1 71 moves.Still) ∷ []) Bullet.Answers (Sentence.Clock ∷ [])
    -- an advance lets the clock stand still
    ∷ wrong spent (answering 0 4 (answers.Clock moves.Still) ∷ []) Bullet.Answers (Sentence.Clock ∷ [])
    -- the clock had not to be moved, and was
    ∷ wrong shared (answering 1 0 (answers.Done 2 (moves.Moved 2)) ∷ []) Bullet.Answers (Sentence.Clock ∷ [])
    -- where no retirement moves the clock, a change did
    ∷ wrong shared (setting_as (λ c. record c { scheme = Hp }) ∷ []) Bullet.Answers (Sentence.Clock ∷ [])
    -- a scan counts a row that did not go back
    ∷ wrong shared (answering 1 2 (answers.Scanned 1 1) ∷ []) Bullet.Answers (Sentence.Counted ∷ [])
    -- a call for a list answers that its seat leaves, and one by which its seat leaves that it takes a list over
    ∷ wrong handed (answering 1 0 (answers.Left 0) ∷ []) Bullet.Answers (Sentence.Suits ∷ [])
    ∷ wrong handed (then_call 2 (group calls.Leave (answers.Adopted 0) no_notes) ∷ []) Bullet.Answers (Sentence.Suits ∷ [])
    -- a row goes back while its seat leaves, and while a seat takes over the list that it is on
    ∷ wrong handed
    (noting 0 2 (λ n. record n { back = 0 ∷ [] })
    ∷ answering 0 2 (answers.Left 0)
    ∷ answering 1 1 (answers.Adopted 0)
    ∷ answering 1 2 (answers.Scanned 0 0)
    ∷ answering 1 3 (answers.Left 0)
    ∷ answering 2 2 (answers.Adopted 0)
    ∷ noting 2 4 (λ n. record n { back = [] })
    ∷ answering 2 4 (answers.Scanned 0 0) ∷ [])
    Bullet.Answers (Sentence.Bare ∷ [])
    ∷ wrong handed
    (noting 2 2 (λ n. record n { back = 0 ∷ [] })
    ∷ noting 2 4 (λ n. record n { back = [] })
    ∷ answering 2 4 (answers.Scanned 0 0) ∷ [])
    Bullet.Answers (Sentence.Bare ∷ []) ∷ []

abbrev pub WrongAnswersRefused : Type 0
WrongAnswersRefused = AreRefused wrong_answers
