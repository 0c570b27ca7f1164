-- Runs that the law of versions alone refuses. Two of its sentences refuse nothing by themselves, since the changes of a bucket are those that
-- calls tell: that a change which is done has a version above 0, and that it is the change of that version. Each follows where each version is
-- told once.
use Rattle.std.specs.Prelude.{List, None, Some, [], ◌++◌, ◌∷◌}
use Rattle.law_all.specs.inv.model.Desks.{no_notes}
use Rattle.law_all.specs.inv.model.defs.declared.call.Answer.TheVariants as answers
use Rattle.law_all.specs.inv.model.defs.declared.call.Call.TheVariants as calls
use Rattle.law_all.specs.inv.model.defs.declared.call.ClockMove.TheVariants as moves
use Rattle.law_all.specs.RunLaw.{no_bucket}
use Rattle.law_worked.specs.RunRecords.Crowded.{crowded}
use Rattle.law_worked.specs.RunRecords.Kept.{kept}
use Rattle.law_worked.specs.RunRecords.Readers.{Bullet, Sentence}
use Rattle.law_worked.specs.RunRecords.Refusals.{AreRefused, Wrong, wrong}
use Rattle.law_worked.specs.RunRecords.Runs.{answering, before_call, bucket_as, closing, group, in_call, life, noting, setting_as, then_call, without_call}
use Rattle.law_worked.specs.RunRecords.Shared.{shared}
use Rattle.law_worked.specs.RunRecords.Spent.{spent}

abbrev pub wrong_versions : List Wrong
wrong_versions =
    -- a bucket more than the table has
    wrong shared (closing (λ t. record t { buckets = t.buckets ++ no_bucket ∷ [] }) ∷ []) Bullet.Versions (Sentence.Buckets ∷ [])
    -- a bucket is closed at a version that no change has
    ∷ wrong shared (bucket_as 0 6 ((2, 71) ∷ []) ∷ []) Bullet.Versions (Sentence.Version ∷ [])
    -- two changes have one version
    ∷ wrong shared (before_call 1 0 (group (calls.Put 0 99) (answers.Done 1 moves.Still) no_notes) ∷ []) Bullet.Versions (Sentence.Once ∷ [])
    -- a change has version 0
    ∷ wrong shared
    (before_call 0 0 (group (calls.Put 0 99) (answers.Done 0 moves.Still) no_notes) ∷ [])
    Bullet.Versions (Sentence.Once ∷ Sentence.Reads ∷ [])
    -- no change has version 5, and one has version 6
    ∷ wrong shared (answering 0 7 (answers.Done 6 moves.Still) ∷ []) Bullet.Versions (Sentence.Once ∷ Sentence.Reads ∷ [])
    -- the last change is not made
    ∷ wrong shared
    (without_call 0 7
    ∷ closing (λ t. record t { used = 0 ∷ 1 ∷ 3 ∷ 4 ∷ [] }) ∷ [])
    Bullet.Versions (Sentence.Version ∷ Sentence.Pairs ∷ Sentence.Reads ∷ [])
    -- a bucket is closed with another value
    ∷ wrong shared (bucket_as 0 5 ((2, 72) ∷ []) ∷ []) Bullet.Versions (Sentence.Pairs ∷ [])
    -- a bucket is closed with its pairs in another order
    ∷ wrong crowded (bucket_as 0 6 ((6, 19) ∷ (1, 16) ∷ (3, 40) ∷ (4, 92) ∷ (5, 30) ∷ (0, 67) ∷ []) ∷ []) Bullet.Versions (Sentence.Pairs ∷ [])
    -- a get answers another value than its version has
    ∷ wrong shared (answering 0 6 (answers.Got 4 (Some 43)) ∷ []) Bullet.Versions (Sentence.Reads ∷ [])
    -- a get finds no value where there is one
    ∷ wrong shared (answering 0 6 (answers.Got 4 None) ∷ []) Bullet.Versions (Sentence.Reads ∷ [])
    -- a get answers a version that its bucket never had
    ∷ wrong shared (then_call 0 (group (calls.Get 1) (answers.Got 2 (Some 54)) no_notes) ∷ []) Bullet.Versions (Sentence.Reads ∷ [])
    -- a put of a new key is done where a row has no room
    ∷ wrong shared (setting_as (λ c. record c { pairs = 1 }) ∷ []) Bullet.Versions (Sentence.Reads ∷ [])
    -- a put finds its bucket full where its key is
    ∷ wrong crowded (in_call 1 3 (λ g. record g { call = calls.Put 0 84 }) ∷ []) Bullet.Versions (Sentence.Reads ∷ [])
    -- a put finds its bucket full at a version that it never had
    ∷ wrong crowded (answering 1 3 (answers.BucketFull 7) ∷ []) Bullet.Versions (Sentence.Reads ∷ [])
    -- a put finds its bucket full where there was room
    ∷ wrong crowded (answering 1 3 (answers.BucketFull 5) ∷ []) Bullet.Versions (Sentence.Reads ∷ [])
    -- a put is refused as spent where its bucket was changed less often
    ∷ wrong shared (in_call 1 6 (λ g. record g { call = calls.Put 0 33; answer = answers.Spent 9 }) ∷ []) Bullet.Versions (Sentence.Reads ∷ [])
    -- a remove is done of a key that is not there
    ∷ wrong shared
    (answering 1 6 (answers.Done 6 moves.Still)
    ∷ noting 1 6 (λ n. record n { retired = life 3 1 4 })
    ∷ bucket_as 0 6 ((2, 71) ∷ []) ∷ [])
    Bullet.Versions (Sentence.Reads ∷ [])
    -- a remove finds its key absent that is there
    ∷ wrong shared (in_call 1 6 (λ g. record g { call = calls.Remove 2 }) ∷ []) Bullet.Versions (Sentence.Reads ∷ [])
    -- a remove finds its key absent at a version that its bucket never had
    ∷ wrong shared (answering 1 6 (answers.Absent 6) ∷ []) Bullet.Versions (Sentence.Reads ∷ [])
    -- a remove is refused as spent where its key is absent
    ∷ wrong spent (in_call 0 1 (λ g. record g { call = calls.Remove 2 }) ∷ []) Bullet.Versions (Sentence.Reads ∷ [])
    -- a remove is refused as spent where its bucket was changed less often
    ∷ wrong shared (in_call 1 6 (λ g. record g { call = calls.Remove 2; answer = answers.Spent 9 }) ∷ []) Bullet.Versions (Sentence.Reads ∷ [])
    -- a put at a version is done, and its version is not the next one
    ∷ wrong kept (in_call 0 1 (λ g. record g { call = calls.PutIf 0 11 0 }) ∷ []) Bullet.Versions (Sentence.Reads ∷ [])
    ∷ wrong kept (in_call 0 1 (λ g. record g { call = calls.PutIf 0 11 2 }) ∷ []) Bullet.Versions (Sentence.Reads ∷ [])
    -- a put at a version has the version of another change
    ∷ wrong kept (before_call 1 0 (group (calls.PutIf 0 10 0) (answers.Done 1 moves.Still) no_notes) ∷ []) Bullet.Versions (Sentence.Once ∷ [])
    -- a put at a version of a new key is done where a row has no room
    ∷ wrong kept (setting_as (λ c. record c { pairs = 1 }) ∷ []) Bullet.Versions (Sentence.Reads ∷ [])
    -- a put at a version is stale at that version
    ∷ wrong kept (in_call 1 4 (λ g. record g { call = calls.PutIf 0 77 2 }) ∷ []) Bullet.Versions (Sentence.Reads ∷ [])
    -- a put at a version is stale at one that its bucket never had
    ∷ wrong kept (then_call 1 (group (calls.PutIf 0 77 1) (answers.Stale 4) no_notes) ∷ []) Bullet.Versions (Sentence.Reads ∷ [])
    -- a put at a version finds its bucket full at another version
    ∷ wrong crowded (in_call 1 3 (λ g. record g { call = calls.PutIf 2 84 5 }) ∷ []) Bullet.Versions (Sentence.Reads ∷ [])
    -- a put at a version finds its bucket full where its key is, and where there was room
    ∷ wrong crowded (in_call 1 3 (λ g. record g { call = calls.PutIf 0 84 6 }) ∷ []) Bullet.Versions (Sentence.Reads ∷ [])
    ∷ wrong crowded (in_call 1 3 (λ g. record g { call = calls.PutIf 2 84 5; answer = answers.BucketFull 5 }) ∷ []) Bullet.Versions (Sentence.Reads ∷ [])
    -- a put at a version is refused as spent at another version
    ∷ wrong kept (in_call 0 4 (λ g. record g { call = calls.PutIf 0 13 2 }) ∷ []) Bullet.Versions (Sentence.Reads ∷ [])
    -- a put at a version is refused as spent where its bucket was changed less often
    ∷ wrong kept (in_call 0 4 (λ g. record g { call = calls.PutIf 1 13 3 }) ∷ []) Bullet.Versions (Sentence.Reads ∷ []) ∷ []

abbrev pub WrongVersionsRefused : Type 0
WrongVersionsRefused = AreRefused wrong_versions
