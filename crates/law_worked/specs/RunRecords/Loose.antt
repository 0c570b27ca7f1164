-- Runs that no history leaves, and that the law of runs takes: what it does not say.
use Rattle.std.specs.List.{AllByRecursion}
use Rattle.std.specs.Prelude.{List, None, Some, [], false, true, ◌∷◌}
use Rattle.law_all.specs.inv.model.Desks.{no_notes}
use Rattle.law_all.specs.inv.model.Locals.{Group}
use Rattle.law_all.specs.inv.model.defs.declared.call.Answer.TheVariants as answers
use Rattle.law_all.specs.inv.model.defs.declared.call.Call.TheVariants as calls
use Rattle.law_all.specs.inv.model.defs.declared.call.ClockMove.TheVariants as moves
use Rattle.law_all.specs.RunLaw.{RunLaw, no_bucket}
use Rattle.law_worked.specs.RunRecords.Handed.{handed}
use Rattle.law_worked.specs.RunRecords.Runs.{Run, answering, closing, group, life, notes, noting, setting, then_call}
use Rattle.law_worked.specs.RunRecords.Shared.{shared}

-- one value is queued and taken
abbrev queues_one : Group
queues_one = group (calls.Enqueue 71) (answers.Queued 1) (notes 15 (Some (0, 1)) false None [] 0)

abbrev takes_one : Group
takes_one = group calls.Dequeue (answers.Taken 1 71 moves.Still) (notes 18 None false (life 5 1 1) [] 0)

abbrev of_queue : List Group → Run
of_queue log =
    record {
      config = setting 2 5 1 9 9 9;
      logs = log ∷ [] ∷ [];
      closed = record { clock = 1; buckets = no_bucket ∷ []; queue = []; used = 0 ∷ 5 ∷ [] };
    }

abbrev pub loose : List Run
loose =
    -- the clock was closed before the era at which it began
    closing (λ t. record t { clock = 0 }) (of_queue (queues_one ∷ takes_one ∷ []))
    -- a row is given, and given up, that the table does not have
    ∷ noting 1 6 (λ n. record n { given = Some (77, 1) }) shared
    -- a call retires the row that it was given, or one that the table does not have
    ∷ noting 0 7 (λ n. record n { retired = life 5 4 4 }) shared
    ∷ noting 0 7 (λ n. record n { retired = life 77 9 2 }) shared
    -- a call is given a row that is on its seat's list
    ∷ noting 1 4 (λ n. record n { early = 0 }) shared
    -- a call is done and gives up the row that it was given
    ∷ noting 0 7 (λ n. record n { unused = true }) (closing (λ t. record t { used = 0 ∷ 1 ∷ 3 ∷ 4 ∷ [] }) shared)
    -- a get gives rows back
    ∷ then_call 0 (group (calls.Get 0) (answers.Got 5 None) (notes 9 None false None (0 ∷ []) 0)) (closing (λ t. record t { used = 1 ∷ 3 ∷ 4 ∷ 5 ∷ [] }) shared)
    -- a seat finds the queue empty, and takes a value after that which it has queued before
    ∷ of_queue (queues_one ∷ group calls.Dequeue answers.Empty (notes 11 None false None [] 0) ∷ takes_one ∷ [])
    -- a call finds a list taken over that its seat takes over after that
    ∷ answering 1 0 answers.AdoptedBefore handed
    -- a seat takes a list over, and then finds that it was not left
    ∷ then_call 2 (group (calls.Adopt 1) answers.NotLeft no_notes) handed ∷ []

abbrev pub LooseTaken : Type 0
LooseTaken = AllByRecursion (λ run. RunLaw run.config run.logs run.closed) loose
