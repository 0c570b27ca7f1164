-- The changes of a bucket and the values queued are those that the calls tell: where the law of versions holds of any changes, and the law
-- of the queue of any values and any number, it holds of those.
use Rattle.std.proofs.Common.{Bool, List, None, Option, Some, [], ap, ap₂, arith, false, length, refl, subst, suc, sym, true, ℕ, ◌++◌, ◌+◌, ◌-◌, ◌<◌, ◌∙◌, ◌∷◌, ◌≡◌, ◌≤◌}
use Rattle.std.proofs.lemmas.Bool.Decides.{nat_tests}
use Rattle.std.specs.List.{cons_option, count_by, find, slice_get}
use Rattle.std.specs.Prelude.{if◌then◌else◌, is_some, nat_le, ◌&&◌, ◌==◌}
use Rattle.law_all.proofs.inv.model.Facts.{by_cases, first_of, number_is, rest_of}
use Rattle.law_all.specs.inv.model.Locals.{Group}
use Rattle.law_all.specs.inv.model.defs.Pairs.{value_in}
use Rattle.law_all.specs.inv.model.defs.declared.call.Answer.{Answer}
use Rattle.law_all.specs.inv.model.defs.declared.call.Answer.TheVariants as answers
use Rattle.law_all.specs.inv.model.defs.declared.call.Call.{Call}
use Rattle.law_all.specs.inv.model.defs.declared.call.Call.TheVariants as calls
use Rattle.law_all.specs.inv.model.defs.declared.fold.Change.{Change}
use Rattle.law_all.specs.inv.model.defs.declared.fold.Change.TheVariants as changes
use Rattle.law_all.specs.inv.model.words.declared.config.Config.{Config}
use Rattle.law_all.specs.laws.StructuresAt.{bucket_of}
use Rattle.law_all.specs.Logs.Versions.{number_queued, version_told}
use Rattle.law_all.specs.RunLaw.{AtClose, IsAway, IsCall, IsLook, IsMade, IsThere, KeepsLaw, KeptRight, QueueLaw, QueuesRight, ReadsRight, VersionsLaw, bucket_kept, change_made, could_put, has_number, is_change_of, is_queued_as, is_version, pairs_by, total_of}
use Rattle.law_worked.specs.RunRecords.Readers.{change_by, change_in, find_call, greatest, listed, made_in, queued_by, queued_in, taken_by, taken_in, tellers, value_by, value_of_call, version_in}
use Rattle.law_worked.specs.RunRecords.Readers as readers
use Rattle.law_worked.proofs.RunRecords.Numbers.{count_more, greatest_is, once_within, total_more}
use mathlib.Core.Path.{fun_ext}

-- Where calls pass a test, the first that is found is one of them.

record FoundIn (test : Group → Bool) (log : List Group) : Type 0 where
  front : List Group
  group : Group
  later : List Group
  is : log ≡ front ++ group ∷ later
  passes : test group ≡ true
  found : find test log ≡ Some group

found_in : (test : Group → Bool) (log : List Group) → 1 ≤ count_by test log → FoundIn test log
found_in test [] l = absurd (omega arith)
found_in test (x ∷ log) l =
    by_cases (test x) (FoundIn test (x ∷ log))
    (λ t. record { front = []; group = x; later = log; is = refl; passes = t; found = ap (λ b. if b then Some x else find test log) t })
    (λ t.
    let same : count_by test (x ∷ log) ≡ 0 + count_by test log = count_more test x log ∙ ap (λ b. (if b then 1 else 0) + count_by test log) t in
    let k = found_in test log (omega arith) in
    record {
      front = x ∷ k.front;
      group = k.group;
      later = k.later;
      is = ap (λ l. x ∷ l) k.is;
      passes = k.passes;
      found = ap (λ b. if b then Some x else find test log) t ∙ k.found;
    })

none_in : (test : Group → Bool) (log : List Group) → count_by test log ≡ 0 → find test log ≡ None
none_in test [] e = refl
none_in test (x ∷ log) e =
    by_cases (test x) (find test (x ∷ log) ≡ None)
    (λ t.
    let same : count_by test (x ∷ log) ≡ 1 + count_by test log = count_more test x log ∙ ap (λ b. (if b then 1 else 0) + count_by test log) t in
    absurd (omega arith))
    (λ t.
    let same : count_by test (x ∷ log) ≡ 0 + count_by test log = count_more test x log ∙ ap (λ b. (if b then 1 else 0) + count_by test log) t in
    ap (λ b. if b then Some x else find test log) t ∙ none_in test log (omega arith))

record Found (test : Group → Bool) (logs : List (List Group)) : Type 0 where
  before : List Group
  group : Group
  call : IsCall logs before group
  passes : test group ≡ true
  found : find_call test logs ≡ Some group

in_first : (test : Group → Bool) (log : List Group) (logs : List (List Group)) → FoundIn test log → Found test (log ∷ logs)
in_first test log logs k =
    record {
      before = k.front;
      group = k.group;
      call = record { later = k.later; log = record { seat = 0; at = ap Some k.is } };
      passes = k.passes;
      found = ap (λ o. readers.first_of o (find_call test logs)) k.found;
    }

in_others : (test : Group → Bool) (log : List Group) (logs : List (List Group)) → find test log ≡ None → Found test logs → Found test (log ∷ logs)
in_others test log logs none k =
    record {
      before = k.before;
      group = k.group;
      call = record { later = k.call.later; log = record { seat = suc k.call.log.seat; at = k.call.log.at } };
      passes = k.passes;
      found = ap (λ o. readers.first_of o (find_call test logs)) none ∙ k.found;
    }

found_call : (test : Group → Bool) (logs : List (List Group)) → 1 ≤ total_of test logs → Found test logs
found_call test [] l = absurd (omega arith)
found_call test (log ∷ logs) l =
    by_cases (nat_le 1 (count_by test log)) (Found test (log ∷ logs))
    (λ t. in_first test log logs (found_in test log (grind (arith, nat_tests))))
    (λ t.
    let none : count_by test log ≡ 0 = grind (arith, nat_tests) in
    in_others test log logs (none_in test log none) (found_call test logs (omega (arith, total_more test log logs))))

-- A list is what it has at each place.

listed_is : {X : Type 0} (f : ℕ → Option X) (from : ℕ) (xs : List X)
    → ((place number : ℕ) → number ≡ from + place → place < length xs → f number ≡ slice_get xs place) → listed f from (length xs) ≡ xs
listed_is f from [] h = refl
listed_is f from (x ∷ xs) h =
    ap₂ (λ o ys. cons_option o ys) (h 0 from (omega arith) (omega arith))
    (listed_is f (suc from) xs (λ place number e l. h (suc place) number (omega arith) (omega arith)))

-- Changes.

is_change_in : (n b version : ℕ) (b' : Bool) (told : Option (ℕ × ℕ))
    → (b' && is_version n b version told) ≡ has_number version (if b' then version_in n b told else None)
is_change_in n b version false told = refl
is_change_in n b version true None = refl
is_change_in n b version true (Some told) =
    by_cases (bucket_of n told.0 == b)
    ((bucket_of n told.0 == b && told.1 == version) ≡ has_number version (if bucket_of n told.0 == b then Some told.1 else None))
    (λ t. ap (λ x. x && told.1 == version) t ∙ sym (ap (λ x. has_number version (if x then Some told.1 else None)) t))
    (λ t. ap (λ x. x && told.1 == version) t ∙ sym (ap (λ x. has_number version (if x then Some told.1 else None)) t))

pub changes_told : (n b version : ℕ) (logs : List (List Group)) → total_of (is_change_of n b version) logs ≡ tellers (change_in n b) version logs
changes_told n b version logs =
    ap (λ (test : Group → Bool). total_of test logs)
    (fun_ext (λ (group : Group). is_change_in n b version (is_some (change_made group.call group.answer)) (version_told group.call group.answer)))

-- a change that is done is that of its version
change_read : (c : Config) (made : ℕ → List Change) (b version : ℕ) (call : Call) (answer : Answer)
    → (is_some (change_made call answer) && is_version c.buckets b version (version_told call answer)) ≡ true
    → ReadsRight c made call answer → slice_get (made b) (version - 1) ≡ change_made call answer
change_read c made b version (calls.Put key value) (answers.Done told clock) e h =
    let at : bucket_of c.buckets key ≡ b = number_is (bucket_of c.buckets key) b (first_of (bucket_of c.buckets key == b) (told == version) e) in
    let is : told ≡ version = number_is told version (rest_of (bucket_of c.buckets key == b) (told == version) e) in
    subst (λ x. slice_get (made x) (version - 1) ≡ Some (changes.Put key value)) at
    (subst (λ x. slice_get (made (bucket_of c.buckets key)) (x - 1) ≡ Some (changes.Put key value)) is h.is)
change_read c made b version (calls.PutIf key value wanted) (answers.Done told clock) e h =
    let at : bucket_of c.buckets key ≡ b = number_is (bucket_of c.buckets key) b (first_of (bucket_of c.buckets key == b) (told == version) e) in
    let is : told ≡ version = number_is told version (rest_of (bucket_of c.buckets key == b) (told == version) e) in
    subst (λ x. slice_get (made x) (version - 1) ≡ Some (changes.Put key value)) at
    (subst (λ x. slice_get (made (bucket_of c.buckets key)) (x - 1) ≡ Some (changes.Put key value)) is h.0.is)
change_read c made b version (calls.Remove key) (answers.Done told clock) e h =
    let at : bucket_of c.buckets key ≡ b = number_is (bucket_of c.buckets key) b (first_of (bucket_of c.buckets key == b) (told == version) e) in
    let is : told ≡ version = number_is told version (rest_of (bucket_of c.buckets key == b) (told == version) e) in
    subst (λ x. slice_get (made x) (version - 1) ≡ Some (changes.Removed key)) at
    (subst (λ x. slice_get (made (bucket_of c.buckets key)) (x - 1) ≡ Some (changes.Removed key)) is h.is)
change_read c made b version call answer e h = absurd (cc)

pub made_is : (c : Config) (logs : List (List Group)) (closed : AtClose) (made : ℕ → List Change) → VersionsLaw c logs closed made
    → (b : ℕ) → b < c.buckets → made_in c.buckets logs b ≡ made b
made_is c logs closed made law b low =
    let most : greatest (change_in c.buckets b) logs ≡ length (made b) =
    greatest_is (change_in c.buckets b) (length (made b)) logs (λ number. sym (changes_told c.buckets b number logs) ∙ law.once b number low) in
    let f : ℕ → Option Change = λ version. change_by (find_call (is_change_of c.buckets b version) logs) in
    ap (λ many. listed f 1 many) most
    ∙ listed_is f 1 (made b) (λ place number e l.
    let once : total_of (is_change_of c.buckets b number) logs ≡ 1 = law.once b number low ∙ once_within (length (made b)) number (omega arith) (omega arith) in
    let k = found_call (is_change_of c.buckets b number) logs (omega arith) in
    let read : slice_get (made b) (number - 1) ≡ change_made k.group.call k.group.answer =
    change_read c made b number k.group.call k.group.answer k.passes (law.reads k.before k.group k.call) in
    let at : number - 1 ≡ place = omega arith in
    ap change_by k.found ∙ sym read ∙ ap (λ (x : ℕ). slice_get (made b) x) at)

-- what an answer says of its bucket, it says of changes that are the same there
pub reads_of : (c : Config) (made other : ℕ → List Change) → ((key : ℕ) → made (bucket_of c.buckets key) ≡ other (bucket_of c.buckets key))
    → (call : Call) (answer : Answer) → ReadsRight c made call answer → ReadsRight c other call answer
reads_of c made other same (calls.Get key) (answers.Got version value) h =
    subst (λ cs. (version ≤ length cs) × (value ≡ value_in (pairs_by cs version) key)) (same key) h
reads_of c made other same (calls.Put key value) (answers.Done version clock) h =
    subst (λ cs. IsMade cs (changes.Put key value) version (could_put c.pairs (pairs_by cs (version - 1)) key)) (same key) h
reads_of c made other same (calls.Put key value) (answers.BucketFull version) h =
    subst (λ cs. IsAway cs key version × (length (pairs_by cs version) ≡ c.pairs)) (same key) h
reads_of c made other same (calls.Put key value) (answers.Spent version) h = subst (λ (cs : List Change). version ≡ length cs) (same key) h
reads_of c made other same (calls.PutIf key value wanted) (answers.Done version clock) h =
    subst (λ cs. IsMade cs (changes.Put key value) version (could_put c.pairs (pairs_by cs (version - 1)) key) × (version ≡ wanted + 1)) (same key) h
reads_of c made other same (calls.PutIf key value wanted) (answers.BucketFull version) h =
    subst (λ cs. (IsAway cs key version × (length (pairs_by cs version) ≡ c.pairs)) × (version ≡ wanted)) (same key) h
reads_of c made other same (calls.PutIf key value wanted) (answers.Spent version) h =
    subst (λ (cs : List Change). (version ≡ length cs) × (version ≡ wanted)) (same key) h
reads_of c made other same (calls.PutIf key value wanted) (answers.Stale version) h =
    subst (λ (cs : List Change). (version ≤ length cs) × ((version == wanted) ≡ false)) (same key) h
reads_of c made other same (calls.Remove key) (answers.Done version clock) h =
    subst (λ cs. IsMade cs (changes.Removed key) version (is_some (value_in (pairs_by cs (version - 1)) key))) (same key) h
reads_of c made other same (calls.Remove key) (answers.Absent version) h = subst (λ cs. IsAway cs key version) (same key) h
reads_of c made other same (calls.Remove key) (answers.Spent version) h =
    subst (λ cs. IsThere cs key version × (version ≡ length cs)) (same key) h
reads_of c made other same call answer h = h

-- the same of what is said of rows that are kept
look_of : (c : Config) (made other : ℕ → List Change) → ((key : ℕ) → made (bucket_of c.buckets key) ≡ other (bucket_of c.buckets key))
    → (before : List Group) (index key slot version : ℕ) (value : Option ℕ) → IsLook c made before index key slot version value
    → IsLook c other before index key slot version value
look_of c made other same before index key slot version value h =
    let at : made (bucket_kept c h.row.kept) ≡ other (bucket_kept c h.row.kept) = same h.row.kept.key in
    record {
      row = h.row;
      some = h.some;
      had = subst (λ (cs : List Change). version ≤ length cs) at h.had;
      value_is = subst (λ (cs : List Change). value ≡ value_in (pairs_by cs version) key) at h.value_is;
      since = h.since;
      since_looks = h.since_looks;
    }

right_of : (c : Config) (made other : ℕ → List Change) → ((key : ℕ) → made (bucket_of c.buckets key) ≡ other (bucket_of c.buckets key))
    → (before : List Group) (call : Call) (answer : Answer) → KeptRight c made before call answer → KeptRight c other before call answer
right_of c made other same before (calls.Look index key) (answers.Looked slot version value) h =
    look_of c made other same before index key slot version value h
right_of c made other same before call answer h = h

pub keeps_of : (c : Config) (logs : List (List Group)) (made other : ℕ → List Change)
    → ((key : ℕ) → made (bucket_of c.buckets key) ≡ other (bucket_of c.buckets key)) → KeepsLaw c logs made → KeepsLaw c logs other
keeps_of c logs made other same law =
    record { right = λ before group k. right_of c made other same before group.call group.answer (law.right before group k); same = law.same }

-- Values queued.

value_read : (c : Config) (queued : List ℕ) (number : ℕ) (call : Call) (answer : Answer)
    → has_number number (number_queued call answer) ≡ true → QueuesRight c queued call answer → slice_get queued (number - 1) ≡ value_of_call call
value_read c queued number (calls.Enqueue value) (answers.Queued told) e h =
    subst (λ x. slice_get queued (x - 1) ≡ Some value) (number_is told number e) h
value_read c queued number call answer e h = absurd (cc)

pub queued_is : (c : Config) (logs : List (List Group)) (closed : AtClose) (queued : List ℕ) (taken : ℕ) → QueueLaw c logs closed queued taken
    → queued_in logs ≡ queued
queued_is c logs closed queued taken law =
    let most : greatest queued_by logs ≡ length queued = greatest_is queued_by (length queued) logs law.once_queued in
    let f : ℕ → Option ℕ = λ number. value_by (find_call (is_queued_as number) logs) in
    ap (λ many. listed f 1 many) most
    ∙ listed_is f 1 queued (λ place number e l.
    let once : total_of (is_queued_as number) logs ≡ 1 = law.once_queued number ∙ once_within (length queued) number (omega arith) (omega arith) in
    let k = found_call (is_queued_as number) logs (omega arith) in
    let read : slice_get queued (number - 1) ≡ value_of_call k.group.call =
    value_read c queued number k.group.call k.group.answer k.passes (law.right k.before k.group k.call) in
    let at : number - 1 ≡ place = omega arith in
    ap value_by k.found ∙ sym read ∙ ap (λ (x : ℕ). slice_get queued x) at)

pub taken_is : (c : Config) (logs : List (List Group)) (closed : AtClose) (queued : List ℕ) (taken : ℕ) → QueueLaw c logs closed queued taken
    → taken_in logs ≡ taken
taken_is c logs closed queued taken law = greatest_is taken_by taken logs law.once_taken
