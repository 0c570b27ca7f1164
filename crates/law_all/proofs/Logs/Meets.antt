-- What a log has met rises with each call that tells a version or a number, up to what the record counts.
use Rattle.std.proofs.Common.{ℕ, ◌≡◌, ◌≤◌, Bool, true, false, List, [], ◌∷◌, ◌++◌, length, Option, Some, None, refl, sym, subst, arith}
use Rattle.std.specs.Prelude.{◌==◌, if◌then◌else◌}
use Rattle.law_scans.proofs.laws.records.defs.Facts.{number_is}
use Rattle.law_scans.specs.inv.model.Locals.{Group}
use Rattle.law_scans.specs.laws.defs.declared.call.Answer.{Answer}
use Rattle.law_scans.specs.laws.defs.declared.call.Answer.TheVariants as answers
use Rattle.law_scans.specs.laws.defs.declared.call.Call.{Call}
use Rattle.law_scans.specs.laws.defs.declared.call.Call.TheVariants as calls
use Rattle.law_scans.specs.laws.words.declared.config.Config.{Config}
use Rattle.law_scans.specs.laws.StructuresAt.{bucket_of, count_of, queued_of, taken_of}
use Rattle.law_scans.specs.laws.records.Record.{Past}
use Rattle.law_all.specs.Logs.Answered.{IsMet, Says}
use Rattle.law_all.specs.Logs.Records.{LogsExtend}
use Rattle.law_all.specs.Logs.Versions.{AtMost, Counts, counts_of, met_by, met_from, no_counts, number_by, number_queued, number_taken, version_by, version_told}

from_extends : (n : ℕ) (before : Counts) (log : List Group) (group : Group) → met_from n before (log ++ group ∷ []) ≡ met_by n group.call group.answer (met_from n before log)
from_extends n before [] group = refl
from_extends n before (first ∷ log) group = from_extends n (met_by n first.call first.answer before) log group

pub logs_extend : LogsExtend
logs_extend n log group = from_extends n no_counts log group

some_is : {X : Type 0} (x y : X) → ◌≡◌ {A = Option X} (Some x) (Some y) → x ≡ y
some_is x y h = cc

-- a version that is told was there since the beginning
pub version_met : (c : Config) (from : Counts) (p : Past) (call : Call) (answer : Answer) (told : ℕ × ℕ) → version_told call answer ≡ Some told → Says c from p call answer → IsMet from p (bucket_of c.buckets told.0) told.1
version_met c from p (calls.Get key) (answers.Got version value) told e s = subst (λ (x : ℕ × ℕ). IsMet from p (bucket_of c.buckets x.0) x.1) (some_is (key, version) told e) s.met
version_met c from p (calls.Put key value) (answers.Done version clock) told e s = subst (λ (x : ℕ × ℕ). IsMet from p (bucket_of c.buckets x.0) x.1) (some_is (key, version) told e) s.met
version_met c from p (calls.Put key value) (answers.BucketFull version) told e s = subst (λ (x : ℕ × ℕ). IsMet from p (bucket_of c.buckets x.0) x.1) (some_is (key, version) told e) s.met
version_met c from p (calls.Put key value) (answers.Spent version) told e s = subst (λ (x : ℕ × ℕ). IsMet from p (bucket_of c.buckets x.0) x.1) (some_is (key, version) told e) s.met
version_met c from p (calls.PutIf key value wanted) (answers.Done version clock) told e s = subst (λ (x : ℕ × ℕ). IsMet from p (bucket_of c.buckets x.0) x.1) (some_is (key, version) told e) s.done.met
version_met c from p (calls.PutIf key value wanted) (answers.BucketFull version) told e s = subst (λ (x : ℕ × ℕ). IsMet from p (bucket_of c.buckets x.0) x.1) (some_is (key, version) told e) s.full.met
version_met c from p (calls.PutIf key value wanted) (answers.Spent version) told e s = subst (λ (x : ℕ × ℕ). IsMet from p (bucket_of c.buckets x.0) x.1) (some_is (key, version) told e) s.spent.met
version_met c from p (calls.PutIf key value wanted) (answers.Stale version) told e s = subst (λ (x : ℕ × ℕ). IsMet from p (bucket_of c.buckets x.0) x.1) (some_is (key, version) told e) s.met
version_met c from p (calls.Remove key) (answers.Done version clock) told e s = subst (λ (x : ℕ × ℕ). IsMet from p (bucket_of c.buckets x.0) x.1) (some_is (key, version) told e) s.met
version_met c from p (calls.Remove key) (answers.Absent version) told e s = subst (λ (x : ℕ × ℕ). IsMet from p (bucket_of c.buckets x.0) x.1) (some_is (key, version) told e) s.met
version_met c from p (calls.Remove key) (answers.Spent version) told e s = subst (λ (x : ℕ × ℕ). IsMet from p (bucket_of c.buckets x.0) x.1) (some_is (key, version) told e) s.spent.met
version_met c from p call answer told e s = absurd (cc)

-- and so was a number
queued_met : (c : Config) (from : Counts) (p : Past) (call : Call) (answer : Answer) (number : ℕ) → number_queued call answer ≡ Some number → Says c from p call answer → (from.queued ≤ number) × (number ≤ length (queued_of p))
queued_met c from p (calls.Enqueue value) (answers.Queued m) number e s = let same : m ≡ number = cc in (omega (arith, s.since, same), omega (arith, s.until, same))
queued_met c from p call answer number e s = absurd (cc)

taken_met : (c : Config) (from : Counts) (p : Past) (call : Call) (answer : Answer) (number : ℕ) → number_taken call answer ≡ Some number → Says c from p call answer → (from.taken ≤ number) × (number ≤ taken_of p)
taken_met c from p calls.Dequeue (answers.Taken m value clock) number e s = let same : m ≡ number = cc in (omega (arith, s.since, same), omega (arith, s.until, same))
taken_met c from p call answer number e s = absurd (cc)

-- between what was met before and what there is
record Between (before after most : ℕ) : Type 0 where
  low : before ≤ after
  high : after ≤ most

number_between : (o : Option ℕ) (before from most : ℕ) → before ≤ from → from ≤ most → ((number : ℕ) → o ≡ Some number → (from ≤ number) × (number ≤ most)) → Between before (number_by o before) most
number_between None before from most h k f = record { low = omega arith; high = omega (arith, h, k) }
number_between (Some number) before from most h k f = let m = f number refl in record { low = omega (arith, h, m.0); high = m.1 }

version_between : (c : Config) (from : Counts) (p : Past) (b : ℕ) (o : Option (ℕ × ℕ)) (before : ℕ) → before ≤ from.versions b → from.versions b ≤ count_of b p → ((told : ℕ × ℕ) → o ≡ Some told → IsMet from p (bucket_of c.buckets told.0) told.1)
    → Between before (version_by c.buckets b o before) (count_of b p)
version_between c from p b None before h k f = record { low = omega arith; high = omega (arith, h, k) }
version_between c from p b (Some told) before h k f = by (b == bucket_of c.buckets told.0) refl
  where
    by : (same : Bool) → (b == bucket_of c.buckets told.0) ≡ same → Between before (if same then told.1 else before) (count_of b p)
    by true e =
        let one : b ≡ bucket_of c.buckets told.0 = number_is b (bucket_of c.buckets told.0) e in
        let m : IsMet from p b told.1 = subst (λ (x : ℕ). IsMet from p x told.1) (sym one) (f told refl) in
        record { low = omega (arith, h, m.since); high = m.until }
    by false e = record { low = omega arith; high = omega (arith, h, k) }

-- with one call more
pub record Rises (before after most : Counts) : Type 0 where
  pub low : AtMost before after
  pub high : AtMost after most

pub call_rises : (c : Config) (from : Counts) (p : Past) (call : Call) (answer : Answer) (before : Counts) → Says c from p call answer → AtMost before from → AtMost from (counts_of p) → Rises before (met_by c.buckets call answer before) (counts_of p)
call_rises c from p call answer before s h k =
    let v = (λ (b : ℕ). version_between c from p b (version_told call answer) (before.versions b) (h.versions b) (k.versions b) (λ told e. version_met c from p call answer told e s)) in
    let q = number_between (number_queued call answer) before.queued from.queued (length (queued_of p)) h.queued k.queued (λ number e. queued_met c from p call answer number e s) in
    let t = number_between (number_taken call answer) before.taken from.taken (taken_of p) h.taken k.taken (λ number e. taken_met c from p call answer number e s) in
    record {
      low = record { versions = λ b. (v b).low; queued = q.low; taken = t.low };
      high = record { versions = λ b. (v b).high; queued = q.high; taken = t.high };
    }
