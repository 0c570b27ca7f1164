-- What a seat has met of versions and numbers: those that the answers of its calls tell.
use Rattle.std.specs.Prelude.{ℕ, ◌≤◌, ◌==◌, if◌then◌else◌, List, [], ◌∷◌, length, Option, None, Some}
use Rattle.law_scans.specs.inv.model.Locals.{Group}
use Rattle.law_scans.specs.laws.defs.declared.call.Answer.{Answer}
use Rattle.law_scans.specs.laws.defs.declared.call.Answer.TheVariants as answers
use Rattle.law_scans.specs.laws.defs.declared.call.Call.{Call}
use Rattle.law_scans.specs.laws.defs.declared.call.Call.TheVariants as calls
use Rattle.law_scans.specs.laws.StructuresAt.{bucket_of, count_of, queued_of, taken_of}
use Rattle.law_scans.specs.laws.records.Record.{Past}

-- the changes of each bucket, the values queued, and how many of them were taken
pub record Counts : Type 0 where
  pub versions : ℕ → ℕ
  pub queued : ℕ
  pub taken : ℕ

-- at a position
abbrev pub counts_of : Past → Counts
counts_of p = record { versions = λ b. count_of b p; queued = length (queued_of p); taken = taken_of p }

-- each of the counts is at most the other's
pub record AtMost (low high : Counts) : Type 0 where
  pub versions : (b : ℕ) → low.versions b ≤ high.versions b
  pub queued : low.queued ≤ high.queued
  pub taken : low.taken ≤ high.taken

-- The key of a call whose answer tells a version of the key's bucket, and that version. What a look tells is left aside: it may be that
-- of a row that was replaced long ago.
abbrev pub version_told : Call → Answer → Option (ℕ × ℕ)
version_told (calls.Get key) (answers.Got version value) = Some (key, version)
version_told (calls.Put key value) (answers.Done version clock) = Some (key, version)
version_told (calls.Put key value) (answers.BucketFull version) = Some (key, version)
version_told (calls.Put key value) (answers.Spent version) = Some (key, version)
version_told (calls.PutIf key value wanted) (answers.Done version clock) = Some (key, version)
version_told (calls.PutIf key value wanted) (answers.BucketFull version) = Some (key, version)
version_told (calls.PutIf key value wanted) (answers.Spent version) = Some (key, version)
version_told (calls.PutIf key value wanted) (answers.Stale version) = Some (key, version)
version_told (calls.Remove key) (answers.Done version clock) = Some (key, version)
version_told (calls.Remove key) (answers.Absent version) = Some (key, version)
version_told (calls.Remove key) (answers.Spent version) = Some (key, version)
version_told call answer = None

-- the number under which a call has queued its value, and the number of the value that it has taken
abbrev pub number_queued : Call → Answer → Option ℕ
number_queued (calls.Enqueue value) (answers.Queued number) = Some number
number_queued call answer = None

abbrev pub number_taken : Call → Answer → Option ℕ
number_taken calls.Dequeue (answers.Taken number value clock) = Some number
number_taken call answer = None

-- a version that is told of this bucket takes the place of the one before
abbrev pub version_by : (buckets bucket : ℕ) → Option (ℕ × ℕ) → ℕ → ℕ
version_by n b None before = before
version_by n b (Some told) before = if b == bucket_of n told.0 then told.1 else before

-- and so does a number
abbrev pub number_by : Option ℕ → ℕ → ℕ
number_by None before = before
number_by (Some number) before = number

-- what a seat has met, with the answer of one call more
abbrev pub met_by : (buckets : ℕ) → Call → Answer → Counts → Counts
met_by n call answer before =
    record {
      versions = λ b. version_by n b (version_told call answer) (before.versions b);
      queued = number_by (number_queued call answer) before.queued;
      taken = number_by (number_taken call answer) before.taken;
    }

-- with the calls of a log more
abbrev pub met_from : (buckets : ℕ) → Counts → List Group → Counts
met_from n before [] = before
met_from n before (group ∷ log) = met_from n (met_by n group.call group.answer before) log

-- before any call
abbrev pub no_counts : Counts
no_counts = record { versions = λ b. 0; queued = 0; taken = 0 }

-- what the calls of a log have met, in a table with so many buckets
abbrev pub met_in : (buckets : ℕ) → List Group → Counts
met_in n log = met_from n no_counts log

-- the version of a bucket that they told last, and 0 where they told none
abbrev pub seen_in : (buckets bucket : ℕ) → List Group → ℕ
seen_in n b log = (met_in n log).versions b
