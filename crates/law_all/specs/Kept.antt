-- What a seat keeps at its indexes from 2 on, as the calls of its log and their answers tell: a hold keeps a row at index 2, a copy keeps it
-- at a higher index too, and a release and a drop let go of it.
use Rattle.std.specs.Prelude.{List, None, Option, Some, [], if◌then◌else◌, max, ℕ, ◌++◌, ◌==◌, ◌∷◌}
use Rattle.law_all.specs.inv.model.Locals.{Group}
use Rattle.law_all.specs.inv.model.defs.declared.call.Answer.TheVariants as answers
use Rattle.law_all.specs.inv.model.defs.declared.call.Answer.{Answer}
use Rattle.law_all.specs.inv.model.defs.declared.call.Call.TheVariants as calls
use Rattle.law_all.specs.inv.model.defs.declared.call.Call.{Call}
use Rattle.law_all.specs.laws.StructuresAt.{bucket_of}

-- a row that is kept: the key of the hold that it came from, its slot, and the calls of the seat before that hold
pub record Keeping : Type 0 where
  pub key : ℕ
  pub slot : ℕ
  pub before : List Group

-- what is kept at an index, after one call more; `before`: the calls before that one
abbrev pub kept_by : (before : List Group) → Call → Answer → (ℕ → Option Keeping) → (index : ℕ) → Option Keeping
kept_by before (calls.Hold key) (answers.Holding slot) kept j = if j == 2 then Some (record { key = key; slot = slot; before = before }) else kept j
kept_by before (calls.Hold key) answers.Nothing kept j = if j == 2 then None else kept j
kept_by before calls.Release answer kept j = if j == 2 then None else kept j
kept_by before (calls.DropIndex index) answer kept j = if j == index then None else kept j
kept_by before (calls.Copy from index) (answers.Copied slot) kept j = if j == index then kept from else kept j
kept_by before calls.Leave answer kept j = None
kept_by before call answer kept j = kept j

-- after these calls more
abbrev pub kept_from : (kept : ℕ → Option Keeping) (before log : List Group) (index : ℕ) → Option Keeping
kept_from kept before [] j = kept j
kept_from kept before (group ∷ log) j = kept_from (kept_by before group.call group.answer kept) (before ++ group ∷ []) log j

-- what a seat keeps at the index after the calls of its log
abbrev pub kept_in : (index : ℕ) → List Group → Option Keeping
kept_in j log = kept_from (λ (index : ℕ). None) [] log j

-- the greater of these versions, where the row is kept from a hold of a key of this bucket
abbrev pub looked_at : (buckets bucket : ℕ) → Option Keeping → (version most : ℕ) → ℕ
looked_at n b None version most = most
looked_at n b (Some kept) version most = if bucket_of n kept.key == b then max version most else most

-- with one call more; `before`: the calls before that one
abbrev pub looked_by : (buckets bucket : ℕ) → (before : List Group) → Call → Answer → (most : ℕ) → ℕ
looked_by n b before (calls.Look index key) (answers.Looked slot version value) most = looked_at n b (kept_in index before) version most
looked_by n b before call answer most = most

abbrev pub looked_from : (buckets bucket : ℕ) → (before log : List Group) → (most : ℕ) → ℕ
looked_from n b before [] most = most
looked_from n b before (group ∷ log) most = looked_from n b (before ++ group ∷ []) log (looked_by n b before group.call group.answer most)

-- the greatest version of a bucket that looks of a seat have told, and 0 where they told none
abbrev pub looked_in : (buckets bucket : ℕ) → List Group → ℕ
looked_in n b log = looked_from n b [] log 0
