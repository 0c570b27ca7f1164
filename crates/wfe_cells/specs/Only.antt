-- Which calls of the table a call on cells of words makes, and so all that it changes.
use Rattle.std.specs.Prelude.{All, Err, IfSome, List, Ok, Option, Result, Some, ℕ, ◌++◌, ◌≡◌, ◌≤◌, ◌⊎◌}
use Rattle.wfe_core.specs.Locals.{Group}
use Rattle.wfe_core.specs.defs.declared.call.Answer.{Answer}
use Rattle.wfe_core.specs.defs.declared.call.Answer.TheVariants as answers
use Rattle.wfe_core.specs.defs.declared.call.Call.TheVariants as calls
use Rattle.wfe_core.specs.defs.declared.call.ClockMove.{ClockMove}
use Rattle.wfe_table.specs.Calls.{put_if_answer}
use Rattle.wfe_table.specs.Public.{SeatNow}
use Rattle.wfe_table.specs.all.laws.StructuresAt.{bucket_of}
use Rattle.wfe_table_end.specs.declared.refusals.PutIfRefusal.{PutIfRefusal}
use Rattle.wfe_cells.specs.Wide.{block_of}
use Rattle.wfe_cells.specs.declared.wide.Seen.{Seen}
use Rattle.wfe_cells.specs.declared.wide.SwapRefusal.{SwapRefusal}

-- the calls that a seat has made since are all of this kind
pub record IsOnly (kind : Group → Type 0) (old new : SeatNow) : Type 0 where
  pub groups : List Group
  pub log : new.track.local.log ≡ old.track.local.log ++ groups
  pub all : All kind groups

-- a get
pub record IsGet (group : Group) : Type 0 where
  pub key : ℕ
  pub call : group.call ≡ calls.Get key

-- a put of a key of this bucket, at a version
pub record IsPutIn (buckets block : ℕ) (group : Group) : Type 0 where
  pub key : ℕ
  pub value : ℕ
  pub version : ℕ
  pub call : group.call ≡ calls.PutIf key value version
  pub within : bucket_of buckets key ≡ block

-- one of the two
abbrev pub IsOfWords : (buckets block : ℕ) → Group → Type 0
IsOfWords buckets block group = IsGet group ⊎ IsPutIn buckets block group

-- the put of a cell's object was done where the cell was changed, and refused where it was not
abbrev pub IsEndOf : Result Seen SwapRefusal → (object : ℕ) → Answer → Type 0
IsEndOf (Ok now) object answer = (now.object ≡ object) × ((clock : ClockMove) × (answer ≡ answers.Done now.version clock))
IsEndOf (Err refusal) object answer = (refused : PutIfRefusal) × (answer ≡ put_if_answer refused)

-- that put, at the version that was seen
pub record IsPutOf (seen : Seen) (result : Result Seen SwapRefusal) (group : Group) : Type 0 where
  pub object : ℕ
  pub call : group.call ≡ calls.PutIf seen.cell object seen.version
  pub ended : IsEndOf result object group.answer

-- words are put into this bucket, and the cell is given their object
abbrev pub IsOfPlace : (buckets block : ℕ) → Seen → Result Seen SwapRefusal → Group → Type 0
IsOfPlace buckets block seen result group = IsOfWords buckets block group ⊎ IsPutOf seen result group

-- a dequeue, and one of a thread that had kept no bucket
abbrev pub IsDequeue : Group → Type 0
IsDequeue group = group.call ≡ calls.Dequeue

pub record IsTaking (buckets : ℕ) (had : Option ℕ) (group : Group) : Type 0 where
  pub call : IsDequeue group
  pub none : IfSome had (λ block. buckets ≤ block)

-- the enqueue of the bucket that a thread had kept
pub record IsQueueing (had : Option ℕ) (group : Group) : Type 0 where
  pub block : ℕ
  pub spare : had ≡ Some block
  pub call : group.call ≡ calls.Enqueue block

-- a swap puts words into the bucket that the cell names then, or into one that the thread keeps
abbrev pub IsUsed : (kept : Option ℕ) → Result Seen SwapRefusal → (block : ℕ) → Type 0
IsUsed kept (Ok now) block = block_of now.object ≡ block
IsUsed kept (Err refusal) block = kept ≡ Some block

-- What a swap calls. So it changes keys of that bucket and its cell, and where it is refused not the cell.
pub data IsOfSwap (buckets : ℕ) (seen : Seen) (had kept : Option ℕ) (result : Result Seen SwapRefusal) (group : Group) : Type 0 where
  Reads : IsGet group → IsOfSwap buckets seen had kept result group
  Takes : IsTaking buckets had group → IsOfSwap buckets seen had kept result group
  Places : (block : ℕ) → IsUsed kept result block → IsOfPlace buckets block seen result group → IsOfSwap buckets seen had kept result group

-- What a take calls. So it changes its cell alone, and where it is refused nothing.
pub data IsOfTake (seen : Seen) (had : Option ℕ) (result : Result Seen SwapRefusal) (group : Group) : Type 0 where
  Looks : IsGet group → IsOfTake seen had result group
  Queues : IsQueueing had group → IsOfTake seen had result group
  Empties : IsPutOf seen result group → IsOfTake seen had result group
