-- Why a load shows nothing and why a cell is not changed, by the calls of the table that say so; and that no bucket is lost.
use Rattle.std.specs.Prelude.{All, Err, IfSome, List, None, Ok, Option, Result, Some, [], if◌then◌else◌, length, slice_index_or, sum_by, ℕ, ◌++◌, ◌+◌, ◌<◌, ◌==◌, ◌∷◌, ◌≡◌, ◌≢◌, ◌≤◌, ◌⊎◌}
use Rattle.wfe_core.specs.Locals.{Group}
use Rattle.wfe_core.specs.defs.declared.call.Answer.{Answer}
use Rattle.wfe_core.specs.defs.declared.call.Answer.TheVariants as answers
use Rattle.wfe_core.specs.defs.declared.call.Call.{Call}
use Rattle.wfe_core.specs.defs.declared.call.Call.TheVariants as calls
use Rattle.wfe_core.specs.defs.declared.call.ClockMove.{ClockMove}
use Rattle.wfe_core.specs.words.declared.layout.Layout.{Layout}
use Rattle.wfe_table.specs.Calls.{IsMade, enqueue_answer, put_if_answer}
use Rattle.wfe_table.specs.Public.{IsOf, SeatNow, TableNow}
use Rattle.wfe_table.specs.all.Logs.Answered.{IsMet, IsStale}
use Rattle.wfe_table.specs.all.Logs.Versions.{counts_of}
use Rattle.wfe_table.specs.history.History.{Item, record_of}
use Rattle.wfe_table.specs.rule.Rule.{Opens}
use Rattle.wfe_table.specs.rule.Views.{seat_of}
use Rattle.wfe_table_end.specs.declared.refusals.EnqueueRefusal.{EnqueueRefusal}
use Rattle.wfe_table_end.specs.declared.refusals.PutIfRefusal.{PutIfRefusal}
use Rattle.wfe_cells.specs.Stores.{is_object}
use Rattle.wfe_cells.specs.Wide.{IsNamed, IsWritten, block_of, key_of, made_at}
use Rattle.wfe_cells.specs.declared.wide.Seen.{Seen}
use Rattle.wfe_cells.specs.declared.wide.SwapRefusal.{SwapRefusal}
use Rattle.wfe_cells.specs.declared.wide.SwapRefusal.TheVariants as refusals
use Rattle.wfe_cells.specs.declared.wide.WideUser.{WideUser}

-- the seat has made calls since, some or none
pub record IsLater (old new : SeatNow) : Type 0 where
  pub seat : seat_of new.track ≡ seat_of old.track
  pub past : Opens new.track.past old.track.past

-- one of them was this call, and was answered so
pub record IsAmong (layout : Layout) (old new : SeatNow) (call : Call) (answer : Answer) : Type 0 where
  pub before : SeatNow
  pub after : SeatNow
  pub since : IsLater old before
  pub made : IsMade layout before after call answer
  pub until : IsLater after new

-- a get of one of an object's words told another version of its bucket than the object's, or no word
pub record IsMoved (layout : Layout) (old new : SeatNow) (object width : ℕ) : Type 0 where
  pub word : ℕ
  pub within : word < width
  pub version : ℕ
  pub value : Option ℕ
  pub told : IsAmong layout old new (calls.Get (key_of layout.config.buckets (block_of object) word)) (answers.Got version value)
  pub other : (value ≡ None) ⊎ (version ≢ made_at object)

-- an object could not be read: it was replaced meanwhile, or it names a bucket that the table does not have
abbrev pub IsLost : Layout → (old new : SeatNow) → (object width : ℕ) → Type 0
IsLost layout old new object width = (layout.config.buckets ≤ block_of object) ⊎ IsMoved layout old new object width

-- one attempt of a load: a get of the cell told an object, which could not be read
pub record IsDisturbed (layout : Layout) (cell width : ℕ) (old new : SeatNow) : Type 0 where
  pub version : ℕ
  pub object : ℕ
  pub mid : SeatNow
  pub named : IsMade layout old mid (calls.Get cell) (answers.Got version (Some object))
  pub some : object ≢ 0
  pub lost : IsLost layout mid new object width

-- so many attempts, one after another
pub data AllDisturbed (layout : Layout) (cell width : ℕ) (old : SeatNow) : (attempts : ℕ) → SeatNow → Type 0 where
  NoneYet : AllDisturbed layout cell width old 0 old
  OneMore : (attempts : ℕ) → (mid new : SeatNow) → AllDisturbed layout cell width old attempts mid → IsDisturbed layout cell width mid new → AllDisturbed layout cell width old (attempts + 1) new

-- the put of a word was refused, into the bucket that the thread keeps, at a version that the bucket had since
pub record IsWordRefused (layout : Layout) (old new : SeatNow) (kept : Option ℕ) (words : List ℕ) (refusal : PutIfRefusal) : Type 0 where
  pub block : ℕ
  pub keeps : kept ≡ Some block
  pub bucket : block < layout.config.buckets
  pub word : ℕ
  pub within : word < length words
  pub version : ℕ
  pub met : IsMet (counts_of (record_of layout old.track.past)) (record_of layout new.track.past) block version
  pub told : IsAmong layout old new (calls.PutIf (key_of layout.config.buckets block word) (slice_index_or words word 0) version) (put_if_answer refusal)

-- the object that a cell was to have: none for no words, or these words, which stand in the bucket that the thread keeps
abbrev pub IsMeant : Layout → List Item → (kept : Option ℕ) → (words : List ℕ) → (object : ℕ) → Type 0
IsMeant layout past kept [] object = object ≡ 0
IsMeant layout past kept (word ∷ words) object = (kept ≡ Some (block_of object)) × IsWritten layout past (block_of object) (word ∷ words) object

-- the put of that object was refused, at the version of the cell that was seen
pub record IsCellRefused (layout : Layout) (old new : SeatNow) (seen : Seen) (kept : Option ℕ) (words : List ℕ) (refusal : PutIfRefusal) : Type 0 where
  pub object : ℕ
  pub told : IsAmong layout old new (calls.PutIf seen.cell object seen.version) (put_if_answer refusal)
  pub meant : IsMeant layout told.before.track.past kept words object

-- the queue had a number of no bucket
pub record IsForeign (layout : Layout) (old new : SeatNow) : Type 0 where
  pub number : ℕ
  pub value : ℕ
  pub clock : ClockMove
  pub told : IsAmong layout old new calls.Dequeue (answers.Taken number value clock)
  pub foreign : layout.config.buckets ≤ value

-- the queue had no bucket
abbrev pub HasNone : Layout → (old new : SeatNow) → Type 0
HasNone layout old new = IsAmong layout old new calls.Dequeue answers.Empty ⊎ IsForeign layout old new

-- nor has the thread kept one
pub record HasNoBlock (layout : Layout) (old new : WideUser) : Type 0 where
  pub spare : IfSome old.spare (λ block. layout.config.buckets ≤ block)
  pub none : HasNone layout old.seat new.seat

-- the bucket that the thread has kept could not be queued
pub record IsNotQueued (layout : Layout) (old new : WideUser) (refusal : EnqueueRefusal) : Type 0 where
  pub block : ℕ
  pub spare : old.spare ≡ Some block
  pub told : IsAmong layout old.seat new.seat (calls.Enqueue block) (enqueue_answer refusal)

-- the cell had another version since than the one that was seen
abbrev pub IsStaleAt : Layout → (old new : SeatNow) → Seen → SwapRefusal → Type 0
IsStaleAt layout old new seen (refusals.Stale version) = IsStale (counts_of (record_of layout old.track.past)) (record_of layout new.track.past) seen.cell seen.version version
IsStaleAt layout old new seen refusal = ⊥

-- or the put of this object was refused, at that version
abbrev pub IsNotGiven : Layout → (old new : SeatNow) → Seen → (object : ℕ) → SwapRefusal → Type 0
IsNotGiven layout old new seen object (refusals.Refused refusal) = IsMade layout old new (calls.PutIf seen.cell object seen.version) (put_if_answer refusal)
IsNotGiven layout old new seen object refusal = IsStaleAt layout old new seen refusal

-- or that of a word: why the seat did not give the cell these words, or none, by a bucket that the thread keeps
abbrev pub IsRefusedAt : Layout → (old new : SeatNow) → Seen → (kept : Option ℕ) → (words : List ℕ) → SwapRefusal → Type 0
IsRefusedAt layout old new seen kept words (refusals.Refused refusal) = IsWordRefused layout old new kept words refusal ⊎ IsCellRefused layout old new seen kept words refusal
IsRefusedAt layout old new seen kept words refusal = IsStaleAt layout old new seen refusal

-- Why a thread did not give the cell these words, or none. Only words need a bucket, and only a take queues the one that the thread has kept.
abbrev pub IsRefused : Layout → (old new : WideUser) → Seen → (words : List ℕ) → SwapRefusal → Type 0
IsRefused layout old new seen words refusals.NoBlock = (words ≢ []) × HasNoBlock layout old new
IsRefused layout old new seen words (refusals.NotQueued refusal) = (words ≡ []) × IsNotQueued layout old new refusal
IsRefused layout old new seen words (refusals.Stale version) = IsRefusedAt layout old.seat new.seat seen new.spare words (refusals.Stale version)
IsRefused layout old new seen words (refusals.Refused refusal) = IsRefusedAt layout old.seat new.seat seen new.spare words (refusals.Refused refusal)

-- what a call took from the queue, and what it queued
abbrev pub item_taken : Answer → Option ℕ
item_taken (answers.Taken number value clock) = Some value
item_taken answer = None

abbrev pub value_taken : Call → Answer → Option ℕ
value_taken calls.Dequeue answer = item_taken answer
value_taken call answer = None

abbrev pub item_queued : ℕ → Answer → Option ℕ
item_queued value (answers.Queued number) = Some value
item_queued value answer = None

abbrev pub value_queued : Call → Answer → Option ℕ
value_queued (calls.Enqueue value) answer = item_queued value answer
value_queued call answer = None

-- how often a call of a log took this bucket from the queue, and queued it
abbrev pub taken_by : (block : ℕ) → Group → ℕ
taken_by block group = is_object block (value_taken group.call group.answer)

abbrev pub queued_by : (block : ℕ) → Group → ℕ
queued_by block group = is_object block (value_queued group.call group.answer)

-- and how often the seat's calls did
abbrev pub takes : (block : ℕ) → SeatNow → ℕ
takes block seat = sum_by (taken_by block) seat.track.local.log

abbrev pub queues : (block : ℕ) → SeatNow → ℕ
queues block seat = sum_by (queued_by block) seat.track.local.log

-- a seat of this table that has made no call
pub record IsNew (shared : TableNow) (seat : SeatNow) : Type 0 where
  pub of : IsOf seat shared
  pub log : seat.track.local.log ≡ []

-- a thread of this table that has made no call, and kept no bucket
pub record IsFresh (shared : TableNow) (user : WideUser) : Type 0 where
  pub seat : IsNew shared user.seat
  pub spare : user.spare ≡ None

-- the last of these threads has queued each of these buckets, once, and nothing else; the others are as they were made
pub record IsFilled (shared : TableNow) (first : ℕ) (users : List WideUser) : Type 0 where
  pub others : List WideUser
  pub user : WideUser
  pub users_are : users ≡ others ++ user ∷ []
  pub fresh : All (IsFresh shared) others
  pub spare : user.spare ≡ None
  pub queued : (block : ℕ) → first ≤ block → block < shared.layout.config.buckets → queues block user.seat ≡ 1
  pub no_cell : (block : ℕ) → block < first → queues block user.seat ≡ 0
  pub no_other : (block : ℕ) → shared.layout.config.buckets ≤ block → queues block user.seat ≡ 0
  pub untaken : (block : ℕ) → takes block user.seat ≡ 0

-- the seat has made calls since, none of which took a bucket from the queue or queued one
pub record IsQuiet (old new : SeatNow) : Type 0 where
  pub later : IsLater old new
  pub takes_same : (block : ℕ) → takes block new ≡ takes block old
  pub queues_same : (block : ℕ) → queues block new ≡ queues block old

-- the bucket that an object names
abbrev pub block_named : (object : ℕ) → Option ℕ
block_named object = if object == 0 then None else Some (block_of object)

-- No bucket is lost: one that the thread had kept, that came to it or that its calls took from the queue it keeps, or it went from it, or
-- its calls have queued it.
abbrev pub KeepsBlocks : (buckets : ℕ) → (old new : WideUser) → (came gone : Option ℕ) → Type 0
KeepsBlocks buckets old new came gone =
    (block : ℕ) → block < buckets
    → is_object block old.spare + is_object block came + takes block new.seat + queues block old.seat
    ≡ is_object block new.spare + is_object block gone + takes block old.seat + queues block new.seat

-- where a cell was changed the bucket came that it named at the version that was seen, and the one went that it names now
pub record IsTraded (layout : Layout) (old new : WideUser) (seen now : Seen) : Type 0 where
  pub replaced : ℕ
  pub named : IsNamed layout new.seat.track.past seen replaced
  pub kept : KeepsBlocks layout.config.buckets old new (block_named replaced) (block_named now.object)

-- and where it was not, none
abbrev pub KeepsAll : Layout → (old new : WideUser) → Seen → Result Seen SwapRefusal → Type 0
KeepsAll layout old new seen (Ok now) = IsTraded layout old new seen now
KeepsAll layout old new seen (Err refusal) = KeepsBlocks layout.config.buckets old new None None
