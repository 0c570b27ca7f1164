-- What C is told of a closed table.
use Rattle.std.specs.Prelude.{MatchOption, None, Option, Some, length, slice_get, ℕ, ◌≡◌}
use Rattle.wfe_table_end.specs.declared.closed.BucketRow.{BucketRow}
use Rattle.wfe_table_end.specs.declared.closed.Closed.{Closed}
use Rattle.wfe_c.specs.Closing.{IsWithout}
use Rattle.wfe_c.specs.Handle.{unclosed}
use Rattle.wfe_c.specs.Place.{closed_in}
use Rattle.wfe_c.specs.Told.{says, says_at}
use Rattle.wfe_c.specs.declared.answer.CAnswer.{CAnswer}
use Rattle.wfe_c.specs.declared.handle.SeatHandle.{SeatHandle}
use Rattle.wfe_c.specs.declared.reading.CClosed.{CClosed}

-- the clock, and how many there are of all else
abbrev pub closed_told : Closed → CClosed
closed_told closed = record { code = 0; clock = closed.clock; buckets = length closed.buckets.items; queued = length closed.queue.items; used = length closed.used.items }

abbrev pub nothing_told : ℕ → CClosed
nothing_told code = record { code = code; clock = 0; buckets = 0; queued = 0; used = 0 }

-- a bucket's version, and how many pairs it has; or that there is none of the index
abbrev pub row_told : Option BucketRow → CAnswer
row_told None = says 4
row_told (Some row) = record (says_at 0 row.version) { value = length row.pairs.items }

-- a key with its value; or a value of the queue, after its number
abbrev pub pair_told : Option (ℕ × ℕ) → CAnswer
pair_told None = says 4
pair_told (Some pair) = record (says_at 0 pair.0) { value = pair.1 }

abbrev pub slot_told : Option ℕ → CAnswer
slot_told None = says 4
slot_told (Some slot) = record (says 0) { slot = slot }

-- of a bucket, so that its pair is told
abbrev pub pair_in : ℕ → Option BucketRow → CAnswer
pair_in pair None = says 4
pair_in pair (Some row) = pair_told (slice_get row.pairs.items pair)

-- by index
abbrev pub bucket_at : ℕ → Closed → CAnswer
bucket_at bucket closed = row_told (slice_get closed.buckets.items bucket)

abbrev pub pair_at : ℕ → ℕ → Closed → CAnswer
pair_at bucket pair closed = pair_in pair (slice_get closed.buckets.items bucket)

abbrev pub queued_at : ℕ → Closed → CAnswer
queued_at place closed = pair_told (slice_get closed.queue.items place)

abbrev pub used_at : ℕ → Closed → CAnswer
used_at place closed = slot_told (slice_get closed.used.items place)

-- no closed table is there, the handle is as it was, and the code says why
pub record LacksClosed {X : Type 0} (refused : ℕ → X) (before after : SeatHandle) (told : X) : Type 0 where
  pub same : after ≡ before
  pub tells : told ≡ refused (unclosed before.state)

-- what the table held stays there, and is told of
pub record Shows {X : Type 0} (tell : Closed → X) (closed : Closed) (after : SeatHandle) (told : X) : Type 0 where
  pub is : closed_in after.place.inside ≡ Some closed
  pub tells : told ≡ tell closed

abbrev pub IsShown : {X : Type 0} → (ℕ → X) → (Closed → X) → SeatHandle → SeatHandle → X → Type 0
IsShown refused tell before after told = MatchOption (closed_in before.place.inside) (LacksClosed refused before after told) (λ closed. Shows tell closed after told)

-- it is freed
pub record HasFreed (after : SeatHandle) (told : ℕ) : Type 0 where
  pub without : IsWithout after
  pub tells : told ≡ 0

abbrev pub IsFreed : SeatHandle → SeatHandle → ℕ → Type 0
IsFreed before after told = MatchOption (closed_in before.place.inside) (LacksClosed (λ (code : ℕ). code) before after told) (λ _. HasFreed after told)
