-- Calls of some kinds, one after another.
use Rattle.std.proofs.Common.{List, Option, [], ap, inl, inr, refl, sym, ℕ, ◌++◌, ◌<◌, ◌∙◌, ◌∷◌, ◌≡◌}
use Rattle.std.proofs.lemmas.List.{append-nil, append_assoc}
use Rattle.std.proofs.lemmas.List.Elements.{All-append, All-cons, All-nil, All-weaker}
use Rattle.std.specs.Prelude.{Result}
use Rattle.wfe_core.specs.Locals.{Group}
use Rattle.wfe_core.specs.defs.declared.call.Answer.{Answer}
use Rattle.wfe_core.specs.defs.declared.call.Answer.TheVariants as answers
use Rattle.wfe_core.specs.defs.declared.call.Call.{Call}
use Rattle.wfe_core.specs.defs.declared.call.Call.TheVariants as calls
use Rattle.wfe_core.specs.words.declared.layout.Layout.{Layout}
use Rattle.wfe_table.specs.Calls.{IsMade, group_of}
use Rattle.wfe_table.specs.Public.{SeatNow}
use Rattle.wfe_table.specs.all.laws.StructuresAt.{bucket_of}
use Rattle.wfe_cells.proofs.Words.{in_block}
use Rattle.wfe_cells.specs.Only.{IsDequeue, IsEndOf, IsGet, IsOfPlace, IsOfSwap, IsOfTake, IsOfWords, IsOnly, IsPutOf, IsQueueing, IsTaking, IsUsed}
use Rattle.wfe_cells.specs.Only.IsOfSwap.{Places, Reads, Takes}
use Rattle.wfe_cells.specs.Only.IsOfTake.{Empties, Looks, Queues}
use Rattle.wfe_cells.specs.Wide.{key_of}
use Rattle.wfe_cells.specs.declared.wide.Seen.{Seen}
use Rattle.wfe_cells.specs.declared.wide.SwapRefusal.{SwapRefusal}

-- none, one, some after others, and of a wider kind
pub only_self : (kind : Group → Type 0) (seat : SeatNow) → IsOnly kind seat seat
only_self kind seat = record { groups = []; log = sym (append-nil seat.track.local.log); all = All-nil kind }

pub only_by : (kind : Group → Type 0) (layout : Layout) (old new : SeatNow) (call : Call) (answer : Answer) → IsMade layout old new call answer → kind (group_of call answer new) → IsOnly kind old new
only_by kind layout old new call answer made is = record {
  groups = group_of call answer new ∷ [];
  log = made.ends.left.log;
  all = All-cons kind (group_of call answer new) [] is (All-nil kind);
}

pub only_on : (kind : Group → Type 0) (a b c : SeatNow) → IsOnly kind a b → IsOnly kind b c → IsOnly kind a c
only_on kind a b c g h = record {
  groups = g.groups ++ h.groups;
  log = h.log ∙ ap (λ (log : List Group). log ++ h.groups) g.log ∙ append_assoc a.track.local.log g.groups h.groups;
  all = All-append kind g.groups h.groups g.all h.all;
}

only_wider : (narrow wide : Group → Type 0) (old new : SeatNow) → ((group : Group) → narrow group → wide group) → IsOnly narrow old new → IsOnly wide old new
only_wider narrow wide old new widen only = record { groups = only.groups; log = only.log; all = All-weaker narrow wide widen only.groups only.all }

-- gets
pub only_get : (layout : Layout) (old new : SeatNow) (key version : ℕ) (value : Option ℕ) → IsMade layout old new (calls.Get key) (answers.Got version value) → IsOnly IsGet old new
only_get layout old new key version value made = only_by IsGet layout old new (calls.Get key) (answers.Got version value) made (record { key = key; call = refl })

pub only_more : (layout : Layout) (a b c : SeatNow) (key version : ℕ) (value : Option ℕ) → IsOnly IsGet a b → IsMade layout b c (calls.Get key) (answers.Got version value) → IsOnly IsGet a c
only_more layout a b c key version value only made = only_on IsGet a b c only (only_get layout b c key version value made)

-- the puts of words
pub words_get : (layout : Layout) (old new : SeatNow) (block key version : ℕ) (value : Option ℕ) → IsMade layout old new (calls.Get key) (answers.Got version value) → IsOnly (IsOfWords layout.config.buckets block) old new
words_get layout old new block key version value made = only_by (IsOfWords layout.config.buckets block) layout old new (calls.Get key) (answers.Got version value) made (inl (record { key = key; call = refl }))

pub words_put : (layout : Layout) (a b c : SeatNow) (block key word value version : ℕ) (answer : Answer) → key ≡ key_of layout.config.buckets block word → block < layout.config.buckets → IsOnly (IsOfWords layout.config.buckets block) a b → IsMade layout b c (calls.PutIf key value version) answer
    → IsOnly (IsOfWords layout.config.buckets block) a c
words_put layout a b c block key word value version answer e l only made =
    let n : ℕ = layout.config.buckets in
    let within : bucket_of n key ≡ block = ap (bucket_of n) e ∙ in_block n block word l in
    only_on (IsOfWords n block) a b c only (only_by (IsOfWords n block) layout b c (calls.PutIf key value version) answer made (inr (record { key = key; value = value; version = version; call = refl; within = within })))

-- the put of a cell's object
pub only_put : (layout : Layout) (old new : SeatNow) (seen : Seen) (object : ℕ) (answer : Answer) (result : Result Seen SwapRefusal) → IsMade layout old new (calls.PutIf seen.cell object seen.version) answer → IsEndOf result object answer → IsOnly (IsPutOf seen result) old new
only_put layout old new seen object answer result made ended = only_by (IsPutOf seen result) layout old new (calls.PutIf seen.cell object seen.version) answer made (record { object = object; call = refl; ended = ended })

pub only_words : (buckets block : ℕ) (seen : Seen) (result : Result Seen SwapRefusal) (old new : SeatNow) → IsOnly (IsOfWords buckets block) old new → IsOnly (IsOfPlace buckets block seen result) old new
only_words buckets block seen result old new only = only_wider (IsOfWords buckets block) (IsOfPlace buckets block seen result) old new (λ group is. inl is) only

pub only_place : (buckets block : ℕ) (seen : Seen) (result : Result Seen SwapRefusal) (a b c : SeatNow) → IsOnly (IsOfWords buckets block) a b → IsOnly (IsPutOf seen result) b c → IsOnly (IsOfPlace buckets block seen result) a c
only_place buckets block seen result a b c words put =
    only_on (IsOfPlace buckets block seen result) a b c (only_words buckets block seen result a b words) (only_wider (IsPutOf seen result) (IsOfPlace buckets block seen result) b c (λ group is. inr is) put)

-- a dequeue of a thread that had kept no bucket
pub only_taking : (buckets : ℕ) (had : Option ℕ) (old new : SeatNow) → ((group : Group) → IsDequeue group → IsTaking buckets had group) → IsOnly IsDequeue old new → IsOnly (IsTaking buckets had) old new
only_taking buckets had old new taking only = only_wider IsDequeue (IsTaking buckets had) old new taking only

-- a swap: what was read, what was taken, and what was put
pub swap_reads : (buckets : ℕ) (seen : Seen) (had kept : Option ℕ) (result : Result Seen SwapRefusal) (old new : SeatNow) → IsOnly IsGet old new → IsOnly (IsOfSwap buckets seen had kept result) old new
swap_reads buckets seen had kept result old new only = only_wider IsGet (IsOfSwap buckets seen had kept result) old new (λ group is. Reads is) only

pub swap_takes : (buckets : ℕ) (seen : Seen) (had kept : Option ℕ) (result : Result Seen SwapRefusal) (a b c : SeatNow) → IsOnly IsGet a b → IsOnly (IsTaking buckets had) b c → IsOnly (IsOfSwap buckets seen had kept result) a c
swap_takes buckets seen had kept result a b c reads takes =
    only_on (IsOfSwap buckets seen had kept result) a b c (swap_reads buckets seen had kept result a b reads) (only_wider (IsTaking buckets had) (IsOfSwap buckets seen had kept result) b c (λ group is. Takes is) takes)

pub swap_places : (buckets block : ℕ) (seen : Seen) (had kept : Option ℕ) (result : Result Seen SwapRefusal) (a b c d : SeatNow) → IsUsed kept result block → IsOnly IsGet a b → IsOnly (IsTaking buckets had) b c → IsOnly (IsOfPlace buckets block seen result) c d
    → IsOnly (IsOfSwap buckets seen had kept result) a d
swap_places buckets block seen had kept result a b c d used reads takes places =
    only_on (IsOfSwap buckets seen had kept result) a c d (swap_takes buckets seen had kept result a b c reads takes)
    (only_wider (IsOfPlace buckets block seen result) (IsOfSwap buckets seen had kept result) c d (λ group is. Places block used is) places)

-- a take: what was read, what was queued, and the put of none
pub take_looks : (seen : Seen) (had : Option ℕ) (result : Result Seen SwapRefusal) (old new : SeatNow) → IsOnly IsGet old new → IsOnly (IsOfTake seen had result) old new
take_looks seen had result old new only = only_wider IsGet (IsOfTake seen had result) old new (λ group is. Looks is) only

pub take_queues : (seen : Seen) (had : Option ℕ) (result : Result Seen SwapRefusal) (a b c : SeatNow) → IsOnly IsGet a b → IsOnly (IsQueueing had) b c → IsOnly (IsOfTake seen had result) a c
take_queues seen had result a b c reads queues = only_on (IsOfTake seen had result) a b c (take_looks seen had result a b reads) (only_wider (IsQueueing had) (IsOfTake seen had result) b c (λ group is. Queues is) queues)

pub take_empties : (seen : Seen) (had : Option ℕ) (result : Result Seen SwapRefusal) (a b c d : SeatNow) → IsOnly IsGet a b → IsOnly (IsQueueing had) b c → IsOnly (IsPutOf seen result) c d → IsOnly (IsOfTake seen had result) a d
take_empties seen had result a b c d reads queues put =
    only_on (IsOfTake seen had result) a c d (take_queues seen had result a b c reads queues) (only_wider (IsPutOf seen result) (IsOfTake seen had result) c d (λ group is. Empties is) put)
