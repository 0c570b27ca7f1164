-- No bucket is lost.
use Rattle.std.proofs.Common.{Bool, List, None, Option, Some, ap, arith, false, refl, sym, true, ℕ, ◌+◌, ◌<◌, ◌≡◌, ◌≢◌, ◌≤◌}
use Rattle.std.specs.Prelude.{IfSome, if◌then◌else◌, sum_by, ◌==◌}
use Rattle.wfe_table.proofs.all.laws.records.defs.Facts.{false_by, false_not_true, number_is, same_test}
use Rattle.wfe_core.specs.Locals.{Group}
use Rattle.wfe_core.specs.defs.declared.call.Answer.TheVariants as answers
use Rattle.wfe_core.specs.defs.declared.call.Call.TheVariants as calls
use Rattle.wfe_core.specs.words.declared.layout.Layout.{Layout}
use Rattle.wfe_table.specs.Calls.{IsMade}
use Rattle.wfe_table.specs.Public.{SeatNow, TableNow}
use Rattle.wfe_cells.proofs.Among.{queues_by, takes_by}
use Rattle.wfe_cells.specs.Reasons.{IsNew, IsQuiet, KeepsBlocks, block_named, queued_by, queues, taken_by, takes}
use Rattle.wfe_cells.specs.Stores.{is_object}
use Rattle.wfe_cells.specs.Wide.{block_of}
use Rattle.wfe_cells.specs.declared.wide.WideUser.{WideUser}

-- a number past the buckets is none
pub not_past : (block buckets other : ℕ) → block < buckets → buckets ≤ other → is_object block (Some other) ≡ 0
not_past block buckets other l past = let apart : (other == block) ≡ false = false_by (other == block) (λ t. let same : other ≡ block = number_is other block t in absurd (omega arith)) in rw apart refl

pub none_past : (block buckets : ℕ) (spare : Option ℕ) → block < buckets → IfSome spare (λ other. buckets ≤ other) → is_object block spare ≡ 0
none_past block buckets None l past = refl
none_past block buckets (Some other) l past = not_past block buckets other l past

apart_zero : (block other : ℕ) → block ≢ other → is_object block (Some other) ≡ 0
apart_zero block other apart = let no : (other == block) ≡ false = false_by (other == block) (λ t. apart (sym (number_is other block t))) in rw no refl

-- an object's bucket
pub named_is : (object block : ℕ) → object ≢ 0 → block_of object ≡ block → block_named object ≡ Some block
named_is object block some e = by (object == 0) refl
  where
    by : (none : Bool) → (object == 0) ≡ none → (if none then None else Some (block_of object)) ≡ Some block
    by true t = absurd (some (number_is object 0 t))
    by false t = ap Some e

-- calls that leave the queue alone, and a bucket that comes and one that goes
pub keeps_on : (buckets : ℕ) (old mid new : WideUser) (block replaced object : ℕ) (spare : Option ℕ) → KeepsBlocks buckets old mid None (Some block) → mid.spare ≡ None → IsQuiet mid.seat new.seat → new.spare ≡ spare → spare ≡ block_named replaced → object ≢ 0 → block_of object ≡ block
    → KeepsBlocks buckets old new (block_named replaced) (block_named object)
keeps_on buckets old mid new block replaced object spare kept bare quiet e is some there b l =
    omega
    (arith, kept b l, ap (is_object b) bare, quiet.takes_same b, quiet.queues_same b, ap (is_object b) e, ap (is_object b) is, ap (is_object b) (named_is object block some there))

pub keeps_back : (buckets : ℕ) (old mid new : WideUser) (block : ℕ) → KeepsBlocks buckets old mid None (Some block) → mid.spare ≡ None → IsQuiet mid.seat new.seat → new.spare ≡ Some block → KeepsBlocks buckets old new None None
keeps_back buckets old mid new block kept bare quiet e b l = omega (arith, kept b l, ap (is_object b) bare, quiet.takes_same b, quiet.queues_same b, ap (is_object b) e)

-- the same with calls before that leave it alone
pub keeps_since : (buckets : ℕ) (old mid new : WideUser) (came gone : Option ℕ) → IsQuiet old.seat mid.seat → mid.spare ≡ old.spare → KeepsBlocks buckets mid new came gone → KeepsBlocks buckets old new came gone
keeps_since buckets old mid new came went quiet same kept b l = omega (arith, kept b l, quiet.takes_same b, quiet.queues_same b, ap (is_object b) same)

pub keeps_quiet : (buckets : ℕ) (old new : WideUser) → IsQuiet old.seat new.seat → new.spare ≡ old.spare → KeepsBlocks buckets old new None None
keeps_quiet buckets old new quiet same b l = omega (arith, quiet.takes_same b, quiet.queues_same b, ap (is_object b) same)

-- the cell names none any more, and its bucket came to a thread that had kept none
pub keeps_came : (buckets : ℕ) (old mid new : WideUser) (replaced object : ℕ) → KeepsBlocks buckets old mid None None → mid.spare ≡ None → IsQuiet mid.seat new.seat → new.spare ≡ block_named replaced → object ≡ 0 → KeepsBlocks buckets old new (block_named replaced) (block_named object)
keeps_came buckets old mid new replaced object kept bare quiet e z b l =
    omega (arith, kept b l, ap (is_object b) bare, quiet.takes_same b, quiet.queues_same b, ap (is_object b) e, ap (λ (n : ℕ). is_object b (block_named n)) z)

pub keeps_kept : (buckets : ℕ) (old mid new : WideUser) → KeepsBlocks buckets old mid None None → IsQuiet mid.seat new.seat → new.spare ≡ mid.spare → KeepsBlocks buckets old new None None
keeps_kept buckets old mid new kept quiet same b l = omega (arith, kept b l, quiet.takes_same b, quiet.queues_same b, ap (is_object b) same)

-- an enqueue of one bucket more, and of another
pub queued_other : (layout : Layout) (old mid new : SeatNow) (block number other : ℕ) → IsMade layout mid new (calls.Enqueue block) (answers.Queued number) → ((b : ℕ) → block ≤ b → queues b mid ≡ queues b old) → block + 1 ≤ other → queues other new ≡ queues other old
queued_other layout old mid new block number other made left least =
    let none : is_object other (Some block) ≡ 0 = apart_zero other block (omega arith) in
    omega (arith, queues_by layout mid new (calls.Enqueue block) (answers.Queued number) other made, none, left other (omega arith))

pub queued_before : (layout : Layout) (old mid new : SeatNow) (first block number other : ℕ) → IsMade layout mid new (calls.Enqueue block) (answers.Queued number) → ((b : ℕ) → b < first → queues b mid ≡ queues b old) → first ≤ block → other < first → queues other new ≡ queues other old
queued_before layout old mid new first block number other made before least below =
    let none : is_object other (Some block) ≡ 0 = apart_zero other block (omega arith) in
    omega (arith, queues_by layout mid new (calls.Enqueue block) (answers.Queued number) other made, none, before other below)

pub taken_none : (layout : Layout) (old mid new : SeatNow) (block number other : ℕ) → IsMade layout mid new (calls.Enqueue block) (answers.Queued number) → takes other mid ≡ takes other old → takes other new ≡ takes other old
taken_none layout old mid new block number other made same = omega (arith, takes_by layout mid new (calls.Enqueue block) (answers.Queued number) other made, same)

pub queued_more : (layout : Layout) (old mid new : SeatNow) (first block number other : ℕ) → IsMade layout mid new (calls.Enqueue block) (answers.Queued number) → ((b : ℕ) → first ≤ b → b < block → queues b mid ≡ queues b old + 1) → ((b : ℕ) → block ≤ b → queues b mid ≡ queues b old)
    → first ≤ other → other < block + 1 → queues other new ≡ queues other old + 1
queued_more layout old mid new first block number other made done left least most = by (block == other) refl
  where
    by : (same : Bool) → (block == other) ≡ same → queues other new ≡ queues other old + 1
    by true t =
        let same : block ≡ other = number_is block other t in
        let one : is_object other (Some block) ≡ 1 = rw t refl in
        omega (arith, queues_by layout mid new (calls.Enqueue block) (answers.Queued number) other made, one, left other (omega arith))
    by false f =
        let none : is_object other (Some block) ≡ 0 = rw f refl in
        let apart : block ≢ other = λ s. false_not_true (block == other) f (same_test block other s) in
        omega (arith, queues_by layout mid new (calls.Enqueue block) (answers.Queued number) other made, none, done other least (omega arith))

-- a seat that has made no call has queued none
pub new_queues : (shared : TableNow) (seat : SeatNow) (block : ℕ) → IsNew shared seat → queues block seat ≡ 0
new_queues shared seat block new = ap (λ (log : List Group). sum_by (queued_by block) log) new.log

-- nor taken one
pub new_takes : (shared : TableNow) (seat : SeatNow) (block : ℕ) → IsNew shared seat → takes block seat ≡ 0
new_takes shared seat block new = ap (λ (log : List Group). sum_by (taken_by block) log) new.log
