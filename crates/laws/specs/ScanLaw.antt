-- What scans read and give back, and which calls scan.
use Rattle.std.specs.Prelude.{List, None, Option, Some, if◌then◌else◌, [], ◌∷◌, Bool, false, ℕ, ◌==◌, is_none, length, ◌&&◌, nat_lt, not, ◌||◌, true, ◌+◌, ◌-◌, ◌*◌, ◌/◌, ◌%◌, ◌≤◌}
use Rattle.model_record.specs.Record.{Test, EachEntry, Past}
use Rattle.model_record.specs.defs.Shown.{Seen, keeps_any}
use Rattle.model_record.specs.defs.declared.call.Call.{Call}
use Rattle.model_record.specs.defs.declared.call.Call.TheVariants as calls
use Rattle.model_record.specs.defs.declared.event.Event.{Event}
use Rattle.model_record.specs.defs.declared.event.Event.TheVariants as events
use Rattle.model_record.specs.defs.declared.event.Guard.{Guard}
use Rattle.model_record.specs.defs.declared.event.Guard.TheVariants.{Helper, Index, Whole}
use Rattle.model_record.specs.defs.declared.lifetime.Lifetime.{Lifetime}
use Rattle.wfe_words.specs.declared.config.Config.{Config}
use Rattle.wfe_words.specs.declared.config.SchemeKind.{SchemeKind}
use Rattle.wfe_words.specs.declared.config.SchemeKind.TheVariants.{He, Hp, Ibr, Wfe}
use Rattle.laws.specs.Lists.{list_of}
use Rattle.laws.specs.StateAt.{same_guard, read_of, scans_of, value_of, hazard_of, same_span, seen, began_of, was_taken}
use Rattle.laws.specs.StructuresAt.{same_value}

-- the index word of this number, by seat and then index
abbrev pub index_at : Config → ℕ → Guard
index_at config k = Index (k / config.indexes) (k % config.indexes)

-- the guard that a scan reads after k others: index words by seat and then index; under 2GE the interval words by seat; under Wait-Free
-- Eras all helper words by seat, and then the index words
abbrev pub guard_by : SchemeKind → Config → ℕ → Guard
guard_by He config k = index_at config k
guard_by Ibr config k = Whole k
guard_by Wfe config k = if nat_lt k config.seats then Helper k else index_at config (k - config.seats)
guard_by Hp config k = index_at config k

abbrev pub guard_at : Config → ℕ → Guard
guard_at config k = guard_by config.scheme config k

-- how many guards there are
abbrev pub guards_by : SchemeKind → Config → ℕ
guards_by He config = config.seats * config.indexes
guards_by Ibr config = config.seats
guards_by Wfe config = config.seats + config.seats * config.indexes
guards_by Hp config = config.seats * config.indexes

abbrev pub guards : Config → ℕ
guards config = guards_by config.scheme config

-- the first life of a list that nothing read keeps
abbrev pub next_back : List Seen → List Lifetime → Option Lifetime
next_back read [] = None
next_back read (life ∷ lives) = if keeps_any life read then next_back read lives else Some life

abbrev pub is_life_of : ℕ → Option Lifetime → Bool
is_life_of slot None = false
is_life_of slot (Some life) = life.slot == slot

-- all guards are read, and each life that is left is kept by something read
abbrev pub is_over : ℕ → List Seen → List Lifetime → Bool
is_over all read list = length read == all && is_none (next_back read list)

-- some guards are read, and not all
abbrev pub is_partial : ℕ → List Seen → Bool
is_partial all read = nat_lt 0 (length read) && nat_lt (length read) all

-- the number of the guard that is to be read next
abbrev pub next_number : ℕ → List Seen → ℕ
next_number all read = if length read == all then 0 else length read

-- A guard is the next one of its block, which goes on with nothing between, or begins where no scan is left undone. A row goes
-- back in a scan whose block is whole, and it is the first of the seat's list that nothing read keeps. Where the seat tells
-- anything else, no scan is left undone: no such row is on its list any more.
abbrev pub read_next : Config → (read : List Seen) → (list : List Lifetime) → (scans : Bool) → Guard → Bool
read_next config read list scans guard =
    same_guard guard (guard_at config (next_number (guards config) read))
    && (if is_partial (guards config) read then scans else (not scans || is_over (guards config) read list))

abbrev pub scan_by : Config → (read : List Seen) → (list : List Lifetime) → (scans : Bool) → Event → Bool
scan_by config read list scans (events.Read guard span) = read_next config read list scans guard
scan_by config read list scans (events.Saw guard slot) = read_next config read list scans guard
scan_by config read list scans (events.Back slot) = scans && (length read == guards config && is_life_of slot (next_back read list))
scan_by config read list scans event = not scans || is_over (guards config) read list

abbrev pub scan_ok : Config → Test
scan_ok config p i event = scan_by config (read_of (guards config) i p) (list_of i p) (scans_of i p) event

-- A guard that is read shows what it publishes, an interval or a row.
abbrev pub read_ok : Test
read_ok p i (events.Read guard span) = same_span span (value_of guard p)
read_ok p i (events.Saw guard slot) = same_value slot (hazard_of guard p)
read_ok p i event = true

-- What the blocks of a seat's call come to. `retired`: the rows that the seat has retired in all its calls. `given`: the call was given
-- a row. `begun`: the blocks that it has begun. `due`: where its retirements came to a multiple of `every`, the blocks begun since the
-- first that did. `last`: those since the last that did. `left`: the guards that its block has yet to read. `moves`: the eras that it
-- has told and that no block after them has taken
pub record Blocks : Type 0 where
  pub retired : ℕ
  pub given : Bool
  pub begun : ℕ
  pub due : Option ℕ
  pub last : ℕ
  pub left : ℕ
  pub moves : ℕ

abbrev pub no_blocks : Blocks
no_blocks = record { retired = 0; given = false; begun = 0; due = None; last = 0; left = 0; moves = 0 }

-- one block more since a retirement, if there was one
abbrev pub one_block : Option ℕ → Option ℕ
one_block None = None
one_block (Some blocks) = Some (blocks + 1)

-- a block begins: it takes one of the eras told before
abbrev pub begun_block : (all : ℕ) → Blocks → Blocks
begun_block all before =
    record before { begun = before.begun + 1; due = one_block before.due; last = before.last + 1; left = all - 1; moves = before.moves - 1 }

-- a retirement came to a multiple
abbrev pub due_block : Option ℕ → Option ℕ
due_block None = Some 0
due_block (Some blocks) = Some blocks

abbrev pub retired_block : (every : ℕ) → Blocks → Blocks
retired_block every before =
    if (before.retired + 1) % every == 0
    then record before { retired = before.retired + 1; due = due_block before.due; last = 0 }
    else record before { retired = before.retired + 1 }

-- a guard is read: the first of a block, or one more
abbrev pub read_block : (all : ℕ) → Blocks → Blocks
read_block all before = if before.left == 0 then begun_block all before else record before { left = before.left - 1 }

abbrev pub blocks_by : (all every : ℕ) → Event → Blocks → Blocks
blocks_by all every (events.Begin call) before =
    record { retired = before.retired; given = false; begun = 0; due = None; last = 0; left = before.left; moves = 0 }
blocks_by all every (events.Give slot birth) before = record before { given = true }
blocks_by all every (events.Retire slot birth retire) before = retired_block every before
blocks_by all every (events.Era era) before = record before { moves = before.moves + 1 }
blocks_by all every (events.Read guard span) before = read_block all before
blocks_by all every (events.Saw guard slot) before = read_block all before
blocks_by all every event before = before

abbrev pub blocks_of : Config → ℕ → Past → Blocks
blocks_of config i p = seen (blocks_by (guards config) config.every) no_blocks i p

-- calls that are given a row
abbrev pub is_given_one : Option Call → Bool
is_given_one (Some (calls.Put key value)) = true
is_given_one (Some (calls.Remove key)) = true
is_given_one (Some (calls.PutIf key value version)) = true
is_given_one (Some (calls.Enqueue value)) = true
is_given_one call = false

abbrev pub is_scan_call : Option Call → Bool
is_scan_call (Some calls.Scan) = true
is_scan_call call = false

-- a block may begin that no retirement makes due: the one of a call that only scans, and one of a call before it is given a row
abbrev pub may_scan : Option Call → Blocks → Bool
may_scan call blocks = blocks.begun == 0 && (is_scan_call call || (is_given_one call && not blocks.given))

-- a block may begin: after a retirement that came to a multiple, one
abbrev pub may_begin : Option Call → Blocks → Option ℕ → Bool
may_begin call blocks None = may_scan call blocks
may_begin call blocks (Some since) = since == 0 && (not (is_scan_call call) || blocks.begun == 0)

-- no block is due any more
abbrev pub is_scanned : Option Call → Blocks → Bool
is_scanned call blocks = (is_none blocks.due || blocks.last == 1) && (not (is_scan_call call) || blocks.begun == 1)

-- a guard may be read: of a block that has begun, or of one that may begin
abbrev pub may_go_on : Option Call → Blocks → Bool
may_go_on call blocks = not (blocks.left == 0) || may_begin call blocks blocks.due

-- A call that only scans has one block. A call in which the number of its seat's retirements came to a multiple of `every` has one after
-- that Retire. A put, a remove or an enqueue may have one more before it is given a row. There are no others.
abbrev pub blocks_right : Option Call → Event → Blocks → Bool
blocks_right call (events.Read guard span) blocks = may_go_on call blocks
blocks_right call (events.Saw guard slot) blocks = may_go_on call blocks
blocks_right call (events.End steps answer) blocks = is_scanned call blocks
blocks_right call event blocks = true

abbrev pub blocks_ok : Config → Test
blocks_ok config p i event = blocks_right (began_of i p) event (blocks_of config i p)

-- the block that begins is one that a call needs to find a free row
abbrev pub seeks_room : Option Call → Blocks → Bool
seeks_room call blocks = blocks.left == 0 && (is_none blocks.due && is_given_one call)

-- such a block begins only where the row was taken at a position of the call before
abbrev pub has_sought : Config → (s : ℕ) → Past → (seat : ℕ) → Bool
has_sought config s p i = not (seeks_room (began_of i p) (blocks_of config i p)) || was_taken config.slots i s p

abbrev pub room_ok : Config → (s : ℕ) → Test
room_ok config s p i (events.Read guard span) = has_sought config s p i
room_ok config s p i (events.Saw guard slot) = has_sought config s p i
room_ok config s p i event = true

-- Each scan keeps just the rows that something which it read keeps.
pub record ScanLaw (config : Config) (r : Past) : Type 0 where
  -- a seat reads all guards, in order, and then just the rows of its list go back that nothing which it read keeps
  pub blocks : EachEntry (scan_ok config) r
  -- a guard that is read shows what was last told that it publishes, whichever seat told it
  pub reads : EachEntry read_ok r
  -- a call scans where a scan is due, may scan once before it is given a row, and scans nowhere else
  pub due : EachEntry (blocks_ok config) r
  -- it scans for a row only where each row was taken at a position of the call before
  pub room : (s : ℕ) → s ≤ config.slots → EachEntry (room_ok config s) r
