-- Calls other than a get, a change of a bucket, an enqueue and a dequeue.
use Rattle.std.specs.Prelude.{Bool, false, true}
use Rattle.wfe_core.specs.defs.declared.call.Call.{Call}
use Rattle.wfe_core.specs.defs.declared.call.Call.TheVariants as names

abbrev pub is_other : Call → Bool
is_other (names.Get key) = false
is_other (names.Put key value) = false
is_other (names.Remove key) = false
is_other (names.PutIf key value version) = false
is_other (names.Enqueue value) = false
is_other names.Dequeue = false
is_other call = true

-- calls that are no change of a bucket
abbrev pub is_unchanged : Call → Bool
is_unchanged (names.Put key value) = false
is_unchanged (names.Remove key) = false
is_unchanged (names.PutIf key value version) = false
is_unchanged call = true

-- those that name an index at which a row stays protected
abbrev pub is_at_index : Call → Bool
is_at_index (names.Copy from index) = true
is_at_index (names.DropIndex index) = true
is_at_index (names.Look index key) = true
is_at_index call = false
