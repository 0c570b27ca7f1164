-- What a get reads of a row, as phases of the model.
use Rattle.std.specs.Prelude.{ℕ, ◌==◌, ◌+◌, Bool, true, false, nat_lt, Option, Some, None}
use Rattle.wfe_core.specs.Calls.{GetAt, FindVersion, FindCount, FindKey, FindValue}
use Rattle.wfe_bucketmap_read.specs.declared.find.Find.{Find}
use Rattle.wfe_bucketmap_read.specs.declared.find.Find.TheVariants as finds
use Rattle.wfe_bucketmap_read.specs.declared.find.Found.{Found}
use Rattle.wfe_bucketmap_read.specs.declared.find.Found.TheVariants as founds

abbrev pub find_of : Find → GetAt
find_of (finds.Version slot) = FindVersion slot
find_of (finds.Count slot version) = FindCount slot version
find_of (finds.Key slot version count pair) = FindKey slot version count pair
find_of (finds.Value slot version pair) = FindValue slot version pair

-- the row that is read
abbrev pub slot_in : GetAt → ℕ
slot_in (FindVersion slot) = slot
slot_in (FindCount slot version) = slot
slot_in (FindKey slot version count pair) = slot
slot_in (FindValue slot version pair) = slot

-- what a step leads to: the next, or what is told
pub data Leading : Type 0 where
  GoesTo : GetAt → Leading
  Gives : (version : ℕ) → Option ℕ → Leading

abbrev pub found_of : Found → Leading
found_of (founds.Goes find) = GoesTo (find_of find)
found_of (founds.Got version value) = Gives version value

abbrev pub pair_more : ℕ → ℕ → ℕ → ℕ → (more : Bool) → Leading
pair_more slot version count pair true = GoesTo (FindKey slot version count pair)
pair_more slot version count pair false = Gives version None

-- the pair of this number, if there is one
abbrev pub pair_by : ℕ → ℕ → ℕ → ℕ → Leading
pair_by slot version count pair = pair_more slot version count pair (nat_lt pair count)

abbrev pub key_by : ℕ → ℕ → ℕ → ℕ → (own : Bool) → Leading
key_by slot version count pair true = GoesTo (FindValue slot version pair)
key_by slot version count pair false = pair_by slot version count (pair + 1)

abbrev pub found_by : ℕ → GetAt → ℕ → Leading
found_by key (FindVersion slot) found = GoesTo (FindCount slot found)
found_by key (FindCount slot version) found = pair_by slot version found 0
found_by key (FindKey slot version count pair) found = key_by slot version count pair (found == key)
found_by key (FindValue slot version pair) found = Gives version (Some found)
