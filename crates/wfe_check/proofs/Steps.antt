-- What is linked and copied after an entry in its ranges.
use Rattle.std.proofs.Common.{Bool, true, false, ℕ, ◌≡◌, ◌≤◌, ◌<◌, ◌==◌, Option, Some, None, refl, sym, subst}
use Rattle.std.specs.Prelude.{if◌then◌else◌}
use Rattle.laws.specs.records.Record.{Past}
use Rattle.laws.specs.records.Record.Past.{Then}
use Rattle.laws.specs.StateAt.{began_by, began_of, bucket_at}
use Rattle.laws.specs.Ranges.{CallIn, EntryIn}
use Rattle.wfe_words.specs.declared.config.Config.{Config}
use Rattle.wfe_defs.specs.declared.call.Call.{Call}
use Rattle.wfe_defs.specs.declared.call.Call.TheVariants as calls
use Rattle.wfe_defs.specs.declared.event.Event.{Event}
use Rattle.wfe_defs.specs.declared.event.Event.TheVariants as events
use Rattle.wfe_defs.specs.declared.event.Root.TheVariants as roots
use Rattle.wfe_check_held.specs.Roots.{RowIn}

pub row_in : (slots : ℕ) (row : Option ℕ) → ((slot : ℕ) → row ≡ Some slot → slot ≤ slots) → RowIn slots row
row_in slots None within = tt
row_in slots (Some row) within = within row refl

-- what is linked at buckets' roots are rows of the table
abbrev Linked : Config → Past → Type 0
Linked config p = (bucket slot : ℕ) → bucket_at bucket p ≡ Some slot → slot ≤ config.slots

-- a call that copies does so from an index of the setting
abbrev Copies : Config → Past → Type 0
Copies config p = (i from index : ℕ) → began_of i p ≡ Some (calls.Copy from index) → from < config.indexes

chosen : (slots new slot : ℕ) (here : Bool) (before : Option ℕ) → new ≤ slots → (before ≡ Some slot → slot ≤ slots) → (if here then Some new else before) ≡ Some slot → slot ≤ slots
chosen slots new slot true before fits within e = let same : new ≡ slot = cc in subst (λ s. s ≤ slots) same fits
chosen slots new slot false before fits within e = within e

pub linked_then : (config : Config) (p : Past) (i : ℕ) (event : Event) → EntryIn config i event → Linked config p → Linked config (Then p i event)
linked_then config p i (events.Link (roots.Bucket other) new) range linked bucket slot e =
    chosen config.slots new slot (bucket == other) (bucket_at bucket p) range.within.1 (linked bucket slot) e
linked_then config p i event range linked bucket slot e = linked bucket slot e

copied : (config : Config) (call : Call) (from index : ℕ) → CallIn config call → call ≡ calls.Copy from index → from < config.indexes
copied config call from index within e = let is : CallIn config (calls.Copy from index) = subst (CallIn config) e within in is.0

begun : (config : Config) (event : Event) (from index : ℕ) (before : Option Call) → (i : ℕ) → EntryIn config i event → (before ≡ Some (calls.Copy from index) → from < config.indexes) → began_by event before ≡ Some (calls.Copy from index) → from < config.indexes
begun config (events.Begin call) from index before i range copies e = copied config call from index range.within (cc)
begun config event from index before i range copies e = copies e

told : (config : Config) (event : Event) (from index : ℕ) (before : Option Call) (i : ℕ) (here : Bool) → EntryIn config i event → (before ≡ Some (calls.Copy from index) → from < config.indexes)
    → (if here then began_by event before else before) ≡ Some (calls.Copy from index) → from < config.indexes
told config event from index before i true range copies e = begun config event from index before i range copies e
told config event from index before i false range copies e = copies e

pub copies_then : (config : Config) (p : Past) (i : ℕ) (event : Event) → EntryIn config i event → Copies config p → Copies config (Then p i event)
copies_then config p i event range copies k from index e = told config event from index (began_of k p) i (k == i) range (copies k from index) e
