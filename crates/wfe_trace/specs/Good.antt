-- What holds of a trace's line that is not bad, and of a line that is.
use Rattle.std.specs.Prelude.{◌≡◌, ℕ, List, Bool, true, false, None}
use Rattle.wfe_words.specs.Config.{bad_field}
use Rattle.wfe_trace.specs.declared.item.Item.{Item}
use Rattle.wfe_trace.specs.declared.item.Item.TheVariants as items
use Rattle.wfe_trace.specs.declared.item.Stage.{Stage}
use Rattle.wfe_trace.specs.declared.item.Stage.TheVariants as stages
use Rattle.wfe_trace.specs.declared.reason.Reason.{Reason}
use Rattle.wfe_trace.specs.declared.reason.Reason.TheVariants as reasons
use Rattle.wfe_defs.specs.declared.call.Call.{Call}
use Rattle.wfe_defs.specs.declared.call.Call.TheVariants as calls
use Rattle.wfe_trace.specs.Body.{IsCommandWithin}
use Rattle.wfe_trace.specs.Reading.{Reading, stage_after, version_after, config_after, gives_pairs, IsVersioned}

-- a line of the body comes next
abbrev pub is_body : Stage → Bool
is_body stages.First = false
is_body stages.Scheme = false
is_body (stages.Number field) = false
is_body stages.Begin = false
is_body stages.Body = true

-- where a line with this item stands, and what its item says
abbrev pub Placed : Reading → Stage → Item → Type 0
Placed r stage items.Setting = (is_body stage ≡ false) × (is_body (stage_after stage) ≡ false)
Placed r stage (items.Ready version config) = (is_body stage ≡ false) × (is_body (stage_after stage) ≡ true) × (config ≡ r.config)
Placed r stage (items.Command c) = (is_body stage ≡ true) × (is_body (stage_after stage) ≡ true) × IsCommandWithin r.config c

-- a line that is not bad stands where its item says, leaves the setting's numbers in their ranges, and leaves it the pairs of its version, with a scheme of that version
pub record IsRead (r : Reading) (stage : Stage) (bytes : List ℕ) (item : Item) : Type 0 where
  pub placed : Placed r stage item
  pub within : bad_field r.config ≡ None → bad_field (config_after stage r.config bytes) ≡ None
  pub versioned : gives_pairs stage ≡ false → IsVersioned r.version r.config → IsVersioned (version_after stage r.version bytes) (config_after stage r.config bytes)
  pub next : gives_pairs (stage_after stage) ≡ false

-- a reason that a line can give by itself: the others are of calls that have not ended, of seats that have left, of the whole trace, or of
-- what is not built
abbrev pub is_of_line : Reason → Bool
is_of_line reasons.First = true
is_of_line reasons.Config = true
is_of_line reasons.Form = true
is_of_line reasons.Number = true
is_of_line reasons.RunLine = true
is_of_line reasons.Seat = true
is_of_line reasons.Range = true
is_of_line reasons.Busy = false
is_of_line reasons.LongLine = true
is_of_line reasons.LongTrace = false
is_of_line reasons.NoEnd = false
is_of_line reasons.AfterEnd = false
is_of_line reasons.NotYet = false
is_of_line reasons.Gone = false

-- the first version whose traces have the call
abbrev pub version_of : Call → ℕ
version_of (calls.Copy from index) = 2
version_of (calls.DropIndex index) = 2
version_of (calls.Look index key) = 2
version_of (calls.PutIf key value version) = 3
version_of calls.Leave = 4
version_of (calls.Adopt place) = 4
version_of call = 1

-- the seat neither leaves by the call nor takes over what another has left: workers make such calls alone
abbrev pub is_for_workers : Call → Bool
is_for_workers calls.Leave = false
is_for_workers (calls.Adopt place) = false
is_for_workers call = true
