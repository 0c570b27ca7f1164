-- Where a record is, as it is kept, and what whole lines make of that.
use Rattle.std.specs.Prelude.{ℕ, ◌≡◌, ◌+◌, Bool, if◌then◌else◌, Result, Ok, Err}
use Rattle.laws.specs.records.Record.{Past}
use Rattle.laws.specs.records.Record.Past.{Start}
use Rattle.wfe_words.specs.declared.config.Config.{Config}
use Rattle.laws.specs.Good.{Good}
use Rattle.wfe_trace.specs.declared.reason.RecordReason.{RecordReason}
use Rattle.wfe_check_lines.specs.Reading.{GoodAt, Stage, Told}
use Rattle.wfe_check_lines.specs.Reading.Stage.{First, Body, Over}
use Rattle.wfe_check_lines.specs.declared.progress.Progress.{Progress}
use Rattle.wfe_check_lines.specs.declared.progress.Progress.TheVariants as places
use Rattle.wfe_check_lines.specs.declared.stops.Refusal.{Refusal}
use Rattle.wfe_check_lines.specs.declared.stops.Refusal.TheVariants as refusals

-- the place is the record's, and the judge stands for its entries
abbrev pub IsAt : {J : Type 0} → (ℕ → Config → J → Past → Type 0) → Progress J → Stage → Past → Type 0
IsAt judges places.First First entries = entries ≡ Start
IsAt judges (places.Body version config judge) (Body v c) entries = (version ≡ v) × (config ≡ c) × judges v c judge entries
IsAt judges places.Over (Over v c) entries = Good v c entries
IsAt judges place stage entries = ⊥

-- a line is refused for what it makes of the record
abbrev pub IsRefused : Refusal → Result Told RecordReason → Type 0
IsRefused (refusals.Bad reason) next = next ≡ Err reason
IsRefused refusals.Unlawful next = (after : Told) × (next ≡ Ok after) × (GoodAt after.stage after.entries → ⊥)
IsRefused refusals.NoMemory next = Unit {0}

-- a first line was taken
abbrev pub Opens : {J : Type 0} → (ℕ → Config → J → Past → Type 0) → Result (Progress J) Refusal → Told → Result Told RecordReason → Type 0
Opens judges (Ok place) told next = (after : Told) × (next ≡ Ok after) × IsAt judges place after.stage after.entries × (after.count ≡ told.count)
Opens judges (Err refusal) told next = IsRefused refusal next

-- a whole line was taken, and the answer is whether it is an entry
abbrev pub Tells : {J : Type 0} → (ℕ → Config → J → Past → Type 0) → Result Bool Refusal → Told → Result Told RecordReason → Progress J → Type 0
Tells judges (Ok more) told next now = (after : Told) × (next ≡ Ok after) × IsAt judges now after.stage after.entries × (after.count ≡ (if more then told.count + 1 else told.count))
Tells judges (Err refusal) told next now = IsRefused refusal next
