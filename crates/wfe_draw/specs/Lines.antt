-- What a line tells, by the record that it continues.
use Rattle.std.specs.Prelude.{◌≡◌, ℕ, Result, Ok, Err}
use Rattle.model_record.specs.Record.Past.{Then}
use Rattle.wfe_trace.specs.declared.reason.RecordReason.{RecordReason}
use Rattle.wfe_check_lines.specs.Reading.{Stage, Told}
use Rattle.wfe_check_lines.specs.Reading.Stage.{First, Body, Over}
use Rattle.wfe_draw.specs.declared.line.Meaning.{Meaning}
use Rattle.wfe_draw.specs.declared.line.Meaning.TheVariants as meanings
use Rattle.wfe_draw.specs.declared.line.Place.{Place}
use Rattle.wfe_draw.specs.declared.line.Place.TheVariants as places

-- the place is where the record is
abbrev pub IsAt : Place → Stage → Type 0
IsAt places.First First = Unit {0}
IsAt (places.Body version config) (Body v c) = (version ≡ v) × (config ≡ c)
IsAt places.Over (Over v c) = Unit {0}
IsAt place stage = ⊥

-- after the line the record has gone to the place, or has this entry more
abbrev pub Tells : Result Meaning RecordReason → Told → Result Told RecordReason → Type 0
Tells (Ok (meanings.Goes place)) told next = (after : Told) × (next ≡ Ok after) × IsAt place after.stage × (after.entries ≡ told.entries)
Tells (Ok (meanings.Entry seat event)) told next = (after : Told) × (next ≡ Ok after) × (after.stage ≡ told.stage) × (after.entries ≡ Then told.entries seat event)
Tells (Err reason) told next = next ≡ Err reason
