-- Where the writing of a row stands, as a phase of the model.
use Rattle.wfe_core.specs.Phases.{Base}
use Rattle.wfe_core.specs.Phases.Base.{Write}
use Rattle.wfe_slots.specs.Rows.{row_of}
use Rattle.wfe_slots.specs.declared.write_row.WriteRow.{WriteRow}

abbrev pub write_phase : WriteRow → Base
write_phase m = Write m.slot (row_of m.row) m.place
