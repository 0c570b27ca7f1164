-- The calls that a seat has ended, and the notes of its last call, as the seat's entries tell them.
use Rattle.std.specs.Prelude.{ℕ, List, [], ◌∷◌, ◌++◌, Option, None, Some}
use Rattle.law_scans.specs.inv.model.Desks.{Notes, no_notes, noted}
use Rattle.law_scans.specs.inv.model.Locals.{Group}
use Rattle.law_scans.specs.laws.defs.declared.call.Answer.{Answer}
use Rattle.law_scans.specs.laws.defs.declared.call.Call.{Call}
use Rattle.law_scans.specs.laws.defs.declared.event.Event.{Event}
use Rattle.law_scans.specs.laws.defs.declared.event.Event.TheVariants as events
use Rattle.law_scans.specs.laws.StateAt.{seen}
use Rattle.law_scans.specs.laws.records.Record.{Past}

-- what a seat's entries come to: the call that it began last, the notes of that call, and the calls that it has ended, in order
pub record Ledger : Type 0 where
  pub call : Option Call
  pub notes : Notes
  pub log : List Group

-- before the first entry
abbrev pub no_ledger : Ledger
no_ledger = record { call = None; notes = no_notes; log = [] }

-- the group that a call leaves at its end
abbrev pub left_by : Option Call → Answer → Notes → List Group
left_by None answer notes = []
left_by (Some call) answer notes = record { call = call; answer = answer; notes = notes } ∷ []

-- with one entry more
abbrev pub ledger_by : Event → Ledger → Ledger
ledger_by (events.Begin call) before = record { call = Some call; notes = no_notes; log = before.log }
ledger_by (events.End steps answer) before =
    record {
      call = before.call;
      notes = noted before.notes (events.End steps answer);
      log = before.log ++ left_by before.call answer (noted before.notes (events.End steps answer));
    }
ledger_by event before = record { call = before.call; notes = noted before.notes event; log = before.log }

-- of seat k at a position
abbrev pub ledger_of : ℕ → Past → Ledger
ledger_of k p = seen ledger_by no_ledger k p

-- the calls that seat k has ended, in order, each with its answer and its notes
abbrev pub log_of : ℕ → Past → List Group
log_of k p = (ledger_of k p).log

-- the notes of the call that seat k began last
abbrev pub notes_of : ℕ → Past → Notes
notes_of k p = (ledger_of k p).notes
