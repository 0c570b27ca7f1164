-- What the record of each history says of the logs, the book and the scans of seats, and what the answers in a log say of the record.
use Rattle.std.specs.Prelude.{ℕ, ◌≡◌, true, false, List, [], ◌∷◌, ◌++◌, Some}
use Rattle.law_scans.specs.inv.model.Desks.{noted}
use Rattle.law_scans.specs.inv.model.Guards.{guards}
use Rattle.law_scans.specs.inv.model.Locals.{Group, Local, turn}
use Rattle.law_scans.specs.inv.model.World.{World, is_busy}
use Rattle.law_scans.specs.laws.defs.Entry.{Entry}
use Rattle.law_scans.specs.laws.defs.declared.call.Call.{Call}
use Rattle.law_scans.specs.laws.defs.declared.event.Event.TheVariants as events
use Rattle.law_scans.specs.laws.words.Place.{is_valid}
use Rattle.law_scans.specs.laws.words.declared.config.Config.{Config}
use Rattle.law_scans.specs.laws.words.declared.layout.Layout.{Layout}
use Rattle.law_scans.specs.laws.StateAt.{began_of, is_open, read_of}
use Rattle.law_scans.specs.inv.history.History.{Item, record_of, world_of}
use Rattle.law_scans.specs.laws.records.Record.{Past, tells}
use Rattle.law_scans.specs.laws.records.Record.Past.{Then}
use Rattle.law_all.specs.Logs.Answered.{Says, SaysOfRows}
use Rattle.law_all.specs.Logs.Ledgers.{log_of, notes_of}
use Rattle.law_all.specs.Logs.Versions.{AtMost, counts_of, met_by, met_in}

-- a turn leaves the notes as they were: what it tells is noted where the seat is settled
abbrev pub TurnsLeaveNotes : Type 0
TurnsLeaveNotes = (l : Local) (found : ℕ) → (turn l found).desk.notes ≡ l.desk.notes

-- what the record says of seat k is so: the calls that it has ended, the notes of its last call, whether it is in one, and in which
pub record IsLogged (w : World) (p : Past) (k : ℕ) : Type 0 where
  pub log : log_of k p ≡ (w.seat k).log
  pub notes : notes_of k p ≡ (w.seat k).desk.notes
  pub busy : is_open k p ≡ is_busy w k
  pub call : is_busy w k ≡ true → began_of k p ≡ Some (w.seat k).call

abbrev pub RecordsKeepLogs : Type 0
RecordsKeepLogs = (layout : Layout) (items : List Item) (k : ℕ) → is_valid layout ≡ true → IsLogged (world_of layout items) (record_of layout items) k

-- what a seat keeps of its last scan is what it has read of its last block of guards by the record
abbrev pub RecordReads : Type 0
RecordReads =
    (layout : Layout) (items : List Item) (k : ℕ)
    → is_valid layout ≡ true
    → read_of (guards layout.config) k (record_of layout items) ≡ ((world_of layout items).seat k).desk.report.read

-- a later record begins with an earlier one
pub record IsBeginning (first last : Past) : Type 0 where
  pub later : List Entry
  pub cut : last ≡ tells first later

abbrev pub RecordsGrow : Type 0
RecordsGrow = (layout : Layout) (items more : List Item) → IsBeginning (record_of layout items) (record_of layout (items ++ more))

-- a group of a log is an End of the record, at a position where the log was what comes before the group in it
pub record IsEnded (k : ℕ) (r : Past) (before : List Group) (group : Group) : Type 0 where
  pub at : Past
  pub later : List Entry
  pub cut : r ≡ tells (Then at k (events.End group.notes.steps group.answer)) later
  pub log : log_of k at ≡ before
  pub call : began_of k at ≡ Some group.call
  pub notes : group.notes ≡ noted (notes_of k at) (events.End group.notes.steps group.answer)

-- of each record
abbrev pub LogsAreCut : Type 0
LogsAreCut = (k : ℕ) (r : Past) (before later : List Group) (group : Group) → log_of k r ≡ before ++ group ∷ later → IsEnded k r before group

-- the call of a position had begun where the log was the same, and its seat in none
pub record IsBegun (k : ℕ) (at : Past) (call : Call) : Type 0 where
  pub from : Past
  pub until : List Entry
  pub cut : at ≡ tells (Then from k (events.Begin call)) until
  pub idle : is_open k from ≡ false
  pub log : log_of k from ≡ log_of k at

-- A call that has ended. By the counts where it began: what its answer says, at its end and in the record; and its seat had met nothing
-- beyond them. At its end: what the answer says of rows and lists; and the seat has met nothing beyond the counts there, and no less than
-- before.
pub record IsAnswered (c : Config) (k : ℕ) (r : Past) (before : List Group) (group : Group) : Type 0 where
  pub end : IsEnded k r before group
  pub begun : IsBegun k end.at group.call
  pub said : Says c (counts_of begun.from) end.at group.call group.answer
  pub says : Says c (counts_of begun.from) r group.call group.answer
  pub rows : SaysOfRows c k end.at group.call group.answer
  pub before_it : AtMost (met_in c.buckets before) (counts_of begun.from)
  pub after_it : AtMost (met_in c.buckets (before ++ group ∷ [])) (counts_of end.at)
  pub rises : AtMost (met_in c.buckets before) (met_in c.buckets (before ++ group ∷ []))

-- the log of a seat begins with what it was after the first items
pub record Extends (first last : List Group) : Type 0 where
  pub more : List Group
  pub cut : last ≡ first ++ more

-- what a log has met, with one call more
abbrev pub LogsExtend : Type 0
LogsExtend = (buckets : ℕ) (log : List Group) (group : Group) → met_in buckets (log ++ group ∷ []) ≡ met_by buckets group.call group.answer (met_in buckets log)
