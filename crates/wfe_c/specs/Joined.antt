-- A seat that is with its table, and the calls that it makes.
use Rattle.std.specs.Prelude.{false, ℕ, ◌≡◌}
use Rattle.std.specs.Arc.{arc_value}
use Rattle.wfe_core.specs.Locals.{may_begin}
use Rattle.wfe_table.specs.Calls.{IsMade}
use Rattle.wfe_table.specs.Public.{SeatNow, TableNow}
use Rattle.wfe_table.specs.history.defs.declared.call.Answer.{Answer}
use Rattle.wfe_table.specs.history.defs.declared.call.Answer.TheVariants as answers
use Rattle.wfe_table.specs.history.defs.declared.call.Call.{Call}
use Rattle.wfe_table.specs.history.defs.declared.call.Call.TheVariants as calls
use Rattle.wfe_c.specs.declared.joined.Joined.{Joined}

-- the table that the seat is with
abbrev pub table_of : Joined → TableNow
table_of joined = (arc_value joined.common).shared

-- the seat made this call on its table, and was answered so
pub record Makes (old new : Joined) (call : Call) (answer : Answer) : Type 0 where
  pub table : table_of new ≡ table_of old
  pub made : IsMade (table_of old).layout old.seat new.seat call answer

-- the call names an index or a place that the table lacks, and was not begun
pub record IsRefused (old new : Joined) (call : Call) : Type 0 where
  pub may : may_begin (table_of old).layout.config call ≡ false
  pub same : new ≡ old

-- the seat has left, with so many rows on its list
pub record IsLeft (old : Joined) (count : ℕ) : Type 0 where
  pub gone : SeatNow
  pub made : IsMade (table_of old).layout old.seat gone calls.Leave (answers.Left count)
