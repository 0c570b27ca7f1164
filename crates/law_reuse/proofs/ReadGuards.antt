-- What holds of each event with which a guard may be read holds of the one that is told.
use Rattle.std.proofs.Common.{ℕ, Bool, true, false, Option}
use Rattle.laws.specs.defs.declared.event.Event.{Event}
use Rattle.laws.specs.defs.declared.event.Event.TheVariants as events
use Rattle.laws.specs.defs.declared.event.Guard.{Guard}
use Rattle.laws.specs.defs.declared.lifetime.Interval.{Interval}
use Rattle.inv_all.specs.model.Guards.{eras_in, linked_row}
use Rattle.inv_all.specs.model.Scan.{reads_guard}

pub reads_are : (P : Event → Type 0) (rows : Bool) (guard : Guard) (word : ℕ) → ((span : Option Interval) → P (events.Read guard span)) → ((slot : Option ℕ) → P (events.Saw guard slot)) → P (reads_guard rows guard word)
reads_are P false guard word r s = r (eras_in guard word)
reads_are P true guard word r s = s (linked_row word)
