-- What comes after the writing is the exchange of the next link.
use Rattle.std.proofs.Common.{Option, ap, arith, ℕ}
use Rattle.wfe_core.specs.Calls.{Enqueues, Enqueuing, ExchangeNext, Fills, Works}
use Rattle.wfe_core.specs.DeskHeld.{desk_of}
use Rattle.wfe_core.specs.Steps.{slot_in}
use Rattle.wfe_drive_runs.specs.Items.{kept_of}
use Rattle.wfe_drive_words.specs.Called.{at_phase}
use Rattle.wfe_drive_words.proofs.Leading.{leads_as}
use Rattle.wfe_drive_runs.proofs.Turning.{may_here}
use Rattle.wfe_drive_runs.proofs.item_row.write.Goals as goal

pub overflow_add-item : goal.overflow_add-item
overflow_add-item g c =
    let may = may_here (g.W.Words.comes c.args.words.now) c.requires.valid c.requires.here in
    omega (arith, may.ready.1.1, may.valid.bounds.versions)

pub write_item-requires-clause-here : goal.write_item-requires-clause-here
write_item-requires-clause-here g c = (Fills (Enqueues (kept_of c.args.item.now)), desk_of c.args._desk.now, c.requires.here)

pub returns-clause-leads : goal.returns-clause-leads
returns-clause-leads g c =
    let x = c.write_item.ensures.turns (Fills (Enqueues (kept_of c.args.item.now))) (desk_of c.args._desk.now) c.requires.here in
    leads_as _ _ (ap (λ (taken : Option ℕ). at_phase (Works (Enqueuing (kept_of c.args.item.now) (ExchangeNext (slot_in taken)))) c.write_item.new.post c.args._desk.now) c.requires.taken) x.leads

pub write_item-requires-clause-own : goal.write_item-requires-clause-own
write_item-requires-clause-own g c = (may_here (g.W.Words.comes c.args.words.now) c.requires.valid c.requires.here).valid

pub write_item-requires-clause-slot : goal.write_item-requires-clause-slot
write_item-requires-clause-slot g c = (may_here (g.W.Words.comes c.args.words.now) c.requires.valid c.requires.here).ready.0.0
