-- The load by which the slot goes home.
use mathlib.Core.Option.{none}
use Rattle.atomic_table.specs.Table.{step}
use Rattle.wfe_drive_rule.specs.Moves.{Gives}
use Rattle.wfe_drive_rule.proofs.Seated.{resting_slot, some_words}
use Rattle.wfe_drive_rule.proofs.Shown.{at_first}
use Rattle.wfe_drive_rule.proofs.Slots.{gives_slot}
use Rattle.wfe_drive_rule.proofs.handles.give_slot.Goals as goal

pub load-requires : goal.load-requires
load-requires c = (
  c.requires.ids,
  some_words _ _ c.requires.sized.words_are,
  at_first _ _ _ _ (λ n. n) (Gives (step 0 0 0 0 none) c.args.handle.now.me) (gives_slot _ _ _ c.args.seat _ (step 0 0 0 0 none) c.requires.sized.slots_are c.requires.seated (resting_slot _ _ c.requires.resting)),
)
