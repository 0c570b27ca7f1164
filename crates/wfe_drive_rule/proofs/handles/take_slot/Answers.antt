-- The load by which the slot is taken.
use mathlib.Core.Option.{none}
use Rattle.atomic_table.specs.Table.{step}
use Rattle.wfe_drive_rule.specs.Moves.{Takes}
use Rattle.wfe_drive_rule.proofs.Seated.{some_words}
use Rattle.wfe_drive_rule.proofs.Shown.{at_first}
use Rattle.wfe_drive_rule.proofs.Slots.{takes_slot}
use Rattle.wfe_drive_rule.proofs.handles.take_slot.Goals as goal

pub load-requires : goal.load-requires
load-requires c = (c.requires.ids, some_words _ _ c.requires.sized.words_are, at_first _ _ _ _ (λ n. n) (Takes (step 0 0 0 0 none) c.args.handle.now.me) (takes_slot _ _ _ _ (step 0 0 0 0 none) c.requires.bare c.requires.idle c.requires.there))
