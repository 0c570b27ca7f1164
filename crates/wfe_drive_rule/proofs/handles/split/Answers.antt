-- The rule holds with one seat more.
use Rattle.wfe_drive_rule.proofs.Making.{splits}
use Rattle.wfe_drive_rule.proofs.Seated.{some_words}
use Rattle.wfe_drive_rule.proofs.Shown.{splits_shown}
use Rattle.wfe_drive_rule.proofs.handles.split.Goals as goal

pub split_seat-requires : goal.split_seat-requires
split_seat-requires c = (c.requires.ids, some_words _ _ c.requires.sized.words_are, splits_shown _ _ _ _ _ (splits _ _ _ c.requires.tracked c.requires.counts c.requires.room))
