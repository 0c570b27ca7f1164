-- The rule holds with a handle that tells how far a seat's history is known.
use Rattle.wfe_drive_rule.proofs.News.{tells}
use Rattle.wfe_drive_rule.proofs.Seated.{some_words}
use Rattle.wfe_drive_rule.proofs.Shown.{splits_shown}
use Rattle.wfe_drive_rule.proofs.handles.tell_news.Goals as goal

pub split_seat-requires : goal.split_seat-requires
split_seat-requires c = (c.requires.ids, some_words _ _ c.requires.sized.words_are, splits_shown _ _ _ _ _ (tells _ _ _ c.requires.seated.one))
