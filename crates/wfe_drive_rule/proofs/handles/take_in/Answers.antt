-- The rule holds where two handles are one.
use Rattle.wfe_drive_rule.proofs.Joining.{joins}
use Rattle.wfe_drive_rule.proofs.Seated.{some_words}
use Rattle.wfe_drive_rule.proofs.Shown.{joins_shown}
use Rattle.wfe_drive_rule.proofs.handles.take_in.Goals as goal

pub join_seat-requires : goal.join_seat-requires
join_seat-requires c =
    let own = c.requires.gathered.0 in
    let other = c.requires.gathered.1 in (
      c.requires.ids.0,
      c.requires.ids.1,
      other.slots,
      some_words _ _ c.requires.sized.words_are,
      joins_shown _ _ _ _ _ _ _ (joins _ _ _ _ _ own.holds other.holds),
    )
