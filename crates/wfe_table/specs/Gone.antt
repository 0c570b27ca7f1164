-- What holds of each seat that has left.
use Rattle.wfe_drive_rule.specs.Handles.{IsBare, IsIdle}
use Rattle.wfe_drive_rule.specs.Views.{own}
use Rattle.wfe_table.specs.declared.left.LeftSeat.TheInside.{Inside}

-- the handle is without a slot, and no call is under way
pub record IsGone (s : Inside) : Type 0 where
  pub bare : IsBare (own s.handle.me.0).local.post.layout s.handle.me
  pub idle : IsIdle (own s.handle.me.0)
