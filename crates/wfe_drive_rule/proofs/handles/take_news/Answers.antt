-- The rule holds where a handle has what another tells.
use Rattle.std.proofs.Common.{ap, subst, sym}
use Rattle.wfe_drive_rule.specs.Handles.{IsSeated}
use Rattle.wfe_drive_rule.specs.Views.{Handle}
use Rattle.wfe_drive_rule.proofs.News.{hears_view}
use Rattle.wfe_drive_rule.proofs.Seated.{some_words}
use Rattle.wfe_drive_rule.proofs.Shown.{joins_shown}
use Rattle.wfe_drive_rule.proofs.handles.take_news.Goals as goal

pub join_seat-requires : goal.join_seat-requires
join_seat-requires c =
    let told = c.requires.told in (
      c.requires.ids.0,
      c.requires.ids.1,
      ap (λ (m : Handle). m.1) told,
      some_words _ _ c.requires.sized.words_are,
      joins_shown _ _ _ _ _ _ _ (hears_view _ _ _ _ _ (ap (λ (m : Handle). m.0.made) told) (ap (λ (m : Handle). m.0.tracks) told) (ap (λ (m : Handle). m.0.holds) told)),
    )

pub returns-clause-seated : goal.returns-clause-seated
returns-clause-seated c =
    let s = c.requires.seated in
    subst (IsSeated c.args.table.now.key c.args.seat) (sym c.join_seat.ensures.2) (record { one = s.one; tracked = s.tracked; holds = s.holds; number = s.number; slots = s.slots; begins = s.begins })
