-- The seat's past is a history that begins with what was heard.
use Rattle.std.proofs.Common.{subst, ◌∙◌}
use mathlib.Core.Option.{none}
use Rattle.atomic_table.specs.Table.{step}
use Rattle.wfe_core.specs.words.declared.layout.Layout.{Layout}
use Rattle.wfe_drive_rule.specs.Moves.{Hears, Learns}
use Rattle.wfe_drive_rule.specs.Views.{Handle}
use Rattle.wfe_drive_rule.proofs.News.{heard_seated, hears}
use Rattle.wfe_drive_rule.proofs.Seated.{some_words}
use Rattle.wfe_drive_rule.proofs.Shown.{at_first}
use Rattle.wfe_drive_rule.proofs.handles.hear_news.Goals as goal

pub load-requires : goal.load-requires
load-requires c = (
  c.take_news.ensures.ids.0 ∙ c.requires.ids.0,
  some_words _ _ c.requires.sized.words_are,
  at_first _ _ _ _ (λ n. n) (Hears (step 0 0 0 0 none) c.take_news.new.handle.me) (hears _ _ _ c.args.seat _ (step 0 0 0 0 none) c.take_news.ensures.seated),
)

pub returns-clause-learns : goal.returns-clause-learns
returns-clause-learns c =
    let mid = c.take_news.new.handle.me in
    let new = c.load.new.seat.me in
    let key = c.args.table.now.key in
    subst (λ (m : Handle). Learns key m new) c.take_news.ensures.taken (subst (λ (d : Layout). Learns d mid new) c.take_news.ensures.seated.tracked.layout_is c.load.ensures.2)

pub returns-clause-seated : goal.returns-clause-seated
returns-clause-seated c =
    let mid = c.take_news.new.handle.me in
    let new = c.load.new.seat.me in
    heard_seated c.args.table.now.key c.args.seat mid new c.take_news.ensures.seated (subst (λ (d : Layout). Learns d mid new) c.take_news.ensures.seated.tracked.layout_is c.load.ensures.2)
