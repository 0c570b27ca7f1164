-- The scheme is that of the layout.
use Rattle.std.proofs.Common.{ap, sym, ◌∙◌}
use Rattle.wfe_core.specs.words.declared.config.Config.{Config}
use Rattle.wfe_core.specs.words.declared.layout.Layout.{Layout}
use Rattle.wfe_drive_rule.specs.drive_cells.Unit.{SeatView}
use Rattle.wfe_table.specs.Public.{SeatNow}
use Rattle.wfe_table.proofs.seat.Seat.get.Goals as goal

pub get_under-requires-clause-scheme : goal.get_under-requires-clause-scheme
get_under-requires-clause-scheme c =
    ap (λ (l : Layout). l.config.scheme) (sym (ap (λ (s : SeatNow). s.track.local.post.layout) c.self.view_is) ∙ ap (λ (v : SeatView). v.post.layout) c.self.invariant.here) ∙ ap (λ (config : Config). config.scheme) (sym c.config.ensures) ∙ c.in-He.is

pub get_under-requires-in-Ibr-clause-scheme : goal.get_under-requires-in-Ibr-clause-scheme
get_under-requires-in-Ibr-clause-scheme c =
    ap (λ (l : Layout). l.config.scheme) (sym (ap (λ (s : SeatNow). s.track.local.post.layout) c.self.view_is) ∙ ap (λ (v : SeatView). v.post.layout) c.self.invariant.here) ∙ ap (λ (config : Config). config.scheme) (sym c.config.ensures) ∙ c.in-Ibr.is

pub get_under-requires-in-Wfe-clause-scheme : goal.get_under-requires-in-Wfe-clause-scheme
get_under-requires-in-Wfe-clause-scheme c =
    ap (λ (l : Layout). l.config.scheme) (sym (ap (λ (s : SeatNow). s.track.local.post.layout) c.self.view_is) ∙ ap (λ (v : SeatView). v.post.layout) c.self.invariant.here) ∙ ap (λ (config : Config). config.scheme) (sym c.config.ensures) ∙ c.in-Wfe.is

pub get_under-requires-in-Hp-clause-scheme : goal.get_under-requires-in-Hp-clause-scheme
get_under-requires-in-Hp-clause-scheme c =
    ap (λ (l : Layout). l.config.scheme) (sym (ap (λ (s : SeatNow). s.track.local.post.layout) c.self.view_is) ∙ ap (λ (v : SeatView). v.post.layout) c.self.invariant.here) ∙ ap (λ (config : Config). config.scheme) (sym c.config.ensures) ∙ c.in-Hp.is
