-- The seat that tells is as it was.
use Rattle.std.proofs.Common.{[], ap, ap₂, subst, sym, ◌∙◌, ◌≡◌}
use Rattle.atomic_table.specs.Seated.{TableId}
use Rattle.wfe_core.specs.Locals.{Local}
use Rattle.wfe_core.specs.words.declared.layout.Layout.{Layout}
use Rattle.law_bounds.specs.all.Logs.Versions.{met_in}
use Rattle.wfe_drive_call.specs.drive_words.Comes.{departs}
use Rattle.wfe_drive_rule.specs.drive_cells.Unit.{SeatView, shown}
use Rattle.wfe_drive_rule.specs.Handles.{IsResting, IsSeated}
use Rattle.wfe_drive_rule.specs.Views.{Handle, own, tidings}
use Rattle.wfe_table.specs.Public.{SeatNow}
use Rattle.wfe_table.specs.Sound.{IsMet}
use Rattle.wfe_table.proofs.seat.Seat.tell.Goals as goal

pub tell_news-requires-clause-ids : goal.tell_news-requires-clause-ids
tell_news-requires-clause-ids c = ap (λ (s : SeatNow). s.table) c.self.view_is ∙ c.requires.table

pub tell_news-requires-clause-seated : goal.tell_news-requires-clause-seated
tell_news-requires-clause-seated c =
    let i = c.self.invariant in
    let key : c.self.inside.post.layout ≡ c.args.ledger.now.key = sym (ap (λ (v : SeatView). v.post.layout) i.here) ∙ ap (λ (s : SeatNow). s.track.local.post.layout) c.self.view_is ∙ c.requires.layout in
    subst (λ (d : Layout). IsSeated d c.self.inside.post.seat c.self.inside.handle.me) key i.seated

pub invariant_of-self : goal.invariant_of-self
invariant_of-self c =
    let i = c.self.invariant in
    let post = c.self.inside.post in
    let same = sym c.tell_news.ensures.same in
    let local : (own c.tell_news.new.handle.me.0).local ≡ (own c.self.inside.handle.me.0).local = ap (λ (m : Handle). (own m.0).local) c.tell_news.ensures.same in
    record {
      seated = subst (IsSeated post.layout post.seat) same i.seated;
      resting = subst IsResting same i.resting;
      here = ap shown local ∙ i.here;
      room = i.room;
      there = ap (λ (l : Local). departs l.call) local ∙ i.there;
      met = subst (λ (l : Local). IsMet post.layout.config.buckets (met_in post.layout.config.buckets l.log) c.self.inside.seen.items) (sym local) i.met;
    }

pub returns-clause-same : goal.returns-clause-same
returns-clause-same c =
    let e = c.tell_news.ensures in
    ap₂ (λ (table : TableId) (m : Handle). let seat : SeatNow = record { table = table; track = own m.0 } in seat) e.ids.0 e.same ∙ c.self.view_is

pub returns-clause-told : goal.returns-clause-told
returns-clause-told c =
    let e = c.tell_news.ensures in
    (e.ids.2 ∙ ap (λ (s : SeatNow). s.table) c.self.view_is, e.told ∙ ap (λ (s : SeatNow). let news : Handle = (tidings s.track.past, []) in news) c.self.view_is)
