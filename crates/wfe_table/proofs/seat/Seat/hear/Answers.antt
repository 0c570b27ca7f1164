-- The seat that hears stands as it did.
use Rattle.std.proofs.Common.{ap, refl, subst, sym, ◌∙◌, ◌≡◌}
use Rattle.wfe_core.specs.Locals.{Local}
use Rattle.wfe_core.specs.words.declared.layout.Layout.{Layout}
use Rattle.law_bounds.specs.all.Logs.Versions.{met_in}
use Rattle.wfe_drive_call.specs.drive_words.Comes.{departs}
use Rattle.wfe_drive_rule.specs.drive_cells.Unit.{SeatView, shown}
use Rattle.wfe_drive_rule.specs.Handles.{IsSeated}
use Rattle.wfe_drive_rule.specs.Moves.{hearing}
use Rattle.wfe_drive_rule.specs.Views.{Handle, own}
use Rattle.wfe_table.specs.Public.{SeatNow}
use Rattle.wfe_table.specs.Sound.{IsMet}
use Rattle.wfe_table.proofs.Hearing.{aware_by, local_heard, rests_heard}
use Rattle.wfe_table.proofs.seat.Seat.hear.Goals as goal

pub hear_news-requires-clause-ids : goal.hear_news-requires-clause-ids
hear_news-requires-clause-ids c = (ap (λ (s : SeatNow). s.table) c.self.view_is ∙ c.requires.table, c.requires.news.0)

pub hear_news-requires-clause-seated : goal.hear_news-requires-clause-seated
hear_news-requires-clause-seated c =
    let i = c.self.invariant in
    let key : c.self.inside.post.layout ≡ c.args.ledger.now.key = sym (ap (λ (v : SeatView). v.post.layout) i.here) ∙ ap (λ (s : SeatNow). s.track.local.post.layout) c.self.view_is ∙ c.requires.layout in
    subst (λ (d : Layout). IsSeated d c.self.inside.post.seat c.self.inside.handle.me) key i.seated

pub hear_news-requires-clause-told : goal.hear_news-requires-clause-told
hear_news-requires-clause-told c = c.requires.news.1

pub invariant_of-self : goal.invariant_of-self
invariant_of-self c =
    let i = c.self.invariant in
    let e = c.hear_news.ensures in
    let post = c.self.inside.post in
    let old = c.self.inside.handle.me in
    let key : post.layout ≡ c.args.ledger.now.key = sym (ap (λ (v : SeatView). v.post.layout) i.here) ∙ ap (λ (s : SeatNow). s.track.local.post.layout) c.self.view_is ∙ c.requires.layout in
    let between : Handle = (hearing old.0 c.args.news.me.0, old.1) in
    let local : (own c.hear_news.new.handle.me.0).local ≡ (own old.0).local = local_heard c.args.ledger.now.key between c.hear_news.new.handle.me e.learns in
    record {
      seated = subst (λ (d : Layout). IsSeated d post.seat c.hear_news.new.handle.me) (sym key) e.seated;
      resting = rests_heard c.args.ledger.now.key between c.hear_news.new.handle.me e.learns i.resting;
      here = ap shown local ∙ i.here;
      room = i.room;
      there = ap (λ (l : Local). departs l.call) local ∙ i.there;
      met = subst (λ (l : Local). IsMet post.layout.config.buckets (met_in post.layout.config.buckets l.log) c.self.inside.seen.items) (sym local) i.met;
    }

pub returns-clause-layout : goal.returns-clause-layout
returns-clause-layout c =
    let old = c.self.inside.handle.me in
    let between : Handle = (hearing old.0 c.args.news.me.0, old.1) in
    ap (λ (l : Local). l.post.layout) (local_heard c.args.ledger.now.key between c.hear_news.new.handle.me c.hear_news.ensures.learns) ∙ ap (λ (s : SeatNow). s.track.local.post.layout) c.self.view_is

pub returns-clause-aware : goal.returns-clause-aware
returns-clause-aware c =
    let e = c.hear_news.ensures in
    let new : SeatNow = record { table = c.hear_news.new.handle.table_id; track = own c.hear_news.new.handle.me.0 } in
    aware_by c.args.ledger.now.key c.args.self.now new c.self.inside.handle.me c.args.news.me c.hear_news.new.handle.me e.learns e.seated.tracked (sym (ap (λ (s : SeatNow). s.track) c.self.view_is)) refl
