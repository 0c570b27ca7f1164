-- A call begins where the history goes on with its beginning.
use Rattle.std.proofs.Common.{ap, subst, sym, ◌∙◌}
use Rattle.wfe_core.specs.words.declared.layout.Layout.{Layout}
use Rattle.wfe_core.specs.Locals.{begun_post, busy_in}
use Rattle.wfe_drive_cells.specs.Unit.{TableView, after_start}
use Rattle.wfe_drive_seat.specs.Seats.{Suits}
use Rattle.wfe_drive.proofs.Reached.{began_from, begun_busy, layout_from, seat_begun}
use Rattle.wfe_drive.proofs.rig.Rig.start.Goals as goal

pub engage-requires-clause-suits : goal.engage-requires-clause-suits
engage-requires-clause-suits g c =
    let l = layout_from _ c.args.self.now c.args.seat c.index_mut.result.now c.self.view_is c.self.invariant c.requires.seat c.index_mut.ensures.value in
    subst (Suits _ _ _ _ c.begin_under-engaged.result) (sym (ap (λ (layout : Layout). layout.config.scheme) l)) c.begin_under-engaged.ensures.suits

pub engage-requires-clause-busy : goal.engage-requires-clause-busy
engage-requires-clause-busy g c =
    let l = layout_from _ c.args.self.now c.args.seat c.index_mut.result.now c.self.view_is c.self.invariant c.requires.seat c.index_mut.ensures.value in
    ap busy_in (c.begin_under-engaged.ensures.phase (begun_post c.index_mut.result.now.post) (ap (λ (layout : Layout). layout.config.scheme) l)) ∙ begun_busy c.index_mut.result.now c.args.call

pub invariant_of-self : goal.invariant_of-self
invariant_of-self g c =
    let l = layout_from _ c.args.self.now c.args.seat c.index_mut.result.now c.self.view_is c.self.invariant c.requires.seat c.index_mut.ensures.value in
    let kind = ap (λ (layout : Layout). layout.config.scheme) l in
    let is = seat_begun c.index_mut.result.now c.engage.new.self c.args.call (c.engage.ensures.phase ∙ c.begin_under-engaged.ensures.phase (begun_post c.index_mut.result.now.post) kind) c.engage.ensures.post c.engage.ensures.desk in
    let b = began_from _ c.args.self.now c.args.seat c.args.call c.index_mut.result.now c.engage.new.self c.self.view_is c.self.invariant c.requires.seat c.requires.free c.requires.may c.requires.stays c.index_mut.ensures.value is in
    b.reached

pub returns : goal.returns
returns g c =
    let l = layout_from _ c.args.self.now c.args.seat c.index_mut.result.now c.self.view_is c.self.invariant c.requires.seat c.index_mut.ensures.value in
    let kind = ap (λ (layout : Layout). layout.config.scheme) l in
    let is = seat_begun c.index_mut.result.now c.engage.new.self c.args.call (c.engage.ensures.phase ∙ c.begin_under-engaged.ensures.phase (begun_post c.index_mut.result.now.post) kind) c.engage.ensures.post c.engage.ensures.desk in
    let b = began_from _ c.args.self.now c.args.seat c.args.call c.index_mut.result.now c.engage.new.self c.self.view_is c.self.invariant c.requires.seat c.requires.free c.requires.may c.requires.stays c.index_mut.ensures.value is in
    record { table = b.is ∙ ap (λ (t : TableView). after_start t c.args.seat c.args.call) c.self.view_is }
