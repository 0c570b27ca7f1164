-- The seat after its adoption, whose handle, post and desk went through it together.
use Rattle.std.proofs.Common.{ap, subst, sym, ◌∙◌, ◌≡◌}
use Rattle.wfe_core.specs.words.declared.layout.Layout.{Layout}
use Rattle.wfe_drive_rule.specs.Handles.{IsTracked}
use Rattle.wfe_drive_rule.specs.Views.{own}
use Rattle.wfe_drive_rule.specs.drive_cells.Unit.{SeatView}
use Rattle.wfe_table.specs.Public.{SeatNow}
use Rattle.wfe_table.proofs.Adopted.{IsAnswered, told_layout, told_made, told_met, told_there}
use Rattle.wfe_table.proofs.Made.{rests_as}
use Rattle.wfe_table.proofs.seat.Seat.take.Goals as goal

pub take_list-requires-clause-ids : goal.take_list-requires-clause-ids
take_list-requires-clause-ids c = ap (λ (s : SeatNow). s.table) c.self.view_is ∙ c.requires.table

pub take_list-requires-clause-key : goal.take_list-requires-clause-key
take_list-requires-clause-key c = sym (ap (λ (v : SeatView). v.post.layout) c.self.invariant.here) ∙ ap (λ (s : SeatNow). s.track.local.post.layout) c.self.view_is ∙ c.requires.layout

pub invariant_of-self : goal.invariant_of-self
invariant_of-self c =
    let i = c.self.invariant in
    let e = c.take_list.ensures in
    let new = c.take_list.new in
    record {
      seated = e.seated;
      resting = e.resting;
      here = e.here;
      room = e.room;
      there = told_there c.args.place (own c.self.inside.handle.me.0) (own new.handle.me.0) c.take_list.result e.made;
      met = told_met c.self.inside.post.layout new.post.layout c.args.place (own c.self.inside.handle.me.0) (own new.handle.me.0) c.take_list.result c.self.inside.seen.items e.made e.key i.met;
    }

pub returns-clause-table : goal.returns-clause-table
returns-clause-table c = c.take_list.ensures.ids ∙ ap (λ (s : SeatNow). s.table) c.self.view_is

pub returns-clause-layout : goal.returns-clause-layout
returns-clause-layout c =
    told_layout c.args.place (own c.self.inside.handle.me.0) (own c.take_list.new.handle.me.0) c.take_list.result c.take_list.ensures.made ∙ ap (λ (s : SeatNow). s.track.local.post.layout) c.self.view_is

pub returns-clause-made : goal.returns-clause-made
returns-clause-made c =
    let e = c.take_list.ensures in
    let new = c.take_list.new in
    let key : c.self.inside.post.layout ≡ c.args.ledger.now.key = sym (ap (λ (v : SeatView). v.post.layout) c.self.invariant.here) ∙ ap (λ (s : SeatNow). s.track.local.post.layout) c.self.view_is ∙ c.requires.layout in
    let later : SeatNow = record { table = new.handle.table_id; track = own new.handle.me.0 } in
    let old : SeatNow = record { table = c.self.inside.handle.table_id; track = own c.self.inside.handle.me.0 } in
    let tracked : IsTracked c.args.ledger.now.key (own new.handle.me.0) = subst (λ (d : Layout). IsTracked d (own new.handle.me.0)) (e.key ∙ key) e.seated.tracked in
    subst (λ (s : SeatNow). IsAnswered c.args.ledger.now.key s later c.args.place c.take_list.result) c.self.view_is
    (told_made c.args.ledger.now.key old later c.args.place c.take_list.result (rests_as _ _ _ _ c.self.invariant.seated c.self.invariant.resting key) tracked e.made)
