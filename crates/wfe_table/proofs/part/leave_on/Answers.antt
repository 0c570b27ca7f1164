-- The leave has begun, and what stands is let go; then the list is left.
use Rattle.std.proofs.Common.{ap, sym, ◌∙◌}
use Rattle.wfe_core.specs.declared.post.Post.{Post}
use Rattle.wfe_core.specs.words.declared.layout.Layout.{Layout}
use Rattle.wfe_drive_rule.specs.drive_cells.Spots.{spot}
use Rattle.wfe_table.proofs.Departs.{departed, parted_first}
use Rattle.wfe_table.proofs.part.leave_on.Goals as goal

pub part-first-requires-clause-parted : goal.part-first-requires-clause-parted
part-first-requires-clause-parted c =
    let b = c.begin.ensures in
    parted_first _ _ _ c.args.handle.now.me _ (record { resting = c.requires.resting; view = b.view; begun_is = b.begins; post_is = c.requires.post }) b.seated

pub hand_list-requires-clause-spot : goal.hand_list-requires-clause-spot
hand_list-requires-clause-spot c =
    c.spot_at-spot.ensures ∙ ap (λ (d : Layout). spot d c.args.word) (sym (ap (λ (p : Post). p.layout) c.requires.post) ∙ c.requires.seated.tracked.layout_is)

pub returns-clause-departed : goal.returns-clause-departed
returns-clause-departed c =
    let b = c.begin.ensures in
    departed _ _ _ c.args.handle.now.me _ _ _ _ (record { resting = c.requires.resting; view = b.view; begun_is = b.begins; post_is = c.requires.post }) c.part-first.ensures.parted c.hand_list.ensures.told
