-- The seat leaves by a store, and its list is in its slot.
use Rattle.std.proofs.Common.{ap, subst, sym, ◌∙◌}
use Rattle.atomic_table.specs.Table.{Allows}
use Rattle.wfe_core.specs.declared.op.Op.TheVariants.{Store}
use Rattle.wfe_drive_rule.specs.Moves.{HandsOver}
use Rattle.wfe_drive_rule.specs.Rule.{Holds}
use Rattle.wfe_drive_rule.specs.Spots.{slot_at}
use Rattle.wfe_drive_rule.specs.Views.{Handle, slot_left}
use Rattle.wfe_drive_rule.proofs.Acting.{held_of}
use Rattle.wfe_drive_rule.proofs.Leaving.{gone, hands, listed}
use Rattle.wfe_drive_rule.proofs.Operations.{inside, spot_there}
use Rattle.wfe_drive_rule.proofs.Seated.{first_slot, put_slot}
use Rattle.wfe_drive_rule.proofs.Shown.{at_words}
use Rattle.wfe_drive_rule.proofs.lists.hand_list.Goals as goal

pub exchange-requires : goal.exchange-requires
exchange-requires c = (c.requires.ids, first_slot _ (slot_at c.args.seat) _ _ c.requires.seated.slots)

pub store-requires : goal.store-requires
store-requires c =
    let old = c.args.handle.now.me in
    let held = held_of _ _ _ c.requires.seated in
    let me = c.exchange.ensures.3 ∙ ap (λ slots. let h : Handle = (old.0, slots) in h) (put_slot old.1 (slot_at c.args.seat) _ (slot_left c.args.list c.args.first) _ c.requires.seated.slots) in (
      c.exchange.ensures.0 ∙ c.requires.ids,
      spot_there _ _ _ (Store c.args.word 1) _ c.requires.sized held c.requires.asks c.requires.spot,
      subst (λ h. Allows (Holds c.args.table.now.key) c.args.table.now.table_id.slots c.exchange.new.seat.id h c.args.spot (λ _. 1) (λ _. HandsOver h 0)) (sym me)
          (at_words _ _ _ _ c.args.spot _ (λ _. 1) (λ _. HandsOver (listed old c.args.seat c.args.list c.args.first) 0) (inside _ _ (Store c.args.word 1) held c.requires.asks) c.requires.spot
          (hands _ _ _ c.args.seat c.args.word old c.args.list c.args.first c.requires.sized.slots_are c.requires.seated c.requires.leaves c.requires.asks c.requires.first c.requires.list)),
    )

pub returns : goal.returns
returns c =
    let old = c.args.handle.now.me in
    let me = c.exchange.ensures.3 ∙ ap (λ slots. let h : Handle = (old.0, slots) in h) (put_slot old.1 (slot_at c.args.seat) _ (slot_left c.args.list c.args.first) _ c.requires.seated.slots) in
    let over = subst (λ h. HandsOver h 0 c.store.new.seat.me) me c.store.ensures.2 in
    let g = gone c.args.table.now.key c.args.seat old c.store.new.seat.me c.args.list c.args.first c.requires.seated c.requires.leaves c.requires.first over in
    record {
      ids = (c.store.ensures.0 ∙ c.exchange.ensures.0, c.store.ensures.1 ∙ c.exchange.ensures.1);
      bare = g.bare;
      idle = g.idle;
      told = g.told;
    }
