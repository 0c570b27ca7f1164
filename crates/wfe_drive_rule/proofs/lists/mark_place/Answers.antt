-- The place's slot goes home by a store.
use Rattle.wfe_core.specs.declared.op.Op.TheVariants.{Store}
use Rattle.wfe_drive_rule.specs.Moves.{MarksOver}
use Rattle.wfe_drive_rule.proofs.Adopting.{marks_held, marks_place}
use Rattle.wfe_drive_rule.proofs.Operations.{inside, spot_there}
use Rattle.wfe_drive_rule.proofs.Shown.{at_words}
use Rattle.wfe_drive_rule.proofs.Taken.{marked}
use Rattle.wfe_drive_rule.proofs.lists.mark_place.Goals as goal

pub store-requires : goal.store-requires
store-requires c = (
  c.requires.ids,
  spot_there _ _ _ (Store c.args.word 3) _ c.requires.sized (marks_held _ _ _ _ c.requires.adopting) c.requires.asks c.requires.spot,
  at_words _ _ _ _ c.args.spot _ (λ _. 3) (λ _. MarksOver c.args.handle.now.me 0) (inside _ _ (Store c.args.word 3) (marks_held _ _ _ _ c.requires.adopting) c.requires.asks) c.requires.spot
      (marks_place _ _ _ c.args.seat c.args.word c.args.place _ c.requires.sized.slots_are c.requires.adopting c.requires.asks),
)

pub returns : goal.returns
returns c =
    let m = marked c.args.table.now.key c.args.seat c.args.place c.args.handle.now.me c.store.new.seat.me c.requires.adopting c.store.ensures.2 in
    record { ids = (c.store.ensures.0, c.store.ensures.1); seated = m.seated; resting = m.resting; told = m.told }
