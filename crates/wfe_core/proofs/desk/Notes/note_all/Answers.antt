use Rattle.std.proofs.Common.{arith, ap, ◌∙◌, sym}
use Rattle.wfe_core.specs.Desks.{noted}
use Rattle.wfe_core.proofs.Noting.{noted_next}
use Rattle.wfe_core.proofs.desk.Notes.note_all.Goals as goal

pub loop-place-preserved : goal.loop-place-preserved
loop-place-preserved c =
    record {
      notes =
          c.note.ensures.notes ∙ ap (λ notes. noted notes c.get.result.now) c.loop-place.invariant.notes
          ∙ sym (noted_next _ c.args.told.now c.loop-place.place c.get.result.now c.get.ensures);
      room = omega (arith, c.loop-place.invariant.room, c.note.ensures.room);
      back = omega (arith, c.loop-place.invariant.back, c.note.ensures.back);
    }
