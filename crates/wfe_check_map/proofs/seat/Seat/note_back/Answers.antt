use Rattle.std.specs.Prelude.{◌==◌, not}
use Rattle.std.proofs.Common.{refl, ◌∙◌}
use Rattle.wfe_defs.specs.declared.lifetime.Lifetime.{Lifetime}
use Rattle.wfe_check_map.proofs.SpansLemmas.{filter_slot, stays_kept}
use Rattle.wfe_check_map.proofs.seat.Seat.note_back.Goals as goal

pub returns : goal.returns
returns c =
    let lives = c.self.inside.lives.items in
    let values = c.self.inside.values.items in
    let slot = c.args.slot in
    rw (← c.self.view_is)
    (record {
      lives = c.take_away.ensures ∙ filter_slot slot lives;
      values = refl;
      scans = refl;
      due = λ old.
          let none = stays_kept (λ (life : Lifetime). not (life.slot == slot)) values c.self.inside.place lives old.kept in
          let settled = rw (c.deref-3.ensures.value, c.deref-2.ensures.value, c.stays-place.ensures, c.deref.ensures.value) at c.settled-self-inside.ensures in
          settled (rw c.take_away.ensures none);
    })
