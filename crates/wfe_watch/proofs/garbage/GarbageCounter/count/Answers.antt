use Rattle.std.proofs.Common.{◌<◌, length, arith, slice_set, sym, subst, refl}
use Rattle.wfe_defs.specs.Entry.{entry}
use Rattle.wfe_outside.specs.Watched.{Grows}
use Rattle.wfe_watch.specs.Garbage.{CountsGarbage}
use Rattle.wfe_watch.specs.contracts.garbage.GarbageCounter.{the_view}
use Rattle.wfe_watch.proofs.garbage.GarbageCounter.count.Goals as goal
use Rattle.wfe_watch.proofs.garbage.GarbageCounter.count.Goals.{in-Some, in_default}
use Rattle.wfe_watch.proofs.GarbageLemmas.{grows_within, grows_past}

pub returns-clause-counted : goal.returns-clause-counted
returns-clause-counted c =
    let rows = c.self.inside.rows.items in
    let told = entry c.args.seat c.args.event.now in
    elim c.match-get_mut.branch [
      | in-Some w ↦
          let seen = w.in-Some.ensures in
          let within : c.args.seat < length rows = omega (arith, seen.variant.0 refl, c.self.inside.rows.ok) in
          let grown : Grows CountsGarbage rows (slice_set rows c.args.seat w.count_in.new.row) told =
          rw w.count_in.ensures (grows_within rows c.args.seat c.args.event.now w.in-Some.row.now within seen.value) in
          subst (λ v. Grows CountsGarbage v (the_view c.match-get_mut.self-inside) told) c.self.view_is
          (subst (λ i. Grows CountsGarbage rows (the_view i) told) (sym w.self-inside-is) grown)
      | in_default w ↦
          let grown : Grows CountsGarbage rows rows told = grows_past rows c.args.seat c.args.event.now w.in_default.ensures.item.3 in
          subst (λ v. Grows CountsGarbage v (the_view c.match-get_mut.self-inside) told) c.self.view_is
          (subst (λ i. Grows CountsGarbage rows (the_view i) told) (sym w.self-inside-is) grown)
    ]
