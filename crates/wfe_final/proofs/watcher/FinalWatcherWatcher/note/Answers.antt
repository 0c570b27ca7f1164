-- A watcher after an event stands where the record leaves it.
use Rattle.std.proofs.Common.{ap, refl, subst, sym, ◌≡◌, ◌∙◌}
use Rattle.wfe_outside.specs.Watched.{Grows}
use Rattle.wfe_final.specs.defs.Entry.{entry}
use Rattle.wfe_final.specs.defs.declared.event.Event.{Event}
use Rattle.wfe_final.specs.Watching.{StandsFor, Watching, watched}
use Rattle.wfe_final.proofs.WatchingLemmas.{stands_more, watched_none}
use Rattle.wfe_final.proofs.watcher.FinalWatcherWatcher.note.Goals as goal

pub returns-in-Retire-clause-ok : goal.returns-in-Retire-clause-ok
returns-in-Retire-clause-ok g c =
    let now : c.attach.new.self ≡ watched c.args.event.now c.args.self.now = c.attach.ensures ∙ ap (λ (event : Event). watched event c.args.self.now) (sym c.in-Retire.is) in
    subst (λ (w : Watching). Grows StandsFor c.args.self.now w (entry c.args.seat c.args.event.now)) (sym now) (stands_more c.args.self.now c.args.seat c.args.event.now)

pub returns-in-Back-clause-ok : goal.returns-in-Back-clause-ok
returns-in-Back-clause-ok g c =
    let now : c.settle.new.self ≡ watched c.args.event.now c.args.self.now = c.settle.ensures ∙ ap (λ (event : Event). watched event c.args.self.now) (sym c.in-Back.is) in
    subst (λ (w : Watching). Grows StandsFor c.args.self.now w (entry c.args.seat c.args.event.now)) (sym now) (stands_more c.args.self.now c.args.seat c.args.event.now)

pub returns-in_default : goal.returns-in_default
returns-in_default g c =
    let same : watched c.args.event.now c.args.self.now ≡ c.args.self.now = watched_none c.args.self.now c.args.event.now c.in_default.not-Retire c.in_default.not-Back in
    record {
      ok = subst (λ (w : Watching). Grows StandsFor c.args.self.now w (entry c.args.seat c.args.event.now)) same (stands_more c.args.self.now c.args.seat c.args.event.now);
      err = tt;
      never_fails = refl;
      watched = sym same;
    }
