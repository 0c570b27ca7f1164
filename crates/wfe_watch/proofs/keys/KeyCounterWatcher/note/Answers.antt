use Rattle.std.proofs.Common.{sym, subst}
use Rattle.std.proofs.lemmas.Result.{on_ok_weaker}
use Rattle.wfe_defs.specs.Entry.{entry}
use Rattle.wfe_outside.specs.Watched.{Grows}
use Rattle.wfe_watch.specs.Keys.{put_counted, removal_counted, CountsKeys}
use Rattle.wfe_watch.proofs.KeysLemmas.{grows_put, grows_removal, grows_same, names_none}
use Rattle.wfe_watch.proofs.keys.KeyCounterWatcher.note.Goals as goal

pub returns-in-Put-clause-ok : goal.returns-in-Put-clause-ok
returns-in-Put-clause-ok c =
    let old = c.args.self.now in
    let seat = c.args.seat in
    let key = c.in-Put.key in
    let grown : Grows CountsKeys old (put_counted key old) (entry seat c.args.event.now) =
    subst (λ event. Grows CountsKeys old (put_counted key old) (entry seat event)) (sym c.in-Put.is) (grows_put old seat c.in-Put.bucket c.in-Put.version key c.in-Put.value) in
    on_ok_weaker c.count_put.result
    (λ counted. subst (λ new. Grows CountsKeys old new (entry seat c.args.event.now)) (sym counted) grown)
    c.count_put.ensures.ok

pub returns-in-Removed-clause-ok : goal.returns-in-Removed-clause-ok
returns-in-Removed-clause-ok c =
    let old = c.args.self.now in
    let seat = c.args.seat in
    let key = c.in-Removed.key in
    let grown : Grows CountsKeys old (removal_counted key old) (entry seat c.args.event.now) =
    subst (λ event. Grows CountsKeys old (removal_counted key old) (entry seat event)) (sym c.in-Removed.is) (grows_removal old seat c.in-Removed.bucket c.in-Removed.version key) in
    on_ok_weaker c.count_removal.result
    (λ counted. subst (λ new. Grows CountsKeys old new (entry seat c.args.event.now)) (sym counted) grown)
    c.count_removal.ensures.ok

pub returns-in_default : goal.returns-in_default
returns-in_default c =
    let named = names_none c.args.event.now c.in_default.not-Put c.in_default.not-Removed in
    record {
      ok = grows_same c.args.self.now c.args.seat c.args.event.now named.0 named.1;
      err = tt;
      refused = tt;
    }
