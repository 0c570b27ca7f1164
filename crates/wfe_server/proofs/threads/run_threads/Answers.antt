use Rattle.std.proofs.Common.{List, ap, length, subst, sym, ◌∙◌}
use Rattle.std.proofs.lemmas.List.{length-map}
use Rattle.std.specs.declared.alloc.Global.{Global}
use Rattle.std.specs.declared.vec.Vec.{Vec}
use Rattle.wfe_core.specs.defs.declared.call.Call.{Call}
use Rattle.wfe_core.specs.words.declared.layout.Layout.{Layout}
use Rattle.wfe_server_lines.specs.Scripted.{lists_in}
use Rattle.wfe_server_lines.specs.Fitting.{AllBegin}
use Rattle.wfe_server.proofs.Coming.{count_of_all, each_of, layout_made, run_comes, run_fits, run_of}
use Rattle.wfe_server.proofs.Parting.{all_ready}
use Rattle.wfe_server.proofs.threads.run_threads.Goals as goal

pub work_all-requires-clause-scripts : goal.work_all-requires-clause-scripts
work_all-requires-clause-scripts g c κs within =
    let made = layout_made c.args.config c.in-Ok.shared.layout c.requires.config c.in-Ok.ensures.made.0 in
    ap length c.deref.ensures.value ∙ c.requires.scripts ∙ sym (ap (λ (l : Layout). l.config.seats) made)

pub work_all-requires-clause-ready : goal.work_all-requires-clause-ready
work_all-requires-clause-ready g c κs within =
    let made = layout_made c.args.config c.in-Ok.shared.layout c.requires.config c.in-Ok.ensures.made.0 in
    let fits =
    subst (λ (vectors : List (Vec Call Global)). AllBegin c.in-Ok.shared.layout.config (lists_in vectors)) (sym c.deref.ensures.value)
    (subst (λ (l : Layout). AllBegin l.config (lists_in c.args.scripts.items)) (sym made) c.requires.fits) in
    all_ready c.in-Ok.shared c.in-Ok.seats.items c.deref.result.now c.in-Ok.ensures.made.1 (ap length c.deref.ensures.value ∙ c.requires.scripts ∙ sym (ap (λ (l : Layout). l.config.seats) made)) fits

pub close-requires : goal.close-requires
close-requires g c =
    let vectors = c.deref.result.now in
    record {
      of = run_of c.in-Ok.shared (lists_in c.args.scripts.items) c.in_ok-all.all.items c.in_ok-seats.seats.items c.in_ok-seats.events.items (count_of_all vectors c.args.scripts.items c.in_ok-all.all.items c.deref.ensures.value c.in_ok-all.ensures.count)
          (each_of c.in-Ok.shared vectors c.args.scripts.items c.in_ok-all.all.items c.deref.ensures.value c.in_ok-all.ensures.each) c.in_ok-seats.ensures;
    }

pub returns-in-Ok-close-clause-comes : goal.returns-in-Ok-close-clause-comes
returns-in-Ok-close-clause-comes g c =
    let vectors = c.deref.result.now in
    let made = layout_made c.args.config c.in-Ok.shared.layout c.requires.config c.in-Ok.ensures.made.0 in
    run_comes c.args.config c.in-Ok.shared (lists_in c.args.scripts.items) c.in_ok-all.all.items c.in_ok-seats.seats.items c.in_ok-seats.events.items c.in-Ok-close.closed made
    (length-map c.args.scripts.items _ ∙ c.requires.scripts) (count_of_all vectors c.args.scripts.items c.in_ok-all.all.items c.deref.ensures.value c.in_ok-all.ensures.count)
    (each_of c.in-Ok.shared vectors c.args.scripts.items c.in_ok-all.all.items c.deref.ensures.value c.in_ok-all.ensures.each) c.in_ok-seats.ensures c.in-Ok-close.ensures.closed

pub returns-in-Ok-close-clause-fits : goal.returns-in-Ok-close-clause-fits
returns-in-Ok-close-clause-fits g c = run_fits c.args.config c.in-Ok.shared _ c.in-Ok-close.closed (layout_made c.args.config c.in-Ok.shared.layout c.requires.config c.in-Ok.ensures.made.0) c.in-Ok-close.ensures.closed
