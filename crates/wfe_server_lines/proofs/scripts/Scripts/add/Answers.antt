use Rattle.std.proofs.Common.{List, ap, arith, length, refl, rules, subst, sym, true, ◌<◌, ◌∙◌, ◌≡◌}
use Rattle.std.specs.Prelude.{is_ok}
use Rattle.wfe_outside.specs.defs.declared.call.Call.{Call}
use Rattle.wfe_server_lines.specs.Scripted.{lists_in}
use Rattle.wfe_server_lines.specs.Scripted.{Scripted, with_call}
use Rattle.wfe_server_lines.proofs.Scripting.{added_fits, call_added}
use Rattle.wfe_trace.specs.Body.{fits_indexes}
use Rattle.wfe_server_lines.proofs.scripts.Scripts.add.Goals as goal
use Rattle.wfe_server_lines.proofs.scripts.Scripts.add.Goals.{in-Err, in-Ok}

pub invariant_of-self : goal.invariant_of-self
invariant_of-self c =
    let inside = c.self.inside in
    let within : c.args.seat < length inside.calls.items = omega (arith, c.self.invariant.1, ap (λ (s : Scripted). s.config.seats) c.self.view_is, c.requires.seat) in
    let fit : fits_indexes inside.config.indexes c.args.call ≡ true = subst (λ (s : Scripted). fits_indexes s.config.indexes c.args.call ≡ true) (sym c.self.view_is) c.requires.fits in (
      c.self.invariant.0,
      search rules,
      added_fits inside.config inside.calls.items c.args.seat c.args.call c.index_mut.result.now c.push.new.self (is_ok c.push.result) within c.index_mut.ensures.value c.push.ensures.items fit c.requires.workers c.self.invariant.2,
    )

pub returns-clause-added : goal.returns-clause-added
returns-clause-added c = elim c.match-push.branch [
  | in-Ok w ↦
      let inside = c.self.inside in
      let within : c.args.seat < length inside.calls.items = omega (arith, c.self.invariant.1, ap (λ (s : Scripted). s.config.seats) c.self.view_is, c.requires.seat) in
      let lists = call_added inside.calls.items c.args.seat c.args.call c.index_mut.result.now c.push.new.self within c.index_mut.ensures.value (rw w.in-Ok.is at c.push.ensures.items) in
      let same = subst (λ (s : Scripted). (let t : Scripted = record { version = inside.version; config = inside.config; scripts = with_call c.args.seat c.args.call (lists_in inside.calls.items) } in t) ≡ record { version = s.version; config = s.config; scripts = with_call c.args.seat c.args.call s.scripts }) c.self.view_is refl in
      rw w.result-is (ap (λ (scripts : List (List Call)). let t : Scripted = record { version = inside.version; config = inside.config; scripts = scripts } in t) lists ∙ same)
  | in-Err w ↦ rw w.result-is tt
]
