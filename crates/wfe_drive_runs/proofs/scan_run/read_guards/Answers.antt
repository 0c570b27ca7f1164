-- One guard after another, up to the last.
use Rattle.std.proofs.Common.{ap, arith, refl, subst, sym, ◌+◌, ◌<◌, ◌∙◌, ◌≡◌, ◌≤◌, false, true}
use Rattle.std.proofs.lemmas.Bool.Decides.{nat_tests}
use Rattle.std.specs.Prelude.{nat_lt}
use Rattle.wfe_core.specs.words.declared.config.Config.{Config}
use Rattle.wfe_core.specs.words.declared.layout.Layout.{Layout}
use Rattle.wfe_core.specs.Calls.{ReadGuard, Scans}
use Rattle.wfe_core.specs.DeskHeld.{desk_of}
use Rattle.wfe_core.specs.Guards.{guards}
use Rattle.wfe_core.specs.Valid.{Bounds}
use Rattle.wfe_core.specs.declared.post.Post.{Post}
use Rattle.wfe_drive_words.specs.Called.{at_phase}
use Rattle.wfe_drive_words.proofs.Leading.{here_on, leads_as, leads_none, then_leads}
use Rattle.wfe_drive_runs.proofs.Scanning.{reads_last, reads_on}
use Rattle.wfe_drive_runs.proofs.Turning.{may_here, then_turns, turns_as}
use Rattle.wfe_drive_runs.proofs.scan_run.read_guards.Goals as goal

pub guard_count-count-requires : goal.guard_count-count-requires
guard_count-count-requires g c =
    let (later, h) = c.requires.here in
    subst Bounds (sym c.config.ensures) (may_here (g.W.Words.comes c.args.words.now) c.requires.valid h).valid.bounds

pub guards-init : goal.guards-init
guards-init g c = record {
  valid = c.requires.valid;
  later = c.requires.later;
  same = g.W.Words.same_self c.args.words.now;
  rest = omega arith;
  room = c.requires.room;
  layout = refl;
  standing = refl;
  leads = λ later h. leads_none (g.W.Words.at c.args.words.now) (g.W.Words.stands c.args.words.now) (at_phase (Scans later (ReadGuard 0)) c.args.post.now c.args.desk.now);
}

pub read_guard-requires-clause-here : goal.read_guard-requires-clause-here
read_guard-requires-clause-here g c =
    let (later, h) = c.requires.here in
    (later, here_on h (c.guards.invariant.leads later h))

pub overflow_add-number : goal.overflow_add-number
overflow_add-number g c =
    let (later, h) = c.requires.here in
    let may = may_here (g.W.Words.comes c.guards.words) c.guards.invariant.valid (here_on h (c.guards.invariant.leads later h)) in
    let count : c.guard_count-count.result ≡ guards c.guards.post.layout.config = c.guard_count-count.ensures ∙ ap guards c.config.ensures ∙ ap (λ (layout : Layout). guards layout.config) (sym c.guards.invariant.layout) in
    omega (arith, count, may.ready.1.0, c.guard_count-count.type_inv)

pub overflow_add-number-in-guards : goal.overflow_add-number-in-guards
overflow_add-number-in-guards g c =
    let (later, h) = c.requires.here in
    let may = may_here (g.W.Words.comes c.guards.words) c.guards.invariant.valid (here_on h (c.guards.invariant.leads later h)) in
    let count : c.guard_count-count.result ≡ guards c.guards.post.layout.config = c.guard_count-count.ensures ∙ ap guards c.config.ensures ∙ ap (λ (layout : Layout). guards layout.config) (sym c.guards.invariant.layout) in
    omega (arith, count, may.ready.1.0, c.guard_count-count.type_inv)

pub returns-then-number-count-clause-same : goal.returns-then-number-count-clause-same
returns-then-number-count-clause-same g c = g.W.Words.same_on _ _ _ c.guards.invariant.same c.read_guard.ensures.same

pub returns-then-number-count-clause-room : goal.returns-then-number-count-clause-room
returns-then-number-count-clause-room g c = c.read_guard.ensures.room

pub returns-then-number-count-clause-layout : goal.returns-then-number-count-clause-layout
returns-then-number-count-clause-layout g c = ap (λ (post : Post). post.layout) c.read_guard.ensures.post ∙ c.guards.invariant.layout

pub returns-then-number-count-clause-standing : goal.returns-then-number-count-clause-standing
returns-then-number-count-clause-standing g c = ap (λ (post : Post). post.standing) c.read_guard.ensures.post ∙ c.guards.invariant.standing

pub returns-then-number-count-clause-turns : goal.returns-then-number-count-clause-turns
returns-then-number-count-clause-turns g c = λ later h.
    let post : Post = c.read_guard.new.post in
    let number = c.guards.number in
    let layout : post.layout ≡ c.args.post.now.layout = ap (λ (p : Post). p.layout) c.read_guard.ensures.post ∙ c.guards.invariant.layout in
    let count : c.guard_count-count.result ≡ guards post.layout.config = c.guard_count-count.ensures ∙ ap guards c.config.ensures ∙ ap (λ (l : Layout). guards l.config) (sym layout) in
    let n = guards post.layout.config in
    let last : number + 1 ≡ n = c.if-number-count.true ∙ count in
    let over : nat_lt (number + 1) n ≡ false = grind (arith, nat_tests) in
    let y = c.guards.invariant.leads later h in
    then_turns y (turns_as _ _ (reads_last later number post (desk_of c.read_guard.new.desk) (nat_lt (number + 1) n) over) (c.read_guard.ensures.turns later (here_on h y)))

pub guards-preserved : goal.guards-preserved
guards-preserved g c =
    let post : Post = c.read_guard.new.post in
    let number = c.guards.number in
    let layout : post.layout ≡ c.args.post.now.layout = ap (λ (p : Post). p.layout) c.read_guard.ensures.post ∙ c.guards.invariant.layout in
    let count : c.guard_count-count.result ≡ guards post.layout.config = c.guard_count-count.ensures ∙ ap guards c.config.ensures ∙ ap (λ (l : Layout). guards l.config) (sym layout) in
    let n = guards post.layout.config in
    let (later0, h0) = c.requires.here in
    let may = may_here (g.W.Words.comes c.guards.words) c.guards.invariant.valid (here_on h0 (c.guards.invariant.leads later0 h0)) in
    let old : guards c.guards.post.layout.config ≡ n = ap (λ (p : Post). guards p.layout.config) (sym c.read_guard.ensures.post) in
    let below : number < guards c.guards.post.layout.config = may.ready.1.0 in
    let left : number + 1 < n = omega (arith, old, below, count, c.if-number-count.false) in
    let more : nat_lt (number + 1) n ≡ true = grind (arith, nat_tests) in
    record {
      valid = c.read_guard.ensures.valid;
      later = c.read_guard.ensures.later;
      same = g.W.Words.same_on _ _ _ c.guards.invariant.same c.read_guard.ensures.same;
      rest = omega (arith, c.guards.invariant.rest, c.read_guard.ensures.rest);
      room = c.read_guard.ensures.room;
      layout = layout;
      standing = ap (λ (p : Post). p.standing) c.read_guard.ensures.post ∙ c.guards.invariant.standing;
      leads = λ later h.
          let y = c.guards.invariant.leads later h in
          then_leads y (leads_as _ _ (reads_on later number post c.read_guard.new.desk (nat_lt (number + 1) n) more) (c.read_guard.ensures.turns later (here_on h y)).leads);
    }
