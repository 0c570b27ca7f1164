-- Each step is the machine's, whatever comes after it.
use Rattle.wfe_core.specs.declared.desk.Desk.{Desk as HeldDesk}
use Rattle.std.proofs.Common.{ap, arith, refl, rules, ◌<◌, ◌^◌, ◌≡◌, ◌∙◌}
use Rattle.wfe_core.specs.Calls.{Runs, Why}
use Rattle.wfe_core.specs.DeskHeld.{desk_of}
use Rattle.wfe_core.specs.Desks.{Desk, Notes, noting}
use Rattle.wfe_core.specs.Machine.{after}
use Rattle.wfe_core.specs.Phases.{Base, Turn}
use Rattle.wfe_drive_words.specs.drive_cells.Unit.{SeatView}
use Rattle.wfe_drive_words.specs.Called.{at_phase}
use Rattle.wfe_drive_words.specs.Path.{stepped}
use Rattle.wfe_drive_words.proofs.Leading.{few_here, here_on, leads_as, leads_none, then_leads}
use Rattle.wfe_drive_runs.proofs.Readying.{plausible_stepped, ready_stepped, valid_stepped}
use Rattle.wfe_core.specs.declared.post.Post.{Post}
use Rattle.wfe_drive_runs.proofs.Still.{walk_next, walk_still}
use Rattle.wfe_drive_runs.proofs.Turning.{asks_seat, may_here, run_ended, run_went, then_turns, turns_as, turns_once}
use Rattle.wfe_drive_words.specs.drive_cells.Spots.{located}
use Rattle.wfe_drive_runs.proofs.base_run.run.Goals as goal

pub loop-end-init : goal.loop-end-init
loop-end-init g c =
    let (why, h) = c.requires.here in
    let may = may_here (g.W.Words.comes c.args.words.now) c.requires.valid h in
    record {
      valid = c.requires.valid;
      later = c.requires.later;
      same = g.W.Words.same_self c.args.words.now;
      rest = omega arith;
      room = c.requires.room;
      layout = refl;
      here = c.requires.here;
      own = may.valid;
      walks = λ w. (w, refl);
      ready = may.ready.0;
      noted = may.noted;
      leads = λ why h. leads_none (g.W.Words.at c.args.words.now) (g.W.Words.stands c.args.words.now) (at_phase (Runs why (g.M.Machine.phase c.args.machine)) c.args.post.now c.args.desk.now);
    }

pub step-found-requires-clause-asks : goal.step-found-requires-clause-asks
step-found-requires-clause-asks g c =
    let (why, h) = c.loop-end.invariant.here in
    (_, asks_seat (at_phase (Runs why (g.M.Machine.phase c.loop-end.machine)) c.loop-end.post c.loop-end.desk) h refl (c.of-at.ensures ∙ ap (located c.loop-end.post.layout) c.next_op-op.ensures))

pub overflow_add-post : goal.overflow_add-post
overflow_add-post g c =
    let (why, h) = c.loop-end.invariant.here in
    let few : c.loop-end.post.steps < 2 ^ 62 = few_here (g.W.Words.comes c.loop-end.words) c.loop-end.invariant.valid h refl in
    omega (arith, few)

pub take-ended-requires-clause-valid : goal.take-ended-requires-clause-valid
take-ended-requires-clause-valid g c = valid_stepped c.loop-end.post c.loop-end.invariant.own

pub take-ended-requires-clause-ready : goal.take-ended-requires-clause-ready
take-ended-requires-clause-ready g c = ready_stepped (g.M.Machine.phase c.loop-end.machine) c.loop-end.post c.loop-end.invariant.ready

pub take-ended-requires-clause-plausible : goal.take-ended-requires-clause-plausible
take-ended-requires-clause-plausible g c =
    let (why, h) = c.loop-end.invariant.here in
    let asks = asks_seat (at_phase (Runs why (g.M.Machine.phase c.loop-end.machine)) c.loop-end.post c.loop-end.desk) h refl (c.of-at.ensures ∙ ap (located c.loop-end.post.layout) c.next_op-op.ensures) in
    plausible_stepped (g.M.Machine.phase c.loop-end.machine) c.loop-end.post c.step-found.result (c.step-found.ensures.steps _ asks).take.plausible

pub loop-end-preserved : goal.loop-end-preserved
loop-end-preserved g c =
    let base : Base = g.M.Machine.phase c.loop-end.machine in
    let next : Base = g.M.Machine.phase c.take-ended.new.self in
    let t : Turn = after base (stepped c.loop-end.post) c.step-found.result in
    let desk : Desk = desk_of c.loop-end.desk in
    let left : HeldDesk = record c.loop-end.desk { notes = c.note_all.new.self } in
    let noted : desk_of left ≡ noting desk c.take-ended.new.told = ap (λ (notes : Notes). let d : Desk = record desk { notes = notes } in d) c.note_all.ensures.notes in
    let is : (why : Why) → _ ≡ at_phase (Runs why next) c.take-ended.new.post left = λ why.
    run_went why next t c.take-ended.new.post desk c.take-ended.new.told left c.take-ended.ensures.post c.take-ended.ensures.told c.in_default.ensures.outcome noted in
    let (why, h) = c.loop-end.invariant.here in
    let now : SeatView = at_phase (Runs why base) c.loop-end.post c.loop-end.desk in
    let here = here_on h (leads_as _ _ (is why) (c.step-found.ensures.steps _ (asks_seat now h refl (c.of-at.ensures ∙ ap (located c.loop-end.post.layout) c.next_op-op.ensures))).leads) in
    let may = may_here (g.W.Words.comes c.step-found.new.words) c.step-found.ensures.valid here in
    record {
      valid = c.step-found.ensures.valid;
      later = c.step-found.ensures.later;
      same = g.W.Words.same_on _ _ _ c.loop-end.invariant.same c.step-found.ensures.same;
      rest = omega (arith, c.loop-end.invariant.rest, c.step-found.ensures.rest);
      room = search rules;
      layout = c.take-ended.ensures.layout ∙ c.loop-end.invariant.layout;
      here = (why, here);
      own = may.valid;
      walks = λ w.
          let on = c.loop-end.invariant.walks w in
          let still = walk_still base (stepped c.loop-end.post) c.step-found.result on.0 in
          (walk_next (after base (stepped c.loop-end.post) c.step-found.result).outcome next c.in_default.ensures.outcome still.next, ap (λ (post : Post). post.standing) c.take-ended.ensures.post ∙ still.same ∙ on.1);
      ready = may.ready.0;
      noted = may.noted;
      leads = λ why h.
          let y = c.loop-end.invariant.leads why h in
          let x = c.step-found.ensures.steps _ (asks_seat (at_phase (Runs why base) c.loop-end.post c.loop-end.desk) (here_on h y) refl (c.of-at.ensures ∙ ap (located c.loop-end.post.layout) c.next_op-op.ensures)) in
          then_leads y (leads_as _ _ (is why) x.leads);
    }

pub returns-in-Some-clause-ends : goal.returns-in-Some-clause-ends
returns-in-Some-clause-ends g c = λ why h.
    let base : Base = g.M.Machine.phase c.loop-end.machine in
    let t : Turn = after base (stepped c.loop-end.post) c.step-found.result in
    let desk : Desk = desk_of c.loop-end.desk in
    let y = c.loop-end.invariant.leads why h in
    let now : SeatView = at_phase (Runs why base) c.loop-end.post c.loop-end.desk in
    let x = c.step-found.ensures.steps _ (asks_seat now (here_on h y) refl (c.of-at.ensures ∙ ap (located c.loop-end.post.layout) c.next_op-op.ensures)) in
    record {
      before = desk;
      told = c.take-ended.new.told;
      noted = ap (λ (notes : Notes). let d : Desk = record desk { notes = notes } in d) c.note_all.ensures.notes;
      turns = then_turns y (turns_as _ _ (run_ended why (g.M.Machine.ending c.in-Some.end) t c.take-ended.new.post desk c.take-ended.new.told c.take-ended.ensures.post c.take-ended.ensures.told c.in-Some.ensures.outcome) (turns_once now x));
    }

pub returns-in-Some-clause-same : goal.returns-in-Some-clause-same
returns-in-Some-clause-same g c = g.W.Words.same_on _ _ _ c.loop-end.invariant.same c.step-found.ensures.same

pub returns-in-Some-clause-walks : goal.returns-in-Some-clause-walks
returns-in-Some-clause-walks g c = λ w.
    let on = c.loop-end.invariant.walks w in
    let still = walk_still (g.M.Machine.phase c.loop-end.machine) (stepped c.loop-end.post) c.step-found.result on.0 in
    ap (λ (post : Post). post.standing) c.take-ended.ensures.post ∙ still.same ∙ on.1
