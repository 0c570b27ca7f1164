-- Each step is the protection's, and is followed.
use Rattle.std.proofs.Common.{ap, arith, refl, rules, ◌<◌, ◌^◌, ◌≡◌, ◌∙◌}
use Rattle.wfe_core.specs.Calls.{Runs, Why}
use Rattle.wfe_core.specs.DeskHeld.{desk_of}
use Rattle.wfe_core.specs.Desks.{Desk, Notes, noting}
use Rattle.wfe_core.specs.Follow.{following}
use Rattle.wfe_core.specs.Phases.{Base}
use Rattle.wfe_core.specs.declared.desk.Desk.{Desk as HeldDesk}
use Rattle.wfe_drive_words.specs.fast.Phases.{protect_phase}
use Rattle.wfe_drive_words.specs.drive_cells.Unit.{SeatView}
use Rattle.wfe_drive_words.specs.Called.{at_phase}
use Rattle.wfe_drive_words.specs.Path.{stepped}
use Rattle.wfe_drive_runs.proofs.Followings.{follow_ended, follow_went, op_follows, plausible_follows, ready_follows, stays_next}
use Rattle.wfe_drive_words.proofs.Leading.{few_here, here_on, leads_as, leads_none, then_leads}
use Rattle.wfe_drive_runs.proofs.Readying.{plausible_stepped, ready_stepped, valid_stepped}
use Rattle.wfe_drive_runs.proofs.Turning.{asks_seat, may_here}
use Rattle.wfe_drive_words.specs.drive_cells.Spots.{located}
use Rattle.wfe_drive_runs.proofs.followed_run.run_followed.Goals as goal

pub loop-end-init : goal.loop-end-init
loop-end-init g c =
    let (why, h) = c.requires.here in
    let may = may_here (g.W.Words.comes c.args.words.now) c.requires.valid h in
    record {
      valid = c.requires.valid;
      later = c.requires.later;
      same = g.W.Words.same_self c.args.words.now;
      rest = omega arith;
      room = c.requires.room;
      layout = refl;
      alone = c.requires.of;
      here = c.requires.here;
      own = may.valid;
      ready = ready_follows (protect_phase c.args.machine) c.args.post.now c.requires.of may.ready.0;
      noted = may.noted;
      leads = λ why h. leads_none (g.W.Words.at c.args.words.now) (g.W.Words.stands c.args.words.now) (at_phase (Runs why (following (protect_phase c.args.machine))) c.args.post.now c.args.desk.now);
    }

pub step-found-requires-clause-asks : goal.step-found-requires-clause-asks
step-found-requires-clause-asks g c =
    let (why, h) = c.loop-end.invariant.here in
    let base : Base = protect_phase c.loop-end.machine in
    (_, asks_seat (at_phase (Runs why (following base)) c.loop-end.post c.loop-end.desk) h refl (c.of-at.ensures ∙ ap (located c.loop-end.post.layout) (op_follows base c.loop-end.post c.loop-end.invariant.alone c.next_op-op.ensures)))

pub overflow_add-post : goal.overflow_add-post
overflow_add-post g c =
    let (why, h) = c.loop-end.invariant.here in
    let few : c.loop-end.post.steps < 2 ^ 62 = few_here (g.W.Words.comes c.loop-end.words) c.loop-end.invariant.valid h refl in
    omega (arith, few)

pub take-ended-requires-clause-valid : goal.take-ended-requires-clause-valid
take-ended-requires-clause-valid g c = valid_stepped c.loop-end.post c.loop-end.invariant.own

pub take-ended-requires-clause-ready : goal.take-ended-requires-clause-ready
take-ended-requires-clause-ready g c = ready_stepped (protect_phase c.loop-end.machine) c.loop-end.post c.loop-end.invariant.ready

pub take-ended-requires-clause-plausible : goal.take-ended-requires-clause-plausible
take-ended-requires-clause-plausible g c =
    let (why, h) = c.loop-end.invariant.here in
    let base : Base = protect_phase c.loop-end.machine in
    let asks = asks_seat (at_phase (Runs why (following base)) c.loop-end.post c.loop-end.desk) h refl (c.of-at.ensures ∙ ap (located c.loop-end.post.layout) (op_follows base c.loop-end.post c.loop-end.invariant.alone c.next_op-op.ensures)) in
    plausible_stepped base c.loop-end.post c.step-found.result (plausible_follows base c.loop-end.post c.step-found.result c.loop-end.invariant.alone (c.step-found.ensures.steps _ asks).take.plausible)

pub loop-end-preserved : goal.loop-end-preserved
loop-end-preserved g c =
    let base : Base = protect_phase c.loop-end.machine in
    let next : Base = protect_phase c.take-ended.new.self in
    let alone = c.loop-end.invariant.alone in
    let desk : Desk = desk_of c.loop-end.desk in
    let left : HeldDesk = record c.loop-end.desk { notes = c.note_all.new.self } in
    let noted : desk_of left ≡ noting desk c.take-ended.new.told = ap (λ (notes : Notes). let d : Desk = record desk { notes = notes } in d) c.note_all.ensures.notes in
    let is : (why : Why) → _ ≡ at_phase (Runs why (following next)) c.take-ended.new.post left = λ why.
    follow_went why c.args._parent base next (stepped c.loop-end.post) c.take-ended.new.post c.step-found.result desk c.take-ended.new.told left alone c.in_default.ensures.outcome c.take-ended.ensures.post c.take-ended.ensures.told noted in
    let (why, h) = c.loop-end.invariant.here in
    let now : SeatView = at_phase (Runs why (following base)) c.loop-end.post c.loop-end.desk in
    let here = here_on h (leads_as _ _ (is why) (c.step-found.ensures.steps _ (asks_seat now h refl (c.of-at.ensures ∙ ap (located c.loop-end.post.layout) (op_follows base c.loop-end.post alone c.next_op-op.ensures)))).leads) in
    let may = may_here (g.W.Words.comes c.step-found.new.words) c.step-found.ensures.valid here in
    let still = stays_next c.args._parent base next (stepped c.loop-end.post) c.step-found.result alone c.in_default.ensures.outcome in
    record {
      valid = c.step-found.ensures.valid;
      later = c.step-found.ensures.later;
      same = g.W.Words.same_on _ _ _ c.loop-end.invariant.same c.step-found.ensures.same;
      rest = omega (arith, c.loop-end.invariant.rest, c.step-found.ensures.rest);
      room = search rules;
      layout = c.take-ended.ensures.layout ∙ c.loop-end.invariant.layout;
      alone = still;
      here = (why, here);
      own = may.valid;
      ready = ready_follows next c.take-ended.new.post still may.ready.0;
      noted = may.noted;
      leads = λ why h.
          let y = c.loop-end.invariant.leads why h in
          let x = c.step-found.ensures.steps _ (asks_seat (at_phase (Runs why (following base)) c.loop-end.post c.loop-end.desk) (here_on h y) refl (c.of-at.ensures ∙ ap (located c.loop-end.post.layout) (op_follows base c.loop-end.post alone c.next_op-op.ensures))) in
          then_leads y (leads_as _ _ (is why) x.leads);
    }

pub returns-in-Some-clause-follows : goal.returns-in-Some-clause-follows
returns-in-Some-clause-follows g c = λ why h.
    let base : Base = protect_phase c.loop-end.machine in
    let alone = c.loop-end.invariant.alone in
    let desk : Desk = desk_of c.loop-end.desk in
    let left : HeldDesk = record c.loop-end.desk { notes = c.note_all.new.self } in
    let noted : desk_of left ≡ noting desk c.take-ended.new.told = ap (λ (notes : Notes). let d : Desk = record desk { notes = notes } in d) c.note_all.ensures.notes in
    let y = c.loop-end.invariant.leads why h in
    let now : SeatView = at_phase (Runs why (following base)) c.loop-end.post c.loop-end.desk in
    let x = c.step-found.ensures.steps _ (asks_seat now (here_on h y) refl (c.of-at.ensures ∙ ap (located c.loop-end.post.layout) (op_follows base c.loop-end.post alone c.next_op-op.ensures))) in
    follow_ended why c.args._parent c.in-Some.end base (stepped c.loop-end.post) c.take-ended.new.post c.step-found.result desk c.take-ended.new.told left alone c.in-Some.ensures.outcome c.take-ended.ensures.post c.take-ended.ensures.told noted (then_leads y x.leads)

pub returns-in-Some-clause-same : goal.returns-in-Some-clause-same
returns-in-Some-clause-same g c = g.W.Words.same_on _ _ _ c.loop-end.invariant.same c.step-found.ensures.same
