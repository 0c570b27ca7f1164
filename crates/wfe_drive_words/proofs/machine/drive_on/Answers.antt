-- Each operation is the one that the call's state asks for, whichever state that is.
use Rattle.std.proofs.Common.{rules, List, ℕ, ap, ◌∙◌}
use Rattle.wfe_core.specs.declared.op.Op.{Op}
use Rattle.wfe_core.specs.Calls.{Phase}
use Rattle.wfe_core.specs.Locals.{Local}
use Rattle.wfe_drive_cells.specs.Unit.{SeatView}
use Rattle.wfe_drive_words.specs.Called.{Here, at_phase}
use Rattle.wfe_drive_words.specs.Readiness.{MayTake}
use Rattle.wfe_drive_words.proofs.Makes.{asks_at, here_after, makes_answer, makes_more, makes_none, may_ask_at, takes_at, took_busy}
use Rattle.wfe_drive_words.proofs.machine.drive_on.Goals as goal
use Rattle.wfe_drive_cells.specs.Spots.{located}

pub loop-answer-init : goal.loop-answer-init
loop-answer-init g c =
    let at : Local → Type 0 = g.W.Words.at c.args.words.now in
    let stands : List (Op × ℕ) → Type 0 = g.W.Words.stands c.args.words.now in
    let seat : SeatView = at_phase (g.M.CallMachine.phase c.args.machine c.args.post.now) c.args.post.now c.args.desk.now in
    let h : Here at seat = c.requires.here in
    record {
      valid = c.requires.valid;
      same = g.W.Words.same_self c.args.words.now;
      here = h;
      busy = c.requires.busy;
      ready = may_ask_at h.local seat (g.W.Words.comes c.args.words.now h.local c.requires.valid h.there) h.is;
      suits = c.requires.suits;
      room = c.requires.room;
      made = makes_none at stands seat;
    }

pub perform-found-requires-clause-asks : goal.perform-found-requires-clause-asks
perform-found-requires-clause-asks g c =
    let seat : SeatView = at_phase (g.M.CallMachine.phase c.loop-answer.machine c.loop-answer.post) c.loop-answer.post c.loop-answer.desk in
    let i = c.loop-answer.invariant in
    asks_at (g.W.Words.at c.loop-answer.words) seat c.of-at.result i.here i.busy (c.of-at.ensures ∙ ap (located c.loop-answer.post.layout) c.next_op-op.ensures)

pub take-requires-clause-plausible : goal.take-requires-clause-plausible
take-requires-clause-plausible g c =
    let seat : SeatView = at_phase (g.M.CallMachine.phase c.loop-answer.machine c.loop-answer.post) c.loop-answer.post c.loop-answer.desk in
    let i = c.loop-answer.invariant in
    let m : MayTake seat c.perform-found.result =
    takes_at (g.W.Words.at c.loop-answer.words) (g.W.Words.at c.perform-found.new.self) seat c.of-at.result c.perform-found.result i.here i.busy (c.of-at.ensures ∙ ap (located c.loop-answer.post.layout) c.next_op-op.ensures) c.perform-found.ensures.at in
    m.plausible

pub returns-in-Some-clause-same : goal.returns-in-Some-clause-same
returns-in-Some-clause-same g c = g.W.Words.same_on _ _ _ c.loop-answer.invariant.same c.perform-found.ensures.same

pub returns-in-Some-clause-made : goal.returns-in-Some-clause-made
returns-in-Some-clause-made g c =
    let first : SeatView = at_phase (g.M.CallMachine.phase c.args.machine c.args.post.now) c.args.post.now c.args.desk.now in
    let seat : SeatView = at_phase (g.M.CallMachine.phase c.loop-answer.machine c.loop-answer.post) c.loop-answer.post c.loop-answer.desk in
    let i = c.loop-answer.invariant in
    let s = c.perform-found.ensures in
    let may : MayTake seat c.perform-found.result =
    takes_at (g.W.Words.at c.loop-answer.words) (g.W.Words.at c.perform-found.new.self) seat c.of-at.result c.perform-found.result i.here i.busy (c.of-at.ensures ∙ ap (located c.loop-answer.post.layout) c.next_op-op.ensures) s.at in
    makes_answer (g.W.Words.at c.args.words.now) (g.W.Words.at c.loop-answer.words) (g.W.Words.at c.perform-found.new.self) (g.W.Words.stands c.args.words.now) (g.W.Words.stands c.loop-answer.words) (g.W.Words.stands c.perform-found.new.self)
    first seat c.of-at.result c.perform-found.result c.take.new.post c.take.new.desk c.take.new.told c.in-Some.answer (g.M.CallMachine.phase c.take.new.self c.take.new.post) i.made i.busy may.alone (c.of-at.ensures ∙ ap (located c.loop-answer.post.layout) c.next_op-op.ensures) s.at s.stands c.in-Some.ensures.took

pub loop-answer-preserved : goal.loop-answer-preserved
loop-answer-preserved g c =
    let first : SeatView = at_phase (g.M.CallMachine.phase c.args.machine c.args.post.now) c.args.post.now c.args.desk.now in
    let seat : SeatView = at_phase (g.M.CallMachine.phase c.loop-answer.machine c.loop-answer.post) c.loop-answer.post c.loop-answer.desk in
    let before : Local → Type 0 = g.W.Words.at c.loop-answer.words in
    let later : Local → Type 0 = g.W.Words.at c.perform-found.new.self in
    let i = c.loop-answer.invariant in
    let s = c.perform-found.ensures in
    let took = c.in_default.ensures.took in
    let phase : Phase = g.M.CallMachine.phase c.take.new.self c.take.new.post in
    let may : MayTake seat c.perform-found.result = takes_at before later seat c.of-at.result c.perform-found.result i.here i.busy (c.of-at.ensures ∙ ap (located c.loop-answer.post.layout) c.next_op-op.ensures) s.at in
    let h = here_after before later seat c.of-at.result c.perform-found.result c.take.new.post c.take.new.desk c.take.new.told phase i.here i.busy may.alone (c.of-at.ensures ∙ ap (located c.loop-answer.post.layout) c.next_op-op.ensures) s.at took in
    record {
      valid = s.valid;
      same = g.W.Words.same_on _ _ _ i.same s.same;
      here = h;
      busy = took_busy seat c.perform-found.result c.take.new.post c.take.new.desk c.take.new.told phase may took;
      ready = may_ask_at h.local (at_phase phase c.take.new.post c.take.new.desk) (g.W.Words.comes c.perform-found.new.self h.local s.valid h.there) h.is;
      suits = search rules;
      room = c.in_default.ensures.room;
      made = makes_more (g.W.Words.at c.args.words.now) before later (g.W.Words.stands c.args.words.now) (g.W.Words.stands c.loop-answer.words) (g.W.Words.stands c.perform-found.new.self)
          first seat c.of-at.result c.perform-found.result c.take.new.post c.take.new.desk c.take.new.told phase i.made i.busy may.alone (c.of-at.ensures ∙ ap (located c.loop-answer.post.layout) c.next_op-op.ensures) s.at s.stands took;
    }
