-- Three steps: the birth era, the retire era, and the store of both.
use Rattle.wfe_drive_words.specs.drive_cells.Unit.{SeatView}
use Rattle.wfe_core.specs.Desks.{Desk}
use Rattle.wfe_core.specs.defs.declared.call.Answer.{Answer}
use Rattle.std.proofs.Common.{ap, arith, refl, sym, ◌<◌, ◌^◌, ℕ}
use Rattle.wfe_core.specs.Calls.{Retires, Runs}
use Rattle.wfe_core.specs.DeskHeld.{desk_of}
use Rattle.wfe_core.specs.Phases.Base.{Retire}
use Rattle.wfe_core.specs.Phases.RetireAt.{LoadLife, LoadRetire, StoreRetired}
use Rattle.wfe_core.specs.Ready.{EraFits}
use Rattle.wfe_core.specs.declared.post.Post.{Post}
use Rattle.wfe_drive_words.specs.Path.{stepped}
use Rattle.wfe_drive_runs.specs.Pieces.{seat_of}
use Rattle.wfe_drive_words.proofs.Leading.{few_here, here_on, leads_as, then_leads}
use Rattle.wfe_drive_runs.proofs.Turning.{asks_seat, may_here, then_turns, turns_as, turns_once, bumped, stored}
use Rattle.wfe_drive_runs.proofs.retirement.store_life.Goals as goal

-- the states before the second and the third step, from that before the first
module _ (answer : Answer) (post : Post) (desk : Desk) (slot : ℕ) where
  abbrev first : SeatView
  first = seat_of (Runs (Retires answer) (Retire (LoadLife slot))) post desk

  abbrev second : (birth : ℕ) → SeatView
  second birth = seat_of (Runs (Retires answer) (Retire (LoadRetire slot birth))) (stepped post) desk

  abbrev third : (birth retire : ℕ) → SeatView
  third birth retire = seat_of (Runs (Retires answer) (Retire (StoreRetired slot birth retire))) (stepped (stepped post)) desk

pub step-retire-requires-clause-asks : goal.step-retire-requires-clause-asks
step-retire-requires-clause-asks g c =
    let (answer, h) = c.requires.here in
    let post : Post = c.args.post.now in
    let desk = desk_of c.args.desk.now in
    let x0 = c.step-word.ensures.steps _ (asks_seat (first answer post desk c.args.slot) h refl c.load_life.ensures) in
    let y0 = leads_as _ _ (ap (second answer post desk c.args.slot) (sym c.birth_of-birth.ensures)) x0.leads in
    (_, asks_seat (second answer post desk c.args.slot c.birth_of-birth.result) (here_on h y0) refl c.load_clock.ensures)

pub overflow_cast-retire : goal.overflow_cast-retire
overflow_cast-retire g c =
    let (answer, h) = c.requires.here in
    let post : Post = c.args.post.now in
    let desk = desk_of c.args.desk.now in
    let x0 = c.step-word.ensures.steps _ (asks_seat (first answer post desk c.args.slot) h refl c.load_life.ensures) in
    let y0 = leads_as _ _ (ap (second answer post desk c.args.slot) (sym c.birth_of-birth.ensures)) x0.leads in
    let x1 = c.step-retire.ensures.steps _ (asks_seat (second answer post desk c.args.slot c.birth_of-birth.result) (here_on h y0) refl c.load_clock.ensures) in
    let fits : EraFits c.step-retire.result = x1.take.plausible in
    omega (arith, fits.1)

pub step-requires-clause-asks : goal.step-requires-clause-asks
step-requires-clause-asks g c =
    let (answer, h) = c.requires.here in
    let post : Post = c.args.post.now in
    let desk = desk_of c.args.desk.now in
    let x0 = c.step-word.ensures.steps _ (asks_seat (first answer post desk c.args.slot) h refl c.load_life.ensures) in
    let y0 = leads_as _ _ (ap (second answer post desk c.args.slot) (sym c.birth_of-birth.ensures)) x0.leads in
    let a1 = asks_seat (second answer post desk c.args.slot c.birth_of-birth.result) (here_on h y0) refl c.load_clock.ensures in
    let x1 = c.step-retire.ensures.steps _ a1 in
    (_, asks_seat (third answer post desk c.args.slot c.birth_of-birth.result c.step-retire.result) (here_on a1.here x1.leads) refl c.store_lifetime.ensures)

pub overflow_add-post : goal.overflow_add-post
overflow_add-post g c =
    let (answer, h) = c.requires.here in
    let few : c.args.post.now.steps < 2 ^ 62 = few_here (g.W.Words.comes c.args.words.now) c.requires.valid h refl in
    omega (arith, few)

pub add-requires-clause-row : goal.add-requires-clause-row
add-requires-clause-row g c = omega (arith, c.requires.slot, c.requires.room.slots)

pub add-requires-clause-apart : goal.add-requires-clause-apart
add-requires-clause-apart g c =
    let (answer, h) = c.requires.here in
    (may_here (g.W.Words.comes c.args.words.now) c.requires.valid h).ready.1

pub returns-clause-same : goal.returns-clause-same
returns-clause-same g c = g.W.Words.same_on _ _ _ (g.W.Words.same_on _ _ _ c.step-word.ensures.same c.step-retire.ensures.same) c.step.ensures.same

pub returns-clause-turns : goal.returns-clause-turns
returns-clause-turns g c = λ answer h.
    let post : Post = c.args.post.now in
    let desk = desk_of c.args.desk.now in
    let x0 = c.step-word.ensures.steps _ (asks_seat (first answer post desk c.args.slot) h refl c.load_life.ensures) in
    let y0 = leads_as _ _ (ap (second answer post desk c.args.slot) (sym c.birth_of-birth.ensures)) x0.leads in
    let a1 = asks_seat (second answer post desk c.args.slot c.birth_of-birth.result) (here_on h y0) refl c.load_clock.ensures in
    let x1 = c.step-retire.ensures.steps _ a1 in
    let last = third answer post desk c.args.slot c.birth_of-birth.result c.step-retire.result in
    let x2 = c.step.ensures.steps _ (asks_seat last (here_on a1.here x1.leads) refl c.store_lifetime.ensures) in
    then_turns (then_leads y0 x1.leads) (turns_as _ _ (stored answer post desk (record { slot = c.args.slot; birth = c.birth_of-birth.result; retire = c.step-retire.result }) c.saturating_add-post.result (bumped post.retired c.saturating_add-post.result (omega arith) c.saturating_add-post.ensures)) (turns_once last x2))
