-- What a World that a history comes to gives the code of a seat.
use Rattle.wfe_drive_cells.proofs.Units.{ready_kept}
use Rattle.std.proofs.Common.{ap, arith, false, subst, sym, true, ℕ, ◌+◌, ◌<◌, ◌^◌, ◌∙◌, ◌≡◌}
use Rattle.wfe_core.specs.Calls.{CallTurn}
use Rattle.wfe_core.specs.CallReady.{IsCallPlausible}
use Rattle.wfe_core.specs.Locals.{Local, after, busy_in, stays, turn}
use Rattle.wfe_core.specs.MayStep.{MayStep}
use Rattle.wfe_core.specs.World.{World, finds, is_busy}
use Rattle.laws.specs.AnswerLaw.{suits}
use Rattle.wfe_drive_cells.specs.Unit.{shown, turned, may_adopt}
use Rattle.law_reuse.specs.Heard.{IsCounted}
use Rattle.law_reuse.specs.history.History.{made_of}
use Rattle.law_reuse.proofs.inv.Inv.Reached.{reached_ready}
use Rattle.law_reuse.proofs.shapes.Frame.{seat_steps}
use Rattle.law_reuse.proofs.AnswersTold.Answering.{Keeps, answers_kept, owes_of}
use Rattle.law_reuse.proofs.AnswersTold.Owed.{OutServes}
use Rattle.law_reuse.proofs.Turns.Counted.{histories_count}
use Rattle.wfe_drive_words.specs.Comes.{Comes, Given, lent}
use Rattle.wfe_drive_words.specs.Readiness.{MayAsk, MayTake, Settles}
use Rattle.wfe_drive_words.proofs.Lending.{lent_lone, stays_alone, world}

pub may_step : (l : Local) (c : Comes l) → MayStep (world l c) l.post.seat
may_step l c = reached_ready l.post.layout c.items l.post.seat c.valid c.below

pub busy_there : (l : Local) (c : Comes l) → busy_in l.phase ≡ true → is_busy (world l c) l.post.seat ≡ true
busy_there l c b = ap (λ (k : Local). busy_in k.phase) c.stands ∙ b

pub may_ask : (l : Local) → Comes l → MayAsk (shown l)
may_ask l c =
    let seat : Local = (world l c).seat l.post.seat in
    let m : MayStep (world l c) l.post.seat = may_step l c in
    let there : MayAsk (shown seat) = record { valid = m.valid; ready = ready_kept seat.phase seat.post seat.desk m.ready; noted = m.noted } in
    subst (λ (k : Local). MayAsk (shown k)) c.stands there

-- a fact on what a seat finds in that World is one on what it was given
given_by : (P : Local → ℕ → Type 0) (l : Local) (n : ℕ) (g : Given l n) → P ((world l g.comes).seat l.post.seat) (finds (world l g.comes) l.post.seat) → P l n
given_by P l n g there =
    let c : Comes l = g.comes in
    subst (λ (k : Local). P k n) c.stands (subst (λ (found : ℕ). P ((world l c).seat l.post.seat) found) (sym g.found) there)

pub may_take : (l : Local) (n : ℕ) → Given l n → busy_in l.phase ≡ true → stays l.call ≡ true → MayTake (shown l) n
may_take l n g b s =
    let c : Comes l = g.comes in
    let w : World = world l c in
    let m : MayStep w l.post.seat = may_step l c in
    let k : IsCounted l.post.layout c.items = histories_count l.post.layout c.items c.valid in
    let alone : may_adopt l.phase ≡ false = stays_alone l c b s in
    let same : turn (lent g) (finds w l.post.seat) ≡ turned (shown l) n = ap (turn (lent g)) (sym g.found) ∙ ap (λ (seat : Local). turn seat n) (lent_lone g alone) in
    record {
      plausible = given_by (λ (seat : Local) (found : ℕ). IsCallPlausible seat.phase seat.post found) l n g m.plausible;
      alone = alone;
      goes = λ phase e. k.goes_on l.post.seat phase (busy_there l c b) (ap (λ (t : CallTurn). t.outcome) same ∙ e);
    }

-- what a step counts and answers
pub settles : (l : Local) (n : ℕ) (g : Given l n) → busy_in l.phase ≡ true → Settles l n g
settles l n g b =
    let c : Comes l = g.comes in
    let w : World = world l c in
    let i : ℕ = l.post.seat in
    let k : IsCounted l.post.layout c.items = histories_count l.post.layout c.items c.valid in
    let busy : is_busy w i ≡ true = busy_there l c b in
    let h : Keeps l.post.layout.config.buckets (made_of l.post.layout c.items) = answers_kept l.post.layout c.items c.valid in
    let r = h.seats i in
    let o = owes_of l.post.layout.config.buckets w i h.table h.known (r.serves busy) in
    record {
      counts = ap (λ (found : ℕ). (after (lent g) found).post.steps) g.found ∙ ap (λ (seat : Local). seat.post.steps) (sym (seat_steps w i)) ∙ k.one_more i busy ∙ ap (λ (seat : Local). seat.post.steps + 1) c.stands;
      answers = λ answer e.
          let suited : suits (w.seat i).call answer ≡ true = subst (OutServes (w.seat i).call) (ap (λ (found : ℕ). (turn (lent g) found).outcome) (sym g.found) ∙ e) o.serves in
          subst (λ (seat : Local). suits seat.call answer ≡ true) c.stands suited;
    }

-- a call has few steps
pub few_steps : (l : Local) → Comes l → busy_in l.phase ≡ true → l.post.steps < 2 ^ 62
few_steps l c b =
    let k : IsCounted l.post.layout c.items = histories_count l.post.layout c.items c.valid in
    let few = k.few l.post.seat (busy_there l c b) in
    subst (λ (seat : Local). seat.post.steps < 2 ^ 62) c.stands (omega (few, arith))
