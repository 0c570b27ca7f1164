-- What a call's machine took of a step is what the turn leaves of its seat.
use Rattle.std.proofs.Common.{List, ap, sym, ◌++◌, ◌∙◌, ◌≡◌}
use Rattle.std.specs.Prelude.{None, Option, Some}
use Rattle.wfe_core.specs.defs.declared.call.Answer.{Answer}
use Rattle.wfe_core.specs.defs.declared.event.Event.{Event}
use Rattle.wfe_core.specs.Calls.{CallOutcome, CallTurn, Phase}
use Rattle.wfe_core.specs.DeskHeld.{Leads, Took, desk_of, told_answer}
use Rattle.wfe_core.specs.Desks.{Desk, noting}
use Rattle.wfe_core.specs.Locals.{told_by, told_end}
use Rattle.wfe_core.specs.declared.desk.Desk.{Desk as HeldDesk}
use Rattle.wfe_core.specs.declared.post.Post.{Post}
use Rattle.wfe_drive_cells.specs.Unit.{Leaves, SeatView, answer_in, kept_desk, phase_after, phase_left}

-- End is told where the call has an answer
end-answer : (post : Post) (outcome : CallOutcome) (answer : Option Answer) (phase : Phase) → Leads outcome answer phase → told_answer post answer ≡ told_end post outcome
end-answer post outcome None phase e = ap (told_end post) (sym e)
end-answer post outcome (Some answer) phase e = ap (told_end post) (sym e)

answer-in : (outcome : CallOutcome) (answer : Option Answer) (phase : Phase) → Leads outcome answer phase → answer ≡ answer_in outcome
answer-in outcome None phase e = ap answer_in (sym e)
answer-in outcome (Some answer) phase e = ap answer_in (sym e)

phase-left : (outcome : CallOutcome) (answer : Option Answer) (phase : Phase) → Leads outcome answer phase → phase_left answer phase ≡ phase_after outcome
phase-left outcome None phase e = ap phase_after (sym e)
phase-left outcome (Some answer) phase e = ap phase_after (sym e)

pub leaves : (t : CallTurn) (post : Post) (held : HeldDesk) (told : List Event) (answer : Option Answer) (phase : Phase) → Took t post held told answer phase → Leaves t post held told answer phase
leaves t post held told answer phase k =
    let words : told ≡ told_by t = k.told_is ∙ ap (λ (p : Post). t.told ++ told_answer p answer) k.post_is ∙ ap (λ (l : List Event). t.told ++ l) (end-answer t.post t.outcome answer phase k.outcome_is) in
    let desk : desk_of held ≡ kept_desk (noting t.desk (told_by t)) = ap kept_desk (k.desk_is ∙ ap (noting t.desk) words) in
    let next : phase_left answer phase ≡ phase_after t.outcome = phase-left t.outcome answer phase k.outcome_is in
    let post_is : post ≡ t.post = k.post_is in
    record {
      seat_is = ap (λ (p : Phase). let v : SeatView = record { phase = p; post = post; desk = desk_of held } in v) next
          ∙ ap (λ (p : Post). let v : SeatView = record { phase = phase_after t.outcome; post = p; desk = desk_of held } in v) post_is
          ∙ ap (λ (d : Desk). let v : SeatView = record { phase = phase_after t.outcome; post = t.post; desk = d } in v) desk;
      told_is = words;
      answer_is = answer-in t.outcome answer phase k.outcome_is;
    }
