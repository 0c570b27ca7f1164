-- What a turn leaves of a seat, by its answer.
use Rattle.std.proofs.Common.{List, ap, refl, true, ◌∙◌, ◌≡◌}
use Rattle.std.specs.Prelude.{None, Option, Some}
use Rattle.wfe_core.specs.defs.declared.call.Answer.{Answer}
use Rattle.wfe_core.specs.defs.declared.event.Event.{Event}
use Rattle.wfe_core.specs.Calls.{Answers, CallOutcome, CallTurn, GoesOn, Phase}
use Rattle.wfe_core.specs.Locals.{busy_in}
use Rattle.wfe_core.specs.declared.desk.Desk.{Desk as HeldDesk}
use Rattle.wfe_core.specs.declared.post.Post.{Post}
use Rattle.wfe_drive_cells.specs.Unit.{Leaves, SeatView, answer_in, phase_after}

-- without an answer the call goes on
goes_by : (outcome : CallOutcome) (phase : Phase) → None ≡ answer_in outcome → phase ≡ phase_after outcome → ((next : Phase) → outcome ≡ GoesOn next → busy_in next ≡ true) → busy_in phase ≡ true
goes_by (GoesOn next) phase a e g = ap busy_in e ∙ g next refl
goes_by (Answers answer) phase a e g = absurd (cc)

pub goes_busy : (t : CallTurn) (post : Post) (held : HeldDesk) (told : List Event) (answer : Option Answer) (phase : Phase) → answer ≡ None → Leaves t post held told answer phase
    → ((next : Phase) → t.outcome ≡ GoesOn next → busy_in next ≡ true) → busy_in phase ≡ true
goes_busy t post held told None phase e l g = goes_by t.outcome phase l.answer_is (ap (λ (v : SeatView). v.phase) l.seat_is) g
goes_busy t post held told (Some answer) phase e l g = absurd (cc)
