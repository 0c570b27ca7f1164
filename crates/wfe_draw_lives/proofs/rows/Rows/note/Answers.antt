use Rattle.std.proofs.Common.{◌≡◌, sym, subst, inl, inr}
use Rattle.std.proofs.lemmas.Result.{on_ok_weaker}
use Rattle.model_record.specs.Record.{Past}
use Rattle.model_record.specs.Record.Past.{Then}
use Rattle.wfe_draw_lives.specs.Lives.{Lived}
use Rattle.wfe_draw_lives.proofs.Growing.{all-over, open-more, plain}
use Rattle.wfe_draw_lives.proofs.rows.Rows.note.Goals as goal

pub returns-in-Give : goal.returns-in-Give
returns-in-Give c p lived number =
    on_ok_weaker c.give.result (λ now. subst (λ event. Lived c.give.new.self (Then p c.args.seat event)) (sym c.in-Give.is) now) (c.give.ensures p c.args.seat c.in-Give.birth lived number)

pub returns-in-Unused : goal.returns-in-Unused
returns-in-Unused c p lived number = c.free.ensures p c.args.seat c.args.event.now lived number c.in-Unused.is

pub returns-in_default : goal.returns-in_default
returns-in_default c p lived number =
    on_ok_weaker c.note_within.result
    (λ now. record {
      now = open-more p (Then p c.args.seat c.args.event.now) _ (plain p c.args.seat c.args.event.now c.in_default.not-Give c.in_default.not-Unused c.in_default.not-Back) now.now;
      ended = all-over p c.args.seat c.args.event.now _ now.ended;
    }) (c.note_within.ensures p lived)
