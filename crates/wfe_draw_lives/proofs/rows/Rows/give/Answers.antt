use Rattle.std.proofs.Common.{◌≡◌, ◌∙◌, Some, nat_eq, ap, subst, sym}
use Rattle.std.proofs.lemmas.Result.{on_ok_weaker}
use Rattle.indexmap.specs.IndexMap.{get}
use Rattle.model_record.specs.Record.Past.{Then}
use Rattle.wfe_defs.specs.declared.event.Event.TheVariants as events
use Rattle.wfe_draw_lives.specs.Lives.{IsOpen}
use Rattle.wfe_draw_lives.proofs.Growing.{all-over, given-ends, given-now}
use Rattle.wfe_draw_lives.proofs.rows.Rows.give.Goals as goal

pub returns-in-Some : goal.returns-in-Some
returns-in-Some c p seat birth lived number =
    let slot = c.args.slot in
    let event = events.Give slot birth in
    on_ok_weaker c.end_life.result
    (λ ended. record {
      now = subst (λ rows. (other : _) → IsOpen (Then p seat event) other (get nat_eq rows other)) (sym c.end_life.ensures.now)
          (given-now p slot seat birth _ (get nat_eq c.args.self.now.now) (get nat_eq c.insert.new.self) c.in_ok-before.ensures.updates.0 c.old.ensures.slot c.old.ensures.back (ap Some number) lived.now);
      ended = ended;
    })
    (c.end_life.ensures.ended (Then p seat event) (all-over p seat event c.args.self.now.lives.items lived.ended)
    (given-ends p slot seat birth c.args.at c.in-Some.before (get nat_eq c.args.self.now.now slot) number (sym c.in_ok-before.ensures.old ∙ c.in-Some.is) (lived.now slot)))
