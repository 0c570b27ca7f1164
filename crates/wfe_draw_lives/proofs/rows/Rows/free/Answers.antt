use Rattle.std.proofs.Common.{◌≡◌, ◌∙◌, nat_eq, unwrap_or, ap, subst, sym}
use Rattle.std.proofs.lemmas.Result.{on_ok_weaker}
use Rattle.indexmap.specs.IndexMap.{get}
use Rattle.model_record.specs.Record.Past.{Then}
use Rattle.wfe_draw_lives.specs.Lives.{IsOpen, given_in, number_of}
use Rattle.wfe_draw_lives.proofs.Growing.{all-over, freed-ends, freed-now, here-or}
use Rattle.wfe_draw_lives.proofs.rows.Rows.free.Goals as goal

pub returns : goal.returns
returns c p seat event lived number frees =
    let slot = c.args.slot in
    let life = c.unwrap_or-life.result in
    let same : life ≡ unwrap_or (get nat_eq c.args.self.now.now slot) c.old.result = c.unwrap_or-life.ensures ∙ ap (λ o. unwrap_or o c.old.result) c.swap_remove.ensures.value in
    let (own, told) : (life.slot ≡ slot) × (number_of life.given ≡ given_in slot p) =
    subst (λ l. (l.slot ≡ slot) × (number_of l.given ≡ given_in slot p)) (sym same) (here-or p slot (get nat_eq c.args.self.now.now slot) c.old.result c.old.ensures.slot c.old.ensures.given (lived.now slot)) in
    on_ok_weaker c.end_life.result
    (λ ended. record {
      now = subst (λ rows. (other : _) → IsOpen (Then p seat event) other (get nat_eq rows other)) (sym c.end_life.ensures.now)
          (freed-now p slot seat event (get nat_eq c.args.self.now.now) (get nat_eq c.swap_remove.new.self) c.swap_remove.ensures.updates.0 frees lived.now);
      ended = ended;
    })
    (c.end_life.ensures.ended (Then p seat event) (all-over p seat event c.args.self.now.lives.items lived.ended) (freed-ends p slot seat event c.args.at life number frees own told))
