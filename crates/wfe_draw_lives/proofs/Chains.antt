-- The bars of lives, from their parts.
use Rattle.std.proofs.Common.{ℕ, ◌≡◌, ◌∙◌, List, [], ◌∷◌, ◌++◌, Option, refl, sym, ap, subst, All, append-nil, append_assoc}
use Rattle.std.proofs.lemmas.List.{flat_map_more}
use Rattle.std.proofs.lemmas.List.Elements.{All-push}
use Rattle.model_record.specs.Record.{Past}
use Rattle.wfe_draw_lives.specs.Lives.{IsLife}
use Rattle.wfe_draw_lives.specs.Scenes.{Adds, AddsLine, Draws, DrawsLife, EndToEnd}
use Rattle.wfe_draw_lives.specs.declared.bar.Bar.{Bar}
use Rattle.wfe_draw_lives.specs.declared.bar.Moment.{Moment}
use Rattle.wfe_draw_lives.specs.declared.life.Life.{Life}

joined : (slot : ℕ) (a b c : Option Moment) (xs ys : List Bar) → EndToEnd slot a xs b → EndToEnd slot b ys c → EndToEnd slot a (xs ++ ys) c
joined slot a b c [] ys one two = subst (λ m. EndToEnd slot m ys c) (sym one) two
joined slot a b c (x ∷ xs) ys (here, one) two = (here, joined slot x.from b c xs ys one two)

-- no part, and one
pub adds-none : (slot : ℕ) (to : Option Moment) (old : List Bar) → Adds slot to to old old
adds-none slot to old = record { parts = []; are = sym (append-nil old); chain = refl }

-- parts, and then the parts before them
pub adds-then : (slot : ℕ) (a b c : Option Moment) (x y z : List Bar) → Adds slot a b x y → Adds slot b c y z → Adds slot a c x z
adds-then slot a b c x y z one two = record {
  parts = one.parts ++ two.parts;
  are = two.are ∙ ap (λ l. l ++ two.parts) one.are ∙ append_assoc x one.parts two.parts;
  chain = joined slot a b c one.parts two.parts one.chain two.chain;
}

-- one life more
pub draws-more : (p : Past) (life : Life) (x y z : List Bar) → IsLife p life → Adds life.slot life.back life.given x y → AddsLine y z → Draws p x → Draws p z
draws-more p life x y z is parts line before =
    let whole : List Bar = parts.parts ++ line.lines in
    let drawn : DrawsLife p whole = record {
      slot = life.slot;
      given = life.given;
      back = life.back;
      life = is;
      parts = parts.parts;
      lines = line.lines;
      are = refl;
      chain = parts.chain;
      rest = line.rest;
    } in
    record {
      others = before.others;
      lives = before.lives ++ whole ∷ [];
      are =
          line.are
          ∙ ap (λ l. l ++ line.lines) parts.are
          ∙ append_assoc x parts.parts line.lines
          ∙ ap (λ l. l ++ whole) before.are
          ∙ flat_map_more (λ (bars : List Bar). bars) before.others before.lives whole;
      none = before.none;
      each = All-push (DrawsLife p) before.lives whole before.each drawn;
    }
