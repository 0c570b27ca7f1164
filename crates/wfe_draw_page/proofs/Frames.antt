-- The bars of a picture's frame beside those of the record.
use Rattle.std.proofs.Common.{ℕ, Bool, true, false, ◌||◌, ◌≡◌, ◌∙◌, ◌⊎◌, List, [], ◌∷◌, ◌++◌, Option, None, Some, All, slice_get, zero, suc, refl, sym, ap, subst, inl, inr, append-nil, append_assoc}
use Rattle.std.proofs.lemmas.List.Elements.{All-head, All-nil, All-push, All-tail, All-append}
use Rattle.wfe_draw_lives.specs.declared.bar.Bar.{Bar}
use Rattle.wfe_draw_lives.specs.declared.bar.Lane.TheVariants as lanes
use Rattle.wfe_draw_lives.specs.declared.bar.Shade.TheVariants as shades
use Rattle.wfe_draw_page.specs.Pages.{IsOneOf}
use Rattle.wfe_draw_page.specs.Within.{AddsFrame, IsFrame, is_name, is_page}

or-true : (b : Bool) → (b || true) ≡ true
or-true true = refl
or-true false = refl

pub on-page : (bar : Bar) → bar.lane ≡ lanes.Page → IsFrame bar
on-page bar e = ap (λ lane. is_page lane || is_name bar.shade) e

pub named : (bar : Bar) → bar.shade ≡ shades.Name → IsFrame bar
named bar e = ap (λ shade. is_page bar.lane || is_name shade) e ∙ or-true (is_page bar.lane)

pub adds-none : (bars : List Bar) → AddsFrame bars bars
adds-none bars = record { more = []; are = sym (append-nil bars); each = All-nil IsFrame }

pub adds-one : (old now new : List Bar) (bar : Bar) → AddsFrame old now → IsFrame bar → new ≡ now ++ bar ∷ [] → AddsFrame old new
adds-one old now new bar adds is e = record {
  more = adds.more ++ bar ∷ [];
  are = e ∙ ap (λ l. l ++ bar ∷ []) adds.are ∙ append_assoc old adds.more (bar ∷ []);
  each = All-push IsFrame adds.more bar adds.each is;
}

pub adds-both : (a b c : List Bar) → AddsFrame a b → AddsFrame b c → AddsFrame a c
adds-both a b c one two = record {
  more = one.more ++ two.more;
  are = two.are ∙ ap (λ l. l ++ two.more) one.are ∙ append_assoc a one.more two.more;
  each = All-append IsFrame one.more two.more one.each two.each;
}

-- what is at a place of both is a bar of the first, or of the frame

in-frame : (bars : List Bar) (place : ℕ) (bar : Bar) → All IsFrame bars → slice_get bars place ≡ Some bar → IsFrame bar
in-frame [] place bar all e = absurd (cc)
in-frame (b ∷ bars) zero bar all e = let same : b ≡ bar = cc in subst IsFrame same (All-head IsFrame b bars all)
in-frame (b ∷ bars) (suc place) bar all e = in-frame bars place bar (All-tail IsFrame b bars all) e

deeper : (b : Bar) (old : List Bar) (bar : Bar) → IsOneOf old bar ⊎ IsFrame bar → IsOneOf (b ∷ old) bar ⊎ IsFrame bar
deeper b old bar (inl one) = inl (record { place = suc one.place; is = one.is })
deeper b old bar (inr frame) = inr frame

in-either : (old more : List Bar) (place : ℕ) (bar : Bar) → All IsFrame more → slice_get (old ++ more) place ≡ Some bar → IsOneOf old bar ⊎ IsFrame bar
in-either [] more place bar all e = inr (in-frame more place bar all e)
in-either (b ∷ old) more zero bar all e = inl (record { place = zero; is = e })
in-either (b ∷ old) more (suc place) bar all e = deeper b old bar (in-either old more place bar all e)

pub own-or-frame : (old new : List Bar) (bar : Bar) → AddsFrame old new → IsOneOf new bar ⊎ IsFrame bar → IsOneOf old bar ⊎ IsFrame bar
own-or-frame old new bar adds (inl one) = in-either old adds.more one.place bar adds.each (ap (λ l. slice_get l one.place) (sym adds.are) ∙ one.is)
own-or-frame old new bar adds (inr frame) = inr frame
