-- Words are plain once each byte that is not is changed.
use Rattle.std.proofs.Common.{ℕ, ◌≡◌, ◌∙◌, ◌&&◌, Bool, true, false, IsTrue, if◌then◌else◌, List, [], ◌∷◌, map, refl, ap, All}
use Rattle.std.proofs.lemmas.List.Elements.{All-head, All-tail}
use Rattle.wfe_draw_page.specs.Markup.{Plain, all_plain, is_plain, plain_of}
use Rattle.wfe_draw_page.specs.Pages.{Shown, IsShown, class_name, mark_content, marks_content, page_content}
use Rattle.wfe_draw_lives.specs.declared.bar.Shade.{Shade}
use Rattle.wfe_draw_lives.specs.declared.bar.Shade.TheVariants as shades

chosen : (b : ℕ) (t : Bool) → is_plain b ≡ t → is_plain (if t then b else 63) ≡ true
chosen b true e = e
chosen b false e = refl

pub plain_plain : (b : ℕ) → is_plain (plain_of b) ≡ true
plain_plain b = chosen b (is_plain b) refl

pub words_plain : (w : List ℕ) → IsTrue (all_plain (map plain_of w))
words_plain [] = refl
words_plain (b ∷ w) = ap (λ t. t && all_plain (map plain_of w)) (plain_plain b) ∙ words_plain w

pub class_plain : (shade : Shade) → IsTrue (all_plain (class_name shade))
class_plain shades.Ground = refl
class_plain shades.Name = refl
class_plain shades.Era = refl
class_plain shades.Move = refl
class_plain shades.Call = refl
class_plain shades.Publishes = refl
class_plain shades.Reads = refl
class_plain shades.Stands = refl
class_plain shades.InHand = refl
class_plain shades.Linked = refl
class_plain shades.Cut = refl
class_plain shades.Waits = refl
class_plain shades.Keeps = refl

-- what is shown is plain, once its words are
pub marks_plain : (shown : List Shown) → All IsShown shown → Plain (marks_content shown)
unfolding mark_content
marks_plain [] is = tt
marks_plain (s ∷ more) is =
    let here = All-head IsShown s more is in (
      (class_plain s.shade, tt),
      (tt, (here.title, tt), ((tt, (tt, (tt, (tt, tt)))), tt, ((tt, (tt, (tt, tt))), (here.label, tt), (refl, tt)))),
      marks_plain more (All-tail IsShown s more is),
    )

pub page_plain : (width height : ℕ) (style : List ℕ) (shown : List Shown) → IsTrue (all_plain style) → All IsShown shown → Plain (page_content width height style shown)
unfolding page_content
page_plain width height style shown e is = ((refl, (tt, (tt, (tt, tt)))), (tt, (e, tt), marks_plain shown is), (refl, tt))
