use Rattle.std.proofs.Common.{◌≡◌, ◌∙◌, ◌<◌, ◌++◌, ◌∷◌, [], List, All, codes, length, refl, ap, arith, sym, inl, append-nil, append_assoc}
use Rattle.std.proofs.lemmas.List.Elements.{All-get_or, All-nil, All-push}
use Rattle.wfe_draw_page.specs.Pages.{IsShown, IsShownOf, Shown, all_text, shown_text}
use Rattle.wfe_draw_page.specs.Within.{Fits, IsWithin, width_of}
use Rattle.wfe_draw_page.proofs.Plains.{page_plain}
use Rattle.wfe_draw_page.proofs.Texts.{all-more, page-text}
use Rattle.wfe_draw_page.proofs.Marks.{shown-of}
use Rattle.wfe_draw_page.proofs.page.page_of.Goals as goal

pub loop-mark-init : goal.loop-mark-init
loop-mark-init c bars fits =
    let none : List Shown = [] in
    (none, All-nil (λ s. IsWithin (width_of c.args.grid.now) c.args.grid.now.height s.frame), All-nil IsShown, All-nil (IsShownOf bars c.args.grid.now.before c.args.grid.now.columns), sym (append-nil c.in_ok-page.page.items))

pub loop-mark-preserved : goal.loop-mark-preserved
loop-mark-preserved c bars fits =
    let grid = c.args.grid.now in
    let (shown, within, are, of, text) = c.loop-mark.invariant bars fits in
    let put = c.in_ok-put_mark.ensures in
    let lt : c.loop-mark.mark-index < length c.args.marks.now = omega arith in
    let fit = All-get_or (Fits grid bars) c.args.marks.now c.loop-mark.mark-index _ lt fits in
    let inside : IsWithin (width_of grid) grid.height put.shown.frame = rw put.frame fit.within in
    let one : IsShownOf bars grid.before grid.columns put.shown = shown-of grid bars _ _ _ put fit in (
      shown ++ put.shown ∷ [],
      All-push (λ s. IsWithin (width_of grid) grid.height s.frame) shown put.shown within inside,
      All-push IsShown shown put.shown are put.is,
      All-push (IsShownOf bars grid.before grid.columns) shown put.shown of one,
      put.text ∙ ap (λ t. t ++ shown_text put.shown) text ∙ append_assoc c.in_ok-page.page.items (all_text shown) (shown_text put.shown) ∙ ap (λ t. c.in_ok-page.page.items ++ t) (sym (all-more shown put.shown)),
    )

pub returns : goal.returns
returns c bars fits =
    let grid = c.args.grid.now in
    let (shown, within, are, of, text) = c.loop-mark.invariant bars fits in
    let begun = c.in_ok-page.ensures in
    record {
      width = width_of grid;
      height = grid.height;
      style = begun.style;
      shown = shown;
      are = c.in_ok-put.ensures ∙ ap (λ t. t ++ codes "</svg>\n") (text ∙ ap (λ t. t ++ all_text shown) begun.are) ∙ page-text (width_of grid) grid.height begun.style shown;
      plain = page_plain (width_of grid) grid.height begun.style shown begun.plain are;
      within = within;
      labels = are;
      of = of;
    }
