-- The bar of a mark as it is shown.
use Rattle.std.proofs.Common.{ℕ, ◌≡◌, List, sym, subst, inl}
use Rattle.std.proofs.lemmas.List.Elements.{All-weaker}
use Rattle.wfe_draw_lives.specs.declared.bar.Bar.{Bar}
use Rattle.wfe_draw_page.specs.Pages.{IsPage, IsShownOf, PutsMark, Shown}
use Rattle.wfe_draw_page.specs.Within.{AddsFrame, Fits, Spans}
use Rattle.wfe_draw_page.specs.declared.grid.Grid.{Grid}
use Rattle.wfe_draw_page.specs.declared.mark.Mark.{Mark}
use Rattle.wfe_draw_page.proofs.Frames.{own-or-frame}

pub shown-of : (grid : Grid) (bars : List Bar) (mark : Mark) (old new : List ℕ) → (put : PutsMark old new mark) → Fits grid bars mark → IsShownOf bars grid.before grid.columns put.shown
shown-of grid bars mark old new put fit = record {
  bar = mark.bar;
  shade = put.shade;
  among = inl (record { place = fit.place; is = fit.among });
  spans = λ part. subst (Spans grid.before grid.columns mark.bar) (sym put.frame) (fit.spans part);
}

-- it is of the first bars, or of the frame that was appended to them
pub shown-before : (old new : List Bar) (before columns : ℕ) → AddsFrame old new → (s : Shown) → IsShownOf new before columns s → IsShownOf old before columns s
shown-before old new before columns adds s shown = record {
  bar = shown.bar;
  shade = shown.shade;
  among = own-or-frame old new shown.bar adds shown.among;
  spans = shown.spans;
}

pub page-before : (old new : List Bar) (before columns : ℕ) (text : List ℕ) → AddsFrame old new → IsPage new before columns text → IsPage old before columns text
page-before old new before columns text adds page = record {
  width = page.width;
  height = page.height;
  style = page.style;
  shown = page.shown;
  are = page.are;
  plain = page.plain;
  within = page.within;
  labels = page.labels;
  of = All-weaker (IsShownOf new before columns) (IsShownOf old before columns) (shown-before old new before columns adds) page.shown page.of;
}
