-- The text of a picture.
use Rattle.std.specs.Prelude.{ℕ, ◌≡◌, ◌⊎◌, ◌≤◌, ◌+◌, ◌*◌, IsTrue, List, [], ◌∷◌, ◌++◌, All, Some, codes, length, slice_get}
use Rattle.std.specs.Fmt.{decimal}
use Rattle.wfe_draw_page.specs.Markup.{Content, Value, Plain, all_plain, onto}
use Rattle.wfe_draw_page.specs.Markup.Content.{Nothing, Words, Element}
use Rattle.wfe_draw_page.specs.Markup.Value.{Word, Numbers}
use Rattle.wfe_draw_page.specs.Within.{IsFrame, IsWithin, Spans, is_row_part}
use Rattle.wfe_draw_lives.specs.declared.bar.Bar.{Bar}
use Rattle.wfe_draw_lives.specs.declared.bar.Shade.{Shade}
use Rattle.wfe_draw_lives.specs.declared.bar.Shade.TheVariants as shades
use Rattle.wfe_draw_page.specs.declared.grid.Frame.{Frame}
use Rattle.wfe_draw_page.specs.declared.mark.Mark.{Mark}

-- the class by which the style gives a colour
abbrev pub class_name : Shade → List ℕ
class_name shades.Ground = codes "ground"
class_name shades.Name = codes "name"
class_name shades.Era = codes "era"
class_name shades.Move = codes "move"
class_name shades.Call = codes "call"
class_name shades.Publishes = codes "publishes"
class_name shades.Reads = codes "reads"
class_name shades.Stands = codes "stands"
class_name shades.InHand = codes "hand"
class_name shades.Linked = codes "linked"
class_name shades.Cut = codes "cut"
class_name shades.Waits = codes "waits"
class_name shades.Keeps = codes "keeps"

-- a bar as it is shown: its colour, where it lies, its title and its label
pub record Shown : Type 0 where
  pub shade : Shade
  pub frame : Frame
  pub title : List ℕ
  pub label : List ℕ

-- its words are plain, and its label, of six pixels a letter, does not overflow it
pub record IsShown (s : Shown) : Type 0 where
  pub title : IsTrue (all_plain s.title)
  pub label : IsTrue (all_plain s.label)
  pub fits : 6 * length s.label ≤ s.frame.width

abbrev pub number : ℕ → Value
number n = Numbers (n ∷ [])

-- a bar by its numbers, before what follows
unfoldable pub mark_content : Shown → Content → Content
mark_content s rest =
    Element (codes "g") ((codes "class", Word (class_name s.shade)) ∷ [])
    (Element (codes "title") [] (Words s.title Nothing)
    (Element (codes "rect") ((codes "x", number s.frame.x) ∷ (codes "y", number s.frame.y) ∷ (codes "width", number s.frame.width) ∷ (codes "height", number s.frame.height) ∷ []) Nothing
    (Element (codes "text") ((codes "x", number (s.frame.x + 3)) ∷ (codes "y", number (s.frame.y + 13)) ∷ (codes "textLength", number (6 * length s.label)) ∷ []) (Words s.label Nothing)
    (Words (codes "\n") Nothing)))) rest

abbrev pub marks_content : List Shown → Content
marks_content [] = Nothing
marks_content (s ∷ more) = mark_content s (marks_content more)

-- a whole picture
unfoldable pub page_content : (width height : ℕ) (style : List ℕ) → List Shown → Content
page_content width height style shown =
    Element (codes "svg") ((codes "xmlns", Word (codes "http://www.w3.org/2000/svg")) ∷ (codes "width", number width) ∷ (codes "height", number height) ∷ (codes "viewBox", Numbers (0 ∷ 0 ∷ width ∷ height ∷ [])) ∷ [])
    (Element (codes "style") [] (Words style Nothing) (marks_content shown))
    (Words (codes "\n") Nothing)

-- it is the bar at some place of the list
pub record IsOneOf (bars : List Bar) (bar : Bar) : Type 0 where
  pub place : ℕ
  pub is : slice_get bars place ≡ Some bar

-- A bar that is shown is one of the list, or of the picture's frame. A part of a life spans the columns from where it begins to where it
-- ends, of as many columns as are drawn, after so many entries that are not.
pub record IsShownOf (bars : List Bar) (before columns : ℕ) (s : Shown) : Type 0 where
  pub bar : Bar
  pub shade : s.shade ≡ bar.shade
  pub among : IsOneOf bars bar ⊎ IsFrame bar
  pub spans : IsTrue (is_row_part bar) → Spans before columns bar s.frame

-- the text is that of a picture of the bars, well formed, in which each bar lies within the picture and each label within its bar
pub record IsPage (bars : List Bar) (before columns : ℕ) (text : List ℕ) : Type 0 where
  pub width : ℕ
  pub height : ℕ
  pub style : List ℕ
  pub shown : List Shown
  pub are : text ≡ onto (page_content width height style shown) []
  pub plain : Plain (page_content width height style shown)
  pub within : All (λ s. IsWithin width height s.frame) shown
  pub labels : All IsShown shown
  pub of : All (IsShownOf bars before columns) shown

-- Pieces of the text, as they are written.

unfoldable pub head_text : Shade → List ℕ
head_text shade = codes "<g class=\"" ++ (class_name shade ++ codes "\"><title>")

unfoldable pub bar_text : Frame → List ℕ
bar_text f =
    (codes "</title><rect x=\"" ++ decimal f.x) ++ ((codes "\" y=\"" ++ decimal f.y) ++ ((codes "\" width=\"" ++ decimal f.width) ++ (codes "\" height=\"" ++ decimal f.height)))

unfoldable pub base_text : Frame → ℕ → List ℕ
base_text f wide =
    (codes "\"></rect><text x=\"" ++ decimal (f.x + 3)) ++ ((codes "\" y=\"" ++ decimal (f.y + 13)) ++ ((codes "\" textLength=\"" ++ decimal wide) ++ codes "\">"))

unfoldable pub size_text : (width height : ℕ) → List ℕ
size_text width height =
    (codes "<svg xmlns=\"http://www.w3.org/2000/svg\" width=\"" ++ decimal width)
    ++ ((codes "\" height=\"" ++ decimal height) ++ ((codes "\" viewBox=\"0 0 " ++ decimal width) ++ ((codes " " ++ decimal height) ++ codes "\"><style>")))

-- a bar's text
unfoldable pub shown_text : Shown → List ℕ
shown_text s = onto (mark_content s Nothing) []

abbrev pub all_text : List Shown → List ℕ
all_text [] = []
all_text (s ∷ more) = shown_text s ++ all_text more

-- a mark was appended
pub record PutsMark (old new : List ℕ) (mark : Mark) : Type 0 where
  pub shown : Shown
  pub frame : shown.frame ≡ mark.frame
  pub shade : shown.shade ≡ mark.bar.shade
  pub is : IsShown shown
  pub text : new ≡ old ++ shown_text shown

-- the text before the marks
pub record Begun (width height : ℕ) (text : List ℕ) : Type 0 where
  pub style : List ℕ
  pub plain : IsTrue (all_plain style)
  pub are : text ≡ size_text width height ++ (style ++ codes "</style>")
