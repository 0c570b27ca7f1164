-- The bars that the entries of a record leave.
use Rattle.std.specs.Prelude.{◌≡◌, ◌++◌, ◌∷◌, ℕ, Bool, true, false, nat_eq, List, [], Option, All, IfSome, IsTrue, flat_map}
use Rattle.indexmap.specs.IndexMap.{get}
use Rattle.model_record.specs.Record.{Past}
use Rattle.wfe_draw_lives.specs.Lives.{Lived, Lives}
use Rattle.wfe_draw_lives.specs.declared.bar.Bar.{Bar}
use Rattle.wfe_draw_lives.specs.declared.bar.Lane.{Lane}
use Rattle.wfe_draw_lives.specs.declared.bar.Lane.TheVariants as lanes
use Rattle.wfe_draw_lives.specs.declared.bar.Moment.{Moment}
use Rattle.wfe_draw_lives.specs.declared.bar.Shade.{Shade}
use Rattle.wfe_draw_lives.specs.declared.bar.Shade.TheVariants as shades
use Rattle.wfe_draw_lives.specs.declared.scene.Scene.{Scene}
use Rattle.wfe_draw_lives.specs.declared.standing.Standing.{Standing}

-- the lane of some row
abbrev pub is_row : Lane → Bool
is_row (lanes.Row slot) = true
is_row lane = false

abbrev pub OfNoRow : Bar → Type 0
OfNoRow bar = is_row bar.lane ≡ false

-- nothing that stands, and no bar that ended, is in the lane of a row
pub record HasNoRow (standing : Standing) : Type 0 where
  pub now : (place : ℕ) → IfSome (get nat_eq standing.now place) OfNoRow
  pub bars : All OfNoRow standing.bars.items

-- the colours of the parts of a life
abbrev pub is_part : Shade → Bool
is_part shades.InHand = true
is_part shades.Linked = true
is_part shades.Cut = true
is_part shades.Waits = true
is_part shade = false

-- a part of a life of the row, that ends there
pub record IsPart (slot : ℕ) (to : Option Moment) (bar : Bar) : Type 0 where
  pub lane : bar.lane ≡ lanes.Row slot
  pub part : IsTrue (is_part bar.shade)
  pub ends : bar.to ≡ to

-- Bars of a row that lie end to end, from the last, which ends at the first moment, to the first, which begins at the second.
abbrev pub EndToEnd : ℕ → Option Moment → List Bar → Option Moment → Type 0
EndToEnd slot to [] from = to ≡ from
EndToEnd slot to (bar ∷ more) from = IsPart slot to bar × EndToEnd slot bar.from more from

-- such bars were appended
pub record Adds (slot : ℕ) (to from : Option Moment) (old new : List Bar) : Type 0 where
  pub parts : List Bar
  pub are : new ≡ old ++ parts
  pub chain : EndToEnd slot to parts from

-- a line from a row to the guard that keeps it
abbrev pub IsLine : Bar → Type 0
IsLine bar = bar.shade ≡ shades.Keeps

-- none or some were appended
pub record AddsLine (old new : List Bar) : Type 0 where
  pub lines : List Bar
  pub are : new ≡ old ++ lines
  pub rest : All IsLine lines

-- The bars of one life of a row: parts that lie end to end from where it begins to where it ends, and lines.
pub record DrawsLife (p : Past) (bars : List Bar) : Type 0 where
  pub slot : ℕ
  pub given : Option Moment
  pub back : Option Moment
  pub life : Lives p slot given back
  pub parts : List Bar
  pub lines : List Bar
  pub are : bars ≡ parts ++ lines
  pub chain : EndToEnd slot back parts given
  pub rest : All IsLine lines

-- The bars are those of lives of rows, life after life, and before them bars of no row.
pub record Draws (p : Past) (bars : List Bar) : Type 0 where
  pub others : List Bar
  pub lives : List (List Bar)
  pub are : bars ≡ others ++ flat_map (λ (life : List Bar). life) lives
  pub none : All OfNoRow others
  pub each : All (DrawsLife p) lives

-- what is kept is what the entries leave
pub record Shows (scene : Scene) (p : Past) : Type 0 where
  pub rows : Lived scene.rows p
  pub none : HasNoRow scene.standing
