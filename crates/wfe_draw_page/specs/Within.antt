-- Where bars lie in a picture.
use Rattle.std.specs.Prelude.{ℕ, ◌≡◌, ◌≤◌, ◌+◌, ◌-◌, ◌*◌, ◌++◌, ◌&&◌, ◌||◌, max, min, Bool, true, false, IsTrue, List, Option, None, Some, All, slice_get}
use Rattle.indexmap.specs.IndexMap.{index_map_len}
use Rattle.wfe_draw_lives.specs.Scenes.{is_part, is_row}
use Rattle.wfe_draw_lives.specs.declared.bar.Bar.{Bar}
use Rattle.wfe_draw_lives.specs.declared.bar.Lane.{Lane}
use Rattle.wfe_draw_lives.specs.declared.bar.Lane.TheVariants as lanes
use Rattle.wfe_draw_lives.specs.declared.bar.Moment.{Moment}
use Rattle.wfe_draw_lives.specs.declared.bar.Shade.{Shade}
use Rattle.wfe_draw_lives.specs.declared.bar.Shade.TheVariants as shades
use Rattle.wfe_draw_lives.specs.declared.scene.TheConstants.{MOST_COLUMNS}
use Rattle.wfe_draw_page.specs.declared.grid.Frame.{Frame}
use Rattle.wfe_draw_page.specs.declared.grid.Grid.{Grid}
use Rattle.wfe_draw_page.specs.declared.grid.TheConstants.{COLUMN, EDGE, GAP, LANE, LEFT, LEGEND, MOST_LANES, TOP}
use Rattle.wfe_draw_page.specs.declared.mark.Mark.{Mark}

-- a grid has few columns and lanes, and room for all of them
pub record IsGrid (grid : Grid) : Type 0 where
  pub some : 1 ≤ grid.columns
  pub few : grid.columns ≤ MOST_COLUMNS
  pub lanes : index_map_len grid.lanes ≤ MOST_LANES
  pub tall : grid.height ≡ TOP + LANE * index_map_len grid.lanes + 3 * GAP + EDGE

abbrev pub width_of : Grid → ℕ
width_of grid = max (LEFT + COLUMN * grid.columns + EDGE) LEGEND

-- it lies within a picture of this size
pub record IsWithin (width height : ℕ) (frame : Frame) : Type 0 where
  pub across : frame.x + frame.width ≤ width
  pub down : frame.y + frame.height ≤ height

-- the column of a moment, after so many entries that are not drawn and of so many that are; where there is none the one that is given
abbrev pub column_of : (before columns none : ℕ) → Option Moment → ℕ
column_of before columns none None = none
column_of before columns none (Some moment) = min (moment.number - before - 1) columns

-- it spans the columns from where the bar begins, or the first, to where it ends, or the last
pub record Spans (before columns : ℕ) (bar : Bar) (frame : Frame) : Type 0 where
  pub from : frame.x ≡ LEFT + COLUMN * column_of before columns 0 bar.from
  pub to : frame.x + frame.width ≡ LEFT + COLUMN * column_of before columns columns bar.to

-- the bar is that of a part of a life, in the lane of its row
abbrev pub is_row_part : Bar → Bool
is_row_part bar = is_part bar.shade && is_row bar.lane

-- the mark is of one of the bars
pub record Fits (grid : Grid) (bars : List Bar) (mark : Mark) : Type 0 where
  pub within : IsWithin (width_of grid) grid.height mark.frame
  pub spans : IsTrue (is_row_part mark.bar) → Spans grid.before grid.columns mark.bar mark.frame
  pub place : ℕ
  pub among : slice_get bars place ≡ Some mark.bar

-- a bar is of what a picture has besides the record's: its background, the names of lanes, and the legend
abbrev pub is_page : Lane → Bool
is_page lanes.Page = true
is_page lane = false

abbrev pub is_name : Shade → Bool
is_name shades.Name = true
is_name shade = false

abbrev pub IsFrame : Bar → Type 0
IsFrame bar = IsTrue (is_page bar.lane || is_name bar.shade)

-- such bars were appended
pub record AddsFrame (old new : List Bar) : Type 0 where
  pub more : List Bar
  pub are : new ≡ old ++ more
  pub each : All IsFrame more
