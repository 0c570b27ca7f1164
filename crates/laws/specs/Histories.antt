-- What the record and the turns of each history keep beyond the laws: from it the laws follow, and in many points it says more. A law
-- asks what its sentences ask, and nothing else; a record that keeps the laws need not be the record of a history.
use Rattle.model_record.specs.Record.{Past}
use Rattle.model_record.specs.Turns.{History}
use Rattle.wfe_words.specs.declared.config.Config.{Config}
use Rattle.laws.specs.HistoryAnswers.{HistoryAnswers}
use Rattle.laws.specs.HistoryEras.{HistoryEras}
use Rattle.laws.specs.HistoryHolds.{HistoryHolds, HistoryStands, LoneLaw}
use Rattle.laws.specs.HistoryRows.{HistoryRows}
use Rattle.laws.specs.HistoryScans.{HistoryScans}
use Rattle.laws.specs.HistorySteps.{HistorySteps}
use Rattle.laws.specs.HistoryTable.{GuardsOfTable, RangeLaw}

pub record Histories (config : Config) (history : History) (r : Past) : Type 0 where
  -- a row is held, and a null link told, only at an index at which nothing stands
  pub alone : LoneLaw r
  -- guards are those of the table, and of its scheme
  pub guards : GuardsOfTable config r
  -- seats, indexes, rows and buckets are those of the table
  pub ranges : RangeLaw config r
  -- which row stands at an index, one at most, and which calls use which indexes
  pub stands : HistoryStands r
  -- a call tells unused only the row in its hand; a row goes back only once it was retired; after a link nothing is missing at the end
  pub rows : HistoryRows config.slots r
  -- what a call has come to in its scans; how few rows are retired
  pub scans : HistoryScans config r
  -- eras in order, and which call may move the clock when
  pub eras : HistoryEras config r
  -- what is held and found where one row stands at an index at most
  pub holds : HistoryHolds config r
  -- the bounds by turns, and who may show an era in a helper word
  pub steps : HistorySteps config history r
  -- all that a call tells of map and queue, and how often it begins anew
  pub answers : HistoryAnswers config r
