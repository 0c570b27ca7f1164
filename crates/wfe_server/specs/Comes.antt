-- What a run comes to: a history of the table in which each seat has made its script, the events of those calls, and the table's end.
use Rattle.std.specs.Prelude.{List, ◌≡◌}
use Rattle.wfe_table.specs.all.RunLaw.{AtClose, IsRun}
use Rattle.wfe_table.specs.all.RunOrder.{RunOrder}
use Rattle.wfe_table.specs.all.Runs.{AtRest, at_close, logs_of}
use Rattle.wfe_core.specs.defs.declared.call.Call.{Call}
use Rattle.wfe_core.specs.defs.declared.event.Event.{Event}
use Rattle.wfe_core.specs.words.declared.config.Config.{Config}
use Rattle.wfe_core.specs.words.declared.layout.Layout.{Layout}
use Rattle.wfe_server.specs.history.History.{Item, record_of}

abbrev pub layout_by : Config → Layout
layout_by config = record { config = config }

pub record Comes (config : Config) (scripts : List (List Call)) (seats : List (List Event)) (closed : AtClose) : Type 0 where
  -- what the seats and the table show is a run of these scripts, by the law of runs
  pub run : IsRun config scripts seats closed
  -- in one order the calls of all seats are answered as by a map and a queue used by one call after another
  pub order : RunOrder config run.logs closed
  -- a history of the table, at whose end all seats are between calls, has just these calls
  pub items : List Item
  pub at_rest : AtRest (layout_by config) items
  pub logs_are : run.logs ≡ logs_of (layout_by config) items
  -- and the table is what its record says
  pub closed_is : closed ≡ at_close (layout_by config) (record_of (layout_by config) items)
