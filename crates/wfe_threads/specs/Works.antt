-- When a worker may make calls on a table.
use Rattle.std.specs.Prelude.{◌<◌, ◌≡◌}
use Rattle.wfe_table.specs.Public.{IsOf, TableNow}
use Rattle.wfe_threads.specs.declared.worker.Worker.{Worker}

-- its seat is one of the table, which has an index for a version that is kept, and it has a place for a box at each of the table's rows
abbrev pub WorksOn : Worker → TableNow → Type 0
WorksOn worker shared = IsOf worker.seat shared × (worker.boxes.slots ≡ shared.layout.config.slots) × (3 < shared.layout.config.indexes)
