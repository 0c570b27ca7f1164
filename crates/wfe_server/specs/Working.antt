-- What a worker makes of its seat: the calls of its script in their order, and their events.
use Rattle.std.specs.Prelude.{List, [], map, ℕ, ◌++◌, ◌≡◌, ◌∷◌}
use Rattle.wfe_table.specs.all.RunLaw.{call_made, events_of, events_of_all}
use Rattle.wfe_core.specs.Locals.{Group}
use Rattle.wfe_core.specs.defs.declared.call.Call.{Call}
use Rattle.wfe_core.specs.defs.declared.event.Event.{Event}
use Rattle.wfe_table.specs.rule.Views.{Track, seat_of}

-- the seat made one call, and the events of that call were added
pub record IsCalled (buckets : ℕ) (old : Track) (call : Call) (new : Track) (before after : List Event) : Type 0 where
  pub group : Group
  pub grows : new.local.log ≡ old.local.log ++ group ∷ []
  pub call_is : group.call ≡ call
  pub told : after ≡ before ++ events_of buckets group
  pub seat : seat_of new ≡ seat_of old

-- the seat made the calls of the script, and these are their events
pub record IsWorked (buckets : ℕ) (old : Track) (script : List Call) (new : Track) (events : List Event) : Type 0 where
  pub log : List Group
  pub grows : new.local.log ≡ old.local.log ++ log
  pub calls : map call_made log ≡ script
  pub told : events ≡ events_of_all buckets log
  pub seat : seat_of new ≡ seat_of old
