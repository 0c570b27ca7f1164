-- What a history says of one seat: its state in the World to which the history comes, and what its operation finds there.
use Rattle.std.specs.Prelude.{Bool, List, false, true, ℕ, ◌<◌, ◌≡◌}
use Rattle.wfe_core.specs.words.Place.{is_valid}
use Rattle.wfe_core.specs.defs.declared.call.Call.{Call}
use Rattle.wfe_core.specs.defs.declared.call.Call.TheVariants as names
use Rattle.wfe_core.specs.Locals.{Local}
use Rattle.wfe_core.specs.World.{finds, offered}
use Rattle.law_reuse.specs.history.History.{Item, world_of}

-- by the call its seat leaves the table
abbrev pub departs : Call → Bool
departs names.Leave = true
departs call = false

-- a history of a table with a valid setting comes to a World in which one of the table's seats is at this state
pub record Comes (l : Local) : Type 0 where
  pub items : List Item
  pub valid : is_valid l.post.layout ≡ true
  pub below : l.post.seat < l.post.layout.config.seats
  pub stands : (world_of l.post.layout items).seat l.post.seat ≡ l

-- in such a World the seat's operation finds this
pub record Given (l : Local) (n : ℕ) : Type 0 where
  pub comes : Comes l
  pub found : n ≡ finds (world_of l.post.layout comes.items) l.post.seat

-- the seat as it makes its step there, with the list that it may take over
abbrev pub lent : {l : Local} {n : ℕ} → Given l n → Local
lent {l = l} g = offered (world_of l.post.layout g.comes.items) l.post.seat
