-- The calls of threads on one table, each seat's in its own order, are in one order in which a map and a queue, used by one call after another,
-- give the same answers; and what they leave is what the closed table shows. No history is in it.
use Rattle.std.specs.Prelude.{List, [], if◌then◌else◌, map, ℕ, ◌<◌, ◌==◌, ◌∷◌, ◌≡◌}
use Rattle.law_all.specs.inv.model.Locals.{Group}
use Rattle.law_all.specs.inv.model.defs.declared.call.Answer.{Answer}
use Rattle.law_all.specs.inv.model.defs.declared.call.Call.{Call}
use Rattle.law_all.specs.inv.model.words.declared.config.Config.{Config}
use Rattle.law_all.specs.laws.StructuresAt.{numbered_from}
use Rattle.law_all.specs.RunLaw.{AtClose, bucket_in, log_in}
use Rattle.law_linear.specs.Object.{Object}
use Rattle.law_linear.specs.Order.{Made, Serves, first_state, state_after}
use Rattle.law_linear.specs.Points.{timeless}

-- a call and its answer, with nothing in it of the clock
abbrev pub Answering : Type 0
Answering = Call × Answer

abbrev pub answer_of : Group → Answering
answer_of group = (group.call, timeless group.answer)

-- those of an order that seat k made
abbrev pub made_by : ℕ → List Made → List Answering
made_by k [] = []
made_by k (made ∷ later) = if k == made.seat then (made.call, made.answer) ∷ made_by k later else made_by k later

-- a closed table shows the object: each bucket, and the values that wait, with their numbers
pub record Shows (c : Config) (now : Object) (closed : AtClose) : Type 0 where
  pub buckets : (b : ℕ) → b < c.buckets → bucket_in b closed ≡ now.bucket b
  pub queue : closed.queue ≡ numbered_from now.taken now.waiting

pub record RunOrder (c : Config) (logs : List (List Group)) (closed : AtClose) : Type 0 where
  pub order : List Made
  -- the object, called in this order, may give these answers
  pub serves : Serves c first_state order
  -- each seat's calls are there, in their order, and no others
  pub calls : (k : ℕ) → made_by k order ≡ map answer_of (log_in logs k)
  -- what they leave is what the table shows
  pub shows : Shows c (state_after c first_state order).object closed
