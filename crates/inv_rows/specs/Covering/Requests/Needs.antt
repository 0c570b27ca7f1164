-- What the part on requests takes from other parts at the World before a step.
use Rattle.std.specs.Prelude.{ℕ, ◌≡◌, ◌≤◌, ◌+◌, Bool, true, nat_le}
use Rattle.inv_rows.specs.words.Place.{has}
use Rattle.inv_rows.specs.words.declared.config.Config.{Config}
use Rattle.inv_rows.specs.defs.declared.event.Root.{Root}
use Rattle.inv_rows.specs.model.Links.{link_place}
use Rattle.inv_rows.specs.model.Calls.{Why, Opens, FollowsHead, Phase, Idle, Runs, Scans, Works}
use Rattle.inv_rows.specs.model.World.{World}

-- the head's row, whose next link is followed, is one of the table's
abbrev pub head_fits : Config → Why → Bool
head_fits c (Opens task) = true
head_fits c (FollowsHead head tail) = nat_le head c.slots
head_fits c why = true

abbrev pub heads_fit : Config → Phase → Bool
heads_fit c Idle = true
heads_fit c (Runs why base) = head_fits c why
heads_fit c (Scans later at) = true
heads_fit c (Works work) = true

pub record Needs (w : World) : Type 0 where
  -- a bucket root, an end of the queue, or the next link of a row is null or leads to a row of the table
  pub links : (root : Root) → has w.layout (link_place root) ≡ true → w.mem (link_place root) ≤ w.layout.config.slots + 1
  -- a head that is followed was such a row
  pub heads : (k : ℕ) → heads_fit w.layout.config (w.seat k).phase ≡ true
