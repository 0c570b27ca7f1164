-- That each call ends, whatever other seats do: its steps left fall at each step of its own, and rise at no step of another.
use Rattle.std.specs.Prelude.{ℕ, ◌≡◌, ◌≤◌, ◌<◌, ◌+◌, ◌^◌, ◌==◌, true, false}
use Rattle.inv_ends.specs.model.Rest.{rest}
use Rattle.inv_ends.specs.model.World.{World, step, is_busy}
use Rattle.inv_all.specs.Inv.{Inv}

pub record CallsEnd (w : World) (i : ℕ) : Type 0 where
  -- a step that does not end its call leaves it fewer
  pub falls : is_busy (step w i) i ≡ true → rest (step w i) i + 1 ≤ rest w i
  -- it leaves no other call more
  pub stays : (k : ℕ) → (k == i) ≡ false → rest (step w i) k ≤ rest w k
  -- and no call has more left than this
  pub few : (k : ℕ) → rest w k < 2 ^ 62

abbrev pub InvEnds : Type 0
InvEnds = (w : World) (i : ℕ) → i < w.layout.config.seats → Inv w → CallsEnd w i
