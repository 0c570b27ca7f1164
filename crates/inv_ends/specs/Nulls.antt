-- Where a step tells Null: the link that a try has checked, that an answer has, or that is loaded where it is published, is null.
use Rattle.std.specs.Prelude.{Bool, false, ℕ, ◌==◌, ◌&&◌, ◌≡◌}
use Rattle.inv_rows.specs.model.Phases.ProtectAt.{CheckClock, CheckUpper, TakeAnswer, ByHazard}
use Rattle.inv_rows.specs.model.Phases.HazardAt.{FirstLink, PublishLink, CheckLink}
use Rattle.inv_rows.specs.model.declared.post.Post.{Post}
use Rattle.inv_rows.specs.model.Phases.{HazardAt, ProtectAt, Base}
use Rattle.inv_rows.specs.model.Posts.{upper}
use Rattle.inv_rows.specs.model.Phases.Base.{Protect}
use Rattle.inv_rows.specs.model.Calls.{Phase, Runs}
use Rattle.inv_rows.specs.model.World.{World, finds, told_in}
use Rattle.std.specs.List.{list_any}
use Rattle.inv_rows.specs.defs.Events.{is_null}

-- the link that is loaded is null
abbrev pub null_hazard : HazardAt → ℕ → Bool
null_hazard FirstLink found = found == 0
null_hazard (PublishLink link) found = false
null_hazard (CheckLink link) found = found == 0

-- the link of a try whose era is the clock, or of the answer, or that a reload finds, is null
abbrev pub null_at : Post → ProtectAt → ℕ → Bool
null_at post (CheckClock era tries link) found = (found == era) && (link == 0)
null_at post (TakeAnswer link era) found = link == 0
null_at post (CheckUpper link) found = (found == upper post.span) && (link == 0)
null_at post (ByHazard at) found = null_hazard at found
null_at post at found = false

abbrev pub null_base : Post → Base → ℕ → ℕ → Bool
null_base post (Protect aim index root steps at) found j = (index == j) && null_at post at found
null_base post base found j = false

abbrev pub null_in : Post → Phase → ℕ → ℕ → Bool
null_in post (Runs why base) found j = null_base post base found j
null_in post phase found j = false

-- a step tells Null exactly where the link that it decides by is null
abbrev pub NullTold : Type 0
NullTold = (w : World) (i j : ℕ) → list_any (is_null j) (told_in w i) ≡ null_in (w.seat i).post (w.seat i).phase (finds w i) j
