-- What stands at the indexes of a seat is what its steps tell: Held, Copied and Clear, each where it happens.
use Rattle.std.specs.Prelude.{Bool, false, true, ℕ, ◌==◌, ◌&&◌, ◌+◌, ◌≡◌, ◌≤◌, ◌<◌, Option, Some, None}
use Rattle.inv_rows.specs.defs.declared.event.Root.{Root}
use Rattle.inv_rows.specs.defs.declared.event.Root.TheVariants as roots
use Rattle.inv_rows.specs.model.Phases.ProtectAt.{CheckClock, CheckUpper, TakeAnswer, ByHazard}
use Rattle.inv_rows.specs.model.Phases.HazardAt.{CheckLink}
use Rattle.inv_rows.specs.model.declared.post.Post.{Post}
use Rattle.inv_rows.specs.model.Phases.{ProtectAt, Base}
use Rattle.inv_rows.specs.Covering.Held.{leads, Held, Holds}
use Rattle.inv_rows.specs.model.Posts.{upper, stands}
use Rattle.inv_rows.specs.model.Phases.Base.{Protect, Reload}
use Rattle.inv_rows.specs.model.Calls.{KeepAt, LoadHeld, StoreHeld, Work, Keeping, Phase, Runs, Works}
use Rattle.inv_rows.specs.model.Rounds.{scheme_of}
use Rattle.inv_rows.specs.model.World.{World, finds, told_in, step}
use Rattle.std.specs.List.{list_any}
use Rattle.inv_rows.specs.defs.Events.{is_held}
use Rattle.inv_rows.specs.Shapes.Seats.{Seats}
use Rattle.inv_rows.specs.Shapes.Slots.{Slots}
use Rattle.inv_rows.specs.words.Place.{is_valid}
use Rattle.inv_rows.specs.words.Schemes.{has_one_interval}
use Rattle.inv_rows.specs.words.declared.config.Config.{Config}
use Rattle.inv_rows.specs.Covering.Rests.{Rests}
use Rattle.inv_rows.specs.Rows.{View}
use Rattle.inv_rows.specs.model.Guards.{own_guard}
use Rattle.inv_ends.specs.Stands.{is_clear, is_copied, stood}

-- the row of a next link stands only once the head was loaded again
abbrev pub is_end : Root → Bool
is_end (roots.Bucket bucket) = true
is_end roots.Head = true
is_end roots.Tail = true
is_end (roots.Next parent) = false

-- a step that found this makes a row stand: it concludes a try whose era is the clock, takes an answer, finds the link again that is
-- published, or finds the head where it was
abbrev pub holds_at : Post → Root → ProtectAt → ℕ → ℕ → Bool
holds_at post root (CheckClock era tries link) found s = (found == era) && (is_end root && leads link s)
holds_at post root (TakeAnswer link era) found s = is_end root && leads link s
holds_at post root (CheckUpper link) found s = (found == upper post.span) && (is_end root && leads link s)
holds_at post root (ByHazard (CheckLink link)) found s = (found == link) && (is_end root && leads link s)
holds_at post root at found s = false

abbrev pub holds_base : Post → Base → ℕ → ℕ → ℕ → Bool
holds_base post (Protect aim index root steps at) found j s = (index == j) && holds_at post root at found s
holds_base post (Reload parent index slot era steps) found j s = (index == j) && ((found == parent + 1) && (slot == s))
holds_base post base found j s = false

abbrev pub holds_in : Post → Phase → ℕ → ℕ → ℕ → Bool
holds_in post (Runs why base) found j s = holds_base post base found j s
holds_in post phase found j s = false

-- a step tells that a row stands exactly where it makes it stand
abbrev pub HeldTold : Type 0
HeldTold = (w : World) (i j s : ℕ) → list_any (is_held j s) (told_in w i) ≡ holds_in (w.seat i).post (w.seat i).phase (finds w i) j s

-- the row stands from that step on
abbrev pub HeldStands : Type 0
HeldStands = (w : World) (i j s : ℕ) → Seats w → list_any (is_held j s) (told_in w i) ≡ true → stands ((step w i).seat i).post j ≡ Some s

-- so the guard of the index covers it, where guards cover what stands
abbrev pub HeldCovered : Type 0
HeldCovered =
    (w : World) (i j s : ℕ) (v : View)
    → Seats w
    → Held (step w i) v
    → list_any (is_held j s) (told_in w i) ≡ true
    → Holds (step w i) v (own_guard w.layout.config.scheme i j) s

-- this row stands there
abbrev pub is_row : (s : ℕ) → Option ℕ → Bool
is_row s None = false
is_row s (Some slot) = slot == s

-- a step makes what stands at one index stand at another too: under 2GE the one step of a copy, and else its second
abbrev pub copies_at : Post → KeepAt → (f j s : ℕ) → Bool
copies_at post (LoadHeld from index) f j s = has_one_interval (scheme_of post) && ((from == f) && ((index == j) && is_row s (stands post from)))
copies_at post (StoreHeld from index era) f j s = (from == f) && ((index == j) && is_row s (stands post from))
copies_at post at f j s = false

abbrev pub copies_work : Post → Work → (f j s : ℕ) → Bool
copies_work post (Keeping at) f j s = copies_at post at f j s
copies_work post work f j s = false

abbrev pub copies_in : Post → Phase → (f j s : ℕ) → Bool
copies_in post (Works work) f j s = copies_work post work f j s
copies_in post phase f j s = false

-- a step tells that a row is copied exactly where it copies it
abbrev pub CopiedTold : Type 0
CopiedTold = (w : World) (i f j s : ℕ) → list_any (is_copied f j s) (told_in w i) ≡ copies_in (w.seat i).post (w.seat i).phase f j s

-- a copy goes upwards, from an index at which rows stand between calls, and the row stands at both
pub record CopyStands (config : Config) (before after : Post) (f j s : ℕ) : Type 0 where
  pub kept : 2 ≤ f
  pub rises : f < j
  pub below : j < config.indexes
  pub was : stands before f ≡ Some s
  pub still : stands after f ≡ Some s
  pub now : stands after j ≡ Some s

-- so it is from that step on
abbrev pub CopiedStands : Type 0
CopiedStands =
    (w : World) (i f j s : ℕ)
    → is_valid w.layout ≡ true
    → Seats w
    → Slots w
    → list_any (is_copied f j s) (told_in w i) ≡ true
    → CopyStands w.layout.config (w.seat i).post ((step w i).seat i).post f j s

-- and the guard of the index that it is copied to covers it
abbrev pub CopiedCovered : Type 0
CopiedCovered =
    (w : World) (i f j s : ℕ) (v : View)
    → is_valid w.layout ≡ true
    → Seats w
    → Slots w
    → Held (step w i) v
    → list_any (is_copied f j s) (told_in w i) ≡ true
    → Holds (step w i) v (own_guard w.layout.config.scheme i j) s

-- what is told to stand no more stood before the step
abbrev pub ClearStood : Type 0
ClearStood = (w : World) (i j s : ℕ) → Seats w → list_any (is_clear j s) (told_in w i) ≡ true → stands (w.seat i).post j ≡ Some s

-- at each index stands what was told last of it
abbrev pub StandingTold : Type 0
StandingTold = (w : World) (i j : ℕ) → is_valid w.layout ≡ true → Seats w → Slots w → Rests w → stands ((step w i).seat i).post j ≡ stood (told_in w i) (stands (w.seat i).post j) j
