-- Follow the next link of the head's row: once the link is protected, the head is loaded again.
use Rattle.std.specs.Prelude.{ℕ, ◌==◌, ◌+◌, if◌then◌else◌, List, [], ◌∷◌}
use Rattle.wfe_defs.specs.declared.event.Event.{Event}
use Rattle.wfe_defs.specs.declared.event.Event.TheVariants as events
use Rattle.wfe_defs.specs.declared.event.Root.{Root}
use Rattle.wfe_core.specs.declared.ends.FollowEnd.TheVariants as follow_ends
use Rattle.wfe_core.specs.declared.ends.ProtectEnd.{ProtectEnd}
use Rattle.wfe_core.specs.declared.ends.ProtectEnd.TheVariants as protect_ends
use Rattle.wfe_core.specs.declared.post.Post.{Post}
use Rattle.wfe_core.specs.Links.{parent_of}
use Rattle.wfe_core.specs.Phases.{Follows, Base, Outcome, Goes, Ends, Turn, goes, ends}
use Rattle.wfe_core.specs.Phases.Base.{Protect, Reload}
use Rattle.wfe_core.specs.Phases.Ending.{Protected, Followed}
use Rattle.wfe_core.specs.Posts.{with_row}

-- Load the head again: where it is still the parent's link, the row is held from here on.
abbrev pub after_reload : ℕ → ℕ → ℕ → ℕ → Post → ℕ → Turn
after_reload parent index slot n post found =
    if found == parent + 1
    then ends (with_row post index slot) (events.Held index slot n ∷ []) (Followed (follow_ends.Followed slot))
    else ends post [] (Followed (follow_ends.RootMoved found))

-- a protection that is followed, as one that is not
abbrev pub following : Base → Base
following (Protect aim index root steps at) = Protect Follows index root steps at
following base = base

-- the end of the protection: the head is loaded again, or there is no next row
abbrev pub follow_end : ℕ → Root → ℕ → Post → List Event → ProtectEnd → Turn
follow_end index root n post told (protect_ends.Held slot era) = goes post told (Reload (parent_of root) index slot era n)
follow_end index root n post told protect_ends.Null = ends post told (Followed follow_ends.NoNext)

abbrev pub follow_by : ℕ → Root → ℕ → Post → List Event → Outcome → Turn
follow_by index root n post told (Goes base) = goes post told (following base)
follow_by index root n post told (Ends (Protected ending)) = follow_end index root n post told ending
follow_by index root n post told (Ends ending) = ends post told ending

-- the turn of a follow, from its n-th step, the turn of the protection
abbrev pub follow_turn : ℕ → Root → ℕ → Turn → Turn
follow_turn index root n turn = follow_by index root n turn.post turn.told turn.outcome
