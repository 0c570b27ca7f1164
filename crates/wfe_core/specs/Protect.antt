-- A protection: its ends, Hazard Eras, and the tries of Wait-Free Eras. It publishes the clock once; then a try loads
-- the link, loads the clock, and is over where the clock has not moved; else it publishes the new era.
use Rattle.std.specs.Prelude.{ℕ, ◌==◌, ◌+◌, ◌-◌, if◌then◌else◌, nat_le, List, [], ◌∷◌}
use Rattle.wfe_words.specs.declared.config.Config.{Config}
use Rattle.wfe_defs.specs.declared.event.Event.{Event}
use Rattle.wfe_defs.specs.declared.event.Event.TheVariants as events
use Rattle.wfe_defs.specs.declared.event.Root.{Root}
use Rattle.wfe_defs.specs.declared.event.Root.TheVariants as roots
use Rattle.wfe_core.specs.declared.ends.FollowEnd.TheVariants as follow_ends
use Rattle.wfe_core.specs.declared.ends.ProtectEnd.{ProtectEnd}
use Rattle.wfe_core.specs.declared.ends.ProtectEnd.TheVariants as protect_ends
use Rattle.wfe_core.specs.declared.post.Post.{Post}
use Rattle.wfe_core.specs.Links.{parent_of}
use Rattle.wfe_core.specs.Phases.{Aim, Alone, Follows, Tries, Endless, Failed, ProtectAt, Turn, goes, ends}
use Rattle.wfe_core.specs.Phases.ProtectAt.{PublishEra, LoadLink, PublishRequest}
use Rattle.wfe_core.specs.Phases.Base.{Protect, Reload}
use Rattle.wfe_core.specs.Phases.Ending.{Protected, Followed}
use Rattle.wfe_core.specs.Posts.{with_row, reserves_index}

-- the link leads to its row, or is null
abbrev pub protect_end : ℕ → ℕ → ProtectEnd
protect_end link era = if link == 0 then protect_ends.Null else protect_ends.Held (link - 1) era

-- what stands once the link was found at an era that was still the clock; the row of a next link stands only when it
-- was followed
abbrev pub held_post : Post → ℕ → Root → ℕ → Post
held_post post index (roots.Next parent) link = post
held_post post index (roots.Bucket bucket) link = if link == 0 then post else with_row post index (link - 1)
held_post post index roots.Head link = if link == 0 then post else with_row post index (link - 1)
held_post post index roots.Tail link = if link == 0 then post else with_row post index (link - 1)

-- what is told then, in the n-th step of the protection
abbrev pub told_held : ℕ → Root → ℕ → ℕ → List Event
told_held index (roots.Next parent) link n = if link == 0 then events.Null index n ∷ [] else []
told_held index (roots.Bucket bucket) link n = if link == 0 then events.Null index n ∷ [] else events.Held index (link - 1) n ∷ []
told_held index roots.Head link n = if link == 0 then events.Null index n ∷ [] else events.Held index (link - 1) n ∷ []
told_held index roots.Tail link n = if link == 0 then events.Null index n ∷ [] else events.Held index (link - 1) n ∷ []

-- the protection is over; where it is followed, the head is loaded again
abbrev pub concluded : Aim → ℕ → Root → ℕ → ℕ → ℕ → Post → List Event → Turn
concluded Alone index root n link era post told = ends post told (Protected (protect_end link era))
concluded Follows index root n link era post told =
    if link == 0
    then ends post told (Followed follow_ends.NoNext)
    else goes post told (Reload (parent_of root) index (link - 1) era n)

-- the link was found at an era that was still the clock
abbrev pub protected : Aim → ℕ → Root → ℕ → ℕ → ℕ → Post → Turn
protected aim index root n link era post =
    concluded aim index root n link era (held_post post index root link) (told_held index root link n)

-- one try more has failed; Hazard Eras count none
abbrev pub failed_once : Tries → Tries
failed_once Endless = Endless
failed_once (Failed count) = Failed (count + 1)

-- after an era was published: a try, or the slow path once the tries are used up
abbrev pub trying : Config → ℕ → Tries → ProtectAt
trying config era Endless = LoadLink era Endless
trying config era (Failed count) = if nat_le config.tries count then PublishRequest else LoadLink era (Failed count)

-- 1. Load the clock.
abbrev pub after_load_clock : Aim → ℕ → Root → ℕ → Tries → Post → ℕ → Turn
after_load_clock aim index root n tries post found = goes post [] (Protect aim index root n (PublishEra found tries))

-- 2 and 5. Store the era into the index word.
abbrev pub after_publish_era : Aim → ℕ → Root → ℕ → ℕ → Tries → Post → Turn
after_publish_era aim index root n era tries post =
    goes post (reserves_index post index era) (Protect aim index root n (trying post.layout.config era tries))

-- 3. Load the link.
abbrev pub after_load_link : Aim → ℕ → Root → ℕ → ℕ → Tries → Post → ℕ → Turn
after_load_link aim index root n era tries post found = goes post [] (Protect aim index root n (ProtectAt.CheckClock era tries found))

-- 4. Load the clock again: it ends where the clock is still that era, else the new era is to be published.
abbrev pub after_check_clock : Aim → ℕ → Root → ℕ → ℕ → Tries → ℕ → Post → ℕ → Turn
after_check_clock aim index root n era tries link post found =
    if found == era
    then protected aim index root n link era post
    else goes post [] (Protect aim index root n (PublishEra found (failed_once tries)))
