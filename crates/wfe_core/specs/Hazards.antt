-- Hazard pointers (Michael 2004): a protection loads the link, publishes it, and is over where it is still the link.
use Rattle.std.specs.Prelude.{ℕ, ◌==◌, ◌||◌, if◌then◌else◌, true, []}
use Rattle.wfe_defs.specs.declared.event.Root.{Root}
use Rattle.wfe_core.specs.declared.post.Post.{Post}
use Rattle.wfe_core.specs.Phases.{Aim, Turn, goes}
use Rattle.wfe_core.specs.Phases.Base.{Protect}
use Rattle.wfe_core.specs.Phases.HazardAt.{PublishLink, CheckLink}
use Rattle.wfe_core.specs.Phases.ProtectAt.{ByHazard}
use Rattle.wfe_core.specs.Posts.{publishes_index}
use Rattle.wfe_core.specs.Protect.{protected}

-- 1. Load the link: it ends where that is null.
abbrev pub after_first_link : Aim → ℕ → Root → ℕ → Post → ℕ → Turn
after_first_link aim index root n post found =
    if found == 0
    then protected aim index root n found 0 post
    else goes post [] (Protect aim index root n (ByHazard (PublishLink found)))

-- 2. Store the link into the index word.
abbrev pub after_publish_link : Aim → ℕ → Root → ℕ → ℕ → Post → Turn
after_publish_link aim index root n link post =
    goes post (publishes_index true post index link) (Protect aim index root n (ByHazard (CheckLink link)))

-- 3. Load the link again: it ends where that is the link that was published, or null; else the new link is to be published.
abbrev pub after_check_link : Aim → ℕ → Root → ℕ → ℕ → Post → ℕ → Turn
after_check_link aim index root n link post found =
    if found == link || found == 0
    then protected aim index root n found 0 post
    else goes post [] (Protect aim index root n (ByHazard (PublishLink found)))
