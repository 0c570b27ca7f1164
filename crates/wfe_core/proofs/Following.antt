-- A step of a follow is a step of its protection, and what follows.
use Rattle.std.proofs.Common.{ℕ, ◌≡◌, Bool, true, false, List, [], refl}
use Rattle.std.specs.Prelude.{◌==◌, ◌||◌, ◌-◌, if◌then◌else◌}
use Rattle.wfe_defs.specs.declared.event.Event.{Event}
use Rattle.wfe_defs.specs.declared.event.Root.{Root}
use Rattle.wfe_core.specs.declared.ends.ProtectEnd.TheVariants as protect_ends
use Rattle.wfe_core.specs.declared.ends.FollowEnd.TheVariants as follow_ends
use Rattle.wfe_core.specs.declared.post.Post.{Post}
use Rattle.wfe_core.specs.Follow.{follow_turn}
use Rattle.wfe_core.specs.Links.{parent_of}
use Rattle.wfe_core.specs.Machine.{protect_turn}
use Rattle.wfe_core.specs.Phases.{Alone, Follows, ProtectAt, Turn, goes, ends}
use Rattle.wfe_core.specs.Phases.Base.{Protect, Reload}
use Rattle.wfe_core.specs.Phases.Ending.{Protected, Followed}
use Rattle.wfe_core.specs.Phases.ProtectAt.{LoadClock, PublishEra, LoadLink, CheckClock, PublishRequest, LoadOwnClock, PublishHelper, LoadOwnLink, CheckOwnClock, AnswerOwn, LoadAnswer, TakeAnswer, WithdrawRequest, WithdrawHelper, LoadWithin, CheckUpper, RaiseUpper, ByHazard}
use Rattle.wfe_core.specs.Phases.HazardAt.{FirstLink, PublishLink, CheckLink}
use Rattle.wfe_core.specs.Posts.{upper, reserves_helper}
use Rattle.wfe_core.specs.Protect.{concluded, held_post, told_held}
use Rattle.wfe_core.specs.SlowPath.{own_request}

-- the conclusion, by whether the link was null
concluded_by : (b : Bool) (index : ℕ) (root : Root) (n link era : ℕ) (post : Post) (told : List Event) → (if b then ends post told (Followed follow_ends.NoNext) else goes post told (Reload (parent_of root) index (link - 1) era n)) ≡ follow_turn index root n (ends post told (Protected (if b then protect_ends.Null else protect_ends.Held (link - 1) era)))
concluded_by true index root n link era post told = refl
concluded_by false index root n link era post told = refl

concluded_follows : (index : ℕ) (root : Root) (n link era : ℕ) (post : Post) (told : List Event) → concluded Follows index root n link era post told ≡ follow_turn index root n (concluded Alone index root n link era post told)
concluded_follows index root n link era post told = concluded_by (link == 0) index root n link era post told

-- a choice between two turns
if_follows : (b : Bool) (index : ℕ) (root : Root) (n : ℕ) (s t u v : Turn) → s ≡ follow_turn index root n u → t ≡ follow_turn index root n v → (if b then s else t) ≡ follow_turn index root n (if b then u else v)
if_follows true index root n s t u v h k = h
if_follows false index root n s t u v h k = k

pub protect_follows : (index : ℕ) (root : Root) (n : ℕ) (at : ProtectAt) (post : Post) (found : ℕ) → protect_turn Follows index root n at post found ≡ follow_turn index root n (protect_turn Alone index root n at post found)
protect_follows index root n (LoadClock tries) post found = refl
protect_follows index root n (PublishEra era tries) post found = refl
protect_follows index root n (LoadLink era tries) post found = refl
protect_follows index root n (CheckClock era tries link) post found =
    if_follows (found == era) index root n _ _ _ _ (concluded_follows index root n link era (held_post post index root link) (told_held index root link n)) refl
protect_follows index root n PublishRequest post found = refl
protect_follows index root n LoadOwnClock post found = refl
protect_follows index root n (PublishHelper first era last) post found = refl
protect_follows index root n (LoadOwnLink first era last) post found = refl
protect_follows index root n (CheckOwnClock first era last link) post found = if_follows (found == era) index root n _ _ _ _ refl refl
protect_follows index root n (AnswerOwn first era link) post found = if_follows (found == own_request post index root) index root n _ _ _ _ refl refl
protect_follows index root n (LoadAnswer first) post found = refl
protect_follows index root n (TakeAnswer link era) post found = refl
protect_follows index root n (WithdrawRequest link era) post found = refl
protect_follows index root n (WithdrawHelper link era) post found = concluded_follows index root n link era post (reserves_helper post 0)
protect_follows index root n LoadWithin post found = refl
protect_follows index root n (CheckUpper link) post found =
    if_follows (found == upper post.span) index root n _ _ (concluded Alone index root n link found (held_post post index root link) (told_held index root link n)) (goes post [] (Protect Alone index root n (RaiseUpper found))) (concluded_follows index root n link found (held_post post index root link) (told_held index root link n)) refl
protect_follows index root n (RaiseUpper era) post found = refl
protect_follows index root n (ByHazard FirstLink) post found =
    if_follows (found == 0) index root n _ _ (concluded Alone index root n found 0 (held_post post index root found) (told_held index root found n)) (goes post [] (Protect Alone index root n (ByHazard (PublishLink found)))) (concluded_follows index root n found 0 (held_post post index root found) (told_held index root found n)) refl
protect_follows index root n (ByHazard (PublishLink link)) post found = refl
protect_follows index root n (ByHazard (CheckLink link)) post found =
    if_follows (found == link || found == 0) index root n _ _ (concluded Alone index root n found 0 (held_post post index root found) (told_held index root found n)) (goes post [] (Protect Alone index root n (ByHazard (PublishLink found)))) (concluded_follows index root n found 0 (held_post post index root found) (told_held index root found n)) refl
