-- No step changes a seat's number or its table.
use Rattle.std.proofs.Common.{ℕ, Bool, true, false, List, refl, ◌∙◌}
use Rattle.std.specs.Prelude.{◌==◌, ◌||◌, if◌then◌else◌, Option, Some, None}
use Rattle.wfe_defs.specs.declared.event.Event.{Event}
use Rattle.wfe_defs.specs.declared.event.Root.{Root}
use Rattle.wfe_defs.specs.declared.event.Root.TheVariants as roots
use Rattle.wfe_core.specs.declared.post.Post.{Post}
use Rattle.wfe_core.specs.Frames.{SamePlace}
use Rattle.wfe_core.specs.Posts.{with_tag}
use Rattle.wfe_core.specs.Phases.{Aim, Alone, Follows, Walk, Base, Turn}
use Rattle.wfe_core.specs.Phases.BeginAt.{LoadLower, PublishSpan}
use Rattle.wfe_core.specs.Phases.ProtectAt.{LoadClock, PublishEra, LoadLink, CheckClock, PublishRequest, LoadOwnClock, PublishHelper, LoadOwnLink, CheckOwnClock, AnswerOwn, LoadAnswer, TakeAnswer, WithdrawRequest, WithdrawHelper, LoadWithin, CheckUpper, RaiseUpper, ByHazard}
use Rattle.wfe_core.specs.Phases.HazardAt.{FirstLink, PublishLink, CheckLink}
use Rattle.wfe_core.specs.Phases.AllocateAt.{LoadBirth, ClaimSlot, StoreLife}
use Rattle.wfe_core.specs.Phases.RetireAt.{LoadLife, LoadRetire, StoreRetired}
use Rattle.wfe_core.specs.Phases.MoveAt.{LoadEra, LoadRequest, ShowEra, LoadAsked, CheckEra, AnswerAsked, LoadReserved, HandOver, HideEra, HideLate, ExchangeClock}
use Rattle.wfe_core.specs.Phases.Base.{Begin, Protect, Reload, Clear, Finish, Release, Allocate, Write, GiveUp, Retire, Move}
use Rattle.wfe_core.specs.Protect.{held_post, concluded}
use Rattle.wfe_core.specs.Allocate.{walking, walk_past, is_claimed}
use Rattle.wfe_core.specs.WriteRow.{last_written}
use Rattle.wfe_core.specs.MoveClock.{after_hand_over}
use Rattle.wfe_core.specs.Machine.{after}

pub same : (post : Post) → SamePlace post post
same post = record { layout = refl; seat = refl }

pub same_along : (a b c : Post) → SamePlace a b → SamePlace b c → SamePlace a c
same_along a b c h k = record { layout = k.layout ∙ h.layout; seat = k.seat ∙ h.seat }

-- a choice between two turns
same_if : (b : Bool) (post : Post) (t u : Turn) → SamePlace post t.post → SamePlace post u.post → SamePlace post (if b then t else u).post
same_if true post t u h k = h
same_if false post t u h k = k

same_post_if : (b : Bool) (post p q : Post) → SamePlace post p → SamePlace post q → SamePlace post (if b then p else q)
same_post_if true post p q h k = h
same_post_if false post p q h k = k

held_same : (post : Post) (index : ℕ) (root : Root) (link : ℕ) → SamePlace post (held_post post index root link)
held_same post index (roots.Next parent) link = same post
held_same post index (roots.Bucket bucket) link = same_post_if (link == 0) post _ _ (same post) (record { layout = refl; seat = refl })
held_same post index roots.Head link = same_post_if (link == 0) post _ _ (same post) (record { layout = refl; seat = refl })
held_same post index roots.Tail link = same_post_if (link == 0) post _ _ (same post) (record { layout = refl; seat = refl })

concluded_same : (aim : Aim) (index : ℕ) (root : Root) (n link era : ℕ) (post : Post) (told : List Event) → SamePlace post (concluded aim index root n link era post told).post
concluded_same Alone index root n link era post told = same post
concluded_same Follows index root n link era post told = same_if (link == 0) post _ _ (same post) (same post)

protected_same : (aim : Aim) (index : ℕ) (root : Root) (n link era : ℕ) (post : Post) (told : List Event) → SamePlace post (concluded aim index root n link era (held_post post index root link) told).post
protected_same aim index root n link era post told =
    same_along post (held_post post index root link) _ (held_same post index root link) (concluded_same aim index root n link era (held_post post index root link) told)

walking_same : (birth : ℕ) (post : Post) (o : Option Walk) → SamePlace post (walking birth post o).post
walking_same birth post None = same post
walking_same birth post (Some walk) = same post

hand_same : (era seat tag index old : ℕ) (post : Post) (b : Bool) → SamePlace post (after_hand_over era seat tag index old post b).post
hand_same era seat tag index old post true = same post
hand_same era seat tag index old post false = same post

-- a machine's step
pub after_same : (base : Base) (post : Post) (found : ℕ) → SamePlace post (after base post found).post
after_same (Begin LoadLower) post found = same post
after_same (Begin (PublishSpan era)) post found = record { layout = refl; seat = refl }
after_same (Protect aim index root steps (LoadClock tries)) post found = same post
after_same (Protect aim index root steps (PublishEra era tries)) post found = same post
after_same (Protect aim index root steps (LoadLink era tries)) post found = same post
after_same (Protect aim index root steps (CheckClock era tries link)) post found =
    same_if (found == era) post _ _ (protected_same aim index root _ link era post _) (same post)
after_same (Protect aim index root steps PublishRequest) post found = same post
after_same (Protect aim index root steps LoadOwnClock) post found = same post
after_same (Protect aim index root steps (PublishHelper first era last)) post found = same post
after_same (Protect aim index root steps (LoadOwnLink first era last)) post found = same post
after_same (Protect aim index root steps (CheckOwnClock first era last link)) post found =
    same_if (found == era) post _ _ (same post) (same post)
after_same (Protect aim index root steps (AnswerOwn first era link)) post found = same_if _ post _ _ (same post) (same post)
after_same (Protect aim index root steps (LoadAnswer first)) post found = same post
after_same (Protect aim index root steps (TakeAnswer link era)) post found =
    same_along post (with_tag post index _) _ (record { layout = refl; seat = refl }) (held_same (with_tag post index _) index root link)
after_same (Protect aim index root steps (WithdrawRequest link era)) post found = same post
after_same (Protect aim index root steps (WithdrawHelper link era)) post found = concluded_same aim index root _ link era post _
after_same (Protect aim index root steps LoadWithin) post found = same post
after_same (Protect aim index root steps (CheckUpper link)) post found =
    same_if _ post _ _ (protected_same aim index root _ link found post _) (same post)
after_same (Protect aim index root steps (RaiseUpper era)) post found = record { layout = refl; seat = refl }
after_same (Protect aim index root steps (ByHazard FirstLink)) post found =
    same_if (found == 0) post _ _ (protected_same aim index root _ found 0 post _) (same post)
after_same (Protect aim index root steps (ByHazard (PublishLink link))) post found = same post
after_same (Protect aim index root steps (ByHazard (CheckLink link))) post found =
    same_if (found == link || found == 0) post _ _ (protected_same aim index root _ found 0 post _) (same post)
after_same (Reload parent index slot era steps) post found = same_if _ post _ _ (record { layout = refl; seat = refl }) (same post)
after_same (Clear rows index) post found = record { layout = refl; seat = refl }
after_same Finish post found = record { layout = refl; seat = refl }
after_same (Release index) post found = record { layout = refl; seat = refl }
after_same (Allocate LoadBirth) post found = same post
after_same (Allocate (ClaimSlot birth walk)) post found =
    same_if (is_claimed found walk.slot) post _ _ (walking_same birth post (walk_past post.layout.config.slots walk found)) (record { layout = refl; seat = refl })
after_same (Allocate (StoreLife birth slot)) post found = same post
after_same (Write slot row place) post found = same_if (place == last_written row) post _ _ (same post) (same post)
after_same (GiveUp slot) post found = same post
after_same (Retire (LoadLife slot)) post found = same post
after_same (Retire (LoadRetire slot birth)) post found = same post
after_same (Retire (StoreRetired slot birth retire)) post found = record { layout = refl; seat = refl }
after_same (Move (LoadEra helps)) post found = same_if _ post _ _ (same post) (same post)
after_same (Move (LoadRequest era seat shows)) post found = same post
after_same (Move (ShowEra era seat tag index root)) post found = same post
after_same (Move (LoadAsked era seat tag index root)) post found = same post
after_same (Move (CheckEra era seat tag index root link)) post found = same_if _ post _ _ (same post) (same post)
after_same (Move (AnswerAsked era seat tag index root link)) post found = same_if _ post _ _ (same post) (same post)
after_same (Move (LoadReserved era seat tag index root link)) post found = same_if _ post _ _ (same post) (same post)
after_same (Move (HandOver era seat tag index root link old)) post found = hand_same era seat tag index old post _
after_same (Move (HideEra era)) post found = same post
after_same (Move (HideLate seen)) post found = same post
after_same (Move (ExchangeClock era)) post found = same_if _ post _ _ (same post) (same post)
