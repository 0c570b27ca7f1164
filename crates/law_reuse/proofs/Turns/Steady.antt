-- No step of a call changes the count of its steps besides counting itself.
use Rattle.std.proofs.Common.{ℕ, ◌≡◌, Bool, true, false, List, refl, ◌∙◌}
use Rattle.std.specs.Prelude.{◌==◌, ◌||◌, if◌then◌else◌, Option, Some, None}
use Rattle.inv_all.specs.model.words.declared.config.SchemeKind.{SchemeKind}
use Rattle.inv_all.specs.model.words.declared.config.SchemeKind.TheVariants.{He, Hp, Ibr, Wfe}
use Rattle.inv_all.specs.model.defs.declared.event.Event.{Event}
use Rattle.inv_all.specs.model.defs.declared.event.Root.{Root}
use Rattle.inv_all.specs.model.defs.declared.event.Root.TheVariants as roots
use Rattle.inv_all.specs.model.declared.post.Post.{Post}
use Rattle.inv_all.specs.model.Posts.{stands, with_tag}
use Rattle.inv_all.specs.model.Phases.{Aim, Alone, Follows, Walk, Base, Turn}
use Rattle.inv_all.specs.model.Phases.BeginAt.{LoadLower}
use Rattle.inv_all.specs.model.Phases.ProtectAt.{CheckClock, CheckOwnClock, AnswerOwn, TakeAnswer, WithdrawHelper, CheckUpper, ByHazard}
use Rattle.inv_all.specs.model.Phases.HazardAt.{FirstLink, PublishLink, CheckLink}
use Rattle.inv_all.specs.model.Phases.AllocateAt.{ClaimSlot}
use Rattle.inv_all.specs.model.Phases.RetireAt.{LoadLife}
use Rattle.inv_all.specs.model.Phases.MoveAt.{LoadEra, CheckEra, AnswerAsked, LoadReserved, HandOver, ExchangeClock}
use Rattle.inv_all.specs.model.Phases.Base.{Begin, Protect, Reload, Allocate, Write, Retire, Move}
use Rattle.inv_all.specs.model.Protect.{held_post, concluded}
use Rattle.inv_all.specs.model.Allocate.{walking, walk_past, is_claimed}
use Rattle.inv_all.specs.model.WriteRow.{last_written}
use Rattle.inv_all.specs.model.MoveClock.{after_hand_over}
use Rattle.inv_all.specs.model.Machine.{after}
use Rattle.inv_all.specs.model.Desks.{Desk}
use Rattle.inv_all.specs.model.Rounds.{scheme_of, clear_post}
use Rattle.inv_all.specs.model.Steps as steps
use Rattle.inv_all.specs.model.Calls.{KeepAt, Loosens, LoadHeld, StoreHeld, Looks, Misses, HideSpan, MarkLeft, TakeList, MarkTaken, Work, Keeping, Phase, Idle, Runs, Scans, Works}
use Rattle.inv_all.specs.model.words.Schemes.{has_one_interval}
use Rattle.inv_all.proofs.history.Passes.{Closed, First, copied_post, keep_post, work_post, step_goes}

along : (a b c : ℕ) → b ≡ a → c ≡ b → c ≡ a
along a b c h k = k ∙ h

-- a choice between two turns
same_if : (b : Bool) (post : Post) (t u : Turn) → t.post.steps ≡ post.steps → u.post.steps ≡ post.steps → (if b then t else u).post.steps ≡ post.steps
same_if true post t u h k = h
same_if false post t u h k = k

same_post_if : (b : Bool) (post p q : Post) → p.steps ≡ post.steps → q.steps ≡ post.steps → (if b then p else q).steps ≡ post.steps
same_post_if true post p q h k = h
same_post_if false post p q h k = k

pub held_same : (post : Post) (index : ℕ) (root : Root) (link : ℕ) → (held_post post index root link).steps ≡ post.steps
held_same post index (roots.Next parent) link = refl
held_same post index (roots.Bucket bucket) link = same_post_if (link == 0) post _ _ refl (refl)
held_same post index roots.Head link = same_post_if (link == 0) post _ _ refl (refl)
held_same post index roots.Tail link = same_post_if (link == 0) post _ _ refl (refl)

concluded_same : (aim : Aim) (index : ℕ) (root : Root) (n link era : ℕ) (post : Post) (told : List Event) → (concluded aim index root n link era post told).post.steps ≡ post.steps
concluded_same Alone index root n link era post told = refl
concluded_same Follows index root n link era post told = same_if (link == 0) post _ _ refl refl

protected_same : (aim : Aim) (index : ℕ) (root : Root) (n link era : ℕ) (post : Post) (told : List Event) → (concluded aim index root n link era (held_post post index root link) told).post.steps ≡ post.steps
protected_same aim index root n link era post told =
    along _ _ _ (held_same post index root link) (concluded_same aim index root n link era (held_post post index root link) told)

walking_same : (birth : ℕ) (post : Post) (o : Option Walk) → (walking birth post o).post.steps ≡ post.steps
walking_same birth post None = refl
walking_same birth post (Some walk) = refl

hand_same : (era seat tag index old : ℕ) (post : Post) (b : Bool) → (after_hand_over era seat tag index old post b).post.steps ≡ post.steps
hand_same era seat tag index old post true = refl
hand_same era seat tag index old post false = refl

-- a machine's step
pub after_steps : (base : Base) (post : Post) (found : ℕ) → (after base post found).post.steps ≡ post.steps
after_steps (Begin LoadLower) post found = refl
after_steps (Protect aim index root steps (CheckClock era tries link)) post found =
    same_if (found == era) post _ _ (protected_same aim index root _ link era post _) refl
after_steps (Protect aim index root steps (CheckOwnClock first era last link)) post found =
    same_if (found == era) post _ _ refl refl
after_steps (Protect aim index root steps (AnswerOwn first era link)) post found = same_if _ post _ _ refl refl
after_steps (Protect aim index root steps (TakeAnswer link era)) post found =
    along _ _ _ (refl) (held_same (with_tag post index _) index root link)
after_steps (Protect aim index root steps (WithdrawHelper link era)) post found = concluded_same aim index root _ link era post _
after_steps (Protect aim index root steps (CheckUpper link)) post found =
    same_if _ post _ _ (protected_same aim index root _ link found post _) refl
after_steps (Protect aim index root steps (ByHazard FirstLink)) post found = same_if (found == 0) post _ _ (protected_same aim index root _ found 0 post _) refl
after_steps (Protect aim index root steps (ByHazard (PublishLink link))) post found = refl
after_steps (Protect aim index root steps (ByHazard (CheckLink link))) post found =
    same_if (found == link || found == 0) post _ _ (protected_same aim index root _ found 0 post _) refl
after_steps (Reload parent index slot era steps) post found = same_if _ post _ _ (refl) refl
after_steps (Allocate (ClaimSlot birth walk)) post found =
    same_if (is_claimed found walk.slot) post _ _ (walking_same birth post (walk_past post.layout.config.slots walk found)) (refl)
after_steps (Write slot row place) post found = same_if (place == last_written row) post _ _ refl refl
after_steps (Retire (LoadLife slot)) post found = refl
after_steps (Move (LoadEra helps)) post found = same_if _ post _ _ refl refl
after_steps (Move (CheckEra era seat tag index root link)) post found = same_if _ post _ _ refl refl
after_steps (Move (AnswerAsked era seat tag index root link)) post found = same_if _ post _ _ refl refl
after_steps (Move (LoadReserved era seat tag index root link)) post found = same_if _ post _ _ refl refl
after_steps (Move (HandOver era seat tag index root link old)) post found = hand_same era seat tag index old post _
after_steps (Move (ExchangeClock era)) post found = same_if _ post _ _ refl refl
after_steps base post found = refl

cleared_steps : (scheme : SchemeKind) (post : Post) (index : ℕ) → (clear_post scheme post index).steps ≡ post.steps
cleared_steps He post index = refl
cleared_steps Ibr post index = refl
cleared_steps Wfe post index = refl
cleared_steps Hp post index = refl

-- a call on what is kept
copied_steps : (index : ℕ) (post : Post) (o : Option ℕ) → (copied_post index post o).steps ≡ post.steps
copied_steps index post None = refl
copied_steps index post (Some slot) = refl

keep_steps : (at : KeepAt) (post : Post) → (keep_post at post).steps ≡ post.steps
keep_steps (Loosens let_go) post = refl
keep_steps (LoadHeld from index) post = same_post_if (has_one_interval (scheme_of post)) post _ _ (copied_steps index post (stands post from)) refl
keep_steps (StoreHeld from index era) post = copied_steps index post (stands post from)
keep_steps (Looks index key at) post = refl
keep_steps (Misses index) post = refl
keep_steps HideSpan post = refl
keep_steps MarkLeft post = refl
keep_steps (TakeList place) post = refl
keep_steps (MarkTaken place count) post = refl

work_steps : (work : Work) (post : Post) → (work_post work post).steps ≡ post.steps
work_steps (Keeping at) post = keep_steps at post
work_steps work post = refl

abbrev Count : ℕ → Post → List Event → Type 0
Count m post told = post.steps ≡ m

count_closed : (m : ℕ) → Closed (Count m)
count_closed m = record { calm = λ post told more q h. h; clears = λ post told index h. cleared_steps (scheme_of post) post index ∙ h }

first_count : (phase : Phase) (post : Post) (found : ℕ) → First (Count post.steps) phase post found
first_count Idle post found = refl
first_count (Runs why base) post found = after_steps base post found
first_count (Scans later at) post found = refl
first_count (Works work) post found = work_steps work post

pub turn_steps : (phase : Phase) (post : Post) (desk : Desk) (found : ℕ) → (steps.phase_turn phase post desk found).post.steps ≡ post.steps
turn_steps phase post desk found = step_goes (Count post.steps) (count_closed post.steps) phase post desk found (first_count phase post found)
