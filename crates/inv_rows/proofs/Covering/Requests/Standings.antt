-- Inside a machine the parent of a followed link stands on, and what was protected stands.
use Rattle.std.proofs.Common.{ℕ, ◌≡◌, ◌<◌, ◌+◌, Bool, true, false, [], ◌∷◌, length, arith, refl, sym, ap, subst, ◌∙◌}
use Rattle.std.proofs.lemmas.Bool.Decides.{nat_tests}
use Rattle.std.proofs.lemmas.List.{get_or-set_other}
use Rattle.std.specs.Prelude.{◌||◌, ◌==◌, ◌-◌, nat_le, if◌then◌else◌, Option, Some, None}
use Rattle.inv_rows.specs.words.Packed.{read_request}
use Rattle.inv_rows.specs.words.declared.layout.Layout.{Layout}
use Rattle.inv_rows.specs.words.declared.packed.Request.{Request}
use Rattle.inv_rows.specs.words.declared.packed.Request.TheVariants as requests
use Rattle.inv_rows.specs.defs.declared.event.Event.TheVariants as events
use Rattle.inv_rows.specs.defs.declared.event.Root.{Root}
use Rattle.inv_rows.specs.defs.declared.event.Root.TheVariants as root_names
use Rattle.inv_rows.specs.model.declared.ends.FollowEnd.TheVariants as follow_ends
use Rattle.inv_rows.specs.model.declared.ends.ProtectEnd.{ProtectEnd}
use Rattle.inv_rows.specs.model.declared.ends.ProtectEnd.TheVariants as protect_ends
use Rattle.inv_rows.specs.model.declared.post.Post.{Post}
use Rattle.inv_rows.specs.model.Memory.{bump}
use Rattle.inv_rows.specs.model.Posts.{stands, with_row, with_tag, tag_of, upper, reserves_index, reserves_helper}
use Rattle.inv_rows.specs.model.Protect.{protect_end, held_post, told_held, protected, trying, failed_once}
use Rattle.inv_rows.specs.model.SlowPath.{answer_in, lost_turn, own_request}
use Rattle.inv_rows.specs.model.Phases.{HazardAt, Aim, Alone, Tries, Endless, Failed, ProtectAt, Base, Ending, Outcome, Goes, Ends, Turn, goes, ends}
use Rattle.inv_rows.specs.model.Phases.BeginAt.{LoadLower, PublishSpan}
use Rattle.inv_rows.specs.model.Phases.ProtectAt.{LoadClock, PublishEra, LoadLink, CheckClock, PublishRequest, LoadOwnClock, PublishHelper, LoadOwnLink, CheckOwnClock, AnswerOwn, LoadAnswer, TakeAnswer, WithdrawRequest, WithdrawHelper, LoadWithin, CheckUpper, RaiseUpper, ByHazard}
use Rattle.inv_rows.specs.model.Phases.HazardAt.{FirstLink, PublishLink, CheckLink}
use Rattle.inv_rows.specs.model.Phases.Base.{Begin, Protect, Reload, Clear, Finish, Release, Allocate, Write, GiveUp, Retire, Move}
use Rattle.inv_rows.specs.model.Phases.Ending.{Followed}
use Rattle.inv_rows.specs.model.Machine.{hazard_turn, protect_turn, after}
use Rattle.inv_rows.specs.model.Rounds.{index_of}
use Rattle.inv_rows.specs.model.Calls.{Task, Gets, Changes, Holds, Enqueues, Dequeues, Why, Opens, FollowsHead, Fills, ClearsNext, Clears, Finishes, GivesUp, Retires, Tidies, Advances, Releases}
use Rattle.inv_rows.specs.Shapes.Seats.{PostFits, Run, task_root}
use Rattle.inv_rows.specs.Covering.Requests.Parents.{LinkStands, protect_stands, base_stands, why_stands, protect_ended, why_ended, OutcomeStands, MachineStands}
use Rattle.inv_rows.proofs.model.Standing.{stands-with_row_same}
use Rattle.inv_rows.proofs.model.Facts.{if_by}
use Rattle.inv_rows.proofs.Shapes.Frame.{concluded_post}

row_other : (post : Post) (index slot j : ℕ) → (j == index) ≡ false → stands (with_row post index slot) j ≡ stands post j
row_other post index slot j h = get_or-set_other post.standing index j (Some slot) None (λ e. grind (arith, nat_tests))

-- a root that is no next link
abbrev pub is_root : Root → Bool
is_root (root_names.Bucket bucket) = true
is_root root_names.Head = true
is_root root_names.Tail = true
is_root (root_names.Next parent) = false

task_is_root : (buckets : ℕ) (task : Task) → is_root (task_root buckets task) ≡ true
task_is_root buckets (Gets key) = refl
task_is_root buckets (Changes kept) = refl
task_is_root buckets (Holds key) = refl
task_is_root buckets (Enqueues kept) = refl
task_is_root buckets Dequeues = refl

held_row : (post : Post) (index link : ℕ) → index < length post.standing → LinkStands link index (if link == 0 then post else with_row post index (link - 1))
held_row post index link b e = rw e (stands-with_row_same post index (link - 1) b)

held_stands : (post : Post) (index : ℕ) (root : Root) (link : ℕ) → index < length post.standing → is_root root ≡ true → LinkStands link index (held_post post index root link)
held_stands post index (root_names.Bucket bucket) link b r = held_row post index link b
held_stands post index root_names.Head link b r = held_row post index link b
held_stands post index root_names.Tail link b r = held_row post index link b
held_stands post index (root_names.Next parent) link b r = absurd (cc)

-- a protection that ends alone
end_stands : (link era index : ℕ) (post : Post) → LinkStands link index post → protect_ended (protect_end link era) index post
end_stands link era index post h =
    if_by (link == 0) protect_ends.Null (protect_ends.Held (link - 1) era) (λ (e : ProtectEnd). protect_ended e index post) (λ e. tt) (λ e. h e)

answer_free : (r : Option Request) (index : ℕ) (post : Post) → protect_stands (answer_in r) index post
answer_free (Some (requests.Answered link era)) index post = tt
answer_free (Some (requests.Pending tag j word)) index post = tt
answer_free (Some requests.Idle) index post = tt
answer_free None index post = tt

lost_free : (first found : ℕ) (last : Bool) (index : ℕ) (post : Post) → protect_stands (lost_turn first last found) index post
lost_free first found true index post = tt
lost_free first found false index post = tt

publish_free : (task : Task) (aim : Aim) (index : ℕ) (root : Root) (n era : ℕ) (tries : Tries) (post : Post) → MachineStands (Opens task) (goes post (reserves_index post index era) (Protect aim index root n (trying post.layout.config era tries)))
publish_free task aim index root n era Endless post = tt
publish_free task aim index root n era (Failed count) post =
    if_by (nat_le post.layout.config.tries count) PublishRequest (LoadLink era (Failed count)) (λ (at : ProtectAt). MachineStands (Opens task) (goes post (reserves_index post index era) (Protect aim index root n at))) (λ e. tt) (λ e. tt)

again_stands : (task : Task) (index : ℕ) (root : Root) (n link : ℕ) (over : Bool) (post : Post) → index ≡ index_of task → is_root root ≡ true → index < length post.standing
    → MachineStands (Opens task) (if over then protected Alone index root n link 0 post else goes post [] (Protect Alone index root n (ByHazard (PublishLink link))))
again_stands task index root n link true post e r b = end_stands link 0 (index_of task) (held_post post index root link) (subst (λ (j : ℕ). LinkStands link j (held_post post index root link)) e (held_stands post index root link b r))
again_stands task index root n link false post e r b = tt

hazard_stands : (task : Task) (index : ℕ) (root : Root) (n : ℕ) (at : HazardAt) (post : Post) (found : ℕ) → index ≡ index_of task → is_root root ≡ true → index < length post.standing → MachineStands (Opens task) (hazard_turn Alone index root n at post found)
hazard_stands task index root n FirstLink post found e r b = again_stands task index root n found (found == 0) post e r b
hazard_stands task index root n (PublishLink link) post found e r b = tt
hazard_stands task index root n (CheckLink link) post found e r b = again_stands task index root n found (found == link || found == 0) post e r b

-- the protection of a task's root
open_stands : (task : Task) (index : ℕ) (root : Root) (n : ℕ) (at : ProtectAt) (post : Post) (found : ℕ) → index ≡ index_of task → is_root root ≡ true → index < length post.standing → protect_stands at index post
    → MachineStands (Opens task) (protect_turn Alone index root n at post found)
open_stands task index root n (LoadClock tries) post found e r b h = tt
open_stands task index root n (PublishEra era tries) post found e r b h = publish_free task Alone index root n era tries post
open_stands task index root n (LoadLink era tries) post found e r b h = tt
open_stands task index root n (CheckClock era tries link) post found e r b h =
    if_by (found == era) (protected Alone index root n link era post) (goes post [] (Protect Alone index root n (PublishEra found (failed_once tries)))) (MachineStands (Opens task))
    (λ g. end_stands link era (index_of task) (held_post post index root link) (subst (λ (j : ℕ). LinkStands link j (held_post post index root link)) e (held_stands post index root link b r)))
    (λ g. tt)
open_stands task index root n PublishRequest post found e r b h = tt
open_stands task index root n LoadOwnClock post found e r b h = tt
open_stands task index root n (PublishHelper first era last) post found e r b h = tt
open_stands task index root n (LoadOwnLink first era last) post found e r b h = tt
open_stands task index root n (CheckOwnClock first era last link) post found e r b h =
    if_by (found == era) (goes post [] (Protect Alone index root n (AnswerOwn first era link))) (goes post [] (Protect Alone index root n (lost_turn first last found))) (MachineStands (Opens task))
    (λ g. tt) (λ g. lost_free first found last index post)
open_stands task index root n (AnswerOwn first era link) post found e r b h =
    if_by (found == own_request post index root) (goes post [] (Protect Alone index root n (TakeAnswer link era))) (goes post [] (Protect Alone index root n (answer_in (read_request found)))) (MachineStands (Opens task))
    (λ g. tt) (λ g. answer_free (read_request found) index post)
open_stands task index root n (LoadAnswer first) post found e r b h = answer_free (read_request found) index post
open_stands task index root n (TakeAnswer link era) post found e r b h = held_stands (with_tag post index (tag_of post index + 1)) index root link b r
open_stands task index root n (WithdrawRequest link era) post found e r b h = h
open_stands task index root n (WithdrawHelper link era) post found e r b h = end_stands link era (index_of task) post (subst (λ (j : ℕ). LinkStands link j post) e h)
open_stands task index root n LoadWithin post found e r b h = tt
open_stands task index root n (CheckUpper link) post found e r b h =
    if_by (found == upper post.span) (protected Alone index root n link found post) (goes post [] (Protect Alone index root n (RaiseUpper found))) (MachineStands (Opens task))
    (λ g. end_stands link found (index_of task) (held_post post index root link) (subst (λ (j : ℕ). LinkStands link j (held_post post index root link)) e (held_stands post index root link b r)))
    (λ g. tt)
open_stands task index root n (RaiseUpper era) post found e r b h = tt
open_stands task index root n (ByHazard at) post found e r b h = hazard_stands task index root n at post found e r b

again_keeps : (aim : Aim) (index parent n link : ℕ) (over : Bool) (post : Post)
    → stands (if over then protected aim index (root_names.Next parent) n link 0 post else goes post [] (Protect aim index (root_names.Next parent) n (ByHazard (PublishLink link)))).post 0 ≡ stands post 0
again_keeps aim index parent n link true post = ap (λ (p : Post). stands p 0) (concluded_post aim index (root_names.Next parent) n link 0 post (told_held index (root_names.Next parent) link n))
again_keeps aim index parent n link false post = refl

hazard_keeps : (aim : Aim) (index parent n : ℕ) (at : HazardAt) (post : Post) (found : ℕ) → stands (hazard_turn aim index (root_names.Next parent) n at post found).post 0 ≡ stands post 0
hazard_keeps aim index parent n FirstLink post found = again_keeps aim index parent n found (found == 0) post
hazard_keeps aim index parent n (PublishLink link) post found = refl
hazard_keeps aim index parent n (CheckLink link) post found = again_keeps aim index parent n found (found == link || found == 0) post

-- the follow leaves what stands at index 0
follow_keeps : (aim : Aim) (index parent n : ℕ) (at : ProtectAt) (post : Post) (found : ℕ) → stands (protect_turn aim index (root_names.Next parent) n at post found).post 0 ≡ stands post 0
follow_keeps aim index parent n (LoadClock tries) post found = refl
follow_keeps aim index parent n (PublishEra era tries) post found = refl
follow_keeps aim index parent n (LoadLink era tries) post found = refl
follow_keeps aim index parent n (CheckClock era tries link) post found =
    if_by (found == era) (protected aim index (root_names.Next parent) n link era post) (goes post [] (Protect aim index (root_names.Next parent) n (PublishEra found (failed_once tries)))) (λ (t : Turn). stands t.post 0 ≡ stands post 0)
    (λ e. ap (λ (p : Post). stands p 0) (concluded_post aim index (root_names.Next parent) n link era post (told_held index (root_names.Next parent) link n))) (λ e. refl)
follow_keeps aim index parent n PublishRequest post found = refl
follow_keeps aim index parent n LoadOwnClock post found = refl
follow_keeps aim index parent n (PublishHelper first era last) post found = refl
follow_keeps aim index parent n (LoadOwnLink first era last) post found = refl
follow_keeps aim index parent n (CheckOwnClock first era last link) post found =
    if_by (found == era) (goes post [] (Protect aim index (root_names.Next parent) n (AnswerOwn first era link))) (goes post [] (Protect aim index (root_names.Next parent) n (lost_turn first last found))) (λ (t : Turn). stands t.post 0 ≡ stands post 0) (λ e. refl) (λ e. refl)
follow_keeps aim index parent n (AnswerOwn first era link) post found =
    if_by (found == own_request post index (root_names.Next parent)) (goes post [] (Protect aim index (root_names.Next parent) n (TakeAnswer link era))) (goes post [] (Protect aim index (root_names.Next parent) n (answer_in (read_request found)))) (λ (t : Turn). stands t.post 0 ≡ stands post 0) (λ e. refl) (λ e. refl)
follow_keeps aim index parent n (LoadAnswer first) post found = refl
follow_keeps aim index parent n (TakeAnswer link era) post found = refl
follow_keeps aim index parent n (WithdrawRequest link era) post found = refl
follow_keeps aim index parent n (WithdrawHelper link era) post found = ap (λ (p : Post). stands p 0) (concluded_post aim index (root_names.Next parent) n link era post (reserves_helper post 0))
follow_keeps aim index parent n LoadWithin post found = refl
follow_keeps aim index parent n (CheckUpper link) post found =
    if_by (found == upper post.span) (protected aim index (root_names.Next parent) n link found post) (goes post [] (Protect aim index (root_names.Next parent) n (RaiseUpper found))) (λ (t : Turn). stands t.post 0 ≡ stands post 0)
    (λ e. ap (λ (p : Post). stands p 0) (concluded_post aim index (root_names.Next parent) n link found post (told_held index (root_names.Next parent) link n))) (λ e. refl)
follow_keeps aim index parent n (RaiseUpper era) post found = refl
follow_keeps aim index parent n (ByHazard at) post found = hazard_keeps aim index parent n at post found

follow_outcome : (head tail : ℕ) (outcome : Outcome) (post : Post) → stands post 0 ≡ Some head → OutcomeStands (FollowsHead head tail) outcome post
follow_outcome head tail (Goes base) post h = h
follow_outcome head tail (Ends ending) post h = h

-- where nothing is said
free_outcome : (why : Why) → ((base : Base) (post : Post) → why_stands why base post) → ((ending : Ending) (post : Post) → why_ended why ending post) → (outcome : Outcome) (post : Post) → OutcomeStands why outcome post
free_outcome why f g (Goes base) post = f base post
free_outcome why f g (Ends ending) post = g ending post

follow_machine : (layout : Layout) (head tail : ℕ) (base : Base) (post : Post) (found : ℕ) → Run layout (FollowsHead head tail) base post → stands post 0 ≡ Some head → MachineStands (FollowsHead head tail) (after base post found)
follow_machine layout head tail (Begin at) post found r h = absurd (let x = r.suited in cc)
follow_machine layout head tail (Protect aim index root steps at) post found r h =
    follow_outcome head tail (protect_turn aim index root (bump steps) at post found).outcome (protect_turn aim index root (bump steps) at post found).post
    (subst (λ (x : Root). stands (protect_turn aim index x (bump steps) at post found).post 0 ≡ stands post 0) (sym r.shape.of) (follow_keeps aim index head (bump steps) at post found) ∙ h)
follow_machine layout head tail (Reload parent index slot era steps) post found r h =
    if_by (found == parent + 1) (ends (with_row post index slot) (events.Held index slot (bump steps) ∷ []) (Followed (follow_ends.Followed slot))) (ends post [] (Followed (follow_ends.RootMoved found))) (MachineStands (FollowsHead head tail))
    (λ e. let x : index ≡ 1 = r.shape.at in row_other post index slot 0 (rw x refl) ∙ h) (λ e. h)
follow_machine layout head tail (Clear rows index) post found r h = absurd (let x = r.suited in cc)
follow_machine layout head tail Finish post found r h = absurd (let x = r.suited in cc)
follow_machine layout head tail (Release index) post found r h = absurd (let x = r.suited in cc)
follow_machine layout head tail (Allocate at) post found r h = absurd (let x = r.suited in cc)
follow_machine layout head tail (Write slot row place) post found r h = absurd (let x = r.suited in cc)
follow_machine layout head tail (GiveUp slot) post found r h = absurd (let x = r.suited in cc)
follow_machine layout head tail (Retire at) post found r h = absurd (let x = r.suited in cc)
follow_machine layout head tail (Move at) post found r h = absurd (let x = r.suited in cc)

pub index_small : (task : Task) → index_of task < 8
index_small (Gets key) = omega arith
index_small (Changes kept) = omega arith
index_small (Holds key) = omega arith
index_small (Enqueues kept) = omega arith
index_small Dequeues = omega arith

open_machine : (layout : Layout) (k : ℕ) (task : Task) (base : Base) (post : Post) (found : ℕ) → PostFits layout k post → Run layout (Opens task) base post → base_stands base post → MachineStands (Opens task) (after base post found)
open_machine layout k task (Begin LoadLower) post found q r h = tt
open_machine layout k task (Begin (PublishSpan era)) post found q r h = tt
open_machine layout k task (Protect aim index root steps at) post found q r h =
    subst (λ (x : Aim). MachineStands (Opens task) (protect_turn x index root (bump steps) at post found)) (sym r.shape.aimed)
    (open_stands task index root (bump steps) at post found r.shape.at (ap is_root r.shape.of ∙ task_is_root layout.config.buckets task) (omega (arith, index_small task, r.shape.at, q.standing)) h)
open_machine layout k task (Reload parent index slot era steps) post found q r h = absurd (let x = r.suited in cc)
open_machine layout k task (Clear rows index) post found q r h = absurd (let x = r.suited in cc)
open_machine layout k task Finish post found q r h = absurd (let x = r.suited in cc)
open_machine layout k task (Release index) post found q r h = absurd (let x = r.suited in cc)
open_machine layout k task (Allocate at) post found q r h = absurd (let x = r.suited in cc)
open_machine layout k task (Write slot row place) post found q r h = absurd (let x = r.suited in cc)
open_machine layout k task (GiveUp slot) post found q r h = absurd (let x = r.suited in cc)
open_machine layout k task (Retire at) post found q r h = absurd (let x = r.suited in cc)
open_machine layout k task (Move at) post found q r h = absurd (let x = r.suited in cc)

-- a step inside a machine
pub machine_stands : (layout : Layout) (k : ℕ) (why : Why) (base : Base) (post : Post) (found : ℕ) → PostFits layout k post → Run layout why base post → why_stands why base post → MachineStands why (after base post found)
machine_stands layout k (Opens task) base post found q r h = open_machine layout k task base post found q r h
machine_stands layout k (FollowsHead head tail) base post found q r h = follow_machine layout head tail base post found r h
machine_stands layout k (Fills task) base post found q r h = free_outcome (Fills task) (λ b p. tt) (λ e p. tt) (after base post found).outcome (after base post found).post
machine_stands layout k (ClearsNext next) base post found q r h = free_outcome (ClearsNext next) (λ b p. tt) (λ e p. tt) (after base post found).outcome (after base post found).post
machine_stands layout k (Clears task next) base post found q r h = free_outcome (Clears task next) (λ b p. tt) (λ e p. tt) (after base post found).outcome (after base post found).post
machine_stands layout k (Finishes task next) base post found q r h = free_outcome (Finishes task next) (λ b p. tt) (λ e p. tt) (after base post found).outcome (after base post found).post
machine_stands layout k (GivesUp answer) base post found q r h = free_outcome (GivesUp answer) (λ b p. tt) (λ e p. tt) (after base post found).outcome (after base post found).post
machine_stands layout k (Retires answer) base post found q r h = free_outcome (Retires answer) (λ b p. tt) (λ e p. tt) (after base post found).outcome (after base post found).post
machine_stands layout k (Tidies later) base post found q r h = free_outcome (Tidies later) (λ b p. tt) (λ e p. tt) (after base post found).outcome (after base post found).post
machine_stands layout k Advances base post found q r h = free_outcome Advances (λ b p. tt) (λ e p. tt) (after base post found).outcome (after base post found).post
machine_stands layout k (Releases let_go) base post found q r h = free_outcome (Releases let_go) (λ b p. tt) (λ e p. tt) (after base post found).outcome (after base post found).post
